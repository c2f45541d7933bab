-- A `do` that reads: whatever its round comes to is due.
use Rattle.std.proofs.Common.{[], ◌≡◌, ℕ, ◌==◌, ◌&&◌, ◌||◌, not, Bool, true, false, List, ◌∷◌, ◌++◌, length, map}
use Rattle.std.proofs.Common.{filter, Option, Some, None, refl, sym, ap, ◌∙◌, subst, eq-eqb}
use Rattle.std.specs.Prelude.{fold}
use Rattle.std.specs.List.{AllByRecursion as Every}
use Rattle.std.proofs.lemmas.List.Elements.{filter-append}
use Rattle.qc_list.proofs.Members.{every-append, every-weaker}
use Rattle.qc_decl.specs.declared.declaration.Declaration.{Declaration}
use Rattle.qc_decl.specs.Vocabulary.{append_need_of, read_need_of}
use Rattle.qc_plan.specs.declared.standing.Verdict.{Verdict}
use Rattle.qc_plan.specs.declared.standing.Verdict.TheVariants as verdicts
use Rattle.qc_plan.specs.Vocabulary.{RoundState, asking_all, verdict, wanted}
use Rattle.qc_view.specs.declared.view.View.{View}
use Rattle.qc_commit.specs.declared.desk.Desk.{Desk}
use Rattle.qc_front.specs.declared.doing.Doing.{Doing}
use Rattle.qc_front.specs.declared.doing.Doing.TheVariants.{Idle, Reading}
use Rattle.qc_front.specs.declared.front.Front.{Front}
use Rattle.qc_front.specs.declared.transaction.Transaction.{Transaction}
use Rattle.qc_front.specs.Vocabulary.{op_of, round_for, with_op}
use Rattle.qc_front.specs.Rounds as fronts
use Rattle.qc_client.specs.declared.client.Client.{Client}
use Rattle.qc_client.specs.Vocabulary.{by_front}
use Rattle.qc_msg.specs.declared.call.Call.{Call}
use Rattle.qc_msg.specs.declared.message.Want.{Want}
use Rattle.qc_msg.specs.declared.message.Want.TheVariants.{Read}
use Rattle.qc_msg.specs.declared.reply.Half.TheVariants as halves
use Rattle.qc_msg.specs.declared.reply.Reply.TheVariants as replies
use Rattle.qc_msg.specs.declared.step.Command.TheVariants as commands
use Rattle.qc_msg.specs.Vocabulary.{calls_from, sending, with_site}
use Rattle.qc_msg.specs.Vocabulary.{first_read}
use Rattle.qc_promise.specs.Vocabulary.{Account, ClientRequest, Current, answer_of, answer_row, command_asks, doomed_if}
use Rattle.qc_promise.specs.Vocabulary.{is_append, is_next_voter, is_read, read_row, requests_for, with_absent}
use Rattle.laws_due.specs.Vocabulary.{Goes, IsOpenIn, Ties, calls_in, front_of, reads, transaction_of}
use Rattle.laws_due.proofs.DoRows.{IsNext, Runs, due_do, next_one, next_voter, run}
use Rattle.laws_due.proofs.DoAppends.{appends_go}
use Rattle.laws_due.proofs.Asks.{asking}
use Rattle.laws_due.proofs.Halves.{round_asked, round_at, round_from}
use Rattle.laws_due.proofs.Requests.{calls_half, calls_more, calls_new, every_new, request_at, requests_from}
use Rattle.laws_due.proofs.Turns.{Asked as Asking, asks_go, client_at, doomed_begun, rest_ties, rested, tells_goes}
use Rattle.qc_entry.specs.Vocabulary.{no_mark}
use Rattle.qc_promise.specs.Vocabulary.{reads_as}
use Rattle.laws_due.proofs.Views.{answer_same}
use Rattle.laws_due.proofs.ReadRequests.{IsRead, none_append, open_read, noted_met, noted_open, no_open}

-- a Read by a client that was told nothing
reads_itself : (object inv : ℕ) → reads_as object inv no_mark (first_read object inv) ≡ true
reads_itself object inv =
    ap (λ (b : Bool). b && ((inv == inv) && true)) (eq-eqb object object refl)
    ∙ ap (λ (b : Bool). b && true) (eq-eqb inv inv refl)

module _ (decl : Declaration) (number : ℕ) (d : Account) (desk : Desk) (t : Current) (asked : List ℕ)
    (views : List View) (object inv : ℕ) (k : Runs decl d desk t views) where
  abbrev x : Transaction
  x = transaction_of t asked views

  abbrev need : ℕ
  need = read_need_of decl t.epoch object inv

  abbrev round : List ClientRequest → RoundState
  round qs = round_at decl d t is_read (read_need_of decl t.epoch object inv) qs

  abbrev want : Want
  want = Read (first_read object inv)

  pub reads_tie : (asked_now : List ℕ) (qs : List ClientRequest) → Every (IsRead object inv) qs
      → Ties decl (run d t object inv qs)
      (client_at d desk (Some (transaction_of t asked_now views)) (Reading object inv (calls_in qs) (round qs)))
  reads_tie asked_now qs all = reads (record {
    object = object;
    inv = inv;
    t = t;
    x = transaction_of t asked_now views;
    runs = record { command = refl; current = refl; written = refl; live = k.live; room = k.room };
    begun = record { is = refl; logs = k.logs };
    reads = all;
    front = refl;
    desk =
        record {
          client = k.desk_is.client;
          clock = k.desk_is.clock;
          epoch = k.desk_is.epoch;
          voting = k.desk_is.voting;
        };
  })

  -- further sites are asked

  abbrev P : List ClientRequest → List ℕ → Type 0
  P qs ss =
      (filter (λ (q : ClientRequest). is_append q.want) qs ≡ [])
      × IsNext decl d t is_read (read_need_of decl t.epoch object inv) qs ss

  step : (n site : ℕ) (ss : List ℕ) (qs : List ClientRequest)
      → (filter (λ (q : ClientRequest). is_append q.want) qs ≡ [])
      × IsNext decl d t is_read (read_need_of decl t.epoch object inv) qs (site ∷ ss)
      → (command_asks decl (run d t object inv qs) t site want (Some (commands.Do object inv)) ≡ true)
      × ((filter (λ (q : ClientRequest). is_append q.want) (qs ++ request_at n t want site ∷ []) ≡ [])
      × IsNext decl d t is_read (read_need_of decl t.epoch object inv) (qs ++ request_at n t want site ∷ []) ss)
  step n site ss qs p = (
    ap (λ (b : Bool). b
        && (is_next_voter decl (run d t object inv qs) t is_read (read_need_of decl t.epoch object inv) site
        && (length (requests_for is_append (run d t object inv qs)) == 0))) (reads_itself object inv)
        ∙ ap (λ (b : Bool). b && (length (requests_for is_append (run d t object inv qs)) == 0))
        (next_voter decl d t is_read (read_need_of decl t.epoch object inv) qs site ss p.1)
        ∙ ap (λ (hs : List ClientRequest). length hs == 0) p.0,
    (
      filter-append (λ (q : ClientRequest). is_append q.want) qs (request_at n t want site ∷ [])
          ∙ ap (λ (hs : List ClientRequest). hs ++ []) p.0,
      next_one decl d t is_read (read_need_of decl t.epoch object inv) want refl qs n site ss p.1,
    ),
  )

  waits : (qs : List ClientRequest) (f : Front) (tr : Option Transaction) (doing : Doing)
      → verdict (round qs) ≡ verdicts.Waiting → Every (IsRead object inv) qs
      → Goes decl number (run d t object inv qs)
      (by_front (record { front = f; desk = desk })
      (fronts.goes_on (front_of d tr doing) x (Reading object inv (calls_in qs)) (λ site. want) (round qs)))
  waits qs f tr doing still all =
      record {
        tells = sym (due_do decl d desk t views object inv qs k
            ∙ ap (read_row decl (run d t object inv qs) t object inv) still);
        due = a.due;
        ties = a.ties;
      }
    where
      calls_path : calls_in (qs ++ requests_from number t want (wanted (round qs)))
          ≡ calls_in qs ++ calls_from number (wanted (round qs))
      calls_path =
          calls_more qs (requests_from number t want (wanted (round qs)))
          ∙ ap (λ (cs : List Call). calls_in qs ++ cs) (calls_new number t want (wanted (round qs)))

      round_path : round (qs ++ requests_from number t want (wanted (round qs)))
          ≡ asking_all (round qs) (wanted (round qs))
      round_path = round_asked decl d t is_read need want refl (wanted (round qs)) number qs

      tie : Ties decl (run d t object inv (qs ++ requests_from number t want (wanted (round qs))))
          (client_at d desk (Some (transaction_of t (fold with_site asked (wanted (round qs))) views))
          (Reading object inv (calls_in qs ++ calls_from number (wanted (round qs)))
          (asking_all (round qs) (wanted (round qs)))))
      tie =
          subst (λ (c : Client). Ties decl (run d t object inv (qs ++ requests_from number t want (wanted (round qs))))
          c)
          (λ i. client_at d desk (Some (transaction_of t (fold with_site asked (wanted (round qs))) views))
          (Reading object inv (calls_path i) (round_path i)))
          (reads_tie (fold with_site asked (wanted (round qs))) (qs ++ requests_from number t want (wanted (round qs)))
          (every-append (IsRead object inv) qs (requests_from number t want (wanted (round qs))) all
          (every_new (IsRead object inv) t want (λ n s. refl) number (wanted (round qs)))))

      a : Asking decl number (record d { command = Some (commands.Do object inv); written = None }) t want P step
          (λ (cs : List Call). client_at d desk
          (Some (transaction_of t (fold with_site asked (wanted (round qs))) views))
          (Reading object inv cs (asking_all (round qs) (wanted (round qs)))))
          (sending (map (asking t want) (wanted (round qs)))) (λ calls n site. refl) (wanted (round qs)) qs
          (calls_in qs)
      a = asks_go decl number (record d { command = Some (commands.Do object inv); written = None }) t want P step
          (λ (cs : List Call). client_at d desk
          (Some (transaction_of t (fold with_site asked (wanted (round qs))) views))
          (Reading object inv cs (asking_all (round qs) (wanted (round qs)))))
          (sending (map (asking t want) (wanted (round qs)))) (λ calls n site. refl) (wanted (round qs)) qs
          (calls_in qs)
          (none_append object inv qs all, refl) tie

  -- the Reads are met

  absents : (qs : List ClientRequest) (f : Front) (tr : Option Transaction) (doing : Doing)
      → verdict (round qs) ≡ verdicts.Met → answer_of decl t object inv ≡ None
      → Goes decl number (run d t object inv qs)
      (by_front (record { front = f; desk = desk }) (fronts.absents (front_of d tr doing) x object inv))
  absents qs f tr doing met none =
      tells_goes decl number (run d t object inv qs) replies.Absent
      (client_at d desk (Some (with_op x (op_of object inv None))) Idle) (
        due_do decl d desk t views object inv qs k ∙ ap (read_row decl (run d t object inv qs) t object inv) met
            ∙ ap (answer_row decl (run d t object inv qs) t object) none,
        refl,
        refl,
      )
      (rest_ties decl d desk (with_absent t object inv) (with_op x (op_of object inv None)) k.desk_is
      (record { is = refl; logs = k.logs }))

  starts : (qs : List ClientRequest) (f : Front) (tr : Option Transaction) (doing : Doing) (event : ℕ)
      → Every (IsRead object inv) qs → verdict (round qs) ≡ verdicts.Met → answer_of decl t object inv ≡ Some event
      → Goes decl number (run d t object inv qs)
      (by_front (record { front = f; desk = desk })
      (fronts.answered decl (front_of d tr doing) x object inv (Some event)))
  starts qs f tr doing event all met chosen =
      subst (λ (m : List Call × RoundState). Goes decl number (run d t object inv qs)
      (by_front (record { front = f; desk = desk })
      (fronts.appends decl (front_of d tr doing) x object inv event m.0 m.1)))
      (λ i. (none_called i, fresh i))
      (appends_go decl number d desk t asked views object inv event k chosen qs f tr doing met
      (no_open is_append qs none_called))
    where
      none_called : calls_in qs ≡ []
      none_called =
          sym
          (calls_half is_read qs (every-weaker (IsRead object inv) (IsOpenIn is_read) (open_read object inv) qs all))
          ∙ noted_open (filter (λ (q : ClientRequest). is_read q.want) qs) (noted_met (round qs) met)

      fresh : round_at decl d t is_append (append_need_of decl t.epoch object event) qs
          ≡ round_for decl (front_of d tr doing) x (append_need_of decl t.epoch object event)
      fresh =
          ap (round_from decl d t is_append (append_need_of decl t.epoch object event)) (none_append object inv qs all)

  answers_go : (qs : List ClientRequest) (f : Front) (tr : Option Transaction) (doing : Doing)
      → Every (IsRead object inv) qs → verdict (round qs) ≡ verdicts.Met → (o : Option ℕ)
      → answer_of decl t object inv ≡ o
      → Goes decl number (run d t object inv qs)
      (by_front (record { front = f; desk = desk }) (fronts.answered decl (front_of d tr doing) x object inv o))
  answers_go qs f tr doing all met None is = absents qs f tr doing met is
  answers_go qs f tr doing all met (Some event) is = starts qs f tr doing event all met is

  -- it is refused while reading
  kept_tie : (b : Bool) → b ≡ false → Ties decl (rested d (Some (doomed_if b t))) (client_at d desk (Some x) Idle)
  kept_tie b is =
      rest_ties decl d desk (doomed_if b t) x k.desk_is
      (doomed_begun t asked views b t.doomed k.logs (k.live ∙ sym (ap (λ (z : Bool). z || b) k.live ∙ is)))

  none_asked : (qs : List ClientRequest) → Every (IsRead object inv) qs
      → not (length (filter (λ (q : ClientRequest). is_append q.want) qs) == 0) ≡ false
  none_asked qs all = ap (λ (hs : List ClientRequest). not (length hs == 0)) (none_append object inv qs all)

  pub reads_go : (qs : List ClientRequest) (f : Front) (tr : Option Transaction) (doing : Doing)
      → Every (IsRead object inv) qs
      → Goes decl number (run d t object inv qs)
      (by_front (record { front = f; desk = desk })
      (fronts.reads decl (front_of d tr doing) x object inv (calls_in qs) (round qs)))
  reads_go qs f tr doing all = by (verdict (round qs)) refl
    where
      by : (v : Verdict) → verdict (round qs) ≡ v
          → Goes decl number (run d t object inv qs)
          (by_front (record { front = f; desk = desk })
          (fronts.read_by decl (front_of d tr doing) x object inv (calls_in qs) (round qs) v))
      by verdicts.Waiting is = waits qs f tr doing is all
      by verdicts.Met is =
          subst
          (λ (o : Option ℕ). Goes decl number (run d t object inv qs)
          (by_front (record { front = f; desk = desk })
          (fronts.answered decl (front_of d tr doing) x object inv o)))
          (sym (answer_same decl t asked views object inv k.records k.logs))
          (answers_go qs f tr doing all is (answer_of decl t object inv) refl)
      by (verdicts.Closed epoch site) is =
          tells_goes decl number (run d t object inv qs) (replies.Closed epoch site) (client_at d desk (Some x) Idle) (
            due_do decl d desk t views object inv qs k ∙ ap (read_row decl (run d t object inv qs) t object inv) is,
            refl,
            refl,
          )
          (kept_tie (not (length (filter (λ (q : ClientRequest). is_append q.want) qs) == 0)) (none_asked qs all))
      by (verdicts.Clash tx site) is =
          tells_goes decl number (run d t object inv qs) (replies.Conflict tx site) (client_at d desk (Some x) Idle) (
            due_do decl d desk t views object inv qs k ∙ ap (read_row decl (run d t object inv qs) t object inv) is,
            refl,
            refl,
          )
          (kept_tie (not (length (filter (λ (q : ClientRequest). is_append q.want) qs) == 0)) (none_asked qs all))
      by (verdicts.Short got short) is =
          tells_goes decl number (run d t object inv qs) (replies.Quorum halves.Read got short)
          (client_at d desk (Some x) Idle) (
            due_do decl d desk t views object inv qs k ∙ ap (read_row decl (run d t object inv qs) t object inv) is,
            refl,
            refl,
          )
          (rest_ties decl d desk t x k.desk_is (record { is = refl; logs = k.logs }))
