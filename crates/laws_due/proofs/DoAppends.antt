-- A `do` that appends: whatever its round comes to is due.
use Rattle.std.proofs.Common.{[], ◌≡◌, ℕ, ◌+◌, ◌==◌, ◌&&◌, ◌||◌, not, Bool, true, false, List, ◌∷◌, ◌++◌, length, map}
use Rattle.std.proofs.Common.{filter, Option, Some, None, refl, sym, ap, ◌∙◌, subst, eq-eqb}
use Rattle.std.specs.Prelude.{fold}
use Rattle.std.specs.List.{AllByRecursion as Every}
use Rattle.std.specs.Option.{option_map_or}
use Rattle.std.proofs.lemmas.List.{append-nil, length-map}
use Rattle.std.proofs.lemmas.List.Elements.{filter-append}
use Rattle.qc_list.proofs.Members.{every-append}
use Rattle.qc_decl.specs.declared.declaration.Declaration.{Declaration}
use Rattle.qc_decl.specs.Vocabulary.{append_need_of, read_need_of}
use Rattle.qc_entry.specs.declared.line.Line.{Line}
use Rattle.qc_entry.specs.declared.line.OwnLine.{OwnLine}
use Rattle.qc_plan.specs.declared.standing.Verdict.{Verdict}
use Rattle.qc_plan.specs.declared.standing.Verdict.TheVariants as verdicts
use Rattle.qc_plan.specs.Vocabulary.{RoundState, asking_all, verdict, wanted}
use Rattle.qc_view.specs.declared.view.View.{View}
use Rattle.qc_commit.specs.declared.desk.Desk.{Desk}
use Rattle.qc_front.specs.declared.doing.Doing.{Doing}
use Rattle.qc_front.specs.declared.doing.Doing.TheVariants.{Idle, Appending}
use Rattle.qc_front.specs.declared.front.Front.{Front}
use Rattle.qc_front.specs.declared.transaction.Transaction.{Transaction}
use Rattle.qc_front.specs.Vocabulary.{append_want, with_event}
use Rattle.qc_front.specs.Rounds as fronts
use Rattle.qc_client.specs.declared.client.Client.{Client}
use Rattle.qc_client.specs.Vocabulary.{by_front}
use Rattle.qc_msg.specs.declared.call.Call.{Call}
use Rattle.qc_msg.specs.declared.message.Want.{Want}
use Rattle.qc_msg.specs.declared.message.Want.TheVariants.{Append}
use Rattle.qc_msg.specs.declared.reply.Half.TheVariants as halves
use Rattle.qc_msg.specs.declared.reply.Reply.TheVariants as replies
use Rattle.qc_msg.specs.declared.step.Command.TheVariants as commands
use Rattle.qc_msg.specs.Vocabulary.{calls_from, sending, with_site}
use Rattle.qc_promise.specs.Vocabulary.{Account, ClientRequest, Current, answer_of, answer_row, append_row}
use Rattle.qc_promise.specs.Vocabulary.{are_reads_met, asked_by, carries, command_asks, doomed_if, is_append, is_met}
use Rattle.qc_promise.specs.Vocabulary.{is_next_voter, is_read, own_appended, read_row, resp_of, running_row, view_of}
use Rattle.qc_promise.specs.Vocabulary.{with_response}
use Rattle.laws_due.specs.Vocabulary.{Goes, IsOpenIn, Ties, appends, calls_in, front_of, transaction_of}
use Rattle.laws_due.proofs.Halves.{clash_asked, closed_asked, round_asked, round_at, round_from}
use Rattle.laws_due.proofs.Asks.{asking}
use Rattle.laws_due.proofs.Requests.{calls_more, calls_new, every_new, request_at, requests_from}
use Rattle.laws_due.proofs.Turns.{Asked as Asking, asks_go, client_at, doomed_begun, rest_ties, rested, tells_goes}
use Rattle.laws_due.proofs.Views.{event_begun, view_same}
use Rattle.laws_due.proofs.DoRows.{run, Runs, IsNext, next_one, next_voter, due_do, carried}

-- Appends that are sent leave the Reads
reads_left : (t : Current) (object : ℕ) (view : List Line) (own : List OwnLine) (ss : List ℕ) (n : ℕ)
    → filter (λ (q : ClientRequest). is_read q.want) (requests_from n t (Append object view own) ss) ≡ []
reads_left t object view own [] n = refl
reads_left t object view own (s ∷ ss) n = reads_left t object view own ss (n + 1)

module _ (decl : Declaration) (number : ℕ) (d : Account) (desk : Desk) (t : Current) (asked : List ℕ)
    (views : List View) (object inv event : ℕ) (k : Runs decl d desk t views)
    (chosen : answer_of decl t object inv ≡ Some event) where
  abbrev x : Transaction
  x = transaction_of t asked views

  abbrev read_need : ℕ
  read_need = read_need_of decl t.epoch object inv

  abbrev need : ℕ
  need = append_need_of decl t.epoch object event

  abbrev read_round : List ClientRequest → RoundState
  read_round qs = round_at decl d t is_read (read_need_of decl t.epoch object inv) qs

  abbrev round : List ClientRequest → RoundState
  round qs = round_at decl d t is_append (append_need_of decl t.epoch object event) qs

  abbrev want : Want
  want = Append object (view_of t object) (own_appended decl t object event)

  want_is : append_want decl x object event ≡ (λ site. want)
  want_is =
      let want_by : List Line → ℕ → Want = λ v site. Append object v (own_appended decl t object event) in
      ap want_by
      (view_same decl t asked views object inv event k.records k.logs chosen)

  pub row_is : (qs : List ClientRequest) → verdict (read_round qs) ≡ verdicts.Met
      → running_row decl (run d t object inv qs) false ≡ append_row decl object event (verdict (round qs))
  row_is qs met =
      due_do decl d desk t views object inv qs k
      ∙ ap (λ (v : Verdict). read_row decl (run d t object inv qs) t object inv v) met
      ∙ ap (λ (o : Option ℕ). answer_row decl (run d t object inv qs) t object o) chosen

  -- the tie while it appends
  pub appends_tie : (asked_now : List ℕ) (qs : List ClientRequest) → verdict (read_round qs) ≡ verdicts.Met
      → Every (IsOpenIn is_append) qs
      → Ties decl (run d t object inv qs)
      (client_at d desk (Some (transaction_of t asked_now views))
      (Appending object inv event (calls_in qs) (round qs)))
  appends_tie asked_now qs met open_in = appends (record {
    object = object;
    inv = inv;
    event = event;
    t = t;
    x = transaction_of t asked_now views;
    runs = record { command = refl; current = refl; written = refl; live = k.live; room = k.room };
    begun = record { is = refl; logs = k.logs };
    met = met;
    chosen = chosen;
    appends = open_in;
    front = refl;
    desk =
        record {
          client = k.desk_is.client;
          clock = k.desk_is.clock;
          epoch = k.desk_is.epoch;
          voting = k.desk_is.voting;
        };
  })

  -- further sites are asked

  abbrev P : List ClientRequest → List ℕ → Type 0
  P qs ss =
      (verdict (read_round qs) ≡ verdicts.Met)
      × IsNext decl d t is_append (append_need_of decl t.epoch object event) qs ss

  same_reads : (qs new : List ClientRequest) → filter (λ (q : ClientRequest). is_read q.want) new ≡ []
      → filter (λ (q : ClientRequest). is_read q.want) (qs ++ new) ≡ filter (λ (q : ClientRequest). is_read q.want) qs
  same_reads qs new none =
      filter-append (λ (q : ClientRequest). is_read q.want) qs new
      ∙ ap (λ (v : List ClientRequest). filter (λ (q : ClientRequest). is_read q.want) qs ++ v) none
      ∙ append-nil (filter (λ (q : ClientRequest). is_read q.want) qs)

  still_met : (qs new : List ClientRequest) → filter (λ (q : ClientRequest). is_read q.want) new ≡ []
      → verdict (read_round qs) ≡ verdicts.Met → verdict (read_round (qs ++ new)) ≡ verdicts.Met
  still_met qs new none met =
      ap (λ (hs : List ClientRequest). verdict (round_from decl d t is_read (read_need_of decl t.epoch object inv) hs))
      (same_reads qs new none) ∙ met

  -- with the need of the event that answers
  abbrev voter_and_met : Option ℕ → List ClientRequest → ℕ → Bool
  voter_and_met o qs site =
      is_next_voter decl (run d t object inv qs) t is_append (option_map_or (append_need_of decl t.epoch object) o 0)
      site && are_reads_met decl (run d t object inv qs) t object inv

  step : (n site : ℕ) (ss : List ℕ) (qs : List ClientRequest)
      → (verdict (read_round qs) ≡ verdicts.Met)
      × IsNext decl d t is_append (append_need_of decl t.epoch object event) qs (site ∷ ss)
      → (command_asks decl (run d t object inv qs) t site want (Some (commands.Do object inv)) ≡ true)
      × ((verdict (read_round (qs ++ request_at n t want site ∷ [])) ≡ verdicts.Met)
      × IsNext decl d t is_append (append_need_of decl t.epoch object event) (qs ++ request_at n t want site ∷ [])
      ss)
  step n site ss qs p = (
    ap (λ (b : Bool). (b
        && carries decl t object (view_of t object) (own_appended decl t object event) (answer_of decl t object inv))
        && voter_and_met (answer_of decl t object inv) qs site) (eq-eqb object object refl)
        ∙ ap
        (λ (o : Option ℕ). carries decl t object (view_of t object) (own_appended decl t object event) o
        && voter_and_met o qs site) chosen
        ∙ ap (λ (b : Bool). b && voter_and_met (Some event) qs site) (carried decl t object event)
        ∙ ap (λ (b : Bool). b && are_reads_met decl (run d t object inv qs) t object inv)
        (next_voter decl d t is_append (append_need_of decl t.epoch object event) qs site ss p.1)
        ∙ ap is_met p.0,
    (
      still_met qs (request_at n t want site ∷ []) refl p.0,
      next_one decl d t is_append (append_need_of decl t.epoch object event) want refl qs n site ss p.1,
    ),
  )

  waits : (qs : List ClientRequest) (f : Front) (tr : Option Transaction) (doing : Doing)
      → verdict (read_round qs) ≡ verdicts.Met → verdict (round qs) ≡ verdicts.Waiting → Every (IsOpenIn is_append) qs
      → Goes decl number (run d t object inv qs)
      (by_front (record { front = f; desk = desk })
      (fronts.goes_on (front_of d tr doing) x (Appending object inv event (calls_in qs)) (λ site. want) (round qs)))
  waits qs f tr doing met still open_in =
      record { tells = sym (row_is qs met ∙ ap (append_row decl object event) still); due = a.due; ties = a.ties }
    where
      sites : List ℕ
      sites = wanted (round qs)

      new : List ClientRequest
      new = requests_from number t want (wanted (round qs))

      calls_path : calls_in (qs ++ requests_from number t want (wanted (round qs)))
          ≡ calls_in qs ++ calls_from number (wanted (round qs))
      calls_path =
          calls_more qs (requests_from number t want (wanted (round qs)))
          ∙ ap (λ (cs : List Call). calls_in qs ++ cs) (calls_new number t want (wanted (round qs)))

      round_path : round (qs ++ requests_from number t want (wanted (round qs)))
          ≡ asking_all (round qs) (wanted (round qs))
      round_path = round_asked decl d t is_append need want refl (wanted (round qs)) number qs

      met_after : verdict (read_round (qs ++ requests_from number t want (wanted (round qs)))) ≡ verdicts.Met
      met_after =
          still_met qs (requests_from number t want (wanted (round qs)))
          (reads_left t object (view_of t object) (own_appended decl t object event) (wanted (round qs)) number) met

      tie : Ties decl (run d t object inv (qs ++ requests_from number t want (wanted (round qs))))
          (client_at d desk (Some (transaction_of t (fold with_site asked (wanted (round qs))) views))
          (Appending object inv event (calls_in qs ++ calls_from number (wanted (round qs)))
          (asking_all (round qs) (wanted (round qs)))))
      tie =
          subst (λ (c : Client). Ties decl (run d t object inv (qs ++ requests_from number t want (wanted (round qs))))
          c)
          (λ i. client_at d desk (Some (transaction_of t (fold with_site asked (wanted (round qs))) views))
          (Appending object inv event (calls_path i) (round_path i)))
          (appends_tie (fold with_site asked (wanted (round qs)))
          (qs ++ requests_from number t want (wanted (round qs))) met_after
          (every-append (IsOpenIn is_append) qs (requests_from number t want (wanted (round qs))) open_in
          (every_new (IsOpenIn is_append) t want (λ n s. λ is. refl) number (wanted (round qs)))))

      a : Asking decl number (record d { command = Some (commands.Do object inv); written = None }) t want P step
          (λ (cs : List Call). client_at d desk
          (Some (transaction_of t (fold with_site asked (wanted (round qs))) views))
          (Appending object inv event cs (asking_all (round qs) (wanted (round qs)))))
          (sending (map (asking t want) (wanted (round qs)))) (λ calls n site. refl) (wanted (round qs)) qs
          (calls_in qs)
      a = asks_go decl number (record d { command = Some (commands.Do object inv); written = None }) t want P step
          (λ (cs : List Call). client_at d desk
          (Some (transaction_of t (fold with_site asked (wanted (round qs))) views))
          (Appending object inv event cs (asking_all (round qs) (wanted (round qs)))))
          (sending (map (asking t want) (wanted (round qs)))) (λ calls n site. refl) (wanted (round qs)) qs
          (calls_in qs)
          (met, refl) tie

  -- it ends

  responds : (qs : List ClientRequest) (f : Front) (tr : Option Transaction) (doing : Doing)
      → verdict (read_round qs) ≡ verdicts.Met → verdict (round qs) ≡ verdicts.Met
      → Goes decl number (run d t object inv qs)
      (by_front (record { front = f; desk = desk }) (fronts.responds decl (front_of d tr doing) x object inv event))
  responds qs f tr doing met is =
      tells_goes decl number (run d t object inv qs) (replies.Response (resp_of decl object event))
      (client_at d desk (Some (with_event x object inv event (resp_of decl object event))) Idle)
      (row_is qs met ∙ ap (append_row decl object event) is, refl, refl)
      (subst (λ (o : Option ℕ). Ties decl (rested d (Some (with_response decl t object inv o)))
      (client_at d desk (Some (with_event x object inv event (resp_of decl object event))) Idle)) (sym chosen)
      (rest_ties decl d desk (with_response decl t object inv (Some event))
      (with_event x object inv event (resp_of decl object event)) k.desk_is
      (event_begun decl t asked views object inv event k.logs)))

  dooms_tie : (b : Bool) → b ≡ true
      → Ties decl (rested d (Some (doomed_if b t))) (client_at d desk (Some (fronts.doomed x)) Idle)
  dooms_tie b is =
      rest_ties decl d desk (doomed_if b t) (fronts.doomed x) k.desk_is
      (doomed_begun t asked views b true k.logs (sym (ap (λ (z : Bool). z || b) k.live ∙ is)))

  asked_some : (qs : List ClientRequest) → (length (round qs).asked == 0) ≡ false
      → not (length (filter (λ (q : ClientRequest). is_append q.want) qs) == 0) ≡ true
  asked_some qs is =
      ap not
      (ap (λ (n : ℕ). n == 0) (sym (length-map (filter (λ (q : ClientRequest). is_append q.want) qs) asked_by)) ∙ is)

  pub appends_go : (qs : List ClientRequest) (f : Front) (tr : Option Transaction) (doing : Doing)
      → verdict (read_round qs) ≡ verdicts.Met → Every (IsOpenIn is_append) qs
      → Goes decl number (run d t object inv qs)
      (by_front (record { front = f; desk = desk })
      (fronts.appends decl (front_of d tr doing) x object inv event (calls_in qs) (round qs)))
  appends_go qs f tr doing met open_in = by (verdict (round qs)) refl
    where
      by : (v : Verdict) → verdict (round qs) ≡ v
          → Goes decl number (run d t object inv qs)
          (by_front (record { front = f; desk = desk })
          (fronts.append_by decl (front_of d tr doing) x object inv event (calls_in qs) (round qs) v))
      by verdicts.Waiting is =
          subst (λ (w : ℕ → Want). Goes decl number (run d t object inv qs)
          (by_front (record { front = f; desk = desk })
          (fronts.goes_on (front_of d tr doing) x (Appending object inv event (calls_in qs)) w (round qs))))
          (sym want_is)
          (waits qs f tr doing met is open_in)
      by verdicts.Met is = responds qs f tr doing met is
      by (verdicts.Closed epoch site) is =
          tells_goes decl number (run d t object inv qs) (replies.Closed epoch site)
          (client_at d desk (Some (fronts.doomed x)) Idle)
          (row_is qs met ∙ ap (append_row decl object event) is, refl, refl)
          (dooms_tie (not (length (filter (λ (q : ClientRequest). is_append q.want) qs) == 0))
          (asked_some qs (closed_asked (round qs) epoch site is)))
      by (verdicts.Clash tx site) is =
          tells_goes decl number (run d t object inv qs) (replies.Conflict tx site)
          (client_at d desk (Some (fronts.doomed x)) Idle)
          (row_is qs met ∙ ap (append_row decl object event) is, refl, refl)
          (dooms_tie (not (length (filter (λ (q : ClientRequest). is_append q.want) qs) == 0))
          (asked_some qs (clash_asked (round qs) tx site is)))
      by (verdicts.Short got short) is =
          tells_goes decl number (run d t object inv qs) (replies.Quorum halves.Append got short)
          (client_at d desk (Some (fronts.doomed x)) Idle)
          (row_is qs met ∙ ap (append_row decl object event) is, refl, refl)
          (dooms_tie true refl)
