-- What is taken while a `do` runs: the first thing for an open request counts, all else changes nothing.
use Rattle.std.proofs.Common.{[], ◌≡◌, ℕ, ◌==◌, ◌&&◌, Bool, true, false, cond, List, ◌∷◌, filter, max, Option, Some}
use Rattle.std.proofs.Common.{None, option_map, refl, sym, ap, ◌∙◌, subst, arith}
use Rattle.std.specs.Prelude.{is_none, option_and_then}
use Rattle.std.specs.List.{find, AllByRecursion as Every}
use Rattle.qc_list.proofs.Members.{every-In}
use Rattle.qc_decl.specs.declared.declaration.Declaration.{Declaration}
use Rattle.qc_decl.specs.Vocabulary.{append_need_of, read_need_of}
use Rattle.qc_plan.specs.declared.standing.Verdict.TheVariants as verdicts
use Rattle.qc_plan.specs.Vocabulary.{RoundState, all_noted, note, verdict}
use Rattle.qc_view.specs.declared.view.View.{View}
use Rattle.qc_commit.specs.declared.desk.Desk.{Desk}
use Rattle.qc_front.specs.declared.doing.Doing.TheVariants.{Appending}
use Rattle.qc_front.specs.declared.front.Front.{Front}
use Rattle.qc_front.specs.declared.transaction.Transaction.{Transaction}
use Rattle.qc_front.specs.Vocabulary.{append_counts, appending_takes, learns, takes, lived as front_lived}
use Rattle.qc_front.specs.Rounds as fronts
use Rattle.qc_client.specs.declared.client.Client.{Client}
use Rattle.qc_client.specs.Vocabulary.{by_front}
use Rattle.qc_msg.specs.declared.call.Call.{Call}
use Rattle.qc_msg.specs.declared.message.Answer.{Answer}
use Rattle.qc_msg.specs.declared.message.Answer.TheVariants as answers
use Rattle.qc_msg.specs.declared.message.Want.{Want}
use Rattle.qc_msg.specs.declared.message.Want.TheVariants.{Read, Append, Prepare}
use Rattle.qc_msg.specs.Vocabulary.{without_call, closed_in, granted_in, promised_in}
use Rattle.qc_promise.specs.Vocabulary.{Account, ClientRequest, Current, answer_of, append_row, counted, counted_for}
use Rattle.qc_promise.specs.Vocabulary.{is_append, is_open, is_read, lived, standing_of, taken_for, told_by}
use Rattle.laws_due.specs.Vocabulary.{AreApart, Goes, IsOpenIn, calls_in, front_of, transaction_of}
use Rattle.laws_due.proofs.DoRows.{Runs, run}
use Rattle.laws_due.proofs.DoAppends.{appends_go, appends_tie, row_is}
use Rattle.laws_due.proofs.Halves.{round_at, round_from, round_taken, waiting_verdict}
use Rattle.laws_due.proofs.OpenRequests.{IsFound, calls_taken, every_taken, find_call, found, numbers_open, sites_in}
use Rattle.laws_due.proofs.Turns.{desk_kept, still_goes}
use Rattle.laws_due.proofs.TakenCases.{learned_of, taken_cases, told_of}
use Rattle.std.specs.Option.{option_map_or}
use Rattle.qc_msg.specs.declared.payload.Grant.{Grant}

-- Appends

other_half : (w : Want) → is_append w ≡ true → is_read w ≡ false
other_half (Read read) is = let never : ⊥ = cc in absurd never
other_half (Append object view own) is = refl
other_half Prepare is = let never : ⊥ = cc in absurd never

pub reads_kept : (n : ℕ) (answer : Option Answer) (qs : List ClientRequest) → Every (IsOpenIn is_append) qs
    → filter (λ (q : ClientRequest). is_read q.want) (taken_for n answer qs)
    ≡ filter (λ (q : ClientRequest). is_read q.want) qs
reads_kept n answer [] all = refl
reads_kept n answer (q ∷ qs) all = by (q.number == n) (is_none q.taken) refl (reads_kept n answer qs all.1)
  where
    by : (u b : Bool) → is_none q.taken ≡ b
        → filter (λ (p : ClientRequest). is_read p.want) (taken_for n answer qs)
        ≡ filter (λ (p : ClientRequest). is_read p.want) qs
        → filter (λ (p : ClientRequest). is_read p.want)
        (cond (u && b) (record q { taken = Some answer }) q ∷ taken_for n answer qs)
        ≡ filter (λ (p : ClientRequest). is_read p.want) (q ∷ qs)
    by true true is e =
        let no_read : is_read q.want ≡ false = other_half q.want (all.0 is) in
        ap (λ (b : Bool). cond b
        (record q { taken = Some answer } ∷ filter (λ (p : ClientRequest). is_read p.want) (taken_for n answer qs))
        (filter (λ (p : ClientRequest). is_read p.want) (taken_for n answer qs))) no_read
        ∙ e
        ∙ sym
        (ap (λ (b : Bool). cond b (q ∷ filter (λ (p : ClientRequest). is_read p.want) qs)
        (filter (λ (p : ClientRequest). is_read p.want) qs)) no_read)
    by true false is e = ap (λ (v : List ClientRequest). cond (is_read q.want) (q ∷ v) v) e
    by false b is e = ap (λ (v : List ClientRequest). cond (is_read q.want) (q ∷ v) v) e

module _ (decl : Declaration) (number : ℕ) (d : Account) (desk : Desk) (t : Current) (asked : List ℕ)
    (views : List View) (object inv event : ℕ) (k : Runs decl d desk t views)
    (chosen : answer_of decl t object inv ≡ Some event)
    (qs : List ClientRequest)
    (met : verdict (round_at decl d t is_read (read_need_of decl t.epoch object inv) qs) ≡ verdicts.Met)
    (all : Every (IsOpenIn is_append) qs)
    (sites : AreApart (sites_in (filter (λ (q : ClientRequest). is_append q.want) qs)))
    (numbers : AreApart (numbers_open qs))
    (awaits : all_noted (round_at decl d t is_append (append_need_of decl t.epoch object event) qs).asked ≡ false) where
  abbrev ax : Transaction
  ax = transaction_of t asked views

  abbrev around : RoundState
  around = round_at decl d t is_append (append_need_of decl t.epoch object event) qs

  abbrev anow : Front
  anow = front_of d (Some ax) (Appending object inv event (calls_in qs) around)

  abbrev ahere : Client
  ahere = record { front = anow; desk = desk }

  aon_with : (e : Account) (u : Current) → Runs decl e desk u views → answer_of decl u object inv ≡ Some event
      → ((hs : List ClientRequest)
      → round_from decl e u is_read (read_need_of decl u.epoch object inv) hs
      ≡ round_from decl d t is_read (read_need_of decl t.epoch object inv) hs)
      → ((rs : List ClientRequest)
      → round_at decl e u is_append (append_need_of decl u.epoch object event) rs
      ≡ round_at decl d t is_append (append_need_of decl t.epoch object event) rs)
      → (n : ℕ) (answer : Option Answer) (q : ClientRequest) → find (is_open n) qs ≡ Some q
      → Goes decl number (run e u object inv (taken_for n answer qs))
      (by_front ahere
      (fronts.appends decl (front_of e (Some ax) (Appending object inv event (calls_in qs) around))
      (transaction_of u asked views) object inv event (without_call (calls_in qs) n)
      (note around q.site (standing_of answer))))
  aon_with e u kept same_answer same_read same n answer q is =
      subst (λ (m : List Call × RoundState). Goes decl number (run e u object inv (taken_for n answer qs))
      (by_front ahere
      (fronts.appends decl (front_of e (Some ax) (Appending object inv event (calls_in qs) around))
      (transaction_of u asked views) object inv event m.0 m.1)))
      (λ i. (sym (calls_taken n answer qs) i, (same (taken_for n answer qs) ∙ sym noted) i))
      (appends_go decl number e desk u asked views object inv event kept same_answer (taken_for n answer qs) anow
      (Some ax) (Appending object inv event (calls_in qs) around)
      (ap (λ (hs : List ClientRequest). verdict (round_from decl e u is_read (read_need_of decl u.epoch object inv) hs))
      (reads_kept n answer qs all)
      ∙ ap verdict (same_read (filter (λ (p : ClientRequest). is_read p.want) qs)) ∙ met)
      (every_taken (IsOpenIn is_append) n answer (λ r w. λ open_still. absurd (let never : ⊥ = cc in never)) qs all))
    where
      noted : note around q.site (standing_of answer)
          ≡ round_at decl d t is_append (append_need_of decl t.epoch object event) (taken_for n answer qs)
      noted =
          round_taken decl d t is_append (append_need_of decl t.epoch object event) n answer q qs all sites numbers is

  astays : (n : ℕ) (answer : Option Answer) (q : ClientRequest) → find (is_open n) qs ≡ Some q
      → Goes decl number (run d t object inv (taken_for n answer qs))
      (by_front ahere
      (fronts.appends decl anow ax object inv event (without_call (calls_in qs) n)
      (note around q.site (standing_of answer))))
  astays n answer q is = aon_with d t k chosen (λ hs. refl) (λ rs. refl) n answer q is

  acloses : (n epoch : ℕ) (q : ClientRequest) → find (is_open n) qs ≡ Some q
      → Goes decl number
      (run (record d { known = max d.known epoch }) t object inv (taken_for n (Some (answers.Closed epoch)) qs))
      (by_front ahere
      (fronts.appends decl (learns anow (Some (answers.Closed epoch))) ax object inv event
      (without_call (calls_in qs) n) (note around q.site (standing_of (Some (answers.Closed epoch))))))
  acloses n epoch q is =
      aon_with (record d { known = max d.known epoch }) t kept chosen (λ hs. refl) (λ rs. refl) n
      (Some (answers.Closed epoch)) q is
    where
      kept : Runs decl (record d { known = max d.known epoch }) desk t views
      kept =
          record {
            live = k.live;
            room = k.room;
            records = k.records;
            logs = k.logs;
            desk_is =
                desk_kept d (record d { known = max d.known epoch }) desk k.desk_is refl (omega arith) (omega arith);
          }

  agrants : (n : ℕ) (g : Grant) (q : ClientRequest) → find (is_open n) qs ≡ Some q
      → Goes decl number
      (run (record d { clock = max d.clock g.clock }) (lived t q.site g.life) object inv
      (taken_for n (Some (answers.Granted g)) qs))
      (by_front ahere
      (append_counts decl (learns anow (Some (answers.Granted g))) ax object inv event
      (calls_in qs)
      around n q.site (Some (answers.Granted g))))
  agrants n g q is =
      aon_with (record d { clock = max d.clock g.clock }) (lived t q.site g.life) kept chosen (λ hs. refl)
      (λ rs. refl) n (Some (answers.Granted g)) q is
    where
      kept : Runs decl (record d { clock = max d.clock g.clock }) desk (lived t q.site g.life) views
      kept =
          record {
            live = k.live;
            room = k.room;
            records = k.records;
            logs = k.logs;
            desk_is =
                desk_kept d (record d { clock = max d.clock g.clock }) desk k.desk_is refl (omega arith) (omega arith);
          }

  acounts_go : (n : ℕ) (q : ClientRequest) → find (is_open n) qs ≡ Some q → (w : Want) → is_append w ≡ true
      → q.want ≡ w
      → (answer : Option Answer)
      → Goes decl number (told_by (run d t object inv (taken_for n answer qs)) q answer)
      (by_front ahere
      (append_counts decl (learns anow answer) ax object inv event (calls_in qs) around n q.site answer))
  acounts_go n q is (Read read) half want answer = absurd (let never : ⊥ = cc in never)
  acounts_go n q is Prepare half want answer = absurd (let never : ⊥ = cc in never)
  acounts_go n q is (Append o v own) half want answer =
      subst
      (λ (w : Want). Goes decl number
      (told_of (run d t object inv (taken_for n answer qs)) q.site w (option_and_then granted_in answer)
      (option_and_then closed_in answer) (option_and_then promised_in answer))
      (by_front ahere
      (append_counts decl (learns anow answer) ax object inv event (calls_in qs) around n q.site answer)))
      (sym want)
      (taken_cases
      (λ (a : Option Answer) (g : Option Grant) (c : Option ℕ) (y : Option ℕ). Goes decl number
      (told_of (run d t object inv (taken_for n a qs)) q.site (Append o v own) g c y)
      (by_front ahere
      (fronts.appends decl (learned_of anow g c)
      (option_map_or (λ (z : Grant). front_lived ax q.site z.life) g ax) object inv event
      (without_call (calls_in qs) n) (note around q.site (standing_of a)))))
      (λ a. astays n a q is) (λ g. agrants n g q is) (λ epoch. acloses n epoch q is)
      (λ clock. astays n (Some (answers.Yes clock)) q is) answer)

  pub appending_goes : (n : ℕ) (answer : Option Answer)
      → Goes decl number (counted (run d t object inv qs) n answer) (by_front ahere (takes decl anow n answer))
  appending_goes n answer =
      subst (λ (o : Option ℕ). Goes decl number (counted (run d t object inv qs) n answer)
      (by_front ahere (appending_takes decl anow ax object inv event (calls_in qs) around n answer o)))
      (sym (find_call n qs))
      (by (find (is_open n) qs) refl)
    where
      by : (o : Option ClientRequest) → find (is_open n) qs ≡ o
          → Goes decl number (counted_for (run d t object inv qs) n answer o)
          (by_front ahere
          (appending_takes decl anow ax object inv event (calls_in qs) around n answer
          (option_map (λ (q : ClientRequest). q.site) o)))
      by None is =
          still_goes decl number (run d t object inv qs) ahere
          (row_is decl number d desk t asked views object inv event k chosen qs met
          ∙ ap (append_row decl object event) (waiting_verdict around awaits))
          (appends_tie decl number d desk t asked views object inv event k chosen asked qs met all)
      by (Some q) is =
          let f : IsFound n qs q = found n qs q is in
          acounts_go n q is q.want (every-In (IsOpenIn is_append) q qs all f.among f.open_still) refl answer
