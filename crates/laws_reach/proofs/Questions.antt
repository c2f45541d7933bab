-- In each run with falls whose records are kept a question about a transaction comes only after a request for it.
use Rattle.std.proofs.Common.{◌≡◌, ℕ, ◌+◌, ◌==◌, Bool, true, false, cond, List, [], ◌∷◌, ◌++◌, length, Option, Some}
use Rattle.std.proofs.Common.{None, option_to_list, slice_get, refl, sym, subst, append_assoc}
use Rattle.std.specs.Prelude.{MatchOption}
use Rattle.std.specs.List.{AllByRecursion as Every, cons_option}
use Rattle.qc_core.specs.Vocabulary.{IsLawfulWithFalls, with_record}
use Rattle.qc_decl.specs.Vocabulary.{client_actor, controller}
use Rattle.qc_decl.specs.declared.declaration.Declaration.{Declaration}
use Rattle.qc_list.specs.Vocabulary.{In}
use Rattle.qc_list.proofs.Members.{In-first, In-second, every-In, every-append, every-at, every-from_In, every-weaker}
use Rattle.qc_msg.specs.declared.message.Envelope.{Envelope}
use Rattle.qc_msg.specs.declared.message.Message.{Message}
use Rattle.qc_msg.specs.declared.message.Message.TheVariants as messages
use Rattle.qc_msg.specs.declared.message.Want.{Want}
use Rattle.qc_msg.specs.declared.record.Record.{Record}
use Rattle.qc_entry.specs.declared.record.Prepared.{Prepared}
use Rattle.qc_msg.specs.declared.step.Control.{Control}
use Rattle.qc_msg.specs.declared.step.Fall.TheVariants as causes
use Rattle.qc_msg.specs.declared.step.Input.{Input}
use Rattle.qc_msg.specs.declared.step.Input.TheVariants as inputs
use Rattle.qc_msg.specs.declared.step.Step.{Step}
use Rattle.qc_msg.specs.declared.step.Step.TheVariants as steps
use Rattle.qc_msg.specs.declared.turn.Posting.{Posting}
use Rattle.qc_msg.specs.declared.turn.Turn.{Turn}
use Rattle.qc_msg.specs.Vocabulary.{Entry, by, deed_at, deeds, envelope_of, envelopes, heard, mail, marked, posted_as}
use Rattle.qc_msg.specs.Vocabulary.{Requested, inquiry_in, prepare_in, request_in, sends_as, step_of}
use Rattle.qc_msg.proofs.GrownMail.{mail-append}
use Rattle.qc_msg.proofs.Growth.{mail-posted_as}
use Rattle.qc_promise.specs.Vocabulary.{Kept}
use Rattle.laws_turns.proofs.SitesAsk.{Tells}
use Rattle.laws_turns.proofs.MessageCases.{message_cases}
use Rattle.laws_turns.proofs.ReadingCases.{matched_by}
use Rattle.laws_turns.proofs.StepCases.{controller_cases, deed_cases}
use Rattle.qc_script.specs.Vocabulary.{RunsWithFalls, begins, control, controller_step, damaged, falls, phase, phase_of}
use Rattle.qc_script.specs.Vocabulary.{posts, rises, takes, unopened}
use Rattle.qc_script.specs.declared.script.Script.{Script}
use Rattle.qc_stamp.specs.declared.stamp.TxId.{TxId}
use Rattle.laws_reach.proofs.Asking.{IsTold, asks_as, lawful_asks}
use Rattle.laws_reach.proofs.Putting.{AllPut, Puts, all_weaker, given_such, input_puts, post_puts}
use Rattle.laws_reach.proofs.SitesAsk.{AreAbout, IsAbout, PromisesFor, TurnAsks}
use Rattle.qc_promise.proofs.Posts.{kept_part}

-- something was asked for the transaction
pub record IsRequested (ms : List Envelope) (tx : TxId) : Type 0 where
  pub request : Envelope
  pub sent : In request ms
  pub epoch : ℕ
  pub life : ℕ
  pub want : Want
  pub is : request.message ≡ messages.Request tx epoch life want

requested_later : (ms more : List Envelope) (tx : TxId) → IsRequested ms tx → IsRequested (ms ++ more) tx
requested_later ms more tx r = record {
  request = r.request;
  sent = In-first r.request ms more r.sent;
  epoch = r.epoch;
  life = r.life;
  want = r.want;
  is = r.is;
}

module _ (decl : Declaration) where
  -- what stands among these messages, and is put into journals, is of such transactions

  abbrev pub IsMailOf : List Envelope → Envelope → Type 0
  IsMailOf ms e = Tells decl (IsRequested ms) e.to e.message

  abbrev Put : List Envelope → Record → Type 0
  Put ms r = PromisesFor decl (IsRequested ms) r

  tells_later : (ms more : List Envelope) (to : ℕ) (m : Message) → Tells decl (IsRequested ms) to m
      → Tells decl (IsRequested (ms ++ more)) to m
  tells_later ms more to m here =
      matched_by (MatchOption (request_in m) (Unit {0}) (λ (q : Requested). IsRequested ms q.tx))
      (MatchOption (request_in m) (Unit {0}) (λ (q : Requested). IsRequested (ms ++ more) q.tx))
      (λ (tx : TxId). (to ≡ client_actor decl tx.client) × IsRequested ms tx)
      (λ (tx : TxId). (to ≡ client_actor decl tx.client) × IsRequested (ms ++ more) tx) (inquiry_in m)
      (λ tx here. (here.0, requested_later ms more tx here.1))
      (λ asked. matched_by (Unit {0}) (Unit {0}) (λ (q : Requested). IsRequested ms q.tx)
      (λ (q : Requested). IsRequested (ms ++ more) q.tx) (request_in m)
      (λ q here. requested_later ms more q.tx here) (λ none. none) asked) here

  put_later : (ms more : List Envelope) (r : Record) → Put ms r → Put (ms ++ more) r
  put_later ms more r here =
      matched_by (Unit {0}) (Unit {0}) (λ (p : Prepared). IsRequested ms p.tx)
      (λ (p : Prepared). IsRequested (ms ++ more) p.tx) (prepare_in r)
      (λ p here. requested_later ms more p.tx here) (λ none. none) here

  -- messages more: their questions are of transactions requested before, and their requests stand for themselves

  sent_tells : (ms more : List Envelope) (e : Envelope) → In e more → IsAbout decl (IsRequested ms) e.to e.message
      → IsMailOf (ms ++ more) e
  sent_tells ms more e among about =
      message_cases
      (λ m request answer decision question. e.message ≡ m
      → MatchOption question (Unit {0}) (λ (tx : TxId). (e.to ≡ client_actor decl tx.client) × IsRequested ms tx)
      → MatchOption question
      (MatchOption request (Unit {0}) (λ (q : Requested). IsRequested (ms ++ more) q.tx))
      (λ (tx : TxId). (e.to ≡ client_actor decl tx.client) × IsRequested (ms ++ more) tx))
      (λ q is here. record {
        request = e;
        sent = In-second e ms more among;
        epoch = q.epoch;
        life = q.life;
        want = q.want;
        is = is;
      })
      (λ a is here. tt) (λ v is here. tt) (λ tx is here. (here.0, requested_later ms more tx here.1))
      (λ m is here. tt) e.message refl about

  about_each : (ms : List Envelope) (from n : ℕ) (ps : List Posting) → AreAbout decl (IsRequested ms) ps
      → Every (λ (e : Envelope). IsAbout decl (IsRequested ms) e.to e.message) (envelopes from n ps)
  about_each ms from n [] all = tt
  about_each ms from n (p ∷ ps) all = (all.0, about_each ms from (n + 1) ps all.1)

  -- a history

  pub record Asked (h : List Entry) : Type 0 where
    pub all : Every (IsMailOf (mail h)) (mail h)
    pub puts : AllPut (Put (mail h)) h

  abbrev IsMore : List Entry → List Entry → Type 0
  IsMore h k = Every (λ (e : Envelope). IsAbout decl (IsRequested (mail h)) e.to e.message) (mail k)

  grows : (h k : List Entry) → Asked h → IsMore h k → AllPut (Put (mail h)) k → Asked (h ++ k)
  grows h k asked more puts = record {
    all = subst (λ (ms : List Envelope). Every (IsMailOf ms) ms) (sym (mail-append h k))
        (every-append (IsMailOf (mail h ++ mail k)) (mail h) (mail k)
        (every-weaker (IsMailOf (mail h)) (IsMailOf (mail h ++ mail k))
        (λ e. tells_later (mail h) (mail k) e.to e.message) (mail h) asked.all)
        (every-from_In (IsMailOf (mail h ++ mail k)) (mail k)
        (λ e among. sent_tells (mail h) (mail k) e among
        (every-In (λ (d : Envelope). IsAbout decl (IsRequested (mail h)) d.to d.message) e (mail k) more among))));
    puts = subst (λ (ms : List Envelope). AllPut (Put ms) (h ++ k)) (sym (mail-append h k))
        (all_weaker (Put (mail h)) (Put (mail h ++ mail k)) (put_later (mail h) (mail k)) (h ++ k)
        (every-append (λ (e : Entry). Puts (Put (mail h)) e.step) h k asked.puts puts));
  }

  -- what an actor takes there, and rises with, is so too

  heard_told : (B : TxId → Type 0) (ms : List Envelope) (o : Option Envelope)
      → ((e : Envelope) → o ≡ Some e → Tells decl B e.to e.message) → Every (IsTold decl B) (heard o)
  heard_told B ms None there = tt
  heard_told B ms (Some e) there = (there e refl, tt)

  step_told : (B : TxId → Type 0) (ms : List Envelope) (step : Step)
      → Every (λ (e : Envelope). Tells decl B e.to e.message) ms → Puts (PromisesFor decl B) step
      → Every (IsTold decl B) (deed_at ms step)
  step_told B ms step all puts =
      deed_cases ms (λ step ds. Puts (PromisesFor decl B) step → Every (IsTold decl B) ds)
      (λ step unwritten unsent unrisen puts. tt) (λ command puts. (tt, tt))
      (λ n puts. heard_told B ms (slice_get ms n)
      (λ e is. every-at (λ (d : Envelope). Tells decl B d.to d.message) ms n e all is))
      (λ n puts. (tt, tt)) (λ written puts. (tt, tt)) (λ n to message puts. (tt, tt)) (λ reply puts. (tt, tt))
      (λ cause pending puts. (tt, tt)) (λ kept puts. (puts, tt)) step puts

  cons_split : (Q : Envelope → Type 0) (o : Option Envelope) (es : List Envelope) → Every Q (cons_option o es)
      → Every Q (option_to_list o) × Every Q es
  cons_split Q None es all = (tt, all)
  cons_split Q (Some e) es all = ((all.0, tt), all.1)

  deeds_told : (B : TxId → Type 0) (a : ℕ) (ms : List Envelope) (h : List Entry)
      → Every (λ (e : Envelope). Tells decl B e.to e.message) ms
      → Every (λ (e : Envelope). Tells decl B e.to e.message) (mail h) → AllPut (PromisesFor decl B) h
      → Every (IsTold decl B) (deeds a ms h)
  deeds_told B a ms [] before all puts = tt
  deeds_told B a ms (x ∷ h) before all puts =
      let both = cons_split (λ (e : Envelope). Tells decl B e.to e.message) (envelope_of x) (mail h) all in
      every-append (IsTold decl B) (cond (x.actor == a) (deed_at ms x.step) [])
      (deeds a (ms ++ option_to_list (envelope_of x)) h) (mine (x.actor == a))
      (deeds_told B a (ms ++ option_to_list (envelope_of x)) h
      (every-append (λ (e : Envelope). Tells decl B e.to e.message) ms
      (option_to_list (envelope_of x)) before both.0) both.1 puts.1)
    where
      mine : (t : Bool) → Every (IsTold decl B) (cond t (deed_at ms x.step) [])
      mine true = step_told B ms x.step before puts.0
      mine false = tt

  told_in : (a : ℕ) (h : List Entry) → Asked h → Every (IsTold decl (IsRequested (mail h))) (deeds a [] h)
  told_in a h asked = deeds_told (IsRequested (mail h)) a [] h tt asked.all asked.puts

  -- a turn more

  turn_asked : (h : List Entry) (a n : ℕ) (turn : Turn) → Asked h
      → TurnAsks decl (IsRequested (mail h)) (with_record turn) → Asked (h ++ by a (posted_as turn.append n turn))
  turn_asked h a n turn asked asks =
      grows h (by a (posted_as turn.append n turn)) asked
      (subst (Every (λ (e : Envelope). IsAbout decl (IsRequested (mail h)) e.to e.message))
      (sym (mail-posted_as turn.append a n turn))
      (about_each (mail h) a n (sends_as turn.append turn)
      (asks_as decl (IsRequested (mail h)) turn.append turn asks)))
      (post_puts (Put (mail h)) a n turn.append turn asks.writes)

  input_silent : (h : List Entry) (a : ℕ) (g : Input) → IsMore h (marked a (step_of g) ∷ [])
  input_silent h a (inputs.Called command) = tt
  input_silent h a (inputs.Got e) = tt
  input_silent h a (inputs.Lost n) = tt

  line_asked : (h : List Entry) (a : ℕ) (line : Control) (step : Step) → controller_step line ≡ Some step → Asked h
      → Asked (h ++ marked a step ∷ [])
  line_asked h a line step is asked =
      controller_cases (λ (s : Step). Asked (h ++ marked a s ∷ []))
      (λ x y. grows h (marked a (steps.Cut x y) ∷ []) asked tt (tt, tt))
      (λ x y. grows h (marked a (steps.Heal x y) ∷ []) asked tt (tt, tt))
      (λ x. grows h (marked a (steps.Armed x.actor x.kind x.at) ∷ []) asked tt (tt, tt)) line step is

  -- each run

  module _ (script : Script) (fits : ℕ → List Record → Type 0) where
    pub run_asked : (h : List Entry) (open_inputs : List Bool)
        → RunsWithFalls (IsLawfulWithFalls decl) fits decl script h open_inputs → Kept h → Asked h
    run_asked h open_inputs begins kept = record { all = tt; puts = tt }
    run_asked h open_inputs (takes a g before older run free rdy) kept =
        grows older (marked a (step_of g) ∷ []) (run_asked older before run (kept_part older _ kept))
        (input_silent older a g) (input_puts (Put (mail older)) g, tt)
    run_asked h open_inputs (posts a turn before older run taken law) kept =
        let asked : Asked older = run_asked older before run (kept_part older _ kept) in
        turn_asked older a (length (mail older)) turn asked
        (lawful_asks decl (IsRequested (mail older)) a (deeds a [] older) turn (told_in a older asked) law)
    run_asked h open_inputs (phase before older run none done quiet further) kept =
        grows older (marked (controller decl) (steps.Phase (phase_of older + 1)) ∷ [])
        (run_asked older before run (kept_part older _ kept)) tt (tt, tt)
    run_asked h open_inputs (control line lines step before older run left is) kept =
        line_asked older (controller decl) line step is (run_asked older before run (kept_part older _ kept))
    run_asked h open_inputs (falls a lines before older run left) kept =
        grows older (marked a (steps.Fell causes.Script None) ∷ [])
        (run_asked older before run (kept_part older _ kept)) tt (tt, tt)
    run_asked h open_inputs (rises a back turn lines before older run left fit has law) kept =
        let post : List Entry = by a (posted_as turn.append (length (mail older)) turn) in
        let asked : Asked older = run_asked older before run
        (kept_part older (marked a (steps.Rose back) ∷ post) kept) in
        let such : Every (Put (mail older)) back =
        given_such (Put (mail older)) a older back asked.puts (kept older post (marked a (steps.Rose back)) refl) in
        let risen : Asked (older ++ marked a (steps.Rose back) ∷ []) =
        grows older (marked a (steps.Rose back) ∷ []) asked tt (such, tt) in
        subst Asked (append_assoc older (marked a (steps.Rose back) ∷ []) post)
        (turn_asked (older ++ marked a (steps.Rose back) ∷ []) a (length (mail older)) turn risen
        (lawful_asks decl (IsRequested (mail (older ++ marked a (steps.Rose back) ∷ []))) a
        (deeds a [] (older ++ marked a (steps.Rose back) ∷ [])) turn
        (told_in a (older ++ marked a (steps.Rose back) ∷ []) risen) law))
    run_asked h open_inputs (damaged a offset lines before older run left) kept =
        grows older (marked a (steps.Damaged offset) ∷ []) (run_asked older before run (kept_part older _ kept)) tt
        (tt, tt)
    run_asked h open_inputs (unopened a cause lines before older run left disk) kept =
        grows older (marked a (steps.Fell cause None) ∷ []) (run_asked older before run (kept_part older _ kept)) tt
        (tt, tt)
