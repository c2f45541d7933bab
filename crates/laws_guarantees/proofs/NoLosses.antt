-- In a run of a script that loses nothing nobody takes that a request is lost, and no account counts a loss.
use Rattle.std.proofs.Common.{[], ◌≡◌, ℕ, ◌+◌, ◌==◌, ◌⊎◌, inl, inr, Bool, true, false, List, ◌∷◌, ◌++◌, fold}
use Rattle.std.proofs.Common.{length, Option, Some, None, refl, sym, ap, ◌∙◌, subst, eqb-true}
use Rattle.std.specs.Prelude.{drop}
use Rattle.std.specs.List.{AllByRecursion as Every, find}
use Rattle.qc_list.specs.Vocabulary.{In}
use Rattle.qc_list.proofs.Members.{In-more, every-append}
use Rattle.qc_core.specs.Vocabulary.{IsLawful}
use Rattle.qc_decl.specs.Vocabulary.{controller}
use Rattle.qc_decl.specs.declared.declaration.Declaration.{Declaration}
use Rattle.qc_msg.specs.declared.message.Answer.{Answer}
use Rattle.qc_msg.specs.declared.message.Message.{Message}
use Rattle.qc_msg.specs.declared.record.Record.{Record}
use Rattle.qc_msg.specs.declared.step.Input.{Input}
use Rattle.qc_msg.specs.declared.step.Input.TheVariants as inputs
use Rattle.qc_msg.specs.declared.step.Step.TheVariants as steps
use Rattle.qc_msg.specs.Vocabulary.{Deed, Entry, Falls, Rises, Sends, Takes, Tells, Writes, by, deeds, mail, marked}
use Rattle.qc_msg.specs.Vocabulary.{posted, step_of, turn_deeds}
use Rattle.qc_msg.proofs.DeedsGrow.{deeds-other}
use Rattle.qc_msg.proofs.Growth.{deeds-posted, deeds-taken}
use Rattle.qc_script.specs.Vocabulary.{Runs, inbox, phase_of}
use Rattle.qc_script.specs.Runs.{begins, takes, posts, phase, control}
use Rattle.qc_script.specs.declared.script.Script.{Script}
use Rattle.laws_turns.proofs.Acted.{deeds-silent}
use Rattle.laws_turns.proofs.Arrivals.{what_is_ready_was_sent}
use Rattle.laws_turns.proofs.ReadyFirst.{ready_loss}
use Rattle.laws_turns.proofs.Numbered.{control_silent, phase_silent}
use Rattle.qc_promise.specs.Vocabulary.{Account, ClientRequest, account_at, account_fallen, account_heard, account_sent}
use Rattle.qc_promise.specs.Vocabulary.{account_taken, account_with, account_written, counted, counted_for, is_open}
use Rattle.qc_promise.specs.Vocabulary.{taken_for}
use Rattle.laws_turns.proofs.Bounding.{turn-posts}
use Rattle.laws_turns.proofs.ClientsWithin.{IsPost}
use Rattle.laws_guarantees.specs.Vocabulary.{Arrives, IsLossless}
use Rattle.laws_guarantees.proofs.Accounts.{IsTakenNow, after_taken, told_requests}
use Rattle.laws_guarantees.proofs.Passing.{no_request_is_lost}
use Rattle.laws_guarantees.proofs.AccountCases.{heard_cases, sent_cases}
use Rattle.laws_due.proofs.AccountCases.{written_cases}

-- nothing that an account counts is a loss, where no loss was taken

abbrev pub IsNoLoss : Deed → Type 0
IsNoLoss (Takes (inputs.Called command)) = Unit {0}
IsNoLoss (Takes (inputs.Got e)) = Unit {0}
IsNoLoss (Takes (inputs.Lost n)) = ⊥
IsNoLoss (Writes written) = Unit {0}
IsNoLoss (Sends n to m) = Unit {0}
IsNoLoss (Tells reply) = Unit {0}
IsNoLoss (Falls cause pending) = Unit {0}
IsNoLoss (Rises records) = Unit {0}

abbrev pub NoneLost : Account → Type 0
NoneLost d = (q : ClientRequest) → In q d.requests → q.taken ≡ Some None → ⊥

counted_lost : (d : Account) (n : ℕ) (answer : Answer) → NoneLost d → NoneLost (counted d n (Some answer))
counted_lost d n answer none q among is = by (find (is_open n) d.requests) among
  where
    taken : In q d.requests ⊎ IsTakenNow d.requests n (Some answer) q → ⊥
    taken (inl old) = none q old is
    taken (inr now) =
        let new : q.taken ≡ Some (Some answer) = ap (λ (y : ClientRequest). y.taken) now.is in
        let never : ⊥ = cc in never

    by : (o : Option ClientRequest) → In q (counted_for d n (Some answer) o).requests → ⊥
    by None there = none q there is
    by (Some p) there =
        taken (after_taken n (Some answer) q d.requests
        (subst (In q) (told_requests (record d { requests = taken_for n (Some answer) d.requests }) p (Some answer)).0
        there))

heard_lost : (d : Account) (m : Message) → NoneLost d → NoneLost (account_heard d m)
heard_lost d m none = heard_cases d (λ m e. NoneLost e) (λ m. none) (λ to answer. counted_lost d to answer none) m

written_lost : (d : Account) (w : Record) → NoneLost d → NoneLost (account_written d w)
written_lost d w none = written_cases d NoneLost none none (λ commit. none) w

sent_lost : (decl : Declaration) (d : Account) (n to : ℕ) (m : Message) → NoneLost d
    → NoneLost (account_sent decl d n to m)
sent_lost decl d n to m none = sent_cases decl d n to (λ m e. NoneLost e) (λ m. none)
    (λ tx epoch life want asked q among is.
    elim (In-more q (record { number = n; site = to; life = life; want = want; taken = None }) d.requests among) [
      | inl old ↦ none q old is
      | inr new ↦
          (let fresh : q.taken ≡ None = ap (λ (y : ClientRequest). y.taken) new in let never : ⊥ = cc in never)
    ]) m

pub lost_from : (decl : Declaration) (d : Account) (ds : List Deed) → Every IsNoLoss ds → NoneLost d
    → NoneLost (fold (account_at decl) d ds)
lost_from decl d [] all none = none
lost_from decl d (Takes (inputs.Called command) ∷ ds) all none =
    lost_from decl (account_taken d (inputs.Called command)) ds all.1 (λ q never is. never)
lost_from decl d (Takes (inputs.Got e) ∷ ds) all none =
    lost_from decl (account_heard d e.message) ds all.1 (heard_lost d e.message none)
lost_from decl d (Takes (inputs.Lost n) ∷ ds) all none = absurd all.0
lost_from decl d (Writes w ∷ ds) all none = lost_from decl (account_written d w) ds all.1 (written_lost d w none)
lost_from decl d (Sends n to m ∷ ds) all none =
    lost_from decl (account_sent decl d n to m) ds all.1 (sent_lost decl d n to m none)
lost_from decl d (Tells r ∷ ds) all none = lost_from decl (account_at decl d (Tells r)) ds all.1 (λ q never is. never)
lost_from decl d (Falls cause pending ∷ ds) all none = lost_from decl (account_fallen d) ds all.1 (λ q never is. never)
lost_from decl d (Rises kept ∷ ds) all none = lost_from decl (account_with d.client kept) ds all.1 (λ q never is. never)

post_lost : (ds : List Deed) → Every IsPost ds → Every IsNoLoss ds
post_lost [] all = tt
post_lost (Takes g ∷ ds) all = absurd all.0
post_lost (Writes written ∷ ds) all = (tt, post_lost ds all.1)
post_lost (Sends number to message ∷ ds) all = (tt, post_lost ds all.1)
post_lost (Tells reply ∷ ds) all = (tt, post_lost ds all.1)
post_lost (Falls cause pending ∷ ds) all = (tt, post_lost ds all.1)
post_lost (Rises records ∷ ds) all = (tt, post_lost ds all.1)

-- in a run of a script that loses nothing nobody takes that a request is lost

module _ (decl : Declaration) (script : Script) (calm : IsLossless script) where
  pub run_no_loss : (h : List Entry) (open_inputs : List Bool) → Runs (IsLawful decl) decl script h open_inputs
      → (a : ℕ)
      → Every IsNoLoss (deeds a [] h)
  run_no_loss h open_inputs begins a = tt
  run_no_loss h open_inputs (takes b g before older run free rdy) a = at (b == a) refl (run_no_loss older before run a)
    where
      given_it : (x : Input) → g ≡ x → IsNoLoss (Takes x)
      given_it (inputs.Called command) is = tt
      given_it (inputs.Got e) is = tt
      given_it (inputs.Lost n) is =
          let r : Arrives script b older = no_request_is_lost decl script older before calm run b in
          let none : (inbox script b older).lost ≡ [] = r.calm.lost in
          let lost : (inbox script b older).lost ≡ n ∷ drop 1 (inbox script b older).lost =
          ready_loss decl b (inbox script b older) n (rdy ∙ ap (λ (x : Input). Some x) is) in
          let never : ⊥ = cc in never

      at : (t : Bool) → (b == a) ≡ t → Every IsNoLoss (deeds a [] older)
          → Every IsNoLoss (deeds a [] (older ++ marked b (step_of g) ∷ []))
      at true same old =
          subst (λ (k : ℕ). Every IsNoLoss (deeds k [] (older ++ marked b (step_of g) ∷ []))) (eqb-true b a same)
          (subst (Every IsNoLoss)
          (sym (deeds-taken b older g
          (what_is_ready_was_sent (IsLawful decl) decl script older before run b g rdy)))
          (every-append IsNoLoss (deeds b [] older) (Takes g ∷ [])
          (subst (λ (k : ℕ). Every IsNoLoss (deeds k [] older)) (sym (eqb-true b a same)) old) (
            given_it g refl,
            tt,
          )))
      at false other old = subst (Every IsNoLoss) (sym (deeds-other b a [] older (step_of g ∷ []) other)) old
  run_no_loss h open_inputs (posts b turn before older run is_opened lawful) a =
      at (b == a) refl (run_no_loss older before run a)
    where
      at : (t : Bool) → (b == a) ≡ t → Every IsNoLoss (deeds a [] older)
          → Every IsNoLoss (deeds a [] (older ++ by b (posted (length (mail older)) turn)))
      at true same old =
          subst (λ (k : ℕ). Every IsNoLoss (deeds k [] (older ++ by b (posted (length (mail older)) turn))))
          (eqb-true b a same)
          (subst (Every IsNoLoss) (sym (deeds-posted b (length (mail older)) older turn))
          (every-append IsNoLoss (deeds b [] older) (turn_deeds (length (mail older)) turn)
          (subst (λ (k : ℕ). Every IsNoLoss (deeds k [] older)) (sym (eqb-true b a same)) old)
          (post_lost (turn_deeds (length (mail older)) turn) (turn-posts (length (mail older)) turn))))
      at false other old =
          subst (Every IsNoLoss) (sym (deeds-other b a [] older (posted (length (mail older)) turn) other)) old
  run_no_loss h open_inputs (phase before older run none done rests more) a =
      subst (Every IsNoLoss)
      (sym (deeds-silent a (controller decl) older (steps.Phase (phase_of older + 1))
      (phase_silent (phase_of older + 1)))) (run_no_loss older before run a)
  run_no_loss h open_inputs (control line lines step before older run left is) a =
      subst (Every IsNoLoss) (sym (deeds-silent a (controller decl) older step (control_silent line step is)))
      (run_no_loss older before run a)
