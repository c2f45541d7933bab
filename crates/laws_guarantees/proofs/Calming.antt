-- A run with falls in which nobody falls or rises, nothing is armed, and the administrator does nothing, is a run.
use Rattle.std.proofs.Common.{◌≡◌, ℕ, ◌<◌, ◌+◌, Bool, true, List, [], ◌∷◌, ◌++◌, Some, None, length, inl, inr}
use Rattle.std.proofs.Common.{slice_get, refl, sym, ap, ◌∙◌, subst, arith, length-append}
use Rattle.std.proofs.lemmas.Bool.{cases_lt}
use Rattle.qc_core.specs.Vocabulary.{Acts, AreSteady, IsLawful, IsLawfulWithFalls}
use Rattle.qc_core.specs.Acts as acts
use Rattle.qc_core.proofs.LivesOfActors.{same_turn}
use Rattle.qc_decl.specs.Vocabulary.{actors, administrator, controller}
use Rattle.qc_decl.specs.declared.declaration.Declaration.{Declaration}
use Rattle.laws_turns.specs.Vocabulary.{ActsIn, AreCalm, IsCalm}
use Rattle.laws_turns.proofs.Acted.{has_place, actors_take_and_post_by_turns}
use Rattle.laws_turns.proofs.Up.{run_up}
use Rattle.qc_msg.proofs.DeedsGrow.{deeds-append}
use Rattle.qc_msg.specs.declared.record.Record.{Record}
use Rattle.qc_msg.specs.declared.step.Control.{Control}
use Rattle.qc_msg.specs.declared.step.Control.TheVariants as controls
use Rattle.qc_msg.specs.declared.step.Fall.TheVariants as causes
use Rattle.qc_msg.specs.declared.step.Step.{Step}
use Rattle.qc_msg.specs.declared.step.Step.TheVariants as steps
use Rattle.qc_msg.specs.declared.turn.Appended.{Appended}
use Rattle.qc_msg.specs.declared.turn.Appended.TheVariants.{Done, Failed, Stopped}
use Rattle.qc_msg.specs.declared.turn.Turn.{Turn}
use Rattle.qc_msg.specs.Vocabulary.{Deed, Entry, Takes, by, deeds, mail, marked, posted_as, sents, step_of, told}
use Rattle.qc_script.specs.Vocabulary.{Runs, RunsWithFalls, controller_step, step_of_control}
use Rattle.qc_script.specs.Runs as runs
use Rattle.qc_script.specs.RunsWithFalls as falling
use Rattle.qc_script.specs.declared.script.Script.{Script}

-- parts of a calm history

abbrev IsCalmEntry : Entry → Type 0
IsCalmEntry e = IsCalm e.step

first_calm : (xs ys : List Entry) → AreCalm (xs ++ ys) → AreCalm xs
first_calm [] ys calm = tt
first_calm (x ∷ xs) ys calm = (calm.0, first_calm xs ys calm.1)

rest_calm : (xs ys : List Entry) → AreCalm (xs ++ ys) → AreCalm ys
rest_calm [] ys calm = calm
rest_calm (x ∷ xs) ys calm = rest_calm xs ys calm.1

-- an actor's steps of which one isn't calm

abbrev HasFall : ℕ → List Step → Type 0
HasFall a steps = AreCalm (by a steps) → ⊥

behind : (a : ℕ) (xs ys : List Step) → HasFall a ys → HasFall a (xs ++ ys)
behind a [] ys falls calm = falls calm
behind a (x ∷ xs) ys falls calm = behind a xs ys falls calm.1

post_written : (end : Appended) (a n : ℕ) (turn : Turn) → AreCalm (by a (posted_as end n turn)) → end ≡ Done
post_written Done a n turn calm = refl
post_written Failed a n turn calm =
    absurd (behind a (sents n turn.failed_sends) (told turn.failed_told ++ steps.Fell causes.Disk turn.write ∷ [])
    (behind a (told turn.failed_told) (steps.Fell causes.Disk turn.write ∷ []) (λ c. c.0)) calm)
post_written Stopped a n turn calm =
    absurd (behind a (told turn.failed_told) (steps.Fell causes.Stop turn.write ∷ []) (λ c. c.0) calm)

pub lawful_alone : (decl : Declaration) (a : ℕ) (ds : List Deed) (turn : Turn) → AreSteady ds → a < administrator decl
    → turn.append ≡ Done → IsLawfulWithFalls decl a ds turn → IsLawful decl a ds turn
lawful_alone decl a ds turn steady low done law =
    sym (same_turn decl a ds steady low) ∙ law.called_for
    ∙ ap (λ (x : Appended). Some (record turn { append = x })) (sym done)

calm_control : (line : Control) (step : Step) → IsCalm step → controller_step line ≡ Some step
    → step_of_control line ≡ Some step
calm_control (controls.Phase k) step calm is = is
calm_control (controls.Cut a b) step calm is = is
calm_control (controls.Heal a b) step calm is = is
calm_control (controls.Armed actor kind at) step calm is =
    absurd (subst IsCalm (let same : step ≡ steps.Armed actor kind at = cc in same) calm)
calm_control (controls.Crash a) step calm is = is
calm_control (controls.Restart a) step calm is = is

-- the administrator did nothing before either

none_first : (xs ys : List Deed) → xs ++ ys ≡ [] → xs ≡ []
none_first [] ys is = refl
none_first (x ∷ xs) ys is = let never : ⊥ = cc in absurd never

idle_before : (decl : Declaration) (h k : List Entry) → deeds (administrator decl) [] (h ++ k) ≡ []
    → deeds (administrator decl) [] h ≡ []
idle_before decl h k none = none_first (deeds (administrator decl) [] h) (deeds (administrator decl) (mail h) k)
    (sym (deeds-append (administrator decl) [] h k) ∙ none)

-- who has an open input has taken one
no_input : (decl : Declaration) (a : ℕ) (ds : List Deed) (n : ℕ) → Acts decl a ds true n → ds ≡ [] → ⊥
no_input decl a ds n (acts.takes before given m first may) is =
    let none : length (before ++ Takes given ∷ []) ≡ 0 = ap (λ (ds : List Deed). length ds) is in
    let long : length (before ++ Takes given ∷ []) ≡ length before + 1 = length-append before (Takes given ∷ []) in
    omega arith

module _ (fits : ℕ → List Record → Type 0) (decl : Declaration) (script : Script) where
  -- who posts isn't the administrator
  pub posts_low : (a : ℕ) (older : List Entry) (before : List Bool) → Runs (IsLawful decl) decl script older before
      → slice_get before a ≡ Some true → deeds (administrator decl) [] older ≡ [] → a < administrator decl
  posts_low a older before run taken idle = elim (cases_lt a (administrator decl)) [
    | inl low ↦ low
    | inr past ↦ (let within : a < actors decl = has_place (IsLawful decl) decl script older before run a true taken in
        let at : a ≡ administrator decl = omega arith in
        let its : ActsIn decl a older true = actors_take_and_post_by_turns decl script older before run a true taken in
        absurd (no_input decl a (deeds a [] older) its.above its.acts (ap (λ (b : ℕ). deeds b [] older) at ∙ idle)))
  ]

  pub runs_in_which_nobody_falls_are_runs : (h : List Entry) (open_inputs : List Bool)
      → RunsWithFalls (IsLawfulWithFalls decl) fits decl script h open_inputs
      → AreCalm h → deeds (administrator decl) [] h ≡ [] → Runs (IsLawful decl) decl script h open_inputs
  runs_in_which_nobody_falls_are_runs h open_inputs falling.begins calm idle = runs.begins
  runs_in_which_nobody_falls_are_runs h open_inputs (falling.takes a given before older run free ready) calm idle =
      runs.takes a given before older (runs_in_which_nobody_falls_are_runs older before run
      (first_calm older (marked a (step_of given) ∷ []) calm) (idle_before decl older _ idle)) free ready
  runs_in_which_nobody_falls_are_runs h open_inputs (falling.posts a turn before older run taken law) calm idle =
      let n : ℕ = length (mail older) in
      let so_far : Runs (IsLawful decl) decl script older before =
      runs_in_which_nobody_falls_are_runs older before run
      (first_calm older (by a (posted_as turn.append (length (mail older)) turn)) calm)
      (idle_before decl older _ idle) in
      let done : turn.append ≡ Done = post_written turn.append a (length (mail older)) turn
      (rest_calm older (by a (posted_as turn.append (length (mail older)) turn)) calm) in
      subst (λ (end : Appended). Runs (IsLawful decl) decl script
      (older ++ by a (posted_as end (length (mail older)) turn)) open_inputs) (sym done)
      (runs.posts a turn before older so_far taken
      (lawful_alone decl a (deeds a [] older) turn (run_up (IsLawful decl) decl script older before so_far a)
      (posts_low a older before so_far taken (idle_before decl older _ idle)) done law))
  runs_in_which_nobody_falls_are_runs h open_inputs (falling.phase before older run none acted quiet more) calm idle =
      runs.phase before older (runs_in_which_nobody_falls_are_runs older before run (first_calm older _ calm)
      (idle_before decl older _ idle)) none acted quiet more
  runs_in_which_nobody_falls_are_runs h open_inputs
      (falling.control line lines step before older run left is_step) calm idle =
      runs.control line lines step before older
      (runs_in_which_nobody_falls_are_runs older before run
      (first_calm older (marked (controller decl) step ∷ []) calm) (idle_before decl older _ idle)) left
      (calm_control line step (rest_calm older (marked (controller decl) step ∷ []) calm).0 is_step)
  runs_in_which_nobody_falls_are_runs h open_inputs (falling.falls a lines before older run left) calm idle =
      absurd (rest_calm older (marked a (steps.Fell causes.Script None) ∷ []) calm).0
  runs_in_which_nobody_falls_are_runs h open_inputs
      (falling.rises a records turn lines before older run left fit has law) calm idle =
      absurd (rest_calm older (by a (steps.Rose records ∷ posted_as turn.append (length (mail older)) turn)) calm).0
  runs_in_which_nobody_falls_are_runs h open_inputs (falling.damaged a offset lines before older run left) calm idle =
      absurd (rest_calm older (marked a (steps.Damaged offset) ∷ []) calm).0
  runs_in_which_nobody_falls_are_runs h open_inputs
      (falling.unopened a cause lines before older run left disk) calm idle =
      absurd (rest_calm older (marked a (steps.Fell cause None) ∷ []) calm).0
