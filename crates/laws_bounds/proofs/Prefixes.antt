-- Before each entry that tells of damage stands a run.
use Rattle.std.proofs.Common.{◌≡◌, ℕ, Bool, List, [], ◌∷◌, ◌++◌, length, Some, sym, ◌∙◌, ap, subst, append-nil}
use Rattle.std.specs.List.{AllByRecursion as Every}
use Rattle.qc_decl.specs.Vocabulary.{controller}
use Rattle.qc_decl.specs.declared.declaration.Declaration.{Declaration}
use Rattle.qc_msg.specs.declared.record.Record.{Record}
use Rattle.qc_msg.specs.declared.step.Control.{Control}
use Rattle.qc_msg.specs.declared.step.Step.{Step}
use Rattle.qc_msg.specs.declared.step.Step.TheVariants as steps
use Rattle.qc_msg.specs.declared.turn.Turn.{Turn}
use Rattle.qc_msg.specs.Vocabulary.{Deed, Entry, by, mail, marked, posted_as, step_of, damaged_in, rose_in}
use Rattle.qc_script.specs.Vocabulary.{RunWithFalls, RunsWithFalls, begins, control, controller_step, damaged, falls}
use Rattle.qc_script.specs.Vocabulary.{phase, posts, rises, takes, unopened}
use Rattle.qc_script.specs.declared.script.Script.{Script}
use Rattle.laws_bounds.proofs.Cuts.{CutIn, cut_in, every_at_cut, in_first, in_second, none_cut, the_one}
use Rattle.laws_bounds.proofs.Posts.{IsActing, every_by, input_acting, posts_acting, acting_cases}
use Rattle.std.specs.Prelude.{MatchOption, Option, None}
use Rattle.laws_bounds.proofs.StepCases.{line_cases}

abbrev IsUndamaged : Step → Type 0
IsUndamaged step = MatchOption (damaged_in step) (Unit {0}) (λ (offset : ℕ). ⊥)

abbrev AreUndamaged : List Entry → Type 0
AreUndamaged h = Every (λ (e : Entry). IsUndamaged e.step) h

acting_undamaged : (s : Step) → IsActing s → IsUndamaged s
acting_undamaged s acts =
    by (rose_in s) (acting_cases s acts)
  where
    by : (o : Option (List Record)) → MatchOption o (IsUndamaged s) (λ (rs : List Record). ⊥) → IsUndamaged s
    by None is = is
    by (Some rs) never = absurd never

line_undamaged : (line : Control) (step : Step) → controller_step line ≡ Some step → IsUndamaged step
line_undamaged =
    line_cases (λ line step. IsUndamaged step) (λ x y. tt) (λ x y. tt) (λ actor kind at. tt)

posts_undamaged : (a n : ℕ) (turn : Turn) → AreUndamaged (by a (posted_as turn.append n turn))
posts_undamaged a n turn =
    every_by (λ (e : Entry). IsUndamaged e.step) IsActing a acting_undamaged (posted_as turn.append n turn)
    (posts_acting turn.append n turn)

module _ (lawful : ℕ → List Deed → Turn → Type 0) (fits : ℕ → List Record → Type 0) (decl : Declaration)
    (script : Script) (before : List Entry) (e : Entry) (offset : ℕ) (found : e.step ≡ steps.Damaged offset) where
  abbrev IsRunBefore : List Entry → Type 0
  IsRunBefore h = (later : List Entry) → before ++ e ∷ later ≡ h → RunWithFalls lawful fits decl script before

  earlier : (h more : List Entry) → AreUndamaged more → IsRunBefore h → IsRunBefore (h ++ more)
  earlier h more none was later is = from (cut_in h more before later e is)
    where
      from : CutIn h more before later e → RunWithFalls lawful fits decl script before
      from (in_first rest part) = was rest part
      from (in_second front whole part) =
          absurd (subst IsUndamaged found
          (every_at_cut (λ (x : Entry). IsUndamaged x.step) front later e (subst AreUndamaged (sym part) none)))

  here : (h : List Entry) (x : Entry) (open_inputs : List Bool) → RunsWithFalls lawful fits decl script h open_inputs
      → IsRunBefore h → IsRunBefore (h ++ x ∷ [])
  here h x open_inputs run was later is = from (cut_in h (x ∷ []) before later e is)
    where
      from : CutIn h (x ∷ []) before later e → RunWithFalls lawful fits decl script before
      from (in_first rest part) = was rest part
      from (in_second front whole part) =
          let none : front ≡ [] = (the_one x front later e part).before_is in
          let same : h ≡ before = sym (whole ∙ ap (λ (l : List Entry). h ++ l) none ∙ append-nil h) in
          subst (RunWithFalls lawful fits decl script) same (open_inputs, run)

  pub run_before : (h : List Entry) (open_inputs : List Bool) → RunsWithFalls lawful fits decl script h open_inputs
      → IsRunBefore h
  run_before h open_inputs begins = λ later is. absurd (none_cut before later e is)
  run_before h open_inputs (takes a g inputs older run free rdy) =
      earlier older (marked a (step_of g) ∷ [])
      (acting_undamaged (step_of g) (input_acting g), tt) (run_before older inputs run)
  run_before h open_inputs (posts a turn inputs older run taken law) =
      earlier older (by a (posted_as turn.append (length (mail older)) turn))
      (posts_undamaged a (length (mail older)) turn) (run_before older inputs run)
  run_before h open_inputs (phase inputs older run none done calm further) =
      earlier older _ (tt, tt) (run_before older inputs run)
  run_before h open_inputs (control line lines step inputs older run left is) =
      earlier older (marked (controller decl) step ∷ []) (line_undamaged line step is, tt)
      (run_before older inputs run)
  run_before h open_inputs (falls a lines inputs older run left) =
      earlier older _ (tt, tt) (run_before older inputs run)
  run_before h open_inputs (rises a records turn lines inputs older run left fit has law) =
      earlier older (marked a (steps.Rose records) ∷ by a (posted_as turn.append (length (mail older)) turn))
      (tt, posts_undamaged a (length (mail older)) turn) (run_before older inputs run)
  run_before h open_inputs (damaged a gate lines inputs older run left) =
      here older (marked a (steps.Damaged gate)) inputs run (run_before older inputs run)
  run_before h open_inputs (unopened a cause lines inputs older run left disk) =
      earlier older _ (tt, tt) (run_before older inputs run)
