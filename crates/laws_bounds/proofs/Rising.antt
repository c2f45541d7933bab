-- What rises fits, where the conduct lets only records that fit rise; and what the calls of a rise ask holds of such.
use Rattle.std.proofs.Common.{◌≡◌, ℕ, ◌+◌, ◌-◌, ◌^◌, ◌<◌, ◌≤◌, Bool, List, [], ◌∷◌, ◌++◌, length, Option, Some, None}
use Rattle.std.proofs.Common.{sym, ap, ◌∙◌, subst, arith}
use Rattle.std.specs.List.{AllByRecursion as Every}
use Rattle.qc_list.specs.Vocabulary.{In}
use Rattle.qc_list.proofs.Members.{every-In, every-append}
use Rattle.qc_core.specs.Vocabulary.{ActorMove, AsksFew, IsLawfulWithFalls, actor_after, actor_rises, with_record}
use Rattle.qc_core.proofs.PostsByTurns.{called_turn}
use Rattle.qc_core.proofs.LivesOfActors.{rises as after_rises}
use Rattle.qc_decl.specs.Vocabulary.{IsAccepted, controller, most_clients, most_steps}
use Rattle.qc_decl.specs.declared.declaration.Declaration.{Declaration}
use Rattle.qc_entry.specs.declared.record.Prepared.{Prepared}
use Rattle.qc_fit.specs.Vocabulary.{IsFit, most_records}
use Rattle.qc_fit.proofs.Words.{fits_is_as_said}
use Rattle.qc_msg.specs.declared.record.Record.{Record}
use Rattle.qc_msg.specs.declared.record.Record.TheVariants as records
use Rattle.qc_msg.specs.declared.step.Control.{Control}
use Rattle.qc_msg.specs.declared.step.Input.{Input}
use Rattle.qc_msg.specs.declared.step.Step.{Step}
use Rattle.qc_msg.specs.declared.step.Step.TheVariants as steps
use Rattle.qc_msg.specs.declared.turn.Appended.{Appended}
use Rattle.qc_msg.specs.declared.turn.Turn.{Turn}
use Rattle.qc_msg.specs.Vocabulary.{Deed, Entry, Rises, by, mail, marked, posted_as, step_of, damaged_in, rose_in}
use Rattle.qc_msg.proofs.GrownMail.{length-mail}
use Rattle.qc_script.specs.Vocabulary.{RunsWithFalls, begins, control, controller_step, damaged, falls, phase, posts}
use Rattle.qc_script.specs.Vocabulary.{rises, takes, unopened}
use Rattle.qc_script.specs.declared.script.Script.{Script}
use Rattle.laws_bounds.specs.Vocabulary.{AllFit, AllRiseFit, IsOfClient, IsRisingShort, PromisesDeclared, risen_at}
use Rattle.laws_bounds.proofs.FitBounds.{fit_clients, fit_few}
use Rattle.laws_bounds.proofs.RisingTurns.{rising_asks_few, rising_short}
use Rattle.laws_bounds.proofs.Cases.{prepare_cases}
use Rattle.laws_bounds.proofs.StepCases.{line_cases}
use Rattle.std.specs.Prelude.{MatchOption, unwrap_or}
use Rattle.laws_bounds.proofs.Posts.{IsActing, acting_cases, every_by, input_acting, posts_acting}

-- in a run only what the conduct lets rise does

module _ (decl : Declaration) where
  acting_rise : (a : ℕ) (s : Step) → IsActing s → AllFit decl a 0 (risen_at s)
  acting_rise a s acts = by (rose_in s) (acting_cases s acts)
    where
      by : (o : Option (List Record))
          → MatchOption o (MatchOption (damaged_in s) (Unit {0}) (λ (offset : ℕ). ⊥)) (λ (rs : List Record). ⊥)
          → AllFit decl a 0 (unwrap_or o [])
      by None is = tt
      by (Some rs) never = absurd never

  post_rise : (a n : ℕ) (end : Appended) (t : Turn) → AllRiseFit decl (by a (posted_as end n t))
  post_rise a n end t =
      every_by (λ (e : Entry). AllFit decl e.actor 0 (risen_at e.step)) IsActing a (acting_rise a) (posted_as end n t)
      (posts_acting end n t)

  input_rise : (a : ℕ) (g : Input) → AllRiseFit decl (by a (step_of g ∷ []))
  input_rise a g = (acting_rise a (step_of g) (input_acting g), tt)

  line_rise : (a : ℕ) (line : Control) (step : Step) → controller_step line ≡ Some step
      → AllRiseFit decl (by a (step ∷ []))
  line_rise a =
      line_cases (λ line step. AllRiseFit decl (by a (step ∷ []))) (λ x y. (tt, tt)) (λ x y. (tt, tt))
      (λ actor kind at. (tt, tt))

  more : (h k : List Entry) → AllRiseFit decl h → AllRiseFit decl k → AllRiseFit decl (h ++ k)
  more h k first second = every-append (λ (e : Entry). AllFit decl e.actor 0 (risen_at e.step)) h k first second

  module _ (script : Script) (fits : ℕ → List Record → Type 0)
      (let_rise : (a : ℕ) (rs : List Record) → fits a rs → AllFit decl a 0 rs) where
    pub run_rises_fit : (h : List Entry) (open_inputs : List Bool)
        → RunsWithFalls (IsLawfulWithFalls decl) fits decl script h open_inputs → AllRiseFit decl h
    run_rises_fit h open_inputs begins = tt
    run_rises_fit h open_inputs (takes a g before older run free rdy) =
        more older _ (run_rises_fit older before run) (input_rise a g)
    run_rises_fit h open_inputs (posts a turn before older run taken law) =
        more older (by a (posted_as turn.append (length (mail older)) turn)) (run_rises_fit older before run)
        (post_rise a (length (mail older)) turn.append turn)
    run_rises_fit h open_inputs (phase before older run none done calm further) =
        more older _ (run_rises_fit older before run) (tt, tt)
    run_rises_fit h open_inputs (control line lines step before older run left is) =
        more older _ (run_rises_fit older before run) (line_rise (controller decl) line step is)
    run_rises_fit h open_inputs (falls a lines before older run left) =
        more older _ (run_rises_fit older before run) (tt, tt)
    run_rises_fit h open_inputs (rises a rs turn lines before older run left fit has law) =
        more older (marked a (steps.Rose rs) ∷ by a (posted_as turn.append (length (mail older)) turn))
        (run_rises_fit older before run)
        (let_rise a rs fit, post_rise a (length (mail older)) turn.append turn)
    run_rises_fit h open_inputs (damaged a offset lines before older run left) =
        more older _ (run_rises_fit older before run) (tt, tt)
    run_rises_fit h open_inputs (unopened a cause lines before older run left disk) =
        more older _ (run_rises_fit older before run) (tt, tt)

-- what a rise asks

pub few_records : (decl : Declaration) (a : ℕ) (rs : List Record) → AllFit decl a 0 rs → length rs < 2 ^ 32 - 2
few_records decl a rs fit =
    (let few : 0 + length rs ≤ most_records = fit_few decl a 0 rs (omega arith) fit in omega arith)

pub promised_clients : (decl : Declaration) (a : ℕ) (rs : List Record) (p : Prepared) → IsAccepted decl
    → AllFit decl a 0 rs → In (records.Prepare p) rs → p.tx.client < most_clients
promised_clients decl a rs p accepted fit among =
    every-In IsOfClient (records.Prepare p) rs (fit_clients decl a 0 rs accepted.clients fit) among

-- its turn

module _ (decl : Declaration) (a : ℕ) where
  record_declared : (before : ℕ) (r : Record) → IsFit decl a before r → PromisesDeclared decl r
  record_declared before =
      prepare_cases (IsFit decl a before) (λ (p : Prepared). p.tx.client < decl.clients) (λ p fit. fit.clients.0)

  all_declared : (before : ℕ) (rs : List Record) → AllFit decl a before rs → Every (PromisesDeclared decl) rs
  all_declared before [] fit = tt
  all_declared before (r ∷ rs) fit =
      (record_declared before r ((fits_is_as_said decl a before r).0 fit.0), all_declared (before + 1) rs fit.1)

  pub risen_turn_short : (ds : List Deed) (rs : List Record) (turn : Turn) → AllFit decl a 0 rs
      → IsLawfulWithFalls decl a (ds ++ Rises rs ∷ []) turn → IsRisingShort decl rs turn
  risen_turn_short ds rs turn fit law =
      let same : (actor_rises decl a rs).turn ≡ with_record turn =
      ap (λ (m : ActorMove). m.turn) (sym (after_rises decl a ds rs))
      ∙ called_turn decl a (ds ++ Rises rs ∷ []) turn law in
      let short : IsRisingShort decl rs (with_record turn) =
      subst (IsRisingShort decl rs) same (rising_short decl a rs (all_declared 0 rs fit)) in
      record {
        few = short.few;
        bounded = short.bounded;
        receivers = short.receivers;
        failed_sends = short.failed_sends;
      }

  pub risen_asks_few : (ds : List Deed) (rs : List Record) → AsksFew (actor_after decl a (ds ++ Rises rs ∷ [])).actor
  risen_asks_few ds rs =
      subst (λ (m : ActorMove). AsksFew m.actor) (sym (after_rises decl a ds rs)) (rising_asks_few decl a rs)

  pub risen_numbers : (h : List Entry) (rs : List Record) → length h < most_steps → AllFit decl a 0 rs
      → length (mail h) + length rs < 2 ^ 32
  risen_numbers h rs short fit =
      (let low : length (mail h) ≤ length h = length-mail h in
      let few : 0 + length rs ≤ most_records = fit_few decl a 0 rs (omega arith) fit in omega arith)
