-- In a run with falls nobody tells of an epoch without a plan, nor writes a record of one, where nobody rises with one.
use Rattle.std.proofs.Common.{[], ◌≡◌, ℕ, ◌+◌, ◌==◌, Bool, true, false, cond, List, ◌∷◌, ◌++◌, length, Option}
use Rattle.std.proofs.Common.{Some, None, slice_get, refl, sym, subst, append_assoc}
use Rattle.std.specs.Prelude.{option_to_list}
use Rattle.std.specs.List.{AllByRecursion as Every}
use Rattle.qc_core.specs.Vocabulary.{IsLawfulWithFalls}
use Rattle.laws_turns.specs.Vocabulary.{AsksDeclared}
use Rattle.laws_turns.proofs.SoundClients.{IsAskableDeed}
use Rattle.laws_due.proofs.Commanded.{run_askable}
use Rattle.qc_decl.specs.Vocabulary.{controller}
use Rattle.qc_decl.specs.declared.declaration.Declaration.{Declaration}
use Rattle.qc_mailbox.proofs.Keeping.{same_mail}
use Rattle.qc_msg.specs.declared.message.Envelope.{Envelope}
use Rattle.qc_msg.specs.declared.record.Record.{Record}
use Rattle.qc_msg.specs.declared.step.Control.{Control}
use Rattle.qc_msg.specs.declared.step.Fall.TheVariants as causes
use Rattle.qc_msg.specs.declared.step.Step.{Step}
use Rattle.qc_msg.specs.declared.step.Step.TheVariants as steps
use Rattle.qc_msg.specs.declared.turn.Turn.{Turn}
use Rattle.qc_msg.specs.Vocabulary.{Entry, Rises, by, deed_at, deeds, envelope_of, first_epoch, heard, mail, marked}
use Rattle.qc_msg.specs.Vocabulary.{posted_as, sends_as, Deed}
use Rattle.qc_msg.proofs.GrownMail.{mail-append, mail-taken}
use Rattle.qc_msg.proofs.Growth.{mail-posted_as}
use Rattle.qc_script.specs.Vocabulary.{RunsWithFalls, begins, control, controller_step, damaged, falls, phase, phase_of}
use Rattle.qc_script.specs.Vocabulary.{posts, rises, takes, unopened}
use Rattle.qc_script.specs.declared.script.Script.{Script}
use Rattle.laws_due.specs.Vocabulary.{AllRisePlanned, IsPlanned, RisesPlanned}
use Rattle.laws_due.proofs.Epochs.{TellPlanned, TellsPlanned}
use Rattle.laws_due.proofs.PlannedMail.{IsMailPlanned, deeds_planned, envelopes_planned}
use Rattle.laws_due.proofs.ActorsPlanned.{RisesOfPlanned, lawful_sends}
use Rattle.laws_turns.proofs.StepCases.{controller_cases, deed_cases}
use Rattle.qc_list.proofs.Members.{every-append}
use Rattle.qc_msg.proofs.DeedsGrow.{deeds-rise}

-- the deeds of a history in which nobody rises with an epoch without a plan

heard_risen : (decl : Declaration) (o : Option Envelope) → Every (RisesOfPlanned decl) (heard o)
heard_risen decl None = tt
heard_risen decl (Some e) = (tt, tt)

step_risen : (decl : Declaration) (ms : List Envelope) (step : Step) → RisesPlanned decl step
    → Every (RisesOfPlanned decl) (deed_at ms step)
step_risen decl ms step is =
    deed_cases ms (λ (s : Step) (ds : List Deed). RisesPlanned decl s → Every (RisesOfPlanned decl) ds)
    (λ s w m r planned. tt) (λ command planned. (tt, tt)) (λ n planned. heard_risen decl (slice_get ms n))
    (λ n planned. (tt, tt)) (λ written planned. (tt, tt)) (λ n to message planned. (tt, tt))
    (λ reply planned. (tt, tt)) (λ cause pending planned. (tt, tt)) (λ records planned. (planned, tt)) step is

mine_risen : (decl : Declaration) (mine : Bool) (ms : List Envelope) (step : Step) → RisesPlanned decl step
    → Every (RisesOfPlanned decl) (cond mine (deed_at ms step) [])
mine_risen decl true ms step is = step_risen decl ms step is
mine_risen decl false ms step is = tt

pub deeds_risen : (decl : Declaration) (a : ℕ) (ms : List Envelope) (h : List Entry) → AllRisePlanned decl h
    → Every (RisesOfPlanned decl) (deeds a ms h)
deeds_risen decl a ms [] all = tt
deeds_risen decl a ms (e ∷ h) all =
    every-append (RisesOfPlanned decl) (cond (e.actor == a) (deed_at ms e.step) [])
    (deeds a (ms ++ option_to_list (envelope_of e)) h) (mine_risen decl (e.actor == a) ms e.step all.0)
    (deeds_risen decl a (ms ++ option_to_list (envelope_of e)) h all.1)

pub part_risen : (decl : Declaration) (h k : List Entry) → AllRisePlanned decl (h ++ k) → AllRisePlanned decl h
part_risen decl [] k all = tt
part_risen decl (e ∷ h) k all = (all.0, part_risen decl h k all.1)

-- a rise asks for nothing
pub rise_askable : (decl : Declaration) (a : ℕ) (h : List Entry) (kept : List Record)
    → Every (IsAskableDeed decl a) (deeds a [] h)
    → Every (IsAskableDeed decl a) (deeds a [] (h ++ marked a (steps.Rose kept) ∷ []))
rise_askable decl a h kept all =
    subst (Every (IsAskableDeed decl a)) (sym (deeds-rise a h kept))
    (every-append (IsAskableDeed decl a) (deeds a [] h) (Rises kept ∷ []) all (tt, tt))

-- each run

module _ (decl : Declaration) (first : IsPlanned decl first_epoch) (script : Script) (fits : ℕ → List Record → Type 0)
    (asks : AsksDeclared decl script) where
  abbrev IsRun : List Entry → List Bool → Type 0
  IsRun h open_inputs = RunsWithFalls (IsLawfulWithFalls decl) fits decl script h open_inputs

  still : (h : List Entry) (e : Entry) → envelope_of e ≡ None → IsMailPlanned decl (mail h)
      → IsMailPlanned decl (mail (h ++ e ∷ []))
  still h e none planned = subst (IsMailPlanned decl) (sym (same_mail h e none)) planned

  line_still : (a : ℕ) (line : Control) (step : Step) → controller_step line ≡ Some step → (h : List Entry)
      → IsMailPlanned decl (mail h) → IsMailPlanned decl (mail (h ++ marked a step ∷ []))
  line_still a line step is h planned =
      controller_cases (λ (s : Step). IsMailPlanned decl (mail (h ++ marked a s ∷ [])))
      (λ x y. still h (marked a (steps.Cut x y)) refl planned)
      (λ x y. still h (marked a (steps.Heal x y)) refl planned)
      (λ x. still h (marked a (steps.Armed x.actor x.kind x.at)) refl planned) line step is

  posted_mail : (a n : ℕ) (turn : Turn) (h : List Entry) → TellPlanned decl (sends_as turn.append turn)
      → IsMailPlanned decl (mail h) → IsMailPlanned decl (mail h ++ mail (by a (posted_as turn.append n turn)))
  posted_mail a n turn h sends planned =
      every-append (λ (e : Envelope). TellsPlanned decl e.message) (mail h) (mail (by a (posted_as turn.append n turn)))
      planned
      (subst (IsMailPlanned decl) (sym (mail-posted_as turn.append a n turn))
      (envelopes_planned decl a n (sends_as turn.append turn) sends))

  pub run_planned : (h : List Entry) (open_inputs : List Bool) → IsRun h open_inputs → AllRisePlanned decl h
      → IsMailPlanned decl (mail h)
  run_planned h open_inputs begins all = tt
  run_planned h open_inputs (takes a g before older run free rdy) all =
      subst (IsMailPlanned decl) (sym (mail-taken older a g))
      (run_planned older before run (part_risen decl older _ all))
  run_planned h open_inputs (posts a turn before older run taken law) all =
      subst (IsMailPlanned decl) (sym (mail-append older (by a (posted_as turn.append (length (mail older)) turn))))
      (posted_mail a (length (mail older)) turn older
      (lawful_sends decl first a (deeds a [] older) turn
      (deeds_planned decl a [] older tt (run_planned older before run (part_risen decl older _ all)))
      (deeds_risen decl a [] older
      (part_risen decl older (by a (posted_as turn.append (length (mail older)) turn)) all))
      (run_askable (IsLawfulWithFalls decl) fits decl script asks older before run a) law)
      (run_planned older before run
      (part_risen decl older (by a (posted_as turn.append (length (mail older)) turn)) all)))
  run_planned h open_inputs (phase before older run none done all_quiet more) all =
      still older (marked (controller decl) (steps.Phase (phase_of older + 1))) refl
      (run_planned older before run (part_risen decl older _ all))
  run_planned h open_inputs (control line lines step before older run left is) all =
      line_still (controller decl) line step is older (run_planned older before run (part_risen decl older _ all))
  run_planned h open_inputs (falls a lines before older run left) all =
      still older (marked a (steps.Fell causes.Script None)) refl
      (run_planned older before run (part_risen decl older _ all))
  run_planned h open_inputs (rises a kept turn lines before older run left fit has law) all =
      subst (IsMailPlanned decl)
      (sym (mail-append older (by a (steps.Rose kept ∷ posted_as turn.append (length (mail older)) turn))))
      (posted_mail a (length (mail older)) turn older
      (lawful_sends decl first a (deeds a [] (older ++ marked a (steps.Rose kept) ∷ [])) turn
      (deeds_planned decl a [] (older ++ marked a (steps.Rose kept) ∷ []) tt
      (still older (marked a (steps.Rose kept)) refl (run_planned older before run (part_risen decl older _ all))))
      (deeds_risen decl a [] (older ++ marked a (steps.Rose kept) ∷ [])
      (part_risen decl (older ++ marked a (steps.Rose kept) ∷ [])
      (by a (posted_as turn.append (length (mail older)) turn))
      (subst (AllRisePlanned decl)
      (sym (append_assoc older (marked a (steps.Rose kept) ∷ [])
      (by a (posted_as turn.append (length (mail older)) turn)))) all)))
      (rise_askable decl a older kept (run_askable (IsLawfulWithFalls decl) fits decl script asks older before run a))
      law)
      (run_planned older before run (part_risen decl older _ all)))
  run_planned h open_inputs (damaged a offset lines before older run left) all =
      still older (marked a (steps.Damaged offset)) refl (run_planned older before run (part_risen decl older _ all))
  run_planned h open_inputs (unopened a cause lines before older run left disk) all =
      still older (marked a (steps.Fell cause None)) refl (run_planned older before run (part_risen decl older _ all))
