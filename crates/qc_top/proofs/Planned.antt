-- What rises fits its actor: so its records name epochs with plans.
use Rattle.std.proofs.Common.{ℕ, ◌+◌, List, [], ◌∷◌, Option, ap}
use Rattle.std.specs.Prelude.{is_some}
use Rattle.std.specs.List.{AllByRecursion as Every}
use Rattle.qc_list.proofs.Members.{every-weaker}
use Rattle.laws_due.specs.Vocabulary.{AllRisePlanned, IsPlanned, IsRecordPlanned, RisesPlanned}
use Rattle.laws_bounds.specs.Vocabulary.{AllFit, AllRiseFit, risen_at}
use Rattle.qc_decl.specs.declared.declaration.Declaration.{Declaration}
use Rattle.qc_fit.specs.Vocabulary.{HasPlan, IsFit}
use Rattle.qc_fit.proofs.Words.{fits_is_as_said}
use Rattle.qc_msg.specs.declared.record.Record.{Record}
use Rattle.qc_msg.specs.declared.record.Record.TheVariants as records
use Rattle.qc_msg.specs.declared.step.Step.{Step}
use Rattle.qc_msg.specs.declared.step.Step.TheVariants as steps
use Rattle.qc_msg.specs.Vocabulary.{Entry}
use Rattle.qc_plan.specs.declared.plan.Plan.{Plan}

planned : (decl : Declaration) (epoch : ℕ) → HasPlan decl epoch → IsPlanned decl epoch
planned decl epoch has = ap (λ (o : Option Plan). is_some o) has.1

record_planned : (decl : Declaration) (a before : ℕ) (r : Record) → IsFit decl a before r → IsRecordPlanned decl r
record_planned decl a before records.Life fit = tt
record_planned decl a before (records.Prepare p) fit = tt
record_planned decl a before (records.Done tx clock) fit = tt
record_planned decl a before (records.Close epoch) fit = planned decl epoch fit.epochs.0
record_planned decl a before (records.Install start) fit = planned decl start.epoch fit.epochs.0
record_planned decl a before (records.Commit c) fit = tt
record_planned decl a before (records.Decide start) fit = planned decl start.epoch fit.epochs.0

all_planned : (decl : Declaration) (a before : ℕ) (rs : List Record) → AllFit decl a before rs
    → Every (IsRecordPlanned decl) rs
all_planned decl a before [] all = tt
all_planned decl a before (r ∷ rs) all = (
  record_planned decl a before r ((fits_is_as_said decl a before r).0 all.0),
  all_planned decl a (before + 1) rs all.1,
)

step_planned : (decl : Declaration) (a : ℕ) (step : Step) → AllFit decl a 0 (risen_at step) → RisesPlanned decl step
step_planned decl a (steps.Phase k) fit = tt
step_planned decl a (steps.Cut x y) fit = tt
step_planned decl a (steps.Heal x y) fit = tt
step_planned decl a (steps.Armed actor kind at) fit = tt
step_planned decl a (steps.Called command) fit = tt
step_planned decl a (steps.Got n) fit = tt
step_planned decl a (steps.Lost n) fit = tt
step_planned decl a (steps.Wrote written) fit = tt
step_planned decl a (steps.Sent n to message) fit = tt
step_planned decl a (steps.Told reply) fit = tt
step_planned decl a (steps.Fell cause pending) fit = tt
step_planned decl a (steps.Rose kept) fit = all_planned decl a 0 kept fit
step_planned decl a (steps.Damaged offset) fit = tt

pub rises_planned : (decl : Declaration) (h : List Entry) → AllRiseFit decl h → AllRisePlanned decl h
rises_planned decl h fit =
    every-weaker (λ (e : Entry). AllFit decl e.actor 0 (risen_at e.step)) (λ (e : Entry). RisesPlanned decl e.step)
    (λ e all. step_planned decl e.actor e.step all) h fit
