-- A history in which nobody rises with an epoch without a plan: each record that rises names epochs with plans.
use Rattle.std.specs.Prelude.{MatchOption, List}
use Rattle.std.specs.List.{AllByRecursion as Every}
use Rattle.qc_decl.specs.declared.declaration.Declaration.{Declaration}
use Rattle.qc_msg.specs.declared.step.Step.{Step}
use Rattle.qc_msg.specs.Vocabulary.{Entry, rose_in}
use Rattle.laws_due.specs.Planned.{IsRecordPlanned}
use Rattle.qc_msg.specs.declared.record.Record.{Record}

abbrev pub RisesPlanned : Declaration → Step → Type 0
RisesPlanned decl step =
    MatchOption (rose_in step) (Unit {0}) (λ (kept : List Record). Every (IsRecordPlanned decl) kept)

abbrev pub AllRisePlanned : Declaration → List Entry → Type 0
AllRisePlanned decl h = Every (λ (e : Entry). RisesPlanned decl e.step) h
