-- A record whose epoch has a plan.
use Rattle.std.specs.Prelude.{MatchOption, ℕ}
use Rattle.qc_decl.specs.declared.declaration.Declaration.{Declaration}
use Rattle.qc_msg.specs.declared.record.Record.{Record}
use Rattle.laws_due.specs.Declares.{IsPlanned}
use Rattle.qc_msg.specs.Vocabulary.{close_in, decide_in, install_in}
use Rattle.qc_msg.specs.declared.payload.EpochStart.{EpochStart}

abbrev pub IsRecordPlanned : Declaration → Record → Type 0
IsRecordPlanned decl written =
    MatchOption (close_in written)
    (MatchOption (install_in written)
    (MatchOption (decide_in written) (Unit {0}) (λ (i : EpochStart). IsPlanned decl i.epoch))
    (λ (i : EpochStart). IsPlanned decl i.epoch)) (λ (epoch : ℕ). IsPlanned decl epoch)
