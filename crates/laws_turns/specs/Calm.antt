-- Histories in which no disk has a part: no actor falls, rises or is damaged, and no fault is armed.
use Rattle.std.specs.Prelude.{List}
use Rattle.std.specs.List.{AllByRecursion as Every}
use Rattle.qc_msg.specs.Vocabulary.{Entry}
use Rattle.qc_msg.specs.declared.step.Step.{Step}
use Rattle.qc_msg.specs.declared.step.Step.TheVariants as steps

abbrev pub IsCalm : Step → Type 0
IsCalm (steps.Phase number) = Unit {0}
IsCalm (steps.Cut a b) = Unit {0}
IsCalm (steps.Heal a b) = Unit {0}
IsCalm (steps.Armed actor kind at) = ⊥
IsCalm (steps.Called command) = Unit {0}
IsCalm (steps.Got number) = Unit {0}
IsCalm (steps.Lost number) = Unit {0}
IsCalm (steps.Wrote written) = Unit {0}
IsCalm (steps.Sent number to message) = Unit {0}
IsCalm (steps.Told reply) = Unit {0}
IsCalm (steps.Fell cause pending) = ⊥
IsCalm (steps.Rose records) = ⊥
IsCalm (steps.Damaged offset) = ⊥

abbrev pub AreCalm : List Entry → Type 0
AreCalm h = Every (λ (e : Entry). IsCalm e.step) h
