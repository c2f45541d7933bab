-- What comes to a client speaks of what is declared: a `do` of an object with a type, an answer of an epoch with a
-- plan.
use Rattle.std.specs.Prelude.{MatchOption, ◌≡◌, ℕ, true, List, Option, Some, None, is_some, option_and_then}
use Rattle.std.specs.List.{AllByRecursion as Every}
use Rattle.qc_decl.specs.Vocabulary.{plan_in, table_at}
use Rattle.qc_decl.specs.declared.declaration.Declaration.{Declaration}
use Rattle.qc_msg.specs.declared.message.Message.{Message}
use Rattle.qc_msg.specs.declared.step.Command.{Command}
use Rattle.qc_msg.specs.declared.step.Input.{Input}
use Rattle.qc_msg.specs.declared.step.Input.TheVariants as inputs
use Rattle.qc_msg.specs.Vocabulary.{Answered, Deed, Falls, Rises, Sends, Takes, Tells, Writes, answer_in, closed_in}
use Rattle.qc_msg.specs.Vocabulary.{first_epoch, Invocation, do_in}

abbrev pub IsPlanned : Declaration → ℕ → Type 0
IsPlanned decl epoch = is_some (plan_in decl epoch) ≡ true

abbrev pub IsDeclaredCommand : Declaration → Command → Type 0
IsDeclaredCommand decl command =
    MatchOption (do_in command) (Unit {0}) (λ (i : Invocation). is_some (table_at decl i.object) ≡ true)

-- the epoch that a message tells a client, where it says that another one is closed
abbrev pub epoch_told : Message → Option ℕ
epoch_told m = option_and_then (λ (a : Answered). closed_in a.answer) (answer_in m)

abbrev pub ArePlanned : Declaration → Option ℕ → Type 0
ArePlanned decl None = Unit {0}
ArePlanned decl (Some epoch) = IsPlanned decl epoch

abbrev pub IsDeclaredGiven : Declaration → Input → Type 0
IsDeclaredGiven decl (inputs.Called command) = IsDeclaredCommand decl command
IsDeclaredGiven decl (inputs.Got envelope) = ArePlanned decl (epoch_told envelope.message)
IsDeclaredGiven decl (inputs.Lost number) = Unit {0}

abbrev pub IsDeclaredDeed : Declaration → Deed → Type 0
IsDeclaredDeed decl (Takes given) = IsDeclaredGiven decl given
IsDeclaredDeed decl (Writes written) = Unit {0}
IsDeclaredDeed decl (Sends number to message) = Unit {0}
IsDeclaredDeed decl (Tells reply) = Unit {0}
IsDeclaredDeed decl (Falls cause pending) = Unit {0}
IsDeclaredDeed decl (Rises kept) = Unit {0}

-- and the first epoch, which a client begins with, has a plan
pub record Declares (decl : Declaration) (ds : List Deed) : Type 0 where
  pub first : IsPlanned decl first_epoch
  pub deeds : Every (IsDeclaredDeed decl) ds
