-- Entries, and the steps that an input and a turn add.
use Rattle.std.specs.Prelude.{ℕ, ◌+◌, List, [], ◌∷◌, ◌++◌, Option, Some, None}
use Rattle.qc_list.specs.declared.marked.Marked.{Marked}
use Rattle.qc_msg.specs.declared.record.Record.{Record}
use Rattle.qc_msg.specs.declared.reply.Reply.{Reply}
use Rattle.qc_msg.specs.declared.step.Fall.{Fall}
use Rattle.qc_msg.specs.declared.step.Fall.TheVariants as causes
use Rattle.qc_msg.specs.declared.step.Input.{Input}
use Rattle.qc_msg.specs.declared.step.Input.TheVariants as inputs
use Rattle.qc_msg.specs.declared.step.Step.{Step}
use Rattle.qc_msg.specs.declared.step.Step.TheVariants.{Called, Got, Lost, Wrote, Sent, Told, Fell}
use Rattle.qc_msg.specs.declared.turn.Appended.{Appended}
use Rattle.qc_msg.specs.declared.turn.Appended.TheVariants.{Done, Failed, Stopped}
use Rattle.qc_msg.specs.declared.turn.Posting.{Posting}
use Rattle.qc_msg.specs.declared.turn.Turn.{Turn}

-- an entry of a history: a step with its actor
abbrev pub Entry : Type 0
Entry = Marked Step

abbrev pub marked : ℕ → Step → Entry
marked actor step = record { actor = actor; step = step }

-- an actor's steps, as entries
abbrev pub by : ℕ → List Step → List Entry
by a [] = []
by a (x ∷ xs) = marked a x ∷ by a xs

-- the step by which an actor takes its input
abbrev pub step_of : Input → Step
step_of (inputs.Called command) = Called command
step_of (inputs.Got envelope) = Got envelope.number
step_of (inputs.Lost number) = Lost number

-- the steps of a turn, where its record was written or it has none: the record, the messages, which have the numbers
-- from n on, and the reply

abbrev pub wrote : Option Record → List Step
wrote None = []
wrote (Some written) = Wrote written ∷ []

abbrev pub sents : ℕ → List Posting → List Step
sents n [] = []
sents n (p ∷ ps) = Sent n p.to p.message ∷ sents (n + 1) ps

abbrev pub told : Option Reply → List Step
told None = []
told (Some reply) = Told reply ∷ []

abbrev pub posted : ℕ → Turn → List Step
posted n turn = wrote turn.write ++ (sents n turn.sends ++ told turn.told)

-- the steps of a post, by what became of the turn's record. Where the disk fails the actor says that the record isn't
-- written, and falls; where it stops, nothing is sent any more. The record that wasn't written may be there when the
-- actor rises: it is pending

abbrev pub fell : Fall → Option Record → List Step
fell cause pending = Fell cause pending ∷ []

-- a fall that its disk makes, and no line of the script
abbrev pub IsByDisk : Fall → Type 0
IsByDisk causes.Script = ⊥
IsByDisk causes.Stop = Unit {0}
IsByDisk causes.Disk = Unit {0}

abbrev pub posted_as : Appended → ℕ → Turn → List Step
posted_as Done n turn = posted n turn
posted_as Failed n turn = sents n turn.failed_sends ++ (told turn.failed_told ++ fell causes.Disk turn.write)
posted_as Stopped n turn = told turn.failed_told ++ fell causes.Stop turn.write

-- the messages of a post
abbrev pub sends_as : Appended → Turn → List Posting
sends_as Done turn = turn.sends
sends_as Failed turn = turn.failed_sends
sends_as Stopped turn = []

-- only where there is a record can it fail to be written

abbrev pub HasRecord : Option Record → Type 0
HasRecord None = ⊥
HasRecord (Some written) = Unit {0}

abbrev pub MayEnd : Option Record → Appended → Type 0
MayEnd write Done = Unit {0}
MayEnd write Failed = HasRecord write
MayEnd write Stopped = HasRecord write
