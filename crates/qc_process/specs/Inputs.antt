-- What an actor's calls ask of an input.
use Rattle.std.specs.Prelude.{◌^◌, ◌<◌}
use Rattle.qc_admin.specs.Vocabulary.{MessageFits}
use Rattle.qc_client.specs.Vocabulary.{promise_in}
use Rattle.qc_msg.specs.declared.step.Input.{Input}
use Rattle.qc_msg.specs.declared.step.Input.TheVariants as inputs

-- The clock of the promise that it may bring is far from the end of its type, and what it tells of promises is of few
-- clients.
abbrev pub IsReadable : Input → Type 0
IsReadable (inputs.Called command) = Unit {0}
IsReadable (inputs.Got envelope) = (promise_in envelope.message < 2 ^ 63) × MessageFits envelope.message
IsReadable (inputs.Lost number) = Unit {0}
