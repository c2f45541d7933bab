-- What the administrator is asked, and whom he asks: a script asks him for epochs alone, and each Ask of a run with
-- falls is about a transaction of a declared client.
use Rattle.std.specs.Prelude.{MatchOption, ◌≡◌, ℕ, ◌<◌, Bool, List}
use Rattle.std.specs.List.{AllByRecursion as Every}
use Rattle.qc_core.specs.Vocabulary.{IsLawfulWithFalls}
use Rattle.qc_decl.specs.Vocabulary.{administrator}
use Rattle.qc_decl.specs.declared.declaration.Declaration.{Declaration}
use Rattle.qc_msg.specs.Vocabulary.{Entry, mail, asking_in, epoch_in}
use Rattle.qc_msg.specs.declared.message.Envelope.{Envelope}
use Rattle.qc_msg.specs.declared.message.Message.{Message}
use Rattle.qc_msg.specs.declared.record.Record.{Record}
use Rattle.qc_msg.specs.declared.step.Command.{Command}
use Rattle.qc_script.specs.Vocabulary.{RunsWithFalls}
use Rattle.qc_script.specs.declared.script.CommandLine.{CommandLine}
use Rattle.qc_script.specs.declared.script.PhaseLines.{PhaseLines}
use Rattle.qc_script.specs.declared.script.Script.{Script}
use Rattle.qc_stamp.specs.declared.stamp.TxId.{TxId}

abbrev pub IsKnown : Declaration → Message → Type 0
IsKnown decl message = MatchOption (asking_in message) (Unit {0}) (λ (tx : TxId). tx.client < decl.clients)

abbrev pub AsksKnown : (ℕ → List Record → Type 0) → Declaration → Script → Type 0
AsksKnown fits decl script =
    (h : List Entry) (open_inputs : List Bool) → RunsWithFalls (IsLawfulWithFalls decl) fits decl script h open_inputs
    → Every (λ (e : Envelope). IsKnown decl e.message) (mail h)

-- a script asks the administrator for epochs alone

abbrev pub IsEpoch : Command → Type 0
IsEpoch command = MatchOption (epoch_in command) ⊥ (λ (x : ℕ). Unit {0})

abbrev pub AsksEpochs : Declaration → Script → Type 0
AsksEpochs decl script =
    Every (λ (p : PhaseLines). Every (λ (l : CommandLine). l.actor ≡ administrator decl → IsEpoch l.command) p.commands)
    script.phases
