-- What the actors of a script are asked.
use Rattle.std.specs.Prelude.{ℕ, ◌==◌, List, ◌++◌, codes, decimal, count_by, flat_map}
use Rattle.qc_decl.specs.declared.declaration.Declaration.{Declaration}
use Rattle.qc_msg.specs.declared.step.Command.{Command}
use Rattle.qc_msg.specs.declared.step.Command.TheVariants.{Begin, Do, Commit, Abort, Epoch}
use Rattle.qc_script.specs.declared.script.CommandLine.{CommandLine}
use Rattle.qc_script.specs.declared.script.PhaseLines.{PhaseLines}
use Rattle.qc_script.specs.declared.script.Script.{Script}
use Rattle.qc_text.specs.Names.{object_name, invocation_name}

-- all commands of a script, in its order
abbrev pub commands_of : Script → List CommandLine
commands_of script = flat_map (λ (p : PhaseLines). p.commands) script.phases

-- how many of these commands an actor is asked
abbrev pub asked : ℕ → List CommandLine → ℕ
asked a lines = count_by (λ (l : CommandLine). l.actor == a) lines

abbrev pub command_text : Declaration → Command → List ℕ
command_text decl Begin = codes "begin"
command_text decl (Do object inv) = object_name decl object ++ (codes " " ++ invocation_name decl object inv)
command_text decl Commit = codes "commit"
command_text decl Abort = codes "abort"
command_text decl (Epoch number) = codes "epoch " ++ decimal number
