-- Short spellings of scripts.
use Rattle.std.specs.Prelude.{ℕ, List, Option}
use Rattle.qc_link.specs.declared.plan.Link.{Link}
use Rattle.qc_link.specs.declared.rule.Rule.{Rule}
use Rattle.qc_msg.specs.declared.step.Command.{Command}
use Rattle.qc_msg.specs.declared.step.Control.{Control}
use Rattle.qc_script.specs.declared.script.CommandLine.{CommandLine}
use Rattle.qc_script.specs.declared.script.PhaseLines.{PhaseLines}
use Rattle.qc_script.specs.declared.script.Script.{Script}

abbrev pub link : Option ℕ → Option ℕ → Option ℕ → Rule → Link
link from to ordinal rule = record { from = from; to = to; ordinal = ordinal; rule = rule }

abbrev pub asks : ℕ → Command → CommandLine
asks actor command = record { actor = actor; command = command }

abbrev pub phase : List Control → List CommandLine → PhaseLines
phase controls commands = record { controls = controls; commands = commands }

abbrev pub script : List Link → List PhaseLines → Script
script links phases = record { links = links; phases = phases }
