use Rattle.qc_script.proofs.WrittenScripts.{scripts_are_read_as_written}
use Rattle.qc_script.proofs.laws.scripts_are_read_as_written.Goals as goal

pub returns : goal.returns
returns c = scripts_are_read_as_written
