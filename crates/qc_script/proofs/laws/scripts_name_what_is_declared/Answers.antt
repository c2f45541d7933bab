use Rattle.qc_script.proofs.SoundScripts.{scripts_name_what_is_declared}
use Rattle.qc_script.proofs.laws.scripts_name_what_is_declared.Goals as goal

pub returns : goal.returns
returns c = scripts_name_what_is_declared
