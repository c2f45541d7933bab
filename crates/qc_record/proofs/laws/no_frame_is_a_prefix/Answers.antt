use Rattle.qc_record.proofs.Frames.{no_frame_is_a_prefix}
use Rattle.qc_record.proofs.laws.no_frame_is_a_prefix.Goals as goal

pub returns : goal.returns
returns c = no_frame_is_a_prefix
