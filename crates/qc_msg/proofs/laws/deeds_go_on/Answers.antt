use Rattle.std.proofs.Common.{[]}
use Rattle.qc_msg.proofs.DeedsGrow.{deeds-other}
use Rattle.qc_msg.proofs.Growth.{deeds-posted, deeds-taken}
use Rattle.qc_msg.proofs.laws.deeds_go_on.Goals as goal

pub returns : goal.returns
returns c = record {
  input = deeds-taken;
  turn = deeds-posted;
  others = λ a other h steps apart. deeds-other other a [] h steps apart;
}
