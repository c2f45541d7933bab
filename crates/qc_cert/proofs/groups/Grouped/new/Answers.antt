use Rattle.std.proofs.Common.{ap, ◌∙◌, length, []}
use Rattle.qc_cert.proofs.MarkedTriples.{length_firsts}
use Rattle.qc_cert.proofs.groups.Grouped.new.Goals as goal

pub add_triples-requires-clause-marks : goal.add_triples-requires-clause-marks
add_triples-requires-clause-marks c = ap length (c.deref.ensures.value ∙ c.in_ok-firsts.ensures)
    ∙ length_firsts [] c.args.list.now
