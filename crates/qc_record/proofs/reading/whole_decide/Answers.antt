use Rattle.qc_record.specs.Vocabulary.{body_at, decide_of, start_form}
use Rattle.qc_record.proofs.reading.whole_decide.Goals as goal

pub returns : goal.returns
returns c = c.placed.ensures (body_at decide_of start_form c.args.rest.now) c.decide.ensures
