use Rattle.qc_record.specs.Vocabulary.{body_at, done_form, done_of}
use Rattle.qc_record.proofs.reading.whole_done.Goals as goal

pub returns : goal.returns
returns c = c.placed.ensures (body_at done_of done_form c.args.rest.now) c.done.ensures
