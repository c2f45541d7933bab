use Rattle.qc_msg.specs.declared.record.Record.TheVariants as records
use Rattle.qc_record.specs.Vocabulary.{body_at, epoch_form}
use Rattle.qc_record.proofs.reading.whole_close.Goals as goal

pub returns : goal.returns
returns c = c.placed.ensures (body_at records.Close epoch_form c.args.rest.now) c.close.ensures
