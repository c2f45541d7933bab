use Rattle.std.proofs.Common.{refl}
use Rattle.qc_msg.specs.declared.record.Record.TheVariants as records
use Rattle.qc_record.specs.Vocabulary.{body_at, nothing}
use Rattle.qc_record.proofs.reading.whole_life.Goals as goal

pub returns : goal.returns
returns c = c.placed.ensures (body_at (λ _. records.Life) nothing c.args.rest.now) refl
