use Rattle.std.proofs.Common.{ap, subst, ◌∙◌, arith}
use Rattle.qc_record.specs.Vocabulary.{Answers, record_at}
use Rattle.qc_record.proofs.Whole.{is_found, again}
use Rattle.qc_record.proofs.reading.read_bytes.Goals as goal

pub returns-clause-found : goal.returns-clause-found
returns-clause-found c = is_found c.args.bytes.now c.record_in.result
    (λ i. omega (arith, c.type_inv.bytes i)) c.record_in.ensures

pub returns-clause-only : goal.returns-clause-only
returns-clause-only c = λ rec legal e. subst (λ read. Answers c.record_in.result read)
    (ap record_at e ∙ again rec legal) c.record_in.ensures
