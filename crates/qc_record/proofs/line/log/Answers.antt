use Rattle.std.proofs.Common.{arith, sym, subst}
use Rattle.qc_entry.specs.Vocabulary.{IsAscending}
use Rattle.qc_record.proofs.Logs.{read_ascends}
use Rattle.qc_record.proofs.line.log.Goals as goal

pub log_of-requires : goal.log_of-requires
log_of-requires c = subst (λ l. IsAscending l) (sym c.items.ensures)
    (read_ascends c.args.bytes.now c.in_ok-lines.lines c.in_ok-lines.rest.now
    (λ i. omega (arith, c.type_inv.bytes i)) c.in_ok-lines.ensures)
