use Rattle.std.proofs.Common.{ℕ, ◌<◌, ◌+◌, Option, sym, subst, arith}
use Rattle.qc_lock.specs.declared.clash.Clash.{Clash}
use Rattle.qc_lock.specs.Vocabulary.{IsPlaced, IsSmallest}
use Rattle.qc_lock.proofs.Smallest.{smallest_all, smallest_more, smallest_none}
use Rattle.qc_lock.proofs.clash.line_clash.Goals as goal

pub invs-init : goal.invs-init
invs-init c = smallest_none (λ n d. IsPlaced c.args.relation.now c.args.locks.now c.args.tx c.args.line.now.object n n
    c.args.line.now.event d)

pub invs-preserved : goal.invs-preserved
invs-preserved c =
    subst (λ (o : Option Clash). IsSmallest (λ d. (n : ℕ) × (n < c.invs.number + 1)
    × IsPlaced c.args.relation.now c.args.locks.now c.args.tx c.args.line.now.object n n c.args.line.now.event d) o)
    (sym c.smaller_of-best.ensures)
    (smallest_more (λ n d. IsPlaced c.args.relation.now c.args.locks.now c.args.tx c.args.line.now.object n n
    c.args.line.now.event d) c.invs.number c.invs.best c.clash_at-clash.result c.invs.invariant
    c.clash_at-clash.ensures)

pub returns : goal.returns
returns c =
    smallest_all (λ n d. IsPlaced c.args.relation.now c.args.locks.now c.args.tx c.args.line.now.object n n
    c.args.line.now.event d) c.invs.number c.invs.best
    (λ n d placed. let less : n < 256 = c.requires d.holder c.args.line.now.object n placed.there in
    omega (arith, less, c.invs-test.false)) c.invs.invariant
