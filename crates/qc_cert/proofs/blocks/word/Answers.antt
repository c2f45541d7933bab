use Rattle.std.proofs.Common.{◌+◌, sym, ◌∙◌, subst, arith}
use Rattle.qc_cert.proofs.Tables.{IsBegun, begun_all, begun_with, begun_without}
use Rattle.qc_cert.proofs.blocks.word.Goals as goal
use Rattle.qc_cert.proofs.blocks.word.Goals.{then-keeps, else-keeps}

pub loop-k-preserved : goal.loop-k-preserved
loop-k-preserved c =
    let count = c.loop-k.k in
    elim c.if-keeps.branch [
      | then-keeps w ↦ subst (IsBegun c.args.sets.now c.args.from c.args.number c.args.some (count + 1))
          (sym (w.word-is ∙ w.with_bit-word.ensures))
          (begun_with c.args.sets.now c.args.from c.args.number c.args.some count c.loop-k.word c.loop-k.invariant
          (sym c.keeps.ensures ∙ w.if-keeps.true))
      | else-keeps w ↦ subst (IsBegun c.args.sets.now c.args.from c.args.number c.args.some (count + 1)) (sym w.word-is)
          (begun_without c.args.sets.now c.args.from c.args.number c.args.some count c.loop-k.word c.loop-k.invariant
          (sym c.keeps.ensures ∙ w.if-keeps.false))
    ]

pub returns : goal.returns
returns c = begun_all c.args.sets.now c.args.from c.args.number c.args.some c.loop-k.k c.loop-k.word c.loop-k.invariant
    (omega (arith, c.loop-k-test.false))
