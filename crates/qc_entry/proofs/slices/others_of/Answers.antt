use Rattle.std.proofs.Common.{◌⊎◌, inl, inr, ◌≤◌, length, arith}
use Rattle.qc_entry.proofs.Walks.{whole-rest, without-first, without-both, without-second, without-ends}
use Rattle.qc_entry.proofs.slices.others_of.Goals.{then-lines-test+else-j-b, else-lines-test}
use Rattle.qc_entry.proofs.slices.others_of.Goals as goal

pub lines-preserved-in-Less : goal.lines-preserved-in-Less
lines-preserved-in-Less c =
    without-first _ _ _ _ _ _ _ _ c.requires.second c.lines-test.true c.if-j-b.true c.in-Less.ensures
    c.in_ok-push-in-Less.ensures.items c.lines.invariant

pub lines-preserved-in-Equal : goal.lines-preserved-in-Equal
lines-preserved-in-Equal c = without-both _ _ _ _ _ _ _ c.requires.first c.lines-test.true c.if-j-b.true
    c.in-Equal.ensures c.lines.invariant

pub lines-preserved : goal.lines-preserved
lines-preserved c = without-second _ _ _ _ _ _ _ c.requires.first c.lines-test.true c.if-j-b.true c.in-Greater.ensures
    c.lines.invariant

pub returns : goal.returns
returns c =
    let past : (length c.args.a.now ≤ c.lines.i) ⊎ (length c.args.b.now ≤ c.lines.j) =
    elim c.lines-test.branch [ then-lines-test+else-j-b w ↦ inr (omega arith) | else-lines-test w ↦ inl (omega arith) ]
    in
    rw (c.in_ok-extend_from_slice.ensures.items, whole-rest c.args.a.now)
    (without-ends _ _ _ _ _ c.lines.invariant past)
