use Rattle.std.proofs.Common.{sym, ◌∙◌}
use Rattle.qc_text.proofs.Granted.{granted_later, granted_now, not_granted}
use Rattle.qc_text.proofs.grants.is_granted.Goals as goal

pub returns-then-ends_post : goal.returns-then-ends_post
returns-then-ends_post c = not_granted c.args.number c.args.after.now c.deeds.deed-index _ _ _ c.deeds-test.true
    c.deed-item.is (sym c.ends_post.ensures ∙ c.if-ends_post.true) c.deeds.invariant

pub returns-then-grants : goal.returns-then-grants
returns-then-grants c =
    granted_now c.args.number c.args.after.now c.deeds.deed-index _ _ _ c.deeds-test.true c.deed-item.is
    (sym c.ends_post.ensures ∙ c.if-ends_post.false) (sym c.grants.ensures ∙ c.if-grants.true) c.deeds.invariant

pub deeds-preserved : goal.deeds-preserved
deeds-preserved c =
    granted_later c.args.number c.args.after.now c.deeds.deed-index _ _ _ c.deeds-test.true c.deed-item.is
    (sym c.ends_post.ensures ∙ c.if-ends_post.false) (sym c.grants.ensures ∙ c.if-grants.false) c.deeds.invariant
