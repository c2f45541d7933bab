use Rattle.std.proofs.Common.{◌≡◌, List, None, Some, cond, length, sym, ◌∙◌, ap, subst, arith}
use Rattle.std.specs.BTreeMap.{get}
use Rattle.std.specs.Ordering.{is_eq}
use Rattle.qc_link.specs.declared.plan.Link.{Link}
use Rattle.qc_link.specs.Vocabulary.{IsIndex, pattern_cmp}
use Rattle.qc_link.proofs.Indexed.{index_more, index_again, not_some}
use Rattle.qc_link.proofs.plan.LinkPlan.add.Goals as goal

pub invariant_of-self-then-contains_key : goal.invariant_of-self-then-contains_key
invariant_of-self-then-contains_key c =
    subst (λ (links : List Link). IsIndex c.self.inside.places links) (sym c.in_ok-push.ensures.items)
    (index_again c.self.inside.places c.self.inside.rules.items
    (record { from = c.args.from; to = c.args.to; ordinal = c.args.ordinal; rule = c.args.rule }) c.self.invariant
    (sym c.if-contains_key.ensures))

pub invariant_of-self-in-Ok : goal.invariant_of-self-in-Ok
invariant_of-self-in-Ok c =
    let place : c.len-place.result ≡ length c.self.inside.rules.items = omega (arith, c.self.inside.rules.ok.0) in
    let missing : get pattern_cmp c.self.inside.places (c.args.from, c.args.to, c.args.ordinal) ≡ None =
    not_some (get pattern_cmp c.self.inside.places (c.args.from, c.args.to, c.args.ordinal))
    c.if-contains_key.ensures in
    subst (λ (links : List Link). IsIndex c.insert.new.self links) (sym c.in_ok-push.ensures.items)
    (index_more c.self.inside.places c.insert.new.self c.self.inside.rules.items
    (record { from = c.args.from; to = c.args.to; ordinal = c.args.ordinal; rule = c.args.rule }) c.self.invariant
    missing
    (λ q. c.in-Ok.ensures.updates.0 q ∙ ap (λ n. cond (is_eq (pattern_cmp (c.args.from, c.args.to, c.args.ordinal) q))
    (Some n) (get pattern_cmp c.self.inside.places q)) place))
