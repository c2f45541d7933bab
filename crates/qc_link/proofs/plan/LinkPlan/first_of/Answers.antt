use Rattle.std.proofs.Common.{◌≡◌, List, length, sym, ◌∙◌, subst, arith}
use Rattle.qc_link.specs.declared.plan.Link.{Link}
use Rattle.qc_link.specs.Vocabulary.{first, has_pattern}
use Rattle.qc_link.proofs.Firsts.{first_found, first_none}
use Rattle.qc_link.proofs.plan.LinkPlan.first_of.Goals as goal

pub returns-in-Some : goal.returns-in-Some
returns-in-Some c =
    subst (λ (links : List Link). c.in-Some.place.now ≡ first (has_pattern c.args.pattern) links) c.self.view_is
    (first_found (has_pattern c.args.pattern) c.self.inside.rules.items c.in-Some.place.now
    (sym (c.in-Some.ensures.value ∙ c.self.invariant c.args.pattern)))

pub returns-in-None : goal.returns-in-None
returns-in-None c =
    let size : c.len.result ≡ length c.self.inside.rules.items = omega (arith, c.self.inside.rules.ok.0) in
    subst (λ (links : List Link). c.len.result ≡ first (has_pattern c.args.pattern) links) c.self.view_is
    (size ∙ first_none (has_pattern c.args.pattern) c.self.inside.rules.items
    (sym (c.in-None.ensures.value ∙ c.self.invariant c.args.pattern)))
