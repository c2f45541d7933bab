use Rattle.std.proofs.Common.{◌≡◌, ◌<◌, ◌≤◌, List, length, get_or, ◌∙◌, subst}
use Rattle.qc_link.specs.declared.plan.Link.{Link}
use Rattle.qc_link.proofs.Firsts.{decided, undecided}
use Rattle.qc_link.proofs.plan.LinkPlan.by_rules.Goals as goal

pub returns-in-Some : goal.returns-in-Some
returns-in-Some c =
    let same = c.deref.ensures.value ∙ c.self.view_is in
    let low : c.first.result < length c.args.self.now =
    subst (λ (links : List Link). c.first.result < length links) same c.in-Some.ensures.lookup.3.0 in
    let read : c.in-Some.link.now ≡ get_or c.args.self.now c.first.result c.in-Some.link.now =
    subst (λ (links : List Link). c.in-Some.link.now ≡ get_or links c.first.result c.in-Some.link.now) same
    c.in-Some.ensures.lookup.1 in
    c.fate.ensures ∙ decided c.args.from c.args.to c.args.ordinal c.args.self.now c.first.result c.in-Some.link.now
    c.first.ensures low read

pub returns-in-None : goal.returns-in-None
returns-in-None c =
    let same = c.deref.ensures.value ∙ c.self.view_is in
    let past : length c.args.self.now ≤ c.first.result =
    subst (λ (links : List Link). length links ≤ c.first.result) same c.in-None.ensures.lookup.3 in
    undecided c.args.from c.args.to c.args.ordinal c.args.self.now
    (subst (λ n. length c.args.self.now ≤ n) c.first.ensures past)
