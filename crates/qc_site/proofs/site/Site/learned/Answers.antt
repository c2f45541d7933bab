use Rattle.std.proofs.Common.{◌≡◌, List, [], sym, ◌∙◌, ap, subst, unwrap_or}
use Rattle.std.specs.Prelude.{IfOk}
use Rattle.qc_entry.specs.declared.line.Line.{Line}
use Rattle.qc_entry.specs.Vocabulary.{union}
use Rattle.qc_site.specs.Vocabulary.{SiteState, learned}
use Rattle.qc_site.proofs.FirstEpoch.{learned_first, no_lines}
use Rattle.qc_site.proofs.site.Site.learned.Goals as goal

-- in the first epoch the lines join the log as they are
pub returns-then-is_empty : goal.returns-then-is_empty
returns-then-is_empty c =
    let s : SiteState = c.args.self.now in
    let lines : List Line = c.args.lines.now in
    let log : c.self.inside.log ≡ s.log = ap (λ (x : SiteState). x.log) c.self.view_is in
    let none : s.began ≡ [] = sym (ap (λ (x : SiteState). x.began) c.self.view_is) ∙ sym c.lines.ensures.value
    ∙ no_lines c.lines.result.now (sym c.is_empty.ensures ∙ c.if-is_empty.true) in
    let same : union c.self.inside.log lines ≡ learned s lines = ap (λ (ls : List Line). union ls lines) log
    ∙ learned_first s lines none in
    subst (λ (ls : List Line). IfOk c.union.result (λ all. unwrap_or all s.log ≡ ls)) same
    (subst (λ (ls : List Line). IfOk c.union.result (λ all. unwrap_or all ls ≡ union c.self.inside.log lines)) log
    c.union.ensures)
