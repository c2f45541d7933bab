-- What a site learns in its first epoch, which began with nothing.
use Rattle.std.proofs.Common.{◌≡◌, ◌==◌, true, List, [], ◌∷◌, length, refl, sym, ◌∙◌, ap, arith}
use Rattle.std.proofs.lemmas.Bool.{eqb-true}
use Rattle.qc_entry.specs.declared.line.Line.{Line}
use Rattle.qc_entry.specs.Vocabulary.{union, without}
use Rattle.qc_site.specs.Vocabulary.{SiteState, learned}
use Rattle.qc_entry.proofs.Without.{without-nil}

pub learned_first : (s : SiteState) (lines : List Line) → s.began ≡ [] → union s.log lines ≡ learned s lines
learned_first s lines none = sym (ap (λ (began : List Line). union s.log (without lines began)) none
    ∙ ap (λ (ls : List Line). union s.log ls) (without-nil lines))

pub no_lines : (lines : List Line) → (length lines == 0) ≡ true → lines ≡ []
no_lines [] none = refl
no_lines (l ∷ ls) none = let same : length (l ∷ ls) ≡ 0 = eqb-true (length (l ∷ ls)) 0 none in
    absurd (omega (arith, same))
