-- Commands to which rules are added, one after another.
use Rattle.std.proofs.Common.{◌≡◌, ◌∙◌, ℕ, suc, ◌+◌, ◌<◌, List, [], ◌∷◌, ap, ap₂, append-nil, append_assoc, arith, drop}
use Rattle.std.proofs.Common.{drop-cons, get_or, length, map, sym, Bor}
use Rattle.clap.specs.Simple.{App, on_top, with_rule}
use Rattle.clap.specs.Walk.{Rule}
use Rattle.qc_words.specs.Vocabulary.{Text, texts_of, with_rules}

pub with_none : (a : App) → with_rules a [] ≡ a
with_none a = ap (λ rules. on_top (λ s. record s { rules = rules }) a) (append-nil a.top.rules)

with_more : (a : App) (r : Rule) (rules : List Rule) → with_rules (with_rule a r) rules ≡ with_rules a (r ∷ rules)
with_more a r rules = ap (λ all. on_top (λ s. record s { rules = all }) a) (append_assoc a.top.rules (r ∷ []) rules)

-- a loop over names adds the next one's rule
pub rule_added : (f : Text → Rule) (names : List (Bor Text)) (i : ℕ) (d : Bor Text) (start now after : App)
    → i < length names → after ≡ with_rule now (f (get_or names i d).now)
    → with_rules now (map f (texts_of (drop i names))) ≡ with_rules start (map f (texts_of names))
    → with_rules after (map f (texts_of (drop (i + 1) names))) ≡ with_rules start (map f (texts_of names))
rule_added f names i d start now after lt is was =
    let next : i + 1 ≡ suc i = omega arith in
    ap₂ (λ (a : App) (k : ℕ). with_rules a (map f (texts_of (drop k names)))) is next
    ∙ with_more now (f (get_or names i d).now) (map f (texts_of (drop (suc i) names)))
    ∙ ap (λ (rest : List (Bor Text)). with_rules now (map f (texts_of rest))) (sym (drop-cons names i d lt)) ∙ was
