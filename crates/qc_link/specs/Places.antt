-- The index of a plan of links: for each pattern that its rules have, the place of the first such rule.
use Rattle.std.specs.Prelude.{◌≡◌, ℕ, suc, nat_eq, ◌&&◌, Bool, if◌then◌else◌, List, [], ◌∷◌, Option, Some, None}
use Rattle.std.specs.Prelude.{option_map}
use Rattle.std.specs.BTreeMap.{BTreeMap, get}
use Rattle.std.specs.Option.{option_cmp, option_eq}
use Rattle.std.specs.Ordering.{nat_cmp, ordering_then}
use Rattle.std.specs.declared.cmp.Ordering.{Ordering}
use Rattle.qc_link.specs.declared.plan.Link.{Link}

-- what a rule names: sender, receiver, ordinal, none standing for all
abbrev pub Pattern : Type 0
Pattern = Option ℕ × Option ℕ × Option ℕ

abbrev pub same_pattern : Pattern → Pattern → Bool
same_pattern = λ x y. (option_eq nat_eq x.0 y.0 && option_eq nat_eq x.1 y.1) && option_eq nat_eq x.2 y.2

-- their order: by sender, then receiver, then ordinal, what is open first
abbrev pub pattern_cmp : Pattern → Pattern → Ordering
pattern_cmp = λ x y.
    ordering_then (ordering_then (option_cmp nat_cmp x.0 y.0) (option_cmp nat_cmp x.1 y.1)) (option_cmp nat_cmp x.2 y.2)

abbrev pub pattern_of : Link → Pattern
pattern_of link = (link.from, link.to, link.ordinal)

-- whether a rule has a pattern
abbrev pub has_pattern : Pattern → Link → Bool
has_pattern pattern link = same_pattern pattern (pattern_of link)

-- the place of the first rule that passes a test
abbrev pub place : (Link → Bool) → List Link → Option ℕ
place test [] = None
place test (link ∷ links) = if test link then Some 0 else option_map suc (place test links)

-- how many rules come before the first that passes a test
abbrev pub first : (Link → Bool) → List Link → ℕ
first test [] = 0
first test (link ∷ links) = if test link then 0 else suc (first test links)

-- each pattern is looked up at the place of the first rule that has it
abbrev pub IsIndex : BTreeMap Pattern ℕ → List Link → Type 0
IsIndex places links = (pattern : Pattern) → get pattern_cmp places pattern ≡ place (has_pattern pattern) links
