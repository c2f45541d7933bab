-- Lines above a log stand behind it in the union, so the state after both is reached from the state after the first.
use Rattle.std.proofs.Common.{◌≡◌, ℕ, ◌<◌, inl, inr, List, [], ◌∷◌, ◌++◌, Option, Some, append-nil, refl, sym, ap, ◌∙◌}
use Rattle.std.specs.declared.cmp.Ordering.TheVariants.{Less}
use Rattle.qc_entry.specs.declared.line.Line.{Line}
use Rattle.qc_entry.specs.Vocabulary.{IsAscending, line_cmp, union}
use Rattle.qc_list.proofs.Members.{every-from_In}
use Rattle.qc_entry.proofs.Union.{ascending-union, in_either, in_first, in_second, union-after, union-nil}
use Rattle.qc_entry.proofs.Members.{ascending-same}
use Rattle.qc_table.specs.Vocabulary.{after, reached}
use Rattle.qc_table.proofs.Runs.{runs_join}
use Rattle.theory_bases.specs.Vocabulary.{IsAbove, IsUnionOf, events, state_from}
use Rattle.qc_list.proofs.Numbers.{cmp_below}

-- a later clock comes later
pub above_is_later : (m l : Line) → m.stamp.clock < l.stamp.clock → line_cmp m l ≡ Less
above_is_later m l h = rw (cmp_below m.stamp.clock l.stamp.clock h) refl

-- lines that are above a log stand behind it
pub logs_stand_behind : (first second : List Line) → IsAbove first second → union first second ≡ first ++ second
logs_stand_behind first [] above = union-nil first ∙ sym (append-nil first)
logs_stand_behind first (l ∷ second) above = union-after first l second
    (every-from_In (λ (m : Line). line_cmp m l ≡ Less) first (λ m i. above_is_later m l (above m l i (inl refl))))

events-append : (xs ys : List Line) → events (xs ++ ys) ≡ events xs ++ events ys
events-append [] ys = refl
events-append (x ∷ xs) ys = ap (λ (es : List ℕ). x.event ∷ es) (events-append xs ys)

-- own events stand behind all lines
pub folds_split : (step : ℕ → ℕ → Option ℕ) (start : ℕ) (first second : List Line) (own : List ℕ) → IsAbove first second
    → after step start (events (union first second) ++ own) ≡ state_from step
    (after step start (events first)) second own
folds_split step start first second own above =
    ap (λ (es : List ℕ). after step start (es ++ own))
    (ap events (logs_stand_behind first second above) ∙ events-append first second)
    ∙ runs_join step (Some start) (events first ++ events second) own
    ∙ ap (λ (s : Option ℕ). reached step s own) (runs_join step (Some start) (events first) (events second))
    ∙ sym (runs_join step (reached step (Some start) (events first)) (events second) own)

-- the views of several sites that began with one log: their lines of the epoch join
pub views_of_an_epoch_join : (first a b : List Line) → IsAscending first → IsAscending a → IsAscending b
    → union (union first a) (union first b) ≡ union first (union a b)
views_of_an_epoch_join first a b um ua ub =
    ascending-same (union (union first a) (union first b)) (union first (union a b))
    (ascending-union (union first a) (union first b) (ascending-union first a um ua) (ascending-union first b um ub))
    (ascending-union first (union a b) um (ascending-union a b ua ub))
    (λ l i. elim (in_either l (union first a) (union first b) i) [
      | inl x ↦ elim (in_either l first a x) [
        | inl y ↦ in_first l first (union a b) y
        | inr y ↦ in_second l first
            (union a b) (in_first l a b y)
      ]
      | inr x ↦ elim (in_either l first b x) [
        | inl y ↦ in_first l first (union a b) y
        | inr y ↦ in_second l first
            (union a b) (in_second l a b y)
      ]
    ])
    (λ l i. elim (in_either l first (union a b) i) [
      | inl x ↦ in_first l (union first a) (union first b) (in_first l first a x)
      | inr x ↦ elim (in_either l a b x) [
        | inl y ↦ in_first l (union first a) (union first b) (in_second l first a y)
        | inr y ↦ in_second l (union first a) (union first b) (in_second l first b y)
      ]
    ])

-- the next epoch's base is reached from this one's, by the lines of this epoch
pub next_bases_are_reached : (step : ℕ → ℕ → Option ℕ) (start : ℕ) (base since next : List Line) → IsAscending base
    → IsAscending since → IsAscending next → IsAbove base since → IsUnionOf base since next
    → after step start (events next) ≡ state_from step (after step start (events base)) since []
next_bases_are_reached step start base since next ub us un above both =
    let same : next ≡ union base since =
    ascending-same next (union base since) un (ascending-union base since ub us)
    (λ l i. elim (both.only l i) [ inl b ↦ in_second l base since b | inr a ↦ in_first l base since a ])
    (λ l i. elim (in_either l base since i) [ inl a ↦ both.has_base l a | inr b ↦ both.has_short l b ]) in
    ap (λ (xs : List Line). after step start (events xs)) same
    ∙ ap (after step start) (sym (append-nil (events (union base since))))
    ∙ folds_split step start base since [] above
