-- Lines that aren't above others, short sites that lack a line, and unions that lack one or have another.
use Rattle.std.proofs.Common.{◌≡◌, ◌≢◌, ℕ, ◌<◌, ◌⊎◌, inl, inr, List, [], ◌∷◌, ◌++◌, refl, sym, ap, subst, arith}
use Rattle.qc_entry.specs.declared.line.Line.{Line}
use Rattle.qc_entry.specs.Vocabulary.{union}
use Rattle.qc_list.specs.Vocabulary.{In}
use Rattle.theory_machine.specs.Vocabulary.{Grants, empty_site, site_after}
use Rattle.theory_witnesses.specs.Vocabulary.{first, first_again, second}
use Rattle.theory_bases.specs.Vocabulary.{AreShortDeeds, IsAbove, IsShortDeed, IsUnionOf, StandsFor, base_of}
use Rattle.theory_bases.specs.Vocabulary.{short_deeds, short_site_after, shorter_deeds, whole_deeds, write_line}

-- the two lines differ
apart : (write_line first_again 2 ≡ write_line first 1) → ⊥
apart e = let clocks : ◌≡◌ {A = ℕ} 2 1 = ap (λ (l : Line). l.stamp.clock) e in omega arith

pub equal_clock : IsAbove (write_line first 1 ∷ []) (write_line first_again 1 ∷ []) → ⊥
equal_clock above = let less : 1 < 1 = above (write_line first 1) (write_line first_again 1) (inl refl) (inl refl) in
    omega arith

pub less_clock : IsAbove (write_line first_again 2 ∷ []) (write_line first 1 ∷ []) → ⊥
less_clock above = let less : 2 < 1 = above (write_line first_again 2) (write_line first 1) (inl refl) (inl refl) in
    omega arith

pub not_behind : union (write_line first_again 2 ∷ []) (write_line first 1 ∷ []) ≢ (write_line first_again 2 ∷ []) ++
    (write_line first 1 ∷ [])
not_behind e = let lists : write_line first 1 ∷ write_line first_again 2 ∷ [] ≡ write_line first_again 2
    ∷ write_line first 1 ∷ [] = e in let heads : write_line first 1 ≡ write_line first_again 2 = cc in apart (sym heads)

pub short_enough : AreShortDeeds whole_deeds short_deeds
short_enough = (refl, ((write_line first_again 2 ∷ [], refl, record { part = part; covers = covers }), tt))
  where
    part : (l : Line) → In l (write_line first_again 2 ∷ []) → In l (write_line first 1 ∷ write_line first_again 2 ∷ [])
    part l h = inr h

    covers : (l : Line) → In l (write_line first 1 ∷ write_line first_again 2 ∷ [])
        → In l (write_line first_again 2 ∷ []) ⊎ (In l [] ⊎ In l (write_line first 1 ∷ []))
    covers l (inl e) = inr (inr (inl e))
    covers l (inr h) = inl h

pub too_short : AreShortDeeds whole_deeds shorter_deeds → ⊥
too_short h = by ((h.1).0)
  where
    some : (lines : List Line) → Grants second [] [] ≡ Grants second [] lines
        → In (write_line first_again 2) lines ⊎ (In (write_line first_again 2) []
        ⊎ In (write_line first_again 2) (write_line first 1 ∷ [])) → ⊥
    some lines e (inl h) = let same : lines ≡ [] = cc in
        subst (λ (ls : List Line). In (write_line first_again 2) ls) same h
    some lines e (inr (inl none)) = none
    some lines e (inr (inr (inl same))) = apart same
    some lines e (inr (inr (inr none))) = none

    by : IsShortDeed (write_line first 1 ∷ []) empty_site
        (Grants second [] (write_line first 1 ∷ write_line first_again 2 ∷ [])) (Grants second [] []) → ⊥
    by x = some x.0 x.1 (x.2.covers (write_line first_again 2) (inr (inl refl)))

pub lacks_a_line : StandsFor (base_of whole_deeds) (site_after whole_deeds) (short_site_after shorter_deeds) → ⊥
lacks_a_line h = by (h.volatile.only (write_line first_again 2) (inr (inl refl)))
  where
    by : In (write_line first_again 2) [] ⊎ In (write_line first_again 2) (write_line first 1 ∷ []) → ⊥
    by (inl none) = none
    by (inr (inl e)) = apart e
    by (inr (inr none)) = none

pub less : IsUnionOf (write_line first 1 ∷ []) (write_line first_again 2 ∷ []) (write_line first_again 2 ∷ []) → ⊥
less u = by (u.has_base (write_line first 1) (inl refl))
  where
    by : In (write_line first 1) (write_line first_again 2 ∷ []) → ⊥
    by (inl e) = apart (sym e)
    by (inr none) = none

pub more : IsUnionOf [] (write_line first 1 ∷ []) (write_line first 1 ∷ write_line first_again 2 ∷ []) → ⊥
more u = by (u.only (write_line first_again 2) (inr (inl refl)))
  where
    by : In (write_line first_again 2) (write_line first 1 ∷ []) ⊎ In (write_line first_again 2) [] → ⊥
    by (inl (inl e)) = apart e
    by (inl (inr none)) = none
    by (inr none) = none
