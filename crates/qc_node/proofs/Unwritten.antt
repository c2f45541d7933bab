-- Unwritten disks come back: their places hold no byte then.
use Rattle.std.proofs.Common.{◌≡◌, ℕ, ◌+◌, ◌<◌, ◌≤◌, ◌==◌, Bool, true, false, List, [], Option, Some, None, refl, sym}
use Rattle.std.proofs.Common.{ap, ◌∙◌, subst, arith}
use Rattle.std.specs.Prelude.{IsSome, is_some}
use Rattle.std.proofs.lemmas.Bool.{eqb-false, eqb-true}
use Rattle.qc_outside.specs.Vocabulary.{HoldsNoByte, IsKept, IsPutBack, Place, Places, Told, as_read, held_after}
use Rattle.qc_outside.specs.Vocabulary.{settled}
use Rattle.laws_bounds.specs.Vocabulary.{place_of}
use Rattle.laws_bounds.proofs.BackPlaces.{elsewhere}
use Rattle.qc_node.specs.Vocabulary.{AreBackFrom, BothTell, IsBackFrom, IsUnwritten}
use Rattle.qc_node.proofs.Starts.{other_place}

-- what a place holds after an unwritten disk came back to it

empty_then : (was : Option (List ℕ)) (bytes : List ℕ) → bytes ≡ [] → HoldsNoByte (held_after was bytes)
empty_then None bytes none = tt
empty_then (Some held) bytes none = none

here_empty : (old new : Places) (here : Place) (told : Option Told) → IsPutBack (Some old) here told (Some new)
    → IsSome told → ((t : Told) → told ≡ Some t → t.now ≡ settled []) → HoldsNoByte (new here)
here_empty old new here None put tells empty = absurd (let never : ⊥ = cc in never)
here_empty old new here (Some t) put tells empty =
    subst HoldsNoByte (sym put.0) (empty_then (old here) (as_read t.now) (ap as_read (empty t refl)))

-- they come back: none at first, and then one more

none_from_at : (folder : Option (List ℕ)) (first : ℕ) (old : Option Places)
    → BothTell old old (AreBackFrom folder first 0)
none_from_at folder first None = tt
none_from_at folder first (Some old) = record {
  empty = λ a from low. absurd (omega (arith, from, low));
  before = λ a low. refl;
  behind = λ a high. refl;
}

pub none_from : (folder : Option (List ℕ)) (first : ℕ) (old : Option Places) (before : ℕ)
    → IsBackFrom folder first 0 old before old before
none_from folder first old before = record { later = omega arith; places = none_from_at folder first old }

module _ (folder : Option (List ℕ)) (first n : ℕ) (old mid new : Places) (told : Option Told) (count : ℕ)
    (was : AreBackFrom folder first n old mid)
    (put : IsPutBack (Some mid) (place_of folder (first + n)) told (Some new))
    (un : IsUnwritten true told count) where
  same_there : (a : ℕ) → (a ≡ first + n → ⊥) → new (place_of folder a) ≡ mid (place_of folder a)
  same_there a other =
      elsewhere mid new (place_of folder (first + n)) told put (place_of folder a)
      (other_place folder a (first + n) other)

  empty_at : (a : ℕ) → first ≤ a → a < first + (n + 1) → (c : Bool) → ((first + n) == a) ≡ c
      → HoldsNoByte (new (place_of folder a))
  empty_at a from low true this =
      subst (λ (k : ℕ). HoldsNoByte (new (place_of folder k))) (eqb-true (first + n) a this)
      (here_empty mid new (place_of folder (first + n)) told put (un.still refl) un.empty)
  empty_at a from low false other =
      let apart : first + n ≡ a → ⊥ = eqb-false (first + n) a other in
      subst HoldsNoByte (sym (same_there a (λ same. apart (sym same))))
      (was.empty a from (omega (arith, low, apart)))

  one_more_at : AreBackFrom folder first (n + 1) old new
  one_more_at = record {
    empty = λ a from low. empty_at a from low ((first + n) == a) refl;
    before = λ a low. same_there a (λ same. omega (arith, low, same)) ∙ was.before a low;
    behind = λ a high. same_there a (λ same. omega (arith, high, same)) ∙ was.behind a (omega (arith, high));
  }

one_more_places : (folder : Option (List ℕ)) (first n : ℕ) (old mid new : Option Places) (told : Option Told)
    (count : ℕ) → BothTell old mid (AreBackFrom folder first n) → IsPutBack mid (place_of folder (first + n)) told new
    → IsUnwritten (is_some old) told count → BothTell old new (AreBackFrom folder first (n + 1))
one_more_places folder first n None None None told count was put un = tt
one_more_places folder first n None None (Some new) told count was put un = absurd put
one_more_places folder first n None (Some mid) new told count was put un = absurd was
one_more_places folder first n (Some old) None new told count was put un = absurd was
one_more_places folder first n (Some old) (Some mid) None told count was put un = absurd put
one_more_places folder first n (Some old) (Some mid) (Some new) told count was put un =
    one_more_at folder first n old mid new told count was put un

pub one_more_from : (folder : Option (List ℕ)) (first n : ℕ) (old mid new : Option Places) (before then now count : ℕ)
    (told : Option Told) → IsBackFrom folder first n old before mid then
    → IsPutBack mid (place_of folder (first + n)) told new → IsKept then count now
    → IsUnwritten (is_some old) told count → IsBackFrom folder first (n + 1) old before new now
one_more_from folder first n old mid new before then now count told was put kept un = record {
  later = omega (arith, was.later, kept.later);
  places = one_more_places folder first n old mid new told count was.places put un;
}
