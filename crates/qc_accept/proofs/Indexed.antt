-- An index's names seen as texts, and events that are inserted one after another.
use Rattle.std.proofs.Common.{◌≡◌, ℕ, ◌+◌, ◌<◌, Bool, true, false, not, cond, ltb, List, [], ◌∷◌, ◌++◌, Some, None, map}
use Rattle.std.proofs.Common.{length, take, get_or, refl, sym, ap, ◌∙◌, arith}
use Rattle.std.specs.Prelude.{◌||◌, if◌then◌else◌, position}
use Rattle.std.specs.Borrow.{Bor}
use Rattle.std.specs.List.{list_any, position_or_len}
use Rattle.std.specs.Str.{bytes_eq}
use Rattle.std.proofs.lemmas.List.{map-append, length-map, take_more, get_or-take, length-take}
use Rattle.qc_table.specs.declared.row.Event.{Event}
use Rattle.qc_table.specs.Vocabulary.{same_event}
use Rattle.qc_table.proofs.Distinct.{AreDistinct, flipped}
use Rattle.qc_accept.proofs.Texts.{any_place}

module _ {X Y : Type 0} (see : X → Y) (p : Y → Bool) where
  place_seen : (xs : List X) → position_or_len p (map see xs) ≡ position_or_len (λ x. p (see x)) xs
  place_seen [] = refl
  place_seen (x ∷ xs) = ap (λ n. cond (not (p (see x))) (1 + n) 0) (place_seen xs)

  -- the place of what is seen
  pub position_seen : (xs : List X) → position p (map see xs) ≡ position (λ x. p (see x)) xs
  position_seen xs = λ j. cond (ltb (place_seen xs j) (length-map xs see j)) (Some (place_seen xs j)) None

  -- and whether it is there
  pub any_seen : (xs : List X) → list_any p (map see xs) ≡ list_any (λ x. p (see x)) xs
  any_seen [] = refl
  any_seen (x ∷ xs) = ap (λ b. p (see x) || b) (any_seen xs)

-- a text that is inserted is one name more where it is new
pub name_inserted : (keys after : List (Bor (List ℕ))) (text : Bor (List ℕ)) (is_new : Bool)
    → is_new ≡ not (list_any (λ k. bytes_eq text.now k.now) keys)
    → after ≡ (if list_any (λ k. bytes_eq text.now k.now) keys then keys else keys ++ text ∷ [])
    → (is_new ≡ not (list_any (bytes_eq text.now) (map (λ k. k.now) keys)))
    × (map (λ k. k.now) after ≡ (if is_new then map (λ k. k.now) keys ++ text.now ∷ [] else map (λ k. k.now) keys))
name_inserted keys after text is_new new is = (
  new ∙ ap not (sym (any_seen (λ k. k.now) (bytes_eq text.now) keys)),
  by (list_any (λ k. bytes_eq text.now k.now) keys) is_new new is,
)
  where
    by : (b t : Bool) → t ≡ not b → after ≡ (if b then keys else keys ++ text ∷ [])
        → map (λ k. k.now) after ≡ (if t then map (λ k. k.now) keys ++ text.now ∷ [] else map (λ k. k.now) keys)
    by true false e i = ap (map (λ (k : Bor (List ℕ)). k.now)) i
    by false true e i = ap (map (λ (k : Bor (List ℕ)). k.now)) i
        ∙ map-append (λ (k : Bor (List ℕ)). k.now) keys (text ∷ [])
    by true true e i = absurd (let never : ⊥ = cc in never)
    by false false e i = absurd (let never : ⊥ = cc in never)

-- none of the distinct events before one is the same
pub event_is_new : (events : List Event) (i : ℕ) (e d : Event) → AreDistinct events → i < length events
    → e ≡ get_or events i d → list_any (same_event e) (take i events) ≡ false
event_is_new events i e d distinct l is = by (list_any (same_event e) (take i events)) refl
  where
    by : (t : Bool) → list_any (same_event e) (take i events) ≡ t → t ≡ false
    by false found = refl
    by true found =
        let k = any_place (same_event e) (take i events) d found in
        let before : k.0 < i = omega (arith, k.1, length-take i events) in
        let one : same_event e (get_or events k.0 d) ≡ true =
        ap (same_event e) (sym (get_or-take i events k.0 d before)) ∙ k.2 in
        let other : same_event (get_or events k.0 d) e ≡ false = ap (same_event (get_or events k.0 d)) is
        ∙ distinct.apart k.0 i d before l in
        let never : true ≡ false = sym one ∙ flipped e (get_or events k.0 d) other in
        never

-- so inserting them one after another lists them
pub event_inserted : (events : List Event) (i : ℕ) (before after : List Event) (e d : Event) → AreDistinct events
    → i < length events → e ≡ get_or events i d
    → before ≡ take i events → after ≡ (if list_any (same_event e) before then before else before ++ e ∷ [])
    → after ≡ take (i + 1) events
event_inserted events i before after e d distinct l is so_far inserted =
    let none : list_any (same_event e) before ≡ false = ap (list_any (same_event e)) so_far
    ∙ event_is_new events i e d distinct l is in
    inserted ∙ ap (λ t. if t then before else before ++ e ∷ []) none ∙ ap (λ b. b ++ e ∷ []) so_far
    ∙ ap (λ x. take i events ++ x ∷ []) is ∙ sym (take_more events i d l)
