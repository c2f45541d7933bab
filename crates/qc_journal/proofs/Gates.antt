-- What stands at a gate.
use Rattle.std.proofs.Common.{◌≡◌, ◌⊎◌, inl, inr, ℕ, ◌+◌, ◌-◌, ◌<◌, ◌≤◌, List, [], ◌∷◌, ◌++◌, length, take, drop, Vec}
use Rattle.std.proofs.Common.{refl, sym, ◌∙◌, ap, arith, append_assoc, length-append, length-take, take-append-drop}
use Rattle.std.proofs.lemmas.List.{take_at, drop_at, map-append, drop-drop}
use Rattle.std.proofs.lemmas.Nat.{from_be_bytes-to_be_bytes_4}
use Rattle.std.specs.Int.{w32, to_be_bytes, from_be_bytes}
use Rattle.std.specs.declared.alloc.Global.{Global}
use Rattle.qc_journal.specs.Vocabulary.{IsBody, IsOpenHead, IsTorn, IsTornHead, Passed, Stands, counted, lists}
use Rattle.qc_journal.proofs.Stages.{records_push, length-counted}

pub lists_push : (vs : List (Vec ℕ Global)) (v : Vec ℕ Global) → lists (vs ++ v ∷ []) ≡ lists vs ++ v.items ∷ []
lists_push vs v = map-append (λ (v : Vec ℕ Global). v.items) vs (v ∷ [])

rest_is : (at : ℕ) (bodies : List (List ℕ)) (bytes : List ℕ) (p : Passed at bodies bytes) → drop at bytes ≡ p.rest
rest_is at bodies bytes p = ap (λ (l : List ℕ). drop at l) p.split ∙ drop_at p.front p.rest at p.place

first_five : (rest : List ℕ) (x : ℕ) (r : List ℕ) → take 5 rest ≡ x ∷ r
    → (more : List ℕ) × (rest ≡ x ∷ more) × (take 4 more ≡ r)
first_five [] x r is = cc
first_five (a ∷ rest) x r is =
    let heads : a ≡ x = cc in
    let tails : take 4 rest ≡ r = cc in
    (rest, ap (λ (h : ℕ). h ∷ rest) heads, tails)

-- no bytes
nothing : (rest : List ℕ) → take 5 rest ≡ [] → rest ≡ []
nothing [] is = refl
nothing (a ∷ rest) is = cc

pub at_start : (bytes : List ℕ) → Passed 0 [] bytes
at_start bytes = record { front = []; rest = bytes; records = refl; place = refl; split = refl }

module _ (at : ℕ) (bodies : List (List ℕ)) (bytes head : List ℕ) (p : Passed at bodies bytes)
    (head_is : head ≡ take 5 (drop at bytes)) where
  five : take 5 p.rest ≡ head
  five = ap (λ (l : List ℕ). take 5 l) (sym (rest_is at bodies bytes p)) ∙ sym head_is

  pub closed_there : (rest : List ℕ) → head ≡ 0 ∷ rest → Stands at bodies bytes
  closed_there rest is =
      let found = first_five p.rest 0 rest (five ∙ is) in
      record {
        front = p.front;
        rest = found.0;
        records = p.records;
        place = p.place;
        closed = p.split
            ∙ ap (λ (l : List ℕ). p.front ++ l) found.1;
      }

  pub torn_there : at < length bytes → (head ≡ []) ⊎ IsTornHead head → IsTorn at bytes
  torn_there within (inl none) =
      let empty : p.rest ≡ [] = nothing p.rest (five ∙ none) in
      absurd (omega (arith, within, ap length p.split, length-append p.front p.rest, ap length empty, p.place))
  torn_there within (inr torn) =
      let found = first_five p.rest torn.gate torn.rest (five ∙ torn.bytes_are) in
      record {
        bodies = bodies;
        front = p.front;
        gate = torn.gate;
        rest = found.0;
        records = p.records;
        at = p.place;
        is_open = torn.is_open;
        torn = p.split ∙ ap (λ (l : List ℕ). p.front ++ l) found.1;
        none = λ body next more is_body is. torn.none (length body) is_body.some is_body.short
            (sym found.2 ∙ ap (λ (l : List ℕ). take 4 l)
            (is ∙ append_assoc (to_be_bytes w32 (length body)) body (next ∷ more))
            ∙ take_at (to_be_bytes w32 (length body)) (body ++ next ∷ more) 4 refl);
      }

  -- the length, and what stands behind it
  behind_length : (count : ℕ) (h : IsOpenHead count head)
      → (more : List ℕ) × (p.rest ≡ h.gate ∷ (to_be_bytes w32 count ++ more))
  behind_length count h =
      let found = first_five p.rest h.gate (to_be_bytes w32 count) (five ∙ h.bytes_are) in (
        drop 4 found.0,
        found.1 ∙ ap (λ (l : List ℕ). h.gate ∷ l)
            (sym (take-append-drop 4 found.0) ∙ ap (λ (l : List ℕ). l ++ drop 4 found.0) found.2),
      )

  pub past_end : (count : ℕ) → IsOpenHead count head → length bytes - at < count + 6 → IsTorn at bytes
  past_end count h past =
      let found = behind_length count h in
      record {
        bodies = bodies;
        front = p.front;
        gate = h.gate;
        rest = to_be_bytes w32 count ++ found.0;
        records = p.records;
        at = p.place;
        is_open = h.is_open;
        torn = p.split ∙ ap (λ (l : List ℕ). p.front ++ l) found.1;
        none = λ body next more is_body is. too_short found.0 found.1 body next more is_body is;
      }
    where
      too_short : (tail : List ℕ) → p.rest ≡ h.gate ∷ (to_be_bytes w32 count ++ tail)
          → (body : List ℕ) (next : ℕ) (more : List ℕ) → IsBody body
          → to_be_bytes w32 count ++ tail ≡ counted body ++ next ∷ more → ⊥
      too_short tail rest body next more is_body is =
          let fronts : to_be_bytes w32 count ≡ to_be_bytes w32 (length body) =
          sym (take_at (to_be_bytes w32 count) tail 4 refl)
          ∙ ap (λ (l : List ℕ). take 4 l) (is ∙ append_assoc (to_be_bytes w32 (length body)) body (next ∷ more))
          ∙ take_at (to_be_bytes w32 (length body)) (body ++ next ∷ more) 4 refl in
          let counts : count ≡ length body =
          sym (from_be_bytes-to_be_bytes_4 count (omega (arith, h.short)))
          ∙ ap (λ (l : List ℕ). from_be_bytes w32 l) fronts
          ∙ from_be_bytes-to_be_bytes_4 (length body) (omega (arith, is_body.short)) in
          omega (
            arith,
            past,
            counts,
            p.place,
            ap length p.split,
            length-append p.front p.rest,
            ap length rest,
            ap length is,
            length-append (counted body) (next ∷ more),
            length-counted body,
          )

  pub one_body_more : (count : ℕ) → IsOpenHead count head → count + 6 ≤ length bytes - at → (body : List ℕ)
      → body ≡ take count (drop (at + 5) bytes) → Passed (at + (count + 5)) (bodies ++ body ∷ []) bytes
  one_body_more count h fits body body_is =
      let found = behind_length count h in
      let long : length bytes ≡ at + (5 + length found.0) =
      omega (arith, p.place, ap length p.split, length-append p.front p.rest, ap length found.1) in
      let tail : drop (at + 5) bytes ≡ found.0 =
      sym (drop-drop 5 at bytes) ∙ ap (λ (l : List ℕ). drop 5 l) (rest_is at bodies bytes p ∙ found.1) in
      let is : body ≡ take count found.0 = body_is ∙ ap (λ (l : List ℕ). take count l) tail in
      let length_is : length body ≡ count = ap length is ∙ length-take count found.0 ∙ omega (arith, fits, long) in
      let whole : found.0 ≡ body ++ drop count found.0 = sym (take-append-drop count found.0)
      ∙ ap (λ (l : List ℕ). l ++ drop count found.0) (sym is) in
      let gate : p.rest ≡ (h.gate ∷ counted body) ++ drop count found.0 =
      found.1 ∙ ap (λ (n : ℕ). h.gate ∷ (to_be_bytes w32 n ++ found.0)) (sym length_is)
      ∙ ap (λ (l : List ℕ). h.gate ∷ (to_be_bytes w32 (length body) ++ l)) whole
      ∙ ap (λ (l : List ℕ). h.gate ∷ l) (sym (append_assoc (to_be_bytes w32 (length body)) body (drop count found.0)))
      in
      record {
        front = p.front ++ h.gate ∷ counted body;
        rest = drop count found.0;
        records = records_push bodies p.front h.gate body p.records h.is_open
            (record { some = omega (arith, length_is, h.some); short = omega (arith, length_is, h.short) });
        place = omega (arith, p.place, length_is, length-append p.front (h.gate ∷ counted body), length-counted body);
        split = p.split ∙ ap (λ (l : List ℕ). p.front ++ l) gate
            ∙ sym (append_assoc p.front (h.gate ∷ counted body) (drop count found.0));
      }
