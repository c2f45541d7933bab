-- What a stop may leave of the two writes of an append.
use Rattle.std.proofs.Common.{◌≡◌, ◌≢◌, ◌⊎◌, inl, inr, ℕ, ◌+◌, ◌<◌, ◌≤◌, List, [], ◌∷◌, ◌++◌, length, refl, sym, ◌∙◌}
use Rattle.std.proofs.Common.{ap, arith, append_assoc, length-append}
use Rattle.std.proofs.lemmas.Bool.{cases_eq, cases_lt}
use Rattle.std.proofs.lemmas.List.{append-nil}
use Rattle.qc_outside.specs.Vocabulary.{IsImage, settled, wrote}
use Rattle.qc_journal.specs.Vocabulary.{AreRecords, Holds, HoldsWithOrWithout, IsBody, counted, gate}
use Rattle.qc_journal.proofs.Lists.{same_front, same_but, written_byte}

-- one record more
pub records_push : (bodies : List (List ℕ)) (front : List ℕ) (gate : ℕ) (body : List ℕ) → AreRecords bodies front
    → gate ≢ 0 → IsBody body → AreRecords (bodies ++ body ∷ []) (front ++ gate ∷ counted body)
records_push [] front gate body none is_open is_body = (
  gate,
  [],
  is_open,
  is_body,
  ap (λ (l : List ℕ). l ++ gate ∷ counted body) none
      ∙ ap (λ (l : List ℕ). gate ∷ l) (sym (append-nil (counted body))),
  refl,
)
records_push (b ∷ bodies) front gate body records is_open is_body =
    let more = records_push bodies records.1 gate body records.5 is_open is_body in (
      records.0,
      records.1 ++ gate ∷ counted body,
      records.2,
      records.3,
      ap (λ (l : List ℕ). l ++ gate ∷ counted body) records.4
          ∙ ap (λ (l : List ℕ). records.0 ∷ l) (append_assoc (counted b) records.1 (gate ∷ counted body)),
      more,
    )

pub length-counted : (body : List ℕ) → length (counted body) ≡ length body + 4
length-counted body = omega arith

module _ (end : ℕ) (bodies : List (List ℕ)) where
  -- the closed gate stands in each image of a write behind it
  pub closed_stays : (front rest frame image : List ℕ) → AreRecords bodies front → length front ≡ end
      → IsImage (wrote (settled (front ++ 0 ∷ rest)) (record { at = end + 1; bytes = frame })) image
      → Holds bodies image
  closed_stays front rest frame image records end_is is_image =
      let found = same_front front 0 rest image (omega (arith, is_image.no_shorter, length-append front (0 ∷ rest)))
      (λ i le. is_image.same i (omega (arith, le, length-append front (0 ∷ rest)))
      (inl (omega (arith, le, end_is)), tt)) in
      inl (record { front = front; rest = found.0; records = records; closed = found.1 })

  -- the record stands whole in each image of the write of its gate
  pub whole_stays : (body front rest image : List ℕ) → IsBody body → AreRecords bodies front → length front ≡ end
      → IsImage (wrote (settled (front ++ 0 ∷ (counted body ++ 0 ∷ rest))) (gate end)) image
      → HoldsWithOrWithout bodies body image
  whole_stays body front rest image is_body records end_is is_image =
      let more = counted body ++ 0 ∷ rest in
      let long : length image ≡ length (front ++ 0 ∷ more) =
      omega (
        arith,
        is_image.no_shorter,
        is_image.no_longer,
        ap length (written_byte front 0 1 more end (sym end_is)),
        length-append front (0 ∷ more),
        length-append front (1 ∷ more),
      ) in
      let found = same_but front 0 more image long (λ i lt other. is_image.same i lt (beside i other, tt)) in
      elim (cases_eq found.0 0) [
        | inl shut ↦ inl
            (inl (record {
              front = front;
              rest = more;
              records = records;
              closed = found.1
                  ∙ ap (λ (g : ℕ). front ++ g ∷ more) shut;
            }))
        | inr is_open ↦ inr (inl (record {
          front = front ++ found.0 ∷ counted body;
          rest = rest;
          records = records_push bodies front found.0 body records is_open is_body;
          closed = found.1 ∙ sym (append_assoc front (found.0 ∷ counted body) (0 ∷ rest));
        }))
      ]
    where
      beside : (i : ℕ) → i ≢ length front → (i < end) ⊎ (end + 1 ≤ i)
      beside i other = elim (cases_lt i end) [ inl lt ↦ inl lt | inr ge ↦ inr (omega (arith, ge, other, end_is)) ]
