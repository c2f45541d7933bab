-- What a walk of one triple knows: as it begins, with one bit more, and with one event more left out.
use Rattle.std.proofs.Common.{◌≡◌, ◌⊎◌, inl, inr, ℕ, ◌<◌, ◌≤◌, Bool, true, false, List, length, get_or, set, replicate}
use Rattle.std.proofs.Common.{refl, sym, ap, subst, ◌∙◌}
use Rattle.std.specs.Prelude.{◌==◌}
use Rattle.std.proofs.lemmas.Bool.{cases_lt, eqb-true, eqb-false, or_left, true≢false}
use Rattle.std.proofs.lemmas.List.{get_or-replicate, get_or_past, get_or-set_same, get_or-set_other, length-replicate}
use Rattle.qc_cert.proofs.Computed.{covered_true, true_covered}
use Rattle.qc_table.proofs.Sets.{none_left}
use Rattle.qc_list.proofs.Booleans.{or_cases}
use Rattle.qc_cert.specs.Vocabulary.{AreFound, IsCovered, is_covered, triple}
use Rattle.qc_cert.specs.declared.triple.Triple.{Triple}
use Rattle.qc_table.proofs.Related.{has_with}
use Rattle.qc_table.specs.Vocabulary.{has, with_member}

-- what covers some events covers them with one more
pub covered_more : (list : List Triple) (view log out event : ℕ) → is_covered list (triple view log out) ≡ true
    → is_covered list (triple view log (with_member out event)) ≡ true
covered_more list view log out event is =
    let c : IsCovered list (triple view log out) = covered_true list (triple view log out) is in
    true_covered list (triple view log (with_member out event)) (record {
      place = c.place;
      by = c.by;
      listed = c.listed;
      covers = record {
        view = c.covers.view;
        log = c.covers.log;
        out = λ k here. has_with out event k ∙ or_left (has out k) (event == k) (c.covers.out k here);
      };
    })

-- no bit, nothing known
pub none_found : (list : List Triple) (out count : ℕ) → AreFound list out (replicate count 0)
none_found list out count view log found =
    absurd (true≢false (sym found ∙ none_left (get_or words view 0) (by (cases_lt view count)) log))
  where
    words : List ℕ
    words = replicate count 0

    by : (view < count) ⊎ (count ≤ view) → get_or words view 0 ≡ 0
    by (inl l) = get_or-replicate count view 0 0 l
    by (inr past) = get_or_past words view 0 (subst (λ n. n ≤ view) (sym (length-replicate count 0)) past)

-- a bit more
pub found_more : (list : List Triple) (out : ℕ) (words : List ℕ) (view log word : ℕ) → view < length words
    → word ≡ with_member (get_or words view 0) log → AreFound list out words
    → is_covered list (triple view log out) ≡ true → AreFound list out (set words view word)
found_more list out words view log word within new old here v l found = by (view == v) refl
  where
    of_word : view ≡ v → (has (get_or words view 0) l ≡ true) ⊎ ((log == l) ≡ true)
        → is_covered list (triple v l out) ≡ true
    of_word same (inl was) = subst (λ n. is_covered list (triple n l out) ≡ true) same (old view l was)
    of_word same (inr is) =
        subst (λ n. is_covered list (triple n l out) ≡ true) same
        (subst (λ n. is_covered list (triple view n out) ≡ true) (eqb-true log l is) here)

    by : (b : Bool) → (view == v) ≡ b → is_covered list (triple v l out) ≡ true
    by true e =
        let same : view ≡ v = eqb-true view v e in
        let bit : has (with_member (get_or words view 0) log) l ≡ true =
        sym (ap (λ n. has n l) (ap (λ n. get_or (set words view word) n 0) (sym same)
        ∙ get_or-set_same words view word 0 within ∙ new)) ∙ found in
        of_word same (or_cases (has (get_or words view 0) l) (log == l)
        (sym (has_with (get_or words view 0) log l) ∙ bit))
    by false e = old v l (sym (ap (λ n. has n l) (get_or-set_other words view v word 0
        (λ (same : v ≡ view). eqb-false view v e (sym same)))) ∙ found)
