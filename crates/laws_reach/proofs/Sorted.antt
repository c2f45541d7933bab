-- Records with different stamps are sorted alike where they are the same ones, however often and in whatever order they
-- stand.
use Rattle.std.proofs.Common.{◌≡◌, List, [], ◌∷◌, inl, inr, refl, sym, ◌∙◌, subst}
use Rattle.std.proofs.lemmas.Cmp.{tied_itself}
use Rattle.std.specs.declared.cmp.Ordering.TheVariants.{Equal}
use Rattle.qc_stamp.specs.Vocabulary.{stamp_cmp}
use Rattle.qc_stamp.proofs.Orders.{stamps_are_ordered}
use Rattle.qc_entry.specs.declared.record.Commit.{Commit}
use Rattle.qc_list.specs.Vocabulary.{In}
use Rattle.theory_onecopy.specs.Vocabulary.{AreApart, IsOrdered, IsStampedBefore, sorted}
use Rattle.theory_onecopy.proofs.Committed.{records_are_sorted}

pub never_itself : (c : Commit) → IsStampedBefore c c → ⊥
never_itself c before = let tied : stamp_cmp c.stamp c.stamp ≡ Equal = tied_itself stamps_are_ordered.total c.stamp in
    let no : ⊥ = cc in no

never_both : (c d : Commit) → IsStampedBefore c d → IsStampedBefore d c → ⊥
never_both c d first second = never_itself c (stamps_are_ordered.total.trans c.stamp d.stamp c.stamp first second)

same_first : (x y : Commit) (xs ys : List Commit) → IsOrdered IsStampedBefore (x ∷ xs)
    → IsOrdered IsStampedBefore (y ∷ ys) → ((c : Commit) → In c (x ∷ xs) → In c (y ∷ ys))
    → ((c : Commit) → In c (y ∷ ys) → In c (x ∷ xs)) → x ≡ y
same_first x y xs ys o p to back = elim (to x (inl refl)) [
  | inl same ↦ same
  | inr later ↦ elim (back y (inl refl)) [
    | inl same ↦ sym same
    | inr after ↦ absurd
        (never_both x y (o.0 y after) (p.0 x later))
  ]
]

to_rest : (x y : Commit) (xs ys : List Commit) → IsOrdered IsStampedBefore (x ∷ xs) → x ≡ y
    → ((c : Commit) → In c (x ∷ xs) → In c (y ∷ ys)) → (c : Commit) → In c xs → In c ys
to_rest x y xs ys o first to c among = elim
    (to c (inr among)) [
      | inl same ↦ absurd (never_itself x (subst (IsStampedBefore x) (same ∙ sym first) (o.0 c among)))
      | inr later ↦ later
    ]

-- ordered lists with the same members are the same
same_lists : (xs ys : List Commit) → IsOrdered IsStampedBefore xs → IsOrdered IsStampedBefore ys
    → ((c : Commit) → In c xs → In c ys) → ((c : Commit) → In c ys → In c xs) → xs ≡ ys
same_lists [] [] o p to back = refl
same_lists [] (y ∷ ys) o p to back = absurd (back y (inl refl))
same_lists (x ∷ xs) [] o p to back = absurd (to x (inl refl))
same_lists (x ∷ xs) (y ∷ ys) o p to back =
    let first : x ≡ y = same_first x y xs ys o p to back in
    let rest : xs ≡ ys = same_lists xs ys o.1 p.1 (to_rest x y xs ys o first to)
    (to_rest y x ys xs p (sym first) back) in
    λ i. first i ∷ rest i

pub apart_too : (xs ys : List Commit) → ((c : Commit) → In c ys → In c xs) → AreApart xs → AreApart ys
apart_too xs ys back apart = record {
  stamps = λ c d first second same. apart.stamps c d (back c first) (back d second) same;
  transactions = λ c d first second same. apart.transactions c d (back c first) (back d second) same;
}

pub sorted_alike : (xs ys : List Commit) → AreApart xs → ((c : Commit) → In c xs → In c ys)
    → ((c : Commit) → In c ys → In c xs) → sorted xs ≡ sorted ys
sorted_alike xs ys apart to back =
    let first = records_are_sorted xs apart.stamps in
    let second = records_are_sorted ys (apart_too xs ys back apart).stamps in
    same_lists (sorted xs) (sorted ys) first.0 second.0 (λ c among. (second.1 c).1 (to c ((first.1 c).0 among)))
    (λ c among. (first.1 c).1 (back c ((second.1 c).0 among)))
