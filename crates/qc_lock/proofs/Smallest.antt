-- The smallest of two, of the numbers and of the lines so far, and that it is one.
use Rattle.std.proofs.Common.{◌≡◌, ◌⊎◌, inl, inr, ℕ, ◌<◌, ◌≤◌, ◌+◌, suc, arith, List, [], ◌∷◌, ◌++◌, length, take}
use Rattle.std.proofs.Common.{get_or, Option, Some, None, refl, sym, ◌∙◌, ap, subst}
use Rattle.std.specs.Ordering.{nat_cmp, ordering_then}
use Rattle.std.specs.declared.cmp.Ordering.{Ordering}
use Rattle.std.specs.declared.cmp.Ordering.TheVariants.{Less, Equal, Greater}
use Rattle.std.proofs.Math.Seq.{take-suc}
use Rattle.std.proofs.lemmas.Bool.{cases_lt}
use Rattle.qc_stamp.specs.Vocabulary.{tx_cmp}
use Rattle.qc_stamp.proofs.Orders.{first_Equal, nat_apart, second_Equal, transactions_are_ordered}
use Rattle.qc_entry.specs.declared.line.OwnLine.{OwnLine}
use Rattle.qc_list.specs.Vocabulary.{by_order}
use Rattle.qc_lock.specs.declared.clash.Clash.{Clash}
use Rattle.qc_lock.specs.Vocabulary.{In, IsSmallest, clash_cmp, smaller_of}
use Rattle.qc_lock.proofs.SmallestOf.{clash_total, in-append, in-append_left, in-append_right, smallest_by, turned}
use Rattle.qc_lock.proofs.SmallestOf.{never_both, equal_or}

-- the smallest of two, and of one kind alone

after_two : (a b c : Clash) → (clash_cmp a b ≡ Greater → ⊥) → (clash_cmp b c ≡ Greater → ⊥) → clash_cmp a c ≡ Greater
    → ⊥
after_two a b c first second greater = by (clash_cmp a b) refl where
  by : (o : Ordering) → clash_cmp a b ≡ o → ⊥
  by Less is = second (turned c b Less (clash_total.trans c a b (turned a c Greater greater) is))
  by Equal is = second (sym (clash_total.congr a b c is) ∙ greater)
  by Greater is = first is

pub smallest_both : (P Q : Clash → Type 0) (a b : Option Clash) → IsSmallest P a → IsSmallest Q b
    → IsSmallest (λ d. P d ⊎ Q d) (smaller_of a b)
smallest_both P Q None b p q = smallest_by Q (λ d. P d ⊎ Q d) b (λ d y. inr y) back q where
  back : (d : Clash) → P d ⊎ Q d → Q d
  back d (inl x) = absurd (p d x)
  back d (inr y) = y
smallest_both P Q (Some a) None p q = (inl p.0, all) where
  all : (d : Clash) → P d ⊎ Q d → clash_cmp a d ≡ Greater → ⊥
  all d (inl x) greater = p.1 d x greater
  all d (inr y) greater = q d y
smallest_both P Q (Some a) (Some b) p q = by (clash_cmp b a) refl where
  keep : (clash_cmp a b ≡ Greater → ⊥) → IsSmallest (λ d. P d ⊎ Q d) (Some a)
  keep up = (inl p.0, all) where
    all : (d : Clash) → P d ⊎ Q d → clash_cmp a d ≡ Greater → ⊥
    all d (inl x) greater = p.1 d x greater
    all d (inr y) greater = after_two a b d up (q.1 d y) greater

  by : (o : Ordering) → clash_cmp b a ≡ o → IsSmallest (λ d. P d ⊎ Q d) (Some (by_order o b a a))
  by Less is = (inr q.0, all) where
    all : (d : Clash) → P d ⊎ Q d → clash_cmp b d ≡ Greater → ⊥
    all d (inl x) greater = after_two b a d (never_both (clash_cmp b a) is) (p.1 d x) greater
    all d (inr y) greater = q.1 d y greater
  by Equal is = keep (equal_or (clash_cmp a b) (turned b a Equal is))
  by Greater is = keep (never_both (clash_cmp a b) (turned b a Greater is))

clash_apart : (a b : Clash) → clash_cmp a b ≡ Equal → a ≡ b
clash_apart a b h =
    let rest : ordering_then (nat_cmp a.inv b.inv) (nat_cmp a.event b.event) ≡ Equal =
    second_Equal (tx_cmp a.holder b.holder) _ h in
    let holder : a.holder ≡ b.holder = transactions_are_ordered.apart a.holder b.holder (first_Equal _ _ h) in
    let inv : a.inv ≡ b.inv = nat_apart _ _ (first_Equal _ _ rest) in
    let event : a.event ≡ b.event = nat_apart _ _ (second_Equal (nat_cmp a.inv b.inv) _ rest) in
    λ i. record { holder = holder i; inv = inv i; event = event i }

pub smallest_one : (P : Clash → Type 0) (a b : Option Clash) → IsSmallest P a → IsSmallest P b → a ≡ b
smallest_one P None None x y = refl
smallest_one P None (Some b) x y = absurd (x b y.0)
smallest_one P (Some a) None x y = absurd (y a x.0)
smallest_one P (Some a) (Some b) x y = by (clash_cmp a b) refl where
  by : (o : Ordering) → clash_cmp a b ≡ o → Some a ≡ Some b
  by Less is = absurd (y.1 a x.0 (turned a b Less is))
  by Equal is = ap Some (clash_apart a b is)
  by Greater is = absurd (x.1 b y.0 is)

-- the smallest of those of the numbers so far, and of one more

pub smallest_none : (P : ℕ → Clash → Type 0) → IsSmallest (λ d. (n : ℕ) × (n < 0) × P n d) None
smallest_none P = λ d found. let less : found.0 < 0 = found.1 in absurd (omega (arith, less))

pub smallest_more : (P : ℕ → Clash → Type 0) (k : ℕ) (a b : Option Clash)
    → IsSmallest (λ d. (n : ℕ) × (n < k) × P n d) a → IsSmallest (P k) b
    → IsSmallest (λ d. (n : ℕ) × (n < k + 1) × P n d) (smaller_of a b)
smallest_more P k a b p q = smallest_by (λ d. ((n : ℕ) × (n < k) × P n d) ⊎ P k d) (λ d. (n : ℕ) × (n < k + 1) × P n d)
    (smaller_of a b) to back (smallest_both (λ d. (n : ℕ) × (n < k) × P n d) (P k) a b p q) where
      to : (d : Clash) → ((n : ℕ) × (n < k) × P n d) ⊎ P k d → (n : ℕ) × (n < k + 1) × P n d
      to d (inl x) = let less : x.0 < k = x.1 in (x.0, omega (arith, less), x.2)
      to d (inr y) = (k, omega arith, y)

      back : (d : Clash) → (n : ℕ) × (n < k + 1) × P n d → ((n : ℕ) × (n < k) × P n d) ⊎ P k d
      back d x = by (cases_lt x.0 k) where
        by : (x.0 < k) ⊎ (k ≤ x.0) → ((n : ℕ) × (n < k) × P n d) ⊎ P k d
        by (inl less) = inl (x.0, less, x.2)
        by (inr least) = let less : x.0 < k + 1 = x.1 in let same : x.0 ≡ k = omega (arith, less, least) in
            inr (subst (λ n. P n d) same x.2)

pub smallest_all : (P : ℕ → Clash → Type 0) (k : ℕ) (a : Option Clash) → ((n : ℕ) (d : Clash) → P n d → n < k)
    → IsSmallest (λ d. (n : ℕ) × (n < k) × P n d) a → IsSmallest (λ d. (n : ℕ) × P n d) a
smallest_all P k a low least = smallest_by (λ d. (n : ℕ) × (n < k) × P n d) (λ d. (n : ℕ) × P n d) a (λ d x. (x.0, x.2))
    (λ d x. (x.0, low x.0 d x.1, x.1)) least

-- the smallest of those of the lines so far, and of one more

abbrev pub Among : (OwnLine → Clash → Type 0) → List OwnLine → Clash → Type 0
Among P lines d = (l : OwnLine) × In l lines × P l d

one_more : (lines : List OwnLine) (i : ℕ) (e : OwnLine) → i < length lines
    → take (i + 1) lines ≡ take i lines ++ get_or lines i e ∷ []
one_more lines i e less =
    let next : suc i ≡ i + 1 = omega arith in
    subst (λ n. take n lines ≡ take i lines ++ get_or lines i e ∷ []) next (take-suc lines i e less)

pub lines_more : (P : OwnLine → Clash → Type 0) (lines : List OwnLine) (i : ℕ) (e : OwnLine) (a b : Option Clash)
    → i < length lines
    → IsSmallest (Among P (take i lines)) a → IsSmallest (P (get_or lines i e)) b
    → IsSmallest (Among P (take (i + 1) lines)) (smaller_of a b)
lines_more P lines i e a b less p q =
    smallest_by (λ d. Among P (take i lines) d ⊎ P (get_or lines i e) d) (Among P (take (i + 1) lines))
    (smaller_of a b) to back (smallest_both (Among P (take i lines)) (P (get_or lines i e)) a b p q) where
      more : take (i + 1) lines ≡ take i lines ++ get_or lines i e ∷ []
      more = one_more lines i e less

      to : (d : Clash) → Among P (take i lines) d ⊎ P (get_or lines i e) d → Among P (take (i + 1) lines) d
      to d (inl x) = (
        x.0,
        subst (λ ls. In x.0 ls) (sym more)
            (in-append_left x.0 (take i lines) (get_or lines i e ∷ []) x.1),
        x.2,
      )
      to d (inr y) = (
        get_or lines i e,
        subst (λ ls. In (get_or lines i e) ls) (sym more)
            (in-append_right (get_or lines i e) (take i lines) (get_or lines i e ∷ []) (inl refl)),
        y,
      )

      back : (d : Clash) → Among P (take (i + 1) lines) d → Among P (take i lines) d ⊎ P (get_or lines i e) d
      back d x = by (in-append x.0 (take i lines) (get_or lines i e ∷ []) (subst (λ ls. In x.0 ls) more x.1)) where
        by : In x.0 (take i lines) ⊎ In x.0 (get_or lines i e ∷ []) → Among P (take i lines) d ⊎ P (get_or lines i e) d
        by (inl here) = inl (x.0, here, x.2)
        by (inr (inl is)) = inr (subst (λ l. P l d) is x.2)
        by (inr (inr never)) = absurd never
