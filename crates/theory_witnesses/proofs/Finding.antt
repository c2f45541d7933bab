-- Facts that are looked for: an answer is the proof of the fact, or none.
use Rattle.std.proofs.Common.{◌≡◌, ℕ, ◌≤◌, ◌<◌, suc, ◌==◌, leb, Bool, true, false, List, [], ◌∷◌, Option, Some, None}
use Rattle.std.proofs.Common.{is_some, ◌⊎◌, inl, inr, refl, sym, ◌∙◌, subst, eqb-true, leb-true, true≢false}
use Rattle.std.proofs.lemmas.Bool.{eqb-false}
use Rattle.qc_list.specs.Vocabulary.{In}
use Rattle.theory_machine.specs.Vocabulary.{Asked}
use Rattle.qc_stamp.specs.Vocabulary.{same_tx}
use Rattle.qc_stamp.specs.declared.stamp.TxId.{TxId}
use Rattle.qc_stamp.proofs.Orders.{same_tx_test}

-- a fact that was found
pub proof_of : {P : Type 0} (o : Option P) → is_some o ≡ true → P
proof_of (Some p) e = p
proof_of None e = absurd (true≢false (sym e))

abbrev pub both : {P Q : Type 0} → Option P → Option Q → Option (P × Q)
both (Some p) (Some q) = Some (p, q)
both (Some p) None = None
both None (Some q) = None
both None None = None

abbrev pub one_of : {P Q : Type 0} → Option P → Option Q → Option (P ⊎ Q)
one_of (Some p) o = Some (inl p)
one_of None (Some q) = Some (inr q)
one_of None None = None

abbrev pub where_asked : {P : Type 0} (is : Bool) → Option P → Option (Asked is P)
where_asked true o = o
where_asked false o = Some tt

abbrev pub is_true : (b : Bool) → Option (b ≡ true)
is_true true = Some refl
is_true false = None

abbrev pub is_false : (b : Bool) → Option (b ≡ false)
is_false true = None
is_false false = Some refl

abbrev pub at_most : (a b : ℕ) → Option (a ≤ b)
at_most a b = by (leb a b) refl
  where
    by : (t : Bool) → leb a b ≡ t → Option (a ≤ b)
    by true e = Some (leb-true a b e)
    by false e = None

abbrev pub below : (a b : ℕ) → Option (a < b)
below a b = at_most (suc a) b

abbrev pub same_number : (a b : ℕ) → Option (a ≡ b)
same_number a b = by (a == b) refl
  where
    by : (t : Bool) → (a == b) ≡ t → Option (a ≡ b)
    by true e = Some (eqb-true a b e)
    by false e = None

-- what holds where two numbers are one, and needs a proof only there
abbrev pub where_same : {P : Type 0} (a b : ℕ) → Option P → Option (a ≡ b → P)
where_same {P = P} a b o = by (a == b) refl o
  where
    by : (t : Bool) → (a == b) ≡ t → Option P → Option (a ≡ b → P)
    by true e (Some p) = Some (λ same. p)
    by true e None = None
    by false e o = Some (λ same. absurd (eqb-false a b e same))

abbrev pub where_same_tx : {P : Type 0} (a b : TxId) → Option P → Option (a ≡ b → P)
where_same_tx {P = P} a b o = by (same_tx a b) refl o
  where
    by : (t : Bool) → same_tx a b ≡ t → Option P → Option (a ≡ b → P)
    by true e (Some p) = Some (λ same. p)
    by true e None = None
    by false e o = Some (λ same. absurd (true≢false (sym (same_tx_test a b same) ∙ e)))

-- the member and the rest
abbrev also : {A : Type 0} (P : A → Type 0) (y : A) (ys : List A) → Option (P y) → Option ((x : A) → In x ys → P x)
    → Option ((x : A) → In x (y ∷ ys) → P x)
also P y ys (Some p) (Some rest) = Some (λ x h. elim h [ inl same ↦ subst P (sym same) p | inr later ↦ rest x later ])
also P y ys (Some p) None = None
also P y ys None (Some rest) = None
also P y ys None None = None

-- of each member of a list
abbrev pub every : {A : Type 0} (P : A → Type 0) → ((x : A) → Option (P x)) → (xs : List A)
    → Option ((x : A) → In x xs → P x)
every P look [] = Some (λ x h. absurd h)
every P look (y ∷ ys) = also P y ys (look y) (every P look ys)

-- a member of which it holds
pub record IsFound {A : Type 0} (P : A → Type 0) (xs : List A) : Type 0 where
  pub item : A
  pub stands : In item xs
  pub holds : P item

abbrev either : {A : Type 0} (P : A → Type 0) (y : A) (ys : List A) → Option (P y) → Option (IsFound P ys)
    → Option (IsFound P (y ∷ ys))
either P y ys (Some p) o = Some (record { item = y; stands = inl refl; holds = p })
either P y ys None (Some f) = Some (record { item = f.item; stands = inr f.stands; holds = f.holds })
either P y ys None None = None

abbrev pub some : {A : Type 0} (P : A → Type 0) → ((x : A) → Option (P x)) → (xs : List A) → Option (IsFound P xs)
some P look [] = None
some P look (y ∷ ys) = either P y ys (look y) (some P look ys)

abbrev first_or_later : {A : Type 0} (x y : A) (ys : List A) → Option (x ≡ y) → Option (In x ys)
    → Option (In x (y ∷ ys))
first_or_later x y ys (Some e) o = Some (inl e)
first_or_later x y ys None (Some h) = Some (inr h)
first_or_later x y ys None None = None

abbrev pub member : {A : Type 0} → ((x y : A) → Option (x ≡ y)) → (x : A) (ys : List A) → Option (In x ys)
member same x [] = None
member same x (y ∷ ys) = first_or_later x y ys (same x y) (member same x ys)
