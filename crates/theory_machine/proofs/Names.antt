-- The test of names, and functions with a new value at one place.
use Rattle.std.proofs.Common.{◌≡◌, ◌≢◌, ℕ, ◌==◌, ◌⊎◌, inl, inr, Bool, true, false, cond, refl, eq-eqb, eqb-true}
use Rattle.qc_stamp.specs.declared.stamp.TxId.{TxId}
use Rattle.qc_stamp.proofs.Orders.{same_tx_is, same_tx_itself, same_tx_test}
use Rattle.theory_machine.specs.Vocabulary.{put, put_tx}
use Rattle.qc_stamp.specs.Vocabulary.{same_tx}

pub tx_cases : (a b : TxId) → (a ≡ b) ⊎ (a ≢ b)
tx_cases a b = by (same_tx a b) refl
  where
    by : (t : Bool) → same_tx a b ≡ t → (a ≡ b) ⊎ (a ≢ b)
    by true e = inl (same_tx_is a b e)
    by false e = inr (λ same. let t : same_tx a b ≡ true = same_tx_test a b same in let never : ⊥ = cc in never)

pub put_case : {A : Type 0} (P : A → Type 0) (f : ℕ → A) (k : ℕ) (v : A) (n : ℕ) → (n ≡ k → P v) → ((n ≢ k) → P (f n))
    → P (put f k v n)
put_case {A = A} P f k v n here there = by (n == k) refl
  where
    by : (b : Bool) → (n == k) ≡ b → P (cond b v (f n))
    by true e = here (eqb-true n k e)
    by false e = there (λ same. let t : (n == k) ≡ true = eq-eqb n k same in cc)

pub put_tx_case : {A : Type 0} (P : A → Type 0) (f : TxId → A) (k : TxId) (v : A) (n : TxId) → (n ≡ k → P v)
    → ((n ≢ k) → P (f n)) → P (put_tx f k v n)
put_tx_case {A = A} P f k v n here there = by (same_tx n k) refl
  where
    by : (b : Bool) → same_tx n k ≡ b → P (cond b v (f n))
    by true e = here (same_tx_is n k e)
    by false e = there (λ same. let t : same_tx n k ≡ true = same_tx_test n k same in cc)

pub put_tx_here : {A : Type 0} (f : TxId → A) (k : TxId) (v : A) → put_tx f k v k ≡ v
put_tx_here {A = A} f k v = let t : same_tx k k ≡ true = same_tx_itself k in rw t refl

pub put_here : {A : Type 0} (f : ℕ → A) (k : ℕ) (v : A) → put f k v k ≡ v
put_here {A = A} f k v = let t : (k == k) ≡ true = eq-eqb k k refl in rw t refl
