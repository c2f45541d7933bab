-- One for each transaction, as one is put, or some are left out.
use Rattle.std.proofs.Common.{◌≡◌, ◌++◌, Bool, true, false, cond, not, List, [], ◌∷◌, filter, Some, None, refl, ◌∙◌, ap}
use Rattle.std.proofs.Common.{subst}
use Rattle.qc_stamp.specs.declared.stamp.TxId.{TxId}
use Rattle.qc_lock.specs.declared.held.Held.{Held}
use Rattle.qc_lock.specs.Vocabulary.{AreOfOthers, IsOneForEach, one_of, put_one, without_one}
use Rattle.qc_lock.specs.TransactionMap.{same_tx}
use Rattle.qc_stamp.proofs.Orders.{same_tx_itself, same_tx_is, other_tx_sym}

others-put : {A : Type 0} (tx_of : A → TxId) (tx : TxId) (xs : List A) (one : A) → same_tx (tx_of one) tx ≡ false
    → AreOfOthers tx_of tx xs → AreOfOthers tx_of tx (put_one tx_of xs one)
others-put tx_of tx [] one other others = (other, tt)
others-put tx_of tx (x ∷ xs) one other others =
    by (same_tx (tx_of x) (tx_of one)) (others-put tx_of tx xs one other others.1) where
      by : (t : Bool) → AreOfOthers tx_of tx (put_one tx_of xs one)
          → AreOfOthers tx_of tx (cond t (one ∷ xs) (x ∷ put_one tx_of xs one))
      by true rest = (other, others.1)
      by false rest = (others.0, rest)

pub once-put : {A : Type 0} (tx_of : A → TxId) (xs : List A) (one : A) → IsOneForEach tx_of xs
    → IsOneForEach tx_of (put_one tx_of xs one)
once-put tx_of [] one once = (tt, tt)
once-put tx_of (x ∷ xs) one once = by (same_tx (tx_of x) (tx_of one)) refl (once-put tx_of xs one once.1) where
  by : (t : Bool) → same_tx (tx_of x) (tx_of one) ≡ t → IsOneForEach tx_of (put_one tx_of xs one)
      → IsOneForEach tx_of (cond t (one ∷ xs) (x ∷ put_one tx_of xs one))
  by true is rest = (subst (λ u. AreOfOthers tx_of u xs) (same_tx_is (tx_of x) (tx_of one) is) once.0, once.1)
  by false is rest = (others-put tx_of (tx_of x) xs one (other_tx_sym (tx_of x) (tx_of one) is) once.0, rest)

others-filter : {A : Type 0} (tx_of : A → TxId) (tx : TxId) (test : A → Bool) (xs : List A) → AreOfOthers tx_of tx xs
    → AreOfOthers tx_of tx (filter test xs)
others-filter tx_of tx test [] others = tt
others-filter tx_of tx test (x ∷ xs) others = by (test x) (others-filter tx_of tx test xs others.1) where
  by : (t : Bool) → AreOfOthers tx_of tx (filter test xs)
      → AreOfOthers tx_of tx (cond t (x ∷ filter test xs) (filter test xs))
  by true rest = (others.0, rest)
  by false rest = rest

pub once-filter : {A : Type 0} (tx_of : A → TxId) (test : A → Bool) (xs : List A) → IsOneForEach tx_of xs
    → IsOneForEach tx_of (filter test xs)
once-filter tx_of test [] once = tt
once-filter tx_of test (x ∷ xs) once = by (test x) (once-filter tx_of test xs once.1) where
  by : (t : Bool) → IsOneForEach tx_of (filter test xs)
      → IsOneForEach tx_of (cond t (x ∷ filter test xs) (filter test xs))
  by true rest = (others-filter tx_of (tx_of x) test xs once.0, rest)
  by false rest = rest

-- entries of what is held

abbrev pub holder : Held → TxId
holder h = h.tx

-- the first of a transaction comes last, and as it is left out again the others are as they were

none_first : {A : Type 0} (tx_of : A → TxId) (x : A) (xs : List A) (tx : TxId) → one_of tx_of (x ∷ xs) tx ≡ None
    → (same_tx (tx_of x) tx ≡ false) × (one_of tx_of xs tx ≡ None)
none_first tx_of x xs tx none = by (same_tx (tx_of x) tx) none where
  by : (t : Bool) → cond t (Some x) (one_of tx_of xs tx) ≡ None → (t ≡ false) × (one_of tx_of xs tx ≡ None)
  by true none = absurd (let never : ⊥ = cc in never)
  by false none = (refl, none)

pub put_last : {A : Type 0} (tx_of : A → TxId) (xs : List A) (one : A) → one_of tx_of xs (tx_of one) ≡ None
    → put_one tx_of xs one ≡ xs ++ one ∷ []
put_last tx_of [] one none = refl
put_last tx_of (x ∷ xs) one none =
    let first = none_first tx_of x xs (tx_of one) none in
    ap (λ t. cond t (one ∷ xs) (x ∷ put_one tx_of xs one)) first.0 ∙ ap (λ ys. x ∷ ys) (put_last tx_of xs one first.1)

pub without_last : {A : Type 0} (tx_of : A → TxId) (xs : List A) (one : A) → one_of tx_of xs (tx_of one) ≡ None
    → without_one tx_of (xs ++ one ∷ []) (tx_of one) ≡ xs
without_last tx_of [] one none = ap (λ t. cond (not t) (one ∷ []) []) (same_tx_itself (tx_of one))
without_last tx_of (x ∷ xs) one none =
    let first = none_first tx_of x xs (tx_of one) none in
    ap (λ t. cond (not t) (x ∷ without_one tx_of (xs ++ one ∷ []) (tx_of one))
    (without_one tx_of (xs ++ one ∷ []) (tx_of one))) first.0
    ∙ ap (λ ys. x ∷ ys) (without_last tx_of xs one first.1)
