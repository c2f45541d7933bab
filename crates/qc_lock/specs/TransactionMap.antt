-- What transactions have, one each, under numbers: the number of each is above those of the ones before it.
use Rattle.std.specs.Prelude.{◌≡◌, ℕ, ◌<◌, if◌then◌else◌, false, not, List, [], ◌∷◌, filter, Option, Some, None}
use Rattle.std.specs.BTreeMap.{BTreeMap, get, values, IsOrdered}
use Rattle.std.specs.List.{find}
use Rattle.std.specs.Ordering.{nat_cmp}
use Rattle.qc_stamp.specs.declared.stamp.TxId.{TxId}
use Rattle.qc_stamp.specs.Vocabulary.{tx_cmp}
pub use Rattle.qc_stamp.specs.Order.{same_tx}

-- the first that is of a transaction, if there is one
abbrev pub one_of : {A : Type 0} → (A → TxId) → List A → TxId → Option A
one_of tx_of xs tx = find (λ x. same_tx (tx_of x) tx) xs

-- it takes the place of its transaction's, or comes last where there is none
abbrev pub put_one : {A : Type 0} → (A → TxId) → List A → A → List A
put_one tx_of [] one = one ∷ []
put_one tx_of (x ∷ xs) one = if same_tx (tx_of x) (tx_of one) then one ∷ xs else (x ∷ put_one tx_of xs one)

-- those of other transactions
abbrev pub without_one : {A : Type 0} → (A → TxId) → List A → TxId → List A
without_one tx_of xs tx = filter (λ x. not (same_tx (tx_of x) tx)) xs

-- none is of the transaction
abbrev pub AreOfOthers : {A : Type 0} → (A → TxId) → TxId → List A → Type 0
AreOfOthers tx_of tx [] = Unit {0}
AreOfOthers tx_of tx (x ∷ xs) = (same_tx (tx_of x) tx ≡ false) × AreOfOthers tx_of tx xs

-- each transaction has one at most
abbrev pub IsOneForEach : {A : Type 0} → (A → TxId) → List A → Type 0
IsOneForEach tx_of [] = Unit {0}
IsOneForEach tx_of (x ∷ xs) = AreOfOthers tx_of (tx_of x) xs × IsOneForEach tx_of xs

-- the number of the first that is of a transaction, if there is one
abbrev pub number_of : {A : Type 0} → (A → TxId) → List (ℕ × A) → TxId → Option ℕ
number_of tx_of [] tx = None
number_of tx_of (e ∷ es) tx = if same_tx (tx_of e.1) tx then Some e.0 else number_of tx_of es tx

-- each number is below this one
abbrev pub AreBelow : {A : Type 0} → ℕ → List (ℕ × A) → Type 0
AreBelow next [] = Unit {0}
AreBelow next (e ∷ es) = (e.0 < next) × AreBelow next es

-- each transaction has one, each number is known by its transaction, and the next number is free
pub record AreNumbered {A : Type 0} (tx_of : A → TxId) (entries : BTreeMap ℕ A) (numbers : BTreeMap TxId ℕ)
    (next : ℕ) : Type 0 where
  pub ordered : IsOrdered nat_cmp entries
  pub single : IsOneForEach tx_of (values entries)
  pub known : (tx : TxId) → get tx_cmp numbers tx ≡ number_of tx_of entries.entries tx
  pub below : AreBelow next entries.entries
