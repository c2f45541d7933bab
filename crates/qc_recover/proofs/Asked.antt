-- What is asked at a rise, one after another.
use Rattle.std.proofs.Common.{◌≡◌, ◌-◌, ◌++◌, ℕ, List, [], ◌∷◌, map, take, refl, arith, append_assoc, zero, suc}
use Rattle.std.specs.List.{AllByRecursion as Every}
use Rattle.qc_msg.specs.declared.turn.Posting.{Posting}
use Rattle.qc_stamp.specs.declared.stamp.TxId.{TxId}

-- one more is asked, of as many as may still be
pub asked_more : (q : TxId → Posting) (sends : List Posting) (left : ℕ) (tx : TxId) (rest txs : List TxId)
    → (left ≡ 0 → ⊥) → txs ≡ tx ∷ rest
    → (sends ++ q tx ∷ []) ++ map q (take (left - 1) rest) ≡ sends ++ map q (take left txs)
asked_more q sends zero tx rest txs some are = absurd (some refl)
asked_more q sends (suc n) tx rest txs some are =
    let less : suc n - 1 ≡ n = omega arith in
    rw (less, are) (append_assoc sends (q tx ∷ []) (map q (take n rest)))

-- what holds of all holds of the first
pub first_every : {A : Type 0} (P : A → Type 0) (n : ℕ) (xs : List A) → Every P xs → Every P (take n xs)
first_every P zero xs all = tt
first_every P (suc n) [] all = tt
first_every P (suc n) (x ∷ xs) all = (all.0, first_every P n xs all.1)
