-- A set of transactions in their order beside a list of them, one transaction more or less.
use Rattle.std.proofs.Common.{◌≡◌, ℕ, suc, ◌+◌, ◌||◌, not, Bool, true, false, cond, List, [], ◌∷◌, ◌++◌, length, refl}
use Rattle.std.proofs.Common.{sym, ap, ◌∙◌, subst, arith}
use Rattle.std.specs.List.{list_any}
use Rattle.std.specs.BTreeMap.{is_at}
use Rattle.qc_stamp.specs.declared.stamp.TxId.{TxId}
use Rattle.qc_stamp.specs.Vocabulary.{same_tx, tx_cmp}
use Rattle.qc_stamp.proofs.Orders.{other_tx_sym, same_tx_is}
use Rattle.qc_text.specs.Vocabulary.{AreOnce, IsSetOf, is_holder, with_holder, without_holder}
use Rattle.qc_text.proofs.Alike.{same_key}
use Rattle.qc_text.proofs.Holding.{holder_left}

-- who is a holder

holder_last : (txs : List TxId) (tx q : TxId)
    → is_holder (txs ++ tx ∷ []) q ≡ cond (same_tx tx q) true (is_holder txs q)
holder_last [] tx q = by (same_tx tx q) where
  by : (b : Bool) → (b || false) ≡ cond b true false
  by true = refl
  by false = refl
holder_last (t ∷ txs) tx q = ap (λ (b : Bool). same_tx t q || b) (holder_last txs tx q)
    ∙ by (same_tx t q) (same_tx tx q) where
      by : (a b : Bool) → (a || cond b true (is_holder txs q)) ≡ cond b true (a || is_holder txs q)
      by true true = refl
      by true false = refl
      by false b = refl

is_there : (txs : List TxId) (tx q : TxId) → is_holder txs tx ≡ true
    → is_holder txs q ≡ cond (same_tx tx q) true (is_holder txs q)
is_there txs tx q h = by (same_tx tx q) refl where
  by : (b : Bool) → same_tx tx q ≡ b → is_holder txs q ≡ cond b true (is_holder txs q)
  by true same = subst (λ (u : TxId). is_holder txs u ≡ true) (same_tx_is tx q same) h
  by false other = refl

holder_with : (txs : List TxId) (tx q : TxId)
    → is_holder (with_holder txs tx) q ≡ cond (same_tx tx q) true (is_holder txs q)
holder_with txs tx q = by (is_holder txs tx) refl where
  by : (b : Bool) → is_holder txs tx ≡ b → is_holder (cond b txs (txs ++ tx ∷ [])) q ≡ cond (same_tx tx q) true
      (is_holder txs q)
  by true h = is_there txs tx q h
  by false h = holder_last txs tx q

is_gone : (txs : List TxId) (tx : TxId) → is_holder (without_holder txs tx) tx ≡ false
is_gone [] tx = refl
is_gone (t ∷ txs) tx = by (same_tx t tx) refl (is_gone txs tx) where
  by : (b : Bool) → same_tx t tx ≡ b → is_holder (without_holder txs tx) tx ≡ false
      → is_holder (cond (not b) (t ∷ without_holder txs tx) (without_holder txs tx)) tx ≡ false
  by true same ih = ih
  by false other ih = ap (λ (b : Bool). b || is_holder (without_holder txs tx) tx) other ∙ ih

holder_without : (txs : List TxId) (tx q : TxId)
    → is_holder (without_holder txs tx) q ≡ cond (same_tx tx q) false (is_holder txs q)
holder_without txs tx q = by (same_tx tx q) refl where
  by : (b : Bool) → same_tx tx q ≡ b → is_holder (without_holder txs tx) q ≡ cond b false (is_holder txs q)
  by true same = subst (λ (u : TxId). is_holder (without_holder txs tx) u ≡ false) (same_tx_is tx q same)
      (is_gone txs tx)
  by false other = holder_left txs tx q (other_tx_sym tx q other)

-- each once

once_last : (txs : List TxId) (tx : TxId) → is_holder txs tx ≡ false → AreOnce txs → AreOnce (txs ++ tx ∷ [])
once_last [] tx h o = (refl, o)
once_last (t ∷ txs) tx h o = by (same_tx t tx) refl h (once_last txs tx) where
  by : (b : Bool) → same_tx t tx ≡ b → (b || is_holder txs tx) ≡ false
      → (is_holder txs tx ≡ false → AreOnce txs → AreOnce (txs ++ tx ∷ []))
      → AreOnce (t ∷ txs ++ tx ∷ [])
  by true same never ih = absurd (let no : ⊥ = cc in no)
  by false other none ih = (
    holder_last txs tx t ∙ ap (λ (b : Bool). cond b true (is_holder txs t)) (other_tx_sym t tx other)
        ∙ o.0,
    ih none o.1,
  )

once_with : (txs : List TxId) (tx : TxId) → AreOnce txs → AreOnce (with_holder txs tx)
once_with txs tx o = by (is_holder txs tx) refl where
  by : (b : Bool) → is_holder txs tx ≡ b → AreOnce (cond b txs (txs ++ tx ∷ []))
  by true h = o
  by false h = once_last txs tx h o

once_without : (txs : List TxId) (tx : TxId) → AreOnce txs → AreOnce (without_holder txs tx)
once_without [] tx o = o
once_without (t ∷ txs) tx o = by (same_tx t tx) refl (once_without txs tx o.1) where
  by : (b : Bool) → same_tx t tx ≡ b → AreOnce (without_holder txs tx)
      → AreOnce (cond (not b) (t ∷ without_holder txs tx) (without_holder txs tx))
  by true same ih = ih
  by false other ih = (holder_left txs tx t other ∙ o.0, ih)

-- how many

count_last : (txs : List TxId) (tx : TxId) → length (txs ++ tx ∷ []) ≡ length txs + 1
count_last [] tx = refl
count_last (t ∷ txs) tx = let more : length (txs ++ tx ∷ []) ≡ length txs + 1 = count_last txs tx in omega (arith, more)

count_with : (txs : List TxId) (tx : TxId)
    → length (with_holder txs tx) ≡ length txs + cond (not (is_holder txs tx)) 1 0
count_with txs tx = by (is_holder txs tx) where
  by : (b : Bool) → length (cond b txs (txs ++ tx ∷ [])) ≡ length txs + cond (not b) 1 0
  by true = omega arith
  by false = count_last txs tx

none_dropped : (txs : List TxId) (tx : TxId) → is_holder txs tx ≡ false → length (without_holder txs tx) ≡ length txs
none_dropped [] tx h = refl
none_dropped (t ∷ txs) tx h = by (same_tx t tx) h (none_dropped txs tx) where
  by : (b : Bool) → (b || is_holder txs tx) ≡ false
      → (is_holder txs tx ≡ false → length (without_holder txs tx) ≡ length txs)
      → length (cond (not b) (t ∷ without_holder txs tx) (without_holder txs tx)) ≡ suc (length txs)
  by true never ih = absurd (let no : ⊥ = cc in no)
  by false none ih = ap suc (ih none)

count_without : (txs : List TxId) (tx : TxId) → AreOnce txs
    → length (without_holder txs tx) + cond (is_holder txs tx) 1 0 ≡ length txs
count_without [] tx o = refl
count_without (t ∷ txs) tx o = by (same_tx t tx) refl (count_without txs tx o.1) where
  by : (b : Bool) → same_tx t tx ≡ b → length (without_holder txs tx) + cond (is_holder txs tx) 1 0 ≡ length txs
      → length (cond (not b) (t ∷ without_holder txs tx) (without_holder txs tx)) + cond (b || is_holder txs tx) 1 0
      ≡ suc (length txs)
  by true same ih =
      let apart : is_holder txs tx ≡ false = subst (λ (u : TxId). is_holder txs u ≡ false) (same_tx_is t tx same) o.0 in
      let all : length (without_holder txs tx) ≡ length txs = none_dropped txs tx apart in
      omega (arith, all)
  by false other ih = omega (arith, ih)

-- the set

pub set_with : (txs keys after : List TxId) (tx : TxId) (added : Bool) → added ≡ not (list_any (is_at (tx_cmp tx)) keys)
    → ((q : TxId) → list_any (is_at (tx_cmp q)) after ≡ cond (is_at (tx_cmp tx) q) true
    (list_any (is_at (tx_cmp q)) keys))
    → length after ≡ length keys + cond added 1 0
    → IsSetOf txs keys → IsSetOf (with_holder txs tx) after
set_with txs keys after tx added is keeps grows set = record {
  members = λ q.
      keeps q
      ∙ ap (λ (b : Bool). cond b true (list_any (is_at (tx_cmp q)) keys)) (same_key tx q)
      ∙ ap (λ (b : Bool). cond (same_tx tx q) true b) (set.members q)
      ∙ sym (holder_with txs tx q);
  count =
      grows
      ∙ ap (λ (b : Bool). length keys + cond b 1 0) (is ∙ ap not (set.members tx))
      ∙ ap (λ (n : ℕ). n + cond (not (is_holder txs tx)) 1 0) set.count
      ∙ sym (count_with txs tx);
  once = once_with txs tx set.once;
}

pub set_without : (txs keys after : List TxId) (tx : TxId) (was : Bool) → was ≡ list_any (is_at (tx_cmp tx)) keys
    → ((q : TxId) → list_any (is_at (tx_cmp q)) after ≡ cond (is_at (tx_cmp tx) q) false
    (list_any (is_at (tx_cmp q)) keys))
    → length after + cond was 1 0 ≡ length keys
    → IsSetOf txs keys → IsSetOf (without_holder txs tx) after
set_without txs keys after tx was is keeps shrinks set = record {
  members = λ q.
      keeps q
      ∙ ap (λ (b : Bool). cond b false (list_any (is_at (tx_cmp q)) keys)) (same_key tx q)
      ∙ ap (λ (b : Bool). cond (same_tx tx q) false b) (set.members q)
      ∙ sym (holder_without txs tx q);
  count =
      let told : was ≡ is_holder txs tx = is ∙ set.members tx in
      let left : length after + cond (is_holder txs tx) 1 0 ≡ length txs =
      ap (λ (b : Bool). length after + cond b 1 0) (sym told) ∙ shrinks ∙ set.count in
      let list : length (without_holder txs tx) + cond (is_holder txs tx) 1 0 ≡ length txs =
      count_without txs tx set.once in
      omega (arith, left, list);
  once = once_without txs tx set.once;
}
