-- The index follows what is held.
use Rattle.std.proofs.Common.{◌≡◌, ◌⊎◌, inl, inr, ℕ, ◌<◌, Bool, true, false, ◌&&◌, ◌||◌, not, List, [], ◌∷◌, fold}
use Rattle.std.proofs.Common.{Option, Some, None, unwrap_or, refl, sym, ◌∙◌, ap, subst}
use Rattle.std.specs.BTreeSet.{BTreeSet}
use Rattle.std.specs.List.{list_any}
use Rattle.std.specs.declared.cmp.Ordering.{Ordering}
use Rattle.std.specs.declared.cmp.Ordering.TheVariants.{Less, Equal, Greater}
use Rattle.std.proofs.lemmas.Bool.{both_ways, or_cases, or_left, or_right}
use Rattle.qc_stamp.specs.declared.stamp.TxId.{TxId}
use Rattle.qc_list.specs.Vocabulary.{by_order, inserted}
use Rattle.qc_lock.specs.declared.holder_set.HolderKey.{HolderKey}
use Rattle.qc_lock.specs.declared.held.Held.{Held}
use Rattle.qc_lock.specs.Vocabulary.{AreSmall, IsIndex, Narrows, Widens, entry_of, has_line, has_read, held_of}
use Rattle.qc_lock.specs.Vocabulary.{is_there, same_tx, with_entry, without_held}
use Rattle.qc_lock.proofs.Entries.{entry-without, held-put, held-put_other, held-without_other}
use Rattle.qc_stamp.proofs.Orders.{same_tx_itself, same_tx_is, other_tx_sym}
use Rattle.qc_list.proofs.Booleans.{and_first}

-- what insertion holds was there, or is new

inserted_any : {A : Type 0} (cmp : A → A → Ordering) (p : A → Bool) (xs : List A) (x : A)
    → list_any p (inserted cmp xs x) ≡ true → (list_any p xs || p x) ≡ true
inserted_any cmp p [] x passes = first (p x) passes where
  first : (t : Bool) → (t || false) ≡ true → t ≡ true
  first true h = h
  first false h = h
inserted_any cmp p (y ∷ ys) x passes = by (cmp x y) (inserted_any cmp p ys x) passes where
  new : (a b c : Bool) → (a || (b || c)) ≡ true → ((b || c) || a) ≡ true
  new true true c h = refl
  new true false true h = refl
  new true false false h = refl
  new false true c h = refl
  new false false true h = refl
  new false false false h = h

  instead : (a b c : Bool) → (a || c) ≡ true → ((b || c) || a) ≡ true
  instead true true c h = refl
  instead true false true h = refl
  instead true false false h = refl
  instead false true c h = refl
  instead false false true h = refl
  instead false false false h = h

  later : (a b c d : Bool) → (d ≡ true → (c || a) ≡ true) → (b || d) ≡ true → ((b || c) || a) ≡ true
  later a true c d rest h = refl
  later a false c d rest h = rest h

  by : (o : Ordering) → (list_any p (inserted cmp ys x) ≡ true → (list_any p ys || p x) ≡ true)
      → list_any p (by_order o (x ∷ y ∷ ys) (x ∷ ys) (y ∷ inserted cmp ys x)) ≡ true
      → ((p y || list_any p ys) || p x) ≡ true
  by Less rest h = new (p x) (p y) (list_any p ys) h
  by Equal rest h = instead (p x) (p y) (list_any p ys) h
  by Greater rest h = later (p x) (p y) (list_any p ys) (list_any p (inserted cmp ys x)) rest h

-- what insertion of several holds was there, or is among them
pub fold_any : {A : Type 0} (cmp : A → A → Ordering) (p : A → Bool) (xs others : List A)
    → list_any p (fold (inserted cmp) xs others) ≡ true → (list_any p xs || list_any p others) ≡ true
fold_any cmp p xs [] passes = or_left (list_any p xs) false passes
fold_any cmp p xs (o ∷ os) passes = by (or_cases (list_any p (inserted cmp xs o)) (list_any p os)
    (fold_any cmp p (inserted cmp xs o) os passes)) where
      join : (a b c : Bool) → (a || b) ≡ true → (a || (b || c)) ≡ true
      join true b c h = refl
      join false true c h = refl
      join false false c h = absurd (let never : ⊥ = cc in never)

      by : (list_any p (inserted cmp xs o) ≡ true) ⊎ (list_any p os ≡ true)
          → (list_any p xs || (p o || list_any p os)) ≡ true
      by (inl here) = join (list_any p xs) (p o) (list_any p os) (inserted_any cmp p xs o here)
      by (inr there) = or_right (list_any p xs) (p o || list_any p os) (or_right (p o) (list_any p os) there)

-- places are small in number as they are added and dropped

small_wide : (before after : BTreeSet HolderKey) (tx : TxId) (test : ℕ → ℕ → Bool) (all : Bool) → AreSmall before
    → Widens before after tx test all → AreSmall after
small_wide before after tx test all small widens =
    λ other a b there. by other a b there (is_there before a b other) refl where
      by : (other : TxId) (a b : ℕ) → is_there after a b other ≡ true → (t : Bool) → is_there before a b other ≡ t
          → b < 256
      by other a b there true is = small other a b is
      by other a b there false is = (widens.within other a b there is).2

small_narrow : (before after : BTreeSet HolderKey) (tx : TxId) (test spared : ℕ → ℕ → Bool) → AreSmall before
    → Narrows before after tx test spared → AreSmall after
small_narrow before after tx test spared small narrows =
    λ other a b there. small other a b (and_first (is_there before a b other) _ (sym (narrows other a b) ∙ there))

-- places of other transactions

widens_other : (before after : BTreeSet HolderKey) (tx other : TxId) (test : ℕ → ℕ → Bool) (all : Bool) (a b : ℕ)
    → Widens before after tx test all → same_tx other tx ≡ false → is_there after a b other ≡ is_there before a b other
widens_other before after tx other test all a b widens apart =
    by (is_there before a b other) (is_there after a b other) refl refl where
      by : (s t : Bool) → is_there before a b other ≡ s → is_there after a b other ≡ t → t ≡ s
      by true true was is = refl
      by true false was is = sym is ∙ widens.kept other a b was
      by false true was is = absurd (both_ways (same_tx other tx) apart
          (subst (λ u. same_tx u tx ≡ true) (sym (widens.within other a b is was).0) (same_tx_itself tx)))
      by false false was is = refl

narrows_other : (before after : BTreeSet HolderKey) (tx other : TxId) (test spared : ℕ → ℕ → Bool) (a b : ℕ)
    → Narrows before after tx test spared → same_tx other tx ≡ false
    → is_there after a b other ≡ is_there before a b other
narrows_other before after tx other test spared a b narrows apart =
    narrows other a b ∙ ap (λ t. is_there before a b other && not (t && (test a b && not (spared a b)))) apart
    ∙ whole (is_there before a b other) where
      whole : (t : Bool) → (t && true) ≡ t
      whole true = refl
      whole false = refl

narrows_own : (before after : BTreeSet HolderKey) (tx : TxId) (test spared : ℕ → ℕ → Bool) (a b : ℕ)
    → Narrows before after tx test spared → is_there after a b tx ≡
    (is_there before a b tx && not (test a b && not (spared a b)))
narrows_own before after tx test spared a b narrows = narrows tx a b
    ∙ ap (λ t. is_there before a b tx && not (t && (test a b && not (spared a b)))) (same_tx_itself tx)

-- after want of memory: what was added goes

pub index_undone : (places wide after : BTreeSet HolderKey) (tx : TxId) (was : TxId → ℕ → ℕ → Bool)
    (given : ℕ → ℕ → Bool)
    (all : Bool)
    → IsIndex places was → Widens places wide tx given all → Narrows wide after tx given (was tx) → IsIndex after was
index_undone places wide after tx was given all index widens narrows = record {
  exact = λ other a b. by other a b (same_tx other tx) refl;
  small = small_narrow wide after tx given (was tx) (small_wide places wide tx given all index.small widens) narrows;
} where
  own : (a b : ℕ) → is_there after a b tx ≡ was tx a b
  own a b = narrows_own wide after tx given (was tx) a b narrows ∙ bools (is_there wide a b tx) (given a b) (was tx a b)
      (λ held. widens.kept tx a b (index.exact tx a b ∙ held))
      (λ there gone. (widens.within tx a b there (index.exact tx a b ∙ gone)).1) where
        bools : (w g h : Bool) → (h ≡ true → w ≡ true) → (w ≡ true → h ≡ false → g ≡ true) → (w && not (g && not h)) ≡ h
        bools true g true kept new = whole g where
          whole : (g : Bool) → not (g && false) ≡ true
          whole true = refl
          whole false = refl
        bools true true false kept new = refl
        bools true false false kept new = absurd
            (let wrong : false ≡ true = new refl refl in let never : ⊥ = cc in never)
        bools false g true kept new = kept refl
        bools false g false kept new = refl

  by : (other : TxId) (a b : ℕ) (t : Bool) → same_tx other tx ≡ t → is_there after a b other ≡ was other a b
  by other a b true is = subst (λ u. is_there after a b u ≡ was u a b) (sym (same_tx_is other tx is)) (own a b)
  by other a b false is =
      narrows_other wide after tx other given (was tx) a b narrows is
      ∙ widens_other places wide tx other given all a b widens is ∙ index.exact other a b

-- once all is added: of the transaction's own, what it doesn't hold any more goes

pub index_done : (places wide mid after : BTreeSet HolderKey) (tx : TxId) (was now : TxId → ℕ → ℕ → Bool)
    (given : ℕ → ℕ → Bool)
    → IsIndex places was → Widens places wide tx given true → Narrows wide mid tx given (now tx)
    → Narrows mid after tx (was tx) (now tx)
    → ((other : TxId) (a b : ℕ) → same_tx other tx ≡ false → now other a b ≡ was other a b)
    → ((a b : ℕ) → now tx a b ≡ true → (was tx a b || given a b) ≡ true)
    → IsIndex after now
index_done places wide mid after tx was now given index widens first second others within = record {
  exact = λ other a b. by other a b (same_tx other tx) refl;
  small = small_narrow mid after tx (was tx) (now tx)
      (small_narrow wide mid tx given (now tx) (small_wide places wide tx given true index.small widens) first) second;
} where
  own : (a b : ℕ) → is_there after a b tx ≡ now tx a b
  own a b = narrows_own mid after tx (was tx) (now tx) a b second
      ∙ ap (λ t. t && not (was tx a b && not (now tx a b))) (narrows_own wide mid tx given (now tx) a b first)
      ∙ bools (is_there wide a b tx) (given a b) (was tx a b) (now tx a b)
      (λ held. widens.kept tx a b (index.exact tx a b ∙ held))
      (λ there gone. (widens.within tx a b there (index.exact tx a b ∙ gone)).1)
      (λ passes. widens.done refl a b passes) (within a b) where
        bools : (w g h n : Bool) → (h ≡ true → w ≡ true) → (w ≡ true → h ≡ false → g ≡ true) → (g ≡ true → w ≡ true)
            → (n ≡ true → (h || g) ≡ true)
            → ((w && not (g && not n)) && not (h && not n)) ≡ n
        bools true g h true kept new done from = whole g h where
          whole : (g h : Bool) → (not (g && false) && not (h && false)) ≡ true
          whole true true = refl
          whole true false = refl
          whole false true = refl
          whole false false = refl
        bools true true h false kept new done from = refl
        bools true false true false kept new done from = refl
        bools true false false false kept new done from =
            absurd (let wrong : false ≡ true = new refl refl in let never : ⊥ = cc in never)
        bools false g true true kept new done from =
            absurd (let wrong : false ≡ true = kept refl in let never : ⊥ = cc in never)
        bools false true false true kept new done from =
            absurd (let wrong : false ≡ true = done refl in let never : ⊥ = cc in never)
        bools false false false true kept new done from =
            absurd (let wrong : false ≡ true = from refl in let never : ⊥ = cc in never)
        bools false g h false kept new done from = refl

  by : (other : TxId) (a b : ℕ) (t : Bool) → same_tx other tx ≡ t → is_there after a b other ≡ now other a b
  by other a b true is = subst (λ u. is_there after a b u ≡ now u a b) (sym (same_tx_is other tx is)) (own a b)
  by other a b false is =
      narrows_other mid after tx other (was tx) (now tx) a b second is
      ∙ narrows_other wide mid tx other given (now tx) a b first is
      ∙ widens_other places wide tx other given true a b widens is ∙ index.exact other a b ∙ sym (others other a b is)

-- where the transaction held nothing before, nothing is left to go

pub narrows_empty : (places : BTreeSet HolderKey) (tx : TxId) (test spared : ℕ → ℕ → Bool)
    → ((a b : ℕ) → test a b ≡ false)
    → Narrows places places tx test spared
narrows_empty places tx test spared none = λ other a b.
    bools (is_there places a b other) (same_tx other tx)
    ∙ ap (λ t. is_there places a b other && not (same_tx other tx && (t && not (spared a b))))
    (sym (none a b)) where
      bools : (t s : Bool) → t ≡ (t && not (s && false))
      bools true true = refl
      bools true false = refl
      bools false s = refl

-- once a transaction holds nothing

pub index_dropped : (places after : BTreeSet HolderKey) (tx : TxId) (was now : TxId → ℕ → ℕ → Bool)
    → IsIndex places was → Narrows places after tx (was tx) (now tx)
    → ((other : TxId) (a b : ℕ) → same_tx other tx ≡ false → now other a b ≡ was other a b)
    → ((a b : ℕ) → now tx a b ≡ false)
    → IsIndex after now
index_dropped places after tx was now index narrows others none = record {
  exact = λ other a b. by other a b (same_tx other tx) refl;
  small = small_narrow places after tx (was tx) (now tx) index.small narrows;
} where
  own : (a b : ℕ) → is_there after a b tx ≡ now tx a b
  own a b = narrows_own places after tx (was tx) (now tx) a b narrows
      ∙ ap (λ t. t && not (was tx a b && not (now tx a b))) (index.exact tx a b)
      ∙ ap (λ t. was tx a b && not (was tx a b && not t)) (none a b) ∙ bools (was tx a b) ∙ sym (none a b) where
        bools : (h : Bool) → (h && not (h && true)) ≡ false
        bools true = refl
        bools false = refl

  by : (other : TxId) (a b : ℕ) (t : Bool) → same_tx other tx ≡ t → is_there after a b other ≡ now other a b
  by other a b true is = subst (λ u. is_there after a b u ≡ now u a b) (sym (same_tx_is other tx is)) (own a b)
  by other a b false is = narrows_other places after tx other (was tx) (now tx) a b narrows is ∙ index.exact other a b
      ∙ sym (others other a b is)

-- an index of one part of the entries, as an entry is put, and as one is taken

abbrev pub Of : (Held → ℕ → ℕ → Bool) → List Held → TxId → ℕ → ℕ → Bool
Of part held tx = part (held_of held tx)

pub put_done : (part : Held → ℕ → ℕ → Bool) (held : List Held) (e : Held) (given : ℕ → ℕ → Bool)
    (places wide mid after : BTreeSet HolderKey)
    → IsIndex places (Of part held) → Widens places wide e.tx given true
    → Narrows wide mid e.tx given (Of part (with_entry held e) e.tx)
    → Narrows mid after e.tx (Of part held e.tx) (Of part (with_entry held e) e.tx)
    → ((a b : ℕ) → part e a b ≡ true → (Of part held e.tx a b || given a b) ≡ true)
    → IsIndex after (Of part (with_entry held e))
put_done part held e given places wide mid after index widens first second within =
    index_done places wide mid after e.tx (Of part held) (Of part (with_entry held e)) given index widens first second
    (λ other a b apart. ap (λ h. part h a b) (held-put_other held e other (other_tx_sym other e.tx apart)))
    (λ a b passes. within a b (sym (ap (λ h. part h a b) (held-put held e)) ∙ passes))

pub taken_done : (part : Held → ℕ → ℕ → Bool) (held : List Held) (tx : TxId) (places after : BTreeSet HolderKey)
    → ((a b : ℕ) → part (record { tx = tx; locks = []; own = [] }) a b ≡ false)
    → IsIndex places (Of part held) → Narrows places after tx (Of part held tx) (Of part (without_held held tx) tx)
    → IsIndex after (Of part (without_held held tx))
taken_done part held tx places after none index narrows =
    index_dropped places after tx (Of part held) (Of part (without_held held tx)) index narrows
    (λ other a b apart. ap (λ h. part h a b) (held-without_other held tx other (other_tx_sym other tx apart)))
    (λ a b. ap (λ (o : Option Held). part (unwrap_or o (record { tx = tx; locks = []; own = [] })) a b)
    (entry-without held tx) ∙ none a b)

-- what the entry that was found holds
pub held_found : (held : List Held) (tx : TxId) (h : Held) → Some h ≡ entry_of held tx → held_of held tx ≡ h
held_found held tx h is = ap (λ (o : Option Held). unwrap_or o (record { tx = tx; locks = []; own = [] })) (sym is)

pub held_none : (held : List Held) (tx : TxId) → None ≡ entry_of held tx
    → held_of held tx ≡ record { tx = tx; locks = []; own = [] }
held_none held tx is = ap (λ (o : Option Held). unwrap_or o (record { tx = tx; locks = []; own = [] })) (sym is)

-- the parts

abbrev pub reads_part : Held → ℕ → ℕ → Bool
reads_part h = has_read h.locks

abbrev pub lines_part : Held → ℕ → ℕ → Bool
lines_part h = has_line h.own
