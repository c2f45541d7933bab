-- The book of a client that began a transaction, gave it up, or committed it.
use Rattle.std.proofs.Common.{◌≡◌, ◌≤◌, ◌<◌, ℕ, ◌+◌, get_or, ◌⊎◌, inl, inr, [], ◌∷◌, ◌++◌, Some, None, sym, ap, ◌∙◌}
use Rattle.std.proofs.Common.{subst, arith}
use Rattle.std.proofs.lemmas.List.Quantifiers.{all_pairs_push}
use Rattle.qc_list.specs.Vocabulary.{In}
use Rattle.qc_list.proofs.Members.{In-more}
use Rattle.qc_stamp.specs.declared.stamp.Stamp.{Stamp}
use Rattle.qc_stamp.specs.declared.stamp.TxId.{TxId}
use Rattle.qc_entry.specs.declared.record.Commit.{Commit}
use Rattle.qc_msg.specs.declared.begun.Begun.{Begun}
use Rattle.laws_turns.specs.Vocabulary.{Book}
use Rattle.laws_turns.proofs.DealingParts.{IsBook, IsNamed, in_at, tx_at, with_begun}

-- the book of a client that began one, gave one up, or committed one

pub began_book : (clock : ℕ) (k : Book) (b : Begun) → IsBook clock k → b.tx ≡ tx_at k (k.count + 1)
    → IsBook clock (record k { count = k.count + 1; begun = Some b })
began_book clock k b w named = record {
  past = λ c among. (let r : (c.tx.client ≡ k.client) × (c.tx.life ≡ k.life)
      × (c.tx.number ≤ k.count) = w.past c among in let low : c.tx.number ≤ k.count = r.2 in (r.0, r.1, omega arith));
  named = (
    named,
    λ c among. (let r : (c.tx.client ≡ k.client) × (c.tx.life ≡ k.life)
        × (c.tx.number ≤ k.count) = w.past c among in let low : c.tx.number ≤ k.count = r.2 in omega arith),
  );
  own = w.own;
  below = w.below;
  stamps = w.stamps;
  transactions = w.transactions;
  rising = w.rising;
}

pub free_book : (clock : ℕ) (k : Book) → IsBook clock k → IsBook clock (with_begun k None)
free_book clock k w = record {
  past = w.past;
  named = tt;
  own = w.own;
  below = w.below;
  stamps = w.stamps;
  transactions = w.transactions;
  rising = w.rising;
}

pub later_book : (low high : ℕ) (k : Book) → low ≤ high → IsBook low k → IsBook high k
later_book low high k le w = record {
  past = w.past;
  named = w.named;
  own = w.own;
  below = λ c among. (let b : c.stamp.clock ≤ low = w.below c among in omega arith);
  stamps = w.stamps;
  transactions = w.transactions;
  rising = w.rising;
}

pub committed_book : (clock : ℕ) (k : Book) (b : Begun) (x : Commit) → k.begun ≡ Some b → x.tx ≡ b.tx
    → clock < x.stamp.clock → x.stamp.client ≡ k.client → IsBook clock k
    → IsBook x.stamp.clock (record k { commits = k.commits ++ x ∷ []; begun = None })
committed_book clock k b x is its above mine w = record {
  past = λ c among. past c (In-more c x k.commits among);
  named = tt;
  own = λ c among. own c (In-more c x k.commits among);
  below = λ c among. below c (In-more c x k.commits among);
  stamps = λ c e one two. stamps c e (In-more c x k.commits one) (In-more e x k.commits two);
  transactions = λ c e one two. transactions c e (In-more c x k.commits one) (In-more e x k.commits two);
  rising = all_pairs_push (λ (c d : Commit). c.stamp.clock < d.stamp.clock) k.commits x w.rising
      (λ j d l. let low : (get_or k.commits j d).stamp.clock ≤ clock =
      w.below (get_or k.commits j d) (in_at k.commits j d l) in omega arith);
} where
  names : IsNamed k (Some b)
  names = subst (IsNamed k) is w.named

  past : (c : Commit) → In c k.commits ⊎ (c ≡ x)
      → (c.tx.client ≡ k.client) × (c.tx.life ≡ k.life) × (c.tx.number ≤ k.count)
  past c (inl old) = w.past c old
  past c (inr new) =
      let e : c.tx ≡ tx_at k k.count = ap (λ (y : Commit). y.tx) new ∙ its ∙ names.0 in
      let n : c.tx.number ≡ k.count = ap (λ (t : TxId). t.number) e in
      (ap (λ (t : TxId). t.client) e, ap (λ (t : TxId). t.life) e, omega arith)

  own : (c : Commit) → In c k.commits ⊎ (c ≡ x) → c.stamp.client ≡ k.client
  own c (inl old) = w.own c old
  own c (inr new) = ap (λ (y : Commit). y.stamp.client) new ∙ mine

  below : (c : Commit) → In c k.commits ⊎ (c ≡ x) → c.stamp.clock ≤ x.stamp.clock
  below c (inl old) = let b : c.stamp.clock ≤ clock = w.below c old in omega arith
  below c (inr new) = let e : c.stamp.clock ≡ x.stamp.clock = ap (λ (y : Commit). y.stamp.clock) new in omega arith

  stamps : (c e : Commit) → In c k.commits ⊎ (c ≡ x) → In e k.commits ⊎ (e ≡ x) → c.stamp ≡ e.stamp → c ≡ e
  stamps c e (inl one) (inl two) same = w.stamps c e one two same
  stamps c e (inl one) (inr two) same =
      absurd (let b : c.stamp.clock ≤ clock = w.below c one in
      let s : c.stamp.clock ≡ x.stamp.clock = ap (λ (v : Stamp). v.clock) same
      ∙ ap (λ (y : Commit). y.stamp.clock) two in omega arith)
  stamps c e (inr one) (inl two) same =
      absurd (let b : e.stamp.clock ≤ clock = w.below e two in
      let s : e.stamp.clock ≡ x.stamp.clock = sym (ap (λ (v : Stamp). v.clock) same)
      ∙ ap (λ (y : Commit). y.stamp.clock) one in omega arith)
  stamps c e (inr one) (inr two) same = one ∙ sym two

  -- the new one's number is above all before it
  above_all : (c : Commit) → In c k.commits → c.tx ≡ x.tx → ⊥
  above_all c old same =
      let l : c.tx.number < k.count = names.1 c old in
      let n : c.tx.number ≡ k.count = ap (λ (t : TxId). t.number) (same ∙ its ∙ names.0) in
      omega arith

  transactions : (c e : Commit) → In c k.commits ⊎ (c ≡ x) → In e k.commits ⊎ (e ≡ x) → c.tx ≡ e.tx → c ≡ e
  transactions c e (inl one) (inl two) same = w.transactions c e one two same
  transactions c e (inl one) (inr two) same = absurd (above_all c one (same ∙ ap (λ (y : Commit). y.tx) two))
  transactions c e (inr one) (inl two) same = absurd (above_all e two (sym same ∙ ap (λ (y : Commit). y.tx) one))
  transactions c e (inr one) (inr two) same = one ∙ sym two
