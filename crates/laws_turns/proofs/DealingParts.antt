-- What a client keeps of its records and of one transaction.
use Rattle.std.proofs.Common.{[], ◌≡◌, ◌≤◌, ◌<◌, ℕ, zero, suc, get_or, length, inl, inr, List, ◌∷◌, Option, Some, None}
use Rattle.std.proofs.Common.{option_map, refl, sym, ap, ◌∙◌, subst, arith}
use Rattle.std.specs.List.{AllPairs}
use Rattle.std.specs.Bool.{MatchBool}
use Rattle.qc_list.specs.Vocabulary.{In}
use Rattle.qc_stamp.specs.declared.stamp.Stamp.{Stamp}
use Rattle.qc_stamp.specs.declared.stamp.TxId.{TxId}
use Rattle.qc_entry.specs.declared.record.Commit.{Commit}
use Rattle.qc_msg.specs.declared.begun.Begun.{Begun}
use Rattle.qc_msg.specs.declared.reply.Reply.{Reply}
use Rattle.qc_msg.specs.declared.reply.Reply.TheVariants as replies
use Rattle.qc_msg.specs.declared.step.Command.{Command}
use Rattle.qc_msg.specs.Vocabulary.{is_given_up}
use Rattle.laws_turns.specs.Vocabulary.{Book}
use Rattle.qc_promise.specs.Vocabulary.{Dealing}

-- the name of the next transaction, or of the last one
abbrev pub tx_at : Book → ℕ → TxId
tx_at b n = record { client = b.client; life = b.life; number = n }

abbrev pub begun_tx : Option Begun → Option TxId
begun_tx begun = option_map (λ (b : Begun). b.tx) begun

abbrev pub IsNamed : Book → Option Begun → Type 0
IsNamed k None = Unit {0}
IsNamed k (Some b) = (b.tx ≡ tx_at k k.count) × ((c : Commit) → In c k.commits → c.tx.number < k.count)

-- of its records: each is of a transaction of its own that it began, with a stamp of its own; no two have one stamp or
-- one transaction; and the clock is past them
pub record IsBook (clock : ℕ) (k : Book) : Type 0 where
  pub past : (c : Commit) → In c k.commits → (c.tx.client ≡ k.client) × (c.tx.life ≡ k.life) × (c.tx.number ≤ k.count)
  pub named : IsNamed k k.begun
  pub own : (c : Commit) → In c k.commits → c.stamp.client ≡ k.client
  pub below : (c : Commit) → In c k.commits → c.stamp.clock ≤ clock
  pub stamps : (c d : Commit) → In c k.commits → In d k.commits → c.stamp ≡ d.stamp → c ≡ d
  pub transactions : (c d : Commit) → In c k.commits → In d k.commits → c.tx ≡ d.tx → c ≡ d
  pub rising : AllPairs (λ (c d : Commit). c.stamp.clock < d.stamp.clock) k.commits

-- of one transaction: what it was told of it

abbrev pub IfOps : TxId → Dealing → Option Begun → Type 0
IfOps tx d None = Unit {0}
IfOps tx d (Some b) = b.tx ≡ tx → (d.ops ≡ b.ops) × (d.ends ≡ [])

abbrev pub IsAbort : Reply → Type 0
IsAbort reply = MatchBool (is_given_up reply) (Unit {0}) ⊥

-- a record of the transaction, with this stamp, among these
pub record HasRecord (commits : List Commit) (tx : TxId) (stamp : Stamp) : Type 0 where
  pub commit : Commit
  pub listed : In commit commits
  pub named : commit.tx ≡ tx
  pub stamped : commit.stamp ≡ stamp

pub record IsDealing (tx : TxId) (d : Dealing) (k : Book) : Type 0 where
  pub is : d.begun ≡ begun_tx k.begun
  pub ops : IfOps tx d k.begun
  pub done : (c : Commit) → In c k.commits → c.tx ≡ tx → (d.ops ≡ c.ops) × In (replies.Committed c.stamp) d.ends
  pub told : (stamp : Stamp) → In (replies.Committed stamp) d.ends → HasRecord k.commits tx stamp
  pub others : (r : Reply) → In r d.ends → IsAbort r → (c : Commit) → In c k.commits → c.tx ≡ tx → ⊥
  pub mine : (r : Reply) → In r d.ends → tx.client ≡ k.client
  pub new : k.life ≡ tx.life → k.client ≡ tx.client → k.count < tx.number → (d.ops ≡ []) × (d.ends ≡ [])

pub in_at : (xs : List Commit) (j : ℕ) (d : Commit) → j < length xs → In (get_or xs j d) xs
in_at [] j d low = absurd (omega arith)
in_at (x ∷ xs) zero d low = inl refl
in_at (x ∷ xs) (suc j) d low = inr (in_at xs j d (omega arith))

-- what is asked is nothing to it
pub as_asked : (tx : TxId) (d : Dealing) (k : Book) (c : Option Command) → IsDealing tx d k
    → IsDealing tx (record d { asked = c }) k
as_asked tx d k c w =
    record {
      is = w.is;
      ops = by k.begun w.ops;
      done = w.done;
      told = w.told;
      others = w.others;
      mine = w.mine;
      new = w.new;
    } where
      by : (o : Option Begun) → IfOps tx d o → IfOps tx (record d { asked = c }) o
      by None h = tt
      by (Some b) h = h

-- the begun transaction with other fields than name and operations

abbrev pub with_begun : Book → Option Begun → Book
with_begun k o = record k { begun = o }

pub begun_book : (clock : ℕ) (k : Book) (b c : Begun) → k.begun ≡ Some b → c.tx ≡ b.tx → IsBook clock k
    → IsBook clock (with_begun k (Some c))
begun_book clock k b c is same w = record {
  past = w.past;
  named = (let old : IsNamed k (Some b) = subst (IsNamed k) is w.named in (same ∙ old.0, old.1));
  own = w.own;
  below = w.below;
  stamps = w.stamps;
  transactions = w.transactions;
  rising = w.rising;
}

pub as_begun : (tx : TxId) (d : Dealing) (k : Book) (b c : Begun) → k.begun ≡ Some b → c.tx ≡ b.tx → c.ops ≡ b.ops
    → IsDealing tx d k → IsDealing tx d (with_begun k (Some c))
as_begun tx d k b c is same ops w = record {
  is = w.is ∙ ap begun_tx is ∙ ap (λ (t : TxId). Some t) (sym same);
  ops =
      λ e.
      (let r : (d.ops ≡ b.ops) × (d.ends ≡ []) = subst (IfOps tx d) is w.ops (sym same ∙ e) in (r.0 ∙ sym ops, r.1));
  done = w.done;
  told = w.told;
  others = w.others;
  mine = w.mine;
  new = w.new;
}
