-- No two records of a desk are of one transaction, where none is handed in that has a record.
use Rattle.std.proofs.Common.{◌≡◌, ℕ, zero, suc, ◌<◌, ◌⊎◌, Bool, true, false, cond, List, [], ◌∷◌, ◌++◌, length, get_or}
use Rattle.std.proofs.Common.{Option, Some, None, inl, inr, refl, sym, ap, ◌∙◌, subst, arith}
use Rattle.std.specs.List.{All, AllPairs}
use Rattle.std.specs.Option.{option_or}
use Rattle.std.proofs.lemmas.List.Elements.{All-tail, All-head, All-weaker}
use Rattle.std.proofs.lemmas.List.Folds.{find-append}
use Rattle.std.proofs.lemmas.List.Quantifiers.{all_pairs_push}
use Rattle.qc_stamp.specs.declared.stamp.TxId.{TxId}
use Rattle.qc_stamp.specs.Vocabulary.{same_tx}
use Rattle.qc_entry.specs.declared.record.Commit.{Commit}
use Rattle.qc_commit.specs.declared.desk.Desk.{Desk}
use Rattle.qc_commit.specs.declared.desk.Known.TheVariants.{Uncommitted}
use Rattle.qc_commit.specs.Vocabulary.{AreNewTo, DeskCall, IsNewTo, Numbers, Prepares, Sends, Votes, after_call}
use Rattle.qc_commit.specs.Vocabulary.{after_calls, commit_of, handed, known, known_by, new_desk, record_of}
use Rattle.qc_commit.proofs.Moves.{tx_of}
use Rattle.qc_commit.proofs.Records.{Goes, goes, in_hand}

-- a transaction without a record

pub unknown-apart : (commits : List Commit) (tx : TxId) → known_by (record_of commits tx) ≡ Uncommitted
    → All (λ (c : Commit). same_tx c.tx tx ≡ false) commits
unknown-apart [] tx none k d l = absurd (omega arith)
unknown-apart (c ∷ cs) tx none k d l = by (same_tx c.tx tx) refl none (unknown-apart cs tx) k l where
  by : (t : Bool) → same_tx c.tx tx ≡ t → known_by (cond t (Some c) (record_of cs tx)) ≡ Uncommitted
      → (known_by (record_of cs tx) ≡ Uncommitted → All (λ (e : Commit). same_tx e.tx tx ≡ false) cs)
      → (i : ℕ) → i < length (c ∷ cs) → same_tx (get_or (c ∷ cs) i d).tx tx ≡ false
  by true is never rest i l = absurd (let no : ⊥ = cc in no)
  by false is none rest zero l = is
  by false is none rest (suc i) l = rest none i d (omega arith)

unknown-more : (commits : List Commit) (c : Commit) (tx : TxId) → known_by (record_of commits tx) ≡ Uncommitted
    → same_tx c.tx tx ≡ false → known_by (record_of (commits ++ c ∷ []) tx) ≡ Uncommitted
unknown-more commits c tx none other = rw (find-append (λ (e : Commit). same_tx e.tx tx) commits (c ∷ []))
    (by (record_of commits tx) none) where
      by : (o : Option Commit) → known_by o ≡ Uncommitted
          → known_by (option_or o (cond (same_tx c.tx tx) (Some c) None)) ≡ Uncommitted
      by None none = rw other refl
      by (Some e) never = absurd (let no : ⊥ = cc in no)

-- no two records are of one transaction, and that in hand has none
pub record AreNamed (commits : List Commit) (hand : Option TxId) : Type 0 where
  pub apart : AllPairs (λ (c d : Commit). same_tx c.tx d.tx ≡ false) commits
  pub fresh : (tx : TxId) → hand ≡ Some tx → known_by (record_of commits tx) ≡ Uncommitted

-- what is handed in is new
hand-new : (desk : Desk) (call : DeskCall) → IsNewTo desk call → AreNamed desk.commits (tx_of desk.voting) → (tx : TxId)
    → in_hand call desk.voting ≡ Some tx → known desk tx ≡ Uncommitted
hand-new desk (Prepares decl begun clock) new named tx is = let same : begun.tx ≡ tx = cc in
    subst (λ v. known desk v ≡ Uncommitted) same new
hand-new desk (Votes number answer) new named tx is = named.fresh tx is
hand-new desk (Numbers first) new named tx is = named.fresh tx is
hand-new desk (Sends number site) new named tx is = named.fresh tx is

named-call : (desk : Desk) (call : DeskCall) → IsNewTo desk call → AreNamed desk.commits (tx_of desk.voting)
    → AreNamed (after_call desk call).commits (tx_of (after_call desk call).voting)
named-call desk call new named = by (goes desk call) where
  next : Desk
  next = after_call desk call

  waits : (tx_of next.voting ≡ None) ⊎ (tx_of next.voting ≡ in_hand call desk.voting) → (tx : TxId)
      → tx_of next.voting ≡ Some tx → known desk tx ≡ Uncommitted
  waits (inl none) tx is = absurd (let no : ⊥ = cc in no)
  waits (inr same) tx is = hand-new desk call new named tx (sym same ∙ is)

  by : Goes desk next (in_hand call desk.voting) → AreNamed next.commits (tx_of next.voting)
  by (inl s) = subst (λ cs. AreNamed cs (tx_of next.voting)) (sym s.commits)
      (record { apart = named.apart; fresh = waits s.voting })
  by (inr s) = subst (λ cs. AreNamed cs (tx_of next.voting)) (sym s.commits) (record {
    apart = all_pairs_push (λ (c d : Commit). same_tx c.tx d.tx ≡ false) desk.commits
        (commit_of s.stamp s.begun) named.apart
        (λ k d l. unknown-apart desk.commits s.begun.tx (hand-new desk call new named s.begun.tx s.handed) k d l);
    fresh = λ tx is. absurd (let none : tx_of next.voting ≡ None = s.voting in let no : ⊥ = cc in no);
  })

named-calls : (desk : Desk) (calls : List DeskCall) → AreNewTo desk calls → AreNamed desk.commits (tx_of desk.voting)
    → AreNamed (after_calls desk calls).commits (tx_of (after_calls desk calls).voting)
named-calls desk [] new named = named
named-calls desk (call ∷ calls) new named =
    named-calls (after_call desk call) calls new.1 (named-call desk call new.0 named)

pub all-named : (client : ℕ) (calls : List DeskCall) → AreNewTo (new_desk client) calls
    → AllPairs (λ (c d : Commit). same_tx c.tx d.tx ≡ false) (after_calls (new_desk client) calls).commits
all-named client calls new = (named-calls (new_desk client) calls new
    (record { apart = λ i j d l m. absurd (omega arith); fresh = λ tx is. refl })).apart

-- different names are new

-- these transactions have no record, and aren't in hand
record AreAhead (desk : Desk) (txs : List TxId) : Type 0 where
  pub unknown : All (λ (tx : TxId). known desk tx ≡ Uncommitted) txs
  pub others : (hand : TxId) → tx_of desk.voting ≡ Some hand → All (λ (tx : TxId). same_tx hand tx ≡ false) txs

-- they still are after a call that has another in hand
ahead-call : (desk : Desk) (call : DeskCall) (txs : List TxId) → All (λ (tx : TxId). known desk tx ≡ Uncommitted) txs
    → ((hand : TxId) → in_hand call desk.voting ≡ Some hand → All (λ (tx : TxId). same_tx hand tx ≡ false) txs)
    → AreAhead (after_call desk call) txs
ahead-call desk call txs unknown others = by (goes desk call) where
  next : Desk
  next = after_call desk call

  waits : (tx_of next.voting ≡ None) ⊎ (tx_of next.voting ≡ in_hand call desk.voting) → (hand : TxId)
      → tx_of next.voting ≡ Some hand → All (λ (tx : TxId). same_tx hand tx ≡ false) txs
  waits (inl none) hand is = absurd (let no : ⊥ = cc in no)
  waits (inr same) hand is = others hand (sym same ∙ is)

  by : Goes desk next (in_hand call desk.voting) → AreAhead next txs
  by (inl s) = record {
    unknown = All-weaker (λ (tx : TxId). known desk tx ≡ Uncommitted) (λ (tx : TxId). known next tx ≡ Uncommitted)
        (λ tx none. ap (λ (cs : List Commit). known_by (record_of cs tx)) s.commits ∙ none) txs unknown;
    others = waits s.voting;
  }
  by (inr s) = record {
    unknown = λ k d l. ap (λ (cs : List Commit). known_by (record_of cs (get_or txs k d))) s.commits
        ∙ unknown-more desk.commits (commit_of s.stamp s.begun) (get_or txs k d) (unknown k d l)
        (others s.begun.tx s.handed k d l);
    others = waits (inl s.voting);
  }

pairs-head : (tx : TxId) (txs : List TxId) → AllPairs (λ (a b : TxId). same_tx a b ≡ false) (tx ∷ txs)
    → All (λ (b : TxId). same_tx tx b ≡ false) txs
pairs-head tx txs apart k d l = apart zero (suc k) d (omega arith) (omega arith)

pairs-tail : (tx : TxId) (txs : List TxId) → AllPairs (λ (a b : TxId). same_tx a b ≡ false) (tx ∷ txs)
    → AllPairs (λ (a b : TxId). same_tx a b ≡ false) txs
pairs-tail tx txs apart i j d l m = apart (suc i) (suc j) d (omega arith) (omega arith)

apart-new : (desk : Desk) (calls : List DeskCall) → AllPairs (λ (a b : TxId). same_tx a b ≡ false) (handed calls)
    → AreAhead desk (handed calls) → AreNewTo desk calls
apart-new desk [] apart ahead = tt
apart-new desk (Prepares decl begun clock ∷ calls) apart ahead = (
  All-head (λ (tx : TxId). known desk tx ≡ Uncommitted) begun.tx (handed calls) ahead.unknown,
  apart-new (after_call desk (Prepares decl begun clock)) calls (pairs-tail begun.tx (handed calls) apart)
      (ahead-call desk (Prepares decl begun clock) (handed calls)
      (All-tail (λ (tx : TxId). known desk tx ≡ Uncommitted) begun.tx (handed calls) ahead.unknown)
      (λ hand is. let same : begun.tx ≡ hand = cc in
      subst (λ v. All (λ (tx : TxId). same_tx v tx ≡ false) (handed calls)) same
      (pairs-head begun.tx (handed calls) apart))),
)
apart-new desk (Votes number answer ∷ calls) apart ahead = (
  tt,
  apart-new (after_call desk (Votes number answer)) calls apart
      (ahead-call desk (Votes number answer) (handed calls) ahead.unknown ahead.others),
)
apart-new desk (Numbers first ∷ calls) apart ahead = (
  tt,
  apart-new (after_call desk (Numbers first)) calls apart
      (ahead-call desk (Numbers first) (handed calls) ahead.unknown ahead.others),
)
apart-new desk (Sends number site ∷ calls) apart ahead = (
  tt,
  apart-new (after_call desk (Sends number site)) calls apart
      (ahead-call desk (Sends number site) (handed calls) ahead.unknown ahead.others),
)

pub names-new : (client : ℕ) (calls : List DeskCall) → AllPairs (λ (a b : TxId). same_tx a b ≡ false) (handed calls)
    → AreNewTo (new_desk client) calls
names-new client calls apart = apart-new (new_desk client) calls apart
    (record { unknown = λ k d l. refl; others = λ hand is. absurd (let no : ⊥ = cc in no) })
