-- Over any calls of a desk: stamps rise, what a record tells stays, no two records are of one transaction.
use Rattle.std.proofs.Common.{◌≡◌, ℕ, ◌<◌, ◌≤◌, ◌≢◌, List, [], ◌∷◌, ◌++◌, get_or, Option, Some, None, inl, inr, refl}
use Rattle.std.proofs.Common.{sym, ap, ◌∙◌, subst, arith}
use Rattle.std.specs.List.{All, AllPairs}
use Rattle.std.specs.Option.{option_or}
use Rattle.std.proofs.lemmas.List.Elements.{All-nil, All-push, All-weaker}
use Rattle.std.proofs.lemmas.List.Folds.{find-append}
use Rattle.std.proofs.lemmas.List.Quantifiers.{all_pairs_push}
use Rattle.qc_stamp.specs.declared.stamp.Stamp.{Stamp}
use Rattle.qc_stamp.specs.declared.stamp.TxId.{TxId}
use Rattle.qc_stamp.specs.Vocabulary.{same_tx}
use Rattle.qc_entry.specs.declared.record.Commit.{Commit}
use Rattle.qc_msg.specs.declared.begun.Begun.{Begun}
use Rattle.qc_commit.specs.declared.desk.Desk.{Desk}
use Rattle.qc_commit.specs.declared.desk.Known.TheVariants.{Committed, Uncommitted}
use Rattle.qc_commit.specs.Vocabulary.{DeskCall, DeskMove, IsCommitted, after_call, after_calls, commit_of, known}
use Rattle.qc_commit.specs.Vocabulary.{known_by, new_desk, record_of}
use Rattle.qc_commit.proofs.Records.{Goes, goes, in_hand}
use Rattle.qc_stamp.proofs.Orders.{same_tx_itself}

-- records rise up to a clock, and have the client's stamps
pub record Rise (commits : List Commit) (clock client : ℕ) : Type 0 where
  pub rising : AllPairs (λ (c d : Commit). c.stamp.clock < d.stamp.clock) commits
  pub below : All (λ (c : Commit). c.stamp.clock ≤ clock) commits
  pub clients : All (λ (c : Commit). c.stamp.client ≡ client) commits

none-rise : (clock client : ℕ) → Rise [] clock client
none-rise clock client = record {
  rising = λ i j d l m. absurd (omega arith);
  below = All-nil (λ (c : Commit). c.stamp.clock ≤ clock);
  clients = All-nil (λ (c : Commit). c.stamp.client ≡ client);
}

rise-later : (commits : List Commit) (clock later client : ℕ) → clock ≤ later → Rise commits clock client
    → Rise commits later client
rise-later commits clock later client above r = record {
  rising = r.rising;
  below = All-weaker (λ (c : Commit). c.stamp.clock ≤ clock) (λ (c : Commit). c.stamp.clock ≤ later)
      (λ c low. omega arith) commits r.below;
  clients = r.clients;
}

rise-push : (commits : List Commit) (clock client : ℕ) (c : Commit) → clock < c.stamp.clock → c.stamp.client ≡ client
    → Rise commits clock client → Rise (commits ++ c ∷ []) c.stamp.clock client
rise-push commits clock client c above mine r = record {
  rising = all_pairs_push (λ (a b : Commit). a.stamp.clock < b.stamp.clock) commits c r.rising
      (λ k d l. let low : (get_or commits k d).stamp.clock ≤ clock = r.below k d l in omega arith);
  below = All-push (λ (a : Commit). a.stamp.clock ≤ c.stamp.clock) commits c
      (rise-later commits clock c.stamp.clock client (omega arith) r).below (omega arith);
  clients = All-push (λ (a : Commit). a.stamp.client ≡ client) commits c r.clients mine;
}

rise-call : (desk : Desk) (call : DeskCall) → Rise desk.commits desk.clock.value desk.client
    → Rise (after_call desk call).commits (after_call desk call).clock.value (after_call desk call).client
rise-call desk call r = by (goes desk call) where
  next : Desk
  next = after_call desk call

  by : Goes desk next (in_hand call desk.voting) → Rise next.commits next.clock.value next.client
  by (inl s) = subst (λ cs. Rise cs next.clock.value next.client) (sym s.commits)
      (subst (λ n. Rise desk.commits next.clock.value n) (sym s.client)
      (rise-later desk.commits desk.clock.value next.clock.value desk.client s.clock r))
  by (inr s) = subst (λ cs. Rise cs next.clock.value next.client) (sym s.commits)
      (subst (λ k. Rise (desk.commits ++ commit_of s.stamp s.begun ∷ []) k next.client) (sym s.passed)
      (subst (λ n. Rise (desk.commits ++ commit_of s.stamp s.begun ∷ []) s.stamp.clock n) (sym s.client)
      (rise-push desk.commits desk.clock.value desk.client (commit_of s.stamp s.begun) s.clock s.stamped r)))

rise-calls : (desk : Desk) (calls : List DeskCall) → Rise desk.commits desk.clock.value desk.client
    → Rise (after_calls desk calls).commits (after_calls desk calls).clock.value (after_calls desk calls).client
rise-calls desk [] r = r
rise-calls desk (call ∷ calls) r = rise-calls (after_call desk call) calls (rise-call desk call r)

same-client : (desk : Desk) (calls : List DeskCall) → (after_calls desk calls).client ≡ desk.client
same-client desk [] = refl
same-client desk (call ∷ calls) = same-client (after_call desk call) calls ∙ by (goes desk call) where
  by : Goes desk (after_call desk call) (in_hand call desk.voting) → (after_call desk call).client ≡ desk.client
  by (inl s) = s.client
  by (inr s) = s.client

pub all-rise : (client : ℕ) (calls : List DeskCall)
    → Rise (after_calls (new_desk client) calls).commits (after_calls (new_desk client) calls).clock.value client
all-rise client calls =
    subst (λ n. Rise (after_calls (new_desk client) calls).commits (after_calls (new_desk client) calls).clock.value n)
    (same-client (new_desk client) calls)
    (rise-calls (new_desk client) calls (none-rise 0 client))

-- so no two have one stamp
pub stamps-apart : (commits : List Commit) (clock client : ℕ) → Rise commits clock client
    → AllPairs (λ (c d : Commit). c.stamp ≢ d.stamp) commits
stamps-apart commits clock client r i j d l m =
    λ same. (let up : (get_or commits i d).stamp.clock < (get_or commits j d).stamp.clock = r.rising i j d l m in
    let level : (get_or commits i d).stamp.clock ≡ (get_or commits j d).stamp.clock =
    ap (λ (s : Stamp). s.clock) same in omega arith)

-- what the records tell of a transaction stays

known-more : (commits more : List Commit) (tx : TxId) (stamp : Stamp)
    → known_by (record_of commits tx) ≡ Committed stamp → known_by (record_of (commits ++ more) tx) ≡ Committed stamp
known-more commits more tx stamp is = rw (find-append (λ (c : Commit). same_tx c.tx tx) commits more)
    (by (record_of commits tx) is) where
      by : (o : Option Commit) → known_by o ≡ Committed stamp
          → known_by (option_or o (record_of more tx)) ≡ Committed stamp
      by None never = absurd (let no : ⊥ = cc in no)
      by (Some c) told = told

pub known-call : (desk : Desk) (call : DeskCall) (tx : TxId) (stamp : Stamp) → known desk tx ≡ Committed stamp
    → known (after_call desk call) tx ≡ Committed stamp
known-call desk call tx stamp is = by (goes desk call) where
  by : Goes desk (after_call desk call) (in_hand call desk.voting) → known (after_call desk call) tx ≡ Committed stamp
  by (inl s) = ap (λ (cs : List Commit). known_by (record_of cs tx)) s.commits ∙ is
  by (inr s) = ap (λ (cs : List Commit). known_by (record_of cs tx)) s.commits
      ∙ known-more desk.commits (commit_of s.stamp s.begun ∷ []) tx stamp is

pub known-calls : (desk : Desk) (calls : List DeskCall) (tx : TxId) (stamp : Stamp) → known desk tx ≡ Committed stamp
    → known (after_calls desk calls) tx ≡ Committed stamp
known-calls desk [] tx stamp is = is
known-calls desk (call ∷ calls) tx stamp is =
    known-calls (after_call desk call) calls tx stamp (known-call desk call tx stamp is)

-- and it is told once a transaction without a record commits

pub known-new : (old : Desk) (b : Begun) (stamp : Stamp) (move : DeskMove) → IsCommitted old b stamp move
    → known old b.tx ≡ Uncommitted → known move.desk b.tx ≡ Committed stamp
known-new old b stamp move is none = ap (λ (cs : List Commit). known_by (record_of cs b.tx)) is.kept
    ∙ rw (find-append (λ (c : Commit). same_tx c.tx b.tx) old.commits (commit_of stamp b ∷ []))
    (by (record_of old.commits b.tx) none) where
      by : (o : Option Commit) → known_by o ≡ Uncommitted
          → known_by (option_or o (record_of (commit_of stamp b ∷ []) b.tx)) ≡ Committed stamp
      by None none = rw (same_tx_itself b.tx) refl
      by (Some c) never = absurd (let no : ⊥ = cc in no)

pub clock-rises : (desk : Desk) (call : DeskCall) → desk.clock.value ≤ (after_call desk call).clock.value
clock-rises desk call = by (goes desk call) where
  by : Goes desk (after_call desk call) (in_hand call desk.voting)
      → desk.clock.value ≤ (after_call desk call).clock.value
  by (inl s) = s.clock
  by (inr s) = let passed : (after_call desk call).clock.value ≡ s.stamp.clock = s.passed in
      let above : desk.clock.value < s.stamp.clock = s.clock in omega arith
