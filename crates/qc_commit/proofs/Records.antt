-- The records of a desk over any calls: what one call does to them, and what stays true.
use Rattle.std.proofs.Common.{◌≡◌, ◌<◌, ◌≤◌, ◌⊎◌, [], ◌∷◌, ◌++◌, Option, Some, None, inl, inr, refl, sym, ap, arith}
use Rattle.qc_stamp.specs.declared.stamp.Stamp.{Stamp}
use Rattle.qc_stamp.specs.declared.stamp.TxId.{TxId}
use Rattle.qc_msg.specs.declared.begun.Begun.{Begun}
use Rattle.qc_commit.specs.declared.desk.Desk.{Desk}
use Rattle.qc_commit.specs.declared.desk.Voting.{Voting}
use Rattle.qc_commit.specs.Vocabulary.{DeskCall, DeskMove, Numbers, Prepares, Sends, Votes, after_call, commit_of}
use Rattle.qc_commit.specs.Vocabulary.{prepare, prepared_in, sent_in, vote}
use Rattle.qc_commit.proofs.Moves.{IsMove, prepare-moves, tx_of, vote-moves}

-- the transaction that a call may end
abbrev pub in_hand : DeskCall → Option Voting → Option TxId
in_hand (Prepares decl begun clock) voting = Some begun.tx
in_hand (Votes number answer) voting = tx_of voting
in_hand (Numbers first) voting = tx_of voting
in_hand (Sends number site) voting = tx_of voting

-- what a call does to the records: none, or one more with the next stamp

pub record Stays (desk next : Desk) (hand : Option TxId) : Type 0 where
  pub commits : next.commits ≡ desk.commits
  pub clock : desk.clock.value ≤ next.clock.value
  pub client : next.client ≡ desk.client
  pub voting : (tx_of next.voting ≡ None) ⊎ (tx_of next.voting ≡ hand)

pub record Records (desk next : Desk) (hand : Option TxId) : Type 0 where
  pub begun : Begun
  pub stamp : Stamp
  pub commits : next.commits ≡ desk.commits ++ commit_of stamp begun ∷ []
  pub clock : desk.clock.value < stamp.clock
  pub passed : next.clock.value ≡ stamp.clock
  pub stamped : stamp.client ≡ desk.client
  pub client : next.client ≡ desk.client
  pub voting : tx_of next.voting ≡ None
  pub handed : hand ≡ Some begun.tx

abbrev pub Goes : Desk → Desk → Option TxId → Type 0
Goes desk next hand = Stays desk next hand ⊎ Records desk next hand

stands : (desk : Desk) → Goes desk desk (tx_of desk.voting)
stands desk = inl (record { commits = refl; clock = omega arith; client = refl; voting = inr refl })

move-goes : (desk : Desk) (hand : Option TxId) (m : DeskMove) → IsMove desk hand m → Goes desk m.desk hand
move-goes desk hand m (inl w) = inl (record
    { commits = w.commits; clock = w.clock; client = w.client; voting = inr w.voting })
move-goes desk hand m (inr (inl c)) = inr (record {
  begun = c.begun;
  stamp = c.stamp;
  commits = c.commits;
  clock = c.clock;
  passed = c.passed;
  stamped = c.stamped;
  client = c.client;
  voting = ap tx_of c.voting;
  handed = c.handed;
})
move-goes desk hand m (inr (inr a)) = inl
    (record { commits = a.commits; clock = a.clock; client = a.client; voting = inl (ap tx_of a.voting) })

pub goes : (desk : Desk) (call : DeskCall) → Goes desk (after_call desk call) (in_hand call desk.voting)
goes desk (Prepares decl b clock) = move-goes desk (Some b.tx) (prepare decl desk b clock)
    (prepare-moves decl desk b clock)
goes desk (Votes number answer) = move-goes desk (tx_of desk.voting) (vote desk number answer)
    (vote-moves desk number answer)
goes desk (Numbers first) = by desk.voting refl where
  by : (o : Option Voting) → desk.voting ≡ o → Goes desk (sent_in desk o first) (tx_of desk.voting)
  by None is = stands desk
  by (Some v) is = inl (record { commits = refl; clock = omega arith; client = refl; voting = inr (ap tx_of (sym is)) })
goes desk (Sends number site) = by desk.voting refl where
  by : (o : Option Voting) → desk.voting ≡ o → Goes desk (prepared_in desk o number site) (tx_of desk.voting)
  by None is = stands desk
  by (Some v) is = inl (record { commits = refl; clock = omega arith; client = refl; voting = inr (ap tx_of (sym is)) })
