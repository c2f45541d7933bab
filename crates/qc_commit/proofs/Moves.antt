-- What a desk's move is: it waits, it commits the transaction in hand, or it aborts it.
use Rattle.std.proofs.Common.{◌≡◌, ℕ, ◌<◌, ◌≤◌, ◌==◌, ◌⊎◌, Bool, true, false, cond, List, [], ◌∷◌, ◌++◌, map, length}
use Rattle.std.proofs.Common.{Option, Some, None, option_map, inl, inr, refl, sym, ap, arith}
use Rattle.std.specs.List.{AllByRecursion as Every}
use Rattle.qc_decl.specs.declared.declaration.Declaration.{Declaration}
use Rattle.qc_stamp.specs.declared.stamp.Stamp.{Stamp}
use Rattle.qc_stamp.specs.declared.stamp.TxId.{TxId}
use Rattle.qc_entry.specs.declared.record.Commit.{Commit}
use Rattle.qc_msg.specs.declared.begun.Begun.{Begun}
use Rattle.qc_msg.specs.declared.call.Call.{Call}
use Rattle.qc_msg.specs.declared.message.Answer.{Answer}
use Rattle.qc_msg.specs.declared.message.Message.{Message}
use Rattle.qc_msg.specs.declared.message.Message.TheVariants as messages
use Rattle.qc_msg.specs.declared.message.Want.{Want}
use Rattle.qc_msg.specs.declared.message.Want.TheVariants.{Read, Append, Prepare}
use Rattle.qc_msg.specs.declared.reply.AbortCause.{AbortCause}
use Rattle.qc_msg.specs.declared.turn.Posting.{Posting}
use Rattle.qc_msg.specs.Vocabulary.{quiet, sending, site_called, without_call}
use Rattle.qc_commit.specs.declared.ballot.Ballot.{Ballot}
use Rattle.qc_commit.specs.declared.desk.Desk.{Desk}
use Rattle.qc_commit.specs.declared.desk.Voting.{Voting}
use Rattle.qc_commit.specs.Vocabulary.{DeskMove, abort_turn, are_cast, blank, cast, commit_of, commit_turn, counted_out}
use Rattle.qc_commit.specs.Vocabulary.{counts, decides, first_against, learns, moved, next_stamp, participants, passed}
use Rattle.qc_commit.specs.Vocabulary.{prepare, prepares, vote, vote_of, votes_at, votes_in}
use Rattle.qc_commit.proofs.Learned.{learned-above, learned-client, learned-commits}

-- the transaction that a commit waits for
abbrev pub tx_of : Option Voting → Option TxId
tx_of voting = option_map (λ (v : Voting). v.begun.tx) voting

-- a message that asks for a promise

abbrev pub IsPromiseWanted : Want → Type 0
IsPromiseWanted (Read read) = ⊥
IsPromiseWanted (Append object view own) = ⊥
IsPromiseWanted Prepare = Unit {0}

abbrev pub IsPrepare : Message → Type 0
IsPrepare (messages.Request tx epoch life want) = IsPromiseWanted want
IsPrepare (messages.Answer to answer) = ⊥
IsPrepare (messages.Decision tx verdict) = ⊥
IsPrepare (messages.Inquiry tx) = ⊥
IsPrepare (messages.Ask tx) = ⊥
IsPrepare (messages.Close epoch) = ⊥
IsPrepare (messages.Install start) = ⊥

-- nothing is told or written, and the transaction stays in hand
pub record Waits (desk : Desk) (hand : Option TxId) (m : DeskMove) : Type 0 where
  pub told : m.turn.told ≡ None
  pub write : m.turn.write ≡ None
  pub sends : Every (λ (p : Posting). IsPrepare p.message) m.turn.sends
  pub commits : m.desk.commits ≡ desk.commits
  pub clock : desk.clock.value ≤ m.desk.clock.value
  pub client : m.desk.client ≡ desk.client
  pub voting : tx_of m.desk.voting ≡ hand

-- it commits
pub record Commits (desk : Desk) (hand : Option TxId) (m : DeskMove) : Type 0 where
  pub begun : Begun
  pub stamp : Stamp
  pub handed : hand ≡ Some begun.tx
  pub turn : m.turn ≡ commit_turn stamp begun
  pub commits : m.desk.commits ≡ desk.commits ++ commit_of stamp begun ∷ []
  pub clock : desk.clock.value < stamp.clock
  pub passed : m.desk.clock.value ≡ stamp.clock
  pub stamped : stamp.client ≡ desk.client
  pub client : m.desk.client ≡ desk.client
  pub voting : m.desk.voting ≡ None

-- it aborts
pub record Aborts (desk : Desk) (hand : Option TxId) (m : DeskMove) : Type 0 where
  pub begun : Begun
  pub why : AbortCause
  pub handed : hand ≡ Some begun.tx
  pub turn : m.turn ≡ abort_turn begun why
  pub commits : m.desk.commits ≡ desk.commits
  pub clock : desk.clock.value ≤ m.desk.clock.value
  pub client : m.desk.client ≡ desk.client
  pub voting : m.desk.voting ≡ None

abbrev pub IsMove : Desk → Option TxId → DeskMove → Type 0
IsMove desk hand m = Waits desk hand m ⊎ (Commits desk hand m ⊎ Aborts desk hand m)

stands : (desk : Desk) → IsMove desk (tx_of desk.voting) (moved desk quiet)
stands desk = inl (record {
  told = refl;
  write = refl;
  sends = tt;
  commits = refl;
  clock = omega arith;
  client = refl;
  voting = refl;
})

-- a desk that has learned more decides
decides-moves : (desk learned : Desk) (b : Begun) (hand : Option TxId) → desk.clock.value ≤ learned.clock.value
    → learned.client ≡ desk.client → learned.commits ≡ desk.commits → hand ≡ Some b.tx
    → IsMove desk hand (decides learned b)
decides-moves desk learned b hand clock client commits handed = inr (inl (record {
  begun = b;
  stamp = next_stamp learned;
  handed = handed;
  turn = refl;
  commits = ap (λ (cs : List Commit). cs ++ commit_of (next_stamp learned) b ∷ []) commits;
  clock = omega arith;
  passed = refl;
  stamped = client;
  client = client;
  voting = refl;
}))

counted-moves : (desk : Desk) (answer : Option Answer) (b : Begun) (hand : Option TxId) (o : Option AbortCause)
    → hand ≡ Some b.tx → IsMove desk hand (counted_out (learns desk answer) b o)
counted-moves desk answer b hand (Some why) handed = inr (inr (record {
  begun = b;
  why = why;
  handed = handed;
  turn = refl;
  commits = learned-commits desk answer;
  clock = learned-above desk answer;
  client = learned-client desk answer;
  voting = refl;
}))
counted-moves desk answer b hand None handed =
    decides-moves desk (learns desk answer) b hand (learned-above desk answer) (learned-client desk answer)
    (learned-commits desk answer) handed

counts-moves : (desk : Desk) (answer : Option Answer) (b : Begun) (calls : List Call) (ballots : List Ballot)
    (hand : Option TxId) → hand ≡ Some b.tx
    → IsMove desk hand (counts (learns desk answer) b calls ballots)
counts-moves desk answer b calls ballots hand handed = by (are_cast ballots) where
  by : (t : Bool) → IsMove desk hand (cond t (counted_out (learns desk answer) b (first_against ballots))
      (moved (record (learns desk answer) { voting = Some (record { begun = b; calls = calls; ballots = ballots }) })
      quiet))
  by true = counted-moves desk answer b hand (first_against ballots) handed
  by false = inl (record {
    told = refl;
    write = refl;
    sends = tt;
    commits = learned-commits desk answer;
    clock = learned-above desk answer;
    client = learned-client desk answer;
    voting = sym handed;
  })

pub vote-moves : (desk : Desk) (number : ℕ) (answer : Option Answer)
    → IsMove desk (tx_of desk.voting) (vote desk number answer)
vote-moves desk number answer = by desk.voting refl where
  at : (v : Voting) → desk.voting ≡ Some v → (o : Option ℕ)
      → IsMove desk (tx_of desk.voting) (votes_at desk v number answer o)
  at v is None = stands desk
  at v is (Some site) = counts-moves desk answer v.begun (without_call v.calls number)
      (cast v.ballots site (vote_of v.begun site answer)) (tx_of desk.voting) (ap tx_of is)

  by : (o : Option Voting) → desk.voting ≡ o → IsMove desk (tx_of desk.voting) (votes_in desk o number answer)
  by None is = stands desk
  by (Some v) is = at v is (site_called v.calls number)

asked : (b : Begun) (sites : List ℕ) → Every (λ (p : Posting). IsPrepare p.message) (map (prepares b) sites)
asked b [] = tt
asked b (site ∷ sites) = (tt, asked b sites)

pub prepare-moves : (decl : Declaration) (desk : Desk) (b : Begun) (clock : ℕ)
    → IsMove desk (Some b.tx) (prepare decl desk b clock)
prepare-moves decl desk b clock = by (length (participants decl desk.client b) == 0) where
  above : desk.clock.value ≤ (passed desk clock).clock.value
  above = omega arith

  by : (t : Bool) → IsMove desk (Some b.tx)
      (cond t (decides (passed desk clock) b) (moved
      (record (passed desk clock) {
        voting = Some
            (record { begun = b; calls = []; ballots = blank (participants decl desk.client b) });
      })
      (sending (map (prepares b) (participants decl desk.client b)))))
  by true = decides-moves desk (passed desk clock) b (Some b.tx) above refl refl refl
  by false = inl (record {
    told = refl;
    write = refl;
    sends = asked b (participants decl desk.client b);
    commits = refl;
    clock = above;
    client = refl;
    voting = refl;
  })
