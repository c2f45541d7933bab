-- The course of one commit: what is taken for its Prepares, the ballots that this gives, and the ends.
use Rattle.std.specs.Prelude.{◌≡◌, ℕ, ◌+◌, ◌==◌, max, if◌then◌else◌, List, [], ◌∷◌, ◌++◌, fold, is_none, Option, Some}
use Rattle.std.specs.Prelude.{None, option_map}
use Rattle.std.specs.List.{find}
use Rattle.std.specs.Option.{option_map_or}
use Rattle.qc_stamp.specs.declared.stamp.Stamp.{Stamp}
use Rattle.qc_decl.specs.declared.declaration.Declaration.{Declaration}
use Rattle.qc_msg.specs.declared.begun.Begun.{Begun}
use Rattle.qc_msg.specs.declared.call.Call.{Call}
use Rattle.qc_msg.specs.declared.message.Answer.{Answer}
use Rattle.qc_msg.specs.declared.reply.AbortCause.{AbortCause}
use Rattle.qc_commit.specs.declared.ballot.Ballot.{Ballot}
use Rattle.qc_commit.specs.declared.ballot.Vote.TheVariants.{For, Against}
use Rattle.qc_commit.specs.declared.desk.Desk.{Desk}
use Rattle.qc_commit.specs.Conduct.{abort_turn, commit_of, commit_turn, prepare, prepared, sent, vote}
use Rattle.qc_commit.specs.Desk.{DeskMove}
use Rattle.qc_commit.specs.Learning.{promised}
use Rattle.qc_commit.specs.Votes.{participants, vote_of}

-- what is taken under a number: an answer, or, with none, that the request is lost
pub record Taken : Type 0 where
  pub number : ℕ
  pub answer : Option Answer

-- the first that is taken under a number
abbrev pub first_taken : List Taken → ℕ → Option (Option Answer)
first_taken takes number = option_map (λ (t : Taken). t.answer) (find (λ (t : Taken). t.number == number) takes)

-- the ballots of sites whose Prepares have the numbers from this one on: the first that is taken for each is its vote
abbrev pub ballots_by : Begun → List Taken → ℕ → List ℕ → List Ballot
ballots_by b takes number [] = []
ballots_by b takes number (site ∷ sites) =
    record { site = site; vote = option_map (vote_of b site) (first_taken takes number) }
    ∷ ballots_by b takes (number + 1) sites

-- the Prepares, numbered from this one on, of which no vote is in
abbrev pub open_calls : ℕ → List Ballot → List Call
open_calls number [] = []
open_calls number (b ∷ bs) =
    if is_none b.vote
    then record { number = number; site = b.site } ∷ open_calls (number + 1) bs
    else open_calls (number + 1) bs

-- the greatest clock of the promises that count, or 0
abbrev pub greatest_promised : List Taken → ℕ → List ℕ → ℕ
greatest_promised takes number [] = 0
greatest_promised takes number (site ∷ sites) =
    max (option_map_or promised (first_taken takes number) 0) (greatest_promised takes (number + 1) sites)

-- the desk after it took all of these
abbrev pub after_all : Desk → List Taken → Desk
after_all desk takes = fold (λ (d : Desk) (t : Taken). (vote d t.number t.answer).desk) desk takes

-- the desk after Prepares to these sites were sent one after another, numbered from this one on
abbrev pub sent_each : Desk → ℕ → List ℕ → Desk
sent_each desk number [] = desk
sent_each desk number (site ∷ sites) = sent_each (prepared desk number site) (number + 1) sites

-- a commit that is begun with this clock, whose Prepares have the numbers from `first` on, and for which all of these
-- are taken: the desk, the ballots, the greatest clock that the desk has learned of

abbrev pub course_desk : Declaration → Desk → Begun → ℕ → ℕ → List Taken → Desk
course_desk decl desk b clock first takes = after_all (sent (prepare decl desk b clock).desk first) takes

abbrev pub course_ballots : Declaration → Desk → Begun → ℕ → List Taken → List Ballot
course_ballots decl desk b first takes = ballots_by b takes first (participants decl desk.client b)

abbrev pub course_clock : Declaration → Desk → Begun → ℕ → ℕ → List Taken → ℕ
course_clock decl desk b clock first takes =
    max (max desk.clock.value clock) (greatest_promised takes first (participants decl desk.client b))

-- the client's stamp after this clock (Lamport 1978)
abbrev pub stamp_after : ℕ → ℕ → Stamp
stamp_after clock client = record { clock = clock + 1; client = client }

-- every vote is for
abbrev pub AreFor : List Ballot → Type 0
AreFor [] = Unit {0}
AreFor (b ∷ bs) = (b.vote ≡ Some For) × AreFor bs

-- all votes before the first against are for, and that one has this cause
pub record IsRefused (ballots : List Ballot) (why : AbortCause) : Type 0 where
  pub before : List Ballot
  pub site : ℕ
  pub after : List Ballot
  pub are : ballots ≡ before ++ record { site = site; vote = Some (Against why) } ∷ after
  pub agree : AreFor before

-- the commit waits: nothing is written, sent or told
pub record IsWaiting (old : Desk) (b : Begun) (told : ℕ) (calls : List Call) (ballots : List Ballot) (desk : Desk)
    : Type 0 where
  pub voting : desk.voting ≡ Some (record { begun = b; calls = calls; ballots = ballots })
  pub clock : desk.clock.value ≡ told
  pub client : desk.client ≡ old.client
  pub commits : desk.commits ≡ old.commits

-- the transaction commits
pub record IsCommitted (old : Desk) (b : Begun) (stamp : Stamp) (move : DeskMove) : Type 0 where
  pub turn : move.turn ≡ commit_turn stamp b
  pub kept : move.desk.commits ≡ old.commits ++ commit_of stamp b ∷ []
  pub clock : move.desk.clock.value ≡ stamp.clock
  pub ended : move.desk.voting ≡ None

-- it doesn't commit
pub record IsAborted (old : Desk) (b : Begun) (why : AbortCause) (move : DeskMove) : Type 0 where
  pub turn : move.turn ≡ abort_turn b why
  pub kept : move.desk.commits ≡ old.commits
  pub ended : move.desk.voting ≡ None
