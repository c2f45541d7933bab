-- What a desk becomes and does: a commit begins, a vote comes, all votes are in (presumed abort).
use Rattle.std.specs.Prelude.{[], option_and_then, ℕ, ◌+◌, ◌==◌, max, if◌then◌else◌, List, ◌∷◌, ◌++◌, length, map}
use Rattle.std.specs.Prelude.{filter, is_none, Option, Some, None}
use Rattle.std.specs.Option.{option_map_or}
use Rattle.qc_stamp.specs.declared.stamp.Stamp.{Stamp}
use Rattle.qc_entry.specs.declared.record.Commit.{Commit}
use Rattle.qc_decl.specs.declared.declaration.Declaration.{Declaration}
use Rattle.qc_msg.specs.declared.begun.Begun.{Begun}
use Rattle.qc_msg.specs.declared.call.Call.{Call}
use Rattle.qc_msg.specs.declared.message.Answer.{Answer}
use Rattle.qc_msg.specs.declared.message.Outcome.TheVariants as outcomes
use Rattle.qc_msg.specs.declared.record.Record.TheVariants as records
use Rattle.qc_msg.specs.declared.reply.Reply.TheVariants as replies
use Rattle.qc_msg.specs.declared.reply.AbortCause.{AbortCause}
use Rattle.qc_msg.specs.declared.turn.Appended.TheVariants.{Done}
use Rattle.qc_msg.specs.declared.turn.Turn.{Turn}
use Rattle.qc_msg.specs.Vocabulary.{decisions, ending, numbered_from, quiet, sending, site_called, with_call}
use Rattle.qc_msg.specs.Vocabulary.{without_call, closed_in, promised_in}
use Rattle.qc_commit.specs.declared.ballot.Ballot.{Ballot}
use Rattle.qc_commit.specs.declared.desk.Desk.{Desk}
use Rattle.qc_commit.specs.declared.desk.Voting.{Voting}
use Rattle.qc_commit.specs.Desk.{DeskMove, moved}
use Rattle.qc_commit.specs.Votes.{are_cast, blank, cast, first_against, participants, prepares, vote_of}

-- the clock passes another
abbrev pub passed : Desk → ℕ → Desk
passed desk clock = record desk { clock = record { value = max desk.clock.value clock } }

abbrev pub with_voting : Desk → Option Voting → Desk
with_voting desk voting = record desk { voting = voting }

-- the stamp is above all that the client has learned of (Lamport 1978)
abbrev pub next_stamp : Desk → Stamp
next_stamp desk = record { clock = desk.clock.value + 1; client = desk.client }

abbrev pub commit_of : Stamp → Begun → Commit
commit_of stamp b = record { stamp = stamp; tx = b.tx; ops = b.ops }

-- the record is written before anybody hears of the commit; where it can't be, that isn't known
abbrev pub commit_turn : Stamp → Begun → Turn
commit_turn stamp b =
    record {
      write = Some (records.Commit (commit_of stamp b));
      sends = decisions b (outcomes.Committed stamp);
      told = Some (replies.Committed stamp);
      failed_sends = [];
      failed_told = Some replies.Unknown;
      append = Done;
    }

-- the transaction commits
abbrev pub decides : Desk → Begun → DeskMove
decides desk b =
    let stamp : Stamp = next_stamp desk in
    moved
    (record desk {
      clock = record { value = stamp.clock };
      commits = desk.commits ++ commit_of stamp b ∷ [];
      voting = None;
    })
    (commit_turn stamp b)

-- the transaction doesn't commit

abbrev pub abort_turn : Begun → AbortCause → Turn
abort_turn b why = ending (decisions b outcomes.Aborted) (replies.Aborted why)

abbrev pub gives_up : Desk → Begun → AbortCause → DeskMove
gives_up desk b why = moved (with_voting desk None) (abort_turn b why)

-- a commit of a begun transaction: each participant is asked for its promise; where there is none, it commits
abbrev pub prepare : Declaration → Desk → Begun → ℕ → DeskMove
prepare decl desk b clock =
    let sites : List ℕ = participants decl desk.client b in
    if length sites == 0
    then decides (passed desk clock) b
    else moved
    (with_voting (passed desk clock) (Some (record { begun = b; calls = []; ballots = blank sites })))
    (sending (map (prepares b) sites))

-- the clock passes that of a promise, the known epoch that of a closed one
abbrev pub learns : Desk → Option Answer → Desk
learns desk answer =
    option_map_or (λ (epoch : ℕ). record desk { epoch = max desk.epoch epoch }) (option_and_then closed_in answer)
    (option_map_or (passed desk) (option_and_then promised_in answer) desk)

-- once all votes are in, the first against decides; where there is none, the transaction commits

abbrev pub counted_out : Desk → Begun → Option AbortCause → DeskMove
counted_out desk b (Some why) = gives_up desk b why
counted_out desk b None = decides desk b

abbrev pub counts : Desk → Begun → List Call → List Ballot → DeskMove
counts desk b calls ballots =
    if are_cast ballots
    then counted_out desk b (first_against ballots)
    else moved (with_voting desk (Some (record { begun = b; calls = calls; ballots = ballots }))) quiet

-- the first answer to a Prepare counts, or that it is lost; all else is put aside

abbrev pub votes_at : Desk → Voting → ℕ → Option Answer → Option ℕ → DeskMove
votes_at desk v number answer None = moved desk quiet
votes_at desk v number answer (Some site) =
    counts (learns desk answer) v.begun (without_call v.calls number)
    (cast v.ballots site (vote_of v.begun site answer))

abbrev pub votes_in : Desk → Option Voting → ℕ → Option Answer → DeskMove
votes_in desk None number answer = moved desk quiet
votes_in desk (Some v) number answer = votes_at desk v number answer (site_called v.calls number)

abbrev pub vote : Desk → ℕ → Option Answer → DeskMove
vote desk number answer = votes_in desk desk.voting number answer

-- a Prepare was sent under this number

abbrev pub prepared_in : Desk → Option Voting → ℕ → ℕ → Desk
prepared_in desk None number site = desk
prepared_in desk (Some v) number site = with_voting desk (Some (record v { calls = with_call v.calls number site }))

abbrev pub prepared : Desk → ℕ → ℕ → Desk
prepared desk number site = prepared_in desk desk.voting number site

-- the messages of the last turn have the numbers from this one on: where no Prepare is open, those that have no vote
-- yet were sent in it

abbrev pub awaited : List Ballot → List ℕ
awaited ballots = map (λ (b : Ballot). b.site) (filter (λ (b : Ballot). is_none b.vote) ballots)

abbrev pub sent_in : Desk → Option Voting → ℕ → Desk
sent_in desk None first = desk
sent_in desk (Some v) first =
    with_voting desk (Some (record v { calls = numbered_from v.calls (awaited v.ballots) first }))

abbrev pub sent : Desk → ℕ → Desk
sent desk first = sent_in desk desk.voting first
