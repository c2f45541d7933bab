-- What a desk becomes and sends stays within a bound that what it takes keeps to, and one more where it commits.
use Rattle.std.proofs.Common.{◌≡◌, ℕ, ◌+◌, ◌≤◌, ◌==◌, max, Bool, true, false, cond, List, [], ◌∷◌, map, length, Option}
use Rattle.std.proofs.Common.{Some, None, sym, subst, arith}
use Rattle.std.specs.List.{AllByRecursion as Every}
use Rattle.std.specs.Prelude.{MatchOption, option_and_then}
use Rattle.qc_list.proofs.Members.{every-append, every-weaker}
use Rattle.qc_stamp.specs.declared.stamp.Stamp.{Stamp}
use Rattle.qc_stamp.specs.declared.stamp.TxId.{TxId}
use Rattle.qc_stamp.specs.Vocabulary.{same_tx}
use Rattle.qc_entry.specs.declared.record.Commit.{Commit}
use Rattle.qc_decl.specs.declared.declaration.Declaration.{Declaration}
use Rattle.qc_msg.specs.declared.begun.Begun.{Begun}
use Rattle.qc_msg.specs.declared.call.Call.{Call}
use Rattle.qc_msg.specs.declared.message.Answer.{Answer}
use Rattle.qc_msg.specs.declared.message.Answer.TheVariants as answers
use Rattle.qc_msg.specs.declared.message.Message.TheVariants as messages
use Rattle.qc_msg.specs.declared.message.Outcome.{Outcome}
use Rattle.qc_msg.specs.declared.message.Outcome.TheVariants.{Aborted, Committed}
use Rattle.qc_msg.specs.declared.reply.AbortCause.{AbortCause}
use Rattle.qc_msg.specs.Vocabulary.{quiet, sending, site_called, without_call, granted_in}
use Rattle.qc_msg.specs.declared.payload.Grant.{Grant}
use Rattle.qc_commit.specs.declared.ballot.Ballot.{Ballot}
use Rattle.qc_commit.specs.declared.desk.Desk.{Desk}
use Rattle.qc_commit.specs.declared.desk.Known.{Known}
use Rattle.qc_commit.specs.declared.desk.Known.TheVariants as knowns
use Rattle.qc_commit.specs.declared.desk.Voting.{Voting}
use Rattle.qc_commit.specs.Vocabulary.{DeskMove, are_cast, blank, cast, commit_of, counted_out, counts, decides}
use Rattle.qc_commit.specs.Vocabulary.{first_against, known_by, learns, moved, next_stamp, participants, passed}
use Rattle.qc_commit.specs.Vocabulary.{prepare, prepares, promised, record_of, vote, vote_of, votes_at, votes_in}
use Rattle.qc_commit.proofs.Learned.{learned-clock, learned-commits}
use Rattle.laws_turns.specs.Vocabulary.{AnswerWithin, DeskWithin, OutcomeWithin, SendsWithin, LinesWithin}

pub desk-le : (low high : ℕ) (desk : Desk) → low ≤ high → DeskWithin low desk → DeskWithin high desk
desk-le low high desk le w = record {
  clock = (let c : desk.clock.value ≤ low = w.clock in omega arith);
  commits = every-weaker (λ (c : Commit). c.stamp.clock ≤ low) (λ (c : Commit). c.stamp.clock ≤ high)
      (λ c here. omega arith) desk.commits w.commits;
}

-- what the desk becomes, and what it sends
pub record DeskGoes (bound : ℕ) (move : DeskMove) : Type 0 where
  pub desk : DeskWithin bound move.desk
  pub sends : SendsWithin bound move.turn.sends

-- an answer, or that none comes
abbrev pub CameWithin : ℕ → Option Answer → Type 0
CameWithin bound None = Unit {0}
CameWithin bound (Some answer) = AnswerWithin bound answer

-- what is read of it: the clock and the lines of a grant, the clock of a promise
pub record ReadWithin (bound : ℕ) (answer : Option Answer) : Type 0 where
  pub grant : MatchOption (option_and_then granted_in answer) (Unit {0})
      (λ (g : Grant). (g.clock ≤ bound) × LinesWithin bound g.log)
  pub promise : promised answer ≤ bound

pub answer_read : (bound : ℕ) (answer : Option Answer) → CameWithin bound answer → ReadWithin bound answer
answer_read bound None here = record { grant = tt; promise = omega arith }
answer_read bound (Some (answers.Granted grant_here)) here = record { grant = here; promise = omega arith }
answer_read bound (Some (answers.Clash holder inv event)) here = record { grant = tt; promise = omega arith }
answer_read bound (Some (answers.Closed epoch)) here = record { grant = tt; promise = omega arith }
answer_read bound (Some (answers.Behind epoch)) here = record { grant = tt; promise = omega arith }
answer_read bound (Some (answers.Restarted life)) here = record { grant = tt; promise = omega arith }
answer_read bound (Some answers.Stale) here = record { grant = tt; promise = omega arith }
answer_read bound (Some answers.Fault) here = record { grant = tt; promise = omega arith }
answer_read bound (Some (answers.Yes clock)) here = record { grant = tt; promise = here }
answer_read bound (Some (answers.Shut snapshot)) here = record { grant = tt; promise = omega arith }
answer_read bound (Some answers.Installed) here = record { grant = tt; promise = omega arith }
answer_read bound (Some (answers.Answered verdict)) here = record { grant = tt; promise = omega arith }

pub promised-within : (bound : ℕ) (answer : Option Answer) → CameWithin bound answer → promised answer ≤ bound
promised-within bound answer here = (answer_read bound answer here).promise

pub verdicts-within : (bound : ℕ) (tx : TxId) (verdict : Outcome) (sites : List ℕ) → OutcomeWithin bound verdict
    → SendsWithin bound (map (λ site. record { to = site; message = messages.Decision tx verdict }) sites)
verdicts-within bound tx verdict [] here = tt
verdicts-within bound tx verdict (site ∷ sites) here = (here, verdicts-within bound tx verdict sites here)

asked-within : (bound : ℕ) (b : Begun) (sites : List ℕ) → SendsWithin bound (map (prepares b) sites)
asked-within bound b [] = tt
asked-within bound b (site ∷ sites) = (tt, asked-within bound b sites)

decides-within : (bound : ℕ) (desk : Desk) (b : Begun) → DeskWithin bound desk → DeskGoes (bound + 1) (decides desk b)
decides-within bound desk b w =
    let c : desk.clock.value ≤ bound = w.clock in
    let next : (next_stamp desk).clock ≤ bound + 1 = omega arith in
    let more : DeskWithin (bound + 1) desk = desk-le bound (bound + 1) desk (omega arith) w in
    record {
      desk = record {
        clock = next;
        commits = every-append (λ (c : Commit). c.stamp.clock ≤ bound + 1) desk.commits
            (commit_of (next_stamp desk) b ∷ []) more.commits (next, tt);
      };
      sends = verdicts-within (bound + 1) b.tx (Committed (next_stamp desk)) b.asked next;
    }

counted-within : (bound : ℕ) (desk : Desk) (b : Begun) (o : Option AbortCause) → DeskWithin bound desk
    → DeskGoes (bound + 1) (counted_out desk b o)
counted-within bound desk b (Some why) w =
    let more : DeskWithin (bound + 1) desk = desk-le bound (bound + 1) desk (omega arith) w in
    record {
      desk = record { clock = more.clock; commits = more.commits };
      sends = verdicts-within (bound + 1) b.tx Aborted b.asked tt;
    }
counted-within bound desk b None w = decides-within bound desk b w

counts-within : (bound : ℕ) (desk : Desk) (b : Begun) (calls : List Call) (ballots : List Ballot)
    → DeskWithin bound desk → DeskGoes (bound + 1) (counts desk b calls ballots)
counts-within bound desk b calls ballots w = by (are_cast ballots) where
  by : (t : Bool) → DeskGoes (bound + 1) (cond t (counted_out desk b (first_against ballots))
      (moved (record desk { voting = Some (record { begun = b; calls = calls; ballots = ballots }) }) quiet))
  by true = counted-within bound desk b (first_against ballots) w
  by false =
      let more : DeskWithin (bound + 1) desk = desk-le bound (bound + 1) desk (omega arith) w in
      record { desk = record { clock = more.clock; commits = more.commits }; sends = tt }

learns-within : (bound : ℕ) (desk : Desk) (answer : Option Answer) → DeskWithin bound desk → CameWithin bound answer
    → DeskWithin bound (learns desk answer)
learns-within bound desk answer w here =
    let c : desk.clock.value ≤ bound = w.clock in
    let p : promised answer ≤ bound = promised-within bound answer here in
    let is : (learns desk answer).clock.value ≡ max desk.clock.value (promised answer) = learned-clock desk answer in
    record {
      clock = omega arith;
      commits = subst
          (λ (cs : List Commit). Every (λ (c : Commit). c.stamp.clock ≤ bound) cs)
          (sym (learned-commits desk answer)) w.commits;
    }

pub vote_within : (bound : ℕ) (desk : Desk) (number : ℕ) (answer : Option Answer) → DeskWithin bound desk
    → CameWithin bound answer → DeskGoes (bound + 1) (vote desk number answer)
vote_within bound desk number answer w here = by desk.voting where
  stays : DeskGoes (bound + 1) (moved desk quiet)
  stays = record { desk = desk-le bound (bound + 1) desk (omega arith) w; sends = tt }

  at : (v : Voting) (o : Option ℕ) → DeskGoes (bound + 1) (votes_at desk v number answer o)
  at v None = stays
  at v (Some site) = counts-within bound (learns desk answer) v.begun (without_call v.calls number)
      (cast v.ballots site (vote_of v.begun site answer)) (learns-within bound desk answer w here)

  by : (o : Option Voting) → DeskGoes (bound + 1) (votes_in desk o number answer)
  by None = stays
  by (Some v) = at v (site_called v.calls number)

pub prepare-within : (bound : ℕ) (decl : Declaration) (desk : Desk) (b : Begun) (clock : ℕ) → DeskWithin bound desk
    → clock ≤ bound → DeskGoes (bound + 1) (prepare decl desk b clock)
prepare-within bound decl desk b clock w here = by (length (participants decl desk.client b) == 0) where
  later : DeskWithin bound (passed desk clock)
  later = record { clock = (let c : desk.clock.value ≤ bound = w.clock in omega arith); commits = w.commits }

  by : (t : Bool) → DeskGoes (bound + 1) (cond t (decides (passed desk clock) b)
      (moved (record (passed desk clock) {
        voting =
            Some (record { begun = b; calls = []; ballots = blank (participants decl desk.client b) });
      })
      (sending (map (prepares b) (participants decl desk.client b)))))
  by true = decides-within bound (passed desk clock) b later
  by false =
      let more : DeskWithin (bound + 1) (passed desk clock) =
      desk-le bound (bound + 1) (passed desk clock) (omega arith) later in
      record {
        desk = record { clock = more.clock; commits = more.commits };
        sends = asked-within (bound + 1) b (participants decl desk.client b);
      }

-- a stamp that is told is that of a record

abbrev KnownWithin : ℕ → Known → Type 0
KnownWithin bound (knowns.Committed stamp) = stamp.clock ≤ bound
KnownWithin bound knowns.Uncommitted = Unit {0}

pub known-within : (bound : ℕ) (commits : List Commit) (tx : TxId) (stamp : Stamp)
    → Every (λ (c : Commit). c.stamp.clock ≤ bound) commits → known_by (record_of commits tx) ≡ knowns.Committed stamp
    → stamp.clock ≤ bound
known-within bound commits tx stamp all is = subst (KnownWithin bound) is (known commits all) where
  known : (cs : List Commit) → Every (λ (c : Commit). c.stamp.clock ≤ bound) cs
      → KnownWithin bound (known_by (record_of cs tx))
  known [] here = tt
  known (c ∷ cs) here = by (same_tx c.tx tx) (known cs here.1) where
    by : (t : Bool) → KnownWithin bound (known_by (record_of cs tx))
        → KnownWithin bound (known_by (cond t (Some c) (record_of cs tx)))
    by true rest = here.0
    by false rest = rest
