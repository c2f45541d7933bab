-- The counted quantities of a history, and the records that it wrote.
use Rattle.std.specs.Prelude.{MatchOption, option_and_then, ℕ, ◌+◌, ◌==◌, cond, List, Option, Some, None, is_some}
use Rattle.std.specs.Prelude.{length, count_by, drop, fold, sum_by}
use Rattle.std.specs.Option.{option_map_or}
use Rattle.std.specs.List.{filter_map}
use Rattle.qc_entry.specs.declared.line.Op.{Op}
use Rattle.qc_entry.specs.declared.record.Commit.{Commit}
use Rattle.qc_entry.specs.declared.record.Prepared.{Prepared}
use Rattle.qc_msg.specs.declared.message.Answer.{Answer}
use Rattle.qc_msg.specs.declared.message.Message.{Message}
use Rattle.qc_msg.specs.declared.message.Want.{Want}
use Rattle.qc_msg.specs.declared.message.Want.TheVariants as wants
use Rattle.qc_msg.specs.declared.record.Record.{Record}
use Rattle.qc_msg.specs.declared.record.Record.TheVariants as records
use Rattle.qc_msg.specs.declared.step.Step.{Step}
use Rattle.qc_msg.specs.Steps.{Entry}
use Rattle.qc_msg.specs.Readings.{Answered, Requested, answer_in, decide_in, granted_in}
use Rattle.qc_msg.specs.declared.payload.EpochStart.{EpochStart}
use Rattle.qc_msg.specs.declared.payload.Snapshot.{Snapshot}
use Rattle.qc_msg.specs.declared.payload.Grant.{Grant}
use Rattle.qc_msg.specs.Readings.{install_in, installing_in, prepare_in, request_in, shut_in}
use Rattle.qc_msg.specs.StepReadings.{Mailed, mailed_in, rose_in, wrote_in}

-- how many operations have a response
abbrev pub answered : List Op → ℕ
answered ops = count_by (λ op. is_some op.resp) ops

-- the commit record of a step that wrote one

abbrev pub commit_of : Record → Option Commit
commit_of records.Life = None
commit_of (records.Prepare prepared) = None
commit_of (records.Done tx clock) = None
commit_of (records.Close epoch) = None
commit_of (records.Install start) = None
commit_of (records.Commit commit) = Some commit
commit_of (records.Decide start) = None

abbrev pub commit_in : Step → Option Commit
commit_in step = option_and_then (λ (written : Record). commit_of written) (wrote_in step)

-- the commit records that were written, in the order of their writing
abbrev pub written : List Entry → List Commit
written h = filter_map (λ e. commit_in e.step) h

abbrev pub answered_in : Option Commit → ℕ
answered_in None = 0
answered_in (Some commit) = answered commit.ops

-- how many records stand in an actor's journal after a step, where so many stood before it: one more where it wrote
-- one, and just those that it rose with where it rose
abbrev pub standing_after : ℕ → Step → ℕ
standing_after n step = option_map_or (λ (x : Record). n + 1) (wrote_in step) (option_map_or length (rose_in step) n)

abbrev pub answered_in_all : List Record → ℕ
answered_in_all records = sum_by (λ r. answered_in (commit_of r)) records

-- the operations with a response of the commit records that a step brings to stand, where so many records stood before
-- it: of the one that it wrote, and of those that it rose with beyond these
abbrev pub answered_at : ℕ → Step → ℕ
answered_at n step =
    option_map_or (λ (written : Record). answered_in (commit_of written)) (wrote_in step)
    (option_map_or (λ (records : List Record). answered_in_all (drop n records)) (rose_in step) 0)

-- how many records stand in each actor's journal, and the operations with a response of all commit records that came to
-- stand, each once
pub record Tally : Type 0 where
  pub standing : ℕ → ℕ
  pub operations : ℕ

abbrev pub no_tally : Tally
no_tally = record { standing = λ a. 0; operations = 0 }

abbrev pub tally_with : Tally → Entry → Tally
tally_with t e =
    record {
      standing = λ a. cond (a == e.actor) (standing_after (t.standing a) e.step) (t.standing a);
      operations = t.operations + answered_at (t.standing e.actor) e.step;
    }

abbrev pub tally_of : List Entry → Tally
tally_of h = fold tally_with no_tally h

-- the committed operations with a response: those of records that were written, and of records that were being written
-- as their actors fell, and that a rise gave. Over a disk that loses records, what is written again counts again
abbrev pub operations_of : List Entry → ℕ
operations_of h = (tally_of h).operations

-- a step that is no rise
abbrev pub IsNoRise : Step → Type 0
IsNoRise step = MatchOption (rose_in step) (Unit {0}) (λ (x : List Record). ⊥)

-- the lines that a message carries in its logs, and in the promises of a closed site; own lines aren't counted

abbrev pub lines_wanted : Want → ℕ
lines_wanted (wants.Read read) = 0
lines_wanted (wants.Append object view own) = length view
lines_wanted wants.Prepare = 0

abbrev pub lines_promised : List Prepared → ℕ
lines_promised prepared = sum_by (λ p. length p.lines) prepared

abbrev pub lines_answered : Answer → ℕ
lines_answered answer =
    option_map_or (λ (g : Grant). length g.log) (granted_in answer)
    (option_map_or (λ (z : Snapshot). length z.log + lines_promised z.prepared) (shut_in answer) 0)

abbrev pub lines_in : Message → ℕ
lines_in message =
    option_map_or (λ (q : Requested). lines_wanted q.want) (request_in message)
    (option_map_or (λ (a : Answered). lines_answered a.answer) (answer_in message)
    (option_map_or (λ (i : EpochStart). length i.lines) (installing_in message) 0))

-- the lines that a record has
abbrev pub lines_recorded : Record → ℕ
lines_recorded written =
    option_map_or (λ (prepared : Prepared). length prepared.lines) (prepare_in written)
    (option_map_or (λ (i : EpochStart). length i.lines) (install_in written)
    (option_map_or (λ (i : EpochStart). length i.lines) (decide_in written) 0))

-- what a record counts in a rise: about the room of four lines, and its lines
abbrev pub carried_in : Record → ℕ
carried_in r = 4 + lines_recorded r

-- what a rise keeps in the history
abbrev pub carried_back : List Record → ℕ
carried_back records = sum_by carried_in records

abbrev pub carried_at : Step → ℕ
carried_at step =
    option_map_or (λ (m : Mailed). lines_in m.message) (mailed_in step) (option_map_or carried_back (rose_in step) 0)

-- the lines that the messages carried, and what the rises read
abbrev pub carried_of : List Entry → ℕ
carried_of h = sum_by (λ e. carried_at e.step) h
