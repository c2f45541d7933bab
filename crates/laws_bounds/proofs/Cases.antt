-- What a kind has to say has a property, where all that is of the kind has another one that gives it: the answer in a
-- message, the epoch in a command, the decided epoch, the promise and the commit in a record, the lines and promises of
-- a closed site, the verdict in an answer.
use Rattle.std.specs.Prelude.{MatchOption, ℕ, List, Option, Some, None, option_and_then}
use Rattle.qc_entry.specs.declared.line.Line.{Line}
use Rattle.qc_entry.specs.declared.record.Prepared.{Prepared}
use Rattle.qc_epoch.specs.Vocabulary.{outcome_in}
use Rattle.qc_msg.specs.Vocabulary.{Answered, answer_in, decide_in, epoch_in, shut_in}
use Rattle.qc_msg.specs.declared.payload.EpochStart.{EpochStart}
use Rattle.qc_msg.specs.declared.payload.Snapshot.{Snapshot}
use Rattle.qc_msg.specs.declared.message.Answer.{Answer}
use Rattle.qc_msg.specs.declared.message.Answer.TheVariants as answers
use Rattle.qc_msg.specs.declared.message.Message.{Message}
use Rattle.qc_msg.specs.declared.message.Message.TheVariants as messages
use Rattle.qc_msg.specs.declared.message.Outcome.{Outcome}
use Rattle.qc_msg.specs.declared.record.Record.{Record}
use Rattle.qc_msg.specs.declared.record.Record.TheVariants as records
use Rattle.qc_msg.specs.declared.step.Command.{Command}
use Rattle.qc_msg.specs.declared.step.Command.TheVariants as commands
use Rattle.qc_msg.specs.Vocabulary.{commit_of, prepare_in}
use Rattle.qc_msg.specs.Vocabulary.{snapshot_with, start_with}
use Rattle.qc_entry.specs.declared.record.Commit.{Commit}

pub answer_cases : (H : Message → Type 0) (Q : Answered → Type 0)
    → ((to : ℕ) (answer : Answer) → H (messages.Answer to answer) → Q (record { to = to; answer = answer }))
    → (m : Message) → H m → MatchOption (answer_in m) (Unit {0}) Q
answer_cases H Q at (messages.Request tx epoch life want) here = tt
answer_cases H Q at (messages.Answer to answer) here = at to answer here
answer_cases H Q at (messages.Decision tx verdict) here = tt
answer_cases H Q at (messages.Inquiry tx) here = tt
answer_cases H Q at (messages.Ask tx) here = tt
answer_cases H Q at (messages.Close epoch) here = tt
answer_cases H Q at (messages.Install start) here = tt

pub epoch_cases : (H : Command → Type 0) (Q : ℕ → Type 0) → ((number : ℕ) → H (commands.Epoch number) → Q number)
    → (c : Command) → H c → MatchOption (epoch_in c) (Unit {0}) Q
epoch_cases H Q at commands.Begin here = tt
epoch_cases H Q at (commands.Do object inv) here = tt
epoch_cases H Q at commands.Commit here = tt
epoch_cases H Q at commands.Abort here = tt
epoch_cases H Q at (commands.Epoch number) here = at number here

pub decide_cases : (H : Record → Type 0) (Q : EpochStart → Type 0)
    → ((epoch clock : ℕ) (lines : List Line) → H (records.Decide (start_with epoch clock lines))
    → Q (record { epoch = epoch; clock = clock; lines = lines }))
    → (r : Record) → H r → MatchOption (decide_in r) (Unit {0}) Q
decide_cases H Q at records.Life here = tt
decide_cases H Q at (records.Prepare p) here = tt
decide_cases H Q at (records.Done tx clock) here = tt
decide_cases H Q at (records.Close epoch) here = tt
decide_cases H Q at (records.Install start) here = tt
decide_cases H Q at (records.Commit commit) here = tt
decide_cases H Q at (records.Decide start) here = at start.epoch start.clock start.lines here

pub shut_cases : (H : Option Answer → Type 0) (Q : Snapshot → Type 0)
    → ((clock : ℕ) (log : List Line) (prepared : List Prepared)
    → H (Some (answers.Shut (snapshot_with clock log prepared)))
    → Q (record { clock = clock; log = log; prepared = prepared }))
    → (answer : Option Answer) → H answer → MatchOption (option_and_then shut_in answer) (Unit {0}) Q
shut_cases H Q at None here = tt
shut_cases H Q at (Some (answers.Granted grant)) here = tt
shut_cases H Q at (Some (answers.Clash holder inv event)) here = tt
shut_cases H Q at (Some (answers.Closed epoch)) here = tt
shut_cases H Q at (Some (answers.Behind epoch)) here = tt
shut_cases H Q at (Some (answers.Restarted life)) here = tt
shut_cases H Q at (Some answers.Stale) here = tt
shut_cases H Q at (Some answers.Fault) here = tt
shut_cases H Q at (Some (answers.Yes clock)) here = tt
shut_cases H Q at (Some (answers.Shut snapshot)) here = at snapshot.clock snapshot.log snapshot.prepared here
shut_cases H Q at (Some answers.Installed) here = tt
shut_cases H Q at (Some (answers.Answered verdict)) here = tt

pub outcome_cases : (H : Option Answer → Type 0) (Q : Option Outcome → Type 0) → Q None
    → ((verdict : Outcome) → H (Some (answers.Answered verdict)) → Q (Some verdict))
    → (answer : Option Answer) → H answer → Q (outcome_in answer)
outcome_cases H Q none at None here = none
outcome_cases H Q none at (Some (answers.Granted grant)) here = none
outcome_cases H Q none at (Some (answers.Clash holder inv event)) here = none
outcome_cases H Q none at (Some (answers.Closed epoch)) here = none
outcome_cases H Q none at (Some (answers.Behind epoch)) here = none
outcome_cases H Q none at (Some (answers.Restarted life)) here = none
outcome_cases H Q none at (Some answers.Stale) here = none
outcome_cases H Q none at (Some answers.Fault) here = none
outcome_cases H Q none at (Some (answers.Yes clock)) here = none
outcome_cases H Q none at (Some (answers.Shut snapshot)) here = none
outcome_cases H Q none at (Some answers.Installed) here = none
outcome_cases H Q none at (Some (answers.Answered verdict)) here = at verdict here

pub prepare_cases : (H : Record → Type 0) (Q : Prepared → Type 0)
    → ((p : Prepared) → H (records.Prepare p) → Q p) → (r : Record) → H r → MatchOption (prepare_in r) (Unit {0}) Q
prepare_cases H Q at records.Life here = tt
prepare_cases H Q at (records.Prepare p) here = at p here
prepare_cases H Q at (records.Done tx clock) here = tt
prepare_cases H Q at (records.Close epoch) here = tt
prepare_cases H Q at (records.Install start) here = tt
prepare_cases H Q at (records.Commit commit) here = tt
prepare_cases H Q at (records.Decide start) here = tt

pub commit_cases : (H : Record → Type 0) (Q : Commit → Type 0) → ((c : Commit) → H (records.Commit c) → Q c)
    → (r : Record) → H r → MatchOption (commit_of r) (Unit {0}) Q
commit_cases H Q at records.Life here = tt
commit_cases H Q at (records.Prepare p) here = tt
commit_cases H Q at (records.Done tx clock) here = tt
commit_cases H Q at (records.Close epoch) here = tt
commit_cases H Q at (records.Install start) here = tt
commit_cases H Q at (records.Commit c) here = at c here
commit_cases H Q at (records.Decide start) here = tt
