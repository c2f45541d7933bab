-- What deeds and what they hold have to say, each kind read once: a definition that asks for one kind is a line by
-- these.
use Rattle.std.specs.Prelude.{ℕ, Bool, true, false, List, [], Option, Some, None, option_and_then}
use Rattle.qc_stamp.specs.declared.stamp.TxId.{TxId}
use Rattle.qc_entry.specs.declared.line.Line.{Line}
use Rattle.qc_entry.specs.declared.record.Prepared.{Prepared}
use Rattle.qc_msg.specs.declared.message.Answer.{Answer}
use Rattle.qc_msg.specs.declared.message.Answer.TheVariants as answers
use Rattle.qc_msg.specs.declared.message.Envelope.{Envelope}
use Rattle.qc_msg.specs.declared.message.Message.{Message}
use Rattle.qc_msg.specs.declared.message.Message.TheVariants as messages
use Rattle.qc_msg.specs.declared.message.Outcome.{Outcome}
use Rattle.qc_msg.specs.declared.message.Outcome.TheVariants as outcomes
use Rattle.qc_msg.specs.declared.message.Want.{Want}
use Rattle.qc_msg.specs.declared.message.Want.TheVariants as wants
use Rattle.qc_msg.specs.declared.payload.EpochStart.{EpochStart}
use Rattle.qc_msg.specs.declared.payload.Grant.{Grant}
use Rattle.qc_msg.specs.declared.payload.Snapshot.{Snapshot}
use Rattle.qc_msg.specs.declared.record.Record.{Record}
use Rattle.qc_msg.specs.declared.record.Record.TheVariants as journals
use Rattle.qc_msg.specs.declared.step.Command.{Command}
use Rattle.qc_msg.specs.declared.step.Command.TheVariants as commands
use Rattle.qc_msg.specs.declared.step.Input.{Input}
use Rattle.qc_msg.specs.declared.step.Input.TheVariants as inputs
use Rattle.qc_msg.specs.Deeds.{Deed, Takes, Writes, Sends, Tells, Falls, Rises}

-- of a message: a request, an answer, a Decision, an epoch to be closed for, and one to be installed

pub record Requested : Type 0 where
  pub tx : TxId
  pub epoch : ℕ
  pub life : ℕ
  pub want : Want

abbrev pub request_in : Message → Option Requested
request_in (messages.Request tx epoch life want) =
    Some (record { tx = tx; epoch = epoch; life = life; want = want })
request_in (messages.Answer to answer) = None
request_in (messages.Decision tx verdict) = None
request_in (messages.Inquiry tx) = None
request_in (messages.Ask tx) = None
request_in (messages.Close epoch) = None
request_in (messages.Install start) = None

pub record Answered : Type 0 where
  pub to : ℕ
  pub answer : Answer

abbrev pub answer_in : Message → Option Answered
answer_in (messages.Request tx epoch life want) = None
answer_in (messages.Answer to answer) = Some (record { to = to; answer = answer })
answer_in (messages.Decision tx verdict) = None
answer_in (messages.Inquiry tx) = None
answer_in (messages.Ask tx) = None
answer_in (messages.Close epoch) = None
answer_in (messages.Install start) = None

pub record Decided : Type 0 where
  pub tx : TxId
  pub verdict : Outcome

abbrev pub decision_in : Message → Option Decided
decision_in (messages.Request tx epoch life want) = None
decision_in (messages.Answer to answer) = None
decision_in (messages.Decision tx verdict) = Some (record { tx = tx; verdict = verdict })
decision_in (messages.Inquiry tx) = None
decision_in (messages.Ask tx) = None
decision_in (messages.Close epoch) = None
decision_in (messages.Install start) = None

abbrev pub closing_in : Message → Option ℕ
closing_in (messages.Request tx epoch life want) = None
closing_in (messages.Answer to answer) = None
closing_in (messages.Decision tx verdict) = None
closing_in (messages.Inquiry tx) = None
closing_in (messages.Ask tx) = None
closing_in (messages.Close epoch) = Some epoch
closing_in (messages.Install start) = None

abbrev pub installing_in : Message → Option EpochStart
installing_in (messages.Request tx epoch life want) = None
installing_in (messages.Answer to answer) = None
installing_in (messages.Decision tx verdict) = None
installing_in (messages.Inquiry tx) = None
installing_in (messages.Ask tx) = None
installing_in (messages.Close epoch) = None
installing_in (messages.Install start) = Some start

-- of an answer: a grant, a promise with its clock, the epoch that another one closed, who holds what conflicts, what a
-- closed site tells, that an epoch is installed, how a transaction stands

abbrev pub granted_in : Answer → Option Grant
granted_in (answers.Granted grant) = Some grant
granted_in (answers.Clash holder inv event) = None
granted_in (answers.Closed epoch) = None
granted_in (answers.Behind epoch) = None
granted_in (answers.Restarted life) = None
granted_in answers.Stale = None
granted_in answers.Fault = None
granted_in (answers.Yes clock) = None
granted_in (answers.Shut snapshot) = None
granted_in answers.Installed = None
granted_in (answers.Answered verdict) = None

abbrev pub promised_in : Answer → Option ℕ
promised_in (answers.Granted grant) = None
promised_in (answers.Clash holder inv event) = None
promised_in (answers.Closed epoch) = None
promised_in (answers.Behind epoch) = None
promised_in (answers.Restarted life) = None
promised_in answers.Stale = None
promised_in answers.Fault = None
promised_in (answers.Yes clock) = Some clock
promised_in (answers.Shut snapshot) = None
promised_in answers.Installed = None
promised_in (answers.Answered verdict) = None

abbrev pub closed_in : Answer → Option ℕ
closed_in (answers.Granted grant) = None
closed_in (answers.Clash holder inv event) = None
closed_in (answers.Closed epoch) = Some epoch
closed_in (answers.Behind epoch) = None
closed_in (answers.Restarted life) = None
closed_in answers.Stale = None
closed_in answers.Fault = None
closed_in (answers.Yes clock) = None
closed_in (answers.Shut snapshot) = None
closed_in answers.Installed = None
closed_in (answers.Answered verdict) = None

pub record Clashing : Type 0 where
  pub holder : TxId
  pub inv : ℕ
  pub event : ℕ

abbrev pub clash_in : Answer → Option Clashing
clash_in (answers.Granted grant) = None
clash_in (answers.Clash holder inv event) = Some (record { holder = holder; inv = inv; event = event })
clash_in (answers.Closed epoch) = None
clash_in (answers.Behind epoch) = None
clash_in (answers.Restarted life) = None
clash_in answers.Stale = None
clash_in answers.Fault = None
clash_in (answers.Yes clock) = None
clash_in (answers.Shut snapshot) = None
clash_in answers.Installed = None
clash_in (answers.Answered verdict) = None

abbrev pub shut_in : Answer → Option Snapshot
shut_in (answers.Granted grant) = None
shut_in (answers.Clash holder inv event) = None
shut_in (answers.Closed epoch) = None
shut_in (answers.Behind epoch) = None
shut_in (answers.Restarted life) = None
shut_in answers.Stale = None
shut_in answers.Fault = None
shut_in (answers.Yes clock) = None
shut_in (answers.Shut snapshot) = Some snapshot
shut_in answers.Installed = None
shut_in (answers.Answered verdict) = None

abbrev pub has_installed : Answer → Bool
has_installed (answers.Granted grant) = false
has_installed (answers.Clash holder inv event) = false
has_installed (answers.Closed epoch) = false
has_installed (answers.Behind epoch) = false
has_installed (answers.Restarted life) = false
has_installed answers.Stale = false
has_installed answers.Fault = false
has_installed (answers.Yes clock) = false
has_installed (answers.Shut snapshot) = false
has_installed answers.Installed = true
has_installed (answers.Answered verdict) = false

abbrev pub verdict_in : Answer → Option Outcome
verdict_in (answers.Granted grant) = None
verdict_in (answers.Clash holder inv event) = None
verdict_in (answers.Closed epoch) = None
verdict_in (answers.Behind epoch) = None
verdict_in (answers.Restarted life) = None
verdict_in answers.Stale = None
verdict_in answers.Fault = None
verdict_in (answers.Yes clock) = None
verdict_in (answers.Shut snapshot) = None
verdict_in answers.Installed = None
verdict_in (answers.Answered verdict) = Some verdict

-- of a record: a rise, a promise, that a promised transaction committed, a closed, an installed and a decided epoch (a
-- commit: Counts)

abbrev pub is_life : Record → Bool
is_life journals.Life = true
is_life (journals.Prepare prepared) = false
is_life (journals.Done tx clock) = false
is_life (journals.Close epoch) = false
is_life (journals.Install start) = false
is_life (journals.Commit commit) = false
is_life (journals.Decide start) = false

abbrev pub prepare_in : Record → Option Prepared
prepare_in journals.Life = None
prepare_in (journals.Prepare prepared) = Some prepared
prepare_in (journals.Done tx clock) = None
prepare_in (journals.Close epoch) = None
prepare_in (journals.Install start) = None
prepare_in (journals.Commit commit) = None
prepare_in (journals.Decide start) = None

pub record Finished : Type 0 where
  pub tx : TxId
  pub clock : ℕ

abbrev pub done_in : Record → Option Finished
done_in journals.Life = None
done_in (journals.Prepare prepared) = None
done_in (journals.Done tx clock) = Some (record { tx = tx; clock = clock })
done_in (journals.Close epoch) = None
done_in (journals.Install start) = None
done_in (journals.Commit commit) = None
done_in (journals.Decide start) = None

abbrev pub close_in : Record → Option ℕ
close_in journals.Life = None
close_in (journals.Prepare prepared) = None
close_in (journals.Done tx clock) = None
close_in (journals.Close epoch) = Some epoch
close_in (journals.Install start) = None
close_in (journals.Commit commit) = None
close_in (journals.Decide start) = None

abbrev pub install_in : Record → Option EpochStart
install_in journals.Life = None
install_in (journals.Prepare prepared) = None
install_in (journals.Done tx clock) = None
install_in (journals.Close epoch) = None
install_in (journals.Install start) = Some start
install_in (journals.Commit commit) = None
install_in (journals.Decide start) = None

abbrev pub decide_in : Record → Option EpochStart
decide_in journals.Life = None
decide_in (journals.Prepare prepared) = None
decide_in (journals.Done tx clock) = None
decide_in (journals.Close epoch) = None
decide_in (journals.Install start) = None
decide_in (journals.Commit commit) = None
decide_in (journals.Decide start) = Some start

-- of a message of the administrator: the transaction that is asked about

abbrev pub asking_in : Message → Option TxId
asking_in (messages.Request tx epoch life want) = None
asking_in (messages.Answer to answer) = None
asking_in (messages.Decision tx verdict) = None
asking_in (messages.Inquiry tx) = None
asking_in (messages.Ask tx) = Some tx
asking_in (messages.Close epoch) = None
asking_in (messages.Install start) = None

-- and of a site's: the transaction that is inquired about

abbrev pub inquiry_in : Message → Option TxId
inquiry_in (messages.Request tx epoch life want) = None
inquiry_in (messages.Answer to answer) = None
inquiry_in (messages.Decision tx verdict) = None
inquiry_in (messages.Inquiry tx) = Some tx
inquiry_in (messages.Ask tx) = None
inquiry_in (messages.Close epoch) = None
inquiry_in (messages.Install start) = None

-- whether who sends it waits for an answer

abbrev pub wants_answer : Message → Bool
wants_answer (messages.Request tx epoch life want) = true
wants_answer (messages.Answer to answer) = false
wants_answer (messages.Decision tx verdict) = false
wants_answer (messages.Inquiry tx) = false
wants_answer (messages.Ask tx) = true
wants_answer (messages.Close epoch) = true
wants_answer (messages.Install start) = true

-- the view that a request carries

abbrev pub view_in : Want → List Line
view_in (wants.Read read) = []
view_in (wants.Append object view own) = view
view_in wants.Prepare = []

-- whether an outcome is an end

abbrev pub is_final : Outcome → Bool
is_final (outcomes.Committed stamp) = true
is_final outcomes.Aborted = true
is_final outcomes.Active = false
