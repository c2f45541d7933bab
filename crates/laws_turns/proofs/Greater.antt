-- What is within a bound is within a greater one.
use Rattle.std.proofs.Common.{ℕ, ◌≤◌, List, arith}
use Rattle.qc_list.proofs.Members.{every-weaker}
use Rattle.qc_entry.specs.declared.line.Line.{Line}
use Rattle.qc_entry.specs.declared.record.Prepared.{Prepared}
use Rattle.qc_msg.specs.declared.message.Answer.{Answer}
use Rattle.qc_msg.specs.declared.message.Answer.TheVariants as answers
use Rattle.qc_msg.specs.declared.message.Envelope.{Envelope}
use Rattle.qc_msg.specs.declared.message.Message.{Message}
use Rattle.qc_msg.specs.declared.message.Message.TheVariants as messages
use Rattle.qc_msg.specs.declared.message.Outcome.{Outcome}
use Rattle.qc_msg.specs.declared.message.Outcome.TheVariants.{Aborted, Active, Committed}
use Rattle.qc_msg.specs.declared.message.Want.{Want}
use Rattle.qc_msg.specs.declared.message.Want.TheVariants.{Append, Prepare, Read}
use Rattle.qc_msg.specs.declared.turn.Posting.{Posting}
use Rattle.laws_turns.specs.Vocabulary.{AnswerWithin, LinesWithin, MailWithin, MessageWithin, OutcomeWithin}
use Rattle.laws_turns.specs.Vocabulary.{PromisesWithin, SendsWithin, WantWithin}

module _ (low high : ℕ) (le : low ≤ high) where
  pub lines-le : (lines : List Line) → LinesWithin low lines → LinesWithin high lines
  lines-le lines = every-weaker (λ (l : Line). l.stamp.clock ≤ low) (λ (l : Line). l.stamp.clock ≤ high)
      (λ l here. omega arith) lines

  pub promises-le : (prepared : List Prepared) → PromisesWithin low prepared → PromisesWithin high prepared
  promises-le prepared = every-weaker (λ (p : Prepared). LinesWithin low p.lines)
      (λ (p : Prepared). LinesWithin high p.lines) (λ p. lines-le p.lines) prepared

  clock-le : (clock : ℕ) → clock ≤ low → clock ≤ high
  clock-le clock here = omega arith

  outcome-le : (verdict : Outcome) → OutcomeWithin low verdict → OutcomeWithin high verdict
  outcome-le (Committed stamp) here = clock-le stamp.clock here
  outcome-le Aborted here = tt
  outcome-le Active here = tt

  want-le : (want : Want) → WantWithin low want → WantWithin high want
  want-le (Read read) here = tt
  want-le (Append object view own) here = lines-le view here
  want-le Prepare here = tt

  pub answer-le : (answer : Answer) → AnswerWithin low answer → AnswerWithin high answer
  answer-le (answers.Granted grant) here = (clock-le grant.clock here.0, lines-le grant.log here.1)
  answer-le (answers.Clash holder inv event) here = tt
  answer-le (answers.Closed epoch) here = tt
  answer-le (answers.Behind epoch) here = tt
  answer-le (answers.Restarted life) here = tt
  answer-le answers.Stale here = tt
  answer-le answers.Fault here = tt
  answer-le (answers.Yes clock) here = clock-le clock here
  answer-le (answers.Shut snapshot) here =
      (clock-le snapshot.clock here.0, lines-le snapshot.log here.1, promises-le snapshot.prepared here.2)
  answer-le answers.Installed here = tt
  answer-le (answers.Answered verdict) here = outcome-le verdict here

  message-le : (message : Message) → MessageWithin low message → MessageWithin high message
  message-le (messages.Request tx epoch life want) here = want-le want here
  message-le (messages.Answer to answer) here = answer-le answer here
  message-le (messages.Decision tx verdict) here = outcome-le verdict here
  message-le (messages.Inquiry tx) here = tt
  message-le (messages.Ask tx) here = tt
  message-le (messages.Close epoch) here = tt
  message-le (messages.Install start) here = (clock-le start.clock here.0, lines-le start.lines here.1)

  pub mail_le : (mail : List Envelope) → MailWithin low mail → MailWithin high mail
  mail_le mail = every-weaker (λ (e : Envelope). MessageWithin low e.message)
      (λ (e : Envelope). MessageWithin high e.message) (λ e. message-le e.message) mail

  pub sends-le : (sends : List Posting) → SendsWithin low sends → SendsWithin high sends
  sends-le sends = every-weaker (λ (p : Posting). MessageWithin low p.message)
      (λ (p : Posting). MessageWithin high p.message) (λ p. message-le p.message) sends
