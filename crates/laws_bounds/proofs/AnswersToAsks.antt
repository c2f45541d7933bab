-- An answer that tells how a transaction stands is to an Ask about it: what is said of answers, mail and turns.
use Rattle.std.proofs.Common.{ℕ, List, ◌++◌}
use Rattle.std.specs.List.{AllByRecursion as Every}
use Rattle.qc_list.proofs.Members.{every-weaker}
use Rattle.qc_core.specs.declared.actor.Actor.{Actor}
use Rattle.qc_core.specs.declared.actor.Actor.TheVariants as actors_of
use Rattle.qc_core.specs.Vocabulary.{ActorMove}
use Rattle.qc_msg.specs.Vocabulary.{answer_in, Answered, verdict_in}
use Rattle.qc_msg.specs.declared.message.Answer.{Answer}
use Rattle.qc_msg.specs.declared.message.Envelope.{Envelope}
use Rattle.qc_msg.specs.declared.message.Message.{Message}
use Rattle.qc_msg.specs.declared.message.Outcome.{Outcome}
use Rattle.qc_msg.specs.declared.turn.Posting.{Posting}
use Rattle.qc_msg.specs.declared.turn.Turn.{Turn}
use Rattle.qc_stamp.specs.declared.stamp.TxId.{TxId}
use Rattle.laws_bounds.proofs.AdminsAsked.{AdminAsked, AsksAt, admin_asked_more, asks_more}
use Rattle.laws_bounds.proofs.Forms.{VerdictInForm}
use Rattle.std.specs.Prelude.{MatchOption}
use Rattle.laws_bounds.proofs.Options.{match_weaker}

-- an answer that tells how a transaction stands is to an Ask about it

abbrev pub VerdictTold : List Envelope → ℕ → Outcome → Type 0
VerdictTold ms to verdict = (tx : TxId) × AsksAt ms tx to × VerdictInForm tx verdict

abbrev pub AnswerTold : List Envelope → ℕ → Answer → Type 0
AnswerTold ms to answer = MatchOption (verdict_in answer) (Unit {0}) (VerdictTold ms to)

abbrev pub MessageTold : List Envelope → Message → Type 0
MessageTold ms m = MatchOption (answer_in m) (Unit {0}) (λ (a : Answered). AnswerTold ms a.to a.answer)

abbrev pub MailTold : List Envelope → List Envelope → Type 0
MailTold ms es = Every (λ (e : Envelope). MessageTold ms e.message) es

abbrev pub SendsTold : List Envelope → List Posting → Type 0
SendsTold ms ps = Every (λ (p : Posting). MessageTold ms p.message) ps

pub record TurnTold (ms : List Envelope) (turn : Turn) : Type 0 where
  pub sends : SendsTold ms turn.sends
  pub failed_sends : SendsTold ms turn.failed_sends

abbrev pub ActorAsked : List Envelope → Actor → Type 0
ActorAsked ms (actors_of.Site s) = Unit {0}
ActorAsked ms (actors_of.Client c) = Unit {0}
ActorAsked ms (actors_of.Admin m) = AdminAsked ms m
ActorAsked ms actors_of.Down = Unit {0}

pub record ActorTold (ms : List Envelope) (m : ActorMove) : Type 0 where
  pub turn : TurnTold ms m.turn
  pub asked : ActorAsked ms m.actor

-- more mail

module _ (ms ns : List Envelope) where
  answer_more : (to : ℕ) (answer : Answer) → AnswerTold ms to answer → AnswerTold (ms ++ ns) to answer
  answer_more to answer here =
      match_weaker (VerdictTold ms to) (VerdictTold (ms ++ ns) to) (verdict_in answer)
      (λ verdict told. (told.0, asks_more ms ns told.0 to told.1, told.2)) here

  pub message_more : (m : Message) → MessageTold ms m → MessageTold (ms ++ ns) m
  message_more m here =
      match_weaker (λ (a : Answered). AnswerTold ms a.to a.answer)
      (λ (a : Answered). AnswerTold (ms ++ ns) a.to a.answer)
      (answer_in m) (λ a told. answer_more a.to a.answer told) here

  pub mail_more : (es : List Envelope) → MailTold ms es → MailTold (ms ++ ns) es
  mail_more =
      every-weaker (λ (e : Envelope). MessageTold ms e.message) (λ (e : Envelope). MessageTold (ms ++ ns) e.message)
      (λ e here. message_more e.message here)

  pub sends_more : (ps : List Posting) → SendsTold ms ps → SendsTold (ms ++ ns) ps
  sends_more =
      every-weaker (λ (p : Posting). MessageTold ms p.message) (λ (p : Posting). MessageTold (ms ++ ns) p.message)
      (λ p here. message_more p.message here)

  asked_more : (v : Actor) → ActorAsked ms v → ActorAsked (ms ++ ns) v
  asked_more (actors_of.Site s) here = tt
  asked_more (actors_of.Client c) here = tt
  asked_more (actors_of.Admin m) here = admin_asked_more ms ns m here
  asked_more actors_of.Down here = tt

  pub actor_more : (m : ActorMove) → ActorTold ms m → ActorTold (ms ++ ns) m
  actor_more m here = record {
    turn = record {
      sends = sends_more m.turn.sends here.turn.sends;
      failed_sends = sends_more m.turn.failed_sends here.turn.failed_sends;
    };
    asked = asked_more m.actor here.asked;
  }
