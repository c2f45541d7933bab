-- Messages of the first lives and the first epoch: no other life or epoch is ever named.
use Rattle.std.specs.Prelude.{◌≡◌, ◌⊎◌, List}
use Rattle.std.specs.List.{AllByRecursion as Every}
use Rattle.qc_msg.specs.declared.message.Answer.{Answer}
use Rattle.qc_msg.specs.declared.message.Answer.TheVariants as answers
use Rattle.qc_msg.specs.declared.message.Envelope.{Envelope}
use Rattle.qc_msg.specs.declared.message.Message.{Message}
use Rattle.qc_msg.specs.declared.message.Message.TheVariants as messages
use Rattle.qc_msg.specs.Vocabulary.{first_epoch}
use Rattle.qc_stamp.specs.Vocabulary.{first_life}

-- no request is refused for its epoch or its life, and each promise is written
abbrev pub IsFirstAnswer : Answer → Type 0
IsFirstAnswer (answers.Granted grant) = grant.life ≡ first_life
IsFirstAnswer (answers.Clash holder inv event) = Unit {0}
IsFirstAnswer (answers.Closed epoch) = ⊥
IsFirstAnswer (answers.Behind epoch) = ⊥
IsFirstAnswer (answers.Restarted life) = ⊥
IsFirstAnswer answers.Stale = Unit {0}
IsFirstAnswer answers.Fault = ⊥
IsFirstAnswer (answers.Yes clock) = Unit {0}
IsFirstAnswer (answers.Shut snapshot) = ⊥
IsFirstAnswer answers.Installed = ⊥
IsFirstAnswer (answers.Answered verdict) = ⊥

-- a request names the first life of its site, or none; and nobody is asked for another epoch
abbrev pub IsFirst : Message → Type 0
IsFirst (messages.Request tx epoch life want) = (epoch ≡ first_epoch) × ((life ≡ 0) ⊎ (life ≡ first_life))
IsFirst (messages.Answer to answer) = IsFirstAnswer answer
IsFirst (messages.Decision tx verdict) = Unit {0}
IsFirst (messages.Inquiry tx) = Unit {0}
IsFirst (messages.Ask tx) = ⊥
IsFirst (messages.Close epoch) = ⊥
IsFirst (messages.Install start) = ⊥

abbrev pub AreFirst : List Envelope → Type 0
AreFirst ms = Every (λ (e : Envelope). IsFirst e.message) ms
