-- What holds of a client that took few inputs, with small clocks in its messages. It is more than its calls ask, so
-- that a test may go on with any input.
use Rattle.std.specs.Prelude.{ℕ, ◌+◌, ◌≤◌, Option, Some, None}
use Rattle.qc_decl.specs.declared.declaration.Declaration.{Declaration}
use Rattle.qc_commit.specs.Vocabulary.{AsksFew}
use Rattle.qc_front.specs.Vocabulary.{FrontHolds}
use Rattle.qc_msg.specs.declared.message.Answer.{Answer}
use Rattle.qc_msg.specs.declared.message.Answer.TheVariants as answers
use Rattle.qc_msg.specs.declared.message.Message.{Message}
use Rattle.qc_msg.specs.declared.message.Message.TheVariants as messages
use Rattle.qc_client.specs.declared.client.Client.{Client}

-- above the clocks of all messages that tests make, which have 32 bits
abbrev pub most_told : ℕ
most_told = 4294967296

-- the clock that a grant or a promise tells, or 0
abbrev pub told : Option Answer → ℕ
told None = 0
told (Some (answers.Granted grant)) = grant.clock
told (Some (answers.Clash holder inv event)) = 0
told (Some (answers.Closed epoch)) = 0
told (Some (answers.Behind epoch)) = 0
told (Some (answers.Restarted life)) = 0
told (Some answers.Stale) = 0
told (Some answers.Fault) = 0
told (Some (answers.Yes clock)) = clock
told (Some (answers.Shut snapshot)) = 0
told (Some answers.Installed) = 0
told (Some (answers.Answered verdict)) = 0

abbrev pub told_in : Message → ℕ
told_in (messages.Request tx epoch life want) = 0
told_in (messages.Answer to answer) = told (Some answer)
told_in (messages.Decision tx verdict) = 0
told_in (messages.Inquiry tx) = 0
told_in (messages.Ask tx) = 0
told_in (messages.Close epoch) = 0
told_in (messages.Install start) = 0

-- after so many inputs
pub record IsYoung (decl : Declaration) (c : Client) (age : ℕ) : Type 0 where
  pub holds : FrontHolds decl c.front
  pub count : c.front.count ≤ age
  pub clock : c.front.clock.value ≤ most_told + age
  pub desk : c.desk.clock.value ≤ most_told + age
  pub few : AsksFew c.desk.voting
