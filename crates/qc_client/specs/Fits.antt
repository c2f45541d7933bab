-- What holds of a client and of what it takes in every run, and its calls rely on.
use Rattle.std.specs.Option.{option_map_or}
use Rattle.std.specs.Prelude.{ℕ, ◌^◌, ◌<◌, Some}
use Rattle.qc_commit.specs.Vocabulary.{DeskFits, promised}
use Rattle.qc_front.specs.Vocabulary.{FrontFits}
use Rattle.qc_msg.specs.declared.message.Message.{Message}
use Rattle.qc_client.specs.declared.client.Client.{Client}
use Rattle.qc_msg.specs.Vocabulary.{Answered, answer_in}

-- clocks and counts are far from the ends of their types, there is room for the running operation, few sites are asked
pub record ClientFits (c : Client) : Type 0 where
  pub front : FrontFits c.front
  pub clock : c.front.clock.value < 2 ^ 63
  pub desk : DeskFits c.desk

-- the clock of a promise that a message brings, or 0
abbrev pub promise_in : Message → ℕ
promise_in message = option_map_or (λ (a : Answered). promised (Some a.answer)) (answer_in message) 0
