-- A client over its inputs, each followed by the numbers of its turn's messages; and what it tells of transactions.
use Rattle.std.specs.Prelude.{[], MatchOption, ◌≡◌, ℕ, List, ◌∷◌, fold, Option, None, option_map}
use Rattle.qc_decl.specs.declared.declaration.Declaration.{Declaration}
use Rattle.qc_stamp.specs.declared.stamp.TxId.{TxId}
use Rattle.qc_front.specs.declared.doing.Doing.TheVariants.{Idle}
use Rattle.qc_front.specs.declared.transaction.Transaction.{Transaction}
use Rattle.qc_msg.specs.declared.message.Message.{Message}
use Rattle.qc_msg.specs.declared.step.Input.{Input}
use Rattle.qc_msg.specs.declared.step.Input.TheVariants as given
use Rattle.qc_client.specs.declared.client.Client.{Client}
use Rattle.qc_client.specs.Client.{outcome_of}
use Rattle.qc_client.specs.Conduct.{client_takes, sent}
use Rattle.qc_msg.specs.Vocabulary.{Decided, decision_in}

-- what a client takes, and the number of the first message of its turn
pub record NumberedInput : Type 0 where
  pub given : Input
  pub first : ℕ

abbrev pub after_input : Declaration → Client → NumberedInput → Client
after_input decl c i = sent (client_takes decl c i.given).client i.first

abbrev pub after_inputs : Declaration → Client → List NumberedInput → Client
after_inputs decl c inputs = fold (after_input decl) c inputs

-- nothing runs: neither a `do` nor a commit
pub record IsFree (c : Client) : Type 0 where
  pub voting : c.desk.voting ≡ None
  pub doing : c.front.doing ≡ Idle

-- a command comes only once the last one has its reply

abbrev pub IsReady : Client → Input → Type 0
IsReady c (given.Called command) = IsFree c
IsReady c (given.Got envelope) = Unit {0}
IsReady c (given.Lost number) = Unit {0}

abbrev pub AreReady : Declaration → Client → List NumberedInput → Type 0
AreReady decl c [] = Unit {0}
AreReady decl c (i ∷ inputs) = IsReady c i.given × AreReady decl (after_input decl c i) inputs

-- the name of the begun transaction
abbrev pub name_of : Option Transaction → Option TxId
name_of transaction = option_map (λ (t : Transaction). t.begun.tx) transaction

-- a Decision tells how its transaction stands
abbrev pub TellsOutcome : Client → Message → Type 0
TellsOutcome c message = MatchOption (decision_in message) (Unit {0}) (λ (v : Decided). v.verdict ≡ outcome_of c v.tx)
