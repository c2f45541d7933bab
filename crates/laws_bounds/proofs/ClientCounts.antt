-- A client's count of transactions grows by at most one with each input, and its life stays.
use Rattle.std.proofs.Common.{◌≡◌, ℕ, ◌+◌, ◌≤◌, Bool, true, false, cond, Option, Some, None, is_some, refl, arith}
use Rattle.qc_client.specs.declared.client.Client.{Client}
use Rattle.qc_client.specs.Vocabulary.{answered, answered_by, by_desk, by_front, called, client_takes, commits, heard}
use Rattle.qc_client.specs.Vocabulary.{requested, sent_one}
use Rattle.qc_commit.specs.declared.desk.Voting.{Voting}
use Rattle.qc_commit.specs.Conduct as desks
use Rattle.qc_commit.specs.Vocabulary.{DeskMove}
use Rattle.qc_decl.specs.declared.declaration.Declaration.{Declaration}
use Rattle.qc_front.specs.declared.transaction.Transaction.{Transaction}
use Rattle.qc_front.specs.Conduct as fronts
use Rattle.qc_front.specs.Vocabulary.{ended}
use Rattle.qc_front.proofs.Unwritten.{front_called, front_takes}
use Rattle.qc_msg.specs.declared.message.Answer.{Answer}
use Rattle.qc_msg.specs.declared.message.Message.{Message}
use Rattle.qc_msg.specs.declared.message.Want.{Want}
use Rattle.qc_msg.specs.declared.message.Want.TheVariants.{Append, Prepare, Read}
use Rattle.qc_msg.specs.declared.reply.Reply.{Reply}
use Rattle.qc_msg.specs.declared.step.Command.{Command}
use Rattle.qc_msg.specs.declared.step.Command.TheVariants as commands
use Rattle.qc_msg.specs.declared.step.Input.{Input}
use Rattle.qc_msg.specs.declared.step.Input.TheVariants as inputs
use Rattle.laws_bounds.proofs.FrontCounts.{called_count, takes_count}
use Rattle.qc_msg.specs.Vocabulary.{Requested, request_in}
use Rattle.laws_bounds.proofs.Options.{map_each}
use Rattle.laws_turns.proofs.ClientCases.{called_cases}
use Rattle.qc_client.proofs.HeardCases.{heard_cases}

-- a client over one input

pub record Steps (c d : Client) : Type 0 where
  pub count : d.front.count ≤ c.front.count + 1
  pub life : d.front.life ≡ c.front.life

stays : (c : Client) → Steps c c
stays c = record { count = omega arith; life = refl }

desk_steps : (c : Client) (m : DeskMove) → Steps c (by_desk c m).client
desk_steps c m = by m.turn.told
  where
    by : (told : Option Reply)
        → Steps c
        (record { front = cond (is_some told) (ended c.front m.desk.clock.value m.desk.epoch) c.front; desk = m.desk })
    by None = record { count = omega arith; life = refl }
    by (Some reply) = record { count = omega arith; life = refl }

module _ (decl : Declaration) (c : Client) where
  fronted : (command : Command) → Steps c (by_front c (fronts.called decl c.front command)).client
  fronted command =
      record { count = called_count decl c.front command; life = (front_called decl c.front command).life }

  commit_steps : (o : Option Transaction) → Steps c (commits decl c o).client
  commit_steps None = fronted commands.Commit
  commit_steps (Some t) = by t.begun.doomed
    where
      by : (dead : Bool) → Steps c (cond dead (by_front c (fronts.called decl c.front commands.Commit))
          (by_desk c (desks.prepare decl c.desk t.begun c.front.clock.value))).client
      by true = fronted commands.Commit
      by false = desk_steps c (desks.prepare decl c.desk t.begun c.front.clock.value)

  called_steps : (command : Command) → Steps c (called decl c command).client
  called_steps =
      called_cases decl c (λ command move. Steps c move.client) fronted (commit_steps c.front.transaction)

  answer_steps : (number : ℕ) (answer : Option Answer) → Steps c (answered decl c number answer).client
  answer_steps number answer = by c.desk.voting
    where
      by : (o : Option Voting) → Steps c (answered_by decl c o number answer).client
      by None = record {
        count =
            (let same : (fronts.takes decl c.front number answer).front.count
            ≡ c.front.count = takes_count decl c.front number answer in omega arith);
        life = (front_takes decl c.front number answer).life;
      }
      by (Some v) = desk_steps c (desks.vote c.desk number answer)

  heard_steps : (from number : ℕ) (message : Message) → Steps c (heard decl c from number message).client
  heard_steps from number =
      heard_cases decl c from number (λ message move. Steps c move.client) (λ message. stays c)
      (λ to answer. answer_steps to (Some answer)) (λ tx. stays c) (λ tx. stays c)

  pub takes_steps : (g : Input) → Steps c (client_takes decl c g).client
  takes_steps (inputs.Called command) = called_steps command
  takes_steps (inputs.Got e) = heard_steps e.from e.number e.message
  takes_steps (inputs.Lost number) = answer_steps number None

-- the numbers of its messages change neither

pub record Same (c d : Client) : Type 0 where
  pub count : d.front.count ≡ c.front.count
  pub life : d.front.life ≡ c.front.life

requested_same : (c : Client) (number to : ℕ) (want : Want) → Same c (requested c number to want)
requested_same c number to (Read read) = record { count = refl; life = refl }
requested_same c number to (Append object view own) = record { count = refl; life = refl }
requested_same c number to Prepare = record { count = refl; life = refl }

pub sent_same : (c : Client) (number to : ℕ) (message : Message) → Same c (sent_one c number to message)
sent_same c number to message =
    map_each (Same c) (λ (q : Requested). requested c number to q.want) c (request_in message)
    (record { count = refl; life = refl }) (λ q. requested_same c number to q.want)
