-- What a client becomes and sends for one input stays within a bound that what it takes keeps to, and one more.
use Rattle.std.proofs.Common.{◌≡◌, ℕ, ◌+◌, ◌≤◌, Bool, true, false, cond, List, [], ◌∷◌, fold, Option, Some, None}
use Rattle.std.proofs.Common.{is_some, refl, arith}
use Rattle.std.specs.List.{AllByRecursion as Every}
use Rattle.qc_stamp.specs.declared.stamp.TxId.{TxId}
use Rattle.qc_decl.specs.declared.declaration.Declaration.{Declaration}
use Rattle.qc_msg.specs.declared.message.Answer.{Answer}
use Rattle.qc_msg.specs.declared.message.Message.{Message}
use Rattle.qc_msg.specs.declared.message.Want.{Want}
use Rattle.qc_msg.specs.declared.message.Want.TheVariants.{Append, Prepare, Read}
use Rattle.qc_msg.specs.declared.step.Command.{Command}
use Rattle.qc_msg.specs.declared.step.Command.TheVariants as commands
use Rattle.qc_msg.specs.declared.step.Input.{Input}
use Rattle.qc_msg.specs.declared.step.Input.TheVariants as inputs
use Rattle.qc_msg.specs.Vocabulary.{Deed, Falls, Rises, Sends, Takes, Tells, Writes, quiet, Requested, request_in}
use Rattle.qc_commit.specs.declared.desk.Known.{Known}
use Rattle.qc_commit.specs.declared.desk.Known.TheVariants as knowns
use Rattle.qc_commit.specs.declared.desk.Voting.{Voting}
use Rattle.qc_commit.specs.Conduct as desks
use Rattle.qc_commit.specs.Vocabulary.{DeskMove, known}
use Rattle.qc_front.specs.declared.transaction.Transaction.{Transaction}
use Rattle.qc_front.specs.Conduct as fronts
use Rattle.qc_front.specs.Vocabulary.{FrontMove, ended}
use Rattle.qc_client.specs.declared.client.Client.{Client}
use Rattle.qc_client.specs.Vocabulary.{ClientMove, answered, answered_by, by_desk, by_front, called, client_does}
use Rattle.qc_client.specs.Vocabulary.{client_takes, commits, heard, is_begun, moved, outcome_by, outcome_of, requested}
use Rattle.qc_client.specs.Vocabulary.{sent_one}
use Rattle.laws_turns.specs.Vocabulary.{ClientMoveWithin, ClientWithin, DeskWithin, FrontWithin, GivenWithin}
use Rattle.laws_turns.specs.Vocabulary.{MessageWithin, OutcomeWithin}
use Rattle.laws_turns.proofs.DesksWithin.{CameWithin, DeskGoes, desk-le, known-within, prepare-within, vote_within}
use Rattle.laws_turns.proofs.FrontBounds.{front-le}
use Rattle.laws_turns.proofs.FrontsWithin.{FrontGoes, called-goes, ended_within, takes-goes}
use Rattle.laws_turns.proofs.Greater.{answer-le, sends-le}
use Rattle.laws_turns.proofs.ClientCases.{called_cases, heard_cases}
use Rattle.laws_turns.proofs.ReadingCases.{mapped}

pub client-le : (low high : ℕ) (c : Client) → low ≤ high → ClientWithin low c → ClientWithin high c
client-le low high c le w = record {
  front = front-le low high c.front le w.front;
  desk = desk-le low high c.desk le w.desk;
}

-- nothing is done
silent : (bound : ℕ) (c : Client) → ClientWithin bound c → ClientMoveWithin bound (moved c quiet)
silent bound c w = record { client = w; sends = tt }

front-moves : (bound : ℕ) (c : Client) (m : FrontMove) → ClientWithin bound c → FrontGoes bound m
    → ClientMoveWithin bound (by_front c m)
front-moves bound c m w goes = record { client = record { front = goes.front; desk = w.desk }; sends = goes.sends }

desk-moves : (bound : ℕ) (c : Client) (m : DeskMove) → ClientWithin bound c → DeskGoes bound m
    → ClientMoveWithin bound (by_desk c m)
desk-moves bound c m w goes = record {
  client = record { front = by (is_some m.turn.told); desk = goes.desk };
  sends = goes.sends;
} where
  by : (t : Bool) → FrontWithin bound (cond t (ended c.front m.desk.clock.value m.desk.epoch) c.front)
  by true = ended_within bound c.front m.desk.clock.value m.desk.epoch w.front goes.desk.clock
  by false = w.front

module _ (bound : ℕ) (decl : Declaration) (c : Client) (w : ClientWithin bound c) where
  more : ClientWithin (bound + 1) c
  more = client-le bound (bound + 1) c (omega arith) w

  came-more : (answer : Option Answer) → CameWithin bound answer → CameWithin (bound + 1) answer
  came-more None here = tt
  came-more (Some answer) here = answer-le bound (bound + 1) (omega arith) answer here

  answered-within : (number : ℕ) (answer : Option Answer) → CameWithin bound answer
      → ClientMoveWithin (bound + 1) (answered decl c number answer)
  answered-within number answer here = by c.desk.voting where
    by : (o : Option Voting) → ClientMoveWithin (bound + 1) (answered_by decl c o number answer)
    by None = front-moves (bound + 1) c (fronts.takes decl c.front number answer) more
        (takes-goes (bound + 1) decl c.front number answer more.front (came-more answer here))
    by (Some v) = desk-moves (bound + 1) c (desks.vote c.desk number answer) more
        (vote_within bound c.desk number answer w.desk here)

  fronted : (command : Command) → ClientMoveWithin (bound + 1) (by_front c (fronts.called decl c.front command))
  fronted command = front-moves (bound + 1) c (fronts.called decl c.front command) more
      (called-goes bound decl c.front command w.front)

  commits-within : (o : Option Transaction) → ClientMoveWithin (bound + 1) (commits decl c o)
  commits-within None = fronted commands.Commit
  commits-within (Some t) = by t.begun.doomed where
    by : (dead : Bool) → ClientMoveWithin (bound + 1)
        (cond dead (by_front c (fronts.called decl c.front commands.Commit))
        (by_desk c (desks.prepare decl c.desk t.begun c.front.clock.value)))
    by true = fronted commands.Commit
    by false = desk-moves (bound + 1) c (desks.prepare decl c.desk t.begun c.front.clock.value) more
        (prepare-within bound decl c.desk t.begun c.front.clock.value w.desk w.front.clock)

  called-within : (command : Command) → ClientMoveWithin (bound + 1) (called decl c command)
  called-within command =
      called_cases decl c (λ command m. ClientMoveWithin (bound + 1) m) fronted
      (commits-within c.front.transaction) command

  -- how a transaction stands
  told-within : (tx : TxId) → OutcomeWithin (bound + 1) (outcome_of c tx)
  told-within tx = by (known c.desk tx) refl (is_begun tx c.front.transaction) where
    by : (k : Known) → known c.desk tx ≡ k → (b : Bool) → OutcomeWithin (bound + 1) (outcome_by k b)
    by (knowns.Committed stamp) is b = let low : stamp.clock ≤ bound =
        known-within bound c.desk.commits tx stamp w.desk.commits is in omega arith
    by knowns.Uncommitted is true = tt
    by knowns.Uncommitted is false = tt

  heard-within : (from number : ℕ) (message : Message) → MessageWithin bound message
      → ClientMoveWithin (bound + 1) (heard decl c from number message)
  heard-within from number message here =
      heard_cases decl c from number (λ m move. MessageWithin bound m → ClientMoveWithin (bound + 1) move)
      (λ m none within. silent (bound + 1) c more) (λ to answer within. answered-within to (Some answer) within)
      (λ tx within. record { client = more; sends = (told-within tx, tt) })
      (λ tx within. record { client = more; sends = (told-within tx, tt) }) message here

  -- one input
  pub client_takes_within : (g : Input) → GivenWithin bound g → ClientMoveWithin (bound + 1) (client_takes decl c g)
  client_takes_within (inputs.Called command) here = called-within command
  client_takes_within (inputs.Got e) here = heard-within e.from e.number e.message here
  client_takes_within (inputs.Lost number) here = answered-within number None tt

-- the numbers of its messages change no clock

requested-within : (bound : ℕ) (c : Client) (number to : ℕ) (want : Want) → ClientWithin bound c
    → ClientWithin bound (requested c number to want)
requested-within bound c number to (Read read) w =
    record { front = record { clock = w.front.clock; count = w.front.count; views = w.front.views }; desk = w.desk }
requested-within bound c number to (Append object view own) w =
    record { front = record { clock = w.front.clock; count = w.front.count; views = w.front.views }; desk = w.desk }
requested-within bound c number to Prepare w = record { front = w.front; desk = by c.desk.voting } where
  by : (o : Option Voting) → DeskWithin bound (desks.prepared_in c.desk o number to)
  by None = w.desk
  by (Some v) = record { clock = w.desk.clock; commits = w.desk.commits }

sent_one-within : (bound : ℕ) (c : Client) (number to : ℕ) (message : Message) → ClientWithin bound c
    → ClientWithin bound (sent_one c number to message)
sent_one-within bound c number to message w =
    mapped (ClientWithin bound) (λ (q : Requested). requested c number to q.want) c (request_in message)
    (λ q. requested-within bound c number to q.want w) w

-- a deed that is no input
abbrev pub IsPost : Deed → Type 0
IsPost (Takes g) = ⊥
IsPost (Writes written) = Unit {0}
IsPost (Sends number to message) = Unit {0}
IsPost (Tells reply) = Unit {0}
IsPost (Falls cause pending) = Unit {0}
IsPost (Rises records) = Unit {0}

posts-within : (bound : ℕ) (decl : Declaration) (m : ClientMove) (d : Deed) → IsPost d → ClientMoveWithin bound m
    → ClientMoveWithin bound (client_does decl m d)
posts-within bound decl m (Takes g) never w = absurd never
posts-within bound decl m (Writes written) is w = w
posts-within bound decl m (Sends number to message) is w =
    record { client = sent_one-within bound m.client number to message w.client; sends = w.sends }
posts-within bound decl m (Tells reply) is w = w
posts-within bound decl m (Falls cause pending) is w = w
posts-within bound decl m (Rises records) is w = w

pub all_posts-within : (bound : ℕ) (decl : Declaration) (m : ClientMove) (ds : List Deed) → Every IsPost ds
    → ClientMoveWithin bound m → ClientMoveWithin bound (fold (client_does decl) m ds)
all_posts-within bound decl m [] all w = w
all_posts-within bound decl m (d ∷ ds) all w =
    all_posts-within bound decl (client_does decl m d) ds all.1 (posts-within bound decl m d all.0 w)

pub client_move-le : (low high : ℕ) (m : ClientMove) → low ≤ high → ClientMoveWithin low m → ClientMoveWithin high m
client_move-le low high m le w = record {
  client = client-le low high m.client le w.client;
  sends = sends-le low high le m.turn.sends w.sends;
}
