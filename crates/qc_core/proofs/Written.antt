-- The conduct's turns have their records written, since it doesn't know what becomes of them; what the turns of any
-- actor write and tell, and whom they answer.
use Rattle.std.proofs.Common.{◌≡◌, ℕ, ◌==◌, ◌-◌, Bool, true, false, cond, List, [], ◌∷◌, fold, length, map, Option}
use Rattle.std.proofs.Common.{Some, None, refl, ap, subst, sym}
use Rattle.qc_decl.specs.declared.declaration.Declaration.{Declaration}
use Rattle.qc_decl.specs.Vocabulary.{is_client, is_site}
use Rattle.std.specs.List.{AllByRecursion as Every}
use Rattle.qc_list.proofs.Members.{every-weaker}
use Rattle.qc_msg.specs.declared.message.Envelope.{Envelope}
use Rattle.qc_msg.specs.declared.turn.Posting.{Posting}
use Rattle.qc_msg.specs.declared.turn.Turn.{Turn}
use Rattle.qc_msg.specs.Vocabulary.{Deed, Falls, Rises, Sends, Takes, Tells, Writes, heard_in, quiet, sending}
use Rattle.qc_msg.specs.Vocabulary.{site_called, without_call}
use Rattle.qc_promise.specs.Vocabulary.{asks_answer}
use Rattle.qc_plan.specs.Vocabulary.{verdict}
use Rattle.qc_msg.specs.declared.begun.Begun.{Begun}
use Rattle.qc_msg.specs.declared.message.Answer.{Answer}
use Rattle.qc_msg.specs.declared.message.Message.{Message}
use Rattle.qc_msg.specs.declared.message.Message.TheVariants as messages
use Rattle.qc_msg.specs.declared.message.Outcome.TheVariants.{Aborted}
use Rattle.qc_msg.specs.declared.record.Record.{Record}
use Rattle.qc_msg.specs.declared.reply.Reply.TheVariants as replies
use Rattle.qc_msg.specs.declared.reply.AbortCause.{AbortCause}
use Rattle.qc_msg.specs.declared.step.Command.{Command}
use Rattle.qc_msg.specs.declared.step.Command.TheVariants as commands
use Rattle.qc_msg.specs.declared.step.Input.{Input}
use Rattle.qc_msg.specs.declared.step.Input.TheVariants as inputs
use Rattle.qc_msg.specs.declared.turn.Appended.TheVariants.{Done}
use Rattle.qc_commit.specs.declared.ballot.Ballot.{Ballot}
use Rattle.qc_commit.specs.declared.desk.Desk.{Desk}
use Rattle.qc_commit.specs.declared.desk.Voting.{Voting}
use Rattle.qc_commit.specs.Conduct as desks
use Rattle.qc_commit.specs.Vocabulary.{are_cast, blank, cast, first_against, moved as desk_moved, participants}
use Rattle.qc_commit.specs.Vocabulary.{prepares as asks_for, vote_of}
use Rattle.qc_front.specs.declared.transaction.Transaction.{Transaction}
use Rattle.qc_front.specs.Conduct as fronts
use Rattle.qc_client.specs.declared.client.Client.{Client}
use Rattle.qc_client.specs.Vocabulary.{by_desk, by_front}
use Rattle.qc_client.specs.Conduct as clients
use Rattle.qc_core.specs.declared.actor.Actor.{Actor}
use Rattle.qc_core.specs.declared.actor.Actor.TheVariants as actor
use Rattle.qc_recover.specs.Vocabulary.{admin_rises, client_rises, site_rises}
use Rattle.qc_core.specs.Vocabulary.{ActorMove, actor_after, actor_does, actor_rises, actor_sends, actor_takes}
use Rattle.qc_core.specs.Vocabulary.{by_admin, by_client, by_site, down_takes, moved}
use Rattle.qc_core.proofs.AdminWrites.{admin_written}
use Rattle.qc_core.proofs.FrontWrites.{IsAsking, IsClientTurn, command_written, commits_asks, ends_asks, prepares_ask}
use Rattle.qc_core.proofs.FrontWrites.{quiet_asks, says_well, takes_in_written}
pub use Rattle.qc_core.proofs.FrontWrites.{NoAnswer}
pub use Rattle.qc_core.proofs.SiteWrites.{IsAnsweredTo, IsAnswerTo, IsSiteTurn, site_written}

-- a desk

prepare_written : (decl : Declaration) (desk : Desk) (b : Begun) (clock : ℕ)
    → IsAsking (desks.prepare decl desk b clock).turn
prepare_written decl desk b clock = by (length sites == 0)
  where
    sites : List ℕ
    sites = participants decl desk.client b

    by : (x : Bool) → IsAsking (cond x (desks.decides (desks.passed desk clock) b)
        (desk_moved (desks.with_voting (desks.passed desk clock)
        (Some (record { begun = b; calls = []; ballots = blank sites }))) (sending (map (asks_for b) sites)))).turn
    by true = commits_asks (desks.next_stamp (desks.passed desk clock)) b
    by false = record { turn = says_well (map (asks_for b) sites) None refl; sends = prepares_ask b sites }

vote_written : (desk : Desk) (v : Voting) (number : ℕ) (answer : Option Answer) (o : Option ℕ)
    → IsAsking (desks.votes_at desk v number answer o).turn
vote_written desk v number answer None = quiet_asks
vote_written desk v number answer (Some site) = by (are_cast ballots)
  where
    ballots : List Ballot
    ballots = cast v.ballots site (vote_of v.begun site answer)

    learned : Desk
    learned = desks.learns desk answer

    out : (o : Option AbortCause) → IsAsking (desks.counted_out learned v.begun o).turn
    out (Some why) = ends_asks v.begun Aborted (replies.Aborted why) refl
    out None = commits_asks (desks.next_stamp learned) v.begun

    by : (x : Bool) → IsAsking (cond x (desks.counted_out learned v.begun (first_against ballots))
        (desk_moved (desks.with_voting learned (Some
        (record { begun = v.begun; calls = without_call v.calls number; ballots = ballots }))) quiet)).turn
    by true = out (first_against ballots)
    by false = quiet_asks

-- a client

answer_written : (decl : Declaration) (c : Client) (number : ℕ) (answer : Option Answer)
    → IsAsking (clients.answered decl c number answer).turn
answer_written decl c number answer = by c.desk.voting
  where
    votes_written : (o : Option Voting) → IsAsking (desks.votes_in c.desk o number answer).turn
    votes_written None = quiet_asks
    votes_written (Some v) = vote_written c.desk v number answer (site_called v.calls number)

    by : (o : Option Voting) → IsAsking (clients.answered_by decl c o number answer).turn
    by None = takes_in_written decl c.front c.front.doing c.front.transaction number answer
    by (Some v) = votes_written c.desk.voting

-- what it answers it was asked for

record IsClientTaken (g : Input) (t : Turn) : Type 0 where
  turn : IsClientTurn t
  sends : Every (IsAnswerTo g) t.sends

pub none_answers : (g : Input) (ps : List Posting) → Every NoAnswer ps → Every (IsAnswerTo g) ps
none_answers g ps none = every-weaker NoAnswer (IsAnswerTo g)
    (λ p is. subst (IsAnsweredTo (heard_in g) p.to) (sym is) tt) ps none

asking_taken : (g : Input) (t : Turn) → IsAsking t → IsClientTaken g t
asking_taken g t is = record { turn = is.turn; sends = none_answers g t.sends is.sends }

hears_written : (decl : Declaration) (c : Client) (e : Envelope) (m : Message) → e.message ≡ m
    → IsClientTaken (inputs.Got e) (clients.heard decl c e.from e.number m).turn
hears_written decl c e (messages.Request tx epoch life want) is = asking_taken (inputs.Got e) quiet quiet_asks
hears_written decl c e (messages.Answer to answer) is =
    asking_taken (inputs.Got e) (clients.answered decl c to (Some answer)).turn (answer_written decl c to (Some answer))
hears_written decl c e (messages.Decision tx verdict) is = asking_taken (inputs.Got e) quiet quiet_asks
hears_written decl c e (messages.Inquiry tx) is = record { turn = says_well _ None refl; sends = (tt, tt) }
hears_written decl c e (messages.Ask tx) is =
    record { turn = says_well _ None refl; sends = ((refl, (refl, ap asks_answer is)), tt) }
hears_written decl c e (messages.Close epoch) is = asking_taken (inputs.Got e) quiet quiet_asks
hears_written decl c e (messages.Install start) is = asking_taken (inputs.Got e) quiet quiet_asks

called_written : (decl : Declaration) (c : Client) (command : Command) → IsAsking (clients.called decl c command).turn
called_written decl c commands.Begin = command_written decl c.front commands.Begin
called_written decl c (commands.Do object inv) = command_written decl c.front (commands.Do object inv)
called_written decl c commands.Commit = by c.front.transaction
  where
    by : (o : Option Transaction) → IsAsking (clients.commits decl c o).turn
    by None = command_written decl c.front commands.Commit
    by (Some t) = doomed t.begun.doomed
      where
        doomed : (x : Bool) → IsAsking (cond x (by_front c (fronts.called decl c.front commands.Commit))
            (by_desk c (desks.prepare decl c.desk t.begun c.front.clock.value))).turn
        doomed true = command_written decl c.front commands.Commit
        doomed false = prepare_written decl c.desk t.begun c.front.clock.value
called_written decl c commands.Abort = command_written decl c.front commands.Abort
called_written decl c (commands.Epoch number) = command_written decl c.front (commands.Epoch number)

client_taken : (decl : Declaration) (c : Client) (g : Input) → IsClientTaken g (clients.client_takes decl c g).turn
client_taken decl c (inputs.Called command) =
    asking_taken (inputs.Called command) (clients.called decl c command).turn (called_written decl c command)
client_taken decl c (inputs.Got e) = hears_written decl c e e.message refl
client_taken decl c (inputs.Lost number) =
    asking_taken (inputs.Lost number) (clients.answered decl c number None).turn (answer_written decl c number None)

pub client_written : (decl : Declaration) (c : Client) (g : Input) → IsClientTurn (clients.client_takes decl c g).turn
client_written decl c g = (client_taken decl c g).turn

pub client_answers : (decl : Declaration) (c : Client) (g : Input)
    → Every (IsAnswerTo g) (clients.client_takes decl c g).turn.sends
client_answers decl c g = (client_taken decl c g).sends

-- any actor

down_written : (g : Input) → (down_takes g).append ≡ Done
down_written (inputs.Called command) = refl
down_written (inputs.Got e) = refl
down_written (inputs.Lost number) = refl

takes_written : (decl : Declaration) (a : Actor) (g : Input) → (actor_takes decl a g).turn.append ≡ Done
takes_written decl (actor.Site s) g = (site_written decl s g).append
takes_written decl (actor.Client c) g = (client_written decl c g).append
takes_written decl (actor.Admin m) g = (admin_written decl m g).append
takes_written decl actor.Down g = down_written g

rises_written : (decl : Declaration) (a : ℕ) (rs : List Record) → (actor_rises decl a rs).turn.append ≡ Done
rises_written decl a rs = by (is_site decl a) (is_client decl a)
  where
    by : (x y : Bool) → (cond x (by_site (site_rises decl a rs))
        (cond y (by_client (client_rises (a - decl.sites) rs)) (by_admin (admin_rises rs)))).turn.append ≡ Done
    by true y = refl
    by false true = refl
    by false false = refl

does_written : (decl : Declaration) (a : ℕ) (m : ActorMove) (ds : List Deed) → m.turn.append ≡ Done
    → (fold (actor_does decl a) m ds).turn.append ≡ Done
does_written decl a m [] is = is
does_written decl a m (Takes g ∷ ds) is =
    does_written decl a (actor_takes decl m.actor g) ds (takes_written decl m.actor g)
does_written decl a m (Writes written ∷ ds) is = does_written decl a m ds is
does_written decl a m (Sends number to message ∷ ds) is =
    does_written decl a (record m { actor = actor_sends m.actor number to message }) ds is
does_written decl a m (Tells reply ∷ ds) is = does_written decl a m ds is
does_written decl a m (Falls cause pending ∷ ds) is = does_written decl a (moved actor.Down quiet) ds refl
does_written decl a m (Rises records ∷ ds) is =
    does_written decl a (actor_rises decl a records) ds (rises_written decl a records)

pub after_written : (decl : Declaration) (a : ℕ) (ds : List Deed) → (actor_after decl a ds).turn.append ≡ Done
after_written decl a ds = does_written decl a _ ds refl
