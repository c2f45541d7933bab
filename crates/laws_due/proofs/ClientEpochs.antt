-- A client tells of no epoch: it answers Inquiries alone.
use Rattle.std.proofs.Common.{ℕ, List, [], ◌∷◌, map, Option, Some, None, inl, inr, refl, sym, subst}
use Rattle.std.specs.List.{AllByRecursion as Every, fold}
use Rattle.qc_stamp.specs.declared.stamp.TxId.{TxId}
use Rattle.qc_list.specs.Vocabulary.{In}
use Rattle.qc_decl.specs.declared.declaration.Declaration.{Declaration}
use Rattle.qc_msg.specs.declared.begun.Begun.{Begun}
use Rattle.qc_msg.specs.declared.message.Answer.{Answer}
use Rattle.qc_msg.specs.declared.message.Message.{Message}
use Rattle.qc_msg.specs.declared.message.Message.TheVariants as messages
use Rattle.qc_msg.specs.declared.message.Outcome.{Outcome}
use Rattle.qc_msg.specs.declared.message.Outcome.TheVariants.{Committed, Aborted}
use Rattle.qc_msg.specs.declared.step.Command.{Command}
use Rattle.qc_msg.specs.declared.step.Command.TheVariants as commands
use Rattle.qc_msg.specs.declared.step.Input.{Input}
use Rattle.qc_msg.specs.declared.step.Input.TheVariants as inputs
use Rattle.qc_msg.specs.declared.turn.Posting.{Posting}
use Rattle.qc_msg.specs.declared.turn.Turn.{Turn}
use Rattle.qc_msg.specs.Vocabulary.{Deed, Falls, Rises, Sends, Takes, Tells, Writes, decisions, Answered, Decided}
use Rattle.qc_msg.specs.Vocabulary.{Requested}
use Rattle.qc_commit.specs.declared.desk.Voting.{Voting}
use Rattle.qc_commit.specs.Conduct as desks
use Rattle.qc_commit.specs.Vocabulary.{DeskMove}
use Rattle.qc_commit.proofs.Moves.{IsMove, IsPrepare, prepare-moves, tx_of, vote-moves}
use Rattle.qc_front.specs.declared.front.Front.{Front}
use Rattle.qc_front.specs.declared.transaction.Transaction.{Transaction}
use Rattle.qc_front.specs.Conduct as fronts
use Rattle.qc_front.specs.Vocabulary.{AreSent, FrontMove, IsSent}
use Rattle.qc_front.proofs.Sending.{called_sent, takes_sent}
use Rattle.qc_client.specs.declared.client.Client.{Client}
use Rattle.qc_client.specs.Vocabulary.{ClientMove, answered, answered_by, by_desk, by_front, called, client_does}
use Rattle.qc_client.specs.Vocabulary.{client_takes, commits, heard}
use Rattle.laws_due.proofs.Epochs.{TellPlanned, TellsPlanned}
use Rattle.laws_turns.proofs.ClientCases.{called_cases, heard_cases}
use Rattle.laws_turns.proofs.MessageCases.{message_cases}
use Rattle.laws_due.proofs.AskingCases.{prepare_cases}
use Rattle.std.specs.Prelude.{MatchOption}
use Rattle.qc_front.specs.Requests.{IsRequestOf, IsVerdictOf}
use Rattle.qc_list.proofs.Booleans.{if_two}

sent_planned : (decl : Declaration) (front next : Front) (to : ℕ) (m : Message) → IsSent decl front next to m
    → TellsPlanned decl m
sent_planned decl front next to m is =
    message_cases
    (λ (x : Message) (q : Option Requested) (a : Option Answered) (v : Option Decided) (i : Option TxId).
    MatchOption q (MatchOption v ⊥ (λ (w : Decided). IsVerdictOf front to w.tx w.verdict))
    (λ (w : Requested). IsRequestOf decl next to w.tx w.epoch w.life w.want) → TellsPlanned decl x)
    (λ q sent. tt) (λ a never. absurd never) (λ v sent. tt) (λ tx never. absurd never) (λ x never. absurd never) m is

every_of : (P : Posting → Type 0) (ps : List Posting) → ((p : Posting) → In p ps → P p) → Every P ps
every_of P [] each = tt
every_of P (p ∷ ps) each = (each p (inl refl), every_of P ps (λ q among. each q (inr among)))

front_planned : (decl : Declaration) (front : Front) (m : FrontMove) → AreSent decl front m
    → TellPlanned decl m.turn.sends
front_planned decl front m are = every_of (λ (p : Posting). TellsPlanned decl p.message) m.turn.sends
    (λ p among. sent_planned decl front m.front p.to p.message (are p among))

all_prepare : (decl : Declaration) (ps : List Posting) → Every (λ (p : Posting). IsPrepare p.message) ps
    → TellPlanned decl ps
all_prepare decl [] are = tt
all_prepare decl (p ∷ ps) are =
    (prepare_cases (TellsPlanned decl) (λ tx epoch life. tt) p.message are.0, all_prepare decl ps are.1)

decisions_planned : (decl : Declaration) (b : Begun) (v : Outcome) → TellPlanned decl (decisions b v)
decisions_planned decl b v = over b.asked
  where
    over : (asked : List ℕ) → TellPlanned decl
        (map (λ (site : ℕ). record { to = site; message = messages.Decision b.tx v }) asked)
    over [] = tt
    over (site ∷ asked) = (tt, over asked)

desk_planned : (decl : Declaration) (c : Client) (hand : Option TxId) (m : DeskMove) → IsMove c.desk hand m
    → TellPlanned decl m.turn.sends
desk_planned decl c hand m (inl w) = all_prepare decl m.turn.sends w.sends
desk_planned decl c hand m (inr (inl r)) =
    subst (λ (t : Turn). TellPlanned decl t.sends) (sym r.turn) (decisions_planned decl r.begun (Committed r.stamp))
desk_planned decl c hand m (inr (inr a)) =
    subst (λ (t : Turn). TellPlanned decl t.sends) (sym a.turn) (decisions_planned decl a.begun Aborted)

commits_planned : (decl : Declaration) (c : Client) (o : Option Transaction)
    → TellPlanned decl (commits decl c o).turn.sends
commits_planned decl c None = front_planned decl c.front (fronts.called decl c.front commands.Commit)
    (called_sent decl c.front commands.Commit)
commits_planned decl c (Some t) =
    if_two (λ (m : ClientMove). TellPlanned decl m.turn.sends) t.begun.doomed
    (by_front c (fronts.called decl c.front commands.Commit))
    (by_desk c (desks.prepare decl c.desk t.begun c.front.clock.value))
    (front_planned decl c.front (fronts.called decl c.front commands.Commit) (called_sent decl c.front commands.Commit))
    (desk_planned decl c (Some t.begun.tx) (desks.prepare decl c.desk t.begun c.front.clock.value)
    (prepare-moves decl c.desk t.begun c.front.clock.value))

called_planned : (decl : Declaration) (c : Client) (command : Command)
    → TellPlanned decl (called decl c command).turn.sends
called_planned decl c command =
    called_cases decl c (λ (x : Command) (move : ClientMove). TellPlanned decl move.turn.sends)
    (λ x. front_planned decl c.front (fronts.called decl c.front x) (called_sent decl c.front x))
    (commits_planned decl c c.front.transaction) command

answered_planned : (decl : Declaration) (c : Client) (number : ℕ) (answer : Option Answer)
    → TellPlanned decl (answered decl c number answer).turn.sends
answered_planned decl c number answer = at c.desk.voting
  where
    at : (o : Option Voting) → TellPlanned decl (answered_by decl c o number answer).turn.sends
    at None = front_planned decl c.front (fronts.takes decl c.front number answer)
        (takes_sent decl c.front number answer)
    at (Some v) = desk_planned decl c (tx_of c.desk.voting) (desks.vote c.desk number answer)
        (vote-moves c.desk number answer)

heard_planned : (decl : Declaration) (c : Client) (from number : ℕ) (m : Message)
    → TellPlanned decl (heard decl c from number m).turn.sends
heard_planned decl c from number m =
    heard_cases decl c from number (λ (x : Message) (move : ClientMove). TellPlanned decl move.turn.sends)
    (λ x none. tt) (λ to answer. answered_planned decl c to (Some answer)) (λ tx. (tt, tt)) (λ tx. (tt, tt)) m

pub client_takes_planned : (decl : Declaration) (c : Client) (g : Input)
    → TellPlanned decl (client_takes decl c g).turn.sends
client_takes_planned decl c (inputs.Called command) = called_planned decl c command
client_takes_planned decl c (inputs.Got e) = heard_planned decl c e.from e.number e.message
client_takes_planned decl c (inputs.Lost number) = answered_planned decl c number None

pub client_planned : (decl : Declaration) (ds : List Deed) (m : ClientMove) → TellPlanned decl m.turn.sends
    → TellPlanned decl (fold (client_does decl) m ds).turn.sends
client_planned decl [] m is = is
client_planned decl (Takes g ∷ ds) m is =
    client_planned decl ds (client_takes decl m.client g) (client_takes_planned decl m.client g)
client_planned decl (Writes written ∷ ds) m is = client_planned decl ds m is
client_planned decl (Sends number to message ∷ ds) m is =
    client_planned decl ds (client_does decl m (Sends number to message)) is
client_planned decl (Tells reply ∷ ds) m is = client_planned decl ds m is
client_planned decl (Falls cause pending ∷ ds) m is = client_planned decl ds m is
client_planned decl (Rises kept ∷ ds) m is = client_planned decl ds m is
