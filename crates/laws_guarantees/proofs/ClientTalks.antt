-- A client answers nothing but an Ask.
use Rattle.std.proofs.Common.{◌≡◌, ◌==◌, ℕ, Bool, true, false, if◌then◌else◌, List, [], ◌∷◌, inl, inr, length, map}
use Rattle.std.proofs.Common.{Option, Some, None, refl, ap}
use Rattle.qc_stamp.specs.declared.stamp.TxId.{TxId}
use Rattle.qc_list.specs.Vocabulary.{In}
use Rattle.theory_onecopy.proofs.Lists.{Mapped, map_in}
use Rattle.qc_decl.specs.declared.declaration.Declaration.{Declaration}
use Rattle.qc_msg.specs.declared.begun.Begun.{Begun}
use Rattle.qc_msg.specs.declared.message.Answer.{Answer}
use Rattle.qc_msg.specs.declared.message.Envelope.{Envelope}
use Rattle.qc_msg.specs.declared.message.Message.{Message}
use Rattle.qc_msg.specs.declared.message.Message.TheVariants as messages
use Rattle.qc_msg.specs.declared.message.Outcome.{Outcome}
use Rattle.qc_msg.specs.declared.reply.AbortCause.{AbortCause}
use Rattle.qc_msg.specs.declared.step.Command.{Command}
use Rattle.qc_msg.specs.declared.step.Command.TheVariants as commands
use Rattle.qc_msg.specs.declared.step.Input.{Input}
use Rattle.qc_msg.specs.declared.step.Input.TheVariants as inputs
use Rattle.qc_msg.specs.declared.turn.Posting.{Posting}
use Rattle.qc_msg.specs.declared.turn.Turn.{Turn}
use Rattle.qc_msg.specs.Vocabulary.{decisions, site_called, Answered}
use Rattle.qc_commit.specs.declared.desk.Desk.{Desk}
use Rattle.qc_commit.specs.declared.desk.Voting.{Voting}
use Rattle.qc_commit.specs.Conduct as desks
use Rattle.qc_commit.specs.Vocabulary.{DeskMove, are_cast, cast, first_against, participants, prepares, vote_of}
use Rattle.qc_front.specs.declared.front.Front.{Front}
use Rattle.qc_front.specs.declared.transaction.Transaction.{Transaction}
use Rattle.qc_front.specs.Conduct as fronts
use Rattle.qc_front.specs.Vocabulary.{AreSent, FrontMove, IsSent}
use Rattle.qc_front.proofs.Sending.{called_sent, takes_sent}
use Rattle.qc_client.specs.declared.client.Client.{Client}
use Rattle.qc_client.specs.Vocabulary.{answered, answered_by, by_desk, by_front, called, client_takes, commits, heard}
use Rattle.laws_guarantees.proofs.ForgettingAnswers.{answer_in}
use Rattle.laws_guarantees.proofs.MessageCases.{answering_cases}
use Rattle.laws_guarantees.proofs.ClientCases.{called_cases, heard_cases}
use Rattle.std.specs.Prelude.{option_map}

-- no message of the turn is an answer
abbrev AnswersNothing : Turn → Type 0
AnswersNothing turn = (p : Posting) → In p turn.sends → answer_in p.message ≡ None

either : (P : Turn → Type 0) (t : Bool) (x y : DeskMove) → P x.turn → P y.turn → P (if t then x else y).turn
either P true x y here there = here
either P false x y here there = there

-- the front end

sent_none : (decl : Declaration) (before after : Front) (to : ℕ) (m : Message) → IsSent decl before after to m
    → answer_in m ≡ None
sent_none decl before after to m s = answering_cases
    (λ m o. IsSent decl before after to m → option_map (λ (a : Answered). a.answer) o ≡ None) (λ m s. refl)
    (λ number answer s. absurd s) m s

front_none : (decl : Declaration) (c : Client) (m : FrontMove) → AreSent decl c.front m
    → AnswersNothing (by_front c m).turn
front_none decl c m sent p among = sent_none decl c.front m.front p.to p.message (sent p among)

-- the desk

decisions_none : (b : Begun) (v : Outcome) (p : Posting) → In p (decisions b v) → answer_in p.message ≡ None
decisions_none b v p among = let s : Mapped
    (λ (site : ℕ). record { to = site; message = messages.Decision b.tx v }) p b.asked =
    map_in (λ (site : ℕ). record { to = site; message = messages.Decision b.tx v }) p b.asked among in
    ap (λ (q : Posting). answer_in q.message) s.is

prepares_none : (b : Begun) (sites : List ℕ) (p : Posting) → In p (map (prepares b) sites) → answer_in p.message ≡ None
prepares_none b sites p among = let s : Mapped (prepares b) p sites = map_in (prepares b) p sites among in
    ap (λ (q : Posting). answer_in q.message) s.is

module _ (decl : Declaration) where
  prepare_none : (desk : Desk) (b : Begun) (clock : ℕ) → AnswersNothing (desks.prepare decl desk b clock).turn
  prepare_none desk b clock = either AnswersNothing (length (participants decl desk.client b) == 0)
      (desks.decides (desks.passed desk clock) b) _
      (decisions_none b _) (prepares_none b (participants decl desk.client b))

  out_none : (desk : Desk) (b : Begun) (o : Option AbortCause) → AnswersNothing (desks.counted_out desk b o).turn
  out_none desk b None = decisions_none b _
  out_none desk b (Some why) = decisions_none b _

  at_none : (desk : Desk) (v : Voting) (number : ℕ) (answer : Option Answer) (o : Option ℕ)
      → AnswersNothing (desks.votes_at desk v number answer o).turn
  at_none desk v number answer None = λ p among. absurd among
  at_none desk v number answer (Some site) =
      either AnswersNothing (are_cast (cast v.ballots site (vote_of v.begun site answer)))
      (desks.counted_out (desks.learns desk answer) v.begun
      (first_against (cast v.ballots site (vote_of v.begun site answer)))) _
      (out_none (desks.learns desk answer) v.begun (first_against (cast v.ballots site (vote_of v.begun site answer))))
      (λ p among. absurd among)

  vote_none : (desk : Desk) (o : Option Voting) (number : ℕ) (answer : Option Answer)
      → AnswersNothing (desks.votes_in desk o number answer).turn
  vote_none desk None number answer = λ p among. absurd among
  vote_none desk (Some v) number answer = at_none desk v number answer (site_called v.calls number)

  -- each input

  commits_none : (c : Client) (o : Option Transaction) → AnswersNothing (commits decl c o).turn
  commits_none c None = front_none decl c (fronts.called decl c.front commands.Commit)
      (called_sent decl c.front commands.Commit)
  commits_none c (Some t) = by t.begun.doomed
    where
      by : (b : Bool) → AnswersNothing (if b then by_front c (fronts.called decl c.front commands.Commit) else by_desk c
          (desks.prepare decl c.desk t.begun c.front.clock.value)).turn
      by true = front_none decl c (fronts.called decl c.front commands.Commit)
          (called_sent decl c.front commands.Commit)
      by false = prepare_none c.desk t.begun c.front.clock.value

  called_none : (c : Client) (command : Command) → AnswersNothing (called decl c command).turn
  called_none c command = called_cases decl c (λ move. AnswersNothing move.turn)
      (λ command. front_none decl c (fronts.called decl c.front command) (called_sent decl c.front command))
      (commits_none c c.front.transaction) command

  answered_none : (c : Client) (number : ℕ) (answer : Option Answer)
      → AnswersNothing (answered decl c number answer).turn
  answered_none c number answer = by c.desk.voting
    where
      by : (o : Option Voting) → AnswersNothing (answered_by decl c o number answer).turn
      by None = front_none decl c (fronts.takes decl c.front number answer) (takes_sent decl c.front number answer)
      by (Some v) = vote_none c.desk c.desk.voting number answer

  some_none : {A : Type 0} (o : Option Answer) (x : Answer) → o ≡ None → o ≡ Some x → A
  some_none o x none some = absurd (let never : ⊥ = cc in never)

  pub client_answers : (c : Client) (g : Input) (p : Posting) (k : ℕ) (x : Answer)
      → In p (client_takes decl c g).turn.sends → p.message ≡ messages.Answer k x
      → (e : Envelope) × (g ≡ inputs.Got e) × ((tx : TxId) × (e.message ≡ messages.Ask tx))
  client_answers c (inputs.Called command) p k x among is =
      some_none (answer_in p.message) x (called_none c command p among) (ap answer_in is)
  client_answers c (inputs.Lost number) p k x among is =
      some_none (answer_in p.message) x (answered_none c number None p among) (ap answer_in is)
  client_answers c (inputs.Got e) p k x among is = by e.message refl among
    where
      told : (to : ℕ) (tx : TxId) (v : Outcome) → In p (record { to = to; message = messages.Decision tx v } ∷ [])
          → (f : Envelope) × (inputs.Got e ≡ inputs.Got f) × ((t : TxId) × (f.message ≡ messages.Ask t))
      told to tx v (inl same) = some_none (answer_in p.message) x (ap (λ (q : Posting). answer_in q.message) same)
          (ap answer_in is)
      told to tx v (inr never) = absurd never

      by : (m : Message) → e.message ≡ m → In p (heard decl c e.from e.number m).turn.sends
          → (f : Envelope) × (inputs.Got e ≡ inputs.Got f) × ((t : TxId) × (f.message ≡ messages.Ask t))
      by m = heard_cases decl c e.from e.number
          (λ m move. e.message ≡ m → In p move.turn.sends
          → (f : Envelope) × (inputs.Got e ≡ inputs.Got f) × ((t : TxId) × (f.message ≡ messages.Ask t)))
          (λ m same there. absurd there)
          (λ to answer same there.
          some_none (answer_in p.message) x (answered_none c to (Some answer) p there) (ap answer_in is))
          (λ tx same there. told e.from tx _ there) (λ tx same there. (e, refl, (tx, same))) m
