-- A client's turn that tells a reply asks nobody.
use Rattle.std.proofs.Common.{◌≡◌, ℕ, nat_le, Bool, true, false, cond, List, [], ◌∷◌, inl, inr, length, map, Option}
use Rattle.std.proofs.Common.{Some, None, refl, sym, ap, subst}
use Rattle.std.specs.Prelude.{is_some}
use Rattle.std.specs.List.{AllByRecursion as Every}
use Rattle.qc_decl.specs.declared.declaration.Declaration.{Declaration}
use Rattle.qc_decl.specs.Vocabulary.{append_need_of, most_transaction_operations, read_need_of}
use Rattle.qc_stamp.specs.declared.stamp.TxId.{TxId}
use Rattle.qc_plan.specs.declared.standing.Verdict.{Verdict}
use Rattle.qc_plan.specs.declared.standing.Verdict.TheVariants as verdicts
use Rattle.qc_plan.specs.Vocabulary.{RoundState, note, verdict}
use Rattle.qc_msg.specs.declared.begun.Begun.{Begun}
use Rattle.qc_msg.specs.declared.call.Call.{Call}
use Rattle.qc_msg.specs.declared.message.Answer.{Answer}
use Rattle.qc_msg.specs.declared.message.Message.{Message}
use Rattle.qc_msg.specs.declared.message.Message.TheVariants as messages
use Rattle.qc_msg.specs.declared.message.Outcome.{Outcome}
use Rattle.qc_msg.specs.declared.reply.AbortCause.TheVariants as causes
use Rattle.qc_msg.specs.declared.reply.Reply.TheVariants as replies
use Rattle.qc_msg.specs.declared.step.Command.{Command}
use Rattle.qc_msg.specs.declared.step.Command.TheVariants as commands
use Rattle.qc_msg.specs.declared.step.Input.{Input}
use Rattle.qc_msg.specs.declared.step.Input.TheVariants as inputs
use Rattle.qc_msg.specs.declared.turn.Posting.{Posting}
use Rattle.qc_msg.specs.declared.turn.Turn.{Turn}
use Rattle.qc_msg.specs.Vocabulary.{decisions, quiet, site_called, telling, without_call}
use Rattle.qc_commit.specs.declared.desk.Voting.{Voting}
use Rattle.qc_commit.specs.Conduct as desks
use Rattle.qc_commit.specs.declared.desk.Desk.{Desk}
use Rattle.qc_commit.specs.Vocabulary.{DeskMove}
use Rattle.qc_front.specs.declared.doing.Doing.{Doing}
use Rattle.qc_front.specs.declared.doing.Doing.TheVariants.{Idle, Reading, Appending}
use Rattle.qc_front.specs.declared.front.Front.{Front}
use Rattle.qc_front.specs.declared.transaction.Transaction.{Transaction}
use Rattle.qc_front.specs.Vocabulary.{aborts, answer_of, answered, append_by, appended_with, begins, gives_up}
use Rattle.qc_front.specs.Vocabulary.{is_request, learns, moved, performs, read_by, read_with, reads, round_for}
use Rattle.qc_front.specs.Vocabulary.{standing_of}
use Rattle.qc_front.specs.Conduct as fronts
use Rattle.qc_client.specs.declared.client.Client.{Client}
use Rattle.qc_client.specs.Client as clients
use Rattle.qc_client.specs.Vocabulary.{answered_by, called, client_takes, commits, heard}
use Rattle.laws_turns.proofs.HandMoves.{IsHandMove, prepare-it, vote-it}

-- a message that asks nothing of a site
abbrev pub AsksNothing : Posting → Type 0
AsksNothing p = is_request p.message ≡ false

abbrev pub IsAlone : Turn → Type 0
IsAlone turn = is_some turn.told ≡ true → Every AsksNothing turn.sends

verdicts_ask : (tx : TxId) (o : Outcome) (sites : List ℕ)
    → Every AsksNothing (map (λ site. record { to = site; message = messages.Decision tx o }) sites)
verdicts_ask tx o [] = tt
verdicts_ask tx o (site ∷ sites) = (refl, verdicts_ask tx o sites)

decided : (b : Begun) (o : Outcome) → Every AsksNothing (decisions b o)
decided b o = verdicts_ask b.tx o b.asked

-- the front end

append_alone : (decl : Declaration) (front : Front) (t : Transaction) (object inv event : ℕ) (calls : List Call)
    (r : RoundState) (v : Verdict) → IsAlone (append_by decl front t object inv event calls r v).turn
append_alone decl front t object inv event calls r verdicts.Waiting is = absurd (let never : ⊥ = cc in never)
append_alone decl front t object inv event calls r verdicts.Met is = tt
append_alone decl front t object inv event calls r (verdicts.Closed epoch site) is = tt
append_alone decl front t object inv event calls r (verdicts.Clash tx site) is = tt
append_alone decl front t object inv event calls r (verdicts.Short got need) is = tt

answer_alone : (decl : Declaration) (front : Front) (t : Transaction) (object inv : ℕ) (o : Option ℕ)
    → IsAlone (answered decl front t object inv o).turn
answer_alone decl front t object inv None is = tt
answer_alone decl front t object inv (Some event) is =
    append_alone decl front t object inv event []
    (round_for decl front t (append_need_of decl t.begun.epoch object event))
    (verdict (round_for decl front t (append_need_of decl t.begun.epoch object event))) is

read_alone : (decl : Declaration) (front : Front) (t : Transaction) (object inv : ℕ) (calls : List Call)
    (r : RoundState) (v : Verdict) → IsAlone (read_by decl front t object inv calls r v).turn
read_alone decl front t object inv calls r verdicts.Waiting is = absurd (let never : ⊥ = cc in never)
read_alone decl front t object inv calls r verdicts.Met is =
    answer_alone decl front t object inv (answer_of decl t object inv) is
read_alone decl front t object inv calls r (verdicts.Closed epoch site) is = tt
read_alone decl front t object inv calls r (verdicts.Clash tx site) is = tt
read_alone decl front t object inv calls r (verdicts.Short got need) is = tt

do_alone : (decl : Declaration) (front : Front) (o : Option Transaction) (object inv : ℕ)
    → IsAlone (performs decl front o object inv).turn
do_alone decl front None object inv is = tt
do_alone decl front (Some t) object inv is =
    by t.begun.doomed (nat_le most_transaction_operations (length t.begun.ops)) is
  where
    by : (x y : Bool) → IsAlone (cond x (moved front (telling replies.Doomed))
        (cond y (moved front (telling replies.TooLong))
        (reads decl front t object inv [] (round_for decl front t (read_need_of decl t.begun.epoch object inv))))).turn
    by true y is = tt
    by false true is = tt
    by false false is = read_alone decl front t object inv []
        (round_for decl front t (read_need_of decl t.begun.epoch object inv))
        (verdict (round_for decl front t (read_need_of decl t.begun.epoch object inv))) is

begin_alone : (decl : Declaration) (front : Front) (o : Option Transaction) → IsAlone (begins decl front o).turn
begin_alone decl front None is = tt
begin_alone decl front (Some t) is = tt

abort_alone : (front : Front) (o : Option Transaction) → IsAlone (aborts front o).turn
abort_alone front None is = tt
abort_alone front (Some t) is = decided t.begun _

commit_alone : (front : Front) (o : Option Transaction) → IsAlone (fronts.commits front o).turn
commit_alone front None is = tt
commit_alone front (Some t) is = by t.begun.doomed is
  where
    by : (x : Bool) → IsAlone (cond x (gives_up front t (replies.Aborted causes.Doomed)) (moved front quiet)).turn
    by true is = decided t.begun _
    by false is = absurd (let never : ⊥ = cc in never)

front_alone : (decl : Declaration) (front : Front) (command : Command) → IsAlone (fronts.called decl front command).turn
front_alone decl front commands.Begin is = begin_alone decl front front.transaction is
front_alone decl front (commands.Do object inv) is = do_alone decl front front.transaction object inv is
front_alone decl front commands.Commit is = commit_alone front front.transaction is
front_alone decl front commands.Abort is = abort_alone front front.transaction is
front_alone decl front (commands.Epoch number) is = absurd (let never : ⊥ = cc in never)

reading_alone : (decl : Declaration) (front : Front) (t : Transaction) (object inv : ℕ) (calls : List Call)
    (r : RoundState) (number : ℕ) (answer : Option Answer) (o : Option ℕ)
    → IsAlone (fronts.reading_takes decl front t object inv calls r number answer o).turn
reading_alone decl front t object inv calls r number answer None is = absurd (let never : ⊥ = cc in never)
reading_alone decl front t object inv calls r number answer (Some site) is =
    read_alone decl (learns front answer) (read_with t site object answer) object inv (without_call calls number)
    (note r site (standing_of answer)) (verdict (note r site (standing_of answer))) is

appending_alone : (decl : Declaration) (front : Front) (t : Transaction) (object inv event : ℕ) (calls : List Call)
    (r : RoundState) (number : ℕ) (answer : Option Answer) (o : Option ℕ)
    → IsAlone (fronts.appending_takes decl front t object inv event calls r number answer o).turn
appending_alone decl front t object inv event calls r number answer None is = absurd (let never : ⊥ = cc in never)
appending_alone decl front t object inv event calls r number answer (Some site) is =
    append_alone decl (learns front answer) (appended_with t site answer) object inv event (without_call calls number)
    (note r site (standing_of answer)) (verdict (note r site (standing_of answer))) is

takes_alone : (decl : Declaration) (front : Front) (doing : Doing) (o : Option Transaction) (number : ℕ)
    (answer : Option Answer) → IsAlone (fronts.takes_in decl front doing o number answer).turn
takes_alone decl front doing None number answer is = absurd (let never : ⊥ = cc in never)
takes_alone decl front Idle (Some t) number answer is = absurd (let never : ⊥ = cc in never)
takes_alone decl front (Reading object inv calls r) (Some t) number answer is =
    reading_alone decl front t object inv calls r number answer (site_called calls number) is
takes_alone decl front (Appending object inv event calls r) (Some t) number answer is =
    appending_alone decl front t object inv event calls r number answer (site_called calls number) is

-- the desk
hand_alone : (desk : Desk) (b : Begun) (m : DeskMove) → IsHandMove desk b m → IsAlone m.turn
hand_alone desk b m (inl v) is = absurd (let none : is_some m.turn.told ≡ false = ap is_some v.told in
    let never : ⊥ = cc in never)
hand_alone desk b m (inr (inl r)) is = subst (λ (t : Turn). Every AsksNothing t.sends) (sym r.turn) (decided b _)
hand_alone desk b m (inr (inr a)) is = subst (λ (t : Turn). Every AsksNothing t.sends) (sym a.turn) (decided b _)

-- the client

module _ (decl : Declaration) (c : Client) where
  votes_alone : (o : Option Voting) → c.desk.voting ≡ o → (number : ℕ) (answer : Option Answer)
      → IsAlone (answered_by decl c o number answer).turn
  votes_alone None is number answer = takes_alone decl c.front c.front.doing c.front.transaction number answer
  votes_alone (Some v) is number answer = hand_alone c.desk v.begun (desks.vote c.desk number answer)
      (vote-it c.desk v number answer is)

  commits_alone : (o : Option Transaction) → IsAlone (commits decl c o).turn
  commits_alone None = front_alone decl c.front commands.Commit
  commits_alone (Some t) = by t.begun.doomed
    where
      by : (x : Bool) → IsAlone (cond x (clients.by_front c (fronts.called decl c.front commands.Commit))
          (clients.by_desk c (desks.prepare decl c.desk t.begun c.front.clock.value))).turn
      by true = front_alone decl c.front commands.Commit
      by false = hand_alone c.desk t.begun (desks.prepare decl c.desk t.begun c.front.clock.value)
          (prepare-it decl c.desk t.begun c.front.clock.value)

  called_alone : (command : Command) → IsAlone (called decl c command).turn
  called_alone commands.Begin = front_alone decl c.front commands.Begin
  called_alone (commands.Do object inv) = front_alone decl c.front (commands.Do object inv)
  called_alone commands.Commit = commits_alone c.front.transaction
  called_alone commands.Abort = front_alone decl c.front commands.Abort
  called_alone (commands.Epoch number) = front_alone decl c.front (commands.Epoch number)

  heard_alone : (from number : ℕ) (m : Message) → IsAlone (heard decl c from number m).turn
  heard_alone from number (messages.Request tx epoch life want) is = absurd (let never : ⊥ = cc in never)
  heard_alone from number (messages.Answer to answer) is = votes_alone c.desk.voting refl to (Some answer) is
  heard_alone from number (messages.Decision tx verdict) is = absurd (let never : ⊥ = cc in never)
  heard_alone from number (messages.Inquiry tx) is = absurd (let never : ⊥ = cc in never)
  heard_alone from number (messages.Ask tx) is = absurd (let never : ⊥ = cc in never)
  heard_alone from number (messages.Close epoch) is = absurd (let never : ⊥ = cc in never)
  heard_alone from number (messages.Install start) is = absurd (let never : ⊥ = cc in never)

  pub replies_alone : (g : Input) → IsAlone (client_takes decl c g).turn
  replies_alone (inputs.Called command) = called_alone command
  replies_alone (inputs.Got envelope) = heard_alone envelope.from envelope.number envelope.message
  replies_alone (inputs.Lost number) = votes_alone c.desk.voting refl number None
