-- What a client does for an input, case by case: what its front end does, or its desk; or it tells who asks how a
-- transaction stands, and changes nothing.
use Rattle.std.proofs.Common.{◌≡◌, ℕ, Bool, true, false, cond, List, [], ◌∷◌, Option, Some, None, refl}
use Rattle.qc_decl.specs.declared.declaration.Declaration.{Declaration}
use Rattle.qc_msg.specs.declared.begun.Begun.{Begun}
use Rattle.qc_msg.specs.declared.message.Answer.{Answer}
use Rattle.qc_msg.specs.declared.message.Answer.TheVariants.{Answered}
use Rattle.qc_msg.specs.declared.message.Message.{Message}
use Rattle.qc_msg.specs.declared.message.Message.TheVariants as messages
use Rattle.qc_msg.specs.declared.step.Command.{Command}
use Rattle.qc_msg.specs.declared.step.Command.TheVariants as commands
use Rattle.qc_msg.specs.declared.step.Input.{Input}
use Rattle.qc_msg.specs.declared.step.Input.TheVariants as inputs
use Rattle.qc_msg.specs.declared.turn.Posting.{Posting}
use Rattle.qc_msg.specs.Vocabulary.{sending}
use Rattle.qc_commit.specs.declared.desk.Voting.{Voting}
use Rattle.qc_commit.specs.Conduct as desks
use Rattle.qc_commit.specs.Vocabulary.{DeskMove}
use Rattle.qc_front.specs.declared.transaction.Transaction.{Transaction}
use Rattle.qc_front.specs.Conduct as fronts
use Rattle.qc_front.specs.Vocabulary.{FrontMove}
use Rattle.qc_client.specs.declared.client.Client.{Client}
use Rattle.qc_client.specs.Vocabulary.{ClientMove, answered, answered_by, by_desk, by_front, called, client_takes}
use Rattle.qc_client.specs.Vocabulary.{commits, heard, moved, outcome_of}
use Rattle.laws_turns.proofs.ClientCases.{called_cases, heard_cases}
use Rattle.laws_turns.proofs.FrontGoesOn.{FrontKind}
use Rattle.laws_turns.proofs.FrontKinds.{called-kind, takes-kind}
use Rattle.laws_turns.proofs.HandMoves.{IsHandMove, prepare-it, vote-it}
use Rattle.laws_turns.proofs.TurnsGoOn.{NoInquiries}

module _ (decl : Declaration) (c : Client) (P : ClientMove → Type 0)
    (fronts_move : (m : FrontMove) → FrontKind c.front m → P (by_front c m))
    (desks_move : (b : Begun) (m : DeskMove) → IsHandMove c.desk b m → P (by_desk c m))
    (stays : (ps : List Posting) → NoInquiries ps → P (moved c (sending ps))) where
  fronted : (command : Command) → P (by_front c (fronts.called decl c.front command))
  fronted command = fronts_move (fronts.called decl c.front command) (called-kind decl c.front command)

  committing : (o : Option Transaction) → P (commits decl c o)
  committing None = fronted commands.Commit
  committing (Some t) = by t.begun.doomed
    where
      by : (dead : Bool) → P (cond dead (by_front c (fronts.called decl c.front commands.Commit))
          (by_desk c (desks.prepare decl c.desk t.begun c.front.clock.value)))
      by true = fronted commands.Commit
      by false = desks_move t.begun (desks.prepare decl c.desk t.begun c.front.clock.value)
          (prepare-it decl c.desk t.begun c.front.clock.value)

  calls : (command : Command) → P (called decl c command)
  calls command =
      called_cases decl c (λ command m. P m) fronted (committing c.front.transaction) command

  comes : (number : ℕ) (answer : Option Answer) → P (answered decl c number answer)
  comes number answer = by c.desk.voting refl
    where
      by : (o : Option Voting) → c.desk.voting ≡ o → P (answered_by decl c o number answer)
      by None is = fronts_move (fronts.takes decl c.front number answer) (takes-kind decl c.front number answer)
      by (Some v) is = desks_move v.begun (desks.vote c.desk number answer) (vote-it c.desk v number answer is)

  hears : (from number : ℕ) (message : Message) → P (heard decl c from number message)
  hears from number message =
      heard_cases decl c from number (λ message m. P m) (λ message none. stays [] tt)
      (λ to answer. comes to (Some answer))
      (λ tx. stays (record { to = from; message = messages.Decision tx (outcome_of c tx) } ∷ []) (tt, tt))
      (λ tx. stays (record { to = from; message = messages.Answer number (Answered (outcome_of c tx)) } ∷ []) (tt, tt))
      message

  pub takes_cases : (g : Input) → P (client_takes decl c g)
  takes_cases (inputs.Called command) = calls command
  takes_cases (inputs.Got e) = hears e.from e.number e.message
  takes_cases (inputs.Lost number) = comes number None
