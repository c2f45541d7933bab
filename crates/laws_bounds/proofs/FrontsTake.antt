-- For each command and answer a front end in form stays so, and sends such messages.
use Rattle.std.proofs.Common.{◌≡◌, ℕ, ◌-◌, ◌^◌, ◌<◌, Option, Some, None, sym, subst}
use Rattle.qc_list.proofs.Members.{every-from_In}
use Rattle.qc_decl.specs.declared.declaration.Declaration.{Declaration}
use Rattle.qc_front.specs.declared.doing.Doing.{Doing}
use Rattle.qc_front.specs.declared.doing.Doing.TheVariants.{Idle, Reading, Appending}
use Rattle.qc_front.specs.declared.front.Front.{Front}
use Rattle.qc_front.specs.declared.transaction.Transaction.{Transaction}
use Rattle.qc_front.specs.Vocabulary.{AreSent, FrontMove, IsFor, IsSent, appended_with, appending_takes, called, learns}
use Rattle.qc_front.specs.Vocabulary.{read_with, reading_takes, resp_of, standing_of, takes, takes_in}
use Rattle.qc_front.proofs.Sending.{called_sent, takes_sent}
use Rattle.qc_msg.specs.declared.message.Answer.{Answer}
use Rattle.qc_msg.specs.declared.message.Message.{Message}
use Rattle.qc_msg.specs.declared.message.Outcome.{Outcome}
use Rattle.qc_msg.specs.declared.message.Want.{Want}
use Rattle.qc_msg.specs.declared.step.Command.{Command}
use Rattle.qc_msg.specs.declared.turn.Posting.{Posting}
use Rattle.qc_msg.specs.Vocabulary.{site_called, without_call, closed_in, granted_in}
use Rattle.qc_plan.specs.Vocabulary.{note, verdict}
use Rattle.laws_bounds.proofs.Forms.{CameInForm, CommandInForm, MessageInForm, OrdinalsInForm, SendsInForm}
use Rattle.laws_bounds.proofs.Forms.{VerdictInForm, WantInForm}
use Rattle.laws_bounds.proofs.TransactionsInForm.{TransactionInForm, appended_form, log_form, owns_form, read_form}
use Rattle.laws_bounds.proofs.FrontsInForm.{AnswersInForm, DoingInForm, FrontInForm, OptionInForm, append_goes}
use Rattle.laws_bounds.proofs.FrontsInForm.{called_goes, read_goes, room}
use Rattle.std.specs.Prelude.{option_and_then}
use Rattle.laws_bounds.proofs.FrontCases.{sent_cases}
use Rattle.laws_bounds.proofs.Options.{map_each}

module _ (decl : Declaration) (client : ℕ) where
  -- what is taken for a request

  learned_form : (front : Front) (answer : Option Answer) → FrontInForm decl client front
      → FrontInForm decl client (learns front answer)
  learned_form front answer w =
      map_each (FrontInForm decl client) _ _ (option_and_then granted_in answer)
      (map_each (FrontInForm decl client) _ _ (option_and_then closed_in answer) w
      (λ epoch. record { client_is = w.client_is; life = w.life; begun = w.begun; doing = w.doing }))
      (λ g. record { client_is = w.client_is; life = w.life; begun = w.begun; doing = w.doing })

  takes_goes : (form : AnswersInForm decl) (front : Front) (doing : Doing) (t : Option Transaction) (number : ℕ)
      (answer : Option Answer)
      → FrontInForm decl client front → OptionInForm client doing t → DoingInForm decl client doing → CameInForm answer
      → FrontInForm decl client (takes_in decl front doing t number answer).front
  takes_goes form front doing None number answer w its does here = w
  takes_goes form front Idle (Some t) number answer w its does here = w
  takes_goes form front (Reading object inv calls round) (Some t) number answer w its does here =
      by (site_called calls number)
    where
      by : (o : Option ℕ)
          → FrontInForm decl client (reading_takes decl front t object inv calls round number answer o).front
      by None = w
      by (Some site) =
          read_goes decl client form (learns front answer) (learned_form front answer w)
          (read_with t site object answer) object inv (without_call calls number) (note round site (standing_of answer))
          (verdict (note round site (standing_of answer)))
          (read_form client 15 t site object answer its here) does
  takes_goes form front (Appending object inv event calls round) (Some t) number answer w its does here =
      by (site_called calls number)
    where
      by : (o : Option ℕ)
          → FrontInForm decl client
          (appending_takes decl front t object inv event calls round number answer o).front
      by None = w
      by (Some site) =
          append_goes decl client form (learns front answer) (learned_form front answer w)
          (appended_with t site answer) object inv event (without_call calls number)
          (note round site (standing_of answer)) (verdict (note round site (standing_of answer)))
          (appended_form client 15 t site answer its) does.0 does.1

  -- what is sent

  for_form : (t : Transaction) (doing : Doing) (site : ℕ) (want : Want)
      → TransactionInForm client (room doing) t → DoingInForm decl client doing → IsFor decl t doing site want
      → WantInForm want
  for_form t Idle site want w does never = absurd never
  for_form t (Reading object inv calls round) site want w does is = subst WantInForm (sym is) does
  for_form t (Appending object inv event calls round) site want w does is =
      subst WantInForm (sym is)
      (log_form client 15 t object w, owns_form client decl t object event (resp_of decl object event) w does.1)

  sent_form : (before : Front) (move : FrontMove) → FrontInForm decl client move.front → AreSent decl before move
      → SendsInForm move.turn.sends
  sent_form before move w sent =
      every-from_In (λ (p : Posting). MessageInForm p.message) move.turn.sends
      (λ p among. one p.to p.message (sent p among))
    where
      of : (t : Transaction) → move.front.transaction ≡ Some t → TransactionInForm client (room move.front.doing) t
      of t begun = subst (OptionInForm client move.front.doing) begun w.begun

      one : (to : ℕ) (message : Message) → IsSent decl before move.front to message → MessageInForm message
      one to =
          sent_cases decl before move.front to MessageInForm
          (λ tx epoch life want is. (
            subst OrdinalsInForm (sym is.tx_is) (of is.t is.begun).begun.ordinals,
            for_form is.t move.front.doing to want (of is.t is.begun) w.doing is.wants,
          ))
          (λ tx verdict is. subst (λ (v : Outcome). VerdictInForm tx v) (sym is.aborted) tt)

  pub record FrontMoveInForm (m : FrontMove) : Type 0 where
    pub front : FrontInForm decl client m.front
    pub sends : SendsInForm m.turn.sends

  pub called_form : (form : AnswersInForm decl) (front : Front) (command : Command) → FrontInForm decl client front
      → front.count < 2 ^ 32 - 1 → CommandInForm command → FrontMoveInForm (called decl front command)
  called_form form front command w low here =
      let next : FrontInForm decl client (called decl front command).front =
      called_goes decl client form front w low command here in
      record {
        front = next;
        sends = sent_form front (called decl front command) next (called_sent decl front command);
      }

  pub takes_form : (form : AnswersInForm decl) (front : Front) (number : ℕ) (answer : Option Answer)
      → FrontInForm decl client front → CameInForm answer → FrontMoveInForm (takes decl front number answer)
  takes_form form front number answer w here =
      let next : FrontInForm decl client (takes decl front number answer).front =
      takes_goes form front front.doing front.transaction number answer w w.begun w.doing here in
      record {
        front = next;
        sends = sent_form front (takes decl front number answer) next (takes_sent decl front number answer);
      }
