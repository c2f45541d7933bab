-- What a front end sends: requests of the running `do`, and verdicts of the transaction that it gives up.
use Rattle.std.proofs.Common.{◌≡◌, ℕ, ◌≤◌, nat_le, Bool, true, false, cond, ◌⊎◌, inl, inr, List, [], ◌∷◌, length, map}
use Rattle.std.proofs.Common.{Option, Some, None, refl, sym, ap, ◌∙◌, subst}
use Rattle.qc_list.specs.Vocabulary.{In}
use Rattle.qc_decl.specs.declared.declaration.Declaration.{Declaration}
use Rattle.qc_decl.specs.Vocabulary.{append_need_of, most_transaction_operations, read_need_of}
use Rattle.qc_msg.specs.declared.begun.Begun.{Begun}
use Rattle.qc_msg.specs.declared.call.Call.{Call}
use Rattle.qc_msg.specs.declared.message.Answer.{Answer}
use Rattle.qc_msg.specs.declared.message.Message.TheVariants as messages
use Rattle.qc_msg.specs.declared.message.Outcome.TheVariants.{Aborted}
use Rattle.qc_msg.specs.declared.message.Want.{Want}
use Rattle.qc_msg.specs.declared.reply.Reply.TheVariants as replies
use Rattle.qc_msg.specs.declared.reply.AbortCause.TheVariants as causes
use Rattle.qc_msg.specs.declared.step.Command.{Command}
use Rattle.qc_msg.specs.declared.step.Command.TheVariants as commands
use Rattle.qc_msg.specs.declared.turn.Posting.{Posting}
use Rattle.qc_msg.specs.Vocabulary.{quiet, site_called, telling, without_call}
use Rattle.qc_plan.specs.declared.standing.Verdict.{Verdict}
use Rattle.qc_plan.specs.declared.standing.Verdict.TheVariants as verdicts
use Rattle.qc_plan.specs.Vocabulary.{RoundState, note, verdict, wanted}
use Rattle.qc_front.specs.declared.doing.Doing.{Doing}
use Rattle.qc_front.specs.declared.doing.Doing.TheVariants.{Idle, Reading, Appending}
use Rattle.qc_front.specs.declared.front.Front.{Front}
use Rattle.qc_front.specs.declared.transaction.Transaction.{Transaction}
use Rattle.qc_front.specs.Vocabulary.{AreSent, FrontMove, IsFor, IsRequestOf, IsSent, aborts, answer_of, answered}
use Rattle.qc_front.specs.Vocabulary.{append_by, append_want, appended_with, appending_takes, appends, begins, called}
use Rattle.qc_front.specs.Vocabulary.{commits, gives_up, goes_on, learns, moved, performs, read_by, read_want}
use Rattle.qc_front.specs.Vocabulary.{read_with, reading_takes, reads, request_of, round_for, standing_of, takes}
use Rattle.qc_front.specs.Vocabulary.{takes_in, with_asked}

module _ (decl : Declaration) (before : Front) where
  none_sent : (after : Front) (p : Posting) → In p [] → IsSent decl before after p.to p.message
  none_sent after p among = absurd among

  -- requests of the running `do`
  requests_sent : (after : Front) (t : Transaction) (want : ℕ → Want) (sites : List ℕ) → after.transaction ≡ Some t
      → ((site : ℕ) → IsFor decl t after.doing site (want site))
      → (p : Posting) → In p (map (request_of t.begun want) sites) → IsSent decl before after p.to p.message
  requests_sent after t want [] begun wants p among = absurd among
  requests_sent after t want (site ∷ sites) begun wants p (inl same) =
      subst (λ (q : Posting). IsSent decl before after q.to q.message) (sym same)
      (record { t = t; begun = begun; tx_is = refl; epoch_is = refl; life_is = refl; wants = wants site })
  requests_sent after t want (site ∷ sites) begun wants p (inr later) =
      requests_sent after t want sites begun wants p later

  append_by_sent : (front : Front) (t : Transaction) (object inv event : ℕ) (calls : List Call) (r : RoundState)
      (v : Verdict) → AreSent decl before (append_by decl front t object inv event calls r v)
  append_by_sent front t object inv event calls r verdicts.Waiting =
      requests_sent (goes_on front t (Appending object inv event calls) (append_want decl t object event) r).front
      (with_asked t (wanted r)) (append_want decl t object event) (wanted r) refl (λ site. refl)
  append_by_sent front t object inv event calls r verdicts.Met = none_sent _
  append_by_sent front t object inv event calls r (verdicts.Closed epoch site) = none_sent _
  append_by_sent front t object inv event calls r (verdicts.Clash tx site) = none_sent _
  append_by_sent front t object inv event calls r (verdicts.Short got need) = none_sent _

  answered_sent : (front : Front) (t : Transaction) (object inv : ℕ) (event : Option ℕ)
      → AreSent decl before (answered decl front t object inv event)
  answered_sent front t object inv None = none_sent _
  answered_sent front t object inv (Some event) =
      append_by_sent front t object inv event []
      (round_for decl front t (append_need_of decl t.begun.epoch object event))
      (verdict (round_for decl front t (append_need_of decl t.begun.epoch object event)))

  read_by_sent : (front : Front) (t : Transaction) (object inv : ℕ) (calls : List Call) (r : RoundState) (v : Verdict)
      → AreSent decl before (read_by decl front t object inv calls r v)
  read_by_sent front t object inv calls r verdicts.Waiting =
      requests_sent (goes_on front t (Reading object inv calls) (read_want object inv) r).front
      (with_asked t (wanted r)) (read_want object inv) (wanted r) refl (λ site. refl)
  read_by_sent front t object inv calls r verdicts.Met = answered_sent front t object inv (answer_of decl t object inv)
  read_by_sent front t object inv calls r (verdicts.Closed epoch site) = none_sent _
  read_by_sent front t object inv calls r (verdicts.Clash tx site) = none_sent _
  read_by_sent front t object inv calls r (verdicts.Short got need) = none_sent _

  performs_sent : (front : Front) (t : Option Transaction) (object inv : ℕ)
      → AreSent decl before (performs decl front t object inv)
  performs_sent front None object inv = none_sent _
  performs_sent front (Some t) object inv = by t.begun.doomed (nat_le most_transaction_operations (length t.begun.ops))
    where
      by : (doomed long : Bool) → AreSent decl before
          (cond doomed (moved front (telling replies.Doomed))
          (cond long (moved front (telling replies.TooLong))
          (reads decl front t object inv [] (round_for decl front t (read_need_of decl t.begun.epoch object inv)))))
      by true long = none_sent _
      by false true = none_sent _
      by false false = read_by_sent front t object inv []
          (round_for decl front t (read_need_of decl t.begun.epoch object inv))
          (verdict (round_for decl front t (read_need_of decl t.begun.epoch object inv)))

  -- verdicts of the transaction that is given up
  verdicts_sent : (after : Front) (t : Transaction) (sites : List ℕ) → before.transaction ≡ Some t
      → ((site : ℕ) → In site sites → In site t.begun.asked)
      → (p : Posting) → In p (map (λ (site : ℕ). record { to = site; message = messages.Decision t.begun.tx Aborted })
      sites) → IsSent decl before after p.to p.message
  verdicts_sent after t [] begun asked p among = absurd among
  verdicts_sent after t (site ∷ sites) begun asked p (inl same) =
      subst (λ (q : Posting). IsSent decl before after q.to q.message) (sym same)
      (record { t = t; begun = begun; tx_is = refl; aborted = refl; asked = asked site (inl refl) })
  verdicts_sent after t (site ∷ sites) begun asked p (inr later) =
      verdicts_sent after t sites begun (λ k k_in. asked k (inr k_in)) p later

  begins_sent : (front : Front) (t : Option Transaction) → AreSent decl before (begins decl front t)
  begins_sent front (Some t) = none_sent _
  begins_sent front None = none_sent _

  commits_sent : (front : Front) (t : Option Transaction) → before.transaction ≡ t
      → AreSent decl before (commits front t)
  commits_sent front None is = none_sent _
  commits_sent front (Some t) is = by t.begun.doomed
    where
      by : (doomed : Bool) → AreSent decl before
          (cond doomed (gives_up front t (replies.Aborted causes.Doomed)) (moved front quiet))
      by true = verdicts_sent _ t t.begun.asked is (λ site among. among)
      by false = none_sent _

  aborts_sent : (front : Front) (t : Option Transaction) → before.transaction ≡ t → AreSent decl before (aborts front t)
  aborts_sent front None is = none_sent _
  aborts_sent front (Some t) is = verdicts_sent _ t t.begun.asked is (λ site among. among)

pub called_sent : (decl : Declaration) (front : Front) (command : Command)
    → AreSent decl front (called decl front command)
called_sent decl front commands.Begin = begins_sent decl front front front.transaction
called_sent decl front (commands.Do object inv) = performs_sent decl front front front.transaction object inv
called_sent decl front commands.Commit = commits_sent decl front front front.transaction refl
called_sent decl front commands.Abort = aborts_sent decl front front front.transaction refl
called_sent decl front (commands.Epoch number) = none_sent decl front front

takes_in_sent : (decl : Declaration) (front : Front) (doing : Doing) (t : Option Transaction) (number : ℕ)
    (answer : Option Answer) → AreSent decl front (takes_in decl front doing t number answer)
takes_in_sent decl front doing None number answer = none_sent decl front front
takes_in_sent decl front Idle (Some t) number answer = none_sent decl front front
takes_in_sent decl front (Reading object inv calls round) (Some t) number answer = by (site_called calls number)
  where
    by : (o : Option ℕ) → AreSent decl front (reading_takes decl front t object inv calls round number answer o)
    by None = none_sent decl front front
    by (Some site) = read_by_sent decl front (learns front answer) (read_with t site object answer) object inv
        (without_call calls number) (note round site (standing_of answer))
        (verdict (note round site (standing_of answer)))
takes_in_sent decl front (Appending object inv event calls round) (Some t) number answer = by (site_called calls number)
  where
    by : (o : Option ℕ) → AreSent decl front (appending_takes decl front t object inv event calls round number answer o)
    by None = none_sent decl front front
    by (Some site) = append_by_sent decl front (learns front answer) (appended_with t site answer) object inv event
        (without_call calls number) (note round site (standing_of answer))
        (verdict (note round site (standing_of answer)))

pub takes_sent : (decl : Declaration) (front : Front) (number : ℕ) (answer : Option Answer)
    → AreSent decl front (takes decl front number answer)
takes_sent decl front number answer = takes_in_sent decl front front.doing front.transaction number answer
