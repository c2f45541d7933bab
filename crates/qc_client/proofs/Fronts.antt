-- What a move of a front end leaves: its numbers, the name of its transaction; and what it sends.
use Rattle.std.proofs.Common.{[], ◌≡◌, ℕ, Bool, true, false, cond, List, map, length, Option, Some, None, inr, refl}
use Rattle.std.proofs.Common.{sym, ap, ◌∙◌, arith}
use Rattle.std.specs.Prelude.{nat_le}
use Rattle.qc_decl.specs.declared.declaration.Declaration.{Declaration}
use Rattle.qc_decl.specs.Vocabulary.{append_need_of, most_transaction_operations, read_need_of}
use Rattle.qc_plan.specs.Vocabulary.{RoundState, asking_all, note, verdict, wanted}
use Rattle.qc_plan.specs.declared.standing.Verdict.{Verdict}
use Rattle.qc_plan.specs.declared.standing.Verdict.TheVariants as verdicts
use Rattle.qc_stamp.specs.declared.stamp.TxId.{TxId}
use Rattle.qc_msg.specs.declared.call.Call.{Call}
use Rattle.qc_msg.specs.declared.message.Answer.{Answer}
use Rattle.qc_msg.specs.declared.message.Want.TheVariants.{Read, Append}
use Rattle.qc_msg.specs.declared.reply.Half.TheVariants as halves
use Rattle.qc_msg.specs.declared.reply.AbortCause.TheVariants as causes
use Rattle.qc_msg.specs.declared.reply.Reply.TheVariants as replies
use Rattle.qc_msg.specs.declared.step.Command.{Command}
use Rattle.qc_msg.specs.declared.step.Command.TheVariants as commands
use Rattle.qc_msg.specs.Vocabulary.{quiet, sending, site_called, telling, without_call}
use Rattle.qc_front.specs.declared.doing.Doing.{Doing}
use Rattle.qc_front.specs.declared.doing.Doing.TheVariants.{Idle, Reading, Appending}
use Rattle.qc_front.specs.declared.front.Front.{Front}
use Rattle.qc_front.specs.declared.transaction.Transaction.{Transaction}
use Rattle.qc_front.specs.Vocabulary.{aborts, answer_of, answered, append_by, append_want, appended_with}
use Rattle.qc_front.specs.Vocabulary.{appending_takes, begins, called, commits, doomed, gives_up, learns, moved, op_of}
use Rattle.qc_front.specs.Vocabulary.{performs, read_by, read_want, read_with, reading_takes, reads, request_of}
use Rattle.qc_front.specs.Vocabulary.{resp_of, round_for, standing_of, takes, takes_in, turned, with_asked, with_event}
use Rattle.qc_front.specs.Vocabulary.{with_op}
use Rattle.qc_client.specs.Vocabulary.{name_of}
use Rattle.qc_client.proofs.FrontSends.{IsFrontMove, IsSame, itself, stands, goes, gives, asked, read-name}
use Rattle.qc_client.proofs.FrontSends.{appended-name, event-name, learned}

-- rounds

append-goes : (decl : Declaration) (front next : Front) (t : Transaction) (object inv event : ℕ) (calls : List Call)
    (round : RoundState) (v : Verdict) → IsSame front next
    → name_of front.transaction ≡ Some t.begun.tx
    → IsFrontMove front (append_by decl next t object inv event calls round v)
append-goes decl front next t object inv event calls round verdicts.Waiting same name =
    goes front next (with_asked t (wanted round)) (Appending object inv event calls (asking_all round (wanted round)))
    (sending (map (request_of t.begun (append_want decl t object event)) (wanted round))) same name
    (asked front
    (turned next (Some (with_asked t (wanted round)))
    (Appending object inv event calls (asking_all round (wanted round)))) t.begun
    (append_want decl t object event) (λ site. tt) (wanted round))
append-goes decl front next t object inv event calls round verdicts.Met same name =
    goes front next (with_event t object inv event (resp_of decl object event)) Idle
    (telling (replies.Response (resp_of decl object event))) same
    (name ∙ ap (λ (tx : TxId). Some tx) (sym (event-name t object inv event (resp_of decl object event)))) tt
append-goes decl front next t object inv event calls round (verdicts.Closed epoch site) same name =
    goes front next (doomed t) Idle (telling (replies.Closed epoch site)) same name tt
append-goes decl front next t object inv event calls round (verdicts.Clash tx site) same name =
    goes front next (doomed t) Idle (telling (replies.Conflict tx site)) same name tt
append-goes decl front next t object inv event calls round (verdicts.Short got need) same name =
    goes front next (doomed t) Idle (telling (replies.Quorum halves.Append got need)) same name tt

answered-goes : (decl : Declaration) (front next : Front) (t : Transaction) (object inv : ℕ) (o : Option ℕ)
    → IsSame front next → name_of front.transaction ≡ Some t.begun.tx
    → IsFrontMove front (answered decl next t object inv o)
answered-goes decl front next t object inv None same name =
    goes front next (with_op t (op_of object inv None)) Idle (telling replies.Absent) same name tt
answered-goes decl front next t object inv (Some event) same name =
    append-goes decl front next t object inv event []
    (round_for decl next t (append_need_of decl t.begun.epoch object event))
    (verdict (round_for decl next t (append_need_of decl t.begun.epoch object event))) same name

read-goes : (decl : Declaration) (front next : Front) (t : Transaction) (object inv : ℕ) (calls : List Call)
    (round : RoundState) (v : Verdict) → IsSame front next
    → name_of front.transaction ≡ Some t.begun.tx → IsFrontMove front (read_by decl next t object inv calls round v)
read-goes decl front next t object inv calls round verdicts.Waiting same name =
    goes front next (with_asked t (wanted round)) (Reading object inv calls (asking_all round (wanted round)))
    (sending (map (request_of t.begun (read_want object inv)) (wanted round))) same name
    (asked front
    (turned next (Some (with_asked t (wanted round))) (Reading object inv calls (asking_all round (wanted round))))
    t.begun (read_want object inv) (λ site. tt) (wanted round))
read-goes decl front next t object inv calls round verdicts.Met same name =
    answered-goes decl front next t object inv (answer_of decl t object inv) same name
read-goes decl front next t object inv calls round (verdicts.Closed epoch site) same name =
    goes front next t Idle (telling (replies.Closed epoch site)) same name tt
read-goes decl front next t object inv calls round (verdicts.Clash tx site) same name =
    goes front next t Idle (telling (replies.Conflict tx site)) same name tt
read-goes decl front next t object inv calls round (verdicts.Short got need) same name =
    goes front next t Idle (telling (replies.Quorum halves.Read got need)) same name tt

-- a command

performs-goes : (decl : Declaration) (front : Front) (o : Option Transaction) (object inv : ℕ) → front.transaction ≡ o
    → IsFrontMove front (performs decl front o object inv)
performs-goes decl front None object inv is = stands front (telling replies.NoTransaction) refl
performs-goes decl front (Some t) object inv is =
    by t.begun.doomed (nat_le most_transaction_operations (length t.begun.ops)) where
      round : RoundState
      round = round_for decl front t (read_need_of decl t.begun.epoch object inv)

      by : (dead long : Bool)
          → IsFrontMove front
          (cond dead (moved front (telling replies.Doomed))
          (cond long (moved front (telling replies.TooLong)) (reads decl front t object inv [] round)))
      by true long = stands front (telling replies.Doomed) refl
      by false true = stands front (telling replies.TooLong) refl
      by false false = read-goes decl front front t object inv [] round (verdict round) (itself front) (ap name_of is)

begins-goes : (decl : Declaration) (front : Front) (o : Option Transaction) → IsFrontMove front (begins decl front o)
begins-goes decl front (Some t) = stands front (telling (replies.Already t.begun.tx)) refl
begins-goes decl front None = record {
  client = refl;
  life = refl;
  count = omega arith;
  named = inr (inr (refl, refl));
  sends = tt;
}

commits-goes : (front : Front) (o : Option Transaction) → front.transaction ≡ o → IsFrontMove front (commits front o)
commits-goes front None is = stands front (telling replies.NoTransaction) refl
commits-goes front (Some t) is = by t.begun.doomed where
  by : (dead : Bool)
      → IsFrontMove front (cond dead (gives_up front t (replies.Aborted causes.Doomed)) (moved front quiet))
  by true = gives front front t (replies.Aborted causes.Doomed) (itself front) (ap name_of is)
  by false = stands front quiet refl

aborts-goes : (front : Front) (o : Option Transaction) → front.transaction ≡ o → IsFrontMove front (aborts front o)
aborts-goes front None is = stands front (telling replies.NoTransaction) refl
aborts-goes front (Some t) is = gives front front t replies.Dropped (itself front) (ap name_of is)

pub called-goes : (decl : Declaration) (front : Front) (command : Command)
    → IsFrontMove front (called decl front command)
called-goes decl front commands.Begin = begins-goes decl front front.transaction
called-goes decl front (commands.Do object inv) = performs-goes decl front front.transaction object inv refl
called-goes decl front commands.Commit = commits-goes front front.transaction refl
called-goes decl front commands.Abort = aborts-goes front front.transaction refl
called-goes decl front (commands.Epoch number) = stands front quiet refl

-- an answer, or that a request is lost

pub takes-goes : (decl : Declaration) (front : Front) (number : ℕ) (answer : Option Answer)
    → IsFrontMove front (takes decl front number answer)
takes-goes decl front number answer = by front.doing front.transaction refl where
  reading : (t : Transaction) → front.transaction ≡ Some t
      → (object inv : ℕ) (calls : List Call) (round : RoundState) (o : Option ℕ)
      → IsFrontMove front (reading_takes decl front t object inv calls round number answer o)
  reading t is object inv calls round None = stands front quiet refl
  reading t is object inv calls round (Some site) =
      read-goes decl front (learns front answer) (read_with t site object answer) object inv (without_call calls number)
      (note round site (standing_of answer)) (verdict (note round site (standing_of answer))) (learned front answer)
      (ap name_of is ∙ ap (λ (tx : TxId). Some tx) (sym (read-name t site object answer)))

  appending : (t : Transaction) → front.transaction ≡ Some t
      → (object inv event : ℕ) (calls : List Call) (round : RoundState) (o : Option ℕ)
      → IsFrontMove front (appending_takes decl front t object inv event calls round number answer o)
  appending t is object inv event calls round None = stands front quiet refl
  appending t is object inv event calls round (Some site) =
      append-goes decl front (learns front answer) (appended_with t site answer) object inv event
      (without_call calls number) (note round site (standing_of answer))
      (verdict (note round site (standing_of answer))) (learned front answer)
      (ap name_of is ∙ ap (λ (tx : TxId). Some tx) (sym (appended-name t site answer)))

  by : (doing : Doing) (o : Option Transaction) → front.transaction ≡ o
      → IsFrontMove front (takes_in decl front doing o number answer)
  by Idle None is = stands front quiet refl
  by (Reading object inv calls round) None is = stands front quiet refl
  by (Appending object inv event calls round) None is = stands front quiet refl
  by Idle (Some t) is = stands front quiet refl
  by (Reading object inv calls round) (Some t) is = reading t is object inv calls round (site_called calls number)
  by (Appending object inv event calls round) (Some t) is =
      appending t is object inv event calls round (site_called calls number)
