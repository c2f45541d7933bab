-- Whatever an answer, a message, a record, a command or a reply is, an account changes in one of a few ways: what holds
-- of each of these holds of what it then is.
use Rattle.std.proofs.Common.{◌≡◌, ◌+◌, ℕ, max, Bool, true, false, cond, [], ◌∷◌, ◌++◌, Option, Some, None, refl}
use Rattle.std.specs.Prelude.{option_and_then}
use Rattle.std.specs.Option.{option_map_or}
use Rattle.qc_stamp.specs.declared.stamp.Stamp.{Stamp}
use Rattle.qc_stamp.specs.declared.stamp.TxId.{TxId}
use Rattle.qc_decl.specs.declared.declaration.Declaration.{Declaration}
use Rattle.qc_msg.specs.declared.message.Answer.{Answer}
use Rattle.qc_msg.specs.declared.message.Answer.TheVariants as answers
use Rattle.qc_msg.specs.declared.message.Message.{Message}
use Rattle.qc_msg.specs.declared.message.Message.TheVariants as messages
use Rattle.qc_msg.specs.declared.message.Want.{Want}
use Rattle.qc_msg.specs.declared.payload.Grant.{Grant}
use Rattle.qc_msg.specs.declared.reply.Half.{Half}
use Rattle.qc_msg.specs.declared.reply.Reply.{Reply}
use Rattle.qc_msg.specs.declared.reply.Reply.TheVariants as replies
use Rattle.qc_msg.specs.declared.step.Command.{Command}
use Rattle.qc_msg.specs.Vocabulary.{Invocation, do_in}
use Rattle.qc_promise.specs.Vocabulary.{Account, ClientRequest, Current, account_heard, account_sent, account_told_in}
use Rattle.qc_promise.specs.Vocabulary.{answer_of, counted, found_absent, granted, is_asked_for, new_current, promised}
use Rattle.qc_promise.specs.Vocabulary.{refused, responded, short_of, told_by, with_absent, with_current, with_response}

-- what counts for a request

pub told_cases : (d : Account) (q : ClientRequest) (P : Option Answer → Account → Type 0)
    → ((answer : Option Answer) → P answer d)
    → ((g : Grant) → P (Some (answers.Granted g)) (granted d q.site g q.want))
    → ((epoch : ℕ) → P (Some (answers.Closed epoch)) (record d { known = max d.known epoch }))
    → ((clock : ℕ) → P (Some (answers.Yes clock)) (promised d clock q.want)) → (answer : Option Answer)
    → P answer (told_by d q answer)
told_cases d q P same grant close promise None = same None
told_cases d q P same grant close promise (Some (answers.Granted g)) = grant g
told_cases d q P same grant close promise (Some (answers.Clash holder inv event)) = same _
told_cases d q P same grant close promise (Some (answers.Closed epoch)) = close epoch
told_cases d q P same grant close promise (Some (answers.Behind epoch)) = same _
told_cases d q P same grant close promise (Some (answers.Restarted life)) = same _
told_cases d q P same grant close promise (Some answers.Stale) = same _
told_cases d q P same grant close promise (Some answers.Fault) = same _
told_cases d q P same grant close promise (Some (answers.Yes clock)) = promise clock
told_cases d q P same grant close promise (Some (answers.Shut snapshot)) = same _
told_cases d q P same grant close promise (Some answers.Installed) = same _
told_cases d q P same grant close promise (Some (answers.Answered verdict)) = same _

-- a message that is taken

pub heard_cases : (d : Account) (P : Message → Account → Type 0) → ((m : Message) → P m d)
    → ((to : ℕ) (answer : Answer) → P (messages.Answer to answer) (counted d to (Some answer))) → (m : Message)
    → P m (account_heard d m)
heard_cases d P same answered (messages.Request tx epoch life want) = same _
heard_cases d P same answered (messages.Answer to answer) = answered to answer
heard_cases d P same answered (messages.Decision tx verdict) = same _
heard_cases d P same answered (messages.Inquiry tx) = same _
heard_cases d P same answered (messages.Ask tx) = same _
heard_cases d P same answered (messages.Close epoch) = same _
heard_cases d P same answered (messages.Install start) = same _

-- a record, and a message that is sent

pub sent_cases : (decl : Declaration) (d : Account) (n to : ℕ) (P : Message → Account → Type 0)
    → ((m : Message) → P m d)
    → ((tx : TxId) (epoch life : ℕ) (want : Want) → is_asked_for decl d to tx epoch life want ≡ true
    → P (messages.Request tx epoch life want)
    (record d
    { requests = d.requests ++ record { number = n; site = to; life = life; want = want; taken = None } ∷ [] }))
    → (m : Message) → P m (account_sent decl d n to m)
sent_cases decl d n to P same asked (messages.Request tx epoch life want) =
    by (is_asked_for decl d to tx epoch life want) refl
  where
    by : (t : Bool) → is_asked_for decl d to tx epoch life want ≡ t → P (messages.Request tx epoch life want)
        (cond t (record d
        { requests = d.requests ++ record { number = n; site = to; life = life; want = want; taken = None } ∷ [] }) d)
    by true is = asked tx epoch life want is
    by false is = same _
sent_cases decl d n to P same asked (messages.Answer request answer) = same _
sent_cases decl d n to P same asked (messages.Decision tx verdict) = same _
sent_cases decl d n to P same asked (messages.Inquiry tx) = same _
sent_cases decl d n to P same asked (messages.Ask tx) = same _
sent_cases decl d n to P same asked (messages.Close epoch) = same _
sent_cases decl d n to P same asked (messages.Install start) = same _

-- what a reply records of the running command

pub responded_cases : (decl : Declaration) (d : Account) (P : Account → Type 0) → P d
    → ((object inv : ℕ)
    → P (with_current d (λ (t : Current). with_response decl t object inv (answer_of decl t object inv))))
    → (command : Option Command) → P (responded decl d command)
responded_cases decl d P same done command = by (option_and_then do_in command)
  where
    by : (o : Option Invocation)
        → P (option_map_or (λ (i : Invocation). with_current d
        (λ (t : Current). with_response decl t i.object i.inv (answer_of decl t i.object i.inv))) o d)
    by None = same
    by (Some i) = done i.object i.inv

pub absent_cases : (d : Account) (P : Account → Type 0) → P d
    → ((object inv : ℕ) → P (with_current d (λ (t : Current). with_absent t object inv)))
    → (command : Option Command) → P (found_absent d command)
absent_cases d P same done command = by (option_and_then do_in command)
  where
    by : (o : Option Invocation)
        → P (option_map_or (λ (i : Invocation). with_current d (λ (t : Current). with_absent t i.object i.inv)) o d)
    by None = same
    by (Some i) = done i.object i.inv

-- a reply

pub reply_cases : (decl : Declaration) (d : Account) (P : Reply → Account → Type 0)
    → ((reply : Reply) → P reply d)
    → ((tx : TxId) → P (replies.Began tx) (record d { count = d.count + 1; current = Some (new_current tx d.known) }))
    → ((stamp : Stamp) → P (replies.Committed stamp) (record d { current = None; clock = stamp.clock }))
    → ((reply : Reply) → P reply (record d { current = None })) → ((reply : Reply) → P reply (refused d))
    → ((reply : Reply) (half : Half) → P reply (short_of d half))
    → ((reply : Reply) → P reply (found_absent d d.command))
    → ((reply : Reply) → P reply (responded decl d d.command)) → (reply : Reply)
    → P reply (account_told_in decl d reply)
reply_cases decl d P same began committed end refuse short absent response replies.Down = same _
reply_cases decl d P same began committed end refuse short absent response (replies.Already tx) = same _
reply_cases decl d P same began committed end refuse short absent response (replies.Began tx) = began tx
reply_cases decl d P same began committed end refuse short absent response replies.NoTransaction = same _
reply_cases decl d P same began committed end refuse short absent response replies.Doomed = same _
reply_cases decl d P same began committed end refuse short absent response replies.TooLong = same _
reply_cases decl d P same began committed end refuse short absent response (replies.Closed epoch site) = refuse _
reply_cases decl d P same began committed end refuse short absent response (replies.Conflict tx site) = refuse _
reply_cases decl d P same began committed end refuse short absent response (replies.Quorum half got need) = short _ half
reply_cases decl d P same began committed end refuse short absent response replies.Absent = absent _
reply_cases decl d P same began committed end refuse short absent response (replies.Response resp) = response _
reply_cases decl d P same began committed end refuse short absent response (replies.Aborted why) = end _
reply_cases decl d P same began committed end refuse short absent response replies.Unknown = end _
reply_cases decl d P same began committed end refuse short absent response (replies.Committed stamp) = committed stamp
reply_cases decl d P same began committed end refuse short absent response replies.Dropped = end _
reply_cases decl d P same began committed end refuse short absent response (replies.Order current) = same _
reply_cases decl d P same began committed end refuse short absent response (replies.InDoubt tx site) = same _
reply_cases decl d P same began committed end refuse short absent response replies.Fault = same _
reply_cases decl d P same began committed end refuse short absent response (replies.Moved closed installed) = same _
