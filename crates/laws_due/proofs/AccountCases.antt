-- However an account changes with a deed, it changes in one of a few ways: what each of these has, it has.
use Rattle.std.proofs.Common.{◌≡◌, ℕ, ◌+◌, max, Bool, true, false, cond, [], ◌∷◌, ◌++◌, Option, Some, None, refl}
use Rattle.std.specs.Prelude.{is_some, option_and_then}
use Rattle.std.specs.Option.{option_map_or}
use Rattle.qc_decl.specs.declared.declaration.Declaration.{Declaration}
use Rattle.qc_entry.specs.declared.record.Commit.{Commit}
use Rattle.qc_msg.specs.declared.message.Answer.{Answer}
use Rattle.qc_msg.specs.declared.message.Message.{Message}
use Rattle.qc_msg.specs.declared.message.Message.TheVariants as messages
use Rattle.qc_msg.specs.declared.message.Want.{Want}
use Rattle.qc_msg.specs.declared.message.Want.TheVariants.{Read, Append, Prepare}
use Rattle.qc_msg.specs.declared.payload.Grant.{Grant}
use Rattle.qc_msg.specs.declared.record.Record.{Record}
use Rattle.qc_msg.specs.declared.reply.Half.{Half}
use Rattle.qc_msg.specs.declared.reply.Half.TheVariants as halves
use Rattle.qc_msg.specs.declared.reply.Reply.{Reply}
use Rattle.qc_msg.specs.Vocabulary.{Answered, Decided, Invocation, Requested, began_in, closed_in, commit_of}
use Rattle.qc_msg.specs.Vocabulary.{committed_in, do_in, granted_in, is_end, is_life, is_refused, promised_in}
use Rattle.qc_msg.specs.Vocabulary.{response_in, short_in}
use Rattle.qc_promise.specs.Vocabulary.{Account, ClientRequest, Current, account_sent, account_told_in, account_written}
use Rattle.qc_promise.specs.Vocabulary.{answer_of, found_absent, granted, is_asked_for, promised, refused, responded}
use Rattle.qc_promise.specs.Vocabulary.{short_of, told_by}
use Rattle.qc_promise.specs.Accounting as accounting
use Rattle.qc_stamp.specs.declared.stamp.Stamp.{Stamp}
use Rattle.qc_stamp.specs.declared.stamp.TxId.{TxId}
use Rattle.laws_turns.proofs.MessageCases.{message_cases}
use Rattle.laws_turns.proofs.ReadingCases.{mapped}

-- what counts for a request: its clock, a closed epoch, and what is shown to its transaction, whose epoch stays

pub told_cases : (d : Account) (q : ClientRequest) (answer : Option Answer) (P : Account → Type 0) → P d
    → ((clock : ℕ) → P (record d { clock = clock }))
    → ((clock : ℕ) (change : Current → Current) → ((t : Current) → (change t).epoch ≡ t.epoch)
    → P (accounting.with_current (record d { clock = clock }) change))
    → ((epoch : ℕ) → option_and_then closed_in answer ≡ Some epoch → P (record d { known = max d.known epoch }))
    → P (told_by d q answer)
told_cases d q answer P same clocked changed closed =
    mapped P (λ (g : Grant). granted d q.site g q.want)
    (option_map_or (λ (epoch : ℕ). record d { known = max d.known epoch }) (option_and_then closed_in answer)
    (option_map_or (λ (clock : ℕ). promised d clock q.want) (option_and_then promised_in answer) d))
    (option_and_then granted_in answer) (λ g. grants g q.want) (by (option_and_then closed_in answer) refl)
  where
    grants : (g : Grant) (w : Want) → P (granted d q.site g w)
    grants g (Read read) =
        changed (max d.clock g.clock)
        (λ (t : Current). accounting.with_read (accounting.lived t q.site g.life) read.object g.log) (λ t. refl)
    grants g (Append object view own) =
        changed (max d.clock g.clock) (λ (t : Current). accounting.lived t q.site g.life) (λ t. refl)
    grants g Prepare = same

    promises : (clock : ℕ) (w : Want) → P (promised d clock w)
    promises clock (Read read) = same
    promises clock (Append object view own) = same
    promises clock Prepare = clocked (max d.clock clock)

    by : (o : Option ℕ) → option_and_then closed_in answer ≡ o
        → P (option_map_or (λ (epoch : ℕ). record d { known = max d.known epoch }) o
        (option_map_or (λ (clock : ℕ). promised d clock q.want) (option_and_then promised_in answer) d))
    by None is =
        mapped P (λ (clock : ℕ). promised d clock q.want) d (option_and_then promised_in answer)
        (λ clock. promises clock q.want) same
    by (Some epoch) is = closed epoch is

-- a record, and a message that is sent

pub written_cases : (d : Account) (P : Account → Type 0) → P d → P (record d { life = d.life + 1 })
    → ((commit : Commit) → P (record d { written = Some commit })) → (w : Record) → P (account_written d w)
written_cases d P same risen committed w = by (is_life w)
  where
    by : (life : Bool)
        → P (cond life (record d { life = d.life + 1 })
        (option_map_or (λ (commit : Commit). record d { written = Some commit }) (commit_of w) d))
    by true = risen
    by false = mapped P (λ (commit : Commit). record d { written = Some commit }) d (commit_of w) committed same

pub sent_cases : (decl : Declaration) (d : Account) (n to : ℕ) (P : Message → Account → Type 0)
    → ((m : Message) → P m d)
    → ((q : Requested)
    → P (messages.Request q.tx q.epoch q.life q.want)
    (record d {
      requests = d.requests
          ++ record { number = n; site = to; life = q.life; want = q.want; taken = None } ∷ [];
    }))
    → (m : Message) → P m (account_sent decl d n to m)
sent_cases decl d n to P same asked m =
    message_cases
    (λ (m : Message) (o : Option Requested) (a : Option Answered) (v : Option Decided) (i : Option TxId).
    P m (option_map_or (λ (q : Requested). accounting.requested decl d n to q.tx q.epoch q.life q.want) o d))
    (λ q. by q (is_asked_for decl d to q.tx q.epoch q.life q.want)) (λ a. same (messages.Answer a.to a.answer))
    (λ v. same (messages.Decision v.tx v.verdict)) (λ tx. same (messages.Inquiry tx)) same m
  where
    by : (q : Requested) (is : Bool)
        → P (messages.Request q.tx q.epoch q.life q.want)
        (cond is
        (record d {
          requests = d.requests
              ++ record { number = n; site = to; life = q.life; want = q.want; taken = None } ∷ [];
        }) d)
    by q true = asked q
    by q false = same (messages.Request q.tx q.epoch q.life q.want)

-- a reply: a transaction begins, or ends, or changes, in the same epoch

pub reply_cases : (decl : Declaration) (d : Account) (P : Account → Type 0) → P d
    → ((tx : TxId) → P (accounting.begun d tx)) → P (accounting.ended d)
    → ((stamp : Stamp) → P (record (accounting.ended d) { clock = stamp.clock }))
    → ((change : Current → Current) → ((t : Current) → (change t).epoch ≡ t.epoch)
    → P (accounting.with_current d change)) → (reply : Reply) → P (account_told_in decl d reply)
reply_cases decl d P same began ended committed changed reply =
    mapped P (accounting.begun d) _ (began_in reply) began
    (mapped P (λ (stamp : Stamp). record (accounting.ended d) { clock = stamp.clock }) _ (committed_in reply) committed
    (mapped P (short_of d) _ (short_in reply) short
    (mapped P (λ (resp : Option ℕ). cond (is_some resp) (responded decl d d.command) (found_absent d d.command)) _
    (response_in reply) (λ resp. told (is_some resp)) (ends (is_end reply) (is_refused reply)))))
  where
    short : (half : Half) → P (short_of d half)
    short halves.Read = same
    short halves.Append = changed (accounting.doomed_if true) (λ t. refl)
    short halves.Close = same

    told : (is : Bool) → P (cond is (responded decl d d.command) (found_absent d d.command))
    told true =
        mapped P
        (λ (i : Invocation). accounting.with_current d
        (λ (t : Current). accounting.with_response decl t i.object i.inv (answer_of decl t i.object i.inv)))
        d (option_and_then do_in d.command)
        (λ i. changed
        (λ (t : Current). accounting.with_response decl t i.object i.inv (answer_of decl t i.object i.inv))
        (λ t. by t i (answer_of decl t i.object i.inv))) same
      where
        by : (t : Current) (i : Invocation) (event : Option ℕ)
            → (accounting.with_response decl t i.object i.inv event).epoch ≡ t.epoch
        by t i None = refl
        by t i (Some event) = refl
    told false =
        mapped P
        (λ (i : Invocation). accounting.with_current d (λ (t : Current). accounting.with_absent t i.object i.inv)) d
        (option_and_then do_in d.command)
        (λ i. changed (λ (t : Current). accounting.with_absent t i.object i.inv) (λ t. refl)) same

    ends : (is denied : Bool) → P (cond is (accounting.ended d) (cond denied (refused d) d))
    ends true denied = ended
    ends false true = changed (accounting.doomed_if _) (λ t. refl)
    ends false false = same
