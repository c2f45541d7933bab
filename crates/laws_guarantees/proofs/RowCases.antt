-- The rows that reply to a `do` and to the running command, each read once: what holds of each of their replies holds
-- of what is due.
use Rattle.std.proofs.Common.{◌≡◌, ℕ, ◌+◌, nat_le, Bool, true, false, cond, length, Option, Some, None, refl}
use Rattle.std.specs.Prelude.{option_and_then}
use Rattle.qc_stamp.specs.declared.stamp.TxId.{TxId}
use Rattle.qc_decl.specs.Vocabulary.{append_need_of, most_transaction_operations, read_need_of}
use Rattle.qc_decl.specs.declared.declaration.Declaration.{Declaration}
use Rattle.qc_msg.specs.declared.reply.Half.{Half}
use Rattle.qc_msg.specs.declared.reply.Reply.{Reply}
use Rattle.qc_msg.specs.declared.reply.Reply.TheVariants as replies
use Rattle.qc_msg.specs.declared.step.Command.{Command}
use Rattle.qc_msg.specs.declared.step.Command.TheVariants as commands
use Rattle.qc_plan.specs.declared.standing.Verdict.{Verdict}
use Rattle.qc_plan.specs.declared.standing.Verdict.TheVariants as verdicts
use Rattle.qc_plan.specs.Vocabulary.{verdict}
use Rattle.qc_promise.specs.Vocabulary.{Account, Current, answer_of, answer_row, append_row, commit_row, do_row}
use Rattle.qc_promise.specs.Vocabulary.{is_append, is_read, read_row, resp_of, round_of, row_of, running_row}

module _ (decl : Declaration) (d : Account) (P : Option Reply → Type 0) where
  pub do_row_cases : (t : Current) (object inv : ℕ) → P None → P (Some replies.Doomed) → P (Some replies.TooLong)
      → ((epoch site : ℕ) → P (Some (replies.Closed epoch site)))
      → ((tx : TxId) (site : ℕ) → P (Some (replies.Conflict tx site)))
      → ((half : Half) (got need : ℕ) → P (Some (replies.Quorum half got need)))
      → (answer_of decl t object inv ≡ None → P (Some replies.Absent))
      → ((event : ℕ) → answer_of decl t object inv ≡ Some event
      → P (Some (replies.Response (resp_of decl object event)))) → P (do_row decl d t object inv)
  do_row_cases t object inv none doomed long close clash short absent response =
      by t.doomed (nat_le most_transaction_operations (length t.ops))
    where
      append : (event : ℕ) → answer_of decl t object inv ≡ Some event → (v : Verdict)
          → P (append_row decl object event v)
      append event chosen verdicts.Waiting = none
      append event chosen verdicts.Met = response event chosen
      append event chosen (verdicts.Closed epoch site) = close epoch site
      append event chosen (verdicts.Clash tx site) = clash tx site
      append event chosen (verdicts.Short got need) = short _ got need

      answer : (o : Option ℕ) → answer_of decl t object inv ≡ o → P (answer_row decl d t object o)
      answer None chosen = absent chosen
      answer (Some event) chosen =
          append event chosen (verdict (round_of decl d t is_append (append_need_of decl t.epoch object event)))

      read : (v : Verdict) → P (read_row decl d t object inv v)
      read verdicts.Waiting = none
      read verdicts.Met = answer (answer_of decl t object inv) refl
      read (verdicts.Closed epoch site) = close epoch site
      read (verdicts.Clash tx site) = clash tx site
      read (verdicts.Short got need) = short _ got need

      by : (dead much : Bool) → P (cond dead (Some replies.Doomed) (cond much (Some replies.TooLong)
          (read_row decl d t object inv (verdict (round_of decl d t is_read (read_need_of decl t.epoch object inv))))))
      by true much = doomed
      by false true = long
      by false false = read (verdict (round_of decl d t is_read (read_need_of decl t.epoch object inv)))

  pub running_cases : P None
      → P (Some (replies.Began (record { client = d.client; life = d.life; number = d.count + 1 })))
      → P (Some replies.NoTransaction) → ((tx : TxId) → P (Some (replies.Already tx))) → P (Some replies.Dropped)
      → ((t : Current) (object inv : ℕ) → d.command ≡ Some (commands.Do object inv) → d.current ≡ Some t
      → P (do_row decl d t object inv))
      → ((t : Current) → d.command ≡ Some commands.Commit → d.current ≡ Some t → P (commit_row decl d false t))
      → P (running_row decl d false)
  running_cases none began without already dropped does commits = by d.command d.current refl refl
    where
      by : (c : Option Command) (o : Option Current) → d.command ≡ c → d.current ≡ o
          → P (option_and_then (row_of decl d false o) c)
      by None o command current = none
      by (Some commands.Begin) None command current = began
      by (Some (commands.Do object inv)) None command current = without
      by (Some commands.Commit) None command current = without
      by (Some commands.Abort) None command current = without
      by (Some (commands.Epoch number)) None command current = none
      by (Some commands.Begin) (Some t) command current = already t.tx
      by (Some (commands.Do object inv)) (Some t) command current = does t object inv command current
      by (Some commands.Commit) (Some t) command current = commits t command current
      by (Some commands.Abort) (Some t) command current = dropped
      by (Some (commands.Epoch number)) (Some t) command current = none
