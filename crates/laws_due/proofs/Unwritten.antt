-- Where a commit record is due and isn't written, Unknown is due with just that record pending.
use Rattle.std.proofs.Common.{◌≡◌, ℕ, nat_le, Bool, true, false, if◌then◌else◌, length, List, Option, Some, None}
use Rattle.std.proofs.Common.{option_map, refl, sym, ap, ◌∙◌}
use Rattle.std.specs.Prelude.{option_and_then}
use Rattle.qc_stamp.specs.declared.stamp.Stamp.{Stamp}
use Rattle.qc_decl.specs.Vocabulary.{append_need_of, most_transaction_operations, read_need_of}
use Rattle.qc_decl.specs.declared.declaration.Declaration.{Declaration}
use Rattle.qc_msg.specs.declared.reply.Reply.{Reply}
use Rattle.qc_msg.specs.declared.reply.Reply.TheVariants as replies
use Rattle.qc_msg.specs.declared.reply.AbortCause.{AbortCause}
use Rattle.qc_msg.specs.declared.reply.AbortCause.TheVariants as causes
use Rattle.qc_msg.specs.declared.step.Command.{Command}
use Rattle.qc_msg.specs.declared.step.Command.TheVariants as commands
use Rattle.qc_plan.specs.declared.standing.Verdict.{Verdict}
use Rattle.qc_plan.specs.declared.standing.Verdict.TheVariants as verdicts
use Rattle.qc_plan.specs.Vocabulary.{verdict}
use Rattle.qc_promise.specs.Vocabulary.{Account, Current, IsRecordDue, IsReplyDue, answer_of, answer_row, append_row}
use Rattle.qc_promise.specs.Vocabulary.{are_votes_in, commit_of, commit_row, do_row, first_against, is_append}
use Rattle.qc_promise.specs.Vocabulary.{is_prepare, is_read, next_stamp, pending_next, read_row, requests_for, round_of}
use Rattle.qc_promise.specs.Vocabulary.{row_of, running_row, vote_row}
use Rattle.qc_entry.specs.declared.record.Commit.{Commit}
use Rattle.qc_msg.specs.declared.record.Record.TheVariants as records
use Rattle.qc_msg.specs.Vocabulary.{Deed, committed_in}

abbrev stamp_of : Option Reply → Option Stamp
stamp_of o = option_and_then committed_in o

pub none_some : {A : Type 0} (o : Option Stamp) (stamp : Stamp) → o ≡ None → o ≡ Some stamp → A
none_some o stamp none some = absurd (let never : ⊥ = cc in never)

module _ (decl : Declaration) where
  append_stamp : (object event : ℕ) (v : Verdict) → stamp_of (append_row decl object event v) ≡ None
  append_stamp object event verdicts.Waiting = refl
  append_stamp object event verdicts.Met = refl
  append_stamp object event (verdicts.Closed epoch site) = refl
  append_stamp object event (verdicts.Clash tx site) = refl
  append_stamp object event (verdicts.Short got need) = refl

  answer_stamp : (d : Account) (t : Current) (object : ℕ) (o : Option ℕ)
      → stamp_of (answer_row decl d t object o) ≡ None
  answer_stamp d t object None = refl
  answer_stamp d t object (Some event) = append_stamp object event
      (verdict (round_of decl d t is_append (append_need_of decl t.epoch object event)))

  read_stamp : (d : Account) (t : Current) (object inv : ℕ) (v : Verdict)
      → stamp_of (read_row decl d t object inv v) ≡ None
  read_stamp d t object inv verdicts.Waiting = refl
  read_stamp d t object inv verdicts.Met = answer_stamp d t object (answer_of decl t object inv)
  read_stamp d t object inv (verdicts.Closed epoch site) = refl
  read_stamp d t object inv (verdicts.Clash tx site) = refl
  read_stamp d t object inv (verdicts.Short got need) = refl

  do_stamp : (d : Account) (t : Current) (object inv : ℕ) → stamp_of (do_row decl d t object inv) ≡ None
  do_stamp d t object inv = by t.doomed (nat_le most_transaction_operations (length t.ops))
    where
      by : (x y : Bool) → stamp_of (if x then Some replies.Doomed else
          (if y then Some replies.TooLong else read_row decl d t object inv
          (verdict (round_of decl d t is_read (read_need_of decl t.epoch object inv))))) ≡ None
      by true y = refl
      by false true = refl
      by false false = read_stamp d t object inv
          (verdict (round_of decl d t is_read (read_need_of decl t.epoch object inv)))

  commit_unwritten : (d : Account) (t : Current) (stamp : Stamp) → stamp_of (commit_row decl d false t) ≡ Some stamp
      → (stamp ≡ next_stamp d) × (commit_row decl d true t ≡ Some replies.Unknown)
  commit_unwritten d t stamp is = by t.doomed (are_votes_in decl d t) (first_against (requests_for is_prepare d)) is
    where
      row : Bool → Bool → Bool → Option AbortCause → Option Reply
      row unwritten x y o = if x then Some (replies.Aborted causes.Doomed) else
          (if y then vote_row d unwritten o else None)

      by : (x y : Bool) (o : Option AbortCause) → stamp_of (row false x y o) ≡ Some stamp
          → (stamp ≡ next_stamp d) × (row true x y o ≡ Some replies.Unknown)
      by true y o is = none_some None stamp refl is
      by false false o is = none_some None stamp refl is
      by false true None is = let same : next_stamp d ≡ stamp = cc in (sym same, refl)
      by false true (Some why) is = none_some None stamp refl is

  row_unwritten : (d : Account) (stamp : Stamp) → running_row decl d false ≡ Some (replies.Committed stamp)
      → (stamp ≡ next_stamp d) × (running_row decl d true ≡ Some replies.Unknown)
  row_unwritten d stamp is = by d.command d.current (ap stamp_of is)
    where
      by : (c : Option Command) (t : Option Current) → stamp_of (option_and_then (row_of decl d false t) c) ≡ Some stamp
          → (stamp ≡ next_stamp d) × (option_and_then (row_of decl d true t) c ≡ Some replies.Unknown)
      by None t is = none_some None stamp refl is
      by (Some commands.Begin) None is = none_some None stamp refl is
      by (Some (commands.Do object inv)) None is = none_some None stamp refl is
      by (Some commands.Commit) None is = none_some None stamp refl is
      by (Some commands.Abort) None is = none_some None stamp refl is
      by (Some (commands.Epoch number)) None is = none_some None stamp refl is
      by (Some commands.Begin) (Some t) is = none_some None stamp refl is
      by (Some (commands.Do object inv)) (Some t) is =
          none_some (stamp_of (do_row decl d t object inv)) stamp (do_stamp d t object inv) is
      by (Some commands.Commit) (Some t) is = commit_unwritten d t stamp is
      by (Some commands.Abort) (Some t) is = none_some None stamp refl is
      by (Some (commands.Epoch number)) (Some t) is = none_some None stamp refl is

  pub unwritten_commits_are_unknown : (d : Account) (c : Commit) (after : List Deed)
      → IsRecordDue d (running_row decl d false) (records.Commit c) → pending_next after ≡ Some (records.Commit c)
      → IsReplyDue d (running_row decl d true) after replies.Unknown
  unwritten_commits_are_unknown d c after is pending =
      let row : (c.stamp ≡ next_stamp d) × (running_row decl d true ≡ Some replies.Unknown) =
      row_unwritten d c.stamp is.0 in (
        row.1,
        is.2,
        pending ∙ sym (ap (λ (s : Stamp). option_map records.Commit (commit_of d s)) (sym row.0)
            ∙ ap (λ (o : Option Commit). option_map records.Commit o) is.1),
      )
