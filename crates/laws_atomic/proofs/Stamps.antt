-- A Committed that is due names the stamp above the clock.
use Rattle.std.proofs.Common.{◌≡◌, ℕ, nat_le, Bool, true, false, cond, length, Option, Some, None}
use Rattle.std.specs.Prelude.{option_and_then}
use Rattle.qc_stamp.specs.declared.stamp.Stamp.{Stamp}
use Rattle.qc_decl.specs.Vocabulary.{append_need_of, most_transaction_operations, read_need_of}
use Rattle.qc_decl.specs.declared.declaration.Declaration.{Declaration}
use Rattle.qc_msg.specs.declared.reply.Reply.{Reply}
use Rattle.qc_msg.specs.declared.reply.Reply.TheVariants as replies
use Rattle.qc_msg.specs.declared.reply.AbortCause.{AbortCause}
use Rattle.qc_msg.specs.declared.reply.AbortCause.TheVariants as causes
use Rattle.qc_msg.specs.declared.step.Command.{Command}
use Rattle.qc_msg.specs.declared.step.Command.TheVariants as commands
use Rattle.qc_plan.specs.declared.standing.Verdict.{Verdict}
use Rattle.qc_plan.specs.declared.standing.Verdict.TheVariants as verdicts
use Rattle.qc_plan.specs.Vocabulary.{verdict}
use Rattle.qc_promise.specs.Vocabulary.{Account, Current, answer_of, answer_row, append_row, are_votes_in}
use Rattle.qc_promise.specs.Vocabulary.{first_against, is_append, is_prepare, is_read, next_stamp, read_row}
use Rattle.qc_promise.specs.Vocabulary.{requests_for, round_of, row_of, running_row, vote_row}

module _ (decl : Declaration) (d : Account) where
  -- a reply that commits has this stamp
  abbrev Fits : Option Reply → Type 0
  Fits o = (stamp : Stamp) → o ≡ Some (replies.Committed stamp) → stamp ≡ next_stamp d

  append_fits : (object event : ℕ) (v : Verdict) → Fits (append_row decl object event v)
  append_fits object event verdicts.Waiting stamp is = absurd (let never : ⊥ = cc in never)
  append_fits object event verdicts.Met stamp is = absurd (let never : ⊥ = cc in never)
  append_fits object event (verdicts.Closed epoch site) stamp is = absurd (let never : ⊥ = cc in never)
  append_fits object event (verdicts.Clash tx site) stamp is = absurd (let never : ⊥ = cc in never)
  append_fits object event (verdicts.Short got need) stamp is = absurd (let never : ⊥ = cc in never)

  answer_fits : (t : Current) (object : ℕ) (o : Option ℕ) → Fits (answer_row decl d t object o)
  answer_fits t object None stamp is = absurd (let never : ⊥ = cc in never)
  answer_fits t object (Some event) stamp is =
      append_fits object event (verdict (round_of decl d t is_append (append_need_of decl t.epoch object event))) stamp
      is

  read_fits : (t : Current) (object inv : ℕ) (v : Verdict) → Fits (read_row decl d t object inv v)
  read_fits t object inv verdicts.Waiting stamp is = absurd (let never : ⊥ = cc in never)
  read_fits t object inv verdicts.Met stamp is = answer_fits t object (answer_of decl t object inv) stamp is
  read_fits t object inv (verdicts.Closed epoch site) stamp is = absurd (let never : ⊥ = cc in never)
  read_fits t object inv (verdicts.Clash tx site) stamp is = absurd (let never : ⊥ = cc in never)
  read_fits t object inv (verdicts.Short got need) stamp is = absurd (let never : ⊥ = cc in never)

  do_fits : (t : Current) (object inv : ℕ) (dead long : Bool)
      → Fits (cond dead (Some replies.Doomed) (cond long (Some replies.TooLong)
      (read_row decl d t object inv (verdict (round_of decl d t is_read (read_need_of decl t.epoch object inv))))))
  do_fits t object inv true long stamp is = absurd (let never : ⊥ = cc in never)
  do_fits t object inv false true stamp is = absurd (let never : ⊥ = cc in never)
  do_fits t object inv false false stamp is =
      read_fits t object inv (verdict (round_of decl d t is_read (read_need_of decl t.epoch object inv))) stamp is

  vote_fits : (o : Option AbortCause) → Fits (vote_row d false o)
  vote_fits (Some why) stamp is = absurd (let never : ⊥ = cc in never)
  vote_fits None stamp is = let same : replies.Committed (next_stamp d) ≡ replies.Committed stamp = cc in
      let back : next_stamp d ≡ stamp = cc in cc

  commit_fits : (dead votes : Bool) → Fits
      (cond dead (Some (replies.Aborted causes.Doomed))
      (cond votes (vote_row d false (first_against (requests_for is_prepare d))) None))
  commit_fits true votes stamp is = absurd (let never : ⊥ = cc in never)
  commit_fits false true stamp is = vote_fits (first_against (requests_for is_prepare d)) stamp is
  commit_fits false false stamp is = absurd (let never : ⊥ = cc in never)

  row_fits : (o : Option Current) (command : Command) → Fits (row_of decl d false o command)
  row_fits None commands.Begin stamp is = absurd (let never : ⊥ = cc in never)
  row_fits None (commands.Do object inv) stamp is = absurd (let never : ⊥ = cc in never)
  row_fits None commands.Commit stamp is = absurd (let never : ⊥ = cc in never)
  row_fits None commands.Abort stamp is = absurd (let never : ⊥ = cc in never)
  row_fits None (commands.Epoch number) stamp is = absurd (let never : ⊥ = cc in never)
  row_fits (Some t) commands.Begin stamp is = absurd (let never : ⊥ = cc in never)
  row_fits (Some t) (commands.Do object inv) stamp is =
      do_fits t object inv t.doomed (nat_le most_transaction_operations (length t.ops)) stamp is
  row_fits (Some t) commands.Commit stamp is = commit_fits t.doomed (are_votes_in decl d t) stamp is
  row_fits (Some t) commands.Abort stamp is = absurd (let never : ⊥ = cc in never)
  row_fits (Some t) (commands.Epoch number) stamp is = absurd (let never : ⊥ = cc in never)

  due_fits : (o : Option Command) → Fits (option_and_then (row_of decl d false d.current) o)
  due_fits None stamp is = absurd (let never : ⊥ = cc in never)
  due_fits (Some command) stamp is = row_fits d.current command stamp is

  pub due_stamp : (stamp : Stamp) → running_row decl d false ≡ Some (replies.Committed stamp) → stamp ≡ next_stamp d
  due_stamp = due_fits d.command
