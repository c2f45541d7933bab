-- Each row says what its reply needs.
use Rattle.std.proofs.Common.{◌≡◌, ℕ, nat_le, Bool, true, false, cond, length, Option, Some, None, refl, sym, ◌∙◌}
use Rattle.std.proofs.Common.{subst}
use Rattle.qc_decl.specs.declared.declaration.Declaration.{Declaration}
use Rattle.qc_decl.specs.Vocabulary.{append_need_of, most_transaction_operations, read_need_of}
use Rattle.qc_plan.specs.declared.standing.Verdict.{Verdict}
use Rattle.qc_plan.specs.declared.standing.Verdict.TheVariants as verdicts
use Rattle.qc_plan.specs.Vocabulary.{verdict}
use Rattle.qc_msg.specs.declared.reply.Reply.TheVariants as replies
use Rattle.qc_msg.specs.declared.reply.AbortCause.{AbortCause}
use Rattle.qc_msg.specs.declared.reply.AbortCause.TheVariants as causes
use Rattle.qc_msg.specs.declared.step.Command.{Command}
use Rattle.qc_msg.specs.declared.step.Command.TheVariants as commands
use Rattle.qc_promise.specs.Vocabulary.{Account, Current, answer_of, answer_row, append_row, are_votes_in, commit_row}
use Rattle.qc_promise.specs.Vocabulary.{do_row, first_against, is_append, is_declared_for, is_prepare, is_read}
use Rattle.qc_promise.specs.Vocabulary.{read_row, reply_to, requests_for, round_of, row_of, vote_row}
use Rattle.laws_reach.specs.Vocabulary.{IsNoCommit, SaysIn}

abbrev IsSomeCurrent : Option Current → Type 0
IsSomeCurrent None = ⊥
IsSomeCurrent (Some t) = Unit {0}

module _ (decl : Declaration) (d : Account) where
  no_current : (command : Command) → d.current ≡ None → IsNoCommit d command
  no_current command none t some is = subst IsSomeCurrent (sym some ∙ none) tt

  no_do : (object inv : ℕ) → IsNoCommit d (commands.Do object inv)
  no_do object inv t some is = let never : ⊥ = cc in never

  append_says : (t : Current) (object inv event : ℕ) (v : Verdict) → d.current ≡ Some t
      → answer_of decl t object inv ≡ Some event
      → SaysIn decl d (commands.Do object inv) (append_row decl object event v)
  append_says t object inv event verdicts.Waiting is answer = tt
  append_says t object inv event verdicts.Met is answer =
      record {
        object = object;
        inv = inv;
        event = event;
        t = t;
        command_is = refl;
        current_is = is;
        answer_is = answer;
        resp_is = refl;
      }
  append_says t object inv event (verdicts.Closed epoch site) is answer = no_do object inv
  append_says t object inv event (verdicts.Clash tx site) is answer = no_do object inv
  append_says t object inv event (verdicts.Short got need) is answer = no_do object inv

  answer_says : (t : Current) (object inv : ℕ) (o : Option ℕ) → d.current ≡ Some t → answer_of decl t object inv ≡ o
      → SaysIn decl d (commands.Do object inv) (answer_row decl d t object o)
  answer_says t object inv None is answer =
      record { object = object; inv = inv; t = t; command_is = refl; current_is = is }
  answer_says t object inv (Some event) is answer =
      append_says t object inv event (verdict (round_of decl d t is_append (append_need_of decl t.epoch object event)))
      is answer

  read_says : (t : Current) (object inv : ℕ) (v : Verdict) → d.current ≡ Some t
      → SaysIn decl d (commands.Do object inv) (read_row decl d t object inv v)
  read_says t object inv verdicts.Waiting is = tt
  read_says t object inv verdicts.Met is = answer_says t object inv (answer_of decl t object inv) is refl
  read_says t object inv (verdicts.Closed epoch site) is = no_do object inv
  read_says t object inv (verdicts.Clash tx site) is = no_do object inv
  read_says t object inv (verdicts.Short got need) is = no_do object inv

  do_says : (t : Current) (object inv : ℕ) → d.current ≡ Some t
      → SaysIn decl d (commands.Do object inv) (do_row decl d t object inv)
  do_says t object inv is = by t.doomed (nat_le most_transaction_operations (length t.ops))
    where
      by : (x y : Bool) → SaysIn decl d (commands.Do object inv)
          (cond x (Some replies.Doomed) (cond y (Some replies.TooLong)
          (read_row decl d t object inv (verdict (round_of decl d t is_read (read_need_of decl t.epoch object inv))))))
      by true y = no_do object inv
      by false true = no_do object inv
      by false false = read_says t object inv (verdict
          (round_of decl d t is_read (read_need_of decl t.epoch object inv))) is

  vote_says : (u : Bool) (o : Option AbortCause) → SaysIn decl d commands.Commit (vote_row d u o)
  vote_says u (Some why) = tt
  vote_says true None = tt
  vote_says false None = refl

  commit_says : (t : Current) (u : Bool) → SaysIn decl d commands.Commit (commit_row decl d u t)
  commit_says t u = by t.doomed (are_votes_in decl d t)
    where
      by : (x y : Bool) → SaysIn decl d commands.Commit
          (cond x (Some (replies.Aborted causes.Doomed))
          (cond y (vote_row d u (first_against (requests_for is_prepare d))) None))
      by true y = tt
      by false true = vote_says u (first_against (requests_for is_prepare d))
      by false false = tt

  pub row_says : (u : Bool) (o : Option Current) (command : Command) → d.current ≡ o
      → SaysIn decl d command (row_of decl d u o command)
  row_says u None commands.Begin is = refl
  row_says u None (commands.Do object inv) is = no_current (commands.Do object inv) is
  row_says u None commands.Commit is = no_current commands.Commit is
  row_says u None commands.Abort is = no_current commands.Abort is
  row_says u None (commands.Epoch number) is = tt
  row_says u (Some t) commands.Begin is = λ t some same. let never : ⊥ = cc in never
  row_says u (Some t) (commands.Do object inv) is = do_says t object inv is
  row_says u (Some t) commands.Commit is = commit_says t u
  row_says u (Some t) commands.Abort is = tt
  row_says u (Some t) (commands.Epoch number) is = tt

  pub reply_says : (u : Bool) (command : Command) → SaysIn decl d command (reply_to decl d u command)
  reply_says u command = by d.up (is_declared_for decl d.current command)
    where
      by : (up declared : Bool) → SaysIn decl d command
          (cond up (cond declared (row_of decl d u d.current command) None) (Some replies.Down))
      by true true = row_says u d.current command refl
      by true false = tt
      by false declared = tt
