-- A front end counts one transaction more as it begins one, and else none.
use Rattle.std.proofs.Common.{◌≡◌, ℕ, ◌+◌, ◌≤◌, nat_le, Bool, true, false, cond, List, [], length, Option, Some, None}
use Rattle.std.proofs.Common.{refl, ◌∙◌, arith}
use Rattle.qc_decl.specs.declared.declaration.Declaration.{Declaration}
use Rattle.qc_decl.specs.Vocabulary.{append_need_of, most_transaction_operations, read_need_of}
use Rattle.qc_front.specs.declared.doing.Doing.{Doing}
use Rattle.qc_front.specs.declared.doing.Doing.TheVariants.{Idle, Reading, Appending}
use Rattle.qc_front.specs.declared.front.Front.{Front}
use Rattle.qc_front.specs.declared.transaction.Transaction.{Transaction}
use Rattle.qc_front.specs.Vocabulary.{FrontMove, aborts, answer_of, answered, append_by, appended_with, appending_takes}
use Rattle.qc_front.specs.Vocabulary.{begins, called, commits, gives_up, learns, moved, performs, read_by, read_with}
use Rattle.qc_front.specs.Vocabulary.{reading_takes, reads, round_for, standing_of, takes, takes_in}
use Rattle.qc_msg.specs.declared.call.Call.{Call}
use Rattle.qc_msg.specs.declared.message.Answer.{Answer}
use Rattle.qc_msg.specs.declared.reply.Reply.TheVariants as replies
use Rattle.qc_msg.specs.declared.reply.AbortCause.TheVariants as causes
use Rattle.qc_msg.specs.declared.step.Command.{Command}
use Rattle.qc_msg.specs.declared.step.Command.TheVariants as commands
use Rattle.qc_msg.specs.Vocabulary.{quiet, site_called, telling, without_call}
use Rattle.qc_plan.specs.Vocabulary.{RoundState, note, verdict}
use Rattle.qc_plan.specs.declared.standing.Verdict.{Verdict}
use Rattle.qc_plan.specs.declared.standing.Verdict.TheVariants as verdicts
use Rattle.qc_front.proofs.Clocks.{learned_count}

module _ (decl : Declaration) (front : Front) where
  abbrev Counts : FrontMove → Type 0
  Counts m = m.front.count ≡ front.count

  append_count : (t : Transaction) (object inv event : ℕ) (calls : List Call) (r : RoundState) (v : Verdict)
      → Counts (append_by decl front t object inv event calls r v)
  append_count t object inv event calls r verdicts.Waiting = refl
  append_count t object inv event calls r verdicts.Met = refl
  append_count t object inv event calls r (verdicts.Closed epoch site) = refl
  append_count t object inv event calls r (verdicts.Clash tx site) = refl
  append_count t object inv event calls r (verdicts.Short got need) = refl

  answered_count : (t : Transaction) (object inv : ℕ) (event : Option ℕ)
      → Counts (answered decl front t object inv event)
  answered_count t object inv None = refl
  answered_count t object inv (Some event) =
      append_count t object inv event [] (round_for decl front t (append_need_of decl t.begun.epoch object event))
      (verdict (round_for decl front t (append_need_of decl t.begun.epoch object event)))

  read_count : (t : Transaction) (object inv : ℕ) (calls : List Call) (r : RoundState) (v : Verdict)
      → Counts (read_by decl front t object inv calls r v)
  read_count t object inv calls r verdicts.Waiting = refl
  read_count t object inv calls r verdicts.Met = answered_count t object inv (answer_of decl t object inv)
  read_count t object inv calls r (verdicts.Closed epoch site) = refl
  read_count t object inv calls r (verdicts.Clash tx site) = refl
  read_count t object inv calls r (verdicts.Short got need) = refl

  performs_count : (t : Option Transaction) (object inv : ℕ) → Counts (performs decl front t object inv)
  performs_count None object inv = refl
  performs_count (Some t) object inv = by t.begun.doomed (nat_le most_transaction_operations (length t.begun.ops))
    where
      round : RoundState
      round = round_for decl front t (read_need_of decl t.begun.epoch object inv)

      by : (doomed long : Bool)
          → Counts
          (cond doomed (moved front (telling replies.Doomed))
          (cond long (moved front (telling replies.TooLong)) (reads decl front t object inv [] round)))
      by true long = refl
      by false true = refl
      by false false = read_count t object inv [] round (verdict round)

  commits_count : (t : Option Transaction) → Counts (commits front t)
  commits_count None = refl
  commits_count (Some t) = by t.begun.doomed
    where
      by : (doomed : Bool) → Counts (cond doomed (gives_up front t (replies.Aborted causes.Doomed)) (moved front quiet))
      by true = refl
      by false = refl

  aborts_count : (t : Option Transaction) → Counts (aborts front t)
  aborts_count None = refl
  aborts_count (Some t) = refl

  begins_count : (t : Option Transaction) → (begins decl front t).front.count ≤ front.count + 1
  begins_count None = omega arith
  begins_count (Some t) = omega arith

  pub called_count : (command : Command) → (called decl front command).front.count ≤ front.count + 1
  called_count commands.Begin = begins_count front.transaction
  called_count (commands.Do object inv) =
      (let same : (performs decl front front.transaction object inv).front.count
      ≡ front.count = performs_count front.transaction object inv in omega arith)
  called_count commands.Commit =
      (let same : (commits front front.transaction).front.count
      ≡ front.count = commits_count front.transaction in omega arith)
  called_count commands.Abort =
      (let same : (aborts front front.transaction).front.count
      ≡ front.count = aborts_count front.transaction in omega arith)
  called_count (commands.Epoch number) = omega arith

-- what is taken for a request

module _ (decl : Declaration) (front : Front) (number : ℕ) (answer : Option Answer) where
  reading_count : (t : Transaction) (object inv : ℕ) (calls : List Call) (round : RoundState) (o : Option ℕ)
      → (reading_takes decl front t object inv calls round number answer o).front.count ≡ front.count
  reading_count t object inv calls round None = refl
  reading_count t object inv calls round (Some site) =
      read_count decl (learns front answer) (read_with t site object answer) object inv (without_call calls number)
      (note round site (standing_of answer)) (verdict (note round site (standing_of answer)))
      ∙ learned_count front answer

  appending_count : (t : Transaction) (object inv event : ℕ) (calls : List Call) (round : RoundState) (o : Option ℕ)
      → (appending_takes decl front t object inv event calls round number answer o).front.count ≡ front.count
  appending_count t object inv event calls round None = refl
  appending_count t object inv event calls round (Some site) =
      append_count decl (learns front answer) (appended_with t site answer) object inv event (without_call calls number)
      (note round site (standing_of answer)) (verdict (note round site (standing_of answer)))
      ∙ learned_count front answer

  takes_in_count : (doing : Doing) (t : Option Transaction)
      → (takes_in decl front doing t number answer).front.count ≡ front.count
  takes_in_count doing None = refl
  takes_in_count Idle (Some t) = refl
  takes_in_count (Reading object inv calls round) (Some t) =
      reading_count t object inv calls round (site_called calls number)
  takes_in_count (Appending object inv event calls round) (Some t) =
      appending_count t object inv event calls round (site_called calls number)

  pub takes_count : (takes decl front number answer).front.count ≡ front.count
  takes_count = takes_in_count front.doing front.transaction
