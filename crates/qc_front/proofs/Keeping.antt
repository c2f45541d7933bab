-- What holds of a front end holds after each of its moves.
use Rattle.std.proofs.Common.{◌≡◌, ℕ, ◌<◌, List, length, Option, Some, None, refl, sym, ap, ◌∙◌, subst}
use Rattle.std.specs.Prelude.{option_map, slice_get}
use Rattle.qc_decl.specs.declared.declaration.Declaration.{Declaration}
use Rattle.qc_decl.specs.Vocabulary.{append_need_of, most_transaction_operations, read_need_of}
use Rattle.qc_entry.specs.declared.line.Op.{Op}
use Rattle.qc_msg.specs.declared.begun.Begun.{Begun}
use Rattle.qc_msg.specs.declared.begun.LifeAt.{LifeAt}
use Rattle.qc_msg.specs.declared.call.Call.{Call}
use Rattle.qc_msg.specs.declared.message.Answer.{Answer}
use Rattle.qc_msg.specs.declared.message.Answer.TheVariants as answers
use Rattle.qc_msg.specs.Vocabulary.{quiet, site_called, without_call}
use Rattle.qc_plan.specs.Vocabulary.{RoundState, note, verdict}
use Rattle.qc_view.specs.declared.view.View.{View}
use Rattle.qc_view.specs.Vocabulary.{with_log}
use Rattle.qc_front.specs.declared.doing.Doing.{Doing}
use Rattle.qc_front.specs.declared.doing.Doing.TheVariants.{Idle, Reading, Appending}
use Rattle.qc_front.specs.declared.front.Front.{Front}
use Rattle.qc_front.specs.declared.transaction.Transaction.{Transaction}
use Rattle.qc_front.specs.Vocabulary.{AppendingHolds, BegunHolds, FrontHolds, FrontMove, IsRound, ReadingHolds}
use Rattle.qc_front.specs.Vocabulary.{RecordsHold, append_counts, appended_with, appending_takes, appends, called}
use Rattle.qc_front.specs.Vocabulary.{ended, learns, lived, moved, new_front, read_counts, read_with, reading_takes}
use Rattle.qc_front.specs.Vocabulary.{reads, standing_of, takes, takes_in, with_granted}
use Rattle.qc_front.proofs.Learning.{append_learns, learned, read_learns}
use Rattle.qc_front.proofs.NotedRounds.{note_round, round_apart}
use Rattle.qc_front.proofs.Noting.{note_open}
use Rattle.qc_front.proofs.Recording.{read_recorded}
use Rattle.qc_front.proofs.CommandsKeep.{view_keeps, MoveHolds, appends_holds, reads_holds}

-- answers

learns_holds : (decl : Declaration) (front : Front) (answer : Option Answer) (move : FrontMove) → MoveHolds decl move
    → MoveHolds decl (learned answer move)
learns_holds decl front None move h = h
learns_holds decl front (Some (answers.Granted grant)) move h = h
learns_holds decl front (Some (answers.Clash holder inv event)) move h = h
learns_holds decl front (Some (answers.Closed epoch)) move h = h
learns_holds decl front (Some (answers.Behind epoch)) move h = h
learns_holds decl front (Some (answers.Restarted life)) move h = h
learns_holds decl front (Some answers.Stale) move h = h
learns_holds decl front (Some answers.Fault) move h = h
learns_holds decl front (Some (answers.Yes clock)) move h = h
learns_holds decl front (Some (answers.Shut snapshot)) move h = h
learns_holds decl front (Some answers.Installed) move h = h
learns_holds decl front (Some (answers.Answered verdict)) move h = h

-- an answer changes neither the operations nor the epoch; to an append, not the views and own lines either

pub record KeepsOps (t u : Transaction) : Type 0 where
  pub ops : u.begun.ops ≡ t.begun.ops
  pub epoch : u.begun.epoch ≡ t.begun.epoch

pub read_keeps : (t : Transaction) (site object : ℕ) (answer : Option Answer)
    → KeepsOps t (read_with t site object answer)
read_keeps t site object None = record { ops = refl; epoch = refl }
read_keeps t site object (Some (answers.Granted grant)) =
    let same : (with_granted (lived t site grant.life) object grant.log).begun ≡ (lived t site grant.life).begun =
    view_keeps (lived t site grant.life) object
    (option_map (λ (v : View). with_log v grant.log) (slice_get t.views object)) in
    record { ops = ap (λ (b : Begun). b.ops) same; epoch = ap (λ (b : Begun). b.epoch) same }
read_keeps t site object (Some (answers.Clash holder inv event)) = record { ops = refl; epoch = refl }
read_keeps t site object (Some (answers.Closed epoch)) = record { ops = refl; epoch = refl }
read_keeps t site object (Some (answers.Behind epoch)) = record { ops = refl; epoch = refl }
read_keeps t site object (Some (answers.Restarted life)) = record { ops = refl; epoch = refl }
read_keeps t site object (Some answers.Stale) = record { ops = refl; epoch = refl }
read_keeps t site object (Some answers.Fault) = record { ops = refl; epoch = refl }
read_keeps t site object (Some (answers.Yes clock)) = record { ops = refl; epoch = refl }
read_keeps t site object (Some (answers.Shut snapshot)) = record { ops = refl; epoch = refl }
read_keeps t site object (Some answers.Installed) = record { ops = refl; epoch = refl }
read_keeps t site object (Some (answers.Answered verdict)) = record { ops = refl; epoch = refl }

-- a transaction with other lives
abbrev pub relived : Transaction → List LifeAt → Transaction
relived t lives = record t { begun = record t.begun { lives = lives } }

pub appended_is : (t : Transaction) (site : ℕ) (answer : Option Answer)
    → appended_with t site answer ≡ relived t (appended_with t site answer).begun.lives
appended_is t site None = refl
appended_is t site (Some (answers.Granted grant)) = refl
appended_is t site (Some (answers.Clash holder inv event)) = refl
appended_is t site (Some (answers.Closed epoch)) = refl
appended_is t site (Some (answers.Behind epoch)) = refl
appended_is t site (Some (answers.Restarted life)) = refl
appended_is t site (Some answers.Stale) = refl
appended_is t site (Some answers.Fault) = refl
appended_is t site (Some (answers.Yes clock)) = refl
appended_is t site (Some (answers.Shut snapshot)) = refl
appended_is t site (Some answers.Installed) = refl
appended_is t site (Some (answers.Answered verdict)) = refl

read_counts_holds : (decl : Declaration) (front : Front) (t : Transaction) (object inv : ℕ) (calls : List Call)
    (r : RoundState) (number site : ℕ) (answer : Option Answer) → site_called calls number ≡ Some site
    → RecordsHold decl t.views t.own t.begun.ops → ReadingHolds decl front.client t object inv calls r
    → MoveHolds decl (read_counts decl (learns front answer) t object inv calls r number site answer)
read_counts_holds decl front t object inv calls r number site answer called records h =
    let keeps : KeepsOps t (read_with t site object answer) = read_keeps t site object answer in
    subst (MoveHolds decl)
    (sym (read_learns decl front answer (read_with t site object answer) object inv (without_call calls number)
    (note r site (standing_of answer))))
    (learns_holds decl front answer
    (reads decl front (read_with t site object answer) object inv (without_call calls number)
    (note r site (standing_of answer)))
    (reads_holds decl front (read_with t site object answer) object inv (without_call calls number)
    (note r site (standing_of answer))
    (read_recorded decl t site object answer records)
    (subst (λ (ops : List Op). length ops < most_transaction_operations) (sym keeps.ops) h.room)
    (subst (λ (epoch : ℕ). IsRound decl front.client epoch (read_need_of decl epoch object inv)
    (note r site (standing_of answer))) (sym keeps.epoch)
    (note_round decl front.client t.begun.epoch (read_need_of decl t.begun.epoch object inv) r site (standing_of answer)
    h.round_is))
    (note_open calls r number site (standing_of answer) h.calls_are called
    (round_apart decl front.client t.begun.epoch (read_need_of decl t.begun.epoch object inv) r h.round_is))))

append_counts_holds : (decl : Declaration) (front : Front) (t : Transaction) (object inv event : ℕ) (calls : List Call)
    (r : RoundState) (number site : ℕ) (answer : Option Answer) → site_called calls number ≡ Some site
    → RecordsHold decl t.views t.own t.begun.ops → AppendingHolds decl front.client t object inv event calls r
    → MoveHolds decl (append_counts decl (learns front answer) t object inv event calls r number site answer)
append_counts_holds decl front t object inv event calls r number site answer called records h =
    let lives : List LifeAt = (appended_with t site answer).begun.lives in
    subst (MoveHolds decl)
    (sym (append_learns decl front answer (appended_with t site answer) object inv event (without_call calls number)
    (note r site (standing_of answer))
    ∙ ap
    (λ (u : Transaction). learned answer
    (appends decl front u object inv event (without_call calls number) (note r site (standing_of answer))))
    (appended_is t site answer)))
    (learns_holds decl front answer
    (appends decl front (relived t lives) object inv event (without_call calls number)
    (note r site (standing_of answer)))
    (appends_holds decl front (relived t lives) object inv event (without_call calls number)
    (note r site (standing_of answer)) records h.room h.chosen
    (note_round decl front.client t.begun.epoch (append_need_of decl t.begun.epoch object event) r site
    (standing_of answer) h.round_is)
    (note_open calls r number site (standing_of answer) h.calls_are called
    (round_apart decl front.client t.begun.epoch (append_need_of decl t.begun.epoch object event) r h.round_is))))

takes_in_holds : (decl : Declaration) (front : Front) (doing : Doing) (t : Option Transaction) (number : ℕ)
    (answer : Option Answer) → BegunHolds decl front.client t doing → MoveHolds decl (moved front quiet)
    → MoveHolds decl (takes_in decl front doing t number answer)
takes_in_holds decl front doing None number answer here same = same
takes_in_holds decl front Idle (Some t) number answer here same = same
takes_in_holds decl front (Reading object inv calls round) (Some t) number answer here same =
    by (site_called calls number) refl
  where
    by : (o : Option ℕ) → site_called calls number ≡ o
        → MoveHolds decl (reading_takes decl front t object inv calls round number answer o)
    by None is = same
    by (Some site) is = read_counts_holds decl front t object inv calls round number site answer is here.0 here.1
takes_in_holds decl front (Appending object inv event calls round) (Some t) number answer here same =
    by (site_called calls number) refl
  where
    by : (o : Option ℕ) → site_called calls number ≡ o
        → MoveHolds decl (appending_takes decl front t object inv event calls round number answer o)
    by None is = same
    by (Some site) is =
        append_counts_holds decl front t object inv event calls round number site answer is here.0 here.1

pub answers_keep_hold : (decl : Declaration) (front : Front) (number : ℕ) (answer : Option Answer)
    → FrontHolds decl front
    → MoveHolds decl (takes decl front number answer)
answers_keep_hold decl front number answer h = takes_in_holds decl front front.doing front.transaction number answer h h

-- at the beginning, and where the transaction ends elsewhere

pub new_holds : (decl : Declaration) (client : ℕ) → FrontHolds decl (new_front client)
new_holds decl client = refl

pub ended_holds : (decl : Declaration) (front : Front) (clock epoch : ℕ) → FrontHolds decl (ended front clock epoch)
ended_holds decl front clock epoch = refl
