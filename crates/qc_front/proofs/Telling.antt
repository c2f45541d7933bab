-- A `do` is told what its round came to.
use Rattle.std.proofs.Common.{◌≡◌, ℕ, ◌≤◌, ◌<◌, nat_le, Bool, true, false, cond, ◌⊎◌, inl, inr, List, [], ◌∷◌, length}
use Rattle.std.proofs.Common.{Option, Some, None, refl, sym, ap, ◌∙◌, subst}
use Rattle.std.proofs.lemmas.Bool.{leb-true}
use Rattle.qc_decl.specs.declared.declaration.Declaration.{Declaration}
use Rattle.qc_decl.specs.Vocabulary.{append_need_of, most_transaction_operations, read_need_of}
use Rattle.qc_msg.specs.declared.call.Call.{Call}
use Rattle.qc_msg.specs.declared.message.Answer.{Answer}
use Rattle.qc_msg.specs.declared.reply.Reply.TheVariants as replies
use Rattle.qc_msg.specs.Vocabulary.{quiet, site_called, telling, without_call}
use Rattle.qc_plan.specs.declared.standing.Verdict.{Verdict}
use Rattle.qc_plan.specs.declared.standing.Verdict.TheVariants as verdicts
use Rattle.qc_plan.specs.Vocabulary.{RoundState, note, verdict}
use Rattle.qc_front.specs.declared.doing.Doing.{Doing}
use Rattle.qc_front.specs.declared.doing.Doing.TheVariants.{Idle, Reading, Appending}
use Rattle.qc_front.specs.declared.front.Front.{Front}
use Rattle.qc_front.specs.declared.transaction.Transaction.{Transaction}
use Rattle.qc_front.specs.Vocabulary.{AppendCame, AppendingHolds, BegunHolds, DoTold, FrontHolds, FrontMove, IsRound}
use Rattle.qc_front.specs.Vocabulary.{ReadCame, ReadingHolds, answer_of, answered, append_by, appended_with}
use Rattle.qc_front.specs.Vocabulary.{appending_takes, learns, moved, performs, read_by, read_with, reading_takes}
use Rattle.qc_front.specs.Vocabulary.{reads, round_for, standing_of, takes, takes_in}
use Rattle.qc_front.proofs.CommandsKeep.{started_round}
use Rattle.qc_front.proofs.Keeping.{KeepsOps, appended_is, read_keeps}
use Rattle.qc_front.proofs.Learning.{client_kept}
use Rattle.qc_front.proofs.NotedRounds.{note_round}

module _ (decl : Declaration) (before : Option Transaction) where
  abbrev Told : ℕ → FrontMove → Type 0
  Told client move = DoTold decl client before move.front.transaction move.turn.told

  append_by_told : (front : Front) (t : Transaction) (object inv event : ℕ) (calls : List Call) (r : RoundState)
      (v : Verdict) → verdict r ≡ v → answer_of decl t object inv ≡ Some event
      → IsRound decl front.client t.begun.epoch (append_need_of decl t.begun.epoch object event) r
      → Told front.client (append_by decl front t object inv event calls r v)
  append_by_told front t object inv event calls r verdicts.Waiting is chosen round = tt
  append_by_told front t object inv event calls r verdicts.Met is chosen round =
      record {
        t = t;
        object = object;
        inv = inv;
        event = event;
        appended = record { chosen = chosen; round = r; round_is = round; came = is };
        told = refl;
        recorded = refl;
      }
  append_by_told front t object inv event calls r (verdicts.Closed epoch site) is chosen round =
      inr (record {
        t = t;
        object = object;
        inv = inv;
        event = event;
        appended = record { chosen = chosen; round = r; round_is = round; came = is };
        dooms = refl;
      })
  append_by_told front t object inv event calls r (verdicts.Clash tx site) is chosen round =
      inr (record {
        t = t;
        object = object;
        inv = inv;
        event = event;
        appended = record { chosen = chosen; round = r; round_is = round; came = is };
        dooms = refl;
      })
  append_by_told front t object inv event calls r (verdicts.Short got need) is chosen round =
      record {
        t = t;
        object = object;
        inv = inv;
        event = event;
        appended = record { chosen = chosen; round = r; round_is = round; came = is };
        dooms = refl;
      }

  answered_told : (front : Front) (t : Transaction) (object inv : ℕ) (event : Option ℕ)
      → answer_of decl t object inv ≡ event → ReadCame decl front.client t object inv verdicts.Met
      → Told front.client (answered decl front t object inv event)
  answered_told front t object inv None chosen read =
      record { t = t; object = object; inv = inv; read = read; no_answer = chosen; recorded = refl }
  answered_told front t object inv (Some event) chosen read =
      append_by_told front t object inv event []
      (round_for decl front t (append_need_of decl t.begun.epoch object event))
      (verdict (round_for decl front t (append_need_of decl t.begun.epoch object event))) refl chosen
      (started_round decl front t (append_need_of decl t.begun.epoch object event))

  read_by_told : (front : Front) (t : Transaction) (object inv : ℕ) (calls : List Call) (r : RoundState) (v : Verdict)
      → verdict r ≡ v
      → IsRound decl front.client t.begun.epoch (read_need_of decl t.begun.epoch object inv) r
      → Told front.client (read_by decl front t object inv calls r v)
  read_by_told front t object inv calls r verdicts.Waiting is round = tt
  read_by_told front t object inv calls r verdicts.Met is round =
      answered_told front t object inv (answer_of decl t object inv) refl
      (record { round = r; round_is = round; came = is })
  read_by_told front t object inv calls r (verdicts.Closed epoch site) is round =
      inl (record {
        t = t;
        object = object;
        inv = inv;
        read = record { round = r; round_is = round; came = is };
        kept = refl;
      })
  read_by_told front t object inv calls r (verdicts.Clash tx site) is round =
      inl (record {
        t = t;
        object = object;
        inv = inv;
        read = record { round = r; round_is = round; came = is };
        kept = refl;
      })
  read_by_told front t object inv calls r (verdicts.Short got need) is round =
      record {
        t = t;
        object = object;
        inv = inv;
        read = record { round = r; round_is = round; came = is };
        kept = refl;
      }

  performs_told : (front : Front) (t : Option Transaction) (object inv : ℕ) → before ≡ t
      → Told front.client (performs decl front t object inv)
  performs_told front None object inv is = is
  performs_told front (Some t) object inv is =
      by t.begun.doomed refl (nat_le most_transaction_operations (length t.begun.ops)) refl
    where
      by : (doomed : Bool) → t.begun.doomed ≡ doomed → (long : Bool)
          → nat_le most_transaction_operations (length t.begun.ops) ≡ long
          → Told front.client (cond doomed (moved front (telling replies.Doomed))
          (cond long (moved front (telling replies.TooLong))
          (reads decl front t object inv [] (round_for decl front t (read_need_of decl t.begun.epoch object inv)))))
      by true dooms long size = record { t = t; begun = is; dooms = dooms }
      by false dooms true size = record {
        t = t;
        begun = is;
        long = leb-true most_transaction_operations (length t.begun.ops) size;
      }
      by false dooms false size =
          read_by_told front t object inv [] (round_for decl front t (read_need_of decl t.begun.epoch object inv))
          (verdict (round_for decl front t (read_need_of decl t.begun.epoch object inv))) refl
          (started_round decl front t (read_need_of decl t.begun.epoch object inv))

pub do_told : (decl : Declaration) (front : Front) (object inv : ℕ)
    → DoTold decl front.client front.transaction (performs decl front front.transaction object inv).front.transaction
    (performs decl front front.transaction object inv).turn.told
do_told decl front object inv = performs_told decl front.transaction front front.transaction object inv refl

-- answers

takes_in_told : (decl : Declaration) (front : Front) (doing : Doing) (t : Option Transaction) (number : ℕ)
    (answer : Option Answer) → BegunHolds decl front.client t doing
    → DoTold decl front.client front.transaction (takes_in decl front doing t number answer).front.transaction
    (takes_in decl front doing t number answer).turn.told
takes_in_told decl front doing None number answer h = tt
takes_in_told decl front Idle (Some t) number answer h = tt
takes_in_told decl front (Reading object inv calls round) (Some t) number answer h = by (site_called calls number)
  where
    by : (o : Option ℕ) → DoTold decl front.client front.transaction
        (reading_takes decl front t object inv calls round number answer o).front.transaction
        (reading_takes decl front t object inv calls round number answer o).turn.told
    by None = tt
    by (Some site) =
        let keeps : KeepsOps t (read_with t site object answer) = read_keeps t site object answer in
        let noted : IsRound decl front.client t.begun.epoch (read_need_of decl t.begun.epoch object inv)
        (note round site (standing_of answer)) =
        note_round decl front.client t.begun.epoch (read_need_of decl t.begun.epoch object inv) round site
        (standing_of answer) h.1.round_is in
        let same : IsRound decl front.client (read_with t site object answer).begun.epoch
        (read_need_of decl (read_with t site object answer).begun.epoch object inv)
        (note round site (standing_of answer)) =
        subst (λ (epoch : ℕ). IsRound decl front.client epoch (read_need_of decl epoch object inv)
        (note round site (standing_of answer))) (sym keeps.epoch) noted in
        subst (λ (client : ℕ). DoTold decl client front.transaction
        (read_by decl (learns front answer) (read_with t site object answer) object inv (without_call calls number)
        (note round site (standing_of answer)) (verdict (note round site (standing_of answer)))).front.transaction
        (read_by decl (learns front answer) (read_with t site object answer) object inv (without_call calls number)
        (note round site (standing_of answer)) (verdict (note round site (standing_of answer)))).turn.told)
        (client_kept front answer)
        (read_by_told decl front.transaction (learns front answer) (read_with t site object answer) object inv
        (without_call calls number) (note round site (standing_of answer))
        (verdict (note round site (standing_of answer))) refl
        (subst (λ (client : ℕ). IsRound decl client (read_with t site object answer).begun.epoch
        (read_need_of decl (read_with t site object answer).begun.epoch object inv)
        (note round site (standing_of answer))) (sym (client_kept front answer)) same))
takes_in_told decl front (Appending object inv event calls round) (Some t) number answer h =
    by (site_called calls number)
  where
    by : (o : Option ℕ) → DoTold decl front.client front.transaction
        (appending_takes decl front t object inv event calls round number answer o).front.transaction
        (appending_takes decl front t object inv event calls round number answer o).turn.told
    by None = tt
    by (Some site) =
        let noted : IsRound decl front.client t.begun.epoch (append_need_of decl t.begun.epoch object event)
        (note round site (standing_of answer)) =
        note_round decl front.client t.begun.epoch (append_need_of decl t.begun.epoch object event) round site
        (standing_of answer) h.1.round_is in
        let same : IsRound decl front.client (appended_with t site answer).begun.epoch
        (append_need_of decl (appended_with t site answer).begun.epoch object event)
        (note round site (standing_of answer)) =
        subst (λ (u : Transaction). IsRound decl front.client u.begun.epoch
        (append_need_of decl u.begun.epoch object event) (note round site (standing_of answer)))
        (sym (appended_is t site answer)) noted in
        subst (λ (client : ℕ). DoTold decl client front.transaction
        (append_by decl (learns front answer) (appended_with t site answer) object inv event (without_call calls number)
        (note round site (standing_of answer)) (verdict (note round site (standing_of answer)))).front.transaction
        (append_by decl (learns front answer) (appended_with t site answer) object inv event (without_call calls number)
        (note round site (standing_of answer)) (verdict (note round site (standing_of answer)))).turn.told)
        (client_kept front answer)
        (append_by_told decl front.transaction (learns front answer) (appended_with t site answer) object inv event
        (without_call calls number) (note round site (standing_of answer))
        (verdict (note round site (standing_of answer))) refl
        (subst (λ (u : Transaction). answer_of decl u object inv ≡ Some event)
        (sym (appended_is t site answer)) h.1.chosen)
        (subst (λ (client : ℕ). IsRound decl client (appended_with t site answer).begun.epoch
        (append_need_of decl (appended_with t site answer).begun.epoch object event)
        (note round site (standing_of answer))) (sym (client_kept front answer)) same))

pub takes_told : (decl : Declaration) (front : Front) (number : ℕ) (answer : Option Answer) → FrontHolds decl front
    → DoTold decl front.client front.transaction (takes decl front number answer).front.transaction
    (takes decl front number answer).turn.told
takes_told decl front number answer h = takes_in_told decl front front.doing front.transaction number answer h
