-- A transaction knows each site that it asked to hold something, and its end is told to them all: of a front end's
-- moves.
use Rattle.std.proofs.Common.{[], ◌≡◌, ℕ, nat_le, Bool, true, false, cond, List, ◌∷◌, ◌++◌, length, Option, Some, None}
use Rattle.std.proofs.Common.{option_map, refl, ap, ◌∙◌, subst}
use Rattle.std.specs.Prelude.{slice_get, option_and_then}
use Rattle.qc_stamp.specs.declared.stamp.TxId.{TxId}
use Rattle.qc_decl.specs.declared.declaration.Declaration.{Declaration}
use Rattle.qc_decl.specs.Vocabulary.{append_need_of, most_transaction_operations, read_need_of}
use Rattle.qc_plan.specs.declared.standing.Verdict.{Verdict}
use Rattle.qc_plan.specs.declared.standing.Verdict.TheVariants as verdicts
use Rattle.qc_plan.specs.Vocabulary.{RoundState, note, verdict, wanted}
use Rattle.qc_msg.specs.declared.begun.Begun.{Begun}
use Rattle.qc_msg.specs.declared.call.Call.{Call}
use Rattle.qc_msg.specs.declared.message.Answer.{Answer}
use Rattle.qc_msg.specs.declared.message.Outcome.TheVariants.{Aborted}
use Rattle.qc_msg.specs.declared.reply.Reply.{Reply}
use Rattle.qc_msg.specs.declared.reply.Reply.TheVariants as replies
use Rattle.qc_msg.specs.declared.reply.AbortCause.TheVariants as causes
use Rattle.qc_msg.specs.declared.step.Command.{Command}
use Rattle.qc_msg.specs.declared.step.Command.TheVariants as commands
use Rattle.qc_msg.specs.declared.turn.Posting.{Posting}
use Rattle.qc_msg.specs.declared.turn.Turn.{Turn}
use Rattle.qc_msg.specs.Vocabulary.{quiet, site_called, telling, without_call, granted_in}
use Rattle.qc_msg.specs.declared.payload.Grant.{Grant}
use Rattle.qc_view.specs.declared.view.View.{View}
use Rattle.qc_view.specs.Vocabulary.{with_log, with_own}
use Rattle.qc_front.specs.declared.doing.Doing.{Doing}
use Rattle.qc_front.specs.declared.doing.Doing.TheVariants.{Idle, Reading, Appending}
use Rattle.qc_front.specs.declared.front.Front.{Front}
use Rattle.qc_front.specs.declared.transaction.Transaction.{Transaction}
use Rattle.qc_front.specs.Vocabulary.{FrontMove, aborts, answer_of, answered, append_by, append_want, appended_with}
use Rattle.qc_front.specs.Vocabulary.{appending_takes, begins, doomed, fresh, gives_up, learns, lived, next_own}
use Rattle.qc_front.specs.Vocabulary.{next_tx, op_of, performs, read_by, read_want, read_with, reading_takes, reads}
use Rattle.qc_front.specs.Vocabulary.{resp_of, round_for, standing_of, with_event, with_op, with_granted}
use Rattle.qc_front.specs.Conduct as fronts
use Rattle.qc_front.specs.Front as front_moves
use Rattle.qc_front.proofs.CommandsKeep.{view_keeps}
use Rattle.qc_front.proofs.Keeping.{appended_is}
use Rattle.laws_guarantees.proofs.SitesTold.{open_posted, HasAsked, like, silent, asks, ends}
use Rattle.std.specs.Option.{option_map_or}

module _ (s : ℕ) (x : TxId) where
  abbrev Keeps : Option Transaction → Option Transaction → List Posting → Type 0
  Keeps old new ps =
      (before : Bool) → (before ≡ true → HasAsked s x old) → open_posted s x before ps ≡ true → HasAsked s x new

  -- a front end's move

  abbrev Front_keeps : Option Transaction → FrontMove → Type 0
  Front_keeps old m = Keeps old m.front.transaction m.turn.sends

  module _ (decl : Declaration) (front : Front) where
    -- from a transaction with the same name and sites
    goes : (t u : Transaction) (ps : List Posting) → ps ≡ [] → u.begun.tx ≡ t.begun.tx → u.begun.asked ≡ t.begun.asked
        → Keeps (Some t) (Some u) ps
    goes t u ps none tx asked = silent s x (Some t) (Some u) ps none (like s x t u tx asked)

    event_tx : (u : Transaction) (object inv event : ℕ)
        → (with_event u object inv event (resp_of decl object event)).begun.tx ≡ u.begun.tx
    event_tx u object inv event =
        ap (λ (b : Begun). b.tx)
        (view_keeps (record u { own = u.own ++ next_own u object event ∷ [] }) object
        (option_map (λ (v : View). with_own v event) (slice_get u.views object)))

    event_asked : (u : Transaction) (object inv event : ℕ)
        → (with_event u object inv event (resp_of decl object event)).begun.asked ≡ u.begun.asked
    event_asked u object inv event =
        ap (λ (b : Begun). b.asked)
        (view_keeps (record u { own = u.own ++ next_own u object event ∷ [] }) object
        (option_map (λ (v : View). with_own v event) (slice_get u.views object)))

    append_keeps : (t u : Transaction) (object inv event : ℕ) (calls : List Call) (r : RoundState) (v : Verdict)
        → u.begun.tx ≡ t.begun.tx → u.begun.asked ≡ t.begun.asked
        → Front_keeps (Some t) (append_by decl front u object inv event calls r v)
    append_keeps t u object inv event calls r verdicts.Waiting tx asked =
        asks s x t u (append_want decl u object event) (wanted r) tx asked
    append_keeps t u object inv event calls r verdicts.Met tx asked =
        goes t (with_event u object inv event (resp_of decl object event)) [] refl (event_tx u object inv event ∙ tx)
        (event_asked u object inv event ∙ asked)
    append_keeps t u object inv event calls r (verdicts.Closed epoch site) tx asked = goes t (doomed u) [] refl tx asked
    append_keeps t u object inv event calls r (verdicts.Clash other site) tx asked = goes t (doomed u) [] refl tx asked
    append_keeps t u object inv event calls r (verdicts.Short got need) tx asked = goes t (doomed u) [] refl tx asked

    answered_keeps : (t u : Transaction) (object inv : ℕ) (event : Option ℕ) → u.begun.tx ≡ t.begun.tx
        → u.begun.asked ≡ t.begun.asked → Front_keeps (Some t) (answered decl front u object inv event)
    answered_keeps t u object inv None tx asked = goes t (with_op u (op_of object inv None)) [] refl tx asked
    answered_keeps t u object inv (Some event) tx asked =
        append_keeps t u object inv event [] (round_for decl front u (append_need_of decl u.begun.epoch object event))
        (verdict (round_for decl front u (append_need_of decl u.begun.epoch object event))) tx asked

    read_keeps : (t u : Transaction) (object inv : ℕ) (calls : List Call) (r : RoundState) (v : Verdict)
        → u.begun.tx ≡ t.begun.tx → u.begun.asked ≡ t.begun.asked
        → Front_keeps (Some t) (read_by decl front u object inv calls r v)
    read_keeps t u object inv calls r verdicts.Waiting tx asked =
        asks s x t u (read_want object inv) (wanted r) tx asked
    read_keeps t u object inv calls r verdicts.Met tx asked =
        answered_keeps t u object inv (answer_of decl u object inv) tx asked
    read_keeps t u object inv calls r (verdicts.Closed epoch site) tx asked = goes t u [] refl tx asked
    read_keeps t u object inv calls r (verdicts.Clash other site) tx asked = goes t u [] refl tx asked
    read_keeps t u object inv calls r (verdicts.Short got need) tx asked = goes t u [] refl tx asked

  module _ (decl : Declaration) (front : Front) where
    still : (turn : Turn) → turn.sends ≡ [] → Front_keeps front.transaction (front_moves.moved front turn)
    still turn none = silent s x front.transaction front.transaction turn.sends none (λ h. h)

    still_at : (o : Option Transaction) (turn : Turn) → front.transaction ≡ o → turn.sends ≡ []
        → Front_keeps o (front_moves.moved front turn)
    still_at o turn is none =
        subst (λ (p : Option Transaction). Front_keeps p (front_moves.moved front turn)) is (still turn none)

    gives_keeps : (t : Transaction) (reply : Reply) → Front_keeps (Some t) (gives_up front t reply)
    gives_keeps t reply = ends s x t.begun Aborted (Some t) None refl refl

    performs_keeps : (o : Option Transaction) (object inv : ℕ) → front.transaction ≡ o
        → Front_keeps o (performs decl front o object inv)
    performs_keeps None object inv is = still_at None (telling replies.NoTransaction) is refl
    performs_keeps (Some t) object inv is = by t.begun.doomed (nat_le most_transaction_operations (length t.begun.ops))
      where
        by : (dead long : Bool)
            → Front_keeps (Some t)
            (cond dead (front_moves.moved front (telling replies.Doomed))
            (cond long (front_moves.moved front (telling replies.TooLong))
            (reads decl front t object inv []
            (round_for decl front t (read_need_of decl t.begun.epoch object inv)))))
        by true long = still_at (Some t) (telling replies.Doomed) is refl
        by false true = still_at (Some t) (telling replies.TooLong) is refl
        by false false =
            read_keeps decl front t t object inv []
            (round_for decl front t (read_need_of decl t.begun.epoch object inv))
            (verdict (round_for decl front t (read_need_of decl t.begun.epoch object inv))) refl refl

    begins_keeps : (o : Option Transaction) → front.transaction ≡ o → Front_keeps o (begins decl front o)
    begins_keeps None is =
        silent s x None (Some (fresh decl (next_tx front) front.epoch)) [] refl
        (λ h. absurd (let no : None ≡ Some h.t = h.is in let never : ⊥ = cc in never))
    begins_keeps (Some t) is = still_at (Some t) (telling (replies.Already t.begun.tx)) is refl

    commits_keeps : (o : Option Transaction) → front.transaction ≡ o → Front_keeps o (fronts.commits front o)
    commits_keeps None is = still_at None (telling replies.NoTransaction) is refl
    commits_keeps (Some t) is = by t.begun.doomed
      where
        by : (dead : Bool)
            → Front_keeps (Some t)
            (cond dead (gives_up front t (replies.Aborted causes.Doomed)) (front_moves.moved front quiet))
        by true = gives_keeps t (replies.Aborted causes.Doomed)
        by false = still_at (Some t) quiet is refl

    aborts_keeps : (o : Option Transaction) → front.transaction ≡ o → Front_keeps o (aborts front o)
    aborts_keeps None is = still_at None (telling replies.NoTransaction) is refl
    aborts_keeps (Some t) is = gives_keeps t replies.Dropped

    pub called_keeps : (command : Command) → Front_keeps front.transaction (fronts.called decl front command)
    called_keeps commands.Begin = begins_keeps front.transaction refl
    called_keeps (commands.Do object inv) = performs_keeps front.transaction object inv refl
    called_keeps commands.Commit = commits_keeps front.transaction refl
    called_keeps commands.Abort = aborts_keeps front.transaction refl
    called_keeps (commands.Epoch number) = still quiet refl

    read_begun : (t : Transaction) (site object : ℕ) (answer : Option Answer)
        → ((read_with t site object answer).begun.tx ≡ t.begun.tx)
        × ((read_with t site object answer).begun.asked ≡ t.begun.asked)
    read_begun t site object answer = by (option_and_then granted_in answer)
      where
        by : (o : Option Grant)
            → ((option_map_or (λ (g : Grant). with_granted (lived t site g.life) object g.log) o t).begun.tx
            ≡ t.begun.tx)
            × ((option_map_or (λ (g : Grant). with_granted (lived t site g.life) object g.log) o t).begun.asked
            ≡ t.begun.asked)
        by None = (refl, refl)
        by (Some g) = (
          ap (λ (b : Begun). b.tx) (view_keeps (lived t site g.life) object
              (option_map (λ (v : View). with_log v g.log) (slice_get t.views object))),
          ap (λ (b : Begun). b.asked) (view_keeps (lived t site g.life) object
              (option_map (λ (v : View). with_log v g.log) (slice_get t.views object))),
        )

    pub takes_keeps : (doing : Doing) (o : Option Transaction) (number : ℕ) (answer : Option Answer)
        → front.transaction ≡ o → Front_keeps o (fronts.takes_in decl front doing o number answer)
    takes_keeps doing None number answer is = still_at None quiet is refl
    takes_keeps Idle (Some t) number answer is = still_at (Some t) quiet is refl
    takes_keeps (Reading object inv calls round) (Some t) number answer is = by (site_called calls number)
      where
        by : (o : Option ℕ) → Front_keeps (Some t) (reading_takes decl front t object inv calls round number answer o)
        by None = still_at (Some t) quiet is refl
        by (Some site) =
            read_keeps decl (learns front answer) t (read_with t site object answer) object inv
            (without_call calls number) (note round site (standing_of answer))
            (verdict (note round site (standing_of answer)))
            (read_begun t site object answer).0 (read_begun t site object answer).1
    takes_keeps (Appending object inv event calls round) (Some t) number answer is = by (site_called calls number)
      where
        by : (o : Option ℕ)
            → Front_keeps (Some t) (appending_takes decl front t object inv event calls round number answer o)
        by None = still_at (Some t) quiet is refl
        by (Some site) =
            append_keeps decl (learns front answer) t (appended_with t site answer) object inv event
            (without_call calls number) (note round site (standing_of answer))
            (verdict (note round site (standing_of answer)))
            (ap (λ (u : Transaction). u.begun.tx) (appended_is t site answer))
            (ap (λ (u : Transaction). u.begun.asked) (appended_is t site answer))
