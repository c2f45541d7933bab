-- What holds of a front end holds after each command.
use Rattle.std.proofs.Common.{[], ◌≡◌, ℕ, ◌+◌, ◌<◌, ◌≤◌, nat_le, Bool, true, false, cond, List, ◌∷◌, ◌++◌, length}
use Rattle.std.proofs.Common.{Option, Some, None, refl, sym, ap, ◌∙◌, subst, arith, append_assoc}
use Rattle.std.specs.Prelude.{option_map, slice_get}
use Rattle.std.proofs.lemmas.Bool.{leb-false}
use Rattle.std.proofs.lemmas.List.{length-append}
use Rattle.qc_decl.specs.declared.declaration.Declaration.{Declaration}
use Rattle.qc_decl.specs.Vocabulary.{append_need_of, first_site, most_transaction_operations, read_need_of}
use Rattle.qc_entry.specs.declared.line.Op.{Op}
use Rattle.qc_msg.specs.declared.begun.Begun.{Begun}
use Rattle.qc_msg.specs.declared.call.Call.{Call}
use Rattle.qc_msg.specs.declared.step.Command.{Command}
use Rattle.qc_msg.specs.declared.step.Command.TheVariants as commands
use Rattle.qc_msg.specs.declared.reply.Reply.TheVariants as replies
use Rattle.qc_msg.specs.declared.reply.AbortCause.TheVariants as causes
use Rattle.qc_msg.specs.Vocabulary.{quiet, telling}
use Rattle.qc_plan.specs.declared.standing.Verdict.{Verdict}
use Rattle.qc_plan.specs.declared.standing.Verdict.TheVariants as verdicts
use Rattle.qc_plan.specs.Vocabulary.{RoundState, asking_all, start, verdict, wanted}
use Rattle.qc_view.specs.declared.view.View.{View}
use Rattle.qc_view.specs.Vocabulary.{with_own}
use Rattle.qc_front.specs.declared.doing.Doing.{Doing}
use Rattle.qc_front.specs.declared.doing.Doing.TheVariants.{Idle, Reading, Appending}
use Rattle.qc_front.specs.declared.front.Front.{Front}
use Rattle.qc_front.specs.declared.transaction.Transaction.{Transaction}
use Rattle.qc_front.specs.Vocabulary.{AreOpen, BegunHolds, DoingHolds, FrontHolds, FrontMove, IsRound, RecordsHold}
use Rattle.qc_front.specs.Vocabulary.{aborts, answer_of, answered, append_by, appends, begins, called, commits, fresh}
use Rattle.qc_front.specs.Vocabulary.{gives_up, moved, next_own, next_tx, op_of, performs, read_by, reads, resp_of}
use Rattle.qc_front.specs.Vocabulary.{round_for, sites_called, weights_of, with_event, with_view}
use Rattle.qc_front.proofs.Awaited.{asking_awaits, asking_round, asking_waits}
use Rattle.qc_front.proofs.Recording.{event_recorded, fresh_recorded, op_recorded}

-- a round that starts

pub started_round : (decl : Declaration) (front : Front) (t : Transaction) (need : ℕ)
    → IsRound decl front.client t.begun.epoch need (round_for decl front t need)
started_round decl front t need = record { weights = refl; need_is = refl; sites = refl }

no_calls_yet : (weights : List ℕ) (from need : ℕ) → AreOpen [] (start weights from need)
no_calls_yet weights from need = record { numbers = tt; sites = record { more = []; is = refl } }

-- a round that goes on

asking_calls : (calls : List Call) (r : RoundState) → AreOpen calls r → AreOpen calls (asking_all r (wanted r))
asking_calls calls r o = record {
  numbers = o.numbers;
  sites = record {
    more = o.sites.more ++ wanted r;
    is =
        sym (append_assoc (sites_called calls) o.sites.more (wanted r))
        ∙ ap (λ (ss : List ℕ). ss ++ wanted r) o.sites.is ∙ sym (asking_awaits r);
  };
}

room_left : (ops : List Op) (op : Op) → length ops < 16 → length (ops ++ op ∷ []) ≤ 16
room_left ops op few = let more : length (ops ++ op ∷ []) ≡ length ops + 1 = length-append ops (op ∷ []) in omega arith

pub view_keeps : (t : Transaction) (object : ℕ) (view : Option View) → (with_view t object view).begun ≡ t.begun
view_keeps t object None = refl
view_keeps t object (Some v) = refl

room_after : (t : Transaction) (object inv event resp : ℕ) → length t.begun.ops < 16
    → length (with_event t object inv event resp).begun.ops ≤ 16
room_after t object inv event resp few =
    subst (λ (b : Begun). length (b.ops ++ op_of object inv (Some resp) ∷ []) ≤ 16)
    (sym (view_keeps (record t { own = t.own ++ next_own t object event ∷ [] }) object
    (option_map (λ (v : View). with_own v event) (slice_get t.views object))))
    (room_left t.begun.ops (op_of object inv (Some resp)) few)

at_most : (many : ℕ) → many < 16 → many ≤ 16
at_most many few = omega arith

abbrev pub MoveHolds : Declaration → FrontMove → Type 0
MoveHolds decl move = FrontHolds decl move.front

append_by_holds : (decl : Declaration) (front : Front) (t : Transaction) (object inv event : ℕ) (calls : List Call)
    (r : RoundState) (v : Verdict) → verdict r ≡ v
    → RecordsHold decl t.views t.own t.begun.ops → length t.begun.ops < most_transaction_operations
    → answer_of decl t object inv ≡ Some event
    → IsRound decl front.client t.begun.epoch (append_need_of decl t.begun.epoch object event) r → AreOpen calls r
    → MoveHolds decl (append_by decl front t object inv event calls r v)
append_by_holds decl front t object inv event calls r verdicts.Waiting is records few chosen round calls_are = (
  records,
  record {
    room = few;
    chosen = chosen;
    round_is = asking_round decl front.client t.begun.epoch (append_need_of decl t.begun.epoch object event) r round;
    awaits = asking_waits r is;
    calls_are = asking_calls calls r calls_are;
  },
)
append_by_holds decl front t object inv event calls r verdicts.Met is records few chosen round calls_are = (
  event_recorded decl t object inv event (resp_of decl object event) records,
  room_after t object inv event (resp_of decl object event) few,
)
append_by_holds decl front t object inv event calls r (verdicts.Closed epoch site) is records few chosen round
    calls_are =
    (records, at_most (length t.begun.ops) few)
append_by_holds decl front t object inv event calls r (verdicts.Clash tx site) is records few chosen round calls_are =
    (records, at_most (length t.begun.ops) few)
append_by_holds decl front t object inv event calls r (verdicts.Short got need) is records few chosen round calls_are =
    (records, at_most (length t.begun.ops) few)

pub appends_holds : (decl : Declaration) (front : Front) (t : Transaction) (object inv event : ℕ) (calls : List Call)
    (r : RoundState)
    → RecordsHold decl t.views t.own t.begun.ops → length t.begun.ops < most_transaction_operations
    → answer_of decl t object inv ≡ Some event
    → IsRound decl front.client t.begun.epoch (append_need_of decl t.begun.epoch object event) r → AreOpen calls r
    → MoveHolds decl (appends decl front t object inv event calls r)
appends_holds decl front t object inv event calls r =
    append_by_holds decl front t object inv event calls r (verdict r) refl

answered_holds : (decl : Declaration) (front : Front) (t : Transaction) (object inv : ℕ) (event : Option ℕ)
    → answer_of decl t object inv ≡ event
    → RecordsHold decl t.views t.own t.begun.ops → length t.begun.ops < most_transaction_operations
    → MoveHolds decl (answered decl front t object inv event)
answered_holds decl front t object inv None chosen records few = (
  op_recorded decl t.views t.own t.begun.ops (op_of object inv None) records,
  room_left t.begun.ops (op_of object inv None) few,
)
answered_holds decl front t object inv (Some event) chosen records few =
    let need : ℕ = append_need_of decl t.begun.epoch object event in
    appends_holds decl front t object inv event [] (round_for decl front t need) records few chosen
    (started_round decl front t need)
    (no_calls_yet (weights_of decl t.begun.epoch) (first_site decl front.client) need)

read_by_holds : (decl : Declaration) (front : Front) (t : Transaction) (object inv : ℕ) (calls : List Call)
    (r : RoundState) (v : Verdict) → verdict r ≡ v
    → RecordsHold decl t.views t.own t.begun.ops → length t.begun.ops < most_transaction_operations
    → IsRound decl front.client t.begun.epoch (read_need_of decl t.begun.epoch object inv) r → AreOpen calls r
    → MoveHolds decl (read_by decl front t object inv calls r v)
read_by_holds decl front t object inv calls r verdicts.Waiting is records few round calls_are = (
  records,
  record {
    room = few;
    round_is = asking_round decl front.client t.begun.epoch (read_need_of decl t.begun.epoch object inv) r round;
    awaits = asking_waits r is;
    calls_are = asking_calls calls r calls_are;
  },
)
read_by_holds decl front t object inv calls r verdicts.Met is records few round calls_are =
    answered_holds decl front t object inv (answer_of decl t object inv) refl records few
read_by_holds decl front t object inv calls r (verdicts.Closed epoch site) is records few round calls_are =
    (records, at_most (length t.begun.ops) few)
read_by_holds decl front t object inv calls r (verdicts.Clash tx site) is records few round calls_are =
    (records, at_most (length t.begun.ops) few)
read_by_holds decl front t object inv calls r (verdicts.Short got need) is records few round calls_are =
    (records, at_most (length t.begun.ops) few)

pub reads_holds : (decl : Declaration) (front : Front) (t : Transaction) (object inv : ℕ) (calls : List Call)
    (r : RoundState)
    → RecordsHold decl t.views t.own t.begun.ops → length t.begun.ops < most_transaction_operations
    → IsRound decl front.client t.begun.epoch (read_need_of decl t.begun.epoch object inv) r → AreOpen calls r
    → MoveHolds decl (reads decl front t object inv calls r)
reads_holds decl front t object inv calls r = read_by_holds decl front t object inv calls r (verdict r) refl

-- commands

-- whatever runs, a transaction has at most 16 operations
room_of : (decl : Declaration) (client : ℕ) (t : Transaction) (doing : Doing) → DoingHolds decl client t doing
    → length t.begun.ops ≤ most_transaction_operations
room_of decl client t Idle h = h
room_of decl client t (Reading object inv calls round) h = at_most (length t.begun.ops) h.room
room_of decl client t (Appending object inv event calls round) h = at_most (length t.begun.ops) h.room

performs_holds : (decl : Declaration) (front : Front) (t : Option Transaction) (object inv : ℕ)
    → BegunHolds decl front.client t front.doing → MoveHolds decl (moved front quiet)
    → MoveHolds decl (performs decl front t object inv)
performs_holds decl front None object inv here same = same
performs_holds decl front (Some t) object inv here same =
    by t.begun.doomed (nat_le most_transaction_operations (length t.begun.ops)) refl
  where
    need : ℕ
    need = read_need_of decl t.begun.epoch object inv

    by : (doomed long : Bool) → nat_le most_transaction_operations (length t.begun.ops) ≡ long
        → MoveHolds decl
        (cond doomed (moved front (telling replies.Doomed))
        (cond long (moved front (telling replies.TooLong))
        (reads decl front t object inv []
        (round_for decl front t (read_need_of decl t.begun.epoch object inv)))))
    by true long is = same
    by false true is = same
    by false false is =
        reads_holds decl front t object inv [] (round_for decl front t (read_need_of decl t.begun.epoch object inv))
        here.0 (leb-false 16 (length t.begun.ops) is)
        (started_round decl front t (read_need_of decl t.begun.epoch object inv))
        (no_calls_yet (weights_of decl t.begun.epoch) (first_site decl front.client)
        (read_need_of decl t.begun.epoch object inv))

begins_holds : (decl : Declaration) (front : Front) (t : Option Transaction)
    → BegunHolds decl front.client t front.doing → MoveHolds decl (moved front quiet)
    → MoveHolds decl (begins decl front t)
begins_holds decl front (Some t) here same = same
begins_holds decl front None here same = (
  fresh_recorded decl,
  subst (λ (d : Doing). DoingHolds decl front.client (fresh decl (next_tx front) front.epoch) d) (sym here)
      (omega arith),
)

commits_holds : (decl : Declaration) (front : Front) (t : Option Transaction) → MoveHolds decl (moved front quiet)
    → MoveHolds decl (commits front t)
commits_holds decl front None same = same
commits_holds decl front (Some t) same = by t.begun.doomed
  where
    by : (doomed : Bool)
        → MoveHolds decl (cond doomed (gives_up front t (replies.Aborted causes.Doomed)) (moved front quiet))
    by true = refl
    by false = same

aborts_holds : (decl : Declaration) (front : Front) (t : Option Transaction) → MoveHolds decl (moved front quiet)
    → MoveHolds decl (aborts front t)
aborts_holds decl front None same = same
aborts_holds decl front (Some t) same = refl

pub commands_keep_hold : (decl : Declaration) (front : Front) (command : Command) → FrontHolds decl front
    → MoveHolds decl (called decl front command)
commands_keep_hold decl front commands.Begin h = begins_holds decl front front.transaction h h
commands_keep_hold decl front (commands.Do object inv) h = performs_holds decl front front.transaction object inv h h
commands_keep_hold decl front commands.Commit h = commits_holds decl front front.transaction h
commands_keep_hold decl front commands.Abort h = aborts_holds decl front front.transaction h
commands_keep_hold decl front (commands.Epoch number) h = h
