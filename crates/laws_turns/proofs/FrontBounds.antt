-- What a front end becomes stays within a bound that what it takes keeps to.
use Rattle.std.proofs.Common.{[], ◌≡◌, ℕ, zero, suc, ◌≤◌, max, Bool, true, false, cond, nat_le, List, ◌∷◌, ◌++◌}
use Rattle.std.proofs.Common.{length, replicate, Option, Some, None, option_map, refl, arith}
use Rattle.std.specs.Prelude.{slice_get, max, option_and_then}
use Rattle.std.specs.Option.{option_map_or}
use Rattle.qc_list.proofs.Members.{every-at, every-weaker}
use Rattle.qc_entry.specs.declared.line.Line.{Line}
use Rattle.qc_entry.proofs.Union.{every-union}
use Rattle.qc_decl.specs.declared.declaration.Declaration.{Declaration}
use Rattle.qc_decl.specs.Vocabulary.{append_need_of, most_transaction_operations, read_need_of}
use Rattle.qc_msg.specs.declared.call.Call.{Call}
use Rattle.qc_msg.specs.declared.message.Answer.{Answer}
use Rattle.qc_msg.specs.declared.reply.Reply.TheVariants as replies
use Rattle.qc_msg.specs.declared.reply.AbortCause.TheVariants as causes
use Rattle.qc_msg.specs.Vocabulary.{quiet, site_called, telling, without_call, closed_in, granted_in}
use Rattle.qc_msg.specs.declared.payload.Grant.{Grant}
use Rattle.qc_plan.specs.Vocabulary.{RoundState, note, verdict}
use Rattle.qc_plan.specs.declared.standing.Verdict.{Verdict}
use Rattle.qc_plan.specs.declared.standing.Verdict.TheVariants as verdicts
use Rattle.qc_view.specs.declared.view.View.{View}
use Rattle.qc_view.specs.Vocabulary.{empty_view, with_log, with_own}
use Rattle.qc_front.specs.declared.doing.Doing.{Doing}
use Rattle.qc_front.specs.declared.doing.Doing.TheVariants.{Idle, Reading, Appending}
use Rattle.qc_front.specs.declared.front.Front.{Front}
use Rattle.qc_front.specs.declared.transaction.Transaction.{Transaction}
use Rattle.qc_front.specs.Vocabulary.{aborts, answer_of, answered, append_by, appended_with, appending_takes, commits}
use Rattle.qc_front.specs.Vocabulary.{gives_up, learns, lived, moved, next_own, performs, read_by, read_with}
use Rattle.qc_front.specs.Vocabulary.{reading_takes, reads, resp_of, round_for, standing_of, takes_in, with_event}
use Rattle.qc_front.specs.Vocabulary.{with_view, with_granted}
use Rattle.laws_turns.specs.Vocabulary.{FrontWithin, LinesWithin, TransactionWithin, ViewsWithin}
use Rattle.laws_turns.proofs.DesksWithin.{CameWithin, answer_read}
use Rattle.laws_turns.proofs.Greater.{lines-le}
use Rattle.laws_turns.proofs.AnswerCases.{appended_cases}
use Rattle.laws_turns.proofs.ReadingCases.{mapped, mapped_by}
use Rattle.qc_list.proofs.Places.{every-set}

-- a greater bound

views-le : (low high : ℕ) (views : List View) → low ≤ high → ViewsWithin low views → ViewsWithin high views
views-le low high views le =
    every-weaker (λ (v : View). LinesWithin low v.log) (λ (v : View). LinesWithin high v.log)
    (λ v here. lines-le low high le v.log here) views

transaction-le : (low high : ℕ) (t : Option Transaction) → low ≤ high → TransactionWithin low t
    → TransactionWithin high t
transaction-le low high None le w = tt
transaction-le low high (Some t) le w = views-le low high t.views le w

pub front-le : (low high : ℕ) (front : Front) → low ≤ high → FrontWithin low front → FrontWithin high front
front-le low high front le w = record {
  clock = (let c : front.clock.value ≤ low = w.clock in omega arith);
  count = (let n : front.count ≤ low = w.count in omega arith);
  views = transaction-le low high front.transaction le w.views;
}

-- views

pub no_lines : (bound n : ℕ) → ViewsWithin bound (replicate n empty_view)
no_lines bound zero = tt
no_lines bound (suc n) = (tt, no_lines bound n)

module _ (bound : ℕ) where
  -- another view of an object
  abbrev pub ViewWithin : Option View → Type 0
  ViewWithin None = Unit {0}
  ViewWithin (Some v) = LinesWithin bound v.log

  view-within : (t : Transaction) (object : ℕ) (o : Option View) → ViewsWithin bound t.views → ViewWithin o
      → ViewsWithin bound (with_view t object o).views
  view-within t object None w here = w
  view-within t object (Some v) w here = every-set (λ (v : View). LinesWithin bound v.log) t.views object v here w

  pub old-within : (views : List View) (object : ℕ) (o : Option View) → slice_get views object ≡ o
      → ViewsWithin bound views
      → ViewWithin o
  old-within views object None is w = tt
  old-within views object (Some v) is w = every-at (λ (v : View). LinesWithin bound v.log) views object v w is

  owned : (o : Option View) (event : ℕ) → ViewWithin o → ViewWithin (option_map (λ (v : View). with_own v event) o)
  owned None event here = tt
  owned (Some v) event here = here

  logged : (o : Option View) (log : List Line) → ViewWithin o → LinesWithin bound log
      → ViewWithin (option_map (λ (v : View). with_log v log) o)
  logged None log here lines = tt
  logged (Some v) log here lines = every-union (λ (l : Line). l.stamp.clock ≤ bound) v.log log here lines

  event-within : (t : Transaction) (object inv event resp : ℕ) → ViewsWithin bound t.views
      → ViewsWithin bound (with_event t object inv event resp).views
  event-within t object inv event resp w =
      let old : ViewWithin (slice_get t.views object) = old-within t.views object (slice_get t.views object) refl w in
      view-within (record t { own = t.own ++ next_own t object event ∷ [] }) object
      (option_map (λ (v : View). with_own v event) (slice_get t.views object)) w
      (owned (slice_get t.views object) event old)

  read-within : (t : Transaction) (site object : ℕ) (answer : Option Answer) → ViewsWithin bound t.views
      → CameWithin bound answer → ViewsWithin bound (read_with t site object answer).views
  read-within t site object answer w here =
      mapped_by (λ (u : Transaction). ViewsWithin bound u.views)
      (λ (g : Grant). with_granted (lived t site g.life) object g.log) t (Unit {0})
      (λ (g : Grant). (g.clock ≤ bound) × LinesWithin bound g.log) (option_and_then granted_in answer)
      (λ g within. view-within (lived t site g.life) object
      (option_map (λ (v : View). with_log v g.log) (slice_get t.views object)) w
      (logged (slice_get t.views object) g.log (old-within t.views object (slice_get t.views object) refl w) within.1))
      (λ none. w) (answer_read bound answer here).grant

  appended_within : (t : Transaction) (site : ℕ) (answer : Option Answer) → ViewsWithin bound t.views
      → ViewsWithin bound (appended_with t site answer).views
  appended_within t site answer w =
      appended_cases t site (λ (u : Transaction). ViewsWithin bound u.views) (λ lives. w) answer

  -- the clock as an answer counts

  pub granted-clock : (front : Front) (clock : ℕ) → front.clock.value ≤ bound → clock ≤ bound
      → max front.clock.value clock ≤ bound
  granted-clock front clock w here = omega arith

  learned-within : (front : Front) (answer : Option Answer) → FrontWithin bound front → CameWithin bound answer
      → FrontWithin bound (learns front answer)
  learned-within front answer w here =
      mapped_by (FrontWithin bound)
      (λ (g : Grant). record front { clock = record { value = max front.clock.value g.clock } })
      (option_map_or (λ (epoch : ℕ). record front { epoch = max front.epoch epoch }) (option_and_then closed_in answer)
      front) (Unit {0}) (λ (g : Grant). (g.clock ≤ bound) × LinesWithin bound g.log)
      (option_and_then granted_in answer)
      (λ g within. record { clock = granted-clock front g.clock w.clock within.0; count = w.count; views = w.views })
      (λ none. mapped (FrontWithin bound) (λ (epoch : ℕ). record front { epoch = max front.epoch epoch }) front
      (option_and_then closed_in answer)
      (λ epoch. record { clock = w.clock; count = w.count; views = w.views }) w) (answer_read bound answer here).grant

  module _ (decl : Declaration) (front : Front) (w : FrontWithin bound front) where
    append_by-within : (t : Transaction) (object inv event : ℕ) (calls : List Call) (r : RoundState) (v : Verdict)
        → ViewsWithin bound t.views → FrontWithin bound (append_by decl front t object inv event calls r v).front
    append_by-within t object inv event calls r verdicts.Waiting views =
        record { clock = w.clock; count = w.count; views = views }
    append_by-within t object inv event calls r verdicts.Met views =
        record {
          clock = w.clock;
          count = w.count;
          views = event-within t object inv event (resp_of decl object event) views;
        }
    append_by-within t object inv event calls r (verdicts.Closed epoch site) views =
        record { clock = w.clock; count = w.count; views = views }
    append_by-within t object inv event calls r (verdicts.Clash tx site) views =
        record { clock = w.clock; count = w.count; views = views }
    append_by-within t object inv event calls r (verdicts.Short got need) views =
        record { clock = w.clock; count = w.count; views = views }

    answered-within : (t : Transaction) (object inv : ℕ) (event : Option ℕ) → ViewsWithin bound t.views
        → FrontWithin bound (answered decl front t object inv event).front
    answered-within t object inv None views = record { clock = w.clock; count = w.count; views = views }
    answered-within t object inv (Some event) views =
        append_by-within t object inv event [] (round_for decl front t (append_need_of decl t.begun.epoch object event))
        (verdict (round_for decl front t (append_need_of decl t.begun.epoch object event))) views

    read_by-within : (t : Transaction) (object inv : ℕ) (calls : List Call) (r : RoundState) (v : Verdict)
        → ViewsWithin bound t.views → FrontWithin bound (read_by decl front t object inv calls r v).front
    read_by-within t object inv calls r verdicts.Waiting views =
        record { clock = w.clock; count = w.count; views = views }
    read_by-within t object inv calls r verdicts.Met views =
        answered-within t object inv (answer_of decl t object inv) views
    read_by-within t object inv calls r (verdicts.Closed epoch site) views =
        record { clock = w.clock; count = w.count; views = views }
    read_by-within t object inv calls r (verdicts.Clash tx site) views =
        record { clock = w.clock; count = w.count; views = views }
    read_by-within t object inv calls r (verdicts.Short got need) views =
        record { clock = w.clock; count = w.count; views = views }

    pub performs-within : (t : Option Transaction) (object inv : ℕ) → TransactionWithin bound t
        → FrontWithin bound (performs decl front t object inv).front
    performs-within None object inv views = w
    performs-within (Some t) object inv views =
        by t.begun.doomed (nat_le most_transaction_operations (length t.begun.ops)) where
          by : (doomed long : Bool)
              → FrontWithin bound
              (cond doomed (moved front (telling replies.Doomed))
              (cond long (moved front (telling replies.TooLong))
              (reads decl front t object inv []
              (round_for decl front t (read_need_of decl t.begun.epoch object inv))))).front
          by true long = w
          by false true = w
          by false false =
              read_by-within t object inv [] (round_for decl front t (read_need_of decl t.begun.epoch object inv))
              (verdict (round_for decl front t (read_need_of decl t.begun.epoch object inv))) views

    pub commits-within : (t : Option Transaction) → FrontWithin bound (commits front t).front
    commits-within None = w
    commits-within (Some t) = by t.begun.doomed where
      by : (doomed : Bool)
          → FrontWithin bound (cond doomed (gives_up front t (replies.Aborted causes.Doomed)) (moved front quiet)).front
      by true = record { clock = w.clock; count = w.count; views = tt }
      by false = w

    pub aborts-within : (t : Option Transaction) → FrontWithin bound (aborts front t).front
    aborts-within None = w
    aborts-within (Some t) = record { clock = w.clock; count = w.count; views = tt }

  pub takes_in-within : (decl : Declaration) (front : Front) (doing : Doing) (t : Option Transaction) (number : ℕ)
      (answer : Option Answer) → FrontWithin bound front → TransactionWithin bound t → CameWithin bound answer
      → FrontWithin bound (takes_in decl front doing t number answer).front
  takes_in-within decl front doing None number answer w views here = w
  takes_in-within decl front Idle (Some t) number answer w views here = w
  takes_in-within decl front (Reading object inv calls round) (Some t) number answer w views here =
      by (site_called calls number) where
        by : (o : Option ℕ)
            → FrontWithin bound (reading_takes decl front t object inv calls round number answer o).front
        by None = w
        by (Some site) =
            read_by-within decl (learns front answer) (learned-within front answer w here)
            (read_with t site object answer)
            object inv (without_call calls number) (note round site (standing_of answer))
            (verdict (note round site (standing_of answer)))
            (read-within t site object answer views here)
  takes_in-within decl front (Appending object inv event calls round) (Some t) number answer w views here =
      by (site_called calls number) where
        by : (o : Option ℕ)
            → FrontWithin bound (appending_takes decl front t object inv event calls round number answer o).front
        by None = w
        by (Some site) =
            append_by-within decl (learns front answer) (learned-within front answer w here)
            (appended_with t site answer)
            object inv event (without_call calls number) (note round site (standing_of answer))
            (verdict (note round site (standing_of answer)))
            (appended_within t site answer views)
