-- A `do` is told its reply just where nothing is waited for any more, and else it waits for an open request.
use Rattle.std.proofs.Common.{◌≡◌, ℕ, ◌+◌, ◌<◌, ◌≤◌, nat_le, Bool, true, false, cond, List, [], ◌∷◌, length, Option}
use Rattle.std.proofs.Common.{Some, None, is_some, refl, sym, ap, ◌∙◌, subst, arith}
use Rattle.qc_decl.specs.declared.declaration.Declaration.{Declaration}
use Rattle.qc_decl.specs.Vocabulary.{append_need_of, most_transaction_operations, read_need_of}
use Rattle.qc_msg.specs.declared.call.Call.{Call}
use Rattle.qc_msg.specs.declared.message.Answer.{Answer}
use Rattle.qc_msg.specs.declared.reply.Reply.TheVariants as replies
use Rattle.qc_msg.specs.Vocabulary.{quiet, site_called, telling, without_call}
use Rattle.qc_plan.specs.declared.standing.Verdict.{Verdict}
use Rattle.qc_plan.specs.declared.standing.Verdict.TheVariants as verdicts
use Rattle.qc_plan.specs.Vocabulary.{RoundState, note, verdict}
use Rattle.qc_front.specs.declared.doing.Doing.{Doing}
use Rattle.qc_front.specs.declared.doing.Doing.TheVariants.{Idle, Reading, Appending}
use Rattle.qc_front.specs.declared.front.Front.{Front}
use Rattle.qc_front.specs.declared.transaction.Transaction.{Transaction}
use Rattle.qc_front.specs.Vocabulary.{AppendingHolds, BegunHolds, FrontHolds, GoesOn, IsAwaiting, IsNumbered}
use Rattle.qc_front.specs.Vocabulary.{ReadingHolds, answer_of, answered, append_by, appended_with, appending_takes}
use Rattle.qc_front.specs.Vocabulary.{awaited, calls_in, is_idle, learns, moved, performs, read_by, read_with}
use Rattle.qc_front.specs.Vocabulary.{reading_takes, reads, round_for, sites_called, standing_of, takes, takes_in}
use Rattle.qc_front.proofs.Noting.{awaits_some}

append_by_goes : (decl : Declaration) (front : Front) (t : Transaction) (object inv event : ℕ) (calls : List Call)
    (r : RoundState) (v : Verdict) → GoesOn (append_by decl front t object inv event calls r v)
append_by_goes decl front t object inv event calls r verdicts.Waiting = refl
append_by_goes decl front t object inv event calls r verdicts.Met = refl
append_by_goes decl front t object inv event calls r (verdicts.Closed epoch site) = refl
append_by_goes decl front t object inv event calls r (verdicts.Clash tx site) = refl
append_by_goes decl front t object inv event calls r (verdicts.Short got need) = refl

answered_goes : (decl : Declaration) (front : Front) (t : Transaction) (object inv : ℕ) (event : Option ℕ)
    → GoesOn (answered decl front t object inv event)
answered_goes decl front t object inv None = refl
answered_goes decl front t object inv (Some event) =
    append_by_goes decl front t object inv event []
    (round_for decl front t (append_need_of decl t.begun.epoch object event))
    (verdict (round_for decl front t (append_need_of decl t.begun.epoch object event)))

read_by_goes : (decl : Declaration) (front : Front) (t : Transaction) (object inv : ℕ) (calls : List Call)
    (r : RoundState) (v : Verdict) → GoesOn (read_by decl front t object inv calls r v)
read_by_goes decl front t object inv calls r verdicts.Waiting = refl
read_by_goes decl front t object inv calls r verdicts.Met =
    answered_goes decl front t object inv (answer_of decl t object inv)
read_by_goes decl front t object inv calls r (verdicts.Closed epoch site) = refl
read_by_goes decl front t object inv calls r (verdicts.Clash tx site) = refl
read_by_goes decl front t object inv calls r (verdicts.Short got need) = refl

performs_goes : (decl : Declaration) (front : Front) (t : Option Transaction) (object inv : ℕ)
    → is_idle front.doing ≡ true → GoesOn (performs decl front t object inv)
performs_goes decl front None object inv idle = sym idle
performs_goes decl front (Some t) object inv idle =
    by t.begun.doomed (nat_le most_transaction_operations (length t.begun.ops))
  where
    by : (doomed long : Bool) → GoesOn (cond doomed (moved front (telling replies.Doomed))
        (cond long (moved front (telling replies.TooLong))
        (reads decl front t object inv [] (round_for decl front t (read_need_of decl t.begun.epoch object inv)))))
    by true long = sym idle
    by false true = sym idle
    by false false = read_by_goes decl front t object inv []
        (round_for decl front t (read_need_of decl t.begun.epoch object inv))
        (verdict (round_for decl front t (read_need_of decl t.begun.epoch object inv)))

pub do_goes : (decl : Declaration) (front : Front) (object inv : ℕ) → is_idle front.doing ≡ true
    → GoesOn (performs decl front front.transaction object inv)
do_goes decl front object inv idle = performs_goes decl front front.transaction object inv idle

takes_in_goes : (decl : Declaration) (front : Front) (doing : Doing) (t : Option Transaction) (number : ℕ)
    (answer : Option Answer) → is_idle front.doing ≡ false → GoesOn (takes_in decl front doing t number answer)
takes_in_goes decl front doing None number answer runs = sym runs
takes_in_goes decl front Idle (Some t) number answer runs = sym runs
takes_in_goes decl front (Reading object inv calls round) (Some t) number answer runs = by (site_called calls number)
  where
    by : (o : Option ℕ) → GoesOn (reading_takes decl front t object inv calls round number answer o)
    by None = sym runs
    by (Some site) = read_by_goes decl (learns front answer) (read_with t site object answer) object inv
        (without_call calls number) (note round site (standing_of answer))
        (verdict (note round site (standing_of answer)))
takes_in_goes decl front (Appending object inv event calls round) (Some t) number answer runs =
    by (site_called calls number)
  where
    by : (o : Option ℕ) → GoesOn (appending_takes decl front t object inv event calls round number answer o)
    by None = sym runs
    by (Some site) = append_by_goes decl (learns front answer) (appended_with t site answer) object inv event
        (without_call calls number) (note round site (standing_of answer))
        (verdict (note round site (standing_of answer)))

pub takes_goes : (decl : Declaration) (front : Front) (number : ℕ) (answer : Option Answer)
    → is_idle front.doing ≡ false → GoesOn (takes decl front number answer)
takes_goes decl front number answer runs = takes_in_goes decl front front.doing front.transaction number answer runs

-- a `do` that goes on has an open request

some_call : (calls : List Call) (r : RoundState) → IsAwaiting r → sites_called calls ≡ awaited r → 0 < length calls
some_call [] r awaits full = absurd (awaits_some r.asked awaits.open_still (sym full))
some_call (c ∷ calls) r awaits full = omega arith

waits_in : (decl : Declaration) (client : ℕ) (t : Option Transaction) (doing : Doing) → BegunHolds decl client t doing
    → IsNumbered doing → is_idle doing ≡ false → 0 < length (calls_in doing)
waits_in decl client t Idle h full runs = let never : ⊥ = cc in absurd never
waits_in decl client None (Reading object inv calls round) h full runs = let never : ⊥ = cc in absurd never
waits_in decl client None (Appending object inv event calls round) h full runs = let never : ⊥ = cc in absurd never
waits_in decl client (Some t) (Reading object inv calls round) h full runs = some_call calls round h.1.awaits full
waits_in decl client (Some t) (Appending object inv event calls round) h full runs =
    some_call calls round h.1.awaits full

pub waits : (decl : Declaration) (front : Front) → FrontHolds decl front → IsNumbered front.doing
    → is_idle front.doing ≡ false → 0 < length (calls_in front.doing)
waits decl front h full runs = waits_in decl front.client front.transaction front.doing h full runs
