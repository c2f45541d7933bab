-- The first thing that comes of a request counts, and nothing else does.
use Rattle.std.proofs.Common.{◌≡◌, ℕ, ◌+◌, ◌<◌, ◌≤◌, ◌==◌, not, Bool, true, false, cond, List, [], ◌∷◌, length, Option}
use Rattle.std.proofs.Common.{Some, None, option_map, refl, sym, ap, ◌∙◌, subst, eqb-true, arith}
use Rattle.std.specs.List.{find}
use Rattle.qc_decl.specs.declared.declaration.Declaration.{Declaration}
use Rattle.qc_decl.specs.Vocabulary.{append_need_of}
use Rattle.qc_msg.specs.declared.call.Call.{Call}
use Rattle.qc_msg.specs.declared.message.Answer.{Answer}
use Rattle.qc_msg.specs.Vocabulary.{calls_from, numbered_from, quiet, site_called, without_call}
use Rattle.qc_plan.specs.declared.standing.Verdict.{Verdict}
use Rattle.qc_plan.specs.declared.standing.Verdict.TheVariants as verdicts
use Rattle.qc_plan.specs.Vocabulary.{RoundState, note, verdict}
use Rattle.qc_front.specs.declared.doing.Doing.{Doing}
use Rattle.qc_front.specs.declared.doing.Doing.TheVariants.{Idle, Reading, Appending}
use Rattle.qc_front.specs.declared.front.Front.{Front}
use Rattle.qc_front.specs.declared.transaction.Transaction.{Transaction}
use Rattle.qc_front.specs.Vocabulary.{FrontMove, answer_of, answered, append_by, appended_with, appending_takes}
use Rattle.qc_front.specs.Vocabulary.{asked_at, asked_in, awaited, learns, moved, numbered, read_by, read_with}
use Rattle.qc_front.specs.Vocabulary.{reading_takes, round_for, sent, standing_of, takes, takes_in}

-- what comes of no open request changes nothing

put_aside : (decl : Declaration) (front : Front) (doing : Doing) (t : Option Transaction) (number : ℕ)
    (answer : Option Answer) → asked_in t doing number ≡ None
    → takes_in decl front doing t number answer ≡ moved front quiet
put_aside decl front doing None number answer none = refl
put_aside decl front Idle (Some t) number answer none = refl
put_aside decl front (Reading object inv calls round) (Some t) number answer none =
    ap (λ (o : Option ℕ). reading_takes decl front t object inv calls round number answer o) none
put_aside decl front (Appending object inv event calls round) (Some t) number answer none =
    ap (λ (o : Option ℕ). appending_takes decl front t object inv event calls round number answer o) none

pub only_open : (decl : Declaration) (front : Front) (number : ℕ) (answer : Option Answer)
    → asked_at front number ≡ None → takes decl front number answer ≡ moved front quiet
only_open decl front number answer none = put_aside decl front front.doing front.transaction number answer none

-- a request that something was taken for isn't open any more

gone : (number : ℕ) (calls : List Call) → site_called (without_call calls number) number ≡ None
gone number [] = refl
gone number (c ∷ calls) = by (c.number == number) refl (gone number calls)
  where
    by : (t : Bool) → (c.number == number) ≡ t → site_called (without_call calls number) number ≡ None
        → site_called (cond (not t) (c ∷ without_call calls number) (without_call calls number)) number ≡ None
    by true is rest = rest
    by false is rest = ap (λ (t : Bool). option_map (λ (x : Call). x.site)
        (cond t (Some c) (find (λ (x : Call). x.number == number) (without_call calls number)))) is ∙ rest

abbrev Gone : ℕ → FrontMove → Type 0
Gone number move = asked_at move.front number ≡ None

append_by_gone : (decl : Declaration) (front : Front) (t : Transaction) (object inv event : ℕ) (calls : List Call)
    (r : RoundState) (v : Verdict) (number : ℕ) → site_called calls number ≡ None
    → Gone number (append_by decl front t object inv event calls r v)
append_by_gone decl front t object inv event calls r verdicts.Waiting number none = none
append_by_gone decl front t object inv event calls r verdicts.Met number none = refl
append_by_gone decl front t object inv event calls r (verdicts.Closed epoch site) number none = refl
append_by_gone decl front t object inv event calls r (verdicts.Clash tx site) number none = refl
append_by_gone decl front t object inv event calls r (verdicts.Short got need) number none = refl

answered_gone : (decl : Declaration) (front : Front) (t : Transaction) (object inv : ℕ) (event : Option ℕ) (number : ℕ)
    → Gone number (answered decl front t object inv event)
answered_gone decl front t object inv None number = refl
answered_gone decl front t object inv (Some event) number =
    append_by_gone decl front t object inv event []
    (round_for decl front t (append_need_of decl t.begun.epoch object event))
    (verdict (round_for decl front t (append_need_of decl t.begun.epoch object event))) number refl

read_by_gone : (decl : Declaration) (front : Front) (t : Transaction) (object inv : ℕ) (calls : List Call)
    (r : RoundState) (v : Verdict) (number : ℕ) → site_called calls number ≡ None
    → Gone number (read_by decl front t object inv calls r v)
read_by_gone decl front t object inv calls r verdicts.Waiting number none = none
read_by_gone decl front t object inv calls r verdicts.Met number none =
    answered_gone decl front t object inv (answer_of decl t object inv) number
read_by_gone decl front t object inv calls r (verdicts.Closed epoch site) number none = refl
read_by_gone decl front t object inv calls r (verdicts.Clash tx site) number none = refl
read_by_gone decl front t object inv calls r (verdicts.Short got need) number none = refl

takes_in_gone : (decl : Declaration) (front : Front) (doing : Doing) (t : Option Transaction) (number : ℕ)
    (answer : Option Answer) → (asked_in t doing number ≡ None → asked_at front number ≡ None)
    → Gone number (takes_in decl front doing t number answer)
takes_in_gone decl front doing None number answer same = same refl
takes_in_gone decl front Idle (Some t) number answer same = same refl
takes_in_gone decl front (Reading object inv calls round) (Some t) number answer same =
    by (site_called calls number) refl
  where
    by : (o : Option ℕ) → site_called calls number ≡ o
        → Gone number (reading_takes decl front t object inv calls round number answer o)
    by None is = same is
    by (Some site) is = read_by_gone decl (learns front answer) (read_with t site object answer) object inv
        (without_call calls number) (note round site (standing_of answer))
        (verdict (note round site (standing_of answer))) number (gone number calls)
takes_in_gone decl front (Appending object inv event calls round) (Some t) number answer same =
    by (site_called calls number) refl
  where
    by : (o : Option ℕ) → site_called calls number ≡ o
        → Gone number (appending_takes decl front t object inv event calls round number answer o)
    by None is = same is
    by (Some site) is = append_by_gone decl (learns front answer) (appended_with t site answer) object inv event
        (without_call calls number) (note round site (standing_of answer))
        (verdict (note round site (standing_of answer))) number (gone number calls)

pub once : (decl : Declaration) (front : Front) (number : ℕ) (answer : Option Answer)
    → asked_at (takes decl front number answer).front number ≡ None
once decl front number answer = takes_in_gone decl front front.doing front.transaction number answer (λ none. none)

-- requests of later turns have later numbers

from_lower : (number first : ℕ) (sites : List ℕ) → number < first → site_called (calls_from first sites) number ≡ None
from_lower number first [] low = refl
from_lower number first (site ∷ sites) low =
    by (first == number) refl (from_lower number (first + 1) sites (omega arith))
  where
    by : (t : Bool) → (first == number) ≡ t → site_called (calls_from (first + 1) sites) number ≡ None
        → option_map (λ (c : Call). c.site) (cond t (Some (record { number = first; site = site }))
        (find (λ (c : Call). c.number == number) (calls_from (first + 1) sites))) ≡ None
    by true is rest = absurd (let same : first ≡ number = eqb-true first number is in omega arith)
    by false is rest = rest

stays_closed : (calls : List Call) (round : RoundState) (number first : ℕ) → number < first
    → site_called calls number ≡ None → site_called (numbered_from calls (awaited round) first) number ≡ None
stays_closed calls round number first low none = by (length calls == 0)
  where
    by : (t : Bool) → site_called (cond t (calls_from first (awaited round)) calls) number ≡ None
    by true = from_lower number first (awaited round) low
    by false = none

later_in : (t : Option Transaction) (doing : Doing) (number first : ℕ) → number < first → asked_in t doing number ≡ None
    → asked_in t (numbered doing first) number ≡ None
later_in None doing number first low none = refl
later_in (Some t) Idle number first low none = refl
later_in (Some t) (Reading object inv calls round) number first low none =
    stays_closed calls round number first low none
later_in (Some t) (Appending object inv event calls round) number first low none =
    stays_closed calls round number first low none

pub later : (front : Front) (number first : ℕ) → number < first → asked_at front number ≡ None
    → asked_at (sent front first) number ≡ None
later front number first low none = later_in front.transaction front.doing number first low none
