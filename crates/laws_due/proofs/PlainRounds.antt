-- A plain round: nobody who is asked is noted as closed or clashing. Of the administrator's Closes each round is one.
use Rattle.std.proofs.Common.{◌≡◌, ℕ, ◌==◌, nat_le, Bool, true, false, cond, List, [], ◌∷◌, ◌++◌, length, drop, Option}
use Rattle.std.proofs.Common.{Some, None, refl, sym, ap, ◌∙◌, subst}
use Rattle.std.specs.Prelude.{unwrap_or, option_and_then}
use Rattle.std.specs.List.{AllByRecursion as Every}
use Rattle.std.specs.Option.{option_or}
use Rattle.qc_epoch.specs.Vocabulary.{standing_of}
use Rattle.qc_msg.specs.declared.message.Answer.{Answer}
use Rattle.qc_plan.specs.Vocabulary.{RoundState, all_noted, asking_all, clash_at, closed_at, first_clash, first_closed}
use Rattle.qc_plan.specs.Vocabulary.{has_granted, note_in, refusal, settled, verdict, weight}
use Rattle.qc_plan.specs.declared.standing.Asked.{Asked}
use Rattle.qc_plan.specs.declared.standing.Verdict.{Verdict}
use Rattle.qc_plan.specs.declared.standing.Verdict.TheVariants as verdicts
use Rattle.laws_turns.proofs.ReadingCases.{mapped}
use Rattle.qc_msg.specs.Vocabulary.{shut_in}
use Rattle.qc_plan.specs.declared.standing.Standing.{Standing}
use Rattle.qc_plan.specs.declared.standing.Standing.TheVariants as standings
use Rattle.qc_msg.specs.declared.payload.Snapshot.{Snapshot}

abbrev pub IsPlain : Asked → Type 0
IsPlain a = (closed_at a.site a.standing ≡ None) × (clash_at a.site a.standing ≡ None)

abbrev pub ArePlain : List Asked → Type 0
ArePlain asked = Every IsPlain asked

pub plain_standing : (site : ℕ) (answer : Option Answer)
    → IsPlain (record { site = site; standing = Some (standing_of answer) })
plain_standing site answer =
    mapped (λ (s : Standing). IsPlain (record { site = site; standing = Some s })) (λ (x : Snapshot). standings.Granted)
    standings.Missing (option_and_then shut_in answer) (λ x. (refl, refl)) (refl, refl)

pub plain_noted : (site : ℕ) (answer : Option Answer) (asked : List Asked) → ArePlain asked
    → ArePlain (note_in site (standing_of answer) asked)
plain_noted site answer [] plain = tt
plain_noted site answer (a ∷ asked) plain = by (a.site == site) (plain_noted site answer asked plain.1)
  where
    by : (b : Bool) → ArePlain (note_in site (standing_of answer) asked)
        → ArePlain (cond b (record { site = site; standing = Some (standing_of answer) } ∷ asked)
        (a ∷ note_in site (standing_of answer) asked))
    by true more = (plain_standing site answer, plain.1)
    by false more = (plain.0, more)

pub plain_more : (asked : List Asked) (site : ℕ) → ArePlain asked
    → ArePlain (asked ++ record { site = site; standing = None } ∷ [])
plain_more [] site plain = ((refl, refl), tt)
plain_more (a ∷ asked) site plain = (plain.0, plain_more asked site plain.1)

pub plain_all : (sites : List ℕ) (r : RoundState) → ArePlain r.asked → ArePlain (asking_all r sites).asked
plain_all [] r plain = plain
plain_all (s ∷ ss) r plain = plain_all ss
    (record r { asked = r.asked ++ record { site = s; standing = None } ∷ []; rest = drop 1 r.rest })
    (plain_more r.asked s plain)

none_closed : (asked : List Asked) → ArePlain asked → first_closed asked ≡ None
none_closed [] plain = refl
none_closed (a ∷ asked) plain = ap (λ (o : Option Verdict). option_or o (first_closed asked)) plain.0.0
    ∙ none_closed asked plain.1

none_clashing : (asked : List Asked) → ArePlain asked → first_clash asked ≡ None
none_clashing [] plain = refl
none_clashing (a ∷ asked) plain = ap (λ (o : Option Verdict). option_or o (first_clash asked)) plain.0.1
    ∙ none_clashing asked plain.1

pub none_refuses : (asked : List Asked) → ArePlain asked → refusal asked ≡ None
none_refuses asked plain = ap (λ (o : Option Verdict). option_or o (first_clash asked)) (none_closed asked plain)
    ∙ none_clashing asked plain

-- so it waits, is met or is short

abbrev pub IsLeft : Verdict → Type 0
IsLeft verdicts.Waiting = Unit {0}
IsLeft verdicts.Met = Unit {0}
IsLeft (verdicts.Closed epoch site) = ⊥
IsLeft (verdicts.Clash tx site) = ⊥
IsLeft (verdicts.Short got need) = Unit {0}

pub left : (r : RoundState) → ArePlain r.asked → IsLeft (verdict r)
left r plain =
    subst (λ (o : Option Verdict). IsLeft (cond (all_noted r.asked)
    (unwrap_or o (settled r (weight (has_granted r.asked) r.weights))) verdicts.Waiting))
    (sym (none_refuses r.asked plain))
    (by (all_noted r.asked))
  where
    rest : (b : Bool) → IsLeft (cond b (verdicts.Short (weight (has_granted r.asked) r.weights) r.need)
        verdicts.Waiting)
    rest true = tt
    rest false = tt

    at : (b : Bool) → IsLeft (cond b verdicts.Met
        (cond (length r.rest == 0) (verdicts.Short (weight (has_granted r.asked) r.weights) r.need) verdicts.Waiting))
    at true = tt
    at false = rest (length r.rest == 0)

    by : (b : Bool) → IsLeft (cond b (settled r (weight (has_granted r.asked) r.weights)) verdicts.Waiting)
    by true = at (nat_le r.need (weight (has_granted r.asked) r.weights))
    by false = tt
