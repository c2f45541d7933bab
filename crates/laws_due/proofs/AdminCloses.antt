-- The round of Closes by the administrator's account: one Close more, and what is taken for one.
use Rattle.std.proofs.Common.{◌≡◌, ◌≢◌, ℕ, suc, ◌==◌, ◌&&◌, nat_le, Bool, true, false, cond, List, [], ◌∷◌, ◌++◌}
use Rattle.std.proofs.Common.{length, map, drop, Option, Some, None, option_map, unwrap_or, refl, sym, ap, ◌∙◌, subst}
use Rattle.std.proofs.Common.{eq-eqb, inl, inr}
use Rattle.std.specs.Prelude.{is_some, nat_lt, option_and_then}
use Rattle.std.specs.Option.{option_map_or}
use Rattle.std.proofs.lemmas.List.{map-append}
use Rattle.qc_decl.specs.declared.declaration.Declaration.{Declaration}
use Rattle.qc_decl.specs.Vocabulary.{plan_in}
use Rattle.qc_plan.specs.declared.plan.Plan.{Plan}
use Rattle.qc_plan.specs.declared.standing.Standing.TheVariants as standings
use Rattle.qc_plan.specs.declared.standing.Verdict.{Verdict}
use Rattle.qc_plan.specs.declared.standing.Verdict.TheVariants as verdicts
use Rattle.qc_plan.specs.Vocabulary.{RoundState, all_noted, clash_at, closed_at, cyclic, has_granted, note, note_in}
use Rattle.qc_plan.specs.Vocabulary.{refusal, settled, start, verdict, weighing, weight, weight_at}
use Rattle.qc_msg.specs.declared.message.Answer.{Answer}
use Rattle.qc_msg.specs.Vocabulary.{shut_in}
use Rattle.qc_msg.specs.declared.payload.Snapshot.{Snapshot}
use Rattle.qc_promise.specs.Vocabulary.{AdminRequest, close_asked, fresh_round, standing_for}
use Rattle.qc_epoch.specs.Vocabulary.{standing_of}
use Rattle.qc_epoch.specs.Conduct as conduct
use Rattle.laws_due.specs.Vocabulary.{AreApart}
use Rattle.qc_front.proofs.Apart.{apart_filter, apart_cyclic}
use Rattle.laws_due.proofs.Nexts.{asking_one}
use Rattle.laws_due.proofs.AdminRequests.{IsCalled, differ, length_taken, numbers_of, others_taken, other_taken}
use Rattle.laws_due.proofs.AdminRequests.{sites_of, takes, this_taken, all_taken}
use Rattle.laws_due.proofs.Halves.{drop_last}
use Rattle.laws_due.proofs.PlainRounds.{ArePlain}
use Rattle.laws_due.proofs.PlainRounds as rounds
use Rattle.qc_list.proofs.Members.{In-map}

apart_weighing : (weights : List ℕ) → AreApart (weighing weights (cyclic (length weights) 0))
apart_weighing weights = apart_filter (λ (site : ℕ). nat_lt 0 (weight_at weights site)) (cyclic (length weights) 0)
    (apart_cyclic (length weights) 0)

-- what an answer tells of its site

pub standing_is : (answer : Option Answer) → standing_of answer ≡ standing_for answer
standing_is answer = refl

-- the round of these Closes, in an epoch

abbrev pub round_of : Declaration → ℕ → List AdminRequest → RoundState
round_of decl epoch cs =
    let fresh : RoundState = fresh_round decl epoch in
    record fresh { asked = map close_asked cs; rest = drop (length cs) fresh.rest }

-- before the first one it is the administrator's own

pub fresh_is : (decl : Declaration) (epoch : ℕ) → conduct.close_round decl epoch ≡ round_of decl epoch []
fresh_is decl epoch = by (plan_in decl epoch)
  where
    shown : Option Plan → RoundState
    shown o = option_map_or (λ (p : Plan). start p.weights 0 (conduct.close_need p)) o (start [] 0 0)

    by : (o : Option Plan) → conduct.close_round_by o ≡ record (shown o) { asked = []; rest = drop 0 (shown o).rest }
    by None = refl
    by (Some p) = refl

-- sites are asked each once

pub sites_apart : (decl : Declaration) (epoch : ℕ) → AreApart (round_of decl epoch []).rest
sites_apart decl epoch = by (plan_in decl epoch)
  where
    by : (o : Option Plan) → AreApart (option_map_or (λ (p : Plan). start p.weights 0 (conduct.close_need p)) o
        (start [] 0 0)).rest
    by None = tt
    by (Some p) = apart_weighing p.weights

-- one Close more

close_length : (cs : List AdminRequest) → length (map close_asked cs) ≡ length cs
close_length [] = refl
close_length (q ∷ cs) = ap (λ (k : ℕ). suc k) (close_length cs)

pub round_more : (decl : Declaration) (epoch : ℕ) (cs : List AdminRequest) (q : AdminRequest) → q.taken ≡ None
    → round_of decl epoch (cs ++ q ∷ []) ≡ asking_one (round_of decl epoch cs) q.to
round_more decl epoch cs q open_still = λ i. record
    (fresh_round decl epoch) { asked = asked i; rest = drop_last cs q (fresh_round decl epoch).rest i }
  where
    asked : map close_asked (cs ++ q ∷ []) ≡ map close_asked cs ++ record { site = q.to; standing = None } ∷ []
    asked = map-append close_asked cs (q ∷ [])
        ∙ ap (λ (t : Option (Option Answer)). map close_asked cs
        ++ record { site = q.to; standing = option_map standing_for t } ∷ []) open_still

-- what is taken for one is noted at its site

pub noted : (number site : ℕ) (answer : Option Answer) (cs : List AdminRequest) → AreApart (sites_of cs)
    → AreApart (numbers_of cs) → IsCalled number site cs
    → note_in site (standing_for answer) (map close_asked cs) ≡ map close_asked (takes number answer cs)
noted number site answer [] sites numbers c = absurd c.among
noted number site answer (q ∷ cs) sites numbers c = elim c.among [
  | inl same ↦ here same
  | inr among ↦ (let found : IsCalled number site cs =
      record { request = c.request; among = among; number_is = c.number_is; to_is = c.to_is; open_still = c.open_still }
      in
      there found (noted number site answer cs sites.1 numbers.1 found))
]
  where
    here : c.request ≡ q → note_in site (standing_for answer) (map close_asked (q ∷ cs)) ≡ map close_asked
        (takes number answer (q ∷ cs))
    here same =
        let number_is : q.number ≡ number = sym (ap (λ (x : AdminRequest). x.number) same) ∙ c.number_is in
        let to_is : q.to ≡ site = sym (ap (λ (x : AdminRequest). x.to) same) ∙ c.to_is in
        let open_still : q.taken ≡ None = sym (ap (λ (x : AdminRequest). x.taken) same) ∙ c.open_still in
        ap (λ (b : Bool). cond b (record { site = site; standing = Some (standing_for answer) } ∷ map close_asked cs)
        (close_asked q ∷ note_in site (standing_for answer) (map close_asked cs))) (eq-eqb q.to site to_is)
        ∙ (λ i. record { site = sym to_is i; standing = Some (standing_for answer) } ∷ map close_asked
        (sym (others_taken number answer cs (λ y among. subst (λ (k : ℕ). k ≢ y) number_is (numbers.0 y among))) i))
        ∙ ap (λ (x : AdminRequest). close_asked x ∷ map close_asked (takes number answer cs))
        (sym (this_taken number answer q number_is open_still))

    there : IsCalled number site cs → note_in site (standing_for answer) (map close_asked cs) ≡ map close_asked
        (takes number answer cs)
        → note_in site (standing_for answer) (map close_asked (q ∷ cs)) ≡ map close_asked (takes number answer (q ∷ cs))
    there f more =
        let other_site : q.to ≢ site = λ same. sites.0 f.request.to
        (In-map (λ (x : AdminRequest). x.to) f.request cs f.among) (same ∙ sym f.to_is) in
        let other_number : q.number ≢ number = λ same. numbers.0 f.request.number
        (In-map (λ (x : AdminRequest). x.number) f.request cs f.among) (same ∙ sym f.number_is) in
        ap (λ (b : Bool). cond b (record { site = site; standing = Some (standing_for answer) } ∷ map close_asked cs)
        (close_asked q ∷ note_in site (standing_for answer) (map close_asked cs))) (differ q.to site other_site)
        ∙ (λ i. close_asked (sym (other_taken number answer q other_number) i) ∷ more i)

pub round_taken : (decl : Declaration) (epoch number site : ℕ) (answer : Option Answer) (cs : List AdminRequest)
    → AreApart (sites_of cs) → AreApart (numbers_of cs) → IsCalled number site cs
    → note (round_of decl epoch cs) site (standing_of answer) ≡ round_of decl epoch (takes number answer cs)
round_taken decl epoch number site answer cs sites numbers c =
    ap (note (round_of decl epoch cs) site) (standing_is answer)
    ∙ (λ i. record (fresh_round decl epoch) {
      asked = noted number site answer cs sites numbers c i;
      rest = drop (sym (length_taken number answer cs) i) (fresh_round decl epoch).rest;
    })

-- no Close is answered as closed or clashing, so a round waits, is met or is short

not_closed : (q : AdminRequest) → closed_at q.to (option_map standing_for q.taken) ≡ None
not_closed q = by q.taken
  where
    at : (o : Option Snapshot) → closed_at q.to
        (Some (option_map_or (λ (s : Snapshot). standings.Granted) o standings.Missing)) ≡ None
    at None = refl
    at (Some s) = refl

    by : (t : Option (Option Answer)) → closed_at q.to (option_map standing_for t) ≡ None
    by None = refl
    by (Some answer) = at (option_and_then shut_in answer)

not_clashing : (q : AdminRequest) → clash_at q.to (option_map standing_for q.taken) ≡ None
not_clashing q = by q.taken
  where
    at : (o : Option Snapshot) → clash_at q.to
        (Some (option_map_or (λ (s : Snapshot). standings.Granted) o standings.Missing)) ≡ None
    at None = refl
    at (Some s) = refl

    by : (t : Option (Option Answer)) → clash_at q.to (option_map standing_for t) ≡ None
    by None = refl
    by (Some answer) = at (option_and_then shut_in answer)

plain_asked : (cs : List AdminRequest) → ArePlain (map close_asked cs)
plain_asked [] = tt
plain_asked (q ∷ cs) = ((not_closed q, not_clashing q), plain_asked cs)

pub none_refuses : (cs : List AdminRequest) → refusal (map close_asked cs) ≡ None
none_refuses cs = rounds.none_refuses (map close_asked cs) (plain_asked cs)

-- once nothing is waited for, all are taken

pub noted_taken : (cs : List AdminRequest) → all_noted (map close_asked cs) ≡ all_taken cs
noted_taken [] = refl
noted_taken (q ∷ cs) = by (noted_taken cs) q.taken
  where
    by : all_noted (map close_asked cs) ≡ all_taken cs → (t : Option (Option Answer))
        → (is_some (option_map standing_for t) && all_noted (map close_asked cs)) ≡ (is_some t && all_taken cs)
    by more None = refl
    by more (Some answer) = more

abbrev pub IsOver : Verdict → Type 0
IsOver verdicts.Waiting = ⊥
IsOver verdicts.Met = Unit {0}
IsOver (verdicts.Closed epoch site) = ⊥
IsOver (verdicts.Clash tx site) = ⊥
IsOver (verdicts.Short got need) = Unit {0}

pub over_taken : (decl : Declaration) (epoch : ℕ) (cs : List AdminRequest) → IsOver (verdict (round_of decl epoch cs))
    → all_taken cs ≡ true
over_taken decl epoch cs over = sym (noted_taken cs) ∙ by (all_noted (map close_asked cs)) refl over
  where
    by : (b : Bool) → all_noted (map close_asked cs) ≡ b
        → IsOver (cond b (unwrap_or (refusal (map close_asked cs))
        (settled (round_of decl epoch cs) (weight (has_granted (map close_asked cs))
        (fresh_round decl epoch).weights))) verdicts.Waiting)
        → all_noted (map close_asked cs) ≡ true
    by true e o = e
    by false e o = absurd o

-- so the verdict is one of three

pub data IsOne : Verdict → Type 0 where
  waits : IsOne verdicts.Waiting
  met : IsOne verdicts.Met
  short : (got need : ℕ) → IsOne (verdicts.Short got need)

pub one_of : (decl : Declaration) (epoch : ℕ) (cs : List AdminRequest) → IsOne (verdict (round_of decl epoch cs))
one_of decl epoch cs =
    subst (λ (o : Option Verdict). IsOne (cond (all_noted (map close_asked cs))
    (unwrap_or o (settled (round_of decl epoch cs) got)) verdicts.Waiting)) (sym (none_refuses cs))
    (by (all_noted (map close_asked cs)))
  where
    got : ℕ
    got = weight (has_granted (map close_asked cs)) (fresh_round decl epoch).weights

    rest : (b : Bool) → IsOne (cond b (verdicts.Short got (fresh_round decl epoch).need) verdicts.Waiting)
    rest true = short got (fresh_round decl epoch).need
    rest false = waits

    at : (b : Bool) → IsOne (cond b verdicts.Met
        (cond (length (drop (length cs) (fresh_round decl epoch).rest) == 0)
        (verdicts.Short got (fresh_round decl epoch).need) verdicts.Waiting))
    at true = met
    at false = rest (length (drop (length cs) (fresh_round decl epoch).rest) == 0)

    by : (b : Bool) → IsOne (cond b (settled (round_of decl epoch cs) got) verdicts.Waiting)
    by true = at (nat_le (fresh_round decl epoch).need got)
    by false = waits
