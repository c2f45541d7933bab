-- Where none of his requests is open the administrator waits for nothing: no command for an epoch runs.
use Rattle.std.proofs.Common.{◌≡◌, ℕ, zero, suc, ◌==◌, ◌&&◌, Bool, true, false, cond, List, [], ◌∷◌, length, drop}
use Rattle.std.proofs.Common.{filter, map, take, Option, Some, None, is_none, is_some, option_map, refl, sym, ap, ◌∙◌}
use Rattle.std.specs.List.{cons_option, list_all}
use Rattle.std.specs.Prelude.{nat_le, nat_lt, unwrap_or}
use Rattle.qc_decl.specs.declared.declaration.Declaration.{Declaration}
use Rattle.qc_epoch.specs.Vocabulary.{Admin, Asking, Closing, Doing, Installing, Question, Resting, ShutSite, most_asks}
use Rattle.qc_epoch.specs.Vocabulary.{outcome_in}
use Rattle.qc_epoch.specs.Deciding as deciding
use Rattle.qc_msg.specs.declared.call.Call.{Call}
use Rattle.qc_msg.specs.declared.message.Answer.{Answer}
use Rattle.qc_plan.specs.declared.standing.Verdict.{Verdict}
use Rattle.qc_plan.specs.declared.standing.Verdict.TheVariants as verdicts
use Rattle.qc_plan.specs.Vocabulary.{RoundState, all_noted, has_granted, is_asked, is_waiting, prefix, refusal, settled}
use Rattle.qc_plan.specs.Vocabulary.{verdict, wanted, weight}
use Rattle.qc_promise.specs.Vocabulary.{AdminAccount, AdminRequest, Promised, asks, close_round, closes, commanded}
use Rattle.qc_promise.specs.Vocabulary.{installs}
use Rattle.laws_due.proofs.AdminNumbers.{number_if, numbers_in, open_in, open_numbers}
use Rattle.laws_due.proofs.AdminCloses.{none_refuses, noted_taken}
use Rattle.laws_due.proofs.AdminQuestions.{asked_of}
use Rattle.laws_due.proofs.AdminRequests.{all_taken, call_of, open_calls}
use Rattle.laws_due.proofs.AdminStages.{IsAsking, IsClosing, IsInstalling, Stage, Ties}

no_calls : (calls : List Call) → numbers_in calls ≡ [] → calls ≡ []
no_calls [] none = refl
no_calls (c ∷ calls) none = absurd (let never : ⊥ = cc in never)

-- requests of which none is open are all taken
calls_taken : (qs : List AdminRequest) → open_calls qs ≡ [] → all_taken qs ≡ true
calls_taken [] none = refl
calls_taken (q ∷ qs) none = by q.taken none (calls_taken qs)
  where
    by : (t : Option (Option Answer)) → map call_of
        (cond (is_none t) (q ∷ filter (λ (x : AdminRequest). is_none x.taken) qs)
        (filter (λ (x : AdminRequest). is_none x.taken) qs)) ≡ []
        → (open_calls qs ≡ [] → all_taken qs ≡ true) → (is_some t && all_taken qs) ≡ true
    by None e more = absurd (let never : ⊥ = cc in never)
    by (Some x) e more = more e

-- a round that waits, with all noted, wants a site
waits_asks : (r : RoundState) → refusal r.asked ≡ None → all_noted r.asked ≡ true → verdict r ≡ verdicts.Waiting
    → wanted r ≡ [] → ⊥
waits_asks r none noted waits wants = by r.rest refl
  where
    got : ℕ
    got = weight (has_granted r.asked) r.weights

    verdict_is : verdict r ≡ settled r got
    verdict_is =
        ap (λ (b : Bool). cond b (unwrap_or (refusal r.asked) (settled r got)) verdicts.Waiting) noted
        ∙ ap (λ (o : Option Verdict). unwrap_or o (settled r got)) none

    never_settled : (b : Bool) → cond b verdicts.Met (verdicts.Short got r.need) ≡ verdicts.Waiting → ⊥
    never_settled true is = let never : ⊥ = cc in never
    never_settled false is = let never : ⊥ = cc in never

    some : (b : Bool) (site : ℕ) (more : List ℕ) → cond b (cond b (site ∷ more) []) (site ∷ []) ≡ [] → ⊥
    some true site more is = let never : ⊥ = cc in never
    some false site more is = let never : ⊥ = cc in never

    by : (rest : List ℕ) → r.rest ≡ rest → ⊥
    by [] is =
        never_settled (nat_le r.need got)
        (sym (ap (λ (v : List ℕ). cond (nat_le r.need got) verdicts.Met
        (cond (length v == 0) (verdicts.Short got r.need) verdicts.Waiting)) is) ∙ sym verdict_is ∙ waits)
    by (site ∷ rest) is =
        some (nat_lt (weight (is_asked r.asked) r.weights) r.need) site (prefix r.weights r.need (_) rest)
        (sym (ap (λ (v : Verdict). cond (is_waiting v)
        (cond (nat_lt (weight (is_asked r.asked) r.weights) r.need) (prefix r.weights r.need r.asked r.rest)
        (cond (all_noted r.asked) (take 1 r.rest) [])) []) waits
        ∙ ap (λ (b : Bool). cond (nat_lt (weight (is_asked r.asked) r.weights) r.need)
        (prefix r.weights r.need r.asked r.rest) (cond b (take 1 r.rest) [])) noted
        ∙ ap (λ (v : List ℕ). cond (nat_lt (weight (is_asked r.asked) r.weights) r.need)
        (prefix r.weights r.need r.asked v) (take 1 v)) is)
        ∙ wants)

-- of the questions to be asked all were, so where none is open each is answered
asked_taken : (n : ℕ) (ps : List Promised) (qs : List AdminRequest) → drop (length qs) (take n ps) ≡ []
    → open_in (asked_of ps qs) ≡ [] → list_all (λ (x : Question). is_some x.taken) (take n (asked_of ps qs)) ≡ true
asked_taken zero [] qs left none = refl
asked_taken zero (p ∷ ps) [] left none = refl
asked_taken zero (p ∷ ps) (q ∷ qs) left none = refl
asked_taken (suc n) [] qs left none = refl
asked_taken (suc n) (p ∷ ps) [] left none = absurd (let never : ⊥ = cc in never)
asked_taken (suc n) (p ∷ ps) (q ∷ qs) left none = by q.taken none (asked_taken n ps qs left)
  where
    by : (t : Option (Option Answer)) → cons_option (number_if (option_map outcome_in t) (Some q.number))
        (open_in (asked_of ps qs)) ≡ []
        → (open_in (asked_of ps qs) ≡ [] → list_all (λ (x : Question). is_some x.taken) (take n (asked_of ps qs))
        ≡ true)
        → (is_some (option_map outcome_in t) && list_all (λ (x : Question). is_some x.taken) (take n (asked_of ps qs)))
        ≡ true
    by None e more = absurd (let never : ⊥ = cc in never)
    by (Some x) e more = more e

module _ (decl : Declaration) (n : ℕ) (d : AdminAccount) where
  closing_open : {epoch : ℕ} {calls : List Call} {shuts : List ShutSite} → IsClosing decl n d epoch calls shuts
      → numbers_in calls ≡ [] → ⊥
  closing_open {epoch} {calls} s none =
      waits_asks (close_round decl d) (none_refuses (closes d))
      (noted_taken (closes d) ∙ calls_taken (closes d) (sym (s.has).calls_are ∙ no_calls calls none)) s.waits
      s.wants_none

  asking_open : {epoch : ℕ} {shuts : List ShutSite} {questions : List Question} → IsAsking decl d epoch shuts questions
      → open_in questions ≡ [] → ⊥
  asking_open s none =
      let all : deciding.all_taken (asked_of _ (asks d)) ≡ true =
      asked_taken most_asks _ (asks d) s.none_left (ap open_in (sym s.questions_are) ∙ none) in
      let not : true ≡ false = sym all ∙ ap deciding.all_taken (sym s.questions_are) ∙ s.open_still in
      let never : ⊥ = cc in never

  installing_open : {closed : List ℕ} {calls : List Call} {installed : List ℕ}
      → IsInstalling decl n d closed calls installed → numbers_in calls ≡ [] → ⊥
  installing_open {closed} {calls} s none =
      let not : true ≡ false = sym (calls_taken (installs d) (sym s.calls_are ∙ no_calls calls none)) ∙ s.open_still in
      let never : ⊥ = cc in never

  stage_rests : (x : Doing) → Stage decl n d x → open_numbers x ≡ [] → commanded d ≡ None
  stage_rests Resting s none = s.commanded_none
  stage_rests (Closing epoch calls round shuts) s none = absurd (closing_open s.0 none)
  stage_rests (Asking epoch shuts questions) s none = absurd (asking_open s none)
  stage_rests (Installing closed awaited calls installed) s none = absurd (installing_open s none)

pub none_commanded : (decl : Declaration) (n : ℕ) (d : AdminAccount) (m : Admin) → Ties decl n d m
    → open_numbers m.doing ≡ [] → commanded d ≡ None
none_commanded decl n d m ties none = stage_rests decl n d m.doing ties.stage none
