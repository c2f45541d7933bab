-- What becomes of him, from what the calls on its way give.
use Rattle.std.proofs.Common.{◌≡◌, ◌==◌, ℕ, Bool, true, false, cond, List, [], ◌∷◌, map, Option, Some, None, refl, sym}
use Rattle.std.proofs.Common.{ap, ◌∙◌}
use Rattle.std.specs.Prelude.{Result, Ok, Err, IfOk, length, nat_le}
use Rattle.std.specs.declared.alloc.AllocError.{AllocError}
use Rattle.std.proofs.lemmas.List.{append-nil}
use Rattle.qc_list.proofs.Members.{every-append}
use Rattle.qc_decl.specs.declared.declaration.Declaration.{Declaration}
use Rattle.qc_msg.specs.declared.call.Call.{Call}
use Rattle.qc_msg.specs.declared.message.Answer.{Answer}
use Rattle.qc_msg.specs.declared.message.Answer.TheVariants as answers
use Rattle.qc_msg.specs.declared.message.Outcome.{Outcome}
use Rattle.qc_msg.specs.Vocabulary.{quiet, site_called, without_call}
use Rattle.qc_plan.specs.declared.standing.Asked.{Asked}
use Rattle.qc_plan.specs.declared.standing.Verdict.TheVariants as verdicts
use Rattle.qc_plan.specs.declared.plan.Plan.{Plan}
use Rattle.qc_plan.specs.Vocabulary.{RoundState, has_granted, note, start, verdict, weight}
use Rattle.qc_decl.specs.Vocabulary.{plan_in}
use Rattle.qc_epoch.specs.Vocabulary.{Admin, AdminMove, Doing, Question, ShutSite, all_taken, answered, answered_in}
use Rattle.qc_epoch.specs.Vocabulary.{asks, close_need, close_round, close_round_by, closes, closes_by, closing_takes}
use Rattle.qc_epoch.specs.Vocabulary.{doing, in_asked_order, moved, outcome_in, questions_of, settles, shut_at}
use Rattle.qc_epoch.specs.Vocabulary.{shut_list, standing_of, taken_for, with_shut_of}
use Rattle.qc_epoch.specs.Admin as admins
use Rattle.qc_admin.specs.declared.asking.Asking.{Asking}
use Rattle.qc_admin.specs.declared.closing.Closing.{Closing}
use Rattle.qc_admin.specs.declared.doing.Doing.TheVariants as runs
use Rattle.qc_admin.specs.declared.next.Next.{Next}
use Rattle.qc_admin.specs.declared.next.Next.TheVariants as nexts
use Rattle.qc_admin.specs.Vocabulary.{AnswerFits, AreOfClients, ShutsFit, asking_of, becomes, begun, closing_of}
use Rattle.qc_admin.specs.Vocabulary.{shut_in, with_last}

-- what ran before doesn't matter
pub becomes_over : (m : Admin) (before d : Doing) (next : Next) → becomes (doing m before) d next ≡ becomes m d next
becomes_over m before d (nexts.GoesOn turn) = refl
becomes_over m before d (nexts.Runs other turn) = refl
becomes_over m before d (nexts.Decides decided other turn) = refl

-- the last that is taken for an Ask
pub asked_last : (decl : Declaration) (result : Result Next AllocError) (a : Asking) (number : ℕ)
    (answer : Option Answer) (outcome : Option Outcome)
    (questions : List Question) (runs : Doing) → outcome ≡ outcome_in answer
    → questions ≡ map (taken_for number outcome) a.questions
    → all_taken (map (taken_for number outcome) a.questions) ≡ true
    → IfOk result (λ next. (m : Admin) (d : Doing) → settles decl m a.epoch a.shuts questions ≡ becomes m d next)
    → IfOk result (λ next. (m : Admin) → answered_in decl (doing m (asking_of a)) (asking_of a) number answer
    ≡ becomes m runs next)
asked_last decl (Err e) a number answer outcome questions runs told are all settled = tt
asked_last decl (Ok next) a number answer outcome questions runs told are all settled = λ m.
    let taken : Option Outcome → List Question = λ o. map (taken_for number o) a.questions in
    let m' : Admin = doing m (asking_of a) in
    let by : Option Outcome → AdminMove = λ o.
    cond (all_taken (taken o)) (settles decl m' a.epoch a.shuts (taken o))
    (moved (doing m' (admins.Asking a.epoch a.shuts (taken o))) quiet) in
    ap by (sym told)
    ∙ ap (λ (b : Bool). cond b (settles decl m' a.epoch a.shuts (taken outcome))
    (moved (doing m' (admins.Asking a.epoch a.shuts (taken outcome))) quiet)) all
    ∙ ap (settles decl m' a.epoch a.shuts) (sym are)
    ∙ settled m' runs
    ∙ becomes_over m (asking_of a) runs next

-- what is told in asked order fits as it fits however it came

found_fits : (shuts : List ShutSite) (site : ℕ) → ShutsFit shuts → ShutsFit (shut_list (shut_at shuts site))
found_fits [] site fit = tt
found_fits (s ∷ ss) site fit = by (s.site == site) (found_fits ss site fit.1)
  where
    by : (t : Bool) → ShutsFit (shut_list (shut_at ss site)) → ShutsFit (shut_list (cond t (Some s) (shut_at ss site)))
    by true rest = (fit.0, tt)
    by false rest = rest

pub ordered_fit : (asked : List Asked) (shuts : List ShutSite) → ShutsFit shuts → ShutsFit (in_asked_order asked shuts)
ordered_fit [] shuts fit = tt
ordered_fit (a ∷ rest) shuts fit =
    every-append (λ (s : ShutSite). AreOfClients s.prepared) (shut_list (shut_at shuts a.site))
    (in_asked_order rest shuts) (found_fits shuts a.site fit) (ordered_fit rest shuts fit)

-- a round that is met
pub closed_met : (decl : Declaration) (result : Result Next AllocError) (c : Closing) (calls : List Call)
    (round : RoundState) (all ordered : List ShutSite) (runs : Doing)
    → verdict round ≡ verdicts.Met → ordered ≡ in_asked_order round.asked all
    → IfOk result (λ next. (m : Admin) (d : Doing)
    → asks decl m c.epoch ordered (questions_of ordered) ≡ becomes m d next)
    → IfOk result (λ next. (m : Admin) → closes decl (doing m (closing_of c)) c.epoch calls round all
    ≡ becomes m runs next)
closed_met decl (Err e) c calls round all ordered runs met are asked = tt
closed_met decl (Ok next) c calls round all ordered runs met are asked = λ m.
    ap (closes_by decl (doing m (closing_of c)) c.epoch calls round all) met
    ∙ ap (λ (shuts : List ShutSite). asks decl (doing m (closing_of c)) c.epoch shuts (questions_of shuts)) (sym are)
    ∙ asked (doing m (closing_of c)) runs
    ∙ becomes_over m (closing_of c) runs next

-- what a site told joins what the others did
pub shut_last : (shuts : List ShutSite) (site : ℕ) (answer : Option Answer)
    → with_shut_of shuts site answer ≡ with_last shuts (shut_in site answer)
shut_last shuts site None = sym (append-nil shuts)
shut_last shuts site (Some (answers.Granted grant)) = sym (append-nil shuts)
shut_last shuts site (Some (answers.Clash holder inv event)) = sym (append-nil shuts)
shut_last shuts site (Some (answers.Closed epoch)) = sym (append-nil shuts)
shut_last shuts site (Some (answers.Behind epoch)) = sym (append-nil shuts)
shut_last shuts site (Some (answers.Restarted life)) = sym (append-nil shuts)
shut_last shuts site (Some answers.Stale) = sym (append-nil shuts)
shut_last shuts site (Some answers.Fault) = sym (append-nil shuts)
shut_last shuts site (Some (answers.Yes clock)) = sym (append-nil shuts)
shut_last shuts site (Some (answers.Shut snapshot)) = refl
shut_last shuts site (Some answers.Installed) = sym (append-nil shuts)
shut_last shuts site (Some (answers.Answered verdict)) = sym (append-nil shuts)

shut_fits : (site : ℕ) (answer : Option Answer) → AnswerFits answer → ShutsFit (shut_list (shut_in site answer))
shut_fits site None fits = tt
shut_fits site (Some (answers.Granted grant)) fits = tt
shut_fits site (Some (answers.Clash holder inv event)) fits = tt
shut_fits site (Some (answers.Closed epoch)) fits = tt
shut_fits site (Some (answers.Behind epoch)) fits = tt
shut_fits site (Some (answers.Restarted life)) fits = tt
shut_fits site (Some answers.Stale) fits = tt
shut_fits site (Some answers.Fault) fits = tt
shut_fits site (Some (answers.Yes clock)) fits = tt
shut_fits site (Some (answers.Shut snapshot)) fits = (fits, tt)
shut_fits site (Some answers.Installed) fits = tt
shut_fits site (Some (answers.Answered verdict)) fits = tt

pub last_fits : (shuts : List ShutSite) (site : ℕ) (answer : Option Answer) → ShutsFit shuts → AnswerFits answer
    → ShutsFit (with_last shuts (shut_in site answer))
last_fits shuts site answer fit fits = every-append (λ (s : ShutSite). AreOfClients s.prepared) shuts
    (shut_list (shut_in site answer)) fit (shut_fits site answer fits)

-- the first answer for an open request
pub answered_on : (decl : Declaration) (result : Result Next AllocError) (c : Closing) (site number : ℕ)
    (answer : Option Answer) (calls : List Call) (round : RoundState)
    (shut : Option ShutSite) (runs : Doing) → site_called c.calls number ≡ Some site
    → calls ≡ without_call c.calls number
    → round ≡ note c.round site (standing_of answer) → shut ≡ shut_in site answer
    → IfOk result (λ next. (m : Admin) → closes decl (doing m (closing_of c)) c.epoch calls round
    (with_last c.shuts shut) ≡ becomes m runs next)
    → IfOk result (λ next. (m : Admin) → answered_in decl (doing m (closing_of c)) (closing_of c) number answer
    ≡ becomes m runs next)
answered_on decl (Err e) c site number answer calls round shut runs called left noted told goes = tt
answered_on decl (Ok next) c site number answer calls round shut runs called left noted told goes = λ m.
    let m' : Admin = doing m (closing_of c) in
    ap (closing_takes decl m' c.epoch c.calls c.round c.shuts number answer) called
    ∙ ap (closes decl m' c.epoch (without_call c.calls number) (note c.round site (standing_of answer)))
    (shut_last c.shuts site answer ∙ ap (with_last c.shuts) (sym told))
    ∙ ap (λ (r : RoundState). closes decl m' c.epoch (without_call c.calls number) r (with_last c.shuts shut))
    (sym noted)
    ∙ ap (λ (cs : List Call). closes decl m' c.epoch cs round (with_last c.shuts shut)) (sym left)
    ∙ goes m

-- a round that has just begun

starts_alike : (decl : Declaration) (m : Admin) (before : Doing) (epoch : ℕ) (weights : List ℕ) (from need : ℕ)
    → closes decl (doing m before) epoch [] (start weights from need) [] ≡ closes decl m epoch []
    (start weights from need) []
starts_alike decl m before epoch weights from need =
    by (nat_le need (weight (has_granted []) weights)) (length (start weights from need).rest == 0)
  where
    by : (met over : Bool) → closes_by decl (doing m before) epoch [] (start weights from need) []
        (cond met verdicts.Met (cond over (verdicts.Short (weight (has_granted []) weights) need) verdicts.Waiting))
        ≡ closes_by decl m epoch [] (start weights from need) []
        (cond met verdicts.Met (cond over (verdicts.Short (weight (has_granted []) weights) need) verdicts.Waiting))
    by true over = refl
    by false true = refl
    by false false = refl

begins_alike : (decl : Declaration) (m : Admin) (before : Doing) (epoch : ℕ) (plan : Option Plan)
    → closes decl (doing m before) epoch [] (close_round_by plan) [] ≡ closes decl m epoch [] (close_round_by plan) []
begins_alike decl m before epoch None = starts_alike decl m before epoch [] 0 0
begins_alike decl m before epoch (Some plan) = starts_alike decl m before epoch plan.weights 0 (close_need plan)

begun_is : (m : Admin) (d : Doing) (c : Closing) (next : Next)
    → becomes m (closing_of c) next ≡ becomes m d (begun (runs.Closing c) next)
begun_is m d c (nexts.GoesOn turn) = refl
begun_is m d c (nexts.Runs other turn) = refl
begun_is m d c (nexts.Decides decided other turn) = refl

pub begins_on : (decl : Declaration) (m : Admin) (d : Doing) (decided epoch : ℕ) (c after : Closing) (calls : List Call)
    (round : RoundState) (next : Next)
    → c.epoch ≡ epoch → c.shuts ≡ [] → calls ≡ [] → round ≡ close_round decl decided
    → ((m : Admin) → closes decl (doing m (closing_of c)) c.epoch calls round (with_last c.shuts None) ≡ becomes m
    (closing_of after) next)
    → closes decl m epoch [] (close_round decl decided) [] ≡ becomes m d (begun (runs.Closing after) next)
begins_on decl m d decided epoch c after calls round next for none few is goes =
    sym (begins_alike decl m (closing_of c) epoch (plan_in decl decided))
    ∙ ap (λ (k : ℕ). closes decl (doing m (closing_of c)) k [] (close_round decl decided) []) (sym for)
    ∙ ap (λ (cs : List Call). closes decl (doing m (closing_of c)) c.epoch cs (close_round decl decided) []) (sym few)
    ∙ ap (λ (r : RoundState). closes decl (doing m (closing_of c)) c.epoch calls r []) (sym is)
    ∙ ap (λ (shuts : List ShutSite). closes decl (doing m (closing_of c)) c.epoch calls round (with_last shuts None))
    (sym none)
    ∙ goes m
    ∙ begun_is m d after next

-- what runs takes what came of a request
pub took : (decl : Declaration) (m : Admin) (number : ℕ) (answer : Option Answer) (before after : Doing) (next : Next)
    (now : AdminMove) → m.doing ≡ before
    → ((n : Admin) → answered_in decl (doing n before) before number answer ≡ becomes n after next)
    → becomes (doing m after) after next ≡ now
    → answered decl m number answer ≡ now
took decl m number answer before after next now is goes ends =
    ap (λ (d : Doing). answered_in decl (doing m d) d number answer) is ∙ goes m ∙ sym (becomes_over m after after next)
    ∙ ends
