-- A run of a plain script has few steps, and commits few operations: by what its script asks.
use Rattle.std.proofs.Common.{◌≡◌, ℕ, ◌+◌, ◌*◌, ◌≤◌, Bool, List, [], ◌∷◌, ◌++◌, length, sum_by, Option, Some, None}
use Rattle.std.proofs.Common.{refl, sym, ap, ◌∙◌, arith, length-append}
use Rattle.std.proofs.lemmas.List.Sums.{sum_by-append, sum_by-cons}
use Rattle.qc_core.specs.Vocabulary.{IsLawful}
use Rattle.qc_decl.specs.Vocabulary.{IsAccepted, controller}
use Rattle.qc_decl.specs.declared.declaration.Declaration.{Declaration}
use Rattle.qc_entry.specs.declared.record.Commit.{Commit}
use Rattle.qc_msg.specs.declared.record.Record.{Record}
use Rattle.qc_msg.specs.declared.reply.Reply.{Reply}
use Rattle.qc_msg.specs.declared.step.Input.{Input}
use Rattle.qc_msg.specs.declared.step.Input.TheVariants as inputs
use Rattle.qc_msg.specs.declared.step.Step.{Step}
use Rattle.qc_msg.specs.declared.step.Step.TheVariants as steps
use Rattle.qc_msg.specs.declared.turn.Posting.{Posting}
use Rattle.qc_msg.specs.declared.turn.Turn.{Turn}
use Rattle.qc_msg.specs.Vocabulary.{Entry, answered, by, mail, marked, operations_of, posted, sents, step_of, told}
use Rattle.qc_msg.specs.Vocabulary.{written, wrote}
use Rattle.qc_msg.proofs.GrownMail.{by-posted}
use Rattle.qc_script.specs.Vocabulary.{Runs, inbox, phase_of}
use Rattle.qc_script.specs.Runs.{begins, takes, posts, phase, control}
use Rattle.qc_script.specs.declared.script.Script.{Script}
use Rattle.laws_turns.proofs.Calling.{phases_are_the_scripts}
use Rattle.laws_turns.proofs.PhaseCalls.{phase_posted}
use Rattle.laws_guarantees.specs.Vocabulary.{Arrives, IsLossless}
use Rattle.laws_guarantees.proofs.NeverRisen.{operations_written}
use Rattle.laws_guarantees.proofs.Passing.{no_request_is_lost}
use Rattle.laws_room.specs.Vocabulary.{IsPlain, commands_of, dos_of}
use Rattle.laws_room.proofs.OperationPrices.{dos_paid, in_operations, operation_budget, operations_cost}
use Rattle.laws_room.proofs.OperationPrices.{operations_fair}
use Rattle.laws_room.proofs.Costs.{cost_of, script_budget, step_cost}
use Rattle.laws_room.proofs.Paid.{run_paid}
use Rattle.laws_room.proofs.Prices.{Prices}
use Rattle.laws_room.proofs.StepPrices.{in_steps, steps_fair, steps_paid}
use Rattle.qc_script.proofs.Phases.{phase_more, phase_taken}

-- the steps of an input, and of a turn, each cost one

cost-more : (p : Prices) (h k : List Entry) → cost_of p (h ++ k) ≡ cost_of p h + cost_of p k
cost-more p h k = sum_by-append (λ (e : Entry). step_cost p e.step) h k

each_one : (a : ℕ) (s : Step) → step_cost in_steps s ≡ 1 → cost_of in_steps (marked a s ∷ []) ≡ 1
each_one a s one =
    let all : cost_of in_steps (marked a s ∷ []) ≡ step_cost in_steps s + 0 =
    sum_by-cons (λ (e : Entry). step_cost in_steps e.step) (marked a s) [] in
    omega arith

steps_wrote : (a : ℕ) (o : Option Record) → length (by a (wrote o)) ≡ cost_of in_steps (by a (wrote o))
steps_wrote a None = refl
steps_wrote a (Some w) = omega arith

steps_told : (a : ℕ) (o : Option Reply) → length (by a (told o)) ≡ cost_of in_steps (by a (told o))
steps_told a None = refl
steps_told a (Some r) = omega arith

steps_sents : (a n : ℕ) (ss : List Posting) → length (by a (sents n ss)) ≡ cost_of in_steps (by a (sents n ss))
steps_sents a n [] = refl
steps_sents a n (s ∷ ss) =
    let rest : length (by a (sents (n + 1) ss)) ≡ cost_of in_steps (by a (sents (n + 1) ss)) =
    steps_sents a (n + 1) ss in
    let c : cost_of in_steps (by a (sents n (s ∷ ss))) ≡ 1 + cost_of in_steps (by a (sents (n + 1) ss)) =
    sum_by-cons (λ (e : Entry). step_cost in_steps e.step) (marked a (steps.Sent n s.to s.message))
    (by a (sents (n + 1) ss)) in
    omega arith

steps_posted : (a n : ℕ) (turn : Turn) → length (by a (posted n turn)) ≡ cost_of in_steps (by a (posted n turn))
steps_posted a n turn =
    ap length (by-posted a n turn) ∙ whole ∙ sym (ap (cost_of in_steps) (by-posted a n turn))
  where
    w : List Entry
    w = by a (wrote turn.write)

    s : List Entry
    s = by a (sents n turn.sends)

    t : List Entry
    t = by a (told turn.told)

    whole : length (w ++ (s ++ t)) ≡ cost_of in_steps (w ++ (s ++ t))
    whole =
        let l : length (w ++ (s ++ t)) ≡ length w + length (s ++ t) = length-append w (s ++ t) in
        let m : length (s ++ t) ≡ length s + length t = length-append s t in
        let c : cost_of in_steps (w ++ (s ++ t)) ≡ cost_of in_steps w + cost_of in_steps (s ++ t) =
        cost-more in_steps w (s ++ t) in
        let d : cost_of in_steps (s ++ t) ≡ cost_of in_steps s + cost_of in_steps t = cost-more in_steps s t in
        let x : length w ≡ cost_of in_steps w = steps_wrote a turn.write in
        let y : length s ≡ cost_of in_steps s = steps_sents a n turn.sends in
        let z : length t ≡ cost_of in_steps t = steps_told a turn.told in
        omega arith

step_of-cost : (g : Input) → step_cost in_steps (step_of g) ≡ 1
step_of-cost (inputs.Called command) = refl
step_of-cost (inputs.Got e) = refl
step_of-cost (inputs.Lost n) = refl

module _ (decl : Declaration) (script : Script) (lossless : IsLossless script) where
  pub steps_cost : (h : List Entry) (open_inputs : List Bool) → Runs (IsLawful decl) decl script h open_inputs
      → length h ≡ cost_of in_steps h + phase_of h
  steps_cost h open_inputs begins = refl
  steps_cost h open_inputs (takes b g before older run free rdy) =
      let old : length older ≡ cost_of in_steps older + phase_of older = steps_cost older before run in
      let l : length (older ++ marked b (step_of g) ∷ []) ≡ length older + 1 =
      length-append older (marked b (step_of g) ∷ []) in
      let c : cost_of in_steps (older ++ marked b (step_of g) ∷ [])
      ≡ cost_of in_steps older + cost_of in_steps (marked b (step_of g) ∷ []) =
      cost-more in_steps older (marked b (step_of g) ∷ []) in
      let one : cost_of in_steps (marked b (step_of g) ∷ []) ≡ 1 = each_one b (step_of g) (step_of-cost g) in
      let same : phase_of (older ++ marked b (step_of g) ∷ []) ≡ phase_of older = phase_taken older b g in
      omega arith
  steps_cost h open_inputs (posts b turn before older run open_still lawful) =
      let old : length older ≡ cost_of in_steps older + phase_of older = steps_cost older before run in
      let l : length (older ++ by b (posted (length (mail older)) turn))
      ≡ length older + length (by b (posted (length (mail older)) turn)) =
      length-append older (by b (posted (length (mail older)) turn)) in
      let c : cost_of in_steps (older ++ by b (posted (length (mail older)) turn))
      ≡ cost_of in_steps older + cost_of in_steps (by b (posted (length (mail older)) turn)) =
      cost-more in_steps older (by b (posted (length (mail older)) turn)) in
      let one : length (by b (posted (length (mail older)) turn))
      ≡ cost_of in_steps (by b (posted (length (mail older)) turn)) =
      steps_posted b (length (mail older)) turn in
      let same : phase_of (older ++ by b (posted (length (mail older)) turn)) ≡ phase_of older =
      phase_posted older b (length (mail older)) turn in
      omega arith
  steps_cost h open_inputs (phase before older run none done quiet more) =
      let old : length older ≡ cost_of in_steps older + phase_of older = steps_cost older before run in
      let l : length (older ++ marked (controller decl) (steps.Phase (phase_of older + 1)) ∷ []) ≡ length older + 1 =
      length-append older (marked (controller decl) (steps.Phase (phase_of older + 1)) ∷ []) in
      let c : cost_of in_steps (older ++ marked (controller decl) (steps.Phase (phase_of older + 1)) ∷ [])
      ≡ cost_of in_steps older + 0 =
      cost-more in_steps older (marked (controller decl) (steps.Phase (phase_of older + 1)) ∷ []) in
      let next : phase_of (older ++ marked (controller decl) (steps.Phase (phase_of older + 1)) ∷ [])
      ≡ phase_of older + 1 =
      phase_more older (marked (controller decl) (steps.Phase (phase_of older + 1)) ∷ []) in
      omega arith
  steps_cost h open_inputs (control line lines step before older run left is) =
      let r : Arrives script 0 older = no_request_is_lost decl script older before lossless run 0 in
      let none : (inbox script 0 older).controls ≡ [] = r.calm.controls in
      absurd (let never : ⊥ = cc in never)

-- the bounds

pub operations_are_few : (decl : Declaration) (script : Script) → IsAccepted decl → IsPlain script → (h : List Entry)
    (open_inputs : List Bool) → Runs (IsLawful decl) decl script h open_inputs → operations_of h ≤ dos_of script
operations_are_few decl script accepted plain h open_inputs run =
    let paid : cost_of in_operations h ≤ script_budget in_operations decl.sites script.phases =
    run_paid decl accepted in_operations operations_fair script plain.lossless h open_inputs run in
    let all : script_budget in_operations decl.sites script.phases ≡ dos_of script * 1 =
    dos_paid in_operations decl.sites 1 script (operation_budget decl.sites) in
    let same : operations_of h ≡ sum_by (λ (c : Commit). answered c.ops) (written h) =
    operations_written (IsLawful decl) decl script h open_inputs run in
    let counted : sum_by (λ (c : Commit). answered c.ops) (written h) ≡ cost_of in_operations h = operations_cost h in
    omega arith

pub steps_are_few : (decl : Declaration) (script : Script) → IsAccepted decl → IsPlain script → (h : List Entry)
    (open_inputs : List Bool) → Runs (IsLawful decl) decl script h open_inputs
    → length h ≤ length script.phases + commands_of script * (3 + 18 * decl.sites)
steps_are_few decl script accepted plain h open_inputs run =
    let paid : cost_of in_steps h ≤ script_budget in_steps decl.sites script.phases =
    run_paid decl accepted in_steps steps_fair script plain.lossless h open_inputs run in
    let all : script_budget in_steps decl.sites script.phases ≤ commands_of script * (3 + 18 * decl.sites) =
    steps_paid decl.sites script in
    let same : length h ≡ cost_of in_steps h + phase_of h = steps_cost decl script plain.lossless h open_inputs run in
    let few : phase_of h ≤ length script.phases =
    phases_are_the_scripts (IsLawful decl) decl script h open_inputs run in
    omega arith
