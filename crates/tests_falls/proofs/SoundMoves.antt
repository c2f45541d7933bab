-- An input that is taken, a turn that is posted, a phase that begins and a control line that acts are events of a run
-- with falls, as a schedule makes them.
use Rattle.std.proofs.Common.{◌≡◌, ℕ, ◌+◌, ◌&&◌, nat_lt, Bool, true, false, cond, List, [], ◌∷◌, ◌++◌, length, Option}
use Rattle.std.proofs.Common.{Some, None, refl, ap, sym, subst, ◌∙◌}
use Rattle.std.specs.Prelude.{option_and_then, slice_get}
use Rattle.std.proofs.lemmas.Bool.{ltb-true}
use Rattle.qc_core.specs.Vocabulary.{IsLawfulWithFalls, turn_with_falls}
use Rattle.qc_core.proofs.LivesLaws.{called_written}
use Rattle.qc_decl.specs.declared.declaration.Declaration.{Declaration}
use Rattle.qc_decl.specs.Vocabulary.{controller}
use Rattle.qc_msg.specs.declared.record.Record.{Record}
use Rattle.qc_msg.specs.declared.step.Control.{Control}
use Rattle.qc_msg.specs.declared.step.Control.TheVariants as controls
use Rattle.qc_msg.specs.declared.step.Fall.TheVariants as causes
use Rattle.qc_msg.specs.declared.step.Input.{Input}
use Rattle.qc_msg.specs.declared.step.Input.TheVariants as inputs
use Rattle.qc_msg.specs.declared.step.Step.TheVariants as steps
use Rattle.qc_msg.specs.declared.turn.Appended.{Appended}
use Rattle.qc_msg.specs.declared.turn.Appended.TheVariants.{Done, Failed, Stopped}
use Rattle.qc_msg.specs.declared.turn.Turn.{Turn}
use Rattle.qc_msg.specs.Vocabulary.{Deed, Entry, HasRecord, by, deeds, mail, marked, posted_as, step_of}
use Rattle.qc_script.specs.declared.script.Script.{Script}
use Rattle.qc_script.specs.Vocabulary.{control, controls_left, falls, phase, phase_of, posts, ready, takes}
use Rattle.tests_runs.specs.Perform.{Stage, is_quiet, may_begin, none_left, taken_by, with_step, with_taken}
use Rattle.tests_runs.proofs.Sound.{first_of_both, no_controls, none_open, quiet_below, quiet_closed, second_of_both}
use Rattle.tests_falls.specs.Perform.{acted_by, ending_so, posted_by, turn_in, where_recorded, with_fall, with_posted}
use Rattle.tests_falls.proofs.KeptRecords.{KeptFrom, kept_both, post_kept}
use Rattle.tests_falls.specs.Whole.{IsRun}

-- what a schedule has made so far

pub record IsRunTo (decl : Declaration) (script : Script) (s : Stage) : Type 0 where
  pub run : IsRun decl script s.history s.open_inputs
  pub kept : KeptFrom [] s.history

pub goes_on : (decl : Declaration) (script : Script) (s t : Stage) (next : Stage) (more : List Entry)
    → IsRunTo decl script s → next.history ≡ s.history ++ more → KeptFrom s.history more → next ≡ t
    → IsRun decl script next.history next.open_inputs → IsRunTo decl script t
goes_on decl script s t next more so is kept same run =
    subst (IsRunTo decl script) same
    (record { run = run; kept = subst (KeptFrom []) (sym is) (kept_both [] s.history more so.kept kept) })

-- a turn whose record ends as the schedule says is lawful

lawful_as : (decl : Declaration) (a : ℕ) (ds : List Deed) (turn t : Turn) (end : Appended)
    → turn_with_falls decl a ds ≡ Some turn → ending_so end turn ≡ Some t → IsLawfulWithFalls decl a ds t
lawful_as decl a ds turn t end calls is = by end is
  where
    whole : Some turn ≡ Some (record turn { append = Done })
    whole = ap (λ (x : Appended). Some (record turn { append = x })) (called_written decl a ds turn calls)

    by : (e : Appended) → ending_so e turn ≡ Some t → IsLawfulWithFalls decl a ds t
    by Done is =
        let same : record turn { append = Done } ≡ t = cc in
        subst (IsLawfulWithFalls decl a ds) same (record { called_for = calls ∙ whole; may_end = tt })
    by Failed is = failing turn.write refl is
      where
        failing : (write : Option Record) → turn.write ≡ write
            → where_recorded write (record turn { append = Failed }) ≡ Some t → IsLawfulWithFalls decl a ds t
        failing None write is = absurd (let never : ⊥ = cc in never)
        failing (Some written) write is =
            let same : record turn { append = Failed } ≡ t = cc in
            subst (IsLawfulWithFalls decl a ds) same
            (record { called_for = calls ∙ whole; may_end = subst HasRecord (sym write) tt })
    by Stopped is = stopping turn.write refl is
      where
        stopping : (write : Option Record) → turn.write ≡ write
            → where_recorded write (record turn { append = Stopped }) ≡ Some t → IsLawfulWithFalls decl a ds t
        stopping None write is = absurd (let never : ⊥ = cc in never)
        stopping (Some written) write is =
            let same : record turn { append = Stopped } ≡ t = cc in
            subst (IsLawfulWithFalls decl a ds) same
            (record { called_for = calls ∙ whole; may_end = subst HasRecord (sym write) tt })

pub lawful_in : (decl : Declaration) (a : ℕ) (h : List Entry) (end : Appended) (t : Turn)
    → turn_in decl a h end ≡ Some t
    → IsLawfulWithFalls decl a (deeds a [] h) t
lawful_in decl a h end t is = by (turn_with_falls decl a (deeds a [] h)) refl is
  where
    by : (o : Option Turn) → turn_with_falls decl a (deeds a [] h) ≡ o → option_and_then (ending_so end) o ≡ Some t
        → IsLawfulWithFalls decl a (deeds a [] h) t
    by None calls is = absurd (let never : ⊥ = cc in never)
    by (Some turn) calls is = lawful_as decl a (deeds a [] h) turn t end calls is

-- each move is an event of a run

input_kept : (h : List Entry) (a : ℕ) (given : Input) → KeptFrom h (marked a (step_of given) ∷ [])
input_kept h a (inputs.Called command) = (tt, tt)
input_kept h a (inputs.Got envelope) = (tt, tt)
input_kept h a (inputs.Lost number) = (tt, tt)

pub takes_soundly : (decl : Declaration) (script : Script) (s t : Stage) (a : ℕ) (opened : Option Bool)
    (given : Option Input) → IsRunTo decl script s
    → slice_get s.open_inputs a ≡ opened → ready decl script a s.history ≡ given → taken_by s a opened given ≡ Some t
    → IsRunTo decl script t
takes_soundly decl script s t a None given run opens comes is = absurd (let never : ⊥ = cc in never)
takes_soundly decl script s t a (Some true) given run opens comes is = absurd (let never : ⊥ = cc in never)
takes_soundly decl script s t a (Some false) None run opens comes is = absurd (let never : ⊥ = cc in never)
takes_soundly decl script s t a (Some false) (Some given) run opens comes is =
    let same : with_taken s a given ≡ t = cc in
    goes_on decl script s t (with_taken s a given) (marked a (step_of given) ∷ []) run refl
    (input_kept s.history a given) same (takes a given s.open_inputs s.history run.run opens comes)

pub posts_soundly : (decl : Declaration) (script : Script) (s t : Stage) (a : ℕ) (end : Appended) (opened : Option Bool)
    (turn : Option Turn) → IsRunTo decl script s
    → slice_get s.open_inputs a ≡ opened → turn_in decl a s.history end ≡ turn → posted_by s a opened turn ≡ Some t
    → IsRunTo decl script t
posts_soundly decl script s t a end None turn run opens calls is = absurd (let never : ⊥ = cc in never)
posts_soundly decl script s t a end (Some false) turn run opens calls is = absurd (let never : ⊥ = cc in never)
posts_soundly decl script s t a end (Some true) None run opens calls is = absurd (let never : ⊥ = cc in never)
posts_soundly decl script s t a end (Some true) (Some turn) run opens calls is =
    let same : with_posted s a turn ≡ t = cc in
    goes_on decl script s t (with_posted s a turn) (by a (posted_as turn.append (length (mail s.history)) turn)) run
    refl (post_kept turn.append (length (mail s.history)) turn s.history a) same
    (posts a turn s.open_inputs s.history run.run opens (lawful_in decl a s.history end turn calls))

pub begins_soundly : (decl : Declaration) (script : Script) (s t : Stage) (may : Bool) → IsRunTo decl script s
    → may_begin decl script s ≡ may
    → cond may (Some (with_step decl s (steps.Phase (phase_of s.history + 1)))) None ≡ Some t → IsRunTo decl script t
begins_soundly decl script s t false run may is = absurd (let never : ⊥ = cc in never)
begins_soundly decl script s t true run may is =
    let before : (none_left (controls_left script s.history) && nat_lt (phase_of s.history) (length script.phases))
    ≡ true =
    first_of_both (none_left (controls_left script s.history) && nat_lt (phase_of s.history) (length script.phases))
    (is_quiet decl script s) may in
    let quiet : is_quiet decl script s ≡ true =
    second_of_both (none_left (controls_left script s.history) && nat_lt (phase_of s.history) (length script.phases))
    (is_quiet decl script s) may in
    let same : with_step decl s (steps.Phase (phase_of s.history + 1)) ≡ t = cc in
    goes_on decl script s t (with_step decl s (steps.Phase (phase_of s.history + 1)))
    (marked (controller decl) (steps.Phase (phase_of s.history + 1)) ∷ []) run refl (tt, tt) same
    (phase s.open_inputs s.history run.run
    (λ a. none_open s.open_inputs a (quiet_closed decl script s quiet))
    (no_controls (controls_left script s.history)
    (first_of_both (none_left (controls_left script s.history)) (nat_lt (phase_of s.history) (length script.phases))
    before))
    (quiet_below decl script s quiet)
    (ltb-true (phase_of s.history) (length script.phases)
    (second_of_both (none_left (controls_left script s.history))
    (nat_lt (phase_of s.history) (length script.phases)) before)))

pub acts_soundly : (decl : Declaration) (script : Script) (s t : Stage) (lines : List Control) → IsRunTo decl script s
    → controls_left script s.history ≡ lines
    → acted_by decl s lines ≡ Some t → IsRunTo decl script t
acts_soundly decl script s t [] run left is = absurd (let never : ⊥ = cc in never)
acts_soundly decl script s t (controls.Phase k ∷ lines) run left is = absurd (let never : ⊥ = cc in never)
acts_soundly decl script s t (controls.Cut a b ∷ lines) run left is =
    let same : with_step decl s (steps.Cut a b) ≡ t = cc in
    goes_on decl script s t (with_step decl s (steps.Cut a b)) (marked (controller decl) (steps.Cut a b) ∷ []) run refl
    (tt, tt) same (control (controls.Cut a b) lines (steps.Cut a b) s.open_inputs s.history run.run left refl)
acts_soundly decl script s t (controls.Heal a b ∷ lines) run left is =
    let same : with_step decl s (steps.Heal a b) ≡ t = cc in
    goes_on decl script s t (with_step decl s (steps.Heal a b)) (marked (controller decl) (steps.Heal a b) ∷ []) run
    refl (tt, tt) same
    (control (controls.Heal a b) lines (steps.Heal a b) s.open_inputs s.history run.run left refl)
acts_soundly decl script s t (controls.Armed actor kind at ∷ lines) run left is =
    let same : with_step decl s (steps.Armed actor kind at) ≡ t = cc in
    goes_on decl script s t (with_step decl s (steps.Armed actor kind at))
    (marked (controller decl) (steps.Armed actor kind at) ∷ []) run refl (tt, tt) same
    (control (controls.Armed actor kind at) lines (steps.Armed actor kind at) s.open_inputs s.history run.run left refl)
acts_soundly decl script s t (controls.Crash a ∷ lines) run left is =
    let same : with_fall s a causes.Script ≡ t = cc in
    goes_on decl script s t (with_fall s a causes.Script) (marked a (steps.Fell causes.Script None) ∷ []) run refl
    (tt, tt) same (falls a lines s.open_inputs s.history run.run left)
acts_soundly decl script s t (controls.Restart a ∷ lines) run left is = absurd (let never : ⊥ = cc in never)
