-- An actor that rises, and one whose journal does not open, as a schedule makes them: each is an event of a run with
-- falls.
use Rattle.std.proofs.Common.{◌≡◌, ℕ, ◌&&◌, Bool, true, false, cond, List, [], ◌∷◌, ◌++◌, length, Option, Some, None}
use Rattle.std.proofs.Common.{is_some, refl, ap, ◌∙◌}
use Rattle.qc_decl.specs.declared.declaration.Declaration.{Declaration}
use Rattle.qc_msg.specs.declared.record.Record.{Record}
use Rattle.qc_msg.specs.declared.step.Control.{Control}
use Rattle.qc_msg.specs.declared.step.Control.TheVariants as controls
use Rattle.qc_msg.specs.declared.step.Fall.{Fall}
use Rattle.qc_msg.specs.declared.step.Fall.TheVariants as causes
use Rattle.qc_msg.specs.declared.step.Step.TheVariants as steps
use Rattle.qc_msg.specs.declared.turn.Appended.{Appended}
use Rattle.qc_msg.specs.declared.turn.Turn.{Turn}
use Rattle.qc_msg.specs.Vocabulary.{Entry, HasRecord, IsByDisk, by, mail, marked, own, posted_as}
use Rattle.qc_promise.specs.Vocabulary.{journal_of}
use Rattle.qc_script.specs.declared.script.Script.{Script}
use Rattle.qc_script.specs.Vocabulary.{controls_left, rises, unopened}
use Rattle.tests_runs.specs.Perform.{Stage}
use Rattle.tests_runs.proofs.Sound.{first_of_both, second_of_both}
use Rattle.tests_falls.specs.Perform.{are_fit, given_back, is_by_disk, restarted, rises_by, risen_with, turn_in}
use Rattle.tests_falls.specs.Perform.{unopened_by, with_fall, with_rise}
use Rattle.tests_falls.proofs.KeptRecords.{KeptFrom, rise_kept}
use Rattle.tests_falls.proofs.SoundMoves.{IsRunTo, goes_on, lawful_in}

-- whom the first line restarts

abbrev Restarts : Script → List Entry → ℕ → Type 0
Restarts script h a = (lines : List Control) × (controls_left script h ≡ controls.Restart a ∷ lines)

restarts : (script : Script) (h : List Entry) (a : ℕ) (lines : List Control) → controls_left script h ≡ lines
    → restarted lines ≡ Some a → Restarts script h a
restarts script h a [] left is = absurd (let never : ⊥ = cc in never)
restarts script h a (controls.Phase k ∷ lines) left is = absurd (let never : ⊥ = cc in never)
restarts script h a (controls.Cut x y ∷ lines) left is = absurd (let never : ⊥ = cc in never)
restarts script h a (controls.Heal x y ∷ lines) left is = absurd (let never : ⊥ = cc in never)
restarts script h a (controls.Armed actor kind at ∷ lines) left is = absurd (let never : ⊥ = cc in never)
restarts script h a (controls.Crash b ∷ lines) left is = absurd (let never : ⊥ = cc in never)
restarts script h a (controls.Restart b ∷ lines) left is =
    let same : b ≡ a = cc in
    (lines, left ∙ ap (λ (n : ℕ). controls.Restart n ∷ lines) same)

recorded : (write : Option Record) → is_some write ≡ true → HasRecord write
recorded None is = absurd (let never : ⊥ = cc in never)
recorded (Some written) is = tt

rises_soundly : (decl : Declaration) (script : Script) (s t : Stage) (a : ℕ) (end : Appended) (records : List Record)
    → IsRunTo decl script s → Restarts script s.history a
    → ((end : Appended) (n : ℕ) (turn : Turn) → KeptFrom s.history (by a (steps.Rose records ∷ posted_as end n turn)))
    → (turn : Option Turn)
    → turn_in decl a (s.history ++ marked a (steps.Rose records) ∷ []) end ≡ turn
    → risen_with decl s a records turn ≡ Some t → IsRunTo decl script t
rises_soundly decl script s t a end records run line kept None calls is = absurd (let never : ⊥ = cc in never)
rises_soundly decl script s t a end records run line kept (Some turn) calls is =
    if_fit (are_fit decl a 0 records && is_some turn.write) refl is
  where
    if_fit : (may : Bool) → (are_fit decl a 0 records && is_some turn.write) ≡ may
        → cond may (Some (with_rise s a records turn)) None ≡ Some t → IsRunTo decl script t
    if_fit false may is = absurd (let never : ⊥ = cc in never)
    if_fit true may is =
        let same : with_rise s a records turn ≡ t = cc in
        goes_on decl script s t (with_rise s a records turn)
        (by a (steps.Rose records ∷ posted_as turn.append (length (mail s.history)) turn)) run refl
        (kept turn.append (length (mail s.history)) turn) same
        (rises a records turn line.0 s.open_inputs s.history run.run line.1
        (first_of_both (are_fit decl a 0 records) (is_some turn.write) may)
        (recorded turn.write (second_of_both (are_fit decl a 0 records) (is_some turn.write) may))
        (lawful_in decl a (s.history ++ marked a (steps.Rose records) ∷ []) end turn calls))

pub rises_by_soundly : (decl : Declaration) (script : Script) (s t : Stage) (back : Bool) (end : Appended)
    (o : Option ℕ) → IsRunTo decl script s → restarted (controls_left script s.history) ≡ o
    → rises_by decl s back end o ≡ Some t → IsRunTo decl script t
rises_by_soundly decl script s t back end None run line is = absurd (let never : ⊥ = cc in never)
rises_by_soundly decl script s t back end (Some a) run line is =
    rises_soundly decl script s t a end (given_back back (journal_of (own a s.history))) run
    (restarts script s.history a (controls_left script s.history) refl line)
    (rise_kept s.history a back)
    (turn_in decl a (s.history ++ marked a (steps.Rose (given_back back (journal_of (own a s.history)))) ∷ []) end) refl
    is

by_disk : (cause : Fall) → is_by_disk cause ≡ true → IsByDisk cause
by_disk causes.Script is = absurd (let never : ⊥ = cc in never)
by_disk causes.Stop is = tt
by_disk causes.Disk is = tt

pub unopened_soundly : (decl : Declaration) (script : Script) (s t : Stage) (cause : Fall) (o : Option ℕ)
    → IsRunTo decl script s → restarted (controls_left script s.history) ≡ o
    → unopened_by s cause o ≡ Some t → IsRunTo decl script t
unopened_soundly decl script s t cause None run line is = absurd (let never : ⊥ = cc in never)
unopened_soundly decl script s t cause (Some a) run line is = by (is_by_disk cause) refl is
  where
    here : Restarts script s.history a
    here = restarts script s.history a (controls_left script s.history) refl line

    by : (may : Bool) → is_by_disk cause ≡ may → cond may (Some (with_fall s a cause)) None ≡ Some t
        → IsRunTo decl script t
    by false may is = absurd (let never : ⊥ = cc in never)
    by true may is =
        let same : with_fall s a cause ≡ t = cc in
        goes_on decl script s t (with_fall s a cause) (marked a (steps.Fell cause None) ∷ []) run refl (tt, tt) same
        (unopened a cause here.0 s.open_inputs s.history run.run here.1 (by_disk cause may))
