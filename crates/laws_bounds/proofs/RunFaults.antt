-- Who is armed, falls and rises in a run is an actor of the script's control lines, or one that posts.
use Rattle.std.proofs.Common.{◌≡◌, ℕ, ◌<◌, ◌≤◌, Bool, true, false, List, [], ◌∷◌, ◌++◌, length, Some, ap, ◌∙◌, arith}
use Rattle.std.specs.Prelude.{slice_get}
use Rattle.std.specs.List.{AllByRecursion as Every}
use Rattle.qc_list.proofs.Members.{every-append, every-weaker}
use Rattle.qc_decl.specs.Vocabulary.{actors, administrator, controller}
use Rattle.qc_decl.specs.declared.declaration.Declaration.{Declaration}
use Rattle.laws_turns.proofs.Places.{length-replicate}
use Rattle.qc_msg.specs.declared.record.Record.{Record}
use Rattle.qc_msg.specs.declared.step.Control.{Control}
use Rattle.qc_msg.specs.declared.step.Control.TheVariants as controls
use Rattle.qc_msg.specs.declared.step.Step.{Step}
use Rattle.qc_msg.specs.declared.step.Step.TheVariants as steps
use Rattle.qc_msg.specs.declared.turn.Turn.{Turn}
use Rattle.qc_msg.specs.Vocabulary.{Deed, Entry, by, mail, marked, posted_as, step_of}
use Rattle.qc_promise.specs.Vocabulary.{AreFallsBelow, IsFallBelow}
use Rattle.qc_script.specs.Vocabulary.{IsControlFor, IsPhaseFor, IsScriptFor, RunsWithFalls, begins, control}
use Rattle.qc_script.specs.Vocabulary.{controller_step, controls_left, damaged, falls, phase, posts, rises, takes}
use Rattle.qc_script.specs.Vocabulary.{unopened}
use Rattle.qc_script.specs.declared.script.PhaseLines.{PhaseLines}
use Rattle.qc_script.specs.declared.script.Script.{Script}
use Rattle.laws_bounds.specs.Vocabulary.{AreControlsBelow, AreFaultsBelow, IsControlBelow, IsFaultBelow}
use Rattle.laws_bounds.proofs.SettledLines.{next_line}
use Rattle.laws_bounds.proofs.Posts.{IsActing, every_by, input_acting, posts_acting}
use Rattle.laws_bounds.proofs.StepCases.{line_cases}
use Rattle.qc_list.proofs.Places.{place_within, length-slice_set}

-- the lines of a script that is for a declaration

control_sound : (decl : Declaration) (line : Control) → IsControlFor decl line → IsControlBelow (controller decl) line
control_sound decl (controls.Phase k) is = tt
control_sound decl (controls.Cut a b) is = tt
control_sound decl (controls.Heal a b) is = tt
control_sound decl (controls.Armed actor kind at) is = (let low : actor ≤ administrator decl = is.0 in omega arith)
control_sound decl (controls.Crash actor) is = (let low : actor ≤ administrator decl = is in omega arith)
control_sound decl (controls.Restart actor) is = (let low : actor ≤ administrator decl = is in omega arith)

pub script_sound : (decl : Declaration) (script : Script) → IsScriptFor decl script
    → AreControlsBelow (controller decl) script
script_sound decl script is =
    every-weaker (IsPhaseFor decl) (λ (p : PhaseLines). Every (IsControlBelow (controller decl)) p.controls)
    (λ p sound.
    every-weaker (IsControlFor decl) (IsControlBelow (controller decl)) (control_sound decl) p.controls sound.0)
    script.phases is.phases

-- one step

acting_below : (n a : ℕ) → a < n → (s : Step) → IsActing s → IsFaultBelow n a s
acting_below n a low (steps.Phase k) acts = tt
acting_below n a low (steps.Cut x y) acts = tt
acting_below n a low (steps.Heal x y) acts = tt
acting_below n a low (steps.Armed actor kind at) acts = absurd acts
acting_below n a low (steps.Called command) acts = tt
acting_below n a low (steps.Got k) acts = tt
acting_below n a low (steps.Lost k) acts = tt
acting_below n a low (steps.Wrote written) acts = tt
acting_below n a low (steps.Sent k to message) acts = tt
acting_below n a low (steps.Told reply) acts = tt
acting_below n a low (steps.Fell cause pending) acts = low
acting_below n a low (steps.Rose records) acts = absurd acts
acting_below n a low (steps.Damaged offset) acts = absurd acts

line_below : (n a : ℕ) (line : Control) (step : Step) → IsControlBelow n line → controller_step line ≡ Some step
    → IsFaultBelow n a step
line_below n a line step below is =
    line_cases (λ line step. IsControlBelow n line → IsFaultBelow n a step) (λ x y below. tt) (λ x y below. tt)
    (λ actor kind at below. below) line step is below

posts_below : (n a k : ℕ) (turn : Turn) → a < n → AreFaultsBelow n (by a (posted_as turn.append k turn))
posts_below n a k turn low =
    every_by (λ (e : Entry). IsFaultBelow n e.actor e.step) IsActing a (acting_below n a low)
    (posted_as turn.append k turn) (posts_acting turn.append k turn)

-- a run

record AreBelow (n most : ℕ) (h : List Entry) (open_inputs : List Bool) : Type 0 where
  faults : AreFaultsBelow n h
  long : length open_inputs ≡ most

module _ (lawful : ℕ → List Deed → Turn → Type 0) (fits : ℕ → List Record → Type 0) (decl : Declaration)
    (script : Script) (n : ℕ) (few : actors decl ≤ n) (below : AreControlsBelow n script) where
  more : (h k : List Entry) → AreFaultsBelow n h → AreFaultsBelow n k → AreFaultsBelow n (h ++ k)
  more h k first second = every-append (λ (e : Entry). IsFaultBelow n e.actor e.step) h k first second

  line_is : (h : List Entry) (line : Control) (lines : List Control) → controls_left script h ≡ line ∷ lines
      → IsControlBelow n line
  line_is h line lines left =
      next_line (IsControlBelow n) script below h line (ap (λ (l : List Control). slice_get l 0) left)

  all_below : (h : List Entry) (open_inputs : List Bool) → RunsWithFalls lawful fits decl script h open_inputs
      → AreBelow n (actors decl) h open_inputs
  all_below h open_inputs begins = record { faults = tt; long = length-replicate (actors decl) false }
  all_below h open_inputs (takes a g inputs older run free rdy) =
      let was = all_below older inputs run in
      let place : a < length inputs = place_within inputs a false free in
      let low : a < n = omega (arith, place, was.long, few) in
      record {
        faults =
            more older (marked a (step_of g) ∷ []) was.faults (acting_below n a low (step_of g) (input_acting g), tt);
        long = length-slice_set inputs a true ∙ was.long;
      }
  all_below h open_inputs (posts a turn inputs older run taken law) =
      let was = all_below older inputs run in
      let place : a < length inputs = place_within inputs a true taken in
      let low : a < n = omega (arith, place, was.long, few) in
      record {
        faults =
            more older (by a (posted_as turn.append (length (mail older)) turn)) was.faults
            (posts_below n a (length (mail older)) turn low);
        long = length-slice_set inputs a false ∙ was.long;
      }
  all_below h open_inputs (phase inputs older run none done calm further) =
      let was = all_below older inputs run in
      record { faults = more older _ was.faults (tt, tt); long = was.long }
  all_below h open_inputs (control line lines step inputs older run left is) =
      let was = all_below older inputs run in
      record {
        faults =
            more older (marked (controller decl) step ∷ []) was.faults
            (line_below n (controller decl) line step (line_is older line lines left) is, tt);
        long = was.long;
      }
  all_below h open_inputs (falls a lines inputs older run left) =
      let was = all_below older inputs run in
      record {
        faults = more older _ was.faults (line_is older (controls.Crash a) lines left, tt);
        long = was.long;
      }
  all_below h open_inputs (rises a records turn lines inputs older run left fit has law) =
      let was = all_below older inputs run in
      let low : a < n = line_is older (controls.Restart a) lines left in
      record {
        faults =
            more older (marked a (steps.Rose records) ∷ by a (posted_as turn.append (length (mail older)) turn))
            was.faults (low, posts_below n a (length (mail older)) turn low);
        long = was.long;
      }
  all_below h open_inputs (damaged a offset lines inputs older run left) =
      let was = all_below older inputs run in
      record {
        faults = more older _ was.faults (line_is older (controls.Restart a) lines left, tt);
        long = was.long;
      }
  all_below h open_inputs (unopened a cause lines inputs older run left disk) =
      let was = all_below older inputs run in
      record {
        faults = more older _ was.faults (line_is older (controls.Restart a) lines left, tt);
        long = was.long;
      }

pub run_faults : (lawful : ℕ → List Deed → Turn → Type 0) (fits : ℕ → List Record → Type 0) (decl : Declaration)
    (script : Script) (n : ℕ) (h : List Entry) (open_inputs : List Bool) → actors decl ≤ n → AreControlsBelow n script
    → RunsWithFalls lawful fits decl script h open_inputs → AreFaultsBelow n h
run_faults lawful fits decl script n h open_inputs few below run =
    (all_below lawful fits decl script n few below h open_inputs run).faults

-- falls are faults

fall_below : (n a : ℕ) (s : Step) → IsFaultBelow n a s → IsFallBelow n a s
fall_below n a (steps.Phase k) low = tt
fall_below n a (steps.Cut x y) low = tt
fall_below n a (steps.Heal x y) low = tt
fall_below n a (steps.Armed actor kind at) low = tt
fall_below n a (steps.Called command) low = tt
fall_below n a (steps.Got k) low = tt
fall_below n a (steps.Lost k) low = tt
fall_below n a (steps.Wrote written) low = tt
fall_below n a (steps.Sent k to message) low = tt
fall_below n a (steps.Told reply) low = tt
fall_below n a (steps.Fell cause pending) low = low
fall_below n a (steps.Rose records) low = tt
fall_below n a (steps.Damaged offset) low = tt

pub falls_below : (n : ℕ) (h : List Entry) → AreFaultsBelow n h → AreFallsBelow n h
falls_below n h below =
    every-weaker (λ (e : Entry). IsFaultBelow n e.actor e.step) (λ (e : Entry). IsFallBelow n e.actor e.step)
    (λ e low. fall_below n e.actor e.step low) h below
