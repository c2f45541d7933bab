-- Deeds in which the actor neither falls nor rises: those of each run, and those of who takes inputs and posts turns.
use Rattle.std.proofs.Common.{◌≡◌, ℕ, ◌+◌, ◌==◌, Bool, true, false, cond, List, [], ◌∷◌, ◌++◌, length, Option, Some}
use Rattle.std.proofs.Common.{None, slice_get, refl, sym, subst, eqb-true}
use Rattle.qc_core.specs.Vocabulary.{AreSteady}
use Rattle.qc_decl.specs.declared.declaration.Declaration.{Declaration}
use Rattle.qc_decl.specs.Vocabulary.{controller}
use Rattle.qc_msg.specs.declared.message.Envelope.{Envelope}
use Rattle.qc_msg.specs.declared.step.Input.{Input}
use Rattle.qc_msg.specs.declared.step.Input.TheVariants as inputs
use Rattle.qc_msg.specs.declared.step.Step.{Step}
use Rattle.qc_msg.specs.declared.step.Step.TheVariants as steps
use Rattle.qc_msg.specs.declared.turn.Turn.{Turn}
use Rattle.qc_msg.specs.Vocabulary.{Deed, Entry, by, deed_at, deeds, heard, mail, marked, posted, step_of, turn_deeds}
use Rattle.qc_msg.proofs.DeedsGrow.{deeds-append, deeds-other}
use Rattle.qc_msg.proofs.Growth.{deeds-posted}
use Rattle.qc_script.specs.Vocabulary.{Runs, phase_of}
use Rattle.qc_script.specs.Runs.{begins, takes, posts, phase, control}
use Rattle.qc_script.specs.declared.script.Script.{Script}
use Rattle.laws_turns.proofs.Numbered.{IsSilent, control_silent, phase_silent}
use Rattle.qc_core.proofs.Steady.{both_steady, turn_steady}

pub first_up : (xs ys : List Deed) → AreSteady (xs ++ ys) → AreSteady xs
first_up [] ys up = tt
first_up (x ∷ xs) ys up = (up.0, first_up xs ys up.1)

pub rest_up : (xs ys : List Deed) → AreSteady (xs ++ ys) → AreSteady ys
rest_up [] ys up = up
rest_up (x ∷ xs) ys up = rest_up xs ys up.1

-- a turn that is posted, and an input

pub heard_up : (o : Option Envelope) → AreSteady (heard o)
heard_up None = tt
heard_up (Some envelope) = (tt, tt)

input_up : (ms : List Envelope) (g : Input) → AreSteady (deed_at ms (step_of g))
input_up ms (inputs.Called command) = (tt, tt)
input_up ms (inputs.Got envelope) = heard_up (slice_get ms envelope.number)
input_up ms (inputs.Lost number) = (tt, tt)

-- one step more

mine_up : (mine : Bool) (ds : List Deed) → AreSteady ds → AreSteady (cond mine ds [] ++ [])
mine_up true ds up = both_steady ds [] up tt
mine_up false ds up = tt

step_up : (a b : ℕ) (h : List Entry) (step : Step) → AreSteady (deed_at (mail h) step) → AreSteady (deeds a [] h)
    → AreSteady (deeds a [] (h ++ marked b step ∷ []))
step_up a b h step up before =
    subst AreSteady (sym (deeds-append a [] h (marked b step ∷ [])))
    (both_steady (deeds a [] h) (cond (b == a) (deed_at (mail h) step) [] ++ []) before
    (mine_up (b == a) (deed_at (mail h) step) up))

silent_up : (ms : List Envelope) (step : Step) → IsSilent step → AreSteady (deed_at ms step)
silent_up ms step silent = subst AreSteady (sym (silent.deeds ms)) tt

-- in each run, over any conduct

pub run_up : (lawful : ℕ → List Deed → Turn → Type 0) (decl : Declaration) (script : Script) (h : List Entry)
    (open_inputs : List Bool) → Runs lawful decl script h open_inputs → (a : ℕ) → AreSteady (deeds a [] h)
run_up lawful decl script h open_inputs begins a = tt
run_up lawful decl script h open_inputs (takes c given before older run free ready) a =
    step_up a c older (step_of given) (input_up (mail older) given) (run_up lawful decl script older before run a)
run_up lawful decl script h open_inputs (posts c turn before older run taken law) a =
    at (c == a) refl (run_up lawful decl script older before run a)
  where
    at : (same : Bool) → (c == a) ≡ same → AreSteady (deeds a [] older)
        → AreSteady (deeds a [] (older ++ by c (posted (length (mail older)) turn)))
    at true same up =
        subst (λ (k : ℕ). AreSteady (deeds k [] older)
        → AreSteady (deeds k [] (older ++ by c (posted (length (mail older)) turn)))) (eqb-true c a same)
        (λ own. subst AreSteady (sym (deeds-posted c (length (mail older)) older turn))
        (both_steady (deeds c [] older) (turn_deeds (length (mail older)) turn) own
        (turn_steady (length (mail older)) turn))) up
    at false other up = subst AreSteady (sym (deeds-other c a [] older (posted (length (mail older)) turn) other)) up
run_up lawful decl script h open_inputs (phase before older run none done quiet more) a =
    step_up a (controller decl) older (steps.Phase (phase_of older + 1))
    (silent_up (mail older) (steps.Phase (phase_of older + 1)) (phase_silent (phase_of older + 1)))
    (run_up lawful decl script older before run a)
run_up lawful decl script h open_inputs (control line lines step before older run left is) a =
    step_up a (controller decl) older step (silent_up (mail older) step (control_silent line step is))
    (run_up lawful decl script older before run a)

-- and where an actor takes inputs and posts turns
