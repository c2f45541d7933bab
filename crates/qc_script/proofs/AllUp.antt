-- In a run without falls every actor is up, in each inbox.
use Rattle.std.proofs.Common.{◌≡◌, ℕ, zero, suc, ◌+◌, ◌-◌, ◌==◌, Bool, true, false, if◌then◌else◌, List, [], ◌∷◌, ◌++◌}
use Rattle.std.proofs.Common.{length, Option, Some, None, refl, ap, sym, subst, ◌∙◌}
use Rattle.std.specs.Prelude.{get_or, replicate, set, slice_get}
use Rattle.std.specs.List.{AllByRecursion as Every, fold}
use Rattle.std.specs.Option.{option_map_or}
use Rattle.qc_decl.specs.Vocabulary.{controller}
use Rattle.qc_decl.specs.declared.declaration.Declaration.{Declaration}
use Rattle.qc_link.specs.Vocabulary.{most_actors}
use Rattle.qc_msg.specs.declared.record.Record.{Record}
use Rattle.qc_msg.specs.declared.reply.Reply.{Reply}
use Rattle.qc_msg.specs.declared.step.Control.{Control}
use Rattle.qc_msg.specs.declared.step.Input.{Input}
use Rattle.qc_msg.specs.declared.step.Step.{Step}
use Rattle.qc_msg.specs.declared.turn.Posting.{Posting}
use Rattle.qc_msg.specs.declared.turn.Turn.{Turn}
use Rattle.qc_msg.specs.Vocabulary.{Deed, Entry, by, mail, marked, posted, sents, step_of, told, wrote, IsByDisk}
use Rattle.qc_msg.proofs.GrownMail.{by-posted}
use Rattle.qc_script.specs.Vocabulary.{Inbox, LeavesUp, Runs, acting, command_called, control_acted, copy_taken}
use Rattle.qc_script.specs.Vocabulary.{everybody, inbox, inbox_at, is_up, loss_taken, opened, phase_begun, reply_told}
use Rattle.qc_script.specs.Vocabulary.{step_of_control, wrote_record, is_by_line}
use Rattle.qc_script.specs.Runs.{begins, takes, posts, phase, control}
use Rattle.qc_script.specs.declared.script.PhaseLines.{PhaseLines}
use Rattle.qc_script.specs.declared.script.Script.{Script}
use Rattle.qc_script.proofs.InboxesSend.{opened_keeps, sends_does}
use Rattle.qc_msg.specs.declared.step.Fall.{Fall}
use Rattle.qc_msg.specs.declared.step.Control.TheVariants as controls
use Rattle.qc_msg.specs.declared.step.Input.TheVariants as given
use Rattle.qc_msg.specs.declared.step.Step.TheVariants as steps
use Rattle.qc_msg.specs.declared.step.Fall.TheVariants as causes

all_true : (n a : ℕ) → get_or (replicate n true) a true ≡ true
all_true zero a = refl
all_true (suc n) zero = refl
all_true (suc n) (suc a) = all_true n a

pub is_up-everybody : (up : List Bool) (a : ℕ) → up ≡ everybody → is_up up a ≡ true
is_up-everybody up a all = ap (λ (v : List Bool). is_up v a) all ∙ all_true most_actors a

-- a step that isn't a fall
abbrev pub Stays : Step → Type 0
Stays (steps.Phase k) = Unit {0}
Stays (steps.Cut x y) = Unit {0}
Stays (steps.Heal x y) = Unit {0}
Stays (steps.Armed actor kind at) = Unit {0}
Stays (steps.Called command) = Unit {0}
Stays (steps.Got n) = Unit {0}
Stays (steps.Lost n) = Unit {0}
Stays (steps.Wrote written) = Unit {0}
Stays (steps.Sent n to message) = Unit {0}
Stays (steps.Told reply) = Unit {0}
Stays (steps.Fell cause pending) = ⊥
Stays (steps.Rose records) = Unit {0}
Stays (steps.Damaged offset) = Unit {0}

pub opened_up : (a : ℕ) (i : Inbox) → (opened a i).up ≡ i.up
opened_up a i = (opened_keeps a (acting i.up i.controls) (record i { controls = acting i.up i.controls })).up

either_up : (t : Bool) (i j : Inbox) → j.up ≡ i.up → (if t then j else i).up ≡ i.up
either_up true i j e = e
either_up false i j e = refl

phase_up : (a : ℕ) (i : Inbox) (lines : Option PhaseLines) → (option_map_or (phase_begun a i) lines i).up ≡ i.up
phase_up a i None = refl
phase_up a i (Some lines) = opened_up a _

-- an actor that is up and writes a record changes no inbox
pub wrote_up : (a : ℕ) (i : Inbox) (r : ℕ) → i.up ≡ everybody → wrote_record a i r ≡ i
wrote_up a i r all = ap (λ (t : Bool). if t then i else control_acted a (record i { up = set i.up r true }))
    (is_up-everybody i.up r all)

pub step_up : (script : Script) (a : ℕ) (i : Inbox) (by : ℕ) (step : Step) → Stays step → i.up ≡ everybody
    → (inbox_at script a i by step).up ≡ everybody
step_up script a i by (steps.Phase k) stays all = phase_up a i (slice_get script.phases (k - 1)) ∙ all
step_up script a i by (steps.Cut x y) stays all = opened_up a _ ∙ all
step_up script a i by (steps.Heal x y) stays all = opened_up a _ ∙ all
step_up script a i by (steps.Armed actor kind at) stays all = opened_up a _ ∙ all
step_up script a i by (steps.Called command) stays all = either_up (by == a) i (command_called i) refl ∙ all
step_up script a i by (steps.Got n) stays all = either_up (by == a) i (copy_taken i) refl ∙ all
step_up script a i by (steps.Lost n) stays all = either_up (by == a) i (loss_taken i) refl ∙ all
step_up script a i by (steps.Wrote written) stays all = ap (λ (j : Inbox). j.up) (wrote_up a i by all) ∙ all
step_up script a i by (steps.Sent n to message) stays all =
    (sends_does script.links a i (record { number = n; from = by; to = to; message = message })).up ∙ all
step_up script a i by (steps.Told reply) stays all = either_up (by == a) i (reply_told i) refl ∙ all
step_up script a i by (steps.Fell cause pending) stays all = absurd stays
step_up script a i by (steps.Rose records) stays all = all
step_up script a i by (steps.Damaged offset) stays all = opened_up a _ ∙ all

-- a history in which nobody falls
abbrev pub AllStay : List Entry → Type 0
AllStay h = Every (λ (e : Entry). Stays e.step) h

pub steps_up : (script : Script) (a : ℕ) (h : List Entry) (i : Inbox) → AllStay h → i.up ≡ everybody
    → (fold (λ i e. inbox_at script a i e.actor e.step) i h).up ≡ everybody
steps_up script a [] i stays all = all
steps_up script a (e ∷ h) i stays all = steps_up script a h (inbox_at script a i e.actor e.step) stays.1
    (step_up script a i e.actor e.step stays.0 all)

join : (h k : List Entry) → AllStay h → AllStay k → AllStay (h ++ k)
join [] k first second = second
join (e ∷ h) k first second = (first.0, join h k first.1 second)

input_stays : (a : ℕ) (g : Input) → AllStay (marked a (step_of g) ∷ [])
input_stays a (given.Called command) = (tt {0}, tt {0})
input_stays a (given.Got envelope) = (tt {0}, tt {0})
input_stays a (given.Lost number) = (tt {0}, tt {0})

wrote_stays : (a : ℕ) (write : Option Record) → AllStay (by a (wrote write))
wrote_stays a None = tt {0}
wrote_stays a (Some written) = (tt {0}, tt {0})

told_stays : (a : ℕ) (reply : Option Reply) → AllStay (by a (told reply))
told_stays a None = tt {0}
told_stays a (Some reply) = (tt {0}, tt {0})

sents_stay : (a n : ℕ) (ps : List Posting) → AllStay (by a (sents n ps))
sents_stay a n [] = tt {0}
sents_stay a n (p ∷ ps) = (tt {0}, sents_stay a (n + 1) ps)

turn_stays : (a n : ℕ) (turn : Turn) → AllStay (by a (posted n turn))
turn_stays a n turn =
    subst AllStay (sym (by-posted a n turn))
    (join (by a (wrote turn.write)) (by a (sents n turn.sends) ++ by a (told turn.told)) (wrote_stays a turn.write)
    (join (by a (sents n turn.sends)) (by a (told turn.told)) (sents_stay a n turn.sends) (told_stays a turn.told)))

control_stays : (a : ℕ) (line : Control) (step : Step) → step_of_control line ≡ Some step → AllStay (marked a step ∷ [])
control_stays a (controls.Phase k) step is = absurd (let no : ⊥ = cc in no)
control_stays a (controls.Cut x y) step is = let e : steps.Cut x y ≡ step = cc in
    subst (λ (s : Step). AllStay (marked a s ∷ [])) e (tt {0}, tt {0})
control_stays a (controls.Heal x y) step is = let e : steps.Heal x y ≡ step = cc in
    subst (λ (s : Step). AllStay (marked a s ∷ [])) e (tt {0}, tt {0})
control_stays a (controls.Armed actor kind n) step is = absurd (let no : ⊥ = cc in no)
control_stays a (controls.Crash x) step is = absurd (let no : ⊥ = cc in no)
control_stays a (controls.Restart x) step is = absurd (let no : ⊥ = cc in no)

-- nobody falls in a run without falls
pub run_stays : (lawful : ℕ → List Deed → Turn → Type 0) (decl : Declaration) (script : Script) (h : List Entry)
    (inputs : List Bool) → Runs lawful decl script h inputs → AllStay h
run_stays lawful decl script h inputs begins = tt {0}
run_stays lawful decl script h inputs (takes a g before older run free rdy) =
    join older _ (run_stays lawful decl script older before run) (input_stays a g)
run_stays lawful decl script h inputs (posts a turn before older run taken law) =
    join older _ (run_stays lawful decl script older before run) (turn_stays a (length (mail older)) turn)
run_stays lawful decl script h inputs (phase before older run none done quiet more) =
    join older _ (run_stays lawful decl script older before run) (tt {0}, tt {0})
run_stays lawful decl script h inputs (control line lines step before older run left is) =
    join older _ (run_stays lawful decl script older before run) (control_stays (controller decl) line step is)

pub run_up : (lawful : ℕ → List Deed → Turn → Type 0) (decl : Declaration) (script : Script) (h : List Entry)
    (inputs : List Bool) → Runs lawful decl script h inputs → (a : ℕ) → (inbox script a h).up ≡ everybody
run_up lawful decl script h inputs run a = steps_up script a h _ (run_stays lawful decl script h inputs run) refl

pub nobody_is_down_without_falls : (lawful : ℕ → List Deed → Turn → Type 0) (decl : Declaration) (script : Script)
    (h : List Entry)
    (inputs : List Bool) (a b : ℕ) → Runs lawful decl script h inputs → is_up (inbox script a h).up b ≡ true
nobody_is_down_without_falls lawful decl script h inputs a b run =
    is_up-everybody (inbox script a h).up b (run_up lawful decl script h inputs run a)

-- lines that leave everybody up have a step each
pub acting-steady : (up : List Bool) (lines : List Control) → Every LeavesUp lines → acting up lines ≡ lines
acting-steady up [] steady = refl
acting-steady up (controls.Phase k ∷ lines) steady = refl
acting-steady up (controls.Cut x y ∷ lines) steady = refl
acting-steady up (controls.Heal x y ∷ lines) steady = refl
acting-steady up (controls.Armed actor kind at ∷ lines) steady = refl
acting-steady up (controls.Crash r ∷ lines) steady = absurd steady.0
acting-steady up (controls.Restart r ∷ lines) steady = absurd steady.0

pub by_disk_down : (up : Bool) (cause : Fall) → up ≡ false → IsByDisk cause → is_by_line up cause ≡ true
by_disk_down true cause down disk = absurd (let never : ⊥ = cc in never)
by_disk_down false causes.Script down disk = refl
by_disk_down false causes.Stop down disk = refl
by_disk_down false causes.Disk down disk = refl
