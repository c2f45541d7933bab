-- What is ready for an actor is what its tray shows, and is taken from both.
use Rattle.std.proofs.Common.{◌≡◌, ℕ, ◌+◌, ◌&&◌, Bool, true, false, cond, not, if◌then◌else◌, List, [], ◌∷◌, Option}
use Rattle.std.proofs.Common.{Some, None, refl, ap, subst, ◌∙◌}
use Rattle.std.specs.Prelude.{option_map}
use Rattle.qc_decl.specs.declared.declaration.Declaration.{Declaration}
use Rattle.qc_msg.specs.declared.message.Envelope.{Envelope}
use Rattle.qc_msg.specs.declared.step.Command.{Command}
use Rattle.qc_msg.specs.declared.step.Control.{Control}
use Rattle.qc_msg.specs.declared.step.Input.{Input}
use Rattle.qc_msg.specs.declared.step.Input.TheVariants as inputs
use Rattle.qc_msg.specs.Vocabulary.{step_of}
use Rattle.qc_script.specs.Vocabulary.{Inbox, command_called, inbox_at, ready_in, takes_commands}
use Rattle.qc_script.specs.Ready as ready
use Rattle.qc_script.specs.declared.script.Script.{Script}
use Rattle.qc_mailbox.specs.Vocabulary.{after_controls, calls_at, first_command, first_copy, first_lost, input_of}
use Rattle.qc_mailbox.specs.Vocabulary.{next_in, numbers_of, tray_of, tray_taken}
use Rattle.qc_mailbox.specs.declared.input.ReadyInput.{ReadyInput}
use Rattle.qc_list.proofs.Numbers.{number_same}

-- what is ready

commands_shown : (commands : List Command) → option_map input_of (ready.first_command commands) ≡ first_command commands
commands_shown [] = refl
commands_shown (command ∷ commands) = refl

allowed_shown : (t : Bool) (commands : List Command)
    → option_map input_of (cond t (ready.first_command commands) None) ≡ cond t (first_command commands) None
allowed_shown true commands = commands_shown commands
allowed_shown false commands = refl

losts_shown : (ns : List ℕ) (other : Option Input)
    → option_map input_of (ready.first_lost ns other) ≡ first_lost ns (option_map input_of other)
losts_shown [] other = refl
losts_shown (n ∷ ns) other = refl

copies_ready : (es : List Envelope) (other : Option Input)
    → option_map input_of (ready.first_copy es other) ≡ first_copy (numbers_of es) (option_map input_of other)
copies_ready [] other = refl
copies_ready (e ∷ es) other = refl

controls_shown : (cs : List Control) (other : Option Input)
    → option_map input_of (ready.after_controls cs other) ≡ after_controls cs (option_map input_of other)
controls_shown [] other = refl
controls_shown (c ∷ cs) other = refl

pub ready_shown : (decl : Declaration) (a calls : ℕ) (i : Inbox)
    → option_map input_of (ready_in decl a i) ≡ after_controls i.controls
    (next_in (takes_commands decl a) (tray_of calls i))
ready_shown decl a calls i =
    controls_shown i.controls _
    ∙ ap (λ (o : Option ReadyInput). after_controls i.controls o)
    (copies_ready i.copies _
    ∙ ap (λ (o : Option ReadyInput). first_copy (numbers_of i.copies) o)
    (losts_shown i.lost _ ∙ ap (λ (o : Option ReadyInput). first_lost i.lost o)
    (allowed_shown (takes_commands decl a && not i.busy) i.commands)))

-- what is taken

-- what an actor's own step does in its inbox, and to its tray
abbrev TakesBoth : Script → ℕ → ℕ → Inbox → Input → Type 0
TakesBoth script a calls i g =
    tray_of (calls_at a calls a (step_of g)) (inbox_at script a i a (step_of g)) ≡ tray_taken (tray_of calls i)

call_taken : (script : Script) (a calls : ℕ) (i : Inbox) (commands : List Command) (command : Command)
    → TakesBoth script a calls (record i { copies = []; lost = []; commands = commands }) (inputs.Called command)
call_taken script a calls i commands command =
    ap (λ (t : Bool). tray_of (if t then calls + 1 else calls)
    (if t then command_called (record i { copies = []; lost = []; commands = commands }) else record i
    { copies = []; lost = []; commands = commands })) (number_same a)

copy_taken : (script : Script) (a calls : ℕ) (i : Inbox) (e : Envelope) (es : List Envelope)
    → TakesBoth script a calls (record i { copies = e ∷ es }) (inputs.Got e)
copy_taken script a calls i e es =
    ap (λ (t : Bool). tray_of calls (if t then record i { copies = es } else record i { copies = e ∷ es }))
    (number_same a)

loss_taken : (script : Script) (a calls : ℕ) (i : Inbox) (n : ℕ) (ns : List ℕ)
    → TakesBoth script a calls (record i { copies = []; lost = n ∷ ns }) (inputs.Lost n)
loss_taken script a calls i n ns =
    ap (λ (t : Bool). tray_of calls (if t then record i { copies = []; lost = ns } else record i
    { copies = []; lost = n ∷ ns })) (number_same a)

-- that two are the number_same where one is
some_same : (x y : Input) → Some x ≡ Some y → x ≡ y
some_same x y e = cc

first_taken : (script : Script) (a calls : ℕ) (i : Inbox) (commands : List Command) (g : Input)
    → ready.first_command commands ≡ Some g → TakesBoth script a calls
    (record i { copies = []; lost = []; commands = commands }) g
first_taken script a calls i [] g is = absurd (let never : ⊥ = cc in never)
first_taken script a calls i (command ∷ commands) g is =
    let said : inputs.Called command ≡ g = some_same (inputs.Called command) g is in
    subst (λ (x : Input). TakesBoth script a calls
    (record i { copies = []; lost = []; commands = command ∷ commands }) x) said
    (call_taken script a calls i (command ∷ commands) command)

other_taken : (script : Script) (a calls : ℕ) (i : Inbox) (t : Bool) (g : Input)
    → cond t (ready.first_command i.commands) None ≡ Some g
    → TakesBoth script a calls (record i { copies = []; lost = [] }) g
other_taken script a calls i true g is = first_taken script a calls i i.commands g is
other_taken script a calls i false g is = absurd (let never : ⊥ = cc in never)

lost_taken : (script : Script) (a calls : ℕ) (i : Inbox) (t : Bool) (ns : List ℕ) (g : Input)
    → ready.first_lost ns (cond t (ready.first_command i.commands) None) ≡ Some g
    → TakesBoth script a calls (record i { copies = []; lost = ns }) g
lost_taken script a calls i t [] g is = other_taken script a calls i t g is
lost_taken script a calls i t (n ∷ ns) g is =
    let said : inputs.Lost n ≡ g = some_same (inputs.Lost n) g is in
    subst (λ (x : Input). TakesBoth script a calls (record i { copies = []; lost = n ∷ ns }) x) said
    (loss_taken script a calls i n ns)

waiting_taken : (script : Script) (a calls : ℕ) (i : Inbox) (t : Bool) (es : List Envelope) (g : Input)
    → ready.first_copy es (ready.first_lost i.lost (cond t (ready.first_command i.commands) None)) ≡ Some g
    → TakesBoth script a calls (record i { copies = es }) g
waiting_taken script a calls i t [] g is = lost_taken script a calls i t i.lost g is
waiting_taken script a calls i t (e ∷ es) g is =
    let said : inputs.Got e ≡ g = some_same (inputs.Got e) g is in
    subst (λ (x : Input). TakesBoth script a calls (record i { copies = e ∷ es }) x) said
    (copy_taken script a calls i e es)

between : (cs : List Control) (other : Option Input) (g : Input) → ready.after_controls cs other ≡ Some g
    → other ≡ Some g
between [] other g is = is
between (c ∷ cs) other g is = absurd (let never : ⊥ = cc in never)

pub taken_shown : (script : Script) (decl : Declaration) (a calls : ℕ) (i : Inbox) (g : Input)
    → ready_in decl a i ≡ Some g → TakesBoth script a calls i g
taken_shown script decl a calls i g is =
    waiting_taken script a calls i (takes_commands decl a && not i.busy) i.copies g (between i.controls _ g is)
