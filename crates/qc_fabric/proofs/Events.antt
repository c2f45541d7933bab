-- The history before its last event goes on with each event, and what is posted leaves it.
use Rattle.std.proofs.Common.{◌≡◌, Bool, true, false, List, [], ◌∷◌, ◌++◌, Some, refl, ap, subst, ◌∙◌}
use Rattle.std.specs.Prelude.{◌||◌, if◌then◌else◌}
use Rattle.qc_msg.specs.Vocabulary.{Entry, step_of}
use Rattle.qc_msg.specs.declared.step.Control.{Control}
use Rattle.qc_msg.specs.declared.step.Control.TheVariants as controls
use Rattle.qc_msg.specs.declared.step.Input.{Input}
use Rattle.qc_msg.specs.declared.step.Input.TheVariants as inputs
use Rattle.qc_msg.specs.declared.step.Step.{Step}
use Rattle.qc_msg.specs.declared.step.Step.TheVariants as steps
use Rattle.qc_script.specs.Vocabulary.{step_of_control}
use Rattle.qc_fabric.specs.Vocabulary.{before_last_event, begins_event, has_event}
use Rattle.qc_list.proofs.Booleans.{or_true}

stands : (h : List Entry) (e : Entry) (post : List Entry) → begins_event e.step ≡ true
    → has_event (h ++ e ∷ post) ≡ true
stands [] e post begins = ap (λ (b : Bool). b || has_event post) begins
stands (x ∷ h) e post begins = ap (λ (b : Bool). begins_event x.step || b) (stands h e post begins)
    ∙ or_true (begins_event x.step)

-- before the last event is all that was there when it began
pub before_event : (h : List Entry) (e : Entry) (post : List Entry) → begins_event e.step ≡ true
    → has_event post ≡ false → before_last_event (h ++ e ∷ post) ≡ h
before_event [] e post begins none = ap (λ (b : Bool). let left : List Entry =
    if b then e ∷ before_last_event post else [] in left) none
before_event (x ∷ h) e post begins none =
    ap (λ (b : Bool). let left : List Entry = if b then x ∷ before_last_event (h ++ e ∷ post) else [] in left)
    (stands h e post begins)
    ∙ ap (λ (left : List Entry). x ∷ left) (before_event h e post begins none)

none_before : (h : List Entry) → has_event h ≡ false → before_last_event h ≡ []
none_before [] none = refl
none_before (e ∷ h) none = ap (λ (b : Bool). let left : List Entry = if b then e ∷ before_last_event h else [] in left)
    (later_none (begins_event e.step) (has_event h) none)
  where
    later_none : (x y : Bool) → (x || y) ≡ false → y ≡ false
    later_none true y is = absurd (let no : ⊥ = cc in no)
    later_none false y is = is

has_more : (h post : List Entry) → has_event post ≡ false → has_event (h ++ post) ≡ has_event h
has_more [] post none = none
has_more (x ∷ h) post none = ap (λ (b : Bool). begins_event x.step || b) (has_more h post none)

-- what is posted leaves what stood before the last event
pub before_more : (h post : List Entry) → has_event post ≡ false → before_last_event (h ++ post) ≡ before_last_event h
before_more [] post none = none_before post none
before_more (x ∷ h) post none =
    ap (λ (b : Bool). let left : List Entry = if b then x ∷ before_last_event (h ++ post) else [] in left)
    (has_more h post none)
    ∙ ap (λ (l : List Entry). let left : List Entry = if has_event h then x ∷ l else [] in left)
    (before_more h post none)

-- an event begins with each input that is taken, and with each control line that acts

pub begins_input : (g : Input) → begins_event (step_of g) ≡ true
begins_input (inputs.Called command) = refl
begins_input (inputs.Got e) = refl
begins_input (inputs.Lost number) = refl

pub begins_control : (line : Control) (step : Step) → step_of_control line ≡ Some step → begins_event step ≡ true
begins_control (controls.Phase k) step is = absurd (let no : ⊥ = cc in no)
begins_control (controls.Cut a b) step is = let same : steps.Cut a b ≡ step = cc in
    subst (λ (s : Step). begins_event s ≡ true) same refl
begins_control (controls.Heal a b) step is = let same : steps.Heal a b ≡ step = cc in
    subst (λ (s : Step). begins_event s ≡ true) same refl
begins_control (controls.Armed actor kind n) step is = absurd (let no : ⊥ = cc in no)
begins_control (controls.Crash a) step is = absurd (let no : ⊥ = cc in no)
begins_control (controls.Restart a) step is = absurd (let no : ⊥ = cc in no)
