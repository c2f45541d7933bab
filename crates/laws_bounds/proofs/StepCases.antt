-- Cases of steps and control lines: what holds of steps that rise or find damage, of a journal after a step, of what
-- a step does, and of the steps of the controller's lines.
use Rattle.std.specs.Prelude.{◌≡◌, ℕ, List, MatchOption, Option, Some, [], None, ◌++◌, ◌∷◌}
use Rattle.std.proofs.Common.{subst, refl, slice_get}
use Rattle.qc_msg.specs.declared.record.Record.{Record}
use Rattle.qc_msg.specs.declared.step.Control.{Control}
use Rattle.qc_msg.specs.declared.step.Control.TheVariants as controls
use Rattle.qc_msg.specs.declared.step.Step.{Step}
use Rattle.qc_msg.specs.declared.step.Step.TheVariants as steps
use Rattle.qc_msg.specs.Vocabulary.{damaged_in, rose_in, Deed, Rises, deed_at, got_in, heard, risen_in}
use Rattle.qc_outside.specs.declared.disk.ArmKind.{ArmKind}
use Rattle.qc_script.specs.Vocabulary.{controller_step}
use Rattle.qc_msg.specs.declared.step.Fall.{Fall}
use Rattle.qc_promise.specs.Vocabulary.{Journal, journal_with, pending_with}
use Rattle.qc_msg.specs.declared.message.Envelope.{Envelope}

pub kept_cases : (H : Step → Type 0) (R : List Record → Type 0) (D : ℕ → Type 0)
    → ((rs : List Record) → H (steps.Rose rs) → R rs) → ((offset : ℕ) → H (steps.Damaged offset) → D offset)
    → (s : Step) → H s → MatchOption (rose_in s) (MatchOption (damaged_in s) (Unit {0}) D) R
kept_cases H R D rose damaged (steps.Phase k) here = tt
kept_cases H R D rose damaged (steps.Cut x y) here = tt
kept_cases H R D rose damaged (steps.Heal x y) here = tt
kept_cases H R D rose damaged (steps.Armed actor kind at) here = tt
kept_cases H R D rose damaged (steps.Called command) here = tt
kept_cases H R D rose damaged (steps.Got n) here = tt
kept_cases H R D rose damaged (steps.Lost n) here = tt
kept_cases H R D rose damaged (steps.Wrote written) here = tt
kept_cases H R D rose damaged (steps.Sent n to message) here = tt
kept_cases H R D rose damaged (steps.Told reply) here = tt
kept_cases H R D rose damaged (steps.Fell cause pending) here = tt
kept_cases H R D rose damaged (steps.Rose rs) here = rose rs here
kept_cases H R D rose damaged (steps.Damaged offset) here = damaged offset here

pub journal_cases : (H : Step → Type 0) (T : Journal → Type 0) (j : Journal) → T j
    → ((written : Record) → H (steps.Wrote written) → T (record j { records = j.records ++ written ∷ [] }))
    → ((cause : Fall) (pending : Option Record) → H (steps.Fell cause pending)
    → T (record j { pending = pending_with j.pending pending }))
    → ((rs : List Record) → H (steps.Rose rs) → T (record { records = rs; pending = None }))
    → (s : Step) → H s → T (journal_with j s)
journal_cases H T j same wrote fell rose (steps.Phase k) here = same
journal_cases H T j same wrote fell rose (steps.Cut x y) here = same
journal_cases H T j same wrote fell rose (steps.Heal x y) here = same
journal_cases H T j same wrote fell rose (steps.Armed actor kind at) here = same
journal_cases H T j same wrote fell rose (steps.Called command) here = same
journal_cases H T j same wrote fell rose (steps.Got n) here = same
journal_cases H T j same wrote fell rose (steps.Lost n) here = same
journal_cases H T j same wrote fell rose (steps.Wrote written) here = wrote written here
journal_cases H T j same wrote fell rose (steps.Sent n to message) here = same
journal_cases H T j same wrote fell rose (steps.Told reply) here = same
journal_cases H T j same wrote fell rose (steps.Fell cause pending) here = fell cause pending here
journal_cases H T j same wrote fell rose (steps.Rose rs) here = rose rs here
journal_cases H T j same wrote fell rose (steps.Damaged offset) here = same

-- what is heard and what rises apart, a step does nothing, or one thing that is neither
pub deed_cases : (ms : List Envelope) (P : Step → List Deed → Type 0) → ((s : Step) → P s [])
    → ((n : ℕ) → P (steps.Got n) (heard (slice_get ms n))) → ((rs : List Record) → P (steps.Rose rs) (Rises rs ∷ []))
    → ((s : Step) (d : Deed) → risen_in d ≡ None → got_in d ≡ None → P s (d ∷ []))
    → (s : Step) → P s (deed_at ms s)
deed_cases ms P none got rose one (steps.Phase k) = none _
deed_cases ms P none got rose one (steps.Cut x y) = none _
deed_cases ms P none got rose one (steps.Heal x y) = none _
deed_cases ms P none got rose one (steps.Armed actor kind at) = none _
deed_cases ms P none got rose one (steps.Called command) = one _ _ refl refl
deed_cases ms P none got rose one (steps.Got n) = got n
deed_cases ms P none got rose one (steps.Lost n) = one _ _ refl refl
deed_cases ms P none got rose one (steps.Wrote written) = one _ _ refl refl
deed_cases ms P none got rose one (steps.Sent n to message) = one _ _ refl refl
deed_cases ms P none got rose one (steps.Told reply) = one _ _ refl refl
deed_cases ms P none got rose one (steps.Fell cause pending) = one _ _ refl refl
deed_cases ms P none got rose one (steps.Rose rs) = rose rs
deed_cases ms P none got rose one (steps.Damaged offset) = none _

pub line_cases : (P : Control → Step → Type 0) → ((x y : ℕ) → P (controls.Cut x y) (steps.Cut x y))
    → ((x y : ℕ) → P (controls.Heal x y) (steps.Heal x y))
    → ((actor : ℕ) (kind : ArmKind) (at : ℕ) → P (controls.Armed actor kind at) (steps.Armed actor kind at))
    → (line : Control) (step : Step) → controller_step line ≡ Some step → P line step
line_cases P cut heal armed (controls.Phase k) step is = absurd (let never : ⊥ = cc in never)
line_cases P cut heal armed (controls.Cut x y) step is =
    subst (P (controls.Cut x y)) (let same : steps.Cut x y ≡ step = cc in same) (cut x y)
line_cases P cut heal armed (controls.Heal x y) step is =
    subst (P (controls.Heal x y)) (let same : steps.Heal x y ≡ step = cc in same) (heal x y)
line_cases P cut heal armed (controls.Armed actor kind at) step is =
    subst (P (controls.Armed actor kind at)) (let same : steps.Armed actor kind at ≡ step = cc in same)
    (armed actor kind at)
line_cases P cut heal armed (controls.Crash x) step is = absurd (let never : ⊥ = cc in never)
line_cases P cut heal armed (controls.Restart x) step is = absurd (let never : ⊥ = cc in never)
