-- Who is named by the control line that may be done next, and what is known of that actor: it is up where it is to
-- fall, and down where it is to rise.
use Rattle.std.proofs.Common.{◌≡◌, ℕ, ◌<◌, ◌≤◌, not, Bool, true, false, List, [], ◌∷◌, Some, slice_get, fold, refl, sym}
use Rattle.std.proofs.Common.{ap, ◌∙◌, arith, subst}
use Rattle.qc_core.specs.Vocabulary.{IsLawfulWithFalls, actor_after, is_up, up_at}
use Rattle.qc_core.specs.declared.actor.Actor.TheVariants.{Down}
use Rattle.qc_core.proofs.LivesOfActors.{down, up}
use Rattle.qc_decl.specs.Vocabulary.{actors, administrator}
use Rattle.qc_decl.specs.declared.declaration.Declaration.{Declaration}
use Rattle.qc_mailbox.specs.Vocabulary.{down_at}
use Rattle.qc_mailbox.proofs.FallLaws.{crashes_up, restarts_down, inboxes_know_who_is_up}
use Rattle.qc_link.specs.Vocabulary.{most_actors}
use Rattle.laws_turns.proofs.Downs.{who_is_down_only_tells}
use Rattle.qc_msg.specs.Vocabulary.{Deed, Entry, Falls, Rises, Sends, Takes, Tells, Writes, deeds}
use Rattle.qc_msg.specs.declared.step.Control.{Control}
use Rattle.qc_msg.specs.declared.step.Control.TheVariants as controls
use Rattle.qc_outside.specs.declared.disk.ArmKind.{ArmKind}
use Rattle.qc_script.specs.Vocabulary.{IsControlFor, RunsWithFalls, controls_left, inbox, is_up as is_up_in}
use Rattle.qc_script.specs.declared.script.Script.{Script}
use Rattle.laws_bounds.proofs.SettledLines.{next_sound}
use Rattle.qc_fabric.specs.Vocabulary.{MayDo, WasNext}
use Rattle.qc_node.specs.Vocabulary.{IsRunnable, fits_of}

module _ (decl : Declaration) (script : Script) (runs : IsRunnable decl script) (h : List Entry)
    (inputs : List Bool) where
  next_for : (line : Control) → slice_get (controls_left script h) 0 ≡ Some line → IsControlFor decl line
  next_for line is = next_sound decl script h line runs.declared is

  pub armed_below : (a : ℕ) (kind : ArmKind) (at : ℕ) → MayDo decl script h inputs (controls.Armed a kind at)
      → a < actors decl
  armed_below a kind at may = let within : a ≤ administrator decl = (next_for (controls.Armed a kind at) may.next).0 in
      omega (arith, within)

  pub armed_counted : (a : ℕ) (kind : ArmKind) (at : ℕ) → MayDo decl script h inputs (controls.Armed a kind at) → 1 ≤ at
  armed_counted a kind at may = (next_for (controls.Armed a kind at) may.next).1.0

  pub crashed_below : (a : ℕ) → MayDo decl script h inputs (controls.Crash a) → a < actors decl
  crashed_below a may = let within : a ≤ administrator decl = next_for (controls.Crash a) may.next in
      omega (arith, within)

  pub restarted_below : (a : ℕ) → MayDo decl script h inputs (controls.Restart a) → a < actors decl
  restarted_below a may = let within : a ≤ administrator decl = next_for (controls.Restart a) may.next in
      omega (arith, within)

-- the line that was next at some time names an actor

module _ (decl : Declaration) (script : Script) (runs : IsRunnable decl script) (line : Control)
    (was : WasNext decl script line) (a : ℕ) where
  pub was_armed : (kind : ArmKind) (at : ℕ) → line ≡ controls.Armed a kind at → a < actors decl
  was_armed kind at is =
      armed_below decl script runs was.history was.inputs a kind at
      (subst (λ (c : Control). MayDo decl script was.history was.inputs c) is was.may)

  pub was_crashed : line ≡ controls.Crash a → a < actors decl
  was_crashed is =
      crashed_below decl script runs was.history was.inputs a
      (subst (λ (c : Control). MayDo decl script was.history was.inputs c) is was.may)

  pub was_restarted : line ≡ controls.Restart a → a < actors decl
  was_restarted is =
      restarted_below decl script runs was.history was.inputs a
      (subst (λ (c : Control). MayDo decl script was.history was.inputs c) is was.may)

-- who is up by its deeds hasn't fallen since it rose
up_or_down : (up down : Bool) (ds : List Deed) → up ≡ not down → fold up_at up ds ≡ not (fold down_at down ds)
up_or_down up down [] is = is
up_or_down up down (Takes given ∷ ds) is = up_or_down up down ds is
up_or_down up down (Writes written ∷ ds) is = up_or_down up down ds is
up_or_down up down (Sends number to message ∷ ds) is = up_or_down up down ds is
up_or_down up down (Tells reply ∷ ds) is = up_or_down up down ds is
up_or_down up down (Falls cause pending ∷ ds) is = up_or_down false true ds refl
up_or_down up down (Rises records ∷ ds) is = up_or_down true false ds refl

first_of : (lines : List Control) (line : Control) → slice_get lines 0 ≡ Some line
    → (later : List Control) × (lines ≡ line ∷ later)
first_of [] line is = absurd (let no : ⊥ = cc in no)
first_of (x ∷ later) line is = (later, ap (λ (l : Control). l ∷ later) (let same : x ≡ line = cc in same))

module _ (decl : Declaration) (script : Script) (few : actors decl ≤ most_actors) (h : List Entry) (inputs : List Bool)
    (run : RunsWithFalls (IsLawfulWithFalls decl) (fits_of decl) decl script h inputs) (a : ℕ)
    (low : a < actors decl) where
  by_deeds : is_up (deeds a [] h) ≡ is_up_in (inbox script 0 h).up a
  by_deeds =
      up_or_down true false (deeds a [] h) refl
      ∙ sym (inboxes_know_who_is_up (IsLawfulWithFalls decl) (fits_of decl) decl script h inputs few
      (who_is_down_only_tells decl) run a 0
      (omega (arith, low, few)) (omega (arith)))

  pub crashed_up : MayDo decl script h inputs (controls.Crash a)
      → (actor_after decl a (deeds a [] h)).actor ≡ Down → ⊥
  crashed_up may =
      let first = first_of (controls_left script h) (controls.Crash a) may.next in
      up decl a (deeds a [] h)
      (by_deeds ∙ crashes_up (IsLawfulWithFalls decl) (fits_of decl) decl script h inputs few run a first.0 first.1)

  pub restarted_down : MayDo decl script h inputs (controls.Restart a)
      → (actor_after decl a (deeds a [] h)).actor ≡ Down
  restarted_down may =
      let first = first_of (controls_left script h) (controls.Restart a) may.next in
      down decl a (deeds a [] h)
      (by_deeds ∙ restarts_down (IsLawfulWithFalls decl) (fits_of decl) decl script h inputs few run a first.0 first.1)
