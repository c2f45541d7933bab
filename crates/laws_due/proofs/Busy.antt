-- The inbox of a client knows whether a command of it runs, where it falls and rises only while none does.
use Rattle.std.proofs.Common.{◌≡◌, ℕ, ◌==◌, Bool, true, false, cond, if◌then◌else◌, List, [], ◌∷◌, ◌++◌, Option}
use Rattle.std.proofs.Common.{option_to_list, slice_get, refl, sym, ap, ◌∙◌}
use Rattle.std.specs.Prelude.{fold}
use Rattle.std.proofs.lemmas.List.Sums.{fold-append}
use Rattle.qc_core.specs.Vocabulary.{AreSteady, is_running, runs_at}
use Rattle.laws_turns.proofs.Running.{busy_step, busy_acted, busy_fallen}
use Rattle.qc_msg.specs.declared.message.Envelope.{Envelope}
use Rattle.qc_msg.specs.declared.record.Record.{Record}
use Rattle.qc_msg.specs.declared.step.Fall.{Fall}
use Rattle.qc_msg.specs.declared.step.Step.{Step}
use Rattle.qc_msg.specs.declared.step.Step.TheVariants as steps
use Rattle.qc_msg.specs.Vocabulary.{Deed, Entry, Falls, Rises, deed_at, deeds, envelope_of}
use Rattle.qc_script.specs.Vocabulary.{Inbox, actor_fell, control_acted, empty_inbox, inbox, inbox_at, is_by_line}
use Rattle.qc_script.specs.Vocabulary.{is_up}
use Rattle.qc_script.specs.declared.script.Script.{Script}
use Rattle.laws_due.specs.Vocabulary.{AreInOrder}
use Rattle.laws_due.proofs.Ordered.{order_first, order_second}
use Rattle.laws_turns.proofs.Up.{heard_up}
use Rattle.laws_turns.proofs.Commands.{mine_up}

-- a fall leaves it

fell_busy : (script : Script) (a : ℕ) (i : Inbox) (b : ℕ) (cause : Fall) (pending : Option Record)
    → (inbox_at script a i b (steps.Fell cause pending)).busy ≡ i.busy
fell_busy script a i b cause pending = at (is_by_line (is_up i.up b) cause)
  where
    at : (t : Bool) → (if t then control_acted a (actor_fell a i b) else actor_fell a i b).busy ≡ i.busy
    at true = busy_acted a (actor_fell a i b) ∙ busy_fallen a i b
    at false = busy_fallen a i b

ends_none : (mine r : Bool) (d : Deed) → runs_at r d ≡ false → (AreInOrder r (d ∷ []) → r ≡ false)
    → AreInOrder r (cond mine (d ∷ []) []) → r ≡ fold runs_at r (cond mine (d ∷ []) [])
ends_none true r d ends none are = none are ∙ sym ends
ends_none false r d ends none are = refl

module _ (script : Script) (a : ℕ) where
  steady : (i : Inbox) (b : ℕ) (ms : List Envelope) (step : Step) (r : Bool) → i.busy ≡ r → AreSteady (deed_at ms step)
      → (inbox_at script a i b step).busy ≡ fold runs_at r (cond (b == a) (deed_at ms step) [])
  steady i b ms step r is up = busy_step script a i b ms step (mine_up (b == a) (deed_at ms step) up)
      ∙ ap (λ (x : Bool). fold runs_at x (cond (b == a) (deed_at ms step) [])) is

  busy_one : (i : Inbox) (b : ℕ) (ms : List Envelope) (step : Step) (r : Bool) → i.busy ≡ r
      → AreInOrder r (cond (b == a) (deed_at ms step) [])
      → (inbox_at script a i b step).busy ≡ fold runs_at r (cond (b == a) (deed_at ms step) [])
  busy_one i b ms (steps.Phase k) r is are = steady i b ms (steps.Phase k) r is tt
  busy_one i b ms (steps.Cut x y) r is are = steady i b ms (steps.Cut x y) r is tt
  busy_one i b ms (steps.Heal x y) r is are = steady i b ms (steps.Heal x y) r is tt
  busy_one i b ms (steps.Armed actor kind at) r is are = steady i b ms (steps.Armed actor kind at) r is tt
  busy_one i b ms (steps.Called command) r is are = steady i b ms (steps.Called command) r is (tt, tt)
  busy_one i b ms (steps.Got n) r is are = steady i b ms (steps.Got n) r is (heard_up (slice_get ms n))
  busy_one i b ms (steps.Lost n) r is are = steady i b ms (steps.Lost n) r is (tt, tt)
  busy_one i b ms (steps.Wrote written) r is are = steady i b ms (steps.Wrote written) r is (tt, tt)
  busy_one i b ms (steps.Sent n to message) r is are = steady i b ms (steps.Sent n to message) r is (tt, tt)
  busy_one i b ms (steps.Told reply) r is are = steady i b ms (steps.Told reply) r is (tt, tt)
  busy_one i b ms (steps.Fell cause pending) r is are = fell_busy script a i b cause pending ∙ is
      ∙ ends_none (b == a) r (Falls cause pending) refl (λ one. one.0) are
  busy_one i b ms (steps.Rose records) r is are = is ∙ ends_none (b == a) r (Rises records) refl (λ one. one.0) are
  busy_one i b ms (steps.Damaged offset) r is are = steady i b ms (steps.Damaged offset) r is tt

  busy_all : (h : List Entry) (i : Inbox) (ms : List Envelope) (r : Bool) → i.busy ≡ r → AreInOrder r (deeds a ms h)
      → (fold (λ (i : Inbox) (e : Entry). inbox_at script a i e.actor e.step) i h).busy ≡ fold runs_at r (deeds a ms h)
  busy_all [] i ms r is are = is
  busy_all (e ∷ h) i ms r is are =
      let mine : List Deed = cond (e.actor == a) (deed_at ms e.step) [] in
      let rest : List Deed = deeds a (ms ++ option_to_list (envelope_of e)) h in
      busy_all h (inbox_at script a i e.actor e.step) (ms ++ option_to_list (envelope_of e)) (fold runs_at r mine)
      (busy_one i e.actor ms e.step r is (order_first r mine rest are)) (order_second r mine rest are)
      ∙ sym (fold-append runs_at r mine rest)

  pub busy_runs : (h : List Entry) → AreInOrder false (deeds a [] h)
      → (inbox script a h).busy ≡ is_running (deeds a [] h)
  busy_runs h are = busy_all h empty_inbox [] false refl are
