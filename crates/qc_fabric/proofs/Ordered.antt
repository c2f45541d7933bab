-- The controller's steps keep what the state under the lock keeps, and what they tell.
use Rattle.std.proofs.Common.{◌≡◌, ℕ, ◌+◌, ◌≤◌, Bool, false, List, [], ◌∷◌, ◌++◌, length, Option, Some, None, refl, ap}
use Rattle.std.proofs.Common.{sym, ◌∙◌, subst, arith, slice_get}
use mathlib.Core.List.{IsPrefix}
use Rattle.atomic_table.specs.Seated.{TableId}
use Rattle.qc_decl.specs.Vocabulary.{controller}
use Rattle.qc_decl.specs.declared.declaration.Declaration.{Declaration}
use Rattle.std.specs.Option.{IfSome}
use Rattle.qc_mailbox.specs.Vocabulary.{Inboxes, IsKept, IsWithin, after_control, after_first, after_phase, Roomy}
use Rattle.qc_mailbox.proofs.Bounds.{trays_show_controls, controls_within}
use Rattle.qc_mailbox.proofs.Controlling.{controls_keep_trays, phases_keep_trays}
use Rattle.qc_msg.specs.declared.record.Record.{Record}
use Rattle.qc_msg.specs.declared.step.Control.{Control}
use Rattle.qc_msg.specs.declared.step.Control.TheVariants as controls
use Rattle.qc_msg.specs.declared.step.Step.{Step}
use Rattle.qc_msg.specs.declared.step.Step.TheVariants as steps
use Rattle.qc_msg.specs.declared.turn.Turn.{Turn}
use Rattle.qc_msg.specs.Vocabulary.{Deed, Entry, marked}
use Rattle.qc_pass.specs.declared.token.Pass.{Pass}
use Rattle.qc_pass.specs.declared.token.Right.{Right}
use Rattle.qc_pass.specs.Vocabulary.{Met, all, number, room, seen}
use Rattle.qc_promise.specs.Vocabulary.{arms_disk}
use Rattle.qc_script.specs.Vocabulary.{RunsWithFalls, control, controls_left, phase, phase_of, step_of_control}
use Rattle.qc_script.specs.declared.script.PhaseLines.{PhaseLines}
use Rattle.qc_script.specs.declared.script.Script.{Script}
use Rattle.qc_fabric.specs.Vocabulary.{Does, HasGrown, IsFabricState, Logged, MayDo, control_step, full_of}
use Rattle.qc_fabric.specs.Vocabulary.{most_history}
use Rattle.qc_fabric.proofs.Events.{begins_control}
use Rattle.qc_fabric.proofs.KeptParts.{all_of, steps_on}
use Rattle.qc_fabric.proofs.Phased.{phase_control, phase_more}
use Rattle.qc_script.proofs.Fallless.{same_step}

phase_now : (h : List Entry) (a k : ℕ) → phase_of (h ++ marked a (steps.Phase k) ∷ []) ≡ k
phase_now h a k = phase_more h (marked a (steps.Phase k) ∷ [])

step_same : (line : Control) (step : Step) → step_of_control line ≡ Some step → control_step line ≡ Some step
step_same (controls.Phase k) step is = absurd (let no : ⊥ = cc in no)
step_same (controls.Cut x y) step is = is
step_same (controls.Heal x y) step is = is
step_same (controls.Armed actor kind n) step is = absurd (let no : ⊥ = cc in no)
step_same (controls.Crash x) step is = absurd (let no : ⊥ = cc in no)
step_same (controls.Restart x) step is = absurd (let no : ⊥ = cc in no)

control_arms_none : (line : Control) (step : Step) → step_of_control line ≡ Some step → (b : ℕ)
    → arms_disk b step ≡ false
control_arms_none (controls.Phase k) step is b = absurd (let no : ⊥ = cc in no)
control_arms_none (controls.Cut x y) step is b = let same : steps.Cut x y ≡ step = cc in
    subst (λ (s : Step). arms_disk b s ≡ false) same refl
control_arms_none (controls.Heal x y) step is b = let same : steps.Heal x y ≡ step = cc in
    subst (λ (s : Step). arms_disk b s ≡ false) same refl
control_arms_none (controls.Armed actor kind n) step is b = absurd (let no : ⊥ = cc in no)
control_arms_none (controls.Crash x) step is b = absurd (let no : ⊥ = cc in no)
control_arms_none (controls.Restart x) step is b = absurd (let no : ⊥ = cc in no)

-- the first of some lines
pub record Lines (lines : List Control) (line : Control) : Type 0 where
  pub rest : List Control
  pub are : lines ≡ line ∷ rest

pub lines_of : (lines : List Control) (line : Control) → slice_get lines 0 ≡ Some line → Lines lines line
lines_of [] line e = absurd (let no : ⊥ = cc in no)
lines_of (c ∷ cs) line e = record { rest = cs; are = ap (λ (x : Control). x ∷ cs) (let s : c ≡ line = cc in s) }

module _ {L : ℕ → List Deed → Turn → Type 0} {F : ℕ → List Record → Type 0} {D : Declaration} {S : Script} {z : TableId}
    {w : Script} {lg : Logged} {mb : Roomy} {op hd : List Bool} {ph rsv sp : ℕ} {tb : TableId}
    {ri : Option (Right Step)} where
  pub first_within : (s : IsFabricState L F D S z w lg mb op hd ph rsv sp tb ri)
      → IfSome (slice_get mb.inboxes.controls 0) IsWithin
  first_within s = controls_within D S lg.history mb.inboxes s.kept s.sound (omega (arith, s.few))

  pub begins_on : (s : IsFabricState L F D S z w lg mb op hd ph rsv sp tb ri) (r : Right Step) → ri ≡ Some r
      → (p q : Pass Step) (t : Right Step) (k : ℕ) (lines : PhaseLines) → number p ≡ controller D
      → MayDo D S lg.history op (controls.Phase k)
      → slice_get S.phases ph ≡ Some lines → Met p r q t (steps.Phase k ∷ []) (room p)
      → all t ≡ all r ++ marked (number p) (steps.Phase k) ∷ []
      → (lg1 lg' : Logged) (mb' : Roomy) → lg1.history ≡ lg.history → (rsv + sp) + 1 ≤ lg1.room
      → length lg.history + ((rsv + sp) + 1) ≤ most_history
      → HasGrown lg1 lg' (marked (number p) (steps.Phase k) ∷ [])
      → mb'.room ≡ mb.room → mb'.inboxes ≡ after_phase mb.inboxes lines
      → IsFabricState L F D S z w lg' mb' op hd k rsv sp tb (Some t)
  begins_on s r e p q t k lines at may there m a lg1 lg' mb' hs lr bd g mr is =
      let next : k ≡ ph + 1 = may.next.1 ∙ ap (λ n. n + 1) (sym s.phase_is) in
      let kept : IsKept S (lg.history ++ marked (number p) (steps.Phase k) ∷ []) (after_phase mb.inboxes lines) =
      subst (λ n. IsKept S (lg.history ++ marked (number p) (steps.Phase n) ∷ []) (after_phase mb.inboxes lines))
      (sym next) (phases_keep_trays S lg.history mb.inboxes ph lines (number p) s.kept there) in
      let run : RunsWithFalls L F D S (lg.history ++ marked (number p) (steps.Phase k) ∷ []) op =
      subst (λ n. RunsWithFalls L F D S (lg.history ++ marked n (steps.Phase k) ∷ []) op) (sym at)
      (subst (λ n. RunsWithFalls L F D S (lg.history ++ marked (controller D) (steps.Phase n) ∷ []) op) (sym may.next.1)
      (phase op lg.history s.runs may.next.0.none_open may.next.0.none_left may.next.0.none_ready may.next.2)) in
      steps_on s r e p q t (steps.Phase k) op k m a lg1 lg' mb' hs lr bd g (omega (arith, mr, s.mail_room))
      (subst (λ (i : Inboxes). IsKept S (lg.history ++ marked (number p) (steps.Phase k) ∷ []) i) (sym is) kept)
      (sym (phase_now lg.history (number p) k)) run s.opens (λ j o. o) may.below refl (λ b. refl)

  pub acts_on : (s : IsFabricState L F D S z w lg mb op hd ph rsv sp tb ri) (r : Right Step) → ri ≡ Some r
      → (p q : Pass Step) (t : Right Step) (line : Control) (step : Step) → number p ≡ controller D
      → slice_get (controls_left S lg.history) 0 ≡ Some line → full_of lg.history ≡ None
      → step_of_control line ≡ Some step
      → Met p r q t (step ∷ []) (room p) → all t ≡ all r ++ marked (number p) step ∷ []
      → (lg1 lg' : Logged) (mb' : Roomy) → lg1.history ≡ lg.history → (rsv + sp) + 1 ≤ lg1.room
      → length lg.history + ((rsv + sp) + 1) ≤ most_history → HasGrown lg1 lg' (marked (number p) step ∷ [])
      → mb'.room ≡ mb.room → mb'.inboxes ≡ after_first mb.inboxes mb.inboxes.controls
      → IsFabricState L F D S z w lg' mb' op hd ph rsv sp tb (Some t)
  acts_on s r e p q t line step at first under said m a lg1 lg' mb' hs lr bd g mr is =
      let lines : Lines (controls_left S lg.history) line = lines_of (controls_left S lg.history) line first in
      let shown : mb.inboxes.controls ≡ line ∷ lines.rest =
      trays_show_controls S lg.history mb.inboxes s.kept ∙ lines.are in
      let after : mb'.inboxes ≡ after_control mb.inboxes line = is
      ∙ ap (λ (cs : List Control). after_first mb.inboxes cs) shown in
      let run : RunsWithFalls L F D S (lg.history ++ marked (number p) step ∷ []) op =
      subst (λ n. RunsWithFalls L F D S (lg.history ++ marked n step ∷ []) op) (sym at)
      (control line lines.rest step op lg.history s.runs lines.are (same_step line step said)) in
      steps_on s r e p q t step op ph m a lg1 lg' mb' hs lr bd g (omega (arith, mr, s.mail_room))
      (subst (λ (i : Inboxes). IsKept S (lg.history ++ marked (number p) step ∷ []) i) (sym after)
      (controls_keep_trays S lg.history mb.inboxes line step (number p) s.kept (same_step line step said)))
      (s.phase_is ∙ sym (phase_control lg.history (number p) line step said)) run s.opens (λ j o. o) under
      (begins_control line step said) (control_arms_none line step said)

  pub did : (s : IsFabricState L F D S z w lg mb op hd ph rsv sp tb ri) (r : Right Step) → ri ≡ Some r
      → (p q : Pass Step) (t : Right Step) (c : Control) (step : Step) → control_step c ≡ Some step
      → number p ≡ controller D → Met p r q t (step ∷ []) (room p)
      → all t ≡ all r ++ marked (number p) step ∷ [] → (lg1 lg' : Logged) → lg1.history ≡ lg.history
      → HasGrown lg1 lg' (marked (number p) step ∷ []) → Does D p q lg.history lg'.history c
  did s r e p q t c step said at m a lg1 lg' hs g =
      let es : lg'.history ≡ lg.history ++ marked (number p) step ∷ [] = g.history
      ∙ ap (λ (l : List Entry). l ++ marked (number p) step ∷ []) hs in
      record {
        pass = record { table_is = m.same_table; number_is = m.same_number };
        begins = subst (λ (l : List Entry). IsPrefix (seen p) l) (all_of s r e) m.begins;
        step = step;
        step_is = said;
        new_is = es ∙ ap (λ n. lg.history ++ marked n step ∷ []) at;
        seen_is = m.seen_is ∙ (a ∙ (ap (λ (l : List Entry). l ++ marked (number p) step ∷ []) (all_of s r e) ∙ sym es));
        mine_is = m.mine_is;
        room_is = m.room_is;
      }

  pub acted : (s : IsFabricState L F D S z w lg mb op hd ph rsv sp tb ri) (r : Right Step) → ri ≡ Some r
      → (p q : Pass Step) (t : Right Step) (line : Control) (step : Step) → step_of_control line ≡ Some step
      → number p ≡ controller D → Met p r q t (step ∷ []) (room p)
      → all t ≡ all r ++ marked (number p) step ∷ [] → (lg1 lg' : Logged) → lg1.history ≡ lg.history
      → HasGrown lg1 lg' (marked (number p) step ∷ []) → Does D p q lg.history lg'.history line
  acted s r e p q t line step said at m a lg1 lg' hs g =
      did s r e p q t line step (step_same line step said) at m a lg1 lg' hs g
