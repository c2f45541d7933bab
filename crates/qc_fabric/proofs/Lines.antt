-- Control lines of an actor's, that arm its disk or crash it, keep what the state under the lock keeps, and what they
-- tell.
use Rattle.std.proofs.Common.{◌≡◌, ◌⊎◌, ℕ, ◌+◌, ◌<◌, ◌≤◌, Bool, List, [], ◌∷◌, ◌++◌, length, Option, Some, None, refl}
use Rattle.std.proofs.Common.{ap, sym, ◌∙◌, subst, arith, inl, inr, length-append, slice_get, sum}
use Rattle.std.proofs.lemmas.Bool.{ne_eqb}
use Rattle.std.proofs.lemmas.List.{append-nil}
use mathlib.Core.Logic.{dite}
use native.Mathlib.Decide.{ℕ_discrete}
use Rattle.atomic_table.specs.Seated.{TableId}
use Rattle.qc_decl.specs.Vocabulary.{actors, controller}
use Rattle.qc_decl.specs.declared.declaration.Declaration.{Declaration}
use Rattle.qc_mailbox.specs.Vocabulary.{Inboxes, IsKept, after_control, after_fall_by_line, after_first, Roomy}
use Rattle.qc_mailbox.proofs.Bounds.{trays_show_controls}
use Rattle.qc_mailbox.proofs.Controlling.{controls_keep_trays}
use Rattle.qc_mailbox.proofs.FallTrays.{falls_by_lines_keep_trays}
use Rattle.qc_msg.specs.declared.record.Record.{Record}
use Rattle.qc_msg.specs.declared.step.Control.{Control}
use Rattle.qc_msg.specs.declared.step.Control.TheVariants as controls
use Rattle.qc_msg.specs.declared.step.Fall.TheVariants as causes
use Rattle.qc_msg.specs.declared.step.Step.{Step}
use Rattle.qc_msg.specs.declared.step.Step.TheVariants as steps
use Rattle.qc_msg.specs.declared.turn.Turn.{Turn}
use Rattle.qc_msg.specs.Vocabulary.{Deed, Entry, Falls, deeds, mail, marked}
use Rattle.qc_msg.proofs.DeedsGrow.{deeds-append, deeds-fell}
use Rattle.qc_outside.specs.declared.disk.ArmKind.{ArmKind}
use Rattle.qc_pass.specs.declared.token.Pass.{Pass}
use Rattle.qc_pass.specs.declared.token.Right.{Right}
use Rattle.qc_pass.specs.Vocabulary.{Met, all, ends, mine, number, room, rooms, seen}
use Rattle.qc_script.specs.Vocabulary.{RunsWithFalls, control, controls_left, falls, phase_of}
use Rattle.qc_script.specs.declared.script.Script.{Script}
use Rattle.qc_fabric.specs.Vocabulary.{Arms, ArmsNone, ArmsNoneBehind, FallsByLine, HasGrown, IsFabricState, Logged}
use Rattle.qc_fabric.specs.Vocabulary.{MayDo, Sees, before_last_event, full_of, most_history}
use Rattle.qc_fabric.proofs.Events.{before_event}
use Rattle.qc_fabric.proofs.Fed.{deeds_of_front, rooms_kept}
use Rattle.qc_fabric.proofs.Gains.{Gain, end_else, end_here, gain, saw, unarmed_on}
use Rattle.qc_fabric.proofs.KeptParts.{all_of, right_of, rooms_of, steps_on, unarmed_of}
use Rattle.qc_fabric.proofs.Ordered.{Lines, lines_of}
use Rattle.qc_fabric.proofs.Phased.{phase_more}

module _ {L : ℕ → List Deed → Turn → Type 0} {F : ℕ → List Record → Type 0} {D : Declaration} {S : Script} {z : TableId}
    {w : Script} {lg : Logged} {mb : Roomy} {op hd : List Bool} {ph rsv sp : ℕ} {tb : TableId}
    {ri : Option (Right Step)} where
  -- a crash
  module _ (s : IsFabricState L F D S z w lg mb op hd ph rsv sp tb ri) (r : Right Step) (e : ri ≡ Some r)
      (p q : Pass Step) (t : Right Step) (low : number p < actors D)
      (may : MayDo D S lg.history op (controls.Crash (number p)))
      (m : Met p r q t (steps.Fell causes.Script None ∷ []) (room p))
      (a : all t ≡ all r ++ marked (number p) (steps.Fell causes.Script None) ∷ []) where
    abbrev fallen : List Entry
    fallen = marked (number p) (steps.Fell causes.Script None) ∷ []

    crash_lines : Lines (controls_left S lg.history) (controls.Crash (number p))
    crash_lines = lines_of (controls_left S lg.history) (controls.Crash (number p)) may.next

    run_fallen : RunsWithFalls L F D S (lg.history ++ fallen) op
    run_fallen = falls (number p) crash_lines.rest op lg.history s.runs crash_lines.are

    pub falls_on : (lg1 lg' : Logged) (mb' : Roomy) → lg1.history ≡ lg.history → (rsv + sp) + 1 ≤ lg1.room
        → length lg.history + ((rsv + sp) + 1) ≤ most_history → HasGrown lg1 lg' fallen
        → mb'.room ≡ mb.room → mb'.inboxes ≡ after_fall_by_line mb.inboxes (number p)
        → IsFabricState L F D S z w lg' mb' op hd ph rsv sp tb (Some t)
    falls_on lg1 lg' mb' hs lr bd g mr is = steps_on s r e p q t
        (steps.Fell causes.Script None) op ph m a lg1 lg' mb' hs lr bd g (omega (arith, mr, s.mail_room))
        (subst (λ (i : Inboxes). IsKept S (lg.history ++ fallen) i) (sym is)
        (falls_by_lines_keep_trays S lg.history mb.inboxes (number p) causes.Script None s.kept
        (omega (arith, low, s.few)) refl))
        (s.phase_is ∙ sym (phase_more lg.history fallen)) run_fallen s.opens (λ k o. o) may.below refl (λ b. refl)

    pub fell_by_line : (lg1 lg' : Logged) → lg1.history ≡ lg.history → HasGrown lg1 lg' fallen
        → FallsByLine L F D S p q lg.history lg'.history
    fell_by_line lg1 lg' hs g =
        let gained : Gain p r = gain p q r t (steps.Fell causes.Script None ∷ []) (room p) m (unarmed_of s r e) in
        let es : lg'.history ≡ lg.history ++ fallen = g.history ∙ ap (λ (l : List Entry). l ++ fallen) hs in
        let now : seen q ≡ lg.history ++ fallen = m.seen_is
        ∙ (a ∙ ap (λ (l : List Entry). l ++ fallen) (all_of s r e)) in
        let then : deeds (number p) [] lg.history ≡ deeds (number p) [] (seen p) =
        ap (λ (l : List Entry). deeds (number p) [] l) (sym (all_of s r e))
        ∙ deeds_of_front (number p) (seen p) (all r) (p.part ∙ sym m.part) m.begins in
        record {
          pass = record { table_is = m.same_table; number_is = m.same_number };
          others = gained.others;
          not_own = gained.not_own;
          old_is = sym (all_of s r e) ∙ sym gained.whole;
          new_is = es;
          seen_is = now ∙ sym es;
          run = (op, subst (λ (l : List Entry). RunsWithFalls L F D S l op) (sym now) run_fallen);
          mine_is = m.mine_is;
          does = ap (λ (l : List Entry). deeds (number p) [] l) now ∙ (deeds-append (number p) [] lg.history fallen
              ∙ (ap (λ (v : List Deed). deeds (number p) [] lg.history ++ v)
              (deeds-fell (number p) (mail lg.history) causes.Script None)
              ∙ ap (λ (v : List Deed). v ++ Falls causes.Script None ∷ []) then));
          room_is = m.room_is;
        }

  -- a disk is armed: the actor's pass looks, the controller's adds the step, the actor's looks again
  module _ (s : IsFabricState L F D S z w lg mb op hd ph rsv sp tb ri) (r : Right Step) (e : ri ≡ Some r)
      (p p1 q : Pass Step) (c c1 : Pass Step) (r1 r2 t : Right Step) (kind : ArmKind) (at : ℕ)
      (is_controller : number c ≡ controller D) (may : MayDo D S lg.history op (controls.Armed (number p) kind at))
      (m1 : Met p r p1 r1 [] (room p)) (a1 : all r1 ≡ all r)
      (mc : Met c r1 c1 r2 (steps.Armed (number p) kind at ∷ []) (room c))
      (ac : all r2 ≡ all r1 ++ marked (number c) (steps.Armed (number p) kind at) ∷ [])
      (m2 : Met p1 r2 q t [] (room p)) (a2 : all t ≡ all r2) where
    abbrev arming : List Entry
    arming = marked (number c) (steps.Armed (number p) kind at) ∷ []

    arm_lines : Lines (controls_left S lg.history) (controls.Armed (number p) kind at)
    arm_lines = lines_of (controls_left S lg.history) (controls.Armed (number p) kind at) may.next

    run_armed : RunsWithFalls L F D S (lg.history ++ arming) op
    run_armed = subst (λ (n : ℕ). RunsWithFalls L F D S
        (lg.history ++ marked n (steps.Armed (number p) kind at) ∷ []) op) (sym is_controller)
        (control (controls.Armed (number p) kind at) arm_lines.rest
        (steps.Armed (number p) kind at) op lg.history s.runs arm_lines.are refl)

    all_armed : all t ≡ all r ++ arming
    all_armed = a2 ∙ (ac ∙ ap (λ (l : List Entry). l ++ arming) a1)

    all_now : all t ≡ lg.history ++ arming
    all_now = all_armed ∙ ap (λ (l : List Entry). l ++ arming) (all_of s r e)

    rooms_now : rooms t ≡ rooms s.holder
    rooms_now =
        let m2' : Met p1 r2 q t [] (room p1) = subst (λ (n : ℕ). Met p1 r2 q t [] n) (sym m1.room_is) m2 in
        rooms_kept p1 q r2 t [] m2' ∙ (rooms_kept c c1 r1 r2 (steps.Armed (number p) kind at ∷ []) mc
        ∙ (rooms_kept p p1 r r1 [] m1 ∙ sym (rooms_of s r e)))

    -- another's view ends where it did, before a step that arms nothing for it; or it ends with the history
    each_end : (b end : ℕ) → slice_get (ends t) b ≡ Some end
        → (end ≡ length (all t)) ⊎ ((slice_get (ends r) b ≡ Some end) × ArmsNone b arming)
    each_end b end there = dite (ℕ_discrete b (number p1))
        (λ is. inl (end_here p1 q r2 t [] (room p) m2 b end is there))
        (λ other. else_end other (sym (end_else p1 q r2 t [] (room p) m2 b other) ∙ there))
      where
        else_end : (b ≡ number p1 → ⊥) → slice_get (ends r2) b ≡ Some end
            → (end ≡ length (all t)) ⊎ ((slice_get (ends r) b ≡ Some end) × ArmsNone b arming)
        else_end other then = dite (ℕ_discrete b (number c))
            (λ is. inl (end_here c c1 r1 r2 (steps.Armed (number p) kind at ∷ []) (room c) mc b end is then
            ∙ ap (λ (l : List Entry). length l) (sym a2)))
            (λ far.
            (let apart : b ≡ number p → ⊥ = λ is. other (is ∙ sym m1.same_number) in
            let first : slice_get (ends r) b ≡ Some end =
            sym (end_else p p1 r r1 [] (room p) m1 b apart)
            ∙ (sym (end_else c c1 r1 r2 (steps.Armed (number p) kind at ∷ []) (room c) mc b far) ∙ then) in
            inr (first, (ne_eqb (number p) b (λ is. apart (sym is)), tt))))

    unarmed_now : ArmsNoneBehind (ends t) (all t)
    unarmed_now = unarmed_on (ends r) (ends t) (all r) (all t) arming all_armed each_end (unarmed_of s r e)

    pub arms_on : (lg1 lg' : Logged) (mb' : Roomy) → lg1.history ≡ lg.history → (rsv + sp) + 1 ≤ lg1.room
        → length lg.history + ((rsv + sp) + 1) ≤ most_history → HasGrown lg1 lg' arming
        → mb'.room ≡ mb.room → mb'.inboxes ≡ after_first mb.inboxes mb.inboxes.controls
        → IsFabricState L F D S z w lg' mb' op hd ph rsv sp tb (Some t)
    arms_on lg1 lg' mb' hs lr bd g mr is =
        let es : lg'.history ≡ lg.history ++ arming = g.history ∙ ap (λ (l : List Entry). l ++ arming) hs in
        let shown : mb.inboxes.controls ≡ controls.Armed (number p) kind at ∷ arm_lines.rest =
        trays_show_controls S lg.history mb.inboxes s.kept ∙ arm_lines.are in
        let after : mb'.inboxes ≡ after_control mb.inboxes (controls.Armed (number p) kind at) = is
        ∙ ap (λ (cs : List Control). after_first mb.inboxes cs) shown in
        let kept : IsKept S (lg.history ++ arming) mb'.inboxes =
        subst (λ (i : Inboxes). IsKept S (lg.history ++ arming) i) (sym after)
        (controls_keep_trays S lg.history mb.inboxes (controls.Armed (number p) kind at)
        (steps.Armed (number p) kind at)
        (number c) s.kept refl) in
        record {
          script_is = s.script_is;
          holder = t;
          right_is = refl;
          table_is = s.table_is;
          right_table_is = m2.same_right ∙ (mc.same_right ∙ (m1.same_right ∙ right_of s r e));
          all_is = all_now ∙ sym es;
          runs = subst (λ (l : List Entry). RunsWithFalls L F D S l op) (sym es) run_armed;
          kept = subst (λ (l : List Entry). IsKept S l mb'.inboxes) (sym es) kept;
          phase_is = s.phase_is ∙ (sym (phase_more lg.history arming) ∙ ap (λ (l : List Entry). phase_of l) (sym es));
          opens = s.opens;
          helds = s.helds;
          passes = ap length rooms_now ∙ s.passes;
          sum_is = ap (λ (l : List ℕ). sum l) rooms_now ∙ s.sum_is;
          log_room = omega (arith, g.room, lr);
          mail_room = omega (arith, mr, s.mail_room);
          bound = omega (arith, ap (λ (l : List Entry). length l) es, length-append lg.history arming, bd);
          below = ap (λ (l : List Entry). full_of (before_last_event l)) es
              ∙ (ap full_of (before_event lg.history (marked (number c) (steps.Armed (number p) kind at)) [] refl refl)
              ∙ may.below);
          opened = λ k j f. s.opened k j (ap (λ (l : List ℕ). slice_get l k) (sym rooms_now) ∙ f);
          unarmed = subst (λ (l : List Entry). ArmsNoneBehind (ends t) l) (all_now ∙ sym es) unarmed_now;
          sound = s.sound;
          few = s.few;
          down = s.down;
        }

    pub armed : (lg1 lg' : Logged) → lg1.history ≡ lg.history → HasGrown lg1 lg' arming
        → Arms D p q lg.history lg'.history kind at
    armed lg1 lg' hs g =
        let gained : Gain p r = gain p p1 r r1 [] (room p) m1 (unarmed_of s r e) in
        let see : Sees p p1 = saw p p1 r r1 (room p) m1 a1 (unarmed_of s r e) in
        let es : lg'.history ≡ lg.history ++ arming = g.history ∙ ap (λ (l : List Entry). l ++ arming) hs in
        let again : deeds (number p1) [] (all r2) ≡ deeds (number p1) [] (seen p1) =
        deeds_of_front (number p1) (seen p1) (all r2) (p1.part ∙ sym m2.part) m2.begins in
        let same : deeds (number p) [] (all r2) ≡ deeds (number p) [] (seen p1) =
        subst (λ (n : ℕ). deeds n [] (all r2) ≡ deeds n [] (seen p1)) m1.same_number again in
        record {
          pass = record { table_is = m2.same_table ∙ m1.same_table; number_is = m2.same_number ∙ m1.same_number };
          others = gained.others;
          not_own = gained.not_own;
          old_is = sym (all_of s r e) ∙ sym gained.whole;
          new_is = es ∙ ap (λ (n : ℕ). lg.history ++ marked n (steps.Armed (number p) kind at) ∷ []) is_controller;
          seen_is = m2.seen_is ∙ (all_now ∙ sym es);
          mine_is = m2.mine_is ∙ (append-nil (mine p1) ∙ see.mine_is);
          does = ap (λ (l : List Entry). deeds (number p) [] l) (m2.seen_is ∙ a2) ∙ (same ∙ see.does);
          room_is = m2.room_is;
        }
