-- A restart keeps what the state under the lock keeps, and tells that the history grew by its steps.
use Rattle.std.proofs.Common.{◌≡◌, ℕ, ◌+◌, ◌<◌, ◌≤◌, ◌==◌, cond, Bool, true, false, List, [], ◌∷◌, ◌++◌, length}
use Rattle.std.proofs.Common.{append_assoc, Option, Some, None, refl, ap, sym, ◌∙◌, subst, arith, slice_get, sum}
use Rattle.atomic_table.specs.Seated.{TableId}
use Rattle.qc_decl.specs.Vocabulary.{actors}
use Rattle.qc_decl.specs.declared.declaration.Declaration.{Declaration}
use Rattle.qc_mailbox.specs.Vocabulary.{Inboxes, IsKept, Roomy}
use Rattle.qc_mailbox.proofs.Controlling.{damaged_journals_keep_trays}
use Rattle.qc_mailbox.proofs.FallLaws.{restarts_down}
use Rattle.qc_mailbox.proofs.FallTrays.{falls_by_lines_keep_trays, rises_keep_trays, trays_know_who_is_up}
use Rattle.qc_msg.specs.declared.record.Record.{Record}
use Rattle.qc_msg.specs.declared.step.Control.TheVariants as controls
use Rattle.qc_msg.specs.declared.step.Step.{Step}
use Rattle.qc_msg.specs.declared.step.Step.TheVariants as steps
use Rattle.qc_msg.specs.declared.turn.Turn.{Turn}
use Rattle.qc_msg.specs.Vocabulary.{Deed, Entry, Rises, by, deeds, deeds_as, mail, marked, posted_as}
use Rattle.qc_msg.proofs.DeedsGrow.{deeds-append, deeds-fell, deeds-rise}
use Rattle.qc_msg.proofs.Growth.{deeds-posted_as}
use Rattle.qc_pass.specs.declared.token.Pass.{Pass}
use Rattle.qc_pass.specs.declared.token.Right.{Right}
use Rattle.qc_pass.specs.Vocabulary.{Met, all, number, room, rooms, seen}
use Rattle.qc_script.specs.Vocabulary.{RunsWithFalls, controls_left, damaged, is_up, phase_of, rises, unopened}
use Rattle.qc_script.specs.declared.script.Script.{Script}
use Rattle.qc_fabric.specs.Vocabulary.{ArmsNone, Fed, HasGrown, IsFabricState, IsRising, Logged, MayDo, RisesAs}
use Rattle.qc_fabric.specs.Vocabulary.{RisesToActors, after_rising, before_last_event, deeds_of_rising, full_of}
use Rattle.qc_fabric.specs.Vocabulary.{most_history, sends_of_rising, size_of_rising, steps_of_rising}
use Rattle.qc_fabric.specs.declared.rising.Rising.{Rising}
use Rattle.qc_fabric.specs.declared.rising.Rising.TheVariants.{Rose, Damaged, NotOpened}
use Rattle.qc_fabric.proofs.Events.{before_event}
use Rattle.qc_fabric.proofs.Fed.{length-posted, sends_few, set_again}
use Rattle.qc_fabric.proofs.Feeding.{before_is, deeds_then, fed_same, feeds_on, gained, mine_now, rooms_after, seen_now}
use Rattle.qc_fabric.proofs.KeptParts.{rooms_of}
use Rattle.qc_fabric.proofs.Ordered.{Lines, lines_of}
use Rattle.qc_fabric.proofs.Phased.{phase_more, phase_rise}
use Rattle.qc_fabric.proofs.Plain.{may_end, plain_arms_none, plain_begins_none, posted_plain}
use Rattle.qc_fabric.proofs.Posted.{receivers_as}
use Rattle.qc_script.proofs.AllUp.{by_disk_down}

-- room for it, and its messages

pub length-rising : (n : ℕ) (rising : Rising) → length (steps_of_rising n rising) ≤ size_of_rising rising
length-rising n (Rose records turn) = omega (arith, length-posted turn.append n turn)
length-rising n (Damaged offset) = omega arith
length-rising n (NotOpened cause) = omega arith

pub rising_sends_few : (n : ℕ) (rising : Rising) → length (sends_of_rising rising) ≤ length (steps_of_rising n rising)
rising_sends_few n (Rose records turn) = omega (arith, sends_few turn.append n turn)
rising_sends_few n (Damaged offset) = omega arith
rising_sends_few n (NotOpened cause) = omega arith

module _ (L : ℕ → List Deed → Turn → Type 0) (F : ℕ → List Record → Type 0) (a : ℕ) where
  pub rises_to : (h : List Entry) (rising : Rising) → IsRising L F a h rising → RisesToActors rising
  rises_to h (Rose records turn) ok = ok.2
  rises_to h (Damaged offset) ok = tt
  rises_to h (NotOpened cause) ok = tt

  -- the deeds are those of what was seen
  rising_at : (h k : List Entry) (rising : Rising) → deeds a [] k ≡ deeds a [] h → IsRising L F a h rising
      → IsRising L F a k rising
  rising_at h k (Rose records turn) same ok =
      (ok.0, ok.1, ok.2, subst (λ (ds : List Deed). L a (ds ++ Rises records ∷ []) turn) (sym same) ok.3)
  rising_at h k (Damaged offset) same ok = tt
  rising_at h k (NotOpened cause) same ok = ok

  -- its steps leave the phase, arm nothing, and begin one event, with the first of them

  phase_risen : (h : List Entry) (n : ℕ) (rising : Rising) → IsRising L F a h rising
      → phase_of (h ++ by a (steps_of_rising n rising)) ≡ phase_of h
  phase_risen h n (Rose records turn) ok = phase_rise h a n records turn ok.1
  phase_risen h n (Damaged offset) ok = phase_more h (by a (steps.Damaged offset ∷ []))
  phase_risen h n (NotOpened cause) ok = phase_more h (by a (steps.Fell cause None ∷ []))

  risen_arms_none : (h : List Entry) (n : ℕ) (rising : Rising) → IsRising L F a h rising → (b : ℕ)
      → ArmsNone b (by a (steps_of_rising n rising))
  risen_arms_none h n (Rose records turn) ok b = (
    refl,
    plain_arms_none a b (posted_as turn.append n turn)
        (posted_plain turn.append n turn (may_end turn.write turn.append ok.1)),
  )
  risen_arms_none h n (Damaged offset) ok b = (refl, tt)
  risen_arms_none h n (NotOpened cause) ok b = (refl, tt)

  before_risen : (h : List Entry) (n : ℕ) (rising : Rising) → IsRising L F a h rising
      → before_last_event (h ++ by a (steps_of_rising n rising)) ≡ h
  before_risen h n (Rose records turn) ok =
      before_event h (marked a (steps.Rose records)) (by a (posted_as turn.append n turn)) refl
      (plain_begins_none a (posted_as turn.append n turn)
      (posted_plain turn.append n turn (may_end turn.write turn.append ok.1)))
  before_risen h n (Damaged offset) ok = before_event h (marked a (steps.Damaged offset)) [] refl refl
  before_risen h n (NotOpened cause) ok = before_event h (marked a (steps.Fell cause None)) [] refl refl

-- its deeds

deeds_risen : (a n : ℕ) (h : List Entry) (rising : Rising)
    → deeds a [] (h ++ by a (steps_of_rising n rising)) ≡ deeds a [] h ++ deeds_of_rising n rising
deeds_risen a n h (Rose records turn) =
    let rose : List Entry = h ++ marked a (steps.Rose records) ∷ [] in
    ap (λ (l : List Entry). deeds a [] l) (sym
    (append_assoc h (marked a (steps.Rose records) ∷ []) (by a (posted_as turn.append n turn))))
    ∙ (deeds-posted_as turn.append a n rose turn
    ∙ (ap (λ (v : List Deed). v ++ deeds_as turn.append n turn) (deeds-rise a h records)
    ∙ append_assoc (deeds a [] h) (Rises records ∷ []) (deeds_as turn.append n turn)))
deeds_risen a n h (Damaged offset) = deeds-append a [] h (by a (steps.Damaged offset ∷ []))
    ∙ ap (λ (v : List Deed). deeds a [] h ++ v) (nothing (a == a))
  where
    nothing : (mine : Bool) → (let ds : List Deed = cond mine [] [] ++ [] in ds) ≡ []
    nothing true = refl
    nothing false = refl
deeds_risen a n h (NotOpened cause) = deeds-append a [] h (by a (steps.Fell cause None ∷ []))
    ∙ ap (λ (v : List Deed). deeds a [] h ++ v) (deeds-fell a (mail h) cause None)

module _ {L : ℕ → List Deed → Turn → Type 0} {F : ℕ → List Record → Type 0} {D : Declaration} {S : Script} {z : TableId}
    {w : Script} {lg : Logged} {mb : Roomy} {op hd : List Bool} {ph rsv sp : ℕ} {tb : TableId}
    {ri : Option (Right Step)} where
  -- what the line that is next may make of the actor
  module _ (s : IsFabricState L F D S z w lg mb op hd ph rsv sp tb ri) (a : ℕ) (low : a < actors D)
      (may : MayDo D S lg.history op (controls.Restart a)) where
    restart_lines : Lines (controls_left S lg.history) (controls.Restart a)
    restart_lines = lines_of (controls_left S lg.history) (controls.Restart a) may.next

    is_down : is_up mb.inboxes.up a ≡ false
    is_down =
        ap (λ (up : List Bool). is_up up a) (sym (trays_know_who_is_up S lg.history mb.inboxes 0 s.kept (omega arith)))
        ∙ restarts_down L F D S lg.history op (omega (arith, s.few)) s.runs a restart_lines.rest restart_lines.are

    run_risen : (rising : Rising) → IsRising L F a lg.history rising
        → RunsWithFalls L F D S (lg.history ++ by a (steps_of_rising (length (mail lg.history)) rising)) op
    run_risen (Rose records turn) ok =
        rises a records turn restart_lines.rest op lg.history s.runs restart_lines.are ok.0 ok.1
        (subst (λ (ds : List Deed). L a ds turn) (sym (deeds-rise a lg.history records)) ok.3)
    run_risen (Damaged offset) ok = damaged a offset restart_lines.rest op lg.history s.runs restart_lines.are
    run_risen (NotOpened cause) ok = unopened a cause restart_lines.rest op lg.history s.runs restart_lines.are ok

    kept_risen : (rising : Rising) → IsRising L F a lg.history rising
        → IsKept S (lg.history ++ by a (steps_of_rising (length (mail lg.history)) rising))
        (after_rising mb.inboxes a rising)
    kept_risen (Rose records turn) ok = rises_keep_trays S lg.history mb.inboxes a records turn s.kept
        (omega (arith, low, s.few)) is_down ok.1 (receivers_as turn.append turn ok.2)
    kept_risen (Damaged offset) ok = damaged_journals_keep_trays S lg.history mb.inboxes a offset s.kept
    kept_risen (NotOpened cause) ok = falls_by_lines_keep_trays S lg.history mb.inboxes a cause None s.kept
        (omega (arith, low, s.few)) (by_disk_down (is_up mb.inboxes.up a) cause is_down ok)

  module _ (s : IsFabricState L F D S z w lg mb op hd ph rsv sp tb ri) (r : Right Step) (e : ri ≡ Some r)
      (p p1 p2 q : Pass Step) (r1 r2 t : Right Step) (rising : Rising) (first : ℕ)
      (m1 : Met p r p1 r1 [] (room p)) (a1 : all r1 ≡ all r) (f : Fed p1 r1 p2 r2 (steps_of_rising first rising))
      (m2 : Met p2 r2 q t [] (room p)) (a2 : all t ≡ all r2)
      (first_is : first ≡ length (mail lg.history)) (low : number p < actors D)
      (may : MayDo D S lg.history op (controls.Restart (number p)))
      (ok : IsRising L F (number p) (seen p) rising) where
    abbrev xs : List Step
    xs = steps_of_rising first rising

    deeds_here : deeds (number p) [] lg.history ≡ deeds (number p) [] (seen p)
    deeds_here = deeds_then s r e p p1 p2 q r1 r2 t xs (room p) m1 a1 f m2 a2

    here : IsRising L F (number p) lg.history rising
    here = rising_at L F (number p) (seen p) lg.history rising deeds_here ok

    rooms_now : rooms t ≡ rooms s.holder
    rooms_now = rooms_after s r e p p1 p2 q r1 r2 t xs (room p) m1 a1 f m2 a2
        ∙ (set_again (rooms r) (number p) (room p) m1.had_room ∙ sym (rooms_of s r e))

    run_after : RunsWithFalls L F D S (lg.history ++ by (number p) xs) op
    run_after = subst (λ (n : ℕ). RunsWithFalls L F D S (lg.history ++ by (number p) (steps_of_rising n rising)) op)
        (sym first_is) (run_risen s (number p) low may rising here)

    kept_after : IsKept S (lg.history ++ by (number p) xs) (after_rising mb.inboxes (number p) rising)
    kept_after = subst (λ (n : ℕ). IsKept S (lg.history ++ by (number p) (steps_of_rising n rising))
        (after_rising mb.inboxes (number p) rising)) (sym first_is) (kept_risen s (number p) low may rising here)

    pub rises_on : (lg' : Logged) (mb' : Roomy) → HasGrown lg lg' (by (number p) xs) → sp ≡ size_of_rising rising
        → mb'.room + length (sends_of_rising rising) ≡ mb.room
        → mb'.inboxes ≡ after_rising mb.inboxes (number p) rising
        → IsFabricState L F D S z w lg' mb' op hd ph rsv 0 tb (Some t)
    rises_on lg' mb' g size mr is =
        let long : length xs ≤ sp = omega (arith, length-rising first rising, size) in
        feeds_on s r e p p1 p2 q r1 r2 t xs (room p) m1 a1 f m2 a2 lg' mb' op hd rsv 0 g
        (risen_arms_none L F (number p) lg.history first rising here) run_after
        (subst (λ (i : Inboxes). IsKept S (lg.history ++ by (number p) xs) i) (sym is) kept_after)
        (phase_risen L F (number p) lg.history first rising here) s.opens s.helds
        (ap (λ (l : List ℕ). sum l) rooms_now ∙ s.sum_is) (omega (arith, long))
        (omega (arith, long, s.mail_room, mr, rising_sends_few first rising))
        (ap full_of (before_risen L F (number p) lg.history first rising here) ∙ may.below)
        (λ i j there. s.opened i j (ap (λ (l : List ℕ). slice_get l i) (sym rooms_now) ∙ there))

    pub risen_told : RisesAs L F D S p q rising first
    risen_told =
        let g = gained s r e p p1 p2 q r1 r2 t xs (room p) m1 a1 f m2 a2 in
        let is : lg.history ≡ seen p ++ g.others = before_is s r e p p1 p2 q r1 r2 t xs (room p) m1 a1 f m2 a2 in
        let now : seen q ≡ lg.history ++ by (number p) xs =
        seen_now s r e p p1 p2 q r1 r2 t xs (room p) m1 a1 f m2 a2 in
        record {
          pass = fed_same s r e p p1 p2 q r1 r2 t xs (room p) m1 a1 f m2 a2;
          others = g.others;
          not_own = g.not_own;
          few = subst (λ (l : List Entry). length l ≤ most_history) is (omega (arith, s.bound));
          first_is = first_is ∙ ap (λ (l : List Entry). length (mail l)) is;
          seen_is = now ∙ ap (λ (l : List Entry). l ++ by (number p) xs) is;
          run = (op, subst (λ (l : List Entry). RunsWithFalls L F D S l op) (sym now) run_after);
          mine_is = mine_now s r e p p1 p2 q r1 r2 t xs (room p) m1 a1 f m2 a2;
          does = ap (λ (l : List Entry). deeds (number p) [] l) now
              ∙ (deeds_risen (number p) first lg.history rising
              ∙ ap (λ (l : List Deed). l ++ deeds_of_rising first rising) deeds_here);
          room_is = m2.room_is;
        }
