-- What the state under the lock keeps, with other memory, other spare room, after a look, and one step more.
use Rattle.std.proofs.Common.{[], ◌≡◌, ℕ, suc, ◌+◌, ◌<◌, ◌≤◌, Bool, true, false, List, ◌∷◌, ◌++◌, length, refl, ap}
use Rattle.std.proofs.Common.{sym, ◌∙◌, subst, arith, length-append, Option, Some, None, sum}
use Rattle.std.specs.Prelude.{slice_get, slice_set}
use Rattle.atomic_table.specs.Seated.{TableId}
use Rattle.qc_decl.specs.Vocabulary.{actors}
use Rattle.qc_decl.specs.declared.declaration.Declaration.{Declaration}
use Rattle.qc_mailbox.specs.Vocabulary.{Inboxes, IsKept, Roomy}
use Rattle.qc_msg.specs.declared.record.Record.{Record}
use Rattle.qc_msg.specs.declared.step.Step.{Step}
use Rattle.qc_msg.specs.declared.turn.Turn.{Turn}
use Rattle.qc_msg.specs.Vocabulary.{Deed, Entry, marked}
use Rattle.qc_pass.specs.declared.token.Pass.{Pass}
use Rattle.qc_pass.specs.declared.token.Right.{Right}
use Rattle.qc_pass.specs.Vocabulary.{Met, all, ends, number, right_table, room, rooms}
use Rattle.qc_promise.specs.Vocabulary.{arms_disk}
use Rattle.qc_script.specs.Vocabulary.{RunsWithFalls, phase_of}
use Rattle.qc_script.specs.declared.script.Script.{Script}
use Rattle.qc_fabric.specs.Vocabulary.{ArmsNoneBehind, HasGrown, IsFabricState, Logged, before_last_event, begins_event}
use Rattle.qc_fabric.specs.Vocabulary.{full_of, most_history}
use Rattle.qc_fabric.proofs.Events.{before_event}
use Rattle.qc_fabric.proofs.Fed.{get_here, rooms_kept}
use Rattle.qc_fabric.proofs.Gains.{look_unarmed, met_unarmed}

pub no_room_at : (old new : List ℕ) (p i j : ℕ) → p < length old → new ≡ slice_set old p 0 → i ≡ p
    → slice_get new i ≡ Some (suc j) → ⊥
no_room_at old new p i j made is same f =
    let zero_there : slice_get (slice_set old p 0) p ≡ Some 0 = get_here old p 0 made in
    let there : slice_get (slice_set old p 0) p ≡ Some (suc j) =
    subst (λ (x : ℕ). slice_get (slice_set old p 0) x ≡ Some (suc j)) same
    (ap (λ (l : List ℕ). slice_get l i) (sym is) ∙ f) in
    let both : Some 0 ≡ Some (suc j) = sym zero_there ∙ there in
    let bad : 0 ≡ suc j = cc in absurd (omega (arith, bad))

pub unarmed_at : (t : Right Step) {h : List Entry} → all t ≡ h → ArmsNoneBehind (ends t) (all t)
    → ArmsNoneBehind (ends t) h
unarmed_at t {h = h} is unarmed = subst (λ (l : List Entry). ArmsNoneBehind (ends t) l) is unarmed

module _ {L : ℕ → List Deed → Turn → Type 0} {F : ℕ → List Record → Type 0} {D : Declaration} {S : Script} {z : TableId}
    {w : Script} {lg : Logged} {mb : Roomy} {op hd : List Bool} {ph rsv sp : ℕ} {tb : TableId}
    {ri : Option (Right Step)} where
  held_is : (s : IsFabricState L F D S z w lg mb op hd ph rsv sp tb ri) (r : Right Step) → ri ≡ Some r → s.holder ≡ r
  held_is s r e = let f = s.right_is in cc

  pub all_of : (s : IsFabricState L F D S z w lg mb op hd ph rsv sp tb ri) (r : Right Step) → ri ≡ Some r
      → all r ≡ lg.history
  all_of s r e = ap (λ (x : Right Step). all x) (sym (held_is s r e)) ∙ s.all_is

  pub rooms_of : (s : IsFabricState L F D S z w lg mb op hd ph rsv sp tb ri) (r : Right Step) → ri ≡ Some r
      → rooms s.holder ≡ rooms r
  rooms_of s r e = ap (λ (x : Right Step). rooms x) (held_is s r e)

  pub right_of : (s : IsFabricState L F D S z w lg mb op hd ph rsv sp tb ri) (r : Right Step) → ri ≡ Some r
      → right_table r ≡ z
  right_of s r e = ap (λ (x : Right Step). right_table x) (sym (held_is s r e)) ∙ s.right_table_is

  pub unarmed_of : (s : IsFabricState L F D S z w lg mb op hd ph rsv sp tb ri) (r : Right Step) → ri ≡ Some r
      → ArmsNoneBehind (ends r) (all r)
  unarmed_of s r e =
      subst (λ (l : List Entry). ArmsNoneBehind (ends r) l) (sym (all_of s r e))
      (subst (λ (x : Right Step). ArmsNoneBehind (ends x) lg.history) (held_is s r e) s.unarmed)

  -- other memory, and others held
  pub other_memory : (s : IsFabricState L F D S z w lg mb op hd ph rsv sp tb ri) (lg' : Logged) (mb' : Roomy)
      (hd' : List Bool) → lg'.history ≡ lg.history → mb'.inboxes ≡ mb.inboxes
      → rsv + sp ≤ lg'.room → rsv + sp ≤ mb'.room → length hd' ≡ actors D
      → IsFabricState L F D S z w lg' mb' op hd' ph rsv sp tb ri
  other_memory s lg' mb' hd' es is lr mr len = record {
    script_is = s.script_is;
    holder = s.holder;
    right_is = s.right_is;
    table_is = s.table_is;
    right_table_is = s.right_table_is;
    all_is = s.all_is ∙ sym es;
    runs = subst (λ (l : List Entry). RunsWithFalls L F D S l op) (sym es) s.runs;
    kept =
        subst (λ (l : List Entry). IsKept S l mb'.inboxes) (sym es)
        (subst (λ (i : Inboxes). IsKept S lg.history i) (sym is) s.kept);
    phase_is = s.phase_is ∙ ap (λ (l : List Entry). phase_of l) (sym es);
    opens = s.opens;
    helds = len;
    passes = s.passes;
    sum_is = s.sum_is;
    log_room = lr;
    mail_room = mr;
    bound = omega (arith, ap (λ (l : List Entry). length l) es, s.bound);
    below = ap (λ (l : List Entry). full_of (before_last_event l)) es ∙ s.below;
    opened = s.opened;
    unarmed = subst (λ (l : List Entry). ArmsNoneBehind (ends s.holder) l) (sym es) s.unarmed;
    sound = s.sound;
    few = s.few;
    down = s.down;
  }

  -- other spare room
  pub other_spare : (s : IsFabricState L F D S z w lg mb op hd ph rsv sp tb ri) (lg' : Logged) (mb' : Roomy) (sp' : ℕ)
      → lg'.history ≡ lg.history → mb'.inboxes ≡ mb.inboxes
      → rsv + sp' ≤ lg'.room → rsv + sp' ≤ mb'.room → length lg.history + (rsv + sp') ≤ most_history
      → IsFabricState L F D S z w lg' mb' op hd ph rsv sp' tb ri
  other_spare s lg' mb' sp' es is lr mr bd = record {
    script_is = s.script_is;
    holder = s.holder;
    right_is = s.right_is;
    table_is = s.table_is;
    right_table_is = s.right_table_is;
    all_is = s.all_is ∙ sym es;
    runs = subst (λ (l : List Entry). RunsWithFalls L F D S l op) (sym es) s.runs;
    kept =
        subst (λ (l : List Entry). IsKept S l mb'.inboxes) (sym es)
        (subst (λ (i : Inboxes). IsKept S lg.history i) (sym is) s.kept);
    phase_is = s.phase_is ∙ ap (λ (l : List Entry). phase_of l) (sym es);
    opens = s.opens;
    helds = s.helds;
    passes = s.passes;
    sum_is = s.sum_is;
    log_room = lr;
    mail_room = mr;
    bound = omega (arith, ap (λ (l : List Entry). length l) es, bd);
    below = ap (λ (l : List Entry). full_of (before_last_event l)) es ∙ s.below;
    opened = s.opened;
    unarmed = subst (λ (l : List Entry). ArmsNoneBehind (ends s.holder) l) (sym es) s.unarmed;
    sound = s.sound;
    few = s.few;
    down = s.down;
  }

  -- a look
  pub looks_on : (s : IsFabricState L F D S z w lg mb op hd ph rsv sp tb ri) (r : Right Step) → ri ≡ Some r
      → (p q : Pass Step) (t : Right Step) → Met p r q t [] (room p) → all t ≡ all r
      → IsFabricState L F D S z w lg mb op hd ph rsv sp tb (Some t)
  looks_on s r e p q t m a =
      let same : rooms t ≡ rooms s.holder = rooms_kept p q r t [] m ∙ sym (rooms_of s r e) in
      record {
        script_is = s.script_is;
        holder = t;
        right_is = refl;
        table_is = s.table_is;
        right_table_is = m.same_right ∙ right_of s r e;
        all_is = a ∙ all_of s r e;
        runs = s.runs;
        kept = s.kept;
        phase_is = s.phase_is;
        opens = s.opens;
        helds = s.helds;
        passes = ap length same ∙ s.passes;
        sum_is = ap (λ (l : List ℕ). sum l) same ∙ s.sum_is;
        log_room = s.log_room;
        mail_room = s.mail_room;
        bound = s.bound;
        below = s.below;
        opened = λ k j f. s.opened k j (ap (λ (l : List ℕ). slice_get l k) (sym same) ∙ f);
        unarmed = unarmed_at t (a ∙ all_of s r e) (look_unarmed p q r t (room p) m a (unarmed_of s r e));
        sound = s.sound;
        few = s.few;
        down = s.down;
      }

  -- one step more, with other inputs open
  pub steps_on : (s : IsFabricState L F D S z w lg mb op hd ph rsv sp tb ri) (r : Right Step) → ri ≡ Some r
      → (p q : Pass Step) (t : Right Step) (x : Step) (op' : List Bool) (ph' : ℕ)
      → Met p r q t (x ∷ []) (room p) → all t ≡ all r ++ marked (number p) x ∷ []
      → (lg1 lg' : Logged) (mb' : Roomy) → lg1.history ≡ lg.history → (rsv + sp) + 1 ≤ lg1.room
      → length lg.history + ((rsv + sp) + 1) ≤ most_history → HasGrown lg1 lg' (marked (number p) x ∷ [])
      → rsv + sp ≤ mb'.room → IsKept S (lg.history ++ marked (number p) x ∷ []) mb'.inboxes
      → ph' ≡ phase_of (lg.history ++ marked (number p) x ∷ [])
      → RunsWithFalls L F D S (lg.history ++ marked (number p) x ∷ []) op' → length op' ≡ actors D
      → ((k : ℕ) → slice_get op k ≡ Some true → slice_get op' k ≡ Some true)
      → full_of lg.history ≡ None → begins_event x ≡ true → ((b : ℕ) → arms_disk b x ≡ false)
      → IsFabricState L F D S z w lg' mb' op' hd ph' rsv sp tb (Some t)
  steps_on s r e p q t x op' ph' m a lg1 lg' mb' hs lr bd g mr kept phs run len more under starts_one calm =
      let same : rooms t ≡ rooms s.holder = rooms_kept p q r t (x ∷ []) m ∙ sym (rooms_of s r e) in
      let es : lg'.history ≡ lg.history ++ marked (number p) x ∷ [] =
      g.history ∙ ap (λ (l : List Entry). l ++ marked (number p) x ∷ []) hs in
      record {
        script_is = s.script_is;
        holder = t;
        right_is = refl;
        table_is = s.table_is;
        right_table_is = m.same_right ∙ right_of s r e;
        all_is = a ∙ (ap (λ (l : List Entry). l ++ marked (number p) x ∷ []) (all_of s r e) ∙ sym es);
        runs = subst (λ (l : List Entry). RunsWithFalls L F D S l op') (sym es) run;
        kept = subst (λ (l : List Entry). IsKept S l mb'.inboxes) (sym es) kept;
        phase_is = phs ∙ ap (λ (l : List Entry). phase_of l) (sym es);
        opens = len;
        helds = s.helds;
        passes = ap length same ∙ s.passes;
        sum_is = ap (λ (l : List ℕ). sum l) same ∙ s.sum_is;
        log_room = omega (arith, g.room, lr);
        mail_room = mr;
        bound = omega (
          arith,
          ap (λ (l : List Entry). length l) es,
          length-append lg.history (marked (number p) x ∷ []),
          bd,
        );
        below =
            ap (λ (l : List Entry). full_of (before_last_event l)) es
            ∙ (ap full_of (before_event lg.history (marked (number p) x) [] starts_one refl) ∙ under);
        opened = λ k j f. more k (s.opened k j (ap (λ (l : List ℕ). slice_get l k) (sym same) ∙ f));
        unarmed =
            unarmed_at t (a ∙ (ap (λ (l : List Entry). l ++ marked (number p) x ∷ []) (all_of s r e) ∙ sym es))
            (met_unarmed p q r t (x ∷ []) (room p) m a (λ b. (calm b, tt)) (unarmed_of s r e));
        sound = s.sound;
        few = s.few;
        down = s.down;
      }
