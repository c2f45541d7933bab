-- An empty history has what the state under the lock keeps; looks, rooms, one step more keep it.
use Rattle.std.proofs.Common.{[], ◌≡◌, ℕ, zero, suc, ◌+◌, ◌-◌, ◌<◌, ◌≤◌, Bool, true, false, List, length, refl, ap, sym}
use Rattle.std.proofs.Common.{◌∙◌, subst, arith, Option, Some, sum, replicate, drop}
use Rattle.std.specs.Prelude.{slice_get, slice_set}
use Rattle.std.proofs.lemmas.List.{length-replicate}
use mathlib.Core.Logic.{dite}
use native.Mathlib.Decide.{ℕ_discrete}
use Rattle.atomic_table.specs.Seated.{TableId}
use Rattle.qc_decl.specs.Vocabulary.{actors, controller}
use Rattle.qc_decl.specs.declared.declaration.Declaration.{Declaration}
use Rattle.qc_mailbox.specs.Vocabulary.{Inboxes, IsKept, TellsWhereDown, empty_inboxes, Roomy}
use Rattle.qc_mailbox.proofs.Keeping.{new_trays_are_kept}
use Rattle.qc_msg.specs.declared.record.Record.{Record}
use Rattle.qc_msg.specs.declared.step.Step.{Step}
use Rattle.qc_msg.specs.declared.turn.Turn.{Turn}
use Rattle.qc_msg.specs.Vocabulary.{Deed, Entry}
use Rattle.qc_pass.specs.declared.token.Pass.{Pass}
use Rattle.qc_pass.specs.declared.token.Right.{Right}
use Rattle.qc_pass.specs.Vocabulary.{IsFirst, Met, all, ends, number, room, rooms}
use Rattle.qc_script.specs.Vocabulary.{IsScriptFor, RunsWithFalls, begins, phase_of}
use Rattle.qc_script.specs.declared.script.Script.{Script}
use Rattle.qc_fabric.specs.Vocabulary.{ArmsNone, ArmsNoneBehind, IsFabricState, Logged, before_last_event, full_of}
use Rattle.qc_fabric.specs.Vocabulary.{most_history}
use Rattle.qc_fabric.proofs.Fed.{get_else, sum-set, sum_cons}
use Rattle.qc_fabric.proofs.Gains.{look_unarmed}
use Rattle.qc_link.specs.Vocabulary.{most_actors}
use Rattle.qc_fabric.proofs.KeptParts.{no_room_at, unarmed_at, all_of, rooms_of, right_of, unarmed_of}
use Rattle.qc_list.proofs.Places.{length-slice_set}

module _ {L : ℕ → List Deed → Turn → Type 0} {F : ℕ → List Record → Type 0} {D : Declaration} {S : Script} {z : TableId}
    {w : Script} {lg : Logged} {mb : Roomy} {op hd : List Bool} {ph rsv sp : ℕ} {tb : TableId}
    {ri : Option (Right Step)} where
  -- a room is set
  pub reserves_on : (s : IsFabricState L F D S z w lg mb op hd ph rsv sp tb ri) (r : Right Step) → ri ≡ Some r
      → (p q : Pass Step) (t : Right Step) (k : ℕ) → slice_get op (number p) ≡ Some true → room p ≡ 0
      → Met p r q t [] k → all t ≡ all r → (lg' : Logged) (mb' : Roomy) → lg'.history ≡ lg.history
      → mb'.inboxes ≡ mb.inboxes → (rsv + sp) + k ≤ lg'.room → (rsv + sp) + k ≤ mb'.room
      → length lg.history + ((rsv + sp) + k) ≤ most_history
      → IsFabricState L F D S z w lg' mb' op hd ph (rsv + k) sp tb (Some t)
  reserves_on s r e p q t k is none m a lg' mb' es ib lr mr bd =
      let before : rooms s.holder ≡ rooms r = rooms_of s r e in
      let total = sum-set (rooms r) (number p) (room p) k m.had_room in
      record {
        script_is = s.script_is;
        holder = t;
        right_is = refl;
        table_is = s.table_is;
        right_table_is = m.same_right ∙ right_of s r e;
        all_is = a ∙ (all_of s r e ∙ sym es);
        runs = subst (λ (l : List Entry). RunsWithFalls L F D S l op) (sym es) s.runs;
        kept =
            subst (λ (l : List Entry). IsKept S l mb'.inboxes) (sym es)
            (subst (λ (i : Inboxes). IsKept S lg.history i) (sym ib) s.kept);
        phase_is = s.phase_is ∙ ap (λ (l : List Entry). phase_of l) (sym es);
        opens = s.opens;
        helds = s.helds;
        passes =
            ap length m.rooms_are ∙ (length-slice_set (rooms r) (number p) k ∙ (ap length (sym before) ∙ s.passes));
        sum_is =
            omega (
              arith,
              total,
              none,
              ap (λ (l : List ℕ). sum l) m.rooms_are,
              ap (λ (l : List ℕ). sum l) before,
              s.sum_is,
            );
        log_room = omega (arith, lr);
        mail_room = omega (arith, mr);
        bound = omega (arith, ap (λ (l : List Entry). length l) es, bd);
        below = ap (λ (l : List Entry). full_of (before_last_event l)) es ∙ s.below;
        opened =
            λ i j f. dite (ℕ_discrete i (number p))
            (λ same. subst (λ (x : ℕ). slice_get op x ≡ Some true) (sym same) is)
            (λ ne. s.opened i j
            (ap (λ (l : List ℕ). slice_get l i) before
            ∙ (sym (get_else (rooms r) (number p) i k ne)
            ∙ (ap (λ (l : List ℕ). slice_get l i) (sym m.rooms_are) ∙ f))));
        unarmed = unarmed_at t (a ∙ (all_of s r e ∙ sym es)) (look_unarmed p q r t k m a (unarmed_of s r e));
        sound = s.sound;
        few = s.few;
        down = s.down;
      }

  -- a room is given up, and the holding
  pub leaves_on : (s : IsFabricState L F D S z w lg mb op hd ph rsv sp tb ri) (r : Right Step) → ri ≡ Some r
      → (p q : Pass Step) (t : Right Step) (b : ℕ) → Met p r q t [] 0 → all t ≡ all r
      → IsFabricState L F D S z w lg mb op (slice_set hd b false) ph (rsv - room p) sp tb (Some t)
  leaves_on s r e p q t b m a =
      let before : rooms s.holder ≡ rooms r = rooms_of s r e in
      let total = sum-set (rooms r) (number p) (room p) 0 m.had_room in
      record {
        script_is = s.script_is;
        holder = t;
        right_is = refl;
        table_is = s.table_is;
        right_table_is = m.same_right ∙ right_of s r e;
        all_is = a ∙ all_of s r e;
        runs = s.runs;
        kept = s.kept;
        phase_is = s.phase_is;
        opens = s.opens;
        helds = length-slice_set hd b false ∙ s.helds;
        passes =
            ap length m.rooms_are ∙ (length-slice_set (rooms r) (number p) 0 ∙ (ap length (sym before) ∙ s.passes));
        sum_is =
            omega (arith, total, ap (λ (l : List ℕ). sum l) m.rooms_are, ap (λ (l : List ℕ). sum l) before, s.sum_is);
        log_room = omega (arith, s.log_room);
        mail_room = omega (arith, s.mail_room);
        bound = omega (arith, s.bound);
        below = s.below;
        opened =
            λ i j f. dite (ℕ_discrete i (number p))
            (λ same. absurd (no_room_at (rooms r) (rooms t) (number p) i j m.made m.rooms_are same f))
            (λ ne. s.opened i j
            (ap (λ (l : List ℕ). slice_get l i) before
            ∙ (sym (get_else (rooms r) (number p) i 0 ne)
            ∙ (ap (λ (l : List ℕ). slice_get l i) (sym m.rooms_are) ∙ f))));
        unarmed = unarmed_at t (a ∙ all_of s r e) (look_unarmed p q r t 0 m a (unarmed_of s r e));
        sound = s.sound;
        few = s.few;
        down = s.down;
      }

  pub room_kept : (s : IsFabricState L F D S z w lg mb op hd ph rsv sp tb ri) (r : Right Step) → ri ≡ Some r
      → (p : Pass Step) → slice_get (rooms r) (number p) ≡ Some (room p) → room p ≤ rsv
  room_kept s r e p there =
      let total = sum-set (rooms r) (number p) (room p) 0 there in
      omega (arith, total, ap (λ (l : List ℕ). sum l) (rooms_of s r e), s.sum_is)

-- an empty history

sum-none : (n : ℕ) → sum (replicate n 0) ≡ 0
sum-none zero = refl
sum-none (suc n) = sum_cons 0 (replicate n 0) ∙ (let r = sum-none n in omega (arith, r))

none_there : (n a k : ℕ) → slice_get (replicate n 0) a ≡ Some (suc k) → ⊥
none_there zero a k e = absurd (let no : ⊥ = cc in no)
none_there (suc n) zero k e = let bad : 0 ≡ suc k = cc in absurd (omega (arith, bad))
none_there (suc n) (suc a) k e = none_there n a k e

none_behind : (end a : ℕ) → ArmsNone a (drop end [])
none_behind zero a = tt
none_behind (suc end) a = tt

pub starts : (L : ℕ → List Deed → Turn → Type 0) (F : ℕ → List Record → Type 0) (D : Declaration) (S : Script)
    (z : TableId) (w : Script) (lg : Logged) (mb : Roomy) (op hd : List Bool) (tb : TableId) (r : Right Step)
    → w ≡ S → lg.history ≡ [] → mb.inboxes ≡ empty_inboxes S → op ≡ replicate (actors D) false
    → hd ≡ replicate (actors D) false → tb ≡ z → IsFirst z (controller D + 1) r → IsScriptFor D S
    → controller D < most_actors → TellsWhereDown L
    → IsFabricState L F D S z w lg mb op hd 0 0 0 tb (Some r)
starts L F D S z w lg mb op hd tb r ws none is oc hc te i so few down = record {
  script_is = ws;
  holder = r;
  right_is = refl;
  table_is = te;
  right_table_is = i.table_is;
  all_is = i.all_none ∙ sym none;
  runs =
      subst (λ (l : List Entry). RunsWithFalls L F D S l op) (sym none)
      (subst (λ (o : List Bool). RunsWithFalls L F D S [] o) (sym oc) begins);
  kept =
      subst (λ (l : List Entry). IsKept S l mb.inboxes) (sym none)
      (subst (λ (b : Inboxes). IsKept S [] b) (sym is) (new_trays_are_kept S));
  phase_is = sym (ap (λ (l : List Entry). phase_of l) none);
  opens = ap length oc ∙ length-replicate (actors D) false;
  helds = ap length hc ∙ length-replicate (actors D) false;
  passes = ap length i.rooms_are ∙ length-replicate (controller D + 1) 0;
  sum_is = ap (λ (l : List ℕ). sum l) i.rooms_are ∙ sum-none (controller D + 1);
  log_room = omega arith;
  mail_room = omega arith;
  bound = omega (arith, ap (λ (l : List Entry). length l) none);
  below = ap (λ (l : List Entry). full_of (before_last_event l)) none;
  opened =
      λ a k g. absurd (none_there (controller D + 1) a k (ap (λ (l : List ℕ). slice_get l a) (sym i.rooms_are) ∙ g));
  unarmed = subst (λ (l : List Entry). ArmsNoneBehind (ends r) l) (sym none) (λ a end there. none_behind end a);
  sound = so;
  few = few;
  down = down;
}
