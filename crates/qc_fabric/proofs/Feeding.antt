-- A pass looks, adds steps of its actor's, and looks again: what is kept, and what it tells.
use Rattle.std.proofs.Common.{◌≡◌, ℕ, suc, ◌+◌, ◌≤◌, Bool, true, List, [], ◌++◌, length, refl, ap, sym, ◌∙◌, subst}
use Rattle.std.proofs.Common.{arith, length-append, Option, Some, None, sum}
use Rattle.std.specs.Prelude.{slice_get, slice_set}
use Rattle.std.proofs.lemmas.List.{append-nil}
use Rattle.atomic_table.specs.Seated.{TableId}
use Rattle.qc_decl.specs.Vocabulary.{actors}
use Rattle.qc_decl.specs.declared.declaration.Declaration.{Declaration}
use Rattle.qc_mailbox.specs.Vocabulary.{IsKept, Roomy}
use Rattle.qc_msg.specs.declared.record.Record.{Record}
use Rattle.qc_msg.specs.declared.step.Step.{Step}
use Rattle.qc_msg.specs.declared.turn.Turn.{Turn}
use Rattle.qc_msg.specs.Vocabulary.{Deed, Entry, by, deeds}
use Rattle.qc_pass.specs.declared.token.Pass.{Pass}
use Rattle.qc_pass.specs.declared.token.Right.{Right}
use Rattle.qc_pass.specs.Vocabulary.{Met, all, ends, mine, number, room, rooms, seen}
use Rattle.qc_script.specs.Vocabulary.{RunsWithFalls, phase_of}
use Rattle.qc_script.specs.declared.script.Script.{Script}
use Rattle.qc_fabric.specs.Vocabulary.{ArmsNone, ArmsNoneBehind, Fed, HasGrown, IsFabricState, IsSame, Logged, Sees}
use Rattle.qc_fabric.specs.Vocabulary.{before_last_event, full_of}
use Rattle.qc_fabric.proofs.Fed.{rooms_kept}
use Rattle.qc_fabric.proofs.Gains.{Gain, end_else, end_here, gain, saw, unarmed_by}
use Rattle.qc_fabric.proofs.KeptParts.{all_of, right_of, rooms_of, unarmed_of}
use Rattle.qc_list.proofs.Places.{length-slice_set}
use Rattle.qc_msg.proofs.DeedsGrow.{length-by}

module _ {L : ℕ → List Deed → Turn → Type 0} {F : ℕ → List Record → Type 0} {D : Declaration} {S : Script} {z : TableId}
    {w : Script} {lg : Logged} {mb : Roomy} {op hd : List Bool} {ph rsv sp : ℕ} {tb : TableId}
    {ri : Option (Right Step)} where
  module _ (s : IsFabricState L F D S z w lg mb op hd ph rsv sp tb ri) (r : Right Step) (e : ri ≡ Some r)
      (p p1 p2 q : Pass Step) (r1 r2 t : Right Step) (xs : List Step) (kept : ℕ)
      (m1 : Met p r p1 r1 [] (room p)) (a1 : all r1 ≡ all r) (f : Fed p1 r1 p2 r2 xs) (m2 : Met p2 r2 q t [] kept)
      (a2 : all t ≡ all r2) where
    pub see : Sees p p1
    see = saw p p1 r r1 (room p) m1 a1 (unarmed_of s r e)

    pub gained : Gain p r
    gained = gain p p1 r r1 [] (room p) m1 (unarmed_of s r e)

    -- what stood there before
    pub before_is : lg.history ≡ seen p ++ gained.others
    before_is = sym (all_of s r e) ∙ sym gained.whole

    pub seen_then : seen p1 ≡ lg.history
    seen_then = m1.seen_is ∙ (a1 ∙ all_of s r e)

    number_2 : number p2 ≡ number p
    number_2 = f.same_number ∙ m1.same_number

    pub fed_same : IsSame p q
    fed_same = record {
      table_is = m2.same_table ∙ (f.same_table ∙ m1.same_table);
      number_is = m2.same_number
          ∙ number_2;
    }

    pub deeds_then : deeds (number p) [] lg.history ≡ deeds (number p) [] (seen p)
    deeds_then = ap (λ (l : List Entry). deeds (number p) [] l) (sym seen_then) ∙ see.does

    pub mine_now : mine q ≡ mine p ++ xs
    mine_now = m2.mine_is ∙ (append-nil (mine p2) ∙ (f.mine_is ∙ ap (λ (l : List Step). l ++ xs) see.mine_is))

    pub rooms_after : rooms t ≡ slice_set (rooms r) (number p) kept
    rooms_after = m2.rooms_are ∙ (ap (λ (x : ℕ). slice_set (rooms r2) x kept) number_2
        ∙ ap (λ (l : List ℕ). slice_set l (number p) kept) (f.rooms_are ∙ rooms_kept p p1 r r1 [] m1))

    pub all_after : all t ≡ lg.history ++ by (number p) xs
    all_after = a2 ∙ (f.all_is ∙ (ap (λ (x : ℕ). all r1 ++ by x xs) m1.same_number
        ∙ ap (λ (l : List Entry). l ++ by (number p) xs) (a1 ∙ all_of s r e)))

    pub seen_now : seen q ≡ lg.history ++ by (number p) xs
    seen_now = m2.seen_is ∙ all_after

    -- where the other passes' views end stays
    others_end : (b : ℕ) → (b ≡ number p → ⊥) → slice_get (ends t) b ≡ slice_get (ends r) b
    others_end b other =
        end_else p2 q r2 t [] kept m2 b (λ is. other (is ∙ number_2))
        ∙ (f.others_end b (λ is. other (is ∙ m1.same_number)) ∙ end_else p p1 r r1 [] (room p) m1 b other)

    unarmed_after : ((b : ℕ) → ArmsNone b (by (number p) xs)) → ArmsNoneBehind (ends t) (all t)
    unarmed_after calm =
        unarmed_by (number p) (ends r) (ends t) (all r) (all t) (by (number p) xs)
        (all_after ∙ ap (λ (l : List Entry). l ++ by (number p) xs) (sym (all_of s r e)))
        (λ b end is at. end_here p2 q r2 t [] kept m2 b end (is ∙ sym number_2) at) others_end calm (unarmed_of s r e)

    pub feeds_on : (lg' : Logged) (mb' : Roomy) (op' hd' : List Bool) (rsv' sp' : ℕ)
        → HasGrown lg lg' (by (number p) xs) → ((b : ℕ) → ArmsNone b (by (number p) xs))
        → RunsWithFalls L F D S (lg.history ++ by (number p) xs) op'
        → IsKept S (lg.history ++ by (number p) xs) mb'.inboxes
        → phase_of (lg.history ++ by (number p) xs) ≡ phase_of lg.history
        → length op' ≡ actors D → length hd' ≡ actors D → sum (rooms t) ≡ rsv' → (rsv' + sp') + length xs ≤ rsv + sp
        → rsv' + sp' ≤ mb'.room
        → full_of (before_last_event (lg.history ++ by (number p) xs)) ≡ None
        → ((b k : ℕ) → slice_get (rooms t) b ≡ Some (suc k) → slice_get op' b ≡ Some true)
        → IsFabricState L F D S z w lg' mb' op' hd' ph rsv' sp' tb (Some t)
    feeds_on lg' mb' op' hd' rsv' sp' g calm run keeps phs len_op len_hd sums enough mr below opened =
        let long : length (by (number p) xs) ≡ length xs = length-by (number p) xs in
        record {
          script_is = s.script_is;
          holder = t;
          right_is = refl;
          table_is = s.table_is;
          right_table_is = m2.same_right ∙ (f.same_right ∙ (m1.same_right ∙ right_of s r e));
          all_is = all_after ∙ sym g.history;
          runs = subst (λ (l : List Entry). RunsWithFalls L F D S l op') (sym g.history) run;
          kept = subst (λ (l : List Entry). IsKept S l mb'.inboxes) (sym g.history) keeps;
          phase_is = s.phase_is ∙ (sym phs ∙ ap (λ (l : List Entry). phase_of l) (sym g.history));
          opens = len_op;
          helds = len_hd;
          passes = ap length rooms_after ∙ (length-slice_set (rooms r) (number p) kept
              ∙ (ap length (sym (rooms_of s r e)) ∙ s.passes));
          sum_is = sums;
          log_room = omega (arith, enough, s.log_room, g.room, long);
          mail_room = mr;
          bound = omega (
            arith,
            enough,
            s.bound,
            ap (λ (l : List Entry). length l) g.history,
            length-append lg.history (by (number p) xs),
            long,
          );
          below = ap (λ (l : List Entry). full_of (before_last_event l)) g.history ∙ below;
          opened = opened;
          unarmed = subst (λ (l : List Entry). ArmsNoneBehind (ends t) l) (all_after ∙ sym g.history)
              (unarmed_after calm);
          sound = s.sound;
          few = s.few;
          down = s.down;
        }
