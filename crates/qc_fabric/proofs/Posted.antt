-- A post keeps what the state under the lock keeps, and tells that the history grew by its turn, by what became of its
-- record.
use Rattle.std.proofs.Common.{◌≡◌, ℕ, suc, ◌+◌, ◌-◌, ◌<◌, ◌≤◌, Bool, true, false, List, [], ◌++◌, length, ap, sym, ◌∙◌}
use Rattle.std.proofs.Common.{subst, arith, Option, Some, sum}
use Rattle.std.specs.Prelude.{slice_get, slice_set}
use Rattle.std.specs.List.{AllByRecursion as Every}
use mathlib.Core.Logic.{dite}
use native.Mathlib.Decide.{ℕ_discrete}
use Rattle.atomic_table.specs.Seated.{TableId}
use Rattle.qc_decl.specs.Vocabulary.{actors}
use Rattle.qc_decl.specs.declared.declaration.Declaration.{Declaration}
use Rattle.qc_mailbox.specs.Vocabulary.{Inboxes, IsKept, MayPost, after_post_as, Roomy}
use Rattle.qc_mailbox.proofs.FallLaws.{lawful_posts_are_of_who_is_up}
use Rattle.qc_mailbox.proofs.FallTrays.{posts_keep_trays}
use Rattle.qc_script.specs.Vocabulary.{RunsWithFalls, is_up, posts}
use Rattle.qc_msg.specs.declared.record.Record.{Record}
use Rattle.qc_msg.specs.declared.step.Step.{Step}
use Rattle.qc_msg.specs.declared.turn.Appended.{Appended}
use Rattle.qc_msg.specs.declared.turn.Appended.TheVariants.{Done, Failed, Stopped}
use Rattle.qc_msg.specs.declared.turn.Posting.{Posting}
use Rattle.qc_msg.specs.declared.turn.Turn.{Turn}
use Rattle.qc_msg.specs.Vocabulary.{Deed, Entry, by, deeds, deeds_as, mail, posted_as, sends_as}
use Rattle.qc_msg.proofs.Growth.{deeds-posted_as}
use Rattle.qc_pass.specs.declared.token.Pass.{Pass}
use Rattle.qc_pass.specs.declared.token.Right.{Right}
use Rattle.qc_pass.specs.Vocabulary.{Met, all, number, room, rooms, seen}
use Rattle.qc_script.specs.declared.script.Script.{Script}
use Rattle.qc_fabric.specs.Vocabulary.{Fed, GoesToActors, HasGrown, IsFabricState, Logged, Posts, full_of, most_history}
use Rattle.qc_fabric.specs.Vocabulary.{size_of}
use Rattle.qc_fabric.proofs.Events.{before_more}
use Rattle.qc_fabric.proofs.Fed.{get_else, length-posted, sends_few, sum-set}
use Rattle.qc_fabric.proofs.Feeding.{before_is, deeds_then, fed_same, feeds_on, gained, mine_now, rooms_after, seen_now}
use Rattle.qc_fabric.proofs.KeptParts.{no_room_at, rooms_of}
use Rattle.qc_fabric.proofs.Phased.{phase_plain}
use Rattle.qc_fabric.proofs.Plain.{IsPlain, plain_arms_none, plain_begins_none, posted_plain}
use Rattle.qc_link.specs.Vocabulary.{most_actors}
use Rattle.qc_list.proofs.Places.{length-slice_set}

-- who gets the messages of a post
pub receivers_as : (end : Appended) (turn : Turn) → GoesToActors turn
    → Every (λ (p : Posting). p.to < most_actors) (sends_as end turn)
receivers_as Done turn to = to.sends
receivers_as Failed turn to = to.failed_sends
receivers_as Stopped turn to = tt

module _ {L : ℕ → List Deed → Turn → Type 0} {F : ℕ → List Record → Type 0} {D : Declaration} {S : Script} {z : TableId}
    {w : Script} {lg : Logged} {mb : Roomy} {op hd : List Bool} {ph rsv sp : ℕ} {tb : TableId}
    {ri : Option (Right Step)} where
  module _ (s : IsFabricState L F D S z w lg mb op hd ph rsv sp tb ri) (r : Right Step) (e : ri ≡ Some r)
      (p p1 p2 q : Pass Step) (r1 r2 t : Right Step) (turn : Turn) (first k : ℕ)
      (m1 : Met p r p1 r1 [] (room p)) (a1 : all r1 ≡ all r) (f : Fed p1 r1 p2 r2 (posted_as turn.append first turn))
      (m2 : Met p2 r2 q t [] 0) (a2 : all t ≡ all r2)
      (first_is : first ≡ length (mail lg.history)) (has : room p ≡ suc k) (low : number p < actors D)
      (ok : L (number p) (deeds (number p) [] (seen p)) turn) (to : GoesToActors turn) where
    abbrev xs : List Step
    xs = posted_as turn.append first turn

    deeds_here : deeds (number p) [] lg.history ≡ deeds (number p) [] (seen p)
    deeds_here = deeds_then s r e p p1 p2 q r1 r2 t xs 0 m1 a1 f m2 a2

    law : L (number p) (deeds (number p) [] lg.history) turn
    law = subst (λ (d : List Deed). L (number p) d turn) (sym deeds_here) ok

    plain : Every IsPlain xs
    plain = posted_plain turn.append first turn (s.down.ends (number p) (deeds (number p) [] lg.history) turn law)

    room_there : slice_get (rooms r) (number p) ≡ Some (suc k)
    room_there = m1.had_room ∙ ap (λ (x : ℕ). Some x) has

    rooms_now : rooms t ≡ slice_set (rooms r) (number p) 0
    rooms_now = rooms_after s r e p p1 p2 q r1 r2 t xs 0 m1 a1 f m2 a2

    before : rooms s.holder ≡ rooms r
    before = rooms_of s r e

    is_open : slice_get op (number p) ≡ Some true
    is_open = s.opened (number p) k (ap (λ (l : List ℕ). slice_get l (number p)) before ∙ room_there)

    here : number p < most_actors
    here = omega (arith, low, s.few)

    run_after : RunsWithFalls L F D S (lg.history ++ by (number p) xs) (slice_set op (number p) false)
    run_after = subst (λ (x : ℕ). RunsWithFalls L F D S (lg.history ++ by (number p) (posted_as turn.append x turn))
        (slice_set op (number p) false)) (sym first_is)
        (posts (number p) turn op lg.history s.runs is_open law)

    may : MayPost (is_up mb.inboxes.up (number p)) turn.append turn.write
    may =
        lawful_posts_are_of_who_is_up L F D S lg.history op mb.inboxes (omega (arith, s.few)) s.down s.runs s.kept
        (number p) turn here law

    kept_after : IsKept S (lg.history ++ by (number p) xs) (after_post_as turn.append mb.inboxes (number p) turn)
    kept_after = subst (λ (x : ℕ). IsKept S (lg.history ++ by (number p) (posted_as turn.append x turn))
        (after_post_as turn.append mb.inboxes (number p) turn)) (sym first_is)
        (posts_keep_trays S lg.history mb.inboxes (number p) turn s.kept here (receivers_as turn.append turn to) may)

    pub posts_on : (lg' : Logged) (mb' : Roomy) (b : ℕ) → HasGrown lg lg' (by (number p) xs) → suc k ≡ size_of turn
        → mb'.room + length (sends_as turn.append turn) ≡ mb.room
        → mb'.inboxes ≡ after_post_as turn.append mb.inboxes (number p) turn
        → IsFabricState L F D S z w lg' mb' (slice_set op (number p) false) (slice_set hd b false) ph
        (rsv - suc k) sp tb (Some t)
    posts_on lg' mb' b g size mr is =
        let total = sum-set (rooms r) (number p) (suc k) 0 room_there in
        let enough : suc k ≤ rsv = omega (arith, total, ap (λ (l : List ℕ). sum l) before, s.sum_is) in
        let steps : length xs + 1 ≤ suc k = omega (arith, length-posted turn.append first turn, size) in
        feeds_on s r e p p1 p2 q r1 r2 t xs 0 m1 a1 f m2 a2 lg' mb' (slice_set op (number p) false)
        (slice_set hd b false) (rsv - suc k) sp g
        (λ c. plain_arms_none (number p) c xs plain) run_after
        (subst (λ (i : Inboxes). IsKept S (lg.history ++ by (number p) xs) i) (sym is) kept_after)
        (phase_plain lg.history (number p) xs plain) (length-slice_set op (number p) false ∙ s.opens)
        (length-slice_set hd b false ∙ s.helds)
        (omega (arith, total, ap (λ (l : List ℕ). sum l) rooms_now, ap (λ (l : List ℕ). sum l) before, s.sum_is))
        (omega (arith, enough, steps)) (omega (arith, enough, s.mail_room, mr, steps, sends_few turn.append first turn))
        (ap full_of (before_more lg.history (by (number p) xs) (plain_begins_none (number p) xs plain)) ∙ s.below)
        (λ i j there. dite (ℕ_discrete i (number p))
        (λ same. absurd (no_room_at (rooms r) (rooms t) (number p) i j m1.made rooms_now same there))
        (λ ne. get_else op (number p) i false ne
        ∙ s.opened i j (ap (λ (l : List ℕ). slice_get l i) before
        ∙ (sym (get_else (rooms r) (number p) i 0 ne)
        ∙ (ap (λ (l : List ℕ). slice_get l i) (sym rooms_now) ∙ there)))))

    pub posted_told : Posts L F D S p q turn first
    posted_told =
        let g = gained s r e p p1 p2 q r1 r2 t xs 0 m1 a1 f m2 a2 in
        let is : lg.history ≡ seen p ++ g.others = before_is s r e p p1 p2 q r1 r2 t xs 0 m1 a1 f m2 a2 in
        let now : seen q ≡ lg.history ++ by (number p) xs = seen_now s r e p p1 p2 q r1 r2 t xs 0 m1 a1 f m2 a2 in
        record {
          pass = fed_same s r e p p1 p2 q r1 r2 t xs 0 m1 a1 f m2 a2;
          others = g.others;
          not_own = g.not_own;
          few = subst (λ (l : List Entry). length l ≤ most_history) is (omega (arith, s.bound));
          first_is = first_is ∙ ap (λ (l : List Entry). length (mail l)) is;
          seen_is = now ∙ ap (λ (l : List Entry). l ++ by (number p) xs) is;
          run = (
            slice_set op (number p) false,
            subst
                (λ (l : List Entry). RunsWithFalls L F D S l (slice_set op (number p) false)) (sym now) run_after,
          );
          mine_is = mine_now s r e p p1 p2 q r1 r2 t xs 0 m1 a1 f m2 a2;
          does = ap (λ (l : List Entry). deeds (number p) [] l) now
              ∙ (deeds-posted_as turn.append (number p) first lg.history turn
              ∙ ap (λ (l : List Deed). l ++ deeds_as turn.append first turn) deeds_here);
          room_is = m2.room_is;
        }
