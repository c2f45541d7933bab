-- What the pass rule says of any two seats.
use Rattle.std.proofs.Common.{◌≡◌, ℕ, ◌⊎◌, ap, sym, ◌∙◌}
use mathlib.Core.List.{IsPrefix}
use Rattle.atomic_table.specs.Table.{State}
use Rattle.qc_pass.specs.declared.view.View.{View}
use Rattle.qc_pass.specs.Vocabulary.{IsOneHistory, IsPassAt, IsPassOf, IsRightAt, IsRightTo, Knows, joined, own}
use Rattle.qc_pass.proofs.Places.{prefixes}
use Rattle.qc_pass.proofs.Owns.{own_begins}

module _ {E : Type 0} where
  pub some_right : (s : State (Unit {0}) (View E)) → IsOneHistory s → (k : ℕ) × (v : View E) × IsRightAt s k v
  some_right s h = (h.holder, h.view, (h.there, h.holds))

  pub one_right : (s : State (Unit {0}) (View E)) (k l : ℕ) (v w : View E) → IsOneHistory s → IsRightAt s k v
      → IsRightAt s l w → k ≡ l
  one_right s k l v w h a b = (h.right k v a.0 a.1).own_seat ∙ sym (h.right l w b.0 b.1).own_seat

  pub numbers_differ : (s : State (Unit {0}) (View E)) (k l : ℕ) (v w : View E) → IsOneHistory s → IsPassAt s k v
      → IsPassAt s l w → v.number ≡ w.number → k ≡ l
  numbers_differ s k l v w h a b same = sym (h.pass k v a.0 a.1).own_seat
      ∙ (ap h.seats same ∙ (h.pass l w b.0 b.1).own_seat)

  pub passes_are_of_the_history : (s : State (Unit {0}) (View E)) (k l : ℕ) (v w : View E) → IsOneHistory s
      → IsPassAt s k v → IsRightAt s l w → Knows (joined v w)
  passes_are_of_the_history s k l v w h a b =
      let r : IsRightTo h.history h.rooms h.ends h.holder l w = h.right l w b.0 b.1 in
      let p : IsPassOf h.history h.rooms h.ends h.seats k v = h.pass k v a.0 a.1 in
      record {
        made = rw r.rooms_is p.made;
        part = rw r.all_is p.part;
        begins = rw r.all_is p.begins;
        had_room = rw r.rooms_is p.had_room;
        had_end = rw r.ends_is p.had_end;
      }

  pub one_saw_more : (s : State (Unit {0}) (View E)) (k l : ℕ) (v w : View E) → IsOneHistory s → IsPassAt s k v
      → IsPassAt s l w → IsPrefix v.seen w.seen ⊎ IsPrefix w.seen v.seen
  one_saw_more s k l v w h a b = prefixes v.seen w.seen h.history (h.pass k v a.0 a.1).begins
      (h.pass l w b.0 b.1).begins

  pub saw_what_was_done : (s : State (Unit {0}) (View E)) (k l : ℕ) (v w : View E) → IsOneHistory s → IsPassAt s k v
      → IsPassAt s l w → IsPrefix (own v.number w.seen) v.mine
  saw_what_was_done s k l v w h a b = rw (sym (h.pass k v a.0 a.1).part)
      (own_begins v.number w.seen h.history (h.pass l w b.0 b.1).begins)
