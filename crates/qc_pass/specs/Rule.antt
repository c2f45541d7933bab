-- The pass rule: all seats of the word are of one history. It says nothing of a seat that is spent.
use Rattle.std.specs.Prelude.{ℕ, ◌≡◌, ◌%◌, ◌^◌, ◌<◌, ◌≤◌, true, List, [], ◌∷◌, length, slice_get, Some}
use mathlib.Core.List.{IsPrefix}
use Rattle.atomic_table.specs.Table.{State}
use Rattle.qc_list.specs.declared.marked.Marked.{Marked}
use Rattle.qc_pass.specs.declared.view.View.{View}
use Rattle.qc_pass.specs.Views.{own}

module _ {E : Type 0} where
  -- The pass v at the seat k is of the history, where seats says which seat each number has, and rooms and ends have
  -- each pass's room and how much it has seen
  pub record IsPassOf (history : List (Marked E)) (rooms ends : List ℕ) (seats : ℕ → ℕ) (k : ℕ) (v : View E)
      : Type 0 where
    pub own_seat : seats v.number ≡ k
    pub made : v.number < length rooms
    pub part : own v.number history ≡ v.mine
    pub begins : IsPrefix v.seen history
    pub had_room : slice_get rooms v.number ≡ Some v.room
    pub had_end : slice_get ends v.number ≡ Some (length v.seen)

  -- the right at the seat k knows the history, each room and each end, and the seat is the one that holds the right
  pub record IsRightTo (history : List (Marked E)) (rooms ends : List ℕ) (holder k : ℕ) (v : View E) : Type 0 where
    pub own_seat : k ≡ holder
    pub all_is : v.all ≡ history
    pub rooms_is : v.rooms ≡ rooms
    pub ends_is : v.ends ≡ ends

  pub record IsOneHistory (s : State (Unit {0}) (View E)) : Type 0 where
    pub history : List (Marked E)
    pub rooms : List ℕ
    pub ends : List ℕ
    pub seats : ℕ → ℕ
    -- the seat that has the right
    pub holder : ℕ
    pub view : View E
    pub there : slice_get s.views holder ≡ Some view
    pub holds : view.has_right ≡ true
    -- the word counts the entries, modulo its size
    pub word : s.words ≡ (length history % 2 ^ 64) ∷ []
    -- a number that no pass has yet has no entry
    pub as_many : length ends ≡ length rooms
    pub unmade : (n : ℕ) → length rooms ≤ n → own n history ≡ []
    -- whoever has the right knows the history, and is that seat; each pass is of the history
    pub right : (k : ℕ) (v : View E) → slice_get s.views k ≡ Some v → v.has_right ≡ true
        → IsRightTo history rooms ends holder k v
    pub pass : (k : ℕ) (v : View E) → slice_get s.views k ≡ Some v → v.is_pass ≡ true
        → IsPassOf history rooms ends seats k v
