-- What a seat knows, how each kind of step changes that, and what a step tells.
use Rattle.std.specs.Prelude.{ℕ, ◌≡◌, ◌==◌, ◌<◌, true, false, List, [], ◌∷◌, ◌++◌, map, filter, length, slice_get}
use Rattle.std.specs.Prelude.{slice_set, Option, Some}
use mathlib.Core.List.{IsPrefix}
use Rattle.atomic_table.specs.Table.{Me, Step}
use Rattle.qc_list.specs.declared.marked.Marked.{Marked}
use Rattle.qc_pass.specs.declared.view.View.{View}

module _ {E : Type 0} where
  abbrev pub marked : ℕ → E → Marked E
  marked actor entry = record { actor = actor; step = entry }

  -- the entries of one actor, oldest first
  abbrev pub own : ℕ → List (Marked E) → List E
  own a h = map (λ e. e.step) (filter (λ e. e.actor == a) h)

  -- a pass; the right; and neither, any more

  abbrev pub pass_view : ℕ → List (Marked E) → List E → ℕ → View E
  pass_view number seen mine room = record {
    is_pass = true;
    number = number;
    seen = seen;
    mine = mine;
    room = room;
    has_right = false;
    all = [];
    rooms = [];
    ends = [];
  }

  abbrev pub right_view : List (Marked E) → List ℕ → List ℕ → View E
  right_view all rooms ends = record {
    is_pass = false;
    number = 0;
    seen = [];
    mine = [];
    room = 0;
    has_right = true;
    all = all;
    rooms = rooms;
    ends = ends;
  }

  abbrev pub spent : View E
  spent = record {
    is_pass = false;
    number = 0;
    seen = [];
    mine = [];
    room = 0;
    has_right = false;
    all = [];
    rooms = [];
    ends = [];
  }

  -- the right makes a pass, with the next number: it has seen nothing, and has no room

  abbrev pub with_pass : View E → View E
  with_pass v = right_view v.all (v.rooms ++ 0 ∷ []) (v.ends ++ 0 ∷ [])

  abbrev pub next_pass : View E → View E
  next_pass v = pass_view (length v.rooms) [] [] 0

  -- the pass v takes over the right w
  abbrev pub joined : View E → View E → View E
  joined v w = record {
    is_pass = true;
    number = v.number;
    seen = v.seen;
    mine = v.mine;
    room = v.room;
    has_right = true;
    all = w.all;
    rooms = w.rooms;
    ends = w.ends;
  }

  -- a pass's seat that has the right
  abbrev pub IsJoined : Me (Unit {0}) (View E) → Type 0
  IsJoined me = (me.0.is_pass ≡ true) × (me.0.has_right ≡ true) × (me.1 ≡ [])

  -- it adds an entry to the history
  abbrev pub with_entry : View E → E → View E
  with_entry v entry = record {
    is_pass = true;
    number = v.number;
    seen = v.seen;
    mine = v.mine ++ entry ∷ [];
    room = v.room;
    has_right = true;
    all = v.all ++ marked v.number entry ∷ [];
    rooms = v.rooms;
    ends = v.ends;
  }

  -- the pass has seen the history, has this room, and gives the right off, which knows of both

  abbrev pub pass_apart : ℕ → View E → View E
  pass_apart room v = pass_view v.number v.all v.mine room

  abbrev pub right_apart : ℕ → View E → View E
  right_apart room v =
      right_view v.all (slice_set v.rooms v.number room) (slice_set v.ends v.number (length v.all))

  -- what a step on the word tells a pass that has the right: it is a pass of the right's history
  pub record Knows (v : View E) : Type 0 where
    -- its number is that of one of the passes made
    pub made : v.number < length v.rooms
    -- its own entries are just those that the history has of its number
    pub part : own v.number v.all ≡ v.mine
    -- the history begins with what it has seen
    pub begins : IsPrefix v.seen v.all
    -- the right knows its room, and how much it has seen
    pub had_room : slice_get v.rooms v.number ≡ Some v.room
    pub had_end : slice_get v.ends v.number ≡ Some (length v.seen)

  -- a load leaves the seat as it was
  abbrev pub Loads : Step (Unit {0}) → Me (Unit {0}) (View E) → ℕ → Me (Unit {0}) (View E) → Type 0
  Loads s before n after = Knows before.0 × (after ≡ before)

  -- an addition of the entry that was picked
  abbrev pub Adds : Option E → Step (Unit {0}) → Me (Unit {0}) (View E) → ℕ → Me (Unit {0}) (View E) → Type 0
  Adds picked s before n after =
      Knows before.0 × ((entry : E) → picked ≡ Some entry → after ≡ (with_entry before.0 entry, before.1))
