-- What contracts name of the word, a pass and the right, and what happens where a pass and the right meet.
use Rattle.std.specs.Prelude.{ℕ, ◌≡◌, ◌<◌, List, ◌++◌, length, slice_get, slice_set, Some}
use mathlib.Core.List.{IsPrefix}
use Rattle.atomic_table.specs.Seated.{TableId}
use Rattle.qc_list.specs.declared.marked.Marked.{Marked}
use Rattle.qc_pass.specs.declared.token.Passes.{Passes}
use Rattle.qc_pass.specs.declared.token.Pass.{Pass}
use Rattle.qc_pass.specs.declared.token.Right.{Right}
use Rattle.qc_pass.specs.Views.{own}

module _ {E : Type 0} where
  -- which word it is of

  abbrev pub table_of : Passes E → TableId
  table_of p = p.table.shared.table_id

  abbrev pub pass_table : Pass E → TableId
  pass_table p = p.seat.table_id

  abbrev pub right_table : Right E → TableId
  right_table r = r.seat.table_id

  -- a pass: its number, what it has seen, its own entries, its room

  abbrev pub number : Pass E → ℕ
  number p = p.seat.me.0.number

  abbrev pub seen : Pass E → List (Marked E)
  seen p = p.seat.me.0.seen

  abbrev pub mine : Pass E → List E
  mine p = p.seat.me.0.mine

  abbrev pub room : Pass E → ℕ
  room p = p.seat.me.0.room

  -- the right: the history, each pass's room, and how much each pass has seen

  abbrev pub all : Right E → List (Marked E)
  all r = r.seat.me.0.all

  abbrev pub rooms : Right E → List ℕ
  rooms r = r.seat.me.0.rooms

  abbrev pub ends : Right E → List ℕ
  ends r = r.seat.me.0.ends

  -- The pass p and the right r met, and are q and t afterwards. The pass has seen the history, to which it added these
  -- entries, and has this room
  pub record Met (p : Pass E) (r : Right E) (q : Pass E) (t : Right E) (added : List E) (kept : ℕ) : Type 0 where
    pub same_table : pass_table q ≡ pass_table p
    pub same_right : right_table t ≡ right_table r
    pub same_number : number q ≡ number p
    -- before: the pass was of the right's history
    pub made : number p < length (rooms r)
    pub part : own (number p) (all r) ≡ mine p
    pub begins : IsPrefix (seen p) (all r)
    pub had_room : slice_get (rooms r) (number p) ≡ Some (room p)
    pub had_end : slice_get (ends r) (number p) ≡ Some (length (seen p))
    -- after
    pub mine_is : mine q ≡ mine p ++ added
    pub seen_is : seen q ≡ all t
    pub room_is : room q ≡ kept
    pub rooms_are : rooms t ≡ slice_set (rooms r) (number p) kept
    pub ends_are : ends t ≡ slice_set (ends r) (number p) (length (all t))
