-- Passes and a right that are newly made.
use Rattle.std.specs.Prelude.{ℕ, ◌≡◌, List, [], length, replicate, slice_get, Some}
use Rattle.atomic_table.specs.Seated.{TableId}
use Rattle.qc_pass.specs.declared.token.Pass.{Pass}
use Rattle.qc_pass.specs.declared.token.Right.{Right}
use Rattle.qc_pass.specs.Tokens.{all, ends, mine, number, pass_table, right_table, room, rooms, seen}

module _ {E : Type 0} where
  -- the pass with the number n, which has seen nothing yet
  pub record IsNew (z : TableId) (n : ℕ) (p : Pass E) : Type 0 where
    pub table_is : pass_table p ≡ z
    pub number_is : number p ≡ n
    pub seen_none : seen p ≡ []
    pub mine_none : mine p ≡ []
    pub no_room : room p ≡ 0

  -- new passes with the numbers from 0 on
  abbrev pub AreNew : TableId → List (Pass E) → Type 0
  AreNew z ps = (n : ℕ) (p : Pass E) → slice_get ps n ≡ Some p → IsNew z n p

  -- the right to a history without entries, with n passes that have seen nothing
  pub record IsFirst (z : TableId) (n : ℕ) (r : Right E) : Type 0 where
    pub table_is : right_table r ≡ z
    pub all_none : all r ≡ []
    pub rooms_are : rooms r ≡ replicate n 0
    pub ends_are : ends r ≡ replicate n 0

  -- the right, with as many passes as it has made
  abbrev pub IsSetUp : TableId → Right E → List (Pass E) → Type 0
  IsSetUp z r ps = IsFirst z (length ps) r × AreNew z ps
