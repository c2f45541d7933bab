use Rattle.std.proofs.Common.{◌≡◌, ℕ, ◌-◌, ◌≤◌, ◌++◌, max, length, replicate, vec_len, vec_capacity}
use Rattle.qc_outside.proofs.tear.fill_up.Given as goal

pub record Padding (items : Type 0) (old now most before cap : ℕ) : Type 0 where
  pub items_are : items
  pub longer : old ≤ now
  pub bounded : now ≤ most
  pub capacity : before ≤ cap

abbrev pub invariant-gap : goal.invariant-gap
invariant-gap l = Padding (l.to.items ≡ l.fn.to.items ++ replicate (length l.to.items - length l.fn.to.items) l.byte)
    (length l.fn.to.items) (length l.to.items) (max (length l.fn.to.items) l.at) (vec_capacity l.fn.to)
    (vec_capacity l.to)

abbrev pub decreases-gap : goal.decreases-gap
decreases-gap l = l.at - vec_len l.to
