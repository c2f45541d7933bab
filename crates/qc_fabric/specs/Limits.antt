-- The limits of a run, quantity by quantity.
use Rattle.std.specs.Prelude.{◌≡◌, ℕ, ◌<◌, ◌≤◌, List, length}
use Rattle.qc_decl.specs.Vocabulary.{most_carried_lines, most_committed_operations, most_steps}
use Rattle.qc_msg.specs.Vocabulary.{Entry, carried_of, operations_of}
use Rattle.qc_msg.specs.declared.step.Quantity.{Quantity}
use Rattle.qc_msg.specs.declared.step.Quantity.TheVariants.{Steps, Operations, Carried}
use Rattle.qc_fabric.specs.Logs.{counted}

abbrev pub limit_of : Quantity → ℕ
limit_of Steps = most_steps
limit_of Operations = most_committed_operations
limit_of Carried = most_carried_lines

-- the number that is told of a quantity: itself, and at most what 32 bits hold where it isn't the steps
abbrev pub number_of : Quantity → List Entry → ℕ
number_of Steps h = length h
number_of Operations h = counted (operations_of h)
number_of Carried h = counted (carried_of h)

-- the quantities that are tested before this one are below their limits
abbrev pub IsFirst : Quantity → List Entry → Type 0
IsFirst Steps h = Unit {0}
IsFirst Operations h = length h < most_steps
IsFirst Carried h = (length h < most_steps) × (operations_of h < most_committed_operations)

pub record IsBelow (h : List Entry) : Type 0 where
  pub steps : length h < most_steps
  pub operations : operations_of h < most_committed_operations
  pub carried : carried_of h < most_carried_lines

-- a quantity reached its limit, the first of those that did, and this is its number
pub record HasReached (what : Quantity) (number : ℕ) (h : List Entry) : Type 0 where
  pub limit : limit_of what ≤ number
  pub number_is : number ≡ number_of what h
  pub first : IsFirst what h
