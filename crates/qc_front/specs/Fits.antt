-- What holds of a front end in every run, and its calls rely on.
use Rattle.std.specs.Prelude.{◌-◌, ◌^◌, ◌<◌, ◌≤◌, Option, Some, None, length}
use Rattle.qc_decl.specs.Vocabulary.{most_sites, most_transaction_operations}
use Rattle.qc_front.specs.declared.doing.Doing.{Doing}
use Rattle.qc_front.specs.declared.doing.Doing.TheVariants.{Idle, Reading, Appending}
use Rattle.qc_front.specs.declared.front.Front.{Front}
use Rattle.qc_front.specs.declared.transaction.Transaction.{Transaction}

-- a transaction has at most 16 operations, and fewer while a `do` runs; with no transaction none runs
abbrev pub HasRoom : Option Transaction → Doing → Type 0
HasRoom None Idle = Unit {0}
HasRoom None (Reading object inv calls round) = ⊥
HasRoom None (Appending object inv event calls round) = ⊥
HasRoom (Some t) Idle = length t.begun.ops ≤ most_transaction_operations
HasRoom (Some t) (Reading object inv calls round) = length t.begun.ops < most_transaction_operations
HasRoom (Some t) (Appending object inv event calls round) = length t.begun.ops < most_transaction_operations

-- a round asks at most 16 sites
abbrev pub AsksFew : Doing → Type 0
AsksFew Idle = Unit {0}
AsksFew (Reading object inv calls round) = length round.asked ≤ most_sites
AsksFew (Appending object inv event calls round) = length round.asked ≤ most_sites

-- the count is far from the end of its type, there is room for the running operation, and few sites are asked
pub record FrontFits (front : Front) : Type 0 where
  pub count : front.count < 2 ^ 32 - 1
  pub room : HasRoom front.transaction front.doing
  pub few : AsksFew front.doing
