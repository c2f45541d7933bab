-- What words may ask: names that are values, and numbers within the limits.
use Rattle.std.specs.Prelude.{◌≡◌, ℕ, ◌≤◌, true, Option, Some, None}
use Rattle.qc_words.specs.Forms.{Text, is_value}
use Rattle.qc_words.specs.Limits.{greatest_seed, most_transactions, most_workers}
use Rattle.qc_words.specs.Words.{AskedOf, Check, Run, Load}

abbrev pub AreFew : ℕ → Type 0
AreFew workers = (1 ≤ workers) × (workers ≤ most_workers)

-- a name isn't empty and doesn't begin with `-`
abbrev pub IsName : Text → Type 0
IsName name = is_value name ≡ true

abbrev pub IsNameIfAny : Option Text → Type 0
IsNameIfAny None = Unit {0}
IsNameIfAny (Some name) = IsName name

pub record IsRun (decl script : Text) (workers : ℕ) (dir : Option Text) : Type 0 where
  pub decl_is_name : IsName decl
  pub script_is_name : IsName script
  pub are_few : AreFew workers
  pub dir_is_name : IsNameIfAny dir

pub record IsLoad (count seed workers : ℕ) : Type 0 where
  pub least : 1 ≤ count
  pub most : count ≤ most_transactions
  pub within : seed ≤ greatest_seed
  pub are_few : AreFew workers

abbrev pub IsAskable : AskedOf → Type 0
IsAskable (Check decl) = IsName decl
IsAskable (Run decl script workers dir) = IsRun decl script workers dir
IsAskable (Load count seed workers) = IsLoad count seed workers
