-- What one actor does through its falls and rises: it takes inputs and posts the turns that they call for, it falls,
-- and it rises and posts its rising turn.
use Rattle.std.specs.Prelude.{◌≡◌, ◌≤◌, ℕ, ◌+◌, Bool, true, false, List, [], ◌∷◌, ◌++◌, None, fold, length}
use Rattle.std.specs.List.{AllByRecursion as Every}
use Rattle.qc_decl.specs.declared.declaration.Declaration.{Declaration}
use Rattle.qc_msg.specs.declared.record.Record.{Record}
use Rattle.qc_msg.specs.declared.step.Fall.{Fall}
use Rattle.qc_msg.specs.declared.step.Fall.TheVariants.{Script}
use Rattle.qc_msg.specs.declared.step.Input.{Input}
use Rattle.qc_msg.specs.declared.step.Input.TheVariants as inputs
use Rattle.qc_msg.specs.declared.turn.Turn.{Turn}
use Rattle.qc_msg.specs.Vocabulary.{Deed, Falls, IsByDisk, Rises, Sends, Takes, Tells, Writes, command_in, deeds_as}
use Rattle.qc_msg.specs.Vocabulary.{sends_as}
use Rattle.qc_core.specs.Acts.{MayTake}
use Rattle.qc_core.specs.Conduct.{IsLawfulWithFalls}

-- whether an actor is up: it is at first, and from each rise to the next fall

abbrev pub up_at : Bool → Deed → Bool
up_at up (Takes given) = up
up_at up (Writes written) = up
up_at up (Sends number to message) = up
up_at up (Tells reply) = up
up_at up (Falls cause pending) = false
up_at up (Rises records) = true

abbrev pub is_up : List Deed → Bool
is_up ds = fold up_at true ds

-- an actor that is down takes commands alone
abbrev pub MayReach : Bool → Input → Type 0
MayReach up (inputs.Called command) = Unit {0}
MayReach up (inputs.Got envelope) = up ≡ true
MayReach up (inputs.Lost number) = up ≡ true

-- The deeds of an actor through falls and rises, whether it has an open input, and a number above those of its
-- messages. In a turn whose record isn't written it falls (`deeds_as`); by a line of the script only where no input is
-- open. A rise may fail before anything is read: the journal isn't opened, and that is one more fall. Which records a
-- rise gives isn't said here: `Journals` says what disks are trusted with.
pub data Lives (decl : Declaration) (a : ℕ) : List Deed → Bool → ℕ → Type 0 where
  starts : Lives decl a [] false 0
  takes : (ds : List Deed) (given : Input) (n : ℕ)
      → Lives decl a ds false n
      → MayTake ds given
      → MayReach (is_up ds) given
      → Lives decl a (ds ++ Takes given ∷ []) true n
  posts : (ds : List Deed) (turn : Turn) (n first : ℕ)
      → Lives decl a ds true n
      → n ≤ first
      → IsLawfulWithFalls decl a ds turn
      → Lives decl a (ds ++ deeds_as turn.append first turn) false (first + length (sends_as turn.append turn))
  crashes : (ds : List Deed) (n : ℕ)
      → Lives decl a ds false n
      → is_up ds ≡ true
      → Lives decl a (ds ++ Falls Script None ∷ []) false n
  rises : (ds : List Deed) (records : List Record) (turn : Turn) (n first : ℕ)
      → Lives decl a ds false n
      → is_up ds ≡ false
      → n ≤ first
      → IsLawfulWithFalls decl a (ds ++ Rises records ∷ []) turn
      → Lives decl a ((ds ++ Rises records ∷ []) ++ deeds_as turn.append first turn) false
      (first + length (sends_as turn.append turn))
  unopened : (ds : List Deed) (cause : Fall) (n : ℕ)
      → Lives decl a ds false n
      → is_up ds ≡ false
      → IsByDisk cause
      → Lives decl a (ds ++ Falls cause None ∷ []) false n

-- deeds among which is neither a fall nor a rise

abbrev pub IsSteady : Deed → Type 0
IsSteady (Takes given) = Unit {0}
IsSteady (Writes written) = Unit {0}
IsSteady (Sends number to message) = Unit {0}
IsSteady (Tells reply) = Unit {0}
IsSteady (Falls cause pending) = ⊥
IsSteady (Rises records) = ⊥

abbrev pub AreSteady : List Deed → Type 0
AreSteady ds = Every IsSteady ds

-- deeds among which no command comes

abbrev pub IsUncommanded : Deed → Type 0
IsUncommanded (Takes given) = command_in given ≡ None
IsUncommanded (Writes written) = Unit {0}
IsUncommanded (Sends number to message) = Unit {0}
IsUncommanded (Tells reply) = Unit {0}
IsUncommanded (Falls cause pending) = Unit {0}
IsUncommanded (Rises records) = Unit {0}

abbrev pub AreUncommanded : List Deed → Type 0
AreUncommanded ds = Every IsUncommanded ds
