-- Whether the numbers of a line are in range: ordinals and numbers of disk calls are 1 to 99,999, an epoch to move to
-- is 2 to the number of epochs, and a cut and a heal are of two actors.
use Rattle.std.specs.Prelude.{ℕ, ◌<◌, Bool, true, ◌==◌, not, length, Option, Some, None}
use Rattle.qc_decl.specs.Vocabulary.{is_between}
use Rattle.qc_decl.specs.declared.declaration.Declaration.{Declaration}
use Rattle.qc_msg.specs.declared.step.Control.{Control}
use Rattle.qc_msg.specs.declared.step.Control.TheVariants as controls
use Rattle.qc_script.specs.declared.item.Item.{Item}
use Rattle.qc_script.specs.declared.item.Item.TheVariants as items

-- the greatest ordinal of a message, and the greatest number of a disk call: the greatest number of five digits
abbrev pub most_number : ℕ
most_number = 99999

abbrev pub is_counted : ℕ → Bool
is_counted number = is_between 1 most_number number

-- an ordinal; none stands for all
abbrev pub is_ordinal : Option ℕ → Bool
is_ordinal None = true
is_ordinal (Some number) = is_counted number

abbrev pub is_control_in_range : Control → Bool
is_control_in_range (controls.Phase number) = true
is_control_in_range (controls.Cut a b) = not (a == b)
is_control_in_range (controls.Heal a b) = not (a == b)
is_control_in_range (controls.Armed actor kind at) = is_counted at
is_control_in_range (controls.Crash actor) = true
is_control_in_range (controls.Restart actor) = true

abbrev pub is_in_range : Declaration → Item → Bool
is_in_range decl items.Phase = true
is_in_range decl (items.Link link) = is_ordinal link.ordinal
is_in_range decl (items.Control control) = is_control_in_range control
is_in_range decl (items.Command line) = true
is_in_range decl (items.Epoch actor number) = is_between 2 (length decl.plans) number

-- an epoch's number fits a byte, as it does where it is in range, since a declaration has few epochs
abbrev pub FitsByte : Item → Type 0
FitsByte items.Phase = Unit {0}
FitsByte (items.Link link) = Unit {0}
FitsByte (items.Control control) = Unit {0}
FitsByte (items.Command line) = Unit {0}
FitsByte (items.Epoch actor number) = number < 256
