-- What is kept of a history to which nobody adds any more, as the passes are called one after another.
use Rattle.std.specs.Prelude.{◌≡◌, ℕ, List, [], Option, Some, None}
use Rattle.atomic_table.specs.Seated.{TableId}
use Rattle.qc_msg.specs.Vocabulary.{Entry}
use Rattle.qc_msg.specs.declared.step.Step.{Step}
use Rattle.qc_pass.specs.declared.token.Right.{Right}
use Rattle.qc_pass.specs.Vocabulary.{all, ends, right_table, rooms}
use Rattle.qc_script.specs.declared.script.Script.{Script}
use Rattle.qc_fabric.specs.Gains.{ArmsNoneBehind}

-- what callers see: the history, and the room of each pass, by number
pub record Called : Type 0 where
  pub history : List Entry
  pub rooms : List ℕ

abbrev pub rooms_of : Option (Right Step) → List ℕ
rooms_of None = []
rooms_of (Some right) = rooms right

pub record IsRoll (script : Script) (z : TableId) (own : Script) (entries : List Entry) (table : TableId)
    (right : Option (Right Step)) : Type 0 where
  pub script_is : own ≡ script
  pub holder : Right Step
  pub right_is : right ≡ Some holder
  pub table_is : table ≡ z
  pub right_table_is : right_table holder ≡ z
  pub all_is : all holder ≡ entries
  -- nothing stands behind what a pass has seen that arms a fault for its actor's disk
  pub unarmed : ArmsNoneBehind (ends holder) entries
