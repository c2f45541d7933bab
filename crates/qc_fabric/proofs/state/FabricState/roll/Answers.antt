use Rattle.std.proofs.Common.{◌∙◌, sym, subst, List}
use Rattle.qc_msg.specs.Vocabulary.{Entry}
use Rattle.qc_fabric.specs.Vocabulary.{ArmsNoneBehind}
use Rattle.qc_pass.specs.Vocabulary.{ends}
use Rattle.qc_fabric.proofs.state.FabricState.roll.Goals as goal

pub invariant_of-result : goal.invariant_of-result
invariant_of-result g c = record {
  script_is = c.self.invariant.script_is;
  holder = c.self.invariant.holder;
  right_is = c.self.invariant.right_is;
  table_is = c.self.invariant.table_is;
  right_table_is = c.self.invariant.right_table_is;
  all_is = c.self.invariant.all_is ∙ sym c.into_entries.ensures;
  unarmed =
      subst (λ (l : List Entry). ArmsNoneBehind (ends c.self.invariant.holder) l) (sym c.into_entries.ensures)
      c.self.invariant.unarmed;
}
