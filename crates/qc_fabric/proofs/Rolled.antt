-- The roll goes on as a pass is called.
use Rattle.std.proofs.Common.{◌≡◌, ℕ, List, [], Option, Some, refl, sym, ap, ◌∙◌, subst}
use Rattle.atomic_table.specs.Seated.{TableId}
use Rattle.qc_msg.specs.Vocabulary.{Entry}
use Rattle.qc_msg.specs.declared.step.Step.{Step}
use Rattle.qc_pass.specs.declared.token.Pass.{Pass}
use Rattle.qc_pass.specs.declared.token.Right.{Right}
use Rattle.qc_pass.specs.Vocabulary.{Met, all, ends, right_table}
use Rattle.qc_script.specs.declared.script.Script.{Script}
use Rattle.qc_fabric.specs.Vocabulary.{ArmsNoneBehind, IsRoll}
use Rattle.qc_fabric.proofs.Gains.{look_unarmed}

module _ {script : Script} {z : TableId} {own : Script} {entries : List Entry} {table : TableId}
    {right : Option (Right Step)} (s : IsRoll script z own entries table right) (r : Right Step) (is : right ≡ Some r)
  where
    holder_is : s.holder ≡ r
    holder_is = let f = s.right_is in cc

    pub rolled_all : all r ≡ entries
    rolled_all = ap (λ (x : Right Step). all x) (sym holder_is) ∙ s.all_is

    pub rolled_table : right_table r ≡ z
    rolled_table = ap (λ (x : Right Step). right_table x) (sym holder_is) ∙ s.right_table_is

    pub rolled_unarmed : ArmsNoneBehind (ends r) (all r)
    rolled_unarmed =
        subst (λ (l : List Entry). ArmsNoneBehind (ends r) l) (sym rolled_all)
        (subst (λ (x : Right Step). ArmsNoneBehind (ends x) entries) holder_is s.unarmed)

    pub calls_on : (p q : Pass Step) (t : Right Step) (kept : ℕ) → Met p r q t [] kept → all t ≡ all r
        → IsRoll script z own entries table (Some t)
    calls_on p q t kept met same = record {
      script_is = s.script_is;
      holder = t;
      right_is = refl;
      table_is = s.table_is;
      right_table_is = met.same_right ∙ rolled_table;
      all_is = same ∙ rolled_all;
      unarmed =
          subst (λ (l : List Entry). ArmsNoneBehind (ends t) l) (same ∙ rolled_all)
          (look_unarmed p q r t kept met same rolled_unarmed);
    }
