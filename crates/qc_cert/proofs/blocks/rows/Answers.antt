use Rattle.std.proofs.Common.{◌/◌, ◌%◌, length, sym, subst, rules}
use Rattle.qc_cert.proofs.Tables.{rows_more}
use Rattle.qc_cert.specs.Vocabulary.{AreRows, IsRow}
use Rattle.qc_cert.proofs.blocks.rows.Goals as goal

pub rows-preserved : goal.rows-preserved
rows-preserved c =
    let sets = c.args.sets.now in
    let row : IsRow sets (length c.rows.rows.items / 16) (length c.rows.rows.items % 16) c.row_of.result =
    subst (λ n. IsRow sets (n / 16) (n % 16) c.row_of.result) (sym c.rows.invariant.all) c.row_of.ensures in
    record {
      all = search rules;
      rows = subst (AreRows sets) (sym c.in_ok-push.ensures.items)
          (rows_more sets c.rows.rows.items c.row_of.result c.rows.invariant.rows row);
    }
