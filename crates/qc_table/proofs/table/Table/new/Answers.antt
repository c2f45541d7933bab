use Rattle.std.proofs.Common.{sym, ◌∙◌}
use Rattle.qc_table.proofs.Unknown.{small_rows}
use Rattle.qc_table.proofs.table.Table.new.Goals as goal

pub first_repeated-requires-clause-small : goal.first_repeated-requires-clause-small
first_repeated-requires-clause-small c =
    small_rows c.args.states c.args.invs c.args.resps c.args.rows.now c.requires.states c.requires.invs c.requires.resps
    (sym c.first_unknown.ensures ∙ c.in_default.is)

pub new-requires-clause-small : goal.new-requires-clause-small
new-requires-clause-small c = small_rows c.args.states c.args.invs c.args.resps c.args.rows.now c.requires.states
    c.requires.invs c.requires.resps (sym c.first_unknown.ensures ∙ c.in_default.is)
