use Rattle.std.proofs.Common.{rules, ◌<◌, ap, arith}
use Rattle.qc_list.proofs.Search.{first_found}
use Rattle.qc_table.specs.declared.kind.Kind.{Kind}
use Rattle.qc_cert.proofs.rules.Search.of_invs.Goals as goal

pub returns-then-is_some : goal.returns-then-is_some
returns-then-is_some c =
    let within : c.loop-inv.inv < c.args.self.now.kind.now.table.invs =
    omega (arith, ap (λ (k : Kind). k.table.invs) c.plain.ensures) in
    first_found _ _ _ _ within c.loop-inv.invariant c.of_inv-fault.ensures (search rules)
