use Rattle.std.proofs.Common.{rules, ◌<◌, sym, ap, arith, subst}
use Rattle.qc_cert.proofs.Allowed.{equal_everywhere, unequal_here}
use Rattle.qc_cert.specs.Vocabulary.{AreAllowed}
use Rattle.qc_list.proofs.Search.{first_found, below_none}
use Rattle.qc_table.specs.declared.kind.Kind.{Kind}
use Rattle.qc_cert.proofs.rules.of_responses.Goals as goal

pub returns-then-view-log : goal.returns-then-view-log
returns-then-view-log c =
    let log : AreAllowed c.args.kind.now c.args.triple.now.log c.args.inv c.responses-view.result =
    subst (AreAllowed c.args.kind.now c.args.triple.now.log c.args.inv)
    (sym c.if-view-log.true) c.responses-log.ensures in
    sym (below_none c.args.kind.now.table.resps _
    (λ n less. equal_everywhere c.args.kind.now c.args.place c.args.triple.now c.args.inv c.responses-view.result
    c.responses-view.ensures log n))

pub returns-then-has : goal.returns-then-has
returns-then-has c =
    let within : c.loop-resp.resp < c.args.kind.now.table.resps =
    omega (arith, ap (λ (k : Kind). k.table.resps) c.plain-2.ensures) in
    first_found _ _ _ _ within c.loop-resp.invariant
    (unequal_here c.args.kind.now c.args.place c.args.triple.now c.args.inv c.loop-resp.resp c.responses-view.result
    c.responses-log.result c.has.result c.has-in-loop-resp.result c.responses-view.ensures c.responses-log.ensures
    c.has.ensures c.has-in-loop-resp.ensures c.if-has.true)
    (search rules)
