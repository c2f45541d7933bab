use Rattle.std.proofs.Common.{◌≡◌, sym, subst}
use Rattle.std.proofs.lemmas.Bool.{eqb-true}
use Rattle.qc_cert.proofs.Allowed.{equal_everywhere}
use Rattle.qc_cert.specs.Vocabulary.{AreAllowed, unequal_fault}
use Rattle.qc_list.proofs.Search.{below_none}
use Rattle.qc_cert.proofs.faultless_walk.are_responses_equal.Goals as goal

pub returns : goal.returns
returns c = λ equal.
    let same : c.responses.result ≡ c.responses-2.result =
    eqb-true c.responses.result c.responses-2.result equal in
    let log : AreAllowed c.args.kind.now c.args.triple.now.log c.args.inv c.responses.result =
    subst (AreAllowed c.args.kind.now c.args.triple.now.log c.args.inv) (sym same) c.responses-2.ensures in
    below_none c.args.kind.now.table.resps (unequal_fault c.args.kind.now 0 c.args.triple.now c.args.inv)
    (λ n less. equal_everywhere c.args.kind.now 0 c.args.triple.now c.args.inv c.responses.result
    c.responses.ensures log n)
