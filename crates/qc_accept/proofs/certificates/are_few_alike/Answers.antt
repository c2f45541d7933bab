use Rattle.qc_cert.specs.declared.triple.Triple.{Triple}
use Rattle.qc_accept.proofs.Alike.{counted_nothing, few_alike, many_alike}
use Rattle.qc_accept.proofs.certificates.are_few_alike.Goals as goal

pub loop-triple-init : goal.loop-triple-init
loop-triple-init c = counted_nothing

pub returns-then-counts-place-eq-MOST_ALIKE_TRIPLES : goal.returns-then-counts-place-eq-MOST_ALIKE_TRIPLES
returns-then-counts-place-eq-MOST_ALIKE_TRIPLES c =
    let d : Triple = record { view = 0; log = 0; out = 0 } in
    many_alike c.loop-triple.counts c.args.triples.now c.loop-triple.triple-index d c.loop-triple-test.true c.requires
    c.loop-triple.invariant c.if-counts-place-eq-MOST_ALIKE_TRIPLES.true

pub returns : goal.returns
returns c = few_alike c.loop-triple.counts c.args.triples.now c.loop-triple.triple-index c.loop-triple-test.false
    c.requires c.loop-triple.invariant
