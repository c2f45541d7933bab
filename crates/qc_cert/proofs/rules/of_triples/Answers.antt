use Rattle.std.proofs.Common.{◌≡◌, ◌<◌, true, false, length, [], refl, sym, ap, ◌∙◌, arith}
use Rattle.qc_cert.proofs.MarkedTriples.{length_firsts}
use Rattle.qc_cert.proofs.Repeats.{fault_of_firsts, fault_more, fault_past, found_here, found_later}
use Rattle.qc_cert.proofs.rules.of_triples.Goals as goal
use Rattle.qc_cert.proofs.rules.of_triples.Goals.{then-firsts-place+else-is_some, else-firsts-place}
use Rattle.qc_cert.specs.Vocabulary.{triple}

pub bounds-firsts-place : goal.bounds-firsts-place
bounds-firsts-place c =
    let marks : length c.firsts-firsts.result.now ≡ length c.args.triples.now = ap length c.firsts-firsts.ensures
    ∙ length_firsts [] c.args.triples.now in
    let list : length c.list-triple-items.result.now ≡ length c.args.triples.now =
    ap length c.list-triple-items.ensures in
    omega (arith, c.loop-place-test.true)

pub returns-then-is_some : goal.returns-then-is_some
returns-then-is_some c =
    let marks : length c.firsts-firsts.result.now ≡ length c.args.triples.now = ap length c.firsts-firsts.ensures
    ∙ length_firsts [] c.args.triples.now in
    let list : length c.list-triple-items.result.now ≡ length c.args.triples.now =
    ap length c.list-triple-items.ensures in
    let within : c.loop-place.place < length c.firsts-firsts.result.now = omega (arith, c.loop-place-test.true) in
    found_here c.of_triple-fault.result _ _ (sym c.is_some.ensures ∙ c.if-is_some.true) c.of_triple-fault.ensures
    ∙ sym (fault_more c.args.kind.now c.args.triples.now c.list-triple-items.result.now c.firsts-firsts.result.now
    c.loop-place.place true false _ (triple 0 0 0) within c.loop-place-test.true (sym c.if-firsts-place.true) refl)
    ∙ c.loop-place.invariant
    ∙ fault_of_firsts c.args.kind.now c.args.triples.now c.firsts-firsts.result.now c.list-triple-items.result.now
    c.firsts-firsts.ensures c.list-triple-items.ensures

pub loop-place-preserved : goal.loop-place-preserved
loop-place-preserved c =
    let marks : length c.firsts-firsts.result.now ≡ length c.args.triples.now = ap length c.firsts-firsts.ensures
    ∙ length_firsts [] c.args.triples.now in
    let list : length c.list-triple-items.result.now ≡ length c.args.triples.now =
    ap length c.list-triple-items.ensures in
    let within : c.loop-place.place < length c.firsts-firsts.result.now = omega (arith, c.loop-place-test.true) in
    elim c.if-firsts-place.branch [
      | then-firsts-place+else-is_some w ↦
          found_later w.of_triple-fault.result _ _
          (sym w.is_some.ensures ∙ w.if-is_some.false) w.of_triple-fault.ensures
          ∙ sym (fault_more c.args.kind.now c.args.triples.now c.list-triple-items.result.now c.firsts-firsts.result.now
          c.loop-place.place true false _ (triple 0 0 0) within c.loop-place-test.true
          (sym w.if-firsts-place.true) refl)
          ∙ c.loop-place.invariant
      | else-firsts-place w ↦
          sym (fault_more c.args.kind.now c.args.triples.now c.list-triple-items.result.now c.firsts-firsts.result.now
          c.loop-place.place false false _ (triple 0 0 0) within c.loop-place-test.true
          (sym w.if-firsts-place.false) refl)
          ∙ c.loop-place.invariant
    ]

pub returns : goal.returns
returns c =
    sym (fault_past c.args.kind.now c.args.triples.now c.list-triple-items.result.now c.firsts-firsts.result.now
    c.loop-place.place (omega (arith, c.loop-place-test.false)))
    ∙ c.loop-place.invariant
    ∙ fault_of_firsts c.args.kind.now c.args.triples.now c.firsts-firsts.result.now c.list-triple-items.result.now
    c.firsts-firsts.ensures c.list-triple-items.ensures
