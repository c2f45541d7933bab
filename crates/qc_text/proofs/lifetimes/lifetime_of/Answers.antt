use Rattle.std.proofs.Common.{◌≡◌, ℕ, ◌+◌, ◌-◌, List, length, map, take, drop, ap, sym, subst, ◌∙◌, arith, length-drop}
use Rattle.std.proofs.lemmas.List.{take_all}
use Rattle.qc_promise.proofs.Lifetimes.{AreNoRises, first_life}
use Rattle.qc_text.specs.Vocabulary.{deed_of}
use Rattle.qc_text.specs.declared.deeds.Deed.{Deed}
use Rattle.qc_text.proofs.Risen.{rose_at}
use Rattle.qc_text.proofs.lifetimes.lifetime_of.Goals as goal

pub returns-in-Some : goal.returns-in-Some
returns-in-Some c =
    let ds = c.args.deeds.now in
    let i = c.deeds.place - 1 in
    let next : c.deeds.place ≡ i + 1 = omega (arith, c.deeds-test.true) in
    let whole : take (length ds - (i + 1)) (drop (i + 1) ds) ≡ drop (i + 1) ds =
    take_all (length ds - (i + 1)) (drop (i + 1) ds) (omega (arith, length-drop (i + 1) ds)) in
    ap (λ (v : List Deed). record { kept = c.in-Some.kept.now; since = map deed_of v }) whole
    ∙ sym (rose_at ds i c.index-deeds-place.result c.index-deeds-place.result c.in-Some.kept.now
    (omega (arith, c.deeds-test.true, c.deeds.auto.place)) c.index-deeds-place.is c.in-Some.ensures
    (subst (λ (k : ℕ). AreNoRises (map deed_of (drop k ds))) next c.deeds.invariant))

pub returns : goal.returns
returns c =
    let first : c.deeds.place ≡ 0 = omega (arith, c.deeds-test.false) in
    sym (first_life (map deed_of c.args.deeds.now)
    (subst (λ (k : ℕ). AreNoRises (map deed_of (drop k c.args.deeds.now))) first c.deeds.invariant))
