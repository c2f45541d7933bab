use Rattle.std.proofs.Common.{◌≡◌, ℕ, ◌+◌, ◌-◌, List, length, map, take, drop, ap, sym, subst, ◌∙◌, arith, length-drop}
use Rattle.std.proofs.lemmas.List.{take_all}
use Rattle.qc_text.specs.Vocabulary.{deed_of}
use Rattle.qc_text.specs.declared.deeds.Deed.{Deed as Found}
use Rattle.qc_text.proofs.Cuts.{AreNoCuts, found_parted, not_parted}
use Rattle.qc_text.proofs.holdings.holding_of.Goals as goal

pub returns-then-cuts : goal.returns-then-cuts
returns-then-cuts c =
    let ds = c.args.deeds.now in
    let i = c.deeds.place - 1 in
    let next : c.deeds.place ≡ i + 1 = omega (arith, c.deeds-test.true) in
    let whole : take (length ds - (i + 1)) (drop (i + 1) ds) ≡ drop (i + 1) ds =
    take_all (length ds - (i + 1)) (drop (i + 1) ds) (omega (arith, length-drop (i + 1) ds)) in
    ap (λ (v : List Found). record { before = map deed_of (take (i + 1) ds); since = map deed_of v }) whole
    ∙ sym (found_parted ds i c.index-deeds-place.result c.index-deeds-place.result
    (omega (arith, c.deeds-test.true, c.deeds.auto.place)) c.index-deeds-place.is
    (sym c.cuts.ensures ∙ c.if-cuts.true)
    (subst (λ (k : ℕ). AreNoCuts (map deed_of (drop k ds))) next c.deeds.invariant))

pub returns : goal.returns
returns c =
    let first : c.deeds.place ≡ 0 = omega (arith, c.deeds-test.false) in
    sym (not_parted (map deed_of c.args.deeds.now)
    (subst (λ (k : ℕ). AreNoCuts (map deed_of (drop k c.args.deeds.now))) first c.deeds.invariant))
