use Rattle.std.proofs.Common.{rules, ◌≡◌, suc, ◌+◌, ◌*◌, ◌<◌, ◌≤◌, Option, Some, None, ◌∷◌, ◌++◌, [], drop, false, true}
use Rattle.std.proofs.Common.{length, sym, ◌∙◌, ap, subst, arith}
use Rattle.qc_fit.specs.Vocabulary.{fits, most_records}
use Rattle.qc_journal.specs.Vocabulary.{lists}
use Rattle.qc_msg.specs.declared.record.Record.{Record}
use Rattle.qc_record.specs.Vocabulary.{is_legal, spelled}
use Rattle.qc_process.specs.Vocabulary.{ReadsOne, bodies_of}
use Rattle.qc_process.proofs.Fit.{all_more, first_here, fits_few, legal_more, length_more, offset_more, spells_more}
use Rattle.qc_process.proofs.Fit.{unfit_here, whole}
use Rattle.qc_process.proofs.reading.read_records.Goals as goal

pub returns-in_default : goal.returns-in_default
returns-in_default c =
    let decl = c.args.decl.now in
    let found = c.bodies.records.items in
    let none : c.in_ok-rec.field-0 ≡ None = search rules in
    let never : ReadsOne decl c.args.actor c.bodies.place c.body-item.result.items None =
    subst (λ (o : Option Record). ReadsOne decl c.args.actor c.bodies.place c.body-item.result.items o) none
    c.in_ok-rec.ensures in
    let here : (r : Record) → is_legal r ≡ true → c.body-item.result.items ≡ spelled r
    → fits decl c.args.actor (length found) r ≡ false =
    λ r is spells. ap (λ k. fits decl c.args.actor k r) (sym c.bodies.invariant.place_is) ∙ never r is spells in (
      unfit_here decl c.args.actor found c.args.bodies.now c.bodies.body-index c.body-item.result c.bodies-test.true
          c.body-item.is c.bodies.invariant.spells here,
      first_here decl c.args.actor found c.args.bodies.now c.bodies.body-index c.body-item.result c.bodies-test.true
          c.body-item.is c.bodies.invariant.spells
          c.bodies.offset c.bodies.invariant.are_legal c.bodies.invariant.are_fit c.bodies.invariant.offset_is here,
    )

pub bodies-preserved : goal.bodies-preserved
bodies-preserved c =
    let decl = c.args.decl.now in
    let a = c.args.actor in
    let found = c.bodies.records.items in
    let r = c.in-Some.rec in
    let body = c.body-item.result.items in
    let some : c.in_ok-rec.field-0 ≡ Some r = search rules in
    let read : ReadsOne decl a c.bodies.place body (Some r) =
    subst (λ (o : Option Record). ReadsOne decl a c.bodies.place body o) some c.in_ok-rec.ensures in
    let more_is : c.push.new.self.items ≡ found ++ r ∷ [] = search rules in
    let fit : fits decl a (length found) r ≡ true = ap (λ k. fits decl a k r) (sym c.bodies.invariant.place_is)
    ∙ read.2 in
    let low : c.bodies.place < most_records = fits_few decl a c.bodies.place r read.2 in
    let long : c.len.result ≡ length body = search rules in
    let next : c.bodies.body-index + 1 ≡ suc c.bodies.body-index = omega arith in
    let short : length body ≤ 65536 = search rules in
    let bound : c.bodies.offset ≤ 65541 * c.bodies.place = c.bodies.invariant.bounded in
    let grown : length c.push.new.self.items ≡ length found + 1 =
    length_more decl a found c.push.new.self.items r body more_is read.0 in
    record {
      are_legal = legal_more decl a found c.push.new.self.items r body more_is read.0 c.bodies.invariant.are_legal
          read.1;
      spells =
          subst (λ k. bodies_of c.push.new.self.items ++ lists (drop k c.args.bodies.now) ≡ lists c.args.bodies.now)
          (sym next)
          (spells_more decl a found c.push.new.self.items r body more_is read.0
          (lists (drop (suc c.bodies.body-index) c.args.bodies.now)) (lists c.args.bodies.now)
          (whole decl a found c.args.bodies.now c.bodies.body-index c.body-item.result c.bodies-test.true c.body-item.is
          c.bodies.invariant.spells));
      are_fit = all_more decl a found c.push.new.self.items r body more_is read.0 c.bodies.invariant.are_fit fit;
      place_is = omega (arith, grown, c.bodies.invariant.place_is);
      offset_is =
          ap (λ k. c.bodies.offset + (5 + k)) long
          ∙ offset_more decl a found c.push.new.self.items r body more_is read.0 c.bodies.offset
          c.bodies.invariant.offset_is;
      are_few = omega (arith, low);
      bounded = omega (arith, bound, long, short);
    }
