use Rattle.std.proofs.Common.{rules, ◌≡◌, ◌≤◌, length, sym, ◌∙◌, ap, subst}
use Rattle.qc_core.specs.Vocabulary.{actor_rises, moved}
use Rattle.qc_fit.specs.Vocabulary.{most_records}
use Rattle.qc_journal.specs.Vocabulary.{lists}
use Rattle.qc_process.specs.Vocabulary.{HasFewRecords, ReadsAs, ReadsFit, StoreView}
use Rattle.qc_process.specs.declared.reading.Reading.{Reading}
use Rattle.qc_process.specs.declared.reading.Reading.TheVariants.{Fit}
use Rattle.qc_process.proofs.Restarts.{few_bodies, life_few, life_may_wait, life_waits, risen_is_up}
use Rattle.qc_process.proofs.restart.find.Goals as goal

pub prepare-requires-after_bounds : goal.prepare-requires-after_bounds
prepare-requires-after_bounds g c κs outlives =
    let decl = c.args.decl.now in
    let fit : c.in_ok-records.field-0 ≡ Fit c.in-Fit.records = search rules in
    let reads : ReadsFit decl c.args.number (lists c.args.bodies.now) c.in-Fit.records.items =
    subst (λ (r : Reading). ReadsAs decl c.args.number c.args.bodies.now r) fit c.in_ok-records.ensures in
    life_may_wait c.args.store.now c.in_ok-actor-in-Fit.turn.write (length c.args.bodies.now)
    (life_waits decl c.args.number c.as_slice.result.now c.in_ok-actor-in-Fit.actor c.in_ok-actor-in-Fit.turn
    c.in_ok-actor-in-Fit.ensures)
    c.requires.up c.requires.records (few_bodies decl c.args.number c.args.bodies.now c.in-Fit.records.items reads)

pub returns-in_ok-prepare-in-Fit-clause-found : goal.returns-in_ok-prepare-in-Fit-clause-found
returns-in_ok-prepare-in-Fit-clause-found g c =
    let decl = c.args.decl.now in
    let fit : c.in_ok-records.field-0 ≡ Fit c.in-Fit.records = search rules in
    let reads : ReadsFit decl c.args.number (lists c.args.bodies.now) c.in-Fit.records.items =
    subst (λ (r : Reading). ReadsAs decl c.args.number c.args.bodies.now r) fit c.in_ok-records.ensures in
    let made : c.from_vec.result ≡ c.in-Fit.records.items = search rules in
    let rises : actor_rises decl c.args.number c.in-Fit.records.items
    ≡ moved c.in_ok-actor-in-Fit.actor c.in_ok-actor-in-Fit.turn =
    ap (actor_rises decl c.args.number) (sym c.as_slice.ensures.value) ∙ c.in_ok-actor-in-Fit.ensures in
    let low : length c.args.bodies.now ≤ most_records =
    few_bodies decl c.args.number c.args.bodies.now c.in-Fit.records.items reads in
    rw made (record {
      reads = reads;
      rises = rises;
      is_up = risen_is_up decl c.args.number c.in-Fit.records.items c.in_ok-actor-in-Fit.actor c.in_ok-actor-in-Fit.turn
          rises;
      write_is = life_waits decl c.args.number c.in-Fit.records.items c.in_ok-actor-in-Fit.actor
          c.in_ok-actor-in-Fit.turn rises;
      waits = ap (λ (s : StoreView). s.spelling) c.in_ok-prepare-in-Fit.ensures.ok;
      few =
          subst HasFewRecords (sym c.in_ok-prepare-in-Fit.ensures.ok)
          (life_few c.args.store.now (length c.args.bodies.now) c.requires.records low);
    })
