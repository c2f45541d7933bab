use Rattle.std.proofs.Common.{rules, ◌≡◌, ◌∙◌, Bool, true, false, ap, sym, subst, refl}
use Rattle.qc_core.specs.Vocabulary.{IsLawfulWithFalls, actor_takes, moved}
use Rattle.qc_core.specs.declared.actor.Actor.TheVariants.{Down}
use Rattle.qc_fabric.specs.Vocabulary.{Posts, Sees, Takes, Waits}
use Rattle.qc_msg.specs.declared.turn.Appended.TheVariants.{Done}
use Rattle.qc_pass.specs.declared.token.Pass.{Pass}
use Rattle.qc_pass.specs.Vocabulary.{number, seen}
use Rattle.qc_msg.specs.declared.step.Step.{Step}
use Rattle.qc_process.specs.Vocabulary.{ProcessView}
use Rattle.qc_node.specs.Vocabulary.{IsCell, IsIdle, IsServed, Known, fits_of}
use Rattle.qc_node.proofs.Kept.{cell_over_input, cell_over_others, idle, process_known}
use Rattle.qc_node.proofs.Posted.{IsSpelled, cell_posted, cell_unwritten, ends, few, few_then, is_spelled}
use Rattle.qc_node.proofs.Served.{input_fits, input_readable, lawful_now, may_write, numbers_left, served, to_actors}
use Rattle.qc_node.proofs.cell.Cell.try_turn.Goals as goal

pub invariant_of-self-in_default : goal.invariant_of-self-in_default
invariant_of-self-in_default g c =
    let waits : Waits (IsLawfulWithFalls g.N.RunName.declaration) (fits_of g.N.RunName.declaration)
    g.N.RunName.declaration g.N.RunName.script c.self.inside.pass c.take.new.pass = search rules in
    cell_over_others g.N.RunName.tells g.N.RunName.declaration c.self.inside.pass c.take.new.pass g.N.RunName.table
    c.self.inside.given_up c.self.inside.process c.self.invariant waits.saw waits.room_is

pub returns-in_default-clause-ok : goal.returns-in_default-clause-ok
returns-in_default-clause-ok g c =
    let waits : Waits (IsLawfulWithFalls g.N.RunName.declaration) (fits_of g.N.RunName.declaration)
    g.N.RunName.declaration g.N.RunName.script c.self.inside.pass c.take.new.pass = search rules in
    subst (λ (k : Known). IsIdle g.N.RunName.declaration g.N.RunName.script k
    (record {
      number = number c.take.new.pass;
      seen = seen c.take.new.pass;
      given_up = c.self.inside.given_up;
      process = c.self.inside.process;
    })) c.self.view_is
    (idle g.N.RunName.declaration g.N.RunName.script c.self.inside.pass c.take.new.pass c.self.inside.given_up
    c.self.inside.process waits)

pub invariant_of-self-then-self : goal.invariant_of-self-then-self
invariant_of-self-then-self g c =
    let took : Takes (IsLawfulWithFalls g.N.RunName.declaration) (fits_of g.N.RunName.declaration)
    g.N.RunName.declaration g.N.RunName.script c.self.inside.pass c.take.new.pass c.in-Some.field-0.given =
    search rules in
    subst (λ (b : Bool). IsCell g.N.RunName.tells g.N.RunName.table g.N.RunName.declaration b c.self.inside.process
    c.take.new.pass) (sym c.if-self.true)
    (cell_over_input g.N.RunName.tells g.N.RunName.declaration c.self.inside.pass c.take.new.pass g.N.RunName.table
    c.self.inside.given_up c.self.inside.process c.self.invariant g.N.RunName.script c.in-Some.field-0.given took
    c.self.inside.process refl)

pub take-requires-2-clause-fits : goal.take-requires-2-clause-fits
take-requires-2-clause-fits g c κs within =
    let took : Takes (IsLawfulWithFalls g.N.RunName.declaration) (fits_of g.N.RunName.declaration)
    g.N.RunName.declaration g.N.RunName.script c.self.inside.pass c.take.new.pass c.in-Some.field-0.given =
    search rules in
    let known = process_known g.N.RunName.tells g.N.RunName.declaration c.self.inside.pass c.self.inside.process
    c.self.inside.given_up c.if-self.false c.self.invariant.known in
    input_fits g.N.RunName.tells g.N.RunName.declaration g.N.RunName.script c.requires.runnable.accepted
    c.requires.runnable.declared c.self.inside.pass c.take.new.pass c.in-Some.field-0.given
    c.self.invariant.is_actor took c.self.inside.process known

pub take-requires-2-clause-readable : goal.take-requires-2-clause-readable
take-requires-2-clause-readable g c κs within =
    let took : Takes (IsLawfulWithFalls g.N.RunName.declaration) (fits_of g.N.RunName.declaration)
    g.N.RunName.declaration g.N.RunName.script c.self.inside.pass c.take.new.pass c.in-Some.field-0.given =
    search rules in
    let known = process_known g.N.RunName.tells g.N.RunName.declaration c.self.inside.pass c.self.inside.process
    c.self.inside.given_up c.if-self.false c.self.invariant.known in
    input_readable g.N.RunName.tells g.N.RunName.declaration g.N.RunName.script c.requires.runnable.accepted
    c.requires.runnable.declared c.self.inside.pass c.take.new.pass c.in-Some.field-0.given
    c.self.invariant.is_actor took c.self.inside.process known

pub invariant_of-self-in_err-turn : goal.invariant_of-self-in_err-turn
invariant_of-self-in_err-turn g c =
    let took : Takes (IsLawfulWithFalls g.N.RunName.declaration) (fits_of g.N.RunName.declaration)
    g.N.RunName.declaration g.N.RunName.script c.self.inside.pass c.take.new.pass c.in-Some.field-0.given =
    search rules in
    cell_over_input g.N.RunName.tells g.N.RunName.declaration c.self.inside.pass c.take.new.pass g.N.RunName.table
    c.self.inside.given_up c.self.inside.process c.self.invariant g.N.RunName.script c.in-Some.field-0.given took
    c.take-2.new.self c.take-2.ensures.same.1

pub prepare-requires-after_bounds : goal.prepare-requires-after_bounds
prepare-requires-after_bounds g c κs within =
    let took : Takes (IsLawfulWithFalls g.N.RunName.declaration) (fits_of g.N.RunName.declaration)
    g.N.RunName.declaration g.N.RunName.script c.self.inside.pass c.take.new.pass c.in-Some.field-0.given =
    search rules in
    let known = process_known g.N.RunName.tells g.N.RunName.declaration c.self.inside.pass c.self.inside.process
    c.self.inside.given_up c.if-self.false c.self.invariant.known in
    let acted : actor_takes g.N.RunName.declaration c.self.inside.process.actor c.in-Some.field-0.given
    ≡ moved c.take-2.new.self.actor c.in_ok-turn.turn =
    ap (λ d. actor_takes d c.self.inside.process.actor c.in-Some.field-0.given) (sym c.args.worker.now.declaration)
    ∙ c.in_ok-turn.ensures.ok in
    may_write g.N.RunName.tells g.N.RunName.declaration g.N.RunName.script c.requires.runnable.accepted
    c.requires.runnable.declared c.self.inside.pass c.take.new.pass c.in-Some.field-0.given
    c.self.invariant.is_actor took c.self.inside.process known c.take-2.new.self.actor c.in_ok-turn.turn acted
    c.take-2.new.self.store c.take-2.ensures.same.1 c.in_ok-turn.ensures.writes

pub invariant_of-self-in_err-prepare : goal.invariant_of-self-in_err-prepare
invariant_of-self-in_err-prepare g c =
    let took : Takes (IsLawfulWithFalls g.N.RunName.declaration) (fits_of g.N.RunName.declaration)
    g.N.RunName.declaration g.N.RunName.script c.self.inside.pass c.take.new.pass c.in-Some.field-0.given =
    search rules in
    let known = process_known g.N.RunName.tells g.N.RunName.declaration c.self.inside.pass c.self.inside.process
    c.self.inside.given_up c.if-self.false c.self.invariant.known in
    let acted : actor_takes g.N.RunName.declaration c.self.inside.process.actor c.in-Some.field-0.given
    ≡ moved c.take-2.new.self.actor c.in_ok-turn.turn =
    ap (λ d. actor_takes d c.self.inside.process.actor c.in-Some.field-0.given) (sym c.args.worker.now.declaration)
    ∙ c.in_ok-turn.ensures.ok in
    cell_unwritten g.N.RunName.tells g.N.RunName.table g.N.RunName.declaration g.N.RunName.script
    c.requires.runnable c.self.inside.pass c.take.new.pass c.in-Some.field-0.given c.self.inside.given_up
    c.self.inside.process c.self.invariant known took c.take-2.new.self c.in_ok-turn.turn acted c.take-2.ensures.same.0
    c.take-2.ensures.same.1 c.in_ok-turn.ensures.writes c.prepare.new.self
    (ap (λ (p : ProcessView). p.store.told) c.in_err-prepare.ensures.err)
    (ap (λ (p : ProcessView). p.store.fuse) c.in_err-prepare.ensures.err)
    (ap (λ (p : ProcessView). p.store.journal) c.in_err-prepare.ensures.err)

pub invariant_of-self-in_err-reserve : goal.invariant_of-self-in_err-reserve
invariant_of-self-in_err-reserve g c =
    let took : Takes (IsLawfulWithFalls g.N.RunName.declaration) (fits_of g.N.RunName.declaration)
    g.N.RunName.declaration g.N.RunName.script c.self.inside.pass c.take.new.pass c.in-Some.field-0.given =
    search rules in
    let known = process_known g.N.RunName.tells g.N.RunName.declaration c.self.inside.pass c.self.inside.process
    c.self.inside.given_up c.if-self.false c.self.invariant.known in
    let acted : actor_takes g.N.RunName.declaration c.self.inside.process.actor c.in-Some.field-0.given
    ≡ moved c.take-2.new.self.actor c.in_ok-turn.turn =
    ap (λ d. actor_takes d c.self.inside.process.actor c.in-Some.field-0.given) (sym c.args.worker.now.declaration)
    ∙ c.in_ok-turn.ensures.ok in
    let spelt : IsSpelled c.take-2.new.self c.prepare.new.self c.in_ok-turn.turn =
    is_spelled c.take-2.new.self c.prepare.new.self c.in_ok-turn.turn c.in_ok-prepare.ensures.ok in
    subst (λ (r : Pass Step). IsCell g.N.RunName.tells g.N.RunName.table g.N.RunName.declaration true c.prepare.new.self
    r) (sym c.in_err-reserve.ensures.err)
    (cell_unwritten g.N.RunName.tells g.N.RunName.table g.N.RunName.declaration g.N.RunName.script
    c.requires.runnable c.self.inside.pass c.take.new.pass c.in-Some.field-0.given c.self.inside.given_up
    c.self.inside.process c.self.invariant known took c.take-2.new.self c.in_ok-turn.turn acted c.take-2.ensures.same.0
    c.take-2.ensures.same.1 c.in_ok-turn.ensures.writes c.prepare.new.self spelt.told spelt.fuse spelt.journal)

pub append-turn-requires-clause-few : goal.append-turn-requires-clause-few
append-turn-requires-clause-few g c κs within =
    let took : Takes (IsLawfulWithFalls g.N.RunName.declaration) (fits_of g.N.RunName.declaration)
    g.N.RunName.declaration g.N.RunName.script c.self.inside.pass c.take.new.pass c.in-Some.field-0.given =
    search rules in
    let known = process_known g.N.RunName.tells g.N.RunName.declaration c.self.inside.pass c.self.inside.process
    c.self.inside.given_up c.if-self.false c.self.invariant.known in
    let acted : actor_takes g.N.RunName.declaration c.self.inside.process.actor c.in-Some.field-0.given
    ≡ moved c.take-2.new.self.actor c.in_ok-turn.turn =
    ap (λ d. actor_takes d c.self.inside.process.actor c.in-Some.field-0.given) (sym c.args.worker.now.declaration)
    ∙ c.in_ok-turn.ensures.ok in
    let spelt : IsSpelled c.take-2.new.self c.prepare.new.self c.in_ok-turn.turn =
    is_spelled c.take-2.new.self c.prepare.new.self c.in_ok-turn.turn c.in_ok-prepare.ensures.ok in
    few g.N.RunName.tells g.N.RunName.table g.N.RunName.declaration g.N.RunName.script c.requires.runnable
    c.self.inside.pass c.take.new.pass c.in-Some.field-0.given c.self.inside.given_up c.self.inside.process
    c.self.invariant known took c.take-2.new.self c.in_ok-turn.turn acted c.take-2.ensures.same.0
    c.take-2.ensures.same.1 c.in_ok-turn.ensures.writes c.prepare.new.self spelt

pub post-first-requires-clause-receivers : goal.post-first-requires-clause-receivers
post-first-requires-clause-receivers g c =
    let took : Takes (IsLawfulWithFalls g.N.RunName.declaration) (fits_of g.N.RunName.declaration)
    g.N.RunName.declaration g.N.RunName.script c.self.inside.pass c.take.new.pass c.in-Some.field-0.given =
    search rules in
    let known = process_known g.N.RunName.tells g.N.RunName.declaration c.self.inside.pass c.self.inside.process
    c.self.inside.given_up c.if-self.false c.self.invariant.known in
    let acted : actor_takes g.N.RunName.declaration c.self.inside.process.actor c.in-Some.field-0.given
    ≡ moved c.take-2.new.self.actor c.in_ok-turn.turn =
    ap (λ d. actor_takes d c.self.inside.process.actor c.in-Some.field-0.given) (sym c.args.worker.now.declaration)
    ∙ c.in_ok-turn.ensures.ok in
    to_actors g.N.RunName.tells g.N.RunName.declaration g.N.RunName.script c.requires.runnable.accepted
    c.requires.runnable.declared c.self.inside.pass c.take.new.pass c.in-Some.field-0.given
    c.self.invariant.is_actor took c.self.inside.process known c.take-2.new.self.actor c.in_ok-turn.turn acted
    c.append-turn.result

pub post-first-requires-clause-lawful : goal.post-first-requires-clause-lawful
post-first-requires-clause-lawful g c =
    let took : Takes (IsLawfulWithFalls g.N.RunName.declaration) (fits_of g.N.RunName.declaration)
    g.N.RunName.declaration g.N.RunName.script c.self.inside.pass c.take.new.pass c.in-Some.field-0.given =
    search rules in
    let known = process_known g.N.RunName.tells g.N.RunName.declaration c.self.inside.pass c.self.inside.process
    c.self.inside.given_up c.if-self.false c.self.invariant.known in
    let acted : actor_takes g.N.RunName.declaration c.self.inside.process.actor c.in-Some.field-0.given
    ≡ moved c.take-2.new.self.actor c.in_ok-turn.turn =
    ap (λ d. actor_takes d c.self.inside.process.actor c.in-Some.field-0.given) (sym c.args.worker.now.declaration)
    ∙ c.in_ok-turn.ensures.ok in
    let spelt : IsSpelled c.take-2.new.self c.prepare.new.self c.in_ok-turn.turn =
    is_spelled c.take-2.new.self c.prepare.new.self c.in_ok-turn.turn c.in_ok-prepare.ensures.ok in
    let fallen : (c.append-turn.result ≡ Done → ⊥) → c.append-turn.new.self.actor ≡ Down =
    λ not. (c.append-turn.ensures.fallen not).0 in
    let saw : Sees c.take.new.pass c.reserve.new.pass = search rules in
    lawful_now g.N.RunName.tells g.N.RunName.declaration g.N.RunName.script c.requires.runnable.accepted
    c.requires.runnable.declared c.self.inside.pass c.take.new.pass c.in-Some.field-0.given
    c.self.invariant.is_actor took c.self.inside.process known c.take-2.new.self.actor c.in_ok-turn.turn acted
    c.reserve.new.pass saw c.append-turn.result
    (ends g.N.RunName.tells g.N.RunName.table g.N.RunName.declaration g.N.RunName.script c.requires.runnable
    c.self.inside.pass c.take.new.pass c.in-Some.field-0.given c.self.inside.given_up c.self.inside.process
    c.self.invariant known took c.take-2.new.self c.in_ok-turn.turn acted c.take-2.ensures.same.0
    c.take-2.ensures.same.1 c.in_ok-turn.ensures.writes c.prepare.new.self spelt c.append-turn.result
    c.append-turn.ensures.none c.append-turn.new.self c.append-turn.ensures.done fallen)

pub sent-requires-clause-few : goal.sent-requires-clause-few
sent-requires-clause-few g c κs within =
    let took : Takes (IsLawfulWithFalls g.N.RunName.declaration) (fits_of g.N.RunName.declaration)
    g.N.RunName.declaration g.N.RunName.script c.self.inside.pass c.take.new.pass c.in-Some.field-0.given =
    search rules in
    let known = process_known g.N.RunName.tells g.N.RunName.declaration c.self.inside.pass c.self.inside.process
    c.self.inside.given_up c.if-self.false c.self.invariant.known in
    let acted : actor_takes g.N.RunName.declaration c.self.inside.process.actor c.in-Some.field-0.given
    ≡ moved c.take-2.new.self.actor c.in_ok-turn.turn =
    ap (λ d. actor_takes d c.self.inside.process.actor c.in-Some.field-0.given) (sym c.args.worker.now.declaration)
    ∙ c.in_ok-turn.ensures.ok in
    let spelt : IsSpelled c.take-2.new.self c.prepare.new.self c.in_ok-turn.turn =
    is_spelled c.take-2.new.self c.prepare.new.self c.in_ok-turn.turn c.in_ok-prepare.ensures.ok in
    let fallen : (c.append-turn.result ≡ Done → ⊥) → c.append-turn.new.self.actor ≡ Down =
    λ not. (c.append-turn.ensures.fallen not).0 in
    few_then g.N.RunName.tells g.N.RunName.table g.N.RunName.declaration g.N.RunName.script c.requires.runnable
    c.self.inside.pass c.take.new.pass c.in-Some.field-0.given c.self.inside.given_up c.self.inside.process
    c.self.invariant known took c.take-2.new.self c.in_ok-turn.turn acted c.take-2.ensures.same.0
    c.take-2.ensures.same.1 c.in_ok-turn.ensures.writes c.prepare.new.self spelt c.append-turn.result
    c.append-turn.ensures.none c.append-turn.new.self c.append-turn.ensures.done fallen

pub sent-requires-clause-numbers : goal.sent-requires-clause-numbers
sent-requires-clause-numbers g c κs within =
    let took : Takes (IsLawfulWithFalls g.N.RunName.declaration) (fits_of g.N.RunName.declaration)
    g.N.RunName.declaration g.N.RunName.script c.self.inside.pass c.take.new.pass c.in-Some.field-0.given =
    search rules in
    let known = process_known g.N.RunName.tells g.N.RunName.declaration c.self.inside.pass c.self.inside.process
    c.self.inside.given_up c.if-self.false c.self.invariant.known in
    let acted : actor_takes g.N.RunName.declaration c.self.inside.process.actor c.in-Some.field-0.given
    ≡ moved c.take-2.new.self.actor c.in_ok-turn.turn =
    ap (λ d. actor_takes d c.self.inside.process.actor c.in-Some.field-0.given) (sym c.args.worker.now.declaration)
    ∙ c.in_ok-turn.ensures.ok in
    let saw : Sees c.take.new.pass c.reserve.new.pass = search rules in
    let posts : Posts (IsLawfulWithFalls g.N.RunName.declaration) (fits_of g.N.RunName.declaration)
    g.N.RunName.declaration g.N.RunName.script c.reserve.new.pass c.post-first.new.pass
    (record c.in_ok-turn.turn { append = c.append-turn.result }) c.post-first.result = search rules in
    numbers_left g.N.RunName.tells g.N.RunName.declaration g.N.RunName.script c.requires.runnable.accepted
    c.requires.runnable.declared c.self.inside.pass c.take.new.pass c.in-Some.field-0.given
    c.self.invariant.is_actor took c.self.inside.process known c.take-2.new.self.actor c.in_ok-turn.turn acted
    c.reserve.new.pass saw c.post-first.new.pass c.append-turn.result c.post-first.result posts

pub invariant_of-self-2 : goal.invariant_of-self-2
invariant_of-self-2 g c =
    let took : Takes (IsLawfulWithFalls g.N.RunName.declaration) (fits_of g.N.RunName.declaration)
    g.N.RunName.declaration g.N.RunName.script c.self.inside.pass c.take.new.pass c.in-Some.field-0.given =
    search rules in
    let known = process_known g.N.RunName.tells g.N.RunName.declaration c.self.inside.pass c.self.inside.process
    c.self.inside.given_up c.if-self.false c.self.invariant.known in
    let acted : actor_takes g.N.RunName.declaration c.self.inside.process.actor c.in-Some.field-0.given
    ≡ moved c.take-2.new.self.actor c.in_ok-turn.turn =
    ap (λ d. actor_takes d c.self.inside.process.actor c.in-Some.field-0.given) (sym c.args.worker.now.declaration)
    ∙ c.in_ok-turn.ensures.ok in
    let spelt : IsSpelled c.take-2.new.self c.prepare.new.self c.in_ok-turn.turn =
    is_spelled c.take-2.new.self c.prepare.new.self c.in_ok-turn.turn c.in_ok-prepare.ensures.ok in
    let fallen : (c.append-turn.result ≡ Done → ⊥) → c.append-turn.new.self.actor ≡ Down =
    λ not. (c.append-turn.ensures.fallen not).0 in
    let saw : Sees c.take.new.pass c.reserve.new.pass = search rules in
    let posts : Posts (IsLawfulWithFalls g.N.RunName.declaration) (fits_of g.N.RunName.declaration)
    g.N.RunName.declaration g.N.RunName.script c.reserve.new.pass c.post-first.new.pass
    (record c.in_ok-turn.turn { append = c.append-turn.result }) c.post-first.result = search rules in
    cell_posted g.N.RunName.tells g.N.RunName.table g.N.RunName.declaration g.N.RunName.script
    c.requires.runnable c.self.inside.pass c.take.new.pass c.in-Some.field-0.given c.self.inside.given_up
    c.self.inside.process c.self.invariant known took c.take-2.new.self c.in_ok-turn.turn acted c.take-2.ensures.same.0
    c.take-2.ensures.same.1 c.in_ok-turn.ensures.writes c.prepare.new.self spelt c.append-turn.result
    c.append-turn.ensures.none c.append-turn.new.self c.append-turn.ensures.done fallen c.reserve.new.pass
    c.post-first.new.pass saw c.post-first.result posts c.append-turn.ensures.number c.append-turn.ensures.goes
    c.sent.new.self c.sent.ensures

pub returns-clause-ok : goal.returns-clause-ok
returns-clause-ok g c =
    let took : Takes (IsLawfulWithFalls g.N.RunName.declaration) (fits_of g.N.RunName.declaration)
    g.N.RunName.declaration g.N.RunName.script c.self.inside.pass c.take.new.pass c.in-Some.field-0.given =
    search rules in
    let known = process_known g.N.RunName.tells g.N.RunName.declaration c.self.inside.pass c.self.inside.process
    c.self.inside.given_up c.if-self.false c.self.invariant.known in
    let acted : actor_takes g.N.RunName.declaration c.self.inside.process.actor c.in-Some.field-0.given
    ≡ moved c.take-2.new.self.actor c.in_ok-turn.turn =
    ap (λ d. actor_takes d c.self.inside.process.actor c.in-Some.field-0.given) (sym c.args.worker.now.declaration)
    ∙ c.in_ok-turn.ensures.ok in
    let saw : Sees c.take.new.pass c.reserve.new.pass = search rules in
    let posts : Posts (IsLawfulWithFalls g.N.RunName.declaration) (fits_of g.N.RunName.declaration)
    g.N.RunName.declaration g.N.RunName.script c.reserve.new.pass c.post-first.new.pass
    (record c.in_ok-turn.turn { append = c.append-turn.result }) c.post-first.result = search rules in
    subst (λ (k : Known). IsServed g.N.RunName.declaration k
    (record {
      number = number c.post-first.new.pass;
      seen = seen c.post-first.new.pass;
      given_up = false;
      process = c.sent.new.self;
    })) c.self.view_is
    (served g.N.RunName.tells g.N.RunName.declaration g.N.RunName.script c.requires.runnable.accepted
    c.requires.runnable.declared c.self.inside.pass c.take.new.pass c.in-Some.field-0.given
    c.self.invariant.is_actor took c.self.inside.process known c.take-2.new.self.actor c.in_ok-turn.turn acted
    c.reserve.new.pass saw c.post-first.new.pass c.append-turn.result c.post-first.result posts
    c.self.inside.given_up false c.sent.new.self refl)
