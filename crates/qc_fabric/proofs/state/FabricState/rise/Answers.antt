use Rattle.std.proofs.Common.{rules, ◌≡◌, ◌∙◌, [], arith, ap, refl, sym, subst}
use Rattle.qc_msg.specs.declared.step.Control.TheVariants.{Restart}
use Rattle.qc_msg.specs.Vocabulary.{by}
use Rattle.qc_msg.proofs.GrownMail.{length-mail}
use Rattle.qc_pass.specs.Vocabulary.{Met, number, room, seen}
use Rattle.qc_fabric.specs.Vocabulary.{HasGrown, MayDo, Shown, after_rising, size_of_rising, steps_of_rising}
use Rattle.qc_fabric.proofs.Fed.{met_as}
use Rattle.qc_fabric.proofs.Risen.{length-rising, risen_told, rises_on, rises_to, rising_sends_few}
use Rattle.qc_fabric.proofs.state.FabricState.rise.Goals as goal

pub post_rising-requires-clause-receivers : goal.post_rising-requires-clause-receivers
post_rising-requires-clause-receivers g c =
    rises_to (g.C.Conduct.lawful g.N.RunName.declaration) (g.C.Conduct.fits g.N.RunName.declaration)
    (number c.args.pass.now) (seen c.args.pass.now) c.args.rising c.requires.lawful

pub post_rising-requires-clause-few : goal.post_rising-requires-clause-few
post_rising-requires-clause-few g c =
    let size : c.self.inside.spare ≡ size_of_rising c.args.rising = ap (λ (v : Shown). v.spare) c.self.view_is
    ∙ c.requires.room in
    omega (
      arith,
      size,
      c.self.invariant.kept.sent,
      length-mail c.self.inside.log.history,
      c.self.invariant.bound,
      rising_sends_few 0 c.args.rising,
      length-rising 0 c.args.rising,
    )

pub post_rising-requires-clause-room : goal.post_rising-requires-clause-room
post_rising-requires-clause-room g c =
    let size : c.self.inside.spare ≡ size_of_rising c.args.rising = ap (λ (v : Shown). v.spare) c.self.view_is
    ∙ c.requires.room in
    omega (arith, size, c.self.invariant.mail_room, rising_sends_few 0 c.args.rising, length-rising 0 c.args.rising)

pub rise-right-requires-clause-room : goal.rise-right-requires-clause-room
rise-right-requires-clause-room g c =
    let size : c.self.inside.spare ≡ size_of_rising c.args.rising = ap (λ (v : Shown). v.spare) c.self.view_is
    ∙ c.requires.room in
    let long = length-rising c.sent-first.result c.args.rising in
    record {
      pass_table_is = search rules;
      right_table_is = search rules;
      room = omega (arith, size, c.self.invariant.log_room, long);
      bound = omega (arith, size, c.self.invariant.bound, long);
    }

pub rise-right-requires-clause-few : goal.rise-right-requires-clause-few
rise-right-requires-clause-few g c =
    let size : c.self.inside.spare ≡ size_of_rising c.args.rising = ap (λ (v : Shown). v.spare) c.self.view_is
    ∙ c.requires.room in
    omega (
      arith,
      size,
      c.sent-first.ensures,
      c.self.invariant.kept.sent,
      length-mail c.self.inside.log.history,
      c.self.invariant.bound,
      rising_sends_few 0 c.args.rising,
      length-rising 0 c.args.rising,
    )

pub invariant_of-self : goal.invariant_of-self
invariant_of-self g c =
    let p = c.args.pass.now in
    let rising = c.args.rising in
    let first = c.sent-first.result in
    let may : MayDo g.N.RunName.declaration g.N.RunName.script c.self.inside.log.history c.self.inside.inputs.items
    (Restart (number p)) = subst (λ (v : Shown). MayDo g.N.RunName.declaration g.N.RunName.script v.history
    v.open_inputs (Restart (number p))) (sym c.self.view_is) c.requires.may in
    let size : c.self.inside.spare ≡ size_of_rising rising = ap (λ (v : Shown). v.spare) c.self.view_is
    ∙ c.requires.room in
    let m1 : Met p c.in-Some.right c.look-right.new.pass c.look-right.result [] (room p) =
    met_as c.look-right.ensures.met refl c.room-kept.ensures in
    let m2 : Met c.rise-right.new.self.pass.now c.rise-right.result c.look-right-2.new.pass c.look-right-2.result
    [] (room p) =
    met_as c.look-right-2.ensures.met (search rules) c.room-kept.ensures in
    let grown : HasGrown c.self.inside.log c.rise-right.new.self.log.now
    (by (number p) (steps_of_rising first rising)) =
    subst (λ n. HasGrown c.self.inside.log c.rise-right.new.self.log.now (by n (steps_of_rising first rising)))
    m1.same_number c.rise-right.ensures.log in
    let boxes : c.post_rising.new.mailboxes.inboxes ≡ after_rising c.self.inside.mailboxes.inboxes (number p) rising =
    c.post_rising.ensures.inboxes ∙ ap (λ a. after_rising c.self.inside.mailboxes.inboxes a rising)
    c.number-actor.ensures in
    rises_on c.self.invariant c.in-Some.right
    (sym c.take.ensures.value ∙ c.in-Some.is) p _ _ _ _ _ _ rising first m1 c.look-right.ensures.all
    c.rise-right.ensures.fed m2 c.look-right-2.ensures.all
    (c.sent-first.ensures ∙ c.self.invariant.kept.sent) c.requires.actor may c.requires.lawful
    c.rise-right.new.self.log.now c.post_rising.new.mailboxes grown size c.post_rising.ensures.room boxes

pub returns-clause-told : goal.returns-clause-told
returns-clause-told g c =
    let p = c.args.pass.now in
    let may : MayDo g.N.RunName.declaration g.N.RunName.script c.self.inside.log.history c.self.inside.inputs.items
    (Restart (number p)) = subst (λ (v : Shown). MayDo g.N.RunName.declaration g.N.RunName.script v.history
    v.open_inputs (Restart (number p))) (sym c.self.view_is) c.requires.may in
    let m1 : Met p c.in-Some.right c.look-right.new.pass c.look-right.result [] (room p) =
    met_as c.look-right.ensures.met refl c.room-kept.ensures in
    let m2 : Met c.rise-right.new.self.pass.now c.rise-right.result c.look-right-2.new.pass c.look-right-2.result
    [] (room p) =
    met_as c.look-right-2.ensures.met (search rules) c.room-kept.ensures in
    risen_told c.self.invariant c.in-Some.right
    (sym c.take.ensures.value ∙ c.in-Some.is) p _ _ _ _ _ _ c.args.rising c.sent-first.result m1
    c.look-right.ensures.all c.rise-right.ensures.fed m2 c.look-right-2.ensures.all
    (c.sent-first.ensures ∙ c.self.invariant.kept.sent) c.requires.actor may c.requires.lawful
