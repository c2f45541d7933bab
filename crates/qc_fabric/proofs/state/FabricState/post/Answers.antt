use Rattle.std.proofs.Common.{rules, ◌≡◌, ℕ, ◌-◌, ◌∙◌, [], suc, arith, ap, refl, sym, subst}
use Rattle.qc_mailbox.specs.Vocabulary.{after_post_as}
use Rattle.qc_msg.specs.Vocabulary.{by, posted_as}
use Rattle.qc_msg.proofs.GrownMail.{length-mail}
use Rattle.qc_pass.specs.Vocabulary.{Met, number, room}
use Rattle.qc_fabric.specs.Vocabulary.{HasGrown, size_of}
use Rattle.qc_fabric.proofs.Fed.{length-posted, met_as, sends_few}
use Rattle.qc_fabric.proofs.Kept.{room_kept}
use Rattle.qc_fabric.proofs.Posted.{posted_told, posts_on, receivers_as}
use Rattle.qc_fabric.proofs.state.FabricState.post.Goals as goal

pub post_as-requires-clause-receivers : goal.post_as-requires-clause-receivers
post_as-requires-clause-receivers g c = receivers_as c.args.turn.append c.args.turn c.requires.receivers

pub post_as-requires-clause-few : goal.post_as-requires-clause-few
post_as-requires-clause-few g c =
    let kept = room_kept c.self.invariant c.in-Some.right
    (sym c.take.ensures.value ∙ c.in-Some.is) c.args.pass.now c.look-right.ensures.met.had_room in
    omega (
      arith,
      kept,
      c.requires.room,
      c.self.invariant.kept.sent,
      length-mail c.self.inside.log.history,
      c.self.invariant.bound,
      sends_few c.args.turn.append 0 c.args.turn,
      length-posted c.args.turn.append 0 c.args.turn,
    )

pub post_as-requires-clause-room : goal.post_as-requires-clause-room
post_as-requires-clause-room g c =
    let kept = room_kept c.self.invariant c.in-Some.right
    (sym c.take.ensures.value ∙ c.in-Some.is) c.args.pass.now c.look-right.ensures.met.had_room in
    omega (
      arith,
      kept,
      c.requires.room,
      c.self.invariant.mail_room,
      sends_few c.args.turn.append 0 c.args.turn,
      length-posted c.args.turn.append 0 c.args.turn,
    )

pub post-right-requires-clause-room : goal.post-right-requires-clause-room
post-right-requires-clause-room g c =
    let kept = room_kept c.self.invariant c.in-Some.right
    (sym c.take.ensures.value ∙ c.in-Some.is) c.args.pass.now c.look-right.ensures.met.had_room in
    let long = length-posted c.args.turn.append c.sent-first.result c.args.turn in
    record {
      pass_table_is = search rules;
      right_table_is = search rules;
      room = omega (arith, kept, c.requires.room, c.self.invariant.log_room, long);
      bound = omega (arith, kept, c.requires.room, c.self.invariant.bound, long);
    }

pub post-right-requires-clause-few : goal.post-right-requires-clause-few
post-right-requires-clause-few g c =
    let kept = room_kept c.self.invariant c.in-Some.right
    (sym c.take.ensures.value ∙ c.in-Some.is) c.args.pass.now c.look-right.ensures.met.had_room in
    omega (
      arith,
      kept,
      c.requires.room,
      c.sent-first.ensures,
      c.self.invariant.kept.sent,
      length-mail c.self.inside.log.history,
      c.self.invariant.bound,
      sends_few c.args.turn.append 0 c.args.turn,
      length-posted c.args.turn.append 0 c.args.turn,
    )

pub overflow_sub-self : goal.overflow_sub-self
overflow_sub-self g c =
    let kept = room_kept c.self.invariant c.in-Some.right
    (sym c.take.ensures.value ∙ c.in-Some.is) c.args.pass.now c.look-right.ensures.met.had_room in
    omega (arith, kept, c.room-size.ensures)

pub invariant_of-self : goal.invariant_of-self
invariant_of-self g c =
    let p = c.args.pass.now in
    let turn = c.args.turn in
    let k : ℕ = size_of turn - 1 in
    let has : room p ≡ suc k = omega (arith, c.requires.room) in
    let size : suc k ≡ size_of turn = omega arith in
    let size_is : c.room-size.result ≡ suc k = c.room-size.ensures ∙ has in
    let m1 : Met p c.in-Some.right c.look-right.new.pass c.look-right.result [] (room p) =
    met_as c.look-right.ensures.met refl c.room-size.ensures in
    let m2 : Met c.post-right.new.self.pass.now c.post-right.result c.look-right-2.new.pass c.look-right-2.result [] 0 =
    met_as c.look-right-2.ensures.met (search rules) refl in
    let grown : HasGrown c.self.inside.log c.post-right.new.self.log.now
    (by (number p) (posted_as turn.append c.sent-first.result turn)) =
    subst (λ n. HasGrown c.self.inside.log c.post-right.new.self.log.now
    (by n (posted_as turn.append c.sent-first.result turn))) m1.same_number c.post-right.ensures.log in
    let boxes : c.post_as.new.self.inboxes ≡ after_post_as turn.append c.self.inside.mailboxes.inboxes (number p) turn =
    c.post_as.ensures.inboxes ∙ ap (λ a. after_post_as turn.append c.self.inside.mailboxes.inboxes a turn)
    c.number-actor.ensures in
    rw (size_is, c.set.ensures, c.set-2.ensures, c.number-actor.ensures)
    (posts_on c.self.invariant c.in-Some.right
    (sym c.take.ensures.value ∙ c.in-Some.is) p _ _ _ _ _ _ turn c.sent-first.result k m1 c.look-right.ensures.all
    c.post-right.ensures.fed m2 c.look-right-2.ensures.all
    (c.sent-first.ensures ∙ c.self.invariant.kept.sent) has c.requires.actor c.requires.lawful c.requires.receivers
    c.post-right.new.self.log.now c.post_as.new.self (number p) grown size c.post_as.ensures.room boxes)

pub returns-clause-told : goal.returns-clause-told
returns-clause-told g c =
    let p = c.args.pass.now in
    let turn = c.args.turn in
    let k : ℕ = size_of turn - 1 in
    let has : room p ≡ suc k = omega (arith, c.requires.room) in
    let m1 : Met p c.in-Some.right c.look-right.new.pass c.look-right.result [] (room p) =
    met_as c.look-right.ensures.met refl c.room-size.ensures in
    let m2 : Met c.post-right.new.self.pass.now c.post-right.result c.look-right-2.new.pass c.look-right-2.result [] 0 =
    met_as c.look-right-2.ensures.met (search rules) refl in
    posted_told c.self.invariant c.in-Some.right
    (sym c.take.ensures.value ∙ c.in-Some.is) p _ _ _ _ _ _ turn c.sent-first.result k m1 c.look-right.ensures.all
    c.post-right.ensures.fed m2 c.look-right-2.ensures.all
    (c.sent-first.ensures ∙ c.self.invariant.kept.sent) has c.requires.actor c.requires.lawful c.requires.receivers
