use Rattle.std.proofs.Common.{rules, ◌≡◌, ◌*◌, ◌∙◌, arith, subst}
use Rattle.std.specs.List.{AllByRecursion as Every}
use Rattle.qc_mailbox.specs.Vocabulary.{HasRoom}
use Rattle.qc_mailbox.proofs.mailboxes.Mailboxes.begin_phase.Goals as goal

pub invariant_of-self-2 : goal.invariant_of-self-2
invariant_of-self-2 c =
    let places : c.in-Some.places ≡ 4 * c.self.inside.room = search (rules, arith) in
    record {
      boxes_are = c.begin.ensures.length ∙ (c.ask_commands.ensures.length
          ∙ (c.prepare.ensures.length ∙ c.self.invariant.boxes_are));
      room_is = c.begin.ensures.room _ (subst (λ n. Every (HasRoom n) c.ask_commands.new.boxes.items) places
          c.ask_commands.ensures.room);
    }
