use Rattle.std.proofs.Common.{◌<◌, ◌∙◌, arith, length}
use Rattle.std.proofs.lemmas.List.{length-set}
use Rattle.qc_mailbox.specs.Vocabulary.{HasRoom, IsPrepared}
use Rattle.qc_mailbox.proofs.Each.{front_next}
use Rattle.qc_mailbox.proofs.Room.{at, kept_set, same_set}
use Rattle.qc_mailbox.proofs.boxes.prepare.Goals as goal

pub returns-in_err-prepare-clause-same : goal.returns-in_err-prepare-clause-same
returns-in_err-prepare-clause-same c =
    let within : c.actors.actor < length c.actors.boxes.items = omega (arith, c.actors.invariant.long) in
    same_set c.actors.boxes.items c.actors.actor c.index_mut.result.now c.prepare.new.self within
    c.index_mut.ensures.value c.in_err-prepare.ensures.same ∙ c.actors.invariant.same

pub actors-preserved : goal.actors-preserved
actors-preserved c =
    let within : c.actors.actor < length c.actors.boxes.items = omega (arith, c.actors.invariant.long) in
    record {
      long = length-set c.actors.boxes.items c.actors.actor c.prepare.new.self ∙ c.actors.invariant.long;
      same = same_set c.actors.boxes.items c.actors.actor c.index_mut.result.now c.prepare.new.self within
          c.index_mut.ensures.value c.in_ok-prepare.ensures.same ∙ c.actors.invariant.same;
      kept = kept_set c.actors.boxes.items c.actors.actor c.index_mut.result.now c.prepare.new.self within
          c.index_mut.ensures.value c.args.room c.in_ok-prepare.ensures.kept c.actors.invariant.kept;
      done = front_next (IsPrepared c.args.room c.args.commands) c.actors.boxes.items c.actors.actor c.prepare.new.self
          within c.actors.invariant.done
          (c.in_ok-prepare.ensures.ok c.args.room (at c.actors.boxes.items c.actors.actor c.index_mut.result.now
          c.prepare.new.self within c.index_mut.ensures.value (HasRoom c.args.room) c.actors.invariant.kept));
    }
