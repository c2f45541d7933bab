use Rattle.std.proofs.Common.{◌<◌, ◌∙◌, arith, length}
use Rattle.std.proofs.lemmas.List.{length-set}
use Rattle.qc_mailbox.specs.Vocabulary.{HasRoom}
use Rattle.qc_mailbox.proofs.Each.{front_next}
use Rattle.qc_mailbox.proofs.Room.{kept_set, same_set}
use Rattle.qc_mailbox.proofs.boxes.reserve.Goals as goal

pub returns-in_err-reserve-clause-same : goal.returns-in_err-reserve-clause-same
returns-in_err-reserve-clause-same c =
    let within : c.actors.actor < length c.actors.boxes.items = omega (arith, c.actors.invariant.long) in
    same_set c.actors.boxes.items c.actors.actor c.index_mut.result.now c.reserve.new.self within
    c.index_mut.ensures.value c.in_err-reserve.ensures.same ∙ c.actors.invariant.same

pub returns-in_err-reserve-clause-kept : goal.returns-in_err-reserve-clause-kept
returns-in_err-reserve-clause-kept c = λ kept all.
    (let within : c.actors.actor < length c.actors.boxes.items = omega (arith, c.actors.invariant.long) in
    kept_set c.actors.boxes.items c.actors.actor c.index_mut.result.now c.reserve.new.self within
    c.index_mut.ensures.value kept c.in_err-reserve.ensures.kept (c.actors.invariant.kept kept all))

pub actors-preserved : goal.actors-preserved
actors-preserved c =
    let within : c.actors.actor < length c.actors.boxes.items = omega (arith, c.actors.invariant.long) in
    record {
      long = length-set c.actors.boxes.items c.actors.actor c.reserve.new.self ∙ c.actors.invariant.long;
      same = same_set c.actors.boxes.items c.actors.actor c.index_mut.result.now c.reserve.new.self within
          c.index_mut.ensures.value c.in_ok-reserve.ensures.same ∙ c.actors.invariant.same;
      kept = λ room all. kept_set c.actors.boxes.items c.actors.actor c.index_mut.result.now c.reserve.new.self within
          c.index_mut.ensures.value room c.in_ok-reserve.ensures.kept (c.actors.invariant.kept room all);
      done = front_next (HasRoom c.args.room) c.actors.boxes.items c.actors.actor c.reserve.new.self within
          c.actors.invariant.done c.in_ok-reserve.ensures.ok;
    }
