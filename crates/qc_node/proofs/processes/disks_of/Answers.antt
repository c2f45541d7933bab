use Rattle.std.proofs.Common.{rules, ◌≡◌, ◌+◌, ◌≤◌, ◌∙◌, ℕ, ap, length, subst, sym}
use Rattle.std.specs.Prelude.{is_some, option_copied, vec_len}
use Rattle.std.specs.Vec.Iter.{into_iter_items}
use Rattle.qc_decl.specs.Vocabulary.{actors}
use Rattle.qc_node.proofs.Starts.{just_handed, more_unwritten, one_more_started, one_started, rack_refused}
use Rattle.qc_node.proofs.Starts.{started_tells}
use Rattle.qc_node.proofs.Unstarted.{rack_gave_up}
use Rattle.qc_node.proofs.processes.disks_of.Goals as goal

pub returns-in-Err-clause-refused : goal.returns-in-Err-clause-refused
returns-in-Err-clause-refused g c =
    let places = g.K.Rack.places in
    let faults = g.K.Rack.faults in
    let folder = option_copied c.args.dir in
    let many : length c.loop-actor.disks.items ≡ vec_len c.loop-actor.disks = search rules in
    rack_gave_up folder c.loop-actor.actor (length (into_iter_items c.into_iter.result)) (places c.args.rack.now)
    (places c.loop-actor.rack) (places c.disk.new.self) (places c.give_back_disks.new.rack) (faults c.args.rack.now)
    (faults c.loop-actor.rack) (faults c.disk.new.self) (faults c.give_back_disks.new.rack) c.in-Err.fault
    c.loop-actor.invariant.started
    (rack_refused folder c.loop-actor.actor (places c.loop-actor.rack) (places c.disk.new.self)
    (faults c.loop-actor.rack) (faults c.disk.new.self) c.in-Err.fault c.in-Err.ensures.handed
    c.in-Err.ensures.named c.in-Err.ensures.cause)
    (ap (λ l. length l) c.into_iter.ensures.rest ∙ many ∙ c.loop-actor.invariant.count) c.give_back_disks.ensures

pub loop-actor-preserved : goal.loop-actor-preserved
loop-actor-preserved g c =
    let places = g.K.Rack.places in
    let faults = g.K.Rack.faults in
    let told = g.K.D.Disk.told in
    let count = g.K.D.Disk.faults in
    let folder = option_copied c.args.dir in
    let tells = is_some (places c.args.rack.now) in
    let still = started_tells folder c.loop-actor.actor (places c.args.rack.now) (places c.loop-actor.rack)
    c.loop-actor.invariant.started.places in
    let disk = c.in-Ok.disk in
    record {
      count = c.push_reserved.ensures.len ∙ ap (λ (n : ℕ). n + 1) c.loop-actor.invariant.count;
      room =
          subst (λ (n : ℕ). actors c.args.decl.now ≤ n) (sym c.push_reserved.ensures.capacity)
          c.loop-actor.invariant.room;
      unwritten =
          more_unwritten tells told count c.loop-actor.disks.items c.push_reserved.new.self.items disk
          c.push_reserved.ensures.items c.loop-actor.invariant.unwritten
          (just_handed tells (is_some (places c.loop-actor.rack)) (told disk) (count disk) still c.in-Ok.ensures.tells
          c.in-Ok.ensures.empty c.in-Ok.ensures.fresh);
      started =
          one_more_started folder c.loop-actor.actor (places c.args.rack.now) (places c.loop-actor.rack)
          (places c.disk.new.self) (faults c.args.rack.now) (faults c.loop-actor.rack) (faults c.disk.new.self)
          c.loop-actor.invariant.started
          (one_started folder c.loop-actor.actor (places c.loop-actor.rack) (places c.disk.new.self)
          (faults c.loop-actor.rack) (faults c.disk.new.self) disk c.in-Ok.ensures.handed c.in-Ok.ensures.cause);
    }
