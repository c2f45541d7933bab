use Rattle.std.proofs.Common.{rules, ◌≡◌, ◌+◌, ◌≤◌, ◌∙◌, ℕ, [], ap, arith, length, refl, subst, sym}
use Rattle.std.specs.Prelude.{IfSome, IsSome, is_some, option_copied, vec_len}
use Rattle.std.specs.Vec.Iter.{into_iter_items}
use Rattle.qc_decl.specs.Vocabulary.{actors}
use Rattle.qc_process.specs.Vocabulary.{IsProcess, IsUp}
use Rattle.laws_bounds.specs.Vocabulary.{AreHandedOut, place_of}
use Rattle.qc_node.specs.Vocabulary.{AreBackBelow, AreProcesses, AreUnbegun, AreUp}
use Rattle.qc_node.proofs.Starts.{fewer_handed, first_unwritten, more_processes, more_up, none_each, put_tells}
use Rattle.qc_node.proofs.Starts.{rest_unwritten, same_unwritten, still_unwritten}
use Rattle.qc_node.proofs.Unbegun.{unbegun}
use Rattle.qc_node.proofs.Unstarted.{told_alike}
use Rattle.qc_node.proofs.processes.processes_on.Goals as goal

pub loop-actor-init : goal.loop-actor-init
loop-actor-init g c =
    let many : length c.args.each.items ≡ vec_len c.args.each = search rules in
    let all : length c.args.disks.items ≡ vec_len c.args.disks = search rules in
    record {
      count = omega (arith, ap (λ l. length l) c.requires.none, many);
      room = c.requires.room;
      left = omega (arith, ap (λ l. length l) c.into_iter-disks.ensures.rest, all, c.requires.whole);
      unwritten =
          same_unwritten (is_some (g.K.Rack.places c.args.rack.now)) g.K.D.Disk.told g.K.D.Disk.faults
          c.args.disks.items
          (into_iter_items c.into_iter-disks.result) c.into_iter-disks.ensures.rest c.requires.unwritten;
      each = λ tells on.
          none_each (λ a p. IsProcess tells c.args.decl.now a [] p) c.args.each.items c.requires.none;
      up = none_each (λ a p. IsUp p.store) c.args.each.items c.requires.none;
      same = refl;
    }

pub give_back-requires-clause-handed : goal.give_back-requires-clause-handed
give_back-requires-clause-handed g c κs within =
    fewer_handed (option_copied c.args.dir) (vec_len c.loop-actor.each) (actors c.args.decl.now)
    (g.K.Rack.places c.loop-actor.rack)
    (omega (arith, c.loop-actor.invariant.count, c.loop-actor.invariant.left))
    (subst (λ r. IfSome (g.K.Rack.places r) (AreHandedOut (option_copied c.args.dir) (actors c.args.decl.now)))
    (sym c.loop-actor.invariant.same) c.requires.handed)

pub give_back-requires-clause-processes : goal.give_back-requires-clause-processes
give_back-requires-clause-processes g c κs within =
    (c.args.decl.now, c.loop-actor.invariant.each (is_some (g.K.Rack.places c.loop-actor.rack)) (λ is. is))

pub give_back_disks-requires-clause-unwritten : goal.give_back_disks-requires-clause-unwritten
give_back_disks-requires-clause-unwritten g c κs within =
    let places = g.K.Rack.places in
    let told = g.K.D.Disk.told in
    let count = g.K.D.Disk.faults in
    let tells = is_some (places c.loop-actor.rack) in
    let left = into_iter_items c.loop-actor.disks in
    let rest = into_iter_items c.next.new.self in
    let still : is_some (places c.keep.new.self) ≡ tells =
    put_tells (places c.give_back.new.rack) (places c.keep.new.self)
    (place_of (option_copied c.args.dir) c.loop-actor.actor) (told c.in-Err.back) c.keep.ensures.put
    ∙ told_alike (places c.loop-actor.rack) (places c.give_back.new.rack)
    (AreBackBelow (option_copied c.args.dir) (vec_len c.loop-actor.each)) c.give_back.ensures.places in
    still_unwritten tells told count (is_some (places c.keep.new.self)) rest still
    (rest_unwritten tells told count left rest c.in-Some.disk c.in-Some.ensures.items
    c.loop-actor.invariant.unwritten)

pub returns-in-Err-clause-refused : goal.returns-in-Err-clause-refused
returns-in-Err-clause-refused g c =
    let places = g.K.Rack.places in
    let faults = g.K.Rack.faults in
    let told = g.K.D.Disk.told in
    let count = g.K.D.Disk.faults in
    let folder = option_copied c.args.dir in
    let n = actors c.args.decl.now in
    let disk = c.in-Some.disk in
    let left = into_iter_items c.loop-actor.disks in
    let rest = into_iter_items c.next.new.self in
    let un = first_unwritten (is_some (places c.loop-actor.rack)) told count left rest disk c.in-Some.ensures.items
    c.loop-actor.invariant.unwritten in
    let all : c.loop-actor.actor + 1 + length rest ≡ n =
    omega (arith, c.loop-actor.invariant.left, ap (λ l. length l) c.in-Some.ensures.items) in
    subst
    (λ r. AreUnbegun folder n (places r) (faults r) (places c.give_back_disks.new.rack)
    (faults c.give_back_disks.new.rack) c.in-Err.fault) c.loop-actor.invariant.same
    (unbegun folder c.loop-actor.actor (vec_len c.loop-actor.each) (length rest) n (places c.loop-actor.rack)
    (places c.give_back.new.rack) (places c.keep.new.self) (places c.give_back_disks.new.rack) (told disk)
    (told c.in-Err.back) (faults c.loop-actor.rack) (faults c.give_back.new.rack) (faults c.keep.new.self)
    (faults c.give_back_disks.new.rack) (count disk) (count c.in-Err.back) c.in-Err.fault
    c.loop-actor.invariant.count all un c.in-Err.ensures.refused c.give_back.ensures c.keep.ensures.put
    c.keep.ensures.kept c.give_back_disks.ensures)

pub loop-actor-preserved : goal.loop-actor-preserved
loop-actor-preserved g c =
    let told = g.K.D.Disk.told in
    let count = g.K.D.Disk.faults in
    let rest = into_iter_items c.next.new.self in
    let tells = is_some (g.K.Rack.places c.loop-actor.rack) in
    let left = into_iter_items c.loop-actor.disks in
    let un = first_unwritten tells told count left rest c.in-Some.disk c.in-Some.ensures.items
    c.loop-actor.invariant.unwritten in
    let many : length c.loop-actor.each.items ≡ c.loop-actor.actor = search rules in
    record {
      count = c.push_reserved.ensures.len ∙ ap (λ (n : ℕ). n + 1) c.loop-actor.invariant.count;
      room =
          subst (λ (n : ℕ). actors c.args.decl.now ≤ n) (sym c.push_reserved.ensures.capacity)
          c.loop-actor.invariant.room;
      left = omega (arith, c.loop-actor.invariant.left, ap (λ l. length l) c.in-Some.ensures.items);
      unwritten =
          rest_unwritten tells told count left rest c.in-Some.disk c.in-Some.ensures.items
          c.loop-actor.invariant.unwritten;
      each = λ tells on.
          subst (AreProcesses tells c.args.decl.now) (sym c.push_reserved.ensures.items)
          (more_processes tells c.args.decl.now c.loop-actor.each.items c.in-Ok.process c.loop-actor.actor many
          (c.loop-actor.invariant.each tells on)
          (c.in-Ok.ensures.begun tells (λ is. un.still (on is))));
      up =
          subst AreUp (sym c.push_reserved.ensures.items)
          (more_up c.loop-actor.each.items c.in-Ok.process c.loop-actor.invariant.up c.in-Ok.ensures.up);
      same = c.loop-actor.invariant.same;
    }

pub returns-clause-each : goal.returns-clause-each
returns-clause-each g c tells on =
    c.loop-actor.invariant.each tells
    (λ is. subst (λ r. IsSome (g.K.Rack.places r)) (sym c.loop-actor.invariant.same) (on is))

pub returns-clause-same : goal.returns-clause-same
returns-clause-same g c = c.loop-actor.invariant.same
