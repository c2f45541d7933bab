use Rattle.std.proofs.Common.{◌≡◌, ◌+◌, ◌≤◌, Bool, true, length}
use Rattle.std.specs.Prelude.{IsSome, is_some, vec_capacity, vec_len}
use Rattle.std.specs.Vec.Iter.{into_iter_items}
use Rattle.qc_decl.specs.Vocabulary.{actors}
use Rattle.qc_node.specs.Vocabulary.{AreProcesses, AreUnwritten, AreUp}
use Rattle.qc_node.proofs.processes.processes_on.Given as goal

-- the processes of those so far were started, and the disks of the others are left
abbrev pub invariant-loop-actor : goal.invariant-loop-actor
invariant-loop-actor g l = record {
  count : vec_len l.each ≡ l.actor;
  room : actors l.decl ≤ vec_capacity l.each;
  left : l.actor + length (into_iter_items l.disks) ≡ actors l.decl;
  unwritten :
      AreUnwritten (is_some (g.K.Rack.places l.rack)) g.K.D.Disk.told g.K.D.Disk.faults (into_iter_items l.disks);
  each : (tells : Bool) → (tells ≡ true → IsSome (g.K.Rack.places l.rack)) → AreProcesses tells l.decl l.each.items;
  up : AreUp l.each.items;
  same : l.rack ≡ l.initial.rack;
}
