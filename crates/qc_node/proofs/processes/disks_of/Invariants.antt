use Rattle.std.proofs.Common.{◌≡◌, ◌≤◌}
use Rattle.std.specs.Prelude.{is_some, option_copied, vec_capacity, vec_len}
use Rattle.qc_decl.specs.Vocabulary.{actors}
use Rattle.qc_node.specs.Vocabulary.{AreStarted, AreUnwritten}
use Rattle.qc_node.proofs.processes.disks_of.Given as goal

-- the disks of those so far were handed out, and are unwritten
abbrev pub invariant-loop-actor : goal.invariant-loop-actor
invariant-loop-actor g l = record {
  count : vec_len l.disks ≡ l.actor;
  room : actors l.decl ≤ vec_capacity l.disks;
  unwritten :
      AreUnwritten (is_some (g.K.Rack.places l.initial.rack)) g.K.D.Disk.told g.K.D.Disk.faults l.disks.items;
  started :
      AreStarted (option_copied l.dir) l.actor (g.K.Rack.places l.initial.rack) (g.K.Rack.faults l.initial.rack)
      (g.K.Rack.places l.rack) (g.K.Rack.faults l.rack);
}
