use Rattle.std.proofs.Common.{◌≡◌, take}
use Rattle.qc_accept.proofs.names.Events.of.Given as goal

abbrev pub invariant-loop-event : goal.invariant-loop-event
invariant-loop-event l = l.events.keys ≡ take l.event-index l.event-items
