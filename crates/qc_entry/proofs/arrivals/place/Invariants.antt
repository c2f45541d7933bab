use Rattle.std.proofs.Common.{◌-◌, length}
use Rattle.qc_entry.specs.Places.{ArePlaced}
use Rattle.qc_entry.proofs.arrivals.place.Given as goal

abbrev pub invariant-lines : goal.invariant-lines
invariant-lines l = ArePlaced l.lines l.places.items l.placed

abbrev pub decreases-lines : goal.decreases-lines
decreases-lines l = length l.lines - l.placed
