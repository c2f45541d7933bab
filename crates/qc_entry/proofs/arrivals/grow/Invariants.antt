use Rattle.std.proofs.Common.{◌≡◌, ◌-◌, ◌+◌, ℕ, vec_len}
use Rattle.qc_entry.specs.Places.{places_at}
use Rattle.qc_entry.proofs.arrivals.grow.Given as goal

abbrev pub invariant-lists : goal.invariant-lists
invariant-lists l = (o : ℕ) → places_at l.places.items o ≡ places_at l.fn.places.items o

abbrev pub decreases-lists : goal.decreases-lists
decreases-lists l = l.object + 1 - vec_len l.places
