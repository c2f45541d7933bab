use Rattle.std.proofs.Common.{◌≡◌, ◌++◌, drop}
use Rattle.qc_entry.specs.Places.{picked}
use Rattle.qc_entry.proofs.arrivals.picked.Given as goal

-- the lines found so far, with those at the places that are left, are all of them
abbrev pub invariant-places : goal.invariant-places
invariant-places l = l.them.items ++ picked l.lines (drop l.place-index l.places) ≡ picked l.lines l.places
