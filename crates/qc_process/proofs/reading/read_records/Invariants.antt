use Rattle.std.proofs.Common.{◌≡◌, ◌≤◌, ◌*◌, true, ◌++◌, drop, length}
use Rattle.qc_fit.specs.Vocabulary.{most_records}
use Rattle.qc_journal.specs.Vocabulary.{lists}
use Rattle.qc_process.specs.Vocabulary.{AreLegal, all_fit, bodies_of, bytes_of}
use Rattle.qc_process.proofs.reading.read_records.Given as goal

pub record ReadSoFar (legal spell fit place offset few bound : Type 0) : Type 0 where
  pub are_legal : legal
  pub spells : spell
  pub are_fit : fit
  pub place_is : place
  pub offset_is : offset
  pub are_few : few
  pub bounded : bound

abbrev pub invariant-bodies : goal.invariant-bodies
invariant-bodies l =
    ReadSoFar (AreLegal l.records.items) (bodies_of l.records.items ++ lists (drop l.body-index l.bodies)
    ≡ lists l.bodies)
    (all_fit l.decl l.actor 0 l.records.items ≡ true) (l.place ≡ length l.records.items)
    (l.offset ≡ bytes_of (bodies_of l.records.items)) (l.place ≤ most_records) (l.offset ≤ 65541 * l.place)
