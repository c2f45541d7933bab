-- Snapshots that are sent wrongly. Each run is one without the guard that its law names.
use Rattle.std.proofs.Common.{refl, [], ◌∷◌, ◌++◌}
use Rattle.theory_machine.specs.Vocabulary.{Closes, SnapshotIsOfClosed, SnapshotPassesDone, SnapshotPassesInstalls}
use Rattle.theory_machine.specs.Vocabulary.{SnapshotTellsDeeds, TakeSnapshot}
use Rattle.theory_witnesses.proofs.Accepted.{moving_register_accepted}
use Rattle.theory_witnesses.proofs.Broken.{not_one_copy}
use Rattle.theory_witnesses.proofs.Needs.{shows_need}
use Rattle.theory_witnesses.specs.Vocabulary.{IsNeeded, RecordsAreOneCopy, closes, decides, ends_at, first, installs}
use Rattle.theory_witnesses.specs.Vocabulary.{moves_to, moving_register, reads_only, reads_zero, second, snapshot}
use Rattle.theory_witnesses.specs.Vocabulary.{tells, writes}

-- A site that closes tells nothing of a write that it has.
pub snapshots_of_an_older_log : IsNeeded SnapshotTellsDeeds RecordsAreOneCopy
snapshots_of_an_older_log =
    shows_need SnapshotTellsDeeds RecordsAreOneCopy moving_register moving_register_accepted not_one_copy
    (writes first 1 (0 ∷ []) ++ closes 0 ∷ (λ now. TakeSnapshot (record { site = 0; clock = 0; before = Closes ∷ [] }))
    ∷ decides 2 (0 ∷ []) ∷ installs 1 2 ∷ reads_only second 2 reads_zero (1 ∷ []))
    refl refl

-- A site tells what it has while it is open, and then grants a write.
pub snapshots_of_open_sites : IsNeeded SnapshotIsOfClosed RecordsAreOneCopy
snapshots_of_open_sites =
    shows_need SnapshotIsOfClosed RecordsAreOneCopy moving_register moving_register_accepted not_one_copy
    (tells 0 ∷ decides 2 (0 ∷ []) ∷ installs 1 2 ∷ writes first 1 (0 ∷ []) ++ reads_only second 2 reads_zero (1 ∷ []))
    refl refl

-- A read of the first epoch is done at the site; the new epoch begins with a clock below its stamp, and a write is
-- stamped below it.
pub snapshot_clocks_below_a_done_record : IsNeeded SnapshotPassesDone RecordsAreOneCopy
snapshot_clocks_below_a_done_record =
    shows_need SnapshotPassesDone RecordsAreOneCopy moving_register moving_register_accepted not_one_copy
    (reads_only second 1 reads_zero (0 ∷ []) ++ ends_at second (0 ∷ []) ++ closes 0 ∷
    (λ now. TakeSnapshot (record (snapshot 0 now) { clock = 0 }))
    ∷ decides 2 (0 ∷ []) ∷ installs 1 2 ∷ writes first 2 (1 ∷ []))
    refl refl

-- The same by way of a third epoch: the second site forgets the clock that it installed.
pub snapshot_clocks_below_an_install : IsNeeded SnapshotPassesInstalls RecordsAreOneCopy
snapshot_clocks_below_an_install =
    shows_need SnapshotPassesInstalls RecordsAreOneCopy moving_register moving_register_accepted not_one_copy
    (reads_only second 1 reads_zero (0 ∷ []) ++ ends_at second (0 ∷ []) ++ moves_to 2 0 1
    ++ closes 1 ∷ (λ now. TakeSnapshot (record (snapshot 1 now) { clock = 0 })) ∷ decides 3 (1 ∷ []) ∷ installs 2 3
    ∷ writes first 3 (2 ∷ []))
    refl refl
