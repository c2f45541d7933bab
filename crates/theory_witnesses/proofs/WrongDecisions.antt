-- Epochs that are decided and installed wrongly. Each run is one without the guard that its law names.
use Rattle.std.proofs.Common.{refl, [], ◌∷◌, ◌++◌, take}
use Rattle.theory_machine.specs.Vocabulary.{ClosedSitesAnswered, ClosesEnough, Decide, DecidePassesCommitted}
use Rattle.theory_machine.specs.Vocabulary.{DecidePassesSnapshots, DecidesByPlan, DecidesFromSnapshots}
use Rattle.theory_machine.specs.Vocabulary.{DecidesNextEpoch, InstallsLaterEpoch, InstallsWhatWasDecided}
use Rattle.theory_machine.specs.Vocabulary.{MergesEveryEntry, MergesLogs, MergesOnlyCommitted, ResolvesPrepared}
use Rattle.theory_witnesses.proofs.Accepted.{moving_register_accepted, two_registers_accepted}
use Rattle.theory_witnesses.proofs.Broken.{not_one_copy}
use Rattle.theory_witnesses.proofs.Needs.{shows_need}
use Rattle.theory_witnesses.specs.Vocabulary.{IsNeeded, RecordsAreOneCopy, announces, begins, closes, commits}
use Rattle.theory_witnesses.specs.Vocabulary.{commits_at, decides, decision, ends_at, first, installs, invented_line}
use Rattle.theory_witnesses.specs.Vocabulary.{moves_to, moving_register, operates, prepares, reads, reads_one}
use Rattle.theory_witnesses.specs.Vocabulary.{reads_only, reads_zero, second, tells, two_registers, votes, writes}
use Rattle.theory_witnesses.specs.Vocabulary.{writes_one}

-- By a plan without thresholds nothing must close: an epoch is decided from no snapshot.
pub closes_by_another_plan : IsNeeded DecidesByPlan RecordsAreOneCopy
closes_by_another_plan =
    shows_need DecidesByPlan RecordsAreOneCopy moving_register moving_register_accepted not_one_copy
    (writes first 1 (0 ∷ []) ++ decides 2 [] ∷ installs 1 2 ∷ reads_only second 2 reads_zero (1 ∷ []))
    refl refl

-- An epoch is decided from a snapshot that no site sent.
pub snapshots_made_up : IsNeeded DecidesFromSnapshots RecordsAreOneCopy
snapshots_made_up =
    shows_need DecidesFromSnapshots RecordsAreOneCopy moving_register moving_register_accepted not_one_copy
    (writes first 1 (0 ∷ []) ++ (λ now. Decide
    (record { epoch = 2; clock = 0; log = []; snapshots = record { site = 0; clock = 0; before = [] } ∷ [] }))
    ∷ installs 1 2 ∷ reads_only second 2 reads_zero (1 ∷ []))
    refl refl

-- The third epoch is decided from what the second site told in the first, before a write of the second.
pub snapshots_of_an_older_epoch : IsNeeded DecidesNextEpoch RecordsAreOneCopy
snapshots_of_an_older_epoch =
    shows_need DecidesNextEpoch RecordsAreOneCopy moving_register moving_register_accepted not_one_copy
    (closes 1 ∷ tells 1 ∷ moves_to 2 0 1 ++ writes first 2 (1 ∷ []) ++ decides 3 (1 ∷ []) ∷ installs 2 3
    ∷ reads_only second 3 reads_zero (2 ∷ []))
    refl refl

-- An epoch is decided while the site of the one before hasn't closed.
pub closes_too_few_sites : IsNeeded ClosesEnough RecordsAreOneCopy
closes_too_few_sites =
    shows_need ClosesEnough RecordsAreOneCopy moving_register moving_register_accepted not_one_copy
    (writes first 1 (0 ∷ []) ++ decides 2 [] ∷ installs 1 2 ∷ reads_only second 2 reads_zero (1 ∷ []))
    refl refl

-- Sites count as closed that told nothing.
pub closes_of_silent_sites : IsNeeded ClosedSitesAnswered RecordsAreOneCopy
closes_of_silent_sites =
    shows_need ClosedSitesAnswered RecordsAreOneCopy moving_register moving_register_accepted not_one_copy
    (writes first 1 (0 ∷ []) ++ decides 2 [] ∷ installs 1 2 ∷ reads_only second 2 reads_zero (1 ∷ []))
    refl refl

-- An epoch is decided while a write is prepared and not yet committed; it commits after that.
pub decides_without_the_prepared : IsNeeded ResolvesPrepared RecordsAreOneCopy
decides_without_the_prepared =
    shows_need ResolvesPrepared RecordsAreOneCopy moving_register moving_register_accepted not_one_copy
    (begins first 1 ∷ operates first 0 writes_one [] (0 ∷ []) ++ prepares first ∷ votes first 0 ∷ moves_to 2 0 1
    ++ commits first ∷ reads_only second 2 reads_zero (1 ∷ []))
    refl refl

-- A transaction writes one register at one site and the other at the other, and both tell it as prepared; one entry
-- is merged for both.
pub merges_of_one_entry_for_several : IsNeeded MergesEveryEntry RecordsAreOneCopy
merges_of_one_entry_for_several =
    shows_need MergesEveryEntry RecordsAreOneCopy two_registers two_registers_accepted not_one_copy
    (begins first 1 ∷ operates first 0 writes_one [] (0 ∷ []) ++ operates first 1 writes_one [] (1 ∷ [])
    ++ commits_at first (0 ∷ 1 ∷ [])
    ++ announces first ∷ closes 0 ∷ closes 1 ∷ tells 0 ∷ tells 1
    ∷ (λ now. Decide (record (decision 2 (0 ∷ 1 ∷ []) now) { log = take 1 (decision 2 (0 ∷ 1 ∷ []) now).log }))
    ∷ installs 0 2 ∷ installs 1 2
    ∷ begins second 2 ∷ reads second 1 reads_zero (0 ∷ 1 ∷ []) ++ commits_at second (0 ∷ 1 ∷ []))
    refl refl

-- A read is prepared at the site and committed; the new clock leaves its stamp out, and a write is stamped below it.
pub decide_clocks_below_a_committed_stamp : IsNeeded DecidePassesCommitted RecordsAreOneCopy
decide_clocks_below_a_committed_stamp =
    shows_need DecidePassesCommitted RecordsAreOneCopy moving_register moving_register_accepted not_one_copy
    (reads_only second 1 reads_zero (0 ∷ []) ++ announces second ∷ closes 0 ∷ tells 0
    ∷ (λ now. Decide (record (decision 2 (0 ∷ []) now) { clock = 0 })) ∷ installs 1 2 ∷ writes first 2 (1 ∷ []))
    refl refl

-- A new epoch begins with an empty log.
pub logs_not_merged : IsNeeded MergesLogs RecordsAreOneCopy
logs_not_merged =
    shows_need MergesLogs RecordsAreOneCopy moving_register moving_register_accepted not_one_copy
    (writes first 1 (0 ∷ []) ++ closes 0 ∷ tells 0 ∷ (λ now. Decide (record (decision 2 (0 ∷ []) now) { log = [] }))
    ∷ installs 1 2
    ∷ reads_only second 2 reads_zero (1 ∷ []))
    refl refl

-- A new epoch begins with a line that no site had.
pub merges_of_lines_made_up : IsNeeded MergesOnlyCommitted RecordsAreOneCopy
merges_of_lines_made_up =
    shows_need MergesOnlyCommitted RecordsAreOneCopy moving_register moving_register_accepted not_one_copy
    (closes 0 ∷ tells 0 ∷ (λ now. Decide (record (decision 2 (0 ∷ []) now) { log = invented_line ∷ [] })) ∷ installs 1 2
    ∷ reads_only second 2 reads_one (1 ∷ []))
    refl refl

-- The new clock is below that of a snapshot, and a write is stamped below a read of the epoch before.
pub decide_clocks_below_a_snapshot : IsNeeded DecidePassesSnapshots RecordsAreOneCopy
decide_clocks_below_a_snapshot =
    shows_need DecidePassesSnapshots RecordsAreOneCopy moving_register moving_register_accepted not_one_copy
    (reads_only second 1 reads_zero (0 ∷ []) ++ ends_at second (0 ∷ []) ++ closes 0 ∷ tells 0
    ∷ (λ now. Decide (record (decision 2 (0 ∷ []) now) { clock = 0 })) ∷ installs 1 2 ∷ writes first 2 (1 ∷ []))
    refl refl

-- A site installs an epoch that wasn't decided.
pub installs_made_up : IsNeeded InstallsWhatWasDecided RecordsAreOneCopy
installs_made_up =
    shows_need InstallsWhatWasDecided RecordsAreOneCopy moving_register moving_register_accepted not_one_copy
    (writes first 1 (0 ∷ []) ++ installs 1 2 ∷ reads_only second 2 reads_zero (1 ∷ []))
    refl refl

-- A site installs its epoch once more, and loses what was written in it.
pub installs_of_the_same_epoch : IsNeeded InstallsLaterEpoch RecordsAreOneCopy
installs_of_the_same_epoch =
    shows_need InstallsLaterEpoch RecordsAreOneCopy moving_register moving_register_accepted not_one_copy
    (moves_to 2 0 1 ++ writes first 2 (1 ∷ []) ++ installs 1 2 ∷ reads_only second 2 reads_zero (1 ∷ []))
    refl refl
