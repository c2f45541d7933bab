-- Events that are appended wrongly. Each run is one without the guard that its law names.
use Rattle.std.proofs.Common.{refl, [], ◌∷◌, ◌++◌}
use Rattle.qc_decl.proofs.BuiltInRules.{one_accepted, three_accepted}
use Rattle.qc_decl.specs.Vocabulary.{one, three}
use Rattle.theory_onecopy.specs.Vocabulary.{own_line}
use Rattle.theory_machine.specs.Vocabulary.{AppendCarriesEarlierLines, AppendCarriesOnlyOwnLines, AppendCarriesView}
use Rattle.theory_machine.specs.Vocabulary.{AppendQuorumIsMet, AppendsWhatIsChosen, Own, SendAppend}
use Rattle.theory_witnesses.proofs.Accepted.{latch_store_accepted}
use Rattle.theory_witnesses.proofs.Broken.{not_one_copy, wrong_log}
use Rattle.theory_witnesses.proofs.Needs.{shows_need}
use Rattle.theory_witnesses.specs.Vocabulary.{IsNeeded, LogsHoldOperations, RecordsAreOneCopy, append_of, appends_at}
use Rattle.theory_witnesses.specs.Vocabulary.{arms, begins, chooses, chosen_append, commits_at, ends_at, executes}
use Rattle.theory_witnesses.specs.Vocabulary.{fires, first, grants_append, latch_store, locks, looks_unfired, operates}
use Rattle.theory_witnesses.specs.Vocabulary.{operation, reads_only, reads_zero, second, second_line, third, writes}
use Rattle.theory_witnesses.specs.Vocabulary.{writes_one}

-- A transaction that has chosen nothing sends a line, and its record lacks it.
pub appends_of_nothing_chosen : IsNeeded AppendsWhatIsChosen LogsHoldOperations
appends_of_nothing_chosen =
    shows_need AppendsWhatIsChosen LogsHoldOperations one one_accepted (wrong_log 0)
    (begins first 1 ∷ (λ now. SendAppend (append_of first (operation first 0 writes_one now))) ∷ grants_append first 0
    ∷ commits_at first (0 ∷ []) ++ ends_at first (0 ∷ []))
    refl refl

-- A latch is armed at one site. Its Fire is appended at both, without the Arm that it saw; a look at the other site
-- finds it unfired.
pub views_not_sent_along : IsNeeded AppendCarriesView RecordsAreOneCopy
views_not_sent_along =
    shows_need AppendCarriesView RecordsAreOneCopy latch_store latch_store_accepted not_one_copy
    (begins first 1 ∷ operates first 0 arms [] (0 ∷ []) ++ commits_at first (0 ∷ []) ++ ends_at first (0 ∷ [])
    ++ begins second 1 ∷ locks second (0 ∷ 1 ∷ []) 0 1 ++ chooses second 0 fires
    ∷ (λ now. SendAppend (record (chosen_append second now) { view = [] })) ∷ appends_at second (0 ∷ 1 ∷ [])
    ++ executes second
    ∷ commits_at second (0 ∷ 1 ∷ []) ++ ends_at second (0 ∷ 1 ∷ []) ++ reads_only third 1 looks_unfired (1 ∷ []))
    refl refl

-- An Append has a line more than its transaction has operations.
pub appends_of_other_lines : IsNeeded AppendCarriesOnlyOwnLines LogsHoldOperations
appends_of_other_lines =
    shows_need AppendCarriesOnlyOwnLines LogsHoldOperations one one_accepted (wrong_log 0)
    (begins first 1 ∷ chooses first 0 writes_one
    ∷ (λ now. SendAppend (record (chosen_append first now)
    { items = Own (own_line (operation first 0 writes_one now)) ∷ Own second_line ∷ [] }))
    ∷ appends_at first (0 ∷ []) ++ executes first ∷ commits_at first (0 ∷ []) ++ ends_at first (0 ∷ []))
    refl refl

-- A transaction arms a latch at one site and fires it at both, without the line of its Arm; a look at the other finds
-- it unfired.
pub earlier_lines_not_sent_along : IsNeeded AppendCarriesEarlierLines RecordsAreOneCopy
earlier_lines_not_sent_along =
    shows_need AppendCarriesEarlierLines RecordsAreOneCopy latch_store latch_store_accepted not_one_copy
    (begins first 1 ∷ operates first 0 arms [] (0 ∷ []) ++ locks first (0 ∷ 1 ∷ []) 0 1 ++ chooses first 0 fires
    ∷ (λ now. SendAppend (record (chosen_append first now)
    { items = Own (own_line (operation first 0 fires now)) ∷ [] }))
    ∷ appends_at first (0 ∷ 1 ∷ []) ++ executes first ∷ commits_at first (0 ∷ 1 ∷ []) ++ ends_at first (0 ∷ 1 ∷ [])
    ++ reads_only third 1 looks_unfired (1 ∷ []))
    refl refl

-- A write is met by one site of three, and a read by the other two.
pub quorums_that_do_not_meet : IsNeeded AppendQuorumIsMet RecordsAreOneCopy
quorums_that_do_not_meet =
    shows_need AppendQuorumIsMet RecordsAreOneCopy three three_accepted not_one_copy
    (writes first 1 (0 ∷ []) ++ reads_only second 1 reads_zero (1 ∷ 2 ∷ []))
    refl refl
