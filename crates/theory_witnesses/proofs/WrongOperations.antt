-- Operations that are begun, chosen and answered wrongly. Each run is one without the guard that its law names.
use Rattle.std.proofs.Common.{refl, [], ◌∷◌, ◌++◌}
use Rattle.qc_decl.proofs.BuiltInRules.{one_accepted, three_accepted}
use Rattle.qc_decl.specs.Vocabulary.{one, three}
use Rattle.theory_machine.specs.Vocabulary.{AbsentHasNoResponse, AnswersFromView, BeginsInPlannedEpoch, BeginsOnce}
use Rattle.theory_machine.specs.Vocabulary.{Choose, ChoosesOneAtATime, ChosenHasResponse, InvocationIsDeclared}
use Rattle.theory_machine.specs.Vocabulary.{OperatesWhileActive, OperationsAreNumbered, OwnLinesAreKept}
use Rattle.theory_machine.specs.Vocabulary.{ReadQuorumIsMet, ViewIsWhole, ViewWasShown}
use Rattle.theory_witnesses.proofs.Accepted.{extra_store_accepted, ticket_store_accepted}
use Rattle.theory_witnesses.proofs.Broken.{not_apart, not_one_copy, wrong_log}
use Rattle.theory_witnesses.proofs.Disorder.{not_ordered}
use Rattle.theory_witnesses.proofs.Needs.{shows_need}
use Rattle.theory_witnesses.specs.Vocabulary.{IsNeeded, LogsHoldOperations, OperationsAreOrdered, RecordsAreApart}
use Rattle.theory_witnesses.specs.Vocabulary.{RecordsAreOneCopy, asks_the_unknown, begins, chooses, commits, commits_at}
use Rattle.theory_witnesses.specs.Vocabulary.{counts, ends_at, executes, extra_store, finds_absent, first}
use Rattle.theory_witnesses.specs.Vocabulary.{grants_append, invented_line, locks, operates, operation, prepares}
use Rattle.theory_witnesses.specs.Vocabulary.{reads_one, reads_only, reads_zero, second, sends, takes, takes_none}
use Rattle.theory_witnesses.specs.Vocabulary.{ticket_store, votes, writes, writes_one, writes_zero}

-- A transaction begins again after its commit, and commits again.
pub transactions_that_begin_twice : IsNeeded BeginsOnce RecordsAreApart
transactions_that_begin_twice =
    shows_need BeginsOnce RecordsAreApart one one_accepted not_apart
    (begins first 1 ∷ commits_at first [] ++ begins first 1 ∷ commits_at first [])
    refl refl

-- In an epoch without a plan nothing needs a quorum, and a read asks nobody.
pub epochs_without_a_plan : IsNeeded BeginsInPlannedEpoch RecordsAreOneCopy
epochs_without_a_plan =
    shows_need BeginsInPlannedEpoch RecordsAreOneCopy one one_accepted not_one_copy
    (writes first 1 (0 ∷ []) ++ reads_only second 9 reads_zero [])
    refl refl

-- A write is chosen and appended after Prepare; the site votes with its line, which the record lacks.
pub operations_after_prepare : IsNeeded OperatesWhileActive LogsHoldOperations
operations_after_prepare =
    shows_need OperatesWhileActive LogsHoldOperations one one_accepted (wrong_log 0)
    (begins first 1 ∷ prepares first ∷ chooses first 0 writes_one ∷ sends first ∷ grants_append first 0 ∷ votes first 0
    ∷ commits first ∷ ends_at first (0 ∷ []))
    refl refl

-- A second write is chosen while the first is appended: the site has a line of each, under one number.
pub two_operations_at_once : IsNeeded ChoosesOneAtATime LogsHoldOperations
two_operations_at_once =
    shows_need ChoosesOneAtATime LogsHoldOperations one one_accepted (wrong_log 0)
    (begins first 1 ∷ chooses first 0 writes_zero ∷ sends first ∷ grants_append first 0 ∷ operates first 0 writes_one []
    (0 ∷ [])
    ++ commits_at first (0 ∷ []) ++ ends_at first (0 ∷ []))
    refl refl

-- A read of an empty log tells 1.
pub replies_that_no_view_allows : IsNeeded AnswersFromView RecordsAreOneCopy
replies_that_no_view_allows =
    shows_need AnswersFromView RecordsAreOneCopy one one_accepted not_one_copy
    (reads_only second 1 reads_one (0 ∷ []))
    refl refl

-- An invocation that the register lacks, but its relation names, is answered absent without a look at the write on
-- which it depends.
pub invocations_that_a_type_lacks : IsNeeded InvocationIsDeclared OperationsAreOrdered
invocations_that_a_type_lacks =
    shows_need InvocationIsDeclared OperationsAreOrdered extra_store extra_store_accepted not_ordered
    (writes first 1 (0 ∷ []) ++ begins second 1 ∷ finds_absent second 0 asks_the_unknown ∷ commits_at second [])
    refl refl

-- A first operation calls itself the seventh, and so does its line.
pub operations_with_other_numbers : IsNeeded OperationsAreNumbered LogsHoldOperations
operations_with_other_numbers =
    shows_need OperationsAreNumbered LogsHoldOperations one one_accepted (wrong_log 0)
    (begins first 1 ∷ (λ now. Choose first (record (operation first 0 writes_one now) { number = 7 })) ∷ sends first
    ∷ grants_append first 0
    ∷ counts first 0 ∷ executes first ∷ commits_at first (0 ∷ []) ++ ends_at first (0 ∷ []))
    refl refl

-- A transaction writes 1 and then reads 0, as it leaves out its own line.
pub own_writes_forgotten : IsNeeded OwnLinesAreKept RecordsAreOneCopy
own_writes_forgotten =
    shows_need OwnLinesAreKept RecordsAreOneCopy one one_accepted not_one_copy
    (begins first 1 ∷ operates first 0 writes_one [] (0 ∷ []) ++ locks first (0 ∷ []) 0 0
    ++ (λ now. Choose first (record (operation first 0 reads_zero now) { own = [] })) ∷ executes first
    ∷ commits_at first (0 ∷ []))
    refl refl

-- A read tells 1 from a line that no site has.
pub views_made_up : IsNeeded ViewWasShown RecordsAreOneCopy
views_made_up =
    shows_need ViewWasShown RecordsAreOneCopy one one_accepted not_one_copy
    (begins second 1 ∷ locks second (0 ∷ []) 0 0
    ++ (λ now. Choose second (record (operation second 0 reads_one now) { view = invented_line ∷ [] }))
    ∷ executes second ∷ commits_at second (0 ∷ []))
    refl refl

-- A read leaves out the line that it was shown, and tells 0.
pub lines_left_out_of_views : IsNeeded ViewIsWhole RecordsAreOneCopy
lines_left_out_of_views =
    shows_need ViewIsWhole RecordsAreOneCopy one one_accepted not_one_copy
    (writes first 1 (0 ∷ []) ++ begins second 1 ∷ locks second (0 ∷ []) 0 0
    ++ (λ now. Choose second (record (operation second 0 reads_zero now) { view = [] })) ∷ executes second
    ∷ commits_at second (0 ∷ []))
    refl refl

-- A read asks nobody for a lock, and tells 0 after a write.
pub reads_without_locks : IsNeeded ReadQuorumIsMet RecordsAreOneCopy
reads_without_locks =
    shows_need ReadQuorumIsMet RecordsAreOneCopy one one_accepted not_one_copy
    (writes first 1 (0 ∷ []) ++ reads_only second 1 reads_zero [])
    refl refl

-- A write is at two sites of three, and a read asks the third alone.
pub reads_at_too_few_sites : IsNeeded ReadQuorumIsMet RecordsAreOneCopy
reads_at_too_few_sites =
    shows_need ReadQuorumIsMet RecordsAreOneCopy three three_accepted not_one_copy
    (writes first 1 (0 ∷ 1 ∷ []) ++ reads_only second 1 reads_zero (2 ∷ []))
    refl refl

-- A Take without a response is appended, as if it had been told ok.
pub absent_operations_appended : IsNeeded ChosenHasResponse LogsHoldOperations
absent_operations_appended =
    shows_need ChosenHasResponse LogsHoldOperations ticket_store ticket_store_accepted (wrong_log 0)
    (begins first 1 ∷ operates first 0 takes (0 ∷ []) (0 ∷ []) ++ chooses first 0 takes_none ∷ sends first
    ∷ grants_append first 0
    ∷ counts first 0 ∷ executes first ∷ commits_at first (0 ∷ []) ++ ends_at first (0 ∷ []))
    refl refl

-- A write is told with no append, and a later read doesn't see it.
pub writes_without_an_append : IsNeeded AbsentHasNoResponse RecordsAreOneCopy
writes_without_an_append =
    shows_need AbsentHasNoResponse RecordsAreOneCopy one one_accepted not_one_copy
    (begins first 1 ∷ finds_absent first 0 writes_one ∷ commits_at first [] ++ reads_only second 1 reads_zero (0 ∷ []))
    refl refl
