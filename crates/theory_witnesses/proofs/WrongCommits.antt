-- Votes, records and verdicts that are given wrongly. Each run is one without the guard that its law names.
use Rattle.std.proofs.Common.{refl, [], ◌∷◌, ◌++◌, Some}
use Rattle.qc_decl.proofs.BuiltInRules.{one_accepted}
use Rattle.qc_decl.specs.Vocabulary.{one}
use Rattle.theory_machine.specs.Vocabulary.{AbortsBeforeRecord, AllHaveVoted, Commit, CommitsWhenVoting, Learn}
use Rattle.theory_machine.specs.Vocabulary.{LearnsWhatWasAnnounced, PreparesOnce, PreparesWhenExecuted}
use Rattle.theory_machine.specs.Vocabulary.{RecordHasOperations, RecordsPrepareWhenAsked, RisesPastRecords}
use Rattle.theory_machine.specs.Vocabulary.{RisesWithNoneRunning, StampIsItsClients, StampPassesClock}
use Rattle.theory_machine.specs.Vocabulary.{VotesInGrantedLife, VotesWhenAsked}
use Rattle.theory_witnesses.proofs.Broken.{not_apart, not_one_copy, wrong_log, wrong_verdict}
use Rattle.theory_witnesses.proofs.Needs.{shows_need}
use Rattle.theory_witnesses.specs.Vocabulary.{IsNeeded, LogsHoldOperations, RecordsAreApart, RecordsAreOneCopy}
use Rattle.theory_witnesses.specs.Vocabulary.{VerdictsAgree, aborts, announces, begins, chooses, commits, commits_at}
use Rattle.theory_witnesses.specs.Vocabulary.{ends_at, first, first_again, grants_append, operates, prepares}
use Rattle.theory_witnesses.specs.Vocabulary.{prepares_unheard, reads, reads_one, reads_only, reads_zero, record_of}
use Rattle.theory_witnesses.specs.Vocabulary.{rises, rises_at, second, sends, stamp_of, votes, writes, writes_one}

-- A transaction that was told to be given up is prepared and commits.
pub prepare_after_an_abort : IsNeeded PreparesOnce VerdictsAgree
prepare_after_an_abort =
    shows_need PreparesOnce VerdictsAgree one one_accepted wrong_verdict
    (begins first 1 ∷ aborts first ∷ announces first ∷ commits_at first [])
    refl refl

-- Prepare is sent while an Append is under way: the site votes with a line that the record lacks.
pub prepare_during_an_append : IsNeeded PreparesWhenExecuted LogsHoldOperations
prepare_during_an_append =
    shows_need PreparesWhenExecuted LogsHoldOperations one one_accepted (wrong_log 0)
    (begins first 1 ∷ chooses first 0 writes_one ∷ sends first ∷ grants_append first 0 ∷ commits_at first (0 ∷ [])
    ++ ends_at first (0 ∷ []))
    refl refl

-- A site votes before it is asked, and then grants a line that its Prepare record lacks: the write is lost.
pub votes_before_prepare : IsNeeded VotesWhenAsked RecordsAreOneCopy
votes_before_prepare =
    shows_need VotesWhenAsked RecordsAreOneCopy one one_accepted not_one_copy
    (begins first 1 ∷ votes first 0 ∷ operates first 0 writes_one [] (0 ∷ []) ++ prepares first ∷ commits first
    ∷ ends_at first (0 ∷ [])
    ++ reads_only second 1 reads_zero (0 ∷ []))
    refl refl

-- A site loses a read lock in its fall and votes in its next life; between them a write commits.
pub votes_of_another_life : IsNeeded VotesInGrantedLife RecordsAreOneCopy
votes_of_another_life =
    shows_need VotesInGrantedLife RecordsAreOneCopy one one_accepted not_one_copy
    (begins second 1 ∷ reads second 0 reads_zero (0 ∷ []) ++ rises 0 ∷ writes first 1 (0 ∷ []) ++ commits_at second
    (0 ∷ []))
    refl refl

-- A Prepare record is written before Prepare was sent; the vote keeps to it, and the write is lost.
pub prepare_records_before_prepare : IsNeeded RecordsPrepareWhenAsked RecordsAreOneCopy
prepare_records_before_prepare =
    shows_need RecordsPrepareWhenAsked RecordsAreOneCopy one one_accepted not_one_copy
    (begins first 1 ∷ prepares_unheard first 0 ∷ operates first 0 writes_one [] (0 ∷ []) ++ commits_at first (0 ∷ [])
    ++ ends_at first (0 ∷ [])
    ++ reads_only second 1 reads_zero (0 ∷ []))
    refl refl

-- A transaction's record is written twice.
pub commits_twice : IsNeeded CommitsWhenVoting RecordsAreApart
commits_twice =
    shows_need CommitsWhenVoting RecordsAreApart one one_accepted not_apart
    (begins first 1 ∷ commits_at first [] ++ commits first ∷ [])
    refl refl

-- A client commits with no votes: the site has no Prepare record, and the write is lost.
pub commits_without_votes : IsNeeded AllHaveVoted RecordsAreOneCopy
commits_without_votes =
    shows_need AllHaveVoted RecordsAreOneCopy one one_accepted not_one_copy
    (begins first 1 ∷ operates first 0 writes_one [] (0 ∷ []) ++ commits_at first [] ++ ends_at first (0 ∷ [])
    ++ reads_only second 1 reads_zero (0 ∷ []))
    refl refl

-- Two clients write one stamp.
pub stamps_of_another_client : IsNeeded StampIsItsClients RecordsAreApart
stamps_of_another_client =
    shows_need StampIsItsClients RecordsAreApart one one_accepted not_apart
    (begins first 1 ∷ commits_at first [] ++ begins second 1 ∷ prepares second
    ∷ (λ now. Commit (record (record_of second now) { stamp = stamp_of 1 0 })) ∷ [])
    refl refl

-- A read tells what was written, with a stamp below the write's.
pub stamps_that_ignore_the_clocks : IsNeeded StampPassesClock RecordsAreOneCopy
stamps_that_ignore_the_clocks =
    shows_need StampPassesClock RecordsAreOneCopy one one_accepted not_one_copy
    (writes first 1 (0 ∷ []) ++ begins second 1 ∷ reads second 0 reads_one (0 ∷ []) ++ prepares second ∷ votes second 0
    ∷ (λ now. Commit (record (record_of second now) { stamp = stamp_of 0 1 })) ∷ [])
    refl refl

-- A record has a read that wasn't executed.
pub records_of_other_operations : IsNeeded RecordHasOperations RecordsAreOneCopy
records_of_other_operations =
    shows_need RecordHasOperations RecordsAreOneCopy one one_accepted not_one_copy
    (begins first 1 ∷ prepares first
    ∷ (λ now. Commit (record (record_of first now) { ops = record { object = 0; inv = 0; resp = Some 1 } ∷ [] })) ∷ [])
    refl refl

-- A committed transaction is told to be given up.
pub aborts_after_the_record : IsNeeded AbortsBeforeRecord VerdictsAgree
aborts_after_the_record =
    shows_need AbortsBeforeRecord VerdictsAgree one one_accepted wrong_verdict
    (begins first 1 ∷ commits_at first [] ++ aborts first ∷ announces first ∷ [])
    refl refl

-- A client rises with its clock lost and its transaction running: the stamp is below that of the line that it read.
pub transactions_that_outlive_a_fall : IsNeeded RisesWithNoneRunning RecordsAreOneCopy
transactions_that_outlive_a_fall =
    shows_need RisesWithNoneRunning RecordsAreOneCopy one one_accepted not_one_copy
    (writes second 1 (0 ∷ []) ++ begins first 1 ∷ reads first 0 reads_one (0 ∷ []) ++ rises_at 0 0 ∷ commits_at first
    (0 ∷ []))
    refl refl

-- A client rises with its clock lost, and writes a stamp for the second time.
pub clients_that_forget_their_stamps : IsNeeded RisesPastRecords RecordsAreApart
clients_that_forget_their_stamps =
    shows_need RisesPastRecords RecordsAreApart one one_accepted not_apart
    (begins first 1 ∷ commits_at first [] ++ rises_at 0 0 ∷ begins first_again 1 ∷ commits_at first_again [])
    refl refl

-- A site takes a verdict that was never sent, and keeps the line of a transaction that has no record.
pub verdicts_made_up : IsNeeded LearnsWhatWasAnnounced LogsHoldOperations
verdicts_made_up =
    shows_need LearnsWhatWasAnnounced LogsHoldOperations one one_accepted (wrong_log 0)
    (begins first 1 ∷ operates first 0 writes_one [] (0 ∷ []) ++ prepares first ∷ votes first 0
    ∷ (λ now. Learn 0 (record { tx = first; stamp = Some (stamp_of 1 0) })) ∷ [])
    refl refl
