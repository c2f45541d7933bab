-- Every run of the protocol runs_keep_the_guarantees each guarantee.
use Rattle.std.proofs.Common.{List, ◌∷◌, subst}
use Rattle.qc_entry.specs.declared.record.Commit.{Commit as CommitRecord}
use Rattle.qc_decl.specs.Vocabulary.{IsAccepted}
use Rattle.qc_decl.specs.declared.declaration.Declaration.{Declaration}
use Rattle.theory_machine.proofs.ClaimLaws.{records_are_apart, follows, logs_hold_operations, runs_are_one_copy}
use Rattle.theory_machine.proofs.ClaimLaws.{verdicts_agree}
use Rattle.theory_machine.proofs.OrderingLaw.{dependent_operations_are_ordered}
use Rattle.theory_machine.specs.Vocabulary.{Act, Commit, FollowsSeen, IsRun, state}
use Rattle.theory_witnesses.specs.Vocabulary.{Guarantee, Holds, LastRecordFollowsSeen, LogsHoldOperations}
use Rattle.theory_witnesses.specs.Vocabulary.{OperationsAreOrdered, RecordsAreApart, RecordsAreOneCopy, VerdictsAgree}

follows_seen : (decl : Declaration) → IsAccepted decl → (commit : CommitRecord) (older : List Act)
    → IsRun decl (Commit commit ∷ older) → FollowsSeen (state older) commit
follows_seen decl accepted commit older run = follows decl accepted older run.1 commit run.0

pub runs_keep_the_guarantees : (guarantee : Guarantee) (decl : Declaration) (acts : List Act) → IsAccepted decl
    → IsRun decl acts
    → Holds guarantee decl acts
runs_keep_the_guarantees RecordsAreOneCopy decl acts accepted run = runs_are_one_copy decl accepted acts run
runs_keep_the_guarantees RecordsAreApart decl acts accepted run = records_are_apart decl accepted acts run
runs_keep_the_guarantees LogsHoldOperations decl acts accepted run =
    λ log is line h. logs_hold_operations decl accepted acts run log is line h
runs_keep_the_guarantees VerdictsAgree decl acts accepted run =
    λ verdict h. verdicts_agree decl accepted acts run verdict h
runs_keep_the_guarantees LastRecordFollowsSeen decl acts accepted run =
    λ commit older e. follows_seen decl accepted commit older (subst (IsRun decl) e run)
runs_keep_the_guarantees OperationsAreOrdered decl acts accepted run =
    λ c d earlier later. dependent_operations_are_ordered decl accepted acts run c d earlier later
