-- What the protocol guarantees of all that was done.
use Rattle.std.specs.Prelude.{◌≡◌, ◌≢◌, ◌<◌, ◌⊎◌, IsSome, IsTrue, List, ◌∷◌}
use Rattle.qc_decl.specs.declared.declaration.Declaration.{Declaration}
use Rattle.qc_entry.specs.declared.line.Line.{Line}
use Rattle.qc_entry.specs.declared.record.Commit.{Commit as CommitRecord}
use Rattle.theory_onecopy.specs.Vocabulary.{AreApart, Executed, IsLogged, OneCopy, committed_line, depends_at, own_line}
use Rattle.theory_onecopy.specs.Vocabulary.{sorted}
use Rattle.qc_list.specs.Vocabulary.{In}
use Rattle.theory_machine.specs.Vocabulary.{Act, Commit, FollowsSeen, IsLogOf, IsVerdictOf, Verdict, state}

-- the guarantees by name; `Holds` says what each is
pub data Guarantee : Type 0 where
  RecordsAreOneCopy : Guarantee
  RecordsAreApart : Guarantee
  LogsHoldOperations : Guarantee
  VerdictsAgree : Guarantee
  LastRecordFollowsSeen : Guarantee
  OperationsAreOrdered : Guarantee

-- what a guarantee says of acts, newest first
abbrev pub Holds : Guarantee → Declaration → List Act → Type 0
-- the records, in the order of their stamps, are one copy's of each object
Holds RecordsAreOneCopy decl acts = OneCopy decl (sorted (state acts).records)
-- no two records have one stamp, or one transaction
Holds RecordsAreApart decl acts = AreApart (state acts).records
-- each line of each log, of a site or a message, is an operation of a record
Holds LogsHoldOperations decl acts =
    (log : List Line) → IsLogOf (state acts) log → (line : Line) → In line log → IsLogged decl (state acts).records line
-- each verdict that was sent is the records'
Holds VerdictsAgree decl acts =
    (verdict : Verdict) → In verdict (state acts).verdicts → IsVerdictOf (state acts).records verdict.tx verdict.stamp
-- what its client had learned of as the last record was written has records with smaller clocks
Holds LastRecordFollowsSeen decl acts =
    (commit : CommitRecord) (older : List Act) → acts ≡ Commit commit ∷ older → FollowsSeen (state older) commit
-- where the invocation of a committed operation depends on the event of another transaction's, its view has the line of
-- this, or its stamp is smaller
Holds OperationsAreOrdered decl acts =
    (c d : CommitRecord) (earlier later : Executed) → In c (state acts).records → In d (state acts).records
    → In earlier ((state acts).executed c.tx) → In later ((state acts).executed d.tx) → c.stamp ≢ d.stamp
    → earlier.op.object ≡ later.op.object → IsSome earlier.op.resp
    → IsTrue (depends_at decl later.op.object later.op.inv earlier.event)
    → In (committed_line c.stamp c.tx (own_line earlier)) later.view ⊎ (d.stamp.clock < c.stamp.clock)
