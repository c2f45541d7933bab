-- Two runs of the protocol, in which it does what it is for: transactions commit, whatever befalls sites, clients and
-- messages.
use Rattle.std.specs.Prelude.{◌≡◌, ℕ, true, List, [], ◌∷◌, ◌++◌, Some}
use Rattle.qc_decl.specs.Vocabulary.{IsAccepted}
use Rattle.qc_decl.specs.declared.declaration.Declaration.{Declaration}
use Rattle.qc_entry.specs.declared.line.Line.{Line}
use Rattle.qc_entry.specs.declared.line.Op.{Op}
use Rattle.qc_entry.specs.declared.record.Commit.{Commit as CommitRecord}
use Rattle.theory_onecopy.specs.Vocabulary.{committed_line, sorted}
use Rattle.theory_machine.specs.Vocabulary.{IsAllowed, IsRun, site_after, state}
use Rattle.theory_witnesses.specs.Moves.{Move, acts_of, aborts, announces, begins, chooses, closes, decides, executes}
use Rattle.theory_witnesses.specs.Moves.{falls_committing, grants_append, grants_read, installs, learns, prepares}
use Rattle.theory_witnesses.specs.Moves.{recovers, rises, rises_at, sends, tells, votes}
use Rattle.theory_witnesses.specs.Shares.{shares, takes_share}
use Rattle.theory_witnesses.specs.Stories.{appends_at, commits_at, ends_at, first, locks, reads, reads_one, second}
use Rattle.theory_witnesses.specs.Stories.{first_line, second_again, stamp_of, third, writes, writes_one}
use Rattle.qc_stamp.specs.declared.stamp.TxId.{TxId}

-- the declaration is accepted, the story is a run, and just these records were written, in the order of their stamps
pub record Commits (decl : Declaration) (story : List Move) (records : List CommitRecord) : Type 0 where
  pub accepted : IsAccepted decl
  pub run : IsRun decl (acts_of story)
  pub committed : sorted (state (acts_of story)).records ≡ records

-- a move that isn't allowed after a story
abbrev pub IsRefused : Declaration → List Move → Move → Type 0
IsRefused decl story move = IsAllowed decl (state (acts_of story)) (move (state (acts_of story))) → ⊥

-- the record of a transaction with this clock and these operations
abbrev pub commit_record : TxId → ℕ → List Op → CommitRecord
commit_record tx clock ops = record { stamp = stamp_of clock tx.client; tx = tx; ops = ops }

-- W1 was told ok
abbrev pub one_written : Op
one_written = record { object = 0; inv = 2; resp = Some 2 }

-- R was told 1
abbrev pub one_read : Op
one_read = record { object = 0; inv = 0; resp = Some 1 }

-- a write at two sites of three, not yet committed
abbrev pub write_under_way : List Move
write_under_way =
    begins first 1 ∷ chooses first 0 writes_one ∷ sends first ∷ appends_at first (0 ∷ 1 ∷ []) ++ executes first ∷ []

-- a read that the third site grants, and the second doesn't: it is in conflict with the write, and its transaction
-- gives up
abbrev pub conflict : Move
conflict = grants_read second 1 0 0

-- a read of another transaction, with the lock of the third site
abbrev pub read_under_way : List Move
read_under_way = begins second 1 ∷ locks second (2 ∷ []) 0 0

-- In one epoch: the writer's client falls with its commit record pending, and a site that has voted falls too. Both
-- rise, the client with its record, and the second site learns late of the commit. The other client tries again, reads
-- what was written at the second and the third site, and commits. Then the third site grants a late copy of the first
-- Append, and the first site learns of both.
abbrev pub one_epoch : List Move
one_epoch =
    write_under_way ++ read_under_way ++ aborts second ∷ announces second ∷ learns second 2
    ∷ prepares first ∷ votes first 0 ∷ votes first 1 ∷ falls_committing first ∷ rises 1 ∷ recovers first true
    ∷ rises_at 0 1 ∷ announces first ∷ learns first 1 ∷ begins second_again 1
    ∷ reads second_again 0 reads_one (1 ∷ 2 ∷ [])
    ++ commits_at second_again (1 ∷ 2 ∷ []) ++ ends_at second_again (1 ∷ 2 ∷ [])
    ++ grants_append first 2 ∷ learns first 2 ∷ learns first 0 ∷ []

-- the two records of that run
abbrev pub one_epoch_records : List CommitRecord
one_epoch_records = commit_record first 1 (one_written ∷ []) ∷ commit_record second_again 2 (one_read ∷ []) ∷ []

-- Over two epochs: a write is committed at two sites, of which one still has it prepared as both close. The new epoch
-- is decided from what they tell. After that a transaction of the old epoch commits, to which the third site had
-- granted a lock that met no quorum. A read of the new epoch finds what was written, at the second and the third site.
abbrev pub two_epochs : List Move
two_epochs =
    write_under_way ++ commits_at first (0 ∷ 1 ∷ []) ++ ends_at first (1 ∷ [])
    ++ begins third 1 ∷ locks third (2 ∷ []) 0 0
    ++ closes 0 ∷ closes 1 ∷ tells 0 ∷ tells 1 ∷ decides 2 (0 ∷ 1 ∷ [])
    ∷ commits_at third (2 ∷ [])
    ++ installs 1 2 ∷ installs 2 2 ∷ begins second 2 ∷ reads second 0 reads_one (1 ∷ 2 ∷ [])
    ++ commits_at second (1 ∷ 2 ∷ [])

-- the three records of that run
abbrev pub two_epochs_records : List CommitRecord
two_epochs_records =
    commit_record first 1 (one_written ∷ []) ∷ commit_record third 1 [] ∷ commit_record second 2 (one_read ∷ []) ∷ []

-- a site's log after a story
abbrev pub log_at : ℕ → List Move → List Line
log_at site story = (site_after ((state (acts_of story)).deeds site)).volatile

-- after the one story a site knew nothing; the other one, a run over an accepted declaration, brings it these lines
pub record Brings (decl : Declaration) (before after : List Move) (site : ℕ) (lines : List Line) : Type 0 where
  pub accepted : IsAccepted decl
  pub run : IsRun decl (acts_of after)
  pub missed : log_at site before ≡ []
  pub brought : log_at site after ≡ lines

-- a write is committed at two sites of three
abbrev pub missed_write : List Move
missed_write = writes first 1 (0 ∷ 1 ∷ [])

-- The first of them shares its log, and the third site takes it. Then this one falls, which loses what wasn't recorded,
-- and takes a late copy.
abbrev pub shared_write : List Move
shared_write =
    missed_write ++ shares first 0 ∷ takes_share first 2 0 ∷ rises 2 ∷ takes_share first 2 0 ∷ []

-- the line of that write
abbrev pub written_line : Line
written_line = committed_line (stamp_of 1 0) first first_line
