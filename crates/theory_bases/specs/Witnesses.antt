-- Runs that keep the discipline of epochs, so that the laws speak of something.
use Rattle.std.specs.Prelude.{◌≡◌, ℕ, ◌<◌, IsTrue, List, [], ◌∷◌, ◌++◌, IsSome}
use Rattle.qc_stamp.specs.declared.stamp.TxId.{TxId}
use Rattle.qc_entry.specs.declared.line.Line.{Line}
use Rattle.qc_entry.specs.declared.record.Commit.{Commit as CommitRecord}
use Rattle.qc_decl.specs.declared.declaration.Declaration.{Declaration}
use Rattle.qc_decl.specs.Vocabulary.{IsAccepted}
use Rattle.qc_list.specs.Vocabulary.{In}
use Rattle.theory_onecopy.specs.Vocabulary.{Executed, depends_at}
use Rattle.theory_machine.specs.Vocabulary.{IsRun, Snapshot, State, site_after}
use Rattle.theory_witnesses.specs.Vocabulary.{Move, acts_of, begins, closes, decides, ends_at, first, first_again}
use Rattle.theory_witnesses.specs.Vocabulary.{grants_append, moves_to, operates, reads_one, reads_only, reads_zero}
use Rattle.theory_witnesses.specs.Vocabulary.{second, second_again, stamp_of, tells, writes, writes_one}
use Rattle.theory_bases.specs.Discipline.{AreDisciplined}

-- the declaration is accepted, and the story is a disciplined run over it
pub record IsDisciplinedRun (decl : Declaration) (story : List Move) : Type 0 where
  pub accepted : IsAccepted decl
  pub run : IsRun decl (acts_of story)
  pub disciplined : AreDisciplined decl (acts_of story)

-- a register moves from the first site to the second and the third, and is written before each move
abbrev pub two_moves : List Move
two_moves =
    writes first 1 (0 ∷ []) ++ moves_to 2 0 1 ++ writes first_again 2 (1 ∷ []) ++ moves_to 3 1 2

-- the line of W1, the first operation of a transaction of the first client, with this clock
abbrev pub write_line : TxId → ℕ → Line
write_line tx clock = record { stamp = stamp_of clock 0; tx = tx; op = 1; object = 0; event = 3 }

-- a register is read and written in the first epoch, moves, and is written and read in the second
abbrev pub read_and_written_in_both : List Move
read_and_written_in_both =
    reads_only second 1 reads_zero (0 ∷ []) ++ ends_at second (0 ∷ []) ++ writes first 1 (0 ∷ []) ++ moves_to 2 0 1
    ++ writes first_again 2 (1 ∷ []) ++ reads_only second_again 2 reads_one (1 ∷ [])

-- a committed operation depends on the event of another, and their epochs are ordered so: the writer's, the reader's
pub record HasDependence (decl : Declaration) (now : State) (Ordered : ℕ → ℕ → Type 0) : Type 0 where
  pub writer : CommitRecord
  pub reader : CommitRecord
  pub write : Executed
  pub read : Executed
  pub writer_stands : In writer now.records
  pub reader_stands : In reader now.records
  pub writes : In write (now.executed writer.tx)
  pub reads : In read (now.executed reader.tx)
  pub object : write.op.object ≡ read.op.object
  pub some : IsSome write.op.resp
  pub depends : IsTrue (depends_at decl read.op.object read.op.inv write.event)
  pub ordered : Ordered (now.epoch writer.tx) (now.epoch reader.tx)

-- the writer's epoch is the earlier one
abbrev pub WritesBefore : ℕ → ℕ → Type 0
WritesBefore writer reader = writer < reader

-- the writer's epoch is the later one
abbrev pub WritesAfter : ℕ → ℕ → Type 0
WritesAfter writer reader = reader < writer

-- a snapshot's clock is below the stamp of a line of its site
pub record HasLowSnapshot (now : State) : Type 0 where
  pub snapshot : Snapshot
  pub taken : In snapshot now.snapshots
  pub line : Line
  pub stands : In line (site_after snapshot.before).volatile
  pub low : snapshot.clock < line.stamp.clock

-- An Append brings a line to the third site, which never hears how the line's transaction ended, so it has no Done
-- record of it. It closes, and tells a clock of 0. The first site has the record: from what both tell the second epoch
-- is decided.
abbrev pub low_snapshot : List Move
low_snapshot =
    writes first 1 (0 ∷ []) ++ begins second 1 ∷ operates second 0 writes_one (0 ∷ []) (0 ∷ [])
    ++ grants_append second 2 ∷ closes 2 ∷ tells 2 ∷ closes 0 ∷ tells 0 ∷ decides 2 (0 ∷ 2 ∷ []) ∷ []
