-- What the definitions refuse: runs of the machine that don't keep the discipline, and what goes wrong in them; and
-- short sites that aren't.
use Rattle.std.specs.Prelude.{◌≡◌, ℕ, ◌<◌, List, [], ◌∷◌, ◌++◌}
use Rattle.qc_stamp.specs.declared.stamp.TxId.{TxId}
use Rattle.qc_entry.specs.declared.line.Line.{Line}
use Rattle.qc_decl.specs.declared.declaration.Declaration.{Declaration}
use Rattle.qc_decl.specs.Vocabulary.{IsAccepted}
use Rattle.qc_list.specs.Vocabulary.{In}
use Rattle.theory_onecopy.specs.Vocabulary.{Executed}
use Rattle.theory_machine.specs.Vocabulary.{Decide, Decision, Deed, Grants, Installs, IsRun, State, epoch_from}
use Rattle.theory_machine.specs.Vocabulary.{site_after, state}
use Rattle.theory_witnesses.specs.Vocabulary.{Move, aborts, acts_of, appends_at, begins, chooses, closes, commits_at}
use Rattle.theory_witnesses.specs.Vocabulary.{decides, decision, ends_at, executes, first, first_again, grants_append}
use Rattle.theory_witnesses.specs.Vocabulary.{installs, locks, moves_to, operates, reads_one, reads_zero, second, sends}
use Rattle.theory_witnesses.specs.Vocabulary.{shares, takes_share, tells, third, writes, writes_one}
use Rattle.theory_bases.specs.Belongs.{BelongsNow}
use Rattle.theory_bases.specs.Discipline.{AreDisciplined}
use Rattle.theory_bases.specs.Witnesses.{write_line}

-- a run of the machine, over an accepted declaration, that isn't disciplined, and after which something is so
pub record IsUndisciplinedRun (decl : Declaration) (story : List Move) (Broken : State → Type 0) : Type 0 where
  pub accepted : IsAccepted decl
  pub run : IsRun decl (acts_of story)
  pub undisciplined : AreDisciplined decl (acts_of story) → ⊥
  pub broken : Broken (state (acts_of story))

-- two decisions of one epoch stand
pub record HasTwoDecisions (now : State) : Type 0 where
  pub one : Decision
  pub other : Decision
  pub first_stands : In one now.decided
  pub second_stands : In other now.decided
  pub epochs : one.epoch ≡ other.epoch
  pub apart : one ≡ other → ⊥

-- a site's log lacks a line of the log of a decision of the site's epoch
pub record HasMissedLine (now : State) : Type 0 where
  pub site : ℕ
  pub decision : Decision
  pub line : Line
  pub stands : In decision now.decided
  pub epoch : epoch_from 1 (now.deeds site) ≡ decision.epoch
  pub merged : In line decision.log
  pub missed : In line (site_after (now.deeds site)).volatile → ⊥

-- a site's log has a line that doesn't belong to the site's epoch
pub record HasStrayLine (decl : Declaration) (now : State) : Type 0 where
  pub site : ℕ
  pub line : Line
  pub stands : In line (site_after (now.deeds site)).volatile
  pub stray : BelongsNow decl now (epoch_from 1 (now.deeds site)) line → ⊥

-- a client executed an operation of this transaction, and its view has a line of a later epoch
pub record HasLaterView (now : State) : Type 0 where
  pub tx : TxId
  pub operation : Executed
  pub executed : In operation (now.executed tx)
  pub line : Line
  pub seen : In line operation.view
  pub later : now.epoch tx < now.epoch line.tx

-- the second epoch is decided, and once more with a later clock
abbrev pub decided_twice : List Move
decided_twice =
    closes 0 ∷ tells 0 ∷ decides 2 (0 ∷ [])
    ∷ (λ now. Decide (record (decision 2 (0 ∷ []) now) { clock = 5 })) ∷ []

-- The second epoch is decided with two logs: a line without a final threshold is at the third site alone. The first log
-- is made from the other two, and the second site installs it; the second log is made from the first and the third
-- site.
abbrev pub decided_with_two_logs : List Move
decided_with_two_logs =
    begins second 1 ∷ locks second (1 ∷ 2 ∷ []) 0 0 ++ chooses second 0 reads_zero ∷ sends second
    ∷ appends_at second (2 ∷ []) ++ executes second ∷ commits_at second (1 ∷ 2 ∷ []) ++ ends_at second (1 ∷ 2 ∷ [])
    ++ closes 0 ∷ closes 1 ∷ closes 2 ∷ tells 0 ∷ tells 1 ∷ tells 2
    ∷ decides 2 (0 ∷ 1 ∷ []) ∷ installs 1 2 ∷ decides 2 (0 ∷ 2 ∷ []) ∷ []

-- A line is written in the second epoch. Then the Append of another write brings it to the third site, which is still
-- in the first epoch.
abbrev pub granted_in_another_epoch : List Move
granted_in_another_epoch =
    moves_to 2 0 1 ++ writes first 2 (1 ∷ [])
    ++ begins first_again 2 ∷ operates first_again 0 writes_one (1 ∷ []) (1 ∷ []) ++ grants_append first_again 2 ∷ []

-- A line is written in the second epoch, and its site shares its log. The third site takes it, which is still in the
-- first epoch.
abbrev pub shared_with_another_epoch : List Move
shared_with_another_epoch =
    moves_to 2 0 1 ++ writes first 2 (1 ∷ []) ++ shares first 1 ∷ takes_share first 2 1 ∷ []

-- As where the Append is granted. The second write is given up, and a transaction of the first epoch, which has its
-- quorum at the first site, asks the third site too: it sees that line.
abbrev pub seen_in_another_epoch : List Move
seen_in_another_epoch =
    begins third 1 ∷ locks third (0 ∷ []) 0 0 ++ granted_in_another_epoch
    ++ aborts first_again ∷ ends_at first_again (2 ∷ [])
    ++ locks third (2 ∷ []) 0 0 ++ chooses third 0 reads_one ∷ executes third ∷ []

-- a read is appended, though its event has no final threshold, and its line joins the log as it commits
abbrev pub appended_without_threshold : List Move
appended_without_threshold =
    begins second 1 ∷ locks second (0 ∷ []) 0 0 ++ chooses second 0 reads_zero ∷ sends second
    ∷ appends_at second (0 ∷ []) ++ executes second ∷ commits_at second (0 ∷ []) ++ ends_at second (0 ∷ [])

-- the deeds of a site that installs a line and is granted a view with this line and another; and what a short site does
abbrev pub whole_deeds : List Deed
whole_deeds =
    Installs 2 1 (write_line first 1 ∷ []) ∷ Grants second [] (write_line first 1 ∷ write_line first_again 2 ∷ []) ∷ []

-- it is sent one line of the view
abbrev pub short_deeds : List Deed
short_deeds = Installs 2 1 (write_line first 1 ∷ []) ∷ Grants second [] (write_line first_again 2 ∷ []) ∷ []

-- it is sent nothing of the view
abbrev pub shorter_deeds : List Deed
shorter_deeds = Installs 2 1 (write_line first 1 ∷ []) ∷ Grants second [] [] ∷ []
