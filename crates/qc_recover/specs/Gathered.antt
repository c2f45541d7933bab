-- What comes in any order and several times, as the list of what it comes to: the log of lines, and the last commit
-- record of each transaction.
use Rattle.std.specs.Prelude.{List, [], ◌∷◌, fold}
use Rattle.qc_entry.specs.declared.line.Line.{Line}
use Rattle.qc_entry.specs.declared.record.Commit.{Commit}
use Rattle.qc_entry.specs.Vocabulary.{union}
use Rattle.qc_recover.specs.Clients.{with_commit}

abbrev pub with_line : List Line → Line → List Line
with_line lines line = union lines (line ∷ [])

abbrev pub log_of : List Line → List Line
log_of lines = fold with_line [] lines

abbrev pub last_of : List Commit → List Commit
last_of commits = fold with_commit [] commits
