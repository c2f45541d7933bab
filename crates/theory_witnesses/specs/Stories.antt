-- Longer parts of the stories that runs are told as.
use Rattle.std.specs.Prelude.{ℕ, List, [], ◌∷◌, ◌++◌, map, flat_map, Some, None}
use Rattle.qc_entry.specs.declared.line.Line.{Line}
use Rattle.qc_entry.specs.declared.line.OwnLine.{OwnLine}
use Rattle.qc_stamp.specs.declared.stamp.Stamp.{Stamp}
use Rattle.qc_stamp.specs.declared.stamp.TxId.{TxId}
use Rattle.theory_witnesses.specs.Moves.{Call, Move, announces, begins, chooses, closes, commits, counts, decides}
use Rattle.theory_witnesses.specs.Moves.{executes, grants_append, grants_read, installs, learns, prepares, sends, tells}
use Rattle.theory_witnesses.specs.Moves.{votes}

-- transactions of three clients
abbrev pub first : TxId
first = record { client = 0; life = 1; number = 1 }

-- of the second client
abbrev pub second : TxId
second = record { client = 1; life = 1; number = 1 }

-- of the third client
abbrev pub third : TxId
third = record { client = 2; life = 1; number = 1 }

-- the register's calls
abbrev pub reads_zero : Call
reads_zero = record { inv = 0; resp = Some 0; event = 0 }

-- R is told 1
abbrev pub reads_one : Call
reads_one = record { inv = 0; resp = Some 1; event = 1 }

-- W0 is told ok
abbrev pub writes_zero : Call
writes_zero = record { inv = 1; resp = Some 2; event = 2 }

-- W1 is told ok
abbrev pub writes_one : Call
writes_one = record { inv = 2; resp = Some 2; event = 3 }

-- the sites grant read locks, and the client counts them
abbrev pub locks : TxId → List ℕ → ℕ → ℕ → List Move
locks tx sites object inv = flat_map (λ site. grants_read tx site object inv ∷ counts tx site ∷ []) sites

-- an operation is read for and appended, at these sites
abbrev pub operates : TxId → ℕ → Call → List ℕ → List ℕ → List Move
operates tx object call readers writers =
    locks tx readers object call.inv
    ++ chooses tx object call ∷ sends tx ∷ flat_map (λ site. grants_append tx site ∷ counts tx site ∷ []) writers
    ++ executes tx ∷ []

-- one whose event has no final threshold is appended nowhere
abbrev pub reads : TxId → ℕ → Call → List ℕ → List Move
reads tx object call readers = locks tx readers object call.inv ++ chooses tx object call ∷ executes tx ∷ []

-- the sites vote, and the client writes its record
abbrev pub commits_at : TxId → List ℕ → List Move
commits_at tx sites = prepares tx ∷ map (votes tx) sites ++ commits tx ∷ []

-- the client tells how the transaction ended, and the sites learn it
abbrev pub ends_at : TxId → List ℕ → List Move
ends_at tx sites = announces tx ∷ map (learns tx) sites

-- a transaction that writes 1 at these sites in an epoch, commits and is learned of
abbrev pub writes : TxId → ℕ → List ℕ → List Move
writes tx epoch sites = begins tx epoch ∷ operates tx 0 writes_one [] sites ++ commits_at tx sites ++ ends_at tx sites

-- a transaction that reads at these sites in an epoch, and commits
abbrev pub reads_only : TxId → ℕ → Call → List ℕ → List Move
reads_only tx epoch call sites = begins tx epoch ∷ reads tx 0 call sites ++ commits_at tx sites

-- the quorums move: a site is closed and tells what it has, an epoch is decided from this, and another site installs it
abbrev pub moves_to : ℕ → ℕ → ℕ → List Move
moves_to epoch from to = closes from ∷ tells from ∷ decides epoch (from ∷ []) ∷ installs to epoch ∷ []

-- an invocation that the register lacks
abbrev pub asks_the_unknown : Call
asks_the_unknown = record { inv = 7; resp = None; event = 0 }

-- the calls of a latch, and of a ticket
abbrev pub arms : Call
arms = record { inv = 0; resp = Some 0; event = 0 }

-- Fire is told ok
abbrev pub fires : Call
fires = record { inv = 1; resp = Some 0; event = 1 }

-- Look is told that it has not fired
abbrev pub looks_unfired : Call
looks_unfired = record { inv = 2; resp = Some 1; event = 2 }

-- Take is told ok
abbrev pub takes : Call
takes = record { inv = 0; resp = Some 0; event = 0 }

-- Take has no response
abbrev pub takes_none : Call
takes_none = record { inv = 0; resp = None; event = 0 }

-- grants of the chosen operation's Append, counted
abbrev pub appends_at : TxId → List ℕ → List Move
appends_at tx sites = flat_map (λ site. grants_append tx site ∷ counts tx site ∷ []) sites

-- second transactions of the first and the second client
abbrev pub second_again : TxId
second_again = record { client = 1; life = 1; number = 2 }

-- of the first client
abbrev pub first_again : TxId
first_again = record { client = 0; life = 1; number = 2 }

-- the stamp of a clock and a client
abbrev pub stamp_of : ℕ → ℕ → Stamp
stamp_of clock client = record { clock = clock; client = client }

-- a write that nobody executed: as a line, and as a first and a second own line
abbrev pub invented_line : Line
invented_line = record { stamp = stamp_of 1 0; tx = first; op = 1; object = 0; event = 3 }

-- the same as an own line, the first of its transaction
abbrev pub first_line : OwnLine
first_line = record { op = 1; object = 0; event = 3 }

-- an own line of a second operation, a write of 0
abbrev pub second_line : OwnLine
second_line = record { op = 2; object = 0; event = 2 }
