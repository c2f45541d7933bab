-- Histories whose records don't follow what their clients had seen, and such as do: one site, two clients, and a line
-- of a transaction of the second one.
use Rattle.std.specs.Prelude.{ℕ, List, [], ◌∷◌}
use Rattle.qc_decl.specs.declared.declaration.Declaration.{Declaration}
use Rattle.qc_entry.specs.declared.line.Line.{Line}
use Rattle.qc_entry.specs.declared.record.Commit.{Commit}
use Rattle.qc_msg.specs.declared.message.Answer.TheVariants.{Granted}
use Rattle.qc_msg.specs.declared.message.Message.TheVariants.{Answer, Request}
use Rattle.qc_msg.specs.declared.message.Want.TheVariants.{Read}
use Rattle.qc_msg.specs.declared.record.Record.TheVariants as records
use Rattle.qc_msg.specs.declared.reply.Reply.TheVariants.{Began, Committed, Dropped}
use Rattle.qc_msg.specs.declared.step.Step.TheVariants.{Got, Lost, Sent, Told, Wrote}
use Rattle.qc_msg.specs.Vocabulary.{Entry, marked}
use Rattle.qc_msg.specs.Vocabulary.{first_read, whole_grant}
use Rattle.qc_stamp.specs.declared.stamp.Stamp.{Stamp}
use Rattle.qc_stamp.specs.declared.stamp.TxId.{TxId}

-- the site is actor 0, the clients are 1 and 2
abbrev pub decl : Declaration
decl =
    record { sites = 1; clients = 2; kinds = []; objects = []; plans = []; kind_names = []; object_names = [] }

-- the transaction of the second client, and two of the first one
abbrev pub theirs : TxId
theirs = record { client = 1; life = 1; number = 1 }

abbrev pub first : TxId
first = record { client = 0; life = 1; number = 1 }

abbrev pub second : TxId
second = record { client = 0; life = 1; number = 2 }

abbrev pub stamp : ℕ → ℕ → Stamp
stamp clock client = record { clock = clock; client = client }

abbrev pub commit : TxId → Stamp → Commit
commit tx at = record { stamp = at; tx = tx; ops = [] }

abbrev pub line : Line
line = record { stamp = stamp 5 1; tx = theirs; op = 1; object = 0; event = 0 }

-- steps

abbrev pub they_commit : Entry
they_commit = marked 2 (Wrote (records.Commit (commit theirs (stamp 5 1))))

abbrev pub begins : TxId → Entry
begins tx = marked 1 (Told (Began tx))

abbrev pub asks : Entry
asks = marked 1 (Sent 0 0 (Request first 1 0 (Read (first_read 0 0))))

abbrev pub is_granted : Entry
is_granted = marked 0 (Sent 1 1 (Answer 0 (Granted (whole_grant 1 5 (line ∷ [])))))

abbrev pub hears : Entry
hears = marked 1 (Got 1)

abbrev pub loses : Entry
loses = marked 1 (Lost 0)

abbrev pub writes : TxId → ℕ → Entry
writes tx clock = marked 1 (Wrote (records.Commit (commit tx (stamp clock 0))))

abbrev pub is_told : ℕ → Entry
is_told clock = marked 1 (Told (Committed (stamp clock 0)))

-- a grant that counts shows the line, and the transaction commits at this clock: 4 is below the line's, 6 above it
abbrev pub counting : ℕ → List Entry
counting clock =
    they_commit ∷ begins first ∷ asks ∷ is_granted ∷ hears ∷ writes first clock ∷ is_told clock ∷ []

-- the line's transaction has no record
abbrev pub unrecorded : List Entry
unrecorded = begins first ∷ asks ∷ is_granted ∷ hears ∷ writes first 6 ∷ is_told 6 ∷ []

-- the line was shown in an earlier transaction, which is given up
abbrev pub earlier : List Entry
earlier =
    they_commit ∷ begins first ∷ asks ∷ is_granted ∷ hears ∷ marked 1 (Told Dropped)
    ∷ begins second ∷ writes second 4 ∷ is_told 4 ∷ []

-- the client is told of a commit, and the next one is at a smaller stamp
abbrev pub falling : List Entry
falling =
    begins first ∷ writes first 5 ∷ is_told 5 ∷ begins second ∷ writes second 4 ∷ is_told 4 ∷ []

-- the grant comes once the request was taken for lost, and doesn't count
abbrev pub late : List Entry
late =
    they_commit ∷ begins first ∷ asks ∷ loses ∷ is_granted ∷ hears ∷ writes first 4 ∷ is_told 4 ∷ []
