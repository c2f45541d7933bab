-- The form of each kind of record, part by part. Numbers have their highest byte first.
use Rattle.std.specs.Prelude.{ℕ, ◌+◌, ◌-◌, ◌^◌, Bool, true, not, ◌==◌, ◌||◌, if◌then◌else◌, List, [], ◌∷◌, ◌++◌, length}
use Rattle.std.specs.Prelude.{Option, Some, None, Result, Ok, Err}
use Rattle.byteorder.specs.Endian.{big_bytes}
use Rattle.qc_entry.specs.declared.line.Line.{Line}
use Rattle.qc_entry.specs.declared.line.Op.{Op}
use Rattle.qc_entry.specs.declared.line.OwnLine.{OwnLine}
use Rattle.qc_entry.specs.declared.line.ReadLock.{ReadLock}
use Rattle.qc_entry.specs.declared.record.Commit.{Commit}
use Rattle.qc_entry.specs.declared.record.Prepared.{Prepared}
use Rattle.qc_msg.specs.declared.record.Record.{Record}
use Rattle.qc_msg.specs.declared.record.Record.TheVariants as records
use Rattle.qc_msg.specs.Vocabulary.{start_with}
use Rattle.qc_record.specs.declared.fault.RecordFault.{RecordFault}
use Rattle.qc_record.specs.declared.fault.RecordFault.TheVariants as faults
use Rattle.qc_record.specs.Form.{Form, ◌>>=◌, field, nothing, both, shaped, counted, within, climb, top, all_of}
use Rattle.qc_stamp.specs.declared.stamp.TxId.{TxId}

abbrev pub always : {A : Type 0} → A → Bool
always _ = true

-- Numbers.

abbrev pub greatest_clock : ℕ
greatest_clock = 2 ^ 62

abbrev pub client_form : Form ℕ
client_form = field 1 (within 0 15)

-- a life, or a transaction's number in it
abbrev pub ordinal_form : Form ℕ
ordinal_form = field 4 (within 1 (2 ^ 32 - 1))

abbrev pub epoch_form : Form ℕ
epoch_form = field 1 (within 1 8)

-- the clock of a stamp
abbrev pub stamp_clock_form : Form ℕ
stamp_clock_form = field 8 (within 1 greatest_clock)

-- the clock that an epoch begins with
abbrev pub start_clock_form : Form ℕ
start_clock_form = field 8 (within 0 greatest_clock)

abbrev pub object_form : Form ℕ
object_form = field 1 (within 0 15)

abbrev pub invocation_form : Form ℕ
invocation_form = field 1 (within 0 31)

abbrev pub event_form : Form ℕ
event_form = field 1 (within 0 63)

-- A response, or 255 where there is none.

abbrev pub is_response : ℕ → Bool
is_response n = within 0 31 n || (n == 255)

abbrev pub response_of : ℕ → Option ℕ
response_of n = if n == 255 then None else Some n

abbrev pub response_number : Option ℕ → ℕ
response_number None = 255
response_number (Some n) = n

abbrev pub has_response_number : Option ℕ → Bool
has_response_number None = true
has_response_number (Some n) = not (n == 255)

abbrev pub response_form : Form (Option ℕ)
response_form = shaped response_of response_number has_response_number (field 1 is_response)

-- A transaction's name: client, life, number.

abbrev pub tx_of : ℕ × (ℕ × ℕ) → TxId
tx_of (client, (life, number)) = record { client = client; life = life; number = number }

abbrev pub tx_parts : TxId → ℕ × (ℕ × ℕ)
tx_parts tx = (tx.client, (tx.life, tx.number))

abbrev pub tx_form : Form TxId
tx_form = shaped tx_of tx_parts always (both client_form (λ _. both ordinal_form (λ _. ordinal_form)))

-- A read lock: object, invocation. Locks ascend by both.

abbrev pub lock_floor : Option ReadLock → List ℕ
lock_floor None = []
lock_floor (Some lock) = lock.object ∷ lock.inv ∷ []

abbrev pub lock_of : ℕ × ℕ → ReadLock
lock_of (object, inv) = record { object = object; inv = inv }

abbrev pub lock_parts : ReadLock → ℕ × ℕ
lock_parts lock = (lock.object, lock.inv)

abbrev pub lock_numbers : List ℕ → Form (ℕ × ℕ)
lock_numbers floor = climb 1 0 15 floor (λ floor. top 1 0 31 floor)

abbrev pub lock_after : List ℕ → Form ReadLock
lock_after floor = shaped lock_of lock_parts always (lock_numbers floor)

abbrev pub lock_form : Option ReadLock → Form ReadLock
lock_form before = lock_after (lock_floor before)

-- An own line: operation, object, event. Own lines ascend by operation.

abbrev pub own_floor : Option OwnLine → List ℕ
own_floor None = []
own_floor (Some own) = own.op ∷ []

abbrev pub own_of : ℕ × (ℕ × ℕ) → OwnLine
own_of (op, (object, event)) = record { op = op; object = object; event = event }

abbrev pub own_parts : OwnLine → ℕ × (ℕ × ℕ)
own_parts own = (own.op, (own.object, own.event))

abbrev pub own_after : List ℕ → Form OwnLine
own_after floor = shaped own_of own_parts always (both (top 1 1 16 floor) (λ _. both object_form (λ _. event_form)))

abbrev pub own_form : Option OwnLine → Form OwnLine
own_form before = own_after (own_floor before)

-- A line: clock, transaction, operation, object, event. Lines ascend by all of them. A stamp's client is the
-- transaction's.

abbrev pub line_floor : Option Line → List ℕ
line_floor None = []
line_floor (Some l) = l.stamp.clock ∷ l.tx.client ∷ l.tx.life ∷ l.tx.number ∷ l.op ∷ l.object ∷ l.event ∷ []

abbrev pub line_of : ℕ × (ℕ × (ℕ × (ℕ × (ℕ × (ℕ × ℕ))))) → Line
line_of (clock, (client, (life, (number, (op, (object, event)))))) = record {
  stamp = record { clock = clock; client = client };
  tx = record { client = client; life = life; number = number };
  op = op;
  object = object;
  event = event;
}

abbrev pub line_parts : Line → ℕ × (ℕ × (ℕ × (ℕ × (ℕ × (ℕ × ℕ)))))
line_parts l = (l.stamp.clock, (l.tx.client, (l.tx.life, (l.tx.number, (l.op, (l.object, l.event))))))

abbrev pub is_own_stamp : Line → Bool
is_own_stamp l = l.stamp.client == l.tx.client

-- its fields, from each on

abbrev pub from_event : List ℕ → Form ℕ
from_event floor = top 1 0 63 floor

abbrev pub from_object : List ℕ → Form (ℕ × ℕ)
from_object floor = climb 1 0 15 floor from_event

abbrev pub from_op : List ℕ → Form (ℕ × (ℕ × ℕ))
from_op floor = climb 1 1 16 floor from_object

abbrev pub from_number : List ℕ → Form (ℕ × (ℕ × (ℕ × ℕ)))
from_number floor = climb 4 1 (2 ^ 32 - 1) floor from_op

abbrev pub from_life : List ℕ → Form (ℕ × (ℕ × (ℕ × (ℕ × ℕ))))
from_life floor = climb 4 1 (2 ^ 32 - 1) floor from_number

abbrev pub from_client : List ℕ → Form (ℕ × (ℕ × (ℕ × (ℕ × (ℕ × ℕ)))))
from_client floor = climb 1 0 15 floor from_life

abbrev pub line_numbers : List ℕ → Form (ℕ × (ℕ × (ℕ × (ℕ × (ℕ × (ℕ × ℕ))))))
line_numbers floor = climb 8 1 greatest_clock floor from_client

abbrev pub line_after : List ℕ → Form Line
line_after floor = shaped line_of line_parts is_own_stamp (line_numbers floor)

abbrev pub line_form : Option Line → Form Line
line_form before = line_after (line_floor before)

-- An operation: object, invocation, response. Operations stand in the order of their numbers.

abbrev pub op_of : ℕ × (ℕ × Option ℕ) → Op
op_of (object, (inv, resp)) = record { object = object; inv = inv; resp = resp }

abbrev pub op_parts : Op → ℕ × (ℕ × Option ℕ)
op_parts op = (op.object, (op.inv, op.resp))

abbrev pub op_form : Option Op → Form Op
op_form before = shaped op_of op_parts always (both object_form (λ _. both invocation_form (λ _. response_form)))

-- Lists, each behind its count.

abbrev pub locks_form : Form (List ReadLock)
locks_form = counted 2 (within 0 (2 ^ 16 - 1)) lock_form

abbrev pub owns_form : Form (List OwnLine)
owns_form = counted 1 (within 0 16) own_form

abbrev pub lines_form : Form (List Line)
lines_form = counted 4 (within 0 (2 ^ 32 - 1)) line_form

abbrev pub ops_form : Form (List Op)
ops_form = counted 1 (within 0 16) op_form

-- What stands behind the kind.

abbrev pub prepared_of : TxId × (ℕ × (List ReadLock × (List OwnLine × List Line))) → Prepared
prepared_of (tx, (epoch, (locks, (own, lines)))) = record {
  tx = tx;
  epoch = epoch;
  locks = locks;
  own = own;
  lines = lines;
}

abbrev pub prepared_parts : Prepared → TxId × (ℕ × (List ReadLock × (List OwnLine × List Line)))
prepared_parts p = (p.tx, (p.epoch, (p.locks, (p.own, p.lines))))

abbrev pub prepared_form : Form Prepared
prepared_form = shaped prepared_of prepared_parts always
    (both tx_form (λ _. both epoch_form (λ _. both locks_form (λ _. both owns_form (λ _. lines_form)))))

abbrev pub done_form : Form (TxId × ℕ)
done_form = both tx_form (λ _. stamp_clock_form)

abbrev pub start_form : Form (ℕ × (ℕ × List Line))
start_form = both epoch_form (λ _. both start_clock_form (λ _. lines_form))

abbrev pub commit_of : TxId × (ℕ × List Op) → Commit
commit_of (tx, (clock, ops)) = record { stamp = record { clock = clock; client = tx.client }; tx = tx; ops = ops }

abbrev pub commit_parts : Commit → TxId × (ℕ × List Op)
commit_parts c = (c.tx, (c.stamp.clock, c.ops))

abbrev pub has_own_stamp : Commit → Bool
has_own_stamp c = c.stamp.client == c.tx.client

abbrev pub commit_form : Form Commit
commit_form = shaped commit_of commit_parts has_own_stamp (both tx_form (λ _. both stamp_clock_form (λ _. ops_form)))

-- Whether a record has a spelling; `Legal.antt` says it in words.
abbrev pub is_legal : Record → Bool
is_legal records.Life = true
is_legal (records.Prepare p) = prepared_form.is_legal p
is_legal (records.Done tx clock) = done_form.is_legal (tx, clock)
is_legal (records.Close epoch) = epoch_form.is_legal epoch
is_legal (records.Install start) = start_form.is_legal (start.epoch, (start.clock, start.lines))
is_legal (records.Commit c) = commit_form.is_legal c
is_legal (records.Decide start) = start_form.is_legal (start.epoch, (start.clock, start.lines))

-- a record's one spelling
abbrev pub spelled : Record → List ℕ
spelled records.Life = 1 ∷ []
spelled (records.Prepare p) = 2 ∷ prepared_form.spelled p
spelled (records.Done tx clock) = 3 ∷ done_form.spelled (tx, clock)
spelled (records.Close epoch) = 4 ∷ epoch_form.spelled epoch
spelled (records.Install start) = 5 ∷ start_form.spelled (start.epoch, (start.clock, start.lines))
spelled (records.Commit c) = 6 ∷ commit_form.spelled c
spelled (records.Decide start) = 7 ∷ start_form.spelled (start.epoch, (start.clock, start.lines))

abbrev pub done_of : TxId × ℕ → Record
done_of (tx, clock) = records.Done tx clock

abbrev pub install_of : ℕ × (ℕ × List Line) → Record
install_of (epoch, (clock, lines)) = records.Install (start_with epoch clock lines)

abbrev pub decide_of : ℕ × (ℕ × List Line) → Record
decide_of (epoch, (clock, lines)) = records.Decide (start_with epoch clock lines)

-- the record that the bytes behind its kind give, with what stands behind it
abbrev pub body_at : {A : Type 0} → (A → Record) → Form A → List ℕ → Result (Record × List ℕ) ℕ
body_at shape form bytes = form.read bytes >>= λ x. Ok (shape x.0, x.1)

-- the fault by its place: a field out of range or order, the end of bytes in a field, or what stands behind the last
abbrev pub placed : ℕ → Result Record ℕ → Result Record RecordFault
placed size (Ok rec) = Ok rec
placed size (Err left) = Err (faults.Torn (size - left))

-- the record that is all of the bytes behind the kind
abbrev pub whole_at : {A : Type 0} → (A → Record) → Form A → List ℕ → Result Record RecordFault
whole_at shape form rest = placed (length rest + 1) (all_of (body_at shape form rest))

-- the record that a kind and the bytes behind it spell
abbrev pub kind_at : ℕ → List ℕ → Result Record RecordFault
kind_at kind rest =
    if kind == 1 then whole_at (λ _. records.Life) nothing rest
    else if kind == 2 then whole_at records.Prepare prepared_form rest
    else if kind == 3 then whole_at done_of done_form rest
    else if kind == 4 then whole_at records.Close epoch_form rest
    else if kind == 5 then whole_at install_of start_form rest
    else if kind == 6 then whole_at records.Commit commit_form rest
    else if kind == 7 then whole_at decide_of start_form rest
    else Err (faults.Unknown kind)

-- the record that bytes spell, or what is wrong with them
abbrev pub record_at : List ℕ → Result Record RecordFault
record_at [] = Err (faults.Torn 0)
record_at (kind ∷ rest) = kind_at kind rest

-- a record as it stands in a journal, behind a gate and its length
abbrev pub framed : Record → List ℕ
framed rec = 1 ∷ big_bytes 4 (length (spelled rec)) ++ spelled rec

-- the bytes of a record in a journal
abbrev pub most_bytes : ℕ
most_bytes = 65536
