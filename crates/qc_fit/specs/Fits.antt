-- Whether a record that stands in an actor's journal is one that this actor may have written over this declaration.
use Rattle.std.specs.Prelude.{ℕ, Bool, ◌&&◌, ◌||◌, nat_lt, List}
use Rattle.std.specs.List.{list_all}
use Rattle.qc_decl.specs.Vocabulary.{is_client, is_site}
use Rattle.qc_decl.specs.declared.declaration.Declaration.{Declaration}
use Rattle.qc_entry.specs.declared.line.Line.{Line}
use Rattle.qc_entry.specs.declared.line.Op.{Op}
use Rattle.qc_entry.specs.declared.line.OwnLine.{OwnLine}
use Rattle.qc_entry.specs.declared.line.ReadLock.{ReadLock}
use Rattle.qc_entry.specs.declared.record.Prepared.{Prepared}
use Rattle.qc_fit.specs.Numbers.{has_client, has_epoch, has_event, has_invocation, has_response, is_administrator}
use Rattle.qc_fit.specs.Numbers.{is_clock, is_this_client, most_records}
use Rattle.qc_msg.specs.declared.record.Record.{Record}
use Rattle.qc_msg.specs.declared.record.Record.TheVariants as records

-- Parts of records. A stamp's client is its transaction's, by the format.

abbrev pub is_lock_fit : Declaration → ReadLock → Bool
is_lock_fit decl lock = has_invocation decl lock.object lock.inv

abbrev pub is_own_fit : Declaration → OwnLine → Bool
is_own_fit decl own = has_event decl own.object own.event

abbrev pub is_line_fit : Declaration → Line → Bool
is_line_fit decl line =
    is_clock line.stamp.clock && (has_client decl line.tx.client && has_event decl line.object line.event)

abbrev pub is_op_fit : Declaration → Op → Bool
is_op_fit decl op = has_invocation decl op.object op.inv && has_response decl op.object op.resp

abbrev pub is_prepared_fit : Declaration → Prepared → Bool
is_prepared_fit decl p = has_client decl p.tx.client && (has_epoch decl p.epoch && (list_all (is_lock_fit decl) p.locks
    && (list_all (is_own_fit decl) p.own && list_all (is_line_fit decl) p.lines)))

-- the epoch, clock and lines of an Install or a Decide
abbrev pub is_start_fit : Declaration → ℕ → ℕ → List Line → Bool
is_start_fit decl epoch clock lines =
    has_epoch decl epoch && (is_clock clock && list_all (is_line_fit decl) lines)

-- Who writes a record of each kind, and what has to be declared in it: each actor that rises writes Life; sites write
-- Prepare, Done, Close and Install; a client writes Commits of its own; the administrator writes Decide.
abbrev pub is_of : Declaration → ℕ → Record → Bool
is_of decl actor records.Life = is_site decl actor || (is_client decl actor || is_administrator decl actor)
is_of decl actor (records.Prepare p) = is_site decl actor && is_prepared_fit decl p
is_of decl actor (records.Done tx clock) = is_site decl actor && (has_client decl tx.client && is_clock clock)
is_of decl actor (records.Close epoch) = is_site decl actor && has_epoch decl epoch
is_of decl actor (records.Install start) = is_site decl actor && is_start_fit decl start.epoch start.clock start.lines
is_of decl actor (records.Commit c) =
    is_this_client decl actor c.tx.client && (is_clock c.stamp.clock && list_all (is_op_fit decl) c.ops)
is_of decl actor (records.Decide start) =
    is_administrator decl actor && is_start_fit decl start.epoch start.clock start.lines

-- whether a record fits its actor, behind so many others in its journal
abbrev pub fits : Declaration → ℕ → ℕ → Record → Bool
fits decl actor before rec = nat_lt before most_records && is_of decl actor rec
