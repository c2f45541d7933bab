-- What a site is to write and to send for what it takes, and as it rises, by what its own steps show: the first row
-- that applies.
use Rattle.std.specs.Prelude.{[], ℕ, ◌+◌, ◌==◌, ◌&&◌, nat_lt, nat_le, Bool, true, false, not, if◌then◌else◌, is_some}
use Rattle.std.specs.Prelude.{List, ◌∷◌, ◌++◌, map, take, drop, fold, length, Option, Some, None, option_map}
use Rattle.std.specs.Option.{option_map_or, option_or}
use Rattle.qc_list.specs.Vocabulary.{inserted}
use Rattle.qc_stamp.specs.declared.stamp.TxId.{TxId}
use Rattle.qc_entry.specs.declared.record.Prepared.{Prepared}
use Rattle.qc_entry.specs.declared.line.Line.{Line}
use Rattle.qc_entry.specs.declared.mark.Mark.{Mark}
use Rattle.qc_entry.specs.Vocabulary.{log_of, without}
use Rattle.qc_decl.specs.declared.declaration.Declaration.{Declaration}
use Rattle.qc_decl.specs.Vocabulary.{client_actor, kind_at, most_record_bytes}
use Rattle.qc_lock.specs.declared.clash.Clash.{Clash as Conflict}
use Rattle.qc_lock.specs.declared.held.Held.{Held}
use Rattle.qc_lock.specs.Vocabulary.{append_clash, held_of, is_held, read_clash}
use Rattle.qc_msg.specs.declared.message.Answer.{Answer}
use Rattle.qc_msg.specs.declared.message.Answer.TheVariants as answers
use Rattle.qc_msg.specs.declared.message.Message.TheVariants as messages
use Rattle.qc_msg.specs.declared.message.Outcome.{Outcome}
use Rattle.qc_msg.specs.declared.message.Outcome.TheVariants.{Committed, Aborted, Active}
use Rattle.qc_msg.specs.declared.message.Want.{Want}
use Rattle.qc_msg.specs.declared.message.Want.TheVariants.{Read, Append, Prepare}
use Rattle.qc_msg.specs.declared.record.Record.{Record}
use Rattle.qc_msg.specs.declared.record.Record.TheVariants as records
use Rattle.qc_msg.specs.declared.message.Envelope.{Envelope}
use Rattle.qc_msg.specs.declared.step.Input.{Input}
use Rattle.qc_msg.specs.declared.turn.Posting.{Posting}
use Rattle.qc_msg.specs.Vocabulary.{Decided, Deed, Falls, Requested, Rises, Sends, Takes, Tells, Writes}
use Rattle.qc_msg.specs.declared.payload.EpochStart.{EpochStart}
use Rattle.qc_msg.specs.Vocabulary.{closing_in, decision_in, epoch_length, heard_in, installing_in, prepare_length}
use Rattle.qc_msg.specs.Vocabulary.{request_in, Clashing, clash_in}
use Rattle.qc_msg.specs.Vocabulary.{append_grant, grant_with, snapshot_with}
use Rattle.qc_promise.specs.Posts.{IsPostOf, TurnDue, quiet_turn, sending}
use Rattle.qc_promise.specs.SiteClocks.{clock_shown}
use Rattle.qc_promise.specs.SiteHeld.{held_shown}
use Rattle.qc_promise.specs.SiteLogs.{arrived_shown, log_shown, recorded_shown, since_shown}
use Rattle.qc_promise.specs.SitePromises.{is_promised, prepared_shown}
use Rattle.qc_promise.specs.SiteRecords.{closed_shown, epoch_shown, life_shown}
pub use Rattle.qc_entry.specs.Vocabulary.{in_order, promise_cmp}
pub use Rattle.qc_decl.specs.Vocabulary.{relation_at}

-- the refusal that the request's epoch and life are due, if any

abbrev pub life_refusal : List Deed → ℕ → Option Answer
life_refusal ds life =
    if life == 0 then None
    else (if life == life_shown ds then None else Some (answers.Restarted (life_shown ds)))

abbrev pub closed_refusal : List Deed → ℕ → Option ℕ → Option Answer
closed_refusal ds life (Some epoch) = Some (answers.Closed epoch)
closed_refusal ds life None = life_refusal ds life

abbrev pub epoch_refusal : List Deed → ℕ → ℕ → Option Answer
epoch_refusal ds epoch life =
    if nat_lt (epoch_shown ds) epoch then Some (answers.Behind (epoch_shown ds))
    else (if nat_lt epoch (epoch_shown ds) then Some (answers.Closed (epoch_shown ds))
    else closed_refusal ds life (closed_shown ds))

-- what a Prepare would promise: all that the transaction holds, and the lines that no record gives yet
abbrev pub promise_due : List Deed → TxId → Prepared
promise_due ds tx =
    let entry : Held = held_of (held_shown ds) tx in
    record {
      tx = tx;
      epoch = epoch_shown ds;
      locks = entry.locks;
      own = entry.own;
      lines = without (since_shown ds) (recorded_shown ds);
    }

abbrev pub fits_record : Prepared → Bool
fits_record p = nat_le (prepare_length p) most_record_bytes

-- the refusal that the want is due, if any: the least of what is in its way; a Prepare of what isn't held, and one
-- whose promise would be longer than a record

abbrev pub clash_told : Conflict → Answer
clash_told c = answers.Clash c.holder c.inv c.event

abbrev pub want_refusal : Declaration → List Deed → TxId → Want → Option Answer
want_refusal decl ds tx (Read read) =
    option_map clash_told (read_clash (relation_at decl read.object) (held_shown ds) tx read.object read.inv)
want_refusal decl ds tx (Append object view own) =
    option_map clash_told (append_clash (relation_at decl object) (held_shown ds) tx own)
want_refusal decl ds tx Prepare =
    if not (is_held (held_shown ds) tx) then Some answers.Stale
    else (if is_promised ds tx then None
    else (if fits_record (promise_due ds tx) then None else Some answers.Stale))

abbrev pub refusal_due : Declaration → List Deed → TxId → ℕ → ℕ → Want → Option Answer
refusal_due decl ds tx epoch life want = option_or (epoch_refusal ds epoch life) (want_refusal decl ds tx want)

-- the answer to a request that nothing refuses

-- to a Read all lines of the object, but for those that its mark counts, where that is of this life and epoch; to an
-- Append none

abbrev pub is_marked : List Deed → Mark → ℕ → Bool
is_marked ds mark count = (mark.life == life_shown ds) && ((mark.epoch == epoch_shown ds) && nat_le mark.count count)

abbrev pub lines_due : List Deed → List Line → Mark → List Line
lines_due ds lines mark = log_of (if is_marked ds mark (length lines) then drop mark.count lines else lines)

abbrev pub grant_due : List Deed → Want → Answer
grant_due ds (Read read) =
    answers.Granted
    (grant_with (life_shown ds) (clock_shown ds) (lines_due ds (arrived_shown ds read.object) read.mark)
    (length (arrived_shown ds read.object)))
grant_due ds (Append object view own) = answers.Granted (append_grant (life_shown ds) (clock_shown ds))
grant_due ds Prepare = answers.Yes (clock_shown ds)

-- the client of a transaction is asked how it stands
abbrev pub inquiry : Declaration → TxId → Posting
inquiry decl tx = record { to = client_actor decl tx.client; message = messages.Inquiry tx }

-- with a Clash that of the holder is
abbrev pub inquiries_due : Declaration → Answer → List Posting
inquiries_due decl answer = option_map_or (λ (c : Clashing). inquiry decl c.holder ∷ []) (clash_in answer) []

-- whether what a request names is declared; no run gives another one

abbrev pub names_object : Declaration → Want → Bool
names_object decl (Read read) = is_some (kind_at decl read.object)
names_object decl (Append object view own) = is_some (kind_at decl object)
names_object decl Prepare = true

abbrev pub is_declared : Declaration → TxId → Want → Bool
is_declared decl tx want = nat_lt tx.client decl.clients && names_object decl want

-- the turn of a request: its answer goes to its sender, and a promise that doesn't stand yet is written before it is
-- answered; where that failed, the answer is Fault

abbrev pub answers_due : Declaration → ℕ → ℕ → Answer → List Posting
answers_due decl from number answer =
    record { to = from; message = messages.Answer number answer } ∷ inquiries_due decl answer

abbrev pub promise_turn : List Deed → ℕ → ℕ → TxId → TurnDue
promise_turn ds from number tx =
    record {
      write = Some (records.Prepare (promise_due ds tx));
      sends = record { to = from; message = messages.Answer number (answers.Yes (clock_shown ds)) } ∷ [];
      failed_sends = record { to = from; message = messages.Answer number answers.Fault } ∷ [];
    }

abbrev pub is_new_promise : List Deed → TxId → Want → Bool
is_new_promise ds tx (Read read) = false
is_new_promise ds tx (Append object view own) = false
is_new_promise ds tx Prepare = not (is_promised ds tx)

abbrev pub granting_turn : Declaration → List Deed → Envelope → Requested → TurnDue
granting_turn decl ds e q =
    if is_new_promise ds q.tx q.want then promise_turn ds e.from e.number q.tx
    else sending (answers_due decl e.from e.number (grant_due ds q.want))

abbrev pub request_turn : Declaration → List Deed → Envelope → Requested → TurnDue
request_turn decl ds e q =
    if is_declared decl q.tx q.want
    then option_map_or (λ (a : Answer). sending (answers_due decl e.from e.number a))
    (refusal_due decl ds q.tx q.epoch q.life q.want) (granting_turn decl ds e q)
    else quiet_turn

-- that of a Decision: that a promised transaction committed is written

abbrev pub done_turn : List Deed → TxId → Outcome → TurnDue
done_turn ds tx (Committed stamp) =
    if is_promised ds tx
    then record { write = Some (records.Done tx stamp.clock); sends = []; failed_sends = [] }
    else quiet_turn
done_turn ds tx Aborted = quiet_turn
done_turn ds tx Active = quiet_turn

-- a turn that writes before it answers; where that failed, the answer is Fault
abbrev pub recording_turn : Envelope → Record → Answer → TurnDue
recording_turn e written answer =
    record {
      write = Some written;
      sends = record { to = e.from; message = messages.Answer e.number answer } ∷ [];
      failed_sends = record { to = e.from; message = messages.Answer e.number answers.Fault } ∷ [];
    }

abbrev pub telling_turn : Envelope → Answer → TurnDue
telling_turn e answer = sending (record { to = e.from; message = messages.Answer e.number answer } ∷ [])

-- that of a Close: a closed site tells its clock, its log, and its promises in the order of their transactions

abbrev pub promises_told : List Prepared → List Prepared
promises_told ps = fold (inserted promise_cmp) [] ps

abbrev pub shut_due : List Deed → Answer
shut_due ds = answers.Shut (snapshot_with (clock_shown ds) (log_shown ds) (promises_told (prepared_shown ds)))

abbrev pub is_epoch : ℕ → Option ℕ → Bool
is_epoch k closed = option_map_or (λ (n : ℕ). n == k) closed false

abbrev pub close_turn : List Deed → Envelope → ℕ → TurnDue
close_turn ds e k =
    if nat_lt (epoch_shown ds + 1) k then telling_turn e (answers.Behind (epoch_shown ds))
    else (if nat_le k (epoch_shown ds) then telling_turn e (answers.Closed (epoch_shown ds))
    else (if is_epoch k (closed_shown ds) then telling_turn e (shut_due ds)
    else recording_turn e (records.Close k) (shut_due ds)))

-- that of an Install: it is written, where the site's epoch is an earlier one and the record isn't too long

abbrev pub install_turn : List Deed → Envelope → EpochStart → TurnDue
install_turn ds e i =
    if nat_le i.epoch (epoch_shown ds) then telling_turn e answers.Installed
    else (if nat_le (epoch_length i.lines) most_record_bytes
    then recording_turn e (records.Install i) answers.Installed
    else telling_turn e (answers.Behind (epoch_shown ds)))

-- nothing else has one
abbrev pub heard_turn : Declaration → List Deed → Envelope → TurnDue
heard_turn decl ds e =
    option_map_or (request_turn decl ds e) (request_in e.message)
    (option_map_or (λ (x : Decided). done_turn ds x.tx x.verdict) (decision_in e.message)
    (option_map_or (close_turn ds e) (closing_in e.message)
    (option_map_or (install_turn ds e) (installing_in e.message) quiet_turn)))

abbrev pub turn_due : Declaration → List Deed → Input → TurnDue
turn_due decl ds given = option_map_or (heard_turn decl ds) (heard_in given) quiet_turn

-- that of a rise: it writes so, and then asks the clients of the transactions that it has promised, in their order, of
-- no more than the first 65,536

abbrev pub rising_turn : Declaration → List Deed → TurnDue
rising_turn decl ds =
    record {
      write = Some records.Life;
      sends = map (inquiry decl) (take 65536 (in_order (map (λ (p : Prepared). p.tx) (prepared_shown ds))));
      failed_sends = [];
    }

-- what a site posts for an input is due, the deeds up to its take being ds, and those after it after; an input that
-- nothing comes after may be open still
abbrev pub IsDueOrOpen : Declaration → List Deed → Input → List Deed → Type 0
IsDueOrOpen decl ds given [] = Unit {0}
IsDueOrOpen decl ds given (d ∷ after) = IsPostOf (turn_due decl ds given) (d ∷ after)

-- for each input and each rise of a site, what it posts for it is due; before are the deeds before these

abbrev pub IsDueAt : Declaration → List Deed → Deed → List Deed → Type 0
IsDueAt decl before (Takes given) after = IsDueOrOpen decl (before ++ Takes given ∷ []) given after
IsDueAt decl before (Writes written) after = Unit {0}
IsDueAt decl before (Sends number to message) after = Unit {0}
IsDueAt decl before (Tells reply) after = Unit {0}
IsDueAt decl before (Falls cause pending) after = Unit {0}
IsDueAt decl before (Rises kept) after = IsPostOf (rising_turn decl (before ++ Rises kept ∷ [])) after

abbrev pub AreDue : Declaration → List Deed → List Deed → Type 0
AreDue decl before [] = Unit {0}
AreDue decl before (d ∷ after) = IsDueAt decl before d after × AreDue decl (before ++ d ∷ []) after
