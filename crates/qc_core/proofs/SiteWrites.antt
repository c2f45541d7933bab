-- A site's turns tell nothing, and write no record of a rise; and what they answer, where the record fails too, it was
-- asked for.
use Rattle.std.proofs.Common.{◌≡◌, ℕ, ◌+◌, not, nat_le, nat_lt, Bool, true, false, cond, List, Option, Some, None}
use Rattle.std.proofs.Common.{refl, ap}
use Rattle.qc_stamp.specs.declared.stamp.Stamp.{Stamp}
use Rattle.qc_stamp.specs.declared.stamp.TxId.{TxId}
use Rattle.qc_entry.specs.declared.line.Line.{Line}
use Rattle.qc_entry.specs.declared.record.Prepared.{Prepared}
use Rattle.qc_decl.specs.declared.declaration.Declaration.{Declaration}
use Rattle.qc_decl.specs.Vocabulary.{most_record_bytes}
use Rattle.qc_lock.specs.declared.clash.Clash.{Clash as Conflict}
use Rattle.std.specs.List.{AllByRecursion as Every}
use Rattle.qc_msg.specs.declared.message.Envelope.{Envelope}
use Rattle.qc_msg.specs.declared.turn.Posting.{Posting}
use Rattle.qc_msg.specs.declared.turn.Turn.{Turn}
use Rattle.qc_msg.specs.Vocabulary.{Answered, answer_in, epoch_length, heard_in, quiet}
use Rattle.qc_promise.specs.Vocabulary.{asks_answer, other}
use Rattle.qc_lock.specs.Vocabulary.{append_clash, is_held, read_clash}
use Rattle.qc_plan.specs.Vocabulary.{verdict}
use Rattle.qc_msg.specs.declared.message.Answer.{Answer}
use Rattle.qc_msg.specs.declared.message.Answer.TheVariants as answers
use Rattle.qc_msg.specs.declared.message.Message.{Message}
use Rattle.qc_msg.specs.declared.message.Message.TheVariants as messages
use Rattle.qc_msg.specs.declared.message.Outcome.{Outcome}
use Rattle.qc_msg.specs.declared.message.Outcome.TheVariants.{Committed, Aborted, Active}
use Rattle.qc_msg.specs.declared.message.Want.{Want}
use Rattle.qc_msg.specs.declared.message.Want.TheVariants.{Read, Append, Prepare}
use Rattle.qc_msg.specs.declared.record.Record.{Record}
use Rattle.qc_msg.specs.declared.record.Record.TheVariants as records
use Rattle.qc_msg.specs.declared.step.Input.{Input}
use Rattle.qc_msg.specs.declared.step.Input.TheVariants as inputs
use Rattle.qc_msg.specs.declared.turn.Appended.TheVariants.{Done}
use Rattle.qc_msg.specs.Vocabulary.{append_grant, start_with}
use Rattle.qc_msg.specs.declared.payload.ReadRequest.{ReadRequest}
use Rattle.qc_site.specs.Vocabulary.{SiteState, answers as answered_with, appends_by, clashing, closed, closes}
use Rattle.qc_site.specs.Vocabulary.{fault_of, finishes, grants, installed, installs, is_closed_for, is_prepared, joins}
use Rattle.qc_site.specs.Vocabulary.{grant_told, moved as site_moved, names_declared, passed, prepare_length}
use Rattle.qc_site.specs.Vocabulary.{prepared_of}
use Rattle.qc_site.specs.Vocabulary.{prepares, promise_of, promised, reads_by, recording, records_done, relation_at}
use Rattle.qc_site.specs.Vocabulary.{requested, shut_answer, site_at, site_takes, votes}

-- a turn that tells nothing, and writes no record of a rise; what it answers, where its record fails too, it was asked
-- for

abbrev pub writes_no_life : Option Record → Bool
writes_no_life None = true
writes_no_life (Some written) = other written

-- an answer to what was taken goes to who asked for it

abbrev pub IsAnsweredTo : Option Envelope → ℕ → Option Answered → Type 0
IsAnsweredTo o to None = Unit {0}
IsAnsweredTo None to (Some a) = ⊥
IsAnsweredTo (Some e) to (Some a) = (a.to ≡ e.number) × ((to ≡ e.from) × (asks_answer e.message ≡ true))

abbrev pub IsAnswerTo : Input → Posting → Type 0
IsAnswerTo g p = IsAnsweredTo (heard_in g) p.to (answer_in p.message)

pub record IsSiteTurn (g : Input) (t : Turn) : Type 0 where
  pub append : t.append ≡ Done
  pub told : t.told ≡ None
  pub failed : t.failed_told ≡ None
  pub writes : writes_no_life t.write ≡ true
  pub sends : Every (IsAnswerTo g) t.sends
  pub failed_sends : Every (IsAnswerTo g) t.failed_sends

rests_well : (g : Input) → IsSiteTurn g quiet
rests_well g = record { append = refl; told = refl; failed = refl; writes = refl; sends = tt; failed_sends = tt }

-- a site

module _ (decl : Declaration) (s : SiteState) (e : Envelope) (asks : asks_answer e.message ≡ true) (tx : TxId) where
  answers_well : (answer : Answer) → IsSiteTurn (inputs.Got e) (answered_with e.from e.number answer)
  answers_well answer = record {
    append = refl;
    told = refl;
    failed = refl;
    writes = refl;
    sends = ((refl, (refl, asks)), tt);
    failed_sends = tt;
  }

  clashes_well : (c : Conflict) → IsSiteTurn (inputs.Got e) (clashing decl e.from e.number c)
  clashes_well c = record {
    append = refl;
    told = refl;
    failed = refl;
    writes = refl;
    sends = ((refl, (refl, asks)), (tt, tt));
    failed_sends = tt;
  }

  votes_well : (p : Prepared) → IsSiteTurn (inputs.Got e) (votes s e.from e.number p)
  votes_well p = record {
    append = refl;
    told = refl;
    failed = refl;
    writes = refl;
    sends = ((refl, (refl, asks)), tt);
    failed_sends = ((refl, (refl, asks)), tt);
  }

  reads_written : (r : ReadRequest) (o : Option Conflict)
      → IsSiteTurn (inputs.Got e) (reads_by decl s e.from e.number tx r o).turn
  reads_written r None = answers_well (answers.Granted (grant_told s r))
  reads_written r (Some c) = clashes_well c

  appends_written : (view : List _) (own : List _) (o : Option Conflict)
      → IsSiteTurn (inputs.Got e) (appends_by decl s e.from e.number tx view own o).turn
  appends_written view own None = answers_well (answers.Granted (append_grant s.life s.clock))
  appends_written view own (Some c) = clashes_well c

  prepares_written : IsSiteTurn (inputs.Got e) (prepares s e.from e.number tx).turn
  prepares_written = by (is_held s.held tx) (is_prepared s.prepared tx)
      (nat_le (prepare_length (promise_of s tx)) most_record_bytes)
    where
      by : (h p b : Bool) → IsSiteTurn (inputs.Got e)
          (cond (not h) (site_moved s (answered_with e.from e.number answers.Stale))
          (cond p (site_moved s (answered_with e.from e.number (answers.Yes s.clock)))
          (cond b (site_moved (promised s (promise_of s tx)) (votes s e.from e.number (promise_of s tx)))
          (site_moved s (answered_with e.from e.number answers.Stale))))).turn
      by false p b = answers_well answers.Stale
      by true true b = answers_well (answers.Yes s.clock)
      by true false true = votes_well (promise_of s tx)
      by true false false = answers_well answers.Stale

  grants_written : (want : Want) → IsSiteTurn (inputs.Got e) (grants decl s e.from e.number tx want).turn
  grants_written (Read read) = reads_written read
      (read_clash (relation_at decl read.object) s.held tx read.object read.inv)
  grants_written (Append object view own) =
      appends_written view own (append_clash (relation_at decl object) s.held tx own)
  grants_written Prepare = prepares_written

  requested_written : (want : Want) (o : Option Answer)
      → IsSiteTurn (inputs.Got e) (requested decl s e.from e.number tx want o).turn
  requested_written want (Some answer) = answers_well answer
  requested_written want None = grants_written want

  request_written : (epoch life : ℕ) (want : Want)
      → IsSiteTurn (inputs.Got e) (site_at decl s e.from e.number (messages.Request tx epoch life want)).turn
  request_written epoch life want = by (names_declared decl tx want)
    where
      by : (b : Bool) → IsSiteTurn (inputs.Got e)
          (cond b (requested decl s e.from e.number tx want (fault_of s epoch life)) (site_moved s quiet)).turn
      by true = requested_written want (fault_of s epoch life)
      by false = rests_well (inputs.Got e)

module _ (s : SiteState) (e : Envelope) (asks : asks_answer e.message ≡ true) where
  records_well : (written : Record) (answer : Answer) → writes_no_life (Some written) ≡ true
      → IsSiteTurn (inputs.Got e) (recording e.from e.number written answer)
  records_well written answer no_life = record {
    append = refl;
    told = refl;
    failed = refl;
    writes = no_life;
    sends = ((refl, (refl, asks)), tt);
    failed_sends = ((refl, (refl, asks)), tt);
  }

  tells_well : (answer : Answer) → IsSiteTurn (inputs.Got e) (answered_with e.from e.number answer)
  tells_well answer = record {
    append = refl;
    told = refl;
    failed = refl;
    writes = refl;
    sends = ((refl, (refl, asks)), tt);
    failed_sends = tt;
  }

  closes_written : (k : ℕ) → IsSiteTurn (inputs.Got e) (closes s e.from e.number k).turn
  closes_written k = by (nat_lt (s.epoch + 1) k) (nat_le k s.epoch) (is_closed_for k s.closed_for)
    where
      by : (far past shut : Bool) → IsSiteTurn (inputs.Got e)
          (cond far (site_moved s (answered_with e.from e.number (answers.Behind s.epoch)))
          (cond past (site_moved s (answered_with e.from e.number (answers.Closed s.epoch)))
          (cond shut (site_moved s (answered_with e.from e.number (shut_answer s)))
          (site_moved (closed s k) (recording e.from e.number (records.Close k) (shut_answer (closed s k))))))).turn
      by true past shut = tells_well (answers.Behind s.epoch)
      by false true shut = tells_well (answers.Closed s.epoch)
      by false false true = tells_well (shut_answer s)
      by false false false = records_well (records.Close k) (shut_answer (closed s k)) refl

  installs_written : (k clock : ℕ) (lines : List Line)
      → IsSiteTurn (inputs.Got e) (installs s e.from e.number k clock lines).turn
  installs_written k clock lines = by (nat_le k s.epoch) (nat_le (epoch_length lines) most_record_bytes)
    where
      by : (past short : Bool) → IsSiteTurn (inputs.Got e)
          (cond past (site_moved s (answered_with e.from e.number answers.Installed))
          (cond short (site_moved (installed s k clock lines)
          (recording e.from e.number (records.Install (start_with k clock lines)) answers.Installed))
          (site_moved s (answered_with e.from e.number (answers.Behind s.epoch))))).turn
      by true short = tells_well answers.Installed
      by false true = records_well (records.Install (start_with k clock lines)) answers.Installed refl
      by false false = tells_well (answers.Behind s.epoch)

module _ (s : SiteState) (g : Input) (tx : TxId) where
  finishes_well : (stamp : Stamp) → IsSiteTurn g (records_done tx stamp)
  finishes_well stamp = record {
    append = refl;
    told = refl;
    failed = refl;
    writes = refl;
    sends = tt;
    failed_sends = tt;
  }

  joins_written : (stamp : Stamp) (o : Option Prepared) → IsSiteTurn g (joins s tx stamp o).turn
  joins_written stamp None = rests_well g
  joins_written stamp (Some p) = finishes_well stamp

  finishes_written : (v : Outcome) → IsSiteTurn g (finishes s tx v).turn
  finishes_written (Committed stamp) = joins_written stamp (prepared_of s.prepared tx)
  finishes_written Aborted = rests_well g
  finishes_written Active = rests_well g

message_written : (decl : Declaration) (s : SiteState) (e : Envelope) (m : Message) → e.message ≡ m
    → IsSiteTurn (inputs.Got e) (site_at decl s e.from e.number m).turn
message_written decl s e (messages.Request tx epoch life want) is =
    request_written decl s e (ap asks_answer is) tx epoch life want
message_written decl s e (messages.Answer to answer) is = rests_well (inputs.Got e)
message_written decl s e (messages.Decision tx verdict) is = finishes_written s (inputs.Got e) tx verdict
message_written decl s e (messages.Inquiry tx) is = rests_well (inputs.Got e)
message_written decl s e (messages.Ask tx) is = rests_well (inputs.Got e)
message_written decl s e (messages.Close epoch) is = closes_written s e (ap asks_answer is) epoch
message_written decl s e (messages.Install start) is =
    installs_written s e (ap asks_answer is) start.epoch start.clock start.lines

pub site_written : (decl : Declaration) (s : SiteState) (g : Input) → IsSiteTurn g (site_takes decl s g).turn
site_written decl s (inputs.Called command) = rests_well (inputs.Called command)
site_written decl s (inputs.Got e) = message_written decl (passed s e.message) e e.message refl
site_written decl s (inputs.Lost number) = rests_well (inputs.Lost number)
