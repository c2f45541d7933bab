-- A site writes no commit record.
use Rattle.std.proofs.Common.{◌≡◌, ℕ, Bool, true, false, if◌then◌else◌, not, nat_le, [], Option, Some, None, refl}
use Rattle.qc_stamp.specs.declared.stamp.TxId.{TxId}
use Rattle.qc_entry.specs.declared.record.Prepared.{Prepared}
use Rattle.qc_decl.specs.Vocabulary.{most_record_bytes}
use Rattle.qc_decl.specs.declared.declaration.Declaration.{Declaration}
use Rattle.qc_lock.specs.Vocabulary.{append_clash, is_held, read_clash}
use Rattle.qc_lock.specs.declared.clash.Clash.{Clash as Conflict}
use Rattle.qc_msg.specs.declared.message.Answer.{Answer}
use Rattle.qc_msg.specs.declared.message.Answer.TheVariants as answers
use Rattle.qc_msg.specs.declared.message.Message.{Message}
use Rattle.qc_msg.specs.declared.message.Message.TheVariants as messages
use Rattle.qc_msg.specs.declared.message.Outcome.{Outcome}
use Rattle.qc_msg.specs.declared.message.Outcome.TheVariants as outcomes
use Rattle.qc_msg.specs.declared.message.Want.{Want}
use Rattle.qc_msg.specs.declared.message.Want.TheVariants.{Read, Append, Prepare}
use Rattle.qc_msg.specs.declared.payload.ReadRequest.{ReadRequest}
use Rattle.qc_msg.specs.declared.step.Input.{Input}
use Rattle.qc_msg.specs.declared.step.Input.TheVariants as inputs
use Rattle.qc_msg.specs.Vocabulary.{quiet}
use Rattle.qc_site.proofs.RequestCases.{close_rows, install_rows}
use Rattle.qc_site.specs.Vocabulary.{SiteMove, SiteState, answers as tells, appends_by, fault_of, finishes, grants}
use Rattle.qc_site.specs.Vocabulary.{is_prepared, joins, moved, names_declared, passed, prepare_length, prepared_of}
use Rattle.qc_site.specs.Vocabulary.{promise_of, promised, reads_by, relation_at, requested, site_at, site_takes, votes}
use Rattle.laws_refinement.specs.Vocabulary.{commits_in}

abbrev Silent : SiteMove → Type 0
Silent m = commits_in m.turn.write ≡ []

one_of : (t : Bool) (m n : SiteMove) → Silent m → Silent n → Silent (if t then m else n)
one_of true m n first second = first
one_of false m n first second = second

reads_silent : (decl : Declaration) (s : SiteState) (from number : ℕ) (tx : TxId) (r : ReadRequest)
    (o : Option Conflict) → Silent (reads_by decl s from number tx r o)
reads_silent decl s from number tx r None = refl
reads_silent decl s from number tx r (Some c) = refl

grants_silent : (decl : Declaration) (s : SiteState) (from number : ℕ) (tx : TxId) (want : Want)
    → Silent (grants decl s from number tx want)
grants_silent decl s from number tx (Read read) =
    reads_silent decl s from number tx read (read_clash (relation_at decl read.object) s.held tx read.object read.inv)
grants_silent decl s from number tx (Append object view own) = by (append_clash (relation_at decl object) s.held tx own)
  where
    by : (o : Option Conflict) → Silent (appends_by decl s from number tx view own o)
    by None = refl
    by (Some c) = refl
grants_silent decl s from number tx Prepare =
    one_of (not (is_held s.held tx)) (moved s (tells from number answers.Stale)) _ refl
    (one_of (is_prepared s.prepared tx) (moved s (tells from number (answers.Yes s.clock))) _ refl
    (one_of (nat_le (prepare_length (promise_of s tx)) most_record_bytes)
    (moved (promised s (promise_of s tx)) (votes s from number (promise_of s tx)))
    (moved s (tells from number answers.Stale)) refl refl))

requested_silent : (decl : Declaration) (s : SiteState) (from number : ℕ) (tx : TxId) (want : Want) (o : Option Answer)
    → Silent (requested decl s from number tx want o)
requested_silent decl s from number tx want None = grants_silent decl s from number tx want
requested_silent decl s from number tx want (Some refusal) = refl

finishes_silent : (s : SiteState) (tx : TxId) (verdict : Outcome) → Silent (finishes s tx verdict)
finishes_silent s tx (outcomes.Committed stamp) = by (prepared_of s.prepared tx)
  where
    by : (o : Option Prepared) → Silent (joins s tx stamp o)
    by None = refl
    by (Some p) = refl
finishes_silent s tx outcomes.Aborted = refl
finishes_silent s tx outcomes.Active = refl

at_silent : (decl : Declaration) (s : SiteState) (from number : ℕ) (m : Message) → Silent (site_at decl s from number m)
at_silent decl s from number (messages.Request tx epoch life want) =
    one_of (names_declared decl tx want) _ (moved s quiet)
    (requested_silent decl s from number tx want (fault_of s epoch life)) refl
at_silent decl s from number (messages.Answer to answer) = refl
at_silent decl s from number (messages.Decision tx verdict) = finishes_silent s tx verdict
at_silent decl s from number (messages.Inquiry tx) = refl
at_silent decl s from number (messages.Ask tx) = refl
at_silent decl s from number (messages.Close k) = close_rows Silent s from number k refl refl refl refl
at_silent decl s from number (messages.Install start) =
    install_rows Silent s from number start.epoch start.clock start.lines refl refl refl

pub site_silent : (decl : Declaration) (s : SiteState) (g : Input) → commits_in (site_takes decl s g).turn.write ≡ []
site_silent decl s (inputs.Called command) = refl
site_silent decl s (inputs.Got envelope) =
    at_silent decl (passed s envelope.message) envelope.from envelope.number envelope.message
site_silent decl s (inputs.Lost number) = refl
