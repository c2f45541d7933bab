-- Records that fit their actor name declared things; so where what rises fits, all that is said does, and each Ask is
-- about a transaction of a declared client, whatever records were lost.
use Rattle.std.proofs.Common.{◌<◌, ◌≤◌, ℕ, ◌+◌, List, [], ◌∷◌, Bool, arith}
use Rattle.std.specs.List.{AllByRecursion as Every}
use Rattle.qc_list.proofs.Members.{every-weaker}
use Rattle.qc_core.specs.Vocabulary.{IsLawfulWithFalls}
use Rattle.qc_decl.specs.Vocabulary.{IsAccepted}
use Rattle.qc_decl.specs.declared.declaration.Declaration.{Declaration}
use Rattle.laws_due.specs.Vocabulary.{AsksKnown, IsKnown}
use Rattle.qc_entry.specs.declared.line.Line.{Line}
use Rattle.qc_fit.specs.Vocabulary.{IsFit, IsLineDeclared}
use Rattle.qc_fit.proofs.Words.{fits_is_as_said}
use Rattle.qc_msg.specs.Vocabulary.{Entry, mail}
use Rattle.qc_msg.specs.declared.message.Envelope.{Envelope}
use Rattle.qc_msg.specs.declared.message.Message.{Message}
use Rattle.qc_msg.specs.declared.message.Message.TheVariants as messages
use Rattle.qc_msg.specs.declared.record.Record.{Record}
use Rattle.qc_msg.specs.declared.record.Record.TheVariants as records
use Rattle.qc_script.specs.Vocabulary.{IsScriptFor, RunsWithFalls}
use Rattle.qc_script.specs.declared.script.Script.{Script}
use Rattle.laws_bounds.specs.Vocabulary.{AllFit}
use Rattle.laws_bounds.proofs.HistoriesNamed.{AllNamed, run_named_by}
use Rattle.laws_bounds.proofs.Names.{AreNamed, LineNamed, LinesNamed, MessageNamed, RecordNamed}

module _ (decl : Declaration) where
  lines_fit : (lines : List Line) → Every (IsLineDeclared decl) lines → LinesNamed decl lines
  lines_fit lines all = every-weaker (IsLineDeclared decl) (LineNamed decl)
      (λ l is. record { client = is.client; event = is.event }) lines all

  record_fits : (a before : ℕ) (r : Record) → IsFit decl a before r → RecordNamed decl a r
  record_fits a before records.Life f = (let low : a ≤ decl.sites + decl.clients = f.writer in
      let less : a < decl.sites + decl.clients + 1 = omega arith in less)
  record_fits a before (records.Prepare p) f =
      (f.writer, f.clients.0, f.epochs.0, f.locks, f.owns, lines_fit p.lines f.lines)
  record_fits a before (records.Done tx clock) f = (f.writer, f.clients.0)
  record_fits a before (records.Close epoch) f = (f.writer, f.epochs.0)
  record_fits a before (records.Install start) f = (f.writer, f.epochs.0, lines_fit start.lines f.lines)
  record_fits a before (records.Commit c) f = (f.writer, f.clients.0, f.ops)
  record_fits a before (records.Decide start) f = (f.writer, f.epochs.0, lines_fit start.lines f.lines)

  records_fit : (a before : ℕ) (rs : List Record) → AllFit decl a before rs → AreNamed decl a rs
  records_fit a before [] fit = tt
  records_fit a before (r ∷ rs) fit = (
    record_fits a before r ((fits_is_as_said decl a before r).0 fit.0),
    records_fit a (before + 1) rs fit.1,
  )

  module _ (accepted : IsAccepted decl) (script : Script) (sound : IsScriptFor decl script)
      (fits : ℕ → List Record → Type 0)
      (let_rise : (a : ℕ) (rs : List Record) → fits a rs → AllFit decl a 0 rs) where
    pub run_names : (h : List Entry) (open_inputs : List Bool)
        → RunsWithFalls (IsLawfulWithFalls decl) fits decl script h open_inputs
        → AllNamed decl h
    run_names h open_inputs run =
        run_named_by decl accepted script sound fits (λ k. Unit {0}) (λ older k side. tt)
        (λ older post c rs fit side old. records_fit c 0 rs (let_rise c rs fit)) h open_inputs run tt

    message_known : (m : Message) → MessageNamed decl m → IsKnown decl m
    message_known (messages.Request tx epoch life want) is = tt
    message_known (messages.Answer number answer) is = tt
    message_known (messages.Decision tx verdict) is = tt
    message_known (messages.Inquiry tx) is = tt
    message_known (messages.Ask tx) is = is
    message_known (messages.Close epoch) is = tt
    message_known (messages.Install start) is = tt

    pub asks_known : AsksKnown fits decl script
    asks_known h open_inputs run =
        every-weaker (λ (e : Envelope). MessageNamed decl e.message) (λ (e : Envelope). IsKnown decl e.message)
        (λ e is. message_known e.message is) (mail h) (run_names h open_inputs run).messages
