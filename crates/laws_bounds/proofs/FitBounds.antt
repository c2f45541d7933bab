-- What records that fit say: how many they are, their clocks, and of which clients they are.
use Rattle.std.proofs.Common.{◌≡◌, ℕ, ◌+◌, ◌<◌, ◌≤◌, true, List, [], ◌∷◌, length, arith}
use Rattle.std.specs.List.{AllByRecursion as Every}
use Rattle.qc_list.proofs.Members.{every-weaker}
use Rattle.qc_decl.specs.Vocabulary.{IsAccepted, most_clients}
use Rattle.qc_decl.specs.declared.declaration.Declaration.{Declaration}
use Rattle.qc_entry.specs.declared.line.Line.{Line}
use Rattle.qc_fit.specs.Vocabulary.{IsFit, IsLineDeclared, fits, greatest_clock, most_records}
use Rattle.qc_fit.proofs.Words.{fits_is_as_said}
use Rattle.qc_msg.specs.declared.record.Record.{Record}
use Rattle.qc_msg.specs.declared.record.Record.TheVariants as records
use Rattle.qc_msg.specs.Vocabulary.{Entry}
use Rattle.laws_turns.specs.Vocabulary.{LinesWithin}
use Rattle.laws_bounds.specs.Vocabulary.{AllFit, AllRiseFit, AreWithin, IsOfClient, RecordWithin, RiseWithFew}
use Rattle.laws_bounds.specs.Vocabulary.{RiseWithin, risen_at}
use Rattle.qc_entry.specs.declared.record.Prepared.{Prepared}
use Rattle.laws_bounds.proofs.Cases.{prepare_cases}

module _ (decl : Declaration) (a : ℕ) where
  fit_of : (before : ℕ) (r : Record) → fits decl a before r ≡ true → IsFit decl a before r
  fit_of before r is = (fits_is_as_said decl a before r).0 is

  lines_within : (lines : List Line) → Every (IsLineDeclared decl) lines → LinesWithin greatest_clock lines
  lines_within lines all =
      every-weaker (IsLineDeclared decl) (λ (l : Line). l.stamp.clock ≤ greatest_clock)
      (λ l declared. declared.clock) lines all

  record_within : (before : ℕ) (r : Record) → IsFit decl a before r → RecordWithin greatest_clock r
  record_within before records.Life fit = tt
  record_within before (records.Prepare p) fit = lines_within p.lines fit.lines
  record_within before (records.Done tx clock) fit = fit.clocks.0
  record_within before (records.Close epoch) fit = tt
  record_within before (records.Install start) fit = (fit.clocks.0, lines_within start.lines fit.lines)
  record_within before (records.Commit c) fit = fit.clocks.0
  record_within before (records.Decide start) fit = (fit.clocks.0, lines_within start.lines fit.lines)

  pub fit_within : (before : ℕ) (rs : List Record) → AllFit decl a before rs → AreWithin greatest_clock rs
  fit_within before [] all = tt
  fit_within before (r ∷ rs) all =
      (record_within before r (fit_of before r all.0), fit_within (before + 1) rs all.1)

  -- the last one has fewer than the most before it
  pub fit_few : (before : ℕ) (rs : List Record) → before ≤ most_records → AllFit decl a before rs
      → before + length rs ≤ most_records
  fit_few before [] low all = omega arith
  fit_few before (r ∷ rs) low all =
      (let here : before < most_records = (fit_of before r all.0).few in
      let later : before + 1 + length rs ≤ most_records = fit_few (before + 1) rs (omega arith) all.1 in
      omega arith)

  record_client : (before : ℕ) (r : Record) → decl.clients ≤ most_clients → IsFit decl a before r → IsOfClient r
  record_client before r few fit =
      prepare_cases (IsFit decl a before) (λ (p : Prepared). p.tx.client < most_clients)
      (λ p fit. (let low : p.tx.client < decl.clients = fit.clients.0 in omega arith)) r fit

  pub fit_clients : (before : ℕ) (rs : List Record) → decl.clients ≤ most_clients → AllFit decl a before rs
      → Every IsOfClient rs
  fit_clients before [] few all = tt
  fit_clients before (r ∷ rs) few all =
      (record_client before r few (fit_of before r all.0), fit_clients (before + 1) rs few all.1)

-- in a history

pub rise_within : (decl : Declaration) (h : List Entry) → AllRiseFit decl h → RiseWithin greatest_clock h
rise_within decl h all =
    every-weaker (λ (e : Entry). AllFit decl e.actor 0 (risen_at e.step))
    (λ (e : Entry). AreWithin greatest_clock (risen_at e.step))
    (λ e fit. fit_within decl e.actor 0 (risen_at e.step) fit) h all

pub rise_few : (decl : Declaration) (h : List Entry) → AllRiseFit decl h → RiseWithFew most_records h
rise_few decl h all =
    every-weaker (λ (e : Entry). AllFit decl e.actor 0 (risen_at e.step))
    (λ (e : Entry). length (risen_at e.step) ≤ most_records)
    (λ e fit.
    (let few : 0 + length (risen_at e.step) ≤ most_records = fit_few decl e.actor 0 (risen_at e.step)
    (omega arith) fit in omega arith)) h all

pub rise_clients : (decl : Declaration) (h : List Entry) → IsAccepted decl → AllRiseFit decl h
    → Every (λ (e : Entry). Every IsOfClient (risen_at e.step)) h
rise_clients decl h accepted all =
    every-weaker (λ (e : Entry). AllFit decl e.actor 0 (risen_at e.step))
    (λ (e : Entry). Every IsOfClient (risen_at e.step))
    (λ e fit. fit_clients decl e.actor 0 (risen_at e.step) accepted.clients fit) h all
