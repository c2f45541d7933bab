-- In each run with falls whose records are kept, below the limit of steps, each record fits its actor at its place.
use Rattle.std.proofs.Common.{◌≡◌, ℕ, ◌+◌, ◌<◌, ◌≤◌, Bool, List, [], ◌∷◌, length, Option, Some, None, sym, ap, subst}
use Rattle.std.proofs.Common.{arith}
use Rattle.std.specs.Prelude.{option_to_list, MatchOption, unwrap_or}
use Rattle.std.specs.List.{AllByRecursion as Every}
use Rattle.qc_core.specs.Vocabulary.{IsLawfulWithFalls, journal_after, with_record}
use Rattle.qc_core.proofs.PostsByTurns.{called_turn}
use Rattle.qc_core.proofs.LivesLaws.{journal as journal_is}
use Rattle.qc_decl.specs.Vocabulary.{IsAccepted, actors, most_steps}
use Rattle.qc_decl.specs.declared.declaration.Declaration.{Declaration}
use Rattle.qc_entry.specs.declared.line.Line.{Line}
use Rattle.qc_fit.specs.Vocabulary.{IsFit, IsLineDeclared, greatest_clock, most_records}
use Rattle.qc_fit.proofs.Words.{fits_is_as_said}
use Rattle.qc_msg.specs.declared.record.Record.{Record}
use Rattle.qc_msg.specs.declared.record.Record.TheVariants as records
use Rattle.qc_msg.specs.declared.step.Step.{Step}
use Rattle.qc_msg.specs.declared.turn.Turn.{Turn}
use Rattle.qc_msg.specs.Vocabulary.{Entry, deeds, own, damaged_in, rose_in}
use Rattle.qc_promise.specs.Vocabulary.{Journal, Kept, journal_of}
use Rattle.laws_turns.specs.Vocabulary.{LinesWithin}
use Rattle.qc_script.specs.Vocabulary.{IsScriptFor, RunsWithFalls}
use Rattle.qc_script.specs.declared.script.Script.{Script}
use Rattle.laws_bounds.specs.Vocabulary.{AllFit, AllPut, AllRiseFit, AreWithin, IsBoundedWithFalls, JournalFits}
use Rattle.laws_bounds.specs.Vocabulary.{RecordWithin, TurnWithin, records_at, risen_at}
use Rattle.laws_bounds.proofs.FewRecords.{kept_journals_few, kept_rise_few}
use Rattle.laws_bounds.proofs.ActorsNamed.{TurnNamed}
use Rattle.laws_bounds.proofs.HistoriesNamed.{AllNamed, run_named, turn_named}
use Rattle.laws_bounds.proofs.Names.{AreNamed, LinesNamed, RecordNamed}
use Rattle.laws_bounds.proofs.Needs.{kept_bounded}
use Rattle.laws_bounds.proofs.Putting.{JournalHas, own_journal_has}
use Rattle.laws_bounds.proofs.Senders.{lawful_actor}
use Rattle.laws_bounds.proofs.StepCases.{kept_cases}

-- a record that names declared things, with clocks within a bound, fits

module _ (decl : Declaration) (accepted : IsAccepted decl) (a bound : ℕ) (low : bound ≤ greatest_clock) where
  lines_fit : (lines : List Line) → LinesNamed decl lines → LinesWithin bound lines → Every (IsLineDeclared decl) lines
  lines_fit [] named within = tt
  lines_fit (l ∷ ls) named within =
      let clock : l.stamp.clock ≤ bound = within.0 in (
        record {
          clock = omega (arith, clock, low);
          client = named.0.client;
          event = named.0.event;
        },
        lines_fit ls named.1 within.1,
      )

  said_fit : (before : ℕ) (r : Record) → before < most_records → RecordNamed decl a r → RecordWithin bound r
      → IsFit decl a before r
  said_fit before records.Life few named within = record {
    few = few;
    writer = (let here : a < actors decl = named in omega arith);
    clients = tt;
    epochs = tt;
    clocks = tt;
    locks = tt;
    owns = tt;
    lines = tt;
    ops = tt;
  }
  said_fit before (records.Prepare p) few named within = record {
    few = few;
    writer = named.0;
    clients = (named.1, tt);
    epochs = (named.2, tt);
    clocks = tt;
    locks = named.3;
    owns = named.4;
    lines = lines_fit p.lines named.5 within;
    ops = tt;
  }
  said_fit before (records.Done tx clock) few named within = record {
    few = few;
    writer = named.0;
    clients = (named.1, tt);
    epochs = tt;
    clocks = ((let here : clock ≤ bound = within in omega (arith, here, low)), tt);
    locks = tt;
    owns = tt;
    lines = tt;
    ops = tt;
  }
  said_fit before (records.Close epoch) few named within = record {
    few = few;
    writer = named.0;
    clients = tt;
    epochs = (named.1, tt);
    clocks = tt;
    locks = tt;
    owns = tt;
    lines = tt;
    ops = tt;
  }
  said_fit before (records.Install start) few named within = record {
    few = few;
    writer = named.0;
    clients = tt;
    epochs = (named.1, tt);
    clocks = ((let here : start.clock ≤ bound = within.0 in omega (arith, here, low)), tt);
    locks = tt;
    owns = tt;
    lines = lines_fit start.lines named.2 within.1;
    ops = tt;
  }
  said_fit before (records.Commit c) few named within = record {
    few = few;
    writer = named.0;
    clients = (named.1, tt);
    epochs = tt;
    clocks = ((let here : c.stamp.clock ≤ bound = within in omega (arith, here, low)), tt);
    locks = tt;
    owns = tt;
    lines = tt;
    ops = named.2;
  }
  said_fit before (records.Decide start) few named within = record {
    few = few;
    writer = named.0;
    clients = tt;
    epochs = (named.1, tt);
    clocks = ((let here : start.clock ≤ bound = within.0 in omega (arith, here, low)), tt);
    locks = tt;
    owns = tt;
    lines = lines_fit start.lines named.2 within.1;
    ops = tt;
  }

  pub records_fit : (before : ℕ) (rs : List Record) → before + length rs ≤ most_records → AreNamed decl a rs
      → AreWithin bound rs → AllFit decl a before rs
  records_fit before [] few named within = tt
  records_fit before (r ∷ rs) few named within = (
    (fits_is_as_said decl a before r).1
        (said_fit before r (let here : before < most_records = omega arith in here) named.0 within.0),
    records_fit (before + 1) rs (omega arith) named.1 within.1,
  )

-- what is put there is what rises, too

risen_puts : (P : Record → Type 0) (step : Step) → Every P (records_at step) → Every P (risen_at step)
risen_puts P step puts =
    by (rose_in step)
    (kept_cases (λ (s : Step). Every P (records_at s)) (Every P) (λ (offset : ℕ). Unit {0}) (λ rs puts. puts)
    (λ offset puts. tt) step puts)
  where
    by : (o : Option (List Record))
        → MatchOption o (MatchOption (damaged_in step) (Unit {0}) (λ (offset : ℕ). Unit {0}))
        (Every P) → Every P (unwrap_or o [])
    by None puts = tt
    by (Some rs) puts = puts

module _ (decl : Declaration) (accepted : IsAccepted decl) (bound : ℕ) (low : bound ≤ greatest_clock) (most : ℕ)
    (few : most ≤ most_records) where
  rises_fit : (h : List Entry) → AllPut (RecordNamed decl) h → AllPut (λ a. RecordWithin bound) h
      → Every (λ (e : Entry). length (risen_at e.step) ≤ most) h → AllRiseFit decl h
  rises_fit [] named within short = tt
  rises_fit (e ∷ h) named within short = (
    records_fit decl accepted e.actor bound low 0 (risen_at e.step)
        (let here : length (risen_at e.step) ≤ most = short.0 in omega (arith, here, few))
        (risen_puts (RecordNamed decl e.actor) e.step named.0) (risen_puts (RecordWithin bound) e.step within.0),
    rises_fit h named.1 within.1 short.1,
  )

module _ (decl : Declaration) (script : Script) (fits : ℕ → List Record → Type 0) (h : List Entry)
    (open_inputs : List Bool) (accepted : IsAccepted decl) (sound : IsScriptFor decl script)
    (run : RunsWithFalls (IsLawfulWithFalls decl) fits decl script h open_inputs) (kept : Kept h)
    (short : length h < most_steps) where
  named : AllNamed decl h
  named = run_named decl accepted script sound fits h open_inputs run kept

  bounded : IsBoundedWithFalls decl (length h) h
  bounded = kept_bounded decl script fits h open_inputs run kept

  low : length h ≤ greatest_clock
  low = omega arith

  pub what_rises_fits_where_records_are_kept : AllRiseFit decl h
  what_rises_fits_where_records_are_kept =
      rises_fit decl accepted (length h) low (length h)
      (let few : length h ≤ most_records = omega arith in few) h named.puts bounded.records (kept_rise_few h kept)

  journal_fits_at : (a : ℕ) → JournalFits decl a (journal_of (own a h))
  journal_fits_at a =
      let its : JournalHas (RecordNamed decl a) (journal_of (own a h)) =
      own_journal_has (RecordNamed decl) a h named.puts in
      let within : JournalHas (RecordWithin (length h)) (journal_of (own a h)) =
      own_journal_has (λ c. RecordWithin (length h)) a h bounded.records in
      let few : length (journal_of (own a h)).records + length
      (option_to_list (journal_of (own a h)).pending) ≤ length h =
      kept_journals_few h kept a in
      record {
        records =
            records_fit decl accepted a (length h) low 0 (journal_of (own a h)).records
            (omega arith) its.records within.records;
        pending =
            records_fit decl accepted a (length h) low (length (journal_of (own a h)).records)
            (option_to_list (journal_of (own a h)).pending) (omega arith) its.pending within.pending;
      }

  pub journal_fits : (a : ℕ) → JournalFits decl a (journal_after (deeds a [] h))
  journal_fits a = subst (JournalFits decl a) (sym (journal_is a h)) (journal_fits_at a)

  one_record : (w : Option Record) → length (option_to_list w) ≤ 1
  one_record None = omega arith
  one_record (Some r) = omega arith

  -- the record of a lawful turn fits where it would be written
  pub records_of_lawful_turns_fit : (a : ℕ) (turn : Turn) → IsLawfulWithFalls decl a (deeds a [] h) turn
      → AllFit decl a (length (journal_after (deeds a [] h)).records) (option_to_list turn.write)
  records_of_lawful_turns_fit a turn law =
      let its : TurnNamed decl a (with_record turn) = turn_named decl a (deeds a [] h) turn law (named.actors_are a) in
      let within : TurnWithin (length h) (with_record turn) =
      subst (TurnWithin (length h)) (called_turn decl a (deeds a [] h) turn law) (bounded.actors a).turn in
      let few : length (journal_of (own a h)).records + length
      (option_to_list (journal_of (own a h)).pending) ≤ length h =
      kept_journals_few h kept a in
      let same : length (journal_after (deeds a [] h)).records ≡ length (journal_of (own a h)).records =
      ap (λ (j : Journal). length j.records) (journal_is a h) in
      let one : length (option_to_list turn.write) ≤ 1 = one_record turn.write in
      records_fit decl accepted a (length h) low (length (journal_after (deeds a [] h)).records)
      (option_to_list turn.write) (omega arith) (its.write (lawful_actor decl a (deeds a [] h) turn law)) within.write
