-- The record of each lawful turn in such a run is legal, and its spelling is no longer than a journal's record may be.
use Rattle.std.proofs.Common.{◌≡◌, ℕ, ◌+◌, ◌^◌, ◌<◌, ◌≤◌, true, Bool, List, [], length, Option, Some, subst, arith}
use Rattle.std.specs.Prelude.{option_to_list}
use Rattle.std.specs.List.{AllByRecursion as Every}
use Rattle.qc_core.specs.Vocabulary.{IsLawfulWithFalls, with_record}
use Rattle.qc_core.proofs.PostsByTurns.{called_turn}
use Rattle.qc_decl.specs.Vocabulary.{IsAccepted, most_record_bytes}
use Rattle.qc_decl.specs.declared.declaration.Declaration.{Declaration}
use Rattle.qc_fit.specs.Vocabulary.{greatest_clock}
use Rattle.qc_msg.specs.declared.record.Record.{Record}
use Rattle.qc_msg.specs.declared.turn.Turn.{Turn}
use Rattle.qc_msg.specs.Vocabulary.{Entry, deeds}
use Rattle.qc_record.specs.Vocabulary.{is_legal, spelled}
use Rattle.qc_record.proofs.InForm.{legal_records_are_in_form}
use Rattle.qc_script.specs.Vocabulary.{IsScriptFor, RunsWithFalls}
use Rattle.qc_script.specs.declared.script.Script.{Script}
use Rattle.laws_bounds.specs.Vocabulary.{AllFit, AreWithin, IsBoundedWithFalls, TurnWithin}
use Rattle.laws_bounds.proofs.ActorsWithin.{records_le}
use Rattle.laws_bounds.proofs.FitBounds.{fit_few, rise_within}
use Rattle.laws_bounds.proofs.Needs.{run_bounded}
use Rattle.laws_bounds.proofs.Rising.{run_rises_fit}
use Rattle.laws_bounds.proofs.Senders.{lawful_actor}
use Rattle.laws_bounds.proofs.Forms.{WriteInForm}
use Rattle.laws_bounds.proofs.HistoriesInForm.{AllInForm, MayRise, run_form, turn_form}
use Rattle.laws_bounds.proofs.RecordsRead.{brief_form, brief_length, legal_read}

module _ (decl : Declaration) (script : Script) (accepted : IsAccepted decl) (sound : IsScriptFor decl script)
    (fits : ℕ → List Record → Type 0)
    (let_rise : (a : ℕ) (rs : List Record) → fits a rs
    → AllFit decl a 0 rs × Every (λ (r : Record). is_legal r ≡ true) rs)
    (h : List Entry) (open_inputs : List Bool)
    (run : RunsWithFalls (IsLawfulWithFalls decl) fits decl script h open_inputs) (short : length h < 2 ^ 31) where
  may_rise : (a : ℕ) (rs : List Record) → fits a rs → MayRise decl rs
  may_rise a rs fit =
      let may = let_rise a rs fit in
      let few : 0 + length rs ≤ 2 ^ 31 = fit_few decl a 0 rs (omega arith) may.0 in
      record { form = legal_read rs may.1; few = omega (arith, few) }

  form : AllInForm decl h
  form = run_form decl accepted script sound fits may_rise h open_inputs run short

  bounded : IsBoundedWithFalls decl (greatest_clock + length h) h
  bounded =
      run_bounded decl script fits h open_inputs run greatest_clock
      (rise_within decl h (run_rises_fit decl script fits (λ a rs fit. (let_rise a rs fit).0) h open_inputs run))

  module _ (a : ℕ) (turn : Turn) (law : IsLawfulWithFalls decl a (deeds a [] h) turn) where
    written : Every WriteInForm (option_to_list turn.write)
    written =
        (turn_form decl a (deeds a [] h) turn law (form.actors_are a)).write
        (lawful_actor decl a (deeds a [] h) turn law)

    within : AreWithin (2 ^ 62) (option_to_list turn.write)
    within =
        let its : TurnWithin (greatest_clock + length h) (with_record turn) =
        subst (TurnWithin (greatest_clock + length h)) (called_turn decl a (deeds a [] h) turn law)
        (bounded.actors a).turn in
        records_le (greatest_clock + length h) (2 ^ 62) (omega (arith, short)) (option_to_list turn.write) its.write

    pub turn_spelled : (r : Record) → turn.write ≡ Some r
        → (is_legal r ≡ true) × (length (spelled r) ≤ most_record_bytes)
    turn_spelled r is =
        let its = subst (λ (o : Option Record). Every WriteInForm (option_to_list o)) is written in
        let low = subst (λ (o : Option Record). AreWithin (2 ^ 62) (option_to_list o)) is within in
        ((legal_records_are_in_form r).1 (brief_form r its.0.0 low.0 its.0.1), brief_length r its.0.0 its.0.1)
