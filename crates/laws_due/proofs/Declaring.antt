-- In a run what comes to a client is declared: scripts ask of declared objects, and nobody tells of another epoch than
-- the first.
use Rattle.std.proofs.Common.{◌≡◌, ℕ, Bool, true, List, [], ◌∷◌, Option, Some, None, is_some, slice_get, refl, ap}
use Rattle.std.specs.Prelude.{option_and_then, option_map, MatchOption}
use Rattle.std.specs.List.{AllByRecursion as Every}
use Rattle.qc_decl.specs.Vocabulary.{IsAccepted, kind_at, table_at}
use Rattle.qc_decl.specs.declared.declaration.Declaration.{Declaration}
use Rattle.qc_msg.specs.declared.message.Message.{Message}
use Rattle.qc_msg.specs.declared.step.Command.{Command}
use Rattle.qc_msg.specs.declared.step.Input.TheVariants as inputs
use Rattle.qc_msg.specs.Vocabulary.{Deed, Entry, Falls, Rises, Sends, Takes, Tells, Writes, deeds, first_epoch}
use Rattle.qc_msg.specs.Vocabulary.{Answered, Invocation, answer_in, closed_in, do_in}
use Rattle.qc_plan.specs.declared.plan.Plan.{Plan}
use Rattle.qc_table.specs.declared.kind.Kind.{Kind}
use Rattle.qc_core.specs.Vocabulary.{IsLawful}
use Rattle.qc_script.specs.Vocabulary.{Runs}
use Rattle.qc_script.specs.declared.script.Script.{Script}
use Rattle.laws_turns.specs.Vocabulary.{AsksDeclared, IsAskable}
use Rattle.laws_turns.proofs.SoundClients.{IsAskableDeed, run_askable}
use Rattle.laws_due.proofs.Epochs.{DeedPlanned, TellsPlanned}
use Rattle.laws_due.proofs.PlannedMail.{deeds_planned, run_planned}
use Rattle.laws_due.specs.Vocabulary.{ArePlanned, Declares, IsDeclaredCommand, IsDeclaredDeed, IsPlanned, epoch_told}
use Rattle.laws_turns.proofs.ReadingCases.{matched_by}
use Rattle.qc_list.proofs.Places.{some_at}

module _ (decl : Declaration) (accepted : IsAccepted decl) where
  pub first_planned : IsPlanned decl first_epoch
  first_planned = let p : (plan : Plan) × (slice_get decl.plans 0 ≡ Some plan) =
      some_at decl.plans 0 accepted.has_epoch in ap (λ (o : Option Plan). is_some o) p.1

  -- an answer's epoch, where it says that another one is closed
  told_planned : (m : Message) → TellsPlanned decl m → ArePlanned decl (epoch_told m)
  told_planned m told = by _ (answer_in m) told
    where
      by : (N : Type 0) (o : Option Answered)
          → MatchOption o N (λ (a : Answered). ArePlanned decl (closed_in a.answer))
          → ArePlanned decl (option_and_then (λ (a : Answered). closed_in a.answer) o)
      by N None planned = tt
      by N (Some a) planned = planned

  -- an object that has a kind has a table
  has_table : (object : ℕ) → is_some (kind_at decl object) ≡ true → is_some (table_at decl object) ≡ true
  has_table object is = at (slice_get decl.objects object) is
    where
      kind : (o : Option Kind) → is_some o ≡ true → is_some (option_map (λ (k : Kind). k.table) o) ≡ true
      kind None is = absurd (let never : ⊥ = cc in never)
      kind (Some k) is = refl

      at : (o : Option ℕ) → is_some (option_and_then (slice_get decl.kinds) o) ≡ true
          → is_some (option_and_then (λ (n : ℕ). option_map (λ (k : Kind). k.table) (slice_get decl.kinds n)) o) ≡ true
      at None is = absurd (let never : ⊥ = cc in never)
      at (Some n) is = kind (slice_get decl.kinds n) is

  command_declared : (a : ℕ) (c : Command) → IsAskable decl a c → IsDeclaredCommand decl c
  command_declared a c is =
      matched_by _ (Unit {0}) _ (λ (i : Invocation). is_some (table_at decl i.object) ≡ true) (do_in c)
      (λ i kind. has_table i.object kind) (λ u. tt) is

  deed_declared : (a : ℕ) (x : Deed) → IsAskableDeed decl a x → DeedPlanned decl x → IsDeclaredDeed decl x
  deed_declared a (Takes (inputs.Called command)) is first = command_declared a command is
  deed_declared a (Takes (inputs.Got e)) is first = told_planned e.message first
  deed_declared a (Takes (inputs.Lost number)) is first = tt
  deed_declared a (Writes written) is first = tt
  deed_declared a (Sends number to message) is first = tt
  deed_declared a (Tells reply) is first = tt
  deed_declared a (Falls cause pending) is first = tt
  deed_declared a (Rises kept) is first = tt

  pub all_declared : (a : ℕ) (ds : List Deed) → Every (IsAskableDeed decl a) ds → Every (DeedPlanned decl) ds
      → Every (IsDeclaredDeed decl) ds
  all_declared a [] asks first = tt
  all_declared a (x ∷ ds) asks first = (deed_declared a x asks.0 first.0, all_declared a ds asks.1 first.1)

  pub run_declares : (script : Script) → AsksDeclared decl script → (h : List Entry) (open_inputs : List Bool)
      → Runs (IsLawful decl) decl script h open_inputs → (a : ℕ) → Declares decl (deeds a [] h)
  run_declares script asks h open_inputs run a = record {
    first = first_planned;
    deeds = all_declared a (deeds a [] h) (run_askable decl script a h open_inputs asks run)
        (deeds_planned decl a [] h tt (run_planned decl first_planned script h open_inputs run));
  }
