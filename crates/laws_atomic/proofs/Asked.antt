-- The commands that a run calls are its script's: each `do` names what is declared.
use Rattle.std.proofs.Common.{◌≡◌, ℕ, zero, suc, ◌==◌, Bool, false, inl, inr, List, [], ◌∷◌, ◌++◌, filter, take, Some}
use Rattle.std.proofs.Common.{slice_get, refl, sym, ap, ◌∙◌, subst}
use Rattle.std.specs.List.{filter_map}
use Rattle.std.proofs.lemmas.List.Elements.{filter_map-append}
use Rattle.qc_list.specs.Vocabulary.{In}
use Rattle.qc_list.proofs.Members.{In-first, In-last, In-unfiltered, In-either}
use Rattle.theory_onecopy.proofs.Lists.{Mapped, map_in}
use Rattle.qc_core.specs.Vocabulary.{IsLawful}
use Rattle.qc_decl.specs.declared.declaration.Declaration.{Declaration}
use Rattle.qc_msg.specs.declared.step.Command.{Command}
use Rattle.qc_msg.specs.declared.step.Input.TheVariants as inputs
use Rattle.qc_msg.specs.declared.step.Step.TheVariants as steps
use Rattle.qc_msg.specs.Vocabulary.{Entry, Takes, deeds, marked}
use Rattle.qc_msg.proofs.Growth.{deeds-taken}
use Rattle.qc_script.specs.Vocabulary.{Runs, commands_for, inbox, phase_of, ready}
use Rattle.qc_script.specs.Runs.{takes}
use Rattle.qc_script.specs.declared.script.CommandLine.{CommandLine}
use Rattle.qc_script.specs.declared.script.PhaseLines.{PhaseLines}
use Rattle.qc_script.specs.declared.script.Script.{Script}
use Rattle.laws_turns.proofs.Calling.{calls_are_asked}
use Rattle.laws_turns.specs.Vocabulary.{asked_in_all, asked_until, call_in, calls_of}
use Rattle.laws_refinement.specs.Vocabulary.{IsNamed}
use Rattle.laws_atomic.specs.Vocabulary.{AreNamed}

-- a command that phases ask has a line in one of them
record Asks (c : Command) (phases : List PhaseLines) : Type 0 where
  pub phase : PhaseLines
  pub line : CommandLine
  pub listed : In phase phases
  pub among : In line phase.commands
  pub is : c ≡ line.command

of_phase : (a : ℕ) (c : Command) (p : PhaseLines) (phases : List PhaseLines) → In p phases
    → In c (commands_for a p.commands) → Asks c phases
of_phase a c p phases listed asked =
    let m : Mapped (λ (l : CommandLine). l.command) c (filter (λ (l : CommandLine). l.actor == a) p.commands) =
    map_in (λ (l : CommandLine). l.command) c (filter (λ (l : CommandLine). l.actor == a) p.commands) asked in
    record {
      phase = p;
      line = m.from;
      listed = listed;
      among = In-unfiltered (λ (l : CommandLine). l.actor == a) m.from p.commands m.listed;
      is = m.is;
    }

later_phase : (c : Command) (p : PhaseLines) (phases : List PhaseLines) → Asks c phases → Asks c (p ∷ phases)
later_phase c p phases asks = record {
  phase = asks.phase;
  line = asks.line;
  listed = inr asks.listed;
  among = asks.among;
  is = asks.is;
}

in_phases : (a k : ℕ) (c : Command) (phases : List PhaseLines) → In c (asked_in_all a (take k phases)) → Asks c phases
in_phases a zero c [] asked = absurd asked
in_phases a (suc k) c [] asked = absurd asked
in_phases a zero c (p ∷ phases) asked = absurd asked
in_phases a (suc k) c (p ∷ phases) asked =
    elim (In-either c (commands_for a p.commands) (asked_in_all a (take k phases)) asked) [
      | inl here ↦ of_phase a c p (p ∷ phases) (inl refl) here
      | inr there ↦ later_phase c p phases (in_phases a k c phases there)
    ]

module _ (decl : Declaration) (script : Script) (named : AreNamed decl script) where
  pub ready_named : (h : List Entry) (open_inputs : List Bool) → Runs (IsLawful decl) decl script h open_inputs
      → (a : ℕ) (c : Command) → slice_get open_inputs a ≡ Some false → ready decl script a h ≡ Some (inputs.Called c)
      → IsNamed decl c
  ready_named h open_inputs run a c free rdy =
      subst (IsNamed decl) (sym asks.is) (named asks.phase asks.line asks.listed asks.among)
    where
      calls_are : calls_of a (h ++ marked a (steps.Called c) ∷ []) ≡ calls_of a h ++ c ∷ []
      calls_are = ap (filter_map call_in) (deeds-taken a h (inputs.Called c) tt)
          ∙ filter_map-append call_in (deeds a [] h) (Takes (inputs.Called c) ∷ [])

      asked : In c (asked_until a script (phase_of (h ++ marked a (steps.Called c) ∷ [])))
      asked =
          subst (λ (cs : List Command). In c cs) (calls_are_asked decl script a (h ++ marked a (steps.Called c) ∷ []) _
          (takes a (inputs.Called c) open_inputs h run free rdy))
          (In-first c (calls_of a (h ++ marked a (steps.Called c) ∷ []))
          (inbox script a (h ++ marked a (steps.Called c) ∷ [])).commands
          (subst (λ (cs : List Command). In c cs) (sym calls_are) (In-last c (calls_of a h))))

      asks : Asks c script.phases
      asks = in_phases a (phase_of (h ++ marked a (steps.Called c) ∷ [])) c script.phases asked
