-- In a run without falls nobody rises: so its committed operations are those of the records that were written.
use Rattle.std.proofs.Common.{◌≡◌, ℕ, ◌+◌, Bool, List, [], ◌∷◌, ◌++◌, length, Option, Some, None}
use Rattle.std.specs.List.{AllByRecursion as Every}
use Rattle.std.specs.Prelude.{sum_by}
use Rattle.qc_decl.specs.declared.declaration.Declaration.{Declaration}
use Rattle.qc_entry.specs.declared.record.Commit.{Commit}
use Rattle.qc_list.proofs.Members.{every-append}
use Rattle.qc_msg.proofs.Growth.{operations_are_those_of_records}
use Rattle.qc_msg.specs.Vocabulary.{Deed, Entry, IsNoRise, answered, by, mail, marked, operations_of, posted, sents}
use Rattle.qc_msg.specs.Vocabulary.{step_of, told, written, wrote}
use Rattle.qc_msg.specs.declared.record.Record.{Record}
use Rattle.qc_msg.specs.declared.reply.Reply.{Reply}
use Rattle.qc_msg.specs.declared.step.Control.{Control}
use Rattle.qc_msg.specs.declared.step.Input.{Input}
use Rattle.qc_msg.specs.declared.step.Input.TheVariants as inputs
use Rattle.qc_msg.specs.declared.step.Step.{Step}
use Rattle.qc_msg.specs.declared.turn.Posting.{Posting}
use Rattle.qc_msg.specs.declared.turn.Turn.{Turn}
use Rattle.qc_script.specs.Vocabulary.{Runs, step_of_control}
use Rattle.qc_script.specs.Runs.{begins, takes, posts, phase, control}
use Rattle.qc_script.specs.declared.script.Script.{Script}
use Rattle.laws_turns.proofs.StepCases.{control_cases}

abbrev AreNoRises : List Entry → Type 0
AreNoRises h = Every (λ (e : Entry). IsNoRise e.step) h

-- no input is one, nor is any step of a turn, nor any of the controller

no_input : (given : Input) → IsNoRise (step_of given)
no_input (inputs.Called command) = tt
no_input (inputs.Got envelope) = tt
no_input (inputs.Lost number) = tt

of_actor : (a : ℕ) (xs : List Step) → Every IsNoRise xs → AreNoRises (by a xs)
of_actor a [] none = tt
of_actor a (x ∷ xs) none = (none.0, of_actor a xs none.1)

no_record : (write : Option Record) → Every IsNoRise (wrote write)
no_record None = tt
no_record (Some record_written) = (tt, tt)

no_message : (n : ℕ) (ps : List Posting) → Every IsNoRise (sents n ps)
no_message n [] = tt
no_message n (p ∷ ps) = (tt, no_message (n + 1) ps)

no_reply : (reply : Option Reply) → Every IsNoRise (told reply)
no_reply None = tt
no_reply (Some reply) = (tt, tt)

no_post : (n : ℕ) (turn : Turn) → Every IsNoRise (posted n turn)
no_post n turn =
    every-append IsNoRise (wrote turn.write) (sents n turn.sends ++ told turn.told) (no_record turn.write)
    (every-append IsNoRise (sents n turn.sends) (told turn.told) (no_message n turn.sends) (no_reply turn.told))

no_control : (line : Control) (step : Step) → step_of_control line ≡ Some step → IsNoRise step
no_control line = control_cases IsNoRise (λ a b. tt) (λ a b. tt) line

module _ (lawful : ℕ → List Deed → Turn → Type 0) (decl : Declaration) (script : Script) where
  more : (h k : List Entry) → AreNoRises h → AreNoRises k → AreNoRises (h ++ k)
  more h k = every-append (λ (e : Entry). IsNoRise e.step) h k

  pub never_risen : (h : List Entry) (open_inputs : List Bool) → Runs lawful decl script h open_inputs → AreNoRises h
  never_risen h open_inputs begins = tt
  never_risen h open_inputs (takes a given before older run free ready) =
      more older (marked a (step_of given) ∷ []) (never_risen older before run) (no_input given, tt)
  never_risen h open_inputs (posts a turn before older run taken law) =
      more older (by a (posted (length (mail older)) turn)) (never_risen older before run)
      (of_actor a (posted (length (mail older)) turn) (no_post (length (mail older)) turn))
  never_risen h open_inputs (phase before older run none done quiet left) =
      more older _ (never_risen older before run) (tt, tt)
  never_risen h open_inputs (control line lines step before older run left is) =
      more older _ (never_risen older before run) (no_control line step is, tt)

  pub operations_written : (h : List Entry) (open_inputs : List Bool) → Runs lawful decl script h open_inputs
      → operations_of h ≡ sum_by (λ (c : Commit). answered c.ops) (written h)
  operations_written h open_inputs run = operations_are_those_of_records h (never_risen h open_inputs run)
