-- What the calls tell through the caller's pass alone.
use Rattle.std.specs.Prelude.{◌≡◌, ◌⊎◌, ◌+◌, ◌<◌, ◌≤◌, ℕ, Bool, true, false, List, [], ◌∷◌, ◌++◌, Some, None, IsSome}
use Rattle.std.specs.Prelude.{length, max, slice_get}
use Rattle.std.specs.List.{AllByRecursion as Every}
use mathlib.Core.List.{IsPrefix}
use Rattle.qc_decl.specs.Vocabulary.{controller}
use Rattle.qc_decl.specs.declared.declaration.Declaration.{Declaration}
use Rattle.qc_msg.specs.Vocabulary.{Deed, Entry, Takes as TakesInput, by, deeds, deeds_as, mail, marked, posted_as}
use Rattle.qc_msg.specs.Vocabulary.{step_of, told, wrote}
use Rattle.qc_msg.specs.declared.record.Record.{Record}
use Rattle.qc_msg.specs.declared.step.Control.{Control}
use Rattle.qc_msg.specs.declared.step.Input.{Input}
use Rattle.qc_msg.specs.declared.step.Step.{Step}
use Rattle.qc_msg.specs.declared.turn.Posting.{Posting}
use Rattle.qc_msg.specs.declared.turn.Turn.{Turn}
use Rattle.qc_pass.specs.declared.token.Pass.{Pass}
use Rattle.qc_pass.specs.declared.token.Right.{Right}
use Rattle.qc_pass.specs.Vocabulary.{all, ends, mine, number, pass_table, right_table, room, rooms, seen}
use Rattle.qc_promise.specs.Vocabulary.{IsOfOthers}
use Rattle.qc_script.specs.Vocabulary.{RunWithFalls, ready}
use Rattle.qc_script.specs.declared.script.Script.{Script}
use Rattle.qc_fabric.specs.Controls.{control_step}
use Rattle.qc_fabric.specs.Logs.{full_of}
use Rattle.qc_fabric.specs.FabricStates.{most_history}
use Rattle.qc_link.specs.Vocabulary.{most_actors}

-- the same pass
pub record IsSame (p q : Pass Step) : Type 0 where
  pub table_is : pass_table q ≡ pass_table p
  pub number_is : number q ≡ number p

-- it saw more, of which nothing is its actor's, and nothing arms a fault for its actor's disk
pub record Sees (p q : Pass Step) : Type 0 where
  pub pass : IsSame p q
  pub others : List Entry
  pub not_own : IsOfOthers (number p) others
  pub seen_is : seen q ≡ seen p ++ others
  pub mine_is : mine q ≡ mine p
  pub does : deeds (number p) [] (seen q) ≡ deeds (number p) [] (seen p)

-- the room that a turn asks for: the steps of the longest of its three posts, and one more, so that a turn without
-- steps has room too
abbrev pub size_of : Turn → ℕ
size_of turn =
    max (length (wrote turn.write) + (length turn.sends + length (told turn.told)))
    (length turn.failed_sends + (length (told turn.failed_told) + 1)) + 1

-- a turn whose messages go to actors, also where its record couldn't be written
pub record GoesToActors (turn : Turn) : Type 0 where
  pub sends : Every (λ (p : Posting). p.to < most_actors) turn.sends
  pub failed_sends : Every (λ (p : Posting). p.to < most_actors) turn.failed_sends

-- these steps of the pass's actor were added
pub record Fed (p : Pass Step) (r : Right Step) (q : Pass Step) (t : Right Step) (steps : List Step) : Type 0 where
  pub same_table : pass_table q ≡ pass_table p
  pub same_right : right_table t ≡ right_table r
  pub same_number : number q ≡ number p
  pub mine_is : mine q ≡ mine p ++ steps
  pub all_is : all t ≡ all r ++ by (number p) steps
  pub rooms_are : rooms t ≡ rooms r
  -- what the other passes have seen ends where it did
  pub others_end : (b : ℕ) → (b ≡ number p → ⊥) → slice_get (ends t) b ≡ slice_get (ends r) b
  pub room_is : room q ≡ room p

-- Whether an input is handed to an actor: none is where a counted quantity has reached its limit, where its input is
-- open, and where nothing is ready for it; and else what is ready next.

abbrev pub HasNone : Declaration → Script → List Bool → ℕ → List Entry → Type 0
HasNone decl script inputs a h =
    IsSome (full_of h) ⊎ ((slice_get inputs a ≡ Some true) ⊎ (ready decl script a h ≡ None))

pub record HasNext (decl : Declaration) (script : Script) (inputs : List Bool) (a : ℕ) (h : List Entry) (given : Input)
    : Type 0 where
  pub below : full_of h ≡ None
  pub closed : slice_get inputs a ≡ Some false
  pub rdy : ready decl script a h ≡ Some given

module _ (lawful : ℕ → List Deed → Turn → Type 0) (fits : ℕ → List Record → Type 0) (decl : Declaration)
    (script : Script) where
  -- no input is handed to its actor
  pub record Waits (p q : Pass Step) : Type 0 where
    pub saw : Sees p q
    pub run : RunWithFalls lawful fits decl script (seen q)
    pub room_is : room q ≡ 0
    pub why : HasNone decl script run.0 (number p) (seen q)

  -- its actor took an input: what the pass has seen is a run that ends with this step. What stood there before is a run
  -- below each limit, in which the actor had no open input and has done what the pass had seen
  pub record Takes (p q : Pass Step) (given : Input) : Type 0 where
    pub pass : IsSame p q
    pub others : List Entry
    pub not_own : IsOfOthers (number p) others
    pub few : length (seen p ++ others) ≤ most_history
    pub below : full_of (seen p ++ others) ≡ None
    pub run_before : RunWithFalls lawful fits decl script (seen p ++ others)
    pub is_closed : slice_get run_before.0 (number p) ≡ Some false
    pub does_before : deeds (number p) [] (seen p ++ others) ≡ deeds (number p) [] (seen p)
    pub is_ready : ready decl script (number p) (seen p ++ others) ≡ Some given
    pub seen_is : seen q ≡ (seen p ++ others) ++ marked (number p) (step_of given) ∷ []
    pub run : RunWithFalls lawful fits decl script (seen q)
    pub is_open : slice_get run.0 (number p) ≡ Some true
    pub mine_is : mine q ≡ mine p ++ step_of given ∷ []
    pub does : deeds (number p) [] (seen q) ≡ deeds (number p) [] (seen p) ++ TakesInput given ∷ []
    pub room_is : room q ≡ room p

  -- its actor posted a turn, whose messages have the numbers from first on: what the pass has seen is a run that ends
  -- with the turn's steps, by what became of its record
  pub record Posts (p q : Pass Step) (turn : Turn) (first : ℕ) : Type 0 where
    pub pass : IsSame p q
    pub others : List Entry
    pub not_own : IsOfOthers (number p) others
    pub few : length (seen p ++ others) ≤ most_history
    pub first_is : first ≡ length (mail (seen p ++ others))
    pub seen_is : seen q ≡ (seen p ++ others) ++ by (number p) (posted_as turn.append first turn)
    pub run : RunWithFalls lawful fits decl script (seen q)
    pub mine_is : mine q ≡ mine p ++ posted_as turn.append first turn
    pub does : deeds (number p) [] (seen q) ≡ deeds (number p) [] (seen p) ++ deeds_as turn.append first turn
    pub room_is : room q ≡ 0

-- the controller did this
pub record Does (decl : Declaration) (p q : Pass Step) (old new : List Entry) (control : Control) : Type 0 where
  pub pass : IsSame p q
  pub begins : IsPrefix (seen p) old
  pub step : Step
  pub step_is : control_step control ≡ Some step
  pub new_is : new ≡ old ++ marked (controller decl) step ∷ []
  pub seen_is : seen q ≡ new
  pub mine_is : mine q ≡ mine p ++ step ∷ []
  pub room_is : room q ≡ room p
