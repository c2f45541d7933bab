-- What a restart of an actor makes of what was found: its steps, its deeds, what waits for whom, and the room for it.
use Rattle.std.specs.Prelude.{◌≡◌, ℕ, ◌+◌, ◌≤◌, List, [], ◌∷◌, ◌++◌, None, length}
use Rattle.qc_decl.specs.declared.declaration.Declaration.{Declaration}
use Rattle.qc_mailbox.specs.Vocabulary.{Inboxes, after_fall_by_line, after_rising_as, with_control_gone}
use Rattle.qc_msg.specs.Vocabulary.{Deed, Entry, Falls, HasRecord, IsByDisk, Rises, by, deeds, deeds_as, mail}
use Rattle.qc_msg.specs.Vocabulary.{posted_as, sends_as}
use Rattle.qc_msg.specs.declared.record.Record.{Record}
use Rattle.qc_msg.specs.declared.step.Step.{Step}
use Rattle.qc_msg.specs.declared.step.Step.TheVariants as steps
use Rattle.qc_msg.specs.declared.turn.Posting.{Posting}
use Rattle.qc_msg.specs.declared.turn.Turn.{Turn}
use Rattle.qc_pass.specs.declared.token.Pass.{Pass}
use Rattle.qc_pass.specs.Vocabulary.{mine, number, room, seen}
use Rattle.qc_promise.specs.Vocabulary.{IsOfOthers}
use Rattle.qc_script.specs.Vocabulary.{RunWithFalls}
use Rattle.qc_script.specs.declared.script.Script.{Script}
use Rattle.qc_fabric.specs.FabricStates.{most_history}
use Rattle.qc_fabric.specs.Tells.{GoesToActors, IsSame, size_of}
use Rattle.qc_fabric.specs.declared.rising.Rising.{Rising}
use Rattle.qc_fabric.specs.declared.rising.Rising.TheVariants.{Rose, Damaged, NotOpened}

-- the steps of an actor that is restarted: it rises and posts its rising turn, whose messages have the numbers from
-- first on; or its journal is damaged; or a disk failed or stopped as the journal was opened
abbrev pub steps_of_rising : ℕ → Rising → List Step
steps_of_rising first (Rose records turn) = steps.Rose records ∷ posted_as turn.append first turn
steps_of_rising first (Damaged offset) = steps.Damaged offset ∷ []
steps_of_rising first (NotOpened cause) = steps.Fell cause None ∷ []

abbrev pub deeds_of_rising : ℕ → Rising → List Deed
deeds_of_rising first (Rose records turn) = Rises records ∷ deeds_as turn.append first turn
deeds_of_rising first (Damaged offset) = []
deeds_of_rising first (NotOpened cause) = Falls cause None ∷ []

-- the messages that it sends
abbrev pub sends_of_rising : Rising → List Posting
sends_of_rising (Rose records turn) = sends_as turn.append turn
sends_of_rising (Damaged offset) = []
sends_of_rising (NotOpened cause) = []

-- the room that it asks for
abbrev pub size_of_rising : Rising → ℕ
size_of_rising (Rose records turn) = size_of turn + 1
size_of_rising (Damaged offset) = 1
size_of_rising (NotOpened cause) = 1

-- what waits for whom afterwards
abbrev pub after_rising : Inboxes → ℕ → Rising → Inboxes
after_rising i a (Rose records turn) = after_rising_as turn.append i a turn
after_rising i a (Damaged offset) = with_control_gone i
after_rising i a (NotOpened cause) = after_fall_by_line i a

-- the messages of its turn go to actors
abbrev pub RisesToActors : Rising → Type 0
RisesToActors (Rose records turn) = GoesToActors turn
RisesToActors (Damaged offset) = Unit {0}
RisesToActors (NotOpened cause) = Unit {0}

-- An actor with this part of the history may be restarted so: the conduct lets it rise with the records, and post the
-- turn, which has a record; a journal that isn't opened is its disk's doing
abbrev pub IsRising : (ℕ → List Deed → Turn → Type 0) → (ℕ → List Record → Type 0) → ℕ → List Entry → Rising → Type 0
IsRising lawful fits a h (Rose records turn) =
    fits a records × HasRecord turn.write × GoesToActors turn × lawful a (deeds a [] h ++ Rises records ∷ []) turn
IsRising lawful fits a h (Damaged offset) = Unit {0}
IsRising lawful fits a h (NotOpened cause) = IsByDisk cause

-- the pass's actor was restarted by the control line that was next, its messages having the numbers from first on: what
-- the pass has seen is a run that ends with just these steps
pub record RisesAs (lawful : ℕ → List Deed → Turn → Type 0) (fits : ℕ → List Record → Type 0) (decl : Declaration)
    (script : Script) (p q : Pass Step) (rising : Rising) (first : ℕ) : Type 0 where
  pub pass : IsSame p q
  pub others : List Entry
  pub not_own : IsOfOthers (number p) others
  pub few : length (seen p ++ others) ≤ most_history
  pub first_is : first ≡ length (mail (seen p ++ others))
  pub seen_is : seen q ≡ (seen p ++ others) ++ by (number p) (steps_of_rising first rising)
  pub run : RunWithFalls lawful fits decl script (seen q)
  pub mine_is : mine q ≡ mine p ++ steps_of_rising first rising
  pub does : deeds (number p) [] (seen q) ≡ deeds (number p) [] (seen p) ++ deeds_of_rising first rising
  pub room_is : room q ≡ room p
