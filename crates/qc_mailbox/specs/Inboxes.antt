-- What is kept beside a history of a script: a tray for each actor, and what all inboxes have in common.
use Rattle.std.specs.Prelude.{ℕ, Bool, List}
use Rattle.qc_link.specs.declared.plan.Link.{Link}
use Rattle.qc_msg.specs.declared.step.Command.{Command}
use Rattle.qc_msg.specs.declared.step.Control.{Control}
use Rattle.qc_script.specs.Vocabulary.{SentRequest}
use Rattle.qc_mailbox.specs.Tallies.{Tally}

-- what waits for one actor, its messages named by their numbers
pub record Tray : Type 0 where
  -- the copies that are ready
  pub copies : List ℕ
  -- the late copies that are ready once the phase's control lines have acted
  pub opening : List ℕ
  -- the late copies that are ready in the next phase
  pub late : List ℕ
  -- the actor's requests that made a copy at once and have no answer yet, each with its receiver
  pub unanswered : List SentRequest
  -- the actor's requests that are lost, ascending
  pub lost : List ℕ
  -- the commands that the actor hasn't called
  pub commands : List Command
  -- whether the actor has called one and not told its reply
  pub busy : Bool
  -- how many it called in this phase
  pub calls : ℕ

pub record Inboxes : Type 0 where
  -- the script's rules of links
  pub links : List Link
  -- which actors are cut from each other
  pub cuts : List Bool
  -- by actor, which are up
  pub up : List Bool
  -- how many messages there were
  pub counts : Tally
  -- the control lines of the phase that haven't acted
  pub controls : List Control
  -- what waits for each actor
  pub trays : List Tray
