-- What a line asks for, once each name in it is declared: numbers stand for the actors, the object and the invocation.
use Rattle.std.specs.Prelude.{ℕ, if◌then◌else◌, nat_lt, Option, Some, None, option_map}
use Rattle.qc_decl.specs.Vocabulary.{administrator, client_actor, inv_named, object_named}
use Rattle.qc_decl.specs.declared.declaration.Declaration.{Declaration}
use Rattle.qc_msg.specs.declared.step.Command.{Command}
use Rattle.qc_msg.specs.declared.step.Command.TheVariants as commands
use Rattle.qc_msg.specs.declared.step.Control.TheVariants as controls
use Rattle.qc_script.specs.Options.{◌>>=◌}
use Rattle.qc_script.specs.declared.actor.ActorName.{ActorName}
use Rattle.qc_script.specs.declared.actor.ActorName.TheVariants.{Site, Client, Administrator}
use Rattle.qc_script.specs.declared.item.Item.{Item}
use Rattle.qc_script.specs.declared.item.Item.TheVariants as items
use Rattle.qc_script.specs.declared.line.ScriptLine.{ScriptLine}
use Rattle.qc_script.specs.declared.line.ScriptLine.TheVariants as lines
use Rattle.qc_script.specs.declared.line.Verb.{Verb}
use Rattle.qc_script.specs.declared.line.Verb.TheVariants as verbs

-- an actor's number, where it is declared: sites first, then clients, then the administrator

abbrev pub site_in : Declaration → ℕ → Option ℕ
site_in decl number = if nat_lt number decl.sites then Some number else None

abbrev pub client_in : Declaration → ℕ → Option ℕ
client_in decl number = if nat_lt number decl.clients then Some (client_actor decl number) else None

abbrev pub actor_in : Declaration → ActorName → Option ℕ
actor_in decl (Site number) = site_in decl number
actor_in decl (Client number) = client_in decl number
actor_in decl Administrator = Some (administrator decl)

-- a link's end; none stands for all
abbrev pub end_in : Declaration → Option ActorName → Option (Option ℕ)
end_in decl None = Some None
end_in decl (Some actor) = option_map Some (actor_in decl actor)

-- what a client is asked
abbrev pub command_in : Declaration → Verb → Option Command
command_in decl verbs.Begin = Some commands.Begin
command_in decl (verbs.Do object inv) = do
  of ← object_named decl object
  what ← inv_named decl of inv
  Some (commands.Do of what)
command_in decl verbs.Commit = Some commands.Commit
command_in decl verbs.Abort = Some commands.Abort

-- the line, if each name in it is declared
abbrev pub item_of : Declaration → ScriptLine → Option Item
item_of decl lines.Phase = Some items.Phase
item_of decl (lines.Link from to ordinal rule) = do
  sender ← end_in decl from
  receiver ← end_in decl to
  Some (items.Link (record { from = sender; to = receiver; ordinal = ordinal; rule = rule }))
item_of decl (lines.Cut first second) = do
  a ← actor_in decl first
  b ← actor_in decl second
  Some (items.Control (controls.Cut a b))
item_of decl (lines.Heal first second) = do
  a ← actor_in decl first
  b ← actor_in decl second
  Some (items.Control (controls.Heal a b))
item_of decl (lines.Crash name) = do
  actor ← actor_in decl name
  Some (items.Control (controls.Crash actor))
item_of decl (lines.Restart name) = do
  actor ← actor_in decl name
  Some (items.Control (controls.Restart actor))
item_of decl (lines.Armed name kind at) = do
  actor ← actor_in decl name
  Some (items.Control (controls.Armed actor kind at))
item_of decl (lines.Command client verb) = do
  actor ← client_in decl client
  command ← command_in decl verb
  Some (items.Command (record { actor = actor; command = command }))
item_of decl (lines.Epoch number) = Some (items.Epoch (administrator decl) number)
