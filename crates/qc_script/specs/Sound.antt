-- What every script that is read has: its actors, objects and invocations are declared, and its numbers are in range.
use Rattle.std.specs.Prelude.{MatchOption, ◌≡◌, ◌≢◌, ℕ, ◌≤◌, IsTrue, List, length, Option, Some, None}
use Rattle.std.specs.List.{AllByRecursion as Every}
use Rattle.qc_decl.specs.Vocabulary.{administrator, inv_named, is_client, object_named}
use Rattle.qc_decl.specs.declared.declaration.Declaration.{Declaration}
use Rattle.qc_link.specs.declared.plan.Link.{Link}
use Rattle.qc_msg.specs.declared.step.Command.{Command}
use Rattle.qc_msg.specs.declared.step.Control.{Control}
use Rattle.qc_msg.specs.declared.step.Control.TheVariants.{Phase, Cut, Heal, Armed, Crash, Restart}
use Rattle.qc_script.specs.Ranges.{most_number}
use Rattle.qc_script.specs.declared.script.CommandLine.{CommandLine}
use Rattle.qc_script.specs.declared.script.PhaseLines.{PhaseLines}
use Rattle.qc_script.specs.declared.script.Script.{Script}
use Rattle.qc_msg.specs.Vocabulary.{Invocation, do_in, epoch_in}

-- a site, a client or the administrator
abbrev pub IsActor : Declaration → ℕ → Type 0
IsActor decl actor = actor ≤ administrator decl

-- the same, or none for all
abbrev pub IsEnd : Declaration → Option ℕ → Type 0
IsEnd decl None = Unit {0}
IsEnd decl (Some actor) = IsActor decl actor

abbrev pub IsCounted : ℕ → Type 0
IsCounted number = (1 ≤ number) × (number ≤ most_number)

abbrev pub IsOrdinal : Option ℕ → Type 0
IsOrdinal None = Unit {0}
IsOrdinal (Some number) = IsCounted number

abbrev pub IsLinkFor : Declaration → Link → Type 0
IsLinkFor decl link = IsEnd decl link.from × IsEnd decl link.to × IsOrdinal link.ordinal

-- what the controller may be told; that phases begin isn't said by a control of a script
abbrev pub IsControlFor : Declaration → Control → Type 0
IsControlFor decl (Phase number) = ⊥
IsControlFor decl (Cut a b) = IsActor decl a × IsActor decl b × (a ≢ b)
IsControlFor decl (Heal a b) = IsActor decl a × IsActor decl b × (a ≢ b)
IsControlFor decl (Armed actor kind at) = IsActor decl actor × IsCounted at
IsControlFor decl (Crash actor) = IsActor decl actor
IsControlFor decl (Restart actor) = IsActor decl actor

-- numbers that names of the declaration stand for

abbrev pub IsObject : Declaration → ℕ → Type 0
IsObject decl object = (name : List ℕ) × (object_named decl name ≡ Some object)

abbrev pub IsInv : Declaration → ℕ → ℕ → Type 0
IsInv decl object inv = (name : List ℕ) × (inv_named decl object name ≡ Some inv)

-- who may be asked what
abbrev pub IsAskedFor : Declaration → ℕ → Command → Type 0
IsAskedFor decl actor command =
    MatchOption (do_in command)
    (MatchOption (epoch_in command) (IsTrue (is_client decl actor))
    (λ (number : ℕ). (actor ≡ administrator decl) × (2 ≤ number) × (number ≤ length decl.plans)))
    (λ (i : Invocation). IsTrue (is_client decl actor) × IsObject decl i.object × IsInv decl i.object i.inv)

abbrev pub IsCommandFor : Declaration → CommandLine → Type 0
IsCommandFor decl line = IsAskedFor decl line.actor line.command

abbrev pub IsPhaseFor : Declaration → PhaseLines → Type 0
IsPhaseFor decl phase = Every (IsControlFor decl) phase.controls × Every (IsCommandFor decl) phase.commands

pub record IsScriptFor (decl : Declaration) (script : Script) : Type 0 where
  pub links : Every (IsLinkFor decl) script.links
  pub phases : Every (IsPhaseFor decl) script.phases
