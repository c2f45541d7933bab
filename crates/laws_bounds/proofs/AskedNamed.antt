-- In each run of a script that is read for its declaration, what an actor takes names declared things, where mail does.
use Rattle.std.proofs.Common.{◌≡◌, ℕ, ◌==◌, Bool, true, false, cond, List, [], ◌∷◌, filter, map, Some}
use Rattle.std.specs.List.{AllByRecursion as Every}
use Rattle.qc_list.proofs.Members.{every-at}
use Rattle.qc_decl.specs.Vocabulary.{IsAccepted}
use Rattle.qc_decl.specs.declared.declaration.Declaration.{Declaration}
use Rattle.laws_due.proofs.AskedCommands.{asks_all, ready_command}
use Rattle.qc_msg.specs.declared.message.Envelope.{Envelope}
use Rattle.qc_msg.specs.declared.step.Command.{Command}
use Rattle.qc_msg.specs.declared.step.Input.{Input}
use Rattle.qc_msg.specs.declared.step.Input.TheVariants as inputs
use Rattle.qc_msg.specs.Vocabulary.{Entry, WasSentTo}
use Rattle.qc_script.specs.Vocabulary.{IsCommandFor, IsPhaseFor, IsScriptFor, commands_for, empty_inbox, inbox, ready}
use Rattle.qc_script.specs.declared.script.CommandLine.{CommandLine}
use Rattle.qc_script.specs.declared.script.Script.{Script}
use Rattle.laws_bounds.proofs.EventsNamed.{command_named}
use Rattle.laws_bounds.proofs.Names.{CommandNamed, GivenNamed, MailNamed, MessageNamed}

module _ (decl : Declaration) (accepted : IsAccepted decl) where
  lines_named : (a : ℕ) (lines : List CommandLine) → Every (IsCommandFor decl) lines
      → Every (CommandNamed decl) (commands_for a lines)
  lines_named a [] all = tt
  lines_named a (l ∷ lines) all = at (l.actor == a) (lines_named a lines all.1)
    where
      at : (t : Bool) → Every (CommandNamed decl) (commands_for a lines)
          → Every (CommandNamed decl)
          (map (λ (x : CommandLine). x.command)
          (cond t (l ∷ filter (λ (x : CommandLine). x.actor == a) lines)
          (filter (λ (x : CommandLine). x.actor == a) lines)))
      at true rest = (command_named decl accepted l.actor l.command all.0, rest)
      at false rest = rest

  called_named : (script : Script) → IsScriptFor decl script → (a : ℕ) (h : List Entry) (c : Command)
      → ready decl script a h ≡ Some (inputs.Called c) → CommandNamed decl c
  called_named script sound a h c is =
      ready_command (CommandNamed decl) decl a (inbox script a h) c is
      (asks_all (CommandNamed decl) script a
      (λ n p place. lines_named a p.commands
      (every-at (IsPhaseFor decl) script.phases n p sound.phases place).1) h empty_inbox tt)

  pub given_named : (script : Script) → IsScriptFor decl script
      → (a : ℕ) (h : List Entry) (ms : List Envelope) (g : Input) → MailNamed decl ms → WasSentTo a ms g
      → ready decl script a h ≡ Some g → GivenNamed decl g
  given_named script sound a h ms (inputs.Called command) all sent is = called_named script sound a h command is
  given_named script sound a h ms (inputs.Got e) all sent is =
      every-at (λ (e : Envelope). MessageNamed decl e.message) ms e.number e all sent.0
  given_named script sound a h ms (inputs.Lost number) all sent is = tt
