-- What a script may ask: invocations of declared objects, epochs with a plan, and no client to move to one.
use Rattle.std.specs.Prelude.{MatchOption, ◌≡◌, ℕ, true, false, List, is_some}
use Rattle.std.specs.List.{AllByRecursion as Every}
use Rattle.qc_decl.specs.declared.declaration.Declaration.{Declaration}
use Rattle.qc_decl.specs.Vocabulary.{is_client, kind_at, plan_in}
use Rattle.qc_msg.specs.declared.step.Command.{Command}
use Rattle.qc_script.specs.declared.script.CommandLine.{CommandLine}
use Rattle.qc_script.specs.declared.script.PhaseLines.{PhaseLines}
use Rattle.qc_script.specs.declared.script.Script.{Script}
use Rattle.qc_msg.specs.Vocabulary.{Invocation, do_in, epoch_in}

abbrev pub IsAskable : Declaration → ℕ → Command → Type 0
IsAskable decl actor command =
    MatchOption (do_in command)
    (MatchOption (epoch_in command) (Unit {0})
    (λ (number : ℕ). (is_client decl actor ≡ false) × (is_some (plan_in decl number) ≡ true)))
    (λ (i : Invocation). is_some (kind_at decl i.object) ≡ true)

abbrev pub AreAskable : Declaration → List CommandLine → Type 0
AreAskable decl lines = Every (λ (l : CommandLine). IsAskable decl l.actor l.command) lines

abbrev pub AsksDeclared : Declaration → Script → Type 0
AsksDeclared decl script = Every (λ (p : PhaseLines). AreAskable decl p.commands) script.phases
