use Rattle.std.proofs.Common.{◌==◌, List, length, ap, sym, ◌∙◌}
use Rattle.qc_script.specs.Vocabulary.{is_at_controls}
use Rattle.qc_script.specs.declared.script.CommandLine.{CommandLine}
use Rattle.qc_script.specs.declared.script.Script.{Script}
use Rattle.qc_script.proofs.Lasts.{at_controls, no_command}
use Rattle.qc_script.proofs.draft.Draft.is_at_controls.Goals as goal

pub returns-in-Some : goal.returns-in-Some
returns-in-Some c =
    let item = c.in-Some.ensures.item in
    c.is_empty.ensures
    ∙ ap (λ (lines : List CommandLine). length lines == 0) c.items.ensures
    ∙ no_command c.in-Some.phase.now.commands
    ∙ sym (at_controls c.deref.result.now c.in-Some.phase.now item.3.0 item.1)
    ∙ ap is_at_controls c.deref.ensures.value
    ∙ ap (λ (s : Script). is_at_controls s.phases) c.self.view_is
