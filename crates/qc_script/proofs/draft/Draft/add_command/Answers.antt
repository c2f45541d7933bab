use Rattle.std.proofs.Common.{refl, ap, sym, rules}
use Rattle.qc_script.specs.Vocabulary.{with_command}
use Rattle.qc_script.specs.declared.script.PhaseLines.{PhaseLines}
use Rattle.qc_script.proofs.Lasts.{script_changed}
use Rattle.qc_script.proofs.draft.Draft.add_command.Goals as goal

pub returns-clause-ok : goal.returns-clause-ok
returns-clause-ok c =
    script_changed (with_command c.args.line) c.args.self.now c.self.inside.links c.self.inside.phases.items _
    c.in-Some.phase.now _
    c.self.view_is (search rules) (c.in-Some.ensures.variant.0 refl) c.in-Some.ensures.value
    (ap (λ cs. let p : PhaseLines = record { controls = c.in-Some.phase.now.controls; commands = cs } in p)
    (sym c.in_ok-push.ensures.ok))
