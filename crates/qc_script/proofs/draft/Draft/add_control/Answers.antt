use Rattle.std.proofs.Common.{refl, ap, sym, rules}
use Rattle.qc_script.specs.Vocabulary.{with_control}
use Rattle.qc_script.specs.declared.script.PhaseLines.{PhaseLines}
use Rattle.qc_script.proofs.Lasts.{script_changed}
use Rattle.qc_script.proofs.draft.Draft.add_control.Goals as goal

pub returns-clause-ok : goal.returns-clause-ok
returns-clause-ok c =
    script_changed (with_control c.args.control) c.args.self.now c.self.inside.links c.self.inside.phases.items _
    c.in-Some.phase.now _
    c.self.view_is (search rules) (c.in-Some.ensures.variant.0 refl) c.in-Some.ensures.value
    (ap (λ cs. let p : PhaseLines = record { controls = cs; commands = c.in-Some.phase.now.commands } in p)
    (sym c.in_ok-push.ensures.ok))
