use Rattle.std.proofs.Common.{◌∙◌, subst, sym}
use Rattle.std.specs.Prelude.{option_copied}
use Rattle.qc_node.specs.Vocabulary.{HasEnded}
use Rattle.qc_script.specs.declared.script.Script.{Script}
use Rattle.qc_top.proofs.Ends.{leaves_unbegun, unbegun_full}
use Rattle.qc_top.proofs.Idle.{ran_places, ran_used, unbegun_places, unbegun_used}
use Rattle.qc_top.proofs.Runs.{begun_below}
use Rattle.qc_top.specs.Vocabulary.{IsFullCause, IsRunnable, LeavesRun}
use Rattle.qc_report.specs.declared.cause.Cause.{Cause}
use Rattle.qc_top.proofs.running.run.Goals as goal

pub finish-requires-clause-runnable : goal.finish-requires-clause-runnable
finish-requires-clause-runnable g c = subst (λ (s : Script). IsRunnable c.args.job.now.decl.now s)
    (sym c.in-Ok.ensures.script) c.requires.runnable

pub finish-requires-clause-ended : goal.finish-requires-clause-ended
finish-requires-clause-ended g c = subst
    (λ (s : Script). HasEnded c.args.job.now.decl.now s c.in-Ok.ran.history c.in-Ok.ran.end)
    (sym c.in-Ok.ensures.script) c.in-Ok.ensures.ended

pub returns-in-Ok-clause-leaves : goal.returns-in-Ok-clause-leaves
returns-in-Ok-clause-leaves g c =
    subst (λ (s : Script). LeavesRun c.args.job.now.decl.now s c.args.output
    (g.K.Sink.taken c.args.sink.now) c.finish.result.cause
    (g.K.Sink.taken c.finish.new.sink) c.finish.result.history) c.in-Ok.ensures.script c.finish.ensures.leaves

pub returns-in-Ok-clause-rack : goal.returns-in-Ok-clause-rack
returns-in-Ok-clause-rack g c =
    ran_places (option_copied c.args.job.now.dir) c.args.job.now.decl.now (g.R.Rack.places c.args.rack.now)
    (g.R.Rack.places c.run_script.new.rack) c.finish.result.history c.in-Ok.ran.history c.finish.ensures.history
    c.in-Ok.ensures.empty c.in-Ok.ensures.places

pub returns-in-Ok-clause-used : goal.returns-in-Ok-clause-used
returns-in-Ok-clause-used g c =
    ran_used (option_copied c.args.job.now.dir) g.R.Rack.faults g.R.Rack.places c.args.rack.now c.run_script.new.rack
    c.finish.result.cause c.finish.result.history c.in-Ok.ran.history c.finish.ensures.history c.in-Ok.ensures.spent
    c.in-Ok.ensures.kept
    c.run_script.ensures.tells c.run_script.ensures.later c.finish.ensures.rack

pub returns-in-Err-clause-leaves : goal.returns-in-Err-clause-leaves
returns-in-Err-clause-leaves g c =
    leaves_unbegun c.args.job.now.decl.now c.args.script c.args.output
    (g.K.Sink.taken c.args.sink.now) c.in-Err.fault c.without_run.result.cause c.without_run.result.history
    c.requires.runnable c.without_run.ensures.history (c.without_run.ensures.cause ∙ c.rack_cause.ensures)

pub returns-in-Err-clause-rack : goal.returns-in-Err-clause-rack
returns-in-Err-clause-rack g c =
    unbegun_places (option_copied c.args.job.now.dir) c.args.job.now.decl.now (g.R.Rack.places c.args.rack.now)
    (g.R.Rack.places c.run_script.new.rack) c.without_run.result.history c.without_run.ensures.history

pub returns-in-Err-clause-used : goal.returns-in-Err-clause-used
returns-in-Err-clause-used g c =
    unbegun_used (option_copied c.args.job.now.dir) g.R.Rack.faults g.R.Rack.places c.args.rack.now
    c.run_script.new.rack c.in-Err.fault c.without_run.result.cause c.without_run.result.history
    c.without_run.ensures.history (c.without_run.ensures.cause ∙ c.rack_cause.ensures)
    c.run_script.ensures.tells c.run_script.ensures.later c.in-Err.ensures.refused

pub returns-in-Err-clause-full : goal.returns-in-Err-clause-full
returns-in-Err-clause-full g c =
    subst (λ (cause : Cause). IsFullCause cause c.without_run.result.history)
    (sym (c.without_run.ensures.cause ∙ c.rack_cause.ensures))
    (unbegun_full c.in-Err.fault c.without_run.result.history c.without_run.ensures.history)

pub returns-in-Err-clause-before : goal.returns-in-Err-clause-before
returns-in-Err-clause-before g c = begun_below c.without_run.result.history c.without_run.ensures.history
