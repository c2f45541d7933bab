use Rattle.qc_top.proofs.Ends.{leaves_run}
use Rattle.qc_top.proofs.Runs.{ended_below, ended_end, ended_run, ended_whole}
use Rattle.qc_top.proofs.running.finish.Goals as goal

pub conclude-cause-requires-clause-end : goal.conclude-cause-requires-clause-end
conclude-cause-requires-clause-end g c =
    ended_end c.args.decl.now c.args.ran.script c.requires.runnable c.args.ran.history c.args.ran.end c.requires.ended

pub conclude-cause-requires-clause-whole : goal.conclude-cause-requires-clause-whole
conclude-cause-requires-clause-whole g c =
    ended_whole c.args.decl.now c.args.ran.script c.requires.runnable c.args.ran.history c.args.ran.end c.requires.ended

pub returns-clause-leaves : goal.returns-clause-leaves
returns-clause-leaves g c =
    leaves_run c.args.decl.now c.args.ran.script c.args.output c.args.ran.history
    (g.K.Sink.taken c.args.sink.now) c.conclude-cause.result
    (g.K.Sink.taken c.conclude-cause.new.sink) c.requires.runnable
    (ended_run c.args.decl.now c.args.ran.script c.requires.runnable c.args.ran.history c.args.ran.end c.requires.ended)
    c.conclude-cause.ensures.ran c.conclude-cause.ensures.whole c.conclude-cause.ensures.full
    c.conclude-cause.ensures.text

pub returns-clause-before : goal.returns-clause-before
returns-clause-before g c = ended_below c.args.decl.now c.args.ran.script c.requires.runnable c.args.ran.history
    c.args.ran.end c.requires.ended
