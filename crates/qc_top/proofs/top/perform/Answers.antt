use Rattle.std.proofs.Common.{refl, subst, sym, ◌∙◌, List}
use Rattle.qc_msg.specs.Vocabulary.{Entry}
use Rattle.qc_report.specs.declared.cause.Cause.{Cause}
use Rattle.qc_top.proofs.Blame.{blames}
use Rattle.qc_top.proofs.Ends.{leaves_refused, refused_full, refused_no_rack, refused_no_usage}
use Rattle.qc_top.proofs.Idle.{idle_rack, idle_used}
use Rattle.qc_top.proofs.Runs.{begun_below}
use Rattle.qc_top.proofs.Right.{work_is}
use Rattle.qc_top.specs.Vocabulary.{Caused, IsFullCause, IsRefusal, Leaves, LeavesRack, folder_of, work_of}
use Rattle.qc_words.specs.Vocabulary.{asked_in}
use Rattle.qc_top.specs.declared.work.Work.{Work}
use Rattle.qc_top.proofs.top.perform.Goals as goal

pub do_work-requires-clause-right : goal.do_work-requires-clause-right
do_work-requires-clause-right g c = λ _ _. work_is
    (asked_in c.args.asked) c.args.answers c.in-Ok.work c.in-Ok.ensures.work

pub returns-in-Ok-clause-leaves : goal.returns-in-Ok-clause-leaves
returns-in-Ok-clause-leaves g c =
    subst (λ (w : Caused Work). Leaves w (g.K.Sink.taken c.args.sink.now) c.do_work.result.cause
    (g.K.Sink.taken c.do_work.new.sink) c.do_work.result.history)
    (sym c.in-Ok.ensures.work) c.do_work.ensures.leaves

pub returns-in-Ok-clause-blame : goal.returns-in-Ok-clause-blame
returns-in-Ok-clause-blame g c = λ script same. absurd (c.do_work.ensures.shelf script same)

pub returns-in-Ok-clause-rack : goal.returns-in-Ok-clause-rack
returns-in-Ok-clause-rack g c =
    subst (λ (w : Caused Work). LeavesRack (folder_of (asked_in c.args.asked)) g.R.Rack.places w c.args.rack.now
    c.do_work.new.rack c.do_work.result.history) (sym c.in-Ok.ensures.work) c.do_work.ensures.rack

pub returns-in-Err-clause-rack : goal.returns-in-Err-clause-rack
returns-in-Err-clause-rack g c =
    idle_rack (folder_of (asked_in c.args.asked)) g.R.Rack.places
    (work_of (asked_in c.args.asked) c.args.answers) c.args.rack.now c.args.rack.now c.without_run.result.history
    refl c.without_run.ensures.history

pub returns-in-Err-clause-used : goal.returns-in-Err-clause-used
returns-in-Err-clause-used g c =
    idle_used (folder_of (asked_in c.args.asked)) g.R.Rack.faults g.R.Rack.places c.args.rack.now
    c.without_run.result.cause c.without_run.result.history c.without_run.ensures.history
    (refused_no_rack c.without_run.result.cause
    (subst IsRefusal (sym c.without_run.ensures.cause) c.in-Err.ensures.refusal))

pub returns-in-Err-clause-leaves : goal.returns-in-Err-clause-leaves
returns-in-Err-clause-leaves g c =
    subst (λ (cause : Cause). Leaves (work_of (asked_in c.args.asked) c.args.answers)
    (g.K.Sink.taken c.args.sink.now) cause (g.K.Sink.taken c.args.sink.now) c.without_run.result.history)
    (sym c.without_run.ensures.cause)
    (subst (λ (h : List Entry). Leaves (work_of (asked_in c.args.asked) c.args.answers)
    (g.K.Sink.taken c.args.sink.now) c.in-Err.cause (g.K.Sink.taken c.args.sink.now) h)
    (sym c.without_run.ensures.history)
    (leaves_refused (asked_in c.args.asked) c.args.answers
    (g.K.Sink.taken c.args.sink.now) c.in-Err.cause c.in-Err.ensures.work))

pub returns-in-Err-clause-blame : goal.returns-in-Err-clause-blame
returns-in-Err-clause-blame g c = λ script same. blames
    (asked_in c.args.asked) c.args.answers c.in-Err.cause c.in-Err.ensures.work script
    (sym c.without_run.ensures.cause ∙ same)

pub returns-in-Err-clause-full : goal.returns-in-Err-clause-full
returns-in-Err-clause-full g c =
    subst (λ (cause : Cause). IsFullCause cause c.without_run.result.history) (sym c.without_run.ensures.cause)
    (refused_full c.in-Err.cause c.without_run.result.history c.in-Err.ensures.refusal
    c.without_run.ensures.history)

pub returns-in-Err-clause-before : goal.returns-in-Err-clause-before
returns-in-Err-clause-before g c = begun_below c.without_run.result.history c.without_run.ensures.history

pub returns-in-Err-clause-asked : goal.returns-in-Err-clause-asked
returns-in-Err-clause-asked g c is =
    refused_no_usage c.without_run.result.cause
    (subst IsRefusal (sym c.without_run.ensures.cause) c.in-Err.ensures.refusal) is
