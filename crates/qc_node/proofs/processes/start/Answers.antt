use Rattle.std.proofs.Common.{◌≡◌, ◌∙◌, Bool, true}
use Rattle.std.specs.Prelude.{IsSome, option_copied}
use Rattle.std.proofs.lemmas.Result.{IfErr-weaker, IfOk-weaker}
use Rattle.qc_decl.specs.Vocabulary.{actors}
use Rattle.qc_node.specs.Vocabulary.{AreProcesses, AreUnbegun}
use Rattle.qc_node.proofs.Starts.{started_tells}
use Rattle.qc_node.proofs.Unbegun.{never_begun}
use Rattle.qc_node.proofs.processes.start.Goals as goal

pub returns-clause-each : goal.returns-clause-each
returns-clause-each g c =
    let places = g.K.Rack.places in
    IfOk-weaker c.processes_on.result
    (λ each. (tells : Bool) → (tells ≡ true → IsSome (places c.disks_of.new.rack))
    → AreProcesses tells c.args.decl.now each.items) _
    (λ each known tells on. known tells
    (λ is. started_tells (option_copied c.args.dir) (actors c.args.decl.now) (places c.args.rack.now)
    (places c.disks_of.new.rack) c.in_ok-disks.ensures.started.places ∙ on is))
    c.processes_on.ensures.each

pub returns-clause-refused : goal.returns-clause-refused
returns-clause-refused g c =
    let places = g.K.Rack.places in
    let faults = g.K.Rack.faults in
    let folder = option_copied c.args.dir in
    let all = actors c.args.decl.now in
    IfErr-weaker c.processes_on.result
    (AreUnbegun folder all (places c.disks_of.new.rack) (faults c.disks_of.new.rack) (places c.processes_on.new.rack)
    (faults c.processes_on.new.rack)) _
    (λ fault un. never_begun folder all (places c.args.rack.now) (places c.disks_of.new.rack)
    (places c.processes_on.new.rack) (faults c.args.rack.now) (faults c.disks_of.new.rack)
    (faults c.processes_on.new.rack) fault c.in_ok-disks.ensures.started un) c.processes_on.ensures.refused
