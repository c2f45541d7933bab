use Rattle.qc_accept.specs.Vocabulary.{objects_in, types_in}
use Rattle.qc_accept.proofs.DraftRead.{draft_same}
use Rattle.qc_accept.proofs.acceptance.gathered.Goals as goal

pub returns : goal.returns
returns c =
    draft_same c.args.counts.0 c.args.counts.1 (types_in c.args.types) (objects_in c.args.objects) c.args.plans _ _ _ _
    c.in_ok-sorted.ensures.0 c.in_ok-sorted.ensures.1 c.in_ok-sorted.ensures.2 c.in_ok-object_names.ensures
