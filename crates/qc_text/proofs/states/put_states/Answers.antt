use Rattle.qc_text.proofs.Sections.{numbered_more}
use Rattle.qc_text.proofs.states.put_states.Goals as goal

pub objects-preserved : goal.objects-preserved
objects-preserved c = numbered_more _ c.objects.object c.objects.page c.put_state.new.page c.put.new.self
    c.in_ok-put_state.ensures c.objects.invariant
