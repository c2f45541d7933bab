use Rattle.std.proofs.Common.{◌≡◌, drop}
use Rattle.qc_table.specs.Vocabulary.{reached, step_of}
use Rattle.qc_view.proofs.view.own_state.Given as goal

-- the events that are left lead from the state so far to where all lead from the first state
abbrev pub invariant-loop-event : goal.invariant-loop-event
invariant-loop-event l = reached (step_of l.table.rows) l.state (drop l.event-index l.own) ≡ reached
    (step_of l.table.rows) l.fn.from l.own
