use Rattle.std.proofs.Common.{◌≡◌, drop, map}
use Rattle.qc_entry.specs.declared.line.Line.{Line}
use Rattle.qc_table.specs.Vocabulary.{after, reached, step_of}
use Rattle.qc_view.proofs.view.committed_state.Given as goal

-- the lines that are left lead from the state so far to where all lead from the start
abbrev pub invariant-loop-line : goal.invariant-loop-line
invariant-loop-line l =
    reached (step_of l.table.rows) l.state (map (λ (x : Line). x.event) (drop l.line-index l.lines))
    ≡ after (step_of l.table.rows) l.table.start (map (λ (x : Line). x.event) l.lines)
