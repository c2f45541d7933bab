use Rattle.std.proofs.Common.{List, Option, ℕ, map, ◌∙◌, ap}
use Rattle.qc_entry.specs.declared.line.Line.{Line}
use Rattle.qc_table.specs.Vocabulary.{after, reached, step_of}
use Rattle.qc_view.proofs.Runs.{state_joined}
use Rattle.qc_view.proofs.view.View.state.Goals as goal

pub returns : goal.returns
returns c =
    c.own_state.ensures
    ∙ ap (λ (o : Option ℕ). reached (step_of c.args.table.now.rows) o c.items.result.now)
    (c.committed_state.ensures ∙ ap (λ (ls : List Line). after
    (step_of c.args.table.now.rows) c.args.table.now.start (map (λ (l : Line). l.event) ls)) c.lines.ensures.value)
    ∙ ap (λ (own : List ℕ). reached (step_of c.args.table.now.rows)
    (after (step_of c.args.table.now.rows) c.args.table.now.start (map (λ (l : Line). l.event) c.args.self.now.log))
    own) c.items.ensures
    ∙ state_joined c.args.table.now c.args.self.now
