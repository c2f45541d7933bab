use Rattle.std.proofs.Common.{ℕ, Option, List, length, ap, sym, subst, get_or, ◌∙◌}
use Rattle.std.proofs.lemmas.List.{take_all}
use Rattle.qc_table.specs.declared.row.Row.{Row}
use Rattle.qc_table.specs.declared.row.Event.{Event}
use Rattle.qc_table.specs.Vocabulary.{IsSmall, event_number, event_of, grid_next}
use Rattle.qc_table.proofs.Distinct.{AreDistinct, events_distinct}
use Rattle.qc_table.proofs.Gridded.{step_by, grid_more, length_row}
use Rattle.qc_table.proofs.grid.Grid.new.Goals as goal

pub loop-row-preserved : goal.loop-row-preserved
loop-row-preserved c =
    let rows : List Row = c.args.rows.now in
    let d : Row = record { state = 0; inv = 0; resp = 0; next = 0 } in
    let small : IsSmall (get_or rows c.loop-row.row-index d) =
    c.requires.small c.loop-row.row-index d c.loop-row-test.true in
    let distinct : AreDistinct c.args.events.now =
    subst (λ es. AreDistinct es) (sym c.requires.events) (events_distinct rows) in
    record {
      size = ap (length {A = Option ℕ}) c.add.ensures
          ∙ length_row c.loop-row.grid (get_or rows c.loop-row.row-index d)
          (event_number c.args.events.now (event_of (get_or rows c.loop-row.row-index d))) ∙ c.loop-row.invariant.size;
      each = λ state number. ap (λ grid. grid_next grid state number) c.add.ensures
          ∙ grid_more c.loop-row.grid rows c.args.events.now c.loop-row.row-index d state number
          c.loop-row.invariant.size c.loop-row-test.true small.state c.requires.few distinct
          (c.loop-row.invariant.each state number);
    }

pub returns : goal.returns
returns c state number =
    c.loop-row.invariant.each state number ∙ ap (λ (rows : List Row). step_by rows c.args.events.now state number)
    (take_all c.loop-row.row-index c.args.rows.now c.loop-row-test.false)
    ∙ ap (λ (events : List Event). step_by c.args.rows.now events state number) c.requires.events
