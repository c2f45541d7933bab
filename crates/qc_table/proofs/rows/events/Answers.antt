use Rattle.std.proofs.Common.{◌≡◌, ap, arith, length, None}
use Rattle.qc_table.specs.declared.row.Event.{Event}
use Rattle.qc_table.specs.Vocabulary.{ranked, with_event}
use Rattle.qc_table.proofs.Few.{too_many}
use Rattle.qc_table.proofs.rows.events.Goals as goal

pub returns-then-items-gt-MOST_EVENTS-clause-err : goal.returns-then-items-gt-MOST_EVENTS-clause-err
returns-then-items-gt-MOST_EVENTS-clause-err c =
    ap (ranked None None) (too_many c.args.rows.now c.loop-row.events c.loop-row.row-index record
    { state = 0; inv = 0; resp = 0; next = 0 } c.loop-row-test.true c.loop-row.invariant.folded
    (let added : c.add_event.new.events ≡ with_event c.loop-row.events c.event.result = c.in_ok-add_event.ensures in
    omega (
      arith,
      c.if-items-gt-MOST_EVENTS.true,
      ap (length {A = Event}) c.items.ensures,
      ap (length {A = Event}) added,
      ap (λ e. length (with_event c.loop-row.events e)) c.event.ensures,
    )))
