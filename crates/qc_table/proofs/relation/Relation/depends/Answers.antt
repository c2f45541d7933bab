use Rattle.std.proofs.Common.{◌≡◌, false, sym, ◌∙◌}
use Rattle.std.proofs.lemmas.Bool.{le-ltb}
use Rattle.qc_table.specs.Vocabulary.{has}
use Rattle.qc_table.proofs.Related.{has_past}
use Rattle.qc_table.proofs.relation.Relation.depends.Goals as goal

pub returns-else-event-lt-MOST_EVENTS : goal.returns-else-event-lt-MOST_EVENTS
returns-else-event-lt-MOST_EVENTS c =
    let none : has c.depended-events.result c.args.event ≡ false =
    has_past c.depended-events.result c.args.event c.depended-events.type_inv c.if-event-lt-MOST_EVENTS.false in
    rw (sym c.depended-events.ensures) (le-ltb c.args.event 64 c.if-event-lt-MOST_EVENTS.false ∙ sym none)
