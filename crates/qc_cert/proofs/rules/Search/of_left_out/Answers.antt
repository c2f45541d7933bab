use Rattle.std.proofs.Common.{rules, ◌≡◌, ◌<◌, length, ap, ◌∙◌}
use Rattle.qc_list.proofs.Search.{first_found}
use Rattle.qc_table.specs.Vocabulary.{events_of}
use Rattle.qc_table.specs.declared.kind.Kind.{Kind}
use Rattle.qc_cert.proofs.rules.Search.of_left_out.Goals as goal

pub returns-then-is_some : goal.returns-then-is_some
returns-then-is_some c =
    let same : c.events-events.result.now ≡ events_of c.args.self.now.kind.now.table.rows =
    c.events-events.ensures.events
    ∙ ap (λ (k : Kind). events_of k.table.rows) c.plain.ensures in
    let within : c.loop-event.event < length (events_of c.args.self.now.kind.now.table.rows) =
    rw (← same) c.loop-event-test.true in
    first_found _ _ _ _ within c.loop-event.invariant c.left_out-fault.ensures (search rules)
