use Rattle.std.proofs.Common.{refl, sym, subst, ◌∙◌}
use Rattle.std.proofs.lemmas.List.{take_all}
use Rattle.qc_table.proofs.Distinct.{AreDistinct, events_distinct}
use Rattle.qc_accept.proofs.Indexed.{event_inserted}
use Rattle.qc_accept.proofs.names.Events.of.Goals as goal

pub loop-event-init : goal.loop-event-init
loop-event-init c = c.new-events.ensures.empty

pub loop-event-preserved : goal.loop-event-preserved
loop-event-preserved c =
    event_inserted c.events-event-items.result.now c.loop-event.event-index c.loop-event.events.keys
    c.insert.new.self.keys _ _
    (subst AreDistinct (sym c.events-event-items.ensures.events) (events_distinct c.args.table.now.rows))
    c.loop-event-test.true refl c.loop-event.invariant c.in_ok-insert.ensures.keys

pub returns : goal.returns
returns c = c.loop-event.invariant ∙ take_all c.loop-event.event-index c.events-event-items.result.now
    c.loop-event-test.false ∙ c.events-event-items.ensures.events
