use Rattle.std.proofs.Common.{◌≡◌, ◌<◌, true, false, List, All, length, sym, ap, subst, ◌∙◌, arith}
use Rattle.std.specs.Prelude.{◌&&◌}
use Rattle.std.proofs.lemmas.List.{take_all}
use Rattle.qc_table.specs.declared.row.Event.{Event}
use Rattle.qc_table.specs.Vocabulary.{Rules, event, events_of}
use Rattle.qc_table.proofs.Legal.{is_legal}
use Rattle.qc_table.proofs.Numbered.{is_among}
use Rattle.qc_table.proofs.Answered.{answer_step, told}
use Rattle.qc_table.proofs.Unknown.{events_within}
use Rattle.qc_table.proofs.table.Table.responses.Goals as goal
use Rattle.qc_table.proofs.table.Table.responses.Goals.{then-allows, else-allows}

pub with_response-responses-requires : goal.with_response-responses-requires
with_response-responses-requires c =
    let own : c.items-event-items.result.now ≡ events_of c.self.inside.rows = c.items-event-items.ensures
    ∙ c.self.invariant.1 in
    subst (λ (es : List Event). All (λ (e : Event). e.resp < 32) es) (sym own)
    (events_within _ c.self.invariant.0) c.loop-number.number record { inv = 0; resp = 0 } c.loop-number-test.true

pub loop-number-preserved : goal.loop-number-preserved
loop-number-preserved c k =
    let own : c.items-event-items.result.now ≡ events_of c.args.self.now.rows = c.items-event-items.ensures
    ∙ c.self.invariant.1 ∙ ap (λ (r : Rules). events_of r.rows) c.self.view_is in
    let d : Event = record { inv = 0; resp = 0 } in
    elim c.if-allows.branch [
      | then-allows w ↦ answer_step c.args.self.now.rows c.items-event-items.result.now c.loop-number.number d
          c.args.state c.args.inv c.loop-number.responses c.if-allows.responses k true own c.loop-number-test.true
          (sym w.if-allows.true ∙ c.allows.ensures) (w.responses-is ∙ w.with_response-responses.ensures)
          (c.loop-number.invariant k)
      | else-allows w ↦ answer_step c.args.self.now.rows c.items-event-items.result.now c.loop-number.number d
          c.args.state c.args.inv c.loop-number.responses c.if-allows.responses k false own c.loop-number-test.true
          (sym w.if-allows.false ∙ c.allows.ensures) w.responses-is (c.loop-number.invariant k)
    ]

pub returns : goal.returns
returns c k =
    let own : c.items-event-items.result.now ≡ events_of c.args.self.now.rows = c.items-event-items.ensures
    ∙ c.self.invariant.1 ∙ ap (λ (r : Rules). events_of r.rows) c.self.view_is in
    told c.args.self.now.rows c.args.state c.loop-number.responses k (event c.args.inv k) (c.loop-number.invariant k
    ∙ ap (λ (es : List Event). is_among (event c.args.inv k) es
    && is_legal c.args.self.now.rows c.args.state (event c.args.inv k))
    (take_all c.loop-number.number (events_of c.args.self.now.rows)
    (omega (arith, ap (length {A = Event}) own, c.loop-number-test.false))))
