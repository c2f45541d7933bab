use Rattle.std.proofs.Common.{◌≡◌, List, Some, None, sym, ap, ◌∙◌}
use Rattle.std.specs.Int.{trailing_zeros, w32}
use Rattle.qc_table.specs.declared.row.Event.{Event}
use Rattle.qc_table.specs.Vocabulary.{event, event_number, events_of, lowest_in}
use Rattle.qc_table.proofs.Answered.{no_lowest, lowest_is, first_is}
use Rattle.qc_table.proofs.Numbered.{found_is_lowest, first_some}
use Rattle.qc_table.proofs.table.Table.first.Goals as goal

-- the lowest response, and the number of its event
lowest : (c : goal.After-number) → lowest_in c.args.self.now.rows c.args.state c.args.inv ≡ Some
    (trailing_zeros w32 c.responses-responses.result)
lowest c = lowest_is c.args.self.now.rows c.args.state c.args.inv c.responses-responses.result c.if-responses-eq0.false
    c.responses-responses.type_inv c.responses-responses.ensures

numbered : (c : goal.After-number) → c.number.result ≡ event_number (events_of c.args.self.now.rows)
    (event c.args.inv (trailing_zeros w32 c.responses-responses.result))
numbered c = c.number.ensures ∙ ap (λ (es : List Event). event_number es
    (event c.args.inv (trailing_zeros w32 c.responses-responses.result))) c.events.ensures.events

pub returns-then-responses-eq0-clause-first : goal.returns-then-responses-eq0-clause-first
returns-then-responses-eq0-clause-first c =
    sym (first_is c.args.self.now.rows c.args.state c.args.inv None
    (no_lowest c.args.self.now.rows c.args.state c.args.inv c.responses-responses.result c.if-responses-eq0.true
    c.responses-responses.ensures))

pub returns-clause-first : goal.returns-clause-first
returns-clause-first c = numbered c ∙ sym
    (first_is c.args.self.now.rows c.args.state c.args.inv (Some (trailing_zeros w32 c.responses-responses.result))
    (lowest c))

pub returns-clause-lowest : goal.returns-clause-lowest
returns-clause-lowest c = found_is_lowest c.args.self.now.rows c.args.state c.args.inv
    (trailing_zeros w32 c.responses-responses.result) c.number.result (lowest c) (numbered c)

pub returns-clause-none : goal.returns-clause-none
returns-clause-none c e = absurd (first_some c.args.self.now.rows c.args.state c.args.inv
    (trailing_zeros w32 c.responses-responses.result) (lowest c) (sym (numbered c) ∙ e))
