use Rattle.std.proofs.Common.{sym, ◌∙◌}
use Rattle.std.specs.Option.{option_copied}
use Rattle.qc_front.proofs.Moves.{appending_went, reading_went}
use Rattle.qc_front.proofs.front.Front.becomes.Goals as goal

pub returns-in_ok-go_on_reading-in-Reading : goal.returns-in_ok-go_on_reading-in-Reading
returns-in_ok-go_on_reading-in-Reading c =
    reading_went c.args.decl.now c.args.self.now c.in-Some.transaction c.in-Reading.object c.in-Reading.inv
    c.args.number c.in-Reading.calls c.in-Reading.round
    c.in-Some-2.noted c.in_ok-draft-in-Reading.draft (option_copied c.args.answer)
    c.in_ok-go_on_reading-in-Reading.field-0
    c.in-Some.is c.in-Reading.is (sym c.in-Some-2.is ∙ c.in_ok-noted-in-Reading.ensures)
    c.in_ok-draft-in-Reading.ensures c.in_ok-go_on_reading-in-Reading.ensures

pub returns-in_ok-go_on_appending-in-Appending : goal.returns-in_ok-go_on_appending-in-Appending
returns-in_ok-go_on_appending-in-Appending c =
    appending_went c.args.decl.now c.args.self.now c.in-Some.transaction c.in-Appending.object c.in-Appending.inv
    c.in-Appending.event c.args.number
    c.in-Appending.calls c.in-Appending.round c.in-Some-3.noted c.in_ok-draft-in-Appending.draft
    (option_copied c.args.answer) c.in_ok-go_on_appending-in-Appending.field-0
    c.in-Some.is c.in-Appending.is (sym c.in-Some-3.is ∙ c.in_ok-noted-in-Appending.ensures)
    c.in_ok-draft-in-Appending.ensures c.in_ok-go_on_appending-in-Appending.ensures
