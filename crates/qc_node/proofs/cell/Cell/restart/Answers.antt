use Rattle.std.proofs.Common.{rules, ◌≡◌, ◌∙◌, Bool, false, sym, subst}
use Rattle.qc_core.specs.Vocabulary.{IsLawfulWithFalls}
use Rattle.qc_core.specs.declared.actor.Actor.TheVariants.{Down}
use Rattle.qc_decl.specs.declared.declaration.Declaration.{Declaration}
use Rattle.qc_msg.specs.declared.step.Control.TheVariants as controls
use Rattle.qc_pass.specs.Vocabulary.{number, seen}
use Rattle.qc_process.specs.Vocabulary.{IsProcess, OpensAs, ProcessView, StaysOnDisk}
use Rattle.qc_fabric.specs.Vocabulary.{MayDo, RisesAs}
use Rattle.qc_node.specs.Vocabulary.{IsCell, fits_of, opened_of}
use Rattle.qc_node.proofs.Kept.{cell_over_others}
use Rattle.qc_node.proofs.Ordered.{is_down, opened_cell, risen_cell}
use Rattle.qc_node.proofs.Rises.{risen_asks, risen_lawful, risen_numbers, risen_process}
use Rattle.qc_node.proofs.cell.Cell.restart.Goals as goal
use Rattle.qc_script.proofs.Actors.{few_actors}

pub invariant_of-self : goal.invariant_of-self
invariant_of-self g c =
    cell_over_others g.N.RunName.tells g.N.RunName.declaration c.self.inside.pass c.look.new.pass g.N.RunName.table
    c.self.inside.given_up c.self.inside.process c.self.invariant c.look.ensures.saw
    (c.look.ensures.room ∙ c.self.invariant.no_room)

pub open-requires-clause-down : goal.open-requires-clause-down
open-requires-clause-down g c κs within =
    let cell : IsCell g.N.RunName.tells g.N.RunName.table g.N.RunName.declaration false c.self.inside.process
    c.look.new.pass =
    subst (λ (b : Bool). IsCell g.N.RunName.tells g.N.RunName.table g.N.RunName.declaration b c.self.inside.process
    c.look.new.pass) c.if-self.false
    (cell_over_others g.N.RunName.tells g.N.RunName.declaration c.self.inside.pass c.look.new.pass g.N.RunName.table
    c.self.inside.given_up c.self.inside.process c.self.invariant c.look.ensures.saw
    (c.look.ensures.room ∙ c.self.invariant.no_room)) in
    let may : MayDo g.N.RunName.declaration g.N.RunName.script c.look.new.self.history c.look.new.self.open_inputs
    (controls.Restart (number c.look.new.pass)) = search rules in
    let down : c.self.inside.process.actor ≡ Down =
    is_down g.N.RunName.tells g.N.RunName.table g.N.RunName.declaration g.N.RunName.script
    c.requires.runnable.accepted c.look.new.pass c.self.inside.process cell c.look.new.self.history
    c.look.new.self.open_inputs c.look.ensures.seen c.look.ensures.runs may in
    down

pub invariant_of-self-in_err-rising : goal.invariant_of-self-in_err-rising
invariant_of-self-in_err-rising g c =
    let cell : IsCell g.N.RunName.tells g.N.RunName.table g.N.RunName.declaration false c.self.inside.process
    c.look.new.pass =
    subst (λ (b : Bool). IsCell g.N.RunName.tells g.N.RunName.table g.N.RunName.declaration b c.self.inside.process
    c.look.new.pass) c.if-self.false
    (cell_over_others g.N.RunName.tells g.N.RunName.declaration c.self.inside.pass c.look.new.pass g.N.RunName.table
    c.self.inside.given_up c.self.inside.process c.self.invariant c.look.ensures.saw
    (c.look.ensures.room ∙ c.self.invariant.no_room)) in
    opened_cell g.N.RunName.tells g.N.RunName.table g.N.RunName.declaration c.look.new.pass c.self.inside.process
    c.open.new.process cell c.in_err-rising.ensures.err.0
    (subst (λ (d : Declaration). StaysOnDisk d c.self.inside.process.store c.open.new.process.store)
    c.args.worker.now.declaration c.in_err-rising.ensures.err.1)

pub rise-first-requires-clause-lawful : goal.rise-first-requires-clause-lawful
rise-first-requires-clause-lawful g c =
    let cell : IsCell g.N.RunName.tells g.N.RunName.table g.N.RunName.declaration false c.self.inside.process
    c.look.new.pass =
    subst (λ (b : Bool). IsCell g.N.RunName.tells g.N.RunName.table g.N.RunName.declaration b c.self.inside.process
    c.look.new.pass) c.if-self.false
    (cell_over_others g.N.RunName.tells g.N.RunName.declaration c.self.inside.pass c.look.new.pass g.N.RunName.table
    c.self.inside.given_up c.self.inside.process c.self.invariant c.look.ensures.saw
    (c.look.ensures.room ∙ c.self.invariant.no_room)) in
    let may : MayDo g.N.RunName.declaration g.N.RunName.script c.look.new.self.history c.look.new.self.open_inputs
    (controls.Restart (number c.look.new.pass)) = search rules in
    let down : c.self.inside.process.actor ≡ Down =
    is_down g.N.RunName.tells g.N.RunName.table g.N.RunName.declaration g.N.RunName.script
    c.requires.runnable.accepted c.look.new.pass c.self.inside.process cell c.look.new.self.history
    c.look.new.self.open_inputs c.look.ensures.seen c.look.ensures.runs may in
    let opened : OpensAs g.N.RunName.declaration c.self.inside.process c.open.new.process
    (opened_of c.in_ok-rising.rising) =
    subst (λ (d : Declaration). OpensAs d c.self.inside.process c.open.new.process (opened_of c.in_ok-rising.rising))
    c.args.worker.now.declaration c.in_ok-rising.ensures.ok in
    risen_lawful g.N.RunName.tells g.N.RunName.declaration g.N.RunName.script c.look.new.pass cell.is_actor
    c.self.inside.process cell.known c.open.new.process down
    (few_actors g.N.RunName.declaration c.requires.runnable.accepted) c.in_ok-rising.rising
    c.with_record-rising.result c.with_record-rising.new.process opened c.with_record-rising.ensures

pub sent-requires-clause-few : goal.sent-requires-clause-few
sent-requires-clause-few g c κs within =
    let cell : IsCell g.N.RunName.tells g.N.RunName.table g.N.RunName.declaration false c.self.inside.process
    c.look.new.pass =
    subst (λ (b : Bool). IsCell g.N.RunName.tells g.N.RunName.table g.N.RunName.declaration b c.self.inside.process
    c.look.new.pass) c.if-self.false
    (cell_over_others g.N.RunName.tells g.N.RunName.declaration c.self.inside.pass c.look.new.pass g.N.RunName.table
    c.self.inside.given_up c.self.inside.process c.self.invariant c.look.ensures.saw
    (c.look.ensures.room ∙ c.self.invariant.no_room)) in
    let may : MayDo g.N.RunName.declaration g.N.RunName.script c.look.new.self.history c.look.new.self.open_inputs
    (controls.Restart (number c.look.new.pass)) = search rules in
    let down : c.self.inside.process.actor ≡ Down =
    is_down g.N.RunName.tells g.N.RunName.table g.N.RunName.declaration g.N.RunName.script
    c.requires.runnable.accepted c.look.new.pass c.self.inside.process cell c.look.new.self.history
    c.look.new.self.open_inputs c.look.ensures.seen c.look.ensures.runs may in
    let opened : OpensAs g.N.RunName.declaration c.self.inside.process c.open.new.process
    (opened_of c.in_ok-rising.rising) =
    subst (λ (d : Declaration). OpensAs d c.self.inside.process c.open.new.process (opened_of c.in_ok-rising.rising))
    c.args.worker.now.declaration c.in_ok-rising.ensures.ok in
    risen_asks g.N.RunName.tells g.N.RunName.declaration g.N.RunName.script c.look.new.pass cell.is_actor
    c.self.inside.process cell.known c.open.new.process down
    (few_actors g.N.RunName.declaration c.requires.runnable.accepted) c.in_ok-rising.rising
    c.with_record-rising.result c.with_record-rising.new.process opened c.with_record-rising.ensures

pub sent-requires-clause-numbers : goal.sent-requires-clause-numbers
sent-requires-clause-numbers g c κs within =
    let cell : IsCell g.N.RunName.tells g.N.RunName.table g.N.RunName.declaration false c.self.inside.process
    c.look.new.pass =
    subst (λ (b : Bool). IsCell g.N.RunName.tells g.N.RunName.table g.N.RunName.declaration b c.self.inside.process
    c.look.new.pass) c.if-self.false
    (cell_over_others g.N.RunName.tells g.N.RunName.declaration c.self.inside.pass c.look.new.pass g.N.RunName.table
    c.self.inside.given_up c.self.inside.process c.self.invariant c.look.ensures.saw
    (c.look.ensures.room ∙ c.self.invariant.no_room)) in
    let may : MayDo g.N.RunName.declaration g.N.RunName.script c.look.new.self.history c.look.new.self.open_inputs
    (controls.Restart (number c.look.new.pass)) = search rules in
    let down : c.self.inside.process.actor ≡ Down =
    is_down g.N.RunName.tells g.N.RunName.table g.N.RunName.declaration g.N.RunName.script
    c.requires.runnable.accepted c.look.new.pass c.self.inside.process cell c.look.new.self.history
    c.look.new.self.open_inputs c.look.ensures.seen c.look.ensures.runs may in
    let opened : OpensAs g.N.RunName.declaration c.self.inside.process c.open.new.process
    (opened_of c.in_ok-rising.rising) =
    subst (λ (d : Declaration). OpensAs d c.self.inside.process c.open.new.process (opened_of c.in_ok-rising.rising))
    c.args.worker.now.declaration c.in_ok-rising.ensures.ok in
    let did : RisesAs (IsLawfulWithFalls g.N.RunName.declaration)
    (fits_of g.N.RunName.declaration) g.N.RunName.declaration g.N.RunName.script c.look.new.pass
    c.rise-first.new.pass c.with_record-rising.result c.rise-first.result = search rules in
    risen_numbers g.N.RunName.tells g.N.RunName.declaration g.N.RunName.script c.look.new.pass cell.is_actor
    c.self.inside.process cell.known c.open.new.process down
    (few_actors g.N.RunName.declaration c.requires.runnable.accepted) c.in_ok-rising.rising
    c.with_record-rising.result c.with_record-rising.new.process opened c.with_record-rising.ensures
    c.rise-first.new.pass c.rise-first.result did

pub invariant_of-self-2 : goal.invariant_of-self-2
invariant_of-self-2 g c =
    let cell : IsCell g.N.RunName.tells g.N.RunName.table g.N.RunName.declaration false c.self.inside.process
    c.look.new.pass =
    subst (λ (b : Bool). IsCell g.N.RunName.tells g.N.RunName.table g.N.RunName.declaration b c.self.inside.process
    c.look.new.pass) c.if-self.false
    (cell_over_others g.N.RunName.tells g.N.RunName.declaration c.self.inside.pass c.look.new.pass g.N.RunName.table
    c.self.inside.given_up c.self.inside.process c.self.invariant c.look.ensures.saw
    (c.look.ensures.room ∙ c.self.invariant.no_room)) in
    let may : MayDo g.N.RunName.declaration g.N.RunName.script c.look.new.self.history c.look.new.self.open_inputs
    (controls.Restart (number c.look.new.pass)) = search rules in
    let down : c.self.inside.process.actor ≡ Down =
    is_down g.N.RunName.tells g.N.RunName.table g.N.RunName.declaration g.N.RunName.script
    c.requires.runnable.accepted c.look.new.pass c.self.inside.process cell c.look.new.self.history
    c.look.new.self.open_inputs c.look.ensures.seen c.look.ensures.runs may in
    let opened : OpensAs g.N.RunName.declaration c.self.inside.process c.open.new.process
    (opened_of c.in_ok-rising.rising) =
    subst (λ (d : Declaration). OpensAs d c.self.inside.process c.open.new.process (opened_of c.in_ok-rising.rising))
    c.args.worker.now.declaration c.in_ok-rising.ensures.ok in
    let did : RisesAs (IsLawfulWithFalls g.N.RunName.declaration)
    (fits_of g.N.RunName.declaration) g.N.RunName.declaration g.N.RunName.script c.look.new.pass
    c.rise-first.new.pass c.with_record-rising.result c.rise-first.result = search rules in
    risen_cell g.N.RunName.tells g.N.RunName.table g.N.RunName.declaration c.look.new.pass c.self.inside.process cell
    c.rise-first.new.pass c.sent.new.self g.N.RunName.script c.with_record-rising.result c.rise-first.result did
    (subst (λ (x : ProcessView). IsProcess g.N.RunName.tells g.N.RunName.declaration (number c.rise-first.new.pass)
    (seen c.rise-first.new.pass) x) (sym c.sent.ensures)
    (risen_process g.N.RunName.tells g.N.RunName.declaration g.N.RunName.script c.look.new.pass cell.is_actor
    c.self.inside.process cell.known c.open.new.process down
    (few_actors g.N.RunName.declaration c.requires.runnable.accepted) c.in_ok-rising.rising
    c.with_record-rising.result c.with_record-rising.new.process opened c.with_record-rising.ensures
    c.rise-first.new.pass c.rise-first.result did))
