use Rattle.std.proofs.Common.{rules, ◌∙◌, Bool, false, sym, subst}
use Rattle.qc_msg.specs.declared.step.Control.TheVariants as controls
use Rattle.qc_msg.specs.declared.step.Step.{Step}
use Rattle.qc_pass.specs.declared.token.Pass.{Pass}
use Rattle.qc_pass.specs.Vocabulary.{number}
use Rattle.qc_fabric.specs.Vocabulary.{MayDo}
use Rattle.qc_node.specs.Vocabulary.{IsCell}
use Rattle.qc_node.proofs.Kept.{cell_over_others}
use Rattle.qc_node.proofs.Ordered.{fallen_cell, is_up}
use Rattle.qc_node.proofs.cell.Cell.crash.Goals as goal

pub invariant_of-self : goal.invariant_of-self
invariant_of-self g c =
    subst (λ (r : Pass Step). IsCell g.N.RunName.tells g.N.RunName.table g.N.RunName.declaration c.self.inside.given_up
    c.self.inside.process r) (sym c.in_err-fall.ensures.err.1)
    (cell_over_others g.N.RunName.tells g.N.RunName.declaration c.self.inside.pass c.look.new.pass g.N.RunName.table
    c.self.inside.given_up c.self.inside.process c.self.invariant c.look.ensures.saw
    (c.look.ensures.room ∙ c.self.invariant.no_room))

pub crash-requires-clause-up : goal.crash-requires-clause-up
crash-requires-clause-up g c κs within =
    let cell : IsCell g.N.RunName.tells g.N.RunName.table g.N.RunName.declaration false c.self.inside.process
    c.look.new.pass =
    subst (λ (b : Bool). IsCell g.N.RunName.tells g.N.RunName.table g.N.RunName.declaration b c.self.inside.process
    c.look.new.pass) c.if-self.false
    (cell_over_others g.N.RunName.tells g.N.RunName.declaration c.self.inside.pass c.look.new.pass g.N.RunName.table
    c.self.inside.given_up c.self.inside.process c.self.invariant c.look.ensures.saw
    (c.look.ensures.room ∙ c.self.invariant.no_room)) in
    let may : MayDo g.N.RunName.declaration g.N.RunName.script c.look.new.self.history c.look.new.self.open_inputs
    (controls.Crash (number c.look.new.pass)) = search rules in
    is_up g.N.RunName.tells g.N.RunName.table g.N.RunName.declaration g.N.RunName.script
    c.requires.runnable.accepted
    c.look.new.pass c.self.inside.process cell c.look.new.self.history
    c.look.new.self.open_inputs c.look.ensures.seen c.look.ensures.runs may

pub invariant_of-self-2 : goal.invariant_of-self-2
invariant_of-self-2 g c =
    let cell : IsCell g.N.RunName.tells g.N.RunName.table g.N.RunName.declaration false c.self.inside.process
    c.look.new.pass =
    subst (λ (b : Bool). IsCell g.N.RunName.tells g.N.RunName.table g.N.RunName.declaration b c.self.inside.process
    c.look.new.pass) c.if-self.false
    (cell_over_others g.N.RunName.tells g.N.RunName.declaration c.self.inside.pass c.look.new.pass g.N.RunName.table
    c.self.inside.given_up c.self.inside.process c.self.invariant c.look.ensures.saw
    (c.look.ensures.room ∙ c.self.invariant.no_room)) in
    subst (λ (b : Bool). IsCell g.N.RunName.tells g.N.RunName.table g.N.RunName.declaration b c.crash.new.self
    c.fall.new.pass) (sym c.if-self.false)
    (fallen_cell g.N.RunName.tells g.N.RunName.table g.N.RunName.declaration c.look.new.pass c.self.inside.process cell
    c.fall.new.pass c.crash.new.self g.N.RunName.script _ _ c.in_ok-fall.ensures.ok
    c.crash.ensures.number c.crash.ensures.down.0 (λ a. c.crash.ensures.goes g.N.RunName.declaration a))
