use Rattle.std.proofs.Common.{rules, ◌≡◌, Bool, false, sym, subst}
use Rattle.qc_msg.specs.declared.step.Control.TheVariants as controls
use Rattle.qc_node.specs.Vocabulary.{IsCell}
use Rattle.qc_node.proofs.Ordered.{armed_cell, armed_some}
use Rattle.qc_node.proofs.cell.Cell.arm.Goals as goal

pub invariant_of-self-2 : goal.invariant_of-self-2
invariant_of-self-2 g c =
    let cell : IsCell g.N.RunName.tells g.N.RunName.table g.N.RunName.declaration false c.self.inside.process
    c.self.inside.pass =
    subst (λ (b : Bool). IsCell g.N.RunName.tells g.N.RunName.table g.N.RunName.declaration b c.self.inside.process
    c.self.inside.pass) c.if-self.false c.self.invariant in
    let is : c.in-Some-Armed.field-0
    ≡ controls.Armed c.in-Some-Armed.field-0-0 c.in-Some-Armed.kind c.in-Some-Armed.at =
    first_of (assumption (c.in-Some-Armed.field-0-is), cc (c.in-Some-Armed.field-0-is), cc, search rules) in
    subst (λ (b : Bool). IsCell g.N.RunName.tells g.N.RunName.table g.N.RunName.declaration b c.arm-2.new.self
    c.arm.new.pass) (sym c.if-self.false)
    (armed_cell g.N.RunName.tells g.N.RunName.table g.N.RunName.declaration c.self.inside.pass c.self.inside.process
    cell c.arm.new.pass c.arm-2.new.self _ _ c.in-Some-Armed.kind c.in-Some-Armed.at
    c.in_ok-arm.ensures.ok
    (armed_some g.N.RunName.declaration g.N.RunName.script c.requires.runnable _ _ c.in-Some-Armed.field-0
    c.in-Some-Armed.field-0-0 c.in-Some-Armed.kind
    c.in-Some-Armed.at c.in-Some-Armed.ensures.1 is)
    c.arm-2.ensures.same.0 c.arm-2.ensures.same.1
    (λ a h now. c.arm-2.ensures.goes g.N.RunName.tells g.N.RunName.declaration a h now))
