use Rattle.std.proofs.Common.{◌≡◌, [], None, sym, ap, ◌∙◌}
use Rattle.std.proofs.lemmas.Result.{err_from_is_err_and}
use Rattle.toml.specs.View.{view}
use Rattle.qc_accept.specs.declared.fault.Wrong.TheVariants.{Form}
use Rattle.qc_accept.specs.Vocabulary.{data_of, names_in, read_each, with_name}
use Rattle.qc_accept.proofs.Steps.{read_on, read_none, read_all}
use Rattle.qc_accept.proofs.names.read_index.Goals as goal

pub loop-item-init : goal.loop-item-init
loop-item-init c = ap (λ names. read_each with_name names (data_of c.args.items.now)) c.new-index.ensures

pub returns-in_err-add : goal.returns-in_err-add
returns-in_err-add c =
    let told = err_from_is_err_and c.from_residual.result c.from_residual.ensures.1 in
    let none : c.in_err-add.field-0.0 ≡ Form → read_each with_name [] (data_of c.args.items.now) ≡ None = λ e.
    sym c.loop-item.invariant ∙ read_none with_name view c.args.items.now c.loop-item.item-index
    (names_in c.loop-item.index) c.item-item.result c.loop-item-test.true c.item-item.is (c.in_err-add.ensures e) in
    rw told.1 (λ e. none (sym told.2 ∙ e))

pub loop-item-preserved : goal.loop-item-preserved
loop-item-preserved c =
    sym (read_on with_name view c.args.items.now c.loop-item.item-index (names_in c.loop-item.index)
    (names_in c.add.new.self) c.item-item.result c.loop-item-test.true c.item-item.is c.in_ok-add.ensures)
    ∙ c.loop-item.invariant

pub returns : goal.returns
returns c = sym c.loop-item.invariant ∙ read_all with_name view c.args.items.now c.loop-item.item-index
    (names_in c.loop-item.index) c.loop-item-test.false
