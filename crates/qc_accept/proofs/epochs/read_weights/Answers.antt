use Rattle.std.proofs.Common.{◌++◌, ℕ, [], ◌∷◌, Some, ap, sym, ◌∙◌}
use Rattle.std.specs.Prelude.{option_map}
use Rattle.std.proofs.lemmas.Result.{err_from_is_err_and}
use Rattle.toml.specs.View.{view}
use Rattle.qc_accept.specs.Vocabulary.{data_of, with_weight}
use Rattle.qc_accept.proofs.Reading.{item_seen, reads_on, reads_none}
use Rattle.qc_accept.proofs.epochs.read_weights.Goals as goal

pub returns-in_err-weight : goal.returns-in_err-weight
returns-in_err-weight c =
    let told = err_from_is_err_and c.from_residual.result c.from_residual.ensures.1 in
    rw (told.1, told.2) (λ e. reads_none with_weight c.loop-item.weights
    (data_of c.args.items.now) c.loop-item.item-index (view c.item-item.result) _
    (item_seen view c.args.items.now c.loop-item.item-index c.item-item.result c.loop-item-test.true c.item-item.is)
    (ap (option_map (λ (w : ℕ). c.loop-item.weights ++ w ∷ [])) (c.in_err-weight.ensures e)) c.loop-item.invariant)

pub loop-item-preserved : goal.loop-item-preserved
loop-item-preserved c =
    reads_on with_weight c.loop-item.weights _ (data_of c.args.items.now) c.loop-item.item-index
    (view c.item-item.result) _
    (item_seen view c.args.items.now c.loop-item.item-index c.item-item.result c.loop-item-test.true c.item-item.is)
    (ap (option_map (λ (w : ℕ). c.loop-item.weights ++ w ∷ [])) c.in_ok-weight.ensures
    ∙ ap Some (sym c.in_ok-push.ensures.ok)) c.loop-item.invariant
