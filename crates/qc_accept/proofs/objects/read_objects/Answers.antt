use Rattle.std.proofs.Common.{◌+◌, ℕ, ap, ◌∙◌}
use Rattle.std.proofs.lemmas.Result.{err_from_is_err_and}
use Rattle.toml.specs.View.{view}
use Rattle.qc_accept.specs.Vocabulary.{data_of, names_in, objects_in, with_object}
use Rattle.qc_accept.proofs.Counted.{object_counted}
use Rattle.qc_accept.proofs.Reading.{goes_on, item_seen, stops}
use Rattle.qc_accept.proofs.Told.{then_ok}
use Rattle.qc_accept.proofs.objects.read_objects.Goals as goal

pub returns-in_err-add_object : goal.returns-in_err-add_object
returns-in_err-add_object c =
    let out = err_from_is_err_and c.from_residual-in_err-add_object.result c.from_residual-in_err-add_object.ensures.1
    in
    rw (out.1, out.2) (λ apart. then_ok _ _ _ _ c.in_ok-items.ensures
    (stops (with_object (names_in c.args.types.now.names)) (objects_in c.loop-item.objects)
    (data_of c.in_ok-items.items.now) c.loop-item.item-index (view c.item-item.result) _ _
    (item_seen view c.in_ok-items.items.now c.loop-item.item-index c.item-item.result c.loop-item-test.true
    c.item-item.is)
    (c.in_err-add_object.ensures apart) c.loop-item.invariant.reads))

pub loop-item-preserved : goal.loop-item-preserved
loop-item-preserved c = record {
  reads = goes_on (with_object (names_in c.args.types.now.names)) (objects_in c.loop-item.objects) _
      (data_of c.in_ok-items.items.now) c.loop-item.item-index (view c.item-item.result) _
      (item_seen view c.in_ok-items.items.now c.loop-item.item-index c.item-item.result c.loop-item-test.true
      c.item-item.is)
      c.in_ok-add_object.ensures c.loop-item.invariant.reads;
  many = object_counted (names_in c.args.types.now.names) (objects_in c.loop-item.objects)
      (view c.item-item.result) _ c.in_ok-add_object.ensures
      ∙ ap (λ (n : ℕ). n + 1) c.loop-item.invariant.many;
}
