use Rattle.std.proofs.Common.{◌≡◌, ◌≤◌, suc, length, arith}
use Rattle.std.proofs.lemmas.List.{length-map}
use Rattle.std.proofs.lemmas.Result.{err_from_is_err_and}
use Rattle.toml.specs.View.{view}
use Rattle.qc_accept.specs.Vocabulary.{data_of, path_in, table_in, types_in, with_type}
use Rattle.qc_accept.proofs.Reading.{goes_on, stops, ends, item_seen}
use Rattle.qc_accept.proofs.Typed.{type_named, types_read}
use Rattle.qc_accept.proofs.kinds.read_types.Goals as goal

pub loop-item-preserved : goal.loop-item-preserved
loop-item-preserved c =
    let named : length (types_in c.add_type.new.types).names ≡ suc (length (types_in c.loop-item.types).names) =
    type_named (types_in c.loop-item.types) (view c.item-item.result)
    (types_in c.add_type.new.types) c.in_ok-add_type.ensures in
    let before : length (types_in c.loop-item.types).names ≡ c.loop-item.item-index = c.loop-item.invariant.long in
    record {
      read = goes_on with_type (types_in c.loop-item.types) (types_in c.add_type.new.types)
          (data_of c.in_ok-items.items.now) c.loop-item.item-index
          (view c.item-item.result) _ (item_seen view c.in_ok-items.items.now c.loop-item.item-index c.item-item.result
          c.loop-item-test.true c.item-item.is)
          c.in_ok-add_type.ensures c.loop-item.invariant.read;
      long = omega arith;
      few = c.loop-item.invariant.few;
    }

pub returns-in_err-add_type : goal.returns-in_err-add_type
returns-in_err-add_type c =
    let told = err_from_is_err_and c.from_residual-in_err-add_type.result c.from_residual-in_err-add_type.ensures.1 in
    rw (told.1, told.2) (λ apart.
    types_read (path_in c.args.root.now) (table_in c.args.root.now)
    (data_of c.in_ok-items.items.now) _ c.in_ok-items.ensures
    (stops with_type (types_in c.loop-item.types) (data_of c.in_ok-items.items.now) c.loop-item.item-index
    (view c.item-item.result) _ _
    (item_seen view c.in_ok-items.items.now c.loop-item.item-index c.item-item.result c.loop-item-test.true
    c.item-item.is)
    (c.in_err-add_type.ensures apart) c.loop-item.invariant.read))

pub returns : goal.returns
returns c =
    let past : length (data_of c.in_ok-items.items.now) ≤ c.loop-item.item-index =
    omega (arith, length-map c.in_ok-items.items.now view) in
    types_read (path_in c.args.root.now) (table_in c.args.root.now)
    (data_of c.in_ok-items.items.now) _ c.in_ok-items.ensures
    (ends with_type (types_in c.loop-item.types)
    (data_of c.in_ok-items.items.now) c.loop-item.item-index _ past c.loop-item.invariant.read)
