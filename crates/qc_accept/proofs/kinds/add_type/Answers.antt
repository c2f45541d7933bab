use Rattle.std.proofs.Common.{◌≡◌, ◌++◌, List, suc, length, Ok, ap, ◌∙◌, arith}
use Rattle.std.specs.Prelude.{codes}
use Rattle.std.proofs.lemmas.Result.{err_from_is_err_and}
use Rattle.toml.specs.View.{view}
use Rattle.qc_accept.specs.Vocabulary.{Answer, TypeOf, TypesOf, names_in, path_in, table_in, type_in, types_in}
use Rattle.qc_accept.specs.Vocabulary.{with_name}
use Rattle.qc_accept.proofs.Answered.{told_some}
use Rattle.qc_accept.proofs.Kept.{name_more}
use Rattle.qc_accept.proofs.Told.{told_err, told_ok}
use Rattle.qc_accept.proofs.Typed.{has_table, ill_named, list_pushed, no_name, no_table, no_type, one_type}
use Rattle.qc_accept.proofs.kinds.add_type.Goals as goal

pub read_type-requires : goal.read_type-requires
read_type-requires c =
    let more : length (names_in c.add.new.self) ≡ suc (length (names_in c.args.types.now.names)) =
    name_more (names_in c.args.types.now.names) (view c.in_ok-name.name.now) (names_in c.add.new.self)
    (told_some (path_in c.in_ok-fields.fields ++ codes "name")
    (with_name (names_in c.args.types.now.names) (view c.in_ok-name.name.now)) (names_in c.add.new.self)
    (told_ok (λ _. names_in c.add.new.self) (path_in c.in_ok-fields.fields ++ codes "name")
    (with_name (names_in c.args.types.now.names) (view c.in_ok-name.name.now)) c.add.result _
    c.add.ensures c.in_ok-told.ensures)) in
    omega arith

pub returns-in_err-fields : goal.returns-in_err-fields
returns-in_err-fields c =
    let told = err_from_is_err_and c.from_residual.result c.from_residual.ensures.1 in
    rw (told.1, told.2) (no_table (types_in c.args.types.now) c.count-place.result
    (view c.args.item.now) _ c.count-place.ensures c.in_err-fields.ensures)

pub returns-in_err-name : goal.returns-in_err-name
returns-in_err-name c =
    let told = err_from_is_err_and c.from_residual-in_err-name.result c.from_residual-in_err-name.ensures.1 in
    rw (told.1, told.2) (λ apart.
    has_table (types_in c.args.types.now) c.count-place.result (view c.args.item.now) (path_in c.in_ok-fields.fields)
    (table_in c.in_ok-fields.fields) _ c.count-place.ensures
    c.in_ok-fields.ensures
    (no_name (types_in c.args.types.now) c.count-place.result (path_in c.in_ok-fields.fields)
    (table_in c.in_ok-fields.fields) _ c.in_err-name.ensures apart))

pub returns-in_err-told : goal.returns-in_err-told
returns-in_err-told c =
    let told = err_from_is_err_and c.from_residual-in_err-told.result c.from_residual-in_err-told.ensures.1 in
    rw (told.1, told.2) (λ apart.
    has_table (types_in c.args.types.now) c.count-place.result (view c.args.item.now) (path_in c.in_ok-fields.fields)
    (table_in c.in_ok-fields.fields) _ c.count-place.ensures
    c.in_ok-fields.ensures
    (ill_named (types_in c.args.types.now) c.count-place.result (path_in c.in_ok-fields.fields)
    (table_in c.in_ok-fields.fields) (view c.in_ok-name.name.now) _ c.in_ok-name.ensures
    (told_err (λ _. names_in c.add.new.self) (path_in c.in_ok-fields.fields ++ codes "name")
    (with_name (names_in c.args.types.now.names) (view c.in_ok-name.name.now)) c.add.result _
    c.add.ensures c.in_err-told.ensures) apart))

pub returns-in_err-read : goal.returns-in_err-read
returns-in_err-read c =
    let told = err_from_is_err_and c.from_residual-in_err-read.result c.from_residual-in_err-read.ensures.1 in
    rw (told.1, told.2) (λ apart.
    has_table (types_in c.args.types.now) c.count-place.result (view c.args.item.now) (path_in c.in_ok-fields.fields)
    (table_in c.in_ok-fields.fields) _ c.count-place.ensures
    c.in_ok-fields.ensures
    (no_type (types_in c.args.types.now) c.count-place.result (path_in c.in_ok-fields.fields)
    (table_in c.in_ok-fields.fields) (view c.in_ok-name.name.now) (names_in c.add.new.self) _
    c.in_ok-name.ensures
    (told_ok (λ _. names_in c.add.new.self) (path_in c.in_ok-fields.fields ++ codes "name")
    (with_name (names_in c.args.types.now.names) (view c.in_ok-name.name.now)) c.add.result _
    c.add.ensures c.in_ok-told.ensures)
    c.in_err-read.ensures apart))

pub returns : goal.returns
returns c =
    has_table (types_in c.args.types.now) c.count-place.result (view c.args.item.now) (path_in c.in_ok-fields.fields)
    (table_in c.in_ok-fields.fields) _ c.count-place.ensures
    c.in_ok-fields.ensures
    (one_type (types_in c.args.types.now) c.count-place.result (path_in c.in_ok-fields.fields)
    (table_in c.in_ok-fields.fields) (view c.in_ok-name.name.now) (names_in c.add.new.self)
    (type_in c.in_ok-read.read) c.in_ok-name.ensures
    (told_ok (λ _. names_in c.add.new.self) (path_in c.in_ok-fields.fields ++ codes "name")
    (with_name (names_in c.args.types.now.names) (view c.in_ok-name.name.now)) c.add.result _
    c.add.ensures c.in_ok-told.ensures)
    c.in_ok-read.ensures
    ∙ ap (λ (ts : List TypeOf). let answer : Answer TypesOf =
    Ok (record { names = names_in c.add.new.self; list = ts }) in answer)
    (list_pushed c.args.types.now.list.items c.add-2.new.list.items c.in_ok-read.read c.in_ok-add.ensures))
