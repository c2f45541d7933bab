use Rattle.std.proofs.Common.{◌++◌, [], Vec, Global, Option, List, Ok, Err, Some, map, ap, sym, ◌∙◌}
use Rattle.std.specs.Prelude.{option_map}
use Rattle.std.specs.Borrow.{Bor}
use Rattle.std.specs.Option.{option_map_or}
use Rattle.toml.proofs.Views.{table_get}
use Rattle.toml.specs.Data.{Data, Items, as_array}
use Rattle.toml.specs.View.{view, array_view}
use Rattle.toml.specs.declared.value.Value.{Value}
use Rattle.qc_accept.specs.declared.fault.DeclFault.{DeclFault}
use Rattle.qc_accept.specs.Vocabulary.{Answer, listed, path_in, told}
use Rattle.qc_accept.proofs.Tables.{listed_view}
use Rattle.qc_accept.proofs.fields.Fields.optional.Goals as goal

pub returns-in_default : goal.returns-in_default
returns-in_default c =
    ap (λ (found : Option Data). told (path_in c.args.self.now ++ c.args.key.now)
    (option_map_or (λ d. option_map listed (as_array d)) found (Some [])))
    (sym (table_get c.get.result c.args.key.now c.args.self.now.table.now.entries c.get.ensures.value)
    ∙ ap (option_map (λ (v : Bor Value). view v.now)) c.in_default.is)

pub returns-in-Some-as_array : goal.returns-in-Some-as_array
returns-in-Some-as_array c =
    ap (λ (found : Option Data). told (path_in c.args.self.now ++ c.args.key.now)
    (option_map_or (λ d. option_map listed (as_array d)) found (Some [])))
    (sym (table_get c.get.result c.args.key.now c.args.self.now.table.now.entries c.get.ensures.value)
    ∙ ap (option_map (λ (v : Bor Value). view v.now)) c.in-Some.is)
    ∙ ap (λ (array : Option Items). told (path_in c.args.self.now ++ c.args.key.now) (option_map listed array))
    (sym c.as_array.ensures ∙ ap (option_map (λ (v : Bor (Vec Value Global)). array_view v.now)) c.in-Some-as_array.is)
    ∙ ap (λ (ds : List Data). let answer : Answer (List Data) = Ok ds in answer)
    (listed_view c.in-Some-as_array.items.now.items ∙ ap (map view) (sym c.as_slice.ensures.value))

pub returns-in-None : goal.returns-in-None
returns-in-None c = λ known.
    ap (λ (found : Option Data). told (path_in c.args.self.now ++ c.args.key.now)
    (option_map_or (λ d. option_map listed (as_array d)) found (Some [])))
    (sym (table_get c.get.result c.args.key.now c.args.self.now.table.now.entries c.get.ensures.value)
    ∙ ap (option_map (λ (v : Bor Value). view v.now)) c.in-Some.is)
    ∙ ap (λ (array : Option Items). told (path_in c.args.self.now ++ c.args.key.now) (option_map listed array))
    (sym c.as_array.ensures ∙ ap (option_map (λ (v : Bor (Vec Value Global)). array_view v.now)) c.in-None.is)
    ∙ ap (λ (e : DeclFault). Err e) (sym (c.fault.ensures known))
