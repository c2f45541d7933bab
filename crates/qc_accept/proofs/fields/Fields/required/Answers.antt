use Rattle.std.proofs.Common.{◌++◌, Err, ap, sym, ◌∙◌}
use Rattle.std.specs.Prelude.{option_map}
use Rattle.std.specs.Borrow.{Bor}
use Rattle.toml.proofs.Views.{table_get}
use Rattle.toml.specs.View.{view}
use Rattle.toml.specs.declared.value.Value.{Value}
use Rattle.qc_accept.specs.declared.fault.DeclFault.{DeclFault}
use Rattle.qc_accept.specs.Vocabulary.{path_in, told}
use Rattle.qc_accept.proofs.fields.Fields.required.Goals as goal

pub returns-in-Some : goal.returns-in-Some
returns-in-Some c =
    ap (told (path_in c.args.self.now ++ c.args.key.now))
    (sym (table_get c.get.result c.args.key.now c.args.self.now.table.now.entries c.get.ensures.value)
    ∙ ap (option_map (λ (v : Bor Value). view v.now)) c.in-Some.is)

pub returns-in-None : goal.returns-in-None
returns-in-None c = λ known.
    ap (told (path_in c.args.self.now ++ c.args.key.now))
    (sym (table_get c.get.result c.args.key.now c.args.self.now.table.now.entries c.get.ensures.value)
    ∙ ap (option_map (λ (v : Bor Value). view v.now)) c.in-None.is)
    ∙ ap (λ (e : DeclFault). Err e) (sym (c.fault.ensures known))
