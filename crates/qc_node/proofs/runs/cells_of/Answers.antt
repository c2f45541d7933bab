use Rattle.std.proofs.Common.{rules, ◌≡◌, ◌+◌, ◌∷◌, ◌++◌, [], length}
use Rattle.qc_decl.specs.Vocabulary.{controller}
use Rattle.qc_node.proofs.News.{front_new, last_new}
use Rattle.qc_node.proofs.runs.cells_of.Goals as goal

pub actors_of-requires-clause-fresh : goal.actors_of-requires-clause-fresh
actors_of-requires-clause-fresh g c κs within =
    let last : c.args.passes.items ≡ c.pop.new.self.items ++ c.in-Some.controller ∷ [] = search rules in
    front_new g.N.RunName.table c.args.passes.items c.pop.new.self.items (c.in-Some.controller ∷ []) last
    c.requires.fresh

pub new-requires-clause-table : goal.new-requires-clause-table
new-requires-clause-table g c =
    let last : c.args.passes.items ≡ c.pop.new.self.items ++ c.in-Some.controller ∷ [] = c.in-Some.ensures.items in
    let all : length c.args.passes.items ≡ controller g.N.RunName.declaration + 1 = search rules in
    (last_new g.N.RunName.table c.args.passes.items c.pop.new.self.items c.in-Some.controller
    (controller g.N.RunName.declaration) last all c.requires.fresh).table_is

pub new-requires-clause-controller : goal.new-requires-clause-controller
new-requires-clause-controller g c =
    let last : c.args.passes.items ≡ c.pop.new.self.items ++ c.in-Some.controller ∷ [] = c.in-Some.ensures.items in
    let all : length c.args.passes.items ≡ controller g.N.RunName.declaration + 1 = search rules in
    (last_new g.N.RunName.table c.args.passes.items c.pop.new.self.items c.in-Some.controller
    (controller g.N.RunName.declaration) last all c.requires.fresh).number_is
