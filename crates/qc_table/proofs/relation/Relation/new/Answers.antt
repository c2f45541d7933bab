use Rattle.std.proofs.Common.{◌≡◌, ap, sym, subst, ◌∙◌}
use Rattle.std.specs.List.{fold}
use Rattle.std.proofs.lemmas.List.{drop_all}
use Rattle.qc_table.specs.Vocabulary.{depends, is_given, relation_of, with_pair}
use Rattle.qc_table.proofs.Related.{depends_given}
use Rattle.qc_table.proofs.relation.Relation.new.Goals as goal

pub returns-clause-given : goal.returns-clause-given
returns-clause-given c inv event =
    let whole : c.loop-pair.relation ≡ relation_of c.args.pairs.now =
    ap (fold with_pair c.loop-pair.relation)
    (sym (drop_all c.loop-pair.pair-index c.args.pairs.now c.loop-pair-test.false)) ∙ c.loop-pair.invariant in
    subst (λ r. depends r inv event ≡ is_given c.args.pairs.now inv event) (sym whole)
    (depends_given c.args.pairs.now inv event c.requires)
