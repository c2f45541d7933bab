use Rattle.std.proofs.Common.{◌≡◌, drop}
use Rattle.std.specs.List.{fold}
use Rattle.qc_table.specs.Vocabulary.{relation_of, with_pair}
use Rattle.qc_table.proofs.relation.Relation.new.Given as goal

abbrev pub invariant-loop-pair : goal.invariant-loop-pair
invariant-loop-pair l = fold with_pair l.relation (drop l.pair-index l.pairs) ≡ relation_of l.pairs
