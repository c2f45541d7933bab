use Rattle.std.proofs.Common.{subst, rules, ◌≡◌}
use Rattle.qc_entry.specs.Vocabulary.{IsAscending, union}
use Rattle.qc_entry.proofs.Union.{ascending-union}
use Rattle.qc_entry.proofs.log.Log.merge_both.Goals as goal

pub invariant_of-self-else-is_err : goal.invariant_of-self-else-is_err
invariant_of-self-else-is_err c =
    let all : union c.self.inside.lines.items c.args.other.now ≡ c.extend_from_slice.new.self.items = search rules in
    subst IsAscending all (ascending-union _ _ c.self.invariant c.lines.ensures.ascending)
