use Rattle.std.proofs.Common.{subst, rules, ◌≡◌}
use Rattle.qc_entry.specs.Vocabulary.{IsAscending, union}
use Rattle.qc_entry.proofs.Union.{ascending-union}
use Rattle.qc_entry.proofs.log.Log.merge_apart.Goals as goal

pub invariant_of-self : goal.invariant_of-self
invariant_of-self c =
    let all : union c.self.inside.lines.items c.args.other.now ≡ c.in_ok-all.all.items = search rules in
    subst IsAscending all (ascending-union _ _ c.self.invariant c.lines.ensures.ascending)
