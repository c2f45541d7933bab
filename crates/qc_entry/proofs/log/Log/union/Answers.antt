use Rattle.std.proofs.Common.{rules, ◌≡◌, subst}
use Rattle.qc_entry.specs.Vocabulary.{IsAscending, union}
use Rattle.qc_entry.proofs.Union.{ascending-union}
use Rattle.qc_entry.proofs.log.Log.union.Goals.{in-Some+in_ok-lines-in-Some, in-None+in_ok-lines-in-None}
use Rattle.qc_entry.proofs.log.Log.union.Goals as goal

pub invariant_of-result : goal.invariant_of-result
invariant_of-result c =
    let all : union c.self.inside.lines.items c.args.other.now ≡ c.match-behind.lines.items =
    elim c.match-behind.branch [
      | in-Some+in_ok-lines-in-Some w ↦ search rules
      | in-None+in_ok-lines-in-None w ↦ search
          rules
    ] in
    subst IsAscending all (ascending-union _ _ c.self.invariant c.lines.ensures.ascending)
