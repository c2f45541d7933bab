use Rattle.std.proofs.Common.{rules, ◌≡◌, subst}
use Rattle.qc_entry.specs.Vocabulary.{IsAscending, union}
use Rattle.qc_entry.proofs.Union.{ascending-union}
use Rattle.qc_entry.proofs.log.Log.join.Goals as goal

pub invariant_of-self : goal.invariant_of-self
invariant_of-self c =
    let all : union c.self.inside.lines.items c.args.lines.now ≡ c.extend_from_slice.new.self.items = search rules in
    subst IsAscending all (ascending-union _ _ c.self.invariant c.requires)

pub invariant_of-self-in-None : goal.invariant_of-self-in-None
invariant_of-self-in-None c =
    let all : union c.self.inside.lines.items c.args.lines.now ≡ c.in_ok-self-inside-in-None.field-0.items =
    search rules in
    subst IsAscending all (ascending-union _ _ c.self.invariant c.requires)
