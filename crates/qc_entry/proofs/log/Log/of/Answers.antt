use Rattle.std.proofs.Common.{◌≡◌, rules, true, ◌==◌}
use Rattle.std.specs.List.{list_all}
use Rattle.qc_list.proofs.Order.{ascends-filter}
use Rattle.qc_entry.specs.declared.line.Line.{Line}
use Rattle.qc_entry.specs.Vocabulary.{line_cmp, of_object}
use Rattle.qc_entry.proofs.OneObject.{all_on}
use Rattle.qc_entry.proofs.log.Log.of.Goals as goal

pub returns-then-all_are_of : goal.returns-then-all_are_of
returns-then-all_are_of c =
    let all : list_all (λ (l : Line). l.object == c.args.object) c.args.self.now ≡ true = search rules in
    let same : c.args.self.now ≡ of_object c.args.self.now c.args.object = all_on c.args.self.now c.args.object all in
    search rules

pub invariant_of-result : goal.invariant_of-result
invariant_of-result c = rw (c.in_ok-of_one.ensures, c.as_slice-2.ensures.value)
    (ascends-filter line_cmp _ _ c.self.invariant)
