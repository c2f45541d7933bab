use Rattle.std.proofs.Common.{rules, ◌≡◌, ◌++◌, ap, refl, ◌∙◌}
use Rattle.std.proofs.lemmas.List.{take-append-drop}
use Rattle.qc_entry.specs.Vocabulary.{IsAscending, log_of, union}
use Rattle.qc_entry.proofs.Logs.{ascending-is-log, log-append}
use Rattle.qc_entry.proofs.log.Log.+of_lines.Goals as goal

pub invariant_of-result : goal.invariant_of-result
invariant_of-result t c = rw (c.in_ok-from_slice.ensures.items) (c.if-ascend.ensures.ascending refl)

pub returns-then-ascend : goal.returns-then-ascend
returns-then-ascend t c =
    let up : IsAscending c.args.lines.now = c.if-ascend.ensures.ascending refl in
    c.in_ok-from_slice.ensures.items ∙ ascending-is-log c.args.lines.now up

pub returns : goal.returns
returns t c =
    let both : c.merge.new.self ≡ union (log_of c.split_at.result.0.now) (log_of c.split_at.result.1.now) =
    search rules in
    let halves : c.split_at.result.0.now ++ c.split_at.result.1.now ≡ c.args.lines.now =
    rw (c.split_at.ensures.front, c.split_at.ensures.back) (take-append-drop _ c.args.lines.now) in
    both ∙ log-append c.split_at.result.0.now c.split_at.result.1.now ∙ ap log_of halves
