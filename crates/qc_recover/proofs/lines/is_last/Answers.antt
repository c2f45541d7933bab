use Rattle.std.proofs.Common.{rules, ◌≡◌, ◌-◌, length, Some, true, sym, ◌∙◌, ap, subst}
use Rattle.std.specs.List.{slice_get}
use Rattle.std.specs.Ordering.{is_eq}
use Rattle.qc_entry.specs.declared.line.Line.{Line}
use Rattle.qc_entry.specs.Vocabulary.{line_cmp}
use Rattle.qc_entry.proofs.Orders.{lines_are_ordered}
use Rattle.qc_list.specs.Vocabulary.{In}
use Rattle.qc_list.proofs.Members.{every-at, every-from_In}
use Rattle.qc_lock.proofs.NumberedEntries.{equal_is}
use Rattle.qc_recover.proofs.lines.is_last.Goals as goal

pub returns-in-Some : goal.returns-in-Some
returns-in-Some c = λ told.
    let log = c.args.log.now in
    let last : Line = c.in-Some.last.now in
    let test : is_eq (line_cmp last c.args.line.now) ≡ true = search rules in
    let same : last ≡ c.args.line.now = lines_are_ordered.apart last c.args.line.now
    (equal_is (line_cmp last c.args.line.now) test) in
    let at : slice_get log (length log - 1) ≡ Some last =
    sym (c.in-Some.ensures.value ∙ ap (λ ls. slice_get ls (length ls - 1)) c.lines.ensures.value) in
    let member : In last log = every-at (λ l. In l log) log (length log - 1) last
    (every-from_In (λ l. In l log) log (λ l inside. inside)) at in
    subst (λ l. In l log) same member
