use Rattle.std.proofs.Common.{◌+◌, ◌==◌, List, ℕ, length, sym, ◌∙◌, arith, rules, subst, ap}
use Rattle.std.proofs.lemmas.List.{length_push}
use Rattle.std.proofs.lemmas.Result.{err_from_is_err_and}
use Rattle.std.proofs.lemmas.Iterator.Splits.{YieldsList-from_slice_split}
use Rattle.std.proofs.lemmas.Iterator.Consumers.{YieldsList-turn, YieldsList-end}
use borrow.Author.Tests.{tests}
use Rattle.qc_script.specs.Vocabulary.{IsTold, lines_of, numbered, with_line}
use Rattle.qc_script.proofs.Reading.{reads_on, reads_refused, reads_all}
use Rattle.qc_script.proofs.reader.read_script.Goals as goal

pub loop-line-preserved : goal.loop-line-preserved
loop-line-preserved c =
    let turn = YieldsList-turn
    (YieldsList-from_slice_split {s = c.into_iter-line-iterator.result} _ (λ b. b == 10) c.args.bytes.now (cc) (cc) (cc)
    (λ x r q k. search (rules, tests)))
    c.loop-line.yielded _ c.loop-line.yielded_by _ _ c.in-Some.line c.in-Some.is c.next.ensures.steps in
    let counted = c.loop-line.invariant.counted in
    let long = length_push c.loop-line.yielded c.in-Some.line in
    record {
      counted = omega arith;
      read = reads_on c.args.decl.now c.loop-line.draft c.add_line.new.draft (lines_of c.args.bytes.now)
          (length c.loop-line.yielded) _ (c.loop-line.number + 1) c.in-Some.line.now _
          long (omega arith) (record { within = turn.0; at = turn.1 })
          (ap (λ (l : List ℕ). numbered (c.loop-line.number + 1) (with_line c.args.decl.now c.loop-line.draft l))
          (sym c.without_cr.ensures) ∙ c.in_ok-add_line.ensures)
          c.loop-line.invariant.read;
    }

pub returns-in_err-add_line : goal.returns-in_err-add_line
returns-in_err-add_line c =
    let turn = YieldsList-turn
    (YieldsList-from_slice_split {s = c.into_iter-line-iterator.result} _ (λ b. b == 10) c.args.bytes.now (cc) (cc) (cc)
    (λ x r q k. search (rules, tests)))
    c.loop-line.yielded _ c.loop-line.yielded_by _ _ c.in-Some.line c.in-Some.is c.next.ensures.steps in
    let told = err_from_is_err_and c.from_residual.result c.from_residual.ensures.1 in
    let counted = c.loop-line.invariant.counted in
    rw (told.1, told.2) (reads_refused c.args.decl.now c.loop-line.draft (lines_of c.args.bytes.now)
    (length c.loop-line.yielded) (c.loop-line.number + 1) c.in-Some.line.now _ c.in_err-add_line.field-0.0
    (omega arith) (record { within = turn.0; at = turn.1 }) c.loop-line.invariant.read
    (subst (λ (l : List ℕ). IsTold c.in_err-add_line.field-0.0
    (numbered (c.loop-line.number + 1) (with_line c.args.decl.now c.loop-line.draft l))) c.without_cr.ensures
    c.in_err-add_line.ensures))

pub returns : goal.returns
returns c =
    let end = YieldsList-end
    (YieldsList-from_slice_split {s = c.into_iter-line-iterator.result} _ (λ b. b == 10) c.args.bytes.now (cc) (cc) (cc)
    (λ x r q k. search (rules, tests)))
    c.loop-line.yielded _ c.loop-line.yielded_by _ _ c.in-None.is c.next.ensures.steps in
    rw c.into_script.ensures (reads_all c.args.decl.now c.loop-line.draft (lines_of c.args.bytes.now)
    (length c.loop-line.yielded) _ end.1 c.loop-line.invariant.read)
