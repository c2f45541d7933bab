use Rattle.std.proofs.Common.{List, Option, take, sym, subst, ◌+◌}
use Rattle.std.proofs.lemmas.List.{take_all}
use Rattle.qc_entry.specs.declared.line.OwnLine.{OwnLine}
use Rattle.qc_lock.specs.declared.clash.Clash.{Clash}
use Rattle.qc_lock.specs.Vocabulary.{IsAppendPlaced, IsLinePlaced, IsSmallest}
use Rattle.qc_lock.proofs.Smallest.{lines_more}
use Rattle.qc_lock.proofs.clash.append_clash.Goals as goal

pub own-init : goal.own-init
own-init c = λ d found. found.1

pub own-preserved : goal.own-preserved
own-preserved c =
    subst (λ (o : Option Clash). IsSmallest (IsAppendPlaced c.args.relation.now c.args.locks.now c.args.tx
    (take (c.own.line-index + 1) c.args.own.now)) o) (sym c.smaller_of-best.ensures)
    (lines_more (λ l d. IsLinePlaced c.args.relation.now c.args.locks.now c.args.tx l d) c.args.own.now c.own.line-index
    (record { op = 0; object = 0; event = 0 }) c.own.best c.line_clash.result
    c.own-test.true c.own.invariant c.line_clash.ensures)

pub returns : goal.returns
returns c =
    subst (λ (ls : List OwnLine). IsSmallest
    (IsAppendPlaced c.args.relation.now c.args.locks.now c.args.tx ls) c.own.best)
    (take_all c.own.line-index c.args.own.now c.own-test.false) c.own.invariant
