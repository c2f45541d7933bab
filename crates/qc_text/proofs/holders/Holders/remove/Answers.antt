use Rattle.std.proofs.Common.{sym, subst}
use Rattle.qc_text.specs.Vocabulary.{IsSetOf}
use Rattle.qc_text.proofs.SetOf.{set_without}
use Rattle.qc_text.proofs.holders.Holders.remove.Goals as goal

pub returns : goal.returns
returns c = λ txs set.
    set_without txs c.self.inside.txs.keys c.remove-was_there.new.self.keys c.args.tx c.remove-was_there.result
    c.remove-was_there.ensures.test c.remove-was_there.ensures.updates.0 c.remove-was_there.ensures.len
    (subst (IsSetOf txs) (sym c.self.view_is) set)
