use Rattle.std.proofs.Common.{sym, subst}
use Rattle.qc_text.specs.Vocabulary.{IsSetOf}
use Rattle.qc_text.proofs.SetOf.{set_with}
use Rattle.qc_text.proofs.holders.Holders.add.Goals as goal

pub returns : goal.returns
returns c = λ txs set.
    set_with txs c.self.inside.txs.keys c.insert.new.self.keys c.args.tx c.in_ok-_is_new._is_new
    c.in_ok-_is_new.ensures.added c.in_ok-_is_new.ensures.updates.0 c.in_ok-_is_new.ensures.len
    (subst (IsSetOf txs) (sym c.self.view_is) set)
