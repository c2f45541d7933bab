use Rattle.std.proofs.Common.{◌≡◌, None, sym, ap, ◌∙◌}
use Rattle.qc_entry.specs.Vocabulary.{union}
use Rattle.qc_entry.proofs.Union.{union-nil}
use Rattle.qc_epoch.specs.Vocabulary.{promised_lines}
use Rattle.qc_admin.specs.Vocabulary.{stamp_at}
use Rattle.qc_admin.proofs.deciding.join_promise.Goals as goal

pub returns-in_default : goal.returns-in_default
returns-in_default c =
    let none : stamp_at c.args.stamps.now c.args.promise.now.tx ≡ None = sym c.of.ensures ∙ c.in_default.is in
    sym (ap (λ o. union c.args.lines.now (promised_lines c.args.promise.now o)) none ∙ union-nil c.args.lines.now)
