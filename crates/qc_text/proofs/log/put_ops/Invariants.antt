use Rattle.std.proofs.Common.{◌≡◌, ◌++◌, drop, codes}
use denote.Text.{Utf8}
use denote.Shadow.{shadow}
use Rattle.qc_text.specs.Vocabulary.{ops_text}
use Rattle.qc_text.proofs.log.put_ops.Given as goal

abbrev pub invariant-ops : goal.invariant-ops
invariant-ops l =
    shadow (Utf8 l.before) × (l.page ++ ops_text l.decl l.before (drop l.op-index l.ops) ≡ l.initial.page
    ++ ops_text l.decl (codes " ") l.ops)
