use Rattle.std.proofs.Common.{◌≡◌, drop}
use Rattle.qc_accept.specs.Vocabulary.{all_certified}
use Rattle.qc_accept.proofs.checks.check_types.Given as goal

abbrev pub invariant-loop-place : goal.invariant-loop-place
invariant-loop-place l =
    all_certified 0 l.draft.decl.kind_names l.draft.decl.kinds l.draft.triples
    ≡ all_certified l.place (drop l.place l.draft.decl.kind_names) (drop l.place l.draft.decl.kinds)
    (drop l.place l.draft.triples)
