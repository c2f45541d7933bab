use Rattle.std.proofs.Common.{map, sym, ap, ◌∙◌}
use Rattle.qc_text.specs.Vocabulary.{commit_of}
use Rattle.qc_text.proofs.Keys.{step_added, nothing_added}
use Rattle.qc_text.proofs.committed.committed.Goals as goal
use Rattle.qc_text.proofs.committed.committed.Goals.{then-is_client+in_ok-keys, else-is_client}

pub entries-preserved : goal.entries-preserved
entries-preserved c =
    elim c.if-is_client.branch [
      | then-is_client+in_ok-keys w ↦
          ap (λ s. map commit_of s.keys) w.keys-is
          ∙ step_added c.args.decl.now c.args.entries.now c.entries.entry-index c.entry-item.result _
          c.entries.keys.keys w.in_ok-keys.keys.keys c.entries-test.true c.entry-item.is
          (sym c.is_client.ensures ∙ w.if-is_client.true) w.in_ok-keys.ensures c.entries.invariant
      | else-is_client w ↦
          ap (λ s. map commit_of s.keys) w.keys-is
          ∙ nothing_added c.args.decl.now c.args.entries.now c.entries.entry-index c.entry-item.result _
          c.entries.keys.keys c.entries-test.true c.entry-item.is
          (sym c.is_client.ensures ∙ w.if-is_client.false) c.entries.invariant
    ]
