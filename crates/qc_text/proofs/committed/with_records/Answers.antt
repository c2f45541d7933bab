use Rattle.std.proofs.Common.{List, map, ap, sym, ◌∙◌}
use Rattle.std.specs.Prelude.{fold, option_to_list}
use Rattle.qc_entry.specs.declared.record.Commit.{Commit}
use Rattle.qc_msg.specs.Counts as counts
use Rattle.theory_onecopy.specs.Vocabulary.{with_commit}
use Rattle.qc_text.specs.Vocabulary.{commit_of}
use Rattle.qc_text.proofs.Keys.{record_more}
use Rattle.qc_text.proofs.committed.with_records.Goals as goal

pub records-preserved : goal.records-preserved
records-preserved c =
    c.in_ok-all.ensures
    ∙ ap (λ (cs : List Commit). fold with_commit cs (option_to_list (counts.commit_of c.record-item.result)))
    c.records.invariant
    ∙ sym (record_more c.args.records.now c.records.record-index c.record-item.result _
    (map commit_of c.args.keys.keys) c.records-test.true c.record-item.is)
