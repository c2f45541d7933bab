use Rattle.std.proofs.Common.{◌≡◌, fold, map, take}
use Rattle.std.specs.List.{filter_map}
use Rattle.qc_msg.specs.Counts as counts
use Rattle.theory_onecopy.specs.Vocabulary.{with_commit}
use Rattle.qc_text.specs.Vocabulary.{commit_of}
use Rattle.qc_text.proofs.committed.with_records.Given as goal

abbrev pub invariant-records : goal.invariant-records
invariant-records l = map commit_of l.all.keys ≡ fold with_commit (map commit_of l.fn.keys.keys)
    (filter_map counts.commit_of (take l.record-index l.records))
