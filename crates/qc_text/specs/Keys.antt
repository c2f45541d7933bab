-- Commit records as keys of a set, which keeps them in order.
use Rattle.qc_entry.specs.declared.record.Commit.{Commit}
use Rattle.qc_text.specs.declared.committed.CommitKey.{CommitKey}

-- the commit record that a key stands for
abbrev pub commit_of : CommitKey → Commit
commit_of key = record { stamp = key.stamp; tx = key.tx; ops = key.ops.items }
