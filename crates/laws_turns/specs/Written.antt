-- The commit records that an actor wrote, by its deeds.
use Rattle.std.specs.Prelude.{List, Option, None}
use Rattle.std.specs.List.{filter_map}
use Rattle.qc_entry.specs.declared.record.Commit.{Commit}
use Rattle.qc_msg.specs.Vocabulary.{Deed, Falls, Rises, Sends, Takes, Tells, Writes, commit_of}

abbrev pub written_by : Deed → Option Commit
written_by (Takes given) = None
written_by (Writes written) = commit_of written
written_by (Sends number to message) = None
written_by (Tells reply) = None
written_by (Falls cause pending) = None
written_by (Rises records) = None

abbrev pub written_in : List Deed → List Commit
written_in ds = filter_map written_by ds
