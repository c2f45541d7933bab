-- What an actor's deeds put into its journal; what a rise may give back of it is `IsGivenBack` of that journal.
use Rattle.std.specs.Prelude.{List, [], ◌∷◌, ◌++◌, None, fold}
use Rattle.qc_msg.specs.Vocabulary.{Deed, Falls, Rises, Sends, Takes, Tells, Writes}
use Rattle.qc_promise.specs.Vocabulary.{Journal, no_journal, pending_with}

abbrev pub journal_at : Journal → Deed → Journal
journal_at j (Takes given) = j
journal_at j (Writes written) = record j { records = j.records ++ written ∷ [] }
journal_at j (Sends number to message) = j
journal_at j (Tells reply) = j
journal_at j (Falls cause pending) = record j { pending = pending_with j.pending pending }
journal_at j (Rises records) = record { records = records; pending = None }

-- the journal of an actor after its deeds: the records that stand there, and the one that was being written as it fell
-- last, until it rises
abbrev pub journal_after : List Deed → Journal
journal_after ds = fold journal_at no_journal ds
