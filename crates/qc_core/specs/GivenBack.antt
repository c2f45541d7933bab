-- Deeds among which each rise gives back what its actor's journal holds then.
use Rattle.std.specs.Prelude.{List, [], ◌∷◌}
use Rattle.qc_core.specs.Journals.{journal_at}
use Rattle.qc_msg.specs.Vocabulary.{Deed, Falls, Rises, Sends, Takes, Tells, Writes}
use Rattle.qc_promise.specs.Vocabulary.{IsGivenBack, Journal}

abbrev pub IsGivenBackAt : Journal → Deed → Type 0
IsGivenBackAt j (Takes given) = Unit {0}
IsGivenBackAt j (Writes written) = Unit {0}
IsGivenBackAt j (Sends number to message) = Unit {0}
IsGivenBackAt j (Tells reply) = Unit {0}
IsGivenBackAt j (Falls cause pending) = Unit {0}
IsGivenBackAt j (Rises records) = IsGivenBack j records

abbrev pub AreGivenBack : Journal → List Deed → Type 0
AreGivenBack j [] = Unit {0}
AreGivenBack j (d ∷ ds) = IsGivenBackAt j d × AreGivenBack (journal_at j d) ds
