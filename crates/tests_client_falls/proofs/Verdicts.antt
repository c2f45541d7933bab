-- What is right of one deed.
use Rattle.std.proofs.Common.{ℕ, zero, suc, List, [], ◌∷◌}
use Rattle.qc_stamp.specs.declared.stamp.TxId.{TxId}
use Rattle.qc_msg.specs.Vocabulary.{Deed}
use Rattle.qc_promise.specs.Vocabulary.{AreRightFrom, IsRight, Status, status_at}

abbrev pub RightAt : ℕ → TxId → Status → List Deed → Type 0
RightAt k tx s [] = Unit {0}
RightAt zero tx s (d ∷ ds) = IsRight tx s d
RightAt (suc k) tx s (d ∷ ds) = RightAt k tx (status_at tx s d) ds

pub right_at : (k : ℕ) (tx : TxId) (s : Status) (ds : List Deed) → AreRightFrom tx s ds → RightAt k tx s ds
right_at k tx s [] all = tt
right_at zero tx s (d ∷ ds) all = all.0
right_at (suc k) tx s (d ∷ ds) all = right_at k tx (status_at tx s d) ds all.1
