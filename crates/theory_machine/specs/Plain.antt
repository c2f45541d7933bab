-- Runs without falls, restarts and changes of quorums.
use Rattle.std.specs.Prelude.{◌≡◌, ℕ, List, [], ◌∷◌}
use Rattle.qc_stamp.specs.declared.stamp.TxId.{TxId}
use Rattle.qc_list.specs.Vocabulary.{In}
use Rattle.theory_machine.specs.Site.{Deed, Grants, Prepares, LearnsCommit, LearnsAbort}
use Rattle.theory_machine.specs.Acts.{Act, TakeSnapshot, Begin, Decide, Install, RiseClient, Rise, Recover, Close}
use Rattle.theory_machine.specs.Acts.{CommitUnknown, PrepareLost}
use Rattle.theory_machine.specs.State.{Granted, State}

-- nothing falls, rises, closes or is installed; transactions begin in the first epoch
abbrev pub IsPlain : Act → Type 0
IsPlain (Begin tx epoch) = epoch ≡ 1
IsPlain (PrepareLost site tx) = ⊥
IsPlain (CommitUnknown c) = ⊥
IsPlain (Recover tx with_record) = ⊥
IsPlain (RiseClient client clock) = ⊥
IsPlain (Rise site) = ⊥
IsPlain (Close site) = ⊥
IsPlain (TakeSnapshot s) = ⊥
IsPlain (Decide d) = ⊥
IsPlain (Install site d) = ⊥
IsPlain _ = Unit {0}

abbrev pub ArePlain : List Act → Type 0
ArePlain [] = Unit {0}
ArePlain (a ∷ older) = IsPlain a × ArePlain older

abbrev pub IsPlainDeed : Deed → Type 0
IsPlainDeed (Grants tx items view) = Unit {0}
IsPlainDeed (Prepares tx) = Unit {0}
IsPlainDeed (LearnsCommit tx stamp) = Unit {0}
IsPlainDeed (LearnsAbort tx) = Unit {0}
IsPlainDeed _ = ⊥

-- all is of the first life and epoch
pub record IsFirst (now : State) : Type 0 where
  pub lives : (site : ℕ) → now.life site ≡ 1
  pub epochs : (tx : TxId) → now.epoch tx ≡ 1
  pub deeds : (site : ℕ) (d : Deed) → In d (now.deeds site) → IsPlainDeed d
  pub granted : (g : Granted) → In g now.granted → g.life ≡ 1
