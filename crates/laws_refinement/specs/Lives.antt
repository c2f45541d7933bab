-- The lives of a transaction's participants: each grant that counts is of the life of its site's first one.
use Rattle.std.specs.Prelude.{◌≡◌, ◌<◌, ℕ, true, List}
use Rattle.qc_stamp.specs.declared.stamp.TxId.{TxId}
use Rattle.qc_list.specs.Vocabulary.{In}
use Rattle.qc_msg.specs.declared.begun.LifeAt.{LifeAt}
use Rattle.qc_msg.specs.Vocabulary.{has_granted, life_of}
use Rattle.theory_machine.specs.Vocabulary.{Granted}

pub record LivesMirror (counted : List Granted) (tx : TxId) (lives : List LifeAt) : Type 0 where
  pub participants : (g : Granted) → In g counted → g.tx ≡ tx → has_granted lives g.site ≡ true
  pub each : (g : Granted) → In g counted → g.tx ≡ tx → g.life ≡ life_of lives g.site
  pub positive : (site : ℕ) → has_granted lives site ≡ true → 0 < life_of lives site
