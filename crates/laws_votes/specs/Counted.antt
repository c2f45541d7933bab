-- Which clocks a client has counted in its present life: no fall and no rise stands behind the answer that told them.
use Rattle.std.specs.Prelude.{ℕ, List}
use Rattle.qc_core.specs.Vocabulary.{AreSteady}
use Rattle.qc_decl.specs.declared.declaration.Declaration.{Declaration}
use Rattle.laws_guarantees.specs.Vocabulary.{IsCounted}
use Rattle.qc_msg.specs.Vocabulary.{Deed}

pub record IsCountedInLife (decl : Declaration) (client : ℕ) (ds : List Deed) (clock : ℕ) : Type 0 where
  pub counted : IsCounted decl client ds clock
  pub steady : AreSteady counted.after
