use Rattle.qc_store.proofs.Contents.{still}
use Rattle.qc_store.proofs.store.fallen.Goals as goal

pub returns-clause-tells : goal.returns-clause-tells
returns-clause-tells g c = still _ _ _ c.fall.ensures.moments
