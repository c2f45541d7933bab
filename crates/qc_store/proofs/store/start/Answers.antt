use Rattle.std.proofs.Common.{Option, IsSome, sym, subst}
use Rattle.qc_outside.specs.Vocabulary.{Told}
use Rattle.qc_store.proofs.Contents.{still}
use Rattle.qc_store.proofs.store.start.Goals as goal

pub returns-in-Ok-clause-tells : goal.returns-in-Ok-clause-tells
returns-in-Ok-clause-tells g c some =
    still _ _ _ c.in-Ok.ensures.opened (subst (λ (o : Option Told). IsSome o) (sym c.new.ensures.told) some)
