use Rattle.std.proofs.Common.{◌∙◌, sym, ap, subst}
use Rattle.qc_site.specs.Vocabulary.{AreByClients, AreOfClients, held_by}
use Rattle.qc_site.proofs.Holders.{clients-promised}
use Rattle.qc_recover.specs.Vocabulary.{Kept}
use Rattle.qc_recover.proofs.site.site_by.Goals as goal

pub risen-requires-clause-held : goal.risen-requires-clause-held
risen-requires-clause-held c =
    let is = ap (λ (k : Kept). k.promises) c.kept.view_is in
    subst AreOfClients (sym (c.in_ok-held.ensures ∙ ap held_by is)) (clients-promised c.args.kept.promises c.requires)

pub risen-requires-clause-prepared : goal.risen-requires-clause-prepared
risen-requires-clause-prepared c =
    let is = ap (λ (k : Kept). k.promises) c.kept.view_is in
    subst AreByClients (sym is) c.requires
