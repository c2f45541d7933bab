-- Whatever a site takes, the net after it is still what a run of the machine may look like.
use Rattle.std.proofs.Common.{◌≡◌, ℕ, true, ◌++◌}
use Rattle.qc_decl.specs.Vocabulary.{IsAccepted, is_site}
use Rattle.qc_decl.specs.declared.declaration.Declaration.{Declaration}
use Rattle.qc_msg.specs.declared.step.Input.{Input}
use Rattle.qc_site.specs.Vocabulary.{HasArrived, site_takes}
use Rattle.laws_refinement.specs.Vocabulary.{Continues, MayCome, Net, Refines, after_site}
use Rattle.laws_refinement.proofs.SiteCases.{serve_case}

pub sites_refine : (decl : Declaration) (net : Net) (a : ℕ) (given : Input) → IsAccepted decl → Refines decl net
    → is_site decl a ≡ true → net.up a ≡ true → HasArrived (net.sites a) → MayCome net a given
    → Refines decl (after_site net a (site_takes decl (net.sites a) given))
sites_refine decl net a given accepted r site up has came =
    let c : Continues decl r.acts (after_site net a (site_takes decl (net.sites a) given)) =
    serve_case decl accepted r.acts net a r.run r.agrees site up has given came in
    record { acts = c.more ++ r.acts; run = c.refines.run; agrees = c.refines.agrees }
