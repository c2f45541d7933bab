-- In every net, what has joined a site's log is what it knows.
use Rattle.std.proofs.Common.{ℕ, ◌++◌}
use Rattle.std.specs.Prelude.{option_to_list}
use Rattle.qc_decl.specs.declared.declaration.Declaration.{Declaration}
use Rattle.qc_msg.specs.declared.step.Input.{Input}
use Rattle.qc_site.specs.Vocabulary.{HasArrived, SiteState, site_takes}
use Rattle.qc_msg.specs.declared.step.Input.TheVariants.{Called, Got, Lost}
use Rattle.qc_site.proofs.Arrived.{stays_arrived}
use Rattle.qc_recover.specs.Vocabulary.{site_rises}
use Rattle.laws_refinement.specs.Net as nets
use Rattle.laws_refinement.specs.Vocabulary.{Net, Reaches}
use Rattle.laws_refinement.proofs.Machine.{put_one}

module _ (decl : Declaration) where
  takes : (s : SiteState) (given : Input) → HasArrived s → HasArrived (site_takes decl s given).site
  takes s (Called command) w = w
  takes s (Got e) w = stays_arrived decl s e.from e.number e.message w
  takes s (Lost number) w = w

  pub sites_have_arrived : (net : Net) → Reaches decl net → (a : ℕ) → HasArrived (net.sites a)
  sites_have_arrived net nets.begins a = record { known = λ l none. none; all = λ l none. none }
  sites_have_arrived net (nets.serves b given before r site up came) a =
      put_one (λ (k : ℕ) (s : SiteState). HasArrived s) before.sites b (site_takes decl (before.sites b) given).site a
      (takes (before.sites b) given (sites_have_arrived before r b))
      (λ other. sites_have_arrived before r a)
  sites_have_arrived net (nets.site_rises_up b back before r site down given) a =
      put_one (λ (k : ℕ) (s : SiteState). HasArrived s) before.sites b
      (site_rises decl b (before.records b ++ option_to_list back)).site a
      (record { known = λ l i. i; all = λ l i. i }) (λ other. sites_have_arrived before r a)
  sites_have_arrived net (nets.site_falls b before r site up) a = sites_have_arrived before r a
  sites_have_arrived net (nets.client_falls b before r client up) a = sites_have_arrived before r a
  sites_have_arrived net (nets.site_fails b given written sends before r site up came wrote failed) a =
      sites_have_arrived before r a
  sites_have_arrived net (nets.client_fails b given written sends before r client up came ready wrote failed) a =
      sites_have_arrived before r a
  sites_have_arrived net (nets.client_rises_up b back before r client down given) a = sites_have_arrived before r a
  sites_have_arrived net (nets.site_rises_in_vain b back before r site down given) a = sites_have_arrived before r a
  sites_have_arrived net (nets.client_rises_in_vain b back before r client down given) a =
      sites_have_arrived before r a
  sites_have_arrived net (nets.takes b given before r client up came ready) a = sites_have_arrived before r a
  sites_have_arrived net (nets.administers given before r up came named) a = sites_have_arrived before r a
  sites_have_arrived net (nets.admin_falls before r up) a = sites_have_arrived before r a
  sites_have_arrived net (nets.admin_fails given written sends before r up came named wrote failed) a =
      sites_have_arrived before r a
  sites_have_arrived net (nets.admin_rises_up back before r down given) a = sites_have_arrived before r a
  sites_have_arrived net (nets.admin_rises_in_vain back before r down given) a = sites_have_arrived before r a
