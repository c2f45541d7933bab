-- Nets in which nobody falls and no epoch is closed, as those of all runs are yet: each actor is up, and each site is
-- in its first life and epoch.
use Rattle.std.specs.Prelude.{◌≡◌, ℕ, true, refl}
use Rattle.qc_decl.specs.declared.declaration.Declaration.{Declaration}
use Rattle.qc_decl.specs.Vocabulary.{is_client, is_site}
use Rattle.qc_msg.specs.declared.step.Input.{Input}
use Rattle.qc_client.specs.Vocabulary.{client_takes}
use Rattle.qc_site.specs.Vocabulary.{SiteState, site_takes}
use Rattle.laws_refinement.specs.Vocabulary.{MayCome, MayCommand, Net, Reaches, after_client, after_site, first_net}
use Rattle.laws_refinement.specs.Net as nets
use Rattle.laws_refinement.proofs.Machine.{put_one}
use Rattle.laws_atomic.proofs.FirstSites.{IsAtFirst, IsCalmGiven, at_first}

-- a site takes neither a Close nor an Install
pub data IsCalm (decl : Declaration) : Net → Type 0 where
  begins : IsCalm decl (first_net decl)
  serves : (a : ℕ) (given : Input) (net : Net) → IsCalm decl net → is_site decl a ≡ true → MayCome net a given
      → IsCalmGiven given
      → IsCalm decl (after_site net a (site_takes decl (net.sites a) given))
  takes : (a : ℕ) (given : Input) (net : Net) → IsCalm decl net → is_client decl a ≡ true → MayCome net a given
      → MayCommand decl (net.clients a) given → IsCalm decl
      (after_client net a (client_takes decl (net.clients a) given))

module _ (decl : Declaration) where
  pub all_up : (net : Net) → IsCalm decl net → (b : ℕ) → net.up b ≡ true
  all_up net begins b = refl
  all_up net (serves a given before calm site came still) b = all_up before calm b
  all_up net (takes a given before calm client came may) b = all_up before calm b

  pub all_first : (net : Net) → IsCalm decl net → (b : ℕ) → IsAtFirst b (net.sites b)
  all_first net begins b = record { number_is = refl; life_is = refl; epoch_is = refl; is_open = refl }
  all_first net (serves a given before calm site came still) b =
      put_one (λ k (s : SiteState). IsAtFirst k s) before.sites a (site_takes decl (before.sites a) given).site b
      (at_first decl a (before.sites a) given still (all_first before calm a)) (λ other. all_first before calm b)
  all_first net (takes a given before calm client came may) b = all_first before calm b

  pub is_reached : (net : Net) → IsCalm decl net → Reaches decl net
  is_reached net begins = nets.begins
  is_reached net (serves a given before calm site came still) =
      nets.serves a given before (is_reached before calm) site (all_up before calm a) came
  is_reached net (takes a given before calm client came may) =
      nets.takes a given before (is_reached before calm) client (all_up before calm a) came may
