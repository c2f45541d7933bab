-- What a new actor is, and what one is that rises, by its number; the administrator is no site and no client.
use Rattle.std.proofs.Common.{◌≡◌, ◌≤◌, ◌&&◌, ℕ, ◌-◌, nat_le, nat_lt, Bool, true, false, cond, List, refl, ap, ◌∙◌}
use Rattle.std.proofs.Common.{arith}
use Rattle.std.proofs.lemmas.Bool.{le-ltb}
use Rattle.qc_client.specs.Vocabulary.{new_client}
use Rattle.qc_decl.proofs.Clients.{client_no_site}
use Rattle.qc_decl.specs.Vocabulary.{administrator, is_client, is_site}
use Rattle.qc_decl.specs.declared.declaration.Declaration.{Declaration}
use Rattle.qc_epoch.specs.Vocabulary.{new_admin}
use Rattle.qc_msg.specs.declared.record.Record.{Record}
use Rattle.qc_recover.specs.Vocabulary.{admin_rises, client_rises, site_rises}
use Rattle.qc_site.specs.Vocabulary.{new_site}
use Rattle.qc_core.specs.declared.actor.Actor.{Actor}
use Rattle.qc_core.specs.declared.actor.Actor.TheVariants.{Site, Client, Admin}
use Rattle.qc_core.specs.Vocabulary.{ActorMove, actor_rises, by_admin, by_client, by_site, new_actor}

module _ (decl : Declaration) (a : ℕ) where
  abbrev pub new_by : Bool → Bool → Actor
  new_by site client = cond site (Site (new_site a))
      (cond client (Client (new_client (a - decl.sites))) (Admin new_admin))

  abbrev pub rises_by : List Record → Bool → Bool → ActorMove
  rises_by rs site client = cond site (by_site (site_rises decl a rs))
      (cond client (by_client (client_rises (a - decl.sites) rs)) (by_admin (admin_rises rs)))

  pub site_new : is_site decl a ≡ true → new_actor decl a ≡ Site (new_site a)
  site_new site = ap (λ (x : Bool). new_by x (is_client decl a)) site

  pub site_risen : is_site decl a ≡ true → (rs : List Record) → actor_rises decl a rs ≡ by_site (site_rises decl a rs)
  site_risen site rs = ap (λ (x : Bool). rises_by rs x (is_client decl a)) site

  pub client_new : is_client decl a ≡ true → new_actor decl a ≡ Client (new_client (a - decl.sites))
  client_new client = ap (λ (x : Bool). new_by x (is_client decl a)) (client_no_site decl a client)
      ∙ ap (λ (y : Bool). new_by false y) client

  pub client_risen : is_client decl a ≡ true → (rs : List Record)
      → actor_rises decl a rs ≡ by_client (client_rises (a - decl.sites) rs)
  client_risen client rs = ap (λ (x : Bool). rises_by rs x (is_client decl a)) (client_no_site decl a client)
      ∙ ap (λ (y : Bool). rises_by rs false y) client

  pub admin_new : is_site decl a ≡ false → is_client decl a ≡ false → new_actor decl a ≡ Admin new_admin
  admin_new site client = ap (λ (x : Bool). new_by x (is_client decl a)) site ∙ ap (λ (y : Bool). new_by false y) client

  pub admin_risen : is_site decl a ≡ false → is_client decl a ≡ false → (rs : List Record)
      → actor_rises decl a rs ≡ by_admin (admin_rises rs)
  admin_risen site client rs = ap (λ (x : Bool). rises_by rs x (is_client decl a)) site
      ∙ ap (λ (y : Bool). rises_by rs false y) client

-- whose number is the administrator's, or past it

module _ (decl : Declaration) (a : ℕ) (past : administrator decl ≤ a) where
  pub past_no_site : is_site decl a ≡ false
  past_no_site = le-ltb a decl.sites (omega arith)

  pub past_no_client : is_client decl a ≡ false
  past_no_client = none_with (nat_le decl.sites a) (nat_lt a (administrator decl)) (le-ltb a (administrator decl) past)
    where
      none_with : (x y : Bool) → y ≡ false → (x && y) ≡ false
      none_with true y none = none
      none_with false y none = refl

pub admin_no_site : (decl : Declaration) → is_site decl (administrator decl) ≡ false
admin_no_site decl = past_no_site decl (administrator decl) (omega arith)

pub admin_no_client : (decl : Declaration) → is_client decl (administrator decl) ≡ false
admin_no_client decl = past_no_client decl (administrator decl) (omega arith)
