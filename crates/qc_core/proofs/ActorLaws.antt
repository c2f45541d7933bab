-- An actor that neither falls nor rises is a site or a client over its deeds.
use Rattle.std.proofs.Common.{◌≡◌, ℕ, ◌-◌, ◌<◌, ◌&&◌, nat_le, nat_lt, Bool, true, false, cond, List, [], ◌∷◌, ◌++◌}
use Rattle.std.proofs.Common.{fold, Some, None, refl, ap, sym, ◌∙◌, arith}
use Rattle.std.proofs.lemmas.Bool.Decides.{nat_tests}
use Rattle.std.proofs.lemmas.List.Sums.{fold-append}
use Rattle.qc_decl.specs.declared.declaration.Declaration.{Declaration}
use Rattle.qc_decl.specs.Vocabulary.{administrator, is_client, is_site}
use Rattle.qc_client.specs.Vocabulary.{ClientMove, client_after, client_does, moved as client_moved, new_client}
use Rattle.qc_msg.specs.declared.message.Envelope.{Envelope}
use Rattle.qc_msg.specs.declared.step.Input.{Input}
use Rattle.qc_msg.specs.declared.step.Input.TheVariants as inputs
use Rattle.qc_msg.specs.Vocabulary.{Deed, Falls, Rises, Sends, Takes, Tells, Writes, quiet}
use Rattle.qc_site.specs.Vocabulary.{SiteMove, moved as site_moved, new_site, site_after, site_does}
use Rattle.qc_core.specs.declared.actor.Actor.{Actor}
use Rattle.qc_epoch.specs.Vocabulary.{new_admin}
use Rattle.qc_core.specs.declared.actor.Actor.TheVariants.{Site, Client, Admin, Down}
use Rattle.qc_core.specs.Vocabulary.{ActorMove, AreSteady, IsSteady, actor_after, actor_does, actor_hears, actor_takes}
use Rattle.qc_core.specs.Vocabulary.{by_client, by_site, moved, turn_after}

-- one more input

pub input : (decl : Declaration) (a : ℕ) (ds : List Deed) (g : Input)
    → actor_after decl a (ds ++ Takes g ∷ []) ≡ actor_takes decl (actor_after decl a ds).actor g
input decl a ds g = fold-append (actor_does decl a) _ ds (Takes g ∷ [])

pub message : (decl : Declaration) (actor : Actor) (e : Envelope)
    → actor_takes decl actor (inputs.Got e) ≡ actor_hears decl actor e.from e.number e.message
message decl (Site s) e = refl
message decl (Client c) e = refl
message decl (Admin m) e = refl
message decl Down e = refl

-- a site's fold, and a client's

site_deed : (decl : Declaration) (a : ℕ) (m : SiteMove) (d : Deed) → IsSteady d
    → actor_does decl a (by_site m) d ≡ by_site (site_does decl m d)
site_deed decl a m (Takes g) steady = refl
site_deed decl a m (Writes written) steady = refl
site_deed decl a m (Sends number to message) steady = refl
site_deed decl a m (Tells reply) steady = refl
site_deed decl a m (Falls cause pending) steady = absurd steady
site_deed decl a m (Rises records) steady = absurd steady

sites : (decl : Declaration) (a : ℕ) (m : SiteMove) (ds : List Deed) → AreSteady ds
    → fold (actor_does decl a) (by_site m) ds ≡ by_site (fold (site_does decl) m ds)
sites decl a m [] steady = refl
sites decl a m (d ∷ ds) steady = ap (λ (v : ActorMove). fold (actor_does decl a) v ds) (site_deed decl a m d steady.0)
    ∙ sites decl a (site_does decl m d) ds steady.1

client_deed : (decl : Declaration) (a : ℕ) (m : ClientMove) (d : Deed) → IsSteady d
    → actor_does decl a (by_client m) d ≡ by_client (client_does decl m d)
client_deed decl a m (Takes g) steady = refl
client_deed decl a m (Writes written) steady = refl
client_deed decl a m (Sends number to message) steady = refl
client_deed decl a m (Tells reply) steady = refl
client_deed decl a m (Falls cause pending) steady = absurd steady
client_deed decl a m (Rises records) steady = absurd steady

pub clients : (decl : Declaration) (a : ℕ) (m : ClientMove) (ds : List Deed) → AreSteady ds
    → fold (actor_does decl a) (by_client m) ds ≡ by_client (fold (client_does decl) m ds)
clients decl a m [] steady = refl
clients decl a m (d ∷ ds) steady = ap (λ (v : ActorMove). fold (actor_does decl a) v ds)
    (client_deed decl a m d steady.0) ∙ clients decl a (client_does decl m d) ds steady.1

pub at_site : (decl : Declaration) (a : ℕ) (ds : List Deed) → AreSteady ds → is_site decl a ≡ true
    → actor_after decl a ds ≡ by_site (site_after decl a ds)
at_site decl a ds steady is =
    ap (λ (b : Bool). fold (actor_does decl a)
    (moved (cond b (Site (new_site a)) (cond (is_client decl a) (Client (new_client (a - decl.sites)))
    (Admin new_admin))) quiet) ds) is
    ∙ sites decl a (site_moved (new_site a) quiet) ds steady

pub at_client : (decl : Declaration) (a : ℕ) (ds : List Deed) → AreSteady ds → is_site decl a ≡ false
    → is_client decl a ≡ true → actor_after decl a ds ≡ by_client (client_after decl (a - decl.sites) ds)
at_client decl a ds steady is client =
    ap (λ (b : Bool). fold (actor_does decl a)
    (moved (cond b (Site (new_site a)) (cond (is_client decl a) (Client (new_client (a - decl.sites)))
    (Admin new_admin))) quiet) ds) is
    ∙ ap (λ (b : Bool). fold (actor_does decl a)
    (moved (cond b (Client (new_client (a - decl.sites))) (Admin new_admin)) quiet) ds) client
    ∙ clients decl a (client_moved (new_client (a - decl.sites)) quiet) ds steady

-- who comes before the administrator, and is no site, is a client

pub other_client : (decl : Declaration) (a : ℕ) → a < administrator decl → is_site decl a ≡ false
    → is_client decl a ≡ true
other_client decl a below is = is_there decl.sites (administrator decl) a below is
  where
    is_there : (s n k : ℕ) → k < n → nat_lt k s ≡ false → (nat_le s k && nat_lt k n) ≡ true
    is_there s n k below is = grind (arith, nat_tests)

turn_by : (decl : Declaration) (a : ℕ) (ds : List Deed) → AreSteady ds → a < administrator decl → (b : Bool)
    → is_site decl a ≡ b → turn_after decl a ds ≡ Some (actor_after decl a ds).turn
turn_by decl a ds steady below true is =
    ap (λ (b : Bool). cond b (Some (site_after decl a ds).turn)
    (cond (is_client decl a) (Some (client_after decl (a - decl.sites) ds).turn) None)) is
    ∙ ap (λ (m : ActorMove). Some m.turn) (sym (at_site decl a ds steady is))
turn_by decl a ds steady below false is =
    ap (λ (b : Bool). cond b (Some (site_after decl a ds).turn)
    (cond (is_client decl a) (Some (client_after decl (a - decl.sites) ds).turn) None)) is
    ∙ ap (λ (b : Bool). cond b (Some (client_after decl (a - decl.sites) ds).turn) None) (other_client decl a below is)
    ∙ ap (λ (m : ActorMove). Some m.turn) (sym (at_client decl a ds steady is (other_client decl a below is)))

pub turns_are_those_of_actors : (decl : Declaration) (a : ℕ) (ds : List Deed) → AreSteady ds → a < administrator decl
    → turn_after decl a ds ≡ Some (actor_after decl a ds).turn
turns_are_those_of_actors decl a ds steady below = turn_by decl a ds steady below (is_site decl a) refl
