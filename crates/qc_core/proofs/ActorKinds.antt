-- Whether an actor is a site, where it is up.
use Rattle.std.proofs.Common.{◌≡◌, ℕ, ◌-◌, Bool, true, false, cond, List, [], ◌∷◌, fold}
use Rattle.std.proofs.Common.{refl}
use Rattle.qc_decl.specs.declared.declaration.Declaration.{Declaration}
use Rattle.qc_decl.specs.Vocabulary.{is_client, is_site}
use Rattle.qc_client.specs.Vocabulary.{new_client}
use Rattle.qc_msg.specs.declared.record.Record.{Record}
use Rattle.qc_msg.specs.declared.step.Input.{Input}
use Rattle.qc_msg.specs.Vocabulary.{Deed, Falls, Rises, Sends, Takes, Tells, Writes}
use Rattle.qc_msg.specs.Vocabulary.{quiet}
use Rattle.qc_epoch.specs.Vocabulary.{new_admin}
use Rattle.qc_recover.specs.Vocabulary.{admin_rises, client_rises, site_rises}
use Rattle.qc_site.specs.Vocabulary.{new_site}
use Rattle.qc_core.specs.declared.actor.Actor.{Actor}
use Rattle.qc_core.specs.declared.actor.Actor.TheVariants as actor
use Rattle.qc_core.specs.Vocabulary.{ActorMove}
use Rattle.qc_core.specs.Vocabulary.{actor_after, actor_does, actor_rises, actor_sends, actor_takes, by_admin}
use Rattle.qc_core.specs.Vocabulary.{by_client, by_site, moved}

-- whether it is a site, where it is up

abbrev pub IsKind : Bool → Actor → Type 0
IsKind site (actor.Site s) = site ≡ true
IsKind site (actor.Client c) = site ≡ false
IsKind site (actor.Admin m) = site ≡ false
IsKind site actor.Down = Unit {0}

kind_takes : (decl : Declaration) (site : Bool) (v : Actor) (g : Input) → IsKind site v
    → IsKind site (actor_takes decl v g).actor
kind_takes decl site (actor.Site s) g is = is
kind_takes decl site (actor.Client c) g is = is
kind_takes decl site (actor.Admin m) g is = is
kind_takes decl site actor.Down g is = tt

kind_sends : (site : Bool) (v : Actor) (number to : ℕ) (message : _) → IsKind site v
    → IsKind site (actor_sends v number to message)
kind_sends site (actor.Site s) number to message is = is
kind_sends site (actor.Client c) number to message is = is
kind_sends site (actor.Admin m) number to message is = is
kind_sends site actor.Down number to message is = tt

kind_rises : (decl : Declaration) (a : ℕ) (rs : List Record) → IsKind (is_site decl a) (actor_rises decl a rs).actor
kind_rises decl a rs = by (is_site decl a) (is_client decl a)
  where
    by : (x y : Bool) → IsKind x (cond x (by_site (site_rises decl a rs))
        (cond y (by_client (client_rises (a - decl.sites) rs)) (by_admin (admin_rises rs)))).actor
    by true y = refl
    by false true = refl
    by false false = refl

kind_new : (decl : Declaration) (a : ℕ) → IsKind (is_site decl a) (actor_after decl a []).actor
kind_new decl a = by (is_site decl a) (is_client decl a)
  where
    by : (x y : Bool) → IsKind x (cond x (actor.Site (new_site a))
        (cond y (actor.Client (new_client (a - decl.sites))) (actor.Admin new_admin)))
    by true y = refl
    by false true = refl
    by false false = refl

kind_from : (decl : Declaration) (a : ℕ) (m : ActorMove) (ds : List Deed) → IsKind (is_site decl a) m.actor
    → IsKind (is_site decl a) (fold (actor_does decl a) m ds).actor
kind_from decl a m [] is = is
kind_from decl a m (Takes g ∷ ds) is = kind_from decl a (actor_takes decl m.actor g) ds
    (kind_takes decl (is_site decl a) m.actor g is)
kind_from decl a m (Writes written ∷ ds) is = kind_from decl a m ds is
kind_from decl a m (Sends number to message ∷ ds) is =
    kind_from decl a (record m { actor = actor_sends m.actor number to message }) ds
    (kind_sends (is_site decl a) m.actor number to message is)
kind_from decl a m (Tells reply ∷ ds) is = kind_from decl a m ds is
kind_from decl a m (Falls cause pending ∷ ds) is = kind_from decl a (moved actor.Down quiet) ds tt
kind_from decl a m (Rises records ∷ ds) is =
    kind_from decl a (actor_rises decl a records) ds (kind_rises decl a records)

pub kind_after : (decl : Declaration) (a : ℕ) (ds : List Deed) → IsKind (is_site decl a) (actor_after decl a ds).actor
kind_after decl a ds = kind_from decl a _ ds (kind_new decl a)
