-- What a site holds is in order, whatever it took and whatever records it rose with.
use Rattle.std.proofs.Common.{◌≡◌, ℕ, Bool, true, false, List, [], ◌∷◌, ◌++◌, fold, subst}
use Rattle.qc_core.specs.declared.actor.Actor.{Actor}
use Rattle.qc_core.specs.declared.actor.Actor.TheVariants.{Site, Client, Admin, Down}
use Rattle.qc_core.specs.Vocabulary.{ActorMove, actor_after, actor_does, actor_rises, actor_sends, actor_takes, moved}
use Rattle.qc_core.proofs.ByNumber.{new_by, rises_by}
use Rattle.qc_decl.specs.Vocabulary.{is_client, is_site}
use Rattle.qc_decl.specs.declared.declaration.Declaration.{Declaration}
use Rattle.qc_lock.proofs.Order.{sound-without}
use Rattle.qc_lock.specs.Vocabulary.{IsSound}
use Rattle.qc_msg.specs.Vocabulary.{Deed, Falls, Rises, Sends, Takes, Tells, Writes, quiet}
use Rattle.qc_msg.specs.declared.message.Message.{Message}
use Rattle.qc_msg.specs.declared.record.Record.{Record}
use Rattle.qc_msg.specs.declared.record.Record.TheVariants as records
use Rattle.qc_msg.specs.declared.step.Input.{Input}
use Rattle.qc_msg.specs.declared.step.Input.TheVariants as inputs
use Rattle.qc_recover.specs.Vocabulary.{kept_by}
use Rattle.qc_site.specs.Vocabulary.{SiteState, passed, site_at, site_takes}
use Rattle.qc_site.proofs.Cases.{state_cases}
use Rattle.qc_site.proofs.Sorted.{held-sound, sound-held}

abbrev HoldsInOrder : Actor → Type 0
HoldsInOrder (Site s) = IsSound s.held
HoldsInOrder (Client c) = Unit {0}
HoldsInOrder (Admin m) = Unit {0}
HoldsInOrder Down = Unit {0}

-- each input

none_held : IsSound []
none_held = record { single = tt; full = tt; sorted = tt }

at_site : (decl : Declaration) (s : SiteState) (from number : ℕ) (message : Message) → IsSound s.held
    → IsSound (site_at decl s from number message).site.held
at_site decl s from number message sound =
    state_cases (λ (t : SiteState). IsSound t.held) decl s from number message sound
    (λ tx epoch life r is. sound-held s.held tx (record { object = r.object; inv = r.inv } ∷ []) [] sound)
    (λ tx epoch life object view own is. sound-held s.held tx [] own sound)
    (λ tx. sound) (λ tx verdict is final. sound-without s.held tx sound)
    (λ tx stamp p is. sound-without s.held tx sound)
    (λ k is. held-sound [] s.prepared none_held) (λ k clock lines is later. none_held)

site_taken : (decl : Declaration) (s : SiteState) (g : Input) → IsSound s.held → IsSound (site_takes decl s g).site.held
site_taken decl s (inputs.Called command) sound = sound
site_taken decl s (inputs.Got e) sound = at_site decl (passed s e.message) e.from e.number e.message sound
site_taken decl s (inputs.Lost number) sound = sound

taken : (decl : Declaration) (v : Actor) (g : Input) → HoldsInOrder v → HoldsInOrder (actor_takes decl v g).actor
taken decl (Site s) g sound = site_taken decl s g sound
taken decl (Client c) g sound = tt
taken decl (Admin m) g sound = tt
taken decl Down g sound = tt

sent : (v : Actor) (number to : ℕ) (message : Message) → HoldsInOrder v → HoldsInOrder (actor_sends v number to message)
sent (Site s) number to message sound = sound
sent (Client c) number to message sound = tt
sent (Admin m) number to message sound = tt
sent Down number to message sound = tt

-- a rise

risen : (decl : Declaration) (a : ℕ) (rs : List Record) → HoldsInOrder (actor_rises decl a rs).actor
risen decl a rs = at (is_site decl a) (is_client decl a)
  where
    at : (site client : Bool) → HoldsInOrder (rises_by decl a rs site client).actor
    at true client = held-sound [] (kept_by (rs ++ records.Life ∷ [])).promises none_held
    at false true = tt
    at false false = tt

-- all deeds

over : (decl : Declaration) (a : ℕ) (m : ActorMove) (ds : List Deed) → HoldsInOrder m.actor
    → HoldsInOrder (fold (actor_does decl a) m ds).actor
over decl a m [] sound = sound
over decl a m (Takes g ∷ ds) sound = over decl a (actor_takes decl m.actor g) ds (taken decl m.actor g sound)
over decl a m (Writes written ∷ ds) sound = over decl a m ds sound
over decl a m (Sends number to message ∷ ds) sound =
    over decl a (record m { actor = actor_sends m.actor number to message }) ds (sent m.actor number to message sound)
over decl a m (Tells reply ∷ ds) sound = over decl a m ds sound
over decl a m (Falls cause pending ∷ ds) sound = over decl a (moved Down quiet) ds tt
over decl a m (Rises rs ∷ ds) sound = over decl a (actor_rises decl a rs) ds (risen decl a rs)

-- a site after its deeds
pub holds_in_order : (decl : Declaration) (a : ℕ) (ds : List Deed) (s : SiteState)
    → (actor_after decl a ds).actor ≡ Site s → IsSound s.held
holds_in_order decl a ds s is = subst HoldsInOrder is (over decl a _ ds (at (is_site decl a) (is_client decl a)))
  where
    at : (site client : Bool) → HoldsInOrder (new_by decl a site client)
    at true client = none_held
    at false true = tt
    at false false = tt
