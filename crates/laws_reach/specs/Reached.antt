-- A history with falls has a net: what was sent there, who is up, what each actor's records are, and what each actor is
-- that is up and has no open input.
use Rattle.std.specs.Prelude.{◌≡◌, ◌⊎◌, ℕ, Bool, true, false, if◌then◌else◌, List, [], ◌∷◌, ◌++◌, Some, slice_get}
use Rattle.qc_core.specs.declared.actor.Actor.{Actor}
use Rattle.qc_core.specs.declared.actor.Actor.TheVariants.{Site, Client, Admin}
use Rattle.qc_core.specs.Vocabulary.{actor_after, actor_takes, is_up}
use Rattle.qc_decl.specs.Vocabulary.{administrator, is_client, is_site}
use Rattle.qc_decl.specs.declared.declaration.Declaration.{Declaration}
use Rattle.qc_msg.specs.declared.step.Input.{Input}
use Rattle.qc_msg.specs.Vocabulary.{Deed, Entry, Takes, WasSentTo, deeds, mail, own}
use Rattle.laws_refinement.specs.Vocabulary.{MayAdminister, MayCommand, Net, Reaches}
use Rattle.qc_promise.specs.Vocabulary.{journal_of}

-- a site, a client, or the administrator
abbrev pub TakesInputs : Declaration → ℕ → Type 0
TakesInputs decl a = (is_site decl a ≡ true) ⊎ ((is_client decl a ≡ true) ⊎ (a ≡ administrator decl))

-- what an actor of the net is while it is up
abbrev pub actor_in : Declaration → Net → ℕ → Actor
actor_in decl net a =
    if is_site decl a then Site (net.sites a)
    else (if is_client decl a then Client (net.clients a) else Admin net.admin)

-- an actor with an open input: the net has it as it was before that
pub record HasTaken (decl : Declaration) (net : Net) (a : ℕ) (h : List Entry) : Type 0 where
  pub given : Input
  pub sent : WasSentTo a (mail h) given
  pub may : is_client decl a ≡ true → MayCommand decl (net.clients a) given
  pub may_admin : a ≡ administrator decl → MayAdminister decl given
  -- its deeds before, and what it was then
  pub before : List Deed
  pub deeds_are : deeds a [] h ≡ before ++ Takes given ∷ []
  pub was : (actor_after decl a before).actor ≡ actor_in decl net a
  pub is : actor_after decl a (deeds a [] h) ≡ actor_takes decl (actor_in decl net a) given

-- the net of a history, some of whose inputs are open
pub record IsReachedWithFalls (decl : Declaration) (h : List Entry) (open_inputs : List Bool) : Type 0 where
  pub net : Net
  pub reached : Reaches decl net
  pub mail_is : net.mail ≡ mail h
  pub up_is : (a : ℕ) → TakesInputs decl a → net.up a ≡ is_up (deeds a [] h)
  pub records_are : (a : ℕ) → TakesInputs decl a → net.records a ≡ (journal_of (own a h)).records
  pub pending_is : (a : ℕ) → TakesInputs decl a → net.pending a ≡ (journal_of (own a h)).pending
  pub actors_are : (a : ℕ) → TakesInputs decl a → is_up (deeds a [] h) ≡ true → slice_get open_inputs a ≡ Some false
      → (actor_after decl a (deeds a [] h)).actor ≡ actor_in decl net a
  pub actors_were : (a : ℕ) → TakesInputs decl a → is_up (deeds a [] h) ≡ true → slice_get open_inputs a ≡ Some true
      → HasTaken decl net a h
