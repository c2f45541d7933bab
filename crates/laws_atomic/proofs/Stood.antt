-- A net stands for a history where its sites and clients are as their deeds give them, or as they were before the
-- input that is open. Such a client is tied to its account as that was.
use Rattle.std.proofs.Common.{◌≡◌, ◌≢◌, ℕ, ◌-◌, ◌<◌, ◌≤◌, ◌==◌, arith, Bool, true, false, List, [], ◌++◌, Option, Some}
use Rattle.std.proofs.Common.{slice_get, sym, ap, ◌∙◌, subst, eq-eqb, ltb-true}
use Rattle.std.specs.Prelude.{fold, slice_set}
use Rattle.qc_decl.proofs.Clients.{client_past}
use Rattle.qc_list.specs.Vocabulary.{In}
use Rattle.qc_list.proofs.Members.{every-at, every-from_In}
use Rattle.qc_decl.specs.declared.declaration.Declaration.{Declaration}
use Rattle.qc_decl.specs.Vocabulary.{is_client, is_site}
use Rattle.qc_msg.specs.declared.message.Envelope.{Envelope}
use Rattle.qc_msg.specs.declared.message.Message.{Message}
use Rattle.qc_msg.specs.declared.message.Message.TheVariants as messages
use Rattle.qc_msg.specs.declared.step.Input.{Input}
use Rattle.qc_msg.specs.declared.step.Input.TheVariants as inputs
use Rattle.qc_msg.specs.Vocabulary.{Deed, Entry, WasSentTo, deeds, mail, written}
use Rattle.qc_client.specs.Vocabulary.{client_after, client_takes}
use Rattle.qc_client.specs.declared.client.Client.{Client}
use Rattle.qc_site.specs.Vocabulary.{SiteState, site_after, site_takes}
use Rattle.qc_promise.specs.Vocabulary.{Account, account, account_at, account_taken, new_account}
use Rattle.laws_turns.proofs.SiteReplies.{IsMailProper, IsProperFrom}
use Rattle.laws_due.specs.Vocabulary.{Ties}
use Rattle.laws_refinement.specs.Vocabulary.{MayCome, MayCommand, Net}
use Rattle.laws_atomic.proofs.Calm.{IsCalm}
use Rattle.laws_atomic.proofs.FirstSites.{IsCalmGiven, IsCalmMessage}
use Rattle.qc_list.proofs.Places.{slice_get-more, slice_get-set_other, slice_get-set_same}

-- what was sent stays so, and may come

pub still_sent : (a : ℕ) (ms more : List Envelope) (g : Input) → WasSentTo a ms g → WasSentTo a (ms ++ more) g
still_sent a ms more (inputs.Called command) sent = tt
still_sent a ms more (inputs.Got envelope) sent = (slice_get-more ms more envelope.number envelope sent.0, sent.1)
still_sent a ms more (inputs.Lost number) sent = tt

pub may_come : (net : Net) (a : ℕ) (g : Input) → WasSentTo a net.mail g → MayCome net a g
may_come net a (inputs.Called command) sent = tt
may_come net a (inputs.Got envelope) sent = (
  every-at (λ (e : Envelope). In e net.mail) net.mail envelope.number envelope
      (every-from_In (λ (e : Envelope). In e net.mail) net.mail (λ e among. among)) sent.0,
  sent.1,
)
may_come net a (inputs.Lost number) sent = tt

-- a place is one or the other
pub not_now : (open_inputs : List Bool) (a : ℕ) (v w t : Bool) → slice_get open_inputs a ≡ Some w → v ≢ t
    → slice_get (slice_set open_inputs a v) a ≡ Some t → ⊥
not_now open_inputs a v w t was differs is = let now : slice_get (slice_set open_inputs a v) a ≡ Some v =
    slice_get-set_same open_inputs a v w was in differs (let same : v ≡ t = cc in same)

pub slot_other : (open_inputs : List Bool) (a b : ℕ) (v : Bool) → (a == b) ≡ false
    → slice_get (slice_set open_inputs a v) b ≡ slice_get open_inputs b
slot_other open_inputs a b v other = slice_get-set_other open_inputs a b v
    (λ e. (let t : (a == b) ≡ true = eq-eqb a b e in let never : ⊥ = cc in never))

pub false_true : false ≢ true
false_true e = let never : ⊥ = cc in never

pub true_false : true ≢ false
true_false e = let never : ⊥ = cc in never

module _ (decl : Declaration) where
  -- an actor with an open input, as it was before that

  pub record OpenSite (s : SiteState) (a : ℕ) (h : List Entry) : Type 0 where
    pub given : Input
    pub sent : WasSentTo a (mail h) given
    pub is : site_after decl a (deeds a [] h) ≡ site_takes decl s given

  pub record OpenClient (c : Client) (a : ℕ) (h : List Entry) : Type 0 where
    pub given : Input
    pub sent : WasSentTo a (mail h) given
    pub may : MayCommand decl c given
    pub is : client_after decl (a - decl.sites) (deeds a [] h) ≡ client_takes decl c given
    -- its account as it was, to which it is tied, and as it is
    pub was : Account
    pub tied : Ties decl was c
    pub now_is : account decl a h ≡ account_taken was given

  -- an actor's state: as its deeds give it, or before the input that is open

  pub record SiteStands (s : SiteState) (a : ℕ) (h : List Entry) (open_input : Option Bool) : Type 0 where
    pub closed : open_input ≡ Some false → s ≡ (site_after decl a (deeds a [] h)).site
    pub opened : open_input ≡ Some true → OpenSite s a h

  pub record ClientStands (c : Client) (a : ℕ) (h : List Entry) (open_input : Option Bool) : Type 0 where
    pub closed : open_input ≡ Some false → c ≡ (client_after decl (a - decl.sites) (deeds a [] h)).client
    pub opened : open_input ≡ Some true → OpenClient c a h

  pub record Stood (h : List Entry) (open_inputs : List Bool) : Type 0 where
    pub net : Net
    pub calm : IsCalm decl net
    pub mail_is : net.mail ≡ mail h
    pub written_is : net.written ≡ written h
    pub sites_are : (a : ℕ) → is_site decl a ≡ true → SiteStands (net.sites a) a h (slice_get open_inputs a)
    pub clients_are : (a : ℕ) → is_client decl a ≡ true → ClientStands (net.clients a) a h (slice_get open_inputs a)

  -- what is sent is neither a Close nor an Install

  pub heard_calm : (from to : ℕ) (m : Message) → IsProperFrom decl from to m → IsCalmMessage m
  heard_calm from to (messages.Request tx epoch life want) proper = tt
  heard_calm from to (messages.Answer request answer) proper = tt
  heard_calm from to (messages.Decision tx verdict) proper = tt
  heard_calm from to (messages.Inquiry tx) proper = tt
  heard_calm from to (messages.Ask tx) proper = tt
  heard_calm from to (messages.Close epoch) proper = proper
  heard_calm from to (messages.Install start) proper = proper

  pub sent_calm : (a : ℕ) (ms : List Envelope) (g : Input) → IsMailProper decl ms → WasSentTo a ms g → IsCalmGiven g
  sent_calm a ms (inputs.Called command) proper sent = tt
  sent_calm a ms (inputs.Got e) proper sent =
      heard_calm e.from e.to e.message (every-at
      (λ (x : Envelope). IsProperFrom decl x.from x.to x.message) ms e.number e proper sent.0)
  sent_calm a ms (inputs.Lost number) proper sent = tt

  -- no actor is both
  pub both : (a : ℕ) → is_site decl a ≡ true → is_client decl a ≡ true → ⊥
  both a site client =
      let low : a < decl.sites = ltb-true a decl.sites site in
      let high : decl.sites ≤ a = client_past decl a client in
      omega arith

  -- the deeds stay, and more is sent

  pub site_stays : (s : SiteState) (a : ℕ) (h k : List Entry) (more : List Envelope) (o p : Option Bool)
      → deeds a [] k ≡ deeds a [] h → mail k ≡ mail h ++ more → p ≡ o → SiteStands s a h o → SiteStands s a k p
  site_stays s a h k more o p same grows slot r = record {
    closed = λ e. r.closed (sym slot ∙ e) ∙ ap (λ (ds : List Deed). (site_after decl a ds).site) (sym same);
    opened = λ e. (let x : OpenSite s a h = r.opened (sym slot ∙ e) in record {
      given = x.given;
      sent = subst (λ (ms : List Envelope). WasSentTo a ms x.given) (sym grows)
          (still_sent a (mail h) more x.given x.sent);
      is = ap (site_after decl a) same ∙ x.is;
    });
  }

  pub client_stays : (c : Client) (a : ℕ) (h k : List Entry) (more : List Envelope) (o p : Option Bool)
      → deeds a [] k ≡ deeds a [] h → mail k ≡ mail h ++ more → p ≡ o → ClientStands c a h o → ClientStands c a k p
  client_stays c a h k more o p same grows slot r = record {
    closed = λ e. r.closed (sym slot ∙ e) ∙ ap (λ (ds : List Deed). (client_after decl (a - decl.sites) ds).client)
        (sym same);
    opened = λ e. (let x : OpenClient c a h = r.opened (sym slot ∙ e) in record {
      given = x.given;
      sent = subst (λ (ms : List Envelope). WasSentTo a ms x.given) (sym grows)
          (still_sent a (mail h) more x.given x.sent);
      may = x.may;
      is = ap (client_after decl (a - decl.sites)) same ∙ x.is;
      was = x.was;
      tied = x.tied;
      now_is = ap (fold (account_at decl) (new_account (a - decl.sites))) same ∙ x.now_is;
    });
  }
