-- A net stands for a history with falls where it has the history's mail, and each site and client and the administrator
-- is up, and has on its disk, what its deeds say; one that is up is as its deeds give it, or as it was before the input
-- that is open.
use Rattle.std.proofs.Common.{◌≡◌, ◌≢◌, ℕ, ◌==◌, Bool, true, false, cond, List, [], ◌++◌, Option, Some, None, slice_get}
use Rattle.std.proofs.Common.{inl, inr, refl, sym, ap, ◌∙◌, subst}
use Rattle.qc_core.specs.declared.actor.Actor.{Actor}
use Rattle.qc_core.specs.declared.actor.Actor.TheVariants as actor
use Rattle.qc_core.specs.Vocabulary.{actor_after, actor_takes, is_up, journal_after}
use Rattle.qc_core.proofs.ByNumber.{admin_no_client, admin_no_site}
use Rattle.qc_decl.specs.declared.declaration.Declaration.{Declaration}
use Rattle.qc_decl.proofs.Clients.{client_no_site}
use Rattle.qc_decl.specs.Vocabulary.{administrator, is_client, is_site}
use Rattle.qc_client.specs.declared.client.Client.{Client}
use Rattle.qc_msg.specs.declared.message.Envelope.{Envelope}
use Rattle.qc_msg.specs.Vocabulary.{Deed, Entry, WasSentTo, deeds, mail}
use Rattle.laws_refinement.specs.Vocabulary.{MayCommand, Net, Reaches}
use Rattle.qc_epoch.specs.Vocabulary.{Admin}
use Rattle.qc_site.specs.Vocabulary.{SiteState}
use Rattle.laws_atomic.proofs.Stood.{still_sent}
use Rattle.laws_reach.specs.Vocabulary.{HasTaken, TakesInputs, actor_in}
use Rattle.laws_refinement.proofs.Lives.{same_or}
use Rattle.qc_list.proofs.Numbers.{numbers_apart}

module _ (decl : Declaration) where
  pub record Stands (net : Net) (a : ℕ) (h : List Entry) (open_input : Option Bool) : Type 0 where
    pub up : net.up a ≡ is_up (deeds a [] h)
    pub records : net.records a ≡ (journal_after (deeds a [] h)).records
    pub pending : net.pending a ≡ (journal_after (deeds a [] h)).pending
    pub clear : is_up (deeds a [] h) ≡ true → (journal_after (deeds a [] h)).pending ≡ None
    pub closed : is_up (deeds a [] h) ≡ true → open_input ≡ Some false
        → (actor_after decl a (deeds a [] h)).actor ≡ actor_in decl net a
    pub opened : is_up (deeds a [] h) ≡ true → open_input ≡ Some true → HasTaken decl net a h

  pub record Stood (h : List Entry) (open_inputs : List Bool) : Type 0 where
    pub net : Net
    pub reached : Reaches decl net
    pub mail_is : net.mail ≡ mail h
    pub actors : (a : ℕ) → TakesInputs decl a → Stands net a h (slice_get open_inputs a)

  -- an actor that the next net leaves as it was

  pub record Leaves (net next : Net) (b : ℕ) : Type 0 where
    pub up : next.up b ≡ net.up b
    pub records : next.records b ≡ net.records b
    pub pending : next.pending b ≡ net.pending b
    pub sites : next.sites b ≡ net.sites b
    pub clients : next.clients b ≡ net.clients b
    pub admin : b ≡ administrator decl → next.admin ≡ net.admin

  pub itself : (net : Net) (b : ℕ) → Leaves net net b
  itself net b = record { up = refl; records = refl; pending = refl; sites = refl; clients = refl; admin = λ at. refl }

  -- what an actor of the net is

  pub in_site : (net : Net) (a : ℕ) → is_site decl a ≡ true → actor_in decl net a ≡ actor.Site (net.sites a)
  in_site net a site = ap (λ (b : Bool). cond b (actor.Site (net.sites a))
      (cond (is_client decl a) (actor.Client (net.clients a)) (actor.Admin net.admin))) site

  pub not_site : (a : ℕ) → is_client decl a ≡ true → is_site decl a ≡ false
  not_site a client = client_no_site decl a client

  pub in_client : (net : Net) (a : ℕ) → is_client decl a ≡ true → actor_in decl net a ≡ actor.Client (net.clients a)
  in_client net a client = λ i. cond (not_site a client i) (actor.Site (net.sites a))
      (cond (client i) (actor.Client (net.clients a)) (actor.Admin net.admin))

  pub in_admin : (net : Net) → actor_in decl net (administrator decl) ≡ actor.Admin net.admin
  in_admin net = λ i. cond (admin_no_site decl i) (actor.Site (net.sites (administrator decl)))
      (cond (admin_no_client decl i) (actor.Client (net.clients (administrator decl))) (actor.Admin net.admin))

  same_actor : (net next : Net) (b : ℕ) → TakesInputs decl b → Leaves net next b
      → actor_in decl net b ≡ actor_in decl next b
  same_actor net next b (inl site) leaves = in_site net b site ∙ ap (λ (v : SiteState). actor.Site v) (sym leaves.sites)
      ∙ sym (in_site next b site)
  same_actor net next b (inr (inl client)) leaves = in_client net b client
      ∙ ap (λ (v : Client). actor.Client v) (sym leaves.clients) ∙ sym (in_client next b client)
  same_actor net next b (inr (inr at)) leaves =
      ap (actor_in decl net) at ∙ in_admin net ∙ ap (λ (v : Admin). actor.Admin v) (sym (leaves.admin at))
      ∙ sym (in_admin next) ∙ ap (actor_in decl next) (sym at)

  pub stays : (net next : Net) (b : ℕ) (h k : List Entry) (more : List Envelope) (o p : Option Bool)
      → TakesInputs decl b → Leaves net next b → deeds b [] k ≡ deeds b [] h → mail k ≡ mail h ++ more → p ≡ o
      → Stands net b h o → Stands next b k p
  stays net next b h k more o p is_one leaves same grows slot s = record {
    up = leaves.up ∙ s.up ∙ ap is_up (sym same);
    records = leaves.records ∙ s.records ∙ ap (λ (ds : List Deed). (journal_after ds).records) (sym same);
    pending = leaves.pending ∙ s.pending ∙ ap (λ (ds : List Deed). (journal_after ds).pending) (sym same);
    clear = λ up. ap (λ (ds : List Deed). (journal_after ds).pending) same ∙ s.clear (sym (ap is_up same) ∙ up);
    closed = λ up is. ap (λ (ds : List Deed). (actor_after decl b ds).actor) same
        ∙ s.closed (sym (ap is_up same) ∙ up) (sym slot ∙ is) ∙ same_actor net next b is_one leaves;
    opened = λ up is. (let x : HasTaken decl net b h = s.opened (sym (ap is_up same) ∙ up) (sym slot ∙ is) in record {
      given = x.given;
      sent = subst (λ (ms : List Envelope). WasSentTo b ms x.given) (sym grows)
          (still_sent b (mail h) more x.given x.sent);
      may = λ client. subst (λ (c : Client). MayCommand decl c x.given) (sym leaves.clients) (x.may client);
      may_admin = x.may_admin;
      before = x.before;
      deeds_are = same ∙ x.deeds_are;
      was = x.was ∙ same_actor net next b is_one leaves;
      is = ap (actor_after decl b) same ∙ x.is
          ∙ ap (λ (v : Actor). actor_takes decl v x.given) (same_actor net next b is_one leaves);
    });
  }

  -- one actor moves, and all others stay
  pub moves : (h k : List Entry) (inputs later : List Bool) (old : Stood h inputs) (a : ℕ) (next : Net)
      (more : List Envelope) → Reaches decl next → next.mail ≡ mail k → mail k ≡ mail h ++ more
      → ((b : ℕ) → b ≢ a → Leaves old.net next b) → ((b : ℕ) → (a == b) ≡ false → deeds b [] k ≡ deeds b [] h)
      → ((b : ℕ) → (a == b) ≡ false → slice_get later b ≡ slice_get inputs b)
      → (TakesInputs decl a → Stands next a k (slice_get later a)) → Stood k later
  moves h k inputs later old a next more reached mail_is grows leaves same slots here = record {
    net = next;
    reached = reached;
    mail_is = mail_is;
    actors = λ b is. elim (same_or b a) [
      | inl at ↦ subst (λ (n : ℕ). Stands next n k (slice_get later n)) (sym at) (here (subst (TakesInputs decl) at is))
      | inr other ↦ (let differs : (a == b) ≡ false = numbers_apart a b (λ at. other (sym at)) in
          stays old.net next b h k more (slice_get inputs b) (slice_get later b) is (leaves b other)
          (same b differs) grows (slots b differs) (old.actors b is))
    ];
  }
