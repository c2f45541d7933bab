-- The machine goes on at one site alone: all others of the net stand.
use Rattle.std.proofs.Common.{◌≡◌, ◌≢◌, ℕ, ◌-◌, true, false, inl, inr, List, ◌++◌, Option, length, slice_get, Some}
use Rattle.std.proofs.Common.{refl, sym, ◌∙◌, subst}
use Rattle.qc_stamp.specs.declared.stamp.TxId.{TxId}
use Rattle.qc_list.specs.Vocabulary.{In}
use Rattle.qc_entry.specs.declared.record.Commit.{Commit as CommitRecord}
use Rattle.qc_decl.specs.declared.declaration.Declaration.{Declaration}
use Rattle.qc_decl.specs.Vocabulary.{administrator, is_client, is_site}
use Rattle.qc_lock.specs.Vocabulary.{is_held}
use Rattle.qc_msg.specs.declared.message.Envelope.{Envelope}
use Rattle.qc_msg.specs.declared.record.Record.{Record}
use Rattle.qc_msg.specs.declared.turn.Posting.{Posting}
use Rattle.qc_msg.specs.Vocabulary.{envelopes}
use Rattle.theory_machine.specs.Vocabulary.{Deed, Granted, NotBegun, State}
use Rattle.qc_client.specs.declared.client.Client.{Client}
use Rattle.qc_site.specs.Vocabulary.{SiteState}
use Rattle.qc_epoch.specs.Vocabulary.{Admin}
use Rattle.qc_recover.specs.Admins as admins
use Rattle.qc_recover.specs.Clients as clients
use Rattle.laws_refinement.specs.Vocabulary.{AdminMirrors, Backed, ClientMirrors, FallenMirrors, IsKeptBy, IsPendingAt}
use Rattle.laws_refinement.specs.Vocabulary.{IsPendingRule, KeptMirrors, Mirrors, Net, RulesMirror, SiteMirrors}
use Rattle.qc_recover.specs.Vocabulary.{kept_by}
use Rattle.laws_refinement.proofs.MessagesStay.{Keeps, Later, admin_later}
use Rattle.laws_refinement.proofs.Frames.{keep_client}
use Rattle.laws_refinement.proofs.Kepts.{fallen_keeps, kept_later, no_client, no_ruler, pends_later, rules_later}
use Rattle.laws_refinement.proofs.Kepts.{ruling_later}
use Rattle.laws_refinement.proofs.Posts.{more_mail, more_numbered}
use Rattle.laws_refinement.proofs.Lives.{same_or}

-- all other actors of the net stand, and these messages are sent by the one
pub record Apart (decl : Declaration) (net next : Net) (a : ℕ) (sends : List Posting) : Type 0 where
  pub sites : (b : ℕ) → b ≢ a → next.sites b ≡ net.sites b
  pub clients : (b : ℕ) → b ≢ a → next.clients b ≡ net.clients b
  pub up : (b : ℕ) → b ≢ a → next.up b ≡ net.up b
  pub records : (b : ℕ) → b ≢ a → next.records b ≡ net.records b
  pub pending : (b : ℕ) → b ≢ a → next.pending b ≡ net.pending b
  pub admin : a ≢ administrator decl → next.admin ≡ net.admin
  pub mail : next.mail ≡ net.mail ++ envelopes a (length net.mail) sends

module _ (decl : Declaration) where
  -- the machine goes on at one site alone
  pub record AtSite (w v : State) (a : ℕ) : Type 0 where
    pub later : Later w v
    pub keeps : (c : ℕ) → Keeps w v c
    pub records : v.records ≡ w.records
    pub placed_at : (g : Granted) → In g v.granted → is_site decl g.site ≡ true
    pub there : (b : ℕ) → b ≢ a → v.deeds b ≡ w.deeds b
    pub lives : (b : ℕ) → b ≢ a → v.life b ≡ w.life b

  -- what the site shows then
  pub record SiteShows (v : State) (next : Net) (a : ℕ) : Type 0 where
    pub kept : KeptMirrors decl (kept_by (next.records a)) v.status (v.life a) (v.deeds a)
    pub mirrors : next.up a ≡ true → SiteMirrors decl (next.sites a) (v.deeds a) (v.life a)
    pub alike : next.up a ≡ true → IsKeptBy (next.sites a) (kept_by (next.records a))
    pub holders : next.up a ≡ true → (t : TxId) → is_held (next.sites a).held t ≡ true → v.status t ≢ NotBegun
    pub pends : next.up a ≡ false → IsPendingAt decl v (kept_by (next.records a)) (v.deeds a) (next.pending a)

  pub site_net : (w v : State) (net next : Net) (a : ℕ) (sends : List Posting) → Mirrors decl w net
      → is_site decl a ≡ true → Apart decl net next a sends → next.written ≡ net.written → AtSite w v a
      → SiteShows v next a
      → ((p : Posting) → In p sends → Backed decl v net.mail a p.to p.message) → Mirrors decl v next
  site_net w v net next a sends m site apart written at s turn = record {
    placed = at.placed_at;
    sites = λ b is u. elim (same_or b a) [
      | inl e ↦
          subst (λ (x : ℕ). SiteMirrors decl (next.sites x) (v.deeds x) (v.life x)) (sym e)
          (s.mirrors (subst (λ (x : ℕ). next.up x ≡ true) e u))
      | inr other ↦
          subst (λ (x : SiteState). SiteMirrors decl x (v.deeds b) (v.life b)) (sym (apart.sites b other))
          (subst (λ (n : ℕ). SiteMirrors decl (net.sites b) (v.deeds b) n) (sym (at.lives b other))
          (subst (λ (ds : List Deed). SiteMirrors decl (net.sites b) ds (w.life b)) (sym (at.there b other))
          (m.sites b is (sym (apart.up b other) ∙ u))))
    ];
    alike = λ b is u. elim (same_or b a) [
      | inl e ↦
          subst (λ (x : ℕ). IsKeptBy (next.sites x) (kept_by (next.records x))) (sym e)
          (s.alike (subst (λ (x : ℕ). next.up x ≡ true) e u))
      | inr other ↦
          subst (λ (x : SiteState). IsKeptBy x (kept_by (next.records b))) (sym (apart.sites b other))
          (subst (λ (rs : List Record). IsKeptBy (net.sites b) (kept_by rs)) (sym (apart.records b other))
          (m.alike b is (sym (apart.up b other) ∙ u)))
    ];
    holders = λ b t is u. elim (same_or b a) [
      | inl e ↦
          subst (λ (x : ℕ). is_held (next.sites x).held t ≡ true → v.status t ≢ NotBegun) (sym e)
          (s.holders (subst (λ (x : ℕ). next.up x ≡ true) e u) t)
      | inr other ↦
          subst (λ (x : SiteState). is_held x.held t ≡ true → v.status t ≢ NotBegun) (sym (apart.sites b other))
          (λ held. at.later.born t (m.holders b t is (sym (apart.up b other) ∙ u) held))
    ];
    kept = λ b is. elim (same_or b a) [
      | inl e ↦
          subst (λ (x : ℕ). KeptMirrors decl (kept_by (next.records x)) v.status (v.life x) (v.deeds x)) (sym e) s.kept
      | inr other ↦
          subst (λ (rs : List Record). KeptMirrors decl (kept_by rs) v.status (v.life b) (v.deeds b))
          (sym (apart.records b other))
          (subst (λ (n : ℕ). KeptMirrors decl (kept_by (net.records b)) v.status n (v.deeds b)) (sym (at.lives b other))
          (subst (λ (ds : List Deed). KeptMirrors decl (kept_by (net.records b)) v.status (w.life b) ds)
          (sym (at.there b other))
          (kept_later decl w v (kept_by (net.records b)) (w.life b) (w.deeds b) at.later (m.kept b is))))
    ];
    pends = λ b is down. elim (same_or b a) [
      | inl e ↦
          subst (λ (x : ℕ). IsPendingAt decl v (kept_by (next.records x)) (v.deeds x) (next.pending x)) (sym e)
          (s.pends (subst (λ (x : ℕ). next.up x ≡ false) e down))
      | inr other ↦
          subst (λ (rs : List Record). IsPendingAt decl v (kept_by rs) (v.deeds b) (next.pending b))
          (sym (apart.records b other))
          (subst (λ (o : Option Record). IsPendingAt decl v (kept_by (net.records b)) (v.deeds b) o)
          (sym (apart.pending b other))
          (subst (λ (ds : List Deed). IsPendingAt decl v (kept_by (net.records b)) ds (net.pending b))
          (sym (at.there b other))
          (pends_later decl w v (kept_by (net.records b)) (w.deeds b) (net.pending b) at.later
          (m.pends b is (sym (apart.up b other) ∙ down)))))
    ];
    clients = λ b is u. (let other : b ≢ a = no_site b is in
        subst (λ (c : Client). ClientMirrors decl v next.mail b c) (sym (apart.clients b other))
        (subst (λ (ms : List Envelope). ClientMirrors decl v ms b (net.clients b)) (sym apart.mail)
        (keep_client decl w v (net.clients b).front.client (at.keeps (net.clients b).front.client) net.mail
        (envelopes a (length net.mail) sends) b (net.clients b) refl
        (m.clients b is (sym (apart.up b other) ∙ u)))));
    fallen = λ b is down. (let other : b ≢ a = no_site b is in
        subst (λ (rs : List Record). FallenMirrors v (b - decl.sites) (clients.kept_by rs) (next.pending b))
        (sym (apart.records b other))
        (subst (λ (o : Option Record). FallenMirrors v (b - decl.sites) (clients.kept_by (net.records b)) o)
        (sym (apart.pending b other))
        (fallen_keeps w v (b - decl.sites) (clients.kept_by (net.records b)) (net.pending b) (at.keeps (b - decl.sites))
        (m.fallen b is (sym (apart.up b other) ∙ down)))));
    admin =
        λ u. subst (λ (x : Admin). AdminMirrors decl v next.mail x) (sym (apart.admin no_rule))
        (subst (λ (ms : List Envelope). AdminMirrors decl v ms net.admin) (sym apart.mail)
        (admin_later decl w v at.later net.mail (envelopes a (length net.mail) sends) net.admin
        (m.admin (sym (apart.up (administrator decl) (λ e. no_rule (sym e))) ∙ u))));
    rules =
        subst (λ (rs : List Record). RulesMirror decl v (admins.kept_by rs))
        (sym (apart.records (administrator decl) (λ e. no_rule (sym e))))
        (rules_later decl w v (admins.kept_by (net.records (administrator decl))) at.later m.rules);
    decides =
        λ down. subst (λ (o : Option Record). IsPendingRule decl v o)
        (sym (apart.pending (administrator decl) (λ e. no_rule (sym e))))
        (ruling_later decl w v (net.pending (administrator decl)) at.later
        (m.decides (sym (apart.up (administrator decl) (λ e. no_rule (sym e))) ∙ down)));
    mail =
        subst (λ (ms : List Envelope). (e : Envelope) → In e ms → Backed decl v ms e.from e.to e.message)
        (sym apart.mail) (more_mail decl w v net.mail a sends at.later m.mail turn);
    numbered =
        subst (λ (ms : List Envelope). (e : Envelope) → In e ms → slice_get ms e.number ≡ Some e) (sym apart.mail)
        (more_numbered decl net.mail a sends m.numbered);
    records =
        λ c among. subst (λ (cs : List CommitRecord). In c cs) (sym at.records)
        (m.records c (subst (λ (cs : List CommitRecord). In c cs) written among));
    written =
        λ c among. subst (λ (cs : List CommitRecord). In c cs) (sym written)
        (m.written c (subst (λ (cs : List CommitRecord). In c cs) at.records among));
    of_client = λ c among. m.of_client c (subst (λ (cs : List CommitRecord). In c cs) at.records among);
    settled =
        λ t c e. subst (λ (cs : List CommitRecord). In c cs) (sym at.records)
        (m.settled t c (sym ((at.keeps t.client).status t refl) ∙ e));
  }
    where
      no_rule : a ≢ administrator decl
      no_rule e = no_ruler decl (subst (λ (k : ℕ). is_site decl k ≡ true) e site)

      no_site : (b : ℕ) → is_client decl b ≡ true → b ≢ a
      no_site b is same = no_client decl a site (subst (λ (k : ℕ). is_client decl k ≡ true) same is)
