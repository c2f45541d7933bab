-- One actor moves, falls or rises: all else of the net agrees as it did.
use Rattle.std.proofs.Common.{◌≡◌, ◌≢◌, ℕ, ◌-◌, true, false, inl, inr, List, ◌++◌, Option, length, slice_get, Some}
use Rattle.std.proofs.Common.{refl, sym, ap, ◌∙◌, subst}
use Rattle.qc_stamp.specs.declared.stamp.TxId.{TxId}
use Rattle.qc_list.specs.Vocabulary.{In}
use Rattle.qc_entry.specs.declared.record.Commit.{Commit as CommitRecord}
use Rattle.qc_decl.specs.declared.declaration.Declaration.{Declaration}
use Rattle.qc_decl.specs.Vocabulary.{administrator, client_actor, is_client, is_site}
use Rattle.qc_lock.specs.Vocabulary.{is_held}
use Rattle.qc_msg.specs.declared.message.Envelope.{Envelope}
use Rattle.qc_msg.specs.declared.record.Record.{Record}
use Rattle.qc_msg.specs.declared.turn.Posting.{Posting}
use Rattle.qc_msg.specs.Vocabulary.{envelopes}
use Rattle.theory_machine.specs.Vocabulary.{Committed, Deed, Granted, NotBegun, State, put}
use Rattle.qc_client.specs.declared.client.Client.{Client}
use Rattle.qc_site.specs.Vocabulary.{SiteMove, SiteState}
use Rattle.qc_epoch.specs.Vocabulary.{Admin}
use Rattle.qc_recover.specs.Admins as admins
use Rattle.qc_recover.specs.Clients as clients
use Rattle.laws_refinement.specs.Vocabulary.{AdminMirrors, Backed, ClientMirrors, FallenMirrors, IsKeptBy, IsPendingAt}
use Rattle.laws_refinement.specs.Vocabulary.{IsPendingRule, KeptMirrors, Mirrors, Net, RulesMirror, SiteMirrors}
use Rattle.laws_refinement.specs.Vocabulary.{after_site}
use Rattle.qc_recover.specs.Vocabulary.{kept_by}
use Rattle.std.specs.Prelude.{option_to_list}
use Rattle.theory_machine.proofs.Names.{put_here}
use Rattle.laws_refinement.proofs.Machine.{put_other}
use Rattle.laws_refinement.proofs.MessagesStay.{Keeps, Later, admin_later}
use Rattle.laws_refinement.proofs.Frames.{keep_client}
use Rattle.laws_refinement.proofs.Kepts.{client_place, fallen_keeps, kept_later, no_client, no_ruler, no_ruling}
use Rattle.laws_refinement.proofs.Kepts.{pends_later, rules_later, ruling_later}
use Rattle.laws_refinement.proofs.Posts.{more_mail, more_numbered}
use Rattle.laws_refinement.proofs.SiteNets.{Apart, site_net}
use Rattle.laws_refinement.proofs.Lives.{same_or}

module _ (decl : Declaration) where
  -- the machine goes on at one client alone
  pub record AtClient (w v : State) (n : ℕ) : Type 0 where
    pub later : Later w v
    pub keeps : (d : ℕ) → d ≢ n → Keeps w v d
    pub granted : v.granted ≡ w.granted
    pub deeds : v.deeds ≡ w.deeds
    pub lives : v.life ≡ w.life

  pub record ClientShows (v : State) (next : Net) (a : ℕ) : Type 0 where
    pub mirrors : next.up a ≡ true → ClientMirrors decl v next.mail a (next.clients a)
    pub fallen : next.up a ≡ false
        → FallenMirrors v (a - decl.sites) (clients.kept_by (next.records a)) (next.pending a)

  -- what the records have to show
  pub record Settles (v : State) (next : Net) : Type 0 where
    pub records : (r : CommitRecord) → In r next.written → In r v.records
    pub written : (r : CommitRecord) → In r v.records → In r next.written
    pub of_client : (r : CommitRecord) → In r v.records → is_client decl (client_actor decl r.tx.client) ≡ true
    pub settled : (t : TxId) (r : CommitRecord) → v.status t ≡ Committed r → In r v.records

  pub client_net : (w v : State) (net next : Net) (a n : ℕ) (sends : List Posting) → Mirrors decl w net
      → is_client decl a ≡ true → a ≡ client_actor decl n → Apart decl net next a sends → AtClient w v n
      → ClientShows v next a → Settles v next
      → ((p : Posting) → In p sends → Backed decl v net.mail a p.to p.message) → Mirrors decl v next
  client_net w v net next a n sends m client actor apart at s settles turn = record {
    placed = λ g among. m.placed g (subst (λ (gs : List Granted). In g gs) at.granted among);
    sites = λ b is u. (let other : b ≢ a = no_client_at b is in
        subst (λ (x : SiteState). SiteMirrors decl x (v.deeds b) (v.life b)) (sym (apart.sites b other))
        (subst (λ (f : ℕ → ℕ). SiteMirrors decl (net.sites b) (v.deeds b) (f b)) (sym at.lives)
        (subst (λ (f : ℕ → List Deed). SiteMirrors decl (net.sites b) (f b) (w.life b)) (sym at.deeds)
        (m.sites b is (sym (apart.up b other) ∙ u)))));
    alike = λ b is u. (let other : b ≢ a = no_client_at b is in
        subst (λ (x : SiteState). IsKeptBy x (kept_by (next.records b))) (sym (apart.sites b other))
        (subst (λ (rs : List Record). IsKeptBy (net.sites b) (kept_by rs)) (sym (apart.records b other))
        (m.alike b is (sym (apart.up b other) ∙ u))));
    holders = λ b t is u. (let other : b ≢ a = no_client_at b is in
        subst (λ (x : SiteState). is_held x.held t ≡ true → v.status t ≢ NotBegun) (sym (apart.sites b other))
        (λ held. at.later.born t (m.holders b t is (sym (apart.up b other) ∙ u) held)));
    kept = λ b is. (let other : b ≢ a = no_client_at b is in
        subst (λ (rs : List Record). KeptMirrors decl (kept_by rs) v.status (v.life b) (v.deeds b))
        (sym (apart.records b other))
        (subst (λ (f : ℕ → ℕ). KeptMirrors decl (kept_by (net.records b)) v.status (f b) (v.deeds b)) (sym at.lives)
        (subst (λ (f : ℕ → List Deed). KeptMirrors decl (kept_by (net.records b)) v.status (w.life b) (f b))
        (sym at.deeds) (kept_later decl w v (kept_by (net.records b)) (w.life b) (w.deeds b) at.later
        (m.kept b is)))));
    pends = λ b is down. (let other : b ≢ a = no_client_at b is in
        subst (λ (rs : List Record). IsPendingAt decl v (kept_by rs) (v.deeds b) (next.pending b))
        (sym (apart.records b other))
        (subst (λ (o : Option Record). IsPendingAt decl v (kept_by (net.records b)) (v.deeds b) o)
        (sym (apart.pending b other))
        (subst (λ (f : ℕ → List Deed). IsPendingAt decl v (kept_by (net.records b)) (f b) (net.pending b))
        (sym at.deeds)
        (pends_later decl w v (kept_by (net.records b)) (w.deeds b) (net.pending b) at.later
        (m.pends b is (sym (apart.up b other) ∙ down))))));
    clients = λ b is u. elim (same_or b a) [
      | inl e ↦
          subst (λ (x : ℕ). ClientMirrors decl v next.mail x (next.clients x)) (sym e)
          (s.mirrors (subst (λ (x : ℕ). next.up x ≡ true) e u))
      | inr other ↦ subst (λ (c : Client). ClientMirrors decl v next.mail b c) (sym (apart.clients b other))
          (subst (λ (ms : List Envelope). ClientMirrors decl v ms b (net.clients b)) (sym apart.mail)
          (keep_client decl w v (net.clients b).front.client
          (at.keeps (net.clients b).front.client (another b is other (sym (apart.up b other) ∙ u))) net.mail
          (envelopes a (length net.mail) sends) b (net.clients b) refl
          (m.clients b is (sym (apart.up b other) ∙ u))))
    ];
    fallen = λ b is down. elim (same_or b a) [
      | inl e ↦
          subst (λ (x : ℕ). FallenMirrors v (x - decl.sites) (clients.kept_by (next.records x)) (next.pending x))
          (sym e) (s.fallen (subst (λ (x : ℕ). next.up x ≡ false) e down))
      | inr other ↦ subst (λ (rs : List Record). FallenMirrors v (b - decl.sites) (clients.kept_by rs) (next.pending b))
          (sym (apart.records b other))
          (subst (λ (o : Option Record). FallenMirrors v (b - decl.sites) (clients.kept_by (net.records b)) o)
          (sym (apart.pending b other))
          (fallen_keeps w v (b - decl.sites) (clients.kept_by (net.records b)) (net.pending b)
          (at.keeps (b - decl.sites) (numbered_apart b is other)) (m.fallen b is (sym (apart.up b other) ∙ down))))
    ];
    admin =
        λ u. subst (λ (x : Admin). AdminMirrors decl v next.mail x) (sym (apart.admin no_rule))
        (subst (λ (ms : List Envelope). AdminMirrors decl v ms net.admin) (sym apart.mail)
        (admin_later decl w v at.later net.mail (envelopes a (length net.mail) sends) net.admin
        (m.admin (sym (apart.up (administrator decl) (λ e. no_rule (sym e))) ∙ u))));
    rules =
        subst (λ (rs : List Record). RulesMirror decl v (admins.kept_by rs))
        (sym (apart.records (administrator decl) (λ e. no_rule (sym e))))
        (rules_later decl w v (admins.kept_by (net.records (administrator decl))) at.later m.rules);
    decides =
        λ down. subst (λ (o : Option Record). IsPendingRule decl v o)
        (sym (apart.pending (administrator decl) (λ e. no_rule (sym e))))
        (ruling_later decl w v (net.pending (administrator decl)) at.later
        (m.decides (sym (apart.up (administrator decl) (λ e. no_rule (sym e))) ∙ down)));
    mail =
        subst (λ (ms : List Envelope). (e : Envelope) → In e ms → Backed decl v ms e.from e.to e.message)
        (sym apart.mail) (more_mail decl w v net.mail a sends at.later m.mail turn);
    numbered =
        subst (λ (ms : List Envelope). (e : Envelope) → In e ms → slice_get ms e.number ≡ Some e) (sym apart.mail)
        (more_numbered decl net.mail a sends m.numbered);
    records = settles.records;
    written = settles.written;
    of_client = settles.of_client;
    settled = settles.settled;
  }
    where
      no_rule : a ≢ administrator decl
      no_rule e = no_ruling decl (subst (λ (k : ℕ). is_client decl k ≡ true) e client)

      no_client_at : (b : ℕ) → is_site decl b ≡ true → b ≢ a
      no_client_at b is same = no_client decl b is (subst (λ (k : ℕ). is_client decl k ≡ true) (sym same) client)

      -- another actor is another client
      another : (b : ℕ) → is_client decl b ≡ true → b ≢ a → net.up b ≡ true → (net.clients b).front.client ≢ n
      another b is other u same = other ((m.clients b is u).own.actor ∙ ap (client_actor decl) same ∙ sym actor)

      numbered_apart : (b : ℕ) → is_client decl b ≡ true → b ≢ a → b - decl.sites ≢ n
      numbered_apart b is other same = other (client_place decl b is ∙ ap (client_actor decl) same ∙ sym actor)

  -- the machine goes on with the administrator alone
  pub record AtAdmin (w v : State) : Type 0 where
    pub later : Later w v
    pub keeps : (c : ℕ) → Keeps w v c
    pub records : v.records ≡ w.records
    pub granted : v.granted ≡ w.granted
    pub deeds : v.deeds ≡ w.deeds
    pub lives : v.life ≡ w.life

  -- what he shows then
  pub record AdminShows (v : State) (next : Net) : Type 0 where
    pub mirrors : next.up (administrator decl) ≡ true → AdminMirrors decl v next.mail next.admin
    pub rules : RulesMirror decl v (admins.kept_by (next.records (administrator decl)))
    pub decides : next.up (administrator decl) ≡ false → IsPendingRule decl v (next.pending (administrator decl))

  pub admin_net : (w v : State) (net next : Net) (sends : List Posting) → Mirrors decl w net
      → Apart decl net next (administrator decl) sends → next.written ≡ net.written → AtAdmin w v → AdminShows v next
      → ((p : Posting) → In p sends → Backed decl v net.mail (administrator decl) p.to p.message) → Mirrors decl v next
  admin_net w v net next sends m apart written at s turn = record {
    placed = λ g among. m.placed g (subst (λ (gs : List Granted). In g gs) at.granted among);
    sites = λ b is u. (let other : b ≢ administrator decl = no_site b is in
        subst (λ (x : SiteState). SiteMirrors decl x (v.deeds b) (v.life b)) (sym (apart.sites b other))
        (subst (λ (f : ℕ → ℕ). SiteMirrors decl (net.sites b) (v.deeds b) (f b)) (sym at.lives)
        (subst (λ (f : ℕ → List Deed). SiteMirrors decl (net.sites b) (f b) (w.life b)) (sym at.deeds)
        (m.sites b is (sym (apart.up b other) ∙ u)))));
    alike = λ b is u. (let other : b ≢ administrator decl = no_site b is in
        subst (λ (x : SiteState). IsKeptBy x (kept_by (next.records b))) (sym (apart.sites b other))
        (subst (λ (rs : List Record). IsKeptBy (net.sites b) (kept_by rs)) (sym (apart.records b other))
        (m.alike b is (sym (apart.up b other) ∙ u))));
    holders = λ b t is u. (let other : b ≢ administrator decl = no_site b is in
        subst (λ (x : SiteState). is_held x.held t ≡ true → v.status t ≢ NotBegun) (sym (apart.sites b other))
        (λ held. at.later.born t (m.holders b t is (sym (apart.up b other) ∙ u) held)));
    kept = λ b is. (let other : b ≢ administrator decl = no_site b is in
        subst (λ (rs : List Record). KeptMirrors decl (kept_by rs) v.status (v.life b) (v.deeds b))
        (sym (apart.records b other))
        (subst (λ (f : ℕ → ℕ). KeptMirrors decl (kept_by (net.records b)) v.status (f b) (v.deeds b)) (sym at.lives)
        (subst (λ (f : ℕ → List Deed). KeptMirrors decl (kept_by (net.records b)) v.status (w.life b) (f b))
        (sym at.deeds) (kept_later decl w v (kept_by (net.records b)) (w.life b) (w.deeds b) at.later
        (m.kept b is)))));
    pends = λ b is down. (let other : b ≢ administrator decl = no_site b is in
        subst (λ (rs : List Record). IsPendingAt decl v (kept_by rs) (v.deeds b) (next.pending b))
        (sym (apart.records b other))
        (subst (λ (o : Option Record). IsPendingAt decl v (kept_by (net.records b)) (v.deeds b) o)
        (sym (apart.pending b other))
        (subst (λ (f : ℕ → List Deed). IsPendingAt decl v (kept_by (net.records b)) (f b) (net.pending b))
        (sym at.deeds)
        (pends_later decl w v (kept_by (net.records b)) (w.deeds b) (net.pending b) at.later
        (m.pends b is (sym (apart.up b other) ∙ down))))));
    clients = λ b is u. (let other : b ≢ administrator decl = no_client_at b is in
        subst (λ (c : Client). ClientMirrors decl v next.mail b c) (sym (apart.clients b other))
        (subst (λ (ms : List Envelope). ClientMirrors decl v ms b (net.clients b)) (sym apart.mail)
        (keep_client decl w v (net.clients b).front.client (at.keeps (net.clients b).front.client) net.mail
        (envelopes (administrator decl) (length net.mail) sends) b (net.clients b) refl
        (m.clients b is (sym (apart.up b other) ∙ u)))));
    fallen = λ b is down. (let other : b ≢ administrator decl = no_client_at b is in
        subst (λ (rs : List Record). FallenMirrors v (b - decl.sites) (clients.kept_by rs) (next.pending b))
        (sym (apart.records b other))
        (subst (λ (o : Option Record). FallenMirrors v (b - decl.sites) (clients.kept_by (net.records b)) o)
        (sym (apart.pending b other))
        (fallen_keeps w v (b - decl.sites) (clients.kept_by (net.records b)) (net.pending b) (at.keeps (b - decl.sites))
        (m.fallen b is (sym (apart.up b other) ∙ down)))));
    admin = s.mirrors;
    rules = s.rules;
    decides = s.decides;
    mail =
        subst (λ (ms : List Envelope). (e : Envelope) → In e ms → Backed decl v ms e.from e.to e.message)
        (sym apart.mail) (more_mail decl w v net.mail (administrator decl) sends at.later m.mail turn);
    numbered =
        subst (λ (ms : List Envelope). (e : Envelope) → In e ms → slice_get ms e.number ≡ Some e) (sym apart.mail)
        (more_numbered decl net.mail (administrator decl) sends m.numbered);
    records =
        λ c among. subst (λ (cs : List CommitRecord). In c cs) (sym at.records)
        (m.records c (subst (λ (cs : List CommitRecord). In c cs) written among));
    written =
        λ c among. subst (λ (cs : List CommitRecord). In c cs) (sym written)
        (m.written c (subst (λ (cs : List CommitRecord). In c cs) at.records among));
    of_client = λ c among. m.of_client c (subst (λ (cs : List CommitRecord). In c cs) at.records among);
    settled =
        λ t c e. subst (λ (cs : List CommitRecord). In c cs) (sym at.records)
        (m.settled t c (sym ((at.keeps t.client).status t refl) ∙ e));
  }
    where
      no_site : (b : ℕ) → is_site decl b ≡ true → b ≢ administrator decl
      no_site b is same = no_ruler decl (subst (λ (k : ℕ). is_site decl k ≡ true) same is)

      no_client_at : (b : ℕ) → is_client decl b ≡ true → b ≢ administrator decl
      no_client_at b is same = no_ruling decl (subst (λ (k : ℕ). is_client decl k ≡ true) same is)

  -- what a site's step has to show of the machine's next state
  pub record SiteGoes (w v : State) (net : Net) (a : ℕ) (move : SiteMove) : Type 0 where
    pub later : Later w v
    pub keeps : (c : ℕ) → Keeps w v c
    pub records : v.records ≡ w.records
    pub placed_at : (g : Granted) → In g v.granted → is_site decl g.site ≡ true
    pub here : SiteMirrors decl move.site (v.deeds a) (v.life a)
    pub there : (b : ℕ) → b ≢ a → v.deeds b ≡ w.deeds b
    pub alive : (b : ℕ) → b ≢ a → v.life b ≡ w.life b
    pub kept : KeptMirrors decl (kept_by (net.records a ++ option_to_list move.turn.write)) v.status (v.life a)
        (v.deeds a)
    pub alike : IsKeptBy move.site (kept_by (net.records a ++ option_to_list move.turn.write))
    pub holders : (t : TxId) → is_held move.site.held t ≡ true → w.status t ≢ NotBegun
    pub turn : (p : Posting) → In p move.turn.sends → Backed decl v net.mail a p.to p.message

  pub site_goes : (w v : State) (net : Net) (a : ℕ) (move : SiteMove) → Mirrors decl w net → is_site decl a ≡ true
      → net.up a ≡ true → SiteGoes w v net a move → Mirrors decl v (after_site net a move)
  site_goes w v net a move m site up g = site_net decl w v net (after_site net a move) a move.turn.sends m site
      (record {
        sites = λ b other. put_other net.sites a move.site b other;
        clients = λ b other. refl;
        up = λ b other. refl;
        records = λ b other. put_other net.records a (net.records a ++ option_to_list move.turn.write) b other;
        pending = λ b other. refl;
        admin = λ other. refl;
        mail = refl;
      })
      refl
      (record {
        later = g.later;
        keeps = g.keeps;
        records = g.records;
        placed_at = g.placed_at;
        there = g.there;
        lives = g.alive;
      })
      (record {
        kept =
            subst (λ (rs : List Record). KeptMirrors decl (kept_by rs) v.status (v.life a) (v.deeds a))
            (sym (put_here net.records a (net.records a ++ option_to_list move.turn.write))) g.kept;
        mirrors =
            λ u. subst (λ (s : SiteState). SiteMirrors decl s (v.deeds a) (v.life a))
            (sym (put_here net.sites a move.site)) g.here;
        alike =
            λ u. subst (λ (s : SiteState). IsKeptBy s
            (kept_by (put net.records a (net.records a ++ option_to_list move.turn.write) a)))
            (sym (put_here net.sites a move.site))
            (subst (λ (rs : List Record). IsKeptBy move.site (kept_by rs))
            (sym (put_here net.records a (net.records a ++ option_to_list move.turn.write))) g.alike);
        holders =
            λ u t held. g.later.born t
            (g.holders t (subst (λ (s : SiteState). is_held s.held t ≡ true) (put_here net.sites a move.site) held));
        pends = λ down. absurd (let never : ⊥ = cc in never);
      })
      g.turn
