-- What a site does, as one deed more of the machine's site.
use Rattle.std.proofs.Common.{◌≡◌, ◌≢◌, ◌<◌, ◌≤◌, ℕ, max, Bool, true, false, IsTrue, ◌⊎◌, inl, inr, List, [], ◌∷◌, ◌++◌}
use Rattle.std.proofs.Common.{Option, Some, None, is_some, refl, sym, ap, ◌∙◌, subst, arith}
use Rattle.std.specs.Option.{option_map_or}
use Rattle.qc_stamp.specs.declared.stamp.TxId.{TxId}
use Rattle.qc_stamp.specs.Vocabulary.{same_tx}
use Rattle.qc_stamp.proofs.Orders.{same_tx_is}
use Rattle.qc_list.specs.Vocabulary.{In}
use Rattle.qc_list.proofs.Members.{In-first, In-second, In-either}
use Rattle.qc_entry.specs.declared.line.Line.{Line}
use Rattle.qc_entry.specs.declared.line.OwnLine.{OwnLine}
use Rattle.qc_entry.specs.declared.record.Prepared.{Prepared}
use Rattle.qc_entry.specs.Vocabulary.{IsAscending}
use Rattle.qc_table.specs.Vocabulary.{depends}
use Rattle.qc_table.specs.declared.kind.Kind.{Kind}
use Rattle.qc_decl.specs.declared.declaration.Declaration.{Declaration}
use Rattle.qc_decl.specs.Vocabulary.{is_site, kind_at}
use Rattle.theory_onecopy.specs.Vocabulary.{depends_at}
use Rattle.qc_lock.specs.declared.clash.Clash.{Clash}
use Rattle.qc_lock.specs.Vocabulary.{held_of}
use Rattle.qc_msg.specs.declared.message.Answer.{Answer}
use Rattle.qc_msg.specs.declared.message.Message.TheVariants as messages
use Rattle.qc_msg.specs.declared.message.Envelope.{Envelope}
use Rattle.qc_msg.specs.declared.turn.Posting.{Posting}
use Rattle.theory_machine.specs.Vocabulary.{Act, Conflict, Deed, DoneRecord, Grant, Granted, Grants, IsAllowed}
use Rattle.theory_machine.specs.Vocabulary.{IsRequested, IsRun, Item, NotBegun, Own, Site, State, after_deed}
use Rattle.theory_machine.specs.Vocabulary.{done_records, each_held, empty_site, items_of, promise_of, site_after}
use Rattle.theory_machine.specs.Vocabulary.{state}
use Rattle.theory_machine.proofs.SiteLists.{items_of-append, items_of-each_held, items_of-other}
use Rattle.qc_site.specs.Vocabulary.{SiteState, answers, clashing, known, latest, prepared_of, relation_at}
use Rattle.laws_refinement.specs.Vocabulary.{AreApart, AreLined, Backed, IsClosing, IsHeld, IsPlanned, IsPromiseOf}
use Rattle.laws_refinement.specs.Vocabulary.{Mirrors, Net, SiteMirrors}
use Rattle.laws_refinement.proofs.Machine.{IsDoneOf, LeavesEpoch, done_last, epoch_stays, install_old, shut_stays}
use Rattle.laws_refinement.proofs.Machine.{single_more, site_more}
use Rattle.qc_site.proofs.Clocks.{latest_later}

-- an invocation that depends on an event does so by the site's relation
pub by_relation : (decl : Declaration) (object inv number : ℕ) → IsTrue (depends_at decl object inv number)
    → depends (relation_at decl object) inv number ≡ true
by_relation decl object inv number = by (kind_at decl object)
  where
    by : (o : Option Kind) → IsTrue (option_map_or (λ (kind : Kind). depends kind.relation inv number) o false)
        → depends (option_map_or (λ (kind : Kind). kind.relation) o []) inv number ≡ true
    by None dep = absurd (let never : ⊥ = cc in never)
    by (Some kind) dep = dep

-- the life, epoch and closing of a site stay as they were
pub record Stays (s r : SiteState) : Type 0 where
  pub life : r.life ≡ s.life
  pub epoch : r.epoch ≡ s.epoch
  pub closed_for : r.closed_for ≡ s.closed_for

-- one deed of the machine's site more
pub mirrors_more : (decl : Declaration) (life : ℕ) (s r : SiteState) (ds : List Deed) (d : Deed) → LeavesEpoch d
    → SiteMirrors decl s ds life → Stays s r → s.clock ≤ r.clock
    → ((t : TxId) (x : Item) → In x (items_of t (after_deed (site_after ds) d).held) → IsHeld (held_of r.held t) x)
    → ((t : TxId) (o : OwnLine) → In o (held_of r.held t).own
    → In (Own o) (items_of t (after_deed (site_after ds) d).held))
    → ((x : DoneRecord) → IsDoneOf d x → x.stamp.clock ≤ r.clock)
    → ((l : Line) → In l (after_deed (site_after ds) d).volatile → l.stamp.clock ≤ r.clock)
    → ((l : Line) → In l (after_deed (site_after ds) d).volatile → In l (known r))
    → ((l : Line) → In l (known r) → In l (after_deed (site_after ds) d).volatile)
    → IsAscending r.began × IsAscending r.log
    → ((t : TxId) → IsPromiseOf (promise_of t (after_deed (site_after ds) d).prepared) (prepared_of r.prepared t))
    → AreApart r.prepared → AreLined r.prepared (known r) → SiteMirrors decl r (ds ++ d ∷ []) life
mirrors_more decl life s r ds d leaves m stays clock held owned done passed log logged sorted promised apart lined =
    record {
      life = stays.life ∙ m.life;
      some = subst (λ (n : ℕ). 0 < n) (sym stays.life) m.some;
      epoch = epoch_stays ds d leaves ∙ m.epoch ∙ sym stays.epoch;
      planned = subst (λ (e : ℕ). IsPlanned decl e) (sym stays.epoch) m.planned;
      shut = shut_stays ds d leaves ∙ m.shut ∙ sym (ap (λ (o : Option ℕ). is_some o) stays.closed_for);
      closing = subst (λ (e : ℕ). IsClosing decl e r.closed_for) (sym stays.epoch)
          (subst (λ (o : Option ℕ). IsClosing decl s.epoch o) (sym stays.closed_for) m.closing);
      installs = λ k c log among. (let old : c ≤ s.clock = m.installs k c log (install_old ds d k c log leaves among) in
          omega arith);
      apart = apart;
      lined = lined;
      single = single_more ds d (λ is. subst (λ (x : Deed). LeavesEpoch x) is leaves) m.single;
      held = λ t x among. held t x (subst (λ (k : Site). In x (items_of t k.held)) (site_more ds d) among);
      owned =
          λ t o among. subst (λ (k : Site). In (Own o) (items_of t k.held)) (sym (site_more ds d)) (owned t o among);
      done = λ x among. by x (done_last ds d empty_site x among);
      passed = λ l among. passed l (subst (λ (k : Site). In l k.volatile) (site_more ds d) among);
      log = λ l among. log l (subst (λ (k : Site). In l k.volatile) (site_more ds d) among);
      logged = λ l among. subst (λ (k : Site). In l k.volatile) (sym (site_more ds d)) (logged l among);
      sorted = sorted;
      promised = λ t. subst (λ (k : Site). IsPromiseOf (promise_of t k.prepared) (prepared_of r.prepared t))
          (sym (site_more ds d)) (promised t);
    }
  where
    by : (x : DoneRecord) → In x (done_records empty_site ds) ⊎ IsDoneOf d x → x.stamp.clock ≤ r.clock
    by x (inl old) = let c : x.stamp.clock ≤ s.clock = m.done x old in omega arith
    by x (inr new) = done x new

-- what is granted is held besides what was
pub grants_more : (decl : Declaration) (life : ℕ) (s r : SiteState) (ds : List Deed) (tx : TxId) (items : List Item)
    (view : List Line) → SiteMirrors decl s ds life → Stays s r → s.clock ≤ r.clock
    → ((t : TxId) (x : Item) → In x (items_of t (site_after ds).held) → IsHeld (held_of r.held t) x)
    → ((x : Item) → In x items → IsHeld (held_of r.held tx) x)
    → ((t : TxId) (o : OwnLine) → In o (held_of r.held t).own
    → In o (held_of s.held t).own ⊎ ((t ≡ tx) × In (Own o) items))
    → ((l : Line) → In l view → l.stamp.clock ≤ r.clock)
    → ((l : Line) → In l view → In l (known r)) → ((l : Line) → In l (known s) → In l (known r))
    → ((l : Line) → In l (known r) → In l (known s) ⊎ In l view) → IsAscending r.began × IsAscending r.log
    → r.prepared ≡ s.prepared
    → SiteMirrors decl r (ds ++ Grants tx items view ∷ []) life
grants_more decl life s r ds tx items view m stays clock old new back passed new_lines old_lines lines_back sorted same
    = mirrors_more decl life s r ds (Grants tx items view) tt m stays clock held owned (λ x never. absurd never)
    (λ l among. elim (In-either l view (site_after ds).volatile among)
    [ inl x ↦ passed l x | inr y ↦ (let c : l.stamp.clock ≤ s.clock = m.passed l y in omega arith) ])
    (λ l among. elim (In-either l view (site_after ds).volatile among)
    [ inl x ↦ new_lines l x | inr y ↦ old_lines l (m.log l y) ])
    (λ l among. elim (lines_back l among) [
      | inl x ↦ In-second l view (site_after ds).volatile
          (m.logged l x)
      | inr y ↦ In-first l view (site_after ds).volatile y
    ]) sorted
    (λ t. subst (λ (ps : List Prepared). IsPromiseOf (promise_of t (site_after ds).prepared) (prepared_of ps t))
    (sym same) (m.promised t))
    (subst (λ (ps : List Prepared). AreApart ps) (sym same) m.apart)
    (λ p among l has. old_lines l (m.lined p (subst (λ (ps : List Prepared). In p ps) same among) l has))
  where
    fresh : (t : TxId) (x : Item) (b : Bool) → same_tx t tx ≡ b → In x (items_of t (each_held tx items))
        → IsHeld (held_of r.held t) x
    fresh t x true is among =
        let e : t ≡ tx = same_tx_is t tx is in
        subst (λ (u : TxId). IsHeld (held_of r.held u) x) (sym e)
        (new x (subst (λ (xs : List Item). In x xs) (items_of-each_held tx items)
        (subst (λ (u : TxId). In x (items_of u (each_held tx items))) e among)))
    fresh t x false is among = absurd (subst (λ (xs : List Item). In x xs) (items_of-other t tx items is) among)

    held : (t : TxId) (x : Item) → In x (items_of t (each_held tx items ++ (site_after ds).held))
        → IsHeld (held_of r.held t) x
    held t x among = elim (In-either x (items_of t (each_held tx items)) (items_of t (site_after ds).held)
        (subst (λ (xs : List Item). In x xs) (items_of-append t (each_held tx items) (site_after ds).held) among)) [
          | inl a ↦ fresh t x (same_tx t tx) refl a
          | inr b ↦ old t x b
        ]

    owned : (t : TxId) (o : OwnLine) → In o (held_of r.held t).own
        → In (Own o) (items_of t (each_held tx items ++ (site_after ds).held))
    owned t o among = subst (λ (xs : List Item). In (Own o) xs)
        (sym (items_of-append t (each_held tx items) (site_after ds).held)) (elim (back t o among) [
          | inl a ↦
              In-second (Own o) (items_of t (each_held tx items)) (items_of t (site_after ds).held) (m.owned t o a)
          | inr b ↦ In-first (Own o) (items_of t (each_held tx items)) (items_of t (site_after ds).held)
              (subst (λ (u : TxId). In (Own o) (items_of u (each_held tx items))) (sym b.0)
              (subst (λ (xs : List Item). In (Own o) xs) (sym (items_of-each_held tx items)) b.1))
        ])

-- a site whose clock went on
pub clock_mirrors : (decl : Declaration) (life : ℕ) (s : SiteState) (ds : List Deed) (clock : ℕ) → s.clock ≤ clock
    → SiteMirrors decl s ds life → SiteMirrors decl (record s { clock = clock }) ds life
clock_mirrors decl life s ds clock more m = record {
  life = m.life;
  some = m.some;
  epoch = m.epoch;
  planned = m.planned;
  shut = m.shut;
  closing = m.closing;
  installs = λ k c log among. (let old : c ≤ s.clock = m.installs k c log among in omega arith);
  apart = m.apart;
  lined = m.lined;
  single = m.single;
  held = m.held;
  owned = m.owned;
  log = m.log;
  logged = m.logged;
  sorted = m.sorted;
  promised = m.promised;
  done = λ x among. (let c : x.stamp.clock ≤ s.clock = m.done x among in omega arith);
  passed = λ l among. (let c : l.stamp.clock ≤ s.clock = m.passed l among in omega arith);
}

-- the clock passes each line

pub latest_passes : (clock : ℕ) (lines : List Line) (l : Line) → In l lines → l.stamp.clock ≤ latest clock lines
latest_passes clock [] l among = absurd among
latest_passes clock (x ∷ xs) l (inl same) =
    let rest : max clock x.stamp.clock ≤ latest (max clock x.stamp.clock) xs =
    latest_later (max clock x.stamp.clock) xs in
    let e : l.stamp.clock ≡ x.stamp.clock = ap (λ (k : Line). k.stamp.clock) same in
    omega arith
latest_passes clock (x ∷ xs) l (inr more) = latest_passes (max clock x.stamp.clock) xs l more

module _ (decl : Declaration) where
  -- the machine may grant where nothing of others is in the way
  abbrev pub grant_of : State → ℕ → ℕ → TxId → List Item → List Line → Granted
  grant_of w a clock tx items view = record {
    tx = tx;
    site = a;
    epoch = w.epoch tx;
    life = w.life a;
    clock = clock;
    before = w.deeds a;
    items = items;
    view = view;
  }

  pub grant_allowed : (acts : List Act) (net : Net) (a clock : ℕ) (tx : TxId) (items : List Item) (view : List Line)
      → IsRun decl acts → Mirrors decl (state acts) net → is_site decl a ≡ true → net.up a ≡ true
      → (net.sites a).epoch ≡ (state acts).epoch tx → (net.sites a).closed_for ≡ None → (net.sites a).clock ≤ clock
      → ((t : TxId) (x y : Item) → In x items → IsHeld (held_of (net.sites a).held t) y → same_tx t tx ≡ false
      → Conflict decl x y → ⊥)
      → IsRequested (state acts).appends (grant_of (state acts) a clock tx items view)
      → IsAllowed decl (state acts) (Grant (grant_of (state acts) a clock tx items view))
  grant_allowed acts net a clock tx items view run m site up current unshut later free asked =
      let s : SiteMirrors decl (net.sites a) ((state acts).deeds a) ((state acts).life a) = m.sites a site up in (
        refl,
        refl,
        record {
          current = s.epoch ∙ current;
          unshut = s.shut ∙ ap (λ (o : Option ℕ). is_some o) unshut;
          passes_installs = λ k c log among. (let old : c ≤ (net.sites a).clock = s.installs k c log among in
              omega arith);
          free = λ u x y among held other conflict. apart u x y among (s.held u y held) other conflict;
          passes_done = λ u stamp among. (let c : stamp.clock ≤ (net.sites a).clock =
              s.done (record { tx = u; stamp = stamp }) among in omega arith);
          passes_lines = λ l among. (let c : l.stamp.clock ≤ (net.sites a).clock = s.passed l among in omega arith);
        },
        inl asked,
      )
    where
      apart : (u : TxId) (x y : Item) → In x items → IsHeld (held_of (net.sites a).held u) y → u ≢ tx
          → Conflict decl x y → ⊥
      apart u x y among h other conflict = by (same_tx u tx) refl
        where
          by : (t : Bool) → same_tx u tx ≡ t → ⊥
          by true is = other (same_tx_is u tx is)
          by false is = free u x y among h is conflict

  -- one answer, to the sender of a request
  pub one_answer : (v : State) (ms : List Envelope) (a from number : ℕ) (answer : Answer)
      → Backed decl v ms a from (messages.Answer number answer)
      → (p : Posting) → In p (answers from number answer).sends → Backed decl v ms a p.to p.message
  one_answer v ms a from number answer backed p (inl same) =
      subst (λ (x : Posting). Backed decl v ms a x.to x.message) (sym same) backed
  one_answer v ms a from number answer backed p (inr never) = absurd never

  -- the holder of a clash is asked about; it was begun, since it holds something
  pub clash_turn : (w : State) (ms : List Envelope) (a from number : ℕ) (c : Clash) → w.status c.holder ≢ NotBegun
      → (p : Posting) → In p (clashing decl from number c).sends → Backed decl w ms a p.to p.message
  clash_turn w ms a from number c born p (inl same) =
      subst (λ (x : Posting). Backed decl w ms a x.to x.message) (sym same) tt
  clash_turn w ms a from number c born p (inr (inl same)) =
      subst (λ (x : Posting). Backed decl w ms a x.to x.message) (sym same) (refl, born)
  clash_turn w ms a from number c born p (inr (inr never)) = absurd never
