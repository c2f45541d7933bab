-- What a site tells is found to be allowed: grants and snapshots.
use Rattle.std.proofs.Common.{◌≡◌, ◌≢◌, ℕ, ◌≤◌, Bool, true, false, cond, ◌⊎◌, inl, inr, IsTrue, List, [], ◌∷◌}
use Rattle.std.proofs.Common.{Option, Some}
use Rattle.std.proofs.Common.{None, option_map, refl, sym, ◌∙◌, subst, true≢false}
use Rattle.qc_stamp.specs.declared.stamp.Stamp.{Stamp}
use Rattle.qc_stamp.specs.declared.stamp.TxId.{TxId}
use Rattle.qc_entry.specs.declared.line.Line.{Line}
use Rattle.qc_entry.specs.declared.line.OwnLine.{OwnLine}
use Rattle.qc_entry.specs.declared.line.ReadLock.{ReadLock}
use Rattle.qc_decl.specs.declared.declaration.Declaration.{Declaration}
use Rattle.theory_onecopy.specs.Vocabulary.{depends_at}
use Rattle.qc_list.specs.Vocabulary.{In}
use Rattle.qc_stamp.proofs.Orders.{same_tx_is}
use Rattle.theory_machine.specs.Vocabulary.{AppendRequest, Closes, Conflict, Deed, DoneRecord, GrantPassesDone}
use Rattle.theory_machine.specs.Vocabulary.{GrantPassesInstalls, GrantPassesLines, GrantTellsEpoch, Granted, Grants}
use Rattle.theory_machine.specs.Vocabulary.{GrantsUnlessClosed, GrantsWithoutConflict, Guard, Held, Installs}
use Rattle.theory_machine.specs.Vocabulary.{IsRequested, Item, LearnsAbort, LearnsCommit, Lock, MayGrantBy}
use Rattle.theory_machine.specs.Vocabulary.{MaySnapshotBy, Own, Prepares, Rises, Snapshot, SnapshotIsOfClosed}
use Rattle.theory_machine.specs.Vocabulary.{SnapshotPassesDone, SnapshotPassesInstalls, done_records, empty_site}
use Rattle.theory_machine.specs.Vocabulary.{IsShareBy, SharesLogsOfSites, State, WasLogOfSite, epoch_from, items_of}
use Rattle.theory_machine.specs.Vocabulary.{shut_from, site_after}
use Rattle.qc_stamp.specs.Vocabulary.{same_tx}
use Rattle.theory_witnesses.proofs.Cases.{IsInstall, one_clock}
use Rattle.theory_witnesses.proofs.Alike.{same_append, same_line, same_list}
use Rattle.theory_witnesses.proofs.Finding.{where_asked, at_most, both, every, is_false, is_true, member, same_number}
use Rattle.theory_witnesses.proofs.Finding.{one_of, some, where_same}

-- an Install has a clock that is passed
abbrev HasPassed : ℕ → Deed → Type 0
HasPassed clock d = (k c : ℕ) (log : List Line) → Installs k c log ≡ d → c ≤ clock

abbrev has_passed : (clock : ℕ) (d : Deed) → Option (HasPassed clock d)
has_passed clock (Installs j d more) = option_map
    (λ (e : d ≤ clock). λ (k c : ℕ) (log : List Line) (same : Installs k c log ≡ Installs j d more). subst
    (λ (x : ℕ). x ≤ clock) (sym (one_clock same)) e) (at_most d clock)
has_passed clock (Grants t xs v) = Some (λ k c log e. absurd (subst IsInstall e tt))
has_passed clock (Prepares t) = Some (λ k c log e. absurd (subst IsInstall e tt))
has_passed clock (LearnsCommit t s) = Some (λ k c log e. absurd (subst IsInstall e tt))
has_passed clock (LearnsAbort t) = Some (λ k c log e. absurd (subst IsInstall e tt))
has_passed clock Closes = Some (λ k c log e. absurd (subst IsInstall e tt))
has_passed clock Rises = Some (λ k c log e. absurd (subst IsInstall e tt))

abbrev passes_installs_of : (deeds : List Deed) (clock : ℕ)
    → Option ((k c : ℕ) (log : List Line) → In (Installs k c log) deeds → c ≤ clock)
passes_installs_of deeds clock = option_map made (every (HasPassed clock) (has_passed clock) deeds)
  where
    made : ((d : Deed) → In d deeds → HasPassed clock d) → (k c : ℕ) (log : List Line) → In (Installs k c log) deeds
        → c ≤ clock
    made f k c log h = f (Installs k c log) h k c log refl

abbrev passes_done_of : (deeds : List Deed) (clock : ℕ)
    → Option ((u : TxId) (stamp : Stamp) → In (record { tx = u; stamp = stamp }) (done_records empty_site deeds)
    → stamp.clock ≤ clock)
passes_done_of deeds clock = option_map made
    (every (λ (d : DoneRecord). d.stamp.clock ≤ clock) (λ d. at_most d.stamp.clock clock)
    (done_records empty_site deeds))
  where
    made : ((d : DoneRecord) → In d (done_records empty_site deeds) → d.stamp.clock ≤ clock)
        → (u : TxId) (stamp : Stamp) → In (record { tx = u; stamp = stamp }) (done_records empty_site deeds)
        → stamp.clock ≤ clock
    made f u stamp h = f (record { tx = u; stamp = stamp }) h

-- a lock and a line don't conflict
abbrev apart : (decl : Declaration) (l : ReadLock) (o : OwnLine)
    → Option ((l.object ≡ o.object) × IsTrue (depends_at decl o.object l.inv o.event) → ⊥)
apart decl l o = option_map made (where_same l.object o.object (is_false (depends_at decl o.object l.inv o.event)))
  where
    made : (l.object ≡ o.object → depends_at decl o.object l.inv o.event ≡ false)
        → (l.object ≡ o.object) × IsTrue (depends_at decl o.object l.inv o.event) → ⊥
    made f c = true≢false (sym c.1 ∙ f c.0)

abbrev no_conflict : (decl : Declaration) (x y : Item) → Option (Conflict decl x y → ⊥)
no_conflict decl (Lock l) (Own o) = apart decl l o
no_conflict decl (Own o) (Lock l) = apart decl l o
no_conflict decl (Lock l) (Lock k) = Some (λ c. c)
no_conflict decl (Own o) (Own p) = Some (λ c. c)

-- what is held by others, or doesn't conflict with the items
abbrev IsFreeOf : Declaration → TxId → List Item → Held → Type 0
IsFreeOf decl tx items h = (x : Item) → In x items → h.tx ≢ tx → Conflict decl x h.item → ⊥

abbrev free_item : (decl : Declaration) (tx : TxId) (h : Held) (x : Item)
    → Option (h.tx ≢ tx → Conflict decl x h.item → ⊥)
free_item decl tx h x = by (same_tx h.tx tx) refl (no_conflict decl x h.item)
  where
    by : (t : Bool) → same_tx h.tx tx ≡ t → Option (Conflict decl x h.item → ⊥)
        → Option (h.tx ≢ tx → Conflict decl x h.item → ⊥)
    by true e o = Some (λ ne c. ne (same_tx_is h.tx tx e))
    by false e (Some f) = Some (λ ne. f)
    by false e None = None

abbrev free_of : (decl : Declaration) (tx : TxId) (items : List Item) (h : Held) → Option (IsFreeOf decl tx items h)
free_of decl tx items h = every (λ (x : Item). h.tx ≢ tx → Conflict decl x h.item → ⊥) (free_item decl tx h) items

pub held_by : (u : TxId) (y : Item) (hs : List Held) → In y (items_of u hs) → In (record { tx = u; item = y }) hs
held_by u y [] h = absurd h
held_by u y (x ∷ xs) h = by (same_tx u x.tx) refl (held_by u y xs) h
  where
    by : (t : Bool) → same_tx u x.tx ≡ t → (In y (items_of u xs) → In {X = Held} (record { tx = u; item = y }) xs)
        → In y (cond t (x.item ∷ items_of u xs) (items_of u xs)) → In {X = Held} (record { tx = u; item = y }) (x ∷ xs)
    by true e f (inl same) = inl (λ i. record { tx = same_tx_is u x.tx e i; item = same i })
    by true e f (inr later) = inr (f later)
    by false e f later = inr (f later)

abbrev free : (decl : Declaration) (g : Granted)
    → Option ((u : TxId) (x y : Item) → In x g.items → In y (items_of u (site_after g.before).held) → u ≢ g.tx
    → Conflict decl x y → ⊥)
free decl g = option_map made (every (IsFreeOf decl g.tx g.items) (free_of decl g.tx g.items)
    (site_after g.before).held)
  where
    made : ((h : Held) → In h (site_after g.before).held → IsFreeOf decl g.tx g.items h)
        → (u : TxId) (x y : Item) → In x g.items → In y (items_of u (site_after g.before).held) → u ≢ g.tx
        → Conflict decl x y → ⊥
    made f u x y hx hy = f (record { tx = u; item = y }) (held_by u y (site_after g.before).held hy) x hx

abbrev pub may_grant : (ask : Guard → Bool) (decl : Declaration) (g : Granted) → Option (MayGrantBy ask decl g)
may_grant ask decl g =
    option_map (λ f. record {
      current = f.0;
      unshut = (f.1).0;
      passes_installs = ((f.1).1).0;
      free = (((f.1).1).1).0;
      passes_done = ((((f.1).1).1).1).0;
      passes_lines = ((((f.1).1).1).1).1;
    })
    (both (where_asked (ask GrantTellsEpoch) (same_number (epoch_from 1 g.before) g.epoch))
    (both (where_asked (ask GrantsUnlessClosed) (is_false (shut_from false g.before)))
    (both (where_asked (ask GrantPassesInstalls) (passes_installs_of g.before g.clock))
    (both (where_asked (ask GrantsWithoutConflict) (free decl g))
    (both (where_asked (ask GrantPassesDone) (passes_done_of g.before g.clock))
    (where_asked (ask GrantPassesLines) (every (λ (l : Line). l.stamp.clock ≤ g.clock)
    (λ l. at_most l.stamp.clock g.clock) (site_after g.before).volatile)))))))

abbrev pub may_snapshot : (ask : Guard → Bool) (s : Snapshot) → Option (MaySnapshotBy ask s)
may_snapshot ask s =
    option_map (λ f. record { shut = f.0; passes_done = (f.1).0; passes_installs = (f.1).1 })
    (both (where_asked (ask SnapshotIsOfClosed) (is_true (shut_from false s.before)))
    (both (where_asked (ask SnapshotPassesDone) (passes_done_of s.before s.clock))
    (where_asked (ask SnapshotPassesInstalls) (passes_installs_of s.before s.clock))))

abbrev a_read : (items : List Item) (view : List Line)
    → Option ((lock : ReadLock) × (items ≡ Lock lock ∷ []) × (view ≡ []))
a_read (Lock l ∷ []) [] = Some (l, refl, refl)
a_read _ _ = None

abbrev pub is_requested : (appends : List AppendRequest) (g : Granted) → Option (IsRequested appends g)
is_requested appends g = one_of (a_read g.items g.view)
    (member same_append (record { tx = g.tx; items = g.items; view = g.view }) appends)

abbrev pub no_items : (items : List Item) → Option (items ≡ [])
no_items [] = Some refl
no_items (x ∷ xs) = None

abbrev pub no_lines : (view : List Line) → Option (view ≡ [])
no_lines [] = Some refl
no_lines (l ∷ ls) = None

-- some site had the log, as it granted or in a snapshot
abbrev was_log_of_site : (now : State) (log : List Line) → Option (WasLogOfSite now log)
was_log_of_site now log =
    one_of
    (option_map (λ f. (f.item, f.stands, f.holds))
    (some (λ (h : Granted). log ≡ (site_after h.before).volatile)
    (λ h. same_list same_line log (site_after h.before).volatile) now.granted))
    (option_map (λ f. (f.item, f.stands, f.holds))
    (some (λ (s : Snapshot). log ≡ (site_after s.before).volatile)
    (λ s. same_list same_line log (site_after s.before).volatile) now.snapshots))

abbrev is_share : (ask : Guard → Bool) (now : State) (g : Granted) → Option (IsShareBy ask now g)
is_share ask now g =
    both (no_items g.items)
    (one_of (no_lines g.view) (where_asked (ask SharesLogsOfSites) (was_log_of_site now g.view)))

abbrev pub is_requested_or_shared : (ask : Guard → Bool) (now : State) (g : Granted)
    → Option (IsRequested now.appends g ⊎ IsShareBy ask now g)
is_requested_or_shared ask now g = one_of (is_requested now.appends g) (is_share ask now g)
