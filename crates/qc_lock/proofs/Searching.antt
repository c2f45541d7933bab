-- The smallest clash by places is the smallest conflict.
use Rattle.std.proofs.Common.{◌≡◌, ◌⊎◌, inl, inr, ℕ, ◌==◌, ◌&&◌, Bool, true, false, cond, not, List, [], ◌∷◌, Option}
use Rattle.std.proofs.Common.{Some, None, unwrap_or, refl, sym, ◌∙◌, ap, subst}
use Rattle.std.specs.BTreeSet.{BTreeSet}
use Rattle.std.specs.List.{list_any}
use Rattle.std.specs.Ordering.{nat_cmp, ordering_then}
use Rattle.std.specs.declared.cmp.Ordering.{Ordering}
use Rattle.std.specs.declared.cmp.Ordering.TheVariants.{Less, Equal, Greater}
use Rattle.std.proofs.lemmas.Bool.{and_parts, and_from, both_ways, eq-eqb, eqb-true, or_cases, or_left, or_right}
use Rattle.std.proofs.lemmas.Bool.{not-true}
use Rattle.qc_stamp.specs.declared.stamp.TxId.{TxId}
use Rattle.qc_stamp.specs.Vocabulary.{tx_cmp}
use Rattle.qc_entry.specs.declared.line.OwnLine.{OwnLine}
use Rattle.qc_entry.specs.declared.line.ReadLock.{ReadLock}
use Rattle.qc_table.specs.Vocabulary.{depends}
use Rattle.qc_lock.specs.declared.clash.Clash.{Clash}
use Rattle.qc_lock.specs.declared.held.Held.{Held}
use Rattle.qc_lock.specs.declared.holder_set.HolderKey.{HolderKey}
use Rattle.qc_lock.specs.Vocabulary.{AreOfOthers, In, IsAppendConflict, IsAppendPlaced, IsFirst, IsIndex, IsPlaced}
use Rattle.qc_lock.specs.Vocabulary.{IsReadConflict, IsReadPlaced, IsSingle, IsSmallest, append_clash, clash_cmp}
use Rattle.qc_lock.specs.Vocabulary.{entry_of, has_line, has_read, held_of, is_there, lines_held, read_clash}
use Rattle.qc_lock.specs.Vocabulary.{reads_held, same_tx}
use Rattle.qc_lock.proofs.SmallestOf.{smallest_by}
use Rattle.qc_lock.proofs.Conflicts.{appends_are_refused_on_conflict, reads_are_refused_on_conflict}
use Rattle.qc_lock.proofs.NumberedEntries.{nat_self}
use Rattle.qc_lock.proofs.Ones.{holder}
use Rattle.qc_lock.proofs.Smallest.{smallest_one}
use Rattle.qc_stamp.proofs.Orders.{same_tx_itself, same_tx_is}

-- one invocation with one event

pub none_depends : (relation : List ℕ) (places : BTreeSet HolderKey) (tx : TxId) (object number inv event : ℕ)
    → depends relation inv event ≡ false → IsSmallest (IsPlaced relation places tx object number inv event) None
none_depends relation places tx object number inv event apart =
    λ d placed. both_ways (depends relation inv event) apart placed.depended

pub none_holds : (relation : List ℕ) (places : BTreeSet HolderKey) (tx : TxId) (object number inv event : ℕ)
    → IsFirst places object number (λ other. not (same_tx other tx)) None
    → IsSmallest (IsPlaced relation places tx object number inv event) None
none_holds relation places tx object number inv event none =
    λ d placed. both_ways (is_there places object number d.holder) (none d.holder (ap not placed.another)) placed.there

pub one_holds : (relation : List ℕ) (places : BTreeSet HolderKey) (tx : TxId) (object number inv event : ℕ)
    (holder : TxId)
    → depends relation inv event ≡ true
    → IsFirst places object number (λ other. not (same_tx other tx)) (Some holder)
    → IsSmallest (IsPlaced relation places tx object number inv event)
    (Some (record { holder = holder; inv = inv; event = event }))
one_holds relation places tx object number inv event holder depended first = (placed, least) where
  placed : IsPlaced relation places tx object number inv event (record { holder = holder; inv = inv; event = event })
  placed = record {
    there = first.0;
    another = not-true (same_tx holder tx) first.1;
    depended = depended;
    inv_is = refl;
    event_is = refl;
  }

  by : (o p q : Ordering) → p ≡ Equal → q ≡ Equal → ordering_then o (ordering_then p q) ≡ Greater → o ≡ Greater
  by Less p q x y is = is
  by Equal p q x y is = sym (subst (λ r. ordering_then r q ≡ Equal) (sym x) y) ∙ is
  by Greater p q x y is = is

  least : (d : Clash) → IsPlaced relation places tx object number inv event d
      → clash_cmp (record { holder = holder; inv = inv; event = event }) d ≡ Greater → ⊥
  least d other greater = first.2 d.holder (ap not other.another) other.there
      (by (tx_cmp holder d.holder) (nat_cmp inv d.inv) (nat_cmp event d.event)
      (subst (λ n. nat_cmp inv n ≡ Equal) (sym other.inv_is) (nat_self inv))
      (subst (λ n. nat_cmp event n ≡ Equal) (sym other.event_is) (nat_self event)) greater)

-- what transactions hold, by name

apart_in : (hs : List Held) (h : Held) (tx : TxId) → AreOfOthers holder tx hs → In h hs → same_tx h.tx tx ≡ false
apart_in [] h tx apart member = absurd member
apart_in (k ∷ ks) h tx apart (inl is) = subst (λ (x : Held). same_tx x.tx tx ≡ false) (sym is) apart.0
apart_in (k ∷ ks) h tx apart (inr member) = apart_in ks h tx apart.1 member

found_in : (hs : List Held) (h : Held) → IsSingle hs → In h hs → entry_of hs h.tx ≡ Some h
found_in [] h single member = absurd member
found_in (k ∷ ks) h single (inl is) =
    ap (λ t. cond t (Some k) (entry_of ks h.tx))
    (subst (λ (x : Held). same_tx x.tx h.tx ≡ true) is (same_tx_itself h.tx))
    ∙ ap Some (sym is)
found_in (k ∷ ks) h single (inr member) = ap (λ t. cond t (Some k) (entry_of ks h.tx)) (other (same_tx k.tx h.tx) refl)
    ∙ found_in ks h single.1 member where
      other : (t : Bool) → same_tx k.tx h.tx ≡ t → same_tx k.tx h.tx ≡ false
      other true is = absurd (both_ways (same_tx h.tx k.tx) (apart_in ks h k.tx single.0 member)
          (subst (λ u. same_tx u k.tx ≡ true) (same_tx_is k.tx h.tx is) (same_tx_itself k.tx)))
      other false is = is

held_in : (hs : List Held) (h : Held) → IsSingle hs → In h hs → held_of hs h.tx ≡ h
held_in hs h single member = ap (λ (o : Option Held). unwrap_or o (record { tx = h.tx; locks = []; own = [] }))
    (found_in hs h single member)

in_passes : {A : Type 0} (p : A → Bool) (x : A) (xs : List A) → In x xs → p x ≡ true → list_any p xs ≡ true
in_passes p x [] member passes = absurd member
in_passes p x (y ∷ ys) (inl is) passes = or_left (p y) (list_any p ys) (subst (λ z. p z ≡ true) is passes)
in_passes p x (y ∷ ys) (inr member) passes = or_right (p y) (list_any p ys) (in_passes p x ys member passes)

passes_in : {A : Type 0} (p : A → Bool) (xs : List A) → list_any p xs ≡ true → (x : A) × In x xs × (p x ≡ true)
passes_in p [] passes = absurd (let never : ⊥ = cc in never)
passes_in {A = A} p (y ∷ ys) passes = by (or_cases (p y) (list_any p ys) passes) (passes_in p ys) where
  by : (p y ≡ true) ⊎ (list_any p ys ≡ true) → (list_any p ys ≡ true → (x : A) × In x ys × (p x ≡ true))
      → (x : A) × In x (y ∷ ys) × (p x ≡ true)
  by (inl here) rest = (y, inl refl, here)
  by (inr there) rest = let found = rest there in (found.0, inr found.1, found.2)

-- an entry in which a test finds something, where it finds nothing in an empty one
holder_in : (hs : List Held) (tx : TxId) (test : Held → Bool) → test (record { tx = tx; locks = []; own = [] }) ≡ false
    → test (held_of hs tx) ≡ true → (h : Held) × In h hs × (h.tx ≡ tx) × (test h ≡ true)
holder_in [] tx test none passes = absurd (both_ways (test (record { tx = tx; locks = []; own = [] })) none passes)
holder_in (k ∷ ks) tx test none passes = by (same_tx k.tx tx) refl (holder_in ks tx test none) passes where
  by : (t : Bool) → same_tx k.tx tx ≡ t → (test (held_of ks tx) ≡ true
      → (h : Held) × In h ks × (h.tx ≡ tx) × (test h ≡ true))
      → (let o : Option Held = cond t (Some k) (entry_of ks tx) in
      test (unwrap_or o (record { tx = tx; locks = []; own = [] })) ≡ true)
      → (h : Held) × In h (k ∷ ks) × (h.tx ≡ tx) × (test h ≡ true)
  by true is rest passes = (k, inl refl, same_tx_is k.tx tx is, passes)
  by false is rest passes = let found = rest passes in (found.0, inr found.1, found.2, found.3)

told_as : (d : Clash) (tx : TxId) (inv event : ℕ) → tx ≡ d.holder → d.inv ≡ inv → d.event ≡ event
    → d ≡ record { holder = tx; inv = inv; event = event }
told_as d tx inv event h i e = λ j. record { holder = sym h j; inv = i j; event = e j }

-- reads

read_conflict : (relation : List ℕ) (held : List Held) (places : BTreeSet HolderKey) (tx : TxId) (object inv : ℕ)
    (d : Clash) → IsIndex places (lines_held held)
    → IsReadPlaced relation places tx object inv d → IsReadConflict relation held tx object inv d
read_conflict relation held places tx object inv d index found =
    let event = found.0 in
    let placed = found.1 in
    let has : has_line (held_of held d.holder).own object event ≡ true = sym (index.exact d.holder object event)
    ∙ placed.there in
    let holder = holder_in held d.holder (λ h. has_line h.own object event) refl has in
    let line = passes_in (λ (l : OwnLine). (l.object == object) && (l.event == event)) holder.0.own holder.3 in
    let parts = and_parts (line.0.object == object) (line.0.event == event) line.2 in
    let event_is : line.0.event ≡ event = eqb-true line.0.event event parts.1 in
    record {
      holder = holder.0;
      line = line.0;
      holds = holder.1;
      another = subst (λ u. same_tx u tx ≡ false) (sym holder.2) placed.another;
      own = line.1;
      here = eqb-true line.0.object object parts.0;
      depended = subst (λ n. depends relation inv n ≡ true) (sym event_is) placed.depended;
      told = told_as d holder.0.tx inv line.0.event holder.2 placed.inv_is (placed.event_is ∙ sym event_is);
    }

read_placed : (relation : List ℕ) (held : List Held) (places : BTreeSet HolderKey) (tx : TxId) (object inv : ℕ)
    (d : Clash)
    → IsSingle held → IsIndex places (lines_held held)
    → IsReadConflict relation held tx object inv d → IsReadPlaced relation places tx object inv d
read_placed relation held places tx object inv d single index c =
    let has : has_line c.holder.own object c.line.event ≡ true =
    in_passes (λ (l : OwnLine). (l.object == object) && (l.event == c.line.event)) c.line c.holder.own c.own
    (and_from (c.line.object == object) (c.line.event == c.line.event) (eq-eqb c.line.object object c.here)
    (eq-eqb c.line.event c.line.event refl)) in
    let there : is_there places object c.line.event c.holder.tx ≡ true =
    index.exact c.holder.tx object c.line.event
    ∙ ap (λ (h : Held). has_line h.own object c.line.event) (held_in held c.holder single c.holds) ∙ has in (
      c.line.event,
      record {
        there = subst (λ (x : Clash). is_there places object c.line.event x.holder ≡ true) (sym c.told) there;
        another = subst (λ (x : Clash). same_tx x.holder tx ≡ false) (sym c.told) c.another;
        depended = c.depended;
        inv_is = ap (λ (x : Clash). x.inv) c.told;
        event_is = ap (λ (x : Clash). x.event) c.told;
      },
    )

pub read_found : (relation : List ℕ) (held : List Held) (places : BTreeSet HolderKey) (tx : TxId) (object inv : ℕ)
    (answer : Option Clash) → IsSingle held → IsIndex places (lines_held held)
    → IsSmallest (IsReadPlaced relation places tx object inv) answer → answer ≡ read_clash relation held tx object inv
read_found relation held places tx object inv answer single index least =
    smallest_one (IsReadConflict relation held tx object inv) answer (read_clash relation held tx object inv)
    (smallest_by (IsReadPlaced relation places tx object inv) (IsReadConflict relation held tx object inv) answer
    (λ d found. read_conflict relation held places tx object inv d index found)
    (λ d c. read_placed relation held places tx object inv d single index c) least)
    (reads_are_refused_on_conflict relation held tx object inv)

-- appends

append_conflict : (relation : List ℕ) (held : List Held) (places : BTreeSet HolderKey) (tx : TxId) (own : List OwnLine)
    (d : Clash) → IsIndex places (reads_held held)
    → IsAppendPlaced relation places tx own d → IsAppendConflict relation held tx own d
append_conflict relation held places tx own d index found =
    let line : OwnLine = found.0 in
    let inv = found.2.0 in
    let placed = found.2.1 in
    let has : has_read (held_of held d.holder).locks line.object inv ≡ true = sym (index.exact d.holder line.object inv)
    ∙ placed.there in
    let holder = holder_in held d.holder (λ h. has_read h.locks line.object inv) refl has in
    let lock = passes_in (λ (l : ReadLock). (l.object == line.object) && (l.inv == inv)) holder.0.locks holder.3 in
    let parts = and_parts (lock.0.object == line.object) (lock.0.inv == inv) lock.2 in
    let inv_is : lock.0.inv ≡ inv = eqb-true lock.0.inv inv parts.1 in
    record {
      line = line;
      holder = holder.0;
      lock = lock.0;
      given = found.1;
      holds = holder.1;
      another = subst (λ u. same_tx u tx ≡ false) (sym holder.2) placed.another;
      locked = lock.1;
      here = eqb-true lock.0.object line.object parts.0;
      depended = subst (λ n. depends relation n line.event ≡ true) (sym inv_is) placed.depended;
      told = told_as d holder.0.tx lock.0.inv line.event holder.2 (placed.inv_is ∙ sym inv_is) placed.event_is;
    }

append_placed : (relation : List ℕ) (held : List Held) (places : BTreeSet HolderKey) (tx : TxId) (own : List OwnLine)
    (d : Clash) → IsSingle held → IsIndex places (reads_held held)
    → IsAppendConflict relation held tx own d → IsAppendPlaced relation places tx own d
append_placed relation held places tx own d single index c =
    let has : has_read c.holder.locks c.line.object c.lock.inv ≡ true =
    in_passes (λ (l : ReadLock). (l.object == c.line.object) && (l.inv == c.lock.inv)) c.lock c.holder.locks c.locked
    (and_from (c.lock.object == c.line.object) (c.lock.inv == c.lock.inv)
    (eq-eqb c.lock.object c.line.object c.here) (eq-eqb c.lock.inv c.lock.inv refl)) in
    let there : is_there places c.line.object c.lock.inv c.holder.tx ≡ true =
    index.exact c.holder.tx c.line.object c.lock.inv
    ∙ ap (λ (h : Held). has_read h.locks c.line.object c.lock.inv) (held_in held c.holder single c.holds) ∙ has in (
      c.line,
      c.given,
      (
        c.lock.inv,
        record {
          there = subst (λ (x : Clash). is_there places c.line.object c.lock.inv x.holder ≡ true) (sym c.told) there;
          another = subst (λ (x : Clash). same_tx x.holder tx ≡ false) (sym c.told) c.another;
          depended = c.depended;
          inv_is = ap (λ (x : Clash). x.inv) c.told;
          event_is = ap (λ (x : Clash). x.event) c.told;
        },
      ),
    )

pub append_found : (relation : List ℕ) (held : List Held) (places : BTreeSet HolderKey) (tx : TxId) (own : List OwnLine)
    (answer : Option Clash) → IsSingle held → IsIndex places (reads_held held)
    → IsSmallest (IsAppendPlaced relation places tx own) answer → answer ≡ append_clash relation held tx own
append_found relation held places tx own answer single index least =
    smallest_one (IsAppendConflict relation held tx own) answer (append_clash relation held tx own)
    (smallest_by (IsAppendPlaced relation places tx own) (IsAppendConflict relation held tx own) answer
    (λ d found. append_conflict relation held places tx own d index found)
    (λ d c. append_placed relation held places tx own d single index c) least)
    (appends_are_refused_on_conflict relation held tx own)
