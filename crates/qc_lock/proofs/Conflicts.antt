-- The smallest clash is the smallest conflict.
use Rattle.std.proofs.Common.{[], ◌≡◌, ℕ, ◌==◌, ◌&&◌, Bool, true, false, cond, List, filter, map, Option, Some, None}
use Rattle.std.proofs.Common.{refl, sym, subst}
use Rattle.std.specs.List.{flat_map}
use Rattle.std.proofs.lemmas.Bool.{eq-eqb, eqb-true, and_from}
use Rattle.qc_stamp.specs.declared.stamp.TxId.{TxId}
use Rattle.qc_entry.specs.declared.line.OwnLine.{OwnLine}
use Rattle.qc_entry.specs.declared.line.ReadLock.{ReadLock}
use Rattle.qc_table.specs.Vocabulary.{depends}
use Rattle.qc_lock.specs.declared.clash.Clash.{Clash}
use Rattle.qc_lock.specs.declared.held.Held.{Held}
use Rattle.qc_lock.specs.Vocabulary.{In, IsAppendConflict, IsReadConflict, IsSmallest, append_clash, append_clashes}
use Rattle.qc_lock.specs.Vocabulary.{lines_in_way, locks_in_way, read_clash, read_clashes, same_tx}
use Rattle.qc_lock.proofs.SmallestOf.{smallest_by, smallest_of, in-flat_map, flat_map-in, in-map, map-in, in-filter}
use Rattle.qc_lock.proofs.SmallestOf.{filter-in}
use Rattle.qc_list.proofs.Booleans.{and_first, and_second}

-- others

-- what an entry gives, where it is of another transaction
in-unless : {A : Type 0} (t : Bool) (x : A) (xs : List A) → In x (cond t [] xs) → (t ≡ false) × In x xs
in-unless true x xs member = absurd member
in-unless false x xs member = (refl, member)

unless-in : {A : Type 0} (t : Bool) (x : A) (xs : List A) → t ≡ false → In x xs → In x (cond t [] xs)
unless-in t x xs is member = subst (λ b. In x (cond b [] xs)) (sym is) member

-- reads

read_to : (relation : List ℕ) (held : List Held) (tx : TxId) (object inv : ℕ) (d : Clash)
    → In d (read_clashes relation held tx object inv) → IsReadConflict relation held tx object inv d
read_to relation held tx object inv d member =
    let entry = in-flat_map (lines_in_way relation tx object inv) d held member in
    let h : Held = entry.0 in
    let test : OwnLine → Bool = λ l. (l.object == object) && depends relation inv l.event in
    let f : OwnLine → Clash = λ l. record { holder = h.tx; inv = inv; event = l.event } in
    let here = in-unless (same_tx h.tx tx) d (map f (filter test h.own)) entry.2 in
    let line = in-map f d (filter test h.own) here.1 in
    let l : OwnLine = line.0 in
    let own = in-filter test l h.own line.1 in
    record {
      holder = h;
      line = l;
      holds = entry.1;
      another = here.0;
      own = own.0;
      here = eqb-true l.object object (and_first (l.object == object) (depends relation inv l.event) own.1);
      depended = and_second (l.object == object) (depends relation inv l.event) own.1;
      told = line.2;
    }

read_back : (relation : List ℕ) (held : List Held) (tx : TxId) (object inv : ℕ) (d : Clash)
    → IsReadConflict relation held tx object inv d → In d (read_clashes relation held tx object inv)
read_back relation held tx object inv d c =
    let f : OwnLine → Clash = λ l. record { holder = c.holder.tx; inv = inv; event = l.event } in
    let test : OwnLine → Bool = λ l. (l.object == object) && depends relation inv l.event in
    let passes : test c.line ≡ true =
    and_from (c.line.object == object) (depends relation inv c.line.event) (eq-eqb c.line.object object c.here)
    c.depended in
    let here : In (f c.line) (lines_in_way relation tx object inv c.holder) =
    unless-in (same_tx c.holder.tx tx) (f c.line) (map f (filter test c.holder.own)) c.another
    (map-in f c.line (filter test c.holder.own) (filter-in test c.line c.holder.own c.own passes)) in
    flat_map-in (lines_in_way relation tx object inv) d c.holder held c.holds
    (subst (λ x. In x (lines_in_way relation tx object inv c.holder)) (sym c.told) here)

pub reads_are_refused_on_conflict : (relation : List ℕ) (held : List Held) (tx : TxId) (object inv : ℕ)
    → IsSmallest (IsReadConflict relation held tx object inv) (read_clash relation held tx object inv)
reads_are_refused_on_conflict relation held tx object inv =
    smallest_by (λ d. In d (read_clashes relation held tx object inv)) (IsReadConflict relation held tx object inv)
    (read_clash relation held tx object inv)
    (read_to relation held tx object inv) (read_back relation held tx object inv)
    (smallest_of (read_clashes relation held tx object inv))

-- appends

append_to : (relation : List ℕ) (held : List Held) (tx : TxId) (own : List OwnLine) (d : Clash)
    → In d (append_clashes relation held tx own) → IsAppendConflict relation held tx own d
append_to relation held tx own d member =
    let given = in-flat_map (λ (line : OwnLine). flat_map (locks_in_way relation tx line) held) d own member in
    let line : OwnLine = given.0 in
    let entry = in-flat_map (locks_in_way relation tx line) d held given.2 in
    let h : Held = entry.0 in
    let test : ReadLock → Bool = λ l. (l.object == line.object) && depends relation l.inv line.event in
    let f : ReadLock → Clash = λ l. record { holder = h.tx; inv = l.inv; event = line.event } in
    let here = in-unless (same_tx h.tx tx) d (map f (filter test h.locks)) entry.2 in
    let found = in-map f d (filter test h.locks) here.1 in
    let l : ReadLock = found.0 in
    let locked = in-filter test l h.locks found.1 in
    record {
      line = line;
      holder = h;
      lock = l;
      given = given.1;
      holds = entry.1;
      another = here.0;
      locked = locked.0;
      here =
          eqb-true l.object line.object
          (and_first (l.object == line.object) (depends relation l.inv line.event) locked.1);
      depended = and_second (l.object == line.object) (depends relation l.inv line.event) locked.1;
      told = found.2;
    }

append_back : (relation : List ℕ) (held : List Held) (tx : TxId) (own : List OwnLine) (d : Clash)
    → IsAppendConflict relation held tx own d → In d (append_clashes relation held tx own)
append_back relation held tx own d c =
    let f : ReadLock → Clash = λ l. record { holder = c.holder.tx; inv = l.inv; event = c.line.event } in
    let test : ReadLock → Bool = λ l. (l.object == c.line.object) && depends relation l.inv c.line.event in
    let passes : test c.lock ≡ true =
    and_from (c.lock.object == c.line.object) (depends relation c.lock.inv c.line.event)
    (eq-eqb c.lock.object c.line.object c.here) c.depended in
    let here : In (f c.lock) (locks_in_way relation tx c.line c.holder) =
    unless-in (same_tx c.holder.tx tx) (f c.lock) (map f (filter test c.holder.locks)) c.another
    (map-in f c.lock (filter test c.holder.locks) (filter-in test c.lock c.holder.locks c.locked passes)) in
    let way : In d (flat_map (locks_in_way relation tx c.line) held) =
    flat_map-in (locks_in_way relation tx c.line) d c.holder held c.holds
    (subst (λ x. In x (locks_in_way relation tx c.line c.holder)) (sym c.told) here) in
    flat_map-in (λ (line : OwnLine). flat_map (locks_in_way relation tx line) held) d c.line own c.given way

pub appends_are_refused_on_conflict : (relation : List ℕ) (held : List Held) (tx : TxId) (own : List OwnLine)
    → IsSmallest (IsAppendConflict relation held tx own) (append_clash relation held tx own)
appends_are_refused_on_conflict relation held tx own =
    smallest_by (λ d. In d (append_clashes relation held tx own)) (IsAppendConflict relation held tx own)
    (append_clash relation held tx own)
    (append_to relation held tx own) (append_back relation held tx own)
    (smallest_of (append_clashes relation held tx own))

-- grants

is_false : (b : Bool) → (b ≡ true → ⊥) → b ≡ false
is_false true never = absurd (never refl)
is_false false never = refl

none_of : (P : Clash → Type 0) (answer : Option Clash) (d : Clash) → IsSmallest P answer → answer ≡ None → P d → ⊥
none_of P None d least is p = least d p
none_of P (Some c) d least is p = absurd (cc)

pub granted_reads_conflict_with_nothing : (relation : List ℕ) (held : List Held) (tx : TxId) (object inv : ℕ)
    (holder : Held) (line : OwnLine)
    → read_clash relation held tx object inv ≡ None → In holder held → same_tx holder.tx tx ≡ false → In line holder.own
    → line.object ≡ object
    → depends relation inv line.event ≡ false
granted_reads_conflict_with_nothing relation held tx object inv holder line free holds another own here =
    is_false (depends relation inv line.event) (λ depended.
    none_of (IsReadConflict relation held tx object inv) (read_clash relation held tx object inv)
    (record { holder = holder.tx; inv = inv; event = line.event })
    (reads_are_refused_on_conflict relation held tx object inv) free
    (record {
      holder = holder;
      line = line;
      holds = holds;
      another = another;
      own = own;
      here = here;
      depended = depended;
      told = refl;
    }))

pub granted_appends_conflict_with_nothing : (relation : List ℕ) (held : List Held) (tx : TxId) (own : List OwnLine)
    (line : OwnLine)
    (holder : Held) (lock : ReadLock)
    → append_clash relation held tx own ≡ None → In line own → In holder held → same_tx holder.tx tx ≡ false
    → In lock holder.locks → lock.object ≡ line.object
    → depends relation lock.inv line.event ≡ false
granted_appends_conflict_with_nothing relation held tx own line holder lock free given holds another locked here =
    is_false (depends relation lock.inv line.event) (λ depended.
    none_of (IsAppendConflict relation held tx own) (append_clash relation held tx own)
    (record { holder = holder.tx; inv = lock.inv; event = line.event })
    (appends_are_refused_on_conflict relation held tx own) free
    (record {
      line = line;
      holder = holder;
      lock = lock;
      given = given;
      holds = holds;
      another = another;
      locked = locked;
      here = here;
      depended = depended;
      told = refl;
    }))
