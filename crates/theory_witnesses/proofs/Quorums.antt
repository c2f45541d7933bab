-- Quorums and views that are found among counted grants.
use Rattle.std.proofs.Common.{◌≡◌, ℕ, ◌≤◌, List, Option, Some, None, is_some, option_map, refl, ap, ◌∙◌, subst}
use Rattle.qc_stamp.specs.declared.stamp.TxId.{TxId}
use Rattle.qc_entry.specs.declared.line.Line.{Line}
use Rattle.qc_entry.specs.declared.line.ReadLock.{ReadLock}
use Rattle.qc_decl.specs.declared.declaration.Declaration.{Declaration}
use Rattle.qc_list.specs.Vocabulary.{In}
use Rattle.qc_plan.specs.Vocabulary.{weight}
use Rattle.theory_machine.specs.Vocabulary.{Granted, HasGranted, HasQuorum, IsShown, Item, Lock, Own, Shows, site_after}
use Rattle.theory_machine.specs.Vocabulary.{weights_of}
use Rattle.theory_witnesses.proofs.Cases.{one_lock, own_lock}
use Rattle.theory_witnesses.proofs.Alike.{alike_tx, same_item, same_line}
use Rattle.theory_witnesses.proofs.Finding.{IsFound, at_most, both, every, proof_of, member, same_number, some}
use Rattle.theory_witnesses.proofs.Finding.{where_same, where_same_tx}

abbrev IsGrantOf : TxId → ℕ → Item → Granted → Type 0
IsGrantOf tx site item g = (g.tx ≡ tx) × ((g.site ≡ site) × In item g.items)

abbrev has_granted : (counted : List Granted) (tx : TxId) (item : Item) (site : ℕ)
    → Option (HasGranted counted tx site item)
has_granted counted tx item site = option_map made
    (some (IsGrantOf tx site item) (λ g. both (alike_tx g.tx tx)
    (both (same_number g.site site) (member same_item item g.items))) counted)
  where
    made : IsFound (IsGrantOf tx site item) counted → HasGranted counted tx site item
    made f = record { grant = f.item; counts = f.stands; its = f.holds.0; from = (f.holds.1).0; has = (f.holds.1).1 }

abbrev pub quorum : (decl : Declaration) (epoch : ℕ) (counted : List Granted) (tx : TxId) (item : Item) (need : ℕ)
    → Option (HasQuorum decl epoch counted tx item need)
quorum decl epoch counted tx item need =
    option_map made (at_most need (weight (λ site. is_some (has_granted counted tx item site)) (weights_of decl epoch)))
  where
    made : need ≤ weight (λ site. is_some (has_granted counted tx item site)) (weights_of decl epoch)
        → HasQuorum decl epoch counted tx item need
    made e = record {
      sites = λ site. is_some (has_granted counted tx item site);
      enough = e;
      each = λ site t. proof_of (has_granted counted tx item site) t;
    }

-- a lock on an object
abbrev IsLockOn : ℕ → Item → Type 0
IsLockOn object x = (k : ReadLock) × ((x ≡ Lock k) × (k.object ≡ object))

abbrev lock_on : (object : ℕ) (x : Item) → Option (IsLockOn object x)
lock_on object (Own o) = None
lock_on object (Lock k) = option_map made (same_number k.object object)
  where
    made : k.object ≡ object → IsLockOn object (Lock k)
    made e = (k, (refl, e))

abbrev pub shows : (g : Granted) (l : Line) → Option (Shows g l)
shows g l = option_map made (both (member same_line l (site_after g.before).volatile)
    (some (IsLockOn l.object) (lock_on l.object) g.items))
  where
    made : In l (site_after g.before).volatile × IsFound (IsLockOn l.object) g.items → Shows g l
    made f = record {
      stands = f.0;
      lock = (f.1).holds.0;
      granted = subst (λ (x : Item). In x g.items) (((f.1).holds.1).0) (f.1).stands;
      on = ((f.1).holds.1).1;
    }

abbrev pub line_shown : (counted : List Granted) (tx : TxId) (l : Line) → Option (IsShown counted tx l)
line_shown counted tx l = option_map made
    (some (λ (g : Granted). (g.tx ≡ tx) × Shows g l) (λ g. both (alike_tx g.tx tx) (shows g l)) counted)
  where
    made : IsFound (λ (g : Granted). (g.tx ≡ tx) × Shows g l) counted → IsShown counted tx l
    made f = record { grant = f.item; counts = f.stands; its = f.holds.0; shows = f.holds.1 }

-- what an item shows of an object, of these lines, is in the view
abbrev IsSeenBy : ℕ → List Line → List Line → Item → Type 0
IsSeenBy object lines view x = (k : ReadLock) → x ≡ Lock k → (l : Line) → In l lines → k.object ≡ l.object
    → l.object ≡ object → In l view

abbrev seen_by_item : (object : ℕ) (lines view : List Line) (x : Item) → Option (IsSeenBy object lines view x)
seen_by_item object lines view (Own o) = Some (λ k e. absurd (own_lock e))
seen_by_item object lines view (Lock k) =
    option_map made (every (λ (l : Line). k.object ≡ l.object → l.object ≡ object → In l view)
    (λ l. where_same k.object l.object (where_same l.object object (member same_line l view))) lines)
  where
    made : ((l : Line) → In l lines → k.object ≡ l.object → l.object ≡ object → In l view)
        → IsSeenBy object lines view (Lock k)
    made f j e l h a b = f l h (ap (λ (x : ReadLock). x.object) (one_lock e) ∙ a) b

-- and what a grant of the transaction shows
abbrev IsSeenOf : TxId → ℕ → List Line → Granted → Type 0
IsSeenOf tx object view g = g.tx ≡ tx → (x : Item) → In x g.items
    → IsSeenBy object (site_after g.before).volatile view x

abbrev seen_of_grant : (tx : TxId) (object : ℕ) (view : List Line) (g : Granted) → Option (IsSeenOf tx object view g)
seen_of_grant tx object view g = where_same_tx g.tx tx
    (every (IsSeenBy object (site_after g.before).volatile view)
    (seen_by_item object (site_after g.before).volatile view) g.items)

abbrev pub view_whole : (counted : List Granted) (tx : TxId) (object : ℕ) (view : List Line)
    → Option ((l : Line) → IsShown counted tx l → l.object ≡ object → In l view)
view_whole counted tx object view = option_map made
    (every (IsSeenOf tx object view) (seen_of_grant tx object view) counted)
  where
    made : ((g : Granted) → In g counted → IsSeenOf tx object view g) → (l : Line) → IsShown counted tx l
        → l.object ≡ object → In l view
    made f l s e = f s.grant s.counts s.its (Lock s.shows.lock) s.shows.granted s.shows.lock refl l s.shows.stands
        s.shows.on e
