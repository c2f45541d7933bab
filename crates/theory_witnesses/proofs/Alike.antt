-- Two values of the machine's types that are one.
use Rattle.std.proofs.Common.{◌≡◌, List, [], ◌∷◌, Option, Some, None, refl, ap, option_map}
use Rattle.qc_stamp.specs.declared.stamp.Stamp.{Stamp}
use Rattle.qc_stamp.specs.declared.stamp.TxId.{TxId}
use Rattle.qc_entry.specs.declared.line.Line.{Line}
use Rattle.qc_entry.specs.declared.line.Op.{Op}
use Rattle.qc_entry.specs.declared.line.OwnLine.{OwnLine}
use Rattle.qc_entry.specs.declared.line.ReadLock.{ReadLock}
use Rattle.theory_machine.specs.Vocabulary.{AppendRequest, Closes, Decision, Deed, Granted, Grants, Installs, Item}
use Rattle.theory_machine.specs.Vocabulary.{LearnsAbort, LearnsCommit, Lock, Own, Prepares, Rises, Snapshot, Verdict}
use Rattle.theory_machine.specs.Vocabulary.{YesVote}
use Rattle.theory_witnesses.proofs.Finding.{both, same_number}

abbrev pub same_list : {A : Type 0} → ((x y : A) → Option (x ≡ y)) → (xs ys : List A) → Option (xs ≡ ys)
same_list {A = A} same [] [] = Some refl
same_list {A = A} same [] (y ∷ ys) = None
same_list {A = A} same (x ∷ xs) [] = None
same_list {A = A} same (x ∷ xs) (y ∷ ys) = by (same x y) (same_list same xs ys)
  where
    by : Option (x ≡ y) → Option (xs ≡ ys) → Option (x ∷ xs ≡ y ∷ ys)
    by (Some e) (Some f) = Some (λ i. e i ∷ f i)
    by (Some e) None = None
    by None (Some f) = None
    by None None = None

abbrev pub same_option : {A : Type 0} → ((x y : A) → Option (x ≡ y)) → (o p : Option A) → Option (o ≡ p)
same_option {A = A} same None None = Some refl
same_option {A = A} same None (Some y) = None
same_option {A = A} same (Some x) None = None
same_option {A = A} same (Some x) (Some y) = by (same x y)
  where
    by : Option (x ≡ y) → Option (Some x ≡ Some y)
    by (Some e) = Some (λ i. Some (e i))
    by None = None

abbrev pub same_stamp : (a b : Stamp) → Option (a ≡ b)
same_stamp a b = option_map by (both (same_number a.clock b.clock) (same_number a.client b.client))
  where
    by : (a.clock ≡ b.clock) × (a.client ≡ b.client) → a ≡ b
    by e i = record { clock = e.0 i; client = e.1 i }

abbrev pub alike_tx : (a b : TxId) → Option (a ≡ b)
alike_tx a b = option_map by (both (same_number a.client b.client)
    (both (same_number a.life b.life) (same_number a.number b.number)))
  where
    by : (a.client ≡ b.client) × ((a.life ≡ b.life) × (a.number ≡ b.number)) → a ≡ b
    by e i = record { client = e.0 i; life = (e.1).0 i; number = (e.1).1 i }

abbrev pub same_line : (l m : Line) → Option (l ≡ m)
same_line l m = option_map by (both (same_stamp l.stamp m.stamp)
    (both (alike_tx l.tx m.tx) (both (same_number l.op m.op)
    (both (same_number l.object m.object) (same_number l.event m.event)))))
  where
    by : (l.stamp ≡ m.stamp) × ((l.tx ≡ m.tx) × ((l.op ≡ m.op) × ((l.object ≡ m.object) × (l.event ≡ m.event)))) → l ≡ m
    by e i = record {
      stamp = e.0 i;
      tx = (e.1).0 i;
      op = ((e.1).1).0 i;
      object = (((e.1).1).1).0 i;
      event = (((e.1).1).1).1 i;
    }

abbrev pub same_own : (o p : OwnLine) → Option (o ≡ p)
same_own o p = option_map by (both (same_number o.op p.op)
    (both (same_number o.object p.object) (same_number o.event p.event)))
  where
    by : (o.op ≡ p.op) × ((o.object ≡ p.object) × (o.event ≡ p.event)) → o ≡ p
    by e i = record { op = e.0 i; object = (e.1).0 i; event = (e.1).1 i }

abbrev pub same_lock : (k l : ReadLock) → Option (k ≡ l)
same_lock k l = option_map by (both (same_number k.object l.object) (same_number k.inv l.inv))
  where
    by : (k.object ≡ l.object) × (k.inv ≡ l.inv) → k ≡ l
    by e i = record { object = e.0 i; inv = e.1 i }

abbrev pub same_item : (x y : Item) → Option (x ≡ y)
same_item (Lock k) (Lock l) = option_map (ap Lock) (same_lock k l)
same_item (Lock k) (Own p) = None
same_item (Own o) (Lock l) = None
same_item (Own o) (Own p) = option_map (ap Own) (same_own o p)

abbrev pub same_op : (a b : Op) → Option (a ≡ b)
same_op a b = option_map by (both (same_number a.object b.object)
    (both (same_number a.inv b.inv) (same_option same_number a.resp b.resp)))
  where
    by : (a.object ≡ b.object) × ((a.inv ≡ b.inv) × (a.resp ≡ b.resp)) → a ≡ b
    by e i = record { object = e.0 i; inv = (e.1).0 i; resp = (e.1).1 i }

abbrev pub same_deed : (d e : Deed) → Option (d ≡ e)
same_deed (Grants t xs v) (Grants u ys w) =
    option_map by (both (alike_tx t u) (both (same_list same_item xs ys) (same_list same_line v w)))
  where
    by : (t ≡ u) × ((xs ≡ ys) × (v ≡ w)) → Grants t xs v ≡ Grants u ys w
    by e i = Grants (e.0 i) ((e.1).0 i) ((e.1).1 i)
same_deed (Prepares t) (Prepares u) = option_map (ap Prepares) (alike_tx t u)
same_deed (LearnsCommit t s) (LearnsCommit u r) = option_map by (both (alike_tx t u) (same_stamp s r))
  where
    by : (t ≡ u) × (s ≡ r) → LearnsCommit t s ≡ LearnsCommit u r
    by e i = LearnsCommit (e.0 i) (e.1 i)
same_deed (LearnsAbort t) (LearnsAbort u) = option_map (ap LearnsAbort) (alike_tx t u)
same_deed Closes Closes = Some refl
same_deed (Installs k c log) (Installs j d more) =
    option_map by (both (same_number k j) (both (same_number c d) (same_list same_line log more)))
  where
    by : (k ≡ j) × ((c ≡ d) × (log ≡ more)) → Installs k c log ≡ Installs j d more
    by e i = Installs (e.0 i) ((e.1).0 i) ((e.1).1 i)
same_deed Rises Rises = Some refl
same_deed _ _ = None

abbrev pub same_append : (a b : AppendRequest) → Option (a ≡ b)
same_append a b = option_map by (both (alike_tx a.tx b.tx)
    (both (same_list same_item a.items b.items) (same_list same_line a.view b.view)))
  where
    by : (a.tx ≡ b.tx) × ((a.items ≡ b.items) × (a.view ≡ b.view)) → a ≡ b
    by e i = record { tx = e.0 i; items = (e.1).0 i; view = (e.1).1 i }

abbrev pub same_granted : (g h : Granted) → Option (g ≡ h)
same_granted g h = option_map by (both (both (alike_tx g.tx h.tx)
    (both (same_number g.site h.site) (both (same_number g.epoch h.epoch) (same_number g.life h.life))))
    (both (same_number g.clock h.clock) (both (same_list same_deed g.before h.before)
    (both (same_list same_item g.items h.items) (same_list same_line g.view h.view)))))
  where
    by : ((g.tx ≡ h.tx) × ((g.site ≡ h.site) × ((g.epoch ≡ h.epoch) × (g.life ≡ h.life))))
        × ((g.clock ≡ h.clock) × ((g.before ≡ h.before) × ((g.items ≡ h.items) × (g.view ≡ h.view)))) → g ≡ h
    by e i = record {
      tx = (e.0).0 i;
      site = ((e.0).1).0 i;
      epoch = (((e.0).1).1).0 i;
      life = (((e.0).1).1).1 i;
      clock = (e.1).0 i;
      before = ((e.1).1).0 i;
      items = (((e.1).1).1).0 i;
      view = (((e.1).1).1).1 i;
    }

abbrev pub same_vote : (a b : YesVote) → Option (a ≡ b)
same_vote a b = option_map by (both (alike_tx a.tx b.tx) (same_number a.site b.site))
  where
    by : (a.tx ≡ b.tx) × (a.site ≡ b.site) → a ≡ b
    by e i = record { tx = e.0 i; site = e.1 i }

abbrev pub same_verdict : (a b : Verdict) → Option (a ≡ b)
same_verdict a b = option_map by (both (alike_tx a.tx b.tx) (same_option same_stamp a.stamp b.stamp))
  where
    by : (a.tx ≡ b.tx) × (a.stamp ≡ b.stamp) → a ≡ b
    by e i = record { tx = e.0 i; stamp = e.1 i }

abbrev pub same_snapshot : (a b : Snapshot) → Option (a ≡ b)
same_snapshot a b = option_map by (both (same_number a.site b.site)
    (both (same_number a.clock b.clock) (same_list same_deed a.before b.before)))
  where
    by : (a.site ≡ b.site) × ((a.clock ≡ b.clock) × (a.before ≡ b.before)) → a ≡ b
    by e i = record { site = e.0 i; clock = (e.1).0 i; before = (e.1).1 i }

abbrev pub same_decision : (a b : Decision) → Option (a ≡ b)
same_decision a b = option_map by (both (both (same_number a.epoch b.epoch) (same_number a.clock b.clock))
    (both (same_list same_line a.log b.log) (same_list same_snapshot a.snapshots b.snapshots)))
  where
    by : ((a.epoch ≡ b.epoch) × (a.clock ≡ b.clock)) × ((a.log ≡ b.log) × (a.snapshots ≡ b.snapshots)) → a ≡ b
    by e i = record { epoch = (e.0).0 i; clock = (e.0).1 i; log = (e.1).0 i; snapshots = (e.1).1 i }
