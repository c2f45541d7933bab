-- What is begun stays begun, with its epoch, and decisions stay: so a line stays of the epochs that it belongs to.
use Rattle.std.proofs.Common.{◌≡◌, ◌≢◌, inl, inr, ℕ, ◌<◌, List, sym, ◌∙◌, subst}
use Rattle.qc_stamp.specs.declared.stamp.TxId.{TxId}
use Rattle.qc_entry.specs.declared.line.Line.{Line}
use Rattle.qc_entry.specs.declared.line.OwnLine.{OwnLine}
use Rattle.qc_decl.specs.declared.declaration.Declaration.{Declaration}
use Rattle.qc_list.specs.Vocabulary.{In}
use Rattle.theory_machine.specs.Vocabulary.{AppendRequest, Decision, Deed, Granted, NotBegun, Site, Snapshot, Status}
use Rattle.theory_machine.specs.Vocabulary.{epoch_from, site_after}
use Rattle.theory_bases.specs.Vocabulary.{BelongsTo, EpochLaws, IsAppendOfEpoch, IsLineOfDecision, IsOwnWrittenIn}
use Rattle.theory_bases.specs.Vocabulary.{IsSiteOfEpoch, IsSnapshotOfEpoch}

-- the one state comes after the other
pub record GoesOn (status more : TxId → Status) (epoch later : TxId → ℕ) (decided longer : List Decision) : Type 0 where
  pub begun : (t : TxId) → status t ≢ NotBegun → more t ≢ NotBegun
  pub epochs : (t : TxId) → status t ≢ NotBegun → later t ≡ epoch t
  pub stands : (d : Decision) → In d decided → In d longer

module _ (decl : Declaration) (status more : TxId → Status) (epoch later : TxId → ℕ) (decided longer : List Decision)
    (g : GoesOn status more epoch later decided longer) where
  pub belongs_still : (k : ℕ) (l : Line) → BelongsTo decl status epoch decided k l
      → BelongsTo decl more later longer k l
  belongs_still k l (inl x) = inl (record {
    begun = g.begun l.tx x.begun;
    writer = g.epochs l.tx x.begun
        ∙ x.writer;
    weighs = x.weighs;
  })
  belongs_still k l (inr x) = inr (record {
    decision = x.decision;
    stands = g.stands x.decision x.stands;
    epoch = x.epoch;
    merged = x.merged;
  })

  pub own_still : (k : ℕ) (tx : TxId) (o : OwnLine) → IsOwnWrittenIn decl status epoch k tx o
      → IsOwnWrittenIn decl more later k tx o
  own_still k tx o x = record { begun = g.begun tx x.begun; writer = g.epochs tx x.begun ∙ x.writer; weighs = x.weighs }

  pub site_still : (k : ℕ) (s : Site) → IsSiteOfEpoch decl status epoch decided k s
      → IsSiteOfEpoch decl more later longer k s
  site_still k s h = record {
    lines = λ l i. belongs_still k l (h.lines l i);
    held = λ tx o i. own_still k tx o (h.held tx o i);
    promised = λ p o i j. own_still k p.tx o (h.promised p o i j);
  }

  pub append_still : (s : AppendRequest) → IsAppendOfEpoch decl status epoch decided s
      → IsAppendOfEpoch decl more later longer s
  append_still s h =
      let e : epoch s.tx ≡ later s.tx = sym (g.epochs s.tx h.begun) in
      record {
        begun = g.begun s.tx h.begun;
        lines = λ l i. subst (λ (k : ℕ). BelongsTo decl more later longer k l) e
            (belongs_still (epoch s.tx) l (h.lines l i));
      }

  pub snapshot_still : (s : Snapshot) → IsSnapshotOfEpoch decl status epoch decided s
      → IsSnapshotOfEpoch decl more later longer s
  snapshot_still s h = record {
    site = site_still (epoch_from 1 s.before) (site_after s.before) h.site;
    from_first = h.from_first;
  }

  pub decision_still : (d : Decision) (l : Line) → IsLineOfDecision decl status epoch decided d l
      → IsLineOfDecision decl more later longer d l
  decision_still d l h = record {
    begun = g.begun l.tx h.begun;
    after_first = h.after_first;
    earlier = subst (λ (k : ℕ). k < d.epoch) (sym (g.epochs l.tx h.begun)) h.earlier;
    belonged = λ k e. belongs_still k l (h.belonged k e);
    source = h.source;
  }

-- where no epoch is decided
module _ (decl : Declaration) (status more : TxId → Status) (epoch later : TxId → ℕ) (decided : List Decision)
    (g : GoesOn status more epoch later decided decided) where
  pub laws_still : (deeds : ℕ → List Deed) (appends : List AppendRequest) (granted : List Granted)
      (snapshots : List Snapshot) → EpochLaws decl status epoch deeds appends granted snapshots decided
      → EpochLaws decl more later deeds appends granted snapshots decided
  laws_still deeds appends granted snapshots h = record {
    sites = λ n. site_still decl status more epoch later decided decided g (epoch_from 1 (deeds n))
        (site_after (deeds n)) (h.sites n);
    grants = λ x l i j. belongs_still decl status more epoch later decided decided g x.epoch l (h.grants x l i j);
    requests = λ s i. append_still decl status more epoch later decided decided g s (h.requests s i);
    closings = λ s i. snapshot_still decl status more epoch later decided decided g s (h.closings s i);
    decisions = λ d l i j. decision_still decl status more epoch later decided decided g d l (h.decisions d l i j);
    one = h.one;
  }
