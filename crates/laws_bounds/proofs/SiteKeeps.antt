-- What a site's records keep has a property of epochs, lines and promises, where each record gives it.
use Rattle.std.specs.Prelude.{ℕ, not, List, [], ◌∷◌, fold}
use Rattle.std.specs.List.{AllByRecursion as Every}
use Rattle.qc_list.proofs.Members.{every-append, every-filter}
use Rattle.qc_entry.specs.Vocabulary.{has_line, without}
use Rattle.qc_entry.specs.declared.line.Line.{Line}
use Rattle.qc_entry.specs.declared.record.Prepared.{Prepared}
use Rattle.qc_entry.proofs.Union.{every-union}
use Rattle.qc_msg.specs.declared.record.Record.{Record}
use Rattle.qc_msg.specs.declared.record.Record.TheVariants as records
use Rattle.qc_msg.specs.Vocabulary.{start_with}
use Rattle.qc_recover.specs.Vocabulary.{Kept, done_lines, keeps, with_promise}
use Rattle.qc_site.specs.Vocabulary.{without_prepared}
use Rattle.qc_stamp.specs.Vocabulary.{same_tx}
use Rattle.qc_stamp.specs.declared.stamp.TxId.{TxId}

module _ (Epoch : ℕ → Type 0) (Has : Line → Type 0) (Promise : Prepared → Type 0) where
  pub record KeptHas (k : Kept) : Type 0 where
    pub epoch : Epoch k.epoch
    pub began : Every Has k.began
    pub lines : Every Has k.lines
    pub prepares : Every Promise k.prepares
    pub promises : Every Promise k.promises

  pub record Gives (Given : Record → Type 0) : Type 0 where
    pub prepare : (p : Prepared) → Given (records.Prepare p) → Every Has p.lines × Promise p
    pub done : (ps : List Prepared) (tx : TxId) (clock : ℕ) → Every Promise ps → Given (records.Done tx clock)
        → Every Has (done_lines ps tx clock)
    pub install : (epoch clock : ℕ) (lines : List Line) → Given (records.Install (start_with epoch clock lines))
        → Epoch epoch × Every Has lines

  with_one : (ps : List Prepared) (p : Prepared) → Every Promise ps → Promise p → Every Promise (with_promise ps p)
  with_one ps p all here =
      every-append Promise (without_prepared ps p.tx) (p ∷ [])
      (every-filter Promise (λ (q : Prepared). not (same_tx q.tx p.tx)) ps all) (here, tt)

  module _ (Given : Record → Type 0) (gives : Gives Given) where
    keeps_has : (k : Kept) (r : Record) → Given r → KeptHas k → KeptHas (keeps k r)
    keeps_has k records.Life here w =
        record { epoch = w.epoch; began = w.began; lines = w.lines; prepares = w.prepares; promises = w.promises }
    keeps_has k (records.Prepare p) here w = record {
      epoch = w.epoch;
      began = w.began;
      lines = every-union Has k.lines p.lines w.lines (gives.prepare p here).0;
      prepares = with_one k.prepares p w.prepares (gives.prepare p here).1;
      promises = with_one k.promises p w.promises (gives.prepare p here).1;
    }
    keeps_has k (records.Done tx clock) here w = record {
      epoch = w.epoch;
      began = w.began;
      lines =
          every-union Has k.lines (without (done_lines k.prepares tx clock) k.began) w.lines
          (every-filter Has (λ (l : Line). not (has_line k.began l)) (done_lines k.prepares tx clock)
          (gives.done k.prepares tx clock w.prepares here));
      prepares = w.prepares;
      promises = every-filter Promise (λ (q : Prepared). not (same_tx q.tx tx)) k.promises w.promises;
    }
    keeps_has k (records.Close epoch) here w =
        record { epoch = w.epoch; began = w.began; lines = w.lines; prepares = w.prepares; promises = w.promises }
    keeps_has k (records.Install start) here w = record {
      epoch = (gives.install start.epoch start.clock start.lines here).0;
      began = (gives.install start.epoch start.clock start.lines here).1;
      lines = tt;
      prepares = tt;
      promises = tt;
    }
    keeps_has k (records.Commit c) here w = w
    keeps_has k (records.Decide start) here w = w

    pub kept_has : (rs : List Record) (k : Kept) → Every Given rs → KeptHas k → KeptHas (fold keeps k rs)
    kept_has [] k all w = w
    kept_has (r ∷ rs) k all w = kept_has rs (keeps k r) all.1 (keeps_has k r all.0 w)
