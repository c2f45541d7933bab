-- A site, and a client, that rises by records which name declared things knows, holds and has promised such, and sends
-- such messages.
use Rattle.std.proofs.Common.{◌≡◌, ℕ, List, [], ◌∷◌, map, Option, Some, None, refl}
use Rattle.std.specs.List.{AllByRecursion as Every}
use Rattle.std.specs.Option.{option_map_or}
use Rattle.qc_entry.proofs.Union.{every-union}
use Rattle.qc_decl.specs.declared.declaration.Declaration.{Declaration}
use Rattle.qc_entry.specs.declared.record.Prepared.{Prepared}
use Rattle.qc_fit.specs.Vocabulary.{HasPlan}
use Rattle.qc_msg.specs.declared.record.Record.{Record}
use Rattle.qc_msg.specs.Vocabulary.{first_epoch}
use Rattle.qc_recover.specs.Vocabulary.{client_of, done_lines, done_stamp, inquiry, kept_by, nothing_kept, site_of}
use Rattle.qc_site.specs.Vocabulary.{lines_of, prepared_of}
use Rattle.qc_stamp.specs.declared.stamp.TxId.{TxId}
use Rattle.laws_bounds.proofs.ClientsNamed.{ClientNamed}
use Rattle.laws_bounds.proofs.Names.{AreNamed, LineNamed, LinesNamed, PromiseNamed, RecordNamed, SendsNamed}
use Rattle.laws_bounds.proofs.HeldNamed.{FoundNamed, found_named, lines_named, promises_held}
use Rattle.laws_bounds.proofs.SitesNamed.{SiteNamed}
use Rattle.laws_bounds.proofs.SiteKeeps.{Gives, KeptHas, kept_has}

module _ (decl : Declaration) where
  done_named : (prepares : List Prepared) (tx : TxId) (clock : ℕ) → Every (PromiseNamed decl) prepares
      → LinesNamed decl (done_lines prepares tx clock)
  done_named prepares tx clock all = by (prepared_of prepares tx) refl
    where
      by : (o : Option Prepared) → prepared_of prepares tx ≡ o
          → LinesNamed decl (option_map_or (λ (p : Prepared). lines_of (done_stamp tx clock) tx p.own) o [])
      by None is = tt
      by (Some p) is =
          (let found : FoundNamed decl tx p = found_named decl prepares tx p all is in lines_named decl
          (done_stamp tx clock) tx p.own found.client found.own)

  gives : (a : ℕ) → Gives (HasPlan decl) (LineNamed decl) (PromiseNamed decl) (RecordNamed decl a)
  gives a = record {
    prepare = λ p here. (here.5, record { client = here.1; locks = here.3; own = here.4 });
    done = λ ps tx clock all here. done_named ps tx clock all;
    install = λ epoch clock lines here. (here.1, here.2);
  }

  pub site_risen_named : HasPlan decl first_epoch → (a : ℕ) (rs : List Record) → AreNamed decl a rs
      → SiteNamed decl (site_of a rs)
  site_risen_named first a rs all =
      let k : KeptHas (HasPlan decl) (LineNamed decl) (PromiseNamed decl) (kept_by rs) =
      kept_has (HasPlan decl) (LineNamed decl) (PromiseNamed decl) (RecordNamed decl a) (gives a) rs nothing_kept all
      (record { epoch = first; began = tt; lines = tt; prepares = tt; promises = tt }) in
      record {
        epoch = k.epoch;
        began = k.began;
        log = k.lines;
        arrived = every-union (LineNamed decl) (kept_by rs).began (kept_by rs).lines k.began k.lines;
        held = promises_held decl (kept_by rs).promises k.promises;
        prepared = k.promises;
      }

  pub inquiries_named : (txs : List TxId) → SendsNamed decl (map (inquiry decl) txs)
  inquiries_named [] = tt
  inquiries_named (tx ∷ txs) = (tt, inquiries_named txs)

  pub client_risen_named : (k : ℕ) (rs : List Record) → ClientNamed decl k (client_of k rs)
  client_risen_named k rs =
      record { own = record { client = refl; begun = tt }; front = record { begun = tt; doing = tt }; voting = tt }
