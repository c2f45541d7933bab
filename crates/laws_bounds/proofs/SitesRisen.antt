-- A site that rises by records in form is in form, and in order.
use Rattle.std.proofs.Common.{◌≡◌, ℕ, ◌≤◌, List, [], ◌∷◌, ◌++◌, map, Option, Some, None, refl, arith}
use Rattle.std.specs.List.{AllByRecursion as Every}
use Rattle.std.specs.Option.{option_map_or}
use Rattle.qc_entry.proofs.Union.{every-union}
use Rattle.qc_list.proofs.Members.{every-In, every-append}
use Rattle.qc_decl.specs.declared.declaration.Declaration.{Declaration}
use Rattle.qc_entry.specs.declared.record.Prepared.{Prepared}
use Rattle.qc_msg.specs.declared.record.Record.{Record}
use Rattle.qc_msg.specs.declared.record.Record.TheVariants as records
use Rattle.qc_record.specs.Vocabulary.{IsWithin}
use Rattle.qc_recover.specs.Vocabulary.{IsRecordSorted, done_lines, done_stamp, inquiry, kept_by, nothing_kept, site_of}
use Rattle.qc_recover.proofs.SortedRecords.{risen_sorted}
use Rattle.qc_site.specs.Vocabulary.{lines_of, prepared_of}
use Rattle.qc_stamp.specs.declared.stamp.TxId.{TxId}
use Rattle.laws_bounds.proofs.Forms.{LineInForm, PromiseInForm, RecordInForm, SendsInForm}
use Rattle.laws_bounds.proofs.HeldInForm.{FoundInForm, found_form, lines_form, promises_held}
use Rattle.laws_bounds.proofs.SitesInForm.{SiteInForm}
use Rattle.laws_bounds.proofs.SitesTake.{SiteStands}
use Rattle.laws_bounds.proofs.SiteKeeps.{Gives, KeptHas, kept_has}

done_form : (prepares : List Prepared) (tx : TxId) (clock : ℕ) → Every PromiseInForm prepares → 1 ≤ clock
    → Every LineInForm (done_lines prepares tx clock)
done_form prepares tx clock all least = by (prepared_of prepares tx) refl
  where
    by : (o : Option Prepared) → prepared_of prepares tx ≡ o
        → Every LineInForm (option_map_or (λ (p : Prepared). lines_of (done_stamp tx clock) tx p.own) o [])
    by None is = tt
    by (Some p) is =
        (let found : FoundInForm tx p = found_form prepares tx p all is in
        lines_form (done_stamp tx clock) tx p.own (record { client = refl; clock = least }) found.tx_is found.own)

gives : Gives (IsWithin 1 8) LineInForm PromiseInForm RecordInForm
gives = record {
  prepare = λ p here. (here.lines.each_is, record { tx = here.tx; locks = here.locks; own = here.own });
  done = λ ps tx clock all here. done_form ps tx clock all here.1;
  install = λ epoch clock lines here. (here.epoch_is, here.lines_are.each_is);
}

site_form : (a : ℕ) (rs : List Record) → Every RecordInForm rs → SiteInForm (site_of a rs)
site_form a rs all =
    let first : IsWithin 1 8 nothing_kept.epoch = (omega arith, omega arith) in
    let k : KeptHas (IsWithin 1 8) LineInForm PromiseInForm (kept_by rs) =
    kept_has (IsWithin 1 8) LineInForm PromiseInForm RecordInForm gives rs nothing_kept all
    (record { epoch = first; began = tt; lines = tt; prepares = tt; promises = tt }) in
    record {
      epoch = k.epoch;
      began = k.began;
      log = k.lines;
      arrived = every-union LineInForm (kept_by rs).began (kept_by rs).lines k.began k.lines;
      held = promises_held (kept_by rs).promises k.promises;
      prepared = k.promises;
    }

record_sorted : (r : Record) → RecordInForm r → IsRecordSorted r
record_sorted records.Life here = tt
record_sorted (records.Prepare p) here = (here.locks_ascend, here.own_ascend, here.lines.ascend)
record_sorted (records.Done tx clock) here = tt
record_sorted (records.Close epoch) here = tt
record_sorted (records.Install start) here = here.lines_are.ascend
record_sorted (records.Commit c) here = tt
record_sorted (records.Decide start) here = tt

pub site_risen_form : (a : ℕ) (rs : List Record) → Every RecordInForm rs
    → SiteStands (site_of a (rs ++ records.Life ∷ []))
site_risen_form a rs all = record {
  form = site_form a (rs ++ records.Life ∷ []) (every-append RecordInForm rs (records.Life ∷ []) all (tt, tt));
  sorted = risen_sorted a rs (λ r among. record_sorted r (every-In RecordInForm r rs all among));
}

pub inquiries_form : (decl : Declaration) (txs : List TxId) → SendsInForm (map (inquiry decl) txs)
inquiries_form decl [] = tt
inquiries_form decl (tx ∷ txs) = (tt, inquiries_form decl txs)
