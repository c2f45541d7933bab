use Rattle.std.proofs.Common.{◌∙◌, ap}
use Rattle.qc_entry.specs.declared.record.Prepared.{Prepared}
use Rattle.qc_lock.proofs.Entries.{find-none}
use Rattle.qc_site.specs.Vocabulary.{prepared_of}
use Rattle.qc_stamp.specs.Vocabulary.{same_tx}
use Rattle.qc_recover.proofs.site_records.put.Goals as goal

pub add-requires : goal.add-requires
add-requires c =
    let tx = c.args.promise.now.tx in
    ap (λ (p : Prepared). prepared_of c.remove.new.self p.tx) c.in_ok-copy.ensures
    ∙ ap (λ ps. prepared_of ps tx) c.remove.ensures.after
    ∙ find-none (λ (p : Prepared). same_tx p.tx tx) c.args.promises.now
