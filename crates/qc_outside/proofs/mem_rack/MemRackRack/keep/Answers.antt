use Rattle.std.proofs.Common.{Some, refl, sym, subst, List, option_copied}
use Rattle.qc_outside.specs.Vocabulary.{IsFirstAt, Place, as_read, told_by}
use Rattle.qc_outside.specs.declared.mem_rack.Kept.{Kept}
use Rattle.qc_outside.proofs.Racks.{held_put}
use Rattle.qc_outside.proofs.mem_rack.MemRackRack.keep.Goals as goal

pub returns-in-Some-clause-put : goal.returns-in-Some-clause-put
returns-in-Some-clause-put c =
    let place : Place = record { folder = option_copied c.args.dir; actor = c.args.actor } in
    let old : Kept = c.index_mut.result.now in
    let new : Kept = record { folder = old.folder; actor = old.actor; bytes = c.into_bytes.result } in
    let first = subst (λ (all : List Kept). IsFirstAt place all (Some c.in-Some.index)) c.deref.ensures.value
    c.in-Some.ensures in
    let bytes = as_read (told_by c.args.disk.tear c.args.disk.changes.items c.args.disk.written.items).now in
    held_put place c.args.self.now.places.items c.in-Some.index old new bytes first refl (sym c.index_mut.ensures.value)
    (c.into_bytes.ensures _ refl)
