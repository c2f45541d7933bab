use Rattle.std.proofs.Common.{refl}
use Rattle.qc_outside.specs.declared.mem_rack.Kept.{Kept}
use Rattle.qc_outside.proofs.mem_rack.MemRack.add.Goals as goal

pub returns-clause-added : goal.returns-clause-added
returns-clause-added c =
    let kept : Kept = record { folder = c.in_ok-folder.folder; actor = c.args.actor; bytes = c.new-bytes.result } in (
      kept,
      record { folder = c.in_ok-folder.ensures; actor = refl; bytes = c.new-bytes.ensures.items },
      c.in_ok-push.ensures.items,
    )
