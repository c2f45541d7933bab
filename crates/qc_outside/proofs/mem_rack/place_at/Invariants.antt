use Rattle.std.proofs.Common.{◌≡◌, None, take, find, option_copied}
use Rattle.qc_outside.specs.Vocabulary.{is_at}
use Rattle.qc_outside.proofs.mem_rack.place_at.Given as goal

abbrev pub invariant-loop-kept : goal.invariant-loop-kept
invariant-loop-kept l = (l.index ≡ l.kept-index)
    × (find (is_at (record { folder = option_copied l.dir; actor = l.actor })) (take l.kept-index l.places) ≡ None)
