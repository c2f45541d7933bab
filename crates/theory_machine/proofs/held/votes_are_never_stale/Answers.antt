use Rattle.std.proofs.Common.{sym, ◌∙◌}
use Rattle.theory_machine.specs.Vocabulary.{state}
use Rattle.theory_machine.proofs.Holdings.{granted_items_are_held}
use Rattle.theory_machine.proofs.Keeps.{laws}
use Rattle.theory_machine.proofs.Plain.{first, plain_epoch}
use Rattle.theory_machine.proofs.held.votes_are_never_stale.Goals as goal

pub returns : goal.returns
returns c decl acts grant item accepted run plain counted listed voting =
    let f = first decl acts run plain in
    let wl = laws decl acts run in
    granted_items_are_held decl accepted acts run grant item counted listed voting
    (f.lives grant.site ∙ sym (f.granted grant (wl.known grant counted)))
    (plain_epoch ((state acts).deeds grant.site) 1 (f.deeds grant.site)
    ∙ sym (wl.counts_epoch grant counted ∙ f.epochs grant.tx))
