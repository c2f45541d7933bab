use Rattle.std.proofs.Common.{◌≡◌, ℕ, ◌<◌, List, length, get_or, sym, ap, ◌∙◌, subst, arith}
use Rattle.qc_msg.specs.Vocabulary.{mail}
use Rattle.qc_fabric.proofs.Placed.{entry_is, entry_there, length-places}
use Rattle.qc_fabric.proofs.log.entry_of.Goals as goal

pub bounds-places-number : goal.bounds-places-number
bounds-places-number c =
    let same : length c.args.places.now ≡ length (mail c.args.entries.now) = ap length c.requires.placed
    ∙ length-places 0 c.args.entries.now in
    omega arith

pub bounds-entries-place : goal.bounds-entries-place
bounds-entries-place c = subst (λ (ps : List ℕ). get_or ps c.args.number 0 < length c.args.entries.now)
    (sym c.requires.placed) (entry_there c.args.entries.now c.args.number c.requires.there)

pub returns : goal.returns
returns c =
    entry_is c.args.entries.now c.args.number c.index-entries-place.result c.requires.there
    (c.index-entries-place.is ∙ (λ i. get_or c.args.entries.now
    (get_or (c.requires.placed i) c.args.number 0) c.index-entries-place.result))
