use Rattle.std.proofs.Common.{◌≡◌, ◌<◌, ℕ, List, ◌∷◌, length, set, get_or, [], sym, ap, ◌∙◌, arith}
use Rattle.std.specs.Prelude.{◌||◌}
use Rattle.std.proofs.lemmas.List.{get_or_read}
use Rattle.std.proofs.lemmas.Result.{on_ok_weaker}
use Rattle.qc_cert.specs.Vocabulary.{any_within, outs_at, parts_within}
use Rattle.qc_cert.proofs.Grouped.{group_added}
use Rattle.qc_table.specs.Vocabulary.{is_within}
use Rattle.qc_cert.proofs.groups.add_triple.Goals as goal

pub returns-clause-added : goal.returns-clause-added
returns-clause-added c = on_ok_weaker c.push.result added c.push.ensures
  where
    within : c.place.result < length c.args.groups.now
    within = omega (arith, c.place.ensures.within, c.requires.all)

    added : ((other : ℕ) → parts_within c.push.new.self other ≡
        (parts_within (get_or c.args.groups.now c.place.result c.index-groups-place.result) other
        || is_within c.args.triple.now.out other))
        → (place out : ℕ) → parts_within (get_or (set c.args.groups.now c.place.result c.push.new.self) place []) out
        ≡ (parts_within (get_or c.args.groups.now place []) out
        || any_within (outs_at (c.args.triple.now ∷ []) place) out)
    added pushed = group_added c.args.groups.now c.args.triple.now c.place.result c.push.new.self c.place.ensures.place
        within
        (λ out. pushed out ∙ ap (λ (p : List (List ℕ)). parts_within p out || is_within c.args.triple.now.out out)
        (sym c.index-groups-place.is ∙ get_or_read c.args.groups.now c.place.result c.index-groups-place.result within
        c.index-groups-place.is []))
