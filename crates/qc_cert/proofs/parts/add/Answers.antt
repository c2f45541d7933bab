use Rattle.std.proofs.Common.{◌≡◌, ◌<◌, ◌∷◌, ◌++◌, [], ℕ, List, length, set as put, ap, ◌∙◌, arith}
use Rattle.std.specs.Prelude.{◌||◌}
use Rattle.std.proofs.lemmas.List.{get_or_read}
use Rattle.std.proofs.lemmas.Result.{on_ok_weaker}
use Rattle.qc_cert.specs.Vocabulary.{parts_within}
use Rattle.qc_cert.proofs.Shared.{part_grown}
use Rattle.qc_table.specs.Vocabulary.{is_within}
use Rattle.qc_cert.proofs.parts.add.Goals as goal

pub returns-clause-added : goal.returns-clause-added
returns-clause-added c = on_ok_weaker c.push.result added c.push.ensures.ok
  where
    items : List (List ℕ)
    items = c.fill.new.parts.items

    within : c.shortest-event.result < length items
    within = omega (arith, c.shortest-event.ensures.within, c.in_ok-fill.ensures.all)

    added : c.push.new.self ≡ c.index_mut.result.now ++ c.args.set ∷ []
        → (out : ℕ) → parts_within (put items c.shortest-event.result c.push.new.self) out ≡
        (parts_within c.args.parts.now.items out || is_within c.args.set out)
    added pushed out =
        ap (λ (p : List ℕ). parts_within (put items c.shortest-event.result p) out)
        (pushed ∙ ap (λ (p : List ℕ). p ++ c.args.set ∷ [])
        (get_or_read items c.shortest-event.result c.index_mut.result.now within c.index_mut.ensures.value []))
        ∙ part_grown items c.shortest-event.result c.args.set out within
        ∙ ap (λ b. b || is_within c.args.set out) (c.in_ok-fill.ensures.same out)
