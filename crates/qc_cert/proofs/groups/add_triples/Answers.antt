use Rattle.std.specs.Prelude.{◌||◌}
use Rattle.std.proofs.Common.{◌≡◌, ◌+◌, ◌<◌, ◌∷◌, false, cond, List, [], length, get_or, drop, refl, sym, ap, ◌∙◌}
use Rattle.std.proofs.Common.{arith}
use Rattle.qc_cert.proofs.Grouped.{group_more}
use Rattle.qc_cert.proofs.MarkedTriples.{marked_more}
use Rattle.qc_cert.proofs.groups.add_triples.Goals as goal
use Rattle.qc_cert.proofs.groups.add_triples.Goals.{then-marks-place+in_ok-add_triple, else-marks-place}
use Rattle.qc_cert.specs.Vocabulary.{any_within, marked, outs_at, parts_within, triple}
use Rattle.qc_cert.specs.declared.triple.Triple.{Triple}

pub triples-preserved : goal.triples-preserved
triples-preserved c =
    let i = c.triples.place in
    let marks = c.args.marks.now in
    let list = c.args.list.now in
    let x : Triple = get_or list i (triple 0 0 0) in
    let later : List Triple = marked (drop (i + 1) marks) (drop (i + 1) list) in
    let here : i < length marks = omega (arith, c.requires.marks, c.triples-test.true) in
    let left : marked (drop i marks) (drop i list) ≡ cond (get_or marks i false) (x ∷ later) later =
    marked_more marks list i (get_or marks i false) false x (triple 0 0 0) here c.triples-test.true refl refl in
    elim c.if-marks-place.branch [
      | then-marks-place+in_ok-add_triple w ↦
          record {
            all = ap length w.groups-is ∙ w.in_ok-add_triple.ensures.all;
            outs = λ group out.
                ap (λ gs. parts_within (get_or gs group []) out || any_within (outs_at later group) out) w.groups-is
                ∙ group_more (parts_within (get_or w.add_triple.new.groups group []) out)
                (parts_within (get_or c.triples.groups group []) out) x later group out
                (w.in_ok-add_triple.ensures.added group out)
                ∙ ap (λ ts. parts_within (get_or c.triples.groups group []) out || any_within (outs_at ts group) out)
                (sym (left ∙ ap (λ b. cond b (x ∷ later) later) w.if-marks-place.true))
                ∙ c.triples.invariant.outs group out;
          }
      | else-marks-place w ↦
          record {
            all = ap length w.groups-is ∙ c.triples.invariant.all;
            outs = λ group out.
                ap (λ gs. parts_within (get_or gs group []) out || any_within (outs_at later group) out) w.groups-is
                ∙ ap (λ ts. parts_within (get_or c.triples.groups group []) out || any_within (outs_at ts group) out)
                (sym (left ∙ ap (λ b. cond b (x ∷ later) later) w.if-marks-place.false))
                ∙ c.triples.invariant.outs group out;
          }
    ]
