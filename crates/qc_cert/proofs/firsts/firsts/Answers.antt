use Rattle.std.proofs.Common.{◌≡◌, ◌+◌, Bool, List, ap, sym, refl, ◌∙◌, ◌++◌, ◌∷◌, [], append_assoc, take, drop, get_or}
use Rattle.std.specs.Prelude.{not, ◌||◌}
use Rattle.qc_cert.proofs.MarkedTriples.{order_tells, among_by, seen_with, seen_more, marks_more}
use Rattle.qc_cert.specs.Vocabulary.{firsts_after, is_among, is_same, triple}
use Rattle.qc_cert.specs.declared.triple.Triple.{Triple}
use Rattle.qc_cert.proofs.firsts.firsts.Goals as goal

pub triples-preserved : goal.triples-preserved
triples-preserved c =
    let i = c.triples.triple-index in
    let list = c.args.list.now in
    let x : Triple = get_or list i (triple 0 0 0) in
    let later : List Bool = firsts_after (take (i + 1) list) (drop (i + 1) list) in
    let first : c.in_ok-is_first.is_first ≡ not (is_among (take i list) x) =
    c.in_ok-is_first.ensures.added ∙ ap not (among_by _ order_tells c.triples.seen.keys x ∙ c.triples.invariant.seen x)
    in
    record {
      marks =
          ap (λ ms. ms ++ later) c.in_ok-push.ensures.items
          ∙ append_assoc c.triples.firsts.items (c.in_ok-is_first.is_first ∷ []) later
          ∙ ap (λ b. c.triples.firsts.items ++ b ∷ later) first
          ∙ ap (λ ms. c.triples.firsts.items ++ ms) (sym (marks_more list i x (triple 0 0 0) c.triples-test.true refl))
          ∙ c.triples.invariant.marks;
      seen = λ t. seen_with _ order_tells c.triples.seen.keys c.insert.new.self.keys x
          c.in_ok-is_first.ensures.updates.0 t
          ∙ ap (λ b. b || is_same x t) (c.triples.invariant.seen t)
          ∙ sym (seen_more list i x (triple 0 0 0) t c.triples-test.true refl);
    }
