use Rattle.std.proofs.Common.{ℕ, List, ◌≤◌, ◌<◌, ◌⊎◌, length, arith, ◌≡◌, ◌∙◌, ap, inl, inr, sym, get_or, []}
use Rattle.std.proofs.lemmas.List.{get_or_read}
use Rattle.qc_cert.specs.Vocabulary.{AreStates, any_within, distinct, is_covered, outs_at, parts_within, place_of}
use Rattle.qc_cert.proofs.Grouped.{covered_in, uncovered_past}
use Rattle.qc_cert.proofs.MarkedTriples.{All-distinct, distinct_triples_cover_alike}
use Rattle.qc_cert.proofs.groups.Grouped.covers.Goals as goal
use Rattle.qc_cert.proofs.groups.Grouped.covers.Goals.{then-triple-ge-MOST_STATES-via-then-triple-ge-MOST_STATES}
use Rattle.qc_cert.proofs.groups.Grouped.covers.Goals.{
  then-triple-ge-MOST_STATES-via-else-triple-ge-MOST_STATES+then-triple-ge-MOST_STATES-2,
}

pub returns-then-triple-ge-MOST_STATES : goal.returns-then-triple-ge-MOST_STATES
returns-then-triple-ge-MOST_STATES c =
    let past : (64 ≤ c.args.triple.now.view) ⊎ (64 ≤ c.args.triple.now.log) = elim c.then-triple-ge-MOST_STATES.branch [
      | then-triple-ge-MOST_STATES-via-then-triple-ge-MOST_STATES w ↦ inl w.if-triple-ge-MOST_STATES.true
      | then-triple-ge-MOST_STATES-via-else-triple-ge-MOST_STATES+then-triple-ge-MOST_STATES-2 w ↦ inr
          w.if-triple-ge-MOST_STATES-2.true
    ] in
    sym (ap (λ ts. is_covered ts c.args.triple.now) (sym c.self.view_is)
    ∙ uncovered_past c.self.inside.list.now c.args.triple.now c.self.invariant.states past)

pub returns : goal.returns
returns c =
    let items = c.self.inside.groups.items in
    let out = c.args.triple.now.out in
    let within : c.place.result < length items = omega (arith, c.place.ensures.within, c.self.invariant.all) in
    let read : c.index-groups-place.result ≡ get_or items c.place.result c.index-groups-place.result =
    c.index-groups-place.is ∙ ap (λ (gs : List (List (List ℕ))). get_or gs c.place.result
    c.index-groups-place.result) c.as_slice-groups.ensures.value in
    let group : parts_within c.index-groups-place.result out ≡ any_within
    (outs_at (distinct c.self.inside.list.now) (place_of c.args.triple.now.view c.args.triple.now.log)) out =
    ap (λ parts. parts_within parts out) (get_or_read items c.place.result c.index-groups-place.result within read [])
    ∙ c.self.invariant.outs c.place.result out
    ∙ ap (λ place. any_within (outs_at (distinct c.self.inside.list.now) place) out) c.place.ensures.place in
    c.covers.ensures ∙ group
    ∙ covered_in (distinct c.self.inside.list.now) c.args.triple.now
    (All-distinct AreStates c.self.inside.list.now c.self.invariant.states) c.if-triple-ge-MOST_STATES-2.false
    ∙ distinct_triples_cover_alike c.self.inside.list.now c.args.triple.now
    ∙ ap (λ ts. is_covered ts c.args.triple.now) c.self.view_is
