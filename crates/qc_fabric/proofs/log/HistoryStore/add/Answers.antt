use Rattle.std.proofs.Common.{rules, ◌≡◌, ℕ, ◌<◌, ◌++◌, ◌∷◌, [], List, get_or, length, length-append, length-set, ap}
use Rattle.std.proofs.Common.{sym, ◌∙◌, arith}
use Rattle.qc_msg.specs.Vocabulary.{Entry, tally_of}
use Rattle.qc_fabric.specs.Vocabulary.{named_actors, place_of, stored}
use Rattle.qc_fabric.proofs.Logged.{carried_more, operations_more, places_more, standing_at}
use Rattle.qc_fabric.proofs.log.HistoryStore.add.Goals as goal

pub invariant_of-self : goal.invariant_of-self
invariant_of-self c =
    let h : List Entry = c.self.inside.entries.items in
    let at : c.len-place.result ≡ length h = search (rules, arith) in
    let some : 0 < c.self.inside.room = search (rules, arith) in
    let stood : ℕ = (tally_of h).standing c.args.entry.actor in
    let number : c.from-actor.result ≡ c.args.entry.actor = search (rules, arith) in
    let named : c.args.entry.actor < named_actors = search (rules, arith) in
    let before : get_or c.self.inside.standing c.from-actor.result 0 ≡ stored stood =
    ap (λ (k : ℕ). get_or c.self.inside.standing k 0) number ∙ c.self.invariant.standing_are c.args.entry.actor named in
    rw c.push_reserved.ensures.items (record {
      places_are = c.add_place.ensures.places ∙
          (λ i. (c.self.invariant.places_are i) ++ place_of (at i) c.args.entry.step)
          ∙ sym (places_more h c.args.entry);
      each_actor = length-set c.self.inside.standing c.from-actor.result c.standing_by.result
          ∙ c.self.invariant.each_actor;
      standing_are = standing_at h c.args.entry c.self.inside.standing c.from-actor.result c.standing_by.result number
          c.self.invariant.each_actor named c.self.invariant.standing_are (c.standing_by.ensures stood before);
      operations_are = c.saturating_add-self-inside.ensures
          ∙ operations_more h c.args.entry c.self.inside.operations c.operations_by.result
          c.self.invariant.operations_are (c.operations_by.ensures stood before);
      carried_is = c.saturating_add-self-inside-2.ensures
          ∙ carried_more h c.args.entry c.self.inside.carried c.carried_by.result c.self.invariant.carried_is
          c.carried_by.ensures;
      entries_fit = omega (
        arith,
        some,
        length-append h (c.args.entry ∷ []),
        c.self.invariant.entries_fit,
        c.push_reserved.ensures.capacity,
      );
      places_fit = omega (
        arith,
        some,
        c.add_place.ensures.longer,
        c.self.invariant.places_fit,
        c.add_place.ensures.capacity,
      );
    })
