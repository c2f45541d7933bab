use Rattle.std.proofs.Common.{◌≡◌, ◌<◌, ◌≤◌, ◌^◌, None, length, sym, ◌∙◌, rules, arith, w64}
use Rattle.std.specs.Int.{trailing_zeros}
use Rattle.qc_cert.proofs.Shared.{left_more, without_small}
use Rattle.qc_cert.proofs.Told.{less_within, lowest_found, none_more}
use Rattle.qc_cert.specs.Vocabulary.{taken_fault}
use Rattle.qc_list.proofs.Search.{below_none}
use Rattle.qc_table.specs.Vocabulary.{events_of}
use Rattle.qc_cert.proofs.rules.Search.of_taken.Goals as goal
use Rattle.qc_table.proofs.Sets.{none_left, none_past}

pub returns-then-rest-eq0 : goal.returns-then-rest-eq0
returns-then-rest-eq0 c =
    sym (below_none (length (events_of c.args.self.now.kind.now.table.rows))
    (taken_fault c.args.self.now.kind.now c.args.self.now.triples.now c.args.self.now.place
    c.args.self.now.triple.now c.args.inv)
    (λ k l. c.turns.invariant.none k l (none_left c.turns.rest c.if-rest-eq0.true k)))

pub returns-then-is_some : goal.returns-then-is_some
returns-then-is_some c =
    lowest_found c.turns.rest (length (events_of c.args.self.now.kind.now.table.rows))
    (taken_fault c.args.self.now.kind.now c.args.self.now.triples.now c.args.self.now.place
    c.args.self.now.triple.now c.args.inv)
    c.taken-fault.result (omega (arith, c.if-rest-eq0.false)) c.turns.invariant.small c.turns.invariant.within
    c.turns.invariant.none
    c.taken-fault.ensures (search rules)

pub turns-preserved : goal.turns-preserved
turns-preserved c =
    let some : 0 < c.turns.rest = omega (arith, c.if-rest-eq0.false) in
    let fits : c.turns.rest < 2 ^ 64 = c.turns.invariant.small in
    let none : c.taken-fault.result ≡ None = search rules in
    record {
      small = without_small c.turns.rest (trailing_zeros w64 c.turns.rest) fits;
      left = left_more c.turns.rest c.turns._turn some fits c.turns.invariant.left;
      within = less_within c.turns.rest (length (events_of c.args.self.now.kind.now.table.rows)) some fits
          c.turns.invariant.within;
      none = none_more c.turns.rest (length (events_of c.args.self.now.kind.now.table.rows))
          (taken_fault c.args.self.now.kind.now c.args.self.now.triples.now c.args.self.now.place
          c.args.self.now.triple.now c.args.inv) some fits
          (sym c.taken-fault.ensures ∙ none) c.turns.invariant.none;
    }

pub returns : goal.returns
returns c =
    sym (below_none (length (events_of c.args.self.now.kind.now.table.rows))
    (taken_fault c.args.self.now.kind.now c.args.self.now.triples.now c.args.self.now.place
    c.args.self.now.triple.now c.args.inv)
    (λ k l. c.turns.invariant.none k l
    (none_past c.turns.rest c.turns.invariant.small
    (λ k here. let past : c.turns._turn ≤ k = c.turns.invariant.left k here in
    omega (arith, past, c.turns-test.false)) k)))
