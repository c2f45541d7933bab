use Rattle.std.proofs.Common.{rules, ◌≡◌, ◌+◌, ◌≤◌, ◌∷◌, ◌++◌, ◌∙◌, ℕ, Some, [], ap, append_assoc, arith, length}
use Rattle.std.proofs.Common.{length-append, subst, sym}
use Rattle.std.specs.Prelude.{slice_get}
use Rattle.std.specs.Vec.Iter.{into_iter_items, into_iter_len}
use Rattle.qc_decl.specs.Vocabulary.{actors}
use Rattle.qc_pass.specs.Vocabulary.{number}
use Rattle.qc_process.specs.Vocabulary.{IsProcess}
use Rattle.qc_node.proofs.News.{is_below, is_new, left_here, left_more, number_here}
use Rattle.qc_node.proofs.runs.actors_of.Goals as goal

pub loop-pass-init : goal.loop-pass-init
loop-pass-init g c = record {
  can = tt;
  finite = tt;
  split = c.into_iter-pass-iterator.ensures.into_iter_gives.0;
  count = c.requires.none;
  room = c.requires.room;
  many = omega (arith, c.into_iter-processes.ensures.len);
  left = λ k.
      let place : k ≡ 0 + k = omega arith in
      ap (λ l. slice_get l k) c.into_iter-processes.ensures.rest ∙ ap (λ i. slice_get c.args.processes.items i) place;
}

pub unreachable-requires : goal.unreachable-requires
unreachable-requires g c =
    let first : into_iter_items c.loop-pass.pass-iterator ≡ c.in-Some.pass ∷ into_iter_items c.next.new.self =
    search rules in
    let split : c.loop-pass.yielded ++ c.in-Some.pass ∷ into_iter_items c.next.new.self ≡ c.args.passes.items =
    ap (λ l. c.loop-pass.yielded ++ l) (sym first) ∙ c.loop-pass.invariant.split in
    let none : into_iter_len c.loop-pass.processes ≡ 0 = c.in_default.ensures.cases.0 in
    let passes : length c.args.passes.items ≡ actors g.N.RunName.declaration = search rules in
    omega (
      arith,
      none,
      passes,
      c.loop-pass.invariant.many,
      c.requires.processes,
      ap (λ l. length l) split,
      length-append c.loop-pass.yielded (c.in-Some.pass ∷ into_iter_items c.next.new.self),
    )

pub new-requires-clause-fresh : goal.new-requires-clause-fresh
new-requires-clause-fresh g c κs within =
    let first : into_iter_items c.loop-pass.pass-iterator ≡ c.in-Some.pass ∷ into_iter_items c.next.new.self =
    search rules in
    let split : c.loop-pass.yielded ++ c.in-Some.pass ∷ into_iter_items c.next.new.self ≡ c.args.passes.items =
    ap (λ l. c.loop-pass.yielded ++ l) (sym first) ∙ c.loop-pass.invariant.split in
    is_new g.N.RunName.table c.args.passes.items c.loop-pass.yielded (into_iter_items c.next.new.self) c.in-Some.pass
    split c.requires.fresh

pub new-requires-clause-actor : goal.new-requires-clause-actor
new-requires-clause-actor g c κs within =
    let first : into_iter_items c.loop-pass.pass-iterator ≡ c.in-Some.pass ∷ into_iter_items c.next.new.self =
    search rules in
    let split : c.loop-pass.yielded ++ c.in-Some.pass ∷ into_iter_items c.next.new.self ≡ c.args.passes.items =
    ap (λ l. c.loop-pass.yielded ++ l) (sym first) ∙ c.loop-pass.invariant.split in
    let count : length c.args.passes.items ≡ actors g.N.RunName.declaration = search rules in
    is_below g.N.RunName.table c.args.passes.items c.loop-pass.yielded (into_iter_items c.next.new.self) c.in-Some.pass
    split c.requires.fresh (actors g.N.RunName.declaration) count

pub new-requires-clause-process : goal.new-requires-clause-process
new-requires-clause-process g c κs within =
    let first : into_iter_items c.loop-pass.pass-iterator ≡ c.in-Some.pass ∷ into_iter_items c.next.new.self =
    search rules in
    let split : c.loop-pass.yielded ++ c.in-Some.pass ∷ into_iter_items c.next.new.self ≡ c.args.passes.items =
    ap (λ l. c.loop-pass.yielded ++ l) (sym first) ∙ c.loop-pass.invariant.split in
    let number_is : number c.in-Some.pass ≡ length c.loop-pass.yielded =
    number_here g.N.RunName.table c.args.passes.items c.loop-pass.yielded
    (into_iter_items c.next.new.self) c.in-Some.pass
    split c.requires.fresh in
    let rest = into_iter_items c.next-in-loop-pass.new.self in
    let left : (k : ℕ) → slice_get (c.in-Some-next.process ∷ rest) k
    ≡ slice_get c.args.processes.items (length c.loop-pass.yielded + k) =
    λ k. ap (λ l. slice_get l k) (sym c.in-Some-next.ensures.items) ∙ c.loop-pass.invariant.left k in
    let here : slice_get c.args.processes.items (length c.loop-pass.yielded) ≡ Some c.in-Some-next.process =
    left_here c.args.processes.items rest (length c.loop-pass.yielded) c.in-Some-next.process left in
    subst (λ (a : ℕ). IsProcess g.N.RunName.tells g.N.RunName.declaration a [] c.in-Some-next.process) (sym number_is)
    (c.requires.begun (length c.loop-pass.yielded) c.in-Some-next.process here)

pub loop-pass-preserved : goal.loop-pass-preserved
loop-pass-preserved g c =
    let first : into_iter_items c.loop-pass.pass-iterator ≡ c.in-Some.pass ∷ into_iter_items c.next.new.self =
    search rules in
    let split : c.loop-pass.yielded ++ c.in-Some.pass ∷ into_iter_items c.next.new.self ≡ c.args.passes.items =
    ap (λ l. c.loop-pass.yielded ++ l) (sym first) ∙ c.loop-pass.invariant.split in
    let more : length (c.loop-pass.yielded ++ c.in-Some.pass ∷ []) ≡ length c.loop-pass.yielded + 1 =
    omega (arith, length-append c.loop-pass.yielded (c.in-Some.pass ∷ [])) in
    let rest = into_iter_items c.next-in-loop-pass.new.self in
    let left : (k : ℕ) → slice_get (c.in-Some-next.process ∷ rest) k
    ≡ slice_get c.args.processes.items (length c.loop-pass.yielded + k) =
    λ k. ap (λ l. slice_get l k) (sym c.in-Some-next.ensures.items) ∙ c.loop-pass.invariant.left k in
    record {
      can = tt;
      finite = tt;
      split = append_assoc c.loop-pass.yielded (c.in-Some.pass ∷ []) (into_iter_items c.next.new.self) ∙ split;
      count = omega (arith, more, c.push_reserved.ensures.len, c.loop-pass.invariant.count);
      room =
          subst (λ (n : ℕ). actors g.N.RunName.declaration ≤ n) (sym c.push_reserved.ensures.capacity)
          c.loop-pass.invariant.room;
      many = omega (arith, more, c.in-Some-next.ensures.len, c.loop-pass.invariant.many);
      left =
          left_more c.args.processes.items rest (length c.loop-pass.yielded) c.in-Some-next.process
          (length (c.loop-pass.yielded ++ c.in-Some.pass ∷ [])) more left;
    }

pub returns : goal.returns
returns g c =
    let none : length (into_iter_items c.loop-pass.pass-iterator) ≡ 0 = search (rules, arith) in
    let passes : length c.args.passes.items ≡ actors g.N.RunName.declaration = search rules in
    record {
      whole =
          omega (
            arith,
            none,
            passes,
            c.loop-pass.invariant.count,
            ap (λ l. length l) c.loop-pass.invariant.split,
            length-append c.loop-pass.yielded (into_iter_items c.loop-pass.pass-iterator),
          );
    }
