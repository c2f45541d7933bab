use Rattle.std.specs.Prelude.{option_copied}
use Rattle.std.proofs.Common.{rules, ◌≡◌, ◌+◌, ◌∷◌, ◌++◌, ◌∙◌, ℕ, [], arith, length, length-append, refl, subst, sym}
use Rattle.qc_decl.specs.Vocabulary.{actors}
use Rattle.qc_node.specs.Vocabulary.{IsSettling}
use Rattle.qc_node.proofs.Settling.{settling_none}
use Rattle.qc_node.proofs.settle.settle.Goals as goal

pub loop-cell-init : goal.loop-cell-init
loop-cell-init g c = record {
  can = tt;
  finite = tt;
  same = refl;
  count = search (rules, arith);
  settling =
      settling_none g.N.RunName.tells g.N.RunName.declaration c.args.roll.now.history (option_copied c.args.dir)
      c.args.roll.now.rooms
      (g.K.Rack.faults c.args.rack.now) (g.K.Rack.places c.args.rack.now) c.requires.tells c.requires.handed;
}

pub loop-cell-preserved : goal.loop-cell-preserved
loop-cell-preserved g c =
    let more : length (c.loop-cell.yielded ++ c.in-Some.cell ∷ []) ≡ length c.loop-cell.yielded + 1 =
    omega (arith, length-append c.loop-cell.yielded (c.in-Some.cell ∷ [])) in
    record {
      can = tt;
      finite = tt;
      same = c.settle_one.ensures.history ∙ c.loop-cell.invariant.same;
      count = search (rules, arith);
      settling =
          subst
          (λ (n : ℕ). IsSettling (option_copied c.args.dir) g.N.RunName.tells g.N.RunName.declaration
          c.settle_one.new.roll.history
          c.settle_one.new.roll.rooms n (g.K.Rack.faults c.args.rack.now) (g.K.Rack.faults c.settle_one.new.rack)
          (g.K.Rack.places c.settle_one.new.rack)) (sym more)
          (c.settle_one.ensures.one (length c.loop-cell.yielded) (g.K.Rack.faults c.args.rack.now)
          c.loop-cell.invariant.settling);
    }

pub returns-clause-settled : goal.returns-clause-settled
returns-clause-settled g c =
    let count : length c.loop-cell.yielded ≡ actors g.N.RunName.declaration = search (rules, arith) in
    subst
    (λ (n : ℕ). IsSettling (option_copied c.args.dir) g.N.RunName.tells g.N.RunName.declaration c.loop-cell.roll.history
    c.loop-cell.roll.rooms n
    (g.K.Rack.faults c.args.rack.now) (g.K.Rack.faults c.loop-cell.rack) (g.K.Rack.places c.loop-cell.rack)) count
    c.loop-cell.invariant.settling
