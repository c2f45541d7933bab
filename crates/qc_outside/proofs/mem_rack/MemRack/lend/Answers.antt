use Rattle.std.proofs.Common.{Some, None, refl, subst, List, option_copied}
use Rattle.qc_outside.specs.Vocabulary.{IsFirstAt, Place}
use Rattle.qc_outside.specs.declared.mem_rack.Kept.{Kept}
use Rattle.qc_outside.proofs.Racks.{holds_some, holds_none, held_more}
use Rattle.qc_outside.proofs.mem_rack.MemRack.lend.Goals as goal

pub returns-then-not-is_empty-clause-handed : goal.returns-then-not-is_empty-clause-handed
returns-then-not-is_empty-clause-handed c =
    let place : Place = record { folder = option_copied c.args.dir; actor = c.args.actor } in
    let first = subst (λ (all : List Kept). IsFirstAt place all (Some c.in-Some.index)) c.deref.ensures.value
    c.in-Some.ensures in (
      holds_some place c.args.self.now.places.items c.in-Some.index c.index.result.now c.is_empty.result first
          c.index.ensures c.is_empty.ensures c.if-not-is_empty.true,
      λ q. refl,
    )

pub returns-in_ok-add-in-None-clause-handed : goal.returns-in_ok-add-in-None-clause-handed
returns-in_ok-add-in-None-clause-handed c =
    let place : Place = record { folder = option_copied c.args.dir; actor = c.args.actor } in
    let none = subst (λ (all : List Kept). IsFirstAt place all None) c.deref.ensures.value c.in-None.ensures in
    held_more place c.args.self.now.places.items c.add.new.self.places.items none c.in_ok-add-in-None.ensures.added

pub returns-else-not-is_empty-clause-handed : goal.returns-else-not-is_empty-clause-handed
returns-else-not-is_empty-clause-handed c =
    let place : Place = record { folder = option_copied c.args.dir; actor = c.args.actor } in
    let first = subst (λ (all : List Kept). IsFirstAt place all (Some c.in-Some.index)) c.deref.ensures.value
    c.in-Some.ensures in
    holds_none place c.args.self.now.places.items c.in-Some.index c.index.result.now c.is_empty.result first
    c.index.ensures c.is_empty.ensures c.if-not-is_empty.false
