use Rattle.std.proofs.Common.{rules, ◌≡◌, ◌+◌, ◌<◌, ◌∷◌, ◌++◌, ◌∙◌, ℕ, Some, [], ap, append_assoc, arith, length}
use Rattle.std.proofs.Common.{length-append, subst, sym}
use Rattle.std.specs.Prelude.{is_some, slice_get, vec_len, option_copied}
use Rattle.std.specs.Vec.Iter.{into_iter_items}
use Rattle.qc_outside.specs.Vocabulary.{IsPutBack}
use Rattle.qc_process.specs.Vocabulary.{IsOnDisk, IsProcess}
use Rattle.laws_bounds.specs.Vocabulary.{place_of}
use Rattle.qc_store.specs.Vocabulary.{DiskHasJournal}
use Rattle.qc_node.specs.Vocabulary.{IsGivenBack}
use Rattle.qc_node.proofs.Unstarted.{handed_at, none_back, one_more_back}
use Rattle.qc_node.proofs.processes.give_back.Goals as goal
use Rattle.qc_list.proofs.Places.{slice_get-seam}

pub loop-process-init : goal.loop-process-init
loop-process-init g c = record {
  can = tt;
  finite = tt;
  split = c.into_iter-process-iterator.ensures.into_iter_gives.0;
  back = none_back (option_copied c.args.dir) (g.K.Rack.places c.args.rack.now) (g.K.Rack.faults c.args.rack.now);
}

pub loop-process-preserved : goal.loop-process-preserved
loop-process-preserved g c =
    let places = g.K.Rack.places in
    let faults = g.K.Rack.faults in
    let folder = option_copied c.args.dir in
    let told = g.K.D.Disk.told c.into_disk.result in
    let count = g.K.D.Disk.faults c.into_disk.result in
    let n = length c.loop-process.yielded in
    let rest = into_iter_items c.next.new.self in
    let p = c.in-Some.process in
    let first : into_iter_items c.loop-process.process-iterator ≡ p ∷ rest = search rules in
    let split : c.loop-process.yielded ++ p ∷ rest ≡ c.args.each.items =
    ap (λ l. c.loop-process.yielded ++ l) (sym first) ∙ c.loop-process.invariant.split in
    let more : length (c.loop-process.yielded ++ p ∷ []) ≡ n + 1 =
    omega (arith, length-append c.loop-process.yielded (p ∷ [])) in
    let all : length c.args.each.items ≡ vec_len c.args.each = search rules in
    let low : n < vec_len c.args.each =
    omega (arith, all, ap (λ l. length l) split, length-append c.loop-process.yielded (p ∷ rest)) in
    let at : slice_get c.args.each.items n ≡ Some p =
    ap (λ l. slice_get l n) (sym split) ∙ slice_get-seam c.loop-process.yielded rest p in
    let decl = c.requires.processes.0 in
    let tells = is_some (places c.args.rack.now) in
    let is : IsProcess tells decl n [] p = c.requires.processes.1 n p at in
    let on : IsOnDisk tells decl n [] told count = c.into_disk.ensures.stored tells decl n [] is.stored in
    let begun : DiskHasJournal told [] = c.into_disk.ensures.begun tells decl n [] (c.requires.up n p at) is.stored in
    let put : IsPutBack (places c.loop-process.rack) (place_of folder n) told (places c.keep.new.self) =
    subst (λ (a : ℕ). IsPutBack (places c.loop-process.rack) (place_of folder a) told (places c.keep.new.self))
    (c.number-actor.ensures ∙ is.number_is) c.keep.ensures.put in
    record {
      can = tt;
      finite = tt;
      split = append_assoc c.loop-process.yielded (p ∷ []) rest ∙ split;
      back =
          subst
          (λ (k : ℕ). IsGivenBack folder k (places c.args.rack.now) (faults c.args.rack.now)
          (places c.keep.new.self) (faults c.keep.new.self)) (sym more)
          (one_more_back folder n (places c.args.rack.now) (places c.loop-process.rack) (places c.keep.new.self)
          (faults c.args.rack.now) (faults c.loop-process.rack) (faults c.keep.new.self) count told
          c.loop-process.invariant.back put c.keep.ensures.kept
          (handed_at folder (vec_len c.args.each) n (places c.args.rack.now) low c.requires.handed) on.still begun);
    }

pub returns : goal.returns
returns g c =
    let none : length (into_iter_items c.loop-process.process-iterator) ≡ 0 = search (rules, arith) in
    let count : length c.args.each.items ≡ vec_len c.args.each = search rules in
    let all : length c.loop-process.yielded ≡ vec_len c.args.each =
    omega (
      arith,
      none,
      count,
      ap (λ l. length l) c.loop-process.invariant.split,
      length-append c.loop-process.yielded (into_iter_items c.loop-process.process-iterator),
    ) in
    subst
    (λ (k : ℕ). IsGivenBack (option_copied c.args.dir) k (g.K.Rack.places c.args.rack.now)
    (g.K.Rack.faults c.args.rack.now) (g.K.Rack.places c.loop-process.rack) (g.K.Rack.faults c.loop-process.rack)) all
    c.loop-process.invariant.back
