use Rattle.std.proofs.Common.{rules, ◌≡◌, ◌+◌, ◌∷◌, ◌++◌, ℕ, [], ap, arith, length, length-append, subst, sym}
use Rattle.std.specs.Prelude.{is_some, option_copied}
use Rattle.std.specs.Vec.Iter.{into_iter_items}
use Rattle.qc_outside.specs.Vocabulary.{IsPutBack}
use Rattle.laws_bounds.specs.Vocabulary.{place_of}
use Rattle.qc_node.specs.Vocabulary.{IsBackFrom}
use Rattle.qc_node.proofs.Starts.{first_unwritten, rest_unwritten}
use Rattle.qc_node.proofs.Unwritten.{one_more_from}
use Rattle.qc_node.proofs.processes.give_back_disks.Goals as goal

pub loop-disk-preserved : goal.loop-disk-preserved
loop-disk-preserved g c =
    let places = g.K.Rack.places in
    let faults = g.K.Rack.faults in
    let told = g.K.D.Disk.told in
    let count = g.K.D.Disk.faults in
    let folder = option_copied c.args.dir in
    let tells = is_some (places c.args.rack.now) in
    let n = length c.loop-disk.yielded in
    let disk = c.in-Some.disk in
    let left = into_iter_items c.loop-disk.disk-iterator in
    let rest = into_iter_items c.next.new.self in
    let first : left ≡ disk ∷ rest = search rules in
    let more : length (c.loop-disk.yielded ++ disk ∷ []) ≡ n + 1 =
    omega (arith, length-append c.loop-disk.yielded (disk ∷ [])) in
    let put : IsPutBack (places c.loop-disk.rack) (place_of folder (c.args.first + n)) (told disk)
    (places c.keep.new.self) =
    subst (λ (a : ℕ). IsPutBack (places c.loop-disk.rack) (place_of folder a) (told disk) (places c.keep.new.self))
    c.loop-disk.invariant.number c.keep.ensures.put in
    record {
      can = tt;
      finite = tt;
      count = omega (arith, more, c.loop-disk.invariant.count, ap (λ l. length l) first);
      number = omega (arith, more, c.loop-disk.invariant.number);
      unwritten = rest_unwritten tells told count left rest disk first c.loop-disk.invariant.unwritten;
      back =
          subst
          (λ (k : ℕ). IsBackFrom folder c.args.first k (places c.args.rack.now) (faults c.args.rack.now)
          (places c.keep.new.self) (faults c.keep.new.self)) (sym more)
          (one_more_from folder c.args.first n (places c.args.rack.now) (places c.loop-disk.rack)
          (places c.keep.new.self) (faults c.args.rack.now) (faults c.loop-disk.rack) (faults c.keep.new.self)
          (count disk) (told disk)
          c.loop-disk.invariant.back put c.keep.ensures.kept
          (first_unwritten tells told count left rest disk first c.loop-disk.invariant.unwritten));
    }
