use Rattle.std.proofs.Common.{◌⊎◌, inl, inr, ◌≤◌, ◌≡◌, ◌++◌, take, drop, length, arith, rules, sym, ◌∙◌, ap}
use Rattle.qc_entry.specs.Vocabulary.{union}
use Rattle.qc_entry.proofs.Behind.{from}
use Rattle.qc_entry.proofs.Walks.{whole-rest, union-ends}
use Rattle.qc_entry.proofs.slices.merged.Goals.{then-lines-test+else-j-b, else-lines-test}
use Rattle.qc_entry.proofs.slices.merged.Goals as goal

pub returns : goal.returns
returns c =
    let past : (length c.args.a.now ≤ c.lines.i) ⊎ (length c.args.b.now ≤ c.lines.j) =
    elim c.lines-test.branch [ then-lines-test+else-j-b w ↦ inr (omega arith) | else-lines-test w ↦ inl (omega arith) ]
    in
    rw (
      c.in_ok-extend_from_slice-3.ensures.items,
      c.in_ok-extend_from_slice-2.ensures.items,
      whole-rest c.args.a.now,
      whole-rest c.args.b.now,
    ) (union-ends _ _ _ _ _ c.lines.invariant past)

pub lines-init : goal.lines-init
lines-init c =
    let out : c.extend_from_slice.new.self.items ≡ take c.shared-n.result c.args.a.now = search rules in
    record {
      first = c.shared-n.ensures.first;
      second = c.shared-n.ensures.second;
      whole = ap (λ xs. xs ++ union (drop c.shared-n.result c.args.a.now) (drop c.shared-n.result c.args.b.now)) out
          ∙ sym (from c.args.a.now c.args.b.now c.shared-n.result c.shared-n.ensures.alike);
    }
