use Rattle.std.proofs.lemmas.List.{length_push}
use Rattle.std.proofs.lemmas.List.Elements.{All-push}
use Rattle.std.specs.declared.alloc.Global.{Global}
use Rattle.std.proofs.Common.{◌+◌, ◌≤◌, ℕ, List, Vec, length, sym, ◌∙◌, ap, subst, arith}
use Rattle.std.proofs.lemmas.Result.{err_from_is_err_and}
use Rattle.qc_outside.specs.Vocabulary.{as_read}
use Rattle.qc_outside.proofs.Fuses.{uncounted_burns, uncounted_refused, passed_more}
use Rattle.qc_journal.specs.Vocabulary.{AreShort, Passed, lists}
use Rattle.qc_journal.proofs.Gates.{lists_push, one_body_more}
use Rattle.qc_journal.proofs.Fuses.{disk_refused, refusal_more}
use Rattle.qc_journal.proofs.reading.read_records.Goals as goal

pub records-preserved : goal.records-preserved
records-preserved g c = record {
  told = c.read-in-Open.ensures.same ∙ c.read.ensures.same ∙ c.records.invariant.told;
  faults = omega (arith, c.read.ensures.cause.later, c.read-in-Open.ensures.cause.later, c.records.invariant.faults);
  fuse =
      passed_more 0 0 0 0 _ _ _ c.records.invariant.fuse
      (passed_more 0 0 0 0 _ _ _ (uncounted_burns _ _ _ c.in_ok-head.ensures.fuse)
      (uncounted_burns _ _ _ c.in_ok-body-in-Open.ensures.fuse));
  within = omega arith;
  short =
      let one_more = length_push c.records.bodies.items c.in_ok-body-in-Open.body in
      let pushed = ap length c.in_ok-push-in-Open.ensures.items in
      omega (arith, c.in-Open.ensures.short, c.from-in-Open.ensures, pushed, one_more, c.records.invariant.short);
  bodies =
      subst AreShort (sym c.in_ok-push-in-Open.ensures.items)
      (All-push (λ (v : Vec ℕ Global). length v.items ≤ 65536) c.records.bodies.items c.in_ok-body-in-Open.body
      c.records.invariant.bodies
      (omega (arith, c.in_ok-body-in-Open.ensures.bounded, c.in-Open.ensures.short)));
  passed_is = λ t tells.
      let told_now = c.records.invariant.told ∙ tells in
      let len = c.requires.len t tells in
      let more =
      one_body_more c.records.at (lists c.records.bodies.items) (as_read t.now) _
      (c.records.invariant.passed_is t tells) (c.deref.ensures.value ∙ c.in_ok-head.ensures.bytes t told_now)
      c.in-Open.count c.in-Open.ensures
      (omega (arith, len, c.if-len-at.false, c.from.ensures)) c.in_ok-body-in-Open.body.items
      (c.in_ok-body-in-Open.ensures.bytes t (c.read.ensures.same ∙ told_now)) in
      subst (λ (n : ℕ). Passed (c.records.at + (n + 5)) (lists c.push.new.self.items) (as_read t.now))
      (sym c.from-in-Open.ensures)
      (subst (λ (bodies : List (List ℕ)). Passed (c.records.at + (c.in-Open.count + 5)) bodies (as_read t.now))
      (sym (ap lists c.in_ok-push-in-Open.ensures.items
      ∙ lists_push c.records.bodies.items c.in_ok-body-in-Open.body)) more);
}

pub returns-in_err-head-clause-fuse : goal.returns-in_err-head-clause-fuse
returns-in_err-head-clause-fuse g c =
    let p = err_from_is_err_and c.from_residual.result c.from_residual.ensures.1 in
    rw (p.1, p.2)
    (refusal_more _ 0 0 0 0 _ _ _ c.records.invariant.fuse
    (disk_refused _ 0 0 0 0 0 _ _ (omega arith) (omega arith) (uncounted_refused _ _ _ c.in_err-head.ensures.fuse)))

pub returns-in-Closed-clause-fuse : goal.returns-in-Closed-clause-fuse
returns-in-Closed-clause-fuse g c =
    passed_more 0 0 0 0 _ _ _ c.records.invariant.fuse (uncounted_burns _ _ _ c.in_ok-head.ensures.fuse)

pub returns-in-Torn-clause-fuse : goal.returns-in-Torn-clause-fuse
returns-in-Torn-clause-fuse g c =
    passed_more 0 0 0 0 _ _ _ c.records.invariant.fuse (uncounted_burns _ _ _ c.in_ok-head.ensures.fuse)

pub returns-then-len-at-clause-fuse : goal.returns-then-len-at-clause-fuse
returns-then-len-at-clause-fuse g c =
    passed_more 0 0 0 0 _ _ _ c.records.invariant.fuse (uncounted_burns _ _ _ c.in_ok-head.ensures.fuse)

pub returns-in_err-body-in-Open-clause-fuse : goal.returns-in_err-body-in-Open-clause-fuse
returns-in_err-body-in-Open-clause-fuse g c =
    let p =
    err_from_is_err_and c.from_residual-in_err-body-in-Open.result c.from_residual-in_err-body-in-Open.ensures.1 in
    rw (p.1, p.2)
    (refusal_more _ 0 0 0 0 _ _ _
    (passed_more 0 0 0 0 _ _ _ c.records.invariant.fuse (uncounted_burns _ _ _ c.in_ok-head.ensures.fuse))
    (disk_refused _ 0 0 0 0 0 _ _ (omega arith) (omega arith)
    (uncounted_refused _ _ _ c.in_err-body-in-Open.ensures.fuse)))
