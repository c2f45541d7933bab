use Rattle.std.proofs.Common.{ℕ, IfOk, List, Vec, subst}
use Rattle.std.specs.declared.alloc.Global.{Global}
use Rattle.qc_journal.specs.Vocabulary.{lists}
use Rattle.qc_process.specs.Vocabulary.{FoundAs}
use Rattle.qc_process.specs.declared.restart.Found.{Found}
use Rattle.qc_process.proofs.Restarts.{not_opened, not_opened_err, opens_err, opens_ok}
use Rattle.qc_process.proofs.restart.open_store.Goals as goal

pub returns-in-Ok-clause-ok : goal.returns-in-Ok-clause-ok
returns-in-Ok-clause-ok g c =
    let decl = c.args.decl.now in
    let found : IfOk c.find-found.result (λ (x : Found). FoundAs decl c.args.number
    (lists c.in-Ok.bodies.items) c.find-found.new.store x) =
    subst (λ (l : List (Vec ℕ Global)). IfOk c.find-found.result
    (λ (x : Found). FoundAs decl c.args.number (lists l) c.find-found.new.store x)) c.as_slice.ensures.value
    c.find-found.ensures.found in
    opens_ok decl c.args.number c.args.store.now c.open.new.self c.find-found.new.store _ (lists c.in-Ok.bodies.items)
    c.in-Ok.ensures.opened c.in-Ok.ensures.held c.in-Ok.ensures.up c.find-found.ensures.same c.find-found.result
    c.rise_or_fall.result found
    c.rise_or_fall.ensures

pub returns-in-Ok-clause-err : goal.returns-in-Ok-clause-err
returns-in-Ok-clause-err g c =
    opens_err c.args.decl.now c.args.number c.args.store.now c.open.new.self c.find-found.new.store
    c.rise_or_fall.new.store (lists c.in-Ok.bodies.items)
    c.in-Ok.ensures.opened c.in-Ok.ensures.held c.in-Ok.ensures.up c.find-found.ensures.same c.find-found.result
    c.rise_or_fall.result
    c.rise_or_fall.ensures

pub returns-in-Ok-unopened-clause-ok : goal.returns-in-Ok-unopened-clause-ok
returns-in-Ok-unopened-clause-ok g c =
    not_opened c.args.decl.now c.args.number c.args.store.now c.open.new.self c.in-Err.ensures.down c.in-Err.fault
    c.in-Ok-unopened.opened
    c.in-Ok-unopened.ensures c.in-Err.ensures.fell c.in-Err.ensures.torn c.in-Err.ensures.no_journal

pub returns-in-Err-unopened-clause-err : goal.returns-in-Err-unopened-clause-err
returns-in-Err-unopened-clause-err g c = (
  c.in-Err.ensures.down,
  c.in-Err.ensures.wanting c.args.decl.now
      (not_opened_err c.in-Err.fault c.in-Err-unopened.error c.in-Err-unopened.ensures),
)
