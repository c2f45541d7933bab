use Rattle.std.proofs.Common.{◌≡◌, refl, ◌∙◌, ap, length}
use Rattle.qc_outside.specs.Vocabulary.{Stored, as_read}
use Rattle.qc_process.proofs.store.Store.new.Goals as goal

pub returns-in-Ok-eq0-clause-stored : goal.returns-in-Ok-eq0-clause-stored
returns-in-Ok-eq0-clause-stored g c = rw (← c.len.ensures.same) c.begin.ensures.stored

pub returns-in-Ok-clause-refused : goal.returns-in-Ok-clause-refused
returns-in-Ok-clause-refused g c = (
  refl,
  λ t told empty. (
      let n : c.in-Ok.field-0 ≡ length (as_read t.now) = c.in-Ok.ensures.len t told in
      let z : length (as_read t.now) ≡ 0 = ap (λ (s : Stored). length (as_read s)) empty in
      absurd (c.in-Ok.field-0-test.1 (n ∙ z))
      ),
)
