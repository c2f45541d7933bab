use Rattle.std.proofs.Common.{rules, ◌≡◌, [], refl, ◌∙◌, ap, subst, length}
use Rattle.qc_journal.specs.Vocabulary.{Rests, lists}
use Rattle.qc_process.specs.Vocabulary.{OpenJournal}
use Rattle.qc_process.proofs.Beginnings.{begun, none_in, not_begun_as}
use Rattle.qc_process.proofs.beginning.begin.Goals as goal

pub returns-then-is_empty-clause-stored : goal.returns-then-is_empty-clause-stored
returns-then-is_empty-clause-stored g c tells decl a still =
    let o : OpenJournal = record { end = c.in-Ok.journal.end; records = c.in-Ok.journal.records } in
    let zero : length c.in-Ok.bodies.items ≡ 0 = search rules in
    let none : c.in-Ok.bodies.items ≡ [] = none_in c.in-Ok.bodies.items zero in
    begun tells decl a _ o refl c.in-Ok.ensures.account
    (subst (λ l. Rests (g.D.Disk.told c.in-Ok.journal.disk.inner) c.in-Ok.journal.end (lists l)) none
    c.in-Ok.ensures.rests)
    (c.in-Ok.ensures.records ∙ ap length none) (λ yes. c.in-Ok.ensures.tells (still yes))

pub returns-clause-refused : goal.returns-clause-refused
returns-clause-refused g c =
    rw c.unopened.ensures
    (not_begun_as c.args.actor _ _ _ _ c.in-Err.fault c.in-Err.ensures.cause c.in-Err.ensures.torn)
