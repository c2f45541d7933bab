use Rattle.std.proofs.Common.{◌≡◌, map}
use Rattle.qc_accept.specs.Vocabulary.{first_other, table_in}
use Rattle.qc_accept.proofs.Tables.{other_of}
use Rattle.qc_accept.proofs.fields.Fields.no_others.Given as goal

abbrev pub invariant-loop-key : goal.invariant-loop-key
invariant-loop-key l =
    (goal.iterator-loop-key).can_next l.key-iterator ×
    (goal.iterator-loop-key).is_finite l.key-iterator ×
    (first_other (map (λ k. k.now) l.known) (table_in l.self) ≡ other_of (map (λ k. k.now) l.known) l.key-iterator)
