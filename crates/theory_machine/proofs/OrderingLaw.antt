-- The ordering lemma, of the commit records and their operations.
use Rattle.std.proofs.Common.{◌≡◌, ◌≢◌, ◌<◌, IsTrue, ◌⊎◌, List, IsSome}
use Rattle.qc_entry.specs.declared.record.Commit.{Commit as CommitRecord}
use Rattle.qc_decl.specs.declared.declaration.Declaration.{Declaration}
use Rattle.qc_decl.specs.Vocabulary.{IsAccepted}
use Rattle.theory_onecopy.specs.Vocabulary.{Executed, committed_line, depends_at, own_line, sorted}
use Rattle.qc_list.specs.Vocabulary.{In}
use Rattle.theory_onecopy.proofs.Committed.{records_are_sorted}
use Rattle.theory_machine.specs.Vocabulary.{Act, IsRun, place, state}
use Rattle.theory_machine.proofs.ClaimLaws.{records_are_apart}
use Rattle.theory_machine.proofs.Ordering.{ordered}
use Rattle.theory_machine.proofs.PlacedOperations.{placed_of}

pub dependent_operations_are_ordered : (decl : Declaration) → IsAccepted decl → (acts : List Act) → IsRun decl acts
    → (c d : CommitRecord) (a b : Executed)
    → In c (state acts).records → In d (state acts).records → In a ((state acts).executed c.tx)
    → In b ((state acts).executed d.tx)
    → c.stamp ≢ d.stamp → a.op.object ≡ b.op.object → IsSome a.op.resp
    → IsTrue (depends_at decl b.op.object b.op.inv a.event)
    → In (committed_line c.stamp c.tx (own_line a)) b.view ⊎ (d.stamp.clock < c.stamp.clock)
dependent_operations_are_ordered decl accepted acts run c d a b hc hd ha hb ne object some dep =
    let s = records_are_sorted (state acts).records (records_are_apart decl accepted acts run).stamps in
    ordered decl accepted acts run (sorted (state acts).records) s.0 s.1 (place c a) (place d b)
    (placed_of (state acts).executed (sorted (state acts).records) c a ((s.1 c).1 hc) ha)
    (placed_of (state acts).executed (sorted (state acts).records) d b ((s.1 d).1 hd) hb)
    ne object some dep
