-- Two committed operations are found to be out of order: one depends on the other, hasn't its line, and has no smaller
-- stamp.
use Rattle.std.proofs.Common.{◌≡◌, ℕ, ◌<◌, ◌≤◌, ◌⊎◌, inl, inr, IsSome, IsTrue, List, [], ◌∷◌, Option, Some, None}
use Rattle.std.proofs.Common.{option_map, refl, ap, subst, arith}
use Rattle.qc_decl.specs.declared.declaration.Declaration.{Declaration}
use Rattle.qc_stamp.specs.declared.stamp.Stamp.{Stamp}
use Rattle.qc_entry.specs.declared.line.Line.{Line}
use Rattle.qc_entry.specs.declared.record.Commit.{Commit as CommitRecord}
use Rattle.theory_onecopy.specs.Vocabulary.{Executed, committed_line, depends_at, own_line}
use Rattle.qc_list.specs.Vocabulary.{In}
use Rattle.theory_machine.specs.Vocabulary.{Act, State, state}
use Rattle.theory_witnesses.proofs.Broken.{other_number}
use Rattle.theory_witnesses.proofs.Finding.{IsFound, at_most, both, is_true, same_number, some}
use Rattle.theory_witnesses.specs.Vocabulary.{Holds, OperationsAreOrdered}

abbrev IsMissed : Declaration → CommitRecord → Executed → CommitRecord → Executed → Type 0
IsMissed decl c earlier d later =
    (c.stamp.client ≡ d.stamp.client → ⊥) × ((earlier.op.object ≡ later.op.object) × (IsSome earlier.op.resp
    × (IsTrue (depends_at decl later.op.object later.op.inv earlier.event)
    × ((later.view ≡ []) × (c.stamp.clock ≤ d.stamp.clock)))))

abbrev has_response : (o : Option ℕ) → Option (IsSome o)
has_response None = None
has_response (Some r) = Some refl

abbrev no_lines : (view : List Line) → Option (view ≡ [])
no_lines [] = Some refl
no_lines (l ∷ ls) = None

abbrev missed : (decl : Declaration) (c : CommitRecord) (earlier : Executed) (d : CommitRecord) (later : Executed)
    → Option (IsMissed decl c earlier d later)
missed decl c earlier d later =
    both (other_number c.stamp.client d.stamp.client)
    (both (same_number earlier.op.object later.op.object) (both (has_response earlier.op.resp)
    (both (is_true (depends_at decl later.op.object later.op.inv earlier.event))
    (both (no_lines later.view) (at_most c.stamp.clock d.stamp.clock)))))

abbrev IsMissedIn : Declaration → State → CommitRecord → Executed → CommitRecord → Type 0
IsMissedIn decl now c earlier d = IsFound (IsMissed decl c earlier d) (now.executed d.tx)

abbrev IsMissedBy : Declaration → State → CommitRecord → Executed → Type 0
IsMissedBy decl now c earlier = IsFound (IsMissedIn decl now c earlier) now.records

abbrev IsMissedOf : Declaration → State → CommitRecord → Type 0
IsMissedOf decl now c = IsFound (IsMissedBy decl now c) (now.executed c.tx)

abbrev find_missed : (decl : Declaration) (now : State) → Option (IsFound (IsMissedOf decl now) now.records)
find_missed decl now =
    some (IsMissedOf decl now) (λ c. some (IsMissedBy decl now c)
    (λ a. some (IsMissedIn decl now c a) (λ d. some (IsMissed decl c a d) (missed decl c a d) (now.executed d.tx))
    now.records) (now.executed c.tx)) now.records

neither : (decl : Declaration) (c : CommitRecord) (earlier : Executed) (d : CommitRecord) (later : Executed)
    → IsMissed decl c earlier d later
    → In (committed_line c.stamp c.tx (own_line earlier)) later.view ⊎ (d.stamp.clock < c.stamp.clock) → ⊥
neither decl c earlier d later p (inl seen) =
    subst (λ (v : List Line). In (committed_line c.stamp c.tx (own_line earlier)) v) ((((p.1).1).1).1).0 seen
neither decl c earlier d later p (inr less) = let most : c.stamp.clock ≤ d.stamp.clock = ((((p.1).1).1).1).1 in
    omega arith

pub out_of_order : (decl : Declaration) (acts : List Act) → IsFound (IsMissedOf decl (state acts)) (state acts).records
    → Holds OperationsAreOrdered decl acts → ⊥
out_of_order decl acts f h =
    let g : IsFound (IsMissedBy decl (state acts) f.item) ((state acts).executed f.item.tx) = f.holds in
    let k : IsFound (IsMissedIn decl (state acts) f.item g.item) (state acts).records = g.holds in
    let l : IsFound (IsMissed decl f.item g.item k.item) ((state acts).executed k.item.tx) = k.holds in
    let p : IsMissed decl f.item g.item k.item l.item = l.holds in
    neither decl f.item g.item k.item l.item p
    (h f.item k.item g.item l.item f.stands k.stands g.stands l.stands (λ e. p.0 (ap (λ (s : Stamp). s.client) e))
    (p.1).0 ((p.1).1).0 (((p.1).1).1).0)

-- an operation depends on another, whose line its view lacks, and its stamp isn't smaller
abbrev pub not_ordered : (decl : Declaration) (acts : List Act) → Option (Holds OperationsAreOrdered decl acts → ⊥)
not_ordered decl acts = option_map (out_of_order decl acts) (find_missed decl (state acts))
