-- What suffices for a declaration whose fields are read: certificates that are inductive, and plans that are admitted.
use Rattle.std.specs.Prelude.{◌≡◌, ℕ, List, Some, slice_get}
use Rattle.qc_accept.specs.Accept.{DraftOf}
use Rattle.qc_cert.specs.Vocabulary.{IsInductive}
use Rattle.qc_cert.specs.declared.triple.Triple.{Triple}
use Rattle.qc_plan.specs.Vocabulary.{IsAdmitted}
use Rattle.qc_plan.specs.declared.plan.Plan.{Plan}
use Rattle.qc_table.specs.declared.kind.Kind.{Kind}

-- each type's triples are inductive
abbrev pub AreInductive : DraftOf → Type 0
AreInductive d =
    (number : ℕ) (kind : Kind) (list : List Triple) → slice_get d.decl.kinds number ≡ Some kind
    → slice_get d.triples number ≡ Some list → IsInductive kind list

-- each epoch's plan is admitted
abbrev pub AreAdmitted : DraftOf → Type 0
AreAdmitted d = (place : ℕ) (plan : Plan) → slice_get d.decl.plans place ≡ Some plan
    → IsAdmitted plan d.decl.kinds d.decl.objects
