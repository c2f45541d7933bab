-- A client that falls as it writes a commit record has committed it just where it rises with it.
use Rattle.std.proofs.Common.{◌≡◌, ℕ, Bool, true, List, [], ◌∷◌, ◌++◌, if◌then◌else◌, inl, inr, refl, sym, ap, subst}
use Rattle.std.proofs.Common.{Some}
use Rattle.std.specs.Prelude.{sum_by}
use Rattle.laws_votes.specs.Vocabulary.{committed_operations}
use Rattle.qc_decl.specs.Vocabulary.{is_client}
use Rattle.qc_decl.specs.declared.declaration.Declaration.{Declaration}
use Rattle.qc_entry.specs.declared.record.Commit.{Commit as CommitRecord}
use Rattle.qc_msg.specs.Vocabulary.{Entry, answered, commit, marked, own, risen}
use Rattle.qc_msg.specs.declared.record.Record.{Record}
use Rattle.qc_msg.specs.declared.record.Record.TheVariants.{Commit}
use Rattle.qc_msg.specs.declared.step.Fall.TheVariants.{Stop}
use Rattle.qc_msg.specs.declared.step.Step.TheVariants.{Fell, Rose}
use Rattle.theory_onecopy.specs.Vocabulary.{sorted}
use Rattle.qc_promise.specs.Vocabulary.{IsGivenBack, IsKeptAt, Kept}

-- with the record, or without it, it is given back what disks are trusted with

rises_kept : (rs : List Record) → IsGivenBack (record { records = []; pending = Some (Commit commit) }) rs
    → Kept (risen rs)
rises_kept rs back [] later e is =
    let first : e ≡ marked 1 (Fell Stop (Some (Commit commit))) = cc in
    subst (λ (x : Entry). IsKeptAt (own x.actor []) x.step) (sym first) tt
rises_kept rs back (x ∷ []) later e is =
    let first : x ≡ marked 1 (Fell Stop (Some (Commit commit))) = cc in
    let second : e ≡ marked 1 (Rose rs) = cc in
    subst (λ (y : Entry). IsKeptAt (own y.actor (x ∷ [])) y.step) (sym second)
    (subst (λ (y : Entry). IsKeptAt (own 1 (y ∷ [])) (Rose rs)) (sym first) back)
rises_kept rs back (x ∷ y ∷ []) later e is = absurd (let never : ⊥ = cc in never)
rises_kept rs back (x ∷ y ∷ z ∷ before) later e is = absurd (let never : ⊥ = cc in never)

pub kept_with : Kept (risen (Commit commit ∷ []))
kept_with = rises_kept (Commit commit ∷ []) (inr refl)

pub kept_without : Kept (risen [])
kept_without = rises_kept [] (inl refl)

abbrev counted_if : Bool → List CommitRecord → ℕ
counted_if t given = sum_by (λ (c : CommitRecord). answered c.ops)
    (sorted ((if t then [] else []) ++ ((if t then given else []) ++ [])))

pub given_one : (decl : Declaration) → is_client decl 1 ≡ true
    → committed_operations decl (risen (Commit commit ∷ [])) ≡ 1
given_one decl client = ap (λ (t : Bool). counted_if t (commit ∷ [])) client

pub given_none : (decl : Declaration) → is_client decl 1 ≡ true → committed_operations decl (risen []) ≡ 0
given_none decl client = ap (λ (t : Bool). counted_if t []) client
