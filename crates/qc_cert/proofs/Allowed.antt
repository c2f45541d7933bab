-- Which responses only one of two states allows.
use Rattle.std.proofs.Common.{◌≡◌, ℕ, Bool, true, false, cond, Some, None, refl, sym, ap, ◌∙◌}
use Rattle.std.specs.Prelude.{◌↔◌, IsBitSet, IsTrue, not}
use mathlib.Core.Bool.{beq}
use Rattle.qc_cert.specs.Vocabulary.{AreAllowed, is_allowed, unequal_fault}
use Rattle.qc_cert.specs.declared.fault.CertFault.{CertFault}
use Rattle.qc_cert.specs.declared.fault.CertFault.TheVariants.{Unequal}
use Rattle.qc_cert.specs.declared.triple.Triple.{Triple}
use Rattle.qc_table.specs.declared.kind.Kind.{Kind}

-- two tests of one fact agree
agree : {P : Type 0} (a b : Bool) → (IsTrue a ↔ P) → (P ↔ IsTrue b) → a ≡ b
agree true b l r = sym (r.0 (l.0 refl))
agree false true l r = l.1 (r.1 refl)
agree false false l r = refl

different : (a b : Bool) (fault : CertFault) → not (beq a b) ≡ true
    → cond a (cond b None (Some fault)) (cond b (Some fault) None) ≡ Some fault
different true true fault e = absurd (let never : ⊥ = cc in never)
different true false fault e = refl
different false true fault e = refl
different false false fault e = absurd (let never : ⊥ = cc in never)

alike : (a b : Bool) (fault : CertFault) → a ≡ b → cond a (cond b None (Some fault)) (cond b (Some fault) None) ≡ None
alike true true fault e = refl
alike true false fault e = absurd (let never : ⊥ = cc in never)
alike false true fault e = absurd (let never : ⊥ = cc in never)
alike false false fault e = refl

-- a response in one of the sets alone is a fault
pub unequal_here : (kind : Kind) (place : ℕ) (t : Triple) (inv resp view log : ℕ) (a b : Bool)
    → AreAllowed kind t.view inv view → AreAllowed kind t.log inv log
    → (IsTrue a ↔ IsBitSet view resp) → (IsTrue b ↔ IsBitSet log resp) → not (beq a b) ≡ true
    → Some (Unequal place inv resp) ≡ unequal_fault kind place t inv resp
unequal_here kind place t inv resp view log a b v l ia ib ne =
    let here : a ≡ is_allowed kind t.view inv resp = agree a _ ia (v resp) in
    let there : b ≡ is_allowed kind t.log inv resp = agree b _ ib (l resp) in
    sym (different _ _ (Unequal place inv resp)
    (ap (λ x. not (beq x (is_allowed kind t.log inv resp))) (sym here) ∙ ap (λ x. not (beq a x)) (sym there) ∙ ne))

-- where the sets are one, none is a fault
pub equal_everywhere : (kind : Kind) (place : ℕ) (t : Triple) (inv set : ℕ) → AreAllowed kind t.view inv set
    → AreAllowed kind t.log inv set
    → (resp : ℕ) → unequal_fault kind place t inv resp ≡ None
equal_everywhere kind place t inv set v l resp =
    alike _ _ (Unequal place inv resp) (agree (is_allowed kind t.view inv resp) _ (let h = v resp in (h.1, h.0))
    (l resp))
