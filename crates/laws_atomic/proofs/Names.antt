-- A script that was read for an accepted declaration names what is declared.
use Rattle.std.proofs.Common.{◌≡◌, ℕ, ◌-◌, ◌<◌, ◌≤◌, ◌==◌, Bool, true, false, cond, List, [], length, Option, Some}
use Rattle.std.proofs.Common.{None, slice_get, refl, ap, ◌∙◌, arith, eqb-true}
use Rattle.std.specs.Prelude.{option_and_then}
use Rattle.std.specs.Str.{bytes_eq}
use Rattle.std.proofs.lemmas.List.Quantifiers.{position-Some}
use Rattle.qc_list.proofs.Members.{every-In}
use Rattle.qc_table.specs.declared.kind.Kind.{Kind}
use Rattle.qc_decl.specs.Vocabulary.{IsAccepted, inv_named, place_of}
use Rattle.qc_decl.specs.declared.declaration.Declaration.{Declaration}
use Rattle.qc_decl.specs.declared.declaration.KindNames.{KindNames}
use Rattle.qc_msg.specs.declared.step.Command.{Command}
use Rattle.qc_msg.specs.declared.step.Command.TheVariants.{Begin, Do, Commit, Abort, Epoch}
use Rattle.qc_script.specs.Vocabulary.{IsAskedFor, IsCommandFor, IsPhaseFor, IsScriptFor}
use Rattle.qc_script.specs.declared.script.Script.{Script}
use Rattle.laws_refinement.specs.Vocabulary.{IsNamed, IsNamedAt, IsPlanned}
use Rattle.qc_plan.specs.declared.plan.Plan.{Plan}
use Rattle.laws_atomic.specs.Vocabulary.{AreNamed}
use Rattle.qc_list.proofs.Places.{some_at}

module _ (decl : Declaration) (accepted : IsAccepted decl) where
  -- an invocation that has a name is its type's
  inv_is : (object inv : ℕ) (name : List ℕ) → inv_named decl object name ≡ Some inv → IsNamedAt decl object inv
  inv_is object inv name is = by_object (slice_get decl.objects object) refl is
    where
      by_names : (number : ℕ) (o : Option KindNames) → slice_get decl.objects object ≡ Some number
          → slice_get decl.kind_names number ≡ o → option_and_then (λ (names : KindNames). place_of names.invs name) o
          ≡ Some inv → IsNamedAt decl object inv
      by_names number None at none e = absurd (let never : ⊥ = cc in never)
      by_names number (Some names) at found e =
          let k : (kind : Kind) × (slice_get decl.kinds number ≡ Some kind) =
          some_at decl.kinds number (accepted.typed object number at) in
          let low : inv < length names.invs = (position-Some (bytes_eq name) names.invs inv [] e).0 in
          let many : length names.invs ≡ k.0.table.invs = (accepted.names number k.0 names k.1 found).invs.count in
          (k.0, ap (option_and_then (slice_get decl.kinds)) at ∙ k.1, (omega arith))

      by_object : (o : Option ℕ) → slice_get decl.objects object ≡ o
          → option_and_then (λ (names : KindNames). place_of names.invs name)
          (option_and_then (slice_get decl.kind_names) o) ≡ Some inv → IsNamedAt decl object inv
      by_object None none e = absurd (let never : ⊥ = cc in never)
      by_object (Some number) at e = by_names number (slice_get decl.kind_names number) at refl e

  -- an epoch of a declared number has a plan
  planned : (number : ℕ) → 2 ≤ number → number ≤ length decl.plans → IsPlanned decl number
  planned number low high = by (number == 0) refl
    where
      by : (b : Bool) → (number == 0) ≡ b → IsPlanned decl number
      by true is = absurd (let none : number ≡ 0 = eqb-true number 0 is in let never : ⊥ = omega arith in never)
      by false is =
          let at : (plan : Plan) × (slice_get decl.plans (number - 1) ≡ Some plan) =
          some_at decl.plans (number - 1) (omega arith) in
          (at.0, ap (λ (b : Bool). cond b None (slice_get decl.plans (number - 1))) is ∙ at.1)

  asked_named : (actor : ℕ) (c : Command) → IsAskedFor decl actor c → IsNamed decl c
  asked_named actor Begin is = tt
  asked_named actor (Do object inv) is = inv_is object inv is.2.0 is.2.1
  asked_named actor Commit is = tt
  asked_named actor Abort is = tt
  asked_named actor (Epoch number) is = planned number is.1 is.2

  pub script_named : (script : Script) → IsScriptFor decl script → AreNamed decl script
  script_named script sound p line listed among =
      let of_phase : IsPhaseFor decl p = every-In (IsPhaseFor decl) p script.phases sound.phases listed in
      asked_named line.actor line.command (every-In (IsCommandFor decl) line p.commands of_phase.1 among)
