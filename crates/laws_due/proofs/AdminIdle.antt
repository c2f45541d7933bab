-- Where nobody falls the administrator does nothing but take one input, which is due.
use Rattle.std.proofs.Common.{◌≡◌, ℕ, Bool, false, List, [], ◌∷◌, ◌++◌, Some, slice_get, refl, sym, subst, arith}
use Rattle.qc_core.specs.Vocabulary.{Acts, IsLawful}
use Rattle.qc_core.specs.Acts as acts
use Rattle.qc_decl.specs.Vocabulary.{administrator}
use Rattle.qc_decl.specs.declared.declaration.Declaration.{Declaration}
use Rattle.laws_turns.specs.Vocabulary.{ActsIn}
use Rattle.laws_turns.proofs.Acted.{has_entry, actors_take_and_post_by_turns}
use Rattle.laws_turns.proofs.Idle.{no_turn}
use Rattle.qc_msg.specs.declared.step.Input.{Input}
use Rattle.qc_msg.specs.declared.step.Input.TheVariants as inputs
use Rattle.qc_msg.specs.Vocabulary.{Deed, Entry, Takes, deeds}
use Rattle.qc_promise.specs.Vocabulary.{IsAdminDue, IsAdminFree, new_admin_account}
use Rattle.qc_script.specs.Vocabulary.{Runs}
use Rattle.qc_script.specs.declared.script.Script.{Script}

free_at_first : (g : Input) → IsAdminFree new_admin_account g
free_at_first (inputs.Called command) = refl
free_at_first (inputs.Got envelope) = tt
free_at_first (inputs.Lost number) = tt

module _ (decl : Declaration) where
  none_posted : (ds : List Deed) (n : ℕ) → Acts decl (administrator decl) ds false n → ds ≡ []
  none_posted ds n acts.starts = refl
  none_posted ds n (acts.posts before turn m first done low law) =
      absurd (no_turn decl (administrator decl) (omega arith) before turn law)

  idle_due : (ds : List Deed) (t : Bool) (n : ℕ) → Acts decl (administrator decl) ds t n → IsAdminDue decl ds
  idle_due ds t n acts.starts = tt
  idle_due ds t n (acts.takes before g m done may) =
      subst (λ (v : List Deed). IsAdminDue decl (v ++ Takes g ∷ [])) (sym (none_posted before m done))
      ((refl, refl, free_at_first g), tt)
  idle_due ds t n (acts.posts before turn m first done low law) =
      absurd (no_turn decl (administrator decl) (omega arith) before turn law)

  pub run_admin_due : (script : Script) (h : List Entry) (open_inputs : List Bool)
      → Runs (IsLawful decl) decl script h open_inputs → IsAdminDue decl (deeds (administrator decl) [] h)
  run_admin_due script h open_inputs run =
      by (has_entry (IsLawful decl) decl script h open_inputs run (administrator decl) (omega arith))
    where
      by : (t : Bool) × (slice_get open_inputs (administrator decl) ≡ Some t)
          → IsAdminDue decl (deeds (administrator decl) [] h)
      by place =
          let r : ActsIn decl (administrator decl) h place.0 =
          actors_take_and_post_by_turns decl script h open_inputs run (administrator decl) place.0 place.1 in
          idle_due (deeds (administrator decl) [] h) place.0 r.above r.acts
