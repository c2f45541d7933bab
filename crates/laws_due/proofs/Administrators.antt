-- In each run with falls all that the administrator does is due.
use Rattle.std.proofs.Common.{◌≡◌, ◌<◌, ◌≤◌, ℕ, ◌==◌, Bool, true, false, List, [], length, Some, slice_get, refl, sym}
use Rattle.std.proofs.Common.{subst, eqb-true, arith}
use Rattle.qc_core.specs.Vocabulary.{IsLawfulWithFalls, Lives}
use Rattle.qc_decl.specs.Vocabulary.{actors, administrator}
use Rattle.qc_decl.specs.declared.declaration.Declaration.{Declaration}
use Rattle.qc_link.specs.Vocabulary.{most_actors}
use Rattle.laws_turns.specs.Vocabulary.{LivesIn}
use Rattle.laws_turns.proofs.Lived.{actors_live_in_runs_with_falls, run_long}
use Rattle.qc_msg.specs.declared.record.Record.{Record}
use Rattle.qc_msg.specs.Vocabulary.{Deed, Entry, deeds}
use Rattle.qc_promise.specs.Vocabulary.{IsAdminDue}
use Rattle.qc_script.specs.Vocabulary.{RunsWithFalls}
use Rattle.qc_script.specs.declared.script.Script.{Script}
use Rattle.laws_due.proofs.AdminLives.{admin_due_in}
use Rattle.qc_list.proofs.Places.{some_at}

-- there is a site to install
pub some_site : (decl : Declaration) → 0 < decl.sites → (decl.sites == 0) ≡ false
some_site decl some = by (decl.sites == 0) refl
  where
    by : (b : Bool) → (decl.sites == 0) ≡ b → b ≡ false
    by true none = absurd (let is : decl.sites ≡ 0 = eqb-true decl.sites 0 none in omega (arith, some))
    by false none = refl

pub lives_of_the_administrator_are_due : (decl : Declaration) → 0 < decl.sites → (ds : List Deed) (b : Bool) (n : ℕ)
    → Lives decl (administrator decl) ds b n → IsAdminDue decl ds
lives_of_the_administrator_are_due decl some ds b n life = admin_due_in decl (some_site decl some) ds b n life

pub run_admin_due : (decl : Declaration) (script : Script) (fits : ℕ → List Record → Type 0) → 0 < decl.sites
    → actors decl ≤ most_actors → (h : List Entry) (open_inputs : List Bool)
    → RunsWithFalls (IsLawfulWithFalls decl) fits decl script h open_inputs
    → IsAdminDue decl (deeds (administrator decl) [] h)
run_admin_due decl script fits some few h open_inputs run =
    on (some_at open_inputs (administrator decl) placed)
  where
    placed : administrator decl < length open_inputs
    placed = subst (λ (n : ℕ). administrator decl < n) (sym (run_long decl script fits few h open_inputs run))
        (omega arith)

    on : (t : Bool) × (slice_get open_inputs (administrator decl) ≡ Some t)
        → IsAdminDue decl (deeds (administrator decl) [] h)
    on place =
        let lived : LivesIn decl (administrator decl) h place.0 =
        actors_live_in_runs_with_falls decl script fits few h open_inputs run (administrator decl) place.0 place.1 in
        lives_of_the_administrator_are_due decl some (deeds (administrator decl) [] h) place.0 lived.above lived.lives
