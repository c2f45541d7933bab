-- In each run with falls each open request of a client that is up is awaited, and each of the administrator: it is
-- lost, or unanswered, or a copy of an answer is ready.
use Rattle.std.proofs.Common.{[], ◌≡◌, ℕ, ◌≤◌, Bool, true, List, refl, sym, ap, ◌∙◌, subst, arith}
use Rattle.qc_list.specs.Vocabulary.{In}
use Rattle.qc_core.proofs.ByNumber.{admin_new, admin_no_client, admin_no_site, admin_risen}
use Rattle.qc_core.specs.declared.actor.Actor.{Actor}
use Rattle.qc_core.specs.declared.actor.Actor.TheVariants as actors
use Rattle.qc_core.specs.Vocabulary.{ActorMove, IsLawfulWithFalls, actor_after, actor_rises, by_admin, new_actor}
use Rattle.qc_decl.specs.declared.declaration.Declaration.{Declaration}
use Rattle.qc_decl.specs.Actors as numbers
use Rattle.qc_decl.specs.Vocabulary.{administrator}
use Rattle.qc_epoch.specs.Vocabulary.{Admin, new_admin}
use Rattle.qc_recover.specs.Vocabulary.{admin_rises}
use Rattle.laws_due.proofs.AdminNumbers.{open_numbers}
use Rattle.laws_turns.specs.Vocabulary.{IsAwaited}
use Rattle.qc_link.specs.Vocabulary.{most_actors}
use Rattle.qc_msg.specs.declared.record.Record.{Record}
use Rattle.qc_msg.specs.Vocabulary.{Entry, deeds}
use Rattle.qc_script.proofs.AllUp.{is_up-everybody}
use Rattle.qc_script.specs.declared.script.Script.{Script}
use Rattle.qc_script.specs.Vocabulary.{Inbox, RunsWithFalls, empty_inbox, everybody, inbox, is_up}
use Rattle.laws_due.proofs.Covered.{Awaits}
use Rattle.laws_due.proofs.ClientsAwait.{run_awaits}

-- and so is each of the administrator

module _ (decl : Declaration) (script : Script) (fits : ℕ → List Record → Type 0)
    (few : numbers.actors decl ≤ most_actors) where
  his_rise : (kept : List Record) → actor_rises decl (administrator decl) kept ≡ by_admin (admin_rises kept)
  his_rise kept = admin_risen decl (administrator decl) (admin_no_site decl) (admin_no_client decl) kept

  first_his : Awaits (administrator decl) (new_actor decl (administrator decl)) empty_inbox
  first_his =
      subst (λ (v : Actor). Awaits (administrator decl) v empty_inbox)
      (sym (admin_new decl (administrator decl) (admin_no_site decl) (admin_no_client decl))) new
    where
      new : Awaits (administrator decl) (actors.Admin new_admin) empty_inbox
      new =
          record {
            up = is_up-everybody everybody (administrator decl) refl;
            calls = λ k member. absurd member;
            plain = tt;
          }

  risen_his : (kept : List Record) (i : Inbox) → is_up i.up (administrator decl) ≡ true
      → Awaits (administrator decl) (actor_rises decl (administrator decl) kept).actor i
  risen_his kept i up =
      subst (λ (m : ActorMove). Awaits (administrator decl) m.actor i) (sym (his_rise kept))
      (record { up = up; calls = λ k member. absurd member; plain = tt })

  he_lives : (kept : List Record) → (actor_rises decl (administrator decl) kept).actor ≡ actors.Down → ⊥
  he_lives kept down =
      let no : actors.Admin (admin_rises kept).admin ≡ actors.Down =
      sym (ap (λ (m : ActorMove). m.actor) (his_rise kept)) ∙ down in
      let never : ⊥ = cc in never

  pub his_requests_awaited : (h : List Entry) (open_inputs : List Bool)
      → RunsWithFalls (IsLawfulWithFalls decl) fits decl script h open_inputs → (m : Admin)
      → (actor_after decl (administrator decl) (deeds (administrator decl) [] h)).actor ≡ actors.Admin m
      → (k : ℕ) → In k (open_numbers m.doing) → IsAwaited k (inbox script (administrator decl) h)
  his_requests_awaited h open_inputs run m is =
      (subst (λ (v : Actor). Awaits (administrator decl) v (inbox script (administrator decl) h)) is
      (run_awaits decl script (administrator decl) fits few (omega arith) first_his
      (λ kept. ap (λ (x : ActorMove). x.turn) (his_rise kept)) he_lives risen_his h open_inputs run)).calls
