-- What each client of a run with falls has done: by turns, due, given back, and told.
use Rattle.std.proofs.Common.{◌≡◌, ◌<◌, ◌≤◌, ℕ, ◌+◌, ◌-◌, nat_le, nat_lt, Bool, true, false, List, [], Some, slice_get}
use Rattle.std.proofs.Common.{refl, sym, subst, le-leb, lt-ltb, arith}
use Rattle.laws_due.specs.Vocabulary.{Declares}
use Rattle.laws_due.proofs.Commands.{no_site}
use Rattle.laws_due.proofs.AccountDeclared.{scripts_ask_what_is_declared}
use Rattle.qc_core.specs.Vocabulary.{AreGivenBack, IsLawfulWithFalls}
use Rattle.laws_reach.specs.Vocabulary.{AreCommitsTold}
use Rattle.qc_decl.specs.Vocabulary.{IsAccepted, actors, administrator, client_actor, is_client}
use Rattle.qc_decl.proofs.Clients.{client_below, client_past}
use Rattle.qc_decl.specs.declared.declaration.Declaration.{Declaration}
use Rattle.laws_due.proofs.Declared.{run_declares}
use Rattle.laws_due.proofs.KeptPlanned.{runs_with_falls_are_due_where_records_are_kept}
use Rattle.laws_due.proofs.KeptPlanned.{what_rises_is_planned_where_records_are_kept}
use Rattle.laws_turns.specs.Vocabulary.{AsksDeclared, LivesIn}
use Rattle.qc_link.specs.Vocabulary.{most_actors}
use Rattle.laws_turns.proofs.Lived.{actors_live_in_runs_with_falls, run_long}
use Rattle.qc_msg.specs.declared.record.Record.{Record}
use Rattle.qc_msg.specs.Vocabulary.{Deed, Entry, deeds}
use Rattle.qc_promise.specs.Vocabulary.{AreByTurns, AreRepliesDue, Due, Kept, no_journal}
use Rattle.qc_script.specs.Vocabulary.{IsScriptFor, RunsWithFalls}
use Rattle.qc_script.specs.declared.script.Script.{Script}
use Rattle.qc_core.proofs.KeptBack.{rises_give_back_journals_where_records_are_kept}
use Rattle.laws_reach.proofs.Posts.{lives_told}
use Rattle.qc_list.proofs.Places.{some_at}

-- the number of a client, and its actor

pub client_is : (decl : Declaration) (n : ℕ) → n < decl.clients → is_client decl (client_actor decl n) ≡ true
client_is decl n low =
    let x : nat_le decl.sites (decl.sites + n) ≡ true = le-leb decl.sites (decl.sites + n) (omega arith) in
    let y : nat_lt (decl.sites + n) (decl.sites + decl.clients) ≡ true =
    lt-ltb (decl.sites + n) (decl.sites + decl.clients) (omega arith) in
    rw (x, y) refl

pub record IsNumbered (decl : Declaration) (a : ℕ) : Type 0 where
  pub low : a - decl.sites < decl.clients
  pub is : a ≡ client_actor decl (a - decl.sites)

pub numbered : (decl : Declaration) (a : ℕ) → is_client decl a ≡ true → IsNumbered decl a
numbered decl a client =
    let above : decl.sites ≤ a = client_past decl a client in
    let below : a < administrator decl = client_below decl a client in
    record { low = omega arith; is = omega arith }

-- the deeds of a client, as its laws want them
pub record AreDone (decl : Declaration) (client : ℕ) (ds : List Deed) : Type 0 where
  pub turns : AreByTurns false ds
  pub replies : AreRepliesDue decl client ds
  pub back : AreGivenBack no_journal ds
  pub told : AreCommitsTold ds

module _ (fits : ℕ → List Record → Type 0) (decl : Declaration) (script : Script) (h : List Entry)
    (open_inputs : List Bool) (accepted : IsAccepted decl) (sound : IsScriptFor decl script)
    (run : RunsWithFalls (IsLawfulWithFalls decl) fits decl script h open_inputs) (kept : Kept h) where
  few : actors decl ≤ most_actors
  few = let s = accepted.sites in let c = accepted.clients in omega arith

  asks : AsksDeclared decl script
  asks = scripts_ask_what_is_declared decl script accepted sound

  due : Due decl h
  due = runs_with_falls_are_due_where_records_are_kept decl script fits accepted asks few h open_inputs run kept

  module _ (n : ℕ) (low : n < decl.clients) where
    abbrev its : List Deed
    its = deeds (client_actor decl n) [] h

    within : client_actor decl n < actors decl
    within = omega arith

    commits_told : AreCommitsTold its
    commits_told = on (some_at open_inputs (client_actor decl n)
        (subst (λ (k : ℕ). client_actor decl n < k) (sym (run_long decl script fits few h open_inputs run)) within))
      where
        declared : Declares decl its
        declared = run_declares decl script fits accepted asks h open_inputs run
            (what_rises_is_planned_where_records_are_kept decl script fits accepted asks h open_inputs run kept)
            (client_actor decl n)

        on : (t : Bool) × (slice_get open_inputs (client_actor decl n) ≡ Some t) → AreCommitsTold its
        on place =
            let lived : LivesIn decl (client_actor decl n) h place.0 =
            actors_live_in_runs_with_falls decl script fits few h open_inputs run (client_actor decl n) place.0 place.1
            in
            lives_told decl (client_actor decl n) (client_is decl n low) declared.first its place.0 lived.above
            lived.lives declared.deeds

    pub all_done : AreDone decl n its
    all_done = record {
      turns = subst (λ (b : Bool). AreByTurns b its) (no_site decl (client_actor decl n) (client_is decl n low))
          (due.turns (client_actor decl n) within);
      replies = due.replies n low;
      back = rises_give_back_journals_where_records_are_kept h kept (client_actor decl n);
      told = commits_told;
    }
