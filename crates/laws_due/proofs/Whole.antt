-- In each run all that clients tell and write is due.
use Rattle.std.proofs.Common.{◌≡◌, ◌⊎◌, ◌<◌, ℕ, ◌-◌, ◌&&◌, Bool, true, false, List, [], Some, None, slice_get, refl}
use Rattle.std.proofs.Common.{sym, ◌∙◌, subst, le-leb, lt-ltb, arith}
use Rattle.qc_core.specs.Vocabulary.{Acts, IsLawful}
use Rattle.qc_decl.specs.Vocabulary.{IsAccepted, actors, administrator, client_actor, is_client}
use Rattle.qc_decl.specs.declared.declaration.Declaration.{Declaration}
use Rattle.laws_turns.proofs.Acted.{has_entry, actors_take_and_post_by_turns}
use Rattle.laws_turns.proofs.ByMail.{actors_go_by_turns, messages_reach_their_receivers}
use Rattle.laws_turns.proofs.Served.{what_sites_post_is_due}
use Rattle.laws_turns.specs.Vocabulary.{ActsIn, AsksDeclared}
use Rattle.qc_msg.specs.declared.turn.Turn.{Turn}
use Rattle.qc_msg.specs.Vocabulary.{Deed, Entry, deeds}
use Rattle.qc_promise.specs.Vocabulary.{AreRepliesDue, Due, account, account_of, due, new_account}
use Rattle.qc_script.specs.Vocabulary.{Runs}
use Rattle.qc_script.specs.declared.script.Script.{Script}
use Rattle.laws_due.specs.Vocabulary.{Declares, IsWaiting, NoneRuns}
use Rattle.laws_due.proofs.AdminIdle.{run_admin_due}
use Rattle.laws_due.proofs.Awaits.{clients_owe_nothing, commands_wait_for_requests}
use Rattle.laws_due.proofs.Courses.{deeds_of_clients_are_by_rows, turns_tell_their_rows}
use Rattle.laws_due.proofs.Declaring.{run_declares}
use Rattle.laws_due.proofs.DuesOfDeeds.{due_is, none_due}
use Rattle.laws_due.proofs.Dues.{all_due, within_all, within_first}
use Rattle.laws_due.proofs.StaysUp.{stays_up}
use Rattle.qc_core.proofs.Steady.{acts_steady}

module _ (decl : Declaration) (a : ℕ) (client : is_client decl a ≡ true) where
  -- what a client does is due

  pub deeds_of_clients_are_due : (ds : List Deed) (b : Bool) (n : ℕ) → Acts decl a ds b n → Declares decl ds
      → AreRepliesDue decl (a - decl.sites) ds
  deeds_of_clients_are_due ds b n acts are =
      all_due decl ds (new_account (a - decl.sites)) (acts_steady decl a ds b n acts) are.deeds
      (within_first decl (a - decl.sites) ds are) (deeds_of_clients_are_by_rows decl a client ds b n acts)

  pub turns_tell_what_is_due : (ds : List Deed) (n : ℕ) (turn : Turn) → Acts decl a ds true n → Declares decl ds
      → IsLawful decl a ds turn → turn.told ≡ due decl (account_of decl (a - decl.sites) ds) false
  turns_tell_what_is_due ds n turn acts are law =
      turns_tell_their_rows decl a client ds n turn acts law
      ∙ sym (due_is decl (account_of decl (a - decl.sites) ds)
      (within_all decl ds (new_account (a - decl.sites)) (acts_steady decl a ds true n acts) are.deeds
      (within_first decl (a - decl.sites) ds are)))

  -- and nothing is left untold
  pub what_is_due_is_told : (ds : List Deed) (n : ℕ) → Acts decl a ds false n
      → due decl (account_of decl (a - decl.sites) ds) false ≡ None
  what_is_due_is_told ds n acts =
      none_due decl (account_of decl (a - decl.sites) ds)
      (stays_up decl ds (new_account (a - decl.sites)) (acts_steady decl a ds false n acts) refl)
      (clients_owe_nothing decl a client ds n acts)

-- in a run

module _ (decl : Declaration) (script : Script) (h : List Entry) (open_inputs : List Bool)
    (run : Runs (IsLawful decl) decl script h open_inputs) where
  -- a client without an open input

  module _ (a : ℕ) (client : is_client decl a ≡ true) (free : slice_get open_inputs a ≡ Some false) where
    acted : ActsIn decl a h false
    acted = actors_take_and_post_by_turns decl script h open_inputs run a false free

    pub commands_wait : NoneRuns (account decl a h).command ⊎ IsWaiting (account decl a h)
    commands_wait = commands_wait_for_requests decl a client (deeds a [] h) acted.above acted.acts

    pub nothing_due : due decl (account decl a h) false ≡ None
    nothing_due = what_is_due_is_told decl a client (deeds a [] h) acted.above acted.acts

  module _ (accepted : IsAccepted decl) (asks : AsksDeclared decl script) where
    pub replies_are_due : (client : ℕ) → client < decl.clients
        → AreRepliesDue decl client (deeds (client_actor decl client) [] h)
    replies_are_due client within = on (has_entry (IsLawful decl) decl script h open_inputs run
        (client_actor decl client) low)
      where
        low : client_actor decl client < actors decl
        low = omega arith

        is : is_client decl (client_actor decl client) ≡ true
        is = λ i. le-leb decl.sites (client_actor decl client) (omega arith) i
            && lt-ltb (client_actor decl client) (administrator decl) (omega arith) i

        number : client_actor decl client - decl.sites ≡ client
        number = omega arith

        on : (t : Bool) × (slice_get open_inputs (client_actor decl client) ≡ Some t)
            → AreRepliesDue decl client (deeds (client_actor decl client) [] h)
        on place =
            let acts : ActsIn decl (client_actor decl client) h place.0 =
            actors_take_and_post_by_turns decl script h open_inputs run (client_actor decl client) place.0 place.1 in
            subst (λ (k : ℕ). AreRepliesDue decl k (deeds (client_actor decl client) [] h)) number
            (deeds_of_clients_are_due decl (client_actor decl client) is
            (deeds (client_actor decl client) [] h) place.0 acts.above acts.acts
            (run_declares decl accepted script asks h open_inputs run (client_actor decl client)))

    pub runs_are_due : Due decl h
    runs_are_due = record {
      turns = actors_go_by_turns decl script h open_inputs run;
      mail = messages_reach_their_receivers decl script h open_inputs run;
      replies = replies_are_due;
      sites = λ site within. what_sites_post_is_due decl script h open_inputs run site within;
      admin = run_admin_due decl script h open_inputs run;
    }
