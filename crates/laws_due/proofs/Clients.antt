-- In each run with falls all that a client does is due.
use Rattle.std.proofs.Common.{◌≡◌, ◌<◌, ◌≤◌, ℕ, ◌-◌, ◌&&◌, Bool, true, List, [], length, Some, slice_get, sym, subst}
use Rattle.std.proofs.Common.{le-leb, lt-ltb, arith}
use Rattle.qc_core.specs.Vocabulary.{IsLawfulWithFalls}
use Rattle.qc_decl.specs.Vocabulary.{actors, administrator, client_actor, is_client}
use Rattle.qc_decl.specs.declared.declaration.Declaration.{Declaration}
use Rattle.qc_link.specs.Vocabulary.{most_actors}
use Rattle.laws_turns.specs.Vocabulary.{LivesIn}
use Rattle.laws_turns.proofs.Lived.{actors_live_in_runs_with_falls, run_long}
use Rattle.qc_msg.specs.declared.record.Record.{Record}
use Rattle.qc_msg.specs.Vocabulary.{Entry, deeds}
use Rattle.qc_promise.specs.Vocabulary.{AreRepliesDue}
use Rattle.qc_script.specs.Vocabulary.{RunsWithFalls}
use Rattle.qc_script.specs.declared.script.Script.{Script}
use Rattle.laws_due.specs.Vocabulary.{Declares}
use Rattle.laws_due.proofs.Lifelong.{lives_of_clients_are_due}
use Rattle.qc_list.proofs.Places.{some_at}

module _ (decl : Declaration) (script : Script) (fits : ℕ → List Record → Type 0) (few : actors decl ≤ most_actors)
    (h : List Entry) (open_inputs : List Bool)
    (run : RunsWithFalls (IsLawfulWithFalls decl) fits decl script h open_inputs) where
  pub clients_of_runs_with_falls_are_due : (client : ℕ) → client < decl.clients
      → Declares decl (deeds (client_actor decl client) [] h)
      → AreRepliesDue decl client (deeds (client_actor decl client) [] h)
  clients_of_runs_with_falls_are_due client within are =
      on (some_at open_inputs (client_actor decl client) placed)
    where
      low : client_actor decl client < actors decl
      low = omega arith

      placed : client_actor decl client < length open_inputs
      placed = subst (λ (n : ℕ). client_actor decl client < n)
          (sym (run_long decl script fits few h open_inputs run)) low

      is : is_client decl (client_actor decl client) ≡ true
      is = λ i. le-leb decl.sites (client_actor decl client) (omega arith) i
          && lt-ltb (client_actor decl client) (administrator decl) (omega arith) i

      number : client_actor decl client - decl.sites ≡ client
      number = omega arith

      on : (t : Bool) × (slice_get open_inputs (client_actor decl client) ≡ Some t)
          → AreRepliesDue decl client (deeds (client_actor decl client) [] h)
      on place =
          let lived : LivesIn decl (client_actor decl client) h place.0 =
          actors_live_in_runs_with_falls decl script fits few h open_inputs run (client_actor decl client) place.0
          place.1 in
          subst (λ (k : ℕ). AreRepliesDue decl k (deeds (client_actor decl client) [] h)) number
          (lives_of_clients_are_due decl (client_actor decl client) is
          (deeds (client_actor decl client) [] h) place.0 lived.above lived.lives are)
