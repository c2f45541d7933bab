-- In a run with falls what comes to a client is declared, where nobody rises with an epoch without a plan.
use Rattle.std.proofs.Common.{◌≤◌, ◌<◌, ℕ, Bool, List, []}
use Rattle.qc_core.specs.Vocabulary.{IsLawfulWithFalls}
use Rattle.qc_decl.specs.Vocabulary.{IsAccepted, actors, client_actor}
use Rattle.qc_decl.specs.declared.declaration.Declaration.{Declaration}
use Rattle.laws_turns.specs.Vocabulary.{AsksDeclared}
use Rattle.qc_link.specs.Vocabulary.{most_actors}
use Rattle.qc_msg.specs.declared.record.Record.{Record}
use Rattle.qc_msg.specs.Vocabulary.{Entry, deeds}
use Rattle.qc_promise.specs.Vocabulary.{AreRepliesDue}
use Rattle.qc_script.specs.Vocabulary.{RunsWithFalls}
use Rattle.qc_script.specs.declared.script.Script.{Script}
use Rattle.laws_due.specs.Vocabulary.{AllRisePlanned, Declares}
use Rattle.laws_due.proofs.Declaring.{all_declared, first_planned}
use Rattle.laws_due.proofs.PlannedMail.{deeds_planned}
use Rattle.laws_due.proofs.Clients.{clients_of_runs_with_falls_are_due}
use Rattle.laws_due.proofs.Commanded.{run_askable}
use Rattle.laws_due.proofs.MailPlanned.{run_planned}

module _ (decl : Declaration) (script : Script) (fits : ℕ → List Record → Type 0) (accepted : IsAccepted decl)
    (asks : AsksDeclared decl script) (h : List Entry) (open_inputs : List Bool)
    (run : RunsWithFalls (IsLawfulWithFalls decl) fits decl script h open_inputs) (all : AllRisePlanned decl h) where
  pub run_declares : (a : ℕ) → Declares decl (deeds a [] h)
  run_declares a = record {
    first = first_planned decl accepted;
    deeds = all_declared decl accepted a (deeds a [] h)
        (run_askable (IsLawfulWithFalls decl) fits decl script asks h open_inputs run a)
        (deeds_planned decl a [] h tt (run_planned decl
        (first_planned decl accepted) script fits asks h open_inputs run all));
  }

  pub replies_are_due_with_falls : actors decl ≤ most_actors → (client : ℕ) → client < decl.clients
      → AreRepliesDue decl client (deeds (client_actor decl client) [] h)
  replies_are_due_with_falls few client within =
      clients_of_runs_with_falls_are_due decl script fits few h open_inputs run client within
      (run_declares (client_actor decl client))
