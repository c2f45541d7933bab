-- All is due in a run with falls: by turns, by mail, of each client, of each site and of the administrator.
use Rattle.std.proofs.Common.{◌≤◌, ℕ, Bool, List}
use Rattle.qc_core.specs.Vocabulary.{IsLawfulWithFalls}
use Rattle.qc_decl.specs.Vocabulary.{IsAccepted, actors}
use Rattle.qc_decl.specs.declared.declaration.Declaration.{Declaration}
use Rattle.laws_turns.specs.Vocabulary.{AsksDeclared, RiseWithOwn}
use Rattle.qc_link.specs.Vocabulary.{most_actors}
use Rattle.laws_turns.proofs.ByMailWithFalls.{actors_go_by_turns_with_falls, messages_reach_their_receivers_with_falls}
use Rattle.laws_turns.proofs.FallServed.{what_sites_post_is_due_with_falls}
use Rattle.qc_msg.specs.declared.record.Record.{Record}
use Rattle.qc_msg.specs.Vocabulary.{Entry}
use Rattle.qc_promise.specs.Vocabulary.{Due}
use Rattle.qc_script.specs.Vocabulary.{RunsWithFalls}
use Rattle.qc_script.specs.declared.script.Script.{Script}
use Rattle.laws_due.specs.Vocabulary.{AllRisePlanned}
use Rattle.laws_due.proofs.Administrators.{run_admin_due}
use Rattle.laws_due.proofs.Declared.{replies_are_due_with_falls}

pub runs_with_falls_are_due : (decl : Declaration) (script : Script) (fits : ℕ → List Record → Type 0) → IsAccepted decl
    → AsksDeclared decl script → actors decl ≤ most_actors → (h : List Entry) (open_inputs : List Bool)
    → RunsWithFalls (IsLawfulWithFalls decl) fits decl script h open_inputs → AllRisePlanned decl h → RiseWithOwn decl h
    → Due decl h
runs_with_falls_are_due decl script fits accepted asks few h open_inputs run planned given = record {
  turns = actors_go_by_turns_with_falls decl script fits few h open_inputs run;
  mail = messages_reach_their_receivers_with_falls decl script fits few h open_inputs run;
  replies = replies_are_due_with_falls decl script fits accepted asks h open_inputs run planned few;
  sites = what_sites_post_is_due_with_falls decl script fits few h open_inputs run given;
  admin = run_admin_due decl script fits accepted.has_site few h open_inputs run;
}
