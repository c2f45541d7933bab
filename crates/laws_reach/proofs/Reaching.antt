-- So each such run has its net.
use Rattle.std.proofs.Common.{ℕ, Bool, List, ap, ◌∙◌}
use Rattle.qc_core.specs.Vocabulary.{IsLawfulWithFalls}
use Rattle.qc_core.proofs.LivesLaws.{journal}
use Rattle.qc_decl.specs.Vocabulary.{IsAccepted}
use Rattle.qc_decl.specs.declared.declaration.Declaration.{Declaration}
use Rattle.qc_msg.specs.declared.record.Record.{Record}
use Rattle.qc_msg.specs.Vocabulary.{Entry}
use Rattle.qc_promise.specs.Vocabulary.{Journal, Kept}
use Rattle.qc_script.specs.Vocabulary.{IsScriptFor, RunsWithFalls}
use Rattle.qc_script.specs.declared.script.Script.{Script}
use Rattle.laws_reach.specs.Vocabulary.{IsReachedWithFalls}
use Rattle.laws_reach.proofs.RunsStand.{runs_stand}
use Rattle.laws_reach.proofs.Stood.{Stood}

module _ (fits : ℕ → List Record → Type 0) (decl : Declaration) (script : Script) (h : List Entry)
    (open_inputs : List Bool) (accepted : IsAccepted decl) (sound : IsScriptFor decl script)
    (run : RunsWithFalls (IsLawfulWithFalls decl) fits decl script h open_inputs) (kept : Kept h) where
  stood : Stood decl h open_inputs
  stood = runs_stand decl script fits accepted sound h open_inputs run kept

  pub runs_with_falls_reach_nets : IsReachedWithFalls decl h open_inputs
  runs_with_falls_reach_nets = record {
    net = stood.net;
    reached = stood.reached;
    mail_is = stood.mail_is;
    up_is = λ a is. (stood.actors a is).up;
    records_are = λ a is. (stood.actors a is).records ∙ ap (λ (j : Journal). j.records) (journal a h);
    pending_is = λ a is. (stood.actors a is).pending ∙ ap (λ (j : Journal). j.pending) (journal a h);
    actors_are = λ a is up closed. (stood.actors a is).closed up closed;
    actors_were = λ a is up open_input. (stood.actors a is).opened up open_input;
  }
