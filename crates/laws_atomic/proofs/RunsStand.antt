-- Each run of a script is one of the net: the net stands still as an input is taken, and makes both at the post.
use Rattle.std.proofs.Common.{◌≡◌, ℕ, ◌+◌, Bool, true, false, List, [], ◌∷◌, ◌++◌, Some, None, slice_get, refl, sym}
use Rattle.std.proofs.Common.{◌∙◌}
use Rattle.std.specs.Prelude.{replicate}
use Rattle.std.proofs.lemmas.List.{append-nil}
use Rattle.qc_core.specs.Vocabulary.{IsLawful}
use Rattle.qc_decl.specs.Vocabulary.{IsAccepted, actors, controller}
use Rattle.qc_decl.specs.declared.declaration.Declaration.{Declaration}
use Rattle.qc_msg.specs.declared.step.Step.{Step}
use Rattle.qc_msg.specs.declared.step.Step.TheVariants as steps
use Rattle.qc_msg.specs.Vocabulary.{Entry, commit_in, mail, marked}
use Rattle.qc_script.specs.Vocabulary.{IsScriptFor, Runs, phase_of}
use Rattle.qc_script.specs.Runs.{begins, takes, posts, phase, control}
use Rattle.qc_script.specs.declared.script.Script.{Script}
use Rattle.laws_turns.proofs.Acted.{deeds-silent}
use Rattle.laws_turns.proofs.Numbered.{IsSilent, control_silent, mail-silent, phase_silent}
use Rattle.laws_refinement.specs.Vocabulary.{first_net}
use Rattle.laws_atomic.proofs.Calm as calm
use Rattle.laws_atomic.proofs.Posted.{control_writes, written_same}
use Rattle.laws_atomic.proofs.Stood.{Stood, client_stays, site_stays, true_false}
use Rattle.laws_atomic.proofs.StandsTaken.{stands_taken}
use Rattle.laws_atomic.proofs.StandsPosted.{stands_posted}
use Rattle.qc_list.proofs.Places.{replicate_at}

module _ (decl : Declaration) (script : Script) (accepted : IsAccepted decl) (sound : IsScriptFor decl script) where
  module _ (h : List Entry) (open_inputs : List Bool) (run : Runs (IsLawful decl) decl script h open_inputs)
      (old : Stood decl h open_inputs) where
    -- a step of the controller is nothing to the net
    pub stands_still : (b : ℕ) (silent_step : Step) → IsSilent silent_step → commit_in silent_step ≡ None
        → Stood decl (h ++ marked b silent_step ∷ []) open_inputs
    stands_still b silent_step silent none = record {
      net = old.net;
      calm = old.calm;
      mail_is = old.mail_is ∙ sym (mail-silent h b silent_step silent);
      written_is = old.written_is ∙ sym (written_same h b silent_step none);
      sites_are =
          λ a site. site_stays decl (old.net.sites a) a h (h ++ marked b silent_step ∷ []) [] (slice_get open_inputs a)
          (slice_get open_inputs a) (deeds-silent a b h silent_step silent)
          (mail-silent h b silent_step silent ∙ sym (append-nil (mail h))) refl (old.sites_are a site);
      clients_are =
          λ a client. client_stays decl (old.net.clients a) a h (h ++ marked b silent_step ∷ []) []
          (slice_get open_inputs a) (slice_get open_inputs a) (deeds-silent a b h silent_step silent)
          (mail-silent h b silent_step silent ∙ sym (append-nil (mail h))) refl (old.clients_are a client);
    }

  none_open : (a : ℕ) (t : Bool) → slice_get (replicate (actors decl) false) a ≡ Some true → ⊥
  none_open a t is = let no : true ≡ false = replicate_at (actors decl) a false true is in true_false no

  -- each run is one of the net
  pub runs_stand : (h : List Entry) (open_inputs : List Bool) → Runs (IsLawful decl) decl script h open_inputs
      → Stood decl h open_inputs
  runs_stand h open_inputs begins = record {
    net = first_net decl;
    calm = calm.begins;
    mail_is = refl;
    written_is = refl;
    sites_are = λ a site. record { closed = λ e. refl; opened = λ e. absurd (none_open a true e) };
    clients_are = λ a client. record { closed = λ e. refl; opened = λ e. absurd (none_open a true e) };
  }
  runs_stand h open_inputs (takes a g before older run free rdy) =
      stands_taken decl script accepted sound older before run (runs_stand older before run) a g free rdy
  runs_stand h open_inputs (posts a turn before older run taken law) =
      stands_posted decl script accepted sound older before run (runs_stand older before run) a turn taken law
  runs_stand h open_inputs (phase before older run idle done quiet more) =
      stands_still older before run (runs_stand older before run) (controller decl) (steps.Phase (phase_of older + 1))
      (phase_silent (phase_of older + 1)) refl
  runs_stand h open_inputs (control line lines acted before older run left is) =
      stands_still older before run (runs_stand older before run) (controller decl) acted (control_silent line acted is)
      (control_writes line acted is)
