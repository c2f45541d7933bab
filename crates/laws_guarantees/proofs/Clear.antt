-- While a command runs, what was open at a site before one of its requests is its own transaction, or one that another
-- client has begun and that hasn't ended.
use Rattle.std.proofs.Common.{◌≡◌, ℕ, ◌+◌, ◌-◌, ◌==◌, Bool, true, false, List, [], ◌∷◌, ◌++◌, fold, refl, sym, ap, ◌∙◌}
use Rattle.std.proofs.Common.{subst, eqb-true}
use Rattle.std.proofs.lemmas.List.Sums.{fold-append}
use Rattle.qc_list.specs.Vocabulary.{In}
use Rattle.qc_core.specs.Vocabulary.{IsLawful}
use Rattle.qc_decl.specs.Vocabulary.{IsAccepted, controller}
use Rattle.qc_decl.specs.declared.declaration.Declaration.{Declaration}
use Rattle.qc_msg.specs.declared.step.Input.{Input}
use Rattle.qc_msg.specs.declared.step.Step.{Step}
use Rattle.qc_msg.specs.declared.step.Step.TheVariants as steps
use Rattle.qc_msg.specs.Vocabulary.{Deed, Entry, Takes, WasSentTo, deeds, mail, marked, step_of}
use Rattle.qc_msg.proofs.GrownMail.{mail-taken}
use Rattle.qc_msg.proofs.DeedsGrow.{deeds-other}
use Rattle.qc_msg.proofs.Growth.{deeds-taken}
use Rattle.qc_script.specs.Vocabulary.{Runs, phase_of}
use Rattle.qc_script.specs.Runs.{begins, takes, posts, phase, control}
use Rattle.qc_script.specs.declared.script.Script.{Script}
use Rattle.laws_turns.specs.Vocabulary.{AsksDeclared}
use Rattle.laws_turns.proofs.Acted.{deeds-silent}
use Rattle.laws_turns.proofs.Arrivals.{what_is_ready_was_sent}
use Rattle.laws_turns.proofs.Numbered.{IsSilent, control_silent, mail-silent, phase_silent}
use Rattle.qc_promise.specs.Vocabulary.{Account, account, account_at, account_taken, new_account}
use Rattle.laws_guarantees.specs.Vocabulary.{IsUndisturbed}
use Rattle.laws_guarantees.proofs.Asking.{IsFrom, taken_from}
use Rattle.laws_guarantees.proofs.OpenElsewhere.{AllClear, IsClear, begun_same, begun_taken, clear_same}
use Rattle.laws_guarantees.proofs.ClearPosts.{posts_clear}

module _ (decl : Declaration) (script : Script) (accepted : IsAccepted decl) (asks : AsksDeclared decl script)
    (calm : IsUndisturbed script) where
  -- an actor takes an input

  takes_clear : (b : ℕ) (g : Input) (before : List Bool) (older : List Entry) → WasSentTo b (mail older) g
      → AllClear decl older → AllClear decl (older ++ marked b (step_of g) ∷ [])
  takes_clear b g before older sent clear a named q among = at (b == a) refl
    where
      k : List Entry
      k = older ++ marked b (step_of g) ∷ []

      mine : (b == a) ≡ true → In q (account_taken (account decl b older) g).requests
      mine here =
          subst (λ (d : Account). In q d.requests)
          (ap (λ (ds : List Deed). fold (account_at decl) (new_account (b - decl.sites)) ds)
          (deeds-taken b older g sent)
          ∙ fold-append (account_at decl) (new_account (b - decl.sites)) (deeds b [] older) (Takes g ∷ []))
          (subst (λ (c : ℕ). In q (account decl c (older ++ marked b (step_of g) ∷ [])).requests)
          (sym (eqb-true b a here)) among)

      at : (t : Bool) → (b == a) ≡ t → IsClear decl a (older ++ marked b (step_of g) ∷ []) q
      at true here =
          let f : IsFrom (account decl b older) q = taken_from (account decl b older) g q (mine here) in
          let is : b ≡ a = eqb-true b a here in
          clear_same decl a older (older ++ marked b (step_of g) ∷ []) f.old q (mail-taken older b g)
          (begun_taken decl b g older sent) f.number f.site
          (clear a named f.old (subst (λ (c : ℕ). In f.old (account decl c older).requests) is f.among))
      at false other =
          clear_same decl a older (older ++ marked b (step_of g) ∷ []) q q (mail-taken older b g)
          (begun_taken decl b g older sent) refl refl
          (clear a named q
          (subst (λ (ds : List Deed). In q (fold (account_at decl) (new_account (a - decl.sites)) ds).requests)
          (deeds-other b a [] older (step_of g ∷ []) other) among))

  silent_clear : (b : ℕ) (step : Step) (older : List Entry) → IsSilent step → AllClear decl older
      → AllClear decl (older ++ marked b step ∷ [])
  silent_clear b step older silent clear a named q among =
      clear_same decl a older (older ++ marked b step ∷ []) q q (mail-silent older b step silent)
      (λ c. begun_same decl c older (older ++ marked b step ∷ []) (deeds-silent c b older step silent)) refl refl
      (clear a named q
      (subst (λ (ds : List Deed). In q (fold (account_at decl) (new_account (a - decl.sites)) ds).requests)
      (deeds-silent a b older step silent) among))

  pub run_clear : (h : List Entry) (open_inputs : List Bool) → Runs (IsLawful decl) decl script h open_inputs
      → AllClear decl h
  run_clear h open_inputs begins = λ a named q never. absurd never
  run_clear h open_inputs (takes b g before older run free rdy) =
      takes_clear b g before older (what_is_ready_was_sent (IsLawful decl) decl script older before run b g rdy)
      (run_clear older before run)
  run_clear h open_inputs (posts b turn before older run is_opened lawful) =
      posts_clear decl script accepted asks calm older before run b turn is_opened lawful (run_clear older before run)
  run_clear h open_inputs (phase before older run none done rests more) =
      silent_clear (controller decl) (steps.Phase (phase_of older + 1)) older (phase_silent (phase_of older + 1))
      (run_clear older before run)
  run_clear h open_inputs (control line lines step before older run left is) =
      silent_clear (controller decl) step older (control_silent line step is) (run_clear older before run)
