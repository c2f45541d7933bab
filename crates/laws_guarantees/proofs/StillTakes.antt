-- Inputs that are all closed; and one client acts alone as it takes an input.
use Rattle.std.proofs.Common.{[], ◌≡◌, ℕ, zero, suc, ◌+◌, ◌-◌, ◌==◌, Bool, true, false, cond, List, ◌∷◌, ◌++◌, map}
use Rattle.std.proofs.Common.{length, fold, Option, Some, None, slice_get, refl, sym, ap, ◌∙◌, subst, arith, eqb-true}
use Rattle.std.proofs.Common.{length-append}
use Rattle.std.specs.Prelude.{filter, is_some, slice_set, take}
use Rattle.std.specs.List.{AllByRecursion as Every, filter_map}
use Rattle.std.proofs.lemmas.List.{append-nil, append_assoc}
use Rattle.std.proofs.lemmas.List.Elements.{filter_map-append}
use Rattle.std.proofs.lemmas.List.Sums.{fold-append}
use Rattle.qc_core.specs.Vocabulary.{IsLawful, is_running, runs_at}
use Rattle.qc_decl.specs.Vocabulary.{IsAccepted}
use Rattle.qc_decl.specs.declared.declaration.Declaration.{Declaration}
use Rattle.qc_msg.specs.declared.reply.Reply.{Reply}
use Rattle.qc_msg.specs.declared.step.Command.{Command}
use Rattle.qc_msg.specs.declared.step.Input.{Input}
use Rattle.qc_msg.specs.declared.step.Input.TheVariants as inputs
use Rattle.qc_msg.specs.Vocabulary.{Deed, Entry, Takes, deeds, marked, step_of}
use Rattle.qc_msg.proofs.DeedsGrow.{deeds-other}
use Rattle.qc_msg.proofs.Growth.{deeds-taken}
use Rattle.qc_script.specs.Vocabulary.{Runs, commands_for, inbox, phase_of, ready}
use Rattle.qc_script.specs.Runs.{takes}
use Rattle.qc_script.specs.declared.script.CommandLine.{CommandLine}
use Rattle.qc_script.specs.declared.script.PhaseLines.{PhaseLines}
use Rattle.qc_script.specs.declared.script.Script.{Script}
use Rattle.laws_turns.specs.Vocabulary.{AsksDeclared, asked_in_all, asked_until, call_in, calls_of}
use Rattle.laws_turns.proofs.Arrivals.{what_is_ready_was_sent}
use Rattle.laws_turns.proofs.Calling.{calls_are_asked}
use Rattle.laws_turns.proofs.TurnReplies.{running_more}
use Rattle.qc_promise.specs.Vocabulary.{account, account_at, new_account}
use Rattle.laws_guarantees.specs.Vocabulary.{IsStill, IsUndisturbed, before_phase, begun_by, name_of}
use Rattle.laws_guarantees.proofs.Names.{taken_named}
use Rattle.laws_guarantees.proofs.PartsOf.{taken_parts}
use Rattle.qc_script.proofs.Phases.{phase_taken}

-- commands of phases

too_long : (xs ys : List Command) (c : Command) → (xs ++ c ∷ []) ++ ys ≡ xs → ⊥
too_long xs ys c is =
    let same : length ((xs ++ c ∷ []) ++ ys) ≡ length xs = ap length is in
    let first : length ((xs ++ c ∷ []) ++ ys) ≡ length (xs ++ c ∷ []) + length ys = length-append (xs ++ c ∷ []) ys in
    let second : length (xs ++ c ∷ []) ≡ length xs + 1 = length-append xs (c ∷ []) in
    omega arith

pub none_for : (a b : ℕ) → (b ≡ a → ⊥) → (lines : List CommandLine) → Every (λ (l : CommandLine). l.actor ≡ b) lines
    → commands_for a lines ≡ []
none_for a b differs [] all = refl
none_for a b differs (l ∷ lines) all = by (l.actor == a) refl (none_for a b differs lines all.1)
  where
    by : (t : Bool) → (l.actor == a) ≡ t → commands_for a lines ≡ []
        → map (λ (l : CommandLine). l.command)
        (cond t (l ∷ filter (λ (l : CommandLine). l.actor == a) lines)
        (filter (λ (l : CommandLine). l.actor == a) lines)) ≡ []
    by true same rest = absurd (differs (sym all.0 ∙ eqb-true l.actor a same))
    by false other rest = rest

pub asked_more : (a : ℕ) (phases : List PhaseLines) (k : ℕ) (p : PhaseLines) → slice_get phases k ≡ Some p
    → asked_in_all a (take (suc k) phases) ≡ asked_in_all a (take k phases) ++ commands_for a p.commands
asked_more a [] k p is = absurd (let never : ⊥ = cc in never)
asked_more a (q ∷ phases) zero p is =
    append-nil (commands_for a q.commands)
    ∙ ap (λ (x : PhaseLines). commands_for a x.commands) (let same : q ≡ p = cc in same)
asked_more a (q ∷ phases) (suc k) p is =
    ap (λ (v : List Command). commands_for a q.commands ++ v) (asked_more a phases k p is)
    ∙ sym (append_assoc (commands_for a q.commands) (asked_in_all a (take k phases)) (commands_for a p.commands))

-- inputs that are all closed

pub untold : (o : Option Reply) → (is_some o ≡ true → ⊥) → o ≡ None
untold None none = refl
untold (Some r) none = absurd (none refl)

module _ (decl : Declaration) (script : Script) (accepted : IsAccepted decl) (asks : AsksDeclared decl script)
    (calm : IsUndisturbed script) where
  abbrev pub Still : ℕ → List Entry → Type 0
  Still c h = IsStill decl script c h

  -- an actor takes an input

  pub still_elsewhere : (c : ℕ) (h k : List Entry) → deeds c [] k ≡ deeds c [] h → phase_of k ≡ phase_of h
      → before_phase k ≡ before_phase h → Still c h → Still c k
  still_elsewhere c h k same phased parted s = record {
    running = ap is_running same ∙ s.running;
    called = ap (λ (ds : List Deed). filter_map call_in ds) same ∙ s.called ∙ ap (asked_until c script) (sym phased);
    name =
        ap (λ (ds : List Deed). name_of (fold (account_at decl) (new_account (c - decl.sites)) ds)) same ∙ s.name
        ∙ ap (begun_by decl c) (sym parted);
  }

  pub still_takes : (b : ℕ) (g : Input) (before : List Bool) (h : List Entry)
      → Runs (IsLawful decl) decl script h before
      → (free : slice_get before b ≡ Some false) → (rdy : ready decl script b h ≡ Some g)
      → (c : ℕ) → Still c h → Still c (h ++ marked b (step_of g) ∷ [])
  still_takes b g before h run free rdy c s = at (b == c) refl
    where
      phased : phase_of (h ++ marked b (step_of g) ∷ []) ≡ phase_of h
      phased = phase_taken h b g

      here : (b == c) ≡ true → Still b h → Still b (h ++ marked b (step_of g) ∷ [])
      here same old = by g refl
        where
          grown : deeds b [] (h ++ marked b (step_of g) ∷ []) ≡ deeds b [] h ++ Takes g ∷ []
          grown = deeds-taken b h g (what_is_ready_was_sent (IsLawful decl) decl script h before run b g rdy)

          calls : calls_of b (h ++ marked b (step_of g) ∷ []) ≡ calls_of b h ++ filter_map call_in (Takes g ∷ [])
          calls =
              ap (λ (ds : List Deed). filter_map call_in ds) grown
              ∙ filter_map-append call_in (deeds b [] h) (Takes g ∷ [])

          name : begun_by decl b (h ++ marked b (step_of g) ∷ [])
              ≡ begun_by decl b (before_phase (h ++ marked b (step_of g) ∷ []))
          name =
              ap (λ (ds : List Deed). name_of (fold (account_at decl) (new_account (b - decl.sites)) ds)) grown
              ∙ ap name_of (fold-append (account_at decl) (new_account (b - decl.sites)) (deeds b [] h) (Takes g ∷ []))
              ∙ taken_named (account decl b h) g ∙ old.name ∙ ap (begun_by decl b) (sym (taken_parts h b g))

          goes : is_running (deeds b [] h ++ Takes g ∷ []) ≡ is_running (deeds b [] h)
              → filter_map call_in (Takes g ∷ []) ≡ [] → Still b (h ++ marked b (step_of g) ∷ [])
          goes runs none = record {
            running = ap is_running grown ∙ runs ∙ old.running;
            called =
                calls ∙ ap (λ (v : List Command). calls_of b h ++ v) none ∙ append-nil (calls_of b h) ∙ old.called
                ∙ ap (asked_until b script) (sym phased);
            name = name;
          }

          by : (x : Input) → g ≡ x → Still b (h ++ marked b (step_of g) ∷ [])
          by (inputs.Called command) is =
              absurd (too_long (calls_of b h) (inbox script b (h ++ marked b (step_of g) ∷ [])).commands command
              (ap (λ (v : List Command). v ++ (inbox script b (h ++ marked b (step_of g) ∷ [])).commands)
              (sym (calls ∙ ap (λ (x : Input). calls_of b h ++ filter_map call_in (Takes x ∷ [])) is))
              ∙ calls_are_asked decl script b (h ++ marked b (step_of g) ∷ []) (slice_set before b true)
              (takes b g before h run free rdy)
              ∙ ap (asked_until b script) phased ∙ sym old.called))
          by (inputs.Got e) is =
              goes (running_more (deeds b [] h) (Takes g ∷ [])
              ∙ ap (λ (x : Input). fold runs_at (is_running (deeds b [] h)) (Takes x ∷ [])) is)
              (ap (λ (x : Input). filter_map call_in (Takes x ∷ [])) is)
          by (inputs.Lost n) is =
              goes (running_more (deeds b [] h) (Takes g ∷ [])
              ∙ ap (λ (x : Input). fold runs_at (is_running (deeds b [] h)) (Takes x ∷ [])) is)
              (ap (λ (x : Input). filter_map call_in (Takes x ∷ [])) is)

      at : (t : Bool) → (b == c) ≡ t → Still c (h ++ marked b (step_of g) ∷ [])
      at true same =
          subst (λ (k : ℕ). Still k (h ++ marked b (step_of g) ∷ [])) (eqb-true b c same)
          (here same (subst (λ (k : ℕ). Still k h) (sym (eqb-true b c same)) s))
      at false other =
          still_elsewhere c h (h ++ marked b (step_of g) ∷ []) (deeds-other b c [] h (step_of g ∷ []) other) phased
          (taken_parts h b g) s
