-- At most one client acts at a time: of two clients, one has called all that the phases so far ask it, runs nothing,
-- and has the transaction begun that it had before this phase.
use Rattle.std.proofs.Common.{[], ◌≡◌, ℕ, suc, ◌+◌, ◌-◌, ◌<◌, ◌==◌, ◌&&◌, ◌||◌, ◌⊎◌, inl, inr, not, Bool, true, false}
use Rattle.std.proofs.Common.{List, ◌∷◌, ◌++◌, length, fold, Option, Some, None, slice_get, refl, sym, ap, ◌∙◌, subst}
use Rattle.std.proofs.Common.{arith, eq-eqb, eqb-true}
use Rattle.std.specs.Prelude.{is_some, replicate}
use Rattle.std.specs.List.{filter_map}
use Rattle.std.proofs.lemmas.List.{append-nil}
use Rattle.std.proofs.lemmas.List.Elements.{filter_map-append}
use Rattle.std.proofs.lemmas.List.Sums.{fold-append}
use Rattle.qc_decl.proofs.Clients.{client_within}
use Rattle.qc_list.proofs.Members.{every-at}
use Rattle.qc_core.specs.Vocabulary.{IsLawful, is_running}
use Rattle.qc_decl.specs.Vocabulary.{IsAccepted, actors, administrator, controller, is_client}
use Rattle.qc_decl.specs.declared.declaration.Declaration.{Declaration}
use Rattle.qc_msg.specs.declared.message.Envelope.{Envelope}
use Rattle.qc_msg.specs.declared.reply.Reply.{Reply}
use Rattle.qc_msg.specs.declared.step.Command.{Command}
use Rattle.qc_msg.specs.declared.step.Step.TheVariants as steps
use Rattle.qc_msg.specs.declared.turn.Posting.{Posting}
use Rattle.qc_msg.specs.declared.record.Record.{Record}
use Rattle.qc_msg.specs.declared.turn.Turn.{Turn}
use Rattle.qc_msg.specs.Vocabulary.{Deed, Entry, by, deeds, mail, marked, posted, sends_of, tells_of, turn_deeds}
use Rattle.qc_msg.specs.Vocabulary.{writes_of}
use Rattle.qc_msg.proofs.DeedsGrow.{deeds-other}
use Rattle.qc_msg.proofs.Growth.{deeds-posted}
use Rattle.qc_script.specs.Vocabulary.{Runs, command_in, commands_for, controls_left, first_copy, first_lost, inbox}
use Rattle.qc_script.specs.Vocabulary.{phase_at, phase_of, takes_commands}
use Rattle.qc_script.specs.Runs.{begins, takes, posts, phase, control}
use Rattle.qc_script.specs.declared.script.PhaseLines.{PhaseLines}
use Rattle.qc_script.specs.declared.script.Script.{Script}
use Rattle.laws_turns.specs.Vocabulary.{ActsIn, AsksDeclared, IsClosed, IsQuiet, asked_until, call_in, calls_of}
use Rattle.laws_turns.proofs.Acted.{as_many, deeds-silent, actors_take_and_post_by_turns}
use Rattle.laws_turns.proofs.PhaseCalls.{phase_posted}
use Rattle.laws_turns.proofs.Calling.{calls_are_asked}
use Rattle.laws_turns.proofs.Ends.{copies_none, losts_none, nothing_ready}
use Rattle.laws_turns.proofs.Numbered.{phase_silent}
use Rattle.laws_turns.proofs.TurnReplies.{running_more, running_turn}
use Rattle.laws_turns.proofs.Replying.{told_runs}
use Rattle.laws_turns.proofs.Running.{busy_is_running}
use Rattle.laws_due.proofs.Ended.{commands_end}
use Rattle.qc_promise.specs.Vocabulary.{account, account_at, new_account}
use Rattle.laws_guarantees.specs.Vocabulary.{Arrives, AsksOne, IsStill, IsUndisturbed, begun_by, name_of}
use Rattle.laws_guarantees.proofs.Names.{stays_named, untold_stays}
use Rattle.laws_guarantees.proofs.PartsOf.{phase_parts, posted_parts}
use Rattle.laws_guarantees.proofs.Passing.{no_request_is_lost}
use Rattle.laws_turns.proofs.Up.{run_up}
use Rattle.laws_guarantees.proofs.StillTakes.{none_for, asked_more, untold, still_elsewhere, still_takes}
use Rattle.laws_turns.proofs.WholeLaw.{no_commands}
use Rattle.qc_list.proofs.Places.{some_at, all_false}

module _ (decl : Declaration) (script : Script) (accepted : IsAccepted decl) (asks : AsksDeclared decl script)
    (calm : IsUndisturbed script) where
  abbrev Still : ℕ → List Entry → Type 0
  Still c h = IsStill decl script c h

  -- an actor posts a turn

  still_posts : (b : ℕ) (turn : Turn) (before : List Bool) (h : List Entry) → Runs (IsLawful decl) decl script h before
      → slice_get before b ≡ Some true → IsLawful decl b (deeds b [] h) turn
      → (c : ℕ) → Still c h → Still c (h ++ by b (posted (length (mail h)) turn))
  still_posts b turn before h run open_still lawful c s = at (b == c) refl
    where
      phased : phase_of (h ++ by b (posted (length (mail h)) turn)) ≡ phase_of h
      phased = phase_posted h b (length (mail h)) turn

      acts : ActsIn decl b h true
      acts = actors_take_and_post_by_turns decl script h before run b true open_still

      here : Still b h → Still b (h ++ by b (posted (length (mail h)) turn))
      here old = record {
        running =
            ap is_running grown ∙ running_more (deeds b [] h) (turn_deeds (length (mail h)) turn)
            ∙ running_turn (is_running (deeds b [] h)) (length (mail h)) turn
            ∙ ap (λ (t : Bool). t && not (is_some turn.told)) old.running;
        called =
            ap (λ (ds : List Deed). filter_map call_in ds) grown
            ∙ filter_map-append call_in (deeds b [] h) (turn_deeds (length (mail h)) turn)
            ∙ ap (λ (v : List Command). calls_of b h ++ v) (none_called (length (mail h)) turn)
            ∙ append-nil (calls_of b h) ∙ old.called ∙ ap (asked_until b script) (sym phased);
        name =
            ap (λ (ds : List Deed). name_of (fold (account_at decl) (new_account (b - decl.sites)) ds)) grown
            ∙ ap name_of
            (fold-append (account_at decl) (new_account (b - decl.sites)) (deeds b [] h)
            (turn_deeds (length (mail h)) turn))
            ∙ stays_named (account decl b h)
            (fold (account_at decl) (account decl b h) (turn_deeds (length (mail h)) turn))
            (untold_stays decl (account decl b h) (length (mail h)) turn silent)
            ∙ old.name ∙ ap (begun_by decl b) (sym (posted_parts h b (length (mail h)) turn));
      } where
        grown : deeds b [] (h ++ by b (posted (length (mail h)) turn))
            ≡ deeds b [] h ++ turn_deeds (length (mail h)) turn
        grown = deeds-posted b (length (mail h)) h turn

        silent : turn.told ≡ None
        silent =
            untold turn.told
            (λ told. let runs : is_running (deeds b [] h)
            ≡ true = told_runs decl b (deeds b [] h) acts.above turn acts.acts lawful told in let rests : is_running
            (deeds b [] h) ≡ false = old.running in let never : ⊥ = cc in never)

        none_called : (n : ℕ) (turn : Turn) → filter_map call_in (turn_deeds n turn) ≡ []
        none_called n turn = by turn.write
          where
            sends : (n : ℕ) (ps : List Posting) (o : Option Reply)
                → filter_map call_in (sends_of n ps ++ tells_of o) ≡ []
            sends n [] None = refl
            sends n [] (Some r) = refl
            sends n (p ∷ ps) o = sends (n + 1) ps o

            by : (w : Option Record)
                → filter_map call_in (writes_of w ++ (sends_of n turn.sends ++ tells_of turn.told)) ≡ []
            by None = sends n turn.sends turn.told
            by (Some w) = sends n turn.sends turn.told

      at : (t : Bool) → (b == c) ≡ t → Still c (h ++ by b (posted (length (mail h)) turn))
      at true same =
          subst (λ (k : ℕ). Still k (h ++ by b (posted (length (mail h)) turn))) (eqb-true b c same)
          (here (subst (λ (k : ℕ). Still k h) (sym (eqb-true b c same)) s))
      at false other =
          still_elsewhere decl script accepted asks calm c h (h ++ by b (posted (length (mail h)) turn))
          (deeds-other b c [] h (posted (length (mail h)) turn) other) phased (posted_parts h b (length (mail h)) turn)
          s

  -- a phase begins, where every client has ended

  module _ (h : List Entry) (before : List Bool) (run : Runs (IsLawful decl) decl script h before)
      (none : (a : ℕ) → slice_get before a ≡ Some true → ⊥) (done : controls_left script h ≡ [])
      (rests : IsQuiet decl script h)
      (more : phase_of h < length script.phases) where
    closed : IsClosed decl script h
    closed =
        subst (Runs (IsLawful decl) decl script h)
        (all_false before none ∙ ap (λ (n : ℕ). replicate n false) (as_many (IsLawful decl) decl script h before run))
        run

    all_called : (c : ℕ) → is_client decl c ≡ true → calls_of c h ≡ asked_until c script (phase_of h)
    all_called c named =
        let low : c < actors decl = client_within decl c named in
        let idle : command_in decl c (inbox script c h) ≡ None =
        sym (ap (λ (es : List Envelope). first_copy es
        (first_lost (inbox script c h).lost (command_in decl c (inbox script c h))))
        (copies_none decl script accepted asks h closed rests done c low)
        ∙ ap (λ (ns : List ℕ). first_lost ns (command_in decl c (inbox script c h)))
        (losts_none decl script accepted asks h closed rests done c low))
        ∙ nothing_ready decl script accepted asks h closed rests done c low in
        let left : (inbox script c h).commands ≡ [] =
        no_commands (takes_commands decl c) (inbox script c h).busy (inbox script c h).commands
        (ap (λ (t : Bool). t || (c == administrator decl)) named)
        (busy_is_running script c h (run_up (IsLawful decl) decl script h before run c)
        ∙ commands_end decl script accepted asks h closed rests done c named) idle in
        sym (append-nil (calls_of c h)) ∙ ap (λ (v : List Command). calls_of c h ++ v) (sym left)
        ∙ calls_are_asked decl script c h before run

    now : List Entry
    now = h ++ marked (controller decl) (steps.Phase (phase_of h + 1)) ∷ []

    still_phase : (c : ℕ) → is_client decl c ≡ true → (p : PhaseLines) → slice_get script.phases (phase_of h) ≡ Some p
        → commands_for c p.commands ≡ [] → Still c (h ++ marked (controller decl) (steps.Phase (phase_of h + 1)) ∷ [])
    still_phase c named p is unasked =
        let same : deeds c [] (h ++ marked (controller decl) (steps.Phase (phase_of h + 1)) ∷ []) ≡ deeds c [] h =
        deeds-silent c (controller decl) h (steps.Phase (phase_of h + 1)) (phase_silent (phase_of h + 1)) in
        let phased : phase_of (h ++ marked (controller decl) (steps.Phase (phase_of h + 1)) ∷ []) ≡ phase_of h + 1 =
        fold-append (λ (k : ℕ) (e : Entry). phase_at k e.step) 0 h
        (marked (controller decl) (steps.Phase (phase_of h + 1)) ∷ []) in
        let after : suc (phase_of h) ≡ phase_of h + 1 = omega arith in
        record {
          running = ap is_running same ∙ commands_end decl script accepted asks h closed rests done c named;
          called =
              ap (λ (ds : List Deed). filter_map call_in ds) same ∙ all_called c named
              ∙ sym (append-nil (asked_until c script (phase_of h)))
              ∙ ap (λ (v : List Command). asked_until c script (phase_of h) ++ v) (sym unasked)
              ∙ sym (asked_more c script.phases (phase_of h) p is) ∙ ap (asked_until c script) (after ∙ sym phased);
          name =
              ap (λ (ds : List Deed). name_of (fold (account_at decl) (new_account (c - decl.sites)) ds)) same
              ∙ ap (begun_by decl c) (sym (phase_parts h (controller decl) (phase_of h + 1)));
        }

    one_phase : (c d : ℕ) → is_client decl c ≡ true → is_client decl d ≡ true → (c ≡ d → ⊥)
        → Still c (h ++ marked (controller decl) (steps.Phase (phase_of h + 1)) ∷ [])
        ⊎ Still d (h ++ marked (controller decl) (steps.Phase (phase_of h + 1)) ∷ [])
    one_phase c d c_named d_named differ =
        let found : (p : PhaseLines) × (slice_get script.phases (phase_of h) ≡ Some p) =
        some_at script.phases (phase_of h) more in
        let asked : AsksOne found.0 = every-at AsksOne script.phases (phase_of h) found.0 calm.one found.1 in
        choose found.0 found.1 asked
      where
        choose : (p : PhaseLines) → slice_get script.phases (phase_of h) ≡ Some p → AsksOne p
            → Still c (h ++ marked (controller decl) (steps.Phase (phase_of h + 1)) ∷ [])
            ⊎ Still d (h ++ marked (controller decl) (steps.Phase (phase_of h + 1)) ∷ [])
        choose p is asked = at (asked.actor == c) refl
          where
            at : (t : Bool) → (asked.actor == c) ≡ t
                → Still c (h ++ marked (controller decl) (steps.Phase (phase_of h + 1)) ∷ [])
                ⊎ Still d (h ++ marked (controller decl) (steps.Phase (phase_of h + 1)) ∷ [])
            at true same =
                inr (still_phase d d_named p is
                (none_for d asked.actor (λ e. differ (sym (eqb-true asked.actor c same) ∙ e)) p.commands asked.alone))
            at false other =
                inl (still_phase c c_named p is
                (none_for c asked.actor
                (λ e. let yes : (asked.actor == c) ≡ true = eq-eqb asked.actor c e in let never : ⊥ = cc in never)
                p.commands asked.alone))

  either : {A B C D : Type 0} → (A → C) → (B → D) → A ⊎ B → C ⊎ D
  either f g (inl a) = inl (f a)
  either f g (inr b) = inr (g b)

  -- of two clients one is still
  pub one_still : (h : List Entry) (open_inputs : List Bool) → Runs (IsLawful decl) decl script h open_inputs
      → (c d : ℕ) → is_client decl c ≡ true → is_client decl d ≡ true → (c ≡ d → ⊥) → Still c h ⊎ Still d h
  one_still h open_inputs begins c d c_named d_named differ =
      inl (record { running = refl; called = refl; name = refl })
  one_still h open_inputs (takes b g before older run free rdy) c d c_named d_named differ =
      either (still_takes decl script accepted asks calm b g before older run free rdy c)
      (still_takes decl script accepted asks calm b g before older run free rdy d)
      (one_still older before run c d c_named d_named differ)
  one_still h open_inputs (posts b turn before older run open_still lawful) c d c_named d_named differ =
      either (still_posts b turn before older run open_still lawful c)
      (still_posts b turn before older run open_still lawful d)
      (one_still older before run c d c_named d_named differ)
  one_still h open_inputs (phase before older run none done rests more) c d c_named d_named differ =
      one_phase older before run none done rests more c d c_named d_named differ
  one_still h open_inputs (control line lines step before older run left is) c d c_named d_named differ =
      let r : Arrives script 0 older = no_request_is_lost decl script older before calm.lossless run 0 in
      let quiet : (inbox script 0 older).controls ≡ [] = r.calm.controls in
      absurd (let never : ⊥ = cc in never)

pub one_client_acts_at_a_time : (decl : Declaration) (script : Script) → IsAccepted decl → AsksDeclared decl script
    → IsUndisturbed script → (h : List Entry) (open_inputs : List Bool) → Runs (IsLawful decl) decl script h open_inputs
    → (c d : ℕ) → is_client decl c ≡ true → is_client decl d ≡ true → (c ≡ d → ⊥)
    → IsStill decl script c h ⊎ IsStill decl script d h
one_client_acts_at_a_time decl script accepted asks calm h open_inputs run c d c_named d_named differ =
    one_still decl script accepted asks calm h open_inputs run c d c_named d_named differ
