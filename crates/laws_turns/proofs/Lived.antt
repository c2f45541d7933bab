-- Each actor of a run with falls takes inputs and posts turns, falls and rises.
use Rattle.std.proofs.Common.{[], ◌≡◌, ℕ, ◌+◌, ◌<◌, ◌≤◌, ◌==◌, not, Bool, true, false, List, ◌∷◌, ◌++◌, length, Some}
use Rattle.std.proofs.Common.{None, slice_get, refl, sym, ap, ◌∙◌, subst, arith, eqb-true, zero-le}
use Rattle.qc_core.specs.Vocabulary.{IsLawfulWithFalls, MayReach, is_up}
use Rattle.qc_core.specs.Lives as lives
use Rattle.qc_decl.specs.declared.declaration.Declaration.{Declaration}
use Rattle.qc_decl.specs.Vocabulary.{actors, controller}
use Rattle.qc_mailbox.specs.Vocabulary.{IsCommand, is_down}
use Rattle.qc_mailbox.proofs.FallLaws.{crashes_up, down_commanded, no_input_is_open_while_a_line_is_left, restarts_down}
use Rattle.qc_mailbox.proofs.FallLaws.{inboxes_know_who_is_up}
use Rattle.qc_mailbox.proofs.FallMail.{ready_messages_were_sent_through_falls}
use Rattle.laws_turns.proofs.Acted.{deeds-silent, open_elsewhere, open_here}
use Rattle.laws_turns.proofs.Numbered.{phase_silent}
use Rattle.laws_turns.proofs.Places.{length-replicate}
use Rattle.qc_link.specs.Vocabulary.{most_actors}
use Rattle.qc_msg.specs.declared.record.Record.{Record}
use Rattle.qc_msg.specs.declared.step.Control.{Control}
use Rattle.qc_msg.specs.declared.step.Control.TheVariants as controls
use Rattle.qc_msg.specs.declared.step.Fall.TheVariants as causes
use Rattle.qc_msg.specs.declared.step.Input.{Input}
use Rattle.qc_msg.specs.declared.step.Input.TheVariants as inputs
use Rattle.qc_msg.specs.declared.step.Step.{Step}
use Rattle.qc_msg.specs.declared.step.Step.TheVariants as steps
use Rattle.qc_msg.specs.Vocabulary.{Entry, by, deeds, mail, marked, posted_as, step_of}
use Rattle.qc_msg.proofs.DeedsGrow.{deeds-other}
use Rattle.qc_script.specs.Vocabulary.{RunsWithFalls, begins, control, controls_left, damaged, falls, inbox, phase}
use Rattle.qc_script.specs.Vocabulary.{phase_of, posts, ready, rises, takes, unopened}
use Rattle.qc_script.specs.Inbox as boxes
use Rattle.qc_script.specs.declared.script.Script.{Script}
use Rattle.laws_turns.specs.Vocabulary.{LivesIn}
use Rattle.laws_turns.proofs.Downs.{who_is_down_only_tells, up_is}
use Rattle.laws_turns.proofs.LivedMoves.{line_silent, damage_silent, up_of, lives_on, mail_grows, lives_takes}
use Rattle.laws_turns.proofs.LivedMoves.{lives_posts, lives_falls, lives_rises}
use Rattle.qc_list.proofs.Places.{place_within, replicate_at, length-slice_set}

module _ (decl : Declaration) (script : Script) where
  module _ (fits : ℕ → List Record → Type 0) (few : actors decl ≤ most_actors) where
    abbrev IsRun : List Entry → List Bool → Type 0
    IsRun h open_inputs = RunsWithFalls (IsLawfulWithFalls decl) fits decl script h open_inputs

    pub run_long : (h : List Entry) (open_inputs : List Bool) → IsRun h open_inputs → length open_inputs ≡ actors decl
    run_long h open_inputs begins = length-replicate (actors decl) false
    run_long h open_inputs (takes c given before older run free rdy) =
        length-slice_set before c true ∙ run_long older before run
    run_long h open_inputs (posts c turn before older run taken law) =
        length-slice_set before c false ∙ run_long older before run
    run_long h open_inputs (phase before older run none done quiet more) = run_long older before run
    run_long h open_inputs (control line lines step before older run left is) = run_long older before run
    run_long h open_inputs (falls c lines before older run left) = run_long older before run
    run_long h open_inputs (rises c records turn lines before older run left fit has law) = run_long older before run
    run_long h open_inputs (damaged c offset lines before older run left) = run_long older before run
    run_long h open_inputs (unopened c cause lines before older run left disk) = run_long older before run

    -- who has a place is below the most actors
    low : (h : List Entry) (open_inputs : List Bool) → IsRun h open_inputs → (a : ℕ) (t : Bool)
        → slice_get open_inputs a ≡ Some t → a < most_actors
    low h open_inputs run a t is =
        let place : a < length open_inputs = place_within open_inputs a t is in
        let long : length open_inputs ≡ actors decl = run_long h open_inputs run in
        omega arith

    up_in : (h : List Entry) (open_inputs : List Bool) → IsRun h open_inputs → (a : ℕ) → a < most_actors
        → boxes.is_up (inbox script 0 h).up a ≡ not (is_down (deeds a [] h))
    up_in h open_inputs run a within =
        inboxes_know_who_is_up (IsLawfulWithFalls decl) fits decl script h open_inputs few (who_is_down_only_tells decl)
        run a 0
        within
        (omega arith)

    reaches : (h : List Entry) (open_inputs : List Bool) → IsRun h open_inputs → (a : ℕ) → a < most_actors → (g : Input)
        → ready decl script a h ≡ Some g → MayReach (is_up (deeds a [] h)) g
    reaches h open_inputs run a within g rdy = by (is_down (deeds a [] h)) refl
      where
        commanded : (u : Bool) (g : Input) → IsCommand g → MayReach u g
        commanded u (inputs.Called command) is = tt
        commanded u (inputs.Got e) never = absurd never
        commanded u (inputs.Lost number) never = absurd never

        whole : (u : Bool) (g : Input) → u ≡ true → MayReach u g
        whole u (inputs.Called command) is = tt
        whole u (inputs.Got e) is = is
        whole u (inputs.Lost number) is = is

        by : (down : Bool) → is_down (deeds a [] h) ≡ down → MayReach (is_up (deeds a [] h)) g
        by true down =
            commanded (is_up (deeds a [] h)) g
            (down_commanded (IsLawfulWithFalls decl) fits decl script h open_inputs few (who_is_down_only_tells decl)
            run a within down g
            rdy)
        by false down = whole (is_up (deeds a [] h)) g (up_is (deeds a [] h) ∙ ap not down)

    -- no input is open where a line is left
    closed : (h : List Entry) (open_inputs : List Bool) → IsRun h open_inputs → (line : Control) (lines : List Control)
        → controls_left script h ≡ line ∷ lines → (a : ℕ) (t : Bool) → slice_get open_inputs a ≡ Some t → t ≡ false
    closed h open_inputs run line lines left a false is = refl
    closed h open_inputs run line lines left a true is =
        absurd (no_input_is_open_while_a_line_is_left (IsLawfulWithFalls decl) fits decl script h open_inputs few run
        line lines left a is)

    abbrev Old : List Entry → List Bool → Type 0
    Old older before = (a : ℕ) (t : Bool) → slice_get before a ≡ Some t → LivesIn decl a older t

    -- an event of actor c by a line, for each actor
    by_line : (c a : ℕ) (t : Bool) (older : List Entry) (before : List Bool) (xs : List Step)
        → slice_get before a ≡ Some t → Old older before
        → (slice_get before c ≡ Some t → LivesIn decl c older t → LivesIn decl c (older ++ by c xs) t)
        → LivesIn decl a (older ++ by c xs) t
    by_line c a t older before xs is old own = at (c == a) refl
      where
        at : (same : Bool) → (c == a) ≡ same → LivesIn decl a (older ++ by c xs) t
        at true same =
            let here : slice_get before c ≡ Some t =
            subst (λ (k : ℕ). slice_get before k ≡ Some t) (sym (eqb-true c a same)) is in
            subst (λ (k : ℕ). LivesIn decl k (older ++ by c xs) t) (eqb-true c a same) (own here (old c t here))
        at false other =
            lives_on decl script a t older (older ++ by c xs) (deeds-other c a [] older xs other)
            (mail_grows decl script older (by c xs))
            (old a t is)

    -- each actor

    pub actors_live_in_runs_with_falls : (h : List Entry) (open_inputs : List Bool) → IsRun h open_inputs
        → (a : ℕ) (t : Bool)
        → slice_get open_inputs a ≡ Some t → LivesIn decl a h t
    actors_live_in_runs_with_falls h open_inputs begins a t is =
        subst (λ (v : Bool). LivesIn decl a [] v) (sym (replicate_at (actors decl) a false t is))
        (record { above = 0; lives = lives.starts; within = zero-le })
    actors_live_in_runs_with_falls h open_inputs (takes c given before older run free rdy) a t is =
        at (c == a) refl (actors_live_in_runs_with_falls older before run)
      where
        at : (same : Bool) → (c == a) ≡ same → Old older before
            → LivesIn decl a (older ++ marked c (step_of given) ∷ []) t
        at true same old =
            subst (λ (v : Bool). LivesIn decl a (older ++ marked c (step_of given) ∷ []) v)
            (open_here before a c true false t same free is)
            (subst (λ (k : ℕ). LivesIn decl k (older ++ marked c (step_of given) ∷ []) true) (eqb-true c a same)
            (lives_takes decl script c given older
            (ready_messages_were_sent_through_falls (IsLawfulWithFalls decl) fits decl script older before run c given
            rdy) rdy
            (reaches older before run c (low older before run c false free) given rdy) (old c false free)))
        at false other old =
            lives_on decl script a t older (older ++ marked c (step_of given) ∷ [])
            (deeds-other c a [] older (step_of given ∷ []) other)
            (mail_grows decl script older (marked c (step_of given) ∷ []))
            (old a t (open_elsewhere before a c true t other is))
    actors_live_in_runs_with_falls h open_inputs (posts c turn before older run taken law) a t is =
        at (c == a) refl (actors_live_in_runs_with_falls older before run)
      where
        at : (same : Bool) → (c == a) ≡ same → Old older before
            → LivesIn decl a (older ++ by c (posted_as turn.append (length (mail older)) turn)) t
        at true same old =
            subst (λ (v : Bool). LivesIn decl a (older ++ by c (posted_as turn.append (length (mail older)) turn)) v)
            (open_here before a c false true t same taken is)
            (subst (λ (k : ℕ). LivesIn decl k (older ++ by c (posted_as turn.append (length (mail older)) turn)) false)
            (eqb-true c a same)
            (lives_posts decl script c turn older law (old c true taken)))
        at false other old =
            lives_on decl script a t older (older ++ by c (posted_as turn.append (length (mail older)) turn))
            (deeds-other c a [] older (posted_as turn.append (length (mail older)) turn) other)
            (mail_grows decl script older (by c (posted_as turn.append (length (mail older)) turn)))
            (old a t (open_elsewhere before a c false t other is))
    actors_live_in_runs_with_falls h open_inputs (phase before older run none done quiet more) a t is =
        lives_on decl script a t older (older ++ marked (controller decl) (steps.Phase (phase_of older + 1)) ∷ [])
        (deeds-silent a (controller decl) older (steps.Phase (phase_of older + 1))
        (phase_silent (phase_of older + 1)))
        (mail_grows decl script older (marked (controller decl) (steps.Phase (phase_of older + 1)) ∷ []))
        (actors_live_in_runs_with_falls older before run a t is)
    actors_live_in_runs_with_falls h open_inputs (control line lines step before older run left is_step) a t is =
        lives_on decl script a t older (older ++ marked (controller decl) step ∷ [])
        (deeds-silent a (controller decl) older step (line_silent line step is_step))
        (mail_grows decl script older (marked (controller decl) step ∷ []))
        (actors_live_in_runs_with_falls older before run a t is)
    actors_live_in_runs_with_falls h open_inputs (falls c lines before older run left) a t is =
        by_line c a t older before (steps.Fell causes.Script None ∷ []) is
        (actors_live_in_runs_with_falls older before run) own
      where
        none : t ≡ false
        none = closed older before run (controls.Crash c) lines left a t is

        own : slice_get before c ≡ Some t → LivesIn decl c older t
            → LivesIn decl c (older ++ by c (steps.Fell causes.Script None ∷ [])) t
        own here r =
            subst (λ (v : Bool). LivesIn decl c (older ++ by c (steps.Fell causes.Script None ∷ [])) v) (sym none)
            (lives_falls decl script c causes.Script older
            (λ n life. lives.crashes (deeds c [] older) n life
            (up_of (deeds c [] older) true
            (sym (crashes_up (IsLawfulWithFalls decl) fits decl script older before few run c lines left)
            ∙ up_in older before run c (low older before run c t here))))
            (subst (LivesIn decl c older) none r))
    actors_live_in_runs_with_falls h open_inputs (rises c records turn lines before older run left fit has law) a t is =
        by_line c a t older before (steps.Rose records ∷ posted_as turn.append (length (mail older)) turn) is
        (actors_live_in_runs_with_falls older before run) own
      where
        none : t ≡ false
        none = closed older before run (controls.Restart c) lines left a t is

        own : slice_get before c ≡ Some t → LivesIn decl c older t
            → LivesIn decl c (older ++ by c (steps.Rose records ∷ posted_as turn.append (length (mail older)) turn)) t
        own here r =
            subst (λ (v : Bool). LivesIn decl c
            (older ++ by c (steps.Rose records ∷ posted_as turn.append (length (mail older)) turn)) v) (sym none)
            (lives_rises decl script c records turn older
            (up_of (deeds c [] older) false
            (sym (restarts_down (IsLawfulWithFalls decl) fits decl script older before few run c lines left)
            ∙ up_in older before run c (low older before run c t here)))
            law (subst (LivesIn decl c older) none r))
    actors_live_in_runs_with_falls h open_inputs (damaged c offset lines before older run left) a t is =
        lives_on decl script a t older (older ++ marked c (steps.Damaged offset) ∷ [])
        (deeds-silent a c older (steps.Damaged offset) (damage_silent offset))
        (mail_grows decl script older (marked c (steps.Damaged offset) ∷ []))
        (actors_live_in_runs_with_falls older before run a t is)
    actors_live_in_runs_with_falls h open_inputs (unopened c cause lines before older run left disk) a t is =
        by_line c a t older before (steps.Fell cause None ∷ []) is (actors_live_in_runs_with_falls older before run) own
      where
        none : t ≡ false
        none = closed older before run (controls.Restart c) lines left a t is

        own : slice_get before c ≡ Some t → LivesIn decl c older t
            → LivesIn decl c (older ++ by c (steps.Fell cause None ∷ [])) t
        own here r =
            subst (λ (v : Bool). LivesIn decl c (older ++ by c (steps.Fell cause None ∷ [])) v) (sym none)
            (lives_falls decl script c cause older
            (λ n life. lives.unopened (deeds c [] older) cause n life
            (up_of (deeds c [] older) false
            (sym (restarts_down (IsLawfulWithFalls decl) fits decl script older before few run c lines left)
            ∙ up_in older before run c (low older before run c t here)))
            disk)
            (subst (LivesIn decl c older) none r))
