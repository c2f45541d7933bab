-- Each run with falls whose records are kept is one of the net.
use Rattle.std.proofs.Common.{◌≡◌, ℕ, ◌+◌, Bool, true, false, List, [], ◌∷◌, ◌++◌, length, Some, slice_get, refl, sym}
use Rattle.std.proofs.Common.{ap, ◌∙◌, subst}
use Rattle.std.specs.Prelude.{replicate, slice_set}
use Rattle.std.proofs.lemmas.List.{append-nil}
use Rattle.std.proofs.lemmas.List.Sums.{fold-append}
use Rattle.qc_core.specs.declared.actor.Actor.{Actor}
use Rattle.qc_core.specs.declared.actor.Actor.TheVariants as actor
use Rattle.qc_core.specs.Vocabulary.{IsLawfulWithFalls, actor_after, actor_does, actor_takes, is_up, journal_after}
use Rattle.qc_core.specs.Vocabulary.{journal_at, up_at}
use Rattle.qc_decl.specs.Vocabulary.{IsAccepted, actors, controller}
use Rattle.qc_msg.specs.declared.step.Command.{Command}
use Rattle.qc_decl.specs.declared.declaration.Declaration.{Declaration}
use Rattle.qc_mailbox.proofs.FallLaws.{no_input_is_open_while_a_line_is_left, restarts_down}
use Rattle.qc_mailbox.proofs.FallMail.{ready_messages_were_sent_through_falls}
use Rattle.laws_turns.proofs.Acted.{deeds-silent}
use Rattle.laws_turns.proofs.Numbered.{IsSilent, mail-silent, phase_silent}
use Rattle.laws_turns.specs.Vocabulary.{LivesIn}
use Rattle.laws_turns.proofs.Commands.{may_take}
use Rattle.laws_turns.proofs.LivedMoves.{line_silent}
use Rattle.laws_turns.proofs.Lived.{actors_live_in_runs_with_falls}
use Rattle.qc_msg.specs.declared.message.Envelope.{Envelope}
use Rattle.qc_msg.specs.declared.record.Record.{Record}
use Rattle.qc_msg.specs.declared.step.Control.{Control}
use Rattle.qc_msg.specs.declared.step.Control.TheVariants as controls
use Rattle.qc_msg.specs.declared.step.Input.{Input}
use Rattle.qc_msg.specs.declared.step.Input.TheVariants as given
use Rattle.qc_msg.specs.declared.step.Step.{Step}
use Rattle.qc_msg.specs.declared.step.Step.TheVariants as steps
use Rattle.qc_msg.specs.declared.turn.Turn.{Turn}
use Rattle.qc_msg.specs.Vocabulary.{Entry, Takes, WasSentTo, by, deeds, mail, marked, own, posted_as, step_of}
use Rattle.qc_msg.proofs.GrownMail.{mail-taken}
use Rattle.qc_msg.proofs.DeedsGrow.{deeds-other}
use Rattle.qc_msg.proofs.Growth.{deeds-taken}
use Rattle.laws_refinement.specs.Vocabulary.{IsNamed, MayAdminister, MayCommand, first_net}
use Rattle.laws_refinement.specs.Net as nets
use Rattle.qc_promise.specs.Vocabulary.{IsGivenBack, Journal, Kept, journal_of, no_journal}
use Rattle.qc_script.specs.Vocabulary.{IsScriptFor, RunsWithFalls, begins, control, controls_left, damaged, falls}
use Rattle.qc_script.specs.Vocabulary.{phase, phase_of, posts, ready, rises, takes, unopened}
use Rattle.qc_script.specs.declared.script.Script.{Script}
use Rattle.laws_atomic.proofs.Names.{script_named}
use Rattle.laws_atomic.proofs.Stood.{not_now, slot_other, true_false}
use Rattle.laws_reach.specs.Vocabulary.{TakesInputs}
use Rattle.laws_reach.proofs.Asked.{ready_named}
use Rattle.laws_reach.proofs.Free.{client_free}
use Rattle.laws_reach.proofs.PostedTurns as post
use Rattle.laws_reach.proofs.AdminPosting as posting
use Rattle.laws_reach.proofs.AdminRising as rise
use Rattle.laws_reach.proofs.Stood.{Stands, Stood, in_client, itself, moves, stays}
use Rattle.laws_reach.proofs.StandsFallen.{few, stands_fallen, stands_unopened, up_in}
use Rattle.qc_list.proofs.Places.{replicate_at}
use Rattle.qc_promise.proofs.Posts.{kept_part}

module _ (decl : Declaration) (script : Script) (fits : ℕ → List Record → Type 0) (accepted : IsAccepted decl)
    (sound : IsScriptFor decl script) where
  abbrev IsRun : List Entry → List Bool → Type 0
  IsRun h inputs = RunsWithFalls (IsLawfulWithFalls decl) fits decl script h inputs

  module _ (h : List Entry) (inputs : List Bool) (run : IsRun h inputs) (old : Stood decl h inputs) where
    -- an input is taken

    module _ (a : ℕ) (g : Input) (free : slice_get inputs a ≡ Some false) (rdy : ready decl script a h ≡ Some g) where
      abbrev now_taken : List Entry
      now_taken = h ++ marked a (step_of g) ∷ []

      sent : WasSentTo a (mail h) g
      sent = ready_messages_were_sent_through_falls (IsLawfulWithFalls decl) fits decl script h inputs run a g rdy

      grows : mail now_taken ≡ mail h ++ []
      grows = mail-taken h a g ∙ sym (append-nil (mail h))

      life : LivesIn decl a h false
      life =
          actors_live_in_runs_with_falls decl script fits (few decl script fits accepted sound) h inputs run a false
          free

      named : (command : Command) → g ≡ given.Called command → IsNamed decl command
      named command is =
          ready_named decl script (script_named decl accepted script sound) a h command
          (rdy ∙ ap (λ (x : Input). Some x) is)

      may_admin : (x : Input) → g ≡ x → MayAdminister decl x
      may_admin (given.Called command) is = named command is
      may_admin (given.Got envelope) is = tt
      may_admin (given.Lost number) is = tt

      may : (x : Input) → g ≡ x → (c : _) → (actor_after decl a (deeds a [] h)).actor ≡ actor.Client c
          → MayCommand decl c x
      may (given.Called command) is c state = (
        client_free decl a (deeds a [] h) life.above c life.lives
            (may_take decl script a h (given.Called command) (rdy ∙ ap (λ (x : Input). Some x) is)) state,
        named command is,
      )
      may (given.Got envelope) is c state = tt
      may (given.Lost number) is c state = tt

      same_up : is_up (deeds a [] now_taken) ≡ is_up (deeds a [] h)
      same_up = ap is_up (deeds-taken a h g sent) ∙ fold-append up_at true (deeds a [] h) (Takes g ∷ [])

      same_journal : journal_after (deeds a [] now_taken) ≡ journal_after (deeds a [] h)
      same_journal =
          ap journal_after (deeds-taken a h g sent) ∙ fold-append journal_at no_journal (deeds a [] h) (Takes g ∷ [])

      pub stands_taken : Stood decl now_taken (slice_set inputs a true)
      stands_taken =
          moves decl h now_taken inputs (slice_set inputs a true) old a old.net [] old.reached
          (old.mail_is ∙ sym (mail-taken h a g)) grows (λ b other. itself decl old.net b)
          (λ b other. deeds-other a b [] h (step_of g ∷ []) other) (λ b other. slot_other inputs a b true other) here
        where
          here : TakesInputs decl a → Stands decl old.net a now_taken (slice_get (slice_set inputs a true) a)
          here is =
              let s : Stands decl old.net a h (slice_get inputs a) = old.actors a is in
              record {
                up = s.up ∙ sym same_up;
                records = s.records ∙ ap (λ (j : Journal). j.records) (sym same_journal);
                pending = s.pending ∙ ap (λ (j : Journal). j.pending) (sym same_journal);
                clear = λ up. ap (λ (j : Journal). j.pending) same_journal ∙ s.clear (sym same_up ∙ up);
                closed = λ up slot. absurd (not_now inputs a true false false free true_false slot);
                opened = λ up slot. record {
                  given = g;
                  sent = subst (λ (ms : List Envelope). WasSentTo a ms g) (sym (mail-taken h a g)) sent;
                  may =
                      λ client. may g refl (old.net.clients a)
                      (s.closed (sym same_up ∙ up) free ∙ in_client decl old.net a client);
                  may_admin = λ at. may_admin g refl;
                  before = deeds a [] h;
                  deeds_are = deeds-taken a h g sent;
                  was = s.closed (sym same_up ∙ up) free;
                  is =
                      ap (actor_after decl a) (deeds-taken a h g sent)
                      ∙ fold-append (actor_does decl a) _ (deeds a [] h) (Takes g ∷ [])
                      ∙ ap (λ (v : Actor). actor_takes decl v g) (s.closed (sym same_up ∙ up) free);
                };
              }

    -- a step that is nobody's deed

    pub stands_still : (b : ℕ) (step : Step) → IsSilent step → Stood decl (h ++ marked b step ∷ []) inputs
    stands_still b step silent = record {
      net = old.net;
      reached = old.reached;
      mail_is = old.mail_is ∙ sym (mail-silent h b step silent);
      actors =
          λ a is. stays decl old.net old.net a h (h ++ marked b step ∷ []) [] (slice_get inputs a) (slice_get inputs a)
          is (itself decl old.net a) (deeds-silent a b h step silent)
          (mail-silent h b step silent ∙ sym (append-nil (mail h))) refl (old.actors a is);
    }

    -- it rises

    pub stands_risen : (a : ℕ) (records : List Record) (turn : Turn) (lines : List Control)
        → controls_left script h ≡ controls.Restart a ∷ lines
        → IsLawfulWithFalls decl a (deeds a [] (h ++ marked a (steps.Rose records) ∷ [])) turn
        → IsGivenBack (journal_of (own a h)) records
        → Stood decl (h ++ by a (steps.Rose records ∷ posted_as turn.append (length (mail h)) turn)) inputs
    stands_risen a records turn lines left law back =
        rise.rises decl h inputs old records turn a law back down
        (no_input_is_open_while_a_line_is_left (IsLawfulWithFalls decl) fits decl script h inputs
        (few decl script fits accepted sound) run
        (controls.Restart a) lines left a)
      where
        down : is_up (deeds a [] h) ≡ false
        down =
            sym (up_in decl script fits accepted sound h inputs run old a
            (post.takes_inputs decl a (deeds a [] (h ++ marked a (steps.Rose records) ∷ [])) turn law))
            ∙ restarts_down (IsLawfulWithFalls decl) fits decl script h inputs (few decl script fits accepted sound) run
            a lines left

  none_open : (a : ℕ) → slice_get (replicate (actors decl) false) a ≡ Some true → ⊥
  none_open a is = let no : true ≡ false = replicate_at (actors decl) a false true is in true_false no

  first_stood : Stood decl [] (replicate (actors decl) false)
  first_stood = record {
    net = first_net decl;
    reached = nets.begins;
    mail_is = refl;
    actors =
        λ a is. record {
          up = refl;
          records = refl;
          pending = refl;
          clear = λ up. refl;
          closed = λ up slot. refl;
          opened = λ up slot. absurd (none_open a slot);
        };
  }

  -- each run is one of the net
  pub runs_stand : (h : List Entry) (inputs : List Bool) → IsRun h inputs → Kept h → Stood decl h inputs
  runs_stand h inputs begins kept = first_stood
  runs_stand h inputs (takes a g before older run free rdy) kept =
      stands_taken older before run (runs_stand older before run (kept_part older _ kept)) a g free rdy
  runs_stand h inputs (posts a turn before older run taken law) kept =
      posting.posts decl older before (runs_stand older before run (kept_part older _ kept)) turn a taken law
  runs_stand h inputs (phase before older run idle done quiet more) kept =
      stands_still older before run (runs_stand older before run (kept_part older _ kept)) (controller decl)
      (steps.Phase (phase_of older + 1)) (phase_silent (phase_of older + 1))
  runs_stand h inputs (control line lines acted before older run left is) kept =
      stands_still older before run (runs_stand older before run (kept_part older _ kept)) (controller decl) acted
      (line_silent line acted is)
  runs_stand h inputs (falls a lines before older run left) kept =
      stands_fallen decl script fits accepted sound older before run
      (runs_stand older before run (kept_part older _ kept)) a lines left
  runs_stand h inputs (rises a records turn lines before older run left fit has law) kept =
      stands_risen older before run (runs_stand older before run (kept_part older _ kept)) a records turn lines left
      law (kept older _ (marked a (steps.Rose records)) refl)
  runs_stand h inputs (damaged a offset lines before older run left) kept =
      absurd (kept older [] (marked a (steps.Damaged offset)) refl)
  runs_stand h inputs (unopened a cause lines before older run left disk) kept =
      stands_unopened decl script fits accepted sound older before run
      (runs_stand older before run (kept_part older _ kept)) a cause lines left
