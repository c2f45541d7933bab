-- A request that is awaited stays so through falls of others too: then it is lost, if it went to who falls.
use Rattle.std.proofs.Common.{[], ◌≡◌, ℕ, ◌+◌, ◌-◌, ◌==◌, ◌⊎◌, Bool, true, false, if◌then◌else◌, inl, inr, List, ◌∷◌}
use Rattle.std.proofs.Common.{◌++◌, drop, Option, Some, None, slice_get, refl, sym, ap, ◌∙◌, subst}
use Rattle.std.specs.Prelude.{set, MatchOption}
use Rattle.std.specs.Option.{option_map_or}
use Rattle.qc_list.specs.Vocabulary.{In}
use Rattle.laws_turns.specs.Vocabulary.{IsAwaited}
use Rattle.qc_link.specs.Vocabulary.{fate, with_cut, without_cut}
use Rattle.qc_msg.specs.declared.message.Envelope.{Envelope}
use Rattle.qc_msg.specs.declared.step.Control.{Control}
use Rattle.qc_msg.specs.declared.step.Step.{Step}
use Rattle.qc_msg.specs.declared.step.Step.TheVariants as steps
use Rattle.qc_script.specs.declared.script.PhaseLines.{PhaseLines}
use Rattle.qc_script.specs.declared.script.Script.{Script}
use Rattle.qc_script.specs.Vocabulary.{Inbox, acting, actor_fell, comes, comes_with, command_called, commands_for}
use Rattle.qc_script.specs.Vocabulary.{control_acted, copy_taken, count_of, emptied, goes, if_up, inbox_at, is_by_line}
use Rattle.qc_script.specs.Vocabulary.{is_up, loss_taken, opened, opened_by, phase_begun, reply_told, request_numbers}
use Rattle.qc_script.specs.Vocabulary.{requests_to, requests_to_others, with_lost}
use Rattle.qc_script.proofs.InboxesSend.{sends_does}
use Rattle.laws_due.proofs.AwaitedMessages.{lost_stays, parted, up_if, KeepsUp}
use Rattle.qc_msg.specs.Vocabulary.{Fallen, fell_in, lost_in, received_in}
use Rattle.laws_due.proofs.InboxCases.{inbox_cases}
use Rattle.qc_script.proofs.AllUp.{opened_up}
use Rattle.laws_due.proofs.AwaitedMessages.{up_other}
use Rattle.laws_due.proofs.AwaitedMessages.{fell_up}
use Rattle.laws_turns.proofs.AwaitedCopies.{answer_second, awaited_if, awaited_more, awaited_comes_with}
use Rattle.laws_turns.proofs.AwaitedCopies.{awaited_goes_with}

module _ (script : Script) (a : ℕ) where
  -- a step that leaves whether the actor is up

  pub keeps_up : (i : Inbox) (b : ℕ) (step : Step) → KeepsUp script a b step
      → is_up (inbox_at script a i b step).up a ≡ is_up i.up a
  keeps_up i b (steps.Phase k) other = at (slice_get script.phases (k - 1))
    where
      at : (o : Option PhaseLines) → is_up (option_map_or (phase_begun a i) o i).up a ≡ is_up i.up a
      at None = refl
      at (Some p) =
          ap (λ (v : List Bool). is_up v a)
          (opened_up a
          (record i {
            opening = i.opening ++ i.late;
            late = [];
            controls = p.controls;
            commands = i.commands ++ commands_for a p.commands;
          }))
  keeps_up i b (steps.Cut x y) other =
      ap (λ (v : List Bool). is_up v a)
      (opened_up a (record i { cuts = with_cut i.cuts x y; controls = drop 1 i.controls }))
  keeps_up i b (steps.Heal x y) other =
      ap (λ (v : List Bool). is_up v a)
      (opened_up a (record i { cuts = without_cut i.cuts x y; controls = drop 1 i.controls }))
  keeps_up i b (steps.Armed actor kind place) other =
      ap (λ (v : List Bool). is_up v a) (opened_up a (record i { controls = drop 1 i.controls }))
  keeps_up i b (steps.Called command) other =
      ap (λ (v : List Bool). is_up v a) (up_if i.up (b == a) (command_called i) i refl refl)
  keeps_up i b (steps.Got n) other = ap (λ (v : List Bool). is_up v a) (up_if i.up (b == a) (copy_taken i) i refl refl)
  keeps_up i b (steps.Lost n) other = ap (λ (v : List Bool). is_up v a) (up_if i.up (b == a) (loss_taken i) i refl refl)
  keeps_up i b (steps.Wrote written) other = at (is_up i.up b)
    where
      at : (t : Bool) → is_up (if t then i else control_acted a (record i { up = set i.up b true })).up a ≡ is_up i.up a
      at true = refl
      at false =
          ap (λ (v : List Bool). is_up v a)
          (opened_up a (record i { up = set i.up b true; controls = drop 1 i.controls })) ∙ up_other i.up b a true other
  keeps_up i b (steps.Sent n to message) other =
      ap (λ (v : List Bool). is_up v a)
      (sends_does script.links a i (record { number = n; from = b; to = to; message = message })).up
  keeps_up i b (steps.Told reply) other =
      ap (λ (v : List Bool). is_up v a) (up_if i.up (b == a) (reply_told i) i refl refl)
  keeps_up i b (steps.Fell cause pending) other = at (is_by_line (is_up i.up b) cause)
    where
      gone : is_up (actor_fell a i b).up a ≡ is_up i.up a
      gone = ap (λ (v : List Bool). is_up v a) (fell_up a i b) ∙ up_other i.up b a false other

      at : (t : Bool) → is_up (if t then control_acted a (actor_fell a i b) else actor_fell a i b).up a ≡ is_up i.up a
      at true =
          ap (λ (v : List Bool). is_up v a)
          (opened_up a (record (actor_fell a i b) { controls = drop 1 (actor_fell a i b).controls })) ∙ gone
      at false = gone
  keeps_up i b (steps.Rose records) other = refl
  keeps_up i b (steps.Damaged offset) other =
      ap (λ (v : List Bool). is_up v a) (opened_up a (record i { controls = drop 1 i.controls }))

  awaited_message : (n : ℕ) (i : Inbox) (e : Envelope) → is_up i.up a ≡ true → IsAwaited n i
      → IsAwaited n (goes script.links a (comes script.links a i e) e)
  awaited_message n i e up is =
      awaited_if n (e.from == a) _ (comes script.links a i e)
      (awaited_goes_with n (comes script.links a i e) e
      (fate script.links (comes script.links a i e).cuts e.from e.to
      (count_of (comes script.links a i e).to_each e.to + 1)) came) came
    where
      came : IsAwaited n (comes script.links a i e)
      came = awaited_if n (e.to == a) _ i
          (subst (λ (t : Bool). IsAwaited n
          (comes_with t i e (fate script.links i.cuts e.from e.to (count_of i.from_each e.from + 1)))) (sym up)
          (awaited_comes_with n i e (fate script.links i.cuts e.from e.to (count_of i.from_each e.from + 1)) is)) is

  -- phases, control lines and falls of others

  awaited_opened_by : (n : ℕ) (lines : List Control) (i : Inbox) → IsAwaited n i → IsAwaited n (opened_by a lines i)
  awaited_opened_by n [] i is =
      awaited_more n i (record i { copies = if_up (is_up i.up a) i.opening ++ i.copies; opening = [] }) refl refl
      (answer_second n (if_up (is_up i.up a) i.opening) i.copies) is
  awaited_opened_by n (line ∷ lines) i is = is

  awaited_opened : (n : ℕ) (i : Inbox) → IsAwaited n i → IsAwaited n (opened a i)
  awaited_opened n i is =
      awaited_opened_by n (acting i.up i.controls) (record i { controls = acting i.up i.controls })
      (awaited_more n i (record i { controls = acting i.up i.controls }) refl refl (λ has. has) is)

  awaited_phase : (n : ℕ) (i : Inbox) (o : Option PhaseLines) → IsAwaited n i
      → IsAwaited n (option_map_or (phase_begun a i) o i)
  awaited_phase n i None is = is
  awaited_phase n i (Some p) is =
      awaited_opened n
      (record i {
        opening = i.opening ++ i.late;
        late = [];
        controls = p.controls;
        commands = i.commands ++ commands_for a p.commands;
      })
      (awaited_more n i
      (record i {
        opening = i.opening ++ i.late;
        late = [];
        controls = p.controls;
        commands = i.commands ++ commands_for a p.commands;
      }) refl refl (λ has. has) is)

  awaited_acted : (n : ℕ) (i : Inbox) → IsAwaited n i → IsAwaited n (control_acted a i)
  awaited_acted n i is =
      awaited_opened n (record i { controls = drop 1 i.controls })
      (awaited_more n i (record i { controls = drop 1 i.controls }) refl refl (λ has. has) is)

  awaited_fell : (n : ℕ) (i : Inbox) (b : ℕ) → (b == a) ≡ false → IsAwaited n i → IsAwaited n (actor_fell a i b)
  awaited_fell n i b other is =
      subst (λ (t : Bool). IsAwaited n
      (emptied t
      (record i {
        up = set i.up b false;
        unanswered = requests_to_others b i.unanswered;
        lost = with_lost (requests_to b i.unanswered) i.lost;
      }))) (sym other) (at is)
    where
      still : In n (with_lost (requests_to b i.unanswered) i.lost)
          ⊎ In n (request_numbers (requests_to_others b i.unanswered))
          → IsAwaited n
          (record i {
            up = set i.up b false;
            unanswered = requests_to_others b i.unanswered;
            lost = with_lost (requests_to b i.unanswered) i.lost;
          })
      still (inl lost) = inl lost
      still (inr open_still) = inr (inl open_still)

      at : IsAwaited n i
          → IsAwaited n
          (record i {
            up = set i.up b false;
            unanswered = requests_to_others b i.unanswered;
            lost = with_lost (requests_to b i.unanswered) i.lost;
          })
      at (inl lost) = inl (lost_stays (requests_to b i.unanswered) i.lost n lost)
      at (inr (inl open_still)) = still (parted b i.unanswered n open_still i.lost)
      at (inr (inr has)) = inr (inr has)

  -- any step, but that the actor takes a message or that a request is lost, or falls itself

  abbrev pub Spares : ℕ → Step → Type 0
  Spares b step =
      MatchOption (received_in step)
      (MatchOption (lost_in step)
      (MatchOption (fell_in step) (Unit {0}) (λ (f : Fallen). (b == a) ≡ false)) (λ (n : ℕ). (b == a) ≡ false))
      (λ (n : ℕ). (b == a) ≡ false)

  pub awaited_step : (n : ℕ) (i : Inbox) (b : ℕ) (step : Step) → Spares b step → is_up i.up a ≡ true → IsAwaited n i
      → IsAwaited n (inbox_at script a i b step)
  awaited_step n i b step spares up is =
      inbox_cases script a i b (λ (s : Step) (j : Inbox). Spares b s → IsAwaited n j)
      (λ k spared. awaited_phase n i (slice_get script.phases (k - 1)) is)
      (λ s cuts spared. awaited_acted n (record i { cuts = cuts })
      (awaited_more n i (record i { cuts = cuts }) refl refl (λ has. has) is))
      (λ command spared. awaited_if n (b == a) (command_called i) i
      (awaited_more n i (command_called i) refl refl (λ has. has) is) is)
      (λ m spared. subst (λ (t : Bool). IsAwaited n (if t then copy_taken i else i)) (sym spared) is)
      (λ m spared. subst (λ (t : Bool). IsAwaited n (if t then loss_taken i else i)) (sym spared) is)
      (λ written spared. awaited_if n (is_up i.up b) i _ is
      (awaited_acted n (record i { up = set i.up b true })
      (awaited_more n i (record i { up = set i.up b true }) refl refl (λ has. has) is)))
      (λ m to message spared. awaited_message n i (record { number = m; from = b; to = to; message = message }) up is)
      (λ reply spared. awaited_if n (b == a) (reply_told i) i
      (awaited_more n i (reply_told i) refl refl (λ has. has) is) is)
      (λ cause pending spared. awaited_if n (is_by_line (is_up i.up b) cause) (control_acted a (actor_fell a i b))
      (actor_fell a i b) (awaited_acted n (actor_fell a i b) (awaited_fell n i b spared is))
      (awaited_fell n i b spared is))
      (λ records spared. is) step spares
