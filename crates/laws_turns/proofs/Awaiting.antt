-- A request that is awaited stays so, whatever comes: until its actor takes an answer to it, or that it is lost.
use Rattle.std.proofs.Common.{[], ◌≡◌, ℕ, ◌+◌, ◌-◌, ◌==◌, Bool, true, false, if◌then◌else◌, inl, inr, List, ◌∷◌, ◌++◌}
use Rattle.std.proofs.Common.{drop, Option, Some, None, slice_get, refl, sym, subst}
use Rattle.std.specs.Option.{option_map_or}
use Rattle.std.specs.Prelude.{MatchOption}
use Rattle.qc_list.specs.Vocabulary.{In}
use Rattle.qc_link.specs.Vocabulary.{fate, with_cut, without_cut}
use Rattle.qc_link.specs.declared.rule.Fate.{Fate}
use Rattle.qc_msg.specs.declared.message.Envelope.{Envelope}
use Rattle.qc_msg.specs.declared.step.Control.{Control}
use Rattle.qc_msg.specs.declared.step.Step.{Step}
use Rattle.qc_msg.specs.declared.step.Step.TheVariants as steps
use Rattle.qc_msg.specs.Vocabulary.{Fallen, fell_in, lost_in, received_in}
use Rattle.qc_script.specs.declared.script.PhaseLines.{PhaseLines}
use Rattle.qc_script.specs.declared.script.Script.{Script}
use Rattle.qc_script.specs.Vocabulary.{Inbox, acting, comes, command_called, commands_for, copy_taken, count_of}
use Rattle.qc_script.specs.Vocabulary.{everybody, goes, goes_with, if_up, inbox_at, is_request, is_up, loss_taken}
use Rattle.qc_script.specs.Vocabulary.{one_more, opened, opened_by, phase_begun, reply_told, request_sent}
use Rattle.qc_script.proofs.AllUp.{wrote_up}
use Rattle.laws_turns.specs.Vocabulary.{HasAnswer, IsAnswerTo, IsAwaited}
use Rattle.laws_turns.proofs.AwaitedCopies.{answer_second, awaited_if, awaited_more, awaited_asked, awaited_message}

module _ (script : Script) (a : ℕ) where
  -- a request of the actor's own is awaited once it is sent
  pub awaited_request : (i : Inbox) (e : Envelope) → (e.from == a) ≡ true → is_request e.message ≡ true
      → IsAwaited e.number (goes script.links a (comes script.links a i e) e)
  awaited_request i e mine request =
      let j : Inbox = comes script.links a i e in
      let f : Fate =
      fate script.links (comes script.links a i e).cuts e.from e.to
      (count_of (comes script.links a i e).to_each e.to + 1) in
      subst (λ (t : Bool). IsAwaited e.number (if t then goes_with j e f else j)) (sym mine)
      (subst (λ (t : Bool). IsAwaited e.number
      (if t then request_sent (record j { to_each = one_more j.to_each e.to }) e.number e.to f else record j
      { to_each = one_more j.to_each e.to })) (sym request)
      (awaited_asked e.number e.to (record j { to_each = one_more j.to_each e.to }) f))

  -- phases and control lines

  awaited_opened_by : (n : ℕ) (lines : List Control) (i : Inbox) → IsAwaited n i → IsAwaited n (opened_by a lines i)
  awaited_opened_by n [] i is =
      awaited_more n i (record i { copies = if_up (is_up i.up a) i.opening ++ i.copies; opening = [] }) refl refl
      (answer_second n (if_up (is_up i.up a) i.opening) i.copies) is
  awaited_opened_by n (line ∷ lines) i is = is

  awaited_opened : (n : ℕ) (i : Inbox) → IsAwaited n i → IsAwaited n (opened a i)
  awaited_opened n i is =
      awaited_opened_by n (acting i.up i.controls) (record i { controls = acting i.up i.controls })
      (awaited_more n i (record i { controls = acting i.up i.controls }) refl refl (λ has. has) is)

  awaited_phase : (n : ℕ) (i : Inbox) (o : Option PhaseLines) → IsAwaited n i
      → IsAwaited n (option_map_or (phase_begun a i) o i)
  awaited_phase n i None is = is
  awaited_phase n i (Some p) is =
      awaited_opened n
      (record i {
        opening = i.opening ++ i.late;
        late = [];
        controls = p.controls;
        commands = i.commands ++ commands_for a p.commands;
      })
      (awaited_more n i
      (record i {
        opening = i.opening ++ i.late;
        late = [];
        controls = p.controls;
        commands = i.commands ++ commands_for a p.commands;
      }) refl refl (λ has. has) is)

  -- any step, but that the actor takes a message or that a request is lost, or that one falls

  abbrev pub Spares : ℕ → Step → Type 0
  Spares b step =
      MatchOption (received_in step)
      (MatchOption (lost_in step) (MatchOption (fell_in step) (Unit {0}) (λ (f : Fallen). ⊥))
      (λ (n : ℕ). (b == a) ≡ false))
      (λ (n : ℕ). (b == a) ≡ false)

  pub awaited_step : (n : ℕ) (i : Inbox) (b : ℕ) (step : Step) → Spares b step → i.up ≡ everybody → IsAwaited n i
      → IsAwaited n (inbox_at script a i b step)
  awaited_step n i b (steps.Phase k) spares up is = awaited_phase n i (slice_get script.phases (k - 1)) is
  awaited_step n i b (steps.Cut x y) spares up is =
      awaited_opened n (record i { cuts = with_cut i.cuts x y; controls = drop 1 i.controls })
      (awaited_more n i (record i { cuts = with_cut i.cuts x y; controls = drop 1 i.controls }) refl refl (λ has. has)
      is)
  awaited_step n i b (steps.Heal x y) spares up is =
      awaited_opened n (record i { cuts = without_cut i.cuts x y; controls = drop 1 i.controls })
      (awaited_more n i (record i { cuts = without_cut i.cuts x y; controls = drop 1 i.controls }) refl refl
      (λ has. has) is)
  awaited_step n i b (steps.Armed actor kind at) spares up is =
      awaited_opened n (record i { controls = drop 1 i.controls })
      (awaited_more n i (record i { controls = drop 1 i.controls }) refl refl (λ has. has) is)
  awaited_step n i b (steps.Called command) spares up is =
      awaited_if n (b == a) (command_called i) i (awaited_more n i (command_called i) refl refl (λ has. has) is) is
  awaited_step n i b (steps.Got m) spares up is =
      subst (λ (t : Bool). IsAwaited n (if t then copy_taken i else i)) (sym spares) is
  awaited_step n i b (steps.Lost m) spares up is =
      subst (λ (t : Bool). IsAwaited n (if t then loss_taken i else i)) (sym spares) is
  awaited_step n i b (steps.Wrote written) spares up is = subst (IsAwaited n) (sym (wrote_up a i b up)) is
  awaited_step n i b (steps.Sent m to message) spares up is =
      awaited_message script a n i (record { number = m; from = b; to = to; message = message }) up is
  awaited_step n i b (steps.Told reply) spares up is =
      awaited_if n (b == a) (reply_told i) i (awaited_more n i (reply_told i) refl refl (λ has. has) is) is
  awaited_step n i b (steps.Fell cause pending) spares up is = absurd spares
  awaited_step n i b (steps.Rose records) spares up is = is
  awaited_step n i b (steps.Damaged offset) spares up is =
      awaited_opened n (record i { controls = drop 1 i.controls })
      (awaited_more n i (record i { controls = drop 1 i.controls }) refl refl (λ has. has) is)

  -- the actor takes a message that doesn't answer the request, or that another one is lost

  pub awaited_got : (n : ℕ) (i : Inbox) (e : Envelope) (rest : List Envelope) → i.copies ≡ e ∷ rest
      → (IsAnswerTo n e.message → ⊥) → IsAwaited n i → IsAwaited n (copy_taken i)
  awaited_got n i e rest head other (inl lost) = inl lost
  awaited_got n i e rest head other (inr (inl open_still)) = inr (inl open_still)
  awaited_got n i e rest head other (inr (inr has)) =
      inr (inr (subst (λ (es : List Envelope). HasAnswer n (drop 1 es)) (sym head)
      (at (subst (λ (es : List Envelope). In has.envelope es) head has.member))))
    where
      at : In has.envelope (e ∷ rest) → HasAnswer n rest
      at (inl same) = absurd (other (subst (λ (x : Envelope). IsAnswerTo n x.message) same has.answers))
      at (inr later) = record { envelope = has.envelope; member = later; answers = has.answers }

  pub awaited_lost : (n m : ℕ) (i : Inbox) (rest : List ℕ) → i.lost ≡ m ∷ rest → (n ≡ m → ⊥) → IsAwaited n i
      → IsAwaited n (loss_taken i)
  awaited_lost n m i rest head other (inl lost) =
      inl (subst (λ (ns : List ℕ). In n (drop 1 ns)) (sym head) (at (subst (λ (ns : List ℕ). In n ns) head lost)))
    where
      at : In n (m ∷ rest) → In n rest
      at (inl same) = absurd (other same)
      at (inr later) = later
  awaited_lost n m i rest head other (inr (inl open_still)) = inr (inl open_still)
  awaited_lost n m i rest head other (inr (inr has)) = inr (inr has)
