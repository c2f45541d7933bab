-- In each run each open request of a client is awaited: it is lost, or unanswered, or a copy of an answer is ready.
use Rattle.std.proofs.Common.{[], ◌≡◌, ℕ, ◌+◌, ◌-◌, ◌==◌, ◌⊎◌, Bool, true, false, if◌then◌else◌, inl, inr, List, ◌∷◌}
use Rattle.std.proofs.Common.{◌++◌, drop, length, Option, Some, None, refl, sym, ap, ◌∙◌, subst, eqb-true, eq-eqb}
use Rattle.std.specs.List.{fold}
use Rattle.std.proofs.lemmas.List.Sums.{fold-append}
use Rattle.qc_list.specs.Vocabulary.{In}
use Rattle.qc_core.specs.Vocabulary.{IsLawful}
use Rattle.qc_decl.specs.declared.declaration.Declaration.{Declaration}
use Rattle.qc_decl.specs.Vocabulary.{controller}
use Rattle.qc_client.specs.declared.client.Client.{Client}
use Rattle.qc_client.specs.Vocabulary.{ClientMove, client_after, client_does, client_takes, moved, new_client, sent_one}
use Rattle.qc_msg.specs.declared.call.Call.{Call}
use Rattle.qc_msg.specs.declared.record.Record.{Record}
use Rattle.qc_msg.specs.declared.reply.Reply.{Reply}
use Rattle.qc_msg.specs.declared.step.Control.{Control}
use Rattle.qc_msg.specs.declared.step.Input.{Input}
use Rattle.qc_msg.specs.declared.step.Input.TheVariants as inputs
use Rattle.qc_msg.specs.declared.step.Step.{Step}
use Rattle.qc_msg.specs.declared.step.Step.TheVariants as steps
use Rattle.qc_msg.specs.declared.turn.Posting.{Posting}
use Rattle.qc_msg.specs.declared.turn.Turn.{Turn}
use Rattle.qc_msg.specs.Vocabulary.{Deed, Entry, Sends, Takes, by, deeds, mail, marked, posted, quiet, sends_of, sents}
use Rattle.qc_msg.specs.Vocabulary.{step_of, tells_of, told, turn_deeds, writes_of, wrote}
use Rattle.qc_msg.proofs.DeedsGrow.{deeds-other}
use Rattle.qc_msg.proofs.Growth.{deeds-posted, deeds-taken}
use Rattle.qc_script.specs.declared.script.Script.{Script}
use Rattle.qc_script.proofs.AllUp.{Stays, step_up}
use Rattle.qc_script.specs.Vocabulary.{Inbox, Runs, copy_taken, empty_inbox, everybody, inbox, inbox_at, loss_taken}
use Rattle.qc_script.specs.Vocabulary.{phase_of, ready, ready_in, step_of_control}
use Rattle.qc_script.specs.Runs.{begins, takes, posts, phase, control}
use Rattle.laws_turns.specs.Vocabulary.{IsAwaited, open_calls}
use Rattle.laws_turns.proofs.Acted.{deeds-silent}
use Rattle.laws_turns.proofs.Arrivals.{what_is_ready_was_sent}
use Rattle.laws_turns.proofs.Awaiting.{Spares, awaited_got, awaited_lost, awaited_request, awaited_step}
use Rattle.laws_turns.proofs.Fewer.{IsNewCall, IsNotFor, Keeps, sent_calls, takes_keeps}
use Rattle.laws_turns.proofs.FrontAsks.{IsBound}
use Rattle.laws_turns.proofs.Numbered.{control_silent, phase_silent}
use Rattle.laws_turns.proofs.ReadyFirst.{ready_copy, ready_loss}
use Rattle.laws_turns.proofs.StepCases.{control_cases}

-- each open request of a client is awaited
pub record AreAwaited (c : Client) (i : Inbox) : Type 0 where
  pub up : i.up ≡ everybody
  pub calls : (q : Call) → In q (open_calls c) → IsAwaited q.number i
  pub bound : IsBound c.front

module _ (decl : Declaration) (script : Script) (a : ℕ) where
  abbrev step_in : Inbox → Entry → Inbox
  step_in i e = inbox_at script a i e.actor e.step

  -- steps that aren't the actor's own takes keep it

  one_step : (c : Client) (i : Inbox) (b : ℕ) (step : Step) → Spares script a b step → Stays step → AreAwaited c i
      → AreAwaited c (inbox_at script a i b step)
  one_step c i b step spares stays are = record {
    up = step_up script a i b step stays are.up;
    calls = λ q member. awaited_step script a q.number i b step spares are.up (are.calls q member);
    bound = are.bound;
  }

  told_steps : (c : Client) (i : Inbox) (b : ℕ) (reply : Option Reply) → AreAwaited c i
      → AreAwaited c (fold step_in i (by b (told reply)))
  told_steps c i b None are = are
  told_steps c i b (Some reply) are = one_step c i b (steps.Told reply) tt tt are

  sent_steps : (c : Client) (i : Inbox) (b n : ℕ) (ps : List Posting) (reply : Option Reply) → AreAwaited c i
      → AreAwaited c (fold step_in i (by b (sents n ps ++ told reply)))
  sent_steps c i b n [] reply are = told_steps c i b reply are
  sent_steps c i b n (p ∷ ps) reply are =
      sent_steps c (inbox_at script a i b (steps.Sent n p.to p.message)) b (n + 1) ps reply
      (one_step c i b (steps.Sent n p.to p.message) tt tt are)

  turn_steps : (c : Client) (i : Inbox) (b n : ℕ) (turn : Turn) → AreAwaited c i
      → AreAwaited c (fold step_in i (by b (posted n turn)))
  turn_steps c i b n turn are = at turn.write
    where
      at : (w : Option Record)
          → AreAwaited c (fold step_in i (by b (wrote w ++ (sents n turn.sends ++ told turn.told))))
      at None = sent_steps c i b n turn.sends turn.told are
      at (Some written) =
          sent_steps c (inbox_at script a i b (steps.Wrote written)) b n turn.sends turn.told
          (one_step c i b (steps.Wrote written) tt tt are)

  -- the client posts: its requests are open then, and awaited

  own_request : (c : Client) (i : Inbox) (n : ℕ) (p : Posting) → (a == a) ≡ true → AreAwaited c i
      → AreAwaited (sent_one c n p.to p.message) (inbox_at script a i a (steps.Sent n p.to p.message))
  own_request c i n p mine are =
      record {
        up = step_up script a i a (steps.Sent n p.to p.message) tt are.up;
        calls = λ q member. at q ((sent_calls c n p.to p.message are.bound).calls q member);
        bound = (sent_calls c n p.to p.message are.bound).bound;
      }
    where
      at : (q : Call) → In q (open_calls c) ⊎ IsNewCall n p.message q
          → IsAwaited q.number (inbox_at script a i a (steps.Sent n p.to p.message))
      at q (inl old) = awaited_step script a q.number i a (steps.Sent n p.to p.message) tt are.up (are.calls q old)
      at q (inr new) =
          subst (λ (k : ℕ). IsAwaited k (inbox_at script a i a (steps.Sent n p.to p.message))) (sym new.0)
          (awaited_request script a i (record { number = n; from = a; to = p.to; message = p.message }) mine new.1)

  own_tells : (m : ClientMove) (i : Inbox) (reply : Option Reply) → AreAwaited m.client i
      → AreAwaited (fold (client_does decl) m (tells_of reply)).client (fold step_in i (by a (told reply)))
  own_tells m i None are = are
  own_tells m i (Some reply) are = one_step m.client i a (steps.Told reply) tt tt are

  own_sends : (m : ClientMove) (i : Inbox) (n : ℕ) (ps : List Posting) (reply : Option Reply) → (a == a) ≡ true
      → AreAwaited m.client i
      → AreAwaited (fold (client_does decl) m (sends_of n ps ++ tells_of reply)).client
      (fold step_in i (by a (sents n ps ++ told reply)))
  own_sends m i n [] reply mine are = own_tells m i reply are
  own_sends m i n (p ∷ ps) reply mine are =
      own_sends (client_does decl m (Sends n p.to p.message)) (inbox_at script a i a (steps.Sent n p.to p.message))
      (n + 1) ps reply mine (own_request m.client i n p mine are)

  own_turn : (m : ClientMove) (i : Inbox) (n : ℕ) (turn : Turn) → AreAwaited m.client i
      → AreAwaited (fold (client_does decl) m (turn_deeds n turn)).client (fold step_in i (by a (posted n turn)))
  own_turn m i n turn are = at turn.write
    where
      at : (w : Option Record)
          → AreAwaited (fold (client_does decl) m (writes_of w ++ (sends_of n turn.sends ++ tells_of turn.told))).client
          (fold step_in i (by a (wrote w ++ (sents n turn.sends ++ told turn.told))))
      at None = own_sends m i n turn.sends turn.told (eq-eqb a a refl) are
      at (Some written) =
          own_sends m (inbox_at script a i a (steps.Wrote written)) n turn.sends turn.told (eq-eqb a a refl)
          (one_step m.client i a (steps.Wrote written) tt tt are)

  -- the client takes what is ready

  input_steady : (g : Input) → Stays (step_of g)
  input_steady (inputs.Called command) = tt
  input_steady (inputs.Got envelope) = tt
  input_steady (inputs.Lost number) = tt

  own_take : (c : Client) (i : Inbox) (taken : Input) → (a == a) ≡ true → ready_in decl a i ≡ Some taken
      → AreAwaited c i → AreAwaited (client_takes decl c taken).client (inbox_at script a i a (step_of taken))
  own_take c i taken mine rdy are =
      record {
        up = step_up script a i a (step_of taken) (input_steady taken) are.up;
        calls = at taken rdy (takes_keeps decl c are.bound taken);
        bound = (takes_keeps decl c are.bound taken).bound;
      }
    where
      at : (g : Input) → ready_in decl a i ≡ Some g → Keeps c (λ n. IsNotFor n g) (client_takes decl c g) → (q : Call)
          → In q (open_calls (client_takes decl c g).client) → IsAwaited q.number (inbox_at script a i a (step_of g))
      at (inputs.Called command) r kept q member =
          awaited_step script a q.number i a (steps.Called command) tt are.up (are.calls q (kept.calls q member).0)
      at (inputs.Got e) r kept q member =
          subst (λ (t : Bool). IsAwaited q.number (if t then copy_taken i else i)) (sym mine)
          (awaited_got script a q.number i e (drop 1 i.copies) (ready_copy decl a i e r) (kept.calls q member).1
          (are.calls q (kept.calls q member).0))
      at (inputs.Lost n) r kept q member =
          subst (λ (t : Bool). IsAwaited q.number (if t then loss_taken i else i)) (sym mine)
          (awaited_lost script a q.number n i (drop 1 i.lost) (ready_loss decl a i n r) (kept.calls q member).1
          (are.calls q (kept.calls q member).0))

  other_take : (c : Client) (i : Inbox) (b : ℕ) (taken : Input) → (b == a) ≡ false → AreAwaited c i
      → AreAwaited c (inbox_at script a i b (step_of taken))
  other_take c i b (inputs.Called command) other are = one_step c i b (steps.Called command) tt tt are
  other_take c i b (inputs.Got e) other are = one_step c i b (steps.Got e.number) other tt are
  other_take c i b (inputs.Lost n) other are = one_step c i b (steps.Lost n) other tt are

  control_step : (line : Control) (step : Step) (c : Client) (i : Inbox) (b : ℕ) → step_of_control line ≡ Some step
      → AreAwaited c i → AreAwaited c (inbox_at script a i b step)
  control_step line step c i b is are =
      control_cases (λ (s : Step). AreAwaited c (inbox_at script a i b s))
      (λ x y. one_step c i b (steps.Cut x y) tt tt are) (λ x y. one_step c i b (steps.Heal x y) tt tt are) line step is

  -- in each run

  abbrev client_of : List Entry → Client
  client_of h = (client_after decl (a - decl.sites) (deeds a [] h)).client

  inbox_more : (h k : List Entry) → inbox script a (h ++ k) ≡ fold step_in (inbox script a h) k
  inbox_more h k = fold-append step_in empty_inbox h k

  client_more : (h k : List Entry) (more : List Deed) → deeds a [] (h ++ k) ≡ deeds a [] h ++ more
      → client_after decl (a - decl.sites) (deeds a [] (h ++ k))
      ≡ fold (client_does decl) (client_after decl (a - decl.sites) (deeds a [] h)) more
  client_more h k more is =
      ap (λ (ds : List Deed). client_after decl (a - decl.sites) ds) is
      ∙ fold-append (client_does decl) (moved (new_client (a - decl.sites)) quiet) (deeds a [] h) more

  goes_on : (h k : List Entry) (more : List Deed) → deeds a [] (h ++ k) ≡ deeds a [] h ++ more
      → AreAwaited (fold (client_does decl) (client_after decl (a - decl.sites) (deeds a [] h)) more).client
      (fold step_in (inbox script a h) k) → AreAwaited (client_of (h ++ k)) (inbox script a (h ++ k))
  goes_on h k more is are =
      subst (λ (m : ClientMove). AreAwaited m.client (inbox script a (h ++ k))) (sym (client_more h k more is))
      (subst (λ (i : Inbox). AreAwaited (fold (client_does decl) (client_after decl (a - decl.sites) (deeds a [] h))
      more).client i) (sym (inbox_more h k)) are)

  stays_on : (h k : List Entry) → deeds a [] (h ++ k) ≡ deeds a [] h
      → AreAwaited (client_of h) (fold step_in (inbox script a h) k)
      → AreAwaited (client_of (h ++ k)) (inbox script a (h ++ k))
  stays_on h k is are =
      subst (λ (ds : List Deed). AreAwaited (client_after decl (a - decl.sites) ds).client (inbox script a (h ++ k)))
      (sym is)
      (subst (λ (i : Inbox). AreAwaited (client_of h) i) (sym (inbox_more h k)) are)

  pub run_awaited : (h : List Entry) (open_inputs : List Bool) → Runs (IsLawful decl) decl script h open_inputs
      → AreAwaited (client_after decl (a - decl.sites) (deeds a [] h)).client (inbox script a h)
  run_awaited h open_inputs begins = record { up = refl; calls = λ q member. absurd member; bound = λ none. refl }
  run_awaited h open_inputs (takes b taken before older run free rdy) = at (b == a) refl (run_awaited older before run)
    where
      at : (t : Bool) → (b == a) ≡ t → AreAwaited (client_of older) (inbox script a older)
          → AreAwaited (client_of (older ++ marked b (step_of taken) ∷ []))
          (inbox script a (older ++ marked b (step_of taken) ∷ []))
      at true same are =
          let is : b ≡ a = eqb-true b a same in
          let sent : deeds b [] (older ++ marked b (step_of taken) ∷ []) ≡ deeds b [] older ++ Takes taken ∷ [] =
          deeds-taken b older taken
          (what_is_ready_was_sent (IsLawful decl) decl script older before run b taken rdy) in
          subst (λ (k : ℕ). AreAwaited (client_of (older ++ marked k (step_of taken) ∷ []))
          (inbox script a (older ++ marked k (step_of taken) ∷ []))) (sym is)
          (goes_on older (marked a (step_of taken) ∷ []) (Takes taken ∷ [])
          (subst (λ (k : ℕ). deeds k [] (older ++ marked k (step_of taken) ∷ [])
          ≡ deeds k [] older ++ Takes taken ∷ []) is sent)
          (own_take (client_of older) (inbox script a older) taken (eq-eqb a a refl)
          (subst (λ (k : ℕ). ready decl script k older ≡ Some taken) is rdy) are))
      at false other are =
          stays_on older (marked b (step_of taken) ∷ []) (deeds-other b a [] older (step_of taken ∷ []) other)
          (other_take (client_of older) (inbox script a older) b taken other are)
  run_awaited h open_inputs (posts b turn before older run taken law) = at (b == a) refl (run_awaited older before run)
    where
      at : (t : Bool) → (b == a) ≡ t → AreAwaited (client_of older) (inbox script a older)
          → AreAwaited (client_of (older ++ by b (posted (length (mail older)) turn)))
          (inbox script a (older ++ by b (posted (length (mail older)) turn)))
      at true same are =
          subst (λ (k : ℕ). AreAwaited (client_of (older ++ by k (posted (length (mail older)) turn)))
          (inbox script a (older ++ by k (posted (length (mail older)) turn)))) (sym (eqb-true b a same))
          (goes_on older (by a (posted (length (mail older)) turn)) (turn_deeds (length (mail older)) turn)
          (deeds-posted a (length (mail older)) older turn)
          (own_turn (client_after decl (a - decl.sites) (deeds a [] older)) (inbox script a older) (length (mail older))
          turn are))
      at false other are =
          stays_on older (by b (posted (length (mail older)) turn))
          (deeds-other b a [] older (posted (length (mail older)) turn) other)
          (turn_steps (client_of older) (inbox script a older) b (length (mail older)) turn are)
  run_awaited h open_inputs (phase before older run none done quiet_all more) =
      stays_on older (marked (controller decl) (steps.Phase (phase_of older + 1)) ∷ [])
      (deeds-silent a (controller decl) older (steps.Phase (phase_of older + 1)) (phase_silent (phase_of older + 1)))
      (one_step (client_of older) (inbox script a older) (controller decl) (steps.Phase (phase_of older + 1)) tt tt
      (run_awaited older before run))
  run_awaited h open_inputs (control line lines step before older run at is) =
      stays_on older (marked (controller decl) step ∷ [])
      (deeds-silent a (controller decl) older step (control_silent line step is))
      (control_step line step (client_of older) (inbox script a older) (controller decl) is
      (run_awaited older before run))

-- so each open request of a client is awaited
pub open_requests_are_awaited : (decl : Declaration) (script : Script) (a : ℕ) (h : List Entry)
    (open_inputs : List Bool)
    → Runs (IsLawful decl) decl script h open_inputs
    → (q : Call) → In q (open_calls (client_after decl (a - decl.sites) (deeds a [] h)).client)
    → IsAwaited q.number (inbox script a h)
open_requests_are_awaited decl script a h open_inputs run q member =
    (run_awaited decl script a h open_inputs run).calls q member
