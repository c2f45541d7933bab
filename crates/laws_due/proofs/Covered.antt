-- Each open request of a client, or of the administrator, is awaited: it stays so as others act, and as he takes an
-- input and posts.
use Rattle.std.proofs.Common.{◌≡◌, ℕ, ◌+◌, ◌==◌, ◌⊎◌, Bool, true, false, if◌then◌else◌, inl, inr, List, [], ◌∷◌, ◌++◌}
use Rattle.std.proofs.Common.{drop, Option, Some, None, refl, sym, ◌∙◌, subst, eq-eqb}
use Rattle.std.specs.Prelude.{fold, set}
use Rattle.qc_list.specs.Vocabulary.{In}
use Rattle.qc_core.specs.declared.actor.Actor.{Actor}
use Rattle.qc_core.specs.declared.actor.Actor.TheVariants as actors
use Rattle.qc_core.specs.Vocabulary.{ActorMove, actor_does, actor_sends, actor_takes}
use Rattle.qc_decl.specs.declared.declaration.Declaration.{Declaration}
use Rattle.qc_client.specs.declared.client.Client.{Client}
use Rattle.qc_client.specs.Vocabulary.{client_takes, sent_one}
use Rattle.qc_epoch.specs.Vocabulary.{Admin, admin_takes}
use Rattle.qc_epoch.specs.Conduct as admins
use Rattle.laws_turns.specs.Vocabulary.{IsAwaited, open_calls}
use Rattle.laws_turns.proofs.Awaiting.{awaited_got, awaited_lost, awaited_request}
use Rattle.laws_turns.proofs.ReadyFirst.{ready_copy, ready_loss}
use Rattle.laws_turns.proofs.Fewer.{IsNewCall, IsNotFor, Keeps, sent_calls, takes_keeps}
use Rattle.laws_turns.proofs.FrontAsks.{IsBound}
use Rattle.qc_msg.specs.declared.call.Call.{Call}
use Rattle.qc_msg.specs.declared.record.Record.{Record}
use Rattle.qc_msg.specs.declared.reply.Reply.{Reply}
use Rattle.qc_msg.specs.declared.step.Input.{Input}
use Rattle.qc_msg.specs.declared.step.Input.TheVariants as inputs
use Rattle.qc_msg.specs.declared.step.Step.{Step}
use Rattle.qc_msg.specs.declared.step.Step.TheVariants as steps
use Rattle.qc_msg.specs.declared.turn.Posting.{Posting}
use Rattle.qc_msg.specs.declared.turn.Turn.{Turn}
use Rattle.qc_msg.specs.Vocabulary.{Entry, Sends, by, posted, sends_of, sents, step_of, tells_of, told, turn_deeds}
use Rattle.qc_msg.specs.Vocabulary.{writes_of, wrote, Fallen, fell_in, lost_in, received_in, wrote_in}
use Rattle.qc_script.specs.declared.script.Script.{Script}
use Rattle.qc_script.specs.Vocabulary.{Inbox, control_acted, copy_taken, inbox_at, is_request, is_up, loss_taken}
use Rattle.qc_script.specs.Vocabulary.{ready_in}
use Rattle.laws_due.proofs.AdminCalls.{KeepsCalls, sent_call, takes_keep}
use Rattle.laws_due.proofs.AdminNumbers.{DoingPlain, open_numbers}
use Rattle.laws_due.proofs.AwaitedMessages.{KeepsUp}
use Rattle.laws_due.proofs.Awaiting.{Spares, awaited_step, keeps_up}
use Rattle.laws_turns.proofs.ReadingCases.{matched}

-- each open request of a client is awaited, and the client is up by its inbox
pub record AreAwaited (a : ℕ) (c : Client) (i : Inbox) : Type 0 where
  pub up : is_up i.up a ≡ true
  pub calls : (q : Call) → In q (open_calls c) → IsAwaited q.number i
  pub bound : IsBound c.front

-- the same of the administrator
pub record AreHisAwaited (a : ℕ) (m : Admin) (i : Inbox) : Type 0 where
  pub up : is_up i.up a ≡ true
  pub calls : (k : ℕ) → In k (open_numbers m.doing) → IsAwaited k i
  pub plain : DoingPlain m.doing

abbrev pub Awaits : ℕ → Actor → Inbox → Type 0
Awaits a (actors.Site s) i = Unit {0}
Awaits a (actors.Client c) i = AreAwaited a c i
Awaits a (actors.Admin m) i = AreHisAwaited a m i
Awaits a actors.Down i = Unit {0}

module _ (decl : Declaration) (script : Script) (a : ℕ) where
  abbrev pub step_in : Inbox → Entry → Inbox
  step_in i e = inbox_at script a i e.actor e.step

  pub one_step : (v : Actor) (i : Inbox) (b : ℕ) (step : Step) → Spares script a b step → KeepsUp script a b step
      → Awaits a v i → Awaits a v (inbox_at script a i b step)
  one_step (actors.Site s) i b step spares keeps are = tt
  one_step (actors.Client c) i b step spares keeps are = record {
    up = keeps_up script a i b step keeps ∙ are.up;
    calls = λ q member. awaited_step script a q.number i b step spares are.up (are.calls q member);
    bound = are.bound;
  }
  one_step (actors.Admin m) i b step spares keeps are = record {
    up = keeps_up script a i b step keeps ∙ are.up;
    calls = λ k member. awaited_step script a k i b step spares are.up (are.calls k member);
    plain = are.plain;
  }
  one_step actors.Down i b step spares keeps are = tt

  -- another's steps

  spared : (b : ℕ) (step : Step) → (b == a) ≡ false → Spares script a b step
  spared b step other =
      matched _ (λ (n : ℕ). (b == a) ≡ false) (received_in step) (λ n. other)
      (matched _ (λ (n : ℕ). (b == a) ≡ false) (lost_in step) (λ n. other)
      (matched (Unit {0}) (λ (f : Fallen). (b == a) ≡ false) (fell_in step) (λ f. other) tt))

  kept_up : (b : ℕ) (step : Step) → (b == a) ≡ false → KeepsUp script a b step
  kept_up b step other =
      matched _ (λ (r : Record). (b == a) ≡ false) (wrote_in step) (λ r. other)
      (matched (Unit {0}) (λ (f : Fallen). (b == a) ≡ false) (fell_in step) (λ f. other) tt)

  pub others_steps : (v : Actor) (i : Inbox) (b : ℕ) (xs : List Step) → (b == a) ≡ false → Awaits a v i
      → Awaits a v (fold step_in i (by b xs))
  others_steps v i b [] other are = are
  others_steps v i b (x ∷ xs) other are = others_steps v (inbox_at script a i b x) b xs other
      (one_step v i b x (spared b x other) (kept_up b x other) are)

  -- the client takes what is ready

  taken_up : (i : Inbox) (g : Input) → is_up i.up a ≡ true → is_up (inbox_at script a i a (step_of g)).up a ≡ true
  taken_up i (inputs.Called command) up = keeps_up script a i a (steps.Called command) tt ∙ up
  taken_up i (inputs.Got e) up = keeps_up script a i a (steps.Got e.number) tt ∙ up
  taken_up i (inputs.Lost n) up = keeps_up script a i a (steps.Lost n) tt ∙ up

  client_take : (c : Client) (i : Inbox) (g : Input) → ready_in decl a i ≡ Some g → AreAwaited a c i
      → AreAwaited a (client_takes decl c g).client (inbox_at script a i a (step_of g))
  client_take c i g rdy are = record {
    up = taken_up i g are.up;
    calls = at g rdy (takes_keeps decl c are.bound g);
    bound = (takes_keeps decl c are.bound g).bound;
  }
    where
      at : (g : Input) → ready_in decl a i ≡ Some g → Keeps c (λ n. IsNotFor n g) (client_takes decl c g) → (q : Call)
          → In q (open_calls (client_takes decl c g).client) → IsAwaited q.number (inbox_at script a i a (step_of g))
      at (inputs.Called command) r kept q member =
          awaited_step script a q.number i a (steps.Called command) tt are.up (are.calls q (kept.calls q member).0)
      at (inputs.Got e) r kept q member =
          subst (λ (t : Bool). IsAwaited q.number (if t then copy_taken i else i)) (sym (eq-eqb a a refl))
          (awaited_got script a q.number i e (drop 1 i.copies) (ready_copy decl a i e r) (kept.calls q member).1
          (are.calls q (kept.calls q member).0))
      at (inputs.Lost n) r kept q member =
          subst (λ (t : Bool). IsAwaited q.number (if t then loss_taken i else i)) (sym (eq-eqb a a refl))
          (awaited_lost script a q.number n i (drop 1 i.lost) (ready_loss decl a i n r) (kept.calls q member).1
          (are.calls q (kept.calls q member).0))

  admin_take : (m : Admin) (i : Inbox) (g : Input) → ready_in decl a i ≡ Some g → AreHisAwaited a m i
      → AreHisAwaited a (admin_takes decl m g).admin (inbox_at script a i a (step_of g))
  admin_take m i g rdy are = record {
    up = taken_up i g are.up;
    calls = at g rdy (takes_keep decl m g are.plain);
    plain = (takes_keep decl m g are.plain).plain;
  }
    where
      at : (g : Input) → ready_in decl a i ≡ Some g
          → KeepsCalls (λ k. IsNotFor k g) (open_numbers m.doing) (admin_takes decl m g)
          → (k : ℕ) → In k (open_numbers (admin_takes decl m g).admin.doing)
          → IsAwaited k (inbox_at script a i a (step_of g))
      at (inputs.Called command) r kept k member =
          awaited_step script a k i a (steps.Called command) tt are.up (are.calls k (kept.calls k member).0)
      at (inputs.Got e) r kept k member =
          subst (λ (t : Bool). IsAwaited k (if t then copy_taken i else i)) (sym (eq-eqb a a refl))
          (awaited_got script a k i e (drop 1 i.copies) (ready_copy decl a i e r) (kept.calls k member).1
          (are.calls k (kept.calls k member).0))
      at (inputs.Lost n) r kept k member =
          subst (λ (t : Bool). IsAwaited k (if t then loss_taken i else i)) (sym (eq-eqb a a refl))
          (awaited_lost script a k n i (drop 1 i.lost) (ready_loss decl a i n r) (kept.calls k member).1
          (are.calls k (kept.calls k member).0))

  pub own_take : (v : Actor) (i : Inbox) (g : Input) → ready_in decl a i ≡ Some g → Awaits a v i
      → Awaits a (actor_takes decl v g).actor (inbox_at script a i a (step_of g))
  own_take (actors.Site s) i g rdy are = tt
  own_take (actors.Client c) i g rdy are = client_take c i g rdy are
  own_take (actors.Admin m) i g rdy are = admin_take m i g rdy are
  own_take actors.Down i g rdy are = tt

  -- it posts: its requests are open then, and awaited

  client_request : (c : Client) (i : Inbox) (n : ℕ) (p : Posting) → AreAwaited a c i
      → AreAwaited a (sent_one c n p.to p.message) (inbox_at script a i a (steps.Sent n p.to p.message))
  client_request c i n p are = record {
    up = keeps_up script a i a (steps.Sent n p.to p.message) tt ∙ are.up;
    calls = λ q member. at q ((sent_calls c n p.to p.message are.bound).calls q member);
    bound = (sent_calls c n p.to p.message are.bound).bound;
  }
    where
      at : (q : Call) → In q (open_calls c) ⊎ IsNewCall n p.message q
          → IsAwaited q.number (inbox_at script a i a (steps.Sent n p.to p.message))
      at q (inl old) = awaited_step script a q.number i a (steps.Sent n p.to p.message) tt are.up (are.calls q old)
      at q (inr new) = subst (λ (k : ℕ). IsAwaited k (inbox_at script a i a (steps.Sent n p.to p.message))) (sym new.0)
          (awaited_request script a i (record { number = n; from = a; to = p.to; message = p.message })
          (eq-eqb a a refl) new.1)

  admin_request : (m : Admin) (i : Inbox) (n : ℕ) (p : Posting) → AreHisAwaited a m i
      → AreHisAwaited a (admins.sent_one m n p.to p.message) (inbox_at script a i a (steps.Sent n p.to p.message))
  admin_request m i n p are = record {
    up = keeps_up script a i a (steps.Sent n p.to p.message) tt ∙ are.up;
    calls = λ k member. at k ((sent_call m n p.to p.message).calls k member);
    plain = (sent_call m n p.to p.message).plain are.plain;
  }
    where
      at : (k : ℕ) → In k (open_numbers m.doing) ⊎ ((k ≡ n) × (is_request p.message ≡ true))
          → IsAwaited k (inbox_at script a i a (steps.Sent n p.to p.message))
      at k (inl old) = awaited_step script a k i a (steps.Sent n p.to p.message) tt are.up (are.calls k old)
      at k (inr new) = subst (λ (x : ℕ). IsAwaited x (inbox_at script a i a (steps.Sent n p.to p.message))) (sym new.0)
          (awaited_request script a i (record { number = n; from = a; to = p.to; message = p.message })
          (eq-eqb a a refl) new.1)

  own_request : (v : Actor) (i : Inbox) (n : ℕ) (p : Posting) → Awaits a v i
      → Awaits a (actor_sends v n p.to p.message) (inbox_at script a i a (steps.Sent n p.to p.message))
  own_request (actors.Site s) i n p are = tt
  own_request (actors.Client c) i n p are = client_request c i n p are
  own_request (actors.Admin m) i n p are = admin_request m i n p are
  own_request actors.Down i n p are = tt

  own_wrote : (v : Actor) (i : Inbox) (w : Record) → Awaits a v i → Awaits a v (inbox_at script a i a (steps.Wrote w))
  own_wrote (actors.Site s) i w are = tt
  own_wrote (actors.Client c) i w are = subst
      (λ (t : Bool). AreAwaited a c (if t then i else control_acted a (record i { up = set i.up a true })))
      (sym are.up) are
  own_wrote (actors.Admin m) i w are = subst
      (λ (t : Bool). AreHisAwaited a m (if t then i else control_acted a (record i { up = set i.up a true })))
      (sym are.up) are
  own_wrote actors.Down i w are = tt

  own_tells : (m : ActorMove) (i : Inbox) (reply : Option Reply) → Awaits a m.actor i
      → Awaits a (fold (actor_does decl a) m (tells_of reply)).actor (fold step_in i (by a (told reply)))
  own_tells m i None are = are
  own_tells m i (Some reply) are = one_step m.actor i a (steps.Told reply) tt tt are

  own_sends : (m : ActorMove) (i : Inbox) (n : ℕ) (ps : List Posting) (reply : Option Reply) → Awaits a m.actor i
      → Awaits a (fold (actor_does decl a) m (sends_of n ps ++ tells_of reply)).actor
      (fold step_in i (by a (sents n ps ++ told reply)))
  own_sends m i n [] reply are = own_tells m i reply are
  own_sends m i n (p ∷ ps) reply are =
      own_sends (actor_does decl a m (Sends n p.to p.message)) (inbox_at script a i a (steps.Sent n p.to p.message))
      (n + 1) ps reply (own_request m.actor i n p are)

  pub own_turn : (m : ActorMove) (i : Inbox) (n : ℕ) (turn : Turn) → Awaits a m.actor i
      → Awaits a (fold (actor_does decl a) m (turn_deeds n turn)).actor (fold step_in i (by a (posted n turn)))
  own_turn m i n turn are = at turn.write
    where
      at : (w : Option Record) → Awaits a (fold (actor_does decl a) m
          (writes_of w ++ (sends_of n turn.sends ++ tells_of turn.told))).actor
          (fold step_in i (by a (wrote w ++ (sents n turn.sends ++ told turn.told))))
      at None = own_sends m i n turn.sends turn.told are
      at (Some written) = own_sends m (inbox_at script a i a (steps.Wrote written)) n turn.sends turn.told
          (own_wrote m.actor i written are)
