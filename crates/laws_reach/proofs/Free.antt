-- Through falls and rises too a client waits for something only while a command runs; so where a command comes, the
-- client is free.
use Rattle.std.proofs.Common.{◌≡◌, ℕ, ◌+◌, ◌&&◌, not, Bool, true, false, List, [], ◌∷◌, ◌++◌, fold, Option, Some, None}
use Rattle.std.proofs.Common.{is_some, refl, sym, ap, ◌∙◌, subst, append_assoc}
use Rattle.std.proofs.lemmas.List.Sums.{fold-append}
use Rattle.qc_core.specs.declared.actor.Actor.{Actor}
use Rattle.qc_core.specs.declared.actor.Actor.TheVariants as actor
use Rattle.qc_core.specs.Vocabulary.{ActorMove, Lives, MayTake, actor_after, actor_does, actor_rises, actor_sends}
use Rattle.qc_core.specs.Vocabulary.{actor_takes, by_client, is_running, runs_given, with_record}
use Rattle.qc_core.proofs.ByNumber.{new_by, rises_by}
use Rattle.qc_core.specs.Lives as lives
use Rattle.qc_decl.specs.declared.declaration.Declaration.{Declaration}
use Rattle.qc_decl.specs.Vocabulary.{is_client, is_site}
use Rattle.qc_msg.specs.declared.record.Record.{Record}
use Rattle.qc_msg.specs.declared.reply.Reply.{Reply}
use Rattle.qc_msg.specs.declared.step.Command.{Command}
use Rattle.qc_msg.specs.declared.step.Fall.{Fall}
use Rattle.qc_msg.specs.declared.step.Fall.TheVariants as causes
use Rattle.qc_msg.specs.declared.step.Input.{Input}
use Rattle.qc_msg.specs.declared.step.Input.TheVariants as inputs
use Rattle.qc_msg.specs.declared.turn.Appended.{Appended}
use Rattle.qc_msg.specs.declared.turn.Appended.TheVariants.{Done, Failed, Stopped}
use Rattle.qc_msg.specs.declared.turn.Posting.{Posting}
use Rattle.qc_msg.specs.declared.turn.Turn.{Turn}
use Rattle.qc_msg.specs.Vocabulary.{Deed, Falls, Rises, Sends, Takes, deeds_as, sends_of, tells_of, turn_deeds}
use Rattle.qc_msg.specs.Vocabulary.{writes_of}
use Rattle.qc_client.specs.declared.client.Client.{Client}
use Rattle.qc_client.specs.Vocabulary.{IsFree, client_takes}
use Rattle.qc_front.specs.Vocabulary.{is_idle}
use Rattle.qc_front.specs.declared.doing.Doing.{Doing}
use Rattle.qc_front.specs.declared.doing.Doing.TheVariants.{Idle, Reading, Appending}
use Rattle.laws_turns.specs.Vocabulary.{is_waiting}
use Rattle.laws_turns.proofs.TurnReplies.{running_more, running_turn, ended_waits}
use Rattle.laws_turns.proofs.ClientCases.{command_cases}
use Rattle.laws_turns.proofs.Waiting.{IsNoCall, are_clients, called_ends, epoch_rests, round_none, sent_waits}
use Rattle.laws_turns.proofs.Waiting.{takes_ends, takes_rests, votes_none}
use Rattle.qc_core.proofs.PostsByTurns.{called_turn}

-- whether an actor waits for votes, or for what its running `do` asked

abbrev waits_in : Actor → Bool
waits_in (actor.Site s) = false
waits_in (actor.Client c) = is_waiting c
waits_in (actor.Admin m) = false
waits_in actor.Down = false

-- after an input it waits only where a command runs that its turn doesn't end
abbrev Ended : Bool → ActorMove → Type 0
Ended r m = (r && not (is_some m.turn.told)) ≡ false → waits_in m.actor ≡ false

called_ended : (decl : Declaration) (c : Client) (command : Command) → is_waiting c ≡ false
    → Ended true (by_client (client_takes decl c (inputs.Called command)))
called_ended decl c command still is =
    command_cases (λ (x : Command). Ended true (by_client (client_takes decl c (inputs.Called x))))
    (λ x none its. ended_waits _ _ (called_ends decl c x (are_clients x none) still) its)
    (λ number its. (epoch_rests decl c number still).still) command is

other_ended : (decl : Declaration) (c : Client) (g : Input) (r : Bool) → IsNoCall g → (r ≡ false → is_waiting c ≡ false)
    → Ended r (by_client (client_takes decl c g))
other_ended decl c g r none only is = by (is_waiting c) refl
  where
    runs : (t : Bool) → (t ≡ false → is_waiting c ≡ false) → is_waiting c ≡ true → t ≡ true
    runs true rest busy = refl
    runs false rest busy = absurd (let still : is_waiting c ≡ false = rest refl in let never : ⊥ = cc in never)

    by : (w : Bool) → is_waiting c ≡ w → is_waiting (client_takes decl c g).client ≡ false
    by true busy = ended_waits _ _ (takes_ends decl c g none busy)
        (ap (λ (t : Bool). t && not (is_some (client_takes decl c g).turn.told)) (sym (runs r only busy)) ∙ is)
    by false still = (takes_rests decl c g none still).still

client_ended : (decl : Declaration) (c : Client) (ds : List Deed) (g : Input) → MayTake ds g
    → (is_running ds ≡ false → is_waiting c ≡ false)
    → Ended (runs_given (is_running ds) g) (by_client (client_takes decl c g))
client_ended decl c ds (inputs.Called command) may only = called_ended decl c command (only may)
client_ended decl c ds (inputs.Got envelope) may only = other_ended decl c (inputs.Got envelope) (is_running ds) tt only
client_ended decl c ds (inputs.Lost number) may only = other_ended decl c (inputs.Lost number) (is_running ds) tt only

taken_ended : (decl : Declaration) (v : Actor) (ds : List Deed) (g : Input) → MayTake ds g
    → (is_running ds ≡ false → waits_in v ≡ false) → Ended (runs_given (is_running ds) g) (actor_takes decl v g)
taken_ended decl (actor.Site s) ds g may only is = refl
taken_ended decl (actor.Client c) ds g may only is = client_ended decl c ds g may only is
taken_ended decl (actor.Admin m) ds g may only is = refl
taken_ended decl actor.Down ds g may only is = refl

-- what is sent and told changes nothing of that

sent_same : (v : Actor) (number to : ℕ) (message : _) → waits_in (actor_sends v number to message) ≡ waits_in v
sent_same (actor.Site s) number to message = refl
sent_same (actor.Client c) number to message = sent_waits c number to message
sent_same (actor.Admin m) number to message = refl
sent_same actor.Down number to message = refl

module _ (decl : Declaration) (a : ℕ) where
  sends_same : (m : ActorMove) (n : ℕ) (ps : List Posting) (told : Option Reply)
      → waits_in (fold (actor_does decl a) m (sends_of n ps ++ tells_of told)).actor ≡ waits_in m.actor
  sends_same m n [] None = refl
  sends_same m n [] (Some reply) = refl
  sends_same m n (p ∷ ps) told = sends_same (actor_does decl a m (Sends n p.to p.message)) (n + 1) ps told
      ∙ sent_same m.actor n p.to p.message

  turn_same : (m : ActorMove) (n : ℕ) (turn : Turn)
      → waits_in (fold (actor_does decl a) m (turn_deeds n turn)).actor ≡ waits_in m.actor
  turn_same m n turn = by turn.write
    where
      by : (w : Option Record) → waits_in (fold (actor_does decl a) m
          (writes_of w ++ (sends_of n turn.sends ++ tells_of turn.told))).actor ≡ waits_in m.actor
      by None = sends_same m n turn.sends turn.told
      by (Some written) = sends_same m n turn.sends turn.told

  after_turn : (ds : List Deed) (n : ℕ) (turn : Turn)
      → waits_in (actor_after decl a (ds ++ turn_deeds n turn)).actor ≡ waits_in (actor_after decl a ds).actor
  after_turn ds n turn = ap (λ (m : ActorMove). waits_in m.actor)
      (fold-append (actor_does decl a) _ ds (turn_deeds n turn)) ∙ turn_same (actor_after decl a ds) n turn

  -- who is down, or has just risen, waits for nothing

  after_fall : (ds : List Deed) (cause : Fall) (pending : Option Record)
      → waits_in (actor_after decl a (ds ++ Falls cause pending ∷ [])).actor ≡ false
  after_fall ds cause pending = ap (λ (m : ActorMove). waits_in m.actor)
      (fold-append (actor_does decl a) _ ds (Falls cause pending ∷ []))

  risen_rests : (rs : List Record) → waits_in (actor_rises decl a rs).actor ≡ false
  risen_rests rs = by (is_site decl a) (is_client decl a)
    where
      by : (x y : Bool) → waits_in (rises_by decl a rs x y).actor ≡ false
      by true y = refl
      by false true = refl
      by false false = refl

  after_rise : (ds : List Deed) (rs : List Record) → waits_in (actor_after decl a (ds ++ Rises rs ∷ [])).actor ≡ false
  after_rise ds rs = ap (λ (m : ActorMove). waits_in m.actor) (fold-append (actor_does decl a) _ ds (Rises rs ∷ []))
      ∙ risen_rests rs

  failed_rests : (ds : List Deed) (n : ℕ) (turn : Turn)
      → waits_in (actor_after decl a (ds ++ deeds_as Failed n turn)).actor ≡ false
  failed_rests ds n turn =
      subst (λ (v : List Deed). waits_in (actor_after decl a v).actor ≡ false)
      (inner ∙ ap (λ (v : List Deed). ds ++ v) outer)
      (after_fall (ds ++ (sends_of n turn.failed_sends ++ tells_of turn.failed_told)) causes.Disk turn.write)
    where
      inner : (ds ++ (sends_of n turn.failed_sends ++ tells_of turn.failed_told)) ++ Falls causes.Disk turn.write ∷ []
          ≡ ds ++ ((sends_of n turn.failed_sends ++ tells_of turn.failed_told) ++ Falls causes.Disk turn.write ∷ [])
      inner = append_assoc ds (sends_of n turn.failed_sends ++ tells_of turn.failed_told)
          (Falls causes.Disk turn.write ∷ [])

      outer : (sends_of n turn.failed_sends ++ tells_of turn.failed_told) ++ Falls causes.Disk turn.write ∷ []
          ≡ deeds_as Failed n turn
      outer = append_assoc (sends_of n turn.failed_sends) (tells_of turn.failed_told)
          (Falls causes.Disk turn.write ∷ [])

  stopped_rests : (ds : List Deed) (n : ℕ) (turn : Turn)
      → waits_in (actor_after decl a (ds ++ deeds_as Stopped n turn)).actor ≡ false
  stopped_rests ds n turn =
      subst (λ (v : List Deed). waits_in (actor_after decl a v).actor ≡ false)
      (append_assoc ds (tells_of turn.failed_told) (Falls causes.Stop turn.write ∷ []))
      (after_fall (ds ++ tells_of turn.failed_told) causes.Stop turn.write)

  -- over a life

  abbrev RestsAt : List Deed → Type 0
  RestsAt ds = is_running ds ≡ false → waits_in (actor_after decl a ds).actor ≡ false

  abbrev EndsAt : List Deed → Bool → Type 0
  EndsAt ds false = RestsAt ds
  EndsAt ds true = Ended (is_running ds) (actor_after decl a ds)

  take_ends : (ds : List Deed) (g : Input) → MayTake ds g → RestsAt ds
      → Ended (is_running (ds ++ Takes g ∷ [])) (actor_after decl a (ds ++ Takes g ∷ []))
  take_ends ds g may rests =
      subst (λ (m : ActorMove). Ended (is_running (ds ++ Takes g ∷ [])) m)
      (sym (fold-append (actor_does decl a) _ ds (Takes g ∷ [])))
      (subst (λ (r : Bool). Ended r (actor_takes decl (actor_after decl a ds).actor g))
      (sym (running_more ds (Takes g ∷ []))) (taken_ended decl (actor_after decl a ds).actor ds g may rests))

  post_rests : (ds : List Deed) (turn : Turn) (n : ℕ) (end : Appended) → (actor_after decl a ds).turn ≡ with_record turn
      → Ended (is_running ds) (actor_after decl a ds) → RestsAt (ds ++ deeds_as end n turn)
  post_rests ds turn n Done is ends none =
      after_turn ds n turn
      ∙ ends (ap (λ (t : Turn). is_running ds && not (is_some t.told)) is
      ∙ sym (running_more ds (turn_deeds n turn) ∙ running_turn (is_running ds) n turn) ∙ none)
  post_rests ds turn n Failed is ends none = failed_rests ds n turn
  post_rests ds turn n Stopped is ends none = stopped_rests ds n turn

  rise_rests : (ds : List Deed) (rs : List Record) (turn : Turn) (n : ℕ) (end : Appended)
      → waits_in (actor_after decl a ((ds ++ Rises rs ∷ []) ++ deeds_as end n turn)).actor ≡ false
  rise_rests ds rs turn n Done = after_turn (ds ++ Rises rs ∷ []) n turn ∙ after_rise ds rs
  rise_rests ds rs turn n Failed = failed_rests (ds ++ Rises rs ∷ []) n turn
  rise_rests ds rs turn n Stopped = stopped_rests (ds ++ Rises rs ∷ []) n turn

  new_rests : waits_in (actor_after decl a []).actor ≡ false
  new_rests = by (is_site decl a) (is_client decl a)
    where
      by : (x y : Bool) → waits_in (new_by decl a x y) ≡ false
      by true y = refl
      by false true = refl
      by false false = refl

  life_ends : (ds : List Deed) (t : Bool) (n : ℕ) → Lives decl a ds t n → EndsAt ds t
  life_ends ds t n lives.starts = λ none. new_rests
  life_ends ds t n (lives.takes before g m life may reach) = take_ends before g may (life_ends before false m life)
  life_ends ds t n (lives.posts before turn m first life low law) =
      post_rests before turn first turn.append (called_turn decl a before turn law) (life_ends before true m life)
  life_ends ds t n (lives.crashes before m life up) = λ none. after_fall before causes.Script None
  life_ends ds t n (lives.rises before rs turn m first life down low law) =
      λ none. rise_rests before rs turn first turn.append
  life_ends ds t n (lives.unopened before cause m life down disk) = λ none. after_fall before cause None

  idle_is : (doing : Doing) → is_idle doing ≡ true → doing ≡ Idle
  idle_is Idle is = refl
  idle_is (Reading object inv calls round) is = absurd (let never : ⊥ = cc in never)
  idle_is (Appending object inv event calls round) is = absurd (let never : ⊥ = cc in never)

  -- where no command runs, and no input is open, a client is free
  pub client_free : (ds : List Deed) (n : ℕ) (c : Client) → Lives decl a ds false n → is_running ds ≡ false
      → (actor_after decl a ds).actor ≡ actor.Client c → IsFree c
  client_free ds n c life none is =
      let rests : is_waiting c ≡ false = ap waits_in (sym is) ∙ life_ends ds false n life none in
      record { voting = votes_none c rests; doing = idle_is c.front.doing (round_none c rests) }
