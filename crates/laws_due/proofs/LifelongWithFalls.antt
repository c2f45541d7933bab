-- Over all its deeds, through falls and rises, a client that is up and has no open input is tied to its account; its
-- turns tell only where a command runs.
use Rattle.std.proofs.Common.{◌≡◌, ℕ, ◌-◌, Bool, true, false, List, [], ◌∷◌, ◌++◌, None, is_some, refl, sym, ap, ◌∙◌}
use Rattle.std.proofs.Common.{subst}
use Rattle.qc_core.proofs.ByNumber.{client_risen}
use Rattle.qc_core.specs.declared.actor.Actor.{Actor}
use Rattle.qc_core.specs.declared.actor.Actor.TheVariants as actors
use Rattle.qc_core.specs.Vocabulary.{ActorMove, IsLawfulWithFalls, Lives, MayReach, MayTake, actor_after, actor_takes}
use Rattle.qc_core.specs.Vocabulary.{by_client, is_running, is_up, with_record}
use Rattle.qc_core.specs.Lives as lives
use Rattle.qc_client.specs.declared.client.Client.{Client}
use Rattle.qc_decl.specs.declared.declaration.Declaration.{Declaration}
use Rattle.qc_decl.specs.Vocabulary.{is_client}
use Rattle.laws_turns.proofs.TurnReplies.{running_more}
use Rattle.qc_msg.specs.declared.record.Record.{Record}
use Rattle.qc_msg.specs.declared.record.Record.TheVariants as records
use Rattle.qc_msg.specs.declared.reply.Reply.TheVariants as replies
use Rattle.qc_msg.specs.declared.step.Command.{Command}
use Rattle.qc_msg.specs.declared.step.Fall.TheVariants as causes
use Rattle.qc_msg.specs.declared.step.Input.{Input}
use Rattle.qc_msg.specs.declared.step.Input.TheVariants as inputs
use Rattle.qc_msg.specs.declared.turn.Appended.{Appended}
use Rattle.qc_msg.specs.declared.turn.Appended.TheVariants.{Done, Failed, Stopped}
use Rattle.qc_msg.specs.declared.turn.Turn.{Turn}
use Rattle.qc_msg.specs.Vocabulary.{Deed, Rises, Takes, Tells, Writes, deeds_as, turn_deeds}
use Rattle.qc_promise.specs.Vocabulary.{Account, account_at}
use Rattle.qc_recover.specs.Vocabulary.{client_rises, rising}
use Rattle.laws_due.specs.Vocabulary.{Ties}
use Rattle.laws_due.proofs.Anew.{accounts_begin_anew}
use Rattle.laws_due.proofs.Commands.{running}
use Rattle.laws_due.proofs.Rising.{risen_account, risen_holds, risen_ties}
use Rattle.laws_due.proofs.Standing.{account_is, account_more, actor_more, turn_is, up_more}
use Rattle.laws_due.proofs.Telling.{Replies}
use Rattle.laws_due.proofs.Tied.{IsAt, IsAtInput, IsAtRest, IsFallen, IsTied, Stands, failed_rest, fallen, first_rest}
use Rattle.laws_due.proofs.Tied.{takes_to, up_replies, written_rest}

module _ (decl : Declaration) (a : ℕ) (client : is_client decl a ≡ true) where
  -- the turn for an input, whether it is up or down

  module _ (before : List Deed) (r : IsAtRest decl a client before) (g : Input) (may : MayTake before g)
      (reach : MayReach (is_up before) g) where
    down_turn : IsFallen decl a client before
        → actor_after decl a (before ++ Takes g ∷ []) ≡ actor_takes decl actors.Down g
    down_turn s = actor_more decl a before (Takes g ∷ []) ∙ ap (λ (v : Actor). actor_takes decl v g) s.actor

    never_reached : {A : Type 0} → r.up ≡ false → is_up before ≡ true → A
    never_reached same reached = absurd (let no : true ≡ false = sym reached ∙ r.is
        ∙ same in let never : ⊥ = cc in never)

    told_down : r.up ≡ false → IsFallen decl a client before → (command : Command)
        → IsAtRest decl a client ((before ++ Takes (inputs.Called command) ∷ []) ++ Tells replies.Down ∷ [])
    told_down same s command = record {
      up = false;
      is = up_more decl a (before ++ Takes (inputs.Called command) ∷ []) (Tells replies.Down ∷ [])
          ∙ up_more decl a before (Takes (inputs.Called command) ∷ []) ∙ r.is ∙ same;
      stands = record {
        actor = ap (λ (m : ActorMove). m.actor) (actor_more decl a (before ++ Takes (inputs.Called command) ∷ [])
            (Tells replies.Down ∷ []) ∙ actor_more decl a before (Takes (inputs.Called command) ∷ []))
            ∙ ap (λ (v : Actor). (actor_takes decl v (inputs.Called command)).actor) s.actor;
        command = ap (λ (d : Account). d.command)
            (account_more decl a (before ++ Takes (inputs.Called command) ∷ []) (Tells replies.Down ∷ []));
      };
    }

    down_rest : r.up ≡ false → IsFallen decl a client before → (x : Input) → g ≡ x → MayReach (is_up before) x
        → (first : ℕ) → IsAtRest decl a client ((before ++ Takes x ∷ []) ++ turn_deeds first
        (actor_takes decl actors.Down x).turn)
    down_rest same s (inputs.Called command) is reached first = told_down same s command
    down_rest same s (inputs.Got envelope) is reached first = never_reached same reached
    down_rest same s (inputs.Lost number) is reached first = never_reached same reached

    done_rest : (first : ℕ) → IsAtRest decl a client
        ((before ++ Takes g ∷ []) ++ turn_deeds first (actor_after decl a (before ++ Takes g ∷ [])).turn)
    done_rest first = by r.up refl r.stands
      where
        by : (up : Bool) → r.up ≡ up → Stands decl a client up before
            → IsAtRest decl a client ((before ++ Takes g ∷ []) ++ turn_deeds first
            (actor_after decl a (before ++ Takes g ∷ [])).turn)
        by true same s = subst (λ (m : ActorMove). IsAtRest decl a client
            ((before ++ Takes g ∷ []) ++ turn_deeds first m.turn)) (sym (takes_to decl a client before r same s g may))
            (written_rest decl a client before r same s g may first)
        by false same s = subst (λ (m : ActorMove). IsAtRest decl a client
            ((before ++ Takes g ∷ []) ++ turn_deeds first m.turn)) (sym (down_turn s))
            (down_rest same s g refl reach first)

    turn_rest : (turn : Turn) (first : ℕ) → IsLawfulWithFalls decl a (before ++ Takes g ∷ []) turn
        → IsAtRest decl a client ((before ++ Takes g ∷ []) ++ deeds_as turn.append first turn)
    turn_rest turn first law = by turn.append
      where
        by : (end : Appended) → IsAtRest decl a client ((before ++ Takes g ∷ []) ++ deeds_as end first turn)
        by Done = subst (λ (t : Turn). IsAtRest decl a client ((before ++ Takes g ∷ []) ++ turn_deeds first t))
            (turn_is decl a client (before ++ Takes g ∷ []) turn law) (done_rest first)
        by Failed = failed_rest decl a client (before ++ Takes g ∷ []) Failed first turn
            (λ is. let never : ⊥ = cc in never)
        by Stopped = failed_rest decl a client (before ++ Takes g ∷ []) Stopped first turn
            (λ is. let never : ⊥ = cc in never)

    down_replies : r.up ≡ false → (x : Input) → MayReach (is_up before) x
        → Replies (is_running (before ++ Takes x ∷ [])) (actor_takes decl actors.Down x).turn
    down_replies same (inputs.Called command) reached =
        record {
          told = λ some. running_more before (Takes (inputs.Called command) ∷ []);
          failed = λ never. absurd never;
        }
    down_replies same (inputs.Got envelope) reached = never_reached same reached
    down_replies same (inputs.Lost number) reached = never_reached same reached

    pub turn_replies : (turn : Turn) → IsLawfulWithFalls decl a (before ++ Takes g ∷ []) turn
        → Replies (is_running (before ++ Takes g ∷ [])) turn
    turn_replies turn law = whole (subst (Replies (is_running (before ++ Takes g ∷ [])))
        (turn_is decl a client (before ++ Takes g ∷ []) turn law) (by r.up refl r.stands))
      where
        whole : Replies (is_running (before ++ Takes g ∷ [])) (with_record turn)
            → Replies (is_running (before ++ Takes g ∷ [])) turn
        whole r = record { told = r.told; failed = r.failed }

        by : (up : Bool) → r.up ≡ up → Stands decl a client up before
            → Replies (is_running (before ++ Takes g ∷ [])) (actor_after decl a (before ++ Takes g ∷ [])).turn
        by true same s = subst (λ (m : ActorMove). Replies (is_running (before ++ Takes g ∷ [])) m.turn)
            (sym (takes_to decl a client before r same s g may)) (up_replies decl a client before r same s g may)
        by false same s = subst (λ (m : ActorMove). Replies (is_running (before ++ Takes g ∷ [])) m.turn)
            (sym (down_turn s)) (down_replies same g reach)

  -- a rise, whatever its records

  pub rises_to : (ds : List Deed) (kept : List Record)
      → actor_after decl a (ds ++ Rises kept ∷ []) ≡ by_client (client_rises (a - decl.sites) kept)
  rises_to ds kept = actor_more decl a ds (Rises kept ∷ []) ∙ client_risen decl a client kept

  risen_rest : (ds : List Deed) (kept : List Record)
      → IsAtRest decl a client ((ds ++ Rises kept ∷ []) ++ Writes records.Life ∷ [])
  risen_rest ds kept = record {
    up = true;
    is = up_more decl a (ds ++ Rises kept ∷ []) (Writes records.Life ∷ []) ∙ up_more decl a ds (Rises kept ∷ []);
    stands = record {
      state = (client_rises (a - decl.sites) kept).client;
      actor = ap (λ (m : ActorMove). m.actor) (actor_more decl a (ds ++ Rises kept ∷ []) (Writes records.Life ∷ [])
          ∙ rises_to ds kept);
      ties = subst (λ (d : Account). Ties decl d (client_rises (a - decl.sites) kept).client) (sym account_risen)
          (risen_ties decl (a - decl.sites) kept);
      holds = risen_holds decl (a - decl.sites) kept;
      busy = λ all. sym (running_more (ds ++ Rises kept ∷ []) (Writes records.Life ∷ [])
          ∙ running_more ds (Rises kept ∷ []));
    };
  }
    where
      account_risen : account_is decl a ((ds ++ Rises kept ∷ []) ++ Writes records.Life ∷ []) ≡ risen_account decl
          (a - decl.sites) kept
      account_risen = account_more decl a (ds ++ Rises kept ∷ []) (Writes records.Life ∷ [])
          ∙ ap (λ (d : Account). account_at decl d (Writes records.Life))
          (accounts_begin_anew decl (a - decl.sites) ds kept)

  pub rising_turn : (ds : List Deed) (kept : List Record) (turn : Turn)
      → IsLawfulWithFalls decl a (ds ++ Rises kept ∷ []) turn → rising [] ≡ with_record turn
  rising_turn ds kept turn law = sym (ap (λ (m : ActorMove). m.turn) (rises_to ds kept))
      ∙ turn_is decl a client (ds ++ Rises kept ∷ []) turn law

  rises_rest : (ds : List Deed) (kept : List Record) (turn : Turn) (first : ℕ)
      → IsLawfulWithFalls decl a (ds ++ Rises kept ∷ []) turn
      → IsAtRest decl a client ((ds ++ Rises kept ∷ []) ++ deeds_as turn.append first turn)
  rises_rest ds kept turn first law = by turn.append
    where
      by : (end : Appended) → IsAtRest decl a client ((ds ++ Rises kept ∷ []) ++ deeds_as end first turn)
      by Done = subst (λ (t : Turn). IsAtRest decl a client ((ds ++ Rises kept ∷ []) ++ turn_deeds first t))
          (rising_turn ds kept turn law) (risen_rest ds kept)
      by Failed = failed_rest decl a client (ds ++ Rises kept ∷ []) Failed first turn
          (λ is. let never : ⊥ = cc in never)
      by Stopped = failed_rest decl a client (ds ++ Rises kept ∷ []) Stopped first turn
          (λ is. let never : ⊥ = cc in never)

  -- over all its deeds

  pub client_lives : (ds : List Deed) (b : Bool) (n : ℕ) → Lives decl a ds b n → IsAt decl a client ds b
  client_lives ds b n lives.starts = first_rest decl a client
  client_lives ds b n (lives.takes older g m life may reach) =
      record { before = older; given = g; is = refl; rest = client_lives older false m life; may = may; reach = reach }
  client_lives ds b n (lives.posts older turn m first life low law) = by (client_lives older true m life)
    where
      by : IsAtInput decl a client older → IsAtRest decl a client (older ++ deeds_as turn.append first turn)
      by at =
          subst (λ (v : List Deed). IsAtRest decl a client (v ++ deeds_as turn.append first turn)) (sym at.is)
          (turn_rest at.before at.rest at.given at.may at.reach turn first
          (subst (λ (v : List Deed). IsLawfulWithFalls decl a v turn) at.is law))
  client_lives ds b n (lives.crashes older m life up) = fallen decl a client older causes.Script None
  client_lives ds b n (lives.rises older kept turn m first life down low law) = rises_rest older kept turn first law
  client_lives ds b n (lives.unopened older cause m life down by_disk) = fallen decl a client older cause None

  -- of one that is down no command runs
  pub none_runs_down : (ds : List Deed) → IsFallen decl a client ds → is_running ds ≡ false
  none_runs_down ds s = running decl (a - decl.sites) ds ∙ ap is_some s.command

  pub rests_down : (ds : List Deed) → IsAtRest decl a client ds → is_up ds ≡ false → IsFallen decl a client ds
  rests_down ds r down = by r.up refl r.stands
    where
      by : (up : Bool) → r.up ≡ up → Stands decl a client up ds → IsFallen decl a client ds
      by true same s = absurd (let no : true ≡ false = sym same ∙ sym r.is ∙ down in let never : ⊥ = cc in never)
      by false same s = s

  pub rests_up : (ds : List Deed) → IsAtRest decl a client ds → (c : Client)
      → (actor_after decl a ds).actor ≡ actors.Client c → (s : IsTied decl a client ds) × (s.state ≡ c)
  rests_up ds r c is = by r.up r.stands
    where
      by : (up : Bool) → Stands decl a client up ds → (s : IsTied decl a client ds) × (s.state ≡ c)
      by true s = (
        s,
        (let same : actors.Client s.state ≡ actors.Client c = sym s.actor
            ∙ is in let it : s.state ≡ c = cc in it),
      )
      by false s = absurd (let no : actors.Down ≡ actors.Client c = sym s.actor ∙ is in let never : ⊥ = cc in never)
