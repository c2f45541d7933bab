-- Where a client stands through its falls and rises: while it is up it is tied to its account, and it waits just while
-- a command of it runs; and what the turn for an input leaves of one that is up.
use Rattle.std.proofs.Common.{◌≡◌, ℕ, ◌-◌, ◌&&◌, not, Bool, true, false, List, [], ◌∷◌, ◌++◌, inl, inr, Option, Some}
use Rattle.std.proofs.Common.{None, is_some, refl, sym, ap, ◌∙◌, subst, append_assoc}
use Rattle.std.specs.Prelude.{fold, option_and_then}
use Rattle.std.specs.List.{AllByRecursion as Every}
use Rattle.qc_core.specs.declared.actor.Actor.{Actor}
use Rattle.qc_core.specs.declared.actor.Actor.TheVariants as actors
use Rattle.qc_core.specs.Vocabulary.{ActorMove, MayReach, MayTake, actor_after, actor_does, actor_takes, by_client}
use Rattle.qc_core.specs.Vocabulary.{is_running, is_up, runs_given}
use Rattle.qc_core.specs.Acts as acts
use Rattle.qc_core.proofs.ActorLaws.{at_client, clients}
use Rattle.qc_core.proofs.Steady.{turn_steady}
use Rattle.qc_client.specs.declared.client.Client.{Client}
use Rattle.qc_client.specs.Vocabulary.{ClientMove, client_does, client_takes, new_client}
use Rattle.qc_decl.specs.declared.declaration.Declaration.{Declaration}
use Rattle.qc_decl.specs.Vocabulary.{is_client}
use Rattle.laws_turns.specs.Vocabulary.{is_waiting}
use Rattle.laws_turns.proofs.SoundClients.{IsAskableDeed}
use Rattle.laws_turns.proofs.TurnReplies.{running_more, running_turn, turn_waits}
use Rattle.qc_msg.specs.declared.record.Record.{Record}
use Rattle.qc_msg.specs.declared.record.Record.TheVariants as records
use Rattle.qc_msg.specs.declared.step.Command.{Command}
use Rattle.qc_msg.specs.declared.step.Fall.{Fall}
use Rattle.qc_msg.specs.declared.step.Input.{Input}
use Rattle.qc_msg.specs.declared.turn.Appended.{Appended}
use Rattle.qc_msg.specs.declared.turn.Appended.TheVariants.{Done}
use Rattle.qc_msg.specs.declared.turn.Turn.{Turn}
use Rattle.qc_msg.specs.Vocabulary.{Deed, Falls, HasRecord, Takes, deeds_as, sends_of, tells_of, turn_deeds, writes_of}
use Rattle.qc_promise.specs.Vocabulary.{Account, IsRecordDue, account_at, account_taken, row_of, running_row}
use Rattle.laws_due.specs.ByRows as rows
use Rattle.laws_due.specs.Vocabulary.{Goes, Holds, Ties}
use Rattle.laws_due.proofs.Commands.{free_for, no_site, running}
use Rattle.laws_due.proofs.Courses.{clients_hold, accounts_are_their_clients}
use Rattle.laws_due.proofs.Fits.{takes_fit}
use Rattle.laws_due.proofs.Standing.{account_is, account_more, actor_more, up_more}
use Rattle.laws_due.proofs.Step.{inputs_are_answered_as_is_due}
use Rattle.laws_due.proofs.Writing.{IsClientTurn, IsCommitTurn, takes_turn}
use Rattle.laws_due.proofs.Telling.{EndsFallen, Replies, ends_fallen, first_all, given_busy, may_come, rest_all}
use Rattle.qc_core.proofs.LivesOfActors.{steady_from}

module _ (decl : Declaration) (a : ℕ) (client : is_client decl a ≡ true) where
  pub record IsTied (ds : List Deed) : Type 0 where
    pub state : Client
    pub actor : (actor_after decl a ds).actor ≡ actors.Client state
    pub ties : Ties decl (account_is decl a ds) state
    pub holds : Holds decl state
    pub busy : Every (IsAskableDeed decl a) ds → is_waiting state ≡ is_running ds

  pub record IsFallen (ds : List Deed) : Type 0 where
    pub actor : (actor_after decl a ds).actor ≡ actors.Down
    pub command : (account_is decl a ds).command ≡ None

  abbrev pub Stands : Bool → List Deed → Type 0
  Stands true ds = IsTied ds
  Stands false ds = IsFallen ds

  -- with no open input, and with one

  pub record IsAtRest (ds : List Deed) : Type 0 where
    pub up : Bool
    pub is : is_up ds ≡ up
    pub stands : Stands up ds

  pub record IsAtInput (ds : List Deed) : Type 0 where
    pub before : List Deed
    pub given : Input
    pub is : ds ≡ before ++ Takes given ∷ []
    pub rest : IsAtRest before
    pub may : MayTake before given
    pub reach : MayReach (is_up before) given

  abbrev pub IsAt : List Deed → Bool → Type 0
  IsAt ds true = IsAtInput ds
  IsAt ds false = IsAtRest ds

  pub first_rest : IsAtRest []
  first_rest = record {
    up = true;
    is = refl;
    stands = record {
      state = new_client (a - decl.sites);
      actor = ap (λ (m : ActorMove). m.actor) (at_client decl a [] tt (no_site decl a client) client);
      ties = accounts_are_their_clients decl a client [] 0 acts.starts;
      holds = clients_hold decl a client [] 0 acts.starts;
      busy = λ all. refl;
    };
  }

  -- it is down

  pub fallen : (ds : List Deed) (cause : Fall) (pending : Option Record) → IsAtRest (ds ++ Falls cause pending ∷ [])
  fallen ds cause pending = record {
    up = false;
    is = up_more decl a ds (Falls cause pending ∷ []);
    stands = record {
      actor = ap (λ (m : ActorMove). m.actor) (actor_more decl a ds (Falls cause pending ∷ []));
      command = ap (λ (d : Account). d.command) (account_more decl a ds (Falls cause pending ∷ []));
    };
  }

  -- a post whose record isn't written ends with a fall

  pub failed_rest : (ds : List Deed) (end : Appended) (first : ℕ) (turn : Turn) → (end ≡ Done → ⊥)
      → IsAtRest (ds ++ deeds_as end first turn)
  failed_rest ds end first turn unwritten =
      let e : EndsFallen (deeds_as end first turn) = ends_fallen end first turn unwritten in
      subst IsAtRest (append_assoc ds e.before (Falls e.cause e.pending ∷ [])
      ∙ ap (λ (v : List Deed). ds ++ v) (sym e.is)) (fallen (ds ++ e.before) e.cause e.pending)

  -- an input of a client that is up

  module _ (ds : List Deed) (r : IsAtRest ds) (same : r.up ≡ true) (s : IsTied ds) (g : Input)
      (may : MayTake ds g) where
    taken : Account
    taken = account_taken (account_is decl a ds) g

    move : ClientMove
    move = client_takes decl s.state g

    goes : (first : ℕ) → Goes decl first (account_taken (account_is decl a ds) g) (client_takes decl s.state g)
    goes first = inputs_are_answered_as_is_due decl first (account_is decl a ds) s.state s.holds g
        (free_for decl (a - decl.sites) ds g may) s.ties

    pub takes_to : actor_after decl a (ds ++ Takes g ∷ []) ≡ by_client (client_takes decl s.state g)
    takes_to = actor_more decl a ds (Takes g ∷ []) ∙ ap (λ (v : Actor). actor_takes decl v g) s.actor

    account_to : account_is decl a (ds ++ Takes g ∷ []) ≡ account_taken (account_is decl a ds) g
    account_to = account_more decl a ds (Takes g ∷ [])

    posted_account : (more : List Deed) → account_is decl a ((ds ++ Takes g ∷ []) ++ more) ≡ fold (account_at decl)
        (account_taken (account_is decl a ds) g) more
    posted_account more = account_more decl a (ds ++ Takes g ∷ []) more
        ∙ ap (λ (d : Account). fold (account_at decl) d more) account_to

    runs_to : is_running (ds ++ Takes g ∷ []) ≡ runs_given (is_running ds) g
    runs_to = running_more ds (Takes g ∷ [])

    busy_on : (first : ℕ) → Every (IsAskableDeed decl a)
        ((ds ++ Takes g ∷ []) ++ turn_deeds first (client_takes decl s.state g).turn)
        → is_waiting (fold (client_does decl) (client_takes decl s.state g)
        (turn_deeds first (client_takes decl s.state g).turn)).client
        ≡ is_running ((ds ++ Takes g ∷ []) ++ turn_deeds first (client_takes decl s.state g).turn)
    busy_on first all =
        let front : Every (IsAskableDeed decl a) (ds ++ Takes g ∷ []) =
        first_all (IsAskableDeed decl a) (ds ++ Takes g ∷ []) _ all in
        turn_waits decl (client_takes decl s.state g) first (client_takes decl s.state g).turn
        ∙ sym (given_busy decl a client s.state (is_running ds) g
        (rest_all (IsAskableDeed decl a) ds (Takes g ∷ []) front).0
        (s.busy (first_all (IsAskableDeed decl a) ds (Takes g ∷ []) front)) (may_come ds g may))
        ∙ sym (running_more (ds ++ Takes g ∷ []) (turn_deeds first (client_takes decl s.state g).turn)
        ∙ running_turn (is_running (ds ++ Takes g ∷ [])) first (client_takes decl s.state g).turn
        ∙ ap (λ (b : Bool). b && not (is_some (client_takes decl s.state g).turn.told)) runs_to)

    pub written_rest : (first : ℕ) → IsAtRest
        ((ds ++ Takes g ∷ []) ++ turn_deeds first (client_takes decl s.state g).turn)
    written_rest first = record {
      up = true;
      is =
          up_more decl a (ds ++ Takes g ∷ []) (turn_deeds first (client_takes decl s.state g).turn)
          ∙ steady_from (is_up (ds ++ Takes g ∷ [])) (turn_deeds first (client_takes decl s.state g).turn)
          (turn_steady first (client_takes decl s.state g).turn)
          ∙ up_more decl a ds (Takes g ∷ []) ∙ r.is ∙ same;
      stands = record {
        state = (fold (client_does decl) (client_takes decl s.state g)
            (turn_deeds first (client_takes decl s.state g).turn)).client;
        actor = ap (λ (m : ActorMove). m.actor) (actor_more decl a (ds ++ Takes g ∷ [])
            (turn_deeds first (client_takes decl s.state g).turn)
            ∙ ap (λ (m : ActorMove). fold (actor_does decl a) m (turn_deeds first (client_takes decl s.state g).turn))
            takes_to
            ∙ clients decl a (client_takes decl s.state g) (turn_deeds first (client_takes decl s.state g).turn)
            (turn_steady first (client_takes decl s.state g).turn));
        ties = subst (λ (d : Account). Ties decl d
            (fold (client_does decl) (client_takes decl s.state g)
            (turn_deeds first (client_takes decl s.state g).turn)).client)
            (sym (posted_account (turn_deeds first (client_takes decl s.state g).turn))) (goes first).ties;
        holds = takes_fit decl first s.state g s.holds;
        busy = busy_on first;
      };
    }

    -- what its turn tells

    by_account : is_some (account_taken (account_is decl a ds) g).command ≡ true
        → is_running (ds ++ Takes g ∷ []) ≡ true
    by_account some = running decl (a - decl.sites) (ds ++ Takes g ∷ [])
        ∙ ap (λ (d : Account). is_some d.command) account_to ∙ some

    row_runs : (d : Account) → is_some (running_row decl d false) ≡ true → is_some d.command ≡ true
    row_runs d = by d.command
      where
        by : (o : Option Command) → is_some (option_and_then (row_of decl d false d.current) o) ≡ true
            → is_some o ≡ true
        by None is = is
        by (Some c) is = refl

    record_due : (w : IsCommitTurn (client_takes decl s.state g).turn)
        → IsRecordDue (account_taken (account_is decl a ds) g)
        (running_row decl (account_taken (account_is decl a ds) g) false) (records.Commit w.commit)
    record_due w =
        (subst (λ (o : Option Record). rows.AreByRows decl (account_taken (account_is decl a ds) g)
        (writes_of o ++ (sends_of 0 (client_takes decl s.state g).turn.sends ++ tells_of
        (client_takes decl s.state g).turn.told))) w.write (goes 0).due).0

    failed_replies : IsClientTurn (client_takes decl s.state g).turn
        → HasRecord (client_takes decl s.state g).turn.write
        → (is_running (ds ++ Takes g ∷ []) ≡ true) × (is_some (client_takes decl s.state g).turn.failed_told ≡ true)
    failed_replies (inl none) has = absurd (subst HasRecord none has)
    failed_replies (inr w) has = (
      by_account
          (row_runs (account_taken (account_is decl a ds) g) (ap is_some (record_due w).0)),
      ap is_some w.failed_told,
    )

    pub up_replies : Replies (is_running (ds ++ Takes g ∷ [])) (client_takes decl s.state g).turn
    up_replies = record {
      told = λ some. by_account (row_runs (account_taken (account_is decl a ds) g)
          (ap is_some (sym (goes 0).tells) ∙ some));
      failed = failed_replies (takes_turn decl s.state g);
    }
