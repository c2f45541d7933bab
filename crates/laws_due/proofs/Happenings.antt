-- What each event of a client leaves: a fall, a rise, an input with its turn. All that was due is due still.
use Rattle.std.proofs.Common.{[], ◌≡◌, ℕ, ◌-◌, Bool, true, false, cond, List, ◌∷◌, ◌++◌, inl, inr, Option, Some, None}
use Rattle.std.proofs.Common.{is_some, refl, sym, ap, ◌∙◌, subst}
use Rattle.std.specs.Prelude.{fold}
use Rattle.qc_core.proofs.ByNumber.{client_risen}
use Rattle.qc_core.specs.declared.actor.Actor.{Actor}
use Rattle.qc_core.specs.Vocabulary.{ActorMove, IsLawfulWithFalls, MayTake, actor_after, actor_does, actor_takes}
use Rattle.qc_core.specs.Vocabulary.{by_client, is_up}
use Rattle.qc_msg.specs.Vocabulary.{Deed, Falls, IsByDisk, MayEnd, Rises, Takes, Tells, Writes, deeds_as, first_epoch}
use Rattle.qc_msg.specs.Vocabulary.{sends_of, telling, tells_of, turn_deeds, writes_of}
use Rattle.qc_core.proofs.Steady.{turn_steady}
use Rattle.qc_client.specs.Vocabulary.{ClientMove, client_does, client_takes}
use Rattle.qc_decl.specs.declared.declaration.Declaration.{Declaration}
use Rattle.qc_decl.specs.Vocabulary.{is_client}
use Rattle.qc_entry.specs.declared.record.Commit.{Commit}
use Rattle.qc_msg.specs.declared.record.Record.{Record}
use Rattle.qc_msg.specs.declared.record.Record.TheVariants as records
use Rattle.qc_msg.specs.declared.reply.Reply.{Reply}
use Rattle.qc_msg.specs.declared.reply.Reply.TheVariants as replies
use Rattle.qc_msg.specs.declared.step.Command.{Command}
use Rattle.qc_msg.specs.declared.step.Fall.{Fall}
use Rattle.qc_msg.specs.declared.step.Fall.TheVariants as causes
use Rattle.qc_msg.specs.declared.step.Input.{Input}
use Rattle.qc_msg.specs.declared.step.Input.TheVariants as inputs
use Rattle.qc_msg.specs.declared.turn.Appended.{Appended}
use Rattle.qc_msg.specs.declared.turn.Appended.TheVariants.{Done, Failed, Stopped}
use Rattle.qc_msg.specs.declared.turn.Turn.{Turn}
use Rattle.qc_promise.specs.Vocabulary.{Account, Act, IsPostOf, IsRecordDue, IsReplyDue, Wrote, account_at}
use Rattle.qc_promise.specs.Vocabulary.{account_taken, account_with, due, fallen_in, is_declared_for, pending_next}
use Rattle.qc_promise.specs.Vocabulary.{posted_due, rising_turn, row_of, running_row}
use Rattle.qc_recover.specs.Vocabulary.{client_rises, rising}
use Rattle.laws_due.specs.ByRows as rows
use Rattle.laws_due.specs.Vocabulary.{Goes, IsDeclaredDeed, IsPlanned, Ties}
use Rattle.laws_due.proofs.Anew.{accounts_begin_anew}
use Rattle.laws_due.proofs.Commands.{free_for}
use Rattle.laws_due.proofs.DuesOfDeeds.{IsWithin, due_as}
use Rattle.laws_due.proofs.Dues.{due_then, within_all, within_at}
use Rattle.laws_due.proofs.Fits.{takes_fit}
use Rattle.laws_due.proofs.Rising.{risen_account, risen_holds, risen_ties}
use Rattle.laws_due.proofs.Standing.{IsAtRest, IsFallen, IsTied, account_is, account_more, actor_more, event_due}
use Rattle.laws_due.proofs.Standing.{no_act, none_follows, turn_declared, turn_is, up_more}
use Rattle.laws_due.proofs.Step.{inputs_are_answered_as_is_due}
use Rattle.laws_due.proofs.Unwritten.{unwritten_commits_are_unknown}
use Rattle.laws_due.proofs.Writing.{IsClientTurn, IsCommitTurn, takes_turn}
use Rattle.laws_due.proofs.Fallings.{as_record, input_free, fallen_still}
use Rattle.qc_core.proofs.ActorLaws.{clients}
use Rattle.qc_core.proofs.LivesOfActors.{steady_from}

module _ (decl : Declaration) (a : ℕ) (client : is_client decl a ≡ true) where
  -- a rise, whatever its records

  rises_to : (ds : List Deed) (kept : List Record)
      → actor_after decl a (ds ++ Rises kept ∷ []) ≡ by_client (client_rises (a - decl.sites) kept)
  rises_to ds kept = actor_more decl a ds (Rises kept ∷ []) ∙ client_risen decl a client kept

  module _ (planned : IsPlanned decl first_epoch) (ds : List Deed) (r : IsAtRest decl a ds) (kept : List Record) where
    anew : account_is decl a (ds ++ Rises kept ∷ []) ≡ account_with (a - decl.sites) kept
    anew = accounts_begin_anew decl (a - decl.sites) ds kept

    risen_rest : IsAtRest decl a ((ds ++ Rises kept ∷ []) ++ Writes records.Life ∷ [])
    risen_rest = record {
      up = true;
      is = up_more decl a (ds ++ Rises kept ∷ []) (Writes records.Life ∷ []) ∙ up_more decl a ds (Rises kept ∷ []);
      due =
          λ ys behind. event_due decl a ds r (Rises kept) (Writes records.Life ∷ []) ys
          (no_act (Rises kept ∷ (Writes records.Life ∷ ys)) refl r.up)
          (λ dues. (
            subst (λ (acts : List Act). Wrote records.Life ∷ acts
                ≡ posted_due rising_turn (fallen_in (Wrote records.Life ∷ acts))) (sym behind) refl,
            (tt, dues),
          ));
      stands = record {
        state = (client_rises (a - decl.sites) kept).client;
        actor =
            ap (λ (m : ActorMove). m.actor)
            (actor_more decl a (ds ++ Rises kept ∷ []) (Writes records.Life ∷ []) ∙ rises_to ds kept);
        ties =
            subst (λ (d : Account). Ties decl d (client_rises (a - decl.sites) kept).client) (sym account_risen)
            (risen_ties decl (a - decl.sites) kept);
        holds = risen_holds decl (a - decl.sites) kept;
        within =
            subst (IsWithin decl) (sym account_risen)
            (record { up = refl; known = planned; current = tt; command = tt });
      };
    }
      where
        account_risen : account_is decl a ((ds ++ Rises kept ∷ []) ++ Writes records.Life ∷ [])
            ≡ risen_account decl (a - decl.sites) kept
        account_risen =
            account_more decl a (ds ++ Rises kept ∷ []) (Writes records.Life ∷ [])
            ∙ ap (λ (d : Account). account_at decl d (Writes records.Life)) anew

    in_vain_rest : (cause : Fall) → IsByDisk cause
        → IsAtRest decl a ((ds ++ Rises kept ∷ []) ++ Falls cause (Some records.Life) ∷ [])
    in_vain_rest cause by_disk = record {
      up = false;
      is = up_more decl a (ds ++ Rises kept ∷ []) (Falls cause (Some records.Life) ∷ []);
      due =
          λ ys behind. event_due decl a ds r (Rises kept) (Falls cause (Some records.Life) ∷ []) ys
          (no_act (Rises kept ∷ (Falls cause (Some records.Life) ∷ ys)) refl r.up)
          (λ dues. (by cause by_disk ys, (tt, dues)));
      stands = fallen_still decl a client (ds ++ Rises kept ∷ []) cause (Some records.Life);
    }
      where
        by : (x : Fall) → IsByDisk x → (ys : List Deed) → IsPostOf rising_turn (Falls x (Some records.Life) ∷ ys)
        by causes.Script is ys = absurd is
        by causes.Stop is ys = refl
        by causes.Disk is ys = refl

    risen_as : (end : Appended) (first : ℕ)
        → IsAtRest decl a ((ds ++ Rises kept ∷ []) ++ deeds_as end first (rising []))
    risen_as Done first = risen_rest
    risen_as Failed first = in_vain_rest causes.Disk tt
    risen_as Stopped first = in_vain_rest causes.Stop tt

    pub rises_rest : (turn : Turn) (first : ℕ) → IsLawfulWithFalls decl a (ds ++ Rises kept ∷ []) turn
        → IsAtRest decl a ((ds ++ Rises kept ∷ []) ++ deeds_as turn.append first turn)
    rises_rest turn first law =
        subst (λ (v : List Deed). IsAtRest decl a ((ds ++ Rises kept ∷ []) ++ v)) (as_record turn.append first turn)
        (subst (λ (t : Turn). IsAtRest decl a ((ds ++ Rises kept ∷ []) ++ deeds_as turn.append first t))
        (sym (ap (λ (m : ActorMove). m.turn) (rises_to ds kept))
        ∙ turn_is decl a client (ds ++ Rises kept ∷ []) turn law) (risen_as turn.append first))

  -- an input of a client that is up

  module _ (ds : List Deed) (r : IsAtRest decl a ds) (same : r.up ≡ true) (s : IsTied decl a ds) (g : Input)
      (may : MayTake ds g) (declared : IsDeclaredDeed decl (Takes g)) where
    abbrev pub taken : Account
    taken = account_taken (account_is decl a ds) g

    abbrev pub move : ClientMove
    move = client_takes decl s.state g

    goes : (first : ℕ) → Goes decl first taken move
    goes first =
        inputs_are_answered_as_is_due decl first (account_is decl a ds) s.state s.holds g
        (free_for decl (a - decl.sites) ds g may) s.ties

    taken_within : IsWithin decl taken
    taken_within = within_at decl (account_is decl a ds) (Takes g) tt declared s.within

    pub takes_to : actor_after decl a (ds ++ Takes g ∷ []) ≡ by_client move
    takes_to = actor_more decl a ds (Takes g ∷ []) ∙ ap (λ (v : Actor). actor_takes decl v g) s.actor

    posted_account : (more : List Deed)
        → account_is decl a ((ds ++ Takes g ∷ []) ++ more) ≡ fold (account_at decl) taken more
    posted_account more =
        account_more decl a (ds ++ Takes g ∷ []) more
        ∙ ap (λ (d : Account). fold (account_at decl) d more) (account_more decl a ds (Takes g ∷ []))

    pub written_rest : (first : ℕ) → IsAtRest decl a ((ds ++ Takes g ∷ []) ++ turn_deeds first move.turn)
    written_rest first = record {
      up = true;
      is =
          up_more decl a (ds ++ Takes g ∷ []) (turn_deeds first move.turn)
          ∙ steady_from (is_up (ds ++ Takes g ∷ [])) (turn_deeds first move.turn) (turn_steady first move.turn)
          ∙ up_more decl a ds (Takes g ∷ []) ∙ r.is ∙ same;
      due =
          λ ys behind. event_due decl a ds r (Takes g) (turn_deeds first move.turn) ys
          (no_act (Takes g ∷ (turn_deeds first move.turn ++ ys)) refl r.up)
          (λ dues. (
            input_free decl a client ds r g may,
            due_then decl (turn_deeds first move.turn) ys taken (turn_steady first move.turn)
                (turn_declared decl first move.turn) (none_follows true ys behind) taken_within (goes first).due dues,
          ));
      stands = record {
        state = (fold (client_does decl) move (turn_deeds first move.turn)).client;
        actor = ap (λ (m : ActorMove). m.actor) (actor_more decl a (ds ++ Takes g ∷ []) (turn_deeds first move.turn)
            ∙ ap (λ (m : ActorMove). fold (actor_does decl a) m (turn_deeds first move.turn)) takes_to
            ∙ clients decl a move (turn_deeds first move.turn) (turn_steady first move.turn));
        ties =
            subst (λ (d : Account). Ties decl d (fold (client_does decl) move (turn_deeds first move.turn)).client)
            (sym (posted_account (turn_deeds first move.turn))) (goes first).ties;
        holds = takes_fit decl first s.state g s.holds;
        within = subst (IsWithin decl) (sym (posted_account (turn_deeds first move.turn)))
            (within_all decl (turn_deeds first move.turn) taken (turn_steady first move.turn)
            (turn_declared decl first move.turn) taken_within);
      };
    }

    -- where its record isn't written, Unknown is due, and it falls

    record_due : (w : IsCommitTurn move.turn)
        → IsRecordDue taken (running_row decl taken false) (records.Commit w.commit)
    record_due w =
        (subst (λ (o : Option Record). rows.AreByRows decl taken
        (writes_of o ++ (sends_of 0 move.turn.sends ++ tells_of move.turn.told))) w.write (goes 0).due).0

    unknown_rest : (cause : Fall) → IsByDisk cause → (c : Commit)
        → IsRecordDue taken (running_row decl taken false) (records.Commit c)
        → IsAtRest decl a ((ds ++ Takes g ∷ []) ++ Tells replies.Unknown ∷ Falls cause (Some (records.Commit c)) ∷ [])
    unknown_rest cause by_disk c is = record {
      up = false;
      is = up_more decl a (ds ++ Takes g ∷ []) (Tells replies.Unknown ∷ Falls cause (Some (records.Commit c)) ∷ []);
      due =
          λ ys behind. event_due decl a ds r (Takes g)
          (Tells replies.Unknown ∷ Falls cause (Some (records.Commit c)) ∷ []) ys
          (no_act (Takes g ∷ Tells replies.Unknown ∷ Falls cause (Some (records.Commit c)) ∷ ys) refl r.up)
          (λ dues. (input_free decl a client ds r g may, (by cause by_disk ys, (tt, dues))));
      stands = record {
        actor =
            ap (λ (m : ActorMove). m.actor)
            (actor_more decl a (ds ++ Takes g ∷ [])
            (Tells replies.Unknown ∷ Falls cause (Some (records.Commit c)) ∷ []));
        up =
            ap (λ (d : Account). d.up)
            (posted_account (Tells replies.Unknown ∷ Falls cause (Some (records.Commit c)) ∷ []));
        command =
            ap (λ (d : Account). d.command)
            (posted_account (Tells replies.Unknown ∷ Falls cause (Some (records.Commit c)) ∷ []));
      };
    }
      where
        told : (after : List Deed) → pending_next after ≡ Some (records.Commit c)
            → IsReplyDue taken (due decl taken (is_some (pending_next after))) after replies.Unknown
        told after pending =
            subst (λ (row : Option Reply). IsReplyDue taken row after replies.Unknown)
            (sym (ap (λ (o : Option Record). due decl taken (is_some o)) pending
            ∙ due_as decl taken taken_within true))
            (unwritten_commits_are_unknown decl taken c after is pending)

        by : (x : Fall) → IsByDisk x → (ys : List Deed)
            → IsReplyDue taken (due decl taken (is_some (pending_next (Falls x (Some (records.Commit c)) ∷ ys))))
            (Falls x (Some (records.Commit c)) ∷ ys) replies.Unknown
        by causes.Script is_disk ys = absurd is_disk
        by causes.Stop is_disk ys = told (Falls causes.Stop (Some (records.Commit c)) ∷ ys) refl
        by causes.Disk is_disk ys = told (Falls causes.Disk (Some (records.Commit c)) ∷ ys) refl

    pub posted_as : (end : Appended) (first : ℕ) → MayEnd move.turn.write end
        → IsAtRest decl a ((ds ++ Takes g ∷ []) ++ deeds_as end first move.turn)
    posted_as Done first ends = written_rest first
    posted_as Failed first ends = by (takes_turn decl s.state g)
      where
        by : IsClientTurn move.turn → IsAtRest decl a ((ds ++ Takes g ∷ []) ++ deeds_as Failed first move.turn)
        by (inl none) = absurd (subst (λ (w : Option Record). MayEnd w Failed) none ends)
        by (inr w) =
            subst (λ (v : List Deed). IsAtRest decl a ((ds ++ Takes g ∷ []) ++ v))
            (λ i. sends_of first (sym w.failed_sends i)
            ++ (tells_of (sym w.failed_told i) ++ Falls causes.Disk (sym w.write i) ∷ []))
            (unknown_rest causes.Disk tt w.commit (record_due w))
    posted_as Stopped first ends = by (takes_turn decl s.state g)
      where
        by : IsClientTurn move.turn → IsAtRest decl a ((ds ++ Takes g ∷ []) ++ deeds_as Stopped first move.turn)
        by (inl none) = absurd (subst (λ (w : Option Record). MayEnd w Stopped) none ends)
        by (inr w) =
            subst (λ (v : List Deed). IsAtRest decl a ((ds ++ Takes g ∷ []) ++ v))
            (λ i. tells_of (sym w.failed_told i) ++ Falls causes.Stop (sym w.write i) ∷ [])
            (unknown_rest causes.Stop tt w.commit (record_due w))

  -- a command of a client that is down

  module _ (ds : List Deed) (r : IsAtRest decl a ds) (same : r.up ≡ false) (s : IsFallen decl a ds) (command : Command)
      (may : MayTake ds (inputs.Called command)) where
    abbrev called : Account
    called = account_taken (account_is decl a ds) (inputs.Called command)

    down_rest : IsAtRest decl a ((ds ++ Takes (inputs.Called command) ∷ []) ++ Tells replies.Down ∷ [])
    down_rest = record {
      up = false;
      is =
          up_more decl a (ds ++ Takes (inputs.Called command) ∷ []) (Tells replies.Down ∷ [])
          ∙ up_more decl a ds (Takes (inputs.Called command) ∷ []) ∙ r.is ∙ same;
      due =
          λ ys behind. event_due decl a ds r (Takes (inputs.Called command)) (Tells replies.Down ∷ []) ys
          (no_act (Takes (inputs.Called command) ∷ Tells replies.Down ∷ ys) refl r.up)
          (λ dues. (
            input_free decl a client ds r (inputs.Called command) may,
            ((down_due (is_some (pending_next ys)), refl, behind), dues),
          ));
      stands = record {
        actor =
            ap (λ (m : ActorMove). m.actor)
            (actor_more decl a (ds ++ Takes (inputs.Called command) ∷ []) (Tells replies.Down ∷ [])
            ∙ actor_more decl a ds (Takes (inputs.Called command) ∷ []))
            ∙ ap (λ (v : Actor). (actor_takes decl v (inputs.Called command)).actor) s.actor;
        up = ap (λ (d : Account). d.up) told_account ∙ s.up;
        command = ap (λ (d : Account). d.command) told_account;
      };
    }
      where
        told_account : account_is decl a ((ds ++ Takes (inputs.Called command) ∷ []) ++ Tells replies.Down ∷ [])
            ≡ account_at decl called (Tells replies.Down)
        told_account =
            account_more decl a (ds ++ Takes (inputs.Called command) ∷ []) (Tells replies.Down ∷ [])
            ∙ ap (λ (d : Account). account_at decl d (Tells replies.Down))
            (account_more decl a ds (Takes (inputs.Called command) ∷ []))

        down_due : (unwritten : Bool) → due decl called unwritten ≡ Some replies.Down
        down_due unwritten =
            ap (λ (b : Bool). cond b
            (cond (is_declared_for decl called.current command)
            (row_of decl called unwritten called.current command) None) (Some replies.Down)) s.up

    pub down_as : (end : Appended) (first : ℕ) → MayEnd None end
        → IsAtRest decl a ((ds ++ Takes (inputs.Called command) ∷ []) ++ deeds_as end first (telling replies.Down))
    down_as Done first ends = down_rest
    down_as Failed first ends = absurd ends
    down_as Stopped first ends = absurd ends
