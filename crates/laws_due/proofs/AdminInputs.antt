-- An input of the administrator while he is up, and a command while he is down: what is due of them.
use Rattle.std.proofs.Common.{[], ◌≡◌, ◌≤◌, ℕ, ◌+◌, ◌==◌, Bool, true, false, cond, List, ◌∷◌, ◌++◌, length, fold}
use Rattle.std.proofs.Common.{Option, Some, None, is_some, refl, sym, ap, ◌∙◌, subst}
use Rattle.std.specs.Prelude.{option_and_then}
use Rattle.qc_core.specs.declared.actor.Actor.{Actor}
use Rattle.qc_core.specs.Vocabulary.{ActorMove, MayTake, actor_after, actor_does, actor_takes, by_admin, is_up}
use Rattle.qc_core.proofs.Steady.{turn_steady}
use Rattle.qc_decl.specs.Vocabulary.{administrator}
use Rattle.qc_decl.specs.declared.declaration.Declaration.{Declaration}
use Rattle.qc_msg.specs.declared.record.Record.{Record}
use Rattle.qc_msg.specs.declared.reply.Reply.TheVariants as replies
use Rattle.qc_msg.specs.declared.step.Command.{Command}
use Rattle.qc_msg.specs.declared.step.Fall.{Fall}
use Rattle.qc_msg.specs.declared.step.Fall.TheVariants as causes
use Rattle.qc_msg.specs.declared.step.Input.{Input}
use Rattle.qc_msg.specs.declared.step.Input.TheVariants as inputs
use Rattle.qc_msg.specs.declared.turn.Appended.{Appended}
use Rattle.qc_msg.specs.declared.turn.Appended.TheVariants.{Done, Failed, Stopped}
use Rattle.qc_msg.specs.Vocabulary.{Deed, Falls, IsByDisk, MayEnd, Takes, Tells, deeds_as, epoch_in, sends_as, sends_of}
use Rattle.qc_msg.specs.Vocabulary.{telling, tells_of, turn_deeds}
use Rattle.qc_promise.specs.Vocabulary.{AdminAccount, AreAdminDeedsDue, IsAdminReplyDue, IsDecisionMet}
use Rattle.qc_promise.specs.Vocabulary.{admin_account_at, admin_due, admin_taken, decided_for, epoch_row, pending_next}
use Rattle.qc_epoch.specs.Vocabulary.{admin_takes}
use Rattle.qc_admin.specs.Vocabulary.{sent_each}
use Rattle.laws_due.proofs.Standing.{no_act, none_follows}
use Rattle.laws_due.proofs.AdminStages.{Ties}
use Rattle.laws_due.proofs.AdminGoes.{Fails, Goes}
use Rattle.laws_due.proofs.AdminCommands.{takes_go}
use Rattle.laws_due.proofs.AdminRest.{IsAtRest, IsFallen, IsTied, account_is, account_more, actor_more, event_due}
use Rattle.laws_due.proofs.AdminRest.{input_due, turn_actor, up_more}
use Rattle.qc_core.proofs.LivesOfActors.{steady_from}

module _ (decl : Declaration) (some : (decl.sites == 0) ≡ false) where
  -- an input while he is up

  module _ (n first : ℕ) (low : n ≤ first) (ds : List Deed) (r : IsAtRest decl n ds) (same : r.up ≡ true)
      (s : IsTied decl n ds) (g : Input) (may : MayTake ds g) where
    goes : Goes decl first (admin_taken (account_is decl ds) g) (admin_takes decl s.state g)
    goes = takes_go decl some n first low (account_is decl ds) s.state s.ties g ((input_due decl n ds r g may).2)

    pub takes_to : actor_after decl (administrator decl) (ds ++ Takes g ∷ []) ≡ by_admin (admin_takes decl s.state g)
    takes_to = actor_more decl ds (Takes g ∷ []) ∙ ap (λ (v : Actor). actor_takes decl v g) s.actor

    posted_account : (more : List Deed)
        → account_is decl ((ds ++ Takes g ∷ []) ++ more)
        ≡ fold (admin_account_at decl) (admin_taken (account_is decl ds) g) more
    posted_account more =
        account_more decl (ds ++ Takes g ∷ []) more
        ∙ ap (λ (d : AdminAccount). fold (admin_account_at decl) d more) (account_more decl ds (Takes g ∷ []))

    written_rest : IsAtRest decl (first + length (admin_takes decl s.state g).turn.sends)
        ((ds ++ Takes g ∷ []) ++ turn_deeds first (admin_takes decl s.state g).turn)
    written_rest = record {
      up = true;
      is =
          up_more decl (ds ++ Takes g ∷ []) (turn_deeds first (admin_takes decl s.state g).turn)
          ∙ steady_from (is_up (ds ++ Takes g ∷ [])) (turn_deeds first (admin_takes decl s.state g).turn)
          (turn_steady first (admin_takes decl s.state g).turn)
          ∙ up_more decl ds (Takes g ∷ []) ∙ r.is ∙ same;
      due =
          λ ys behind. event_due decl n ds r (Takes g) (turn_deeds first (admin_takes decl s.state g).turn) ys
          (no_act (Takes g ∷ (turn_deeds first (admin_takes decl s.state g).turn ++ ys)) refl r.up)
          (λ dues. (
            input_due decl n ds r g may,
            goes.due ys (none_follows true ys behind)
                (subst (λ (d : AdminAccount). AreAdminDeedsDue decl d ys) goes.is dues),
          ));
      stands = record {
        state = sent_each (admin_takes decl s.state g).admin first (admin_takes decl s.state g).turn.sends;
        actor =
            ap (λ (m : ActorMove). m.actor)
            (actor_more decl (ds ++ Takes g ∷ []) (turn_deeds first (admin_takes decl s.state g).turn)
            ∙ ap
            (λ (m : ActorMove). fold (actor_does decl (administrator decl)) m
            (turn_deeds first (admin_takes decl s.state g).turn)) takes_to
            ∙ turn_actor decl first (admin_takes decl s.state g).admin (admin_takes decl s.state g).turn
            (admin_takes decl s.state g).turn);
        ties =
            subst (λ (d : AdminAccount). Ties decl (first + length (admin_takes decl s.state g).turn.sends) d
            (sent_each (admin_takes decl s.state g).admin first (admin_takes decl s.state g).turn.sends))
            (sym (posted_account (turn_deeds first (admin_takes decl s.state g).turn) ∙ goes.is)) goes.ties;
      };
    }

    -- where his decision isn't written, Fault is due, and he falls

    fault_rest : (k : ℕ) (cause : Fall) → IsByDisk cause → (w : Record)
        → Fails decl (admin_taken (account_is decl ds) g) (admin_takes decl s.state g).turn w
        → IsAtRest decl k ((ds ++ Takes g ∷ []) ++ Tells replies.Fault ∷ Falls cause (Some w) ∷ [])
    fault_rest k cause by_disk w fails = record {
      up = false;
      is = up_more decl (ds ++ Takes g ∷ []) (Tells replies.Fault ∷ Falls cause (Some w) ∷ []);
      due = λ ys behind. event_due decl n ds r (Takes g) (Tells replies.Fault ∷ Falls cause (Some w) ∷ []) ys
          (no_act (Takes g ∷ Tells replies.Fault ∷ Falls cause (Some w) ∷ ys) refl r.up)
          (λ dues. (input_due decl n ds r g may, (by cause by_disk ys, (tt, dues))));
      stands = record {
        actor =
            ap (λ (m : ActorMove). m.actor)
            (actor_more decl (ds ++ Takes g ∷ []) (Tells replies.Fault ∷ Falls cause (Some w) ∷ []));
        up = ap (λ (d : AdminAccount). d.up) (posted_account (Tells replies.Fault ∷ Falls cause (Some w) ∷ []));
        command =
            ap (λ (d : AdminAccount). d.command) (posted_account (Tells replies.Fault ∷ Falls cause (Some w) ∷ []));
        written =
            ap (λ (d : AdminAccount). d.written) (posted_account (Tells replies.Fault ∷ Falls cause (Some w) ∷ []));
      };
    }
      where
        told : (after : List Deed) → pending_next after ≡ Some w
            → IsAdminReplyDue decl (admin_taken (account_is decl ds) g) after replies.Fault
        told after pending = (
          ap (λ (o : Option Record). admin_due decl (admin_taken (account_is decl ds) g) (is_some o)) pending
              ∙ fails.due,
          subst (IsDecisionMet decl (admin_taken (account_is decl ds) g)) (sym pending)
              (fails.unwritten, fails.record_is),
        )

        by : (x : Fall) → IsByDisk x → (ys : List Deed)
            → IsAdminReplyDue decl (admin_taken (account_is decl ds) g) (Falls x (Some w) ∷ ys) replies.Fault
        by causes.Script is_disk ys = absurd is_disk
        by causes.Stop is_disk ys = told (Falls causes.Stop (Some w) ∷ ys) refl
        by causes.Disk is_disk ys = told (Falls causes.Disk (Some w) ∷ ys) refl

    failed_rest : (k : ℕ) (o : Option Record) → (admin_takes decl s.state g).turn.write ≡ o → MayEnd o Failed
        → IsAtRest decl k ((ds ++ Takes g ∷ []) ++ deeds_as Failed first (admin_takes decl s.state g).turn)
    failed_rest k None is ends = absurd ends
    failed_rest k (Some w) is ends =
        let fails : Fails decl (admin_taken (account_is decl ds) g) (admin_takes decl s.state g).turn w =
        goes.fails w is in
        subst (λ (v : List Deed). IsAtRest decl k ((ds ++ Takes g ∷ []) ++ v))
        (λ i. sends_of first (sym fails.sends_none i)
        ++ (tells_of (sym fails.told i) ++ Falls causes.Disk (sym is i) ∷ []))
        (fault_rest k causes.Disk tt w fails)

    stopped_rest : (k : ℕ) (o : Option Record) → (admin_takes decl s.state g).turn.write ≡ o → MayEnd o Stopped
        → IsAtRest decl k ((ds ++ Takes g ∷ []) ++ deeds_as Stopped first (admin_takes decl s.state g).turn)
    stopped_rest k None is ends = absurd ends
    stopped_rest k (Some w) is ends =
        let fails : Fails decl (admin_taken (account_is decl ds) g) (admin_takes decl s.state g).turn w =
        goes.fails w is in
        subst (λ (v : List Deed). IsAtRest decl k ((ds ++ Takes g ∷ []) ++ v))
        (λ i. tells_of (sym fails.told i) ++ Falls causes.Stop (sym is i) ∷ [])
        (fault_rest k causes.Stop tt w fails)

    pub posted_as : (end : Appended) → MayEnd (admin_takes decl s.state g).turn.write end
        → IsAtRest decl (first + length (sends_as end (admin_takes decl s.state g).turn))
        ((ds ++ Takes g ∷ []) ++ deeds_as end first (admin_takes decl s.state g).turn)
    posted_as Done ends = written_rest
    posted_as Failed ends =
        failed_rest (first + length (sends_as Failed (admin_takes decl s.state g).turn))
        (admin_takes decl s.state g).turn.write refl ends
    posted_as Stopped ends =
        stopped_rest (first + length (sends_as Stopped (admin_takes decl s.state g).turn))
        (admin_takes decl s.state g).turn.write refl ends

  -- a command while he is down

  module _ (n : ℕ) (ds : List Deed) (r : IsAtRest decl n ds) (same : r.up ≡ false) (s : IsFallen decl ds)
      (command : Command) (may : MayTake ds (inputs.Called command)) where
    told_account : account_is decl ((ds ++ Takes (inputs.Called command) ∷ []) ++ Tells replies.Down ∷ [])
        ≡ admin_account_at decl (admin_taken (account_is decl ds) (inputs.Called command)) (Tells replies.Down)
    told_account =
        account_more decl (ds ++ Takes (inputs.Called command) ∷ []) (Tells replies.Down ∷ [])
        ∙ ap (λ (d : AdminAccount). admin_account_at decl d (Tells replies.Down))
        (account_more decl ds (Takes (inputs.Called command) ∷ []))

    down_due : (ys : List Deed) → pending_next ys ≡ None
        → IsAdminReplyDue decl (admin_taken (account_is decl ds) (inputs.Called command)) ys replies.Down
    down_due ys none = (
      ap (λ (b : Bool). cond b
          (option_and_then (epoch_row decl (admin_taken (account_is decl ds) (inputs.Called command))
          (is_some (pending_next ys))) (epoch_in command)) (Some replies.Down)) s.up,
      subst (IsDecisionMet decl (admin_taken (account_is decl ds) (inputs.Called command))) (sym none)
          (sym (ap (λ (b : Bool). cond b
          (option_and_then (decided_for decl (admin_taken (account_is decl ds) (inputs.Called command)))
          (epoch_in command)) None) s.up)),
    )

    down_rest : (k : ℕ) → IsAtRest decl k ((ds ++ Takes (inputs.Called command) ∷ []) ++ Tells replies.Down ∷ [])
    down_rest k = record {
      up = false;
      is =
          up_more decl (ds ++ Takes (inputs.Called command) ∷ []) (Tells replies.Down ∷ [])
          ∙ up_more decl ds (Takes (inputs.Called command) ∷ []) ∙ r.is ∙ same;
      due =
          λ ys behind. event_due decl n ds r (Takes (inputs.Called command)) (Tells replies.Down ∷ []) ys
          (no_act (Takes (inputs.Called command) ∷ Tells replies.Down ∷ ys) refl r.up)
          (λ dues. (input_due decl n ds r (inputs.Called command) may, (down_due ys behind, dues)));
      stands = record {
        actor =
            ap (λ (m : ActorMove). m.actor)
            (actor_more decl (ds ++ Takes (inputs.Called command) ∷ []) (Tells replies.Down ∷ [])
            ∙ actor_more decl ds (Takes (inputs.Called command) ∷ []))
            ∙ ap (λ (v : Actor). (actor_takes decl v (inputs.Called command)).actor) s.actor;
        up = ap (λ (d : AdminAccount). d.up) told_account ∙ s.up;
        command = ap (λ (d : AdminAccount). d.command) told_account;
        written = ap (λ (d : AdminAccount). d.written) told_account;
      };
    }

    pub down_as : (k : ℕ) (end : Appended) (first : ℕ) → MayEnd None end
        → IsAtRest decl k ((ds ++ Takes (inputs.Called command) ∷ []) ++ deeds_as end first (telling replies.Down))
    down_as k Done first ends = down_rest k
    down_as k Failed first ends = absurd ends
    down_as k Stopped first ends = absurd ends
