-- Where nothing is ready for anybody, no input is open and each control line has acted, no command of the administrator
-- runs. So his commands and replies are in order through his falls.
use Rattle.std.proofs.Common.{[], ◌≡◌, ◌⊎◌, ℕ, ◌+◌, ◌≤◌, ◌==◌, Bool, true, false, List, ◌∷◌, ◌++◌, length, inl, inr}
use Rattle.std.proofs.Common.{Option, Some, None, is_some, sym, ap, ◌∙◌, subst, arith}
use Rattle.std.specs.Prelude.{slice_get}
use Rattle.std.specs.List.{AllByRecursion as Every}
use Rattle.qc_list.specs.Vocabulary.{In}
use Rattle.qc_core.specs.declared.actor.Actor.{Actor}
use Rattle.qc_core.specs.declared.actor.Actor.TheVariants as actors
use Rattle.qc_core.specs.Vocabulary.{ActorMove, IsLawfulWithFalls, actor_after, actor_takes, is_running, with_record}
use Rattle.qc_core.proofs.AdminTurns.{FaultsAlone}
use Rattle.qc_core.proofs.AdminWrites.{admin_written}
use Rattle.qc_core.proofs.ByNumber.{admin_no_client, admin_no_site, admin_risen}
use Rattle.qc_core.proofs.PostsByTurns.{called_turn}
use Rattle.qc_decl.specs.Vocabulary.{IsAccepted, administrator, controller}
use Rattle.qc_decl.specs.Actors as numbers
use Rattle.qc_decl.specs.declared.declaration.Declaration.{Declaration}
use Rattle.qc_epoch.specs.Vocabulary.{Admin}
use Rattle.laws_turns.specs.Vocabulary.{AsksDeclared, IsAtReceiver, IsAwaited, IsQuiet, IsTaken, LivesIn, calls_of}
use Rattle.laws_turns.proofs.Lived.{actors_live_in_runs_with_falls}
use Rattle.qc_link.specs.Vocabulary.{most_actors}
use Rattle.qc_msg.specs.Vocabulary.{Deed, Entry, MayEnd, Rises, Takes, by, deeds, deeds_as, mail, posted_as}
use Rattle.qc_msg.specs.declared.record.Record.{Record}
use Rattle.qc_msg.specs.declared.reply.Reply.{Reply}
use Rattle.qc_msg.specs.declared.step.Command.{Command}
use Rattle.qc_msg.specs.declared.step.Fall.TheVariants as causes
use Rattle.qc_msg.specs.declared.step.Input.{Input}
use Rattle.qc_msg.specs.declared.step.Input.TheVariants as inputs
use Rattle.qc_msg.specs.declared.turn.Appended.{Appended}
use Rattle.qc_msg.specs.declared.turn.Appended.TheVariants.{Done, Failed, Stopped}
use Rattle.qc_msg.specs.declared.turn.Turn.{Turn}
use Rattle.qc_msg.proofs.Growth.{deeds-posted_as}
use Rattle.qc_promise.specs.Vocabulary.{AreAdminDeedsDue, IsAdminDue, new_admin_account}
use Rattle.qc_script.specs.Vocabulary.{RunsWithFalls, controls_left, inbox, phase_of}
use Rattle.qc_script.specs.declared.script.Script.{Script}
use Rattle.laws_due.specs.Vocabulary.{AreInOrder, AsksEpochs, AsksKnown, IsEpoch}
use Rattle.laws_due.proofs.AdminNumbers.{open_numbers}
use Rattle.laws_due.proofs.AdminLives.{IsAtInput, admin_lives}
use Rattle.laws_due.proofs.AdminOpen.{none_commanded}
use Rattle.laws_due.proofs.AdminReached.{his_receiver, his_unanswered}
use Rattle.laws_due.proofs.AdminRunning.{running_is}
use Rattle.laws_due.proofs.AdminRest.{IsAtRest, Stands, account_is, actor_more}
use Rattle.laws_due.proofs.Administrators.{run_admin_due, some_site}
use Rattle.laws_due.proofs.AwaitedWithFalls.{his_requests_awaited}
use Rattle.laws_due.proofs.Calling.{calls_are_asked_with_falls}
use Rattle.laws_due.proofs.EndsWithFalls.{RestsAtEnds, copies_none, free, idle_of, losts_none}
use Rattle.laws_due.proofs.Ordered.{run_in_order}
use Rattle.laws_due.proofs.AdminOrders.{no_command, done_ordered, broken_ordered, due_second, command_of, asked_phases}
use Rattle.qc_list.proofs.Numbers.{numbers_apart}
use Rattle.qc_list.proofs.Members.{every-front, In-none}
use Rattle.qc_script.proofs.Actors.{few_actors}

module _ (decl : Declaration) (script : Script) (accepted : IsAccepted decl) (asks : AsksDeclared decl script)
    (fits : ℕ → List Record → Type 0) (known : AsksKnown fits decl script) (epochs : AsksEpochs decl script) where
  abbrev IsRun : List Entry → List Bool → Type 0
  IsRun h open_inputs = RunsWithFalls (IsLawfulWithFalls decl) fits decl script h open_inputs

  few : numbers.actors decl ≤ most_actors
  few = few_actors decl accepted

  his : (decl.sites == 0) ≡ false
  his = some_site decl accepted.has_site

  -- what he was asked

  epochs_called : (h : List Entry) (open_inputs : List Bool) → IsRun h open_inputs
      → Every IsEpoch (calls_of (administrator decl) h)
  epochs_called h open_inputs run =
      every-front IsEpoch (calls_of (administrator decl) h) (inbox script (administrator decl) h).commands
      (subst (Every IsEpoch)
      (sym (calls_are_asked_with_falls (IsLawfulWithFalls decl) fits decl script
      (administrator decl) h open_inputs run))
      (asked_phases decl script.phases (phase_of h) epochs))

  -- nothing of his is open at the end

  module _ (h : List Entry) (open_inputs : List Bool) (run : IsRun h open_inputs)
      (closed : (b : ℕ) → slice_get open_inputs b ≡ Some true → ⊥) (quiet : IsQuiet decl script h)
      (done : controls_left script h ≡ []) where
    nowhere : (n : ℕ) → IsAtReceiver script h open_inputs (administrator decl) n → ⊥
    nowhere n r = at r.place
      where
        at : In r.envelope (inbox script r.envelope.to h).copies ⊎ IsTaken h open_inputs r.envelope → ⊥
        at (inl there) =
            subst (In r.envelope)
            (copies_none decl script accepted asks fits h open_inputs run closed quiet done r.envelope.to
            (his_receiver decl script accepted fits known h open_inputs run r.envelope r.sent r.from r.request))
            there
        at (inr t) = closed r.envelope.to t.is_open

    not_awaited : (n : ℕ) → IsAwaited n (inbox script (administrator decl) h) → ⊥
    not_awaited n (inl lost) =
        subst (In n)
        (losts_none decl script accepted asks fits h open_inputs run closed quiet done (administrator decl)
        (omega arith)) lost
    not_awaited n (inr (inl open_still)) =
        nowhere n (his_unanswered decl script accepted fits known h open_inputs run n open_still)
    not_awaited n (inr (inr has)) =
        subst (In has.envelope)
        (copies_none decl script accepted asks fits h open_inputs run closed quiet done (administrator decl)
        (omega arith)) has.member

    none_open : (m : Admin)
        → (actor_after decl (administrator decl) (deeds (administrator decl) [] h)).actor ≡ actors.Admin m
        → open_numbers m.doing ≡ []
    none_open m is =
        In-none (open_numbers m.doing)
        (λ k member. not_awaited k (his_requests_awaited decl script fits few h open_inputs run m is k member))

    pub none_runs : is_running (deeds (administrator decl) [] h) ≡ false
    none_runs = running_is decl (deeds (administrator decl) [] h) ∙ by rest.up rest.stands
      where
        lived : LivesIn decl (administrator decl) h false
        lived =
            actors_live_in_runs_with_falls decl script fits few h open_inputs run (administrator decl) false
            (free decl script accepted asks fits h open_inputs run closed quiet done (administrator decl) (omega arith))

        rest : IsAtRest decl lived.above (deeds (administrator decl) [] h)
        rest = admin_lives decl his (deeds (administrator decl) [] h) false lived.above lived.lives

        by : (up : Bool) → Stands decl up lived.above (deeds (administrator decl) [] h)
            → is_some (account_is decl (deeds (administrator decl) [] h)).command ≡ false
        by true s =
            no_command (account_is decl (deeds (administrator decl) [] h)).command
            (command_of decl (deeds (administrator decl) [] h) new_admin_account (epochs_called h open_inputs run)
            tt)
            (none_commanded decl lived.above (account_is decl (deeds (administrator decl) [] h)) s.state s.ties
            (none_open s.state s.actor))
        by false s = ap (λ (o : Option Command). is_some o) s.command

  pub his_none_runs : RestsAtEnds decl script accepted asks fits (administrator decl)
  his_none_runs h open_inputs run closed quiet done = none_runs h open_inputs run closed quiet done

  -- a post of his

  abbrev Faults : Turn → Type 0
  Faults t = FaultsAlone t.write t.failed_told

  faults_alone : (n : ℕ) (ds : List Deed) (turn : Turn) → IsAtInput decl his n ds
      → IsLawfulWithFalls decl (administrator decl) ds turn → FaultsAlone turn.write turn.failed_told
  faults_alone n ds turn at law =
      whole (subst Faults (called_turn decl (administrator decl) ds turn law)
      (subst Faults (sym turn_is) (by at.rest.up at.rest.stands)))
    where
      whole : Faults (with_record turn) → Faults turn
      whole f = f

      turn_is : (actor_after decl (administrator decl) ds).turn
          ≡ (actor_takes decl (actor_after decl (administrator decl) at.before).actor at.given).turn
      turn_is =
          ap (λ (v : List Deed). (actor_after decl (administrator decl) v).turn) at.is
          ∙ ap (λ (m : ActorMove). m.turn) (actor_more decl at.before (Takes at.given ∷ []))

      down : (g : Input) → Faults (actor_takes decl actors.Down g).turn
      down (inputs.Called command) = tt
      down (inputs.Got e) = tt
      down (inputs.Lost k) = tt

      by : (up : Bool) → Stands decl up n at.before
          → Faults (actor_takes decl (actor_after decl (administrator decl) at.before).actor at.given).turn
      by true s =
          subst (λ (v : Actor). Faults (actor_takes decl v at.given).turn) (sym s.actor)
          (admin_written decl s.state at.given).fails
      by false s = subst (λ (v : Actor). Faults (actor_takes decl v at.given).turn) (sym s.actor) (down at.given)

  post_in_order : (older : List Entry) (before after : List Bool) (turn : Turn) → IsRun older before
      → slice_get before (administrator decl) ≡ Some true
      → IsLawfulWithFalls decl (administrator decl) (deeds (administrator decl) [] older) turn
      → IsRun (older ++ by (administrator decl) (posted_as turn.append (length (mail older)) turn)) after
      → AreInOrder (is_running (deeds (administrator decl) [] older)) (deeds_as turn.append (length (mail older)) turn)
  post_in_order older before after turn run taken law whole =
      subst (λ (b : Bool). AreInOrder b (deeds_as turn.append (length (mail older)) turn))
      (sym (running_is decl (deeds (administrator decl) [] older))) (at turn.append law.may_end dues)
    where
      lived : LivesIn decl (administrator decl) older true
      lived = actors_live_in_runs_with_falls decl script fits few older before run (administrator decl) true taken

      faults : FaultsAlone turn.write turn.failed_told
      faults =
          faults_alone lived.above (deeds (administrator decl) [] older) turn
          (admin_lives decl his (deeds (administrator decl) [] older) true lived.above lived.lives) law

      dues : AreAdminDeedsDue decl (account_is decl (deeds (administrator decl) [] older))
          (deeds_as turn.append (length (mail older)) turn)
      dues =
          due_second decl (deeds (administrator decl) [] older) (deeds_as turn.append (length (mail older)) turn)
          new_admin_account
          (subst (IsAdminDue decl) (deeds-posted_as turn.append (administrator decl) (length (mail older)) older turn)
          (run_admin_due decl script fits accepted.has_site few
          (older ++ by (administrator decl) (posted_as turn.append (length (mail older)) turn)) after whole))

      some : (w : Option Record) → MayEnd w Failed → FaultsAlone w turn.failed_told → is_some turn.failed_told ≡ true
      some None may f = absurd may
      some (Some r) may f = ap (λ (o : Option Reply). is_some o) f

      at : (end : Appended) → MayEnd turn.write end
          → AreAdminDeedsDue decl (account_is decl (deeds (administrator decl) [] older))
          (deeds_as end (length (mail older)) turn)
          → AreInOrder (is_some (account_is decl (deeds (administrator decl) [] older)).command)
          (deeds_as end (length (mail older)) turn)
      at Done may due =
          done_ordered decl (account_is decl (deeds (administrator decl) [] older)) (length (mail older)) turn due
      at Failed may due =
          broken_ordered decl (account_is decl (deeds (administrator decl) [] older)) (length (mail older))
          turn.failed_sends turn.failed_told causes.Disk turn.write (some turn.write may faults) due
      at Stopped may due =
          broken_ordered decl (account_is decl (deeds (administrator decl) [] older)) (length (mail older)) []
          turn.failed_told causes.Stop turn.write (some turn.write may faults) due

  pub his_order : (h : List Entry) (open_inputs : List Bool) → IsRun h open_inputs
      → AreInOrder false (deeds (administrator decl) [] h)
  his_order h open_inputs run =
      run_in_order decl script fits (administrator decl) (record {
        other =
            numbers_apart (controller decl) (administrator decl)
            (λ same. (let is : decl.sites + decl.clients + 1 ≡ decl.sites + decl.clients = same in omega arith));
        idle =
            λ older before r line lines left. idle_of decl script accepted asks fits (administrator decl) his_none_runs
            older before r line lines left;
        ordered = post_in_order;
        rising_is = λ ds kept turn law.
            sym (ap (λ (m : ActorMove). m.turn)
            (admin_risen decl (administrator decl) (admin_no_site decl) (admin_no_client decl) kept))
            ∙ sym (ap (λ (m : ActorMove). m.turn) (actor_more decl ds (Rises kept ∷ [])))
            ∙ called_turn decl (administrator decl) (ds ++ Rises kept ∷ []) turn law;
      }) h open_inputs run
