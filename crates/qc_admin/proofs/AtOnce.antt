-- One call gives the messages of a turn the numbers that they get one after another.
use Rattle.std.proofs.Common.{◌≡◌, ℕ, ◌+◌, ◌%◌, ◌==◌, Bool, true, false, cond, List, [], length, map, take, Option}
use Rattle.std.proofs.Common.{Some, None, refl, sym, ap, ◌∙◌}
use Rattle.std.specs.Prelude.{nat_le}
use Rattle.std.specs.Option.{option_map_or}
use Rattle.std.proofs.Math.Nat.{zero-mod}
use Rattle.qc_decl.specs.declared.declaration.Declaration.{Declaration}
use Rattle.qc_decl.specs.Vocabulary.{IsAccepted, most_record_bytes, plan_in}
use Rattle.qc_msg.specs.declared.call.Call.{Call}
use Rattle.qc_msg.specs.declared.message.Answer.{Answer}
use Rattle.qc_msg.specs.declared.message.Message.{Message}
use Rattle.qc_msg.specs.declared.message.Message.TheVariants as messages
use Rattle.qc_msg.specs.declared.reply.Reply.TheVariants as replies
use Rattle.qc_msg.specs.declared.step.Command.{Command}
use Rattle.qc_msg.specs.declared.step.Command.TheVariants as commands
use Rattle.qc_msg.specs.declared.step.Input.{Input}
use Rattle.qc_msg.specs.declared.step.Input.TheVariants as inputs
use Rattle.qc_msg.specs.declared.turn.Turn.{Turn}
use Rattle.qc_msg.specs.Vocabulary.{epoch_length, quiet, sending, site_called, without_call}
use Rattle.qc_plan.specs.declared.plan.Plan.{Plan}
use Rattle.qc_plan.specs.declared.standing.Verdict.{Verdict}
use Rattle.qc_plan.specs.declared.standing.Verdict.TheVariants as verdicts
use Rattle.qc_plan.specs.Vocabulary.{RoundState, note, start, verdict}
use Rattle.qc_front.specs.Vocabulary.{IsRound, awaited, weights_of}
use Rattle.qc_epoch.specs.Vocabulary.{Admin, Asking, Closing, Doing, Installing, Question, Resting, ShutSite}
use Rattle.qc_msg.specs.declared.payload.EpochStart.{EpochStart}
use Rattle.qc_epoch.specs.Vocabulary.{admin_takes, again, all_taken, answered_in, ask_of, asks, called, close_need}
use Rattle.qc_epoch.specs.Vocabulary.{close_round, close_round_by, closes, closes_by, closing_takes, decide_turn}
use Rattle.qc_epoch.specs.Vocabulary.{decides, decision, doing, first_doubt, goes_on, heard, in_asked_order}
use Rattle.qc_epoch.specs.Vocabulary.{install_sends, installing, installing_takes, most_asks, moved, moves_to}
use Rattle.qc_epoch.specs.Vocabulary.{outcome_in, questions_of, replies_with, settles, settles_by, site_set}
use Rattle.qc_epoch.specs.Vocabulary.{standing_of, taken_for, with_installed, with_shut_of}
use Rattle.qc_admin.specs.Vocabulary.{AdminHolds, DoingHolds, IsNumberedAtOnce}
use Rattle.qc_admin.proofs.NumberedCloses.{asks_new, asks_on, unsent}
use Rattle.qc_admin.proofs.Numbered.{all_unasked, asking_new, installs_new, taken_asked}

-- moves

tells : (decl : Declaration) (m : Admin) (turn : Turn) → turn.sends ≡ []
    → IsNumberedAtOnce decl (moved (doing m Resting) turn)
tells decl m turn none = unsent decl (doing m Resting) turn none tt

decides_now : (decl : Declaration) (m : Admin) (d : EpochStart) (closed : List ℕ) → IsAccepted decl
    → IsNumberedAtOnce decl (decides decl m d closed)
decides_now decl m d closed accepted = by (nat_le (epoch_length d.lines) most_record_bytes)
  where
    by : (t : Bool) → IsNumberedAtOnce decl (cond t
        (moved (record { epoch = d.epoch; decided = Some d; doing = installing decl closed }) (decide_turn decl d))
        (replies_with m replies.Fault))
    by true = installs_new decl (record { epoch = d.epoch; decided = Some d; doing = Resting }) d closed
        (decide_turn decl d) accepted refl
    by false = tells decl m (replies_with m replies.Fault).turn refl

settles_now : (decl : Declaration) (m : Admin) (next : ℕ) (shuts : List ShutSite) (qs : List Question) → IsAccepted decl
    → IsNumberedAtOnce decl (settles decl m next shuts qs)
settles_now decl m next shuts qs accepted = by (first_doubt qs)
  where
    by : (o : Option Question) → IsNumberedAtOnce decl (settles_by decl m next shuts qs o)
    by (Some q) = tells decl m (replies_with m (replies.InDoubt q.tx q.site)).turn refl
    by None = decides_now decl m (decision next shuts qs) (map (λ (s : ShutSite). s.site) shuts) accepted

asks_now : (decl : Declaration) (m : Admin) (next : ℕ) (shuts : List ShutSite) → IsAccepted decl
    → IsNumberedAtOnce decl (asks decl m next shuts (questions_of shuts))
asks_now decl m next shuts accepted = by (length (questions_of shuts) == 0) refl
  where
    by : (t : Bool) → (length (questions_of shuts) == 0) ≡ t
        → IsNumberedAtOnce decl (cond t (settles decl m next shuts (questions_of shuts))
        (moved (doing m (Asking next shuts (questions_of shuts)))
        (sending (map (ask_of decl) (take most_asks (questions_of shuts))))))
    by true is = settles_now decl m next shuts (questions_of shuts) accepted
    by false is = asking_new decl m next shuts (questions_of shuts) (all_unasked [] shuts refl) is

-- a round, where it goes on so
closes_now : (decl : Declaration) (m : Admin) (next : ℕ) (calls : List Call) (round : RoundState)
    (shuts : List ShutSite) → IsAccepted decl → AdminHolds decl m
    → (verdict round ≡ verdicts.Waiting → IsNumberedAtOnce decl (goes_on m next calls round shuts))
    → IsNumberedAtOnce decl (closes decl m next calls round shuts)
closes_now decl m next calls round shuts accepted h goes = by (verdict round) refl
  where
    by : (v : Verdict) → verdict round ≡ v → IsNumberedAtOnce decl (closes_by decl m next calls round shuts v)
    by verdicts.Waiting is = goes is
    by verdicts.Met is = asks_now decl m next (in_asked_order round.asked shuts) accepted
    by (verdicts.Closed e site) is = unsent decl m quiet refl h
    by (verdicts.Clash tx site) is = unsent decl m quiet refl h
    by (verdicts.Short got need) is = tells decl m
        (closes_by decl m next calls round shuts (verdicts.Short got need)).turn refl

-- a round that begins

round_starts : (decl : Declaration) (epoch : ℕ) → IsAccepted decl
    → IsRound decl 0 epoch (close_round decl epoch).need (close_round decl epoch)
round_starts decl epoch accepted = by (plan_in decl epoch) refl
  where
    first : 0 ≡ 0 % decl.sites
    first = sym (zero-mod decl.sites)

    by : (o : Option Plan) → plan_in decl epoch ≡ o → IsRound decl 0 epoch (close_round_by o).need (close_round_by o)
    by None is =
        let weights : [] ≡ weights_of decl epoch =
        ap (λ (o : Option Plan). option_map_or (λ (p : Plan). p.weights) o []) (sym is) in
        record {
          weights = weights;
          need_is = refl;
          sites = ap (λ (ws : List ℕ). (start ws 0 0).rest) weights
              ∙ ap (λ (from : ℕ). (start (weights_of decl epoch) from 0).rest) first;
        }
    by (Some plan) is =
        let weights : plan.weights ≡ weights_of decl epoch =
        ap (λ (o : Option Plan). option_map_or (λ (p : Plan). p.weights) o []) (sym is) in
        record {
          weights = weights;
          need_is = refl;
          sites = ap (λ (ws : List ℕ). (start ws 0 (close_need plan)).rest) weights
              ∙ ap (λ (from : ℕ). (start (weights_of decl epoch) from (close_need plan)).rest) first;
        }

nobody_yet : (decl : Declaration) (epoch : ℕ) → awaited (close_round decl epoch) ≡ []
nobody_yet decl epoch = by (plan_in decl epoch)
  where
    by : (o : Option Plan) → awaited (close_round_by o) ≡ []
    by None = refl
    by (Some plan) = refl

-- inputs

again_now : (decl : Declaration) (m : Admin) (o : Option EpochStart) → IsAccepted decl
    → IsNumberedAtOnce decl (again decl m o)
again_now decl m None accepted = tells decl m (again decl m None).turn refl
again_now decl m (Some d) accepted = installs_new decl m d [] (sending (install_sends decl d)) accepted refl

moves_now : (decl : Declaration) (m : Admin) (number : ℕ) → IsAccepted decl → AdminHolds decl m
    → IsNumberedAtOnce decl (moves_to decl m number)
moves_now decl m number accepted h = by (number == m.epoch) (number == m.epoch + 1)
  where
    by : (same next : Bool) → IsNumberedAtOnce decl
        (cond same (again decl m m.decided) (cond next (closes decl m number [] (close_round decl m.epoch) [])
        (replies_with m (replies.Order m.epoch))))
    by true next = again_now decl m m.decided accepted
    by false true =
        closes_now decl m number [] (close_round decl m.epoch) [] accepted h
        (λ waits. asks_new decl m number [] (close_round decl m.epoch) []
        (round_starts decl m.epoch accepted) waits refl (nobody_yet decl m.epoch))
    by false false = tells decl m (replies_with m (replies.Order m.epoch)).turn refl

called_now : (decl : Declaration) (m : Admin) (command : Command) → IsAccepted decl → AdminHolds decl m
    → IsNumberedAtOnce decl (called decl m command)
called_now decl m commands.Begin accepted h = unsent decl m quiet refl h
called_now decl m (commands.Do object inv) accepted h = unsent decl m quiet refl h
called_now decl m commands.Commit accepted h = unsent decl m quiet refl h
called_now decl m commands.Abort accepted h = unsent decl m quiet refl h
called_now decl m (commands.Epoch number) accepted h = moves_now decl m number accepted h

answered_now : (decl : Declaration) (m : Admin) (runs : Doing) (number : ℕ) (answer : Option Answer) → IsAccepted decl
    → AdminHolds decl m → DoingHolds decl m.epoch runs
    → IsNumberedAtOnce decl (answered_in decl m runs number answer)
answered_now decl m Resting number answer accepted was h = unsent decl m quiet refl was
answered_now decl m (Closing next calls round shuts) number answer accepted was h = by (site_called calls number) refl
  where
    by : (o : Option ℕ) → site_called calls number ≡ o
        → IsNumberedAtOnce decl (closing_takes decl m next calls round shuts number answer o)
    by None is = unsent decl m quiet refl was
    by (Some site) is =
        closes_now decl m next (without_call calls number) (note round site (standing_of answer))
        (with_shut_of shuts site answer) accepted was
        (λ waits. asks_on decl m next number site (standing_of answer) calls round
        (with_shut_of shuts site answer) h is waits)
answered_now decl m (Asking next shuts questions) number answer accepted was h = by (all_taken questions')
  where
    questions' : List Question
    questions' = map (taken_for number (outcome_in answer)) questions

    by : (t : Bool) → IsNumberedAtOnce decl (cond t
        (settles decl m next shuts (map (taken_for number (outcome_in answer)) questions))
        (moved (doing m (Asking next shuts (map (taken_for number (outcome_in answer)) questions))) quiet))
    by true = settles_now decl m next shuts (map (taken_for number (outcome_in answer)) questions) accepted
    by false = unsent decl (doing m (Asking next shuts (map (taken_for number (outcome_in answer)) questions))) quiet
        refl (taken_asked number (outcome_in answer) questions ∙ h)
answered_now decl m (Installing closed awaits calls installed) number answer accepted was h =
    by (site_called calls number)
  where
    left : (site : ℕ) (t : Bool) → (length (without_call calls number) == 0) ≡ t
        → IsNumberedAtOnce decl (cond t (replies_with m
        (replies.Moved (site_set closed) (site_set (with_installed installed site answer))))
        (moved (doing m (Installing closed awaits (without_call calls number) (with_installed installed site answer)))
        quiet))
    left site true is = tells decl m (replies_with m
        (replies.Moved (site_set closed) (site_set (with_installed installed site answer)))).turn refl
    left site false is = unsent decl (doing m
        (Installing closed awaits (without_call calls number) (with_installed installed site answer))) quiet refl is

    by : (o : Option ℕ) → IsNumberedAtOnce decl (installing_takes m closed awaits calls installed number answer o)
    by None = unsent decl m quiet refl was
    by (Some site) = left site (length (without_call calls number) == 0) refl

heard_now : (decl : Declaration) (m : Admin) (message : Message) → IsAccepted decl → AdminHolds decl m
    → IsNumberedAtOnce decl (heard decl m message)
heard_now decl m (messages.Request tx epoch life want) accepted h = unsent decl m quiet refl h
heard_now decl m (messages.Answer to answer) accepted h = answered_now decl m m.doing to (Some answer) accepted h h
heard_now decl m (messages.Decision tx verdict) accepted h = unsent decl m quiet refl h
heard_now decl m (messages.Inquiry tx) accepted h = unsent decl m quiet refl h
heard_now decl m (messages.Ask tx) accepted h = unsent decl m quiet refl h
heard_now decl m (messages.Close epoch) accepted h = unsent decl m quiet refl h
heard_now decl m (messages.Install start) accepted h = unsent decl m quiet refl h

pub takes_now : (decl : Declaration) (m : Admin) (input : Input) → IsAccepted decl → AdminHolds decl m
    → IsNumberedAtOnce decl (admin_takes decl m input)
takes_now decl m (inputs.Called command) accepted h = called_now decl m command accepted h
takes_now decl m (inputs.Got envelope) accepted h = heard_now decl m envelope.message accepted h
takes_now decl m (inputs.Lost number) accepted h = answered_now decl m m.doing number None accepted h h
