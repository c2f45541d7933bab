-- What the administrator's turns write and tell: a decision at most, whose failure is told alone, as that it is too
-- long for a record; and he answers nothing.
use Rattle.std.proofs.Common.{[], ℕ, ◌+◌, ◌==◌, inl, nat_le, Bool, true, false, cond, List, ◌∷◌, length, map, take}
use Rattle.std.proofs.Common.{Option, Some, None, refl}
use Rattle.std.specs.List.{AllByRecursion as Every}
use Rattle.qc_decl.specs.Vocabulary.{most_record_bytes}
use Rattle.qc_decl.specs.declared.declaration.Declaration.{Declaration}
use Rattle.qc_epoch.specs.Vocabulary.{Admin, Asking, Closing, Doing, Installing, Question, Resting, ShutSite}
use Rattle.qc_msg.specs.declared.payload.EpochStart.{EpochStart}
use Rattle.qc_epoch.specs.Vocabulary.{all_taken, decision, first_doubt, in_asked_order, most_asks}
use Rattle.qc_epoch.specs.Vocabulary.{moved as admins_moved, outcome_in, questions_of, standing_of, taken_for}
use Rattle.qc_epoch.specs.Vocabulary.{with_installed, with_shut_of}
use Rattle.qc_epoch.specs.Conduct as admins
use Rattle.qc_msg.specs.Vocabulary.{epoch_length, quiet, sending, site_called, without_call}
use Rattle.qc_msg.specs.declared.call.Call.{Call}
use Rattle.qc_msg.specs.declared.message.Answer.{Answer}
use Rattle.qc_msg.specs.declared.message.Message.{Message}
use Rattle.qc_msg.specs.declared.message.Message.TheVariants as messages
use Rattle.qc_msg.specs.declared.reply.Half.TheVariants as halves
use Rattle.qc_msg.specs.declared.reply.Reply.TheVariants as replies
use Rattle.qc_msg.specs.declared.step.Command.{Command}
use Rattle.qc_msg.specs.declared.step.Command.TheVariants as commands
use Rattle.qc_msg.specs.declared.step.Input.{Input}
use Rattle.qc_msg.specs.declared.step.Input.TheVariants as inputs
use Rattle.qc_plan.specs.Vocabulary.{RoundState, note, verdict, wanted}
use Rattle.qc_plan.specs.declared.standing.Verdict.{Verdict}
use Rattle.qc_plan.specs.declared.standing.Verdict.TheVariants as verdicts
use Rattle.qc_core.proofs.AdminTurns.{IsSentByAdmin, IsAdminTurn, quiet_well, tells_well, fault_well, sends_well}

installs_ask : (d : EpochStart) (sites : List ℕ) → Every IsSentByAdmin (map (admins.install_of d) sites)
installs_ask d [] = tt
installs_ask d (site ∷ sites) = (tt, installs_ask d sites)

closes_ask : (epoch : ℕ) (sites : List ℕ) → Every IsSentByAdmin (map (admins.close_of epoch) sites)
closes_ask epoch [] = tt
closes_ask epoch (site ∷ sites) = (tt, closes_ask epoch sites)

module _ (decl : Declaration) (m : Admin) where
  asks_ask : (qs : List Question) → Every IsSentByAdmin (map (admins.ask_of decl) qs)
  asks_ask [] = tt
  asks_ask (q ∷ qs) = (tt, asks_ask qs)

  decides_well : (d : EpochStart) (closed : List ℕ) → IsAdminTurn (admins.decides decl m d closed).turn
  decides_well d closed = by (nat_le (epoch_length d.lines) most_record_bytes)
    where
      by : (b : Bool)
          → IsAdminTurn
          (cond b
          (admins_moved (record { epoch = d.epoch; decided = Some d; doing = admins.installing decl closed })
          (admins.decide_turn decl d)) (admins.replies_with m replies.Fault)).turn
      by true =
          record {
            append = refl;
            told = inl refl;
            says = tt;
            fails_say = tt;
            fails = refl;
            writes = tt;
            failed_sends = refl;
            sends = installs_ask d (admins.all_sites decl);
          }
      by false = fault_well

  settles_well : (epoch : ℕ) (shuts : List ShutSite) (questions : List Question)
      → IsAdminTurn (admins.settles decl m epoch shuts questions).turn
  settles_well epoch shuts questions = by (first_doubt questions)
    where
      by : (o : Option Question) → IsAdminTurn (admins.settles_by decl m epoch shuts questions o).turn
      by (Some q) = tells_well (replies.InDoubt q.tx q.site) refl tt
      by None = decides_well (decision epoch shuts questions) (map (λ (s : ShutSite). s.site) shuts)

  asks_well : (epoch : ℕ) (shuts : List ShutSite) (questions : List Question)
      → IsAdminTurn (admins.asks decl m epoch shuts questions).turn
  asks_well epoch shuts questions = by (length questions == 0)
    where
      by : (b : Bool)
          → IsAdminTurn
          (cond b (admins.settles decl m epoch shuts questions)
          (admins_moved (admins.doing m (Asking epoch shuts questions))
          (sending (map (admins.ask_of decl) (take most_asks questions))))).turn
      by true = settles_well epoch shuts questions
      by false = sends_well (map (admins.ask_of decl) (take most_asks questions)) (asks_ask (take most_asks questions))

  closes_well : (epoch : ℕ) (calls : List Call) (round : RoundState) (shuts : List ShutSite)
      → IsAdminTurn (admins.closes decl m epoch calls round shuts).turn
  closes_well epoch calls round shuts = by (verdict round)
    where
      by : (v : Verdict) → IsAdminTurn (admins.closes_by decl m epoch calls round shuts v).turn
      by verdicts.Waiting = sends_well (map (admins.close_of epoch) (wanted round)) (closes_ask epoch (wanted round))
      by verdicts.Met =
          asks_well epoch (in_asked_order round.asked shuts) (questions_of (in_asked_order round.asked shuts))
      by (verdicts.Closed e site) = quiet_well
      by (verdicts.Clash tx site) = quiet_well
      by (verdicts.Short got need) = tells_well (replies.Quorum halves.Close got need) refl tt

  again_well : (o : Option EpochStart) → IsAdminTurn (admins.again decl m o).turn
  again_well None = tells_well (replies.Order m.epoch) refl tt
  again_well (Some d) = sends_well (admins.install_sends decl d) (installs_ask d (admins.all_sites decl))

  moves_well : (number : ℕ) → IsAdminTurn (admins.moves_to decl m number).turn
  moves_well number = by (number == m.epoch) (number == m.epoch + 1)
    where
      by : (x y : Bool)
          → IsAdminTurn
          (cond x (admins.again decl m m.decided)
          (cond y (admins.closes decl m number [] (admins.close_round decl m.epoch) [])
          (admins.replies_with m (replies.Order m.epoch)))).turn
      by true y = again_well m.decided
      by false true = closes_well number [] (admins.close_round decl m.epoch) []
      by false false = tells_well (replies.Order m.epoch) refl tt

  called_well : (command : Command) → IsAdminTurn (admins.called decl m command).turn
  called_well commands.Begin = quiet_well
  called_well (commands.Do object inv) = quiet_well
  called_well commands.Commit = quiet_well
  called_well commands.Abort = quiet_well
  called_well (commands.Epoch number) = moves_well number

  asking_well : (epoch : ℕ) (shuts : List ShutSite) (questions : List Question)
      → IsAdminTurn (admins.asking_takes decl m epoch shuts questions).turn
  asking_well epoch shuts questions = by (all_taken questions)
    where
      by : (b : Bool)
          → IsAdminTurn
          (cond b (admins.settles decl m epoch shuts questions)
          (admins_moved (admins.doing m (Asking epoch shuts questions)) quiet)).turn
      by true = settles_well epoch shuts questions
      by false = quiet_well

  installed_well : (closed awaited : List ℕ) (calls : List Call) (installed : List ℕ)
      → IsAdminTurn (admins.installed_by m closed awaited calls installed).turn
  installed_well closed awaited calls installed = by (length calls == 0)
    where
      by : (b : Bool)
          → IsAdminTurn
          (cond b (admins.replies_with m (replies.Moved (admins.site_set closed) (admins.site_set installed)))
          (admins_moved (admins.doing m (Installing closed awaited calls installed)) quiet)).turn
      by true = tells_well (replies.Moved (admins.site_set closed) (admins.site_set installed)) refl tt
      by false = quiet_well

  answered_well : (number : ℕ) (answer : Option Answer) → IsAdminTurn (admins.answered decl m number answer).turn
  answered_well number answer = by m.doing
    where
      closing : (epoch : ℕ) (calls : List Call) (round : RoundState) (shuts : List ShutSite) (o : Option ℕ)
          → IsAdminTurn (admins.closing_takes decl m epoch calls round shuts number answer o).turn
      closing epoch calls round shuts None = quiet_well
      closing epoch calls round shuts (Some site) =
          closes_well epoch (without_call calls number) (note round site (standing_of answer))
          (with_shut_of shuts site answer)

      installing : (closed awaited : List ℕ) (calls : List Call) (installed : List ℕ) (o : Option ℕ)
          → IsAdminTurn (admins.installing_takes m closed awaited calls installed number answer o).turn
      installing closed awaited calls installed None = quiet_well
      installing closed awaited calls installed (Some site) =
          installed_well closed awaited (without_call calls number) (with_installed installed site answer)

      by : (d : Doing) → IsAdminTurn (admins.answered_in decl m d number answer).turn
      by Resting = quiet_well
      by (Closing epoch calls round shuts) = closing epoch calls round shuts (site_called calls number)
      by (Asking epoch shuts questions) = asking_well epoch shuts (map (taken_for number (outcome_in answer)) questions)
      by (Installing closed awaited calls installed) =
          installing closed awaited calls installed (site_called calls number)

  heard_well : (message : Message) → IsAdminTurn (admins.heard decl m message).turn
  heard_well (messages.Request tx epoch life want) = quiet_well
  heard_well (messages.Answer to answer) = answered_well to (Some answer)
  heard_well (messages.Decision tx verdict) = quiet_well
  heard_well (messages.Inquiry tx) = quiet_well
  heard_well (messages.Ask tx) = quiet_well
  heard_well (messages.Close epoch) = quiet_well
  heard_well (messages.Install start) = quiet_well

  pub admin_written : (g : Input) → IsAdminTurn (admins.admin_takes decl m g).turn
  admin_written (inputs.Called command) = called_well command
  admin_written (inputs.Got e) = heard_well e.message
  admin_written (inputs.Lost number) = answered_well number None
