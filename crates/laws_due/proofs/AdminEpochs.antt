-- The administrator closes, decides and installs epochs with plans alone, where he is asked for no others.
use Rattle.std.proofs.Common.{ℕ, ◌+◌, ◌==◌, nat_le, Bool, true, false, cond, List, [], ◌∷◌, length, map, take, Option}
use Rattle.std.proofs.Common.{Some, None, ◌&&◌, subst, sym}
use Rattle.std.specs.List.{AllByRecursion as Every}
use Rattle.qc_decl.specs.Vocabulary.{most_record_bytes}
use Rattle.qc_decl.specs.declared.declaration.Declaration.{Declaration}
use Rattle.laws_due.proofs.Epochs.{TellPlanned, TurnPlanned, says_nothing}
use Rattle.laws_due.specs.Vocabulary.{IsPlanned, IsRecordPlanned}
use Rattle.qc_epoch.specs.Vocabulary.{Admin, AdminMove, Asking, Closing, Doing, Installing, Question, Resting, ShutSite}
use Rattle.qc_epoch.specs.Vocabulary.{all_taken, decision, first_doubt, in_asked_order, most_asks, moved, new_admin}
use Rattle.qc_epoch.specs.Vocabulary.{outcome_in, questions_of, standing_of, taken_for, with_installed, with_shut_of}
use Rattle.qc_msg.specs.declared.payload.EpochStart.{EpochStart}
use Rattle.qc_epoch.specs.Conduct as admins
use Rattle.laws_turns.proofs.SoundClients.{IsAskableGiven}
use Rattle.qc_msg.specs.Vocabulary.{epoch_length, quiet, sending, site_called, without_call, Answered, answer_in}
use Rattle.qc_msg.specs.Vocabulary.{epoch_in, request_in, wants_answer}
use Rattle.qc_msg.specs.declared.call.Call.{Call}
use Rattle.qc_msg.specs.declared.message.Answer.{Answer}
use Rattle.qc_msg.specs.declared.message.Message.{Message}
use Rattle.qc_msg.specs.declared.record.Record.{Record}
use Rattle.qc_msg.specs.declared.record.Record.TheVariants as records
use Rattle.qc_msg.specs.declared.reply.Half.TheVariants as halves
use Rattle.qc_msg.specs.declared.reply.Reply.{Reply}
use Rattle.qc_msg.specs.declared.reply.Reply.TheVariants as replies
use Rattle.qc_msg.specs.declared.step.Command.{Command}
use Rattle.qc_msg.specs.declared.step.Input.{Input}
use Rattle.qc_msg.specs.declared.step.Input.TheVariants as inputs
use Rattle.qc_plan.specs.Vocabulary.{RoundState, note, verdict, wanted}
use Rattle.qc_plan.specs.declared.standing.Verdict.{Verdict}
use Rattle.qc_plan.specs.declared.standing.Verdict.TheVariants as verdicts
use Rattle.qc_recover.specs.Vocabulary.{admin_by}
use Rattle.qc_recover.specs.Admins.{keeps, kept_by}
use Rattle.std.specs.Prelude.{◌++◌, fold, MatchOption, is_none}
use Rattle.laws_turns.proofs.ReadingCases.{mapped, mapped_by}
use Rattle.laws_turns.proofs.ClientCases.{command_cases}
use Rattle.qc_list.proofs.Booleans.{if_two}

-- what he is asked for

abbrev pub IsPlannedCommand : Declaration → Command → Type 0
IsPlannedCommand decl command = MatchOption (epoch_in command) (Unit {0}) (IsPlanned decl)

abbrev pub IsPlannedInput : Declaration → Input → Type 0
IsPlannedInput decl (inputs.Called command) = IsPlannedCommand decl command
IsPlannedInput decl (inputs.Got e) = Unit {0}
IsPlannedInput decl (inputs.Lost number) = Unit {0}

command_planned : (decl : Declaration) (a : ℕ) (command : Command) → IsAskableGiven decl a (inputs.Called command)
    → IsPlannedCommand decl command
command_planned decl a command is =
    command_cases (λ (c : Command). IsAskableGiven decl a (inputs.Called c) → IsPlannedCommand decl c)
    (λ c none asked. subst (λ (o : Option ℕ). MatchOption o (Unit {0}) (IsPlanned decl)) (sym none) tt)
    (λ number asked. asked.1) command is

pub input_planned : (decl : Declaration) (a : ℕ) (g : Input) → IsAskableGiven decl a g → IsPlannedInput decl g
input_planned decl a (inputs.Called command) is = command_planned decl a command is
input_planned decl a (inputs.Got e) is = tt
input_planned decl a (inputs.Lost number) is = tt

-- his epochs

abbrev pub DecidedPlanned : Declaration → Option EpochStart → Type 0
DecidedPlanned decl None = Unit {0}
DecidedPlanned decl (Some d) = IsPlanned decl d.epoch

abbrev DoingPlanned : Declaration → Doing → Type 0
DoingPlanned decl Resting = Unit {0}
DoingPlanned decl (Closing epoch calls round shuts) = IsPlanned decl epoch
DoingPlanned decl (Asking epoch shuts questions) = IsPlanned decl epoch
DoingPlanned decl (Installing closed awaited calls installed) = Unit {0}

pub record AdminPlanned (decl : Declaration) (m : Admin) : Type 0 where
  pub decided : DecidedPlanned decl m.decided
  pub doing : DoingPlanned decl m.doing

pub record AdminMovePlanned (decl : Declaration) (move : AdminMove) : Type 0 where
  pub state : AdminPlanned decl move.admin
  pub turn : TurnPlanned decl move.turn

pub new_admin_planned : (decl : Declaration) → AdminPlanned decl new_admin
new_admin_planned decl = record { decided = tt; doing = tt }

-- what he sends

installs_planned : (decl : Declaration) (d : EpochStart) (sites : List ℕ) → IsPlanned decl d.epoch
    → TellPlanned decl (map (admins.install_of d) sites)
installs_planned decl d [] planned = tt
installs_planned decl d (site ∷ sites) planned = (planned, installs_planned decl d sites planned)

closes_planned : (decl : Declaration) (epoch : ℕ) (sites : List ℕ) → IsPlanned decl epoch
    → TellPlanned decl (map (admins.close_of epoch) sites)
closes_planned decl epoch [] planned = tt
closes_planned decl epoch (site ∷ sites) planned = (planned, closes_planned decl epoch sites planned)

asks_planned : (decl : Declaration) (qs : List Question) → TellPlanned decl (map (admins.ask_of decl) qs)
asks_planned decl [] = tt
asks_planned decl (q ∷ qs) = (tt, asks_planned decl qs)

-- each input

module _ (decl : Declaration) (m : Admin) (w : AdminPlanned decl m) where
  stays : AdminMovePlanned decl (moved m quiet)
  stays = record { state = w; turn = says_nothing decl }

  tells : (reply : Reply) → AdminMovePlanned decl (admins.replies_with m reply)
  tells reply = record {
    state = record { decided = w.decided; doing = tt };
    turn = record { sends = tt; failed_sends = tt; writes = tt };
  }

  decides : (d : EpochStart) (closed : List ℕ) → IsPlanned decl d.epoch
      → AdminMovePlanned decl (admins.decides decl m d closed)
  decides d closed planned = by (nat_le (epoch_length d.lines) most_record_bytes)
    where
      by : (b : Bool) → AdminMovePlanned decl (cond b
          (moved (record { epoch = d.epoch; decided = Some d; doing = admins.installing decl closed })
          (admins.decide_turn decl d)) (admins.replies_with m replies.Fault))
      by true = record {
        state = record { decided = planned; doing = tt };
        turn = record {
          sends = installs_planned decl d (admins.all_sites decl) planned;
          failed_sends = tt;
          writes = (planned, tt);
        };
      }
      by false = tells replies.Fault

  settles : (epoch : ℕ) (shuts : List ShutSite) (questions : List Question) → IsPlanned decl epoch
      → AdminMovePlanned decl (admins.settles decl m epoch shuts questions)
  settles epoch shuts questions planned = by (first_doubt questions)
    where
      by : (o : Option Question) → AdminMovePlanned decl (admins.settles_by decl m epoch shuts questions o)
      by (Some q) = tells (replies.InDoubt q.tx q.site)
      by None = decides (decision epoch shuts questions) (map (λ (s : ShutSite). s.site) shuts) planned

  asks : (epoch : ℕ) (shuts : List ShutSite) (questions : List Question) → IsPlanned decl epoch
      → AdminMovePlanned decl (admins.asks decl m epoch shuts questions)
  asks epoch shuts questions planned = by (length questions == 0)
    where
      by : (b : Bool) → AdminMovePlanned decl (cond b (admins.settles decl m epoch shuts questions)
          (moved (admins.doing m (Asking epoch shuts questions))
          (sending (map (admins.ask_of decl) (take most_asks questions)))))
      by true = settles epoch shuts questions planned
      by false = record {
        state = record { decided = w.decided; doing = planned };
        turn = record { sends = asks_planned decl (take most_asks questions); failed_sends = tt; writes = tt };
      }

  closes : (epoch : ℕ) (calls : List Call) (round : RoundState) (shuts : List ShutSite) → IsPlanned decl epoch
      → AdminMovePlanned decl (admins.closes decl m epoch calls round shuts)
  closes epoch calls round shuts planned = by (verdict round)
    where
      by : (v : Verdict) → AdminMovePlanned decl (admins.closes_by decl m epoch calls round shuts v)
      by verdicts.Waiting = record {
        state = record { decided = w.decided; doing = planned };
        turn = record { sends = closes_planned decl epoch (wanted round) planned; failed_sends = tt; writes = tt };
      }
      by verdicts.Met = asks epoch (in_asked_order round.asked shuts)
          (questions_of (in_asked_order round.asked shuts)) planned
      by (verdicts.Closed e site) = stays
      by (verdicts.Clash tx site) = stays
      by (verdicts.Short got need) = tells (replies.Quorum halves.Close got need)

  again : (o : Option EpochStart) → DecidedPlanned decl o → AdminMovePlanned decl (admins.again decl m o)
  again None planned = tells (replies.Order m.epoch)
  again (Some d) planned = record {
    state = record { decided = w.decided; doing = tt };
    turn = record { sends = installs_planned decl d (admins.all_sites decl) planned; failed_sends = tt; writes = tt };
  }

  moves_to : (number : ℕ) → IsPlanned decl number → AdminMovePlanned decl (admins.moves_to decl m number)
  moves_to number planned = by (number == m.epoch) (number == m.epoch + 1)
    where
      by : (x y : Bool) → AdminMovePlanned decl
          (cond x (admins.again decl m m.decided) (cond y
          (admins.closes decl m number [] (admins.close_round decl m.epoch) [])
          (admins.replies_with m (replies.Order m.epoch))))
      by true y = again m.decided w.decided
      by false true = closes number [] (admins.close_round decl m.epoch) [] planned
      by false false = tells (replies.Order m.epoch)

  called : (command : Command) → IsPlannedCommand decl command → AdminMovePlanned decl (admins.called decl m command)
  called command planned =
      mapped_by (AdminMovePlanned decl) (admins.moves_to decl m) (moved m quiet) (Unit {0}) (IsPlanned decl)
      (epoch_in command) moves_to (λ u. stays) planned

  asking : (epoch : ℕ) (shuts : List ShutSite) (questions : List Question) → IsPlanned decl epoch
      → AdminMovePlanned decl (admins.asking_takes decl m epoch shuts questions)
  asking epoch shuts questions planned = by (all_taken questions)
    where
      by : (b : Bool) → AdminMovePlanned decl (cond b (admins.settles decl m epoch shuts questions)
          (moved (admins.doing m (Asking epoch shuts questions)) quiet))
      by true = settles epoch shuts questions planned
      by false = record { state = record { decided = w.decided; doing = planned }; turn = says_nothing decl }

  installed : (closed awaited : List ℕ) (calls : List Call) (sites : List ℕ)
      → AdminMovePlanned decl (admins.installed_by m closed awaited calls sites)
  installed closed awaited calls sites = by (length calls == 0)
    where
      by : (b : Bool) → AdminMovePlanned decl (cond b
          (admins.replies_with m (replies.Moved (admins.site_set closed) (admins.site_set sites)))
          (moved (admins.doing m (Installing closed awaited calls sites)) quiet))
      by true = tells (replies.Moved (admins.site_set closed) (admins.site_set sites))
      by false = record { state = record { decided = w.decided; doing = tt }; turn = says_nothing decl }

  answered : (number : ℕ) (answer : Option Answer) → AdminMovePlanned decl (admins.answered decl m number answer)
  answered number answer = by m.doing w.doing
    where
      closing : (epoch : ℕ) (calls : List Call) (round : RoundState) (shuts : List ShutSite) (o : Option ℕ)
          → IsPlanned decl epoch → AdminMovePlanned decl
          (admins.closing_takes decl m epoch calls round shuts number answer o)
      closing epoch calls round shuts None planned = stays
      closing epoch calls round shuts (Some site) planned =
          closes epoch (without_call calls number) (note round site (standing_of answer))
          (with_shut_of shuts site answer) planned

      installing : (closed awaited : List ℕ) (calls : List Call) (sites : List ℕ) (o : Option ℕ)
          → AdminMovePlanned decl (admins.installing_takes m closed awaited calls sites number answer o)
      installing closed awaited calls sites None = stays
      installing closed awaited calls sites (Some site) =
          installed closed awaited (without_call calls number) (with_installed sites site answer)

      by : (d : Doing) → DoingPlanned decl d → AdminMovePlanned decl (admins.answered_in decl m d number answer)
      by Resting planned = stays
      by (Closing epoch calls round shuts) planned = closing epoch calls round shuts (site_called calls number) planned
      by (Asking epoch shuts questions) planned =
          asking epoch shuts (map (taken_for number (outcome_in answer)) questions) planned
      by (Installing closed awaited calls sites) planned =
          installing closed awaited calls sites (site_called calls number)

  heard : (message : Message) → AdminMovePlanned decl (admins.heard decl m message)
  heard message =
      mapped (AdminMovePlanned decl) (λ (a : Answered). admins.answered decl m a.to (Some a.answer)) (moved m quiet)
      (answer_in message) (λ a. answered a.to (Some a.answer)) stays

  pub admin_planned : (g : Input) → IsPlannedInput decl g → AdminMovePlanned decl (admins.admin_takes decl m g)
  admin_planned (inputs.Called command) planned = called command planned
  admin_planned (inputs.Got e) planned = heard e.message
  admin_planned (inputs.Lost number) planned = answered number None

  -- a message of his own is sent under its number

  requested_planned : (d : Doing) (number to : ℕ) → DoingPlanned decl d
      → DoingPlanned decl (admins.requested d number to)
  requested_planned Resting number to planned = tt
  requested_planned (Closing epoch calls round shuts) number to planned = planned
  requested_planned (Asking epoch shuts questions) number to planned = planned
  requested_planned (Installing closed awaited calls sites) number to planned = tt

  pub sent_planned : (number to : ℕ) (message : Message) → AdminPlanned decl (admins.sent_one m number to message)
  sent_planned number to message =
      if_two (AdminPlanned decl) (wants_answer message && is_none (request_in message))
      (admins.doing m (admins.requested m.doing number to)) m
      (record { decided = w.decided; doing = requested_planned m.doing number to w.doing }) w

-- he rises with the last decision of his records

keeps_planned : (decl : Declaration) (k : Option EpochStart) (r : Record) → IsRecordPlanned decl r
    → DecidedPlanned decl k → DecidedPlanned decl (keeps k r)
keeps_planned decl k records.Life planned w = w
keeps_planned decl k (records.Prepare p) planned w = w
keeps_planned decl k (records.Done tx clock) planned w = w
keeps_planned decl k (records.Close epoch) planned w = w
keeps_planned decl k (records.Install start) planned w = w
keeps_planned decl k (records.Commit commit) planned w = w
keeps_planned decl k (records.Decide start) planned w = planned

kept_planned : (decl : Declaration) (k : Option EpochStart) (rs : List Record) → Every (IsRecordPlanned decl) rs
    → DecidedPlanned decl k → DecidedPlanned decl (fold keeps k rs)
kept_planned decl k [] planned w = w
kept_planned decl k (r ∷ rs) planned w = kept_planned decl (keeps k r) rs planned.1 (keeps_planned decl k r planned.0 w)

with_life : (decl : Declaration) (rs : List Record) → Every (IsRecordPlanned decl) rs
    → Every (IsRecordPlanned decl) (rs ++ records.Life ∷ [])
with_life decl [] planned = (tt, tt)
with_life decl (r ∷ rs) planned = (planned.0, with_life decl rs planned.1)

pub risen_admin_planned : (decl : Declaration) (rs : List Record) → Every (IsRecordPlanned decl) rs
    → AdminPlanned decl (admin_by (kept_by (rs ++ records.Life ∷ [])))
risen_admin_planned decl rs planned = record
    { decided = kept_planned decl None (rs ++ records.Life ∷ []) (with_life decl rs planned) tt; doing = tt }
