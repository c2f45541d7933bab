-- The administrator's Closes and Installs go to sites, and each Ask to the client of its transaction, whatever he
-- takes.
use Rattle.std.proofs.Common.{◌≡◌, ℕ, ◌+◌, ◌-◌, ◌<◌, ◌≤◌, ◌==◌, Bool, true, false, cond, List, [], ◌∷◌, length, map}
use Rattle.std.proofs.Common.{take, Option, Some, None, refl, arith, ◌&&◌}
use Rattle.std.specs.Prelude.{nat_le, slice_get, MatchOption, is_none}
use Rattle.std.specs.List.{AllByRecursion as Every}
use Rattle.qc_decl.specs.Vocabulary.{IsAccepted, client_actor, most_record_bytes, plan_in}
use Rattle.qc_decl.specs.declared.declaration.Declaration.{Declaration}
use Rattle.qc_epoch.specs.Vocabulary.{Admin, AdminMove, Asking, Closing, Doing, Installing, Question, Resting, ShutSite}
use Rattle.qc_epoch.specs.Vocabulary.{admin_takes, all_taken, decision, doing, first_doubt, in_asked_order, most_asks}
use Rattle.qc_epoch.specs.Vocabulary.{outcome_in, questions_of, requested, sent_one, standing_of, taken_for}
use Rattle.qc_epoch.specs.Vocabulary.{with_installed, with_shut_of}
use Rattle.qc_msg.specs.declared.payload.EpochStart.{EpochStart}
use Rattle.qc_epoch.specs.Admin as epochs
use Rattle.qc_epoch.specs.Conduct as conduct
use Rattle.laws_turns.proofs.DeclaredSites.{AreSites, asking_rest, sites_cyclic, sites_filter, sites_range}
use Rattle.laws_turns.proofs.DeclaredSites.{wanted_sites}
use Rattle.qc_msg.specs.Vocabulary.{epoch_length, quiet, sending, site_called, without_call, Answered, Requested}
use Rattle.qc_msg.specs.Vocabulary.{answer_in, asking_in, closing_in, epoch_in, installing_in, request_in, wants_answer}
use Rattle.qc_msg.specs.declared.call.Call.{Call}
use Rattle.qc_msg.specs.declared.message.Answer.{Answer}
use Rattle.qc_msg.specs.declared.message.Message.{Message}
use Rattle.qc_msg.specs.declared.reply.Reply.TheVariants as replies
use Rattle.qc_msg.specs.declared.step.Command.{Command}
use Rattle.qc_msg.specs.declared.step.Input.{Input}
use Rattle.qc_msg.specs.declared.step.Input.TheVariants as inputs
use Rattle.qc_msg.specs.declared.turn.Posting.{Posting}
use Rattle.qc_plan.specs.Vocabulary.{RoundState, note, verdict, wanted}
use Rattle.qc_plan.specs.declared.plan.Plan.{Plan}
use Rattle.qc_plan.specs.declared.standing.Verdict.{Verdict}
use Rattle.qc_plan.specs.declared.standing.Verdict.TheVariants as verdicts
use Rattle.laws_turns.proofs.ReadingCases.{mapped}
use Rattle.qc_stamp.specs.declared.stamp.TxId.{TxId}
use Rattle.qc_list.proofs.Booleans.{if_two}

-- where a message of his goes

abbrev pub GoesWell : Declaration → ℕ → Message → Type 0
GoesWell decl to m =
    MatchOption (request_in m)
    (MatchOption (asking_in m)
    (MatchOption (closing_in m)
    (MatchOption (installing_in m) (Unit {0}) (λ (start : EpochStart). to < decl.sites))
    (λ (epoch : ℕ). to < decl.sites)) (λ (tx : TxId). to ≡ client_actor decl tx.client)) (λ (q : Requested). ⊥)

abbrev pub GoWell : Declaration → List Posting → Type 0
GoWell decl ps = Every (λ (p : Posting). GoesWell decl p.to p.message) ps

-- sites that a round is yet to ask are declared

abbrev pub IsSited : Declaration → Doing → Type 0
IsSited decl Resting = Unit {0}
IsSited decl (Closing epoch calls round shuts) = AreSites decl round.rest
IsSited decl (Asking epoch shuts questions) = Unit {0}
IsSited decl (Installing closed awaited calls installed) = Unit {0}

-- his moves

pub record Sited (decl : Declaration) (move : AdminMove) : Type 0 where
  pub state : IsSited decl move.admin.doing
  pub sends : GoWell decl move.turn.sends

module _ (decl : Declaration) (accepted : IsAccepted decl) where
  begins_sited : (epoch : ℕ) → AreSites decl (conduct.close_round decl epoch).rest
  begins_sited epoch = by (plan_in decl epoch) refl
    where
      at : (epoch : ℕ) (t : Bool) (p : Plan) → cond t None (slice_get decl.plans (epoch - 1)) ≡ Some p
          → length p.weights ≤ decl.sites
      at epoch true p never = absurd (let no : ⊥ = cc in no)
      at epoch false p there = let same : length p.weights ≡ decl.sites = (accepted.good (epoch - 1) p there).weights in
          omega arith

      by : (o : Option Plan) → plan_in decl epoch ≡ o → AreSites decl (conduct.close_round_by o).rest
      by None is = tt
      by (Some p) is = sites_filter decl _ _ (sites_cyclic decl (length p.weights) 0 (at epoch (epoch == 0) p is)
          (omega arith))

  closes_go : (epoch : ℕ) (sites : List ℕ) → AreSites decl sites → GoWell decl (map (conduct.close_of epoch) sites)
  closes_go epoch [] are = tt
  closes_go epoch (s ∷ sites) are = (are.0, closes_go epoch sites are.1)

  installs_go : (d : EpochStart) (sites : List ℕ) → AreSites decl sites → GoWell decl (map (conduct.install_of d) sites)
  installs_go d [] are = tt
  installs_go d (s ∷ sites) are = (are.0, installs_go d sites are.1)

  asks_go : (qs : List Question) → GoWell decl (map (conduct.ask_of decl) qs)
  asks_go [] = tt
  asks_go (q ∷ qs) = (refl, asks_go qs)

  all_go : (d : EpochStart) → GoWell decl (conduct.install_sends decl d)
  all_go d = installs_go d (conduct.all_sites decl) (sites_range decl 0 decl.sites (omega arith))

  module _ (m : Admin) where
    decides_sited : (d : EpochStart) (closed : List ℕ) → Sited decl (conduct.decides decl m d closed)
    decides_sited d closed = by (nat_le (epoch_length d.lines) most_record_bytes)
      where
        by : (b : Bool) → Sited decl (cond b (epochs.moved
            (record { epoch = d.epoch; decided = Some d; doing = conduct.installing decl closed })
            (conduct.decide_turn decl d)) (conduct.replies_with m replies.Fault))
        by true = record { state = tt; sends = all_go d }
        by false = record { state = tt; sends = tt }

    settles_sited : (epoch : ℕ) (shuts : List ShutSite) (questions : List Question)
        → Sited decl (conduct.settles decl m epoch shuts questions)
    settles_sited epoch shuts questions = by (first_doubt questions)
      where
        by : (o : Option Question) → Sited decl (conduct.settles_by decl m epoch shuts questions o)
        by None = decides_sited (decision epoch shuts questions) (map (λ (s : ShutSite). s.site) shuts)
        by (Some q) = record { state = tt; sends = tt }

    asks_sited : (epoch : ℕ) (shuts : List ShutSite) (questions : List Question)
        → Sited decl (conduct.asks decl m epoch shuts questions)
    asks_sited epoch shuts questions = by (length questions == 0)
      where
        by : (b : Bool) → Sited decl (cond b (conduct.settles decl m epoch shuts questions)
            (epochs.moved (doing m (Asking epoch shuts questions))
            (sending (map (conduct.ask_of decl) (take most_asks questions)))))
        by true = settles_sited epoch shuts questions
        by false = record { state = tt; sends = asks_go (take most_asks questions) }

    stays_sited : IsSited decl m.doing → Sited decl (epochs.moved m quiet)
    stays_sited state = record { state = state; sends = tt }

    closes_sited : (epoch : ℕ) (calls : List Call) (round : RoundState) (shuts : List ShutSite)
        → AreSites decl round.rest → IsSited decl m.doing → Sited decl (conduct.closes decl m epoch calls round shuts)
    closes_sited epoch calls round shuts rest state = by (verdict round)
      where
        by : (v : Verdict) → Sited decl (conduct.closes_by decl m epoch calls round shuts v)
        by verdicts.Waiting = record {
          state = asking_rest decl round (wanted round) rest;
          sends = closes_go epoch (wanted round) (wanted_sites decl round rest);
        }
        by verdicts.Met = asks_sited epoch (in_asked_order round.asked shuts)
            (questions_of (in_asked_order round.asked shuts))
        by (verdicts.Closed e site) = stays_sited state
        by (verdicts.Clash tx site) = stays_sited state
        by (verdicts.Short got need) = record { state = tt; sends = tt }

    called_sited : (command : Command) → IsSited decl m.doing → Sited decl (conduct.called decl m command)
    called_sited command state =
        mapped (Sited decl) (conduct.moves_to decl m) (epochs.moved m quiet) (epoch_in command)
        (λ number. by number (number == m.epoch) (number == m.epoch + 1)) (stays_sited state)
      where
        again : (o : Option EpochStart) → Sited decl (conduct.again decl m o)
        again None = record { state = tt; sends = tt }
        again (Some d) = record { state = tt; sends = all_go d }

        by : (number : ℕ) (b c : Bool) → Sited decl (cond b (conduct.again decl m m.decided)
            (cond c (conduct.closes decl m number [] (conduct.close_round decl m.epoch) [])
            (conduct.replies_with m (replies.Order m.epoch))))
        by number true c = again m.decided
        by number false true = closes_sited number [] (conduct.close_round decl m.epoch) [] (begins_sited m.epoch) state
        by number false false = record { state = tt; sends = tt }

    answered_sited : (number : ℕ) (answer : Option Answer) (x : Doing) → IsSited decl x → IsSited decl m.doing
        → Sited decl (conduct.answered_in decl m x number answer)
    answered_sited number answer Resting here state = stays_sited state
    answered_sited number answer (Closing epoch calls round shuts) here state = by (site_called calls number)
      where
        by : (o : Option ℕ) → Sited decl (conduct.closing_takes decl m epoch calls round shuts number answer o)
        by None = stays_sited state
        by (Some site) = closes_sited epoch (without_call calls number) (note round site (standing_of answer))
            (with_shut_of shuts site answer) here state
    answered_sited number answer (Asking epoch shuts questions) here state =
        by (all_taken (map (taken_for number (outcome_in answer)) questions))
      where
        by : (b : Bool) → Sited decl (cond b (conduct.settles decl m epoch shuts
            (map (taken_for number (outcome_in answer)) questions))
            (epochs.moved (doing m (Asking epoch shuts (map (taken_for number (outcome_in answer)) questions))) quiet))
        by true = settles_sited epoch shuts (map (taken_for number (outcome_in answer)) questions)
        by false = record { state = tt; sends = tt }
    answered_sited number answer (Installing closed awaited calls installed) here state = by (site_called calls number)
      where
        ends : (site : ℕ) (b : Bool) → Sited decl
            (cond b (conduct.replies_with m (replies.Moved (conduct.site_set closed)
            (conduct.site_set (with_installed installed site answer))))
            (epochs.moved (doing m (Installing closed awaited (without_call calls number)
            (with_installed installed site answer))) quiet))
        ends site true = record { state = tt; sends = tt }
        ends site false = record { state = tt; sends = tt }

        by : (o : Option ℕ) → Sited decl (conduct.installing_takes m closed awaited calls installed number answer o)
        by None = stays_sited state
        by (Some site) = ends site (length (without_call calls number) == 0)

    heard_sited : (message : Message) → IsSited decl m.doing → Sited decl (conduct.heard decl m message)
    heard_sited message state =
        mapped (Sited decl) (λ (a : Answered). conduct.answered decl m a.to (Some a.answer)) (epochs.moved m quiet)
        (answer_in message) (λ a. answered_sited a.to (Some a.answer) m.doing state state) (stays_sited state)

    pub takes_sited : (g : Input) → IsSited decl m.doing → Sited decl (admin_takes decl m g)
    takes_sited (inputs.Called command) state = called_sited command state
    takes_sited (inputs.Got envelope) state = heard_sited envelope.message state
    takes_sited (inputs.Lost number) state = answered_sited number None m.doing state state

    requested_sited : (x : Doing) (n to : ℕ) → IsSited decl x → IsSited decl (requested x n to)
    requested_sited Resting n to state = tt
    requested_sited (Closing epoch calls round shuts) n to state = state
    requested_sited (Asking epoch shuts questions) n to state = tt
    requested_sited (Installing closed awaited calls installed) n to state = tt

    pub sent_sited : (n to : ℕ) (message : Message) → IsSited decl m.doing
        → IsSited decl (sent_one m n to message).doing
    sent_sited n to message state =
        if_two (λ (x : Admin). IsSited decl x.doing) (wants_answer message && is_none (request_in message))
        (doing m (requested m.doing n to)) m (requested_sited m.doing n to state) state
