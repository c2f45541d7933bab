-- An actor that rises with no epoch without a plan writes and sends none.
use Rattle.std.proofs.Common.{[], ℕ, ◌-◌, Bool, true, false, cond, List, ◌∷◌, Option, inl, inr, sym, subst}
use Rattle.std.specs.Prelude.{fold, option_to_list}
use Rattle.std.specs.List.{AllByRecursion as Every}
use Rattle.qc_core.specs.Vocabulary.{ActorMove, IsLawfulWithFalls, actor_does, actor_rises, actor_sends, actor_takes}
use Rattle.qc_core.specs.Vocabulary.{by_admin, by_client, by_site, moved, new_actor, with_record}
use Rattle.qc_recover.specs.Vocabulary.{admin_rises, client_rises, site_rises}
use Rattle.qc_epoch.specs.Vocabulary.{new_admin}
use Rattle.laws_turns.proofs.SoundClients.{IsAskableDeed}
use Rattle.laws_due.proofs.AdminEpochs.{AdminMovePlanned, AdminPlanned, IsPlannedInput, admin_planned, input_planned}
use Rattle.laws_due.proofs.AdminEpochs.{new_admin_planned, risen_admin_planned, sent_planned}
use Rattle.qc_client.specs.Vocabulary.{client_takes, new_client}
use Rattle.qc_core.specs.declared.actor.Actor.{Actor}
use Rattle.qc_core.specs.declared.actor.Actor.TheVariants as actor
use Rattle.qc_core.proofs.PostsByTurns.{called_turn}
use Rattle.qc_core.proofs.Written.{client_written}
use Rattle.qc_decl.specs.Vocabulary.{is_client, is_site}
use Rattle.qc_decl.specs.declared.declaration.Declaration.{Declaration}
use Rattle.qc_msg.specs.declared.message.Message.{Message}
use Rattle.qc_msg.specs.declared.record.Record.{Record}
use Rattle.qc_msg.specs.declared.step.Input.{Input}
use Rattle.qc_msg.specs.declared.step.Input.TheVariants as inputs
use Rattle.qc_msg.specs.declared.turn.Appended.{Appended}
use Rattle.qc_msg.specs.declared.turn.Appended.TheVariants.{Done, Failed, Stopped}
use Rattle.qc_msg.specs.declared.turn.Turn.{Turn}
use Rattle.qc_msg.specs.Vocabulary.{Deed, Falls, Rises, Sends, Takes, Tells, Writes, first_epoch, quiet, sends_as}
use Rattle.qc_site.specs.Vocabulary.{new_site}
use Rattle.laws_due.specs.Vocabulary.{IsPlanned, IsRecordPlanned}
use Rattle.laws_due.proofs.Epochs.{DeedPlanned, SitePlanned, TakesPlanned, TellPlanned, TurnPlanned, says_nothing}
use Rattle.laws_due.proofs.Epochs.{takes_planned, takes_stay_planned}
use Rattle.laws_due.proofs.ClientEpochs.{client_takes_planned}
use Rattle.laws_due.proofs.Writing.{IsClientTurn, takes_turn}
use Rattle.laws_due.proofs.SiteRises.{rises_planned, rising_planned}

-- an actor over its deeds

abbrev ActorPlanned : Declaration → Actor → Type 0
ActorPlanned decl (actor.Site s) = SitePlanned decl s
ActorPlanned decl (actor.Client c) = Unit {0}
ActorPlanned decl (actor.Admin m) = AdminPlanned decl m
ActorPlanned decl actor.Down = Unit {0}

record MovePlanned (decl : Declaration) (m : ActorMove) : Type 0 where
  state : ActorPlanned decl m.actor
  pub turn : TurnPlanned decl m.turn

abbrev pub RisesOfPlanned : Declaration → Deed → Type 0
RisesOfPlanned decl (Takes given) = Unit {0}
RisesOfPlanned decl (Writes written) = Unit {0}
RisesOfPlanned decl (Sends number to message) = Unit {0}
RisesOfPlanned decl (Tells reply) = Unit {0}
RisesOfPlanned decl (Falls cause pending) = Unit {0}
RisesOfPlanned decl (Rises kept) = Every (IsRecordPlanned decl) kept

-- a client writes commits alone
client_writes : (decl : Declaration) (t : Turn) → IsClientTurn t → Every (IsRecordPlanned decl) (option_to_list t.write)
client_writes decl t (inl none) =
    subst (λ (w : Option Record). Every (IsRecordPlanned decl) (option_to_list w)) (sym none) tt
client_writes decl t (inr one) =
    subst (λ (w : Option Record). Every (IsRecordPlanned decl) (option_to_list w)) (sym one.write) (tt, tt)

actor_planned : (decl : Declaration) (v : Actor) (g : Input) → TakesPlanned decl g → IsPlannedInput decl g
    → ActorPlanned decl v → MovePlanned decl (actor_takes decl v g)
actor_planned decl (actor.Site s) g told asked w =
    record { state = takes_stay_planned decl s g told w; turn = takes_planned decl s g told w }
actor_planned decl (actor.Client c) g told asked w = record {
  state = tt;
  turn =
      record {
        sends = client_takes_planned decl c g;
        failed_sends = subst (TellPlanned decl) (sym (client_written decl c g).failed_sends) tt;
        writes = client_writes decl (client_takes decl c g).turn (takes_turn decl c g);
      };
}
actor_planned decl (actor.Admin m) g told asked w =
    let moves : AdminMovePlanned decl _ = admin_planned decl m w g asked in
    record { state = moves.state; turn = moves.turn }
actor_planned decl actor.Down (inputs.Called command) told asked w =
    record { state = tt; turn = record { sends = tt; failed_sends = tt; writes = tt } }
actor_planned decl actor.Down (inputs.Got e) told asked w = record { state = tt; turn = says_nothing decl }
actor_planned decl actor.Down (inputs.Lost number) told asked w = record { state = tt; turn = says_nothing decl }

sends_planned : (decl : Declaration) (v : Actor) (number to : ℕ) (message : Message) → ActorPlanned decl v
    → ActorPlanned decl (actor_sends v number to message)
sends_planned decl (actor.Site s) number to message w = w
sends_planned decl (actor.Client c) number to message w = tt
sends_planned decl (actor.Admin m) number to message w = sent_planned decl m w number to message
sends_planned decl actor.Down number to message w = tt

module _ (decl : Declaration) (first : IsPlanned decl first_epoch) where
  risen_planned : (a : ℕ) (kept : List Record) → Every (IsRecordPlanned decl) kept
      → MovePlanned decl (actor_rises decl a kept)
  risen_planned a kept all = at (is_site decl a) (is_client decl a)
    where
      at : (b c : Bool)
          → MovePlanned decl
          (cond b (by_site (site_rises decl a kept))
          (cond c (by_client (client_rises (a - decl.sites) kept)) (by_admin (admin_rises kept))))
      at true c = record { state = rises_planned decl first a kept all; turn = rising_planned decl a kept }
      at false true = record { state = tt; turn = record { sends = tt; failed_sends = tt; writes = (tt, tt) } }
      at false false =
          record {
            state = risen_admin_planned decl kept all;
            turn = record { sends = tt; failed_sends = tt; writes = (tt, tt) };
          }

  does_planned : (a : ℕ) (ds : List Deed) (m : ActorMove) → Every (DeedPlanned decl) ds → Every (RisesOfPlanned decl) ds
      → Every (IsAskableDeed decl a) ds → MovePlanned decl m → MovePlanned decl (fold (actor_does decl a) m ds)
  does_planned a [] m told all asked w = w
  does_planned a (Takes g ∷ ds) m told all asked w =
      does_planned a ds (actor_takes decl m.actor g) told.1 all.1 asked.1
      (actor_planned decl m.actor g told.0 (input_planned decl a g asked.0) w.state)
  does_planned a (Writes written ∷ ds) m told all asked w = does_planned a ds m told.1 all.1 asked.1 w
  does_planned a (Sends number to message ∷ ds) m told all asked w =
      does_planned a ds (record m { actor = actor_sends m.actor number to message }) told.1 all.1 asked.1
      (record { state = sends_planned decl m.actor number to message w.state; turn = w.turn })
  does_planned a (Tells reply ∷ ds) m told all asked w = does_planned a ds m told.1 all.1 asked.1 w
  does_planned a (Falls cause pending ∷ ds) m told all asked w =
      does_planned a ds (moved actor.Down quiet) told.1 all.1 asked.1 (record { state = tt; turn = says_nothing decl })
  does_planned a (Rises kept ∷ ds) m told all asked w =
      does_planned a ds (actor_rises decl a kept) told.1 all.1 asked.1 (risen_planned a kept all.0)

  new_planned : (a : ℕ) → ActorPlanned decl (new_actor decl a)
  new_planned a = at (is_site decl a) (is_client decl a)
    where
      at : (b c : Bool)
          → ActorPlanned decl
          (cond b (actor.Site (new_site a))
          (cond c (actor.Client (new_client (a - decl.sites))) (actor.Admin new_admin)))
      at true c = record { epoch = first; closed = tt }
      at false true = tt
      at false false = new_admin_planned decl

  lawful_turn : (a : ℕ) (ds : List Deed) (turn : Turn) → Every (DeedPlanned decl) ds → Every (RisesOfPlanned decl) ds
      → Every (IsAskableDeed decl a) ds → IsLawfulWithFalls decl a ds turn → TurnPlanned decl (with_record turn)
  lawful_turn a ds turn told all asked law =
      subst (TurnPlanned decl) (called_turn decl a ds turn law)
      (does_planned a ds (moved (new_actor decl a) quiet) told all asked
      (record { state = new_planned a; turn = says_nothing decl })).turn

  pub lawful_sends : (a : ℕ) (ds : List Deed) (turn : Turn) → Every (DeedPlanned decl) ds
      → Every (RisesOfPlanned decl) ds
      → Every (IsAskableDeed decl a) ds → IsLawfulWithFalls decl a ds turn
      → TellPlanned decl (sends_as turn.append turn)
  lawful_sends a ds turn told all asked law = sent_as turn.append (lawful_turn a ds turn told all asked law)
    where
      sent_as : (end : Appended) → TurnPlanned decl (with_record turn) → TellPlanned decl (sends_as end turn)
      sent_as Done planned = planned.sends
      sent_as Failed planned = planned.failed_sends
      sent_as Stopped planned = tt

  pub lawful_writes : (a : ℕ) (ds : List Deed) (turn : Turn) → Every (DeedPlanned decl) ds
      → Every (RisesOfPlanned decl) ds → Every (IsAskableDeed decl a) ds → IsLawfulWithFalls decl a ds turn
      → Every (IsRecordPlanned decl) (option_to_list turn.write)
  lawful_writes a ds turn told all asked law = (lawful_turn a ds turn told all asked law).writes
