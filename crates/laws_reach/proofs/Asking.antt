-- An actor through its deeds: where what it takes tells of such transactions alone, and what it rises with promises for
-- these, it asks about no others, and promises for no others.
use Rattle.std.proofs.Common.{ℕ, Bool, true, false, List, [], ◌∷◌, fold, inl, inr, Option, Some, None, option_to_list}
use Rattle.std.proofs.Common.{sym, subst}
use Rattle.std.specs.Prelude.{MatchOption, ◌≡◌}
use Rattle.std.specs.List.{AllByRecursion as Every}
use Rattle.qc_client.specs.Vocabulary.{client_takes}
use Rattle.qc_client.specs.declared.client.Client.{Client}
use Rattle.qc_core.specs.declared.actor.Actor.{Actor}
use Rattle.qc_core.specs.declared.actor.Actor.TheVariants as actors
use Rattle.qc_core.specs.Vocabulary.{ActorMove, IsLawfulWithFalls, actor_does, actor_rises, actor_sends, actor_takes}
use Rattle.qc_core.specs.Vocabulary.{moved, new_actor, with_record}
use Rattle.qc_core.proofs.AdminTurns.{IsAdminTurn, IsOfAdmin, IsSentByAdmin, WritesDecision}
use Rattle.qc_core.proofs.AdminWrites.{admin_written}
use Rattle.qc_core.proofs.ByNumber.{new_by, rises_by}
use Rattle.qc_core.proofs.PostsByTurns.{called_turn}
use Rattle.qc_core.proofs.Written.{client_written}
use Rattle.qc_decl.specs.Vocabulary.{client_actor, is_client, is_site}
use Rattle.qc_decl.specs.declared.declaration.Declaration.{Declaration}
use Rattle.qc_epoch.specs.Vocabulary.{Admin, admin_takes}
use Rattle.qc_list.proofs.Members.{every-weaker}
use Rattle.qc_msg.specs.declared.message.Message.{Message}
use Rattle.qc_msg.specs.declared.record.Record.{Record}
use Rattle.qc_msg.specs.declared.record.Record.TheVariants as records
use Rattle.qc_msg.specs.declared.step.Input.{Input}
use Rattle.qc_msg.specs.declared.step.Input.TheVariants as inputs
use Rattle.qc_msg.specs.declared.turn.Appended.{Appended}
use Rattle.qc_msg.specs.declared.turn.Appended.TheVariants.{Done, Failed, Stopped}
use Rattle.qc_msg.specs.declared.turn.Posting.{Posting}
use Rattle.qc_msg.specs.declared.turn.Turn.{Turn}
use Rattle.qc_msg.specs.Vocabulary.{Deed, Falls, Rises, Sends, Takes, Tells, Writes, quiet, sends_as, inquiry_in}
use Rattle.qc_recover.specs.Vocabulary.{site_rises}
use Rattle.laws_turns.proofs.TurnsGoOn.{IsNoInquiry, NoInquiries}
use Rattle.laws_turns.proofs.SitesAsk.{GivenTells, HeldFor, PreparedFor}
use Rattle.laws_turns.proofs.MessageCases.{message_cases}
use Rattle.laws_turns.proofs.ReadingCases.{matched_by}
use Rattle.qc_stamp.specs.declared.stamp.TxId.{TxId}
use Rattle.laws_due.proofs.Writing.{IsClientTurn, takes_turn}
use Rattle.laws_reach.proofs.Changes.{input_changes}
use Rattle.laws_reach.proofs.SitesAsk.{AreAbout, IsAbout, PromisesFor, SiteAsks, TurnAsks, rises_ask, takes_ask}

module _ (decl : Declaration) (B : TxId → Type 0) where
  abbrev ActorAsks : Actor → Type 0
  ActorAsks (actors.Site s) = HeldFor decl B s.held × PreparedFor decl B s.prepared
  ActorAsks (actors.Client c) = Unit {0}
  ActorAsks (actors.Admin m) = Unit {0}
  ActorAsks actors.Down = Unit {0}

  record MoveAsks (m : ActorMove) : Type 0 where
    state : ActorAsks m.actor
    turn : TurnAsks decl B m.turn

  nothing : TurnAsks decl B quiet
  nothing = record { sends = tt; failed = tt; writes = tt }

  -- a client asks nobody

  no_inquiry : (to : ℕ) (message : Message) → IsNoInquiry message → IsAbout decl B to message
  no_inquiry to m none =
      matched_by (Unit {0}) (Unit {0}) (λ (tx : TxId). ⊥) (λ (tx : TxId). (to ≡ client_actor decl tx.client) × B tx)
      (inquiry_in m) (λ tx never. absurd never) (λ n. n) none

  none_about : (ps : List Posting) → NoInquiries ps → AreAbout decl B ps
  none_about ps none = every-weaker (λ (p : Posting). IsNoInquiry p.message)
      (λ (p : Posting). IsAbout decl B p.to p.message) (λ p. no_inquiry p.to p.message) ps none

  client_asks : (c : Client) (g : Input) → TurnAsks decl B (client_takes decl c g).turn
  client_asks c g = record {
    sends = none_about (client_takes decl c g).turn.sends (input_changes decl c g).asks;
    failed = subst (AreAbout decl B) (sym (client_written decl c g).failed_sends) tt;
    writes = by (takes_turn decl c g);
  }
    where
      by : IsClientTurn (client_takes decl c g).turn
          → Every (PromisesFor decl B) (option_to_list (client_takes decl c g).turn.write)
      by (inl none) = subst (λ (w : Option Record). Every (PromisesFor decl B) (option_to_list w)) (sym none) tt
      by (inr one) = subst (λ (w : Option Record). Every (PromisesFor decl B) (option_to_list w)) (sym one.write)
          (tt, tt)

  -- nor does the administrator, of whom nobody is promised anything

  admin_no_inquiry : (to : ℕ) (message : Message) → IsOfAdmin message → IsAbout decl B to message
  admin_no_inquiry to m is =
      message_cases
      (λ m request answer decision question. IsOfAdmin m
      → MatchOption question (Unit {0}) (λ (tx : TxId). (to ≡ client_actor decl tx.client) × B tx))
      (λ q never. tt) (λ a never. tt) (λ v never. tt) (λ tx never. absurd never) (λ m its. tt) m is

  no_promise : (w : Option Record) → WritesDecision w → Every (PromisesFor decl B) (option_to_list w)
  no_promise None is = tt
  no_promise (Some records.Life) is = absurd is
  no_promise (Some (records.Prepare p)) is = absurd is
  no_promise (Some (records.Done tx clock)) is = absurd is
  no_promise (Some (records.Close epoch)) is = absurd is
  no_promise (Some (records.Install start)) is = absurd is
  no_promise (Some (records.Commit commit)) is = absurd is
  no_promise (Some (records.Decide start)) is = (tt, tt)

  admin_asks : (m : Admin) (g : Input) → TurnAsks decl B (admin_takes decl m g).turn
  admin_asks m g =
      let w : IsAdminTurn (admin_takes decl m g).turn = admin_written decl m g in
      record {
        sends = every-weaker IsSentByAdmin (λ (p : Posting). IsAbout decl B p.to p.message)
            (λ p. admin_no_inquiry p.to p.message) (admin_takes decl m g).turn.sends w.sends;
        failed = subst (AreAbout decl B) (sym w.failed_sends) tt;
        writes = no_promise (admin_takes decl m g).turn.write w.writes;
      }

  -- each deed

  actor_asks : (v : Actor) (g : Input) → ActorAsks v → GivenTells decl B g → MoveAsks (actor_takes decl v g)
  actor_asks (actors.Site s) g all here = let a : SiteAsks decl B _ = takes_ask decl B s g all.0 all.1 here in
      record { state = (a.held, a.prepared); turn = a.turn }
  actor_asks (actors.Client c) g all here = record { state = tt; turn = client_asks c g }
  actor_asks (actors.Admin m) g all here = record { state = tt; turn = admin_asks m g }
  actor_asks actors.Down (inputs.Called command) all here =
      record { state = tt; turn = record { sends = tt; failed = tt; writes = tt } }
  actor_asks actors.Down (inputs.Got e) all here = record { state = tt; turn = nothing }
  actor_asks actors.Down (inputs.Lost number) all here = record { state = tt; turn = nothing }

  sent_asks : (v : Actor) (number to : ℕ) (message : Message) → ActorAsks v
      → ActorAsks (actor_sends v number to message)
  sent_asks (actors.Site s) number to message all = all
  sent_asks (actors.Client c) number to message all = tt
  sent_asks (actors.Admin m) number to message all = tt
  sent_asks actors.Down number to message all = tt

  risen_asks : (a : ℕ) (kept : List Record) → Every (PromisesFor decl B) kept → MoveAsks (actor_rises decl a kept)
  risen_asks a kept all = by (is_site decl a) (is_client decl a)
    where
      by : (site client : Bool) → MoveAsks (rises_by decl a kept site client)
      by true client = let r : SiteAsks decl B (site_rises decl a kept) = rises_ask decl B a kept all in
          record { state = (r.held, r.prepared); turn = r.turn }
      by false true = record { state = tt; turn = record { sends = tt; failed = tt; writes = (tt, tt) } }
      by false false = record { state = tt; turn = record { sends = tt; failed = tt; writes = (tt, tt) } }

  abbrev pub IsTold : Deed → Type 0
  IsTold (Takes g) = GivenTells decl B g
  IsTold (Writes written) = Unit {0}
  IsTold (Sends number to message) = Unit {0}
  IsTold (Tells reply) = Unit {0}
  IsTold (Falls cause pending) = Unit {0}
  IsTold (Rises kept) = Every (PromisesFor decl B) kept

  does_ask : (a : ℕ) (ds : List Deed) (m : ActorMove) → Every IsTold ds → MoveAsks m
      → MoveAsks (fold (actor_does decl a) m ds)
  does_ask a [] m all asks = asks
  does_ask a (Takes g ∷ ds) m all asks = does_ask a ds (actor_takes decl m.actor g) all.1
      (actor_asks m.actor g asks.state all.0)
  does_ask a (Writes written ∷ ds) m all asks = does_ask a ds m all.1 asks
  does_ask a (Sends number to message ∷ ds) m all asks =
      does_ask a ds (record m { actor = actor_sends m.actor number to message }) all.1
      (record { state = sent_asks m.actor number to message asks.state; turn = asks.turn })
  does_ask a (Tells reply ∷ ds) m all asks = does_ask a ds m all.1 asks
  does_ask a (Falls cause pending ∷ ds) m all asks =
      does_ask a ds (moved actors.Down quiet) all.1 (record { state = tt; turn = nothing })
  does_ask a (Rises kept ∷ ds) m all asks = does_ask a ds (actor_rises decl a kept) all.1 (risen_asks a kept all.0)

  new_asks : (a : ℕ) → ActorAsks (new_actor decl a)
  new_asks a = by (is_site decl a) (is_client decl a)
    where
      by : (site client : Bool) → ActorAsks (new_by decl a site client)
      by true client = (tt, tt)
      by false true = tt
      by false false = tt

  -- a lawful turn, whatever becomes of its record
  pub lawful_asks : (a : ℕ) (ds : List Deed) (turn : Turn) → Every IsTold ds → IsLawfulWithFalls decl a ds turn
      → TurnAsks decl B (with_record turn)
  lawful_asks a ds turn all law =
      subst (TurnAsks decl B) (called_turn decl a ds turn law)
      (does_ask a ds (moved (new_actor decl a) quiet) all (record { state = new_asks a; turn = nothing })).turn

  pub asks_as : (end : Appended) (turn : Turn) → TurnAsks decl B (with_record turn)
      → AreAbout decl B (sends_as end turn)
  asks_as Done turn asks = asks.sends
  asks_as Failed turn asks = asks.failed
  asks_as Stopped turn asks = tt
