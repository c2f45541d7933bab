-- In each run with falls whose rises fit, below the limit of steps, all that an actor's calls ask holds.
use Rattle.std.proofs.Common.{◌≡◌, ℕ, ◌+◌, ◌-◌, ◌^◌, ◌<◌, ◌≤◌, Bool, true, false, List, [], length, Some, slice_get}
use Rattle.std.proofs.Common.{sym, ap, ◌∙◌, subst, arith}
use Rattle.qc_list.specs.Vocabulary.{In}
use Rattle.qc_list.proofs.Members.{every-In, every-weaker}
use Rattle.qc_admin.specs.Vocabulary.{AdminFits, GivenFits, GoesToActors}
use Rattle.qc_admin.proofs.Fitting.{takes_fit}
use Rattle.qc_admin.proofs.Receivers.{turns_go_to_actors}
use Rattle.qc_client.specs.declared.client.Client.{Client}
use Rattle.qc_epoch.specs.Vocabulary.{Admin, admin_takes, most_asks}
use Rattle.qc_site.specs.Vocabulary.{site_takes}
use Rattle.qc_msg.specs.declared.turn.Posting.{Posting}
use Rattle.qc_client.specs.Vocabulary.{client_takes, promise_in}
use Rattle.qc_core.specs.declared.actor.Actor.{Actor}
use Rattle.qc_core.specs.declared.actor.Actor.TheVariants as actors_of
use Rattle.qc_core.specs.Vocabulary.{ActorFits, ActorMove, AsksFew, IsFrom, IsLawfulWithFalls, IsShort, MayTake}
use Rattle.qc_core.specs.Vocabulary.{actor_after, actor_takes, is_running, with_record}
use Rattle.qc_core.proofs.PostsByTurns.{called_turn}
use Rattle.qc_core.proofs.ClientLands.{lands}
use Rattle.qc_core.proofs.ClientReaches.{client_reach}
use Rattle.qc_core.proofs.ClientStands.{Lands, Stands}
use Rattle.qc_core.proofs.SiteReaches.{site_reach}
use Rattle.qc_decl.specs.Vocabulary.{IsAccepted, most_clients, most_sites, most_steps}
use Rattle.qc_decl.specs.declared.declaration.Declaration.{Declaration}
use Rattle.qc_fit.specs.Vocabulary.{greatest_clock, most_records}
use Rattle.qc_front.specs.Fits as rounds
use Rattle.qc_front.proofs.Fitting.{front_ends_fit as front_fits}
use Rattle.qc_link.specs.Vocabulary.{most_actors}
use Rattle.qc_msg.specs.declared.message.Envelope.{Envelope}
use Rattle.qc_msg.specs.declared.record.Record.{Record}
use Rattle.qc_msg.specs.declared.step.Input.{Input}
use Rattle.qc_msg.specs.declared.step.Input.TheVariants as inputs
use Rattle.qc_msg.specs.declared.turn.Turn.{Turn}
use Rattle.qc_msg.specs.Vocabulary.{Deed, Entry, deeds, mail}
use Rattle.qc_msg.proofs.GrownMail.{length-mail}
use Rattle.laws_turns.specs.Vocabulary.{MessageWithin}
use Rattle.qc_script.specs.Vocabulary.{RunsWithFalls}
use Rattle.qc_script.specs.declared.script.Script.{Script}
use Rattle.laws_bounds.specs.Vocabulary.{AllRiseFit, CountsWithin, IsBoundedWithFalls, IsFailedShort, IsTurnShort}
use Rattle.laws_bounds.specs.Vocabulary.{LivesWithin, StateWithin}
use Rattle.laws_bounds.proofs.CountBounds.{history_counts, history_lives}
use Rattle.laws_bounds.proofs.FailedSends.{failed_short}
use Rattle.laws_bounds.proofs.FitBounds.{rise_few, rise_within}
use Rattle.laws_bounds.proofs.Needs.{run_bounded}
use Rattle.laws_bounds.proofs.RunsFit.{known_in, run_fits}
use Rattle.laws_bounds.proofs.Standing.{IsOpen, IsReady, Known}
use Rattle.qc_core.proofs.ActorLaws.{input as after_takes}
use Rattle.qc_core.proofs.ActorFits.{few_sent}
use Rattle.laws_turns.proofs.Needs.{message_promise}

-- few sites are asked, before the numbers of a turn's messages are known as after

module _ (decl : Declaration) (accepted : IsAccepted decl) where
  round_few : (running : Bool) (c : Client) → Stands decl running c → rounds.AsksFew c.front.doing
  round_few running c st = (front_fits decl (record c.front { count = 0 }) accepted st.front (omega arith)).few

  -- an actor that is ready fits, where its clocks, its count and its life are below the ends
  ready_fits : (running : Bool) (v : Actor) (clock count life : ℕ) → clock < 2 ^ 63 → count < 2 ^ 32 - 1
      → life < 2 ^ 32 - 1 → IsReady decl running v → StateWithin clock v → CountsWithin count v → LivesWithin life v
      → ActorFits v
  ready_fits running (actors_of.Site s) clock count life low few short ready within counts lives =
      (let n : s.life ≤ life = lives in omega (arith, n, short))
  ready_fits running (actors_of.Client c) clock count life low few short ready within counts lives =
      let n : c.front.count ≤ count = counts in
      let f : c.front.clock.value ≤ clock = within.front.clock in
      let d : c.desk.clock.value ≤ clock = within.desk.clock in
      record {
        front = front_fits decl c.front accepted ready.stands.front (omega arith);
        clock = omega arith;
        desk = record { clock = omega arith; few = ready.stands.few };
      }
  ready_fits running (actors_of.Admin m) clock count life low few short ready within counts lives = ready.fits
  ready_fits running actors_of.Down clock count life low few short ready within counts lives = tt

  -- after an input it asked few sites, and its turn is short
  taken_few : (v : Actor) (ds : List Deed) (g : Input) → IsReady decl (is_running ds) v → MayTake ds g → GivenFits g
      → AsksFew (actor_takes decl v g).actor
  taken_few (actors_of.Site s) ds g ready may fits = tt
  taken_few (actors_of.Client c) ds g ready may fits =
      let on : Lands decl _ 0 (client_takes decl c g) =
      lands decl ds c g 0 accepted.has_site accepted.sites ready.stands may in
      few_sent (client_takes decl c g).client 0 on.stands.few (round_few _ _ on.stands)
  taken_few (actors_of.Admin m) ds g ready may fits = takes_fit decl m g accepted ready.fits fits
  taken_few actors_of.Down ds g ready may fits = tt

  few_enough : (turn : Turn) → IsShort turn → IsTurnShort turn
  few_enough turn short = record {
    receivers = short.receivers;
    few = (let few : length turn.sends ≤ 16 = short.few in omega arith);
  }

  admin_short : (m : Admin) (g : Input) → AdminFits m → GivenFits g → IsTurnShort (admin_takes decl m g).turn
  admin_short m g fits here =
      let goes : GoesToActors (admin_takes decl m g).turn = turns_go_to_actors decl m g accepted fits here in
      record {
        receivers =
            every-weaker (λ (p : Posting). p.to < most_sites + most_clients) (λ (p : Posting). p.to < most_actors)
            (λ p low. omega arith) (admin_takes decl m g).turn.sends goes.receivers;
        few = goes.few;
      }

  taken_short : (v : Actor) (running : Bool) (g : Input) → IsReady decl running v → IsFrom g → GivenFits g
      → IsTurnShort (actor_takes decl v g).turn
  taken_short (actors_of.Site s) running g ready from fits =
      few_enough (site_takes decl s g).turn (site_reach decl accepted s g from ready).turn
  taken_short (actors_of.Client c) running g ready from fits =
      few_enough (client_takes decl c g).turn (client_reach decl accepted c g from ready.stands.front ready.asked).turn
  taken_short (actors_of.Admin m) running g ready from fits = admin_short m g ready.fits fits
  taken_short actors_of.Down running (inputs.Called command) ready from fits =
      record { receivers = tt; few = omega arith }
  taken_short actors_of.Down running (inputs.Got e) ready from fits = record { receivers = tt; few = omega arith }
  taken_short actors_of.Down running (inputs.Lost number) ready from fits = record { receivers = tt; few = omega arith }

module _ (decl : Declaration) (script : Script) (fits : ℕ → List Record → Type 0) (h : List Entry)
    (open_inputs : List Bool) (run : RunsWithFalls (IsLawfulWithFalls decl) fits decl script h open_inputs) where
  bound_is : AllRiseFit decl h → IsBoundedWithFalls decl (greatest_clock + length h) h
  bound_is fit = run_bounded decl script fits h open_inputs run greatest_clock (rise_within decl h fit)

  pub promises : (e : Envelope) → AllRiseFit decl h → length h < most_steps → In e (mail h)
      → promise_in e.message < 2 ^ 63
  promises e fit short among =
      let low : promise_in e.message ≤ greatest_clock + length h =
      message_promise (greatest_clock + length h) e.message
      (every-In (λ (e : Envelope). MessageWithin (greatest_clock + length h) e.message) e (mail h)
      (bound_is fit).messages among) in
      omega arith

  module _ (accepted : IsAccepted decl) where
    module _ (fit : AllRiseFit decl h) (a : ℕ) where
      pub known_at : (t : Bool) → slice_get open_inputs a ≡ Some t → Known decl accepted a (deeds a [] h) t
      known_at = known_in decl script fits accepted h open_inputs run fit
          (run_fits decl script fits accepted h open_inputs run fit) a

      pub actor_fits : length h < most_steps → slice_get open_inputs a ≡ Some false
          → ActorFits (actor_after decl a (deeds a [] h)).actor
      actor_fits short free =
          ready_fits decl accepted (is_running (deeds a [] h)) (actor_after decl a (deeds a [] h)).actor
          (greatest_clock + length h) (length h) (most_records + 2 + length h) (omega arith) (omega arith) (omega arith)
          (known_at false free) ((bound_is fit).actors a).state (history_counts decl a h)
          (history_lives most_records decl a h (rise_few decl h fit))

      pub actor_asks_few : slice_get open_inputs a ≡ Some true → AsksFew (actor_after decl a (deeds a [] h)).actor
      actor_asks_few taken =
          let o : IsOpen decl accepted a (deeds a [] h) = known_at true taken in
          subst (λ (m : ActorMove). AsksFew m.actor)
          (sym (ap (actor_after decl a) o.is ∙ after_takes decl a o.before o.input))
          (taken_few decl accepted (actor_after decl a o.before).actor o.before o.input o.ready o.may o.fits)

      pub turn_short : (turn : Turn) → slice_get open_inputs a ≡ Some true
          → IsLawfulWithFalls decl a (deeds a [] h) turn → IsTurnShort turn
      turn_short turn taken law =
          let o : IsOpen decl accepted a (deeds a [] h) = known_at true taken in
          let same : (actor_takes decl (actor_after decl a o.before).actor o.input).turn ≡ with_record turn =
          ap (λ (m : ActorMove). m.turn)
          (sym (after_takes decl a o.before o.input) ∙ ap (actor_after decl a) (sym o.is))
          ∙ called_turn decl a (deeds a [] h) turn law in
          let short : IsTurnShort (with_record turn) =
          subst IsTurnShort same
          (taken_short decl accepted (actor_after decl a o.before).actor
          (is_running o.before) o.input o.ready o.from o.fits) in
          record { receivers = short.receivers; few = short.few }

      pub turn_failed : (turn : Turn) → slice_get open_inputs a ≡ Some true
          → IsLawfulWithFalls decl a (deeds a [] h) turn → IsFailedShort turn
      turn_failed turn taken law =
          let o : IsOpen decl accepted a (deeds a [] h) = known_at true taken in
          let same : (actor_takes decl (actor_after decl a o.before).actor o.input).turn ≡ with_record turn =
          ap (λ (m : ActorMove). m.turn)
          (sym (after_takes decl a o.before o.input) ∙ ap (actor_after decl a) (sym o.is))
          ∙ called_turn decl a (deeds a [] h) turn law in
          let short : IsFailedShort (with_record turn) =
          subst IsFailedShort same (failed_short decl (actor_after decl a o.before).actor o.input o.from) in
          record { receivers = short.receivers; few = short.few }

pub numbers : (h : List Entry) → length h < most_steps → length (mail h) + most_asks < 2 ^ 32
numbers h short = (let low : length (mail h) ≤ length h = length-mail h in omega arith)
