-- What the calls of a client ask of clocks and counts, from the bounds of a history.
use Rattle.std.proofs.Common.{◌≡◌, ℕ, ◌+◌, ◌-◌, ◌^◌, ◌<◌, ◌≤◌, Bool, true, false, List, [], length, Some, slice_get}
use Rattle.std.proofs.Common.{arith}
use Rattle.std.specs.Option.{option_map_or}
use Rattle.qc_list.specs.Vocabulary.{In}
use Rattle.qc_list.proofs.Members.{every-In}
use Rattle.qc_decl.specs.Vocabulary.{IsAccepted, is_client, most_steps}
use Rattle.qc_decl.specs.declared.declaration.Declaration.{Declaration}
use Rattle.qc_client.specs.Vocabulary.{ClientFits, client_after, promise_in}
use Rattle.qc_msg.specs.declared.message.Envelope.{Envelope}
use Rattle.qc_msg.specs.declared.message.Message.{Message}
use Rattle.qc_msg.specs.declared.turn.Turn.{Turn}
use Rattle.qc_msg.specs.Vocabulary.{Deed, Entry, deeds, mail, Answered}
use Rattle.qc_msg.proofs.GrownMail.{length-mail}
use Rattle.qc_front.proofs.Fitting.{front_ends_fit}
use Rattle.qc_script.specs.Vocabulary.{Runs}
use Rattle.qc_script.specs.declared.script.Script.{Script}
use Rattle.qc_site.specs.Vocabulary.{site_after}
use Rattle.qc_core.specs.Vocabulary.{Acts, IsLawful, is_running}
use Rattle.qc_core.proofs.ActorSent.{known}
use Rattle.qc_core.proofs.ClientStands.{Stands}
use Rattle.qc_commit.specs.Vocabulary.{promised}
use Rattle.laws_turns.specs.Vocabulary.{ActsIn, ClockBounds, IsBounded, MessageWithin}
use Rattle.laws_turns.proofs.Acted.{actors_take_and_post_by_turns}
use Rattle.laws_turns.proofs.Events.{Events}
use Rattle.laws_turns.proofs.Bounding.{all_bounded, lawful_turn}
use Rattle.laws_turns.proofs.InRuns.{client_no_site, run_events}
use Rattle.laws_turns.proofs.Short.{IsClientShort, IsReadyFor, clients_short, sites_short}
use Rattle.laws_turns.proofs.DesksWithin.{promised-within}
use Rattle.laws_turns.proofs.MessageCases.{message_cases}

-- a client's clocks and its count
pub client_bounds : (decl : Declaration) (h : List Entry) (a : ℕ) → Events decl h
    → ClockBounds (length h) (client_after decl (a - decl.sites) (deeds a [] h)).client
client_bounds decl h a events =
    let b : IsBounded decl (length h) h = all_bounded decl h events in
    let w = b.clients a in
    record { count = w.client.front.count; front = w.client.front.clock; desk = w.client.desk.clock }

pub message_promise : (bound : ℕ) (message : Message) → MessageWithin bound message → promise_in message ≤ bound
message_promise bound message here =
    message_cases (λ m r a d i. MessageWithin bound m
    → option_map_or (λ (x : Answered). promised (Some x.answer)) a 0 ≤ bound)
    (λ q here. omega arith) (λ a here. promised-within bound (Some a.answer) here) (λ v here. omega arith)
    (λ tx here. omega arith) (λ m here. omega arith) message here

-- the promise that a message brings
pub promise_bounds : (decl : Declaration) (h : List Entry) (e : Envelope) → Events decl h → In e (mail h)
    → promise_in e.message ≤ length h
promise_bounds decl h e events among =
    let b : IsBounded decl (length h) h = all_bounded decl h events in
    message_promise (length h) e.message (every-In (λ (e : Envelope). MessageWithin (length h) e.message) e
    (mail h) b.messages among)

-- in every run

module _ (decl : Declaration) (script : Script) (h : List Entry) (open_inputs : List Bool)
    (run : Runs (IsLawful decl) decl script h open_inputs) where
  pub bounded : IsBounded decl (length h) h
  bounded = all_bounded decl h (run_events decl script h open_inputs run)

  pub clocks : (a : ℕ) → ClockBounds (length h) (client_after decl (a - decl.sites) (deeds a [] h)).client
  clocks a = client_bounds decl h a (run_events decl script h open_inputs run)

  pub promises : (e : Envelope) → In e (mail h) → promise_in e.message ≤ length h
  promises e among = promise_bounds decl h e (run_events decl script h open_inputs run) among

  stands : (a : ℕ) → IsAccepted decl → is_client decl a ≡ true → (before : List Deed) (n : ℕ)
      → Acts decl a before false n → IsReadyFor decl (client_after decl (a - decl.sites) before).client
  stands a accepted named before n acts =
      let s : Stands decl (is_running before) (client_after decl (a - decl.sites) before).client =
      known decl a before false n accepted.has_site accepted.sites (client_no_site decl a named) named acts in
      record { front = s.front; few = s.few }

  pub fitting : (a : ℕ) → IsAccepted decl → length h < most_steps → is_client decl a ≡ true
      → slice_get open_inputs a ≡ Some false → ClientFits (client_after decl (a - decl.sites) (deeds a [] h)).client
  fitting a accepted short named free =
      let turns : ActsIn decl a h false = actors_take_and_post_by_turns decl script h open_inputs run a false free in
      let r : IsReadyFor decl (client_after decl (a - decl.sites) (deeds a [] h)).client =
      stands a accepted named (deeds a [] h) turns.above turns.acts in
      let b : ClockBounds (length h) (client_after decl (a - decl.sites) (deeds a [] h)).client = clocks a in
      let count : (client_after decl (a - decl.sites) (deeds a [] h)).client.front.count ≤ length h = b.count in
      let front : (client_after decl (a - decl.sites) (deeds a [] h)).client.front.clock.value ≤ length h = b.front in
      let desk : (client_after decl (a - decl.sites) (deeds a [] h)).client.desk.clock.value ≤ length h = b.desk in
      record {
        front = front_ends_fit decl (client_after decl (a - decl.sites) (deeds a [] h)).client.front accepted r.front
            (omega arith);
        clock = omega arith;
        desk = record { clock = omega arith; few = r.few };
      }

  pub promise_fits : (e : Envelope) → length h < most_steps → In e (mail h) → promise_in e.message < 2 ^ 63
  promise_fits e short among = let low : promise_in e.message ≤ length h = promises e among in omega arith

  -- a turn that is posted next is short, and its messages have numbers
  pub turns_are_short : (a : ℕ) (turn : Turn) → IsAccepted decl → slice_get open_inputs a ≡ Some true
      → IsLawful decl a (deeds a [] h) turn → length turn.sends ≤ 16
  turns_are_short a turn accepted taken lawful =
      lawful_turn (λ (t : Turn). length t.sends ≤ 16) decl a (deeds a [] h) turn lawful
      (λ is. (let few : length (site_after decl a (deeds a [] h)).turn.sends ≤ 2 = sites_short decl a (deeds a [] h) in
      omega arith))
      (λ is named. (let turns : ActsIn decl a h true =
      actors_take_and_post_by_turns decl script h open_inputs run a true taken in
      let short : IsClientShort decl (client_after decl (a - decl.sites) (deeds a [] h)) =
      clients_short decl a accepted (stands a accepted named) (deeds a [] h) true turns.above turns.acts in
      short.few))

  pub numbers : length h < most_steps → length (mail h) + 16 < 2 ^ 32
  numbers short = let low : length (mail h) ≤ length h = length-mail h in omega arith
