-- A client that waits has an open request. So where nothing is left to happen every command has ended, and a run of
-- which no phase is left is runs_are_whole.
use Rattle.std.proofs.Common.{◌≡◌, ℕ, ◌+◌, ◌-◌, ◌<◌, ◌≤◌, ◌&&◌, not, Bool, true, false, cond, List, [], ◌∷◌, length}
use Rattle.std.proofs.Common.{map, filter, Option, Some, None, is_some, slice_get, refl, sym, ap, ◌∙◌, arith}
use Rattle.std.specs.Prelude.{is_none, replicate}
use Rattle.std.specs.List.{list_all}
use Rattle.qc_decl.proofs.Clients.{client_within}
use Rattle.qc_client.specs.declared.client.Client.{Client}
use Rattle.qc_client.specs.Vocabulary.{client_after}
use Rattle.qc_commit.specs.declared.desk.Desk.{Desk}
use Rattle.qc_commit.specs.declared.desk.Voting.{Voting}
use Rattle.qc_core.specs.Vocabulary.{Acts, IsLawful, is_running}
use Rattle.qc_decl.specs.declared.declaration.Declaration.{Declaration}
use Rattle.qc_decl.specs.Vocabulary.{IsAccepted, actors, is_client}
use Rattle.qc_front.specs.Going as going
use Rattle.qc_front.proofs.Goes.{waits}
use Rattle.laws_turns.specs.Vocabulary.{ActsIn, AsksDeclared, IsClosed, IsQuiet, IsWhole, calls_of, replies_of}
use Rattle.laws_turns.specs.Calls as laws
use Rattle.laws_turns.proofs.Acted.{has_entry, actors_take_and_post_by_turns}
use Rattle.laws_turns.proofs.Busy.{clients_wait_while_commands_run}
use Rattle.laws_turns.proofs.Ends.{no_request_is_open_at_the_end}
use Rattle.laws_turns.proofs.Ordered.{calls_are_replied}
use Rattle.laws_turns.proofs.WholeLaw.{runs_without_commands_are_whole}
use Rattle.qc_msg.specs.declared.message.Answer.{Answer}
use Rattle.qc_msg.specs.Vocabulary.{Deed, Entry, deeds}
use Rattle.qc_promise.specs.Vocabulary.{Account, ClientRequest}
use Rattle.qc_script.specs.declared.script.Script.{Script}
use Rattle.qc_script.specs.Vocabulary.{controls_left, phase_of}
use Rattle.laws_due.specs.Vocabulary.{Holds, Ties, appends, call_of, calls_in, reads, rests, votes}
use Rattle.laws_due.proofs.Courses.{clients_hold, accounts_are_their_clients}
use Rattle.qc_list.proofs.Places.{replicate_at}

-- while a commit waits for votes, one of its requests is open

untaken_called : (qs : List ClientRequest) → list_all (λ (q : ClientRequest). is_some q.taken) qs ≡ false
    → calls_in qs ≡ [] → ⊥
untaken_called [] some none = let never : ⊥ = cc in never
untaken_called (q ∷ qs) some none = by q.taken some none (untaken_called qs)
  where
    by : (o : Option (Option Answer)) → (is_some o && list_all (λ (p : ClientRequest). is_some p.taken) qs) ≡ false
        → map call_of (cond (is_none o) (q ∷ filter (λ (p : ClientRequest). is_none p.taken) qs)
        (filter (λ (p : ClientRequest). is_none p.taken) qs)) ≡ []
        → (list_all (λ (p : ClientRequest). is_some p.taken) qs ≡ false → calls_in qs ≡ [] → ⊥) → ⊥
    by None some none more = let never : ⊥ = cc in never
    by (Some a) some none more = more some none

-- a client whose requests are all closed waits for nothing

module _ (decl : Declaration) (d : Account) (c : Client) (h : Holds decl c) where
  -- while no commit waits, its front end tells it
  front_rests : c.desk.voting ≡ None → laws.open_calls c ≡ [] → laws.is_waiting c ≡ false
  front_rests unvoted none = by (going.is_idle c.front.doing) refl
    where
      none_called : going.calls_in c.front.doing ≡ []
      none_called = sym (ap (λ (v : Option Voting). laws.calls_by v c.front.doing) unvoted) ∙ none

      waiting_is : laws.is_waiting c ≡ not (going.is_idle c.front.doing)
      waiting_is = ap (λ (v : Option Voting). laws.waits v c.front.doing) unvoted

      by : (idle : Bool) → going.is_idle c.front.doing ≡ idle → laws.is_waiting c ≡ false
      by true is = waiting_is ∙ ap not is
      by false is =
          let many : 0 < length (going.calls_in c.front.doing) = waits decl c.front h.front h.numbered is in
          let few : length (going.calls_in c.front.doing) ≡ 0 = ap length none_called in
          absurd (omega arith)

  tied_rests : Ties decl d c → laws.open_calls c ≡ [] → laws.is_waiting c ≡ false
  tied_rests (rests r) none = front_rests r.desk.voting none
  tied_rests (reads r) none = front_rests r.desk.voting none
  tied_rests (appends r) none = front_rests r.desk.voting none
  tied_rests (votes r) none =
      absurd (untaken_called d.requests r.waits
      (sym (ap (λ (desk : Desk). laws.calls_by desk.voting c.front.doing) r.desk) ∙ none))

pub clients_wait_only_for_requests : (decl : Declaration) (a : ℕ) → is_client decl a ≡ true → (ds : List Deed) (n : ℕ)
    → Acts decl a ds false n
    → laws.open_calls (client_after decl (a - decl.sites) ds).client ≡ []
    → laws.is_waiting (client_after decl (a - decl.sites) ds).client ≡ false
clients_wait_only_for_requests decl a client ds n acts =
    tied_rests decl _ (client_after decl (a - decl.sites) ds).client (clients_hold decl a client ds n acts)
    (accounts_are_their_clients decl a client ds n acts)

-- where nothing is left to happen

module _ (decl : Declaration) (script : Script) (accepted : IsAccepted decl) (asks : AsksDeclared decl script)
    (h : List Entry) (closed : IsClosed decl script h) (quiet : IsQuiet decl script h)
    (done : controls_left script h ≡ []) where
  second_true : (x y : Bool) → (x && y) ≡ true → y ≡ true
  second_true true y is = is
  second_true false y is = absurd (let never : ⊥ = cc in never)

  free : (a : ℕ) → is_client decl a ≡ true → slice_get (replicate (actors decl) false) a ≡ Some false
  free a client =
      let place : (t : Bool) × (slice_get (replicate (actors decl) false) a ≡ Some t) =
      has_entry (IsLawful decl) decl script h (replicate (actors decl) false) closed a (client_within decl a client) in
      place.1 ∙ ap (λ (t : Bool). Some t) (replicate_at (actors decl) a false place.0 place.1)

  pub commands_end : (a : ℕ) → is_client decl a ≡ true → is_running (deeds a [] h) ≡ false
  commands_end a client =
      let r : ActsIn decl a h false =
      actors_take_and_post_by_turns decl script h (replicate (actors decl) false) closed a false (free a client) in
      sym (clients_wait_while_commands_run decl script asks h (replicate (actors decl) false) closed a client
      (free a client))
      ∙ clients_wait_only_for_requests decl a client (deeds a [] h) r.above r.acts
      (no_request_is_open_at_the_end decl script accepted asks h closed quiet done a client)

  pub each_call_has_its_reply : (a : ℕ) → is_client decl a ≡ true → length (calls_of a h) ≡ length (replies_of a h)
  each_call_has_its_reply a client =
      let count : length (calls_of a h) ≡ length (replies_of a h) + 0 =
      calls_are_replied decl script h (replicate (actors decl) false) closed a
      ∙ ap (λ (t : Bool). length (replies_of a h) + cond t 1 0) (commands_end a client) in
      omega arith

  pub runs_are_whole : length script.phases ≤ phase_of h → IsWhole decl script h
  runs_are_whole = runs_without_commands_are_whole decl script accepted asks h closed quiet done commands_end
