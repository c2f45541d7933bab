-- A client without an open input waits just while a command of it runs, and only for a request that is open.
use Rattle.std.proofs.Common.{◌≡◌, ℕ, ◌≤◌, if◌then◌else◌, ◌⊎◌, Bool, true, false, inl, inr, List, [], ◌∷◌, map, filter}
use Rattle.std.proofs.Common.{Option, Some, None, refl, sym, ap, ◌∙◌, subst, slice_get}
use Rattle.std.specs.Prelude.{is_none}
use Rattle.qc_list.specs.Vocabulary.{In}
use Rattle.laws_due.specs.Vocabulary.{Holds, IsWaiting, NoneRuns, Ties, appends, call_of, reads, rests, votes}
use Rattle.laws_due.specs.Calls as accounts
use Rattle.laws_due.proofs.Awaits.{tied_waits}
use Rattle.qc_client.specs.declared.client.Client.{Client}
use Rattle.qc_commit.specs.declared.desk.Desk.{Desk}
use Rattle.qc_core.specs.declared.actor.Actor.TheVariants as actors
use Rattle.qc_core.specs.Vocabulary.{IsLawfulWithFalls, actor_after, is_running}
use Rattle.qc_decl.specs.Vocabulary.{is_client}
use Rattle.qc_decl.specs.Actors as numbers
use Rattle.qc_decl.specs.declared.declaration.Declaration.{Declaration}
use Rattle.laws_due.proofs.Commanded.{run_askable}
use Rattle.laws_turns.specs.Vocabulary.{AsksDeclared, LivesIn, calls_by, is_waiting, open_calls, waits}
use Rattle.qc_link.specs.Vocabulary.{most_actors}
use Rattle.laws_turns.proofs.Lived.{actors_live_in_runs_with_falls}
use Rattle.qc_msg.specs.declared.message.Answer.{Answer}
use Rattle.qc_msg.specs.declared.record.Record.{Record}
use Rattle.qc_msg.specs.Vocabulary.{Entry, deeds}
use Rattle.qc_promise.specs.Vocabulary.{Account, ClientRequest}
use Rattle.qc_script.specs.Vocabulary.{RunsWithFalls}
use Rattle.qc_script.specs.declared.script.Script.{Script}
use Rattle.laws_due.proofs.LifelongWithFalls.{client_lives, rests_up}
use Rattle.laws_due.proofs.Tied.{IsAtRest, IsTied}

-- a client that has no open request waits for nothing

called : (q : ClientRequest) (qs : List ClientRequest) → In q qs → q.taken ≡ None
    → In (call_of q) (accounts.calls_in qs)
called q [] member open_still = absurd member
called q (p ∷ qs) member open_still = by p.taken refl member (λ later. called q qs later open_still)
  where
    by : (o : Option (Option Answer)) → p.taken ≡ o → In q (p ∷ qs) → (In q qs → In (call_of q) (accounts.calls_in qs))
        → In (call_of q) (map call_of (if is_none o then p ∷ filter
        (λ (x : ClientRequest). is_none x.taken) qs else filter (λ (x : ClientRequest). is_none x.taken) qs))
    by None is (inl same) more = inl (ap call_of same)
    by None is (inr later) more = inr (more later)
    by (Some o) is (inl same) more = absurd (let no : None ≡ Some o = sym open_still
        ∙ ap (λ (x : ClientRequest). x.taken) same ∙ is in let never : ⊥ = cc in never)
    by (Some o) is (inr later) more = more later

module _ (decl : Declaration) (d : Account) (c : Client) (h : Holds decl c) where
  still_open : IsWaiting d → open_calls c ≡ accounts.calls_in d.requests → open_calls c ≡ [] → ⊥
  still_open w same none = subst (In (call_of w.request)) (sym same ∙ none)
      (called w.request d.requests w.among w.open_still)

  waiting_open : (ties : Ties decl d c) → (NoneRuns d.command → ⊥) → open_calls c ≡ accounts.calls_in d.requests
      → open_calls c ≡ [] → ⊥
  waiting_open ties runs same none = by (tied_waits decl d c h ties)
    where
      by : NoneRuns d.command ⊎ IsWaiting d → ⊥
      by (inl rest) = runs rest
      by (inr w) = still_open w same none

  pub tied_rests : Ties decl d c → open_calls c ≡ [] → is_waiting c ≡ false
  tied_rests (rests r) none = (λ i. waits (r.desk.voting i) (r.front i).doing)
  tied_rests (reads r) none = absurd (waiting_open (reads r) (λ none_runs. subst NoneRuns r.runs.command none_runs)
      (λ i. calls_by (r.desk.voting i) (r.front i).doing) none)
  tied_rests (appends r) none = absurd (waiting_open (appends r) (λ none_runs. subst NoneRuns r.runs.command none_runs)
      (λ i. calls_by (r.desk.voting i) (r.front i).doing) none)
  tied_rests (votes r) none = absurd (waiting_open (votes r) (λ none_runs. subst NoneRuns r.command none_runs)
      (ap (λ (desk : Desk). calls_by desk.voting c.front.doing) r.desk) none)

-- in each run

module _ (decl : Declaration) (script : Script) (fits : ℕ → List Record → Type 0)
    (few : numbers.actors decl ≤ most_actors) where
  abbrev IsRun : List Entry → List Bool → Type 0
  IsRun h open_inputs = RunsWithFalls (IsLawfulWithFalls decl) fits decl script h open_inputs

  -- whoever has no open input rests
  pub free_rests : (h : List Entry) (open_inputs : List Bool) → IsRun h open_inputs
      → (a : ℕ) (client : is_client decl a ≡ true) → slice_get open_inputs a ≡ Some false
      → IsAtRest decl a client (deeds a [] h)
  free_rests h open_inputs run a client free =
      let lived : LivesIn decl a h false =
      actors_live_in_runs_with_falls decl script fits few h open_inputs run a false free in
      client_lives decl a client (deeds a [] h) false lived.above lived.lives

  -- it waits while a command of it runs
  pub run_waits : AsksDeclared decl script → (h : List Entry) (open_inputs : List Bool) → IsRun h open_inputs → (a : ℕ)
      → is_client decl a ≡ true → slice_get open_inputs a ≡ Some false
      → (c : Client) → (actor_after decl a (deeds a [] h)).actor ≡ actors.Client c
      → is_waiting c ≡ is_running (deeds a [] h)
  run_waits asks h open_inputs run a client free c is =
      let s : (s : IsTied decl a client (deeds a [] h))
      × (s.state ≡ c) = rests_up decl a client (deeds a [] h) (free_rests h open_inputs run a client free) c is in
      ap is_waiting (sym s.1) ∙ s.0.busy (run_askable
      (IsLawfulWithFalls decl) fits decl script asks h open_inputs run a)
