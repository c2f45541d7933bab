-- Each client of a run with falls is as its deeds say, where it has an open input and where it has none; and with a
-- turn that has a commit record, this is due.
use Rattle.std.proofs.Common.{◌≡◌, ◌<◌, ◌≤◌, ◌-◌, ℕ, Bool, true, false, List, [], ◌∷◌, ◌++◌, Option, Some, slice_get}
use Rattle.std.proofs.Common.{sym, ap, ◌∙◌, subst, arith}
use Rattle.qc_decl.proofs.Clients.{client_below, client_past, client_within}
use Rattle.laws_due.proofs.Commands.{free_for}
use Rattle.laws_due.proofs.AccountDeclared.{scripts_ask_what_is_declared}
use Rattle.laws_due.proofs.Lifelong.{client_lives}
use Rattle.laws_due.proofs.Standing.{IsAt, IsAtInput, IsTied, Stands, account_is, account_more, actor_more, turn_is}
use Rattle.laws_due.proofs.Step.{inputs_are_answered_as_is_due}
use Rattle.laws_due.proofs.Writing.{IsClientTurn, takes_turn}
use Rattle.laws_due.specs.Vocabulary.{Declares, Goes}
use Rattle.laws_due.specs.ByRows as rows
use Rattle.qc_client.specs.Vocabulary.{client_takes}
use Rattle.qc_core.specs.Vocabulary.{ActorMove, IsLawfulWithFalls, actor_after, actor_takes, down_takes, with_record}
use Rattle.qc_decl.specs.Vocabulary.{IsAccepted, actors, administrator, client_actor, is_client}
use Rattle.qc_decl.specs.declared.declaration.Declaration.{Declaration}
use Rattle.laws_due.proofs.Declared.{run_declares}
use Rattle.laws_due.proofs.KeptPlanned.{what_rises_is_planned_where_records_are_kept}
use Rattle.qc_entry.specs.declared.record.Commit.{Commit as CommitRecord}
use Rattle.qc_link.specs.Vocabulary.{most_actors}
use Rattle.laws_turns.specs.Vocabulary.{LivesIn}
use Rattle.laws_turns.proofs.Lived.{actors_live_in_runs_with_falls, run_long}
use Rattle.qc_msg.specs.Vocabulary.{Deed, Entry, Takes, deeds, sends_of, tells_of, writes_of}
use Rattle.qc_msg.specs.declared.record.Record.{Record}
use Rattle.qc_msg.specs.declared.record.Record.TheVariants.{Commit}
use Rattle.qc_msg.specs.declared.step.Input.{Input}
use Rattle.qc_msg.specs.declared.step.Input.TheVariants as inputs
use Rattle.qc_msg.specs.declared.turn.Turn.{Turn}
use Rattle.qc_promise.specs.Vocabulary.{Account, IsRecordDue, Kept, account_taken, running_row}
use Rattle.qc_script.specs.Vocabulary.{IsScriptFor, RunsWithFalls}
use Rattle.qc_script.specs.declared.script.Script.{Script}
use Rattle.qc_list.proofs.Places.{some_at}

pub within : (decl : Declaration) (a : ℕ) → is_client decl a ≡ true → a < actors decl
within decl a client = client_within decl a client

module _ (fits : ℕ → List Record → Type 0) (decl : Declaration) (script : Script) (h : List Entry)
    (open_inputs : List Bool) (accepted : IsAccepted decl) (sound : IsScriptFor decl script)
    (run : RunsWithFalls (IsLawfulWithFalls decl) fits decl script h open_inputs) (kept : Kept h) where
  few : actors decl ≤ most_actors
  few = let s = accepted.sites in let c = accepted.clients in omega arith

  -- each client has an open input or none
  pub slot_of : (a : ℕ) → is_client decl a ≡ true → (t : Bool) × (slice_get open_inputs a ≡ Some t)
  slot_of a client = some_at open_inputs a
      (subst (λ (k : ℕ). a < k) (sym (run_long decl script fits few h open_inputs run)) (within decl a client))

  pub client_at : (a : ℕ) → is_client decl a ≡ true → (t : Bool) → slice_get open_inputs a ≡ Some t
      → IsAt decl a (deeds a [] h) t
  client_at a client t slot =
      let lived : LivesIn decl a h t = actors_live_in_runs_with_falls decl script fits few h open_inputs run a t slot in
      let declared : Declares decl (deeds a [] h) =
      run_declares decl script fits accepted (scripts_ask_what_is_declared decl script accepted sound) h open_inputs run
      (what_rises_is_planned_where_records_are_kept decl script fits accepted
      (scripts_ask_what_is_declared decl script accepted sound) h open_inputs
      run kept) a
      in
      client_lives decl a client declared.first (deeds a [] h) t lived.above lived.lives declared.deeds

-- the number of a client
pub record IsNumbered (decl : Declaration) (a : ℕ) : Type 0 where
  pub low : a - decl.sites < decl.clients
  pub is : a ≡ client_actor decl (a - decl.sites)

pub numbered : (decl : Declaration) (a : ℕ) → is_client decl a ≡ true → IsNumbered decl a
numbered decl a client =
    let above : decl.sites ≤ a = client_past decl a client in
    let below : a < administrator decl = client_below decl a client in
    record { low = omega arith; is = omega arith }

-- a turn with a commit record

-- the client was up and tied to its account before the input that it took; this is due now
pub record IsCommitting (decl : Declaration) (a : ℕ) (ds : List Deed) (c : CommitRecord) : Type 0 where
  pub before : List Deed
  pub input : Input
  pub is : ds ≡ before ++ Takes input ∷ []
  pub tied : IsTied decl a before
  pub turn : IsClientTurn (client_takes decl tied.state input).turn
  pub due : IsRecordDue (account_is decl a ds) (running_row decl (account_is decl a ds) false) (Commit c)

down_silent : (g : Input) (c : CommitRecord) → (down_takes g).write ≡ Some (Commit c) → ⊥
down_silent (inputs.Called command) c is = let never : ⊥ = cc in never
down_silent (inputs.Got envelope) c is = let never : ⊥ = cc in never
down_silent (inputs.Lost number) c is = let never : ⊥ = cc in never

module _ (decl : Declaration) (a : ℕ) (client : is_client decl a ≡ true) (ds : List Deed) (at : IsAtInput decl a ds)
    (turn : Turn) (law : IsLawfulWithFalls decl a ds turn) (c : CommitRecord)
    (writes : turn.write ≡ Some (Commit c)) where
  taken_is : (actor_takes decl (actor_after decl a at.before).actor at.given).turn ≡ with_record turn
  taken_is = ap (λ (m : ActorMove). m.turn)
      (sym (ap (actor_after decl a) at.is ∙ actor_more decl a at.before (Takes at.given ∷ [])))
      ∙ turn_is decl a client ds turn law

  account_now : account_is decl a ds ≡ account_taken (account_is decl a at.before) at.given
  account_now = ap (account_is decl a) at.is ∙ account_more decl a at.before (Takes at.given ∷ [])

  pub committing : IsCommitting decl a ds c
  committing = by at.rest.up at.rest.stands
    where
      by : (up : Bool) → Stands decl a up at.before → IsCommitting decl a ds c
      by true s =
          let goes : Goes decl 0 (account_taken (account_is decl a at.before) at.given)
          (client_takes decl s.state at.given) =
          inputs_are_answered_as_is_due decl 0 (account_is decl a at.before) s.state s.holds at.given
          (free_for decl (a - decl.sites) at.before at.given at.may) s.ties in
          let turn_then : (client_takes decl s.state at.given).turn ≡ with_record turn =
          ap (λ (v : _). (actor_takes decl v at.given).turn) (sym s.actor) ∙ taken_is in
          let due : rows.AreByRows decl (account_taken (account_is decl a at.before) at.given)
          (writes_of (Some (Commit c)) ++ (sends_of 0 (client_takes decl s.state at.given).turn.sends ++ tells_of
          (client_takes decl s.state at.given).turn.told)) =
          subst (λ (o : Option Record). rows.AreByRows decl (account_taken (account_is decl a at.before) at.given)
          (writes_of o ++ (sends_of 0 (client_takes decl s.state at.given).turn.sends ++ tells_of
          (client_takes decl s.state at.given).turn.told)))
          (ap (λ (t : Turn). t.write) turn_then ∙ writes) goes.due in
          record {
            before = at.before;
            input = at.given;
            is = at.is;
            tied = s;
            turn = takes_turn decl s.state at.given;
            due = subst (λ (d : Account). IsRecordDue d (running_row decl d false) (Commit c)) (sym account_now) due.0;
          }
      by false s = absurd (down_silent at.given c
          (ap (λ (t : Turn). t.write) (ap (λ (v : _). (actor_takes decl v at.given).turn) (sym s.actor) ∙ taken_is)
          ∙ writes))
