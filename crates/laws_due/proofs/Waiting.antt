-- In each run with falls the account of a client without an open input tells that its command waits, and that nothing
-- is due.
use Rattle.std.proofs.Common.{◌≡◌, ◌⊎◌, ℕ, ◌≤◌, Bool, true, false, List, [], Some, None, inl, sym, subst, slice_get}
use Rattle.laws_due.specs.Vocabulary.{Declares, IsWaiting, NoneRuns}
use Rattle.laws_due.proofs.Awaits.{tied_waits}
use Rattle.laws_due.proofs.Fallings.{input_free}
use Rattle.laws_due.proofs.Lifelong as lives
use Rattle.qc_core.specs.Vocabulary.{IsLawfulWithFalls, is_running, is_up}
use Rattle.qc_decl.specs.Vocabulary.{actors, is_client}
use Rattle.qc_decl.specs.declared.declaration.Declaration.{Declaration}
use Rattle.qc_link.specs.Vocabulary.{most_actors}
use Rattle.laws_turns.specs.Vocabulary.{LivesIn}
use Rattle.laws_turns.proofs.Lived.{actors_live_in_runs_with_falls}
use Rattle.qc_msg.specs.declared.record.Record.{Record}
use Rattle.qc_msg.specs.declared.step.Input.TheVariants as inputs
use Rattle.qc_msg.specs.Vocabulary.{Entry, deeds}
use Rattle.qc_promise.specs.Vocabulary.{account, due}
use Rattle.qc_script.specs.Vocabulary.{RunsWithFalls}
use Rattle.qc_script.specs.declared.script.Script.{Script}
use Rattle.laws_due.proofs.LifelongWithFalls.{client_lives, none_runs_down, rests_down}
use Rattle.laws_due.proofs.Tied.{IsAtRest, Stands}

module _ (decl : Declaration) (script : Script) (fits : ℕ → List Record → Type 0) (few : actors decl ≤ most_actors)
    (h : List Entry) (open_inputs : List Bool)
    (run : RunsWithFalls (IsLawfulWithFalls decl) fits decl script h open_inputs) (a : ℕ)
    (client : is_client decl a ≡ true) (free : slice_get open_inputs a ≡ Some false) where
  lived : LivesIn decl a h false
  lived = actors_live_in_runs_with_falls decl script fits few h open_inputs run a false free

  rest : IsAtRest decl a client (deeds a [] h)
  rest = client_lives decl a client (deeds a [] h) false lived.above lived.lives

  pub commands_wait : NoneRuns (account decl a h).command ⊎ IsWaiting (account decl a h)
  commands_wait = by rest.up rest.stands
    where
      by : (up : Bool) → Stands decl a client up (deeds a [] h)
          → NoneRuns (account decl a h).command ⊎ IsWaiting (account decl a h)
      by true s = tied_waits decl (account decl a h) s.state s.holds s.ties
      by false s = inl (subst NoneRuns (sym s.command) tt)

  pub nothing_due : Declares decl (deeds a [] h) → due decl (account decl a h) false ≡ None
  nothing_due are = (input_free decl a client (deeds a [] h)
      (lives.client_lives decl a client are.first (deeds a [] h) false lived.above lived.lives are.deeds)
      (inputs.Lost 0) tt).0

  pub none_runs_while_down : is_up (deeds a [] h) ≡ false → is_running (deeds a [] h) ≡ false
  none_runs_while_down down = none_runs_down decl a client (deeds a [] h)
      (rests_down decl a client (deeds a [] h) rest down)
