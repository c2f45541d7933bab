-- Where nothing is left to happen and no command runs, the run is whole.
use Rattle.std.proofs.Common.{◌≡◌, ℕ, ◌<◌, ◌≤◌, ◌==◌, ◌&&◌, ◌||◌, not, Bool, true, false, cond, List, [], ◌∷◌}
use Rattle.std.proofs.Common.{◌++◌, length, None, refl, sym, subst, ap, ◌∙◌, arith}
use Rattle.std.specs.Prelude.{replicate}
use Rattle.std.proofs.lemmas.List.{append-nil, take_all}
use Rattle.qc_decl.proofs.Clients.{client_within}
use Rattle.qc_core.specs.Vocabulary.{IsLawful, is_running}
use Rattle.qc_decl.specs.declared.declaration.Declaration.{Declaration}
use Rattle.qc_decl.specs.Vocabulary.{IsAccepted, actors, administrator, is_client}
use Rattle.qc_msg.specs.declared.message.Envelope.{Envelope}
use Rattle.qc_msg.specs.declared.step.Command.{Command}
use Rattle.qc_msg.specs.Vocabulary.{Entry, deeds}
use Rattle.qc_script.specs.declared.script.PhaseLines.{PhaseLines}
use Rattle.qc_script.specs.declared.script.Script.{Script}
use Rattle.qc_script.specs.Vocabulary.{command_in, controls_left, first_command, first_copy, first_lost, inbox}
use Rattle.qc_script.specs.Vocabulary.{phase_of, takes_commands}
use Rattle.laws_turns.specs.Vocabulary.{AreAnswered, AsksDeclared, IsClosed, IsQuiet, IsWhole, asked_by, asked_in_all}
use Rattle.laws_turns.specs.Vocabulary.{calls_of, exchanges}
use Rattle.laws_turns.proofs.Calling.{calls_are_asked, phases_are_the_scripts}
use Rattle.laws_turns.proofs.Ends.{copies_none, losts_none, nothing_ready}
use Rattle.laws_turns.proofs.Exchanging.{answered}
use Rattle.laws_turns.proofs.Ordered.{replies_answer_commands}
use Rattle.laws_turns.proofs.Running.{busy_is_running}
use Rattle.laws_turns.proofs.Up.{run_up}

pub no_commands : (t busy : Bool) (commands : List Command) → t ≡ true → busy ≡ false
    → cond (t && not busy) (first_command commands) None ≡ None → commands ≡ []
no_commands t busy [] may free is = refl
no_commands true true (c ∷ commands) may free is = absurd (let never : ⊥ = cc in never)
no_commands true false (c ∷ commands) may free is = absurd (let never : ⊥ = cc in never)
no_commands false busy (c ∷ commands) may free is = absurd (let never : ⊥ = cc in never)

module _ (decl : Declaration) (script : Script) (accepted : IsAccepted decl) (asks : AsksDeclared decl script)
    (h : List Entry) (closed : IsClosed decl script h) (quiet : IsQuiet decl script h)
    (done : controls_left script h ≡ [])
    (idle : (a : ℕ) → is_client decl a ≡ true → is_running (deeds a [] h) ≡ false) where
  acts : (a : ℕ) → is_client decl a ≡ true → a < actors decl
  acts a client = client_within decl a client

  no_command : (a : ℕ) → is_client decl a ≡ true → command_in decl a (inbox script a h) ≡ None
  no_command a client =
      sym (ap (λ (es : List Envelope). first_copy es
      (first_lost (inbox script a h).lost (command_in decl a (inbox script a h))))
      (copies_none decl script accepted asks h closed quiet done a (acts a client))
      ∙ ap (λ (ns : List ℕ). first_lost ns (command_in decl a (inbox script a h)))
      (losts_none decl script accepted asks h closed quiet done a (acts a client)))
      ∙ nothing_ready decl script accepted asks h closed quiet done a (acts a client)

  none_left : (a : ℕ) → is_client decl a ≡ true → (inbox script a h).commands ≡ []
  none_left a client =
      no_commands (takes_commands decl a) (inbox script a h).busy (inbox script a h).commands
      (ap (λ (t : Bool). t || (a == administrator decl)) client)
      (busy_is_running script a h (run_up (IsLawful decl) decl script h (replicate (actors decl) false) closed a)
      ∙ idle a client) (no_command a client)

  calls_whole : length script.phases ≤ phase_of h → (a : ℕ) → is_client decl a ≡ true → calls_of a h ≡ asked_by a script
  calls_whole all a client =
      sym (append-nil (calls_of a h)) ∙ ap (λ (v : List Command). calls_of a h ++ v) (sym (none_left a client))
      ∙ calls_are_asked decl script a h (replicate (actors decl) false) closed
      ∙ ap (λ (v : List PhaseLines). asked_in_all a v) (take_all (phase_of h) script.phases all)

  replies_whole : length script.phases ≤ phase_of h → (a : ℕ) → is_client decl a ≡ true
      → AreAnswered (asked_by a script) (exchanges (deeds a [] h))
  replies_whole all a client =
      subst (λ (cs : List Command). AreAnswered cs (exchanges (deeds a [] h))) (calls_whole all a client)
      (answered (deeds a [] h) (replies_answer_commands decl script h (replicate (actors decl) false) closed a)
      (run_up (IsLawful decl) decl script h (replicate (actors decl) false) closed a) (idle a client))

  pub runs_without_commands_are_whole : length script.phases ≤ phase_of h → IsWhole decl script h
  runs_without_commands_are_whole all = record {
    closed = closed;
    phases = (let most : phase_of h ≤ length script.phases =
        phases_are_the_scripts (IsLawful decl) decl script h (replicate (actors decl) false) closed in omega arith);
    controls = done;
    replies = replies_whole all;
    quiet = quiet;
  }
