-- Where nothing is left to happen a run with falls is whole: each command is told its reply.
use Rattle.std.proofs.Common.{◌≡◌, ℕ, ◌+◌, ◌<◌, ◌≤◌, ◌==◌, ◌||◌, Bool, true, false, List, [], ◌∷◌, ◌++◌, length, Option}
use Rattle.std.proofs.Common.{Some, None, is_some, refl, sym, ap, ◌∙◌, subst, arith}
use Rattle.std.specs.Prelude.{fold, option_to_list, replicate, slice_get}
use Rattle.std.specs.List.{filter_map}
use Rattle.std.proofs.lemmas.Bool.{eq-eqb, eqb-true}
use Rattle.std.proofs.lemmas.List.{append-nil, take_all}
use Rattle.qc_client.specs.declared.client.Client.{Client}
use Rattle.qc_core.specs.declared.actor.Actor.TheVariants as actor
use Rattle.qc_core.specs.Vocabulary.{IsLawfulWithFalls, actor_after, is_running, runs_at}
use Rattle.qc_decl.specs.Vocabulary.{IsAccepted, actors, administrator, is_client}
use Rattle.qc_decl.specs.declared.declaration.Declaration.{Declaration}
use Rattle.laws_turns.specs.Vocabulary.{AreAnswered, AsksDeclared, IsQuiet, asked_by, asked_in_all, call_in, calls_of}
use Rattle.laws_turns.specs.Vocabulary.{exchanges, exchanges_from, open_calls, replies_of}
use Rattle.qc_msg.specs.declared.message.Envelope.{Envelope}
use Rattle.qc_msg.specs.declared.record.Record.{Record}
use Rattle.qc_msg.specs.declared.step.Command.{Command}
use Rattle.qc_msg.specs.declared.step.Input.TheVariants as inputs
use Rattle.qc_msg.specs.Vocabulary.{Deed, Entry, Falls, Rises, Sends, Takes, Tells, Writes, deeds}
use Rattle.qc_script.specs.Vocabulary.{command_in, controls_left, first_copy, first_lost, inbox, phase_of}
use Rattle.qc_script.specs.Vocabulary.{takes_commands}
use Rattle.qc_script.specs.declared.script.PhaseLines.{PhaseLines}
use Rattle.qc_script.specs.declared.script.Script.{Script}
use Rattle.laws_due.specs.Vocabulary.{AreInOrder, AsksEpochs, AsksKnown, IsClosedWithFalls, IsWholeWithFalls}
use Rattle.laws_due.proofs.AdminEnds.{his_none_runs, his_order}
use Rattle.laws_due.proofs.Busy.{busy_runs}
use Rattle.laws_due.proofs.Calling.{calls_are_asked_with_falls, phases_are_the_scripts_with_falls}
use Rattle.laws_due.proofs.EndsWithFalls.{copies_none, losts_none, none_open, none_runs, nothing_ready}
use Rattle.laws_due.proofs.Ordered.{all_counted, open_commands, run_ordered}
use Rattle.laws_due.proofs.Places.{client_within}
use Rattle.laws_turns.proofs.WholeLaw.{no_commands}
use Rattle.qc_list.proofs.Places.{replicate_at}

-- deeds in order, after which no command runs, answer each command

pub answered_from : (running : Option Command) (ds : List Deed) → AreInOrder (is_some running) ds
    → fold runs_at (is_some running) ds ≡ false
    → AreAnswered (option_to_list running ++ filter_map call_in ds) (exchanges_from running ds)
answered_from None [] are idle = tt
answered_from (Some c) [] are idle = absurd (let never : ⊥ = cc in never)
answered_from None (Takes (inputs.Called command) ∷ ds) are idle = answered_from (Some command) ds are.1 idle
answered_from (Some c) (Takes (inputs.Called command) ∷ ds) are idle =
    absurd (let is : true ≡ false = are.0 in let never : ⊥ = cc in never)
answered_from running (Takes (inputs.Got envelope) ∷ ds) are idle = answered_from running ds are.1 idle
answered_from running (Takes (inputs.Lost number) ∷ ds) are idle = answered_from running ds are.1 idle
answered_from running (Writes written ∷ ds) are idle = answered_from running ds are.1 idle
answered_from running (Sends number to message ∷ ds) are idle = answered_from running ds are.1 idle
answered_from None (Tells reply ∷ ds) are idle = absurd (let is : false ≡ true = are.0 in let never : ⊥ = cc in never)
answered_from (Some c) (Tells reply ∷ ds) are idle = ((reply, refl), answered_from None ds are.1 idle)
answered_from None (Falls cause pending ∷ ds) are idle = answered_from None ds are.1 idle
answered_from (Some c) (Falls cause pending ∷ ds) are idle =
    absurd (let is : true ≡ false = are.0 in let never : ⊥ = cc in never)
answered_from None (Rises records ∷ ds) are idle = answered_from None ds are.1 idle
answered_from (Some c) (Rises records ∷ ds) are idle =
    absurd (let is : true ≡ false = are.0 in let never : ⊥ = cc in never)

module _ (decl : Declaration) (script : Script) (accepted : IsAccepted decl) (asks : AsksDeclared decl script)
    (fits : ℕ → List Record → Type 0) (h : List Entry) where
  none_open_now : (a : ℕ) → slice_get (replicate (actors decl) false) a ≡ Some true → ⊥
  none_open_now a is = let no : true ≡ false = replicate_at (actors decl) a false true is in let never : ⊥ = cc in never

  module _ (closed : IsClosedWithFalls fits decl script h) (quiet : IsQuiet decl script h)
      (done : controls_left script h ≡ []) where
    pub no_request_is_open_at_the_end_with_falls : (a : ℕ) → is_client decl a ≡ true → (c : Client)
        → (actor_after decl a (deeds a [] h)).actor ≡ actor.Client c → open_calls c ≡ []
    no_request_is_open_at_the_end_with_falls a client = none_open decl script accepted asks fits h
        (replicate (actors decl) false) closed none_open_now quiet done a client

    pub commands_end_with_falls : (a : ℕ) → is_client decl a ≡ true → is_running (deeds a [] h) ≡ false
    commands_end_with_falls a client = none_runs decl script accepted asks fits h
        (replicate (actors decl) false) closed none_open_now quiet done a client

    ordered : (a : ℕ) → is_client decl a ≡ true → AreInOrder false (deeds a [] h)
    ordered a client = run_ordered decl script accepted asks fits a client h (replicate (actors decl) false) closed

    pub each_call_has_its_reply_with_falls : (a : ℕ) → is_client decl a ≡ true
        → length (calls_of a h) ≡ length (replies_of a h)
    each_call_has_its_reply_with_falls a client =
        let count : length (calls_of a h) ≡ length (replies_of a h) + 0 = all_counted (deeds a [] h) (ordered a client)
        ∙ ap (λ (t : Bool). length (replies_of a h) + open_commands t) (commands_end_with_falls a client) in
        omega arith

    -- of whoever takes commands, where it has them in order and runs none

    module _ (a : ℕ) (within : a < actors decl) (takes : takes_commands decl a ≡ true)
        (order : AreInOrder false (deeds a [] h)) (rests : is_running (deeds a [] h) ≡ false) where
      no_command : command_in decl a (inbox script a h) ≡ None
      no_command =
          sym (ap (λ (es : List Envelope). first_copy es
          (first_lost (inbox script a h).lost (command_in decl a (inbox script a h))))
          (copies_none decl script accepted asks fits h
          (replicate (actors decl) false) closed none_open_now quiet done a within)
          ∙ ap (λ (ns : List ℕ). first_lost ns (command_in decl a (inbox script a h)))
          (losts_none decl script accepted asks fits h
          (replicate (actors decl) false) closed none_open_now quiet done a within))
          ∙ nothing_ready decl script accepted asks fits h
          (replicate (actors decl) false) closed none_open_now quiet done a within

      none_left : (inbox script a h).commands ≡ []
      none_left = no_commands (takes_commands decl a) (inbox script a h).busy (inbox script a h).commands takes
          (busy_runs script a h order ∙ rests) no_command

      calls_whole : length script.phases ≤ phase_of h → calls_of a h ≡ asked_by a script
      calls_whole all =
          sym (append-nil (calls_of a h)) ∙ ap (λ (v : List Command). calls_of a h ++ v) (sym none_left)
          ∙ calls_are_asked_with_falls (IsLawfulWithFalls decl) fits decl script a h (replicate (actors decl) false)
          closed
          ∙ ap (λ (v : List PhaseLines). asked_in_all a v) (take_all (phase_of h) script.phases all)

      answered : length script.phases ≤ phase_of h → AreAnswered (asked_by a script) (exchanges (deeds a [] h))
      answered all = subst (λ (cs : List Command). AreAnswered cs (exchanges (deeds a [] h))) (calls_whole all)
          (answered_from None (deeds a [] h) order rests)

    -- a client, and the administrator

    clients_answered : length script.phases ≤ phase_of h → (a : ℕ) → is_client decl a ≡ true
        → AreAnswered (asked_by a script) (exchanges (deeds a [] h))
    clients_answered all a client = answered a (client_within decl a client)
        (ap (λ (t : Bool). t || (a == administrator decl)) client) (ordered a client) (commands_end_with_falls a client)
        all

    module _ (known : AsksKnown fits decl script) (epochs : AsksEpochs decl script) where
      pub commands_of_the_administrator_end : is_running (deeds (administrator decl) [] h) ≡ false
      commands_of_the_administrator_end = his_none_runs decl script accepted asks fits known epochs h
          (replicate (actors decl) false) closed none_open_now quiet done

      his_answered : length script.phases ≤ phase_of h
          → AreAnswered (asked_by (administrator decl) script) (exchanges (deeds (administrator decl) [] h))
      his_answered all =
          answered (administrator decl) (omega arith) (takes_his (is_client decl (administrator decl)))
          (his_order decl script accepted asks fits known epochs h (replicate (actors decl) false) closed)
          commands_of_the_administrator_end all
        where
          takes_his : (t : Bool) → (t || (administrator decl == administrator decl)) ≡ true
          takes_his true = refl
          takes_his false = eq-eqb (administrator decl) (administrator decl) refl

      all_answered : length script.phases ≤ phase_of h → (a : ℕ) → takes_commands decl a ≡ true
          → AreAnswered (asked_by a script) (exchanges (deeds a [] h))
      all_answered all a takes = by (is_client decl a) refl (a == administrator decl) refl takes
        where
          by : (t : Bool) → is_client decl a ≡ t → (u : Bool) → (a == administrator decl) ≡ u → (t || u) ≡ true
              → AreAnswered (asked_by a script) (exchanges (deeds a [] h))
          by true client u is some = clients_answered all a client
          by false other true is some = subst (λ (k : ℕ). AreAnswered (asked_by k script) (exchanges (deeds k [] h)))
              (sym (eqb-true a (administrator decl) is)) (his_answered all)
          by false other false is some = absurd (let never : ⊥ = cc in never)

      pub runs_with_falls_are_whole : length script.phases ≤ phase_of h → IsWholeWithFalls fits decl script h
      runs_with_falls_are_whole all = record {
        closed = closed;
        phases = (let most : phase_of h ≤ length script.phases =
            phases_are_the_scripts_with_falls (IsLawfulWithFalls decl) fits decl script h
            (replicate (actors decl) false) closed in
            omega arith);
        controls = done;
        replies = all_answered all;
        quiet = quiet;
      }
