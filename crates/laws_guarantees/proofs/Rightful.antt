-- In each run a request names what is declared, and an Append has own lines.
use Rattle.std.proofs.Common.{◌≡◌, ◌<◌, ◌≤◌, ◌+◌, ◌-◌, ◌==◌, ◌&&◌, nat_lt, ℕ, Bool, true, false, List, [], ◌∷◌, ◌++◌}
use Rattle.std.proofs.Common.{inl, inr, length, Option, Some, None, slice_get, refl, sym, ap, ◌∙◌, subst, eqb-true}
use Rattle.std.proofs.Common.{le-leb, lt-ltb, ltb-false, ltb-true}
use Rattle.qc_stamp.specs.declared.stamp.TxId.{TxId}
use Rattle.qc_list.specs.Vocabulary.{In}
use Rattle.qc_list.proofs.Members.{In-more, every-In, In-either}
use Rattle.qc_core.specs.Vocabulary.{IsLawful}
use Rattle.qc_decl.specs.declared.declaration.Declaration.{Declaration}
use Rattle.qc_decl.specs.Vocabulary.{IsAccepted, administrator, controller, is_client}
use Rattle.qc_decl.proofs.Clients.{client_within}
use Rattle.qc_msg.specs.declared.message.Envelope.{Envelope}
use Rattle.qc_msg.specs.declared.message.Message.{Message}
use Rattle.qc_msg.specs.declared.message.Message.TheVariants as messages
use Rattle.qc_msg.specs.declared.message.Want.{Want}
use Rattle.qc_msg.specs.declared.record.Record.{Record}
use Rattle.qc_msg.specs.declared.reply.Reply.{Reply}
use Rattle.qc_msg.specs.declared.step.Command.{Command}
use Rattle.qc_msg.specs.declared.step.Input.{Input}
use Rattle.qc_msg.specs.declared.step.Input.TheVariants as inputs
use Rattle.qc_msg.specs.declared.step.Step.TheVariants as steps
use Rattle.qc_msg.specs.declared.turn.Posting.{Posting}
use Rattle.qc_msg.specs.declared.turn.Turn.{Turn}
use Rattle.qc_msg.specs.Vocabulary.{Deed, Entry, Sends, Takes, by as by_actor, deeds, mail, marked, posted, sends_of}
use Rattle.qc_msg.specs.Vocabulary.{step_of, tells_of, turn_deeds, writes_of, Requested}
use Rattle.qc_msg.proofs.DeedsGrow.{deeds-other}
use Rattle.qc_msg.proofs.Growth.{deeds-posted, deeds-taken}
use Rattle.qc_script.specs.Vocabulary.{IsScriptFor, Runs, phase_of}
use Rattle.qc_script.specs.Runs.{begins, takes, posts, phase, control}
use Rattle.qc_script.specs.declared.script.Script.{Script}
use Rattle.laws_turns.proofs.Acted.{deeds-silent, has_entry, actors_take_and_post_by_turns}
use Rattle.laws_turns.proofs.Idle.{IsInput, idle}
use Rattle.laws_turns.proofs.Arrivals.{what_is_ready_was_sent}
use Rattle.laws_turns.proofs.Numbered.{control_silent, phase_silent}
use Rattle.laws_turns.proofs.Proper.{run_proper}
use Rattle.laws_turns.proofs.SiteReplies.{IsProperFrom}
use Rattle.laws_turns.specs.Vocabulary.{ActsIn}
use Rattle.laws_due.proofs.Courses.{deeds_of_clients_are_by_rows}
use Rattle.laws_due.proofs.AccountDeclared.{scripts_ask_what_is_declared}
use Rattle.laws_refinement.specs.Vocabulary.{IsNamed}
use Rattle.laws_atomic.specs.Vocabulary.{AreNamed}
use Rattle.laws_atomic.proofs.Asked.{ready_named}
use Rattle.laws_atomic.proofs.Names.{script_named}
use Rattle.laws_guarantees.proofs.NetMessages.{AreFullMessages}
use Rattle.laws_guarantees.proofs.Requests.{request_right}
use Rattle.laws_guarantees.proofs.Room.{AreNamedMessages, IsNamedWant}
use Rattle.laws_guarantees.proofs.SiteMoves.{IsFull}
use Rattle.laws_guarantees.proofs.MessageCases.{asking_cases}
use Rattle.std.specs.Prelude.{MatchOption}
use Rattle.laws_turns.proofs.DecisionLaws.{mail_deed}

abbrev command_in : Deed → Option Command
command_in (Takes (inputs.Called command)) = Some command
command_in (Takes (inputs.Got e)) = None
command_in (Takes (inputs.Lost n)) = None
command_in _ = None

-- a turn calls nothing

sends_call : (n : ℕ) (ps : List Posting) (reply : Option Reply) (c : Command)
    → In (Takes (inputs.Called c)) (sends_of n ps ++ tells_of reply) → ⊥
sends_call n [] None c among = among
sends_call n [] (Some reply) c (inl same) = let never : ⊥ = cc in never
sends_call n [] (Some reply) c (inr never) = never
sends_call n (p ∷ ps) reply c (inl same) = let never : ⊥ = cc in never
sends_call n (p ∷ ps) reply c (inr there) = sends_call (n + 1) ps reply c there

turn_calls : (n : ℕ) (turn : Turn) (c : Command) → In (Takes (inputs.Called c)) (turn_deeds n turn) → ⊥
turn_calls n turn c among = by turn.write among
  where
    by : (w : Option Record) → In (Takes (inputs.Called c))
        (writes_of w ++ (sends_of n turn.sends ++ tells_of turn.told)) → ⊥
    by None there = sends_call n turn.sends turn.told c there
    by (Some w) (inl same) = let never : ⊥ = cc in never
    by (Some w) (inr there) = sends_call n turn.sends turn.told c there

module _ (decl : Declaration) (script : Script) (accepted : IsAccepted decl) (sound : IsScriptFor decl script) where
  named : AreNamed decl script
  named = script_named decl accepted script sound

  -- what is called is named
  pub called_named : (h : List Entry) (open_inputs : List Bool) → Runs (IsLawful decl) decl script h open_inputs
      → (a : ℕ) (c : Command) → In (Takes (inputs.Called c)) (deeds a [] h) → IsNamed decl c
  called_named h open_inputs begins a c among = absurd among
  called_named h open_inputs (takes b g before older run free rdy) a c among =
      by (b == a) refl (called_named older before run a c)
    where
      by : (t : Bool) → (b == a) ≡ t → (In (Takes (inputs.Called c)) (deeds a [] older) → IsNamed decl c)
          → IsNamed decl c
      by false other old = old (subst (λ (v : List Deed). In (Takes (inputs.Called c)) v)
          (deeds-other b a [] older (step_of g ∷ []) other) among)
      by true same old =
          elim (In-more (Takes (inputs.Called c)) (Takes g) (deeds a [] older)
          (subst (λ (v : List Deed). In (Takes (inputs.Called c)) v) here among)) [
            | inl there ↦ old there
            | inr now ↦ ready_named decl script named older before run b c free
                (rdy ∙ ap (λ (x : Input). Some x) (sym (given_is g now)))
          ]
        where
          here : deeds a [] (older ++ marked b (step_of g) ∷ []) ≡ deeds a [] older ++ Takes g ∷ []
          here = subst (λ (k : ℕ). deeds k [] (older ++ marked b (step_of g) ∷ []) ≡ deeds k [] older ++ Takes g ∷ [])
              (eqb-true b a same) (deeds-taken b older g
              (what_is_ready_was_sent (IsLawful decl) decl script older before run b g rdy))

          given_is : (g : Input) → Takes (inputs.Called c) ≡ Takes g → inputs.Called c ≡ g
          given_is g e = let is : inputs.Called c ≡ g = cc in is
  called_named h open_inputs (posts b turn before older run taken law) a c among =
      by (b == a) refl (called_named older before run a c)
    where
      by : (t : Bool) → (b == a) ≡ t → (In (Takes (inputs.Called c)) (deeds a [] older) → IsNamed decl c)
          → IsNamed decl c
      by false other old = old (subst (λ (v : List Deed). In (Takes (inputs.Called c)) v)
          (deeds-other b a [] older (posted (length (mail older)) turn) other) among)
      by true same old = elim (In-either (Takes (inputs.Called c)) (deeds a [] older)
          (turn_deeds (length (mail older)) turn)
          (subst (λ (v : List Deed). In (Takes (inputs.Called c)) v) (deeds-posted a (length (mail older)) older turn)
          (subst (λ (k : ℕ). In (Takes (inputs.Called c))
          (deeds a [] (older ++ by_actor k (posted (length (mail older)) turn)))) (eqb-true b a same) among))) [
            | inl there ↦ old there
            | inr now ↦ absurd (turn_calls (length (mail older)) turn c now)
          ]
  called_named h open_inputs (phase before older run none done quiet_all more) a c among =
      called_named older before run a c (subst (λ (v : List Deed). In (Takes (inputs.Called c)) v)
      (deeds-silent a (controller decl) older (steps.Phase (phase_of older + 1)) (phase_silent (phase_of older + 1)))
      among)
  called_named h open_inputs (control line lines step before older run left is) a c among =
      called_named older before run a c (subst (λ (v : List Deed). In (Takes (inputs.Called c)) v)
      (deeds-silent a (controller decl) older step (control_silent line step is)) among)

  module _ (h : List Entry) (open_inputs : List Bool) (run : Runs (IsLawful decl) decl script h open_inputs) where
    -- who sent something is a site or a client
    sender_within : (e : Envelope) → In e (mail h) → e.from < administrator decl
    sender_within e sent = by (nat_lt e.from (administrator decl)) refl
      where
        by : (b : Bool) → nat_lt e.from (administrator decl) ≡ b → e.from < administrator decl
        by true low = ltb-true e.from (administrator decl) low
        by false high =
            absurd (every-In IsInput (Sends e.number e.to e.message) (deeds e.from [] h)
            (idle decl e.from (ltb-false e.from (administrator decl) high) script h open_inputs run)
            (mail_deed [] h e sent))

    client_of : (a : ℕ) → decl.sites ≤ a → a < administrator decl → is_client decl a ≡ true
    client_of a low high = ap (λ (b : Bool). b && nat_lt a (administrator decl)) (le-leb decl.sites a low)
        ∙ lt-ltb a (administrator decl) high

    request_is_right : (e : Envelope) (tx : TxId) (epoch life : ℕ) (want : Want) → In e (mail h)
        → e.message ≡ messages.Request tx epoch life want → IsNamedWant decl want × IsFull want
    request_is_right e tx epoch life want sent is =
        let p : IsProperFrom decl e.from e.to e.message =
        every-In (λ (x : Envelope). IsProperFrom decl x.from x.to x.message) e (mail h)
        (run_proper decl script accepted (scripts_ask_what_is_declared decl script accepted sound) h open_inputs run)
        sent in
        let q : IsProperFrom decl e.from e.to (messages.Request tx epoch life want) =
        subst (IsProperFrom decl e.from e.to) is p in
        let client : is_client decl e.from ≡ true = client_of e.from q.0 (sender_within e sent) in
        let slot : (t : Bool) × (slice_get open_inputs e.from ≡ Some t) =
        has_entry (IsLawful decl) decl script h open_inputs run e.from (client_within decl e.from client) in
        let acts : ActsIn decl e.from h slot.0 =
        actors_take_and_post_by_turns decl script h open_inputs run e.from slot.0 slot.1 in
        request_right decl (e.from - decl.sites) (deeds e.from [] h) e.number e.to tx epoch life want
        (deeds_of_clients_are_by_rows decl e.from client (deeds e.from [] h) slot.0 acts.above acts.acts)
        (λ c among. called_named h open_inputs run e.from c among)
        (subst (λ (m : Message). In (Sends e.number e.to m) (deeds e.from [] h)) is (mail_deed [] h e sent))

    pub mail_named : AreNamedMessages decl (mail h)
    mail_named e sent = asking_cases
        (λ m o. e.message ≡ m → MatchOption o (Unit {0}) (λ (q : Requested). IsNamedWant decl q.want)) (λ m is. tt)
        (λ tx epoch life want is. (request_is_right e tx epoch life want sent is).0) e.message refl

    pub mail_full : AreFullMessages (mail h)
    mail_full e sent = asking_cases
        (λ m o. e.message ≡ m → MatchOption o (Unit {0}) (λ (q : Requested). IsFull q.want)) (λ m is. tt)
        (λ tx epoch life want is. (request_is_right e tx epoch life want sent is).1) e.message refl
