-- A take keeps what the state under the lock keeps, and tells what the pass sees; and so does one that hands no input
-- out.
use Rattle.std.proofs.Common.{◌≡◌, ℕ, ◌+◌, ◌<◌, ◌≤◌, Bool, true, false, List, [], ◌∷◌, ◌++◌, length, refl, ap, sym, ◌∙◌}
use Rattle.std.proofs.Common.{subst, inl, inr, arith, Option, Some, None}
use Rattle.std.specs.Prelude.{slice_get, slice_set}
use mathlib.Core.Logic.{dite}
use native.Mathlib.Decide.{ℕ_discrete}
use Rattle.atomic_table.specs.Seated.{TableId}
use Rattle.qc_decl.specs.Vocabulary.{actors}
use Rattle.qc_decl.specs.declared.declaration.Declaration.{Declaration}
use Rattle.qc_mailbox.specs.Vocabulary.{Inboxes, IsKept, after_take, Roomy}
use Rattle.qc_mailbox.specs.declared.input.ReadyInput.{ReadyInput}
use Rattle.qc_mailbox.proofs.Acting.{inputs_keep_trays}
use Rattle.qc_mailbox.proofs.Among.{ready_messages_were_sent}
use Rattle.qc_msg.specs.declared.record.Record.{Record}
use Rattle.qc_msg.specs.declared.step.Input.{Input}
use Rattle.qc_msg.specs.declared.step.Input.TheVariants as inputs
use Rattle.qc_msg.specs.declared.step.Step.{Step}
use Rattle.qc_msg.specs.declared.turn.Turn.{Turn}
use Rattle.qc_msg.specs.Vocabulary.{Deed, Entry, Takes as TakesInput, deeds, mail, marked, step_of}
use Rattle.qc_msg.proofs.Growth.{deeds-taken}
use Rattle.qc_pass.specs.declared.token.Pass.{Pass}
use Rattle.qc_pass.specs.declared.token.Right.{Right}
use Rattle.qc_pass.specs.Vocabulary.{Met, all, number, room, seen}
use Rattle.qc_promise.specs.Vocabulary.{arms_disk}
use Rattle.qc_script.specs.Vocabulary.{RunsWithFalls, ready, takes}
use Rattle.qc_script.specs.declared.script.Script.{Script}
use Rattle.qc_fabric.specs.Vocabulary.{HasGrown, HasNext, HasNone, IsFabricState, IsInputFor, Logged, Sees, Takes}
use Rattle.qc_fabric.specs.Vocabulary.{Waits, full_of, given_by, most_history}
use Rattle.qc_fabric.proofs.Events.{begins_input}
use Rattle.qc_fabric.proofs.Fed.{bit_clear, bit_set, deeds_of_front, get_else, get_here}
use Rattle.qc_fabric.proofs.Gains.{Gain, gain}
use Rattle.qc_fabric.proofs.KeptParts.{all_of, steps_on, unarmed_of}
use Rattle.qc_fabric.proofs.Ready.{given_ready, none_ready}
use Rattle.qc_link.specs.Vocabulary.{most_actors}
use Rattle.qc_list.proofs.Places.{place_within, length-slice_set}
use Rattle.qc_script.proofs.Phases.{phase_taken}

input_arms_none : (g : Input) (b : ℕ) → arms_disk b (step_of g) ≡ false
input_arms_none (inputs.Called command) b = refl
input_arms_none (inputs.Got envelope) b = refl
input_arms_none (inputs.Lost number) b = refl

module _ {L : ℕ → List Deed → Turn → Type 0} {F : ℕ → List Record → Type 0} {D : Declaration} {S : Script} {z : TableId}
    {w : Script} {lg : Logged} {mb : Roomy} {op hd : List Bool} {ph rsv sp : ℕ} {tb : TableId}
    {ri : Option (Right Step)} where
  -- a take
  module _ (s : IsFabricState L F D S z w lg mb op hd ph rsv sp tb ri) (r : Right Step) (e : ri ≡ Some r)
      (p q : Pass Step) (t : Right Step) (given : Input) (low : number p < actors D)
      (next : HasNext D S op (number p) lg.history given)
      (m : Met p r q t (step_of given ∷ []) (room p))
      (a : all t ≡ all r ++ marked (number p) (step_of given) ∷ []) where
    run_taken : RunsWithFalls L F D S (lg.history ++ marked (number p) (step_of given) ∷ [])
        (slice_set op (number p) true)
    run_taken = takes (number p) given op lg.history s.runs next.closed next.rdy

    here : number p < most_actors
    here = omega (arith, low, s.few)

    open_now : slice_get (slice_set op (number p) true) (number p) ≡ Some true
    open_now = get_here op (number p) true (place_within op (number p) false next.closed)

    pub takes_on : (lg1 lg' : Logged) (mb' : Roomy) → lg1.history ≡ lg.history → (rsv + sp) + 1 ≤ lg1.room
        → length lg.history + ((rsv + sp) + 1) ≤ most_history
        → HasGrown lg1 lg' (marked (number p) (step_of given) ∷ [])
        → mb'.room ≡ mb.room → mb'.inboxes ≡ after_take mb.inboxes (number p)
        → IsFabricState L F D S z w lg' mb' (slice_set op (number p) true) hd ph rsv sp tb (Some t)
    takes_on lg1 lg' mb' hs lr bd g mr is = steps_on s r e p q t (step_of given)
        (slice_set op (number p) true) ph m a lg1 lg' mb' hs lr bd g (omega (arith, mr, s.mail_room))
        (subst (λ (i : Inboxes). IsKept S (lg.history ++ marked (number p) (step_of given) ∷ []) i) (sym is)
        (inputs_keep_trays D S lg.history mb.inboxes (number p) given s.kept here next.rdy))
        (s.phase_is ∙ sym (phase_taken lg.history (number p) given)) run_taken
        (length-slice_set op (number p) true ∙ s.opens)
        (λ k o. dite (ℕ_discrete k (number p)) (λ i. subst
        (λ (x : ℕ). slice_get (slice_set op (number p) true) x ≡ Some true) (sym i) open_now)
        (λ ne. get_else op (number p) k true ne ∙ o)) next.below (begins_input given) (input_arms_none given)

    pub took : Takes L F D S p q given
    took =
        let g : Gain p r = gain p q r t (step_of given ∷ []) (room p) m (unarmed_of s r e) in
        let is : lg.history ≡ seen p ++ g.others = sym (all_of s r e) ∙ sym g.whole in
        let does_then : deeds (number p) [] lg.history ≡ deeds (number p) [] (seen p) =
        ap (λ (l : List Entry). deeds (number p) [] l) (sym (all_of s r e))
        ∙ deeds_of_front (number p) (seen p) (all r) (p.part ∙ sym m.part) m.begins in
        let seen_now : seen q ≡ lg.history ++ marked (number p) (step_of given) ∷ [] = m.seen_is
        ∙ (a ∙ ap (λ (l : List Entry). l ++ marked (number p) (step_of given) ∷ []) (all_of s r e)) in
        record {
          pass = record { table_is = m.same_table; number_is = m.same_number };
          others = g.others;
          not_own = g.not_own;
          few = subst (λ (l : List Entry). length l ≤ most_history) is (omega (arith, s.bound));
          below = ap full_of (sym is) ∙ next.below;
          run_before = (op, subst (λ (l : List Entry). RunsWithFalls L F D S l op) is s.runs);
          is_closed = next.closed;
          does_before = ap (λ (l : List Entry). deeds (number p) [] l) (sym is) ∙ does_then;
          is_ready = ap (λ (l : List Entry). ready D S (number p) l) (sym is) ∙ next.rdy;
          seen_is = seen_now ∙ ap (λ (l : List Entry). l ++ marked (number p) (step_of given) ∷ []) is;
          run = (
            slice_set op (number p) true,
            subst
                (λ (l : List Entry). RunsWithFalls L F D S l (slice_set op (number p) true)) (sym seen_now) run_taken,
          );
          is_open = open_now;
          mine_is = m.mine_is;
          does = ap (λ (l : List Entry). deeds (number p) [] l) seen_now
              ∙ (deeds-taken (number p) lg.history given
              (ready_messages_were_sent D S lg.history mb.inboxes (number p) given s.kept next.rdy)
              ∙ ap (λ (l : List Deed). l ++ TakesInput given ∷ []) does_then);
          room_is = m.room_is;
        }

  -- what the code tests
  pub none_for : (s : IsFabricState L F D S z w lg mb op hd ph rsv sp tb ri) (a : ℕ) → a < actors D
      → IsInputFor D lg.history mb.inboxes op a None → HasNone D S op a lg.history
  none_for s a low (inl full) = inl full
  none_for s a low (inr (inl set)) = inr (inl (bit_set op a set))
  none_for s a low (inr (inr none)) = inr (inr
      (none_ready D S lg.history mb.inboxes a s.kept (omega (arith, low, s.few)) none))

  pub next_for : (s : IsFabricState L F D S z w lg mb op hd ph rsv sp tb ri) (a : ℕ) → a < actors D
      → (input : ReadyInput) (given : Input) → IsInputFor D lg.history mb.inboxes op a (Some input)
      → given_by (mail lg.history) input ≡ Some given → HasNext D S op a lg.history given
  next_for s a low input given is by = record {
    below = is.0;
    closed = bit_clear op a (omega (arith, low, s.opens)) is.1;
    rdy = given_ready D S lg.history mb.inboxes a input given s.kept (omega (arith, low, s.few)) is.2 by;
  }

  -- no input is handed out
  pub waits : (s : IsFabricState L F D S z w lg mb op hd ph rsv sp tb ri) (p0 p : Pass Step) → Sees p0 p
      → seen p ≡ lg.history → room p ≡ 0 → HasNone D S op (number p0) lg.history → Waits L F D S p0 p
  waits s p0 p see sn rm none = record {
    saw = see;
    run = (op, subst (λ (l : List Entry). RunsWithFalls L F D S l op) (sym sn) s.runs);
    room_is = rm;
    why = subst (λ (l : List Entry). HasNone D S op (number p0) l) (sym sn) none;
  }
