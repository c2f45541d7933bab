-- What counts and what is told never says that a site has forgotten, where the sites remember.
use Rattle.std.proofs.Common.{[], ◌*◌, ◌≡◌, ◌≤◌, ◌+◌, ◌==◌, ℕ, Bool, true, false, List, ◌∷◌, ◌++◌, inl, inr}
use Rattle.std.proofs.Common.{length, Option, Some, None, slice_get, refl, sym, ap, ◌∙◌, subst, eqb-true}
use Rattle.std.specs.Prelude.{fold}
use Rattle.qc_list.specs.Vocabulary.{In}
use Rattle.qc_list.proofs.Members.{In-more, In-second, every-In, In-either, In-at}
use Rattle.qc_core.specs.Vocabulary.{IsLawful, posts as acts_post}
use Rattle.qc_decl.specs.declared.declaration.Declaration.{Declaration}
use Rattle.qc_decl.specs.Vocabulary.{IsAccepted, controller, is_client, most_committed_operations}
use Rattle.qc_msg.specs.declared.message.Answer.{Answer}
use Rattle.qc_msg.specs.declared.record.Record.{Record}
use Rattle.qc_msg.specs.declared.reply.Reply.{Reply}
use Rattle.qc_msg.specs.declared.reply.Reply.TheVariants as replies
use Rattle.qc_msg.specs.declared.reply.AbortCause.TheVariants as causes
use Rattle.qc_msg.specs.declared.step.Input.{Input}
use Rattle.qc_msg.specs.declared.step.Input.TheVariants as inputs
use Rattle.qc_msg.specs.declared.step.Step.TheVariants as steps
use Rattle.qc_msg.specs.declared.turn.Posting.{Posting}
use Rattle.qc_msg.specs.declared.turn.Turn.{Turn}
use Rattle.qc_msg.specs.Vocabulary.{Deed, Entry, Takes, Tells, WasSentTo, by as by_actor, deeds, mail, marked}
use Rattle.qc_msg.specs.Vocabulary.{operations_of, posted, sends_of, step_of, tells_of, turn_deeds, writes_of}
use Rattle.qc_msg.proofs.DeedsGrow.{deeds-other}
use Rattle.qc_msg.proofs.Growth.{deeds-posted, deeds-taken}
use Rattle.qc_promise.specs.Vocabulary.{Account, ClientRequest, account, account_at, account_taken}
use Rattle.qc_script.specs.Vocabulary.{IsScriptFor, Runs, phase_of}
use Rattle.qc_script.specs.Runs.{begins, takes, posts, phase, control}
use Rattle.qc_script.specs.declared.script.Script.{Script}
use Rattle.laws_turns.proofs.Acted.{deeds-silent, actors_take_and_post_by_turns}
use Rattle.laws_turns.proofs.Arrivals.{what_is_ready_was_sent}
use Rattle.laws_turns.proofs.Numbered.{control_silent, phase_silent}
use Rattle.laws_turns.specs.Vocabulary.{ActsIn}
use Rattle.laws_due.proofs.Courses.{turns_tell_their_rows}
use Rattle.laws_due.proofs.Mute.{IsMuteDeed, sites_mute}
use Rattle.laws_guarantees.proofs.Grounds.{turn_old}
use Rattle.laws_guarantees.proofs.ForgettingAnswers.{Forgets}
use Rattle.laws_guarantees.proofs.Stale.{turn}
use Rattle.laws_guarantees.proofs.AccountsStay.{account_other, account_posted_is, account_silent, account_taken_is}
use Rattle.laws_guarantees.proofs.Unforgotten.{Unforgotten, few_before, unforgotten, who}
use Rattle.laws_guarantees.proofs.Against.{IsForgottenVote, IsVote, due_why, taken_vote, lost_vote}

module _ (decl : Declaration) (script : Script) (accepted : IsAccepted decl) (sound : IsScriptFor decl script) where
  -- what counts

  abbrev pub AreRemembered : List Entry → Type 0
  AreRemembered h =
      (a : ℕ) (q : ClientRequest) (x : Answer) → is_client decl a ≡ true → IsVote (account decl a h) q x → Forgets x → ⊥

  same_votes : (h k : List Entry) → ((a : ℕ) → account decl a k ≡ account decl a h) → AreRemembered h → AreRemembered k
  same_votes h k same r a q x client v forgets =
      r a q x client (subst (λ (d : Account). IsVote d q x) (same a) v) forgets

  taken_remembered : (h : List Entry) (b : ℕ) (g : Input) → WasSentTo b (mail h) g
      → Unforgotten decl script accepted sound h → AreRemembered h → AreRemembered (h ++ marked b (step_of g) ∷ [])
  taken_remembered h b g sent u r a q x client v forgets = at (b == a) refl
    where
      by_given : (g : Input) → WasSentTo a (mail h) g → IsVote (account_taken (account decl a h) g) q x → ⊥
      by_given (inputs.Called command) s k = k.0
      by_given (inputs.Lost number) s k = r a q x client (lost_vote (account decl a h) number q x k) forgets
      by_given (inputs.Got e) s k = elim (taken_vote (account decl a h) e q x k) [
        | inl old ↦ r a q x client old forgets
        | inr new ↦
            u.votes a new.old x client new.vote
            (record { envelope = e; sent = In-at (mail h) e.number e s.0; is = new.is }) forgets
      ]

      at : (t : Bool) → (b == a) ≡ t → ⊥
      at false other =
          r a q x client (subst (λ (d : Account). IsVote d q x) (account_other decl b a h (step_of g ∷ []) other) v)
          forgets
      at true same =
          let here : b ≡ a = eqb-true b a same in
          let s : WasSentTo a (mail h) g = subst (λ (n : ℕ). WasSentTo n (mail h) g) here sent in
          by_given g s
          (subst (λ (d : Account). IsVote d q x) (account_taken_is decl a h g s)
          (subst (λ (n : ℕ). IsVote (account decl a (h ++ marked n (step_of g) ∷ [])) q x) here v))

  posted_remembered : (h : List Entry) (b : ℕ) (turn : Turn) → AreRemembered h
      → AreRemembered (h ++ by_actor b (posted (length (mail h)) turn))
  posted_remembered h b turn r a q x client v forgets = at (b == a) refl
    where
      at : (t : Bool) → (b == a) ≡ t → ⊥
      at false other =
          r a q x client
          (subst (λ (d : Account). IsVote d q x) (account_other decl b a h (posted (length (mail h)) turn) other) v)
          forgets
      at true same =
          let here : b ≡ a = eqb-true b a same in
          let k : IsVote (fold (account_at decl) (account decl a h) (turn_deeds (length (mail h)) turn)) q x =
          subst (λ (d : Account). IsVote d q x) (account_posted_is decl a (length (mail h)) h turn)
          (subst (λ (n : ℕ). IsVote (account decl a (h ++ by_actor n (posted (length (mail h)) turn))) q x) here v)
          in
          elim (turn_old decl (account decl a h) (length (mail h)) turn q k.0) [
            | inl old ↦ r a q x client (old, k.1, k.2) forgets
            | inr new ↦
                (let none : q.taken ≡ None = new.1 in
                let some : q.taken ≡ Some (Some x) = k.2 in let never : ⊥ = cc in never)
          ]

  pub counted_remembered : (h : List Entry) (open_inputs : List Bool) → Runs (IsLawful decl) decl script h open_inputs
      → operations_of h ≤ 2 * most_committed_operations → AreRemembered h
  counted_remembered h open_inputs begins few = λ a q x client v forgets. v.0
  counted_remembered h open_inputs (takes b g before older run free rdy) few =
      let less : operations_of older ≤ 2 * most_committed_operations =
      few_before decl script accepted sound older (marked b (step_of g) ∷ []) few in
      taken_remembered older b g (what_is_ready_was_sent (IsLawful decl) decl script older before run b g rdy)
      (unforgotten decl script accepted sound older before run less) (counted_remembered older before run less)
  counted_remembered h open_inputs (posts b turn before older run taken law) few =
      posted_remembered older b turn
      (counted_remembered older before run
      (few_before decl script accepted sound older (by_actor b (posted (length (mail older)) turn)) few))
  counted_remembered h open_inputs (phase before older run none done quiet_all left) few =
      same_votes older (older ++ marked (controller decl) (steps.Phase (phase_of older + 1)) ∷ [])
      (λ a. account_silent decl a (controller decl) older (steps.Phase (phase_of older + 1))
      (phase_silent (phase_of older + 1)))
      (counted_remembered older before run
      (few_before decl script accepted sound older
      (marked (controller decl) (steps.Phase (phase_of older + 1)) ∷ []) few))
  counted_remembered h open_inputs (control line lines step before older run left is) few =
      same_votes older (older ++ marked (controller decl) step ∷ [])
      (λ a. account_silent decl a (controller decl) older step (control_silent line step is))
      (counted_remembered older before run
      (few_before decl script accepted sound older (marked (controller decl) step ∷ []) few))

  -- what is told

  sends_tell : (n : ℕ) (ps : List Posting) (told : Option Reply) (reply : Reply)
      → In (Tells reply) (sends_of n ps ++ tells_of told) → told ≡ Some reply
  sends_tell n [] None reply among = absurd among
  sends_tell n [] (Some r) reply (inl same) = ap reply_in (sym same)
    where
      reply_in : Deed → Option Reply
      reply_in (Takes g) = None
      reply_in (Tells x) = Some x
      reply_in _ = None
  sends_tell n [] (Some r) reply (inr never) = absurd never
  sends_tell n (p ∷ ps) told reply (inl same) = absurd (let never : ⊥ = cc in never)
  sends_tell n (p ∷ ps) told reply (inr there) = sends_tell (n + 1) ps told reply there

  turn_tells : (n : ℕ) (turn : Turn) (reply : Reply) → In (Tells reply) (turn_deeds n turn) → turn.told ≡ Some reply
  turn_tells n turn reply among = by turn.write among
    where
      by : (w : Option Record) → In (Tells reply) (writes_of w ++ (sends_of n turn.sends ++ tells_of turn.told))
          → turn.told ≡ Some reply
      by None there = sends_tell n turn.sends turn.told reply there
      by (Some w) (inl same) = absurd (let never : ⊥ = cc in never)
      by (Some w) (inr there) = sends_tell n turn.sends turn.told reply there

  abbrev pub IsNeverTold : List Entry → Type 0
  IsNeverTold h = (a site : ℕ) → In (Tells (replies.Aborted (causes.Forgot site))) (deeds a [] h) → ⊥

  posted_tells : (h : List Entry) (open_inputs : List Bool) (run : Runs (IsLawful decl) decl script h open_inputs)
      → operations_of h ≤ 2 * most_committed_operations → (b : ℕ) (turn : Turn) → slice_get open_inputs b ≡ Some true
      → IsLawful decl b (deeds b [] h) turn
      → (site : ℕ) → In (Tells (replies.Aborted (causes.Forgot site))) (turn_deeds (length (mail h)) turn) → ⊥
  posted_tells h open_inputs run few b turn taken law site among =
      elim (who decl script accepted sound h open_inputs run few b turn taken law) [
        | inl here ↦
            every-In IsMuteDeed (Tells (replies.Aborted (causes.Forgot site)))
            (deeds b [] h ++ turn_deeds (length (mail h)) turn)
            (sites_mute decl b here (deeds b [] h ++ turn_deeds (length (mail h)) turn) false
            (length (mail h) + length turn.sends)
            (acts_post (deeds b [] h) turn acts.above (length (mail h)) acts.acts acts.within law))
            (In-second (Tells (replies.Aborted (causes.Forgot site))) (deeds b [] h) (turn_deeds (length (mail h)) turn)
            among)
        | inr client ↦ (
            let told : turn.told ≡ Some (replies.Aborted (causes.Forgot site)) =
            turn_tells (length (mail h)) turn (replies.Aborted (causes.Forgot site)) among in
            let v : IsForgottenVote decl (account decl b h) site =
            due_why decl (account decl b h) site
            (sym (turns_tell_their_rows decl b client (deeds b [] h) acts.above turn acts.acts law) ∙ told) in
            counted_remembered h open_inputs run few b v.0 v.1 client v.2 v.3)
      ]
    where
      acts : ActsIn decl b h true
      acts = actors_take_and_post_by_turns decl script h open_inputs run b true taken

  pub never_told : (h : List Entry) (open_inputs : List Bool) → Runs (IsLawful decl) decl script h open_inputs
      → operations_of h ≤ 2 * most_committed_operations → IsNeverTold h
  never_told h open_inputs begins few = λ a site among. among
  never_told h open_inputs (takes b g before older run free rdy) few =
      by (never_told older before run (few_before decl script accepted sound older (marked b (step_of g) ∷ []) few))
    where
      by : IsNeverTold older → IsNeverTold (older ++ marked b (step_of g) ∷ [])
      by old a site among = at (b == a) refl
        where
          at : (t : Bool) → (b == a) ≡ t → ⊥
          at false other =
              old a site
              (subst (λ (v : List Deed). In (Tells (replies.Aborted (causes.Forgot site))) v)
              (deeds-other b a [] older (step_of g ∷ []) other) among)
          at true same =
              elim (In-more (Tells (replies.Aborted (causes.Forgot site))) (Takes g) (deeds a [] older)
              (subst (λ (v : List Deed). In (Tells (replies.Aborted (causes.Forgot site))) v)
              (subst (λ (k : ℕ). deeds k [] (older ++ marked b (step_of g) ∷ []) ≡ deeds k [] older ++ Takes g ∷ [])
              (eqb-true b a same)
              (deeds-taken b older g (what_is_ready_was_sent (IsLawful decl) decl script older before run b g rdy)))
              among)) [
                | inl there ↦ old a site there
                | inr never ↦ (let none : ⊥ = cc in none)
              ]
  never_told h open_inputs (posts b turn before older run taken law) few =
      by (never_told older before run
      (few_before decl script accepted sound older (by_actor b (posted (length (mail older)) turn)) few))
      (few_before decl script accepted sound older (by_actor b (posted (length (mail older)) turn)) few)
    where
      by : IsNeverTold older → operations_of older ≤ 2 * most_committed_operations
          → IsNeverTold (older ++ by_actor b (posted (length (mail older)) turn))
      by old less a site among = at (b == a) refl
        where
          at : (t : Bool) → (b == a) ≡ t → ⊥
          at false other =
              old a site
              (subst (λ (v : List Deed). In (Tells (replies.Aborted (causes.Forgot site))) v)
              (deeds-other b a [] older (posted (length (mail older)) turn) other) among)
          at true same =
              elim (In-either (Tells (replies.Aborted (causes.Forgot site))) (deeds b [] older)
              (turn_deeds (length (mail older)) turn)
              (subst (λ (v : List Deed). In (Tells (replies.Aborted (causes.Forgot site))) v)
              (deeds-posted b (length (mail older)) older turn)
              (subst (λ (k : ℕ). In (Tells (replies.Aborted (causes.Forgot site)))
              (deeds k [] (older ++ by_actor b (posted (length (mail older)) turn)))) (sym (eqb-true b a same))
              among))) [
                | inl there ↦ old b site there
                | inr now ↦ posted_tells older before run less b turn taken law site now
              ]
  never_told h open_inputs (phase before older run none done quiet_all left) few =
      λ a site among. never_told older before run
      (few_before decl script accepted sound older
      (marked (controller decl) (steps.Phase (phase_of older + 1)) ∷ []) few) a site
      (subst (λ (v : List Deed). In (Tells (replies.Aborted (causes.Forgot site))) v)
      (deeds-silent a (controller decl) older (steps.Phase (phase_of older + 1))
      (phase_silent (phase_of older + 1))) among)
  never_told h open_inputs (control line lines step before older run left is) few =
      λ a site among. never_told older before run
      (few_before decl script accepted sound older (marked (controller decl) step ∷ []) few) a site
      (subst (λ (v : List Deed). In (Tells (replies.Aborted (causes.Forgot site))) v)
      (deeds-silent a (controller decl) older step (control_silent line step is)) among)
