-- So in no run an open vote has an answer that says that its site has forgotten, and none counts.
use Rattle.std.proofs.Common.{[], ◌*◌, ◌≡◌, ◌⊎◌, ◌<◌, ◌≤◌, ◌+◌, ◌-◌, ◌==◌, ℕ, Bool, true, false, cond, List, ◌∷◌, ◌++◌}
use Rattle.std.proofs.Common.{inl, inr, length, Some, None, slice_get, refl, sym, ap, ◌∙◌, subst, arith, eqb-true}
use Rattle.std.proofs.Common.{length-append}
use Rattle.std.specs.Prelude.{fold}
use Rattle.qc_stamp.specs.declared.stamp.TxId.{TxId}
use Rattle.qc_list.specs.Vocabulary.{In}
use Rattle.qc_list.proofs.Members.{In-last, every-In, In-either}
use Rattle.qc_core.specs.Vocabulary.{IsLawful}
use Rattle.qc_decl.specs.declared.declaration.Declaration.{Declaration}
use Rattle.qc_decl.specs.Vocabulary.{IsAccepted, controller, is_client, is_site, most_committed_operations}
use Rattle.qc_msg.specs.declared.message.Answer.{Answer}
use Rattle.qc_msg.specs.declared.message.Envelope.{Envelope}
use Rattle.qc_msg.specs.declared.message.Message.TheVariants as messages
use Rattle.qc_msg.specs.declared.step.Input.{Input}
use Rattle.qc_msg.specs.declared.step.Input.TheVariants as inputs
use Rattle.qc_msg.specs.declared.step.Step.TheVariants as steps
use Rattle.qc_msg.specs.declared.turn.Posting.{Posting}
use Rattle.qc_msg.specs.declared.turn.Turn.{Turn}
use Rattle.qc_msg.specs.Vocabulary.{Deed, Entry, Takes, WasSentTo, by as by_actor, deeds, envelopes, mail, marked}
use Rattle.qc_msg.specs.Vocabulary.{operations_of, posted, step_of, turn_deeds}
use Rattle.qc_msg.proofs.GrownMail.{mail-append, mail-posted, mail-taken}
use Rattle.qc_msg.proofs.Growth.{operations-grow}
use Rattle.qc_promise.specs.Vocabulary.{Account, ClientRequest, account, account_at, account_taken}
use Rattle.qc_script.specs.Vocabulary.{IsScriptFor, Runs, phase_of}
use Rattle.qc_script.specs.Runs.{begins, takes, posts, phase, control}
use Rattle.qc_script.specs.declared.script.Script.{Script}
use Rattle.qc_client.specs.Vocabulary.{ClientMove, client_after, client_takes}
use Rattle.qc_site.specs.Vocabulary.{SiteMove, site_after}
use Rattle.laws_turns.proofs.Acted.{actors_take_and_post_by_turns}
use Rattle.laws_turns.proofs.Arrivals.{what_is_ready_was_sent}
use Rattle.laws_turns.proofs.Numbered.{control_silent, mail-silent, phase_silent}
use Rattle.laws_turns.proofs.Proper.{run_proper}
use Rattle.laws_turns.proofs.SiteReplies.{IsProperFrom}
use Rattle.laws_turns.proofs.TurnReplies.{after_taken as after_given}
use Rattle.laws_turns.proofs.Served.{lawful_site}
use Rattle.laws_turns.specs.Vocabulary.{ActsIn}
use Rattle.laws_due.proofs.Commands.{lawful_turn}
use Rattle.laws_due.proofs.Courses.{IsAtInput, client_acts}
use Rattle.laws_due.proofs.AccountDeclared.{scripts_ask_what_is_declared}
use Rattle.laws_refinement.proofs.Posts.{Place, placed}
use Rattle.laws_atomic.proofs.Stood.{OpenSite}
use Rattle.laws_guarantees.specs.Vocabulary.{IsOpenVote}
use Rattle.laws_guarantees.proofs.ClientTalks.{client_answers}
use Rattle.laws_guarantees.proofs.Grounds.{open_before, turn_old}
use Rattle.laws_guarantees.proofs.ForgettingAnswers.{Forgets}
use Rattle.laws_guarantees.proofs.AnswersToInputs.{IsAnswering, answers_inputs}
use Rattle.laws_guarantees.proofs.Stale.{remembered}
use Rattle.laws_guarantees.proofs.Voted.{stood}
use Rattle.laws_guarantees.proofs.AccountsStay.{IsAnswered, account_taken_is, account_posted_is, account_other}
use Rattle.laws_guarantees.proofs.AccountsStay.{account_silent}
use Rattle.laws_atomic.proofs.Heard.{took_sent}
use Rattle.qc_list.proofs.Places.{place_within}

module _ (decl : Declaration) where
  -- an open vote after a turn was one before it, or has a number from this one on
  open_after : (d : Account) (n : ℕ) (turn : Turn) (q : ClientRequest)
      → IsOpenVote (fold (account_at decl) d (turn_deeds n turn)) q → IsOpenVote d q ⊎ (n ≤ q.number)
  open_after d n turn q k = elim (turn_old decl d n turn q k.among) [
    | inl old ↦ inl (record { among = old; want = k.want; untaken = k.untaken })
    | inr new ↦ inr new.0
  ]

module _ (decl : Declaration) (script : Script) (accepted : IsAccepted decl) (sound : IsScriptFor decl script) where
  pub record Unforgotten (h : List Entry) : Type 0 where
    pub low : (n : ℕ) (x : Answer) → IsAnswered (mail h) n x → n < length (mail h)
    pub votes : (a : ℕ) (q : ClientRequest) (x : Answer) → is_client decl a ≡ true → IsOpenVote (account decl a h) q
        → IsAnswered (mail h) q.number x → Forgets x → ⊥

  -- nothing was sent, and no vote is open that wasn't
  same_mail : (h k : List Entry) → mail k ≡ mail h
      → ((a : ℕ) (q : ClientRequest) → IsOpenVote (account decl a k) q → IsOpenVote (account decl a h) q)
      → Unforgotten h → Unforgotten k
  same_mail h k same fewer u = record {
    low =
        λ n x is. subst (λ (ms : List Envelope). n < length ms) (sym same)
        (u.low n x (subst (λ (ms : List Envelope). IsAnswered ms n x) same is));
    votes =
        λ a q x client vote is. u.votes a q x client (fewer a q vote)
        (subst (λ (ms : List Envelope). IsAnswered ms q.number x) same is);
  }

  -- an input is taken

  module _ (h : List Entry) (b : ℕ) (g : Input) (sent : WasSentTo b (mail h) g) where
    taken_open : (a : ℕ) (q : ClientRequest) → IsOpenVote (account decl a (h ++ marked b (step_of g) ∷ [])) q
        → IsOpenVote (account decl a h) q
    taken_open a q k = at (b == a) refl
      where
        at : (t : Bool) → (b == a) ≡ t → IsOpenVote (account decl a h) q
        at false other = subst (λ (d : Account). IsOpenVote d q) (account_other decl b a h (step_of g ∷ []) other) k
        at true same =
            let here : b ≡ a = eqb-true b a same in
            let now : IsOpenVote (account_taken (account decl a h) g) q =
            subst (λ (d : Account). IsOpenVote d q)
            (account_taken_is decl a h g (subst (λ (n : ℕ). WasSentTo n (mail h) g) here sent))
            (subst (λ (n : ℕ). IsOpenVote (account decl a (h ++ marked n (step_of g) ∷ [])) q) here k) in
            record {
              among = open_before decl (account decl a h) g q now.untaken now.among;
              want = now.want;
              untaken = now.untaken;
            }

    pub unforgotten_taken : Unforgotten h → Unforgotten (h ++ marked b (step_of g) ∷ [])
    unforgotten_taken u = same_mail h (h ++ marked b (step_of g) ∷ []) (mail-taken h b g) taken_open u

  -- a turn is posted

  module _ (h : List Entry) (open_inputs : List Bool) (run : Runs (IsLawful decl) decl script h open_inputs)
      (few : operations_of h ≤ 2 * most_committed_operations) (b : ℕ) (turn : Turn)
      (taken : slice_get open_inputs b ≡ Some true) (law : IsLawful decl b (deeds b [] h) turn) where
    abbrev more : List Envelope
    more = envelopes b (length (mail h)) turn.sends

    mail_is : mail (h ++ by_actor b (posted (length (mail h)) turn))
        ≡ mail h ++ envelopes b (length (mail h)) turn.sends
    mail_is =
        mail-append h (by_actor b (posted (length (mail h)) turn))
        ∙ ap (λ (ms : List Envelope). mail h ++ ms) (mail-posted b (length (mail h)) turn)

    -- an answer of the turn
    pub record IsPosted (n : ℕ) (x : Answer) : Type 0 where
      pub posting : Posting
      pub among : In posting turn.sends
      pub is : posting.message ≡ messages.Answer n x

    old_or_posted : (n : ℕ) (x : Answer) → IsAnswered (mail (h ++ by_actor b (posted (length (mail h)) turn))) n x
        → IsAnswered (mail h) n x ⊎ IsPosted n x
    old_or_posted n x k =
        elim (In-either k.envelope (mail h) more (subst (λ (ms : List Envelope). In k.envelope ms) mail_is k.sent)) [
          | inl old ↦ inl (record { envelope = k.envelope; sent = old; is = k.is })
          | inr new ↦ (let p : Place b turn.sends (mail h ++ more) k.envelope =
              placed (mail h) b (length (mail h)) turn.sends k.envelope refl new in
              inr (record { posting = p.posting; among = p.among; is = sym p.message ∙ k.is }))
        ]

    -- a client answers nothing
    client_posts : is_client decl b ≡ true → (n : ℕ) (x : Answer) → IsPosted n x → ⊥
    client_posts client n x k =
        let acts : ActsIn decl b h true = actors_take_and_post_by_turns decl script h open_inputs run b true taken in
        by (client_acts decl b client (deeds b [] h) true acts.above acts.acts)
      where
        asked_nothing : (before : List Deed) (g : Input) → deeds b [] h ≡ before ++ Takes g ∷ []
            → (e : Envelope) × (g ≡ inputs.Got e) × ((tx : TxId) × (e.message ≡ messages.Ask tx)) → ⊥
        asked_nothing before g is r =
            let takes_it : In (Takes (inputs.Got r.0)) (deeds b [] h) =
            subst (λ (ds : List Deed). In (Takes (inputs.Got r.0)) ds) (sym is)
            (subst (λ (y : Input). In (Takes (inputs.Got r.0)) (before ++ Takes y ∷ [])) (sym r.1)
            (In-last (Takes (inputs.Got r.0)) before)) in
            let proper : IsProperFrom decl r.0.from r.0.to r.0.message =
            every-In (λ (y : Envelope). IsProperFrom decl y.from y.to y.message) r.0 (mail h)
            (run_proper decl script accepted (scripts_ask_what_is_declared decl script accepted sound) h open_inputs
            run)
            (took_sent b [] h r.0 takes_it) in
            subst (IsProperFrom decl r.0.from r.0.to) r.2.1 proper

        by : IsAtInput decl b client (deeds b [] h) → ⊥
        by at =
            let is : turn ≡ (client_takes decl (client_after decl (b - decl.sites) at.before).client at.given).turn =
            lawful_turn decl b (deeds b [] h) turn client law
            ∙ ap (λ (ds : List Deed). (client_after decl (b - decl.sites) ds).turn) at.is
            ∙ ap (λ (m : ClientMove). m.turn) (after_given decl (b - decl.sites) at.before at.given) in
            asked_nothing at.before at.given at.is
            (client_answers decl (client_after decl (b - decl.sites) at.before).client at.given k.posting n x
            (subst (λ (t : Turn). In k.posting t.sends) is k.among) k.is)

    -- a site answers a request that it took

    site_turn : is_site decl b ≡ true → turn ≡ (site_after decl b (deeds b [] h)).turn
    site_turn site = lawful_site decl b site (deeds b [] h) turn law

    site_posts : is_site decl b ≡ true → (n : ℕ) (x : Answer) → IsPosted n x → n < length (mail h)
    site_posts site n x k = by (((stood decl script accepted sound h open_inputs run).sites_are b site).opened taken)
      where
        by : OpenSite decl ((stood decl script accepted sound h open_inputs run).net.sites b) b h → n < length (mail h)
        by o =
            let r : IsAnswering o.given n =
            answers_inputs decl ((stood decl script accepted sound h open_inputs run).net.sites b) o.given k.posting
            n x
            (subst (λ (m : SiteMove). In k.posting m.turn.sends) o.is
            (subst (λ (t : Turn). In k.posting t.sends) (site_turn site) k.among)) k.is in
            let sent : (slice_get (mail h) r.envelope.number ≡ Some r.envelope) × (r.envelope.to ≡ b) =
            subst (WasSentTo b (mail h)) r.is o.sent in
            subst (λ (m : ℕ). m < length (mail h)) r.numbered
            (place_within (mail h) r.envelope.number r.envelope sent.0)

    -- who posts is a site or a client
    pub who : (is_site decl b ≡ true) ⊎ (is_client decl b ≡ true)
    who = at (is_site decl b) (is_client decl b) refl refl law
      where
        at : (s c : Bool) → is_site decl b ≡ s → is_client decl b ≡ c
            → cond s (Some (site_after decl b (deeds b [] h)).turn)
            (cond c (Some (client_after decl (b - decl.sites) (deeds b [] h)).turn) None) ≡ Some turn
            → (is_site decl b ≡ true) ⊎ (is_client decl b ≡ true)
        at true c site client is = inl site
        at false true site client is = inr client
        at false false site client is = absurd (let never : ⊥ = cc in never)

    posted_low : (n : ℕ) (x : Answer) → IsPosted n x → n < length (mail h)
    posted_low n x k = elim who [ inl site ↦ site_posts site n x k | inr client ↦ absurd (client_posts client n x k) ]

    longer : (n : ℕ) → n < length (mail h) → n < length (mail (h ++ by_actor b (posted (length (mail h)) turn)))
    longer n low =
        let sum : length (mail h ++ more) ≡ length (mail h) + length more = length-append (mail h) more in
        subst (λ (ms : List Envelope). n < length ms) (sym mail_is) (omega arith)

    -- a client that doesn't post
    elsewhere : Unforgotten h → (a : ℕ) (q : ClientRequest) (x : Answer) → is_client decl a ≡ true
        → IsOpenVote (account decl a h) q → IsAnswered (mail h) q.number x ⊎ IsPosted q.number x → Forgets x → ⊥
    elsewhere u a q x client vote (inl old) forgets = u.votes a q x client vote old forgets
    elsewhere u a q x client vote (inr new) forgets = elim who [
      | inl site ↦
          remembered decl script accepted sound h open_inputs run few a client q vote b site taken new.posting q.number
          x (subst (λ (t : Turn). In new.posting t.sends) (site_turn site) new.among) new.is forgets refl
      | inr other ↦ client_posts other q.number x new
    ]

    -- the client that posts
    itself : Unforgotten h → is_client decl b ≡ true → (q : ClientRequest) (x : Answer)
        → IsOpenVote (account decl b (h ++ by_actor b (posted (length (mail h)) turn))) q
        → IsAnswered (mail h) q.number x ⊎ IsPosted q.number x → Forgets x → ⊥
    itself u client q x vote (inr new) forgets = client_posts client q.number x new
    itself u client q x vote (inl old) forgets =
        elim (open_after decl (account decl b h) (length (mail h)) turn q
        (subst (λ (d : Account). IsOpenVote d q) (account_posted_is decl b (length (mail h)) h turn) vote)) [
          | inl there ↦ u.votes b q x client there old forgets
          | inr new ↦ (let low : q.number < length (mail h) = u.low q.number x old in omega arith)
        ]

    pub unforgotten_posted : Unforgotten h → Unforgotten (h ++ by_actor b (posted (length (mail h)) turn))
    unforgotten_posted u = record {
      low = λ n x k. longer n (elim (old_or_posted n x k) [ inl old ↦ u.low n x old | inr new ↦ posted_low n x new ]);
      votes = λ a q x client vote k forgets. by a q x client vote (old_or_posted q.number x k) forgets (b == a) refl;
    }
      where
        by : (a : ℕ) (q : ClientRequest) (x : Answer) → is_client decl a ≡ true
            → IsOpenVote (account decl a (h ++ by_actor b (posted (length (mail h)) turn))) q
            → IsAnswered (mail h) q.number x ⊎ IsPosted q.number x → Forgets x → (t : Bool) → (b == a) ≡ t → ⊥
        by a q x client vote k forgets false other =
            elsewhere u a q x client
            (subst (λ (d : Account). IsOpenVote d q) (account_other decl b a h (posted (length (mail h)) turn) other)
            vote) k forgets
        by a q x client vote k forgets true same =
            let here : a ≡ b = sym (eqb-true b a same) in
            itself u (subst (λ (n : ℕ). is_client decl n ≡ true) here client) q x
            (subst (λ (n : ℕ). IsOpenVote (account decl n (h ++ by_actor b (posted (length (mail h)) turn))) q) here
            vote) k forgets

  pub few_before : (h k : List Entry) → operations_of (h ++ k) ≤ 2 * most_committed_operations
      → operations_of h ≤ 2 * most_committed_operations
  few_before h k few = let more : operations_of h ≤ operations_of (h ++ k) = operations-grow h k in omega arith

  pub unforgotten : (h : List Entry) (open_inputs : List Bool) → Runs (IsLawful decl) decl script h open_inputs
      → operations_of h ≤ 2 * most_committed_operations → Unforgotten h
  unforgotten h open_inputs begins few =
      record { low = λ n x k. absurd k.sent; votes = λ a q x client vote k forgets. k.sent }
  unforgotten h open_inputs (takes b g before older run free rdy) few =
      unforgotten_taken older b g (what_is_ready_was_sent (IsLawful decl) decl script older before run b g rdy)
      (unforgotten older before run (few_before older (marked b (step_of g) ∷ []) few))
  unforgotten h open_inputs (posts b turn before older run taken law) few =
      let less : operations_of older ≤ 2 * most_committed_operations =
      few_before older (by_actor b (posted (length (mail older)) turn)) few in
      unforgotten_posted older before run less b turn taken law (unforgotten older before run less)
  unforgotten h open_inputs (phase before older run none done quiet_all left) few =
      same_mail older (older ++ marked (controller decl) (steps.Phase (phase_of older + 1)) ∷ [])
      (mail-silent older (controller decl) (steps.Phase (phase_of older + 1)) (phase_silent (phase_of older + 1)))
      (λ a q k. subst (λ (d : Account). IsOpenVote d q)
      (account_silent decl a (controller decl) older (steps.Phase (phase_of older + 1))
      (phase_silent (phase_of older + 1))) k)
      (unforgotten older before run
      (few_before older (marked (controller decl) (steps.Phase (phase_of older + 1)) ∷ []) few))
  unforgotten h open_inputs (control line lines step before older run left is) few =
      same_mail older (older ++ marked (controller decl) step ∷ [])
      (mail-silent older (controller decl) step (control_silent line step is))
      (λ a q k. subst (λ (d : Account). IsOpenVote d q)
      (account_silent decl a (controller decl) older step (control_silent line step is)) k)
      (unforgotten older before run (few_before older (marked (controller decl) step ∷ []) few))
