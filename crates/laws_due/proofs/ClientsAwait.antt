-- In each run with falls each open request of a client that is up is awaited: it is lost, or unanswered, or a copy of
-- an answer is ready.
use Rattle.std.proofs.Common.{[], ◌≡◌, ℕ, ◌+◌, ◌-◌, ◌<◌, ◌≤◌, ◌==◌, Bool, true, false, List, ◌∷◌, ◌++◌, length, Some}
use Rattle.std.proofs.Common.{None, refl, sym, ap, ◌∙◌, subst, eqb-true, arith}
use Rattle.std.specs.Prelude.{fold}
use Rattle.std.proofs.lemmas.List.Sums.{fold-append}
use Rattle.qc_decl.proofs.Clients.{client_within}
use Rattle.qc_list.specs.Vocabulary.{In}
use Rattle.qc_core.proofs.ByNumber.{client_new, client_risen}
use Rattle.qc_core.proofs.PostsByTurns.{called_turn}
use Rattle.qc_core.specs.declared.actor.Actor.{Actor}
use Rattle.qc_core.specs.declared.actor.Actor.TheVariants as actors
use Rattle.qc_core.specs.Vocabulary.{ActorMove, IsLawfulWithFalls, actor_after, actor_does, actor_rises, moved}
use Rattle.qc_core.specs.Vocabulary.{new_actor, with_record}
use Rattle.qc_core.specs.Lives as lives
use Rattle.qc_core.proofs.LivesOfActors as laws
use Rattle.qc_decl.specs.declared.declaration.Declaration.{Declaration}
use Rattle.qc_decl.specs.Actors as numbers
use Rattle.qc_decl.specs.Vocabulary.{controller, is_client}
use Rattle.qc_recover.specs.Vocabulary.{client_rises, rising}
use Rattle.qc_client.specs.declared.client.Client.{Client}
use Rattle.qc_client.specs.Vocabulary.{new_client}
use Rattle.qc_mailbox.proofs.FallLaws.{inboxes_know_who_is_up}
use Rattle.qc_mailbox.proofs.FallMail.{ready_messages_were_sent_through_falls}
use Rattle.laws_turns.specs.Vocabulary.{IsAwaited, open_calls}
use Rattle.laws_turns.proofs.Acted.{deeds-silent}
use Rattle.qc_link.specs.Vocabulary.{most_actors}
use Rattle.laws_turns.proofs.Downs.{who_is_down_only_tells, up_is}
use Rattle.laws_turns.proofs.LivedMoves.{deeds-fall}
use Rattle.qc_msg.specs.declared.call.Call.{Call}
use Rattle.qc_msg.specs.declared.record.Record.{Record}
use Rattle.qc_msg.specs.declared.record.Record.TheVariants as records
use Rattle.qc_msg.specs.declared.step.Fall.TheVariants as causes
use Rattle.qc_msg.specs.declared.step.Step.{Step}
use Rattle.qc_msg.specs.declared.step.Step.TheVariants as steps
use Rattle.qc_msg.specs.declared.turn.Appended.{Appended}
use Rattle.qc_msg.specs.declared.turn.Appended.TheVariants.{Done, Failed, Stopped}
use Rattle.qc_msg.specs.declared.turn.Turn.{Turn}
use Rattle.qc_msg.specs.Vocabulary.{Deed, Entry, Rises, Takes, Writes, by, deeds, deeds_as, mail, marked, posted}
use Rattle.qc_msg.specs.Vocabulary.{posted_as, quiet, step_of, turn_deeds}
use Rattle.qc_msg.proofs.DeedsGrow.{deeds-other, deeds-rise}
use Rattle.qc_msg.proofs.Growth.{deeds-posted_as, deeds-taken}
use Rattle.qc_script.proofs.AllUp.{is_up-everybody}
use Rattle.qc_script.specs.declared.script.Script.{Script}
use Rattle.qc_script.specs.Vocabulary.{Inbox, RunsWithFalls, begins, control, damaged, empty_inbox, everybody, falls}
use Rattle.qc_script.specs.Vocabulary.{inbox, is_up, phase, phase_of, posts, ready, rises, takes, unopened}
use Rattle.laws_due.proofs.Places.{rose_split}
use Rattle.laws_due.proofs.Telling.{broken_down}
use Rattle.laws_due.proofs.Covered.{Awaits, one_step, others_steps, own_take, own_turn, step_in}
use Rattle.qc_list.proofs.Numbers.{numbers_apart}

module _ (decl : Declaration) (script : Script) (a : ℕ) where
  abbrev pub AwaitsIn : List Entry → Type 0
  AwaitsIn h = Awaits a (actor_after decl a (deeds a [] h)).actor (inbox script a h)

  inbox_more : (h k : List Entry) → inbox script a (h ++ k) ≡ fold (step_in decl script a) (inbox script a h) k
  inbox_more h k = fold-append (step_in decl script a) empty_inbox h k

  actor_more : (ds more : List Deed)
      → actor_after decl a (ds ++ more) ≡ fold (actor_does decl a) (actor_after decl a ds) more
  actor_more ds more = fold-append (actor_does decl a) (moved (new_actor decl a) quiet) ds more

  goes_on : (h k : List Entry) (more : List Deed) → deeds a [] (h ++ k) ≡ deeds a [] h ++ more
      → Awaits a (fold (actor_does decl a) (actor_after decl a (deeds a [] h)) more).actor
      (fold (step_in decl script a) (inbox script a h) k) → AwaitsIn (h ++ k)
  goes_on h k more is are =
      subst (λ (m : ActorMove). Awaits a m.actor (inbox script a (h ++ k)))
      (sym (ap (actor_after decl a) is ∙ actor_more (deeds a [] h) more))
      (subst (λ (i : Inbox). Awaits a (fold (actor_does decl a) (actor_after decl a (deeds a [] h)) more).actor i)
      (sym (inbox_more h k)) are)

  stays_on : (h k : List Entry) → deeds a [] (h ++ k) ≡ deeds a [] h
      → Awaits a (actor_after decl a (deeds a [] h)).actor (fold (step_in decl script a) (inbox script a h) k)
      → AwaitsIn (h ++ k)
  stays_on h k is are =
      subst (λ (ds : List Deed). Awaits a (actor_after decl a ds).actor (inbox script a (h ++ k))) (sym is)
      (subst (λ (i : Inbox). Awaits a (actor_after decl a (deeds a [] h)).actor i) (sym (inbox_more h k)) are)

  -- one that is down awaits nothing
  down_awaits : (h : List Entry) → (actor_after decl a (deeds a [] h)).actor ≡ actors.Down → AwaitsIn h
  down_awaits h is = subst (λ (v : Actor). Awaits a v (inbox script a h)) (sym is) tt

  others_event : (older : List Entry) (b : ℕ) (xs : List Step) → (b == a) ≡ false → AwaitsIn older
      → AwaitsIn (older ++ by b xs)
  others_event older b xs other are =
      stays_on older (by b xs) (deeds-other b a [] older xs other)
      (others_steps decl script a (actor_after decl a (deeds a [] older)).actor (inbox script a older) b xs other are)

  -- of an actor that is no site

  module _ (fits : ℕ → List Record → Type 0) (few : numbers.actors decl ≤ most_actors)
      (within : a < numbers.actors decl) (first : Awaits a (new_actor decl a) empty_inbox)
      (turns : (kept : List Record) → (actor_rises decl a kept).turn ≡ rising [])
      (alive : (kept : List Record) → (actor_rises decl a kept).actor ≡ actors.Down → ⊥)
      (rises_awaited : (kept : List Record) (i : Inbox) → is_up i.up a ≡ true
      → Awaits a (actor_rises decl a kept).actor i) where
    abbrev IsRun : List Entry → List Bool → Type 0
    IsRun h open_inputs = RunsWithFalls (IsLawfulWithFalls decl) fits decl script h open_inputs

    not_controller : (controller decl == a) ≡ false
    not_controller =
        numbers_apart (controller decl) a
        (λ same. (let low : a < decl.sites + decl.clients + 1 = within in
        let is : decl.sites + decl.clients + 1 ≡ a = same in omega arith))

    low : a < most_actors
    low = omega arith

    -- one that is up is so by its inbox
    up_by_inbox : (h : List Entry) (open_inputs : List Bool) → IsRun h open_inputs
        → ((actor_after decl a (deeds a [] h)).actor ≡ actors.Down → ⊥) → is_up (inbox script a h).up a ≡ true
    up_by_inbox h open_inputs run living =
        inboxes_know_who_is_up (IsLawfulWithFalls decl) fits decl script h open_inputs few (who_is_down_only_tells decl)
        run a a
        low low
        ∙ sym (up_is (deeds a [] h)) ∙ by (lives.is_up (deeds a [] h)) refl
      where
        by : (u : Bool) → lives.is_up (deeds a [] h) ≡ u → u ≡ true
        by true up = refl
        by false down = absurd (living (laws.down decl a (deeds a [] h) down))

    own_posts : (older : List Entry) (n : ℕ) (turn : Turn) → AwaitsIn older
        → AwaitsIn (older ++ by a (posted_as turn.append n turn))
    own_posts older n turn are = at turn.append
      where
        at : (end : Appended) → AwaitsIn (older ++ by a (posted_as end n turn))
        at Done =
            goes_on older (by a (posted n turn)) (turn_deeds n turn) (deeds-posted_as Done a n older turn)
            (own_turn decl script a (actor_after decl a (deeds a [] older)) (inbox script a older) n turn are)
        at Failed =
            down_awaits (older ++ by a (posted_as Failed n turn))
            (ap (λ (ds : List Deed). (actor_after decl a ds).actor) (deeds-posted_as Failed a n older turn)
            ∙ broken_down decl a (deeds a [] older) Failed n turn (λ is. let never : ⊥ = cc in never))
        at Stopped =
            down_awaits (older ++ by a (posted_as Stopped n turn))
            (ap (λ (ds : List Deed). (actor_after decl a ds).actor) (deeds-posted_as Stopped a n older turn)
            ∙ broken_down decl a (deeds a [] older) Stopped n turn (λ is. let never : ⊥ = cc in never))

    -- one that rises waits for nothing

    own_rises : (older : List Entry) (kept : List Record) (n : ℕ) (turn : Turn) (open_inputs : List Bool)
        → IsRun (older ++ by a (steps.Rose kept ∷ posted_as turn.append n turn)) open_inputs
        → IsLawfulWithFalls decl a (deeds a [] (older ++ marked a (steps.Rose kept) ∷ [])) turn
        → AwaitsIn (older ++ by a (steps.Rose kept ∷ posted_as turn.append n turn))
    own_rises older kept n turn open_inputs run law = at turn.append refl
      where
        is_deeds : deeds a [] (older ++ by a (steps.Rose kept ∷ posted_as turn.append n turn))
            ≡ (deeds a [] older ++ Rises kept ∷ []) ++ deeds_as turn.append n turn
        is_deeds = rose_split a older kept turn.append n turn

        risen_to : actor_after decl a (deeds a [] older ++ Rises kept ∷ []) ≡ actor_rises decl a kept
        risen_to = actor_more (deeds a [] older) (Rises kept ∷ [])

        rising_is : rising [] ≡ with_record turn
        rising_is =
            sym (turns kept) ∙ sym (ap (λ (m : ActorMove). m.turn) risen_to)
            ∙ called_turn decl a (deeds a [] older ++ Rises kept ∷ []) turn
            (subst (λ (ds : List Deed). IsLawfulWithFalls decl a ds turn) (deeds-rise a older kept) law)

        broken : (end : Appended) → turn.append ≡ end → (end ≡ Done → ⊥)
            → AwaitsIn (older ++ by a (steps.Rose kept ∷ posted_as turn.append n turn))
        broken end is unwritten =
            down_awaits (older ++ by a (steps.Rose kept ∷ posted_as turn.append n turn))
            (ap (λ (ds : List Deed). (actor_after decl a ds).actor)
            (is_deeds ∙ ap (λ (end : Appended). (deeds a [] older ++ Rises kept ∷ []) ++ deeds_as end n turn) is)
            ∙ broken_down decl a (deeds a [] older ++ Rises kept ∷ []) end n turn unwritten)

        at : (end : Appended) → turn.append ≡ end
            → AwaitsIn (older ++ by a (steps.Rose kept ∷ posted_as turn.append n turn))
        at Done is =
            subst (λ (v : Actor). Awaits a v
            (inbox script a (older ++ by a (steps.Rose kept ∷ posted_as turn.append n turn)))) (sym risen)
            (rises_awaited kept (inbox script a (older ++ by a (steps.Rose kept ∷ posted_as turn.append n turn)))
            (up_by_inbox _ open_inputs run (λ down. alive kept (sym risen ∙ down))))
          where
            written : (actor_after decl a ((deeds a [] older ++ Rises kept ∷ []) ++ Writes records.Life ∷ [])).actor
                ≡ (actor_rises decl a kept).actor
            written =
                ap (λ (m : ActorMove). m.actor)
                (actor_more (deeds a [] older ++ Rises kept ∷ []) (Writes records.Life ∷ []) ∙ risen_to)

            risen :
                (actor_after decl a (deeds a [] (older ++ by a (steps.Rose kept ∷ posted_as turn.append n turn)))).actor
                ≡ (actor_rises decl a kept).actor
            risen =
                ap (λ (ds : List Deed). (actor_after decl a ds).actor) (is_deeds
                ∙ ap (λ (end : Appended). (deeds a [] older ++ Rises kept ∷ []) ++ deeds_as end n turn) is
                ∙ ap (λ (t : Turn). (deeds a [] older ++ Rises kept ∷ []) ++ turn_deeds n t) (sym rising_is))
                ∙ written
        at Failed is = broken Failed is (λ no. let never : ⊥ = cc in never)
        at Stopped is = broken Stopped is (λ no. let never : ⊥ = cc in never)

    pub run_awaits : (h : List Entry) (open_inputs : List Bool) → IsRun h open_inputs → AwaitsIn h
    run_awaits h open_inputs begins = first
    run_awaits h open_inputs (takes b g before older run free rdy) = at (b == a) refl (run_awaits older before run)
      where
        at : (t : Bool) → (b == a) ≡ t → AwaitsIn older → AwaitsIn (older ++ marked b (step_of g) ∷ [])
        at true same are =
            let is : b ≡ a = eqb-true b a same in
            let sent : deeds b [] (older ++ marked b (step_of g) ∷ []) ≡ deeds b [] older ++ Takes g ∷ [] =
            deeds-taken b older g
            (ready_messages_were_sent_through_falls (IsLawfulWithFalls decl) fits decl script older before run b g rdy)
            in
            subst (λ (k : ℕ). AwaitsIn (older ++ marked k (step_of g) ∷ [])) (sym is)
            (goes_on older (marked a (step_of g) ∷ []) (Takes g ∷ [])
            (subst (λ (k : ℕ). deeds k [] (older ++ marked k (step_of g) ∷ []) ≡ deeds k [] older ++ Takes g ∷ [])
            is sent)
            (own_take decl script a (actor_after decl a (deeds a [] older)).actor (inbox script a older) g
            (subst (λ (k : ℕ). ready decl script k older ≡ Some g) is rdy) are))
        at false other are = others_event older b (step_of g ∷ []) other are
    run_awaits h open_inputs (posts b turn before older run taken law) = at (b == a) refl (run_awaits older before run)
      where
        at : (t : Bool) → (b == a) ≡ t → AwaitsIn older
            → AwaitsIn (older ++ by b (posted_as turn.append (length (mail older)) turn))
        at true same are =
            subst (λ (k : ℕ). AwaitsIn (older ++ by k (posted_as turn.append (length (mail older)) turn)))
            (sym (eqb-true b a same)) (own_posts older (length (mail older)) turn are)
        at false other are = others_event older b (posted_as turn.append (length (mail older)) turn) other are
    run_awaits h open_inputs (phase before older run none done quiet_all more) =
        others_event older (controller decl) (steps.Phase (phase_of older + 1) ∷ []) not_controller
        (run_awaits older before run)
    run_awaits h open_inputs (control line lines step before older run left is) =
        others_event older (controller decl) (step ∷ []) not_controller (run_awaits older before run)
    run_awaits h open_inputs (falls b lines before older run left) = at (b == a) refl (run_awaits older before run)
      where
        at : (t : Bool) → (b == a) ≡ t → AwaitsIn older → AwaitsIn (older ++ by b (steps.Fell causes.Script None ∷ []))
        at true same are =
            subst (λ (k : ℕ). AwaitsIn (older ++ by k (steps.Fell causes.Script None ∷ []))) (sym (eqb-true b a same))
            (down_awaits (older ++ by a (steps.Fell causes.Script None ∷ []))
            (ap (λ (ds : List Deed). (actor_after decl a ds).actor) (deeds-fall a older causes.Script)
            ∙ ap (λ (m : ActorMove). m.actor) (laws.falls decl a (deeds a [] older) causes.Script None)))
        at false other are = others_event older b (steps.Fell causes.Script None ∷ []) other are
    run_awaits h open_inputs (rises b kept turn lines before older run left fit has law) =
        at (b == a) refl (run_awaits older before run)
      where
        at : (t : Bool) → (b == a) ≡ t → AwaitsIn older
            → AwaitsIn (older ++ by b (steps.Rose kept ∷ posted_as turn.append (length (mail older)) turn))
        at true same are =
            let is : b ≡ a = eqb-true b a same in
            subst (λ (k : ℕ). AwaitsIn (older
            ++ by k (steps.Rose kept ∷ posted_as turn.append (length (mail older)) turn))) (sym is)
            (own_rises older kept (length (mail older)) turn before
            (subst (λ (k : ℕ). IsRun
            (older ++ by k (steps.Rose kept ∷ posted_as turn.append (length (mail older)) turn)) before) is
            (rises b kept turn lines before older run left fit has law))
            (subst (λ (k : ℕ). IsLawfulWithFalls decl k (deeds k [] (older ++ marked k (steps.Rose kept) ∷ [])) turn) is
            law))
        at false other are =
            others_event older b (steps.Rose kept ∷ posted_as turn.append (length (mail older)) turn) other are
    run_awaits h open_inputs (damaged b offset lines before older run left) =
        stays_on older (marked b (steps.Damaged offset) ∷ [])
        (deeds-silent a b older (steps.Damaged offset) (record { sends = λ x. refl; deeds = λ ms. refl }))
        (one_step decl script a (actor_after decl a (deeds a [] older)).actor (inbox script a older) b
        (steps.Damaged offset) tt tt (run_awaits older before run))
    run_awaits h open_inputs (unopened b cause lines before older run left disk) =
        at (b == a) refl (run_awaits older before run)
      where
        at : (t : Bool) → (b == a) ≡ t → AwaitsIn older → AwaitsIn (older ++ by b (steps.Fell cause None ∷ []))
        at true same are =
            subst (λ (k : ℕ). AwaitsIn (older ++ by k (steps.Fell cause None ∷ []))) (sym (eqb-true b a same))
            (down_awaits (older ++ by a (steps.Fell cause None ∷ []))
            (ap (λ (ds : List Deed). (actor_after decl a ds).actor) (deeds-fall a older cause)
            ∙ ap (λ (m : ActorMove). m.actor) (laws.falls decl a (deeds a [] older) cause None)))
        at false other are = others_event older b (steps.Fell cause None ∷ []) other are

  -- so each open request of a client that is up is awaited

  module _ (fits : ℕ → List Record → Type 0) (few : numbers.actors decl ≤ most_actors)
      (client : is_client decl a ≡ true) where
    first_client : Awaits a (new_actor decl a) empty_inbox
    first_client = subst (λ (v : Actor). Awaits a v empty_inbox) (sym (client_new decl a client)) new
      where
        new : Awaits a (actors.Client (new_client (a - decl.sites))) empty_inbox
        new = record { up = is_up-everybody everybody a refl; calls = λ q member. absurd member; bound = λ none. refl }

    risen_client : (kept : List Record) (i : Inbox) → is_up i.up a ≡ true → Awaits a (actor_rises decl a kept).actor i
    risen_client kept i up =
        subst (λ (m : ActorMove). Awaits a m.actor i) (sym (client_risen decl a client kept))
        (record { up = up; calls = λ q member. absurd member; bound = λ none. refl })

    client_alive : (kept : List Record) → (actor_rises decl a kept).actor ≡ actors.Down → ⊥
    client_alive kept down =
        let no : actors.Client (client_rises (a - decl.sites) kept).client ≡ actors.Down =
        sym (ap (λ (m : ActorMove). m.actor) (client_risen decl a client kept)) ∙ down in
        let never : ⊥ = cc in never

    pub open_requests_are_awaited_with_falls : (h : List Entry) (open_inputs : List Bool)
        → RunsWithFalls (IsLawfulWithFalls decl) fits decl script h open_inputs → (c : Client)
        → (actor_after decl a (deeds a [] h)).actor ≡ actors.Client c
        → (q : Call) → In q (open_calls c) → IsAwaited q.number (inbox script a h)
    open_requests_are_awaited_with_falls h open_inputs run c is =
        (subst (λ (v : Actor). Awaits a v (inbox script a h)) is
        (run_awaits fits few (client_within decl a client) first_client
        (λ kept. ap (λ (m : ActorMove). m.turn) (client_risen decl a client kept)) client_alive risen_client h
        open_inputs run)).calls
