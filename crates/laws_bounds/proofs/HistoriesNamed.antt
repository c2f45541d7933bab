-- In each run with falls all that is said, held and written names declared things, where the records that rise do: so
-- where they are kept.
use Rattle.std.proofs.Common.{◌≡◌, ℕ, ◌+◌, ◌==◌, Bool, true, false, List, [], ◌∷◌, ◌++◌, length, None, refl, sym, ap}
use Rattle.std.proofs.Common.{◌∙◌, subst, eqb-true, append_assoc}
use Rattle.std.proofs.lemmas.List.Sums.{fold-append}
use Rattle.qc_list.proofs.Members.{every-append}
use Rattle.qc_core.specs.Vocabulary.{IsLawfulWithFalls, actor_after, actor_does, with_record}
use Rattle.qc_core.proofs.PostsByTurns.{called_turn}
use Rattle.qc_core.proofs.LivesOfActors.{falls as after_falls, rises as after_rises}
use Rattle.qc_decl.specs.Vocabulary.{IsAccepted, controller}
use Rattle.qc_decl.specs.declared.declaration.Declaration.{Declaration}
use Rattle.qc_mailbox.proofs.FallMail.{ready_messages_were_sent_through_falls}
use Rattle.qc_mailbox.proofs.Keeping.{same_mail}
use Rattle.laws_turns.proofs.Acted.{deeds-silent}
use Rattle.laws_turns.proofs.Numbered.{IsSilent, mail-silent, phase_silent}
use Rattle.laws_turns.proofs.LivedMoves.{deeds-fall, line_silent}
use Rattle.qc_msg.specs.declared.message.Envelope.{Envelope}
use Rattle.qc_msg.specs.declared.record.Record.{Record}
use Rattle.qc_msg.specs.declared.step.Fall.{Fall}
use Rattle.qc_msg.specs.declared.step.Fall.TheVariants as causes
use Rattle.qc_msg.specs.declared.step.Input.{Input}
use Rattle.qc_msg.specs.declared.step.Step.{Step}
use Rattle.qc_msg.specs.declared.step.Step.TheVariants as steps
use Rattle.qc_msg.specs.declared.turn.Appended.{Appended}
use Rattle.qc_msg.specs.declared.turn.Appended.TheVariants.{Done, Failed, Stopped}
use Rattle.qc_msg.specs.declared.turn.Posting.{Posting}
use Rattle.qc_msg.specs.declared.turn.Turn.{Turn}
use Rattle.qc_fit.specs.Vocabulary.{HasPlan}
use Rattle.qc_msg.specs.Vocabulary.{Deed, Entry, WasSentTo, by, deeds, deeds_as, envelopes, first_epoch, mail, marked}
use Rattle.qc_msg.specs.Vocabulary.{posted_as, sends_as, step_of}
use Rattle.qc_msg.proofs.GrownMail.{mail-append, mail-taken}
use Rattle.qc_msg.proofs.DeedsGrow.{deeds-other, deeds-rise}
use Rattle.qc_msg.proofs.Growth.{deeds-posted_as, deeds-taken, mail-posted_as}
use Rattle.qc_promise.specs.Vocabulary.{Kept}
use Rattle.qc_script.specs.Vocabulary.{IsScriptFor, RunsWithFalls, begins, control, damaged, falls, phase, phase_of}
use Rattle.qc_script.specs.Vocabulary.{posts, rises, takes, unopened}
use Rattle.qc_script.specs.declared.script.Script.{Script}
use Rattle.laws_bounds.specs.Vocabulary.{AllPut}
use Rattle.laws_bounds.proofs.ActorsWithin.{deeds_post}
use Rattle.laws_bounds.proofs.AskedNamed.{given_named}
use Rattle.laws_bounds.proofs.EventsNamed.{first_planned}
use Rattle.laws_bounds.proofs.Names.{AreNamed, GivenNamed, MailNamed, MessageNamed, RecordNamed, SendsNamed}
use Rattle.laws_bounds.proofs.Putting.{back_has, input_puts, line_puts, post_puts, puts_both}
use Rattle.laws_bounds.proofs.Senders.{lawful_actor}
use Rattle.laws_bounds.proofs.ActorsNamed.{MoveNamed, TurnNamed, down_named, new_named, posts_named, rises_named}
use Rattle.laws_bounds.proofs.ActorsNamed.{takes_named}
use Rattle.qc_core.proofs.ActorLaws.{input}
use Rattle.qc_promise.proofs.Posts.{kept_part}

module _ (decl : Declaration) where
  -- a history

  pub record AllNamed (h : List Entry) : Type 0 where
    pub messages : MailNamed decl (mail h)
    pub actors_are : (a : ℕ) → MoveNamed decl a (actor_after decl a (deeds a [] h))
    pub puts : AllPut (RecordNamed decl) h

  envelopes_named : (from n : ℕ) (ps : List Posting) → SendsNamed decl ps → MailNamed decl (envelopes from n ps)
  envelopes_named from n [] all = tt
  envelopes_named from n (p ∷ ps) all = (all.0, envelopes_named from (n + 1) ps all.1)

  as_named : (a : ℕ) (end : Appended) (turn : Turn) → TurnNamed decl a (with_record turn)
      → SendsNamed decl (sends_as end turn)
  as_named a Done turn w = w.sends
  as_named a Failed turn w = w.failed_sends
  as_named a Stopped turn w = tt

  -- one actor goes on
  grows : (c : ℕ) (h : List Entry) (xs : List Step) → AllNamed h → MailNamed decl (mail (h ++ by c xs))
      → MoveNamed decl c (actor_after decl c (deeds c [] (h ++ by c xs)))
      → AllPut (RecordNamed decl) (by c xs) → AllNamed (h ++ by c xs)
  grows c h xs named messages own puts = record {
    messages = messages;
    actors_are = λ a. at a (c == a) refl;
    puts = puts_both (RecordNamed decl) h (by c xs) named.puts puts;
  } where
    at : (a : ℕ) (t : Bool) → (c == a) ≡ t → MoveNamed decl a (actor_after decl a (deeds a [] (h ++ by c xs)))
    at a true same =
        subst (λ (k : ℕ). MoveNamed decl k (actor_after decl k (deeds k [] (h ++ by c xs)))) (eqb-true c a same) own
    at a false other =
        subst (λ (ds : List Deed). MoveNamed decl a (actor_after decl a ds)) (sym (deeds-other c a [] h xs other))
        (named.actors_are a)

  still : (c : ℕ) (h : List Entry) (step : Step) → IsSilent step → AllPut (RecordNamed decl) (by c (step ∷ []))
      → AllNamed h → AllNamed (h ++ by c (step ∷ []))
  still c h step silent puts named =
      grows c h (step ∷ []) named (subst (MailNamed decl) (sym (mail-silent h c step silent)) named.messages)
      (subst (λ (ds : List Deed). MoveNamed decl c (actor_after decl c ds)) (sym (deeds-silent c c h step silent))
      (named.actors_are c)) puts

  taken : (accepted : IsAccepted decl) (c : ℕ) (h : List Entry) (g : Input) → WasSentTo c (mail h) g → GivenNamed decl g
      → AllNamed h → AllNamed (h ++ by c (step_of g ∷ []))
  taken accepted c h g sent here named =
      grows c h (step_of g ∷ []) named (subst (MailNamed decl) (sym (mail-taken h c g)) named.messages)
      (subst (MoveNamed decl c)
      (sym (ap (actor_after decl c) (deeds-taken c h g sent) ∙ input decl c (deeds c [] h) g))
      (takes_named decl accepted c (actor_after decl c (deeds c [] h)).actor g (named.actors_are c).state here))
      (input_puts (RecordNamed decl) c g)

  pub turn_named : (c : ℕ) (ds : List Deed) (turn : Turn) → IsLawfulWithFalls decl c ds turn
      → MoveNamed decl c (actor_after decl c ds) → TurnNamed decl c (with_record turn)
  turn_named c ds turn law named = subst (TurnNamed decl c) (called_turn decl c ds turn law) named.turn

  posted : (c n : ℕ) (h : List Entry) (turn : Turn) → IsLawfulWithFalls decl c (deeds c [] h) turn → AllNamed h
      → AllNamed (h ++ by c (posted_as turn.append n turn))
  posted c n h turn law named =
      let its : TurnNamed decl c (with_record turn) = turn_named c (deeds c [] h) turn law (named.actors_are c) in
      grows c h (posted_as turn.append n turn) named
      (subst (MailNamed decl)
      (sym
      (mail-append h (by c (posted_as turn.append n turn)) ∙ ap (λ (v : List Envelope). mail h ++ v)
      (mail-posted_as turn.append c n turn)))
      (every-append (λ (e : Envelope). MessageNamed decl e.message) (mail h)
      (envelopes c n (sends_as turn.append turn)) named.messages
      (envelopes_named c n (sends_as turn.append turn) (as_named c turn.append turn its))))
      (subst (MoveNamed decl c)
      (sym
      (ap (actor_after decl c) (deeds-posted_as turn.append c n h turn) ∙ fold-append (actor_does decl c) _
      (deeds c [] h) (deeds_as turn.append n turn)))
      (posts_named decl c (actor_after decl c (deeds c [] h)) (deeds_as turn.append n turn)
      (deeds_post turn.append n turn)
      (named.actors_are c)))
      (post_puts (RecordNamed decl) c n turn.append turn (its.write (lawful_actor decl c (deeds c [] h) turn law)))

  fallen : (c : ℕ) (h : List Entry) (cause : Fall) → AllNamed h → AllNamed (h ++ by c (steps.Fell cause None ∷ []))
  fallen c h cause named =
      grows c h (steps.Fell cause None ∷ []) named
      (subst (MailNamed decl) (sym (same_mail h (marked c (steps.Fell cause None)) refl)) named.messages)
      (subst (MoveNamed decl c)
      (sym (ap (actor_after decl c) (deeds-fall c h cause) ∙ after_falls decl c (deeds c [] h) cause None))
      (down_named decl c)) (tt, tt)

  risen : HasPlan decl first_epoch → (c : ℕ) (h : List Entry) (rs : List Record) → AreNamed decl c rs → AllNamed h
      → AllNamed (h ++ by c (steps.Rose rs ∷ []))
  risen first c h rs all named =
      grows c h (steps.Rose rs ∷ []) named
      (subst (MailNamed decl) (sym (same_mail h (marked c (steps.Rose rs)) refl)) named.messages)
      (subst (MoveNamed decl c)
      (sym (ap (actor_after decl c) (deeds-rise c h rs) ∙ after_rises decl c (deeds c [] h) rs))
      (rises_named decl first c rs all)) (all, tt)

  module _ (accepted : IsAccepted decl) (script : Script) (sound : IsScriptFor decl script)
      (fits : ℕ → List Record → Type 0) (Side : List Entry → Type 0)
      (part : (older k : List Entry) → Side (older ++ k) → Side older)
      (risen_has : (older post : List Entry) (c : ℕ) (rs : List Record) → fits c rs
      → Side (older ++ marked c (steps.Rose rs) ∷ post)
      → AllNamed older → AreNamed decl c rs) where
    abbrev IsRun : List Entry → List Bool → Type 0
    IsRun h open_inputs = RunsWithFalls (IsLawfulWithFalls decl) fits decl script h open_inputs

    -- where what rises does
    pub run_named_by : (h : List Entry) (open_inputs : List Bool) → IsRun h open_inputs → Side h → AllNamed h
    run_named_by h open_inputs begins side =
        record { messages = tt; actors_are = new_named decl (first_planned decl accepted); puts = tt }
    run_named_by h open_inputs (takes c g before older run free rdy) side =
        let old : AllNamed older = run_named_by older before run (part older (marked c (step_of g) ∷ []) side) in
        let sent : WasSentTo c (mail older) g =
        ready_messages_were_sent_through_falls (IsLawfulWithFalls decl) fits decl script older before run c g rdy in
        taken accepted c older g sent
        (given_named decl accepted script sound c older (mail older) g old.messages sent rdy) old
    run_named_by h open_inputs (posts c turn before older run open_input law) side =
        posted c (length (mail older)) older turn law
        (run_named_by older before run (part older (by c (posted_as turn.append (length (mail older)) turn)) side))
    run_named_by h open_inputs (phase before older run none done calm further) side =
        still (controller decl) older (steps.Phase (phase_of older + 1)) (phase_silent (phase_of older + 1)) (tt, tt)
        (run_named_by older before run
        (part older (marked (controller decl) (steps.Phase (phase_of older + 1)) ∷ []) side))
    run_named_by h open_inputs (control line lines step before older run left is) side =
        still (controller decl) older step (line_silent line step is)
        (line_puts (RecordNamed decl) (controller decl) line step is)
        (run_named_by older before run (part older (marked (controller decl) step ∷ []) side))
    run_named_by h open_inputs (falls c lines before older run left) side =
        fallen c older causes.Script
        (run_named_by older before run (part older (marked c (steps.Fell causes.Script None) ∷ []) side))
    run_named_by h open_inputs (rises c rs turn lines before older run left fit has law) side =
        let post : List Entry = by c (posted_as turn.append (length (mail older)) turn) in
        let rose : List Entry = older ++ marked c (steps.Rose rs) ∷ [] in
        let old : AllNamed older =
        run_named_by older before run (part older (marked c (steps.Rose rs) ∷ post) side) in
        subst AllNamed (append_assoc older (marked c (steps.Rose rs) ∷ []) post)
        (posted c (length (mail older)) rose turn law
        (risen (first_planned decl accepted) c older rs
        (risen_has older post c rs fit side old) old))
    run_named_by h open_inputs (damaged c offset lines before older run left) side =
        still c older (steps.Damaged offset) (record { sends = λ a. refl; deeds = λ ms. refl }) (tt, tt)
        (run_named_by older before run (part older (marked c (steps.Damaged offset) ∷ []) side))
    run_named_by h open_inputs (unopened c cause lines before older run left disk) side =
        fallen c older cause (run_named_by older before run (part older (marked c (steps.Fell cause None) ∷ []) side))

  -- where records are kept

  pub run_named : (accepted : IsAccepted decl) (script : Script) (sound : IsScriptFor decl script)
      (fits : ℕ → List Record → Type 0)
      (h : List Entry) (open_inputs : List Bool) → RunsWithFalls (IsLawfulWithFalls decl) fits decl script h open_inputs
      → Kept h
      → AllNamed h
  run_named accepted script sound fits h open_inputs run kept =
      run_named_by accepted script sound fits Kept (λ older k side. kept_part older k side)
      (λ older post c rs fit side old. back_has (RecordNamed decl) c older rs old.puts
      (side older post (marked c (steps.Rose rs)) refl))
      h open_inputs run kept
