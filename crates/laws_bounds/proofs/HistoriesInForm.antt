-- In each run with falls in which records rise that are few and in form, all that is said and held is in form, below
-- 2^31 steps.
use Rattle.std.proofs.Common.{◌≡◌, ℕ, ◌+◌, ◌^◌, ◌<◌, ◌≤◌, ◌==◌, Bool, true, false, List, [], ◌∷◌, ◌++◌, length, None}
use Rattle.std.proofs.Common.{Some, refl, sym, ap, ◌∙◌, subst, eqb-true, append_assoc, length-append, arith}
use Rattle.std.specs.List.{AllByRecursion as Every}
use Rattle.std.proofs.lemmas.List.Sums.{fold-append}
use Rattle.qc_list.proofs.Members.{every-append, every-at}
use Rattle.qc_core.specs.Vocabulary.{IsLawfulWithFalls, actor_after, actor_does, with_record}
use Rattle.qc_core.proofs.PostsByTurns.{called_turn}
use Rattle.qc_core.proofs.LivesOfActors.{falls as after_falls, rises as after_rises}
use Rattle.qc_decl.specs.Vocabulary.{IsAccepted, actors, controller}
use Rattle.qc_link.specs.Vocabulary.{most_actors}
use Rattle.qc_decl.specs.declared.declaration.Declaration.{Declaration}
use Rattle.qc_mailbox.proofs.FallMail.{ready_messages_were_sent_through_falls}
use Rattle.qc_mailbox.proofs.Keeping.{same_mail}
use Rattle.laws_turns.proofs.Acted.{deeds-silent}
use Rattle.laws_turns.proofs.Numbered.{IsSilent, mail-silent, phase_silent}
use Rattle.laws_turns.proofs.LivedMoves.{deeds-fall, line_silent}
use Rattle.laws_turns.proofs.Lived.{actors_live_in_runs_with_falls}
use Rattle.qc_msg.specs.declared.message.Envelope.{Envelope}
use Rattle.qc_msg.specs.declared.record.Record.{Record}
use Rattle.qc_msg.specs.declared.step.Fall.{Fall}
use Rattle.qc_msg.specs.declared.step.Fall.TheVariants as causes
use Rattle.qc_msg.specs.declared.step.Input.{Input}
use Rattle.qc_msg.specs.declared.step.Input.TheVariants as inputs
use Rattle.qc_msg.specs.declared.step.Step.{Step}
use Rattle.qc_msg.specs.declared.step.Step.TheVariants as steps
use Rattle.qc_msg.specs.declared.turn.Appended.{Appended}
use Rattle.qc_msg.specs.declared.turn.Appended.TheVariants.{Done, Failed, Stopped}
use Rattle.qc_msg.specs.declared.turn.Posting.{Posting}
use Rattle.qc_msg.specs.declared.turn.Turn.{Turn}
use Rattle.qc_msg.specs.Vocabulary.{Deed, Entry, WasSentTo, by, deeds, deeds_as, envelopes, mail, marked, posted_as}
use Rattle.qc_msg.specs.Vocabulary.{sends_as, step_of}
use Rattle.qc_msg.proofs.GrownMail.{mail-append, mail-taken}
use Rattle.qc_msg.proofs.DeedsGrow.{deeds-other, deeds-rise}
use Rattle.qc_msg.proofs.Growth.{deeds-posted_as, deeds-taken, mail-posted_as}
use Rattle.qc_script.specs.Vocabulary.{IsScriptFor, RunsWithFalls, begins, control, damaged, falls, phase, phase_of}
use Rattle.qc_script.specs.Vocabulary.{posts, ready, rises, takes, unopened}
use Rattle.qc_script.specs.declared.script.Script.{Script}
use Rattle.laws_bounds.proofs.ActorsWithin.{deeds_post}
use Rattle.laws_bounds.proofs.AskedNamed.{given_named}
use Rattle.laws_bounds.proofs.AnswersToAsks.{ActorTold, MailTold, MessageTold, SendsTold, TurnTold, actor_more}
use Rattle.laws_bounds.proofs.AnswersToAsks.{mail_more, sends_more}
use Rattle.laws_bounds.proofs.AnswersSaid.{takes_told}
use Rattle.laws_bounds.proofs.AsksAnswered.{AreReady, given_told, posted_asked, posts_told}
use Rattle.laws_bounds.proofs.AsksReady.{new_told, open_ready, risen_ready, rises_told}
use Rattle.laws_bounds.proofs.CountBounds.{history_counts}
use Rattle.laws_bounds.proofs.ActorsInForm.{MoveInForm, TurnInForm, down_form, new_form, posts_form, rises_form}
use Rattle.laws_bounds.proofs.ActorsInForm.{takes_form}
use Rattle.laws_bounds.proofs.Declared.{command_form}
use Rattle.laws_bounds.proofs.Forms.{MailInForm, MessageInForm, RecordInForm, SendsInForm, TakenInForm}
use Rattle.qc_core.proofs.ActorLaws.{input}

module _ (decl : Declaration) where
  -- a history

  pub record AllInForm (h : List Entry) : Type 0 where
    pub messages : MailInForm (mail h)
    pub actors_are : (a : ℕ) → MoveInForm decl a (actor_after decl a (deeds a [] h))
    pub told : MailTold (mail h) (mail h)
    pub actors_told : (a : ℕ) → ActorTold (mail h) (actor_after decl a (deeds a [] h))

  envelopes_form : (from n : ℕ) (ps : List Posting) → SendsInForm ps → MailInForm (envelopes from n ps)
  envelopes_form from n [] all = tt
  envelopes_form from n (p ∷ ps) all = (all.0, envelopes_form from (n + 1) ps all.1)

  as_form : (a : ℕ) (end : Appended) (turn : Turn) → TurnInForm decl a (with_record turn)
      → SendsInForm (sends_as end turn)
  as_form a Done turn w = w.sends
  as_form a Failed turn w = w.failed_sends
  as_form a Stopped turn w = tt

  -- one actor goes on
  grows : (c : ℕ) (h : List Entry) (xs : List Step) → AllInForm h → MailInForm (mail (h ++ by c xs))
      → MoveInForm decl c (actor_after decl c (deeds c [] (h ++ by c xs)))
      → MailTold (mail (h ++ by c xs)) (mail (h ++ by c xs))
      → ActorTold (mail (h ++ by c xs)) (actor_after decl c (deeds c [] (h ++ by c xs))) → AllInForm (h ++ by c xs)
  grows c h xs form messages own told own_told = record {
    messages = messages;
    actors_are = λ a. at a (c == a) refl;
    told = told;
    actors_told = λ a. told_at a (c == a) refl;
  } where
    told_at : (a : ℕ) (t : Bool) → (c == a) ≡ t
        → ActorTold (mail (h ++ by c xs)) (actor_after decl a (deeds a [] (h ++ by c xs)))
    told_at a true same =
        subst (λ (k : ℕ). ActorTold (mail (h ++ by c xs)) (actor_after decl k (deeds k [] (h ++ by c xs))))
        (eqb-true c a same)
        own_told
    told_at a false other =
        subst (λ (ds : List Deed). ActorTold (mail (h ++ by c xs)) (actor_after decl a ds))
        (sym (deeds-other c a [] h xs other))
        (subst (λ (ms : List Envelope). ActorTold ms (actor_after decl a (deeds a [] h)))
        (sym (mail-append h (by c xs)))
        (actor_more (mail h) (mail (by c xs)) (actor_after decl a (deeds a [] h)) (form.actors_told a)))

    at : (a : ℕ) (t : Bool) → (c == a) ≡ t → MoveInForm decl a (actor_after decl a (deeds a [] (h ++ by c xs)))
    at a true same =
        subst (λ (k : ℕ). MoveInForm decl k (actor_after decl k (deeds k [] (h ++ by c xs)))) (eqb-true c a same) own
    at a false other =
        subst (λ (ds : List Deed). MoveInForm decl a (actor_after decl a ds)) (sym (deeds-other c a [] h xs other))
        (form.actors_are a)

  -- where nothing is sent
  rests : (c : ℕ) (h : List Entry) (xs : List Step) → AllInForm h → mail (h ++ by c xs) ≡ mail h
      → MoveInForm decl c (actor_after decl c (deeds c [] (h ++ by c xs)))
      → ActorTold (mail h) (actor_after decl c (deeds c [] (h ++ by c xs))) → AllInForm (h ++ by c xs)
  rests c h xs form same own own_told =
      grows c h xs form (subst MailInForm (sym same) form.messages) own
      (subst (λ (ms : List Envelope). MailTold ms ms) (sym same) form.told)
      (subst (λ (ms : List Envelope). ActorTold ms (actor_after decl c (deeds c [] (h ++ by c xs))))
      (sym same) own_told)

  still : (c : ℕ) (h : List Entry) (step : Step) → IsSilent step → AllInForm h → AllInForm (h ++ by c (step ∷ []))
  still c h step silent form =
      rests c h (step ∷ []) form (mail-silent h c step silent)
      (subst (λ (ds : List Deed). MoveInForm decl c (actor_after decl c ds)) (sym (deeds-silent c c h step silent))
      (form.actors_are c))
      (subst (λ (ds : List Deed). ActorTold (mail h) (actor_after decl c ds)) (sym (deeds-silent c c h step silent))
      (form.actors_told c))

  taken : (accepted : IsAccepted decl) (c : ℕ) (h : List Entry) (g : Input) → length h < 2 ^ 31
      → WasSentTo c (mail h) g → TakenInForm g → AllInForm h → AllInForm (h ++ by c (step_of g ∷ []))
  taken accepted c h g short sent here form =
      rests c h (step_of g ∷ []) form (mail-taken h c g)
      (subst (MoveInForm decl c)
      (sym (ap (actor_after decl c) (deeds-taken c h g sent) ∙ input decl c (deeds c [] h) g))
      (takes_form decl accepted c (length h) (actor_after decl c (deeds c [] h)).actor g (form.actors_are c).state
      (history_counts decl c h) (omega (arith, short)) here
      (given_told (mail h) decl (actor_after decl c (deeds c [] h)).actor c g sent form.told
      (form.actors_told c).asked)))
      (subst (ActorTold (mail h))
      (sym (ap (actor_after decl c) (deeds-taken c h g sent) ∙ input decl c (deeds c [] h) g))
      (takes_told (mail h) decl c (actor_after decl c (deeds c [] h)).actor g (form.actors_are c).state sent
      (form.actors_told c).asked))

  pub turn_form : (c : ℕ) (ds : List Deed) (turn : Turn) → IsLawfulWithFalls decl c ds turn
      → MoveInForm decl c (actor_after decl c ds) → TurnInForm decl c (with_record turn)
  turn_form c ds turn law form = subst (TurnInForm decl c) (called_turn decl c ds turn law) form.turn

  envelopes_told : (ms : List Envelope) (from n : ℕ) (ps : List Posting) → SendsTold ms ps
      → MailTold ms (envelopes from n ps)
  envelopes_told ms from n [] all = tt
  envelopes_told ms from n (p ∷ ps) all = (all.0, envelopes_told ms from (n + 1) ps all.1)

  as_told : (ms : List Envelope) (end : Appended) (turn : Turn) → TurnTold ms (with_record turn)
      → SendsTold ms (sends_as end turn)
  as_told ms Done turn w = w.sends
  as_told ms Failed turn w = w.failed_sends
  as_told ms Stopped turn w = tt

  posted : (c : ℕ) (h : List Entry) (turn : Turn) → IsLawfulWithFalls decl c (deeds c [] h) turn
      → AreReady (actor_after decl c (deeds c [] h)).actor turn → AllInForm h
      → AllInForm (h ++ by c (posted_as turn.append (length (mail h)) turn))
  posted c h turn law ready form =
      let n : ℕ = length (mail h) in
      let ns : List Envelope = envelopes c n (sends_as turn.append turn) in
      let before = actor_after decl c (deeds c [] h) in
      let grown : mail (h ++ by c (posted_as turn.append n turn)) ≡ mail h ++ ns =
      mail-append h (by c (posted_as turn.append n turn)) ∙ ap (λ (v : List Envelope). mail h ++ v)
      (mail-posted_as turn.append c n turn) in
      let more : ActorTold (mail h ++ ns) before = actor_more (mail h) ns before (form.actors_told c) in
      let said : TurnTold (mail h) (with_record turn) =
      subst (TurnTold (mail h)) (called_turn decl c (deeds c [] h) turn law) (form.actors_told c).turn in
      let its : TurnInForm decl c (with_record turn) = turn_form c (deeds c [] h) turn law (form.actors_are c) in
      grows c h (posted_as turn.append n turn) form
      (subst MailInForm
      (sym
      (mail-append h (by c (posted_as turn.append n turn)) ∙ ap (λ (v : List Envelope). mail h ++ v)
      (mail-posted_as turn.append c n turn)))
      (every-append (λ (e : Envelope). MessageInForm e.message) (mail h)
      (envelopes c n (sends_as turn.append turn)) form.messages
      (envelopes_form c n (sends_as turn.append turn) (as_form c turn.append turn its))))
      (subst (MoveInForm decl c)
      (sym
      (ap (actor_after decl c) (deeds-posted_as turn.append c n h turn) ∙ fold-append (actor_does decl c) _
      (deeds c [] h) (deeds_as turn.append n turn)))
      (posts_form decl c (actor_after decl c (deeds c [] h)) (deeds_as turn.append n turn)
      (deeds_post turn.append n turn)
      (form.actors_are c)))
      (subst (λ (ms : List Envelope). MailTold ms ms) (sym grown)
      (every-append (λ (e : Envelope). MessageTold (mail h ++ ns) e.message) (mail h) ns
      (mail_more (mail h) ns (mail h) form.told)
      (envelopes_told (mail h ++ ns) c n (sends_as turn.append turn)
      (sends_more (mail h) ns (sends_as turn.append turn) (as_told (mail h) turn.append turn said)))))
      (subst (λ (ms : List Envelope). ActorTold ms
      (actor_after decl c (deeds c [] (h ++ by c (posted_as turn.append n turn)))))
      (sym grown)
      (subst (ActorTold (mail h ++ ns))
      (sym
      (ap (actor_after decl c) (deeds-posted_as turn.append c n h turn) ∙ fold-append (actor_does decl c) _
      (deeds c [] h) (deeds_as turn.append n turn)))
      (record {
        turn =
            posts_told decl c (mail h ++ ns) before (deeds_as turn.append n turn)
            (deeds_post turn.append n turn) more.turn;
        asked = posted_asked decl c (mail h) before.actor before.turn turn turn.append ready more.asked;
      })))

  fallen : (c : ℕ) (h : List Entry) (cause : Fall) → AllInForm h → AllInForm (h ++ by c (steps.Fell cause None ∷ []))
  fallen c h cause form =
      rests c h (steps.Fell cause None ∷ []) form (same_mail h (marked c (steps.Fell cause None)) refl)
      (subst (MoveInForm decl c)
      (sym (ap (actor_after decl c) (deeds-fall c h cause) ∙ after_falls decl c (deeds c [] h) cause None))
      (down_form decl c))
      (subst (ActorTold (mail h))
      (sym (ap (actor_after decl c) (deeds-fall c h cause) ∙ after_falls decl c (deeds c [] h) cause None))
      (record { turn = record { sends = tt; failed_sends = tt }; asked = tt }))

  risen : (c : ℕ) (h : List Entry) (rs : List Record) → Every RecordInForm rs → length rs ≤ 2 ^ 31 → AllInForm h
      → AllInForm (h ++ by c (steps.Rose rs ∷ []))
  risen c h rs all few form =
      rests c h (steps.Rose rs ∷ []) form (same_mail h (marked c (steps.Rose rs)) refl)
      (subst (MoveInForm decl c)
      (sym (ap (actor_after decl c) (deeds-rise c h rs) ∙ after_rises decl c (deeds c [] h) rs))
      (rises_form decl c rs all few))
      (subst (ActorTold (mail h))
      (sym (ap (actor_after decl c) (deeds-rise c h rs) ∙ after_rises decl c (deeds c [] h) rs))
      (rises_told decl c (mail h) rs))

  -- records that may rise
  pub record MayRise (rs : List Record) : Type 0 where
    pub form : Every RecordInForm rs
    pub few : length rs ≤ 2 ^ 31

  before_short : (h k : List Entry) → length (h ++ k) < 2 ^ 31 → length h < 2 ^ 31
  before_short h k short =
      let longer : length (h ++ k) ≡ length h + length k = length-append h k in omega (arith, longer, short)

  module _ (accepted : IsAccepted decl) (script : Script) (sound : IsScriptFor decl script)
      (fits : ℕ → List Record → Type 0) (let_rise : (a : ℕ) (rs : List Record) → fits a rs → MayRise rs) where
    abbrev IsRun : List Entry → List Bool → Type 0
    IsRun h open_inputs = RunsWithFalls (IsLawfulWithFalls decl) fits decl script h open_inputs

    given_form : (a : ℕ) (h : List Entry) (ms : List Envelope) (g : Input) → MailInForm ms → WasSentTo a ms g
        → ready decl script a h ≡ Some g → TakenInForm g
    given_form a h ms (inputs.Called command) all sent is =
        command_form decl accepted command
        (given_named decl accepted script sound a h [] (inputs.Called command) tt tt is)
    given_form a h ms (inputs.Got e) all sent is =
        every-at (λ (e : Envelope). MessageInForm e.message) ms e.number e all sent.0
    given_form a h ms (inputs.Lost number) all sent is = tt

    pub run_form : (h : List Entry) (open_inputs : List Bool) → IsRun h open_inputs → length h < 2 ^ 31 → AllInForm h
    run_form h open_inputs begins short = record {
      messages = tt;
      actors_are = new_form decl;
      told = tt;
      actors_told = new_told decl;
    }
    run_form h open_inputs (takes c g before older run free rdy) short =
        let low : length older < 2 ^ 31 = before_short older (marked c (step_of g) ∷ []) short in
        let old : AllInForm older = run_form older before run low in
        let sent : WasSentTo c (mail older) g =
        ready_messages_were_sent_through_falls (IsLawfulWithFalls decl) fits decl script older before run c g rdy in
        taken accepted c older g low sent (given_form c older (mail older) g old.messages sent rdy) old
    run_form h open_inputs (posts c turn before older run open_input law) short =
        posted c older turn law
        (open_ready decl c (deeds c [] older) turn
        (actors_live_in_runs_with_falls decl script fits
        (let sites : decl.sites ≤ 16 = accepted.sites in let clients : decl.clients ≤ 16 = accepted.clients in
        let few : actors decl ≤ most_actors = omega arith in few) older before run c true open_input).lives law)
        (run_form older before run
        (before_short older (by c (posted_as turn.append (length (mail older)) turn)) short))
    run_form h open_inputs (phase before older run none done calm further) short =
        still (controller decl) older (steps.Phase (phase_of older + 1)) (phase_silent (phase_of older + 1))
        (run_form older before run
        (before_short older (marked (controller decl) (steps.Phase (phase_of older + 1)) ∷ []) short))
    run_form h open_inputs (control line lines step before older run left is) short =
        still (controller decl) older step (line_silent line step is)
        (run_form older before run (before_short older (marked (controller decl) step ∷ []) short))
    run_form h open_inputs (falls c lines before older run left) short =
        fallen c older causes.Script
        (run_form older before run (before_short older (marked c (steps.Fell causes.Script None) ∷ []) short))
    run_form h open_inputs (rises c rs turn lines before older run left fit has law) short =
        let post : List Entry = by c (posted_as turn.append (length (mail older)) turn) in
        let rose : List Entry = older ++ marked c (steps.Rose rs) ∷ [] in
        let old : AllInForm older =
        run_form older before run (before_short older (marked c (steps.Rose rs) ∷ post) short) in
        let may : MayRise rs = let_rise c rs fit in
        subst AllInForm (append_assoc older (marked c (steps.Rose rs) ∷ []) post)
        (subst (λ (n : ℕ). AllInForm (rose ++ by c (posted_as turn.append n turn)))
        (ap (λ (ms : List Envelope). length ms) (same_mail older (marked c (steps.Rose rs)) refl))
        (posted c rose turn law
        (risen_ready decl c (actor_after decl c (deeds c [] rose)) rs turn
        (ap (actor_after decl c) (deeds-rise c older rs) ∙ after_rises decl c (deeds c [] older) rs)
        (called_turn decl c (deeds c [] rose) turn law))
        (risen c older rs may.form may.few old)))
    run_form h open_inputs (damaged c offset lines before older run left) short =
        still c older (steps.Damaged offset) (record { sends = λ a. refl; deeds = λ ms. refl })
        (run_form older before run (before_short older (marked c (steps.Damaged offset) ∷ []) short))
    run_form h open_inputs (unopened c cause lines before older run left disk) short =
        fallen c older cause
        (run_form older before run (before_short older (marked c (steps.Fell cause None) ∷ []) short))
