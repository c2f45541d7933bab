-- In each run with falls every clock is at most a bound on what rises, and one more for each step.
use Rattle.std.proofs.Common.{◌≡◌, ℕ, ◌+◌, ◌≤◌, ◌==◌, Bool, true, false, List, [], ◌∷◌, ◌++◌, length, None, refl, sym}
use Rattle.std.proofs.Common.{ap, ◌∙◌, subst, arith, eqb-true, append_assoc, length-append}
use Rattle.std.proofs.lemmas.List.Sums.{fold-append}
use Rattle.qc_list.proofs.Members.{every-append, every-weaker}
use Rattle.qc_core.specs.Vocabulary.{IsLawfulWithFalls, actor_after, actor_does, with_record}
use Rattle.qc_core.proofs.PostsByTurns.{called_turn}
use Rattle.qc_core.proofs.LivesOfActors.{falls as after_falls, rises as after_rises}
use Rattle.qc_decl.specs.Vocabulary.{controller}
use Rattle.qc_decl.specs.declared.declaration.Declaration.{Declaration}
use Rattle.qc_mailbox.proofs.FallMail.{ready_messages_were_sent_through_falls}
use Rattle.qc_mailbox.proofs.Keeping.{same_mail}
use Rattle.laws_turns.proofs.Acted.{deeds-silent}
use Rattle.laws_turns.proofs.Numbered.{IsSilent, mail-silent, phase_silent}
use Rattle.laws_turns.proofs.LivedMoves.{deeds-fall, line_silent}
use Rattle.qc_msg.specs.declared.message.Envelope.{Envelope}
use Rattle.qc_msg.specs.declared.record.Record.{Record}
use Rattle.qc_msg.specs.declared.step.Fall.{Fall}
use Rattle.qc_msg.specs.declared.step.Fall.TheVariants as causes
use Rattle.qc_msg.specs.declared.step.Input.{Input}
use Rattle.qc_msg.specs.declared.step.Step.{Step}
use Rattle.qc_msg.specs.declared.step.Step.TheVariants as steps
use Rattle.qc_msg.specs.declared.turn.Appended.{Appended}
use Rattle.qc_msg.specs.declared.turn.Appended.TheVariants.{Done, Failed, Stopped}
use Rattle.qc_msg.specs.declared.turn.Turn.{Turn}
use Rattle.qc_msg.specs.Vocabulary.{Deed, Entry, WasSentTo, by, deeds, deeds_as, envelopes, mail, marked, posted_as}
use Rattle.qc_msg.specs.Vocabulary.{sends_as, step_of}
use Rattle.qc_msg.proofs.GrownMail.{mail-append, mail-taken}
use Rattle.qc_msg.proofs.DeedsGrow.{deeds-other, deeds-rise}
use Rattle.qc_msg.proofs.Growth.{deeds-posted_as, deeds-taken, mail-posted_as}
use Rattle.qc_promise.specs.Vocabulary.{Kept}
use Rattle.qc_script.specs.Vocabulary.{RunsWithFalls, begins, control, damaged, falls, phase, phase_of, posts, rises}
use Rattle.qc_script.specs.Vocabulary.{takes, unopened}
use Rattle.qc_script.specs.declared.script.Script.{Script}
use Rattle.laws_turns.specs.Vocabulary.{MailWithin, MessageWithin, SendsWithin}
use Rattle.laws_turns.proofs.Bounding.{given-within, posted-within}
use Rattle.laws_turns.proofs.Greater.{mail_le}
use Rattle.laws_bounds.specs.Vocabulary.{AllRisen, AreWithin, MoveWithin, PutWithin, RecordWithin, RiseWithin}
use Rattle.laws_bounds.specs.Vocabulary.{TurnWithin, records_at}
use Rattle.laws_bounds.proofs.ActorsWithin.{deeds_post, down_within, move_le, new_within, posts_within, records_le}
use Rattle.laws_bounds.proofs.ActorsWithin.{takes_within}
use Rattle.laws_bounds.proofs.Putting.{back_has, input_puts, line_puts, post_puts, puts_both, risen_all}
use Rattle.laws_bounds.proofs.RisenWithin.{rises_within}
use Rattle.qc_core.proofs.ActorLaws.{input}

-- the clocks of a history
pub record Held (decl : Declaration) (bound : ℕ) (h : List Entry) : Type 0 where
  pub messages : MailWithin bound (mail h)
  pub actors : (a : ℕ) → MoveWithin bound (actor_after decl a (deeds a [] h))
  pub puts : PutWithin bound h

put_le : (low high : ℕ) (h : List Entry) → low ≤ high → PutWithin low h → PutWithin high h
put_le low high h le =
    every-weaker (λ (e : Entry). AreWithin low (records_at e.step)) (λ (e : Entry). AreWithin high (records_at e.step))
    (λ e all. records_le low high le (records_at e.step) all) h

as_within : (bound : ℕ) (end : Appended) (turn : Turn) → TurnWithin bound (with_record turn)
    → SendsWithin bound (sends_as end turn)
as_within bound Done turn w = w.sends
as_within bound Failed turn w = w.failed_sends
as_within bound Stopped turn w = tt

module _ (decl : Declaration) where
  held_le : (low high : ℕ) (h : List Entry) → low ≤ high → Held decl low h → Held decl high h
  held_le low high h le held = record {
    messages = mail_le low high le (mail h) held.messages;
    actors = λ a. move_le low high le (actor_after decl a (deeds a [] h)) (held.actors a);
    puts = put_le low high h le held.puts;
  }

  -- one actor goes on
  grows : (c low high : ℕ) (h : List Entry) (xs : List Step) → low ≤ high → Held decl low h
      → MailWithin high (mail (h ++ by c xs)) → MoveWithin high (actor_after decl c (deeds c [] (h ++ by c xs)))
      → PutWithin high (by c xs) → Held decl high (h ++ by c xs)
  grows c low high h xs le held messages own puts = record {
    messages = messages;
    actors = λ a. at a (c == a) refl;
    puts = puts_both (λ a. RecordWithin high) h (by c xs) (put_le low high h le held.puts) puts;
  } where
    at : (a : ℕ) (t : Bool) → (c == a) ≡ t → MoveWithin high (actor_after decl a (deeds a [] (h ++ by c xs)))
    at a true same =
        subst (λ (k : ℕ). MoveWithin high (actor_after decl k (deeds k [] (h ++ by c xs)))) (eqb-true c a same) own
    at a false other =
        subst (λ (ds : List Deed). MoveWithin high (actor_after decl a ds)) (sym (deeds-other c a [] h xs other))
        (move_le low high le (actor_after decl a (deeds a [] h)) (held.actors a))

  -- a step that is nobody's deed
  still : (c bound : ℕ) (h : List Entry) (step : Step) → IsSilent step → PutWithin bound (by c (step ∷ []))
      → Held decl bound h
      → Held decl bound (h ++ by c (step ∷ []))
  still c bound h step silent puts held =
      grows c bound bound h (step ∷ []) (omega arith) held
      (subst (MailWithin bound) (sym (mail-silent h c step silent)) held.messages)
      (subst (λ (ds : List Deed). MoveWithin bound (actor_after decl c ds)) (sym (deeds-silent c c h step silent))
      (held.actors c))
      puts

  taken : (c bound : ℕ) (h : List Entry) (g : Input) → WasSentTo c (mail h) g → Held decl bound h
      → Held decl (bound + 1) (h ++ by c (step_of g ∷ []))
  taken c bound h g sent held =
      grows c bound (bound + 1) h (step_of g ∷ []) (omega arith) held
      (subst (MailWithin (bound + 1)) (sym (mail-taken h c g))
      (mail_le bound (bound + 1) (omega arith) (mail h) held.messages))
      (subst (MoveWithin (bound + 1))
      (sym (ap (actor_after decl c) (deeds-taken c h g sent) ∙ input decl c (deeds c [] h) g))
      (takes_within bound decl (actor_after decl c (deeds c [] h)).actor g (held.actors c).state
      (given-within bound c (mail h) g held.messages sent)))
      (input_puts (λ a. RecordWithin (bound + 1)) c g)

  posted : (c n bound : ℕ) (h : List Entry) (turn : Turn) → IsLawfulWithFalls decl c (deeds c [] h) turn
      → Held decl bound h
      → Held decl bound (h ++ by c (posted_as turn.append n turn))
  posted c n bound h turn law held =
      grows c bound bound h (posted_as turn.append n turn) (omega arith) held
      (subst (MailWithin bound)
      (sym
      (mail-append h (by c (posted_as turn.append n turn)) ∙ ap (λ (v : List Envelope). mail h ++ v)
      (mail-posted_as turn.append c n turn)))
      (every-append (λ (e : Envelope). MessageWithin bound e.message) (mail h)
      (envelopes c n (sends_as turn.append turn)) held.messages
      (posted-within bound c n (sends_as turn.append turn) (as_within bound turn.append turn its))))
      (subst (MoveWithin bound)
      (sym
      (ap (actor_after decl c) (deeds-posted_as turn.append c n h turn) ∙ fold-append (actor_does decl c) _
      (deeds c [] h) (deeds_as turn.append n turn)))
      (posts_within bound decl c (actor_after decl c (deeds c [] h)) (deeds_as turn.append n turn)
      (deeds_post turn.append n turn) (held.actors c)))
      (post_puts (λ a. RecordWithin bound) c n turn.append turn its.write)
    where
      its : TurnWithin bound (with_record turn)
      its = subst (TurnWithin bound) (called_turn decl c (deeds c [] h) turn law) (held.actors c).turn

  fallen : (c bound : ℕ) (h : List Entry) (cause : Fall) → Held decl bound h
      → Held decl bound (h ++ by c (steps.Fell cause None ∷ []))
  fallen c bound h cause held =
      grows c bound bound h (steps.Fell cause None ∷ []) (omega arith) held
      (subst (MailWithin bound) (sym (same_mail h (marked c (steps.Fell cause None)) refl)) held.messages)
      (subst (MoveWithin bound)
      (sym (ap (actor_after decl c) (deeds-fall c h cause) ∙ after_falls decl c (deeds c [] h) cause None))
      (down_within bound))
      (tt, tt)

  risen : (c bound : ℕ) (h : List Entry) (rs : List Record) → AreWithin bound rs → Held decl bound h
      → Held decl bound (h ++ by c (steps.Rose rs ∷ []))
  risen c bound h rs all held =
      grows c bound bound h (steps.Rose rs ∷ []) (omega arith) held
      (subst (MailWithin bound) (sym (same_mail h (marked c (steps.Rose rs)) refl)) held.messages)
      (subst (MoveWithin bound)
      (sym (ap (actor_after decl c) (deeds-rise c h rs) ∙ after_rises decl c (deeds c [] h) rs))
      (rises_within bound decl c rs all))
      (all, tt)

-- what rises is within a bound on what rises, and the steps before it

abbrev pub RisesBy : ℕ → List Entry → Type 0
RisesBy b h = (before later : List Entry) (a : ℕ) (rs : List Record) → before ++ marked a (steps.Rose rs) ∷ later ≡ h
    → PutWithin (b + length before) before → AreWithin (b + length before) rs

rises_part : (b : ℕ) (h k : List Entry) → RisesBy b (h ++ k) → RisesBy b h
rises_part b h k rising =
    λ before later a rs is. rising before (later ++ k) a rs
    (sym (append_assoc before (marked a (steps.Rose rs) ∷ later) k) ∙ ap (λ (es : List Entry). es ++ k) is)

-- where each record that rises is within it
pub rises_within_bound : (b : ℕ) (h : List Entry) → RiseWithin b h → RisesBy b h
rises_within_bound b h all =
    λ before later a rs is puts. records_le b (b + length before) (omega arith) rs
    (risen_all (λ c. RecordWithin b) before later a rs (subst (AllRisen (λ c. RecordWithin b)) (sym is) all))

-- where records are kept
pub kept_rises_within : (h : List Entry) → Kept h → RisesBy 0 h
kept_rises_within h kept =
    λ before later a rs is puts. back_has (λ c. RecordWithin (0 + length before)) a before rs puts
    (kept before later (marked a (steps.Rose rs)) is)

module _ (decl : Declaration) (script : Script) (fits : ℕ → List Record → Type 0) (b : ℕ) where
  abbrev IsRun : List Entry → List Bool → Type 0
  IsRun h open_inputs = RunsWithFalls (IsLawfulWithFalls decl) fits decl script h open_inputs

  -- at a greater number of steps
  later_on : (h k : List Entry) → Held decl (b + length h) (h ++ k) → Held decl (b + length (h ++ k)) (h ++ k)
  later_on h k held =
      held_le decl (b + length h) (b + length (h ++ k)) (h ++ k)
      (let longer : length (h ++ k) ≡ length h + length k = length-append h k in omega arith) held

  pub run_held : (h : List Entry) (open_inputs : List Bool) → IsRun h open_inputs → RisesBy b h
      → Held decl (b + length h) h
  run_held h open_inputs begins rising = record { messages = tt; actors = λ a. new_within (b + 0) decl a; puts = tt }
  run_held h open_inputs (takes c g before older run free rdy) rising =
      subst (λ (n : ℕ). Held decl n (older ++ marked c (step_of g) ∷ []))
      (let longer : length (older ++ marked c (step_of g) ∷ []) ≡ length older + 1 = length-append older
      (marked c (step_of g) ∷ []) in
      let same : b + length older + 1 ≡ b + length (older ++ marked c (step_of g) ∷ []) = omega arith in same)
      (taken decl c (b + length older) older g
      (ready_messages_were_sent_through_falls (IsLawfulWithFalls decl) fits decl script older before run c g rdy)
      (run_held older before run (rises_part b older (marked c (step_of g) ∷ []) rising)))
  run_held h open_inputs (posts c turn before older run open_input law) rising =
      later_on older (by c (posted_as turn.append (length (mail older)) turn))
      (posted decl c (length (mail older)) (b + length older) older turn law
      (run_held older before run (rises_part b older (by c (posted_as turn.append (length (mail older)) turn)) rising)))
  run_held h open_inputs (phase before older run none done calm further) rising =
      later_on older (marked (controller decl) (steps.Phase (phase_of older + 1)) ∷ [])
      (still decl (controller decl) (b + length older) older (steps.Phase (phase_of older + 1))
      (phase_silent (phase_of older + 1)) (tt, tt)
      (run_held older before run
      (rises_part b older (marked (controller decl) (steps.Phase (phase_of older + 1)) ∷ []) rising)))
  run_held h open_inputs (control line lines step before older run left is) rising =
      later_on older (marked (controller decl) step ∷ [])
      (still decl (controller decl) (b + length older) older step (line_silent line step is)
      (line_puts (λ a. RecordWithin (b + length older)) (controller decl) line step is)
      (run_held older before run (rises_part b older (marked (controller decl) step ∷ []) rising)))
  run_held h open_inputs (falls c lines before older run left) rising =
      later_on older (marked c (steps.Fell causes.Script None) ∷ [])
      (fallen decl c (b + length older) older causes.Script
      (run_held older before run (rises_part b older (marked c (steps.Fell causes.Script None) ∷ []) rising)))
  run_held h open_inputs (rises c rs turn lines before older run left fit has law) rising =
      let post : List Entry = by c (posted_as turn.append (length (mail older)) turn) in
      let rose : List Entry = older ++ marked c (steps.Rose rs) ∷ [] in
      let old : Held decl (b + length older) older =
      run_held older before run (rises_part b older (marked c (steps.Rose rs) ∷ post) rising) in
      subst (λ (k : List Entry). Held decl (b + length k) k) (append_assoc older (marked c (steps.Rose rs) ∷ []) post)
      (later_on rose post
      (posted decl c (length (mail older)) (b + length rose) rose turn law
      (later_on older (marked c (steps.Rose rs) ∷ [])
      (risen decl c (b + length older) older rs (rising older post c rs refl old.puts) old))))
  run_held h open_inputs (damaged c offset lines before older run left) rising =
      later_on older (marked c (steps.Damaged offset) ∷ [])
      (still decl c (b + length older) older (steps.Damaged offset) (record { sends = λ a. refl; deeds = λ ms. refl })
      (tt, tt)
      (run_held older before run (rises_part b older (marked c (steps.Damaged offset) ∷ []) rising)))
  run_held h open_inputs (unopened c cause lines before older run left disk) rising =
      later_on older (marked c (steps.Fell cause None) ∷ [])
      (fallen decl c (b + length older) older cause
      (run_held older before run (rises_part b older (marked c (steps.Fell cause None) ∷ []) rising)))
