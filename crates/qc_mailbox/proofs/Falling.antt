-- Each event of a run with falls keeps what stands in the inbox of an actor.
use Rattle.std.proofs.Common.{◌≡◌, ℕ, ◌<◌, ◌==◌, Bool, true, false, not, List, [], ◌∷◌, ◌++◌, length, Option, Some}
use Rattle.std.proofs.Common.{None, refl, ap, sym, subst, ◌∙◌, arith, eqb-true}
use Rattle.std.specs.Prelude.{drop, set}
use Rattle.std.proofs.lemmas.List.{length-set}
use Rattle.qc_link.specs.Vocabulary.{most_actors}
use Rattle.qc_msg.specs.declared.record.Record.{Record}
use Rattle.qc_msg.specs.declared.step.Control.{Control}
use Rattle.qc_msg.specs.declared.step.Control.TheVariants as controls
use Rattle.qc_msg.specs.declared.step.Fall.{Fall}
use Rattle.qc_msg.specs.declared.step.Input.{Input}
use Rattle.qc_msg.specs.declared.step.Input.TheVariants as given
use Rattle.qc_msg.specs.declared.step.Step.{Step}
use Rattle.qc_msg.specs.declared.step.Step.TheVariants as steps
use Rattle.qc_msg.specs.declared.turn.Appended.{Appended}
use Rattle.qc_msg.specs.declared.turn.Appended.TheVariants.{Done, Failed, Stopped}
use Rattle.qc_msg.specs.declared.turn.Posting.{Posting}
use Rattle.qc_msg.specs.declared.turn.Turn.{Turn}
use Rattle.qc_msg.specs.Vocabulary.{Deed, Entry, HasRecord, MayEnd, by, deed_at, deeds, mail, marked, posted_as, sents}
use Rattle.qc_msg.specs.Vocabulary.{step_of, told, wrote}
use Rattle.qc_script.specs.Vocabulary.{Inbox, actor_fell, command_called, control_acted, controls_left, copy_taken}
use Rattle.qc_script.specs.Vocabulary.{inbox, inbox_at, is_up, loss_taken}
use Rattle.qc_script.specs.declared.script.Script.{Script}
use Rattle.qc_mailbox.specs.Vocabulary.{IsEmptied, TellsWhereDown, is_down}
use Rattle.qc_mailbox.proofs.Acting.{input_keeps}
use Rattle.qc_mailbox.proofs.Apart.{one_controls}
use Rattle.qc_mailbox.proofs.Downs.{AreTied, down_within, down_posted, down_risen, down_step, ends_down, tied_on}
use Rattle.qc_mailbox.proofs.Downs.{tied_silent, up_other, up_same}
use Rattle.qc_mailbox.proofs.Downs as downs
use Rattle.qc_mailbox.proofs.Emptied.{Passes, acted_up, after, told_controls, told_emptied, told_up, emptied_if}
use Rattle.qc_mailbox.proofs.Sent.{Keeps}
use Rattle.qc_mailbox.proofs.Standing.{Breaks, ClosedWhile, Goes, IsSettled, NoneOpen, Stands, acts, failed_breaks}
use Rattle.qc_mailbox.proofs.Standing.{falls_by_line, falls_in_post, fell_by_line, fell_in_post, stopped_breaks}
use Rattle.qc_mailbox.proofs.Standing.{tail_goes, wrote_where_down, wrote_where_up}

-- the actor's own input

dropped : {A : Type 0} (xs : List A) → xs ≡ [] → drop 1 xs ≡ []
dropped xs none = ap (λ (ys : List _). drop 1 ys) none

input_emptied : (script : Script) (b : ℕ) (i : Inbox) (a : ℕ) (g : Input) → IsEmptied i
    → IsEmptied (inbox_at script b i a (step_of g))
input_emptied script b i a (given.Called command) is =
    emptied_if (a == b) (command_called i) i
    (record { copies = is.copies; unanswered = is.unanswered; lost = is.lost }) is
input_emptied script b i a (given.Got e) is =
    emptied_if (a == b) (copy_taken i) i (record
    { copies = dropped i.copies is.copies; unanswered = is.unanswered; lost = is.lost }) is
input_emptied script b i a (given.Lost number) is =
    emptied_if (a == b) (loss_taken i) i (record
    { copies = is.copies; unanswered = is.unanswered; lost = dropped i.lost is.lost }) is

-- what an actor that is up sends and tells

pub passes_stand : (script : Script) (b r : ℕ) (h : List Entry) (inputs : List Bool) (i j : Inbox)
    → Passes script b r i j → is_up i.up r ≡ true → Stands b h inputs i → Stands b h inputs j
passes_stand script b r h inputs i j passes up s = record {
  long = ap (λ (v : List Bool). length v) passes.up ∙ s.long;
  settled = subst (λ (v : List Bool). IsSettled v j.controls) (sym passes.up)
      (subst (λ (lines : List Control). IsSettled i.up lines) (sym passes.controls) s.settled);
  closed = subst (λ (lines : List Control). ClosedWhile lines inputs) (sym passes.controls) s.closed;
  tied = subst (λ (v : List Bool). AreTied v h) (sym passes.up) s.tied;
  emptied = λ down. (let before : is_up i.up b ≡ false = ap (λ (v : List Bool). is_up v b) (sym passes.up)
      ∙ down in passes.emptied (other before (r == b) refl) before (s.emptied before));
} where
  other : is_up i.up b ≡ false → (t : Bool) → (r == b) ≡ t → (r == b) ≡ false
  other down false is = is
  other down true is =
      let here : is_up i.up b ≡ true = subst (λ (k : ℕ). is_up i.up k ≡ true) (eqb-true r b is) up in
      absurd (let never : ⊥ = cc in never)

module _ (script : Script) (b : ℕ) (low : b < most_actors) (h : List Entry) (inputs : List Bool)
    (s : Stands b h inputs (inbox script b h)) where
  -- the lines left are those of the inbox
  lines_are : (lines : List Control) → controls_left script h ≡ lines → (inbox script b h).controls ≡ lines
  lines_are lines left = one_controls script h b 0 low (omega arith) ∙ left

  abbrev here : Inbox
  here = inbox script b h

  same_passes : (r : ℕ) → Passes script b r here here
  same_passes r = record { up = refl; controls = refl; emptied = λ other down is. is }

  pub none_open : (line : Control) (lines : List Control) → controls_left script h ≡ line ∷ lines → NoneOpen inputs
  none_open line lines left = subst (λ (ls : List Control). ClosedWhile ls inputs)
      (lines_are (line ∷ lines) left) s.closed

  pub restarted : (a : ℕ) (lines : List Control) → controls_left script h ≡ controls.Restart a ∷ lines
      → is_up here.up a ≡ false
  restarted a lines left = subst (λ (ls : List Control). IsSettled here.up ls)
      (lines_are (controls.Restart a ∷ lines) left) s.settled

  pub take_stands : (a : ℕ) (g : Input) (now : List Bool) → here.controls ≡ []
      → Stands b (h ++ marked a (step_of g) ∷ []) now (inbox_at script b here a (step_of g))
  take_stands a g now none =
      let keeps : Keeps here (inbox_at script b here a (step_of g)) = input_keeps script b here a g in
      let left : (inbox_at script b here a (step_of g)).controls ≡ [] = keeps.controls ∙ none in
      record {
        long = ap (λ (v : List Bool). length v) keeps.up ∙ s.long;
        settled = subst (λ (lines : List Control). IsSettled (inbox_at script b here a (step_of g)).up lines)
            (sym left) tt;
        closed = subst (λ (lines : List Control). ClosedWhile lines now) (sym left) tt;
        tied = subst (λ (v : List Bool). AreTied v (h ++ marked a (step_of g) ∷ [])) (sym keeps.up)
            (tied_on here.up here.up h a (step_of g ∷ []) s.tied (λ c other. refl)
            (λ within. s.tied a within ∙ ap not (sym
            (down_step a h (step_of g) ∙ downs.input_keeps (is_down (deeds a [] h)) (mail h) g))));
        emptied = λ down. input_emptied script b here a g
            (s.emptied (ap (λ (v : List Bool). is_up v b) (sym keeps.up) ∙ down));
      }

  -- the same inbox after a post of an actor that is up
  stays : (a n : ℕ) (turn : Turn) (now : List Bool) → here.controls ≡ []
      → Stands b (h ++ by a (posted_as Done n turn)) now here
  stays a n turn now none = record {
    long = s.long;
    settled = s.settled;
    closed = subst (λ (lines : List Control). ClosedWhile lines now) (sym none) tt;
    tied = tied_on here.up here.up h a (posted_as Done n turn) s.tied (λ c other. refl)
        (λ within. s.tied a within ∙ ap not (sym (down_posted Done a n h turn)));
    emptied = s.emptied;
  }

  post_breaks : (a : ℕ) (xs : List Step) (now : List Bool) → here.controls ≡ [] → is_up here.up a ≡ true
      → is_down (deeds a [] (h ++ by a xs)) ≡ true → Breaks script b a here xs
      → Stands b (h ++ by a xs) now (after script b here (by a xs))
  post_breaks a xs now none up down broken =
      subst (Stands b (h ++ by a xs) now)
      (sym (broken.is ∙ fell_in_post b broken.inbox a broken.cause broken.by_disk
      (ap (λ (v : List Bool). is_up v a) broken.passes.up ∙ up)))
      (falls_in_post script b a h xs here broken.inbox broken.passes s.long s.tied s.emptied down now none)

  wrote_up : (a : ℕ) (w : Option Record) (xs : List Step) → is_up here.up a ≡ true
      → after script b here (by a (wrote w ++ xs)) ≡ after script b here (by a xs)
  wrote_up a None xs up = refl
  wrote_up a (Some written) xs up = ap (λ (j : Inbox). after script b j (by a xs)) (wrote_where_up b here a up)

  up_posts : (a n : ℕ) (turn : Turn) (now : List Bool) (end : Appended) → here.controls ≡ [] → is_up here.up a ≡ true
      → Stands b (h ++ by a (posted_as end n turn)) now (after script b here (by a (posted_as end n turn)))
  up_posts a n turn now Done none up =
      let goes : Goes script b a here (sents n turn.sends ++ told turn.told) = tail_goes script b a here n turn in
      subst (Stands b (h ++ by a (posted_as Done n turn)) now)
      (sym (wrote_up a turn.write (sents n turn.sends ++ told turn.told) up ∙ goes.is))
      (passes_stand script b a (h ++ by a (posted_as Done n turn)) now here goes.inbox goes.passes up
      (stays a n turn now none))
  up_posts a n turn now Failed none up = post_breaks a (posted_as Failed n turn) now none up
      (down_posted Failed a n h turn) (failed_breaks script b a here n turn)
  up_posts a n turn now Stopped none up = post_breaks a (posted_as Stopped n turn) now none up
      (down_posted Stopped a n h turn) (stopped_breaks script b a here n turn)

  -- an actor that is down tells a reply
  told_stands : (a : ℕ) (xs : List Step) (turn : Turn) (now : List Bool) → xs ≡ told turn.told → here.controls ≡ []
      → is_up here.up a ≡ false → is_down (deeds a [] (h ++ by a xs)) ≡ true
      → Stands b (h ++ by a xs) now (after script b here (by a xs))
  told_stands a xs turn now said none up down =
      let up_is : (after script b here (by a xs)).up ≡ here.up =
      ap (λ (ys : List Step). (after script b here (by a ys)).up) said ∙ told_up script b a here turn.told in
      let left : (after script b here (by a xs)).controls ≡ [] =
      ap (λ (ys : List Step). (after script b here (by a ys)).controls) said
      ∙ (told_controls script b a here turn.told ∙ none) in
      record {
        long = ap (λ (v : List Bool). length v) up_is ∙ s.long;
        settled = subst (λ (lines : List Control). IsSettled (after script b here (by a xs)).up lines) (sym left) tt;
        closed = subst (λ (lines : List Control). ClosedWhile lines now) (sym left) tt;
        tied = subst (λ (v : List Bool). AreTied v (h ++ by a xs)) (sym up_is)
            (tied_on here.up here.up h a xs s.tied (λ c other. refl) (λ within. up ∙ sym (ap not down)));
        emptied = λ gone. subst (λ (ys : List Step). IsEmptied (after script b here (by a ys))) (sym said)
            (told_emptied script b a here turn.told (s.emptied (ap (λ (v : List Bool). is_up v b) (sym up_is) ∙ gone)));
      }

  says : (n : ℕ) (turn : Turn) → turn.write ≡ None → turn.sends ≡ [] → MayEnd turn.write turn.append
      → posted_as turn.append n turn ≡ told turn.told
  says n turn none silent may = at turn.append (subst (λ (w : Option Record). MayEnd w turn.append) none may)
    where
      at : (end : Appended) → MayEnd None end → posted_as end n turn ≡ told turn.told
      at Done may = ap (λ (w : Option Record). wrote w ++ (sents n turn.sends ++ told turn.told)) none
          ∙ ap (λ (ps : List Posting). sents n ps ++ told turn.told) silent
      at Failed may = absurd may
      at Stopped may = absurd may

  ended : (end : Appended) (down : Bool) → down ≡ true → ends_down end down ≡ true
  ended Done down is = is
  ended Failed down is = refl
  ended Stopped down is = refl

  down_by_deeds : (up down : Bool) → up ≡ false → up ≡ not down → down ≡ true
  down_by_deeds up true gone tie = refl
  down_by_deeds up false gone tie = absurd (let never : ⊥ = cc in never)

  pub post_stands : (lawful : ℕ → List Deed → Turn → Type 0) → TellsWhereDown lawful
      → (a n : ℕ) (turn : Turn) (now : List Bool) → a < most_actors → here.controls ≡ [] → lawful a (deeds a [] h) turn
      → Stands b (h ++ by a (posted_as turn.append n turn)) now
      (after script b here (by a (posted_as turn.append n turn)))
  post_stands lawful tells a n turn now within none law = at (is_up here.up a) refl
    where
      at : (t : Bool) → is_up here.up a ≡ t → Stands b (h ++ by a (posted_as turn.append n turn)) now
          (after script b here (by a (posted_as turn.append n turn)))
      at true up = up_posts a n turn now turn.append none up
      at false gone =
          let down : is_down (deeds a [] h) ≡ true =
          down_by_deeds (is_up here.up a) (is_down (deeds a [] h)) gone (s.tied a within) in
          told_stands a (posted_as turn.append n turn) turn now
          (says n turn (tells.writes_none a (deeds a [] h) turn law down)
          (tells.sends_none a (deeds a [] h) turn law down) (tells.ends a (deeds a [] h) turn law))
          none gone (down_posted turn.append a n h turn ∙ ended turn.append (is_down (deeds a [] h)) down)

  -- control lines

  pub act_stands : (c : ℕ) (step : Step) (j : Inbox) → NoneOpen inputs → j.up ≡ here.up
      → (is_up j.up b ≡ false → IsEmptied j) → deed_at (mail h) step ≡ []
      → Stands b (h ++ marked c step ∷ []) inputs (control_acted b j)
  act_stands c step j none up emptied silent =
      acts b (h ++ marked c step ∷ []) inputs j (ap (λ (v : List Bool). length v) up ∙ s.long) none
      (tied_silent here.up j.up h c step s.tied up silent) emptied

  -- an actor falls by a line: it was crashed, or its journal wasn't opened
  pub line_falls : (a : ℕ) (cause : Fall) → NoneOpen inputs
      → Stands b (h ++ by a (steps.Fell cause None ∷ [])) inputs (control_acted b (actor_fell b here a))
  line_falls a cause none = falls_by_line script b a h (steps.Fell cause None ∷ []) here here
      (same_passes a) s.long s.tied s.emptied (down_step a h (steps.Fell cause None)) inputs none

  -- it rises, or falls again as the record of its rise isn't written

  risen_up : (a : ℕ) (xs : List Step) → is_up here.up a ≡ false → is_down (deeds a [] (h ++ by a xs)) ≡ false
      → NoneOpen inputs → Stands b (h ++ by a xs) inputs (control_acted b (record here { up = set here.up a true }))
  risen_up a xs gone up none =
      acts b (h ++ by a xs) inputs (record here { up = set here.up a true }) (length-set here.up a true ∙ s.long) none
      (tied_on here.up (set here.up a true) h a xs s.tied (λ c other. up_other here.up a c true other)
      (λ within. up_same here.up a true s.long within ∙ sym (ap not up)))
      (λ now. still now (s.emptied (before now)))
    where
      within : a < most_actors
      within = subst (λ (n : ℕ). a < n) s.long (down_within here.up a gone)

      before : is_up (set here.up a true) b ≡ false → is_up here.up b ≡ false
      before now = at (a == b) refl
        where
          at : (t : Bool) → (a == b) ≡ t → is_up here.up b ≡ false
          at true is =
              let mine : is_up (set here.up a true) b ≡ true =
              subst (λ (k : ℕ). is_up (set here.up a true) k ≡ true) (eqb-true a b is)
              (up_same here.up a true s.long within) in
              absurd (let never : ⊥ = cc in never)
          at false other = sym (up_other here.up a b true other) ∙ now

      still : is_up (set here.up a true) b ≡ false → IsEmptied here
          → IsEmptied (record here { up = set here.up a true })
      still now is = record { copies = is.copies; unanswered = is.unanswered; lost = is.lost }

  wrote_rise : (a : ℕ) (w : Option Record) (xs : List Step) → HasRecord w → is_up here.up a ≡ false
      → after script b here (by a (wrote w ++ xs)) ≡ after script b
      (control_acted b (record here { up = set here.up a true })) (by a xs)
  wrote_rise a None xs has gone = absurd has
  wrote_rise a (Some written) xs has gone =
      ap (λ (j : Inbox). after script b j (by a xs)) (wrote_where_down b here a gone)

  rise_breaks : (a : ℕ) (xs : List Step) → is_up here.up a ≡ false → is_down (deeds a [] (h ++ by a (xs))) ≡ true
      → NoneOpen inputs → (ys : List Step) → after script b here (by a xs) ≡ after script b here (by a ys)
      → Breaks script b a here ys
      → Stands b (h ++ by a xs) inputs (after script b here (by a xs))
  rise_breaks a xs gone down none ys same broken =
      subst (Stands b (h ++ by a xs) inputs)
      (sym (same ∙ (broken.is ∙ fell_by_line b broken.inbox a broken.cause broken.by_disk
      (ap (λ (v : List Bool). is_up v a) broken.passes.up ∙ gone))))
      (falls_by_line script b a h xs here broken.inbox broken.passes s.long s.tied s.emptied down inputs none)

  pub rise_stands : (a n : ℕ) (records : List Record) (turn : Turn) (end : Appended) → is_up here.up a ≡ false
      → HasRecord turn.write → NoneOpen inputs
      → Stands b (h ++ by a (steps.Rose records ∷ posted_as end n turn)) inputs
      (after script b here (by a (steps.Rose records ∷ posted_as end n turn)))
  rise_stands a n records turn Done gone has none =
      let risen : Inbox = control_acted b (record here { up = set here.up a true }) in
      let goes : Goes script b a risen (sents n turn.sends ++ told turn.told) = tail_goes script b a risen n turn in
      let within : a < most_actors = subst (λ (n : ℕ). a < n) s.long (down_within here.up a gone) in
      subst (Stands b (h ++ by a (steps.Rose records ∷ posted_as Done n turn)) inputs)
      (sym (wrote_rise a turn.write (sents n turn.sends ++ told turn.told) has gone ∙ goes.is))
      (passes_stand script b a (h ++ by a (steps.Rose records ∷ posted_as Done n turn)) inputs risen goes.inbox
      goes.passes
      (ap (λ (v : List Bool). is_up v a) (acted_up b (record here { up = set here.up a true }))
      ∙ up_same here.up a true s.long within)
      (risen_up a (steps.Rose records ∷ posted_as Done n turn) gone (down_risen Done a n h records turn) none))
  rise_stands a n records turn Failed gone has none =
      rise_breaks a (steps.Rose records ∷ posted_as Failed n turn) gone (down_risen Failed a n h records turn) none
      (posted_as Failed n turn) refl (failed_breaks script b a here n turn)
  rise_stands a n records turn Stopped gone has none =
      rise_breaks a (steps.Rose records ∷ posted_as Stopped n turn) gone (down_risen Stopped a n h records turn) none
      (posted_as Stopped n turn) refl (stopped_breaks script b a here n turn)
