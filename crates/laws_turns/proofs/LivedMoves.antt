-- An actor that takes, posts, falls or rises by itself, as one that lives.
use Rattle.std.proofs.Common.{[], ◌≡◌, ℕ, ◌+◌, ◌≤◌, not, Bool, true, false, List, ◌∷◌, ◌++◌, length, Some, None, refl}
use Rattle.std.proofs.Common.{sym, ap, ◌∙◌, subst, arith, length-append, append_assoc}
use Rattle.std.proofs.lemmas.List.{append-nil}
use Rattle.qc_core.specs.Vocabulary.{IsLawfulWithFalls, Lives, MayReach, is_up}
use Rattle.qc_core.specs.Lives as lives
use Rattle.qc_decl.specs.declared.declaration.Declaration.{Declaration}
use Rattle.qc_mailbox.specs.Vocabulary.{is_down}
use Rattle.laws_turns.proofs.Numbered.{IsSilent}
use Rattle.qc_msg.specs.declared.record.Record.{Record}
use Rattle.qc_msg.specs.declared.step.Control.{Control}
use Rattle.qc_msg.specs.declared.step.Fall.{Fall}
use Rattle.qc_msg.specs.declared.step.Input.{Input}
use Rattle.qc_msg.specs.declared.step.Step.{Step}
use Rattle.qc_msg.specs.declared.step.Step.TheVariants as steps
use Rattle.qc_msg.specs.declared.turn.Turn.{Turn}
use Rattle.qc_msg.specs.Vocabulary.{Deed, Entry, Falls, Rises, WasSentTo, by, deeds, deeds_as, fell, mail, marked}
use Rattle.qc_msg.specs.Vocabulary.{posted_as, sends_as, step_of}
use Rattle.qc_msg.proofs.GrownMail.{length-envelopes, mail-append, mail-taken}
use Rattle.qc_msg.proofs.DeedsGrow.{deeds-append, deeds-fell, deeds-rise}
use Rattle.qc_msg.proofs.Growth.{deeds-posted_as, deeds-taken, mail-posted_as}
use Rattle.qc_script.specs.Vocabulary.{controller_step, ready}
use Rattle.qc_script.specs.declared.script.Script.{Script}
use Rattle.laws_turns.specs.Vocabulary.{LivesIn}
use Rattle.laws_turns.proofs.Commands.{may_take}
use Rattle.laws_turns.proofs.Downs.{up_is}
use Rattle.laws_turns.proofs.StepCases.{controller_cases}

-- steps that are nobody's deeds

pub line_silent : (line : Control) (step : Step) → controller_step line ≡ Some step → IsSilent step
line_silent line step is =
    controller_cases IsSilent (λ a b. record { sends = λ c. refl; deeds = λ ms. refl })
    (λ a b. record { sends = λ c. refl; deeds = λ ms. refl })
    (λ x. record { sends = λ c. refl; deeds = λ ms. refl }) line step is

pub damage_silent : (offset : ℕ) → IsSilent (steps.Damaged offset)
damage_silent offset = record { sends = λ a. refl; deeds = λ ms. refl }

-- an actor's fall, and its rise

pub deeds-fall : (a : ℕ) (h : List Entry) (cause : Fall)
    → deeds a [] (h ++ marked a (steps.Fell cause None) ∷ []) ≡ deeds a [] h ++ Falls cause None ∷ []
deeds-fall a h cause =
    deeds-append a [] h (by a (fell cause None))
    ∙ ap (λ (ds : List Deed). deeds a [] h ++ ds) (deeds-fell a (mail h) cause None)

pub up_of : (ds : List Deed) (u : Bool) → u ≡ not (is_down ds) → is_up ds ≡ u
up_of ds u is = up_is ds ∙ sym is

module _ (decl : Declaration) (script : Script) where
  -- one event

  pub lives_on : (a : ℕ) (t : Bool) (h k : List Entry) → deeds a [] k ≡ deeds a [] h → length (mail h) ≤ length (mail k)
      → LivesIn decl a h t → LivesIn decl a k t
  lives_on a t h k same more r = record {
    above = r.above;
    lives = subst (λ (ds : List Deed). Lives decl a ds t r.above) (sym same) r.lives;
    within = (let old : r.above ≤ length (mail h) = r.within in omega arith);
  }

  pub mail_grows : (h k : List Entry) → length (mail h) ≤ length (mail (h ++ k))
  mail_grows h k =
      let whole : length (mail (h ++ k)) ≡ length (mail h) + length (mail k) =
      ap length (mail-append h k) ∙ length-append (mail h) (mail k) in
      omega arith

  pub lives_takes : (a : ℕ) (given : Input) (h : List Entry) → WasSentTo a (mail h) given
      → ready decl script a h ≡ Some given → MayReach (is_up (deeds a [] h)) given → LivesIn decl a h false
      → LivesIn decl a (h ++ marked a (step_of given) ∷ []) true
  lives_takes a given h sent rdy reach r = record {
    above = r.above;
    lives =
        subst (λ (ds : List Deed). Lives decl a ds true r.above) (sym (deeds-taken a h given sent))
        (lives.takes (deeds a [] h) given r.above r.lives (may_take decl script a h given rdy) reach);
    within =
        (let old : r.above ≤ length (mail h) = r.within in
        let same : length (mail (h ++ marked a (step_of given) ∷ [])) ≡ length (mail h) =
        ap length (mail-taken h a given) in
        omega arith);
  }

  mail_posted : (a n : ℕ) (turn : Turn) (h : List Entry)
      → length (mail (h ++ by a (posted_as turn.append n turn))) ≡ length (mail h) + length (sends_as turn.append turn)
  mail_posted a n turn h =
      ap length (mail-append h (by a (posted_as turn.append n turn)))
      ∙ length-append (mail h) (mail (by a (posted_as turn.append n turn)))
      ∙ ap (λ (k : ℕ). length (mail h) + k)
      (ap length (mail-posted_as turn.append a n turn) ∙ length-envelopes a n (sends_as turn.append turn))

  pub lives_posts : (a : ℕ) (turn : Turn) (h : List Entry) → IsLawfulWithFalls decl a (deeds a [] h) turn
      → LivesIn decl a h true → LivesIn decl a (h ++ by a (posted_as turn.append (length (mail h)) turn)) false
  lives_posts a turn h law r = record {
    above = length (mail h) + length (sends_as turn.append turn);
    lives =
        subst (λ (ds : List Deed). Lives decl a ds false (length (mail h) + length (sends_as turn.append turn)))
        (sym (deeds-posted_as turn.append a (length (mail h)) h turn))
        (lives.posts (deeds a [] h) turn r.above (length (mail h)) r.lives r.within law);
    within =
        (let same : length (mail (h ++ by a (posted_as turn.append (length (mail h)) turn)))
        ≡ length (mail h) + length (sends_as turn.append turn) = mail_posted a (length (mail h)) turn h in
        omega arith);
  }

  pub lives_falls : (a : ℕ) (cause : Fall) (h : List Entry)
      → ((n : ℕ) → Lives decl a (deeds a [] h) false n → Lives decl a (deeds a [] h ++ Falls cause None ∷ []) false n)
      → LivesIn decl a h false
      → LivesIn decl a (h ++ marked a (steps.Fell cause None) ∷ []) false
  lives_falls a cause h go r = record {
    above = r.above;
    lives = subst (λ (ds : List Deed). Lives decl a ds false r.above) (sym (deeds-fall a h cause)) (go r.above r.lives);
    within =
        (let old : r.above ≤ length (mail h) = r.within in
        let more : length (mail h) ≤ length (mail (h ++ marked a (steps.Fell cause None) ∷ [])) =
        mail_grows h (marked a (steps.Fell cause None) ∷ []) in
        omega arith);
  }

  pub lives_rises : (a : ℕ) (records : List Record) (turn : Turn) (h : List Entry) → is_up (deeds a [] h) ≡ false
      → IsLawfulWithFalls decl a (deeds a [] (h ++ marked a (steps.Rose records) ∷ [])) turn → LivesIn decl a h false
      → LivesIn decl a (h ++ by a (steps.Rose records ∷ posted_as turn.append (length (mail h)) turn)) false
  lives_rises a records turn h down law r = record {
    above = length (mail h) + length (sends_as turn.append turn);
    lives =
        subst (λ (ds : List Deed). Lives decl a ds false (length (mail h) + length (sends_as turn.append turn)))
        (sym all_deeds)
        (lives.rises (deeds a [] h) records turn r.above (length (mail h)) r.lives down r.within
        (subst (λ (ds : List Deed). IsLawfulWithFalls decl a ds turn) (deeds-rise a h records) law));
    within =
        (let same : length (mail (h ++ by a (steps.Rose records ∷ posted_as turn.append (length (mail h)) turn)))
        ≡ length (mail h) + length (sends_as turn.append turn) = all_mail in
        omega arith);
  } where
    rose : List Entry
    rose = h ++ marked a (steps.Rose records) ∷ []

    split : h ++ by a (steps.Rose records ∷ posted_as turn.append (length (mail h)) turn)
        ≡ rose ++ by a (posted_as turn.append (length (mail h)) turn)
    split =
        sym (append_assoc h (marked a (steps.Rose records) ∷ []) (by a (posted_as turn.append (length (mail h)) turn)))

    all_deeds : deeds a [] (h ++ by a (steps.Rose records ∷ posted_as turn.append (length (mail h)) turn))
        ≡ (deeds a [] h ++ Rises records ∷ []) ++ deeds_as turn.append (length (mail h)) turn
    all_deeds =
        ap (deeds a []) split ∙ deeds-posted_as turn.append a (length (mail h)) rose turn
        ∙ ap (λ (ds : List Deed). ds ++ deeds_as turn.append (length (mail h)) turn) (deeds-rise a h records)

    mail_rose : length (mail rose) ≡ length (mail h)
    mail_rose = ap length (mail-append h (marked a (steps.Rose records) ∷ []) ∙ append-nil (mail h))

    all_mail : length (mail (h ++ by a (steps.Rose records ∷ posted_as turn.append (length (mail h)) turn)))
        ≡ length (mail h) + length (sends_as turn.append turn)
    all_mail =
        ap (λ (k : List Entry). length (mail k)) split ∙ mail_posted a (length (mail h)) turn rose
        ∙ ap (λ (k : ℕ). k + length (sends_as turn.append turn)) mail_rose
