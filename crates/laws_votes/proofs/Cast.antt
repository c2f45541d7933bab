-- Each vote of a run with falls is one of its first entries, or its request names no life of its site, or none before
-- the one that the site's records gave then.
use Rattle.std.proofs.Common.{◌≡◌, ◌≤◌, ◌⊎◌, ◌+◌, ℕ, Bool, true, List, [], ◌∷◌, ◌++◌, inl, inr, length, Some, slice_get}
use Rattle.std.proofs.Common.{refl, sym, ap, ◌∙◌, subst, arith}
use Rattle.std.proofs.lemmas.List.{append-nil}
use Rattle.qc_core.specs.Vocabulary.{IsLawfulWithFalls}
use Rattle.qc_decl.specs.Vocabulary.{IsAccepted, controller, is_site}
use Rattle.qc_decl.specs.declared.declaration.Declaration.{Declaration}
use Rattle.laws_votes.specs.Vocabulary.{IsCastSince, life_at}
use Rattle.laws_votes.proofs.SiteLives.{life_grows}
use Rattle.laws_votes.proofs.VoteInputs.{IsCast}
use Rattle.laws_votes.proofs.Voting.{post_casts, rise_casts}
use Rattle.laws_turns.proofs.Numbered.{mail-silent, phase_silent}
use Rattle.qc_list.specs.Vocabulary.{In}
use Rattle.qc_list.proofs.Members.{In-first, In-either}
use Rattle.laws_turns.proofs.LivedMoves.{line_silent}
use Rattle.qc_msg.proofs.GrownMail.{mail-append, mail-taken}
use Rattle.qc_msg.proofs.Growth.{mail-posted_as}
use Rattle.qc_msg.specs.Vocabulary.{Entry, by, deeds, envelopes, mail, marked, posted_as, sends_as, step_of}
use Rattle.qc_msg.specs.declared.message.Answer.TheVariants as answers
use Rattle.qc_msg.specs.declared.message.Envelope.{Envelope}
use Rattle.qc_msg.specs.declared.message.Message.TheVariants as messages
use Rattle.qc_msg.specs.declared.record.Record.{Record}
use Rattle.qc_msg.specs.declared.step.Step.TheVariants as steps
use Rattle.qc_msg.specs.declared.turn.Turn.{Turn}
use Rattle.laws_refinement.proofs.Posts.{Place, placed}
use Rattle.qc_promise.specs.Vocabulary.{Kept}
use Rattle.laws_reach.proofs.RunsStand.{runs_stand}
use Rattle.laws_reach.proofs.Stood.{Stood}
use Rattle.qc_script.specs.Vocabulary.{IsScriptFor, RunsWithFalls, begins, control, damaged, falls, phase, phase_of}
use Rattle.qc_script.specs.Vocabulary.{posts, rises, takes, unopened}
use Rattle.qc_script.specs.declared.script.Script.{Script}
use Rattle.qc_promise.proofs.Posts.{kept_part}

-- of two beginnings of one list, one is a beginning of the other
data Begins {A : Type 0} (early older : List A) : Type 0 where
  Within : (m : List A) → early ++ m ≡ older → Begins early older
  Beyond : (m : List A) → early ≡ older ++ m → Begins early older

beginnings : {A : Type 0} (early later older xs : List A) → early ++ later ≡ older ++ xs → Begins early older
beginnings [] later older xs is = Within older refl
beginnings (x ∷ early) later [] xs is = Beyond (x ∷ early) refl
beginnings (x ∷ early) later (y ∷ older) xs is =
    let same : x ≡ y = cc in
    let rest : early ++ later ≡ older ++ xs = cc in
    elim (beginnings early later older xs rest) [
      | Within m s ↦ Within m (λ i. same i ∷ s i)
      | Beyond m s ↦ Beyond m (λ i. same i ∷ s i)
    ]

module _ (decl : Declaration) where
  abbrev pub IsVote : Envelope → ℕ → Type 0
  IsVote e to = (is_site decl e.from ≡ true) × ((clock : ℕ) × (e.message ≡ messages.Answer to (answers.Yes clock)))

  -- each vote is an early one, or cast since
  abbrev pub AreCastSince : List Entry → Type 0
  AreCastSince h = (early later : List Entry) → early ++ later ≡ h → (e : Envelope) (to : ℕ) → In e (mail h)
      → IsVote e to → In e (mail early) ⊎ IsCastSince early h e.from to

  -- an event, whose own votes are cast in the life that the records give after it
  event : (older xs : List Entry) → Kept (older ++ xs) → AreCastSince older
      → ((e : Envelope) (to : ℕ) → In e (mail (older ++ xs)) → IsVote e to
      → In e (mail older) ⊎ IsCast (mail (older ++ xs)) to (life_at (older ++ xs) e.from))
      → AreCastSince (older ++ xs)
  event older xs kept before new early later is e to among vote = at (new e to among vote)
    where
      more : (x : Envelope) → In x (mail older) → In x (mail (older ++ xs))
      more x there = subst (In x) (sym (mail-append older xs)) (In-first x (mail older) (mail xs) there)

      grown : IsCastSince early older e.from to → IsCastSince early (older ++ xs) e.from to
      grown v = record {
        request = v.request;
        sent = more v.request v.sent;
        numbered = v.numbered;
        tx = v.tx;
        epoch = v.epoch;
        life = v.life;
        named = v.named;
        low = v.low;
      }

      old : In e (mail older) → Begins early older → In e (mail early) ⊎ IsCastSince early (older ++ xs) e.from to
      old there (Within m s) = elim (before early m s e to there vote) [ inl first ↦ inl first | inr v ↦ inr (grown v) ]
      old there (Beyond m s) = inl (subst (λ (k : List Entry). In e (mail k)) (sym s)
          (subst (In e) (sym (mail-append older m)) (In-first e (mail older) (mail m) there)))

      at : In e (mail older) ⊎ IsCast (mail (older ++ xs)) to (life_at (older ++ xs) e.from)
          → In e (mail early) ⊎ IsCastSince early (older ++ xs) e.from to
      at (inl there) = old there (beginnings early later older xs is)
      at (inr v) = inr (record {
        request = v.request;
        sent = v.sent;
        numbered = v.numbered;
        tx = v.tx;
        epoch = v.epoch;
        life = v.life;
        named = v.named;
        low = elim v.lives [
          | inl none ↦ inl none
          | inr low ↦ inr (let up : life_at early e.from ≤ life_at (older ++ xs) e.from =
              life_grows e.from early later (older ++ xs) is kept in
              let last : life_at (older ++ xs) e.from ≤ v.life = low in omega arith)
        ];
      })

  -- one that sends nothing
  mute : (older xs : List Entry) → Kept (older ++ xs) → AreCastSince older → mail (older ++ xs) ≡ mail older
      → AreCastSince (older ++ xs)
  mute older xs kept before same = event older xs kept before (λ e to among vote. inl (subst (In e) same among))

  -- one of an actor that sends these postings
  sending : (older xs : List Entry) (a : ℕ) (ps : List _) → Kept (older ++ xs) → AreCastSince older
      → mail (older ++ xs) ≡ mail older ++ envelopes a (length (mail older)) ps
      → ((e : Envelope) (to : ℕ) → IsVote e to → In e (envelopes a (length (mail older)) ps)
      → Place a ps (mail older ++ envelopes a (length (mail older)) ps) e
      → In e (mail older) ⊎ IsCast (mail older ++ envelopes a (length (mail older)) ps) to (life_at (older ++ xs) a))
      → AreCastSince (older ++ xs)
  sending older xs a ps kept before grows new = event older xs kept before by_mail
    where
      by_mail : (e : Envelope) (to : ℕ) → In e (mail (older ++ xs)) → IsVote e to
          → In e (mail older) ⊎ IsCast (mail (older ++ xs)) to (life_at (older ++ xs) e.from)
      by_mail e to among vote = elim (In-either e (mail older) (envelopes a (length (mail older)) ps)
          (subst (In e) grows among)) [
            | inl there ↦ inl there
            | inr now ↦ (let p : Place a ps (mail older ++ envelopes a (length (mail older)) ps) e =
                placed (mail older) a (length (mail older)) ps e refl now in
                elim (new e to vote now p) [
                  | inl there ↦ inl there
                  | inr v ↦ inr
                      (subst (λ (b : ℕ). IsCast (mail (older ++ xs)) to (life_at (older ++ xs) b)) (sym p.from)
                      (subst (λ (ms : List Envelope). IsCast ms to (life_at (older ++ xs) a)) (sym grows) v))
                ])
          ]

  module _ (script : Script) (fits : ℕ → List Record → Type 0) (accepted : IsAccepted decl)
      (sound : IsScriptFor decl script) where
    abbrev IsRun : List Entry → List Bool → Type 0
    IsRun h inputs = RunsWithFalls (IsLawfulWithFalls decl) fits decl script h inputs

    stood : (h : List Entry) (inputs : List Bool) → IsRun h inputs → Kept h → Stood decl h inputs
    stood h inputs run kept = runs_stand decl script fits accepted sound h inputs run kept

    posted : (older : List Entry) (inputs : List Bool) (run : IsRun older inputs) (a : ℕ) (turn : Turn)
        → Kept (older ++ by a (posted_as turn.append (length (mail older)) turn)) → AreCastSince older
        → slice_get inputs a ≡ Some true → IsLawfulWithFalls decl a (deeds a [] older) turn
        → AreCastSince (older ++ by a (posted_as turn.append (length (mail older)) turn))
    posted older inputs run a turn kept before taken law =
        sending older (by a (posted_as turn.append (length (mail older)) turn)) a
        (sends_as turn.append turn) kept before
        (mail-append older (by a (posted_as turn.append (length (mail older)) turn))
        ∙ ap (λ (ms : List Envelope). mail older ++ ms) (mail-posted_as turn.append a (length (mail older)) turn))
        (λ e to vote now p. post_casts decl accepted older inputs
        (stood older inputs run (kept_part older _ kept)) a
        (subst (λ (b : ℕ). is_site decl b ≡ true) p.from vote.0) turn taken law e p.posting to vote.1.0 now p.among
        p.from p.message vote.1.1)

    risen : (older : List Entry) (inputs : List Bool) (run : IsRun older inputs) (a : ℕ) (given : List Record)
        (turn : Turn) → Kept (older ++ by a (steps.Rose given ∷ posted_as turn.append (length (mail older)) turn))
        → AreCastSince older
        → IsLawfulWithFalls decl a (deeds a [] (older ++ marked a (steps.Rose given) ∷ [])) turn
        → AreCastSince (older ++ by a (steps.Rose given ∷ posted_as turn.append (length (mail older)) turn))
    risen older inputs run a given turn kept before law =
        sending older (by a (steps.Rose given ∷ posted_as turn.append (length (mail older)) turn)) a
        (sends_as turn.append turn) kept before
        (mail-append older (by a (steps.Rose given ∷ posted_as turn.append (length (mail older)) turn))
        ∙ ap (λ (ms : List Envelope). mail older ++ ms) (mail-posted_as turn.append a (length (mail older)) turn))
        (λ e to vote now p. absurd (rise_casts decl accepted older inputs
        (stood older inputs run (kept_part older _ kept)) a
        (subst (λ (b : ℕ). is_site decl b ≡ true) p.from vote.0) turn given law p.posting to p.among
        (vote.1.0, sym p.message ∙ vote.1.1)))

    pub votes_are_cast_in_the_lives_that_they_name : (h : List Entry) (inputs : List Bool) → IsRun h inputs → Kept h
        → AreCastSince h
    votes_are_cast_in_the_lives_that_they_name h inputs begins kept = λ early later is e to among vote. absurd among
    votes_are_cast_in_the_lives_that_they_name h inputs (takes a g before older run free rdy) kept =
        mute older (marked a (step_of g) ∷ []) kept
        (votes_are_cast_in_the_lives_that_they_name older before run (kept_part older _ kept))
        (mail-taken older a g)
    votes_are_cast_in_the_lives_that_they_name h inputs (posts a turn before older run taken law) kept =
        posted older before run a turn kept (votes_are_cast_in_the_lives_that_they_name older before run
        (kept_part older _ kept)) taken law
    votes_are_cast_in_the_lives_that_they_name h inputs (phase before older run idle done quiet more) kept =
        mute older (marked (controller decl) (steps.Phase (phase_of older + 1)) ∷ []) kept
        (votes_are_cast_in_the_lives_that_they_name older before run (kept_part older _ kept))
        (mail-silent older (controller decl) (steps.Phase (phase_of older + 1)) (phase_silent (phase_of older + 1)))
    votes_are_cast_in_the_lives_that_they_name h inputs (control line lines acted before older run left is) kept =
        mute older (marked (controller decl) acted ∷ []) kept
        (votes_are_cast_in_the_lives_that_they_name older before run (kept_part older _ kept))
        (mail-silent older (controller decl) acted (line_silent line acted is))
    votes_are_cast_in_the_lives_that_they_name h inputs (falls a lines before older run left) kept =
        mute older _ kept (votes_are_cast_in_the_lives_that_they_name older before run (kept_part older _ kept))
        (mail-append older _ ∙ append-nil (mail older))
    votes_are_cast_in_the_lives_that_they_name h inputs
        (rises a given turn lines before older run left fit has law) kept =
        risen older before run a given turn kept
        (votes_are_cast_in_the_lives_that_they_name older before run (kept_part older _ kept)) law
    votes_are_cast_in_the_lives_that_they_name h inputs (damaged a offset lines before older run left) kept =
        mute older _ kept (votes_are_cast_in_the_lives_that_they_name older before run (kept_part older _ kept))
        (mail-append older _ ∙ append-nil (mail older))
    votes_are_cast_in_the_lives_that_they_name h inputs (unopened a cause lines before older run left disk) kept =
        mute older _ kept (votes_are_cast_in_the_lives_that_they_name older before run (kept_part older _ kept))
        (mail-append older _ ∙ append-nil (mail older))
