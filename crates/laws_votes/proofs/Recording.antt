-- Each commit record in a client's journal, or pending there, was written, or was being written, in a post of that
-- client, where it was due.
use Rattle.std.proofs.Common.{[], ◌≡◌, ◌⊎◌, ◌+◌, ◌==◌, ℕ, Bool, true, false, List, ◌∷◌, ◌++◌, inl, inr, length, Some}
use Rattle.std.proofs.Common.{None, slice_get, refl, sym, ap, ◌∙◌, subst, append_assoc, eqb-true}
use Rattle.laws_due.proofs.Standing.{actor_more, turn_is}
use Rattle.qc_client.specs.Vocabulary.{client_takes}
use Rattle.qc_core.specs.Vocabulary.{ActorMove, IsLawfulWithFalls, actor_after, actor_takes, journal_after, journal_at}
use Rattle.qc_core.specs.Vocabulary.{with_record}
use Rattle.qc_core.proofs.ByNumber.{client_risen}
use Rattle.qc_core.proofs.LivesLaws.{journal}
use Rattle.qc_core.proofs.LivesOfActors as actor_laws
use Rattle.qc_decl.specs.Vocabulary.{IsAccepted, controller, is_client}
use Rattle.qc_decl.specs.declared.declaration.Declaration.{Declaration}
use Rattle.qc_entry.specs.declared.record.Commit.{Commit as CommitRecord}
use Rattle.laws_votes.specs.Vocabulary.{AreWriting}
use Rattle.laws_votes.proofs.Clients.{IsCommitting, client_at, committing}
use Rattle.qc_list.specs.Vocabulary.{In}
use Rattle.qc_msg.proofs.DeedsGrow.{deeds-append, deeds-other, deeds-rose}
use Rattle.qc_msg.proofs.Growth.{deeds-posted_as}
use Rattle.qc_msg.specs.Vocabulary.{Deed, Entry, Rises, Takes, by, deeds, deeds_as, mail, marked, own, posted_as}
use Rattle.qc_msg.specs.Vocabulary.{step_of}
use Rattle.qc_msg.specs.declared.record.Record.{Record}
use Rattle.qc_msg.specs.declared.record.Record.TheVariants.{Commit, Life}
use Rattle.qc_msg.specs.declared.step.Fall.TheVariants as causes
use Rattle.qc_msg.specs.declared.step.Step.{Step}
use Rattle.qc_msg.specs.declared.step.Step.TheVariants as steps
use Rattle.qc_msg.specs.declared.turn.Turn.{Turn}
use Rattle.qc_promise.specs.Vocabulary.{IsGivenBack, Journal, Kept, journal_of, journal_with, no_journal}
use Rattle.laws_reach.proofs.Growing.{ended_journal, journal_posted}
use Rattle.qc_script.specs.Vocabulary.{IsScriptFor, RunsWithFalls, begins, control, damaged, falls, phase, phase_of}
use Rattle.qc_script.specs.Vocabulary.{posts, rises, takes, unopened}
use Rattle.qc_script.specs.declared.script.Script.{Script}
use Rattle.std.proofs.lemmas.List.Sums.{fold-append}
use Rattle.laws_votes.proofs.Recorded.{IsKnown, posted_known, back_known, given_known, taken_same, controlled_same}
use Rattle.laws_votes.proofs.Recorded.{entry_same, first_post}
use Rattle.qc_promise.proofs.Posts.{kept_part}

module _ (fits : ℕ → List Record → Type 0) (decl : Declaration) (script : Script) (accepted : IsAccepted decl)
    (sound : IsScriptFor decl script) where
  abbrev IsRun : List Entry → List Bool → Type 0
  IsRun h inputs = RunsWithFalls (IsLawfulWithFalls decl) fits decl script h inputs

  -- a client's post that writes the record, or falls as it does, and the run before it
  pub record Moment (h : List Entry) (a : ℕ) (c : CommitRecord) : Type 0 where
    pub before : List Entry
    pub open_inputs : List Bool
    pub run : IsRun before open_inputs
    pub kept : Kept before
    pub taken : slice_get open_inputs a ≡ Some true
    pub steps : List Step
    pub after : List Entry
    pub stands : h ≡ before ++ (by a steps ++ after)
    pub writing : AreWriting steps c
    pub commits : IsCommitting decl a (deeds a [] before) c

  longer : (h xs : List Entry) (a : ℕ) (c : CommitRecord) → Moment h a c → Moment (h ++ xs) a c
  longer h xs a c m = record {
    before = m.before;
    open_inputs = m.open_inputs;
    run = m.run;
    kept = m.kept;
    taken = m.taken;
    steps = m.steps;
    after = m.after ++ xs;
    stands =
        ap (λ (k : List Entry). k ++ xs) m.stands ∙ append_assoc m.before (by a m.steps ++ m.after) xs
        ∙ ap (λ (k : List Entry). m.before ++ k) (append_assoc (by a m.steps) m.after xs);
    writing = m.writing;
    commits = m.commits;
  }

  abbrev AreRecorded : List Entry → Type 0
  AreRecorded h = (a : ℕ) (c : CommitRecord) → is_client decl a ≡ true → IsKnown c (journal_of (own a h)) → Moment h a c

  -- an entry that puts nothing into any journal
  mute : (h : List Entry) (e : Entry)
      → ((c : CommitRecord) (j : Journal) → IsKnown c (journal_with j e.step) → IsKnown c j) → AreRecorded h
      → AreRecorded (h ++ e ∷ [])
  mute h e silent old a c client known = longer h (e ∷ []) a c (old a c client (entry_same c a h e (silent c) known))

  -- another actor's entries
  elsewhere : (h : List Entry) (xs : List Step) (b a : ℕ) (c : CommitRecord) → (b == a) ≡ false
      → IsKnown c (journal_of (own a (h ++ by b xs))) → IsKnown c (journal_of (own a h))
  elsewhere h xs b a c other known =
      subst (IsKnown c)
      (sym (journal a (h ++ by b xs)) ∙ ap journal_after (deeds-other b a [] h xs other) ∙ journal a h) known

  module _ (h : List Entry) (inputs : List Bool) (run : IsRun h inputs) (kept : Kept h) (old : AreRecorded h) where
    posted : (b : ℕ) (turn : Turn) → slice_get inputs b ≡ Some true → IsLawfulWithFalls decl b (deeds b [] h) turn
        → AreRecorded (h ++ by b (posted_as turn.append (length (mail h)) turn))
    posted b turn taken law a c client known = at (b == a) refl
      where
        new : is_client decl b ≡ true → turn.write ≡ Some (Commit c)
            → Moment (h ++ by b (posted_as turn.append (length (mail h)) turn)) b c
        new mine writes =
            let k : IsCommitting decl b (deeds b [] h) c =
            committing decl b mine (deeds b [] h)
            (client_at fits decl script h inputs accepted sound run kept b mine true taken) turn law c writes in
            let same : (client_takes decl k.tied.state k.input).turn ≡ with_record turn = committing_turn k mine in
            elim k.turn [
              | inl none ↦
                  absurd (let no : None ≡ Some (Commit c) = sym none ∙ ap (λ (t : Turn). t.write) same ∙ writes in
                  let never : ⊥ = cc in never)
              | inr t ↦ (
                  let p =
                  first_post b (length (mail h)) turn c turn.append writes
                  (ap (λ (x : Turn). x.failed_sends) (sym same) ∙ t.failed_sends)
                  (ap (λ (x : Turn). x.failed_told) (sym same) ∙ t.failed_told) in
                  record {
                    before = h;
                    open_inputs = inputs;
                    run = run;
                    kept = kept;
                    taken = taken;
                    steps = p.0;
                    after = p.1;
                    stands = ap (λ (k : List Entry). h ++ k) p.3;
                    writing = p.2;
                    commits = k;
                  })
            ]
          where
            committing_turn : (k : IsCommitting decl b (deeds b [] h) c) → is_client decl b ≡ true
                → (client_takes decl k.tied.state k.input).turn ≡ with_record turn
            committing_turn k mine =
                ap (λ (v : _). (actor_takes decl v k.input).turn) (sym k.tied.actor)
                ∙ ap (λ (m : ActorMove). m.turn)
                (sym (ap (actor_after decl b) k.is ∙ actor_more decl b k.before (Takes k.input ∷ [])))
                ∙ turn_is decl b mine (deeds b [] h) turn law

        here : b ≡ a → IsKnown c (journal_of (own b h)) ⊎ (turn.write ≡ Some (Commit c))
        here same =
            elim (posted_known c turn.append turn.write (journal_after (deeds b [] h))
            (subst (IsKnown c)
            (sym (journal b (h ++ by b (posted_as turn.append (length (mail h)) turn)))
            ∙ ap journal_after (deeds-posted_as turn.append b (length (mail h)) h turn)
            ∙ journal_posted (deeds b [] h) turn.append (length (mail h)) turn)
            (subst (λ (n : ℕ). IsKnown c
            (journal_of (own n (h ++ by b (posted_as turn.append (length (mail h)) turn))))) (sym same) known))) [
              | inl before ↦ inl (subst (IsKnown c) (journal b h) before)
              | inr now ↦ inr now
            ]

        at : (t : Bool) → (b == a) ≡ t → Moment (h ++ by b (posted_as turn.append (length (mail h)) turn)) a c
        at false other =
            longer h (by b (posted_as turn.append (length (mail h)) turn)) a c
            (old a c client (elsewhere h (posted_as turn.append (length (mail h)) turn) b a c other known))
        at true same =
            let is : b ≡ a = eqb-true b a same in
            elim (here is) [
              | inl before ↦
                  longer h (by b (posted_as turn.append (length (mail h)) turn)) a c
                  (old a c client (subst (λ (n : ℕ). IsKnown c (journal_of (own n h))) is before))
              | inr now ↦
                  subst (λ (n : ℕ). Moment (h ++ by b (posted_as turn.append (length (mail h)) turn)) n c) is
                  (new (subst (λ (n : ℕ). is_client decl n ≡ true) (sym is) client) now)
            ]

    risen : (b : ℕ) (given : List Record) (turn : Turn)
        → IsLawfulWithFalls decl b (deeds b [] (h ++ marked b (steps.Rose given) ∷ [])) turn
        → IsGivenBack (journal_of (own b h)) given
        → AreRecorded (h ++ by b (steps.Rose given ∷ posted_as turn.append (length (mail h)) turn))
    risen b given turn law back a c client known =
        longer h (by b (steps.Rose given ∷ posted_as turn.append (length (mail h)) turn)) a c
        (old a c client (at (b == a) refl))
      where
        rose : deeds b [] (h ++ marked b (steps.Rose given) ∷ []) ≡ deeds b [] h ++ Rises given ∷ []
        rose =
            deeds-append b [] h (by b (steps.Rose given ∷ []))
            ∙ ap (λ (v : List Deed). deeds b [] h ++ v) (deeds-rose b (mail h) given)

        deeds_now : deeds b [] (h ++ by b (steps.Rose given ∷ posted_as turn.append (length (mail h)) turn))
            ≡ (deeds b [] h ++ Rises given ∷ []) ++ deeds_as turn.append (length (mail h)) turn
        deeds_now =
            ap (deeds b [])
            (sym (append_assoc h (marked b (steps.Rose given) ∷ [])
            (by b (posted_as turn.append (length (mail h)) turn))))
            ∙ deeds-posted_as turn.append b (length (mail h)) (h ++ marked b (steps.Rose given) ∷ []) turn
            ∙ ap (λ (v : List Deed). v ++ deeds_as turn.append (length (mail h)) turn) rose

        journal_now : journal_of (own b (h ++ by b (steps.Rose given ∷ posted_as turn.append (length (mail h)) turn)))
            ≡ ended_journal turn.append turn.write (record { records = given; pending = None })
        journal_now =
            sym (journal b (h ++ by b (steps.Rose given ∷ posted_as turn.append (length (mail h)) turn)))
            ∙ ap journal_after deeds_now
            ∙ journal_posted (deeds b [] h ++ Rises given ∷ []) turn.append (length (mail h)) turn
            ∙ ap (ended_journal turn.append turn.write)
            (fold-append journal_at no_journal (deeds b [] h) (Rises given ∷ []))

        -- a client writes that it rose
        writes_life : is_client decl b ≡ true → turn.write ≡ Some Life
        writes_life mine =
            ap (λ (t : Turn). t.write)
            (sym (turn_is decl b mine (deeds b [] (h ++ marked b (steps.Rose given) ∷ [])) turn law)
            ∙ ap (λ (v : List Deed). (actor_after decl b v).turn) rose
            ∙ ap (λ (m : ActorMove). m.turn) (actor_laws.rises decl b (deeds b [] h) given)
            ∙ ap (λ (m : ActorMove). m.turn) (client_risen decl b mine given))

        given_here : is_client decl b ≡ true
            → IsKnown c (ended_journal turn.append turn.write (record { records = given; pending = None }))
            → In (Commit c) given
        given_here mine here =
            elim (posted_known c turn.append turn.write (record { records = given; pending = None }) here) [
              | inl old ↦ given_known c given old
              | inr new ↦
                  absurd
                  (let no : Some Life ≡ Some (Commit c) = sym (writes_life mine) ∙ new in let never : ⊥ = cc in never)
            ]

        at : (t : Bool) → (b == a) ≡ t → IsKnown c (journal_of (own a h))
        at false other = elsewhere h (steps.Rose given ∷ posted_as turn.append (length (mail h)) turn) b a c other known
        at true same =
            let is : b ≡ a = eqb-true b a same in
            subst (λ (n : ℕ). IsKnown c (journal_of (own n h))) is
            (back_known c (journal_of (own b h)) given back
            (given_here (subst (λ (n : ℕ). is_client decl n ≡ true) (sym is) client)
            (subst (IsKnown c) journal_now
            (subst (λ (n : ℕ). IsKnown c
            (journal_of (own n (h ++ by b (steps.Rose given ∷ posted_as turn.append (length (mail h)) turn)))))
            (sym is) known))))

  pub all_recorded : (h : List Entry) (inputs : List Bool) → IsRun h inputs → Kept h → AreRecorded h
  all_recorded h inputs begins kept =
      λ a c client known. absurd (elim known
      [ inl never ↦ never | inr none ↦ (let no : None ≡ Some (Commit c) = none in let never : ⊥ = cc in never) ])
  all_recorded h inputs (takes b g before older run free rdy) kept =
      mute older (marked b (step_of g)) (λ c j. taken_same c j g)
      (all_recorded older before run (kept_part older _ kept))
  all_recorded h inputs (posts b turn before older run taken law) kept =
      posted older before run (kept_part older _ kept) (all_recorded older before run (kept_part older _ kept))
      b turn taken law
  all_recorded h inputs (phase before older run idle done quiet more) kept =
      mute older (marked (controller decl) (steps.Phase (phase_of older + 1))) (λ c j known. known)
      (all_recorded older before run (kept_part older _ kept))
  all_recorded h inputs (control line lines acted before older run left is) kept =
      mute older (marked (controller decl) acted) (λ c j. controlled_same c j line acted is)
      (all_recorded older before run (kept_part older _ kept))
  all_recorded h inputs (falls b lines before older run left) kept =
      mute older (marked b (steps.Fell causes.Script None)) (λ c j known. known)
      (all_recorded older before run (kept_part older _ kept))
  all_recorded h inputs (rises b given turn lines before older run left fit has law) kept =
      risen older before run (kept_part older _ kept) (all_recorded older before run (kept_part older _ kept)) b
      given turn law (kept older _ (marked b (steps.Rose given)) refl)
  all_recorded h inputs (damaged b offset lines before older run left) kept =
      absurd (kept older [] (marked b (steps.Damaged offset)) refl)
  all_recorded h inputs (unopened b cause lines before older run left disk) kept =
      mute older (marked b (steps.Fell cause None)) (λ c j known. known)
      (all_recorded older before run (kept_part older _ kept))
