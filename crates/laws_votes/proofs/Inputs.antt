-- Where an actor took an input in a run with falls: the entries before it are a run, in which the actor has no open
-- input.
use Rattle.std.proofs.Common.{◌≡◌, ◌+◌, ℕ, ◌==◌, Bool, true, false, List, [], ◌∷◌, ◌++◌, inl, inr, length, None, Some}
use Rattle.std.proofs.Common.{slice_get, refl, sym, ap, ◌∙◌, subst, append_assoc, eqb-true}
use Rattle.std.specs.List.{AllByRecursion as Every}
use Rattle.std.proofs.lemmas.List.{append-nil}
use Rattle.laws_bounds.proofs.ActorsWithin.{IsOfPost, deeds_post}
use Rattle.qc_core.specs.Vocabulary.{IsLawfulWithFalls}
use Rattle.qc_decl.specs.Vocabulary.{controller}
use Rattle.qc_decl.specs.declared.declaration.Declaration.{Declaration}
use Rattle.qc_mailbox.proofs.FallMail.{ready_messages_were_sent_through_falls}
use Rattle.laws_turns.proofs.Acted.{deeds-silent}
use Rattle.laws_turns.proofs.Numbered.{IsSilent, phase_silent}
use Rattle.qc_list.specs.Vocabulary.{In}
use Rattle.qc_list.proofs.Members.{In-second, every-In}
use Rattle.laws_turns.proofs.LivedMoves.{deeds-fall, line_silent}
use Rattle.qc_msg.proofs.DeedsGrow.{deeds-other, deeds-rise}
use Rattle.qc_msg.proofs.Growth.{deeds-posted_as, deeds-taken}
use Rattle.qc_msg.specs.Vocabulary.{Deed, Entry, Falls, Rises, Takes, WasSentTo, by, deeds, deeds_as, mail, marked}
use Rattle.qc_msg.specs.Vocabulary.{posted_as, step_of}
use Rattle.qc_msg.specs.declared.record.Record.{Record}
use Rattle.qc_msg.specs.declared.step.Fall.{Fall}
use Rattle.qc_msg.specs.declared.step.Fall.TheVariants as causes
use Rattle.qc_msg.specs.declared.step.Input.{Input}
use Rattle.qc_msg.specs.declared.step.Step.{Step}
use Rattle.qc_msg.specs.declared.step.Step.TheVariants as steps
use Rattle.qc_msg.specs.declared.turn.Appended.{Appended}
use Rattle.qc_msg.specs.declared.turn.Turn.{Turn}
use Rattle.laws_guarantees.proofs.Moments.{First, Second, split}
use Rattle.qc_script.specs.Vocabulary.{RunsWithFalls, begins, control, damaged, falls, phase, phase_of, posts, ready}
use Rattle.qc_script.specs.Vocabulary.{rises, takes, unopened}
use Rattle.qc_script.specs.declared.script.Script.{Script}

-- deeds among which nothing is taken

abbrev TakeNothing : List Deed → Type 0
TakeNothing ds = (g : Input) → In (Takes g) ds → ⊥

of_post : (ds : List Deed) → Every IsOfPost ds → TakeNothing ds
of_post ds all g among = every-In IsOfPost (Takes g) ds all among

of_rise : (records : List Record) (ds : List Deed) → Every IsOfPost ds → TakeNothing (Rises records ∷ ds)
of_rise records ds all g (inl same) = let never : ⊥ = cc in never
of_rise records ds all g (inr there) = of_post ds all g there

of_fall : (cause : Fall) → TakeNothing (Falls cause None ∷ [])
of_fall cause g (inl same) = let never : ⊥ = cc in never
of_fall cause g (inr never) = never

-- the deeds of a rise and its turn
pub deeds-risen : (a : ℕ) (h : List Entry) (records : List Record) (end : Appended) (turn : Turn)
    → deeds a [] (h ++ by a (steps.Rose records ∷ posted_as end (length (mail h)) turn)) ≡ deeds a [] h ++
    (Rises records ∷ deeds_as end (length (mail h)) turn)
deeds-risen a h records end turn =
    ap (deeds a []) (sym (append_assoc h (marked a (steps.Rose records) ∷ [])
    (by a (posted_as end (length (mail h)) turn))))
    ∙ deeds-posted_as end a (length (mail h)) (h ++ marked a (steps.Rose records) ∷ []) turn
    ∙ ap (λ (ds : List Deed). ds ++ deeds_as end (length (mail h)) turn) (deeds-rise a h records)
    ∙ append_assoc (deeds a [] h) (Rises records ∷ []) (deeds_as end (length (mail h)) turn)

module _ (decl : Declaration) (script : Script) (fits : ℕ → List Record → Type 0) where
  abbrev IsRun : List Entry → List Bool → Type 0
  IsRun h inputs = RunsWithFalls (IsLawfulWithFalls decl) fits decl script h inputs

  pub record TookAt (h : List Entry) (a : ℕ) (before : List Deed) (g : Input) : Type 0 where
    pub older : List Entry
    pub inputs : List Bool
    pub run : IsRun older inputs
    pub more : List Entry
    pub grows : older ++ more ≡ h
    pub free : slice_get inputs a ≡ Some false
    pub deeds_are : deeds a [] older ≡ before
    pub sent : WasSentTo a (mail older) g

  abbrev Takings : List Entry → ℕ → Type 0
  Takings h a = (before : List Deed) (g : Input) (after : List Deed) → deeds a [] h ≡ before ++ Takes g ∷ after
      → TookAt h a before g

  later : (h k : List Entry) (a : ℕ) (before : List Deed) (g : Input) → TookAt h a before g → TookAt (h ++ k) a before g
  later h k a before g t = record {
    older = t.older;
    inputs = t.inputs;
    run = t.run;
    more = t.more ++ k;
    grows = sym (append_assoc t.older t.more k) ∙ ap (λ (v : List Entry). v ++ k) t.grows;
    free = t.free;
    deeds_are = t.deeds_are;
    sent = t.sent;
  }

  -- an event in which the actor takes nothing

  goes_on : (h k : List Entry) (a : ℕ) (new : List Deed) → deeds a [] (h ++ k) ≡ deeds a [] h ++ new → TakeNothing new
      → Takings h a → Takings (h ++ k) a
  goes_on h k a new same none old before g after is =
      elim (split (deeds a [] h) new before (Takes g) after (sym same ∙ is)) [
        | First m s ↦ later h k a before g (old before g m s)
        | Second m e s ↦
            absurd (none g (subst (In (Takes g)) (sym s) (In-second (Takes g) m (Takes g ∷ after) (inl refl))))
      ]

  silent : (c a : ℕ) (h : List Entry) (step : Step) → IsSilent step → Takings h a → Takings (h ++ marked c step ∷ []) a
  silent c a h step is = goes_on h (marked c step ∷ []) a []
      (deeds-silent a c h step is ∙ sym (append-nil (deeds a [] h))) (λ g never. never)

  event : (c a : ℕ) (h : List Entry) (xs : List Step) (new : List Deed)
      → deeds c [] (h ++ by c xs) ≡ deeds c [] h ++ new → TakeNothing new → Takings h a → Takings (h ++ by c xs) a
  event c a h xs new same none old = at (c == a) refl
    where
      at : (t : Bool) → (c == a) ≡ t → Takings (h ++ by c xs) a
      at true here = goes_on h (by c xs) a new
          (subst (λ (k : ℕ). deeds k [] (h ++ by c xs) ≡ deeds k [] h ++ new) (eqb-true c a here) same) none old
      at false other = goes_on h (by c xs) a [] (deeds-other c a [] h xs other ∙ sym (append-nil (deeds a [] h)))
          (λ g never. never) old

  -- an input

  module _ (older : List Entry) (inputs : List Bool) (run : IsRun older inputs) (c : ℕ) (g : Input)
      (free : slice_get inputs c ≡ Some false) (rdy : ready decl script c older ≡ Some g) where
    sent : WasSentTo c (mail older) g
    sent = ready_messages_were_sent_through_falls (IsLawfulWithFalls decl) fits decl script older inputs run c g rdy

    abbrev now : List Entry
    now = older ++ marked c (step_of g) ∷ []

    here : (before : List Deed) (x : Input) (after m : List Deed) → before ≡ deeds c [] older ++ m
        → Takes g ∷ [] ≡ m ++ Takes x ∷ after → TookAt now c before x
    here before x after [] e s =
        let deed : Takes g ≡ Takes x = cc in
        let same : g ≡ x = cc in
        record {
          older = older;
          inputs = inputs;
          run = run;
          more = marked c (step_of g) ∷ [];
          grows = refl;
          free = free;
          deeds_are = sym (e ∙ append-nil (deeds c [] older));
          sent = subst (WasSentTo c (mail older)) same sent;
        }
    here before x after (y ∷ []) e s = absurd (let never : ⊥ = cc in never)
    here before x after (y ∷ z ∷ m) e s = absurd (let never : ⊥ = cc in never)

    own : Takings older c → Takings now c
    own old before x after is = elim (split (deeds c [] older) (Takes g ∷ []) before (Takes x) after
        (sym (deeds-taken c older g sent) ∙ is)) [
          | First m s ↦ later older (marked c (step_of g) ∷ []) c before x (old before x m s)
          | Second m e s ↦ here before x after m e s
        ]

    taken : (a : ℕ) → Takings older a → Takings now a
    taken a old = at (c == a) refl
      where
        at : (t : Bool) → (c == a) ≡ t → Takings now a
        at true same = subst (λ (k : ℕ). Takings older k → Takings now k) (eqb-true c a same) own old
        at false other = goes_on older (marked c (step_of g) ∷ []) a []
            (deeds-other c a [] older (step_of g ∷ []) other ∙ sym (append-nil (deeds a [] older)))
            (λ x never. never) old

  pub taken_at : (h : List Entry) (inputs : List Bool) → IsRun h inputs → (a : ℕ) → Takings h a
  taken_at h inputs begins a = λ before g after is. absurd
      (subst (In (Takes g)) (sym is) (In-second (Takes g) before (Takes g ∷ after) (inl refl)))
  taken_at h inputs (takes c g slots older run free rdy) a =
      taken older slots run c g free rdy a (taken_at older slots run a)
  taken_at h inputs (posts c turn slots older run open_input law) a =
      event c a older (posted_as turn.append (length (mail older)) turn)
      (deeds_as turn.append (length (mail older)) turn)
      (deeds-posted_as turn.append c (length (mail older)) older turn)
      (of_post (deeds_as turn.append (length (mail older)) turn) (deeds_post turn.append (length (mail older)) turn))
      (taken_at older slots run a)
  taken_at h inputs (phase slots older run none done quiet more) a =
      silent (controller decl) a older (steps.Phase (phase_of older + 1)) (phase_silent (phase_of older + 1))
      (taken_at older slots run a)
  taken_at h inputs (control line lines step slots older run left is) a =
      silent (controller decl) a older step (line_silent line step is) (taken_at older slots run a)
  taken_at h inputs (falls c lines slots older run left) a =
      event c a older (steps.Fell causes.Script None ∷ []) (Falls causes.Script None ∷ [])
      (deeds-fall c older causes.Script) (of_fall causes.Script) (taken_at older slots run a)
  taken_at h inputs (rises c records turn lines slots older run left fit has law) a =
      event c a older (steps.Rose records ∷ posted_as turn.append (length (mail older)) turn)
      (Rises records ∷ deeds_as turn.append (length (mail older)) turn)
      (deeds-risen c older records turn.append turn)
      (of_rise records (deeds_as turn.append (length (mail older)) turn)
      (deeds_post turn.append (length (mail older)) turn)) (taken_at older slots run a)
  taken_at h inputs (damaged c offset lines slots older run left) a =
      silent c a older (steps.Damaged offset) (record { sends = λ k. refl; deeds = λ ms. refl })
      (taken_at older slots run a)
  taken_at h inputs (unopened c cause lines slots older run left disk) a =
      event c a older (steps.Fell cause None ∷ []) (Falls cause None ∷ []) (deeds-fall c older cause) (of_fall cause)
      (taken_at older slots run a)
