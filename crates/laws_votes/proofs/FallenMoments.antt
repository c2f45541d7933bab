-- Where a client fell as it wrote a commit record in a run with falls: it was told Unknown, and right before that is a
-- run in which the client has an open input, and the record is due.
use Rattle.std.proofs.Common.{◌≡◌, ◌⊎◌, ◌+◌, ℕ, Bool, true, List, [], ◌∷◌, ◌++◌, inl, inr, length, Option, Some, None}
use Rattle.std.proofs.Common.{refl, sym, ap, ◌∙◌, subst, append_assoc, slice_get}
use Rattle.std.proofs.lemmas.List.{append-nil}
use Rattle.laws_due.proofs.Standing.{actor_more, turn_is}
use Rattle.laws_due.proofs.Writing.{IsCommitTurn}
use Rattle.qc_client.specs.Vocabulary.{client_takes}
use Rattle.qc_core.specs.Vocabulary.{ActorMove, IsLawfulWithFalls, actor_after, actor_takes, with_record}
use Rattle.qc_decl.specs.Vocabulary.{IsAccepted}
use Rattle.qc_decl.specs.declared.declaration.Declaration.{Declaration}
use Rattle.qc_entry.specs.declared.record.Commit.{Commit as CommitRecord}
use Rattle.qc_list.specs.Vocabulary.{In}
use Rattle.qc_list.proofs.Members.{In-second}
use Rattle.qc_msg.proofs.GrownMail.{by-append}
use Rattle.qc_msg.specs.Vocabulary.{Entry, Takes, by, deeds, mail, marked, posted_as, sents, step_of, told}
use Rattle.qc_msg.specs.Steps as post
use Rattle.qc_msg.specs.declared.record.Record.{Record}
use Rattle.qc_msg.specs.declared.record.Record.TheVariants as records
use Rattle.qc_msg.specs.declared.reply.Reply.{Reply}
use Rattle.qc_msg.specs.declared.reply.Reply.TheVariants.{Unknown}
use Rattle.qc_msg.specs.declared.step.Control.{Control}
use Rattle.qc_msg.specs.declared.step.Control.TheVariants as controls
use Rattle.qc_msg.specs.declared.step.Fall.{Fall}
use Rattle.qc_msg.specs.declared.step.Fall.TheVariants as causes
use Rattle.qc_msg.specs.declared.step.Input.{Input}
use Rattle.qc_msg.specs.declared.step.Input.TheVariants as given
use Rattle.qc_msg.specs.declared.step.Step.{Step}
use Rattle.qc_msg.specs.declared.step.Step.TheVariants as steps
use Rattle.qc_msg.specs.declared.turn.Appended.{Appended}
use Rattle.qc_msg.specs.declared.turn.Appended.TheVariants as ends
use Rattle.qc_msg.specs.declared.turn.Posting.{Posting}
use Rattle.qc_msg.specs.declared.turn.Turn.{Turn}
use Rattle.laws_guarantees.proofs.Moments.{First, Second, split}
use Rattle.laws_votes.proofs.Moments.{WroteAt, posted, risen}
use Rattle.qc_promise.specs.Vocabulary.{Kept}
use Rattle.qc_script.specs.Vocabulary.{IsScriptFor, RunsWithFalls, begins, control, controller_step, damaged, falls}
use Rattle.qc_script.specs.Vocabulary.{phase, phase_of, posts, rises, takes, unopened}
use Rattle.qc_script.specs.declared.script.Script.{Script}
use Rattle.qc_promise.proofs.Posts.{kept_part}

-- the actor falls as it writes the commit record
abbrev pub falls_writing : ℕ → Fall → CommitRecord → Entry
falls_writing a cause c = marked a (steps.Fell cause (Some (records.Commit c)))

-- the record with which a step falls
abbrev pending_in : Step → Option Record
pending_in (steps.Phase number) = None
pending_in (steps.Cut a b) = None
pending_in (steps.Heal a b) = None
pending_in (steps.Armed actor kind at) = None
pending_in (steps.Called command) = None
pending_in (steps.Got number) = None
pending_in (steps.Lost number) = None
pending_in (steps.Wrote written) = None
pending_in (steps.Sent number to message) = None
pending_in (steps.Told reply) = None
pending_in (steps.Fell cause pending) = pending
pending_in (steps.Rose given) = None
pending_in (steps.Damaged offset) = None

-- entries that fall with no record

abbrev AreDry : List Entry → Type 0
AreDry k = (e : Entry) → In e k → pending_in e.step ≡ None

dry_none : (k : List Entry) → AreDry k → (m : List Entry) (a : ℕ) (cause : Fall) (c : CommitRecord) (after : List Entry)
    → k ≡ m ++ falls_writing a cause c ∷ after → ⊥
dry_none k dry m a cause c after is =
    let none : Some (records.Commit c) ≡ None =
    dry (falls_writing a cause c) (subst (In (falls_writing a cause c)) (sym is)
    (In-second (falls_writing a cause c) m (falls_writing a cause c ∷ after) (inl refl))) in
    let never : ⊥ = cc in
    never

dry_one : (e : Entry) → pending_in e.step ≡ None → AreDry (e ∷ [])
dry_one e none x (inl same) = ap (λ (y : Entry). pending_in y.step) same ∙ none
dry_one e none x (inr never) = absurd never

dry_sent : (b n : ℕ) (ps : List Posting) (reply : Option Reply) → AreDry (by b (sents n ps ++ told reply))
dry_sent b n [] None e among = absurd among
dry_sent b n [] (Some reply) e (inl same) = ap (λ (y : Entry). pending_in y.step) same
dry_sent b n [] (Some reply) e (inr never) = absurd never
dry_sent b n (p ∷ ps) reply e (inl same) = ap (λ (y : Entry). pending_in y.step) same
dry_sent b n (p ∷ ps) reply e (inr there) = dry_sent b (n + 1) ps reply e there

dry_posted : (b n : ℕ) (write : Option Record) (ps : List Posting) (reply : Option Reply)
    → AreDry (by b (post.wrote write ++ (sents n ps ++ told reply)))
dry_posted b n None ps reply e among = dry_sent b n ps reply e among
dry_posted b n (Some w) ps reply e (inl same) = ap (λ (y : Entry). pending_in y.step) same
dry_posted b n (Some w) ps reply e (inr there) = dry_sent b n ps reply e there

dry_taken : (g : Input) → pending_in (step_of g) ≡ None
dry_taken (given.Called command) = refl
dry_taken (given.Got envelope) = refl
dry_taken (given.Lost number) = refl

dry_line : (line : Control) (step : Step) → controller_step line ≡ Some step → pending_in step ≡ None
dry_line (controls.Phase k) step is = absurd (let never : ⊥ = cc in never)
dry_line (controls.Cut a b) step is = ap pending_in (let same : step ≡ steps.Cut a b = cc in same)
dry_line (controls.Heal a b) step is = ap pending_in (let same : step ≡ steps.Heal a b = cc in same)
dry_line (controls.Armed actor kind at) step is =
    ap pending_in (let same : step ≡ steps.Armed actor kind at = cc in same)
dry_line (controls.Crash a) step is = absurd (let never : ⊥ = cc in never)
dry_line (controls.Restart a) step is = absurd (let never : ⊥ = cc in never)

-- a post that ends so: its record is the one, and these are its steps before the fall
record EndsWriting (b : ℕ) (xs : List Step) (write : Option Record) (m : List Entry) (a : ℕ)
    (c : CommitRecord) : Type 0 where
  steps_are : m ≡ by b xs
  actor : b ≡ a
  writes : write ≡ Some (records.Commit c)

last_falls : (b : ℕ) (xs : List Step) → AreDry (by b xs)
    → (why : Fall) (write : Option Record) (m : List Entry) (a : ℕ) (cause : Fall) (c : CommitRecord)
    (after : List Entry) → by b (xs ++ steps.Fell why write ∷ []) ≡ m ++ falls_writing a cause c ∷ after
    → EndsWriting b xs write m a c
last_falls b xs dry why write m a cause c after is =
    elim (split (by b xs) (marked b (steps.Fell why write) ∷ []) m (falls_writing a cause c) after
    (sym (by-append b xs (steps.Fell why write ∷ [])) ∙ is)) [
      | First rest s ↦ absurd (dry_none (by b xs) dry m a cause c rest s)
      | Second rest e s ↦ here rest e s
    ]
  where
    here : (rest : List Entry) → m ≡ by b xs ++ rest
        → marked b (steps.Fell why write) ∷ [] ≡ rest ++ falls_writing a cause c ∷ after → EndsWriting b xs write m a c
    here [] e s =
        let same : marked b (steps.Fell why write) ≡ falls_writing a cause c = cc in
        let step : steps.Fell why write ≡ steps.Fell cause (Some (records.Commit c)) =
        ap (λ (y : Entry). y.step) same in
        record { steps_are = e ∙ append-nil (by b xs); actor = ap (λ (y : Entry). y.actor) same; writes = cc }
    here (x ∷ []) e s = absurd (let never : ⊥ = cc in never)
    here (x ∷ y ∷ rest) e s = absurd (let never : ⊥ = cc in never)

-- the steps before the fall, by the end of the record
abbrev steps_before : Appended → ℕ → Turn → List Step
steps_before ends.Done n turn = []
steps_before ends.Failed n turn = sents n turn.failed_sends ++ told turn.failed_told
steps_before ends.Stopped n turn = told turn.failed_told

post_falls : (b n : ℕ) (end : Appended) (turn : Turn) (m : List Entry) (a : ℕ) (cause : Fall) (c : CommitRecord)
    (after : List Entry) → by b (posted_as end n turn) ≡ m ++ falls_writing a cause c ∷ after
    → EndsWriting b (steps_before end n turn) turn.write m a c
post_falls b n ends.Done turn m a cause c after is =
    absurd (dry_none (by b (posted_as ends.Done n turn))
    (dry_posted b n turn.write turn.sends turn.told) m a cause c after is)
post_falls b n ends.Failed turn m a cause c after is =
    last_falls b (sents n turn.failed_sends ++ told turn.failed_told)
    (dry_sent b n turn.failed_sends turn.failed_told) causes.Disk turn.write m a cause c after
    (ap (by b) (append_assoc (sents n turn.failed_sends) (told turn.failed_told)
    (steps.Fell causes.Disk turn.write ∷ [])) ∙ is)
post_falls b n ends.Stopped turn m a cause c after is =
    last_falls b (told turn.failed_told) (dry_sent b n [] turn.failed_told) causes.Stop turn.write m a cause c after is

-- a commit turn says Unknown before it falls
says_unknown : (b n : ℕ) (end : Appended) (turn : Turn) (m : List Entry) (a : ℕ) (cause : Fall) (c : CommitRecord)
    (after : List Entry) → by b (posted_as end n turn) ≡ m ++ falls_writing a cause c ∷ after
    → turn.failed_sends ≡ [] → turn.failed_told ≡ Some Unknown → m ≡ marked b (steps.Told Unknown) ∷ []
says_unknown b n ends.Done turn m a cause c after is none says =
    absurd (dry_none (by b (posted_as ends.Done n turn))
    (dry_posted b n turn.write turn.sends turn.told) m a cause c after is)
says_unknown b n ends.Failed turn m a cause c after is none says =
    (post_falls b n ends.Failed turn m a cause c after is).steps_are ∙ (λ i. by b (sents n (none i) ++ told (says i)))
says_unknown b n ends.Stopped turn m a cause c after is none says =
    (post_falls b n ends.Stopped turn m a cause c after is).steps_are ∙ (λ i. by b (told (says i)))

module _ (fits : ℕ → List Record → Type 0) (decl : Declaration) (script : Script) (accepted : IsAccepted decl)
    (sound : IsScriptFor decl script) where
  abbrev IsRun : List Entry → List Bool → Type 0
  IsRun h inputs = RunsWithFalls (IsLawfulWithFalls decl) fits decl script h inputs

  -- the entries before the fall
  pub record FellAt (before : List Entry) (a : ℕ) (c : CommitRecord) : Type 0 where
    pub prior : List Entry
    pub is : before ≡ prior ++ marked a (steps.Told Unknown) ∷ []
    pub wrote : WroteAt fits decl script accepted sound prior a c

  module _ (older : List Entry) (slots : List Bool) (run : IsRun older slots) (kept : Kept older) (b : ℕ) (turn : Turn)
      (taken : slice_get slots b ≡ Some true) (law : IsLawfulWithFalls decl b (deeds b [] older) turn)
      (m : List Entry) (a : ℕ) (cause : Fall) (c : CommitRecord) (after : List Entry)
      (here : by b (posted_as turn.append (length (mail older)) turn) ≡ m ++ falls_writing a cause c ∷ after) where
    e : EndsWriting b (steps_before turn.append (length (mail older)) turn) turn.write m a c
    e = post_falls b (length (mail older)) turn.append turn m a cause c after here

    at : WroteAt fits decl script accepted sound older b c
    at = posted fits decl script accepted sound older slots run kept b turn c e.writes taken law

    -- the client's turn
    turn_of : (client_takes decl at.commits.tied.state at.commits.input).turn ≡ with_record turn
    turn_of =
        ap (λ (v : _). (actor_takes decl v at.commits.input).turn) (sym at.commits.tied.actor)
        ∙ ap (λ (k : ActorMove). k.turn) (sym (ap (actor_after decl b) at.commits.is
        ∙ actor_more decl b at.commits.before (Takes at.commits.input ∷ [])))
        ∙ turn_is decl b at.client (deeds b [] older) turn law

    fallen : FellAt (older ++ m) a c
    fallen = by at.commits.turn
      where
        by : ((client_takes decl at.commits.tied.state at.commits.input).turn.write ≡ None)
            ⊎ IsCommitTurn (client_takes decl at.commits.tied.state at.commits.input).turn → FellAt (older ++ m) a c
        by (inl none) = absurd (let no : None ≡ Some (records.Commit c) = sym none ∙ ap (λ (t : Turn). t.write) turn_of
            ∙ e.writes in let never : ⊥ = cc in never)
        by (inr t) =
            let says : m ≡ marked b (steps.Told Unknown) ∷ [] =
            says_unknown b (length (mail older)) turn.append turn m a cause c after here
            (ap (λ (x : Turn). x.failed_sends) (sym turn_of) ∙ t.failed_sends)
            (ap (λ (x : Turn). x.failed_told) (sym turn_of) ∙ t.failed_told) in
            record {
              prior = older;
              is = ap (λ (k : List Entry). older ++ k) says
                  ∙ ap (λ (n : ℕ). older ++ marked n (steps.Told Unknown) ∷ []) e.actor;
              wrote = subst (λ (n : ℕ). WroteAt fits decl script accepted sound older n c) e.actor at;
            }

  -- nobody falls so as it rises
  no_rise : (older : List Entry) (slots : List Bool) → IsRun older slots → Kept older
      → (b : ℕ) (rs : List Record) (turn : Turn)
      → IsLawfulWithFalls decl b (deeds b [] (older ++ marked b (steps.Rose rs) ∷ [])) turn
      → (m : List Entry) (a : ℕ) (cause : Fall) (c : CommitRecord) (after : List Entry)
      → by b (steps.Rose rs ∷ posted_as turn.append (length (mail older)) turn) ≡ m ++ falls_writing a cause c
      ∷ after → ⊥
  no_rise older slots run kept b rs turn law [] a cause c after s =
      let same : marked b (steps.Rose rs) ≡ falls_writing a cause c = cc in
      let step : steps.Rose rs ≡ steps.Fell cause (Some (records.Commit c)) = ap (λ (y : Entry). y.step) same in
      let never : ⊥ = cc in never
  no_rise older slots run kept b rs turn law (x ∷ m) a cause c after s =
      let rest : by b (posted_as turn.append (length (mail older)) turn) ≡ m ++ falls_writing a cause c ∷ after = cc in
      risen fits decl script accepted sound older slots run kept b turn c
      (post_falls b (length (mail older)) turn.append turn m a cause c after rest).writes rs law

  pub fallen_moment : (h : List Entry) (inputs : List Bool) → IsRun h inputs → Kept h
      → (before : List Entry) (a : ℕ) (cause : Fall) (c : CommitRecord) (after : List Entry)
      → h ≡ before ++ falls_writing a cause c ∷ after → FellAt before a c
  fallen_moment h inputs begins kept before a cause c after is =
      absurd (dry_none [] (λ e never. absurd never) before a cause c after is)
  fallen_moment h inputs (takes b g slots older run free rdy) kept before a cause c after is =
      elim (split older (marked b (step_of g) ∷ []) before (falls_writing a cause c) after is) [
        | First m s ↦ fallen_moment older slots run (kept_part older _ kept) before a cause c m s
        | Second m e s ↦ absurd (dry_none _ (dry_one (marked b (step_of g)) (dry_taken g)) m a cause c after s)
      ]
  fallen_moment h inputs (posts b turn slots older run taken law) kept before a cause c after is =
      elim (split older (by b (posted_as turn.append (length (mail older)) turn)) before
      (falls_writing a cause c) after is) [
        | First m s ↦ fallen_moment older slots run (kept_part older _ kept) before a cause c m s
        | Second m e s ↦ subst (λ (k : List Entry). FellAt k a c) (sym e)
            (fallen older slots run (kept_part older _ kept) b turn taken law m a cause c after s)
      ]
  fallen_moment h inputs (phase slots older run idle done quiet more) kept before a cause c after is =
      elim (split older (marked _ (steps.Phase (phase_of older + 1)) ∷ []) before (falls_writing a cause c) after is) [
        | First m s ↦ fallen_moment older slots run (kept_part older _ kept) before a cause c m s
        | Second m e s
            ↦ absurd (dry_none _ (dry_one (marked _ (steps.Phase (phase_of older + 1))) refl) m a cause c after
            s)
      ]
  fallen_moment h inputs (control line lines acted slots older run left acts) kept before a cause c after is =
      elim (split older (marked _ acted ∷ []) before (falls_writing a cause c) after is) [
        | First m s ↦ fallen_moment older slots run (kept_part older _ kept) before a cause c m s
        | Second m e s ↦ absurd (dry_none _ (dry_one (marked _ acted) (dry_line line acted acts)) m a cause c after s)
      ]
  fallen_moment h inputs (falls b lines slots older run left) kept before a cause c after is =
      elim (split older (marked b (steps.Fell causes.Script None) ∷ []) before (falls_writing a cause c) after is) [
        | First m s ↦ fallen_moment older slots run (kept_part older _ kept) before a cause c m s
        | Second m e s ↦
            absurd (dry_none _ (dry_one (marked b (steps.Fell causes.Script None)) refl) m a cause c after s)
      ]
  fallen_moment h inputs (rises b rs turn lines slots older run left fit has law) kept before a cause c after is =
      elim (split older (by b (steps.Rose rs ∷ posted_as turn.append (length (mail older)) turn)) before
      (falls_writing a cause c) after is) [
        | First m s ↦ fallen_moment older slots run (kept_part older _ kept) before a cause c m s
        | Second m e s ↦ absurd (no_rise older slots run (kept_part older _ kept) b rs turn law m a cause c after s)
      ]
  fallen_moment h inputs (damaged b offset lines slots older run left) kept before a cause c after is =
      absurd (kept older [] (marked b (steps.Damaged offset)) refl)
  fallen_moment h inputs (unopened b why lines slots older run left disk) kept before a cause c after is =
      elim (split older (marked b (steps.Fell why None) ∷ []) before (falls_writing a cause c) after is) [
        | First m s ↦ fallen_moment older slots run (kept_part older _ kept) before a cause c m s
        | Second m e s ↦ absurd (dry_none _ (dry_one (marked b (steps.Fell why None)) refl) m a cause c after s)
      ]
