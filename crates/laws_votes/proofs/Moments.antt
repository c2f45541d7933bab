-- Where a commit record was written in a run with falls: the entries before it are a run, in which its client has an
-- open input, and there it is called_turn.
use Rattle.std.proofs.Common.{◌≡◌, ◌+◌, not, ℕ, Bool, true, false, List, [], ◌∷◌, ◌++◌, inl, inr, length, Option, Some}
use Rattle.std.proofs.Common.{None, slice_get, refl, sym, ap, ◌∙◌, subst}
use Rattle.std.proofs.lemmas.List.{append-nil}
use Rattle.qc_core.proofs.AdminOver.{WritesAsAdmin, admin_over}
use Rattle.qc_core.proofs.ByNumber.{rises_by}
use Rattle.qc_core.specs.Vocabulary.{ActorMove, IsLawfulWithFalls, actor_after, actor_takes, is_up, with_record}
use Rattle.qc_core.proofs.LivesOfActors as actor_laws
use Rattle.qc_decl.specs.Vocabulary.{IsAccepted, administrator, is_client, is_site}
use Rattle.qc_decl.specs.declared.declaration.Declaration.{Declaration}
use Rattle.qc_entry.specs.declared.record.Commit.{Commit as CommitRecord}
use Rattle.laws_votes.proofs.Clients.{IsCommitting, client_at, committing}
use Rattle.laws_votes.proofs.Nets.{net, reached}
use Rattle.qc_mailbox.specs.Vocabulary.{is_down}
use Rattle.qc_list.specs.Vocabulary.{In}
use Rattle.laws_turns.proofs.Downs.{who_is_down_only_tells, up_is}
use Rattle.qc_msg.proofs.DeedsGrow.{deeds-append, deeds-rose}
use Rattle.qc_msg.specs.Vocabulary.{Deed, Entry, by, commit_in, deeds, fell, mail, marked, posted_as, sents, step_of}
use Rattle.qc_msg.specs.Vocabulary.{told}
use Rattle.qc_msg.specs.declared.record.Record.{Record}
use Rattle.qc_msg.specs.declared.record.Record.TheVariants as records
use Rattle.qc_msg.specs.declared.reply.Reply.{Reply}
use Rattle.qc_msg.specs.declared.step.Control.{Control}
use Rattle.qc_msg.specs.declared.step.Control.TheVariants as controls
use Rattle.qc_msg.specs.declared.step.Fall.{Fall}
use Rattle.qc_msg.specs.declared.step.Fall.TheVariants as causes
use Rattle.qc_msg.specs.declared.step.Step.{Step}
use Rattle.qc_msg.specs.declared.step.Step.TheVariants as steps
use Rattle.qc_msg.specs.declared.turn.Appended.{Appended}
use Rattle.qc_msg.specs.declared.turn.Appended.TheVariants as ends
use Rattle.qc_msg.specs.declared.turn.Posting.{Posting}
use Rattle.qc_msg.specs.declared.turn.Turn.{Turn}
use Rattle.laws_refinement.specs.Vocabulary.{commits_in}
use Rattle.laws_atomic.proofs.Posted.{taken_writes}
use Rattle.laws_atomic.proofs.Silent.{site_silent}
use Rattle.laws_guarantees.proofs.Moments.{First, IsFirst, Second, first_posted, none_in, one_in, split, wrote}
use Rattle.qc_promise.specs.Vocabulary.{Kept}
use Rattle.laws_reach.proofs.PostedTurns.{takes_inputs}
use Rattle.laws_reach.proofs.Stood.{in_site}
use Rattle.laws_reach.specs.Vocabulary.{HasTaken, TakesInputs}
use Rattle.qc_script.specs.Vocabulary.{IsScriptFor, RunsWithFalls, begins, control, controller_step, damaged, falls}
use Rattle.qc_script.specs.Vocabulary.{phase, phase_of, posts, rises, takes, unopened}
use Rattle.qc_script.specs.declared.script.Script.{Script}
use Rattle.qc_site.specs.Vocabulary.{site_takes}
use Rattle.qc_core.proofs.PostsByTurns.{called_turn}
use Rattle.qc_promise.proofs.Posts.{kept_part}

-- steps that write no commit record

line_none : (line : Control) (step : Step) → controller_step line ≡ Some step → commit_in step ≡ None
line_none (controls.Phase k) step is = absurd (let never : ⊥ = cc in never)
line_none (controls.Cut a b) step is = ap commit_in (let same : step ≡ steps.Cut a b = cc in same)
line_none (controls.Heal a b) step is = ap commit_in (let same : step ≡ steps.Heal a b = cc in same)
line_none (controls.Armed actor kind at) step is =
    ap commit_in (let same : step ≡ steps.Armed actor kind at = cc in same)
line_none (controls.Crash a) step is = absurd (let never : ⊥ = cc in never)
line_none (controls.Restart a) step is = absurd (let never : ⊥ = cc in never)

fallen_none : (b n : ℕ) (ps : List Posting) (o : Option Reply) (cause : Fall) (w : Option Record) (e : Entry)
    → In e (by b (sents n ps ++ (told o ++ fell cause w))) → commit_in e.step ≡ None
fallen_none b n [] None cause w e (inl same) = ap (λ (y : Entry). commit_in y.step) same
fallen_none b n [] None cause w e (inr never) = absurd never
fallen_none b n [] (Some r) cause w e (inl same) = ap (λ (y : Entry). commit_in y.step) same
fallen_none b n [] (Some r) cause w e (inr (inl same)) = ap (λ (y : Entry). commit_in y.step) same
fallen_none b n [] (Some r) cause w e (inr (inr never)) = absurd never
fallen_none b n (p ∷ ps) o cause w e (inl same) = ap (λ (y : Entry). commit_in y.step) same
fallen_none b n (p ∷ ps) o cause w e (inr there) = fallen_none b (n + 1) ps o cause w e there

-- the record of a post is the first that it posts, and was written
first_of : (b n : ℕ) (end : Appended) (turn : Turn) (m : List Entry) (a : ℕ) (c : CommitRecord) (after : List Entry)
    → by b (posted_as end n turn) ≡ m ++ wrote a c ∷ after → IsFirst b turn m a c
first_of b n ends.Done turn m a c after is = first_posted b n turn m a c after is
first_of b n ends.Failed turn m a c after is =
    absurd (none_in (by b (sents n turn.failed_sends ++ (told turn.failed_told ++ fell causes.Disk turn.write)))
    (fallen_none b n turn.failed_sends turn.failed_told causes.Disk turn.write) m a c after is)
first_of b n ends.Stopped turn m a c after is =
    absurd (none_in (by b (told turn.failed_told ++ fell causes.Stop turn.write))
    (fallen_none b n [] turn.failed_told causes.Stop turn.write) m a c after is)

some_commit : (o : Option Record) (c : CommitRecord) → o ≡ Some (records.Commit c) → commits_in o ≡ [] → ⊥
some_commit o c some none = let both : c ∷ [] ≡ [] = ap commits_in (sym some) ∙ none in let never : ⊥ = cc in never

none_commit : (o : Option Record) (c : CommitRecord) → o ≡ Some (records.Commit c) → o ≡ None → ⊥
none_commit o c some none = let never : ⊥ = cc in never

module _ (fits : ℕ → List Record → Type 0) (decl : Declaration) (script : Script) (accepted : IsAccepted decl)
    (sound : IsScriptFor decl script) where
  abbrev pub IsRun : List Entry → List Bool → Type 0
  IsRun h inputs = RunsWithFalls (IsLawfulWithFalls decl) fits decl script h inputs

  -- the entries before the record
  pub record WroteAt (before : List Entry) (a : ℕ) (c : CommitRecord) : Type 0 where
    pub open_inputs : List Bool
    pub run : IsRun before open_inputs
    pub kept : Kept before
    pub client : is_client decl a ≡ true
    pub commits : IsCommitting decl a (deeds a [] before) c

  module _ (h : List Entry) (inputs : List Bool) (run : IsRun h inputs) (kept : Kept h) (b : ℕ) (turn : Turn)
      (c : CommitRecord) (writes : turn.write ≡ Some (records.Commit c)) where
    abbrev ds : List Deed
    ds = deeds b [] h

    -- no site writes it
    silent : is_site decl b ≡ true → slice_get inputs b ≡ Some true → IsLawfulWithFalls decl b ds turn → ⊥
    silent site taken law = by (is_up ds) refl
      where
        fallen : (d : Bool) → is_up ds ≡ not d → is_up ds ≡ false → d ≡ true
        fallen true is down = refl
        fallen false is down = absurd (let no : true ≡ false = sym is ∙ down in let never : ⊥ = cc in never)

        by : (u : Bool) → is_up ds ≡ u → ⊥
        by true up =
            let x : HasTaken decl (net fits decl script h inputs accepted sound run kept) b h =
            (reached fits decl script h inputs accepted sound run kept).actors_were b (inl site) up taken in
            let same : (site_takes decl ((net fits decl script h inputs accepted sound run kept).sites b) x.given).turn
            ≡ with_record turn =
            ap (λ (m : ActorMove). m.turn) (sym (x.is
            ∙ ap (λ (v : _). actor_takes decl v x.given)
            (in_site decl (net fits decl script h inputs accepted sound run kept) b site)))
            ∙ called_turn decl b ds turn law in
            some_commit (site_takes decl ((net fits decl script h inputs accepted sound run kept).sites b)
            x.given).turn.write c (ap (λ (t : Turn). t.write) same ∙ writes)
            (site_silent decl ((net fits decl script h inputs accepted sound run kept).sites b) x.given)
        by false down = none_commit turn.write c writes
            ((who_is_down_only_tells decl).writes_none b ds turn law (fallen (is_down ds) (up_is ds) down))

    -- so a client does, where it is called_turn
    pub posted : slice_get inputs b ≡ Some true → IsLawfulWithFalls decl b ds turn → WroteAt h b c
    posted taken law = by_kind (takes_inputs decl b ds turn law)
      where
        -- the administrator doesn't write it
        admin_silent : b ≡ administrator decl → ⊥
        admin_silent at =
            let w : WritesAsAdmin (actor_after decl b ds).turn.write =
            subst (λ (a : ℕ). WritesAsAdmin (actor_after decl a ds).turn.write) (sym at)
            (admin_over decl ds).writes in
            subst WritesAsAdmin (ap (λ (t : Turn). t.write) (called_turn decl b ds turn law) ∙ writes) w

        by_kind : TakesInputs decl b → WroteAt h b c
        by_kind (inl site) = absurd (silent site taken law)
        by_kind (inr (inl client)) = record {
          open_inputs = inputs;
          run = run;
          kept = kept;
          client = client;
          commits = committing decl b client ds (client_at fits decl script h inputs accepted sound run kept b client
              true taken) turn law c writes;
        }
        by_kind (inr (inr at)) = absurd (admin_silent at)

    -- and nobody as it rises
    pub risen : (rs : List Record) → IsLawfulWithFalls decl b (deeds b [] (h ++ marked b (steps.Rose rs) ∷ [])) turn → ⊥
    risen rs law = by (is_site decl b) (is_client decl b) same
      where
        same : (rises_by decl b rs (is_site decl b) (is_client decl b)).turn ≡ with_record turn
        same =
            ap (λ (m : ActorMove). m.turn) (sym (ap (actor_after decl b)
            (deeds-append b [] h (by b (steps.Rose rs ∷ []))
            ∙ ap (λ (v : List Deed). ds ++ v) (deeds-rose b (mail h) rs)) ∙ actor_laws.rises decl b ds rs))
            ∙ called_turn decl b (deeds b [] (h ++ marked b (steps.Rose rs) ∷ [])) turn law

        by : (s t : Bool) → (rises_by decl b rs s t).turn ≡ with_record turn → ⊥
        by true t is = let both : Some records.Life ≡ Some (records.Commit c) = ap (λ (t : Turn). t.write) is
            ∙ writes in let never : ⊥ = cc in never
        by false true is = let both : Some records.Life ≡ Some (records.Commit c) = ap (λ (t : Turn). t.write) is
            ∙ writes in let never : ⊥ = cc in never
        by false false is = let both : Some records.Life ≡ Some (records.Commit c) = ap (λ (t : Turn). t.write) is
            ∙ writes in let never : ⊥ = cc in never

  pub moment : (h : List Entry) (inputs : List Bool) → IsRun h inputs → Kept h
      → (before : List Entry) (a : ℕ) (c : CommitRecord) (after : List Entry) → h ≡ before ++ wrote a c ∷ after
      → WroteAt before a c
  moment h inputs begins kept before a c after is = absurd (none_in [] (λ e never. absurd never) before a c after is)
  moment h inputs (takes b g slots older run free rdy) kept before a c after is =
      elim (split older (marked b (step_of g) ∷ []) before (wrote a c) after is) [
        | First m s ↦ moment older slots run (kept_part older _ kept) before a c m s
        | Second m e s ↦ absurd (one_in (marked b (step_of g)) (taken_writes g) m a c after s)
      ]
  moment h inputs (posts b turn slots older run taken law) kept before a c after is =
      elim (split older (by b (posted_as turn.append (length (mail older)) turn)) before (wrote a c) after is) [
        | First m s ↦ moment older slots run (kept_part older _ kept) before a c m s
        | Second m e s ↦ at m e (first_of b (length (mail older)) turn.append turn m a c after s)
      ]
    where
      at : (m : List Entry) → before ≡ older ++ m → IsFirst b turn m a c → WroteAt before a c
      at m e f =
          let same : older ≡ before = sym (append-nil older) ∙ ap (λ (k : List Entry). older ++ k) (sym f.none)
          ∙ sym e in
          subst (λ (k : List Entry). WroteAt k a c) same
          (subst (λ (n : ℕ). WroteAt older n c) f.actor
          (posted older slots run (kept_part older _ kept) b turn c f.writes taken law))
  moment h inputs (phase slots older run idle done quiet more) kept before a c after is =
      elim (split older (marked _ (steps.Phase (phase_of older + 1)) ∷ []) before (wrote a c) after is) [
        | First m s ↦ moment older slots run (kept_part older _ kept) before a c m s
        | Second m e s ↦ absurd (one_in (marked _ (steps.Phase (phase_of older + 1))) refl m a c after s)
      ]
  moment h inputs (control line lines acted slots older run left acts) kept before a c after is =
      elim (split older (marked _ acted ∷ []) before (wrote a c) after is) [
        | First m s ↦ moment older slots run (kept_part older _ kept) before a c m s
        | Second m e s ↦ absurd (one_in (marked _ acted) (line_none line acted acts) m a c after s)
      ]
  moment h inputs (falls b lines slots older run left) kept before a c after is =
      elim (split older (marked b (steps.Fell causes.Script None) ∷ []) before (wrote a c) after is) [
        | First m s ↦ moment older slots run (kept_part older _ kept) before a c m s
        | Second m e s ↦ absurd (one_in (marked b (steps.Fell causes.Script None)) refl m a c after s)
      ]
  moment h inputs (rises b rs turn lines slots older run left fit has law) kept before a c after is =
      elim (split older (by b (steps.Rose rs ∷ posted_as turn.append (length (mail older)) turn)) before
      (wrote a c) after is) [
        | First m s ↦ moment older slots run (kept_part older _ kept) before a c m s
        | Second m e s ↦ absurd (never m s)
      ]
    where
      never : (m : List Entry) → by b (steps.Rose rs ∷ posted_as turn.append (length (mail older)) turn) ≡ m
          ++ wrote a c ∷ after → ⊥
      never [] s = one_in (marked b (steps.Rose rs)) refl [] a c []
          (let same : marked b (steps.Rose rs) ≡ wrote a c = cc in ap (λ (x : Entry). x ∷ []) same)
      never (x ∷ m) s = let rest : by b (posted_as turn.append (length (mail older)) turn) ≡ m ++ wrote a c ∷ after =
          cc in risen older slots run (kept_part older _ kept) b turn c
          (first_of b (length (mail older)) turn.append turn m a c after rest).writes rs law
  moment h inputs (damaged b offset lines slots older run left) kept before a c after is =
      absurd (kept older [] (marked b (steps.Damaged offset)) refl)
  moment h inputs (unopened b cause lines slots older run left disk) kept before a c after is =
      elim (split older (marked b (steps.Fell cause None) ∷ []) before (wrote a c) after is) [
        | First m s ↦ moment older slots run (kept_part older _ kept) before a c m s
        | Second m e s ↦ absurd (one_in (marked b (steps.Fell cause None)) refl m a c after s)
      ]
