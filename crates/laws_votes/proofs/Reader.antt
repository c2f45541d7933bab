-- The client of a committed operation, at the moments from its reply to its record: its transaction is begun, has the
-- operation, and is safe.
use Rattle.std.proofs.Common.{◌≡◌, ◌⊎◌, ◌-◌, ◌==◌, ℕ, Bool, false, List, [], ◌∷◌, ◌++◌, inl, inr, fold, Some, refl, sym}
use Rattle.std.proofs.Common.{ap, ◌∙◌, subst, append_assoc}
use Rattle.std.proofs.lemmas.List.{append-nil}
use Rattle.std.proofs.lemmas.List.Sums.{fold-append}
use Rattle.qc_core.specs.Vocabulary.{AreSteady, IsLawfulWithFalls}
use Rattle.qc_decl.specs.Vocabulary.{IsAccepted}
use Rattle.qc_decl.specs.declared.declaration.Declaration.{Declaration}
use Rattle.qc_entry.specs.declared.line.Op.{Op}
use Rattle.qc_entry.specs.declared.record.Commit.{Commit as CommitRecord}
use Rattle.laws_votes.proofs.Nets.{refined}
use Rattle.laws_votes.proofs.Promising.{IsRecording, recording}
use Rattle.laws_votes.specs.Vocabulary.{AreWriting, IsToldBy}
use Rattle.qc_list.specs.Vocabulary.{In}
use Rattle.qc_msg.proofs.DeedsGrow.{deeds-append, deeds-other}
use Rattle.qc_msg.specs.Vocabulary.{Deed, Entry, by, deeds, mail, marked}
use Rattle.qc_msg.specs.declared.record.Record.{Record}
use Rattle.qc_msg.specs.declared.record.Record.TheVariants as records
use Rattle.qc_msg.specs.declared.reply.Reply.TheVariants.{Unknown}
use Rattle.qc_msg.specs.declared.step.Fall.{Fall}
use Rattle.qc_msg.specs.declared.step.Step.{Step}
use Rattle.qc_msg.specs.declared.step.Step.TheVariants as steps
use Rattle.laws_guarantees.proofs.FirstGrants.{KeepsLives}
use Rattle.laws_guarantees.proofs.Settled.{IsSafe}
use Rattle.laws_guarantees.proofs.Persists.{AreMoves, Has, IsNumbered, moves_back, stays_begun}
use Rattle.laws_votes.proofs.Counts.{all_steady}
use Rattle.laws_votes.proofs.FallenMoments.{FellAt, fallen_moment}
use Rattle.laws_votes.proofs.Known.{IsWriting}
use Rattle.laws_votes.proofs.Live.{its_number}
use Rattle.laws_votes.proofs.Moments.{WroteAt, moment}
use Rattle.laws_votes.proofs.Safe as promises
use Rattle.laws_votes.proofs.Since.{account_since, since_due, stays_steady}
use Rattle.laws_votes.proofs.Splits.{snoc_same, snoc_split}
use Rattle.qc_promise.specs.Vocabulary.{Account, AreDeedsDue, Current, Kept, account, account_at, new_account}
use Rattle.qc_script.specs.Vocabulary.{IsScriptFor, RunsWithFalls}
use Rattle.qc_script.specs.declared.script.Script.{Script}
use Rattle.qc_promise.proofs.Posts.{kept_part}

-- the step falls as it writes the record
abbrev pub IsFalling : CommitRecord → Step → Type 0
IsFalling c step = (cause : Fall) × (step ≡ steps.Fell cause (Some (records.Commit c)))

-- what its client is told as it falls
abbrev pub says : ℕ → Entry
says a = marked a (steps.Told Unknown)

-- the entries before a step that writes a record, but for the Unknown that a client is told as it falls
pub record IsPosted (fits : ℕ → List Record → Type 0) (decl : Declaration) (script : Script)
    (accepted : IsAccepted decl) (sound : IsScriptFor decl script) (entries : List Entry) (a : ℕ) (c : CommitRecord)
    (step : Step) : Type 0 where
  pub prior : List Entry
  pub tail : List Entry
  pub is : entries ≡ prior ++ tail
  pub tells : (tail ≡ []) ⊎ ((tail ≡ says a ∷ []) × IsFalling c step)
  pub wrote : WroteAt fits decl script accepted sound prior a c

-- where entries follow first ones, the moment is among them, or its Unknown is the last of the first ones
pub behind : (first rest prior tail : List Entry) (a : ℕ) (c : CommitRecord) (step : Step)
    → (tail ≡ []) ⊎ ((tail ≡ says a ∷ []) × IsFalling c step) → first ++ rest ≡ prior ++ tail
    → ((m : List Entry) × (prior ≡ first ++ m) × (rest ≡ m ++ tail))
    ⊎ ((rest ≡ []) × (first ≡ prior ++ says a ∷ []) × IsFalling c step)
behind first rest prior tail a c step (inl none) is =
    inl (
      rest,
      sym (is ∙ ap (λ (k : List Entry). prior ++ k) none ∙ append-nil prior),
      sym (ap (λ (k : List Entry). rest ++ k) none ∙ append-nil rest),
    )
behind first rest prior tail a c step (inr (one, falling)) is =
    elim (snoc_split first rest prior (says a) (is ∙ ap (λ (k : List Entry). prior ++ k) one)) [
      | inl (none, all) ↦ inr (none, all, falling)
      | inr (m, front, back) ↦ inl (m, front, back ∙ ap (λ (k : List Entry). m ++ k) (sym one))
    ]

module _ (fits : ℕ → List Record → Type 0) (decl : Declaration) (script : Script) (h : List Entry)
    (open_inputs : List Bool) (accepted : IsAccepted decl) (sound : IsScriptFor decl script)
    (run : RunsWithFalls (IsLawfulWithFalls decl) fits decl script h open_inputs) (kept : Kept h) where
  pub posted_at : (before : List Entry) (a : ℕ) (step : Step) (after : List Entry) (c : CommitRecord)
      → h ≡ before ++ marked a step ∷ after → IsWriting c step
      → IsPosted fits decl script accepted sound before a c step
  posted_at before a step after c is (inl wrote) = record {
    prior = before;
    tail = [];
    is = sym (append-nil before);
    tells = inl refl;
    wrote = moment fits decl script accepted sound h open_inputs run kept before a c after
        (is ∙ ap (λ (x : Step). before ++ marked a x ∷ after) wrote);
  }
  posted_at before a step after c is (inr (cause, fell)) =
      let f : FellAt fits decl script accepted sound before a c =
      fallen_moment fits decl script accepted sound h open_inputs run kept before a cause c after
      (is ∙ ap (λ (x : Step). before ++ marked a x ∷ after) fell) in
      record { prior = f.prior; tail = says a ∷ []; is = f.is; tells = inr (refl, (cause, fell)); wrote = f.wrote }

  -- the steps that write a record, behind the entries before

  pub writing_at : (before : List Entry) (a : ℕ) (xs : List Step) (after : List Entry) (c : CommitRecord)
      → h ≡ before ++ (by a xs ++ after) → AreWriting xs c → WroteAt fits decl script accepted sound before a c
  writing_at before a xs after c is (inl wrote) =
      moment fits decl script accepted sound h open_inputs run kept before a c after
      (is ∙ ap (λ (k : List Step). before ++ (by a k ++ after)) wrote)
  writing_at before a xs after c is (inr (cause, fell)) =
      let f : FellAt fits decl script accepted sound (before ++ says a ∷ []) a c =
      fallen_moment fits decl script accepted sound h open_inputs run kept (before ++ says a ∷ []) a cause c after
      (is ∙ ap (λ (k : List Step). before ++ (by a k ++ after)) fell
      ∙ sym (append_assoc before (says a ∷ []) (marked a (steps.Fell cause (Some (records.Commit c))) ∷ after))) in
      subst (λ (k : List Entry). WroteAt fits decl script accepted sound k a c)
      (sym (snoc_same before f.prior (says a) (says a) f.is).0) f.wrote

  pub due_at : (before : List Entry) (a : ℕ) (c : CommitRecord) → WroteAt fits decl script accepted sound before a c
      → IsRecording decl before a c
  due_at before a c m = recording fits decl script before m.open_inputs accepted sound m.run m.kept a c m.commits

  module _ (c : CommitRecord) (op : Op) (t : Current) (k : IsToldBy fits decl script h c op t) where
    abbrev pub before : List Entry
    before = k.early ++ k.middle

    pub m : WroteAt fits decl script accepted sound before k.actor c
    m = writing_at before k.actor k.steps k.after c k.stands k.writing

    pub r : IsRecording decl before k.actor c
    r = due_at before k.actor c m

    pub early_kept : Kept k.early
    early_kept = kept_part k.early k.middle m.kept

    pub same_name : r.t.tx ≡ t.tx
    same_name = sym r.its ∙ sym k.its

    -- the client's deeds since the moment

    abbrev pub e : Account
    e = account decl k.actor k.early

    abbrev mid : List Deed
    mid = deeds k.actor (mail k.early) k.middle

    pub account_then : account decl k.actor before ≡ fold (account_at decl) e mid
    account_then = account_since fits decl script k.early k.open_inputs accepted sound k.run early_kept k.actor m.client
        t k.begun before m.open_inputs m.run m.kept k.middle refl r.t r.begun same_name

    pub mid_due : AreDeedsDue decl e (mid ++ [])
    mid_due = subst (AreDeedsDue decl e) (sym (append-nil mid))
        (since_due fits decl script k.early k.open_inputs accepted sound k.run early_kept k.actor m.client t k.begun
        before m.open_inputs m.run m.kept k.middle refl r.t r.begun same_name)

    pub steady : AreSteady mid
    steady = stays_steady fits decl script k.early k.open_inputs accepted sound k.run early_kept k.actor m.client t
        k.begun before m.open_inputs m.run m.kept k.middle refl r.t r.begun same_name

    moves : AreMoves decl e mid
    moves = all_steady decl mid [] e steady mid_due

    numbered : IsNumbered e.count e.current
    numbered = its_number fits decl script k.early k.open_inputs accepted sound k.run early_kept k.actor m.client t
        k.begun

    -- the begun transaction after first ones of these deeds

    has : (x y : List Deed) → mid ≡ x ++ y → Has t.tx op t.lives (fold (account_at decl) e x).count
        (fold (account_at decl) e x).current
    has x y is = stays_begun decl e x y t r.t op (subst (AreMoves decl e) is moves) numbered k.begun k.told
        (ap (λ (v : Account). v.current) (sym (account_then ∙ ap (fold (account_at decl) e) is
        ∙ fold-append (account_at decl) e x y)) ∙ r.begun) same_name

    last : Has t.tx op t.lives (fold (account_at decl) e mid).count (fold (account_at decl) e mid).current
    last = has mid [] (sym (append-nil mid))

    last_is : last.t ≡ r.t
    last_is = let both : Some last.t ≡ Some r.t = sym last.is ∙ sym (ap (λ (v : Account). v.current) account_then)
        ∙ r.begun in cc

    keeps : KeepsLives t.lives r.t.lives
    keeps = subst (λ (s : Current). KeepsLives t.lives s.lives) last_is last.lives

    -- the client at a moment that is a run
    pub record IsReading (now : List Entry) (inputs : List Bool)
        (run_now : RunsWithFalls (IsLawfulWithFalls decl) fits decl script now inputs)
        (kept_now : Kept now) : Type 0 where
      pub s : Current
      pub begun : (account decl k.actor now).current ≡ Some s
      pub its : s.tx ≡ t.tx
      pub told : In op s.ops
      pub safe : IsSafe (refined fits decl script now inputs accepted sound run_now kept_now).acts s.tx

    -- the reader is safe at the moment of the reply
    pub safe_early : IsSafe (refined fits decl script k.early k.open_inputs accepted sound k.run early_kept).acts t.tx
    safe_early = promises.safe fits decl script k.early k.open_inputs accepted sound k.run early_kept k.actor m.client t
        k.begun before m.open_inputs m.run m.kept k.middle refl r.t same_name keeps r.promised

    -- between the moment and the record

    module _ (first since : List Entry) (parts : k.middle ≡ first ++ since) (inputs : List Bool)
        (run_now : RunsWithFalls (IsLawfulWithFalls decl) fits decl script (k.early ++ first) inputs)
        (kept_now : Kept (k.early ++ first)) where
      abbrev between : List Entry
      between = k.early ++ first

      abbrev x : List Deed
      x = deeds k.actor (mail k.early) first

      abbrev y : List Deed
      y = deeds k.actor (mail k.early ++ mail first) since

      deeds_are : mid ≡ x ++ y
      deeds_are = ap (deeds k.actor (mail k.early)) parts ∙ deeds-append k.actor (mail k.early) first since

      account_between : account decl k.actor between ≡ fold (account_at decl) e x
      account_between =
          ap (fold (account_at decl) (new_account (k.actor - decl.sites))) (deeds-append k.actor [] k.early first)
          ∙ fold-append (account_at decl) (new_account (k.actor - decl.sites)) (deeds k.actor [] k.early) x

      still : Has t.tx op t.lives (fold (account_at decl) e x).count (fold (account_at decl) e x).current
      still = has x y deeds_are

      begun_between : (account decl k.actor between).current ≡ Some still.t
      begun_between = ap (λ (v : Account). v.current) account_between ∙ still.is

      -- its lives stay until its record
      later_lives : KeepsLives still.t.lives r.t.lives
      later_lives = subst (λ (s : Current). KeepsLives still.t.lives s.lives) end_is then.lives
        where
          back : AreMoves decl (account decl k.actor between) y
          back = subst (λ (v : Account). AreMoves decl v y) (sym account_between)
              (moves_back decl x y e (subst (AreMoves decl e) deeds_are moves))

          at_end : (account decl k.actor before).current ≡
              (fold (account_at decl) (account decl k.actor between) y).current
          at_end = ap (λ (v : Account). v.current)
              (account_then ∙ ap (fold (account_at decl) e) deeds_are ∙ fold-append (account_at decl) e x y
              ∙ ap (λ (v : Account). fold (account_at decl) v y) (sym account_between))

          then : Has still.t.tx op still.t.lives (fold (account_at decl) (account decl k.actor between) y).count
              (fold (account_at decl) (account decl k.actor between) y).current
          then = stays_begun decl (account decl k.actor between) y [] still.t r.t op
              (subst (AreMoves decl (account decl k.actor between)) (sym (append-nil y)) back)
              (its_number fits decl script between inputs accepted sound run_now kept_now k.actor m.client still.t
              begun_between) begun_between still.among (sym at_end ∙ r.begun) (same_name ∙ sym still.its)

          end_is : then.t ≡ r.t
          end_is = let both : Some then.t ≡ Some r.t = sym then.is ∙ sym at_end ∙ r.begun in cc

      pub reads_between : IsReading (k.early ++ first) inputs run_now kept_now
      reads_between = record {
        s = still.t;
        begun = begun_between;
        its = still.its;
        told = still.among;
        safe = promises.safe fits decl script between inputs accepted sound run_now kept_now k.actor m.client still.t
            begun_between before m.open_inputs m.run m.kept since
            (append_assoc k.early first since ∙ ap (λ (z : List Entry). k.early ++ z) (sym parts)) r.t
            (same_name ∙ sym still.its) later_lives r.promised;
      }

    -- right before the moment, where another client was told Unknown since

    module _ (prior : List Entry) (w : ℕ) (other : (w == k.actor) ≡ false) (is : k.early ≡ prior ++ says w ∷ [])
        (inputs : List Bool) (run_now : RunsWithFalls (IsLawfulWithFalls decl) fits decl script prior inputs)
        (kept_now : Kept prior) where
      account_prior : account decl k.actor k.early ≡ account decl k.actor prior
      account_prior =
          ap (λ (z : List Entry). account decl k.actor z) is
          ∙ ap (fold (account_at decl) (new_account (k.actor - decl.sites)))
          (deeds-other w k.actor [] prior (steps.Told Unknown ∷ []) other)

      begun_prior : (account decl k.actor prior).current ≡ Some t
      begun_prior = sym (ap (λ (v : Account). v.current) account_prior) ∙ k.begun

      pub reads_before : IsReading prior inputs run_now kept_now
      reads_before = record {
        s = t;
        begun = begun_prior;
        its = refl;
        told = k.told;
        safe = promises.safe fits decl script prior inputs accepted sound run_now kept_now k.actor m.client t
            begun_prior before m.open_inputs m.run m.kept (says w ∷ k.middle)
            (sym (append_assoc prior (says w ∷ []) k.middle) ∙ ap (λ (z : List Entry). z ++ k.middle) (sym is)) r.t
            same_name keeps r.promised;
      }
