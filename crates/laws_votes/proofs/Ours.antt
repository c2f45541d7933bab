-- The steps that write a record: no other record is in them, its client knows it from then on, and it is written once.
use Rattle.std.proofs.Common.{◌≡◌, ◌⊎◌, ◌+◌, ◌-◌, ◌==◌, ℕ, Bool, true, cond, List, [], ◌∷◌, ◌++◌, inl, inr, Some, refl}
use Rattle.std.proofs.Common.{sym, ap, ◌∙◌, subst, append_assoc, arith, eq-eqb}
use Rattle.qc_core.specs.Vocabulary.{AreSteady, IsLawfulWithFalls}
use Rattle.qc_decl.specs.Vocabulary.{IsAccepted}
use Rattle.qc_decl.specs.declared.declaration.Declaration.{Declaration}
use Rattle.qc_entry.specs.declared.line.Op.{Op}
use Rattle.qc_entry.specs.declared.record.Commit.{Commit as CommitRecord}
use Rattle.laws_votes.proofs.Clients.{IsNumbered, numbered}
use Rattle.laws_votes.proofs.Promising.{IsRecording, its_client, its_moment, now_recording}
use Rattle.laws_votes.proofs.Recorded.{IsKnown}
use Rattle.laws_votes.proofs.Recording.{Moment}
use Rattle.laws_votes.proofs.SiteLives.{record_stays}
use Rattle.laws_votes.specs.Vocabulary.{AreWriting, IsToldBy}
use Rattle.qc_list.specs.Vocabulary.{In}
use Rattle.qc_list.proofs.Members.{In-last}
use Rattle.qc_msg.specs.Vocabulary.{Entry, Falls, Tells, by, deeds, mail, marked, own}
use Rattle.qc_msg.specs.declared.message.Envelope.{Envelope}
use Rattle.qc_msg.specs.declared.record.Record.{Record}
use Rattle.qc_msg.specs.declared.record.Record.TheVariants as records
use Rattle.qc_msg.specs.declared.reply.Reply.TheVariants.{Unknown}
use Rattle.qc_msg.specs.declared.step.Fall.{Fall}
use Rattle.qc_msg.specs.declared.step.Step.{Step}
use Rattle.qc_msg.specs.declared.step.Step.TheVariants as steps
use Rattle.laws_votes.proofs.Known.{IsWriting, IsWrittenBy, known_since}
use Rattle.laws_votes.proofs.Live.{client_named}
use Rattle.laws_votes.proofs.Moments.{WroteAt}
use Rattle.laws_votes.proofs.Reader.{IsFalling, IsPosted, behind, due_at, m as writes_then, posted_at, r as due_then}
use Rattle.laws_votes.proofs.Reader.{says}
use Rattle.laws_votes.proofs.Since.{stays_steady}
use Rattle.laws_votes.proofs.Splits.{snoc_same}
use Rattle.qc_promise.specs.Vocabulary.{Current, Journal, Kept, journal_of}
use Rattle.laws_reach.specs.Vocabulary.{IsOfClient, records_of}
use Rattle.qc_script.specs.Vocabulary.{IsScriptFor, RunsWithFalls}
use Rattle.qc_script.specs.declared.script.Script.{Script}
use Rattle.qc_stamp.specs.declared.stamp.TxId.{TxId}
use Rattle.laws_reach.proofs.Committing.{journal_next}
use Rattle.qc_promise.proofs.Posts.{kept_part}

-- a step that writes two records writes one

wrote_one : (c d : CommitRecord) (step : Step) → step ≡ steps.Wrote (records.Commit c) → IsWriting d step → d ≡ c
wrote_one c d step is (inl wrote) = let same : steps.Wrote (records.Commit d) ≡ steps.Wrote (records.Commit c) =
    sym wrote ∙ is in cc
wrote_one c d step is (inr (cause, fell)) =
    absurd (let no : steps.Fell cause (Some (records.Commit d)) ≡ steps.Wrote (records.Commit c) = sym fell
    ∙ is in let never : ⊥ = cc in never)

fell_one : (c d : CommitRecord) (why : Fall) (step : Step) → step ≡ steps.Fell why (Some (records.Commit c))
    → IsWriting d step → d ≡ c
fell_one c d why step is (inl wrote) = absurd
    (let no : steps.Wrote (records.Commit d) ≡ steps.Fell why (Some (records.Commit c)) = sym wrote
    ∙ is in let never : ⊥ = cc in never)
fell_one c d why step is (inr (cause, fell)) =
    let same : steps.Fell cause (Some (records.Commit d)) ≡ steps.Fell why (Some (records.Commit c)) = sym fell
    ∙ is in cc

told_none : (d : CommitRecord) (step : Step) → step ≡ steps.Told Unknown → IsWriting d step → ⊥
told_none d step is (inl wrote) = let no : steps.Wrote (records.Commit d) ≡ steps.Told Unknown = sym wrote
    ∙ is in let never : ⊥ = cc in never
told_none d step is (inr (cause, fell)) = let no : steps.Fell cause (Some (records.Commit d)) ≡ steps.Told Unknown =
    sym fell ∙ is in let never : ⊥ = cc in never

in_wrote : (c d : CommitRecord) (a : ℕ) (m : List Entry) (w : ℕ) (step : Step) (rest : List Entry)
    → marked a (steps.Wrote (records.Commit c)) ∷ [] ≡ m ++ marked w step ∷ rest → IsWriting d step → d ≡ c
in_wrote c d a [] w step rest is writing =
    wrote_one c d step (let same : marked a (steps.Wrote (records.Commit c)) ≡ marked w step = cc in
    ap (λ (x : Entry). x.step) (sym same)) writing
in_wrote c d a (x ∷ []) w step rest is writing = absurd (let never : ⊥ = cc in never)
in_wrote c d a (x ∷ y ∷ m) w step rest is writing = absurd (let never : ⊥ = cc in never)

in_fell : (c d : CommitRecord) (why : Fall) (a : ℕ) (m : List Entry) (w : ℕ) (step : Step) (rest : List Entry)
    → says a ∷ marked a (steps.Fell why (Some (records.Commit c))) ∷ [] ≡ m ++ marked w step ∷ rest → IsWriting d step
    → d ≡ c
in_fell c d why a [] w step rest is writing =
    absurd (told_none d step (let same : says a ≡ marked w step = cc in ap (λ (x : Entry). x.step) (sym same)) writing)
in_fell c d why a (x ∷ []) w step rest is writing =
    fell_one c d why step (let same : marked a (steps.Fell why (Some (records.Commit c))) ≡ marked w step = cc in
    ap (λ (x : Entry). x.step) (sym same)) writing
in_fell c d why a (x ∷ y ∷ []) w step rest is writing = absurd (let never : ⊥ = cc in never)
in_fell c d why a (x ∷ y ∷ z ∷ m) w step rest is writing = absurd (let never : ⊥ = cc in never)

pub own_record : (xs : List Step) (c : CommitRecord) (a : ℕ) (m : List Entry) (w : ℕ) (step : Step) (rest : List Entry)
    (d : CommitRecord) → AreWriting xs c → by a xs ≡ m ++ marked w step ∷ rest → IsWriting d step → d ≡ c
own_record xs c a m w step rest d (inl wrote) is writing =
    in_wrote c d a m w step rest (sym (ap (by a) wrote) ∙ is) writing
own_record xs c a m w step rest d (inr (why, fell)) is writing =
    in_fell c d why a m w step rest (sym (ap (by a) fell) ∙ is) writing

-- they don't end with a reply
pub not_told : (xs : List Step) (c : CommitRecord) (before : List Entry) (a : ℕ) (prior : List Entry) (w : ℕ)
    → AreWriting xs c → before ++ by a xs ≡ prior ++ says w ∷ [] → ⊥
not_told xs c before a prior w (inl wrote) is =
    let same : marked a (steps.Wrote (records.Commit c)) ≡ says w =
    (snoc_same before prior (marked a (steps.Wrote (records.Commit c))) (says w)
    (sym (ap (λ (k : List Step). before ++ by a k) wrote) ∙ is)).1 in
    let step : steps.Wrote (records.Commit c) ≡ steps.Told Unknown = ap (λ (x : Entry). x.step) same in
    let never : ⊥ = cc in
    never
not_told xs c before a prior w (inr (why, fell)) is =
    let same : marked a (steps.Fell why (Some (records.Commit c))) ≡ says w =
    (snoc_same (before ++ says a ∷ []) prior (marked a (steps.Fell why (Some (records.Commit c)))) (says w)
    (append_assoc before (says a ∷ []) (marked a (steps.Fell why (Some (records.Commit c))) ∷ [])
    ∙ sym (ap (λ (k : List Step). before ++ by a k) fell) ∙ is)).1 in
    let step : steps.Fell why (Some (records.Commit c)) ≡ steps.Told Unknown = ap (λ (x : Entry). x.step) same in
    let never : ⊥ = cc in
    never

-- an actor that falls isn't steady

pub not_steady : (a w : ℕ) (ms : List Envelope) (c : CommitRecord) (step : Step) (rest : List Entry) → (w == a) ≡ true
    → IsFalling c step → AreSteady (deeds a ms (marked w step ∷ rest)) → ⊥
not_steady a w ms c step rest same (cause, fell) steady =
    (subst (λ (b : Bool). AreSteady (cond b (Falls cause (Some (records.Commit c)) ∷ []) [] ++ deeds a (ms ++ []) rest))
    same
    (subst (λ (x : Step). AreSteady (deeds a ms (marked w x ∷ rest))) fell steady)).0

told_steady : (a : ℕ) (ms : List Envelope) (c : CommitRecord) (why : Fall) (rest : List Entry) → (a == a) ≡ true
    → AreSteady (deeds a ms (says a ∷ marked a (steps.Fell why (Some (records.Commit c))) ∷ rest)) → ⊥
told_steady a ms c why rest same steady =
    not_steady a a (ms ++ []) c (steps.Fell why (Some (records.Commit c))) rest same (why, refl)
    (subst (λ (b : Bool). AreSteady (cond b (Tells Unknown ∷ []) [] ++ deeds a (ms ++ [])
    (marked a (steps.Fell why (Some (records.Commit c))) ∷ rest))) same steady).1

module _ (fits : ℕ → List Record → Type 0) (decl : Declaration) (script : Script) (h : List Entry)
    (open_inputs : List Bool) (accepted : IsAccepted decl) (sound : IsScriptFor decl script)
    (run : RunsWithFalls (IsLawfulWithFalls decl) fits decl script h open_inputs) (kept : Kept h) (c : CommitRecord)
    (op : Op) (t : Current) (k : IsToldBy fits decl script h c op t) where
  abbrev before : List Entry
  before = k.early ++ k.middle

  m : WroteAt fits decl script accepted sound before k.actor c
  m = writes_then fits decl script h open_inputs accepted sound run kept c op t k

  r : IsRecording decl before k.actor c
  r = due_then fits decl script h open_inputs accepted sound run kept c op t k

  abbrev ours : List Entry
  ours = before ++ by k.actor k.steps

  -- its client's journal has it in the end

  abbrev its : IsOfClient decl (records_of h) c
  its = its_client fits decl script h open_inputs accepted sound run kept c k.commits

  its_there : its.actor ≡ k.actor
  its_there =
      let n : Moment fits decl script accepted sound h its.actor c =
      its_moment fits decl script h open_inputs accepted sound run kept c k.commits in
      let then : IsRecording decl n.before its.actor c =
      now_recording fits decl script accepted sound h kept its.actor c its.client n in
      let one : then.t.tx.client ≡ its.actor - decl.sites =
      client_named fits decl script n.before n.open_inputs accepted sound n.run n.kept its.actor its.client then.t
      then.begun in
      let two : r.t.tx.client ≡ k.actor - decl.sites =
      client_named fits decl script before m.open_inputs accepted sound m.run m.kept k.actor m.client r.t r.begun in
      let same : then.t.tx.client ≡ r.t.tx.client = ap (λ (x : TxId). x.client) (sym then.its ∙ r.its) in
      let low : IsNumbered decl its.actor = numbered decl its.actor its.client in
      let high : IsNumbered decl k.actor = numbered decl k.actor m.client in
      let first : its.actor ≡ decl.sites + (its.actor - decl.sites) = low.is in
      let second : k.actor ≡ decl.sites + (k.actor - decl.sites) = high.is in
      omega arith

  in_the_end : IsKnown c (journal_of (own k.actor h))
  in_the_end = inl (subst (λ (n : ℕ). In (records.Commit c) (records_of h n)) its_there its.listed)

  -- it isn't written again, once its client fell as it wrote it

  not_again : (why : Fall) → k.steps ≡ steps.Told Unknown ∷ steps.Fell why (Some (records.Commit c)) ∷ []
      → (now n : List Entry) → now ≡ ours ++ n → WroteAt fits decl script accepted sound now k.actor c → ⊥
  not_again why fell now n is again =
      told_steady k.actor (mail before) c why n (eq-eqb k.actor k.actor refl)
      (subst (λ (xs : List Step). AreSteady (deeds k.actor (mail before) (by k.actor xs ++ n))) fell
      (stays_steady fits decl script before m.open_inputs accepted sound m.run m.kept k.actor m.client r.t r.begun now
      again.open_inputs again.run again.kept (by k.actor k.steps ++ n)
      (sym (is ∙ append_assoc before (by k.actor k.steps) n)) there.t there.begun (sym there.its ∙ r.its)))
    where
      there : IsRecording decl now k.actor c
      there = due_at fits decl script h open_inputs accepted sound run kept now k.actor c again

  -- its client knows it from then on
  pub known_after : (n rest : List Entry) → h ≡ (ours ++ n) ++ rest → IsKnown c (journal_of (own k.actor (ours ++ n)))
  known_after n rest stands = at k.writing
    where
      at : AreWriting k.steps c → IsKnown c (journal_of (own k.actor (ours ++ n)))
      at (inl wrote) =
          let now : In (records.Commit c) (records_of
          (before ++ marked k.actor (steps.Wrote (records.Commit c)) ∷ []) k.actor) =
          subst (λ (j : Journal). In (records.Commit c) j.records)
          (sym (journal_next k.actor before (marked k.actor (steps.Wrote (records.Commit c))) true
          (eq-eqb k.actor k.actor refl))) (In-last (records.Commit c) (journal_of (own k.actor before)).records) in
          inl (record_stays (records.Commit c) k.actor ours n (ours ++ n) refl
          (kept_part (ours ++ n) rest (subst Kept stands kept))
          (subst (λ (xs : List Step). In (records.Commit c) (records_of (before ++ by k.actor xs) k.actor))
          (sym wrote) now))
      at (inr (why, fell)) = elim (known_since c k.actor (ours ++ n) rest h (sym stands) kept in_the_end) [
        | inl known ↦ known
        | inr q ↦ absurd (again q)
      ]
        where
          again : IsWrittenBy rest k.actor c → ⊥
          again q = when (behind ours (n ++ q.before) p.prior p.tail k.actor c q.step p.tells
              (sym (append_assoc ours n q.before) ∙ p.is))
            where
              p : IsPosted fits decl script accepted sound ((ours ++ n) ++ q.before) k.actor c q.step
              p = posted_at fits decl script h open_inputs accepted sound run kept
                  ((ours ++ n) ++ q.before) k.actor q.step q.after c
                  (stands ∙ ap (λ (x : List Entry). (ours ++ n) ++ x) q.stands
                  ∙ sym (append_assoc (ours ++ n) q.before (marked k.actor q.step ∷ q.after))) q.writing

              when : ((l : List Entry) × (p.prior ≡ ours ++ l) × (n ++ q.before ≡ l ++ p.tail))
                  ⊎ ((n ++ q.before ≡ []) × (ours ≡ p.prior ++ says k.actor ∷ []) × IsFalling c q.step) → ⊥
              when (inl (l, front, back)) = not_again why fell p.prior l front p.wrote
              when (inr (none, all, falling)) = not_told k.steps c before k.actor p.prior k.actor k.writing all
