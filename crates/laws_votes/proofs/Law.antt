-- The ordering lemma through falls. If the writer's client knew the record at the moment, written or pending, then the
-- reader, which was live in the machine of that moment and safe, had its line in the view. It wasn't written, nor being
-- written, between the moment and the reader's record: both would have been live and safe. If it was later, its
-- client's clock had passed the reader's stamp.
use Rattle.std.proofs.Common.{◌≡◌, ◌≢◌, ◌⊎◌, ◌≤◌, ◌+◌, ◌==◌, ℕ, Bool, true, false, List, [], ◌∷◌, ◌++◌, inl, inr, fold}
use Rattle.std.proofs.Common.{refl, sym, ap, ◌∙◌, subst, arith, append_assoc}
use Rattle.std.proofs.lemmas.List.{append-nil}
use Rattle.qc_core.specs.Vocabulary.{AreSteady, IsLawfulWithFalls}
use Rattle.qc_decl.specs.Vocabulary.{IsAccepted}
use Rattle.qc_decl.specs.declared.declaration.Declaration.{Declaration}
use Rattle.qc_entry.specs.declared.line.Line.{Line}
use Rattle.qc_entry.specs.declared.line.Op.{Op}
use Rattle.qc_entry.specs.declared.record.Commit.{Commit as CommitRecord}
use Rattle.laws_votes.proofs.Nets.{refined}
use Rattle.laws_votes.proofs.Promising.{IsRecording, its_client, its_moment, now_recording}
use Rattle.laws_votes.proofs.Recorded.{IsKnown}
use Rattle.laws_votes.proofs.Recording.{Moment}
use Rattle.laws_votes.proofs.Stamps.{steady_clocks}
use Rattle.qc_list.specs.Vocabulary.{In}
use Rattle.qc_msg.specs.Vocabulary.{Deed, Entry, by, deeds, mail, marked, own}
use Rattle.qc_msg.specs.declared.record.Record.{Record}
use Rattle.qc_msg.specs.declared.step.Step.{Step}
use Rattle.theory_onecopy.specs.Vocabulary.{IsOperation}
use Rattle.laws_guarantees.proofs.Committed.{both_live}
use Rattle.laws_guarantees.proofs.FirstGrants.{same_lives}
use Rattle.laws_guarantees.proofs.Settled.{IsSafe}
use Rattle.laws_guarantees.proofs.Moments.{First, Second, split}
use Rattle.laws_guarantees.specs.Vocabulary.{IsOrdered}
use Rattle.laws_votes.proofs.Known.{IsWriting, known_since}
use Rattle.laws_votes.proofs.Live.{live}
use Rattle.laws_votes.proofs.Moments.{WroteAt}
use Rattle.laws_votes.proofs.Ours.{known_after, not_steady, not_told, own_record}
use Rattle.laws_votes.proofs.Pending.{passes, sees}
use Rattle.laws_votes.proofs.Reader.{IsFalling, IsPosted, IsReading, account_then, behind, due_at, early_kept}
use Rattle.laws_votes.proofs.Reader.{m as writes_then, mid_due, posted_at, r as due_then, reads_before, reads_between}
use Rattle.laws_votes.proofs.Reader.{safe_early, says, steady}
use Rattle.laws_votes.proofs.Safe.{safe}
use Rattle.laws_votes.specs.Vocabulary.{DependsOn, IsToldBy}
use Rattle.qc_promise.specs.Vocabulary.{Account, Current, Kept, account, account_at, committed, journal_of, view_of}
use Rattle.laws_reach.specs.Vocabulary.{IsOfClient, records_of}
use Rattle.qc_script.specs.Vocabulary.{IsScriptFor, RunsWithFalls}
use Rattle.qc_script.specs.declared.script.Script.{Script}
use Rattle.qc_stamp.specs.declared.stamp.Stamp.{Stamp}

module _ (fits : ℕ → List Record → Type 0) (decl : Declaration) (script : Script) (h : List Entry)
    (open_inputs : List Bool) (accepted : IsAccepted decl) (sound : IsScriptFor decl script)
    (run : RunsWithFalls (IsLawfulWithFalls decl) fits decl script h open_inputs) (kept : Kept h) where
  module _ (c : CommitRecord) (op : Op) (t : Current) (k : IsToldBy fits decl script h c op t) (line : Line)
      (d : DependsOn decl h c op line) where
    abbrev before : List Entry
    before = k.early ++ k.middle

    abbrev e : Account
    e = account decl k.actor k.early

    abbrev mid : List Deed
    mid = deeds k.actor (mail k.early) k.middle

    pub m : WroteAt fits decl script accepted sound before k.actor c
    m = writes_then fits decl script h open_inputs accepted sound run kept c op t k

    pub r : IsRecording decl before k.actor c
    r = due_then fits decl script h open_inputs accepted sound run kept c op t k

    abbrev kept_early : Kept k.early
    kept_early = early_kept fits decl script h open_inputs accepted sound run kept c op t k

    other : d.logged.commit.tx ≢ c.tx
    other x = d.apart (d.logged.named ∙ x)

    -- the writer's client, whose journal has the record in the end
    w : IsOfClient decl (records_of h) d.logged.commit
    w = its_client fits decl script h open_inputs accepted sound run kept d.logged.commit d.logged.listed

    -- it knew the record at the moment

    was_there : IsKnown d.logged.commit (journal_of (own w.actor k.early))
        → IsOrdered (view_of t op.object) line c.stamp
    was_there known =
        let s : In line (view_of t op.object) × (line.stamp.clock ≤ e.clock) =
        sees fits decl script k.early k.open_inputs accepted sound k.run kept_early k.actor m.client t k.begun
        (safe_early fits decl script h open_inputs accepted sound run kept c op t k) w.actor w.client
        d.logged.commit (λ x. other (x ∙ k.its)) known
        op line k.told d.logged.stamped d.logged.named d.logged.operation d.on d.depends in
        let low : line.stamp.clock ≤ e.clock = s.1 in
        let rises : e.clock ≤ (fold (account_at decl) e mid).clock =
        steady_clocks decl mid [] e (steady fits decl script h open_inputs accepted sound run kept c op t k)
        (mid_due fits decl script h open_inputs accepted sound run kept c op t k) in
        let same : (account decl k.actor before).clock ≡ (fold (account_at decl) e mid).clock =
        ap (λ (v : Account). v.clock) (account_then fits decl script h open_inputs accepted sound run kept c op t k)
        in
        let next : c.stamp.clock ≡ (account decl k.actor before).clock + 1 = r.stamp in
        inl (record { seen = s.0; before = omega arith })

    -- it wasn't written where the reader's client is reading

    never_at : (now : List Entry) (n : WroteAt fits decl script accepted sound now w.actor d.logged.commit)
        → IsReading fits decl script h open_inputs accepted sound run kept c op t k now n.open_inputs n.run n.kept → ⊥
    never_at now n reading =
        both_live decl accepted (refined fits decl script now n.open_inputs accepted sound n.run n.kept).acts
        (refined fits decl script now n.open_inputs accepted sound n.run n.kept).run
        reading.s there.t (account decl k.actor now).clock (account decl w.actor now).clock
        (live fits decl script now n.open_inputs accepted sound n.run n.kept k.actor m.client reading.s reading.begun)
        (live fits decl script now n.open_inputs accepted sound n.run n.kept w.actor n.client there.t there.begun)
        reading.safe writer_safe (λ z. other (there.its ∙ z ∙ reading.its ∙ k.its)) op line.op line.object line.event
        reading.told
        (subst (λ (os : List Op). IsOperation decl os line.op line.object line.event) there.ops d.logged.operation) d.on
        d.depends
      where
        there : IsRecording decl now w.actor d.logged.commit
        there = due_at fits decl script h open_inputs accepted sound run kept now w.actor d.logged.commit n

        writer_safe : IsSafe (refined fits decl script now n.open_inputs accepted sound n.run n.kept).acts there.t.tx
        writer_safe = safe fits decl script now n.open_inputs accepted sound n.run n.kept w.actor n.client there.t
            there.begun now n.open_inputs n.run n.kept [] (append-nil now) there.t refl
            (same_lives there.t.lives) there.promised

    never_between : (first : List Entry) (step : Step) (rest : List Entry)
        → k.middle ≡ first ++ marked w.actor step ∷ rest → IsWriting d.logged.commit step → ⊥
    never_between first step rest parts writing =
        at (behind k.early first p.prior p.tail w.actor d.logged.commit step p.tells p.is)
      where
        stands : h ≡ (k.early ++ first) ++ marked w.actor step ∷ (rest ++ (by k.actor k.steps ++ k.after))
        stands =
            k.stands ∙ append_assoc k.early k.middle (by k.actor k.steps ++ k.after)
            ∙ ap (λ (x : List Entry). k.early ++ (x ++ (by k.actor k.steps ++ k.after))) parts
            ∙ ap (λ (x : List Entry). k.early ++ x) (append_assoc first (marked w.actor step ∷ rest)
            (by k.actor k.steps ++ k.after)) ∙ sym (append_assoc k.early first
            (marked w.actor step ∷ (rest ++ (by k.actor k.steps ++ k.after))))

        p : IsPosted fits decl script accepted sound (k.early ++ first) w.actor d.logged.commit step
        p = posted_at fits decl script h open_inputs accepted sound run kept (k.early ++ first) w.actor step
            (rest ++ (by k.actor k.steps ++ k.after)) d.logged.commit stands writing

        -- within what follows the moment
        within : (n : List Entry) → p.prior ≡ k.early ++ n → first ≡ n ++ p.tail → ⊥
        within n front back =
            let at_it : WroteAt fits decl script accepted sound (k.early ++ n) w.actor d.logged.commit =
            subst (λ (x : List Entry). WroteAt fits decl script accepted sound x w.actor d.logged.commit) front
            p.wrote in
            never_at (k.early ++ n) at_it
            (reads_between fits decl script h open_inputs accepted sound run kept c op t k n
            (p.tail ++ marked w.actor step ∷ rest)
            (parts ∙ ap (λ (x : List Entry). x ++ marked w.actor step ∷ rest) back
            ∙ append_assoc n p.tail (marked w.actor step ∷ rest)) at_it.open_inputs at_it.run at_it.kept)

        -- its Unknown is the last before the moment: it isn't the reader's client, which doesn't fall
        last : first ≡ [] → k.early ≡ p.prior ++ says w.actor ∷ [] → IsFalling d.logged.commit step → ⊥
        last none all falling = by_actor (w.actor == k.actor) refl
          where
            by_actor : (b : Bool) → (w.actor == k.actor) ≡ b → ⊥
            by_actor true same = not_steady k.actor w.actor (mail k.early) d.logged.commit step rest same falling
                (subst (λ (x : List Entry). AreSteady (deeds k.actor (mail k.early) x))
                (parts ∙ ap (λ (x : List Entry). x ++ marked w.actor step ∷ rest) none)
                (steady fits decl script h open_inputs accepted sound run kept c op t k))
            by_actor false differs = never_at p.prior p.wrote
                (reads_before fits decl script h open_inputs accepted sound run kept c op t k p.prior w.actor differs
                all p.wrote.open_inputs p.wrote.run p.wrote.kept)

        at : ((n : List Entry) × (p.prior ≡ k.early ++ n) × (first ≡ n ++ p.tail))
            ⊎ ((first ≡ []) × (k.early ≡ p.prior ++ says w.actor ∷ []) × IsFalling d.logged.commit step) → ⊥
        at (inl (n, front, back)) = within n front back
        at (inr (none, all, falling)) = last none all falling

    -- it was written later

    came_later : (first : List Entry) (step : Step) (rest : List Entry) → k.after ≡ first ++ marked w.actor step ∷ rest
        → IsWriting d.logged.commit step → IsOrdered (view_of t op.object) line c.stamp
    came_later first step rest parts writing =
        at (behind (before ++ by k.actor k.steps) first p.prior p.tail w.actor d.logged.commit step p.tells p.is)
      where
        stands : h ≡ ((before ++ by k.actor k.steps) ++ first) ++ marked w.actor step ∷ rest
        stands =
            k.stands ∙ sym (append_assoc before (by k.actor k.steps) k.after)
            ∙ ap (λ (x : List Entry). (before ++ by k.actor k.steps) ++ x) parts
            ∙ sym (append_assoc (before ++ by k.actor k.steps) first (marked w.actor step ∷ rest))

        p : IsPosted fits decl script accepted sound
            ((before ++ by k.actor k.steps) ++ first) w.actor d.logged.commit step
        p = posted_at fits decl script h open_inputs accepted sound run kept
            ((before ++ by k.actor k.steps) ++ first) w.actor step rest d.logged.commit stands writing

        -- the reader's record is known there
        passed : (n : List Entry) → p.prior ≡ (before ++ by k.actor k.steps) ++ n
            → IsOrdered (view_of t op.object) line c.stamp
        passed n front =
            let low : c.stamp.clock ≤ (account decl w.actor p.prior).clock =
            passes fits decl script p.prior p.wrote.open_inputs accepted sound p.wrote.run p.wrote.kept w.actor
            p.wrote.client due_last.t due_last.begun
            (safe fits decl script p.prior p.wrote.open_inputs accepted sound p.wrote.run p.wrote.kept w.actor
            p.wrote.client due_last.t due_last.begun p.prior p.wrote.open_inputs p.wrote.run p.wrote.kept []
            (append-nil p.prior) due_last.t refl (same_lives due_last.t.lives) due_last.promised)
            k.actor m.client c (λ x. other (due_last.its ∙ sym x)) known op line.op line.object line.event d.operation
            (subst (λ (os : List Op). IsOperation decl os line.op line.object line.event) due_last.ops
            d.logged.operation) d.on d.depends in
            let next : d.logged.commit.stamp.clock ≡ (account decl w.actor p.prior).clock + 1 = due_last.stamp in
            let clocks : line.stamp.clock ≡ d.logged.commit.stamp.clock =
            ap (λ (s : Stamp). s.clock) d.logged.stamped in
            inr (omega arith)
          where
            due_last : IsRecording decl p.prior w.actor d.logged.commit
            due_last = due_at fits decl script h open_inputs accepted sound run kept p.prior w.actor d.logged.commit
                p.wrote

            known : IsKnown c (journal_of (own k.actor p.prior))
            known = subst (λ (x : List Entry). IsKnown c (journal_of (own k.actor x))) (sym front)
                (known_after fits decl script h open_inputs accepted sound run kept c op t k n
                (p.tail ++ marked w.actor step ∷ rest)
                (stands ∙ ap (λ (x : List Entry). x ++ marked w.actor step ∷ rest)
                (p.is ∙ ap (λ (x : List Entry). x ++ p.tail) front)
                ∙ append_assoc ((before ++ by k.actor k.steps) ++ n) p.tail (marked w.actor step ∷ rest)))

        at : ((n : List Entry) × (p.prior ≡ (before ++ by k.actor k.steps) ++ n) × (first ≡ n ++ p.tail))
            ⊎ ((first ≡ []) × ((before ++ by k.actor k.steps) ≡ p.prior ++ says w.actor ∷ [])
            × IsFalling d.logged.commit step) → IsOrdered (view_of t op.object) line c.stamp
        at (inl (n, front, back)) = passed n front
        at (inr (none, all, falling)) = absurd (not_told k.steps c before k.actor p.prior w.actor k.writing all)

    pub dependent_operations_are_ordered_through_falls : IsOrdered (view_of t op.object) line c.stamp
    dependent_operations_are_ordered_through_falls =
        elim (known_since d.logged.commit w.actor k.early (k.middle ++ (by k.actor k.steps ++ k.after)) h
        (sym (k.stands ∙ append_assoc k.early k.middle (by k.actor k.steps ++ k.after))) kept (inl w.listed)) [
          | inl known ↦ was_there known
          | inr p ↦
              elim (split k.middle (by k.actor k.steps ++ k.after) p.before (marked w.actor p.step) p.after p.stands) [
                | First rest s ↦ absurd (never_between p.before p.step rest s p.writing)
                | Second first is s ↦
                    elim (split (by k.actor k.steps) k.after first (marked w.actor p.step) p.after s) [
                      | First rest own_step ↦ absurd (other (ap (λ (x : CommitRecord). x.tx)
                          (own_record k.steps c k.actor first w.actor p.step rest d.logged.commit k.writing own_step
                          p.writing)))
                      | Second later is_later s_later ↦ came_later later p.step p.after s_later p.writing
                    ]
              ]
        ]

  -- each operation of a committed record had been told by then
  pub operations_of_records_were_told_through_falls : (c : CommitRecord) (op : Op) → In c (committed decl h)
      → In op c.ops → (t : Current) × IsToldBy fits decl script h c op t
  operations_of_records_were_told_through_falls c op among listed_op =
      let w : IsOfClient decl (records_of h) c =
      its_client fits decl script h open_inputs accepted sound run kept c among in
      let m : Moment fits decl script accepted sound h w.actor c =
      its_moment fits decl script h open_inputs accepted sound run kept c among in
      let r : IsRecording decl m.before w.actor c =
      now_recording fits decl script accepted sound h kept w.actor c w.client m in (
        r.t,
        record {
          commits = among;
          early = m.before;
          middle = [];
          open_inputs = m.open_inputs;
          run = m.run;
          actor = w.actor;
          steps = m.steps;
          after = m.after;
          stands = m.stands ∙ ap (λ (x : List Entry). x ++ (by w.actor m.steps ++ m.after)) (sym (append-nil m.before));
          writing = m.writing;
          begun = r.begun;
          its = sym r.its;
          told = subst (In op) r.ops listed_op;
        },
      )
