-- A record that was being written as its site fell, and stays: what the machine does for it as the site rises.
use Rattle.std.specs.Prelude.{MatchOption}
use Rattle.std.proofs.Common.{[], ◌≡◌, ◌<◌, ℕ, suc, arith, true, List, ◌∷◌, ◌++◌, Option, Some, refl, sym, subst}
use Rattle.qc_stamp.specs.declared.stamp.TxId.{TxId}
use Rattle.qc_list.specs.Vocabulary.{In}
use Rattle.qc_entry.specs.declared.record.Prepared.{Prepared}
use Rattle.qc_decl.specs.declared.declaration.Declaration.{Declaration}
use Rattle.qc_decl.specs.Vocabulary.{is_site}
use Rattle.qc_msg.specs.declared.record.Record.{Record}
use Rattle.qc_msg.specs.declared.record.Record.TheVariants as records
use Rattle.qc_msg.specs.Vocabulary.{start_with}
use Rattle.theory_machine.specs.Vocabulary.{Act, Close, Closes, Deed, Granted, Install, Installs, IsRun, Learn}
use Rattle.theory_machine.specs.Vocabulary.{LearnsCommit, MayPrepare, PrepareLost, Prepares, Rise, Rises, State}
use Rattle.theory_machine.specs.Vocabulary.{epoch_from, put, state}
use Rattle.theory_machine.proofs.Names.{put_here}
use Rattle.qc_recover.specs.Vocabulary.{Kept, done_stamp, keeps}
use Rattle.laws_refinement.specs.Vocabulary.{IsClosing, IsDecided, IsPendingAt, KeptMirrors, commits_in}
use Rattle.qc_entry.specs.declared.line.Line.{Line}
use Rattle.laws_refinement.proofs.BothPromises.{deed_is}
use Rattle.laws_refinement.proofs.KeptDeeds.{kept_prepares}
use Rattle.laws_refinement.proofs.KeptSteps.{kept_closes, kept_installs, kept_finishes, kept_rises}
use Rattle.laws_refinement.proofs.Machine.{put_other}
use Rattle.laws_refinement.proofs.PendingCases.{site_pends}
use Rattle.laws_refinement.proofs.PendingRecords.{SiteMid}

module _ (decl : Declaration) where
  module _ (acts : List Act) (run : IsRun decl acts)
      (placed : (g : Granted) → In g (state acts).granted → is_site decl g.site ≡ true) (a : ℕ) where
    -- one act more, a record that came to stand
    prepares_act : (k : Kept) (p : Prepared)
        → KeptMirrors decl k (state acts).status ((state acts).life a) ((state acts).deeds a)
        → IsPendingAt decl (state acts) k ((state acts).deeds a) (Some (records.Prepare p))
        → SiteMid decl (state acts) a (keeps k (records.Prepare p))
    prepares_act k p m h = record {
      acts = PrepareLost a p.tx ∷ acts;
      run = (h.asked, run);
      at = record {
        later =
            record {
              born = λ t h. h;
              epoch = λ t h. refl;
              asked = λ t h. h;
              counted = λ x h asked. h;
              granted = λ x h. h;
              votes = λ x h. h;
              verdicts = λ t h. h;
              appends = λ s h. h;
              snapshots = λ s h. h;
              decided = λ d h. h;
            };
        keeps =
            λ c. record {
              status = λ t h. refl;
              epoch = λ t h. refl;
              executed = λ t h. refl;
              chosen = λ t h. refl;
              clock = refl;
              counted = λ x its h. h;
              more = λ x h. h;
              votes = λ x h. h;
              appends = λ x h. h;
            };
        records = refl;
        placed_at = placed;
        there = λ b other. put_other (state acts).deeds a ((state acts).deeds a ++ Prepares p.tx ∷ []) b other;
        lives = λ b other. refl;
      };
      kept =
          subst (λ (ds : List Deed). KeptMirrors decl (keeps k (records.Prepare p)) (state acts).status
          ((state acts).life a) ds) (sym (put_here (state acts).deeds a ((state acts).deeds a ++ Prepares p.tx ∷ [])))
          (kept_prepares decl k (state acts).status ((state acts).life a) ((state acts).deeds a) p m h.fresh h.same
          h.whole h.lines h.ascends (λ e. subst MayPrepare e h.asked));
    }

    finishes_act : (k : Kept) (tx : TxId) (clock : ℕ)
        → KeptMirrors decl k (state acts).status ((state acts).life a) ((state acts).deeds a)
        → IsPendingAt decl (state acts) k ((state acts).deeds a) (Some (records.Done tx clock))
        → SiteMid decl (state acts) a (keeps k (records.Done tx clock))
    finishes_act k tx clock m h = record {
      acts = Learn a (record { tx = tx; stamp = Some (done_stamp tx clock) }) ∷ acts;
      run = (h.told, run);
      at = record {
        later =
            record {
              born = λ t h. h;
              epoch = λ t h. refl;
              asked = λ t h. h;
              counted = λ x h asked. h;
              granted = λ x h. h;
              votes = λ x h. h;
              verdicts = λ t h. h;
              appends = λ s h. h;
              snapshots = λ s h. h;
              decided = λ d h. h;
            };
        keeps =
            λ c. record {
              status = λ t h. refl;
              epoch = λ t h. refl;
              executed = λ t h. refl;
              chosen = λ t h. refl;
              clock = refl;
              counted = λ x its h. h;
              more = λ x h. h;
              votes = λ x h. h;
              appends = λ x h. h;
            };
        records = refl;
        placed_at = placed;
        there =
            λ b other. put_other (state acts).deeds a
            ((state acts).deeds a ++ LearnsCommit tx (done_stamp tx clock) ∷ []) b other;
        lives = λ b other. refl;
      };
      kept =
          subst (λ (ds : List Deed). KeptMirrors decl (keeps k (records.Done tx clock)) (state acts).status
          ((state acts).life a) ds)
          (sym (put_here (state acts).deeds a ((state acts).deeds a ++ LearnsCommit tx (done_stamp tx clock) ∷ [])))
          (kept_finishes decl k (state acts).status ((state acts).life a) ((state acts).deeds a) tx clock h.promise
          h.prepared m h.promised h.kept h.same);
    }

    abbrev pub rises_act : (k : Kept)
        → KeptMirrors decl k (state acts).status ((state acts).life a) ((state acts).deeds a)
        → SiteMid decl (state acts) a (keeps k records.Life)
    rises_act k m = record {
      acts = Rise a ∷ acts;
      run = (tt, run);
      at = record {
        later =
            record {
              born = λ t h. h;
              epoch = λ t h. refl;
              asked = λ t h. h;
              counted = λ x h asked. h;
              granted = λ x h. h;
              votes = λ x h. h;
              verdicts = λ t h. h;
              appends = λ s h. h;
              snapshots = λ s h. h;
              decided = λ d h. h;
            };
        keeps =
            λ c. record {
              status = λ t h. refl;
              epoch = λ t h. refl;
              executed = λ t h. refl;
              chosen = λ t h. refl;
              clock = refl;
              counted = λ x its h. h;
              more = λ x h. h;
              votes = λ x h. h;
              appends = λ x h. h;
            };
        records = refl;
        placed_at = placed;
        there = λ b other. put_other (state acts).deeds a ((state acts).deeds a ++ Rises ∷ []) b other;
        lives = λ b other. put_other (state acts).life a (suc ((state acts).life a)) b other;
      };
      kept =
          subst (λ (ds : List Deed). KeptMirrors decl (keeps k records.Life) (state acts).status
          (put (state acts).life a (suc ((state acts).life a)) a) ds)
          (sym (put_here (state acts).deeds a ((state acts).deeds a ++ Rises ∷ [])))
          (subst (λ (n : ℕ). KeptMirrors decl (keeps k records.Life) (state acts).status n
          ((state acts).deeds a ++ Rises ∷ [])) (sym (put_here (state acts).life a (suc ((state acts).life a))))
          (kept_rises decl k (state acts).status ((state acts).life a) ((state acts).deeds a) m));
    }

    closes_act : (k : Kept) (epoch : ℕ)
        → KeptMirrors decl k (state acts).status ((state acts).life a) ((state acts).deeds a)
        → IsClosing decl k.epoch (Some epoch) → SiteMid decl (state acts) a (keeps k (records.Close epoch))
    closes_act k epoch m h = record {
      acts = Close a ∷ acts;
      run = (tt, run);
      at = record {
        later =
            record {
              born = λ t h. h;
              epoch = λ t h. refl;
              asked = λ t h. h;
              counted = λ x h asked. h;
              granted = λ x h. h;
              votes = λ x h. h;
              verdicts = λ t h. h;
              appends = λ s h. h;
              snapshots = λ s h. h;
              decided = λ d h. h;
            };
        keeps =
            λ c. record {
              status = λ t h. refl;
              epoch = λ t h. refl;
              executed = λ t h. refl;
              chosen = λ t h. refl;
              clock = refl;
              counted = λ x its h. h;
              more = λ x h. h;
              votes = λ x h. h;
              appends = λ x h. h;
            };
        records = refl;
        placed_at = placed;
        there = λ b other. put_other (state acts).deeds a ((state acts).deeds a ++ Closes ∷ []) b other;
        lives = λ b other. put_other (state acts).life a (suc ((state acts).life a)) b other;
      };
      kept =
          subst (λ (ds : List Deed). KeptMirrors decl (keeps k (records.Close epoch)) (state acts).status
          (put (state acts).life a (suc ((state acts).life a)) a) ds)
          (sym (put_here (state acts).deeds a ((state acts).deeds a ++ Closes ∷ [])))
          (subst (λ (n : ℕ). KeptMirrors decl (keeps k (records.Close epoch)) (state acts).status n
          ((state acts).deeds a ++ Closes ∷ [])) (sym (put_here (state acts).life a (suc ((state acts).life a))))
          (kept_closes decl k (state acts).status ((state acts).life a) ((state acts).deeds a) epoch m h));
    }

    installs_act : (k : Kept) (epoch clock : ℕ) (lines : List Line)
        → KeptMirrors decl k (state acts).status ((state acts).life a) ((state acts).deeds a)
        → IsDecided decl (state acts) epoch clock lines × (k.epoch < epoch)
        → SiteMid decl (state acts) a (keeps k (records.Install (start_with epoch clock lines)))
    installs_act k epoch clock lines m h = record {
      acts = Install a h.0.decision ∷ acts;
      run = (
        (
          h.0.decided,
          (let e : epoch_from 1 ((state acts).deeds a) ≡ k.epoch = m.epoch in
              let f : h.0.decision.epoch ≡ epoch = h.0.epoch_is in let g : k.epoch < epoch = h.1 in omega arith),
        ),
        run,
      );
      at = record {
        later =
            record {
              born = λ t h. h;
              epoch = λ t h. refl;
              asked = λ t h. h;
              counted = λ x h asked. h;
              granted = λ x h. h;
              votes = λ x h. h;
              verdicts = λ t h. h;
              appends = λ s h. h;
              snapshots = λ s h. h;
              decided = λ d h. h;
            };
        keeps =
            λ c. record {
              status = λ t h. refl;
              epoch = λ t h. refl;
              executed = λ t h. refl;
              chosen = λ t h. refl;
              clock = refl;
              counted = λ x its h. h;
              more = λ x h. h;
              votes = λ x h. h;
              appends = λ x h. h;
            };
        records = refl;
        placed_at = placed;
        there =
            λ b other. put_other (state acts).deeds a
            ((state acts).deeds a ++ Installs h.0.decision.epoch h.0.decision.clock h.0.decision.log ∷ []) b other;
        lives = λ b other. refl;
      };
      kept =
          subst (λ (ds : List Deed). KeptMirrors decl (keeps k (records.Install (start_with epoch clock lines)))
          (state acts).status ((state acts).life a) ds)
          (sym (put_here (state acts).deeds a
          ((state acts).deeds a ++ Installs h.0.decision.epoch h.0.decision.clock h.0.decision.log ∷ [])))
          (subst (λ (x : Deed). KeptMirrors decl (keeps k (records.Install (start_with epoch clock lines)))
          (state acts).status ((state acts).life a) ((state acts).deeds a ++ x ∷ [])) (sym (deed_is h.0))
          (kept_installs decl k (state acts).status ((state acts).life a) ((state acts).deeds a) epoch clock lines m
          h.0.planned h.0.sorted));
    }

    -- what stands of a pending record
    pub pending_act : (k : Kept) (r : Record)
        → KeptMirrors decl k (state acts).status ((state acts).life a) ((state acts).deeds a)
        → IsPendingAt decl (state acts) k ((state acts).deeds a) (Some r) → SiteMid decl (state acts) a (keeps k r)
    pending_act k r m =
        site_pends decl (state acts) k ((state acts).deeds a)
        (λ (o : Option Record). MatchOption o (Unit {0}) (λ (x : Record). SiteMid decl (state acts) a (keeps k x))) tt
        (rises_act k m) (λ p h. prepares_act k p m h) (λ tx clock h. finishes_act k tx clock m h)
        (λ epoch h. closes_act k epoch m h) (λ start h. installs_act k start.epoch start.clock start.lines m h) (Some r)

  -- no commit record is a site's
  pub unwritten : (w : State) (k : Kept) (ds : List Deed) (o : Option Record) → IsPendingAt decl w k ds o
      → commits_in o ≡ []
  unwritten w k ds =
      site_pends decl w k ds (λ (o : Option Record). commits_in o ≡ []) refl refl (λ p h. refl) (λ tx clock h. refl)
      (λ epoch h. refl) (λ start h. refl)
