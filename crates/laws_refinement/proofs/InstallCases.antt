-- A site takes an Install: it begins the epoch with the log of the decision, holds nothing and has promised nothing.
use Rattle.std.proofs.Common.{◌≡◌, ◌≤◌, ◌<◌, ℕ, max, nat_le, Bool, true, false, cond, ◌⊎◌, inl, inr, List, [], ◌∷◌}
use Rattle.std.proofs.Common.{◌++◌, None, refl, sym, ◌∙◌, subst, leb-false, arith}
use Rattle.qc_list.specs.Vocabulary.{In}
use Rattle.qc_entry.specs.declared.line.Line.{Line}
use Rattle.qc_decl.specs.declared.declaration.Declaration.{Declaration}
use Rattle.qc_decl.specs.Vocabulary.{is_site, most_record_bytes}
use Rattle.qc_msg.specs.declared.message.Answer.TheVariants as answers
use Rattle.qc_msg.specs.declared.record.Record.TheVariants as records
use Rattle.theory_machine.specs.Vocabulary.{Act, Deed, Install, Installs, IsRun, Site, State, after_act, empty_site}
use Rattle.theory_machine.specs.Vocabulary.{epoch_from, items_of, promise_of, state}
use Rattle.theory_machine.proofs.Names.{put_here}
use Rattle.qc_site.specs.Vocabulary.{SiteState, answers as answers_with, installed, installs, latest, moved, recording}
use Rattle.qc_msg.specs.Vocabulary.{epoch_length, start_with}
use Rattle.laws_refinement.specs.Vocabulary.{Continues, IsDecided, IsKeptBy, IsPromiseOf, KeptMirrors, Mirrors, Net}
use Rattle.laws_refinement.specs.Vocabulary.{SiteMirrors, after_site}
use Rattle.qc_recover.specs.Vocabulary.{Kept, keeps, kept_by}
use Rattle.laws_refinement.proofs.KeptLists.{kept_more}
use Rattle.laws_refinement.proofs.KeptSteps.{kept_installs}
use Rattle.laws_refinement.proofs.Machine.{done_last, put_other, single_more, site_more}
use Rattle.laws_refinement.proofs.Nets.{site_goes}
use Rattle.laws_refinement.proofs.SiteGrants.{says}
use Rattle.laws_refinement.proofs.SiteSteps.{latest_passes, one_answer}
use Rattle.laws_refinement.proofs.BothPromises.{deed_is}
use Rattle.qc_site.proofs.Clocks.{latest_later}
use Rattle.qc_entry.proofs.Members.{in_union}
use Rattle.qc_entry.proofs.Union.{in_either}
use Rattle.theory_machine.proofs.Epochs.{epoch-append, shut-append}
use Rattle.qc_list.proofs.Members.{In-either}

module _ (decl : Declaration) (acts : List Act) (net : Net) (a : ℕ) (run : IsRun decl acts)
    (m : Mirrors decl (state acts) net) (site : is_site decl a ≡ true) (up : net.up a ≡ true) where
  -- an Install that begins an epoch
  begins : (from number k clock : ℕ) (log : List Line) → IsDecided decl (state acts) k clock log
      → (net.sites a).epoch < k
      → Continues decl acts (after_site net a (moved
      (installed (record (net.sites a) { clock = latest (net.sites a).clock log }) k clock log)
      (recording from number (records.Install (start_with k clock log)) answers.Installed)))
  begins from number k clock log d greater = record {
    more = Install a d.decision ∷ [];
    refines = record {
      run = (
        (
          d.decided,
          (let e : epoch_from 1 ((state acts).deeds a) ≡ (net.sites a).epoch =
              (m.sites a site up).epoch in let f : d.decision.epoch ≡ k = d.epoch_is in omega arith),
        ),
        run,
      );
      agrees = site_goes decl (state acts) v net a
          (moved s (recording from number (records.Install (start_with k clock log)) answers.Installed)) m site up
          (record {
            later = record {
              born = λ t h. h;
              epoch = λ t h. refl;
              asked = λ t h. h;
              counted = λ x h asked. h;
              granted = λ x h. h;
              votes = λ x h. h;
              verdicts = λ t h. h;
              appends = λ s h. h;
              snapshots = λ s h. h;
              decided = λ d h. h;
            };
            keeps = λ c. record {
              status = λ t h. refl;
              epoch = λ t h. refl;
              executed = λ t h. refl;
              chosen = λ t h. refl;
              clock = refl;
              counted = λ x its h. h;
              more = λ x h. h;
              votes = λ x h. h;
              appends = λ x h. h;
            };
            records = refl;
            placed_at = m.placed;
            kept = subst (λ (ds : List Deed). KeptMirrors decl
                (kept_by (net.records a ++ records.Install (start_with k clock log) ∷ []))
                (state acts).status ((state acts).life a) ds)
                (sym (put_here (state acts).deeds a ((state acts).deeds a ++ deed ∷ [])))
                (subst (λ (x : Kept). KeptMirrors decl x (state acts).status ((state acts).life a)
                ((state acts).deeds a ++ deed ∷ []))
                (sym (kept_more (net.records a) (records.Install (start_with k clock log))))
                (subst (λ (x : Deed). KeptMirrors decl
                (keeps (kept_by (net.records a)) (records.Install (start_with k clock log)))
                (state acts).status ((state acts).life a) ((state acts).deeds a ++ x ∷ [])) (sym (deed_is d))
                (kept_installs decl (kept_by (net.records a)) (state acts).status ((state acts).life a)
                ((state acts).deeds a) k clock log (m.kept a site) d.planned d.sorted)));
            alike = subst (λ (x : Kept). IsKeptBy (installed
                (record (net.sites a) { clock = latest (net.sites a).clock log }) k clock log) x)
                (sym (kept_more (net.records a) (records.Install (start_with k clock log))))
                (record { began = refl; recorded = refl; promises = λ t p never. absurd (let none : ⊥ = cc in none) });
            here = subst (λ (ds : List Deed). SiteMirrors decl s ds ((state acts).life a))
                (sym (put_here (state acts).deeds a ((state acts).deeds a ++ deed ∷ []))) here;
            there = λ b other. put_other (state acts).deeds a ((state acts).deeds a ++ deed ∷ []) b other;
            alive = λ b other. refl;
            holders = λ t is. absurd (let never : ⊥ = cc in never);
            turn = one_answer decl v net.mail a from number answers.Installed tt;
          });
    };
  }
    where
      s : SiteState
      s = installed (record (net.sites a) { clock = latest (net.sites a).clock log }) k clock log

      deed : Deed
      deed = Installs d.decision.epoch d.decision.clock d.decision.log

      v : State
      v = after_act (state acts) (Install a d.decision)

      lines : (l : Line) → In l d.decision.log → In l log
      lines l among = subst (λ (ls : List Line). In l ls) d.log_is among

      here : SiteMirrors decl (installed (record (net.sites a) { clock = latest (net.sites a).clock log }) k clock log)
          ((state acts).deeds a ++ Installs d.decision.epoch d.decision.clock d.decision.log ∷ []) ((state acts).life a)
      here = record {
        life = (m.sites a site up).life;
        some = (m.sites a site up).some;
        epoch = epoch-append ((state acts).deeds a) (Installs d.decision.epoch d.decision.clock d.decision.log ∷ []) 1
            ∙ d.epoch_is;
        planned = d.planned;
        shut =
            shut-append ((state acts).deeds a) (Installs d.decision.epoch d.decision.clock d.decision.log ∷ []) false;
        closing = tt;
        held = λ t x among. absurd (subst (λ (q : Site). In x (items_of t q.held))
            (site_more ((state acts).deeds a) deed) among);
        owned = λ t o among. absurd among;
        installs = λ n c ls among. by n c ls (In-either (Installs n c ls) ((state acts).deeds a) (deed ∷ []) among);
        done = λ x among. elim (done_last ((state acts).deeds a) deed empty_site x among) [
          | inl old ↦ (let c : x.stamp.clock ≤ (net.sites a).clock = (m.sites a site up).done x old in
              let g : (net.sites a).clock ≤ latest (net.sites a).clock log = latest_later (net.sites a).clock log in
              omega arith)
          | inr never ↦ absurd never
        ];
        passed = λ l among. (let c : l.stamp.clock ≤ latest (net.sites a).clock log =
            latest_passes (net.sites a).clock log l (lines l
            (subst (λ (q : Site). In l q.volatile) (site_more ((state acts).deeds a) deed) among)) in omega arith);
        log = λ l among. in_union l log [] (inl (lines l
            (subst (λ (q : Site). In l q.volatile) (site_more ((state acts).deeds a) deed) among)));
        logged = λ l among. subst (λ (q : Site). In l q.volatile) (sym (site_more ((state acts).deeds a) deed))
            (subst (λ (ls : List Line). In l ls) (sym d.log_is)
            (elim (in_either l log [] among) [ inl first ↦ first | inr never ↦ absurd never ]));
        sorted = (d.sorted, tt);
        promised = λ t. subst (λ (q : Site). IsPromiseOf (promise_of t q.prepared) None)
            (sym (site_more ((state acts).deeds a) deed)) tt;
        apart = tt;
        lined = λ p never. absurd never;
        single = single_more ((state acts).deeds a) deed (λ is. (let never : ⊥ = cc in never))
            (m.sites a site up).single;
      }
        where
          by : (n c : ℕ) (ls : List Line) → In (Installs n c ls) ((state acts).deeds a)
              ⊎ In (Installs n c ls) (deed ∷ []) → c ≤ max (latest (net.sites a).clock log) clock
          by n c ls (inl old) = let e : c ≤ (net.sites a).clock = (m.sites a site up).installs n c ls old in
              let g : (net.sites a).clock ≤ latest (net.sites a).clock log = latest_later (net.sites a).clock log in
              omega arith
          by n c ls (inr (inl same)) = let e : c ≡ d.decision.clock = cc in
              let f : d.decision.clock ≡ clock = d.clock_is in omega arith
          by n c ls (inr (inr never)) = absurd never

  pub install_case : (from number k clock : ℕ) (log : List Line) → IsDecided decl (state acts) k clock log
      → Continues decl acts (after_site net a (installs
      (record (net.sites a) { clock = latest (net.sites a).clock log }) from number k clock log))
  install_case from number k clock log d =
      by (nat_le k (net.sites a).epoch) (nat_le (epoch_length log) most_record_bytes) refl
    where
      t : SiteState
      t = record (net.sites a) { clock = latest (net.sites a).clock log }

      by : (b c : Bool) → nat_le k (net.sites a).epoch ≡ b
          → Continues decl acts (after_site net a (cond b
          (moved (record (net.sites a) { clock = latest (net.sites a).clock log })
          (answers_with from number answers.Installed))
          (cond c (moved (installed (record (net.sites a) { clock = latest (net.sites a).clock log }) k clock log)
          (recording from number (records.Install (start_with k clock log)) answers.Installed))
          (moved (record (net.sites a) { clock = latest (net.sites a).clock log })
          (answers_with from number (answers.Behind (net.sites a).epoch))))))
      by true c p = says decl acts net a run m site up (latest (net.sites a).clock log) from number answers.Installed
          (latest_later (net.sites a).clock log) tt
      by false true p = begins from number k clock log d (leb-false k (net.sites a).epoch p)
      by false false p = says decl acts net a run m site up (latest (net.sites a).clock log) from number
          (answers.Behind (net.sites a).epoch) (latest_later (net.sites a).clock log) tt
