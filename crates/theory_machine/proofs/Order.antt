-- The ordering lemma at a shared site: of two counted grants that conflict, the Done of the earlier one's transaction
-- stands before the later one, so its line is there, or its stamp is smaller (two-phase locking; Lamport 1978).
use Rattle.std.proofs.Common.{[], ◌≡◌, ◌≢◌, ℕ, ◌<◌, ◌≤◌, Bool, true, false, IsTrue, ◌⊎◌, inl, inr, List, ◌∷◌, ◌++◌}
use Rattle.std.proofs.Common.{Some, IsSome, refl, sym, ap, ◌∙◌, subst, arith, append_assoc}
use Rattle.qc_stamp.specs.declared.stamp.Stamp.{Stamp}
use Rattle.qc_stamp.specs.declared.stamp.TxId.{TxId}
use Rattle.qc_entry.specs.declared.line.OwnLine.{OwnLine}
use Rattle.qc_entry.specs.declared.line.ReadLock.{ReadLock}
use Rattle.qc_entry.specs.declared.record.Commit.{Commit as CommitRecord}
use Rattle.qc_decl.specs.declared.declaration.Declaration.{Declaration}
use Rattle.qc_list.specs.Vocabulary.{In}
use Rattle.theory_onecopy.specs.Vocabulary.{committed_line, depends_at}
use Rattle.qc_list.proofs.Members.{In-first, In-second}
use Rattle.theory_machine.specs.Vocabulary.{Aborted, Act, Committed, CountedLaw, Deed, Granted, Grants, HasDone}
use Rattle.theory_machine.specs.Vocabulary.{HasRisingEpochs, Holds, IsOutcome, IsRun, Item, LearnsCommit, Lock, Own}
use Rattle.theory_machine.specs.Vocabulary.{Site, SparesUntilDone, StateLaws, Status, after_deed, done_records}
use Rattle.theory_machine.specs.Vocabulary.{empty_site, epoch_from, items_of, promise_of, site_after, site_from, state}
use Rattle.theory_machine.proofs.SiteOrder.{after_append, held_or_done, held_or_logged, laws_after}
use Rattle.theory_machine.proofs.Epochs.{rising-left}
use Rattle.theory_machine.proofs.SiteHolds.{held_after}
use Rattle.theory_machine.proofs.Outcomes.{committed_record}
use Rattle.theory_machine.proofs.Keeps.{laws}
use Rattle.theory_machine.proofs.Grants.{places, spares_front, between, site_laws, holds_granted, done_at, found_some}
use Rattle.theory_machine.proofs.Grants.{First, Second, Same}

-- the first Done after a fresh grant is a record
pub first_done_recorded : (g : Granted) (item : Item) (m : List Deed)
    → Holds false g.tx item (after_deed (site_after g.before) (Grants g.tx g.items g.view)) → (d : HasDone g.tx false m)
    → In (record { tx = g.tx; stamp = d.stamp }) (done_records empty_site (g.before ++ Grants g.tx g.items g.view ∷ m))
first_done_recorded g item m h d =
    let start : Site = after_deed (site_after g.before) (Grants g.tx g.items g.view) in
    let hm : Holds true g.tx item (site_from (after_deed (site_after g.before) (Grants g.tx g.items g.view)) d.before) =
    subst (λ (b : Bool). Holds b g.tx item
    (site_from (after_deed (site_after g.before) (Grants g.tx g.items g.view)) d.before)) d.prepared
    (held_after d.before false g.tx item (after_deed (site_after g.before) (Grants g.tx g.items g.view)) h
    d.spares) in
    let some : IsSome (promise_of g.tx
    (site_from (after_deed (site_after g.before) (Grants g.tx g.items g.view)) d.before).prepared) =
    found_some g.tx (site_from (after_deed (site_after g.before) (Grants g.tx g.items g.view)) d.before).prepared
    hm.phase.by hm.phase.stands hm.phase.its in
    let there : site_from empty_site (g.before ++ Grants g.tx g.items g.view ∷ d.before)
    ≡ site_from (after_deed (site_after g.before) (Grants g.tx g.items g.view)) d.before =
    after_append g.before (Grants g.tx g.items g.view ∷ d.before) empty_site in
    let r =
    done_at (g.before ++ Grants g.tx g.items g.view ∷ d.before) g.tx d.stamp d.after empty_site
    (subst (λ (x : Site). IsSome (promise_of g.tx x.prepared)) (sym there) some) in
    subst (λ (ds : List Deed). In (record { tx = g.tx; stamp = d.stamp }) (done_records empty_site ds))
    (append_assoc g.before (Grants g.tx g.items g.view ∷ d.before) (LearnsCommit g.tx d.stamp ∷ d.after)
    ∙ ap (λ (ds : List Deed). g.before ++ Grants g.tx g.items g.view ∷ ds) (sym d.split)) r

module _ (decl : Declaration) (acts : List Act) (run : IsRun decl acts) where
  l : StateLaws decl (state acts)
  l = laws decl acts run

  -- the Done of a committed transaction has its stamp
  pub stamp_of : (tx : TxId) (c : CommitRecord) → (state acts).status tx ≡ Committed c → (site : ℕ) (stamp : Stamp)
      → In (LearnsCommit tx stamp) ((state acts).deeds site) → c.stamp ≡ stamp
  stamp_of tx c e site stamp h =
      subst (λ (s : Status). IsOutcome s (Some stamp)) e (l.deeds site (LearnsCommit tx stamp) h)

  pub committed_yes : (tx : TxId) (c : CommitRecord) → (state acts).status tx ≡ Committed c → (g : Granted)
      → In g (state acts).counted → g.tx ≡ tx
      → In (record { tx = tx; site = g.site }) (state acts).votes × (g.clock < c.stamp.clock)
  committed_yes tx c e g h t = (l.record_of tx c (committed_record ((state acts).status tx) c e)).agreed g h t

  pub spared : (g : Granted) (c : CommitRecord) → In g (state acts).counted → (state acts).status g.tx ≡ Committed c
      → (k : CountedLaw ((state acts).deeds g.site) ((state acts).life g.site) ((state acts).status g.tx)
      (state acts).votes g) → SparesUntilDone g.tx false k.post
  spared g c h e k =
      (k.voted (λ d. let x : Committed c ≡ Aborted = sym e ∙ d in absurd (cc)) (committed_yes g.tx c e g h refl).0).0

  pub ended : (ds : List Deed) (tx : TxId) (d : HasDone tx false ds) → In (LearnsCommit tx d.stamp) ds
  ended ds tx d =
      subst (λ (x : List Deed). In (LearnsCommit tx d.stamp) x) (sym d.split)
      (In-second (LearnsCommit tx d.stamp) d.before (LearnsCommit tx d.stamp ∷ d.after) (inl refl))

  -- v's read lock and u's own line at one site
  pub ordering : (gv gu : Granted) (lock : ReadLock) (own : OwnLine) (cv cu : CommitRecord) → In gv (state acts).counted
      → In gu (state acts).counted → gv.site ≡ gu.site → gv.epoch ≡ gu.epoch → gu.tx ≢ gv.tx
      → (state acts).status gv.tx ≡ Committed cv → (state acts).status gu.tx ≡ Committed cu → In (Lock lock) gv.items
      → In (Own own) gu.items
      → lock.object ≡ own.object → IsTrue (depends_at decl own.object lock.inv own.event)
      → (In (committed_line cu.stamp gu.tx own) (site_after gv.before).volatile × (cu.stamp.clock < cv.stamp.clock))
      ⊎ (cv.stamp.clock < cu.stamp.clock)
  ordering gv gu lock own cv cu hv hu site epochs ne sv su locks owns on dep =
      elim (places gv.before gu.before (Grants gv.tx gv.items gv.view) (Grants gu.tx gu.items gu.view) kv.post ku.post
      (sym kv.split ∙ ap (λ (s : ℕ). (state acts).deeds s) site ∙ ku.split)) [
        | First m b s ↦ v_first m b s
        | Second m b s ↦ u_first m b s
        | Same x ↦ absurd (same x)
      ]
    where
      kv : CountedLaw ((state acts).deeds gv.site) ((state acts).life gv.site) ((state acts).status gv.tx)
          (state acts).votes gv
      kv = l.counted gv hv

      ku : CountedLaw ((state acts).deeds gu.site) ((state acts).life gu.site) ((state acts).status gu.tx)
          (state acts).votes gu
      ku = l.counted gu hu

      fv : epoch_from 1 gv.before ≡ gv.epoch
      fv = (l.facts gv (l.known gv hv)).current

      fu : epoch_from 1 gu.before ≡ gu.epoch
      fu = (l.facts gu (l.known gu hu)).current

      same : Grants gv.tx gv.items gv.view ≡ Grants gu.tx gu.items gu.view → ⊥
      same x = ne (cc)

      v_first : (m : List Deed) → gu.before ≡ gv.before ++ Grants gv.tx gv.items gv.view ∷ m
          → kv.post ≡ m ++ Grants gu.tx gu.items gu.view ∷ ku.post
          → (In (committed_line cu.stamp gu.tx own) (site_after gv.before).volatile × (cu.stamp.clock < cv.stamp.clock))
          ⊎ (cv.stamp.clock < cu.stamp.clock)
      v_first m b s =
          let um : SparesUntilDone gv.tx false m =
          spares_front gv.tx m (Grants gu.tx gu.items gu.view) ku.post false
          (subst (λ (ds : List Deed). SparesUntilDone gv.tx false ds) s (spared gv cv hv sv kv)) in
          let eq : site_after gu.before
          ≡ site_from (after_deed (site_after gv.before) (Grants gv.tx gv.items gv.view)) m =
          ap (λ (ds : List Deed). site_after ds) b
          ∙ after_append gv.before (Grants gv.tx gv.items gv.view ∷ m) empty_site in
          elim (held_or_done m gv.tx (Lock lock) (after_deed (site_after gv.before) (Grants gv.tx gv.items gv.view))
          (holds_granted gv (Lock lock) kv.fresh locks) um
          (between gv.before (Grants gv.tx gv.items gv.view) m gv.epoch
          (subst (λ (ds : List Deed). HasRisingEpochs 1 ds) b
          (rising-left gu.before (Grants gu.tx gu.items gu.view ∷ ku.post) 1
          (subst (λ (ds : List Deed). HasRisingEpochs 1 ds) ku.split (l.rising gu.site)))) tt fv
          (ap (epoch_from 1) (sym b) ∙ fu ∙ sym epochs))) [
            | inl held ↦
                absurd
                ((l.facts gu (l.known gu hu)).free gv.tx (Own own) (Lock lock) owns
                (subst (λ (x : Site). In (Lock lock) (items_of gv.tx x.held)) (sym eq) held) (λ x. ne (sym x))
                (on, dep))
            | inr d ↦
                let inside : In (LearnsCommit gv.tx d.stamp) gu.before =
                subst (λ (ds : List Deed). In (LearnsCommit gv.tx d.stamp) ds) (sym b)
                (In-second (LearnsCommit gv.tx d.stamp) gv.before (Grants gv.tx gv.items gv.view ∷ m)
                (inr (ended m gv.tx d))) in
                let all : In (LearnsCommit gv.tx d.stamp) ((state acts).deeds gu.site) =
                subst (λ (ds : List Deed). In (LearnsCommit gv.tx d.stamp) ds) (sym ku.split)
                (In-first (LearnsCommit gv.tx d.stamp) gu.before (Grants gu.tx gu.items gu.view ∷ ku.post)
                inside) in
                let is : cv.stamp.clock ≡ d.stamp.clock =
                ap (λ (s : Stamp). s.clock) (stamp_of gv.tx cv sv gu.site d.stamp all) in
                let done_there : In (record { tx = gv.tx; stamp = d.stamp }) (done_records empty_site gu.before) =
                subst (λ (ds : List Deed). In (record { tx = gv.tx; stamp = d.stamp })
                (done_records empty_site ds)) (sym b)
                (first_done_recorded gv (Lock lock) m (holds_granted gv (Lock lock) kv.fresh locks) d) in
                let low : d.stamp.clock ≤ gu.clock =
                (l.facts gu (l.known gu hu)).passes_done gv.tx d.stamp done_there in
                let high : gu.clock < cu.stamp.clock = (committed_yes gu.tx cu su gu hu refl).1 in
                inr (omega arith)
          ]

      u_first : (m : List Deed) → gv.before ≡ gu.before ++ Grants gu.tx gu.items gu.view ∷ m
          → ku.post ≡ m ++ Grants gv.tx gv.items gv.view ∷ kv.post
          → (In (committed_line cu.stamp gu.tx own) (site_after gv.before).volatile × (cu.stamp.clock < cv.stamp.clock))
          ⊎ (cv.stamp.clock < cu.stamp.clock)
      u_first m b s =
          let um : SparesUntilDone gu.tx false m =
          spares_front gu.tx m (Grants gv.tx gv.items gv.view) kv.post false
          (subst (λ (ds : List Deed). SparesUntilDone gu.tx false ds) s (spared gu cu hu su ku)) in
          let eq : site_after gv.before
          ≡ site_from (after_deed (site_after gu.before) (Grants gu.tx gu.items gu.view)) m =
          ap (λ (ds : List Deed). site_after ds) b
          ∙ after_append gu.before (Grants gu.tx gu.items gu.view ∷ m) empty_site in
          let within : (d : Deed) → In d m → In d gv.before =
          λ d h. subst (λ (ds : List Deed). In d ds) (sym b)
          (In-second d gu.before (Grants gu.tx gu.items gu.view ∷ m) (inr h)) in
          let all : (d : Deed) → In d m → In d ((state acts).deeds gv.site) =
          λ d h. subst (λ (ds : List Deed). In d ds) (sym kv.split)
          (In-first d gv.before (Grants gv.tx gv.items gv.view ∷ kv.post) (within d h)) in
          elim (held_or_logged m gu.tx own (after_deed (site_after gu.before) (Grants gu.tx gu.items gu.view))
          (laws_after (Grants gu.tx gu.items gu.view ∷ []) (site_after gu.before) (site_laws gu.before))
          (holds_granted gu (Own own) ku.fresh owns) um
          (between gu.before (Grants gu.tx gu.items gu.view) m gu.epoch
          (subst (λ (ds : List Deed). HasRisingEpochs 1 ds) b
          (rising-left gv.before (Grants gv.tx gv.items gv.view ∷ kv.post) 1
          (subst (λ (ds : List Deed). HasRisingEpochs 1 ds) kv.split (l.rising gv.site)))) tt fu
          (ap (epoch_from 1) (sym b) ∙ fv ∙ epochs))) [
            | inl held ↦
                absurd ((l.facts gv (l.known gv hv)).free gu.tx (Lock lock) (Own own) locks
                (subst (λ (x : Site). In (Own own) (items_of gu.tx x.held)) (sym eq) held) ne (on, dep))
            | inr g ↦
                let f = ended m gu.tx g.first in
                let is : cu.stamp ≡ g.first.stamp =
                stamp_of gu.tx cu su gv.site g.first.stamp (all (LearnsCommit gu.tx g.first.stamp) f) in
                let done_there : In (record { tx = gu.tx; stamp = g.first.stamp }) (done_records empty_site gv.before) =
                subst (λ (ds : List Deed). In (record { tx = gu.tx; stamp = g.first.stamp })
                (done_records empty_site ds)) (sym b)
                (first_done_recorded gu (Own own) m (holds_granted gu (Own own) ku.fresh owns) g.first) in
                let low : g.first.stamp.clock ≤ gv.clock =
                (l.facts gv (l.known gv hv)).passes_done gu.tx g.first.stamp done_there in
                let high : gv.clock < cv.stamp.clock = (committed_yes gv.tx cv sv gv hv refl).1 in
                let clocks : cu.stamp.clock ≡ g.first.stamp.clock = ap (λ (s : Stamp). s.clock) is in
                inl (
                  subst (λ (c : Stamp). In (committed_line c gu.tx own) (site_after gv.before).volatile) (sym is)
                      (subst (λ (x : Site). In (committed_line g.first.stamp gu.tx own) x.volatile) (sym eq) g.line),
                  omega arith,
                )
          ]
