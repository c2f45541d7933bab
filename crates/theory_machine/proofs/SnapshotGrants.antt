-- What a snapshot has of a grant of the epoch that its site closed: the grant's items are prepared in it, or the Done
-- of the grant's transaction stands in its past, with the record's stamp.
use Rattle.std.proofs.Common.{◌≡◌, ◌≤◌, Bool, true, false, ◌⊎◌, inl, inr, List, [], ◌∷◌, ◌++◌, Some, None, refl, sym}
use Rattle.std.proofs.Common.{ap, ◌∙◌, subst, append-nil}
use Rattle.qc_stamp.specs.declared.stamp.Stamp.{Stamp}
use Rattle.qc_stamp.specs.declared.stamp.TxId.{TxId}
use Rattle.qc_entry.specs.declared.line.OwnLine.{OwnLine}
use Rattle.qc_entry.specs.declared.record.Commit.{Commit as CommitRecord}
use Rattle.qc_decl.specs.declared.declaration.Declaration.{Declaration}
use Rattle.qc_decl.specs.Vocabulary.{IsAccepted}
use Rattle.qc_list.specs.Vocabulary.{In}
use Rattle.theory_onecopy.specs.Vocabulary.{committed_line}
use Rattle.qc_list.proofs.Members.{In-first, In-second}
use Rattle.theory_machine.specs.Vocabulary.{Act, Committed, CountedLaw, Decision, Deed, Granted, Grants, HasDone}
use Rattle.theory_machine.specs.Vocabulary.{HasRisingEpochs, HaveNoInstall, IsOutcome, IsPreparedWith, IsResolved}
use Rattle.theory_machine.specs.Vocabulary.{IsRun, Item, LearnsCommit, Own, Promise, Site, Snapshot, SparesUntilDone}
use Rattle.theory_machine.specs.Vocabulary.{StateLaws, Status, after_deed, empty_site, epoch_from, shut_from}
use Rattle.theory_machine.specs.Vocabulary.{site_after, site_from, state}
use Rattle.theory_machine.proofs.SiteOrder.{after_append}
use Rattle.theory_machine.proofs.Epochs.{epoch-append, none_between, rising-left, rising-right, shut-append, still_shut}
use Rattle.theory_machine.proofs.Epochs.{prepared_or_done}
use Rattle.theory_machine.proofs.Keeps.{laws}
use Rattle.theory_machine.proofs.Grants.{between, holds_granted, spares_front}
use Rattle.theory_machine.proofs.Order.{ended, stamp_of}

-- a front and a place in one list
pub data Fronts (a b : List Deed) (x : Deed) (p q : List Deed) : Type 0 where
  Within : (m : List Deed) → b ≡ a ++ x ∷ m → p ≡ m ++ q → Fronts a b x p q
  Before : (m : List Deed) → a ≡ b ++ m → Fronts a b x p q

fronts : (a b : List Deed) (x : Deed) (p q : List Deed) → a ++ x ∷ p ≡ b ++ q → Fronts a b x p q
fronts a [] x p q e = Before a refl
fronts [] (c ∷ cs) x p q e = let h : x ≡ c = cc in Within cs (ap (λ (z : Deed). z ∷ cs) (sym h)) (cc)
fronts (c ∷ cs) (d ∷ ds) x p q e =
    let h : c ≡ d = cc in
    elim (fronts cs ds x p q (cc)) [
      | Within m b s ↦ Within m (ap (λ (l : List Deed). d ∷ l) b ∙ ap (λ (z : Deed). z ∷ cs ++ x ∷ m) (sym h)) s
      | Before m b ↦ Before m (ap (λ (l : List Deed). c ∷ l) b ∙ ap (λ (z : Deed). z ∷ ds ++ m) h)
    ]

spares_left : (tx : TxId) (m q : List Deed) → SparesUntilDone tx false (m ++ q) → SparesUntilDone tx false m
spares_left tx m [] u = subst (λ (ds : List Deed). SparesUntilDone tx false ds) (append-nil m) u
spares_left tx m (d ∷ q) u = spares_front tx m d q false u

module _ (decl : Declaration) (accepted : IsAccepted decl) (acts : List Act) (run : IsRun decl acts) where
  wl : StateLaws decl (state acts)
  wl = laws decl acts run

  -- what a snapshot has of a grant of its epoch
  pub record IsPast (g : Granted) (sn : Snapshot) : Type 0 where
    pub since : List Deed
    pub is : sn.before ≡ g.before ++ Grants g.tx g.items g.view ∷ since
    pub spared : SparesUntilDone g.tx false since
    pub none : HaveNoInstall since
    pub shut : shut_from false since ≡ true
    pub later : List Deed
    pub within : (state acts).deeds g.site ≡ sn.before ++ later

  pub past : (g : Granted) (sn : Snapshot) → In g (state acts).counted
      → ((k : CountedLaw ((state acts).deeds g.site) ((state acts).life g.site) ((state acts).status g.tx)
      (state acts).votes g) → SparesUntilDone g.tx false k.post)
      → In sn (state acts).snapshots → sn.site ≡ g.site → epoch_from 1 sn.before ≡ g.epoch → IsPast g sn
  past g sn hg spares hs site epoch =
      let k = wl.counted g hg in
      let r = wl.snapped sn hs in
      let whole : (state acts).deeds g.site ≡ sn.before ++ r.0 = ap (state acts).deeds (sym site) ∙ r.1 in
      by k r.0 whole (fronts g.before sn.before (Grants g.tx g.items g.view) k.post r.0 (sym k.split ∙ whole))
    where
      by :
          (k : CountedLaw ((state acts).deeds g.site) ((state acts).life g.site) ((state acts).status g.tx)
          (state acts).votes g) (later : List Deed) → (state acts).deeds g.site ≡ sn.before ++ later
          → Fronts g.before sn.before (Grants g.tx g.items g.view) k.post later → IsPast g sn
      by k later whole (Within m b s) = record {
        since = m;
        is = b;
        spared = spares_left g.tx m later (subst (λ (ds : List Deed). SparesUntilDone g.tx false ds) s (spares k));
        none =
            between g.before (Grants g.tx g.items g.view) m g.epoch
            (subst (λ (ds : List Deed). HasRisingEpochs 1 ds) b
            (rising-left sn.before later 1
            (subst (λ (ds : List Deed). HasRisingEpochs 1 ds) whole (wl.rising g.site)))) tt
            (wl.facts g (wl.known g hg)).current (ap (epoch_from 1) (sym b) ∙ epoch);
        shut =
            sym (ap (λ (t : Bool). shut_from t m) (wl.facts g (wl.known g hg)).unshut)
            ∙ sym (shut-append g.before (Grants g.tx g.items g.view ∷ m) false) ∙ ap (shut_from false) (sym b)
            ∙ (wl.answers sn hs).shut;
        later = later;
        within = whole;
      }
      by k later whole (Before m b) =
          let r1 : HasRisingEpochs 1 (sn.before ++ m) =
          subst (λ (ds : List Deed). HasRisingEpochs 1 ds) b
          (rising-left g.before (Grants g.tx g.items g.view ∷ k.post) 1
          (subst (λ (ds : List Deed). HasRisingEpochs 1 ds) k.split (wl.rising g.site))) in
          let same : epoch_from (epoch_from 1 sn.before) m ≡ epoch_from 1 sn.before =
          sym (epoch-append sn.before m 1) ∙ ap (epoch_from 1) (sym b) ∙ (wl.facts g (wl.known g hg)).current
          ∙ sym epoch in
          let none : HaveNoInstall m = none_between m (epoch_from 1 sn.before) (rising-right sn.before m 1 r1) same in
          let shut : shut_from false g.before ≡ true =
          ap (shut_from false) b ∙ shut-append sn.before m false
          ∙ ap (λ (t : Bool). shut_from t m) (wl.answers sn hs).shut ∙ still_shut m none in
          let open_ : shut_from false g.before ≡ false = (wl.facts g (wl.known g hg)).unshut in
          absurd (let never : ⊥ = cc in never)

  -- it has it prepared, or its Done
  pub tells : (g : Granted) (sn : Snapshot) (item : Item) → In g (state acts).counted → In item g.items
      → (p : IsPast g sn) → IsPreparedWith g.tx item (site_after sn.before) ⊎ HasDone g.tx false p.since
  tells g sn item hg hi p =
      let eq : site_after sn.before
      ≡ site_from (after_deed (site_after g.before) (Grants g.tx g.items g.view)) p.since =
      ap site_after p.is ∙ after_append g.before (Grants g.tx g.items g.view ∷ p.since) empty_site in
      elim (prepared_or_done p.since g.tx item (after_deed (site_after g.before) (Grants g.tx g.items g.view))
      (holds_granted g item (wl.counted g hg).fresh hi) p.spared p.none p.shut) [
        | inl t ↦ inl (subst (λ (x : Site). IsPreparedWith g.tx item x) (sym eq) t)
        | inr d ↦ inr d
      ]

  -- the Done in the snapshot's past has the record's stamp
  pub done_stamp : (g : Granted) (c : CommitRecord) (sn : Snapshot) → (state acts).status g.tx ≡ Committed c
      → (p : IsPast g sn) → (d : HasDone g.tx false p.since) → c.stamp ≡ d.stamp
  done_stamp g c sn sg p d =
      stamp_of decl acts run g.tx c sg g.site d.stamp
      (subst (λ (ds : List Deed). In (LearnsCommit g.tx d.stamp) ds)
      (sym (p.within ∙ ap (λ (ds : List Deed). ds ++ p.later) p.is))
      (In-first (LearnsCommit g.tx d.stamp) (g.before ++ Grants g.tx g.items g.view ∷ p.since) p.later
      (In-second (LearnsCommit g.tx d.stamp) g.before (Grants g.tx g.items g.view ∷ p.since)
      (inr (ended decl acts run p.since g.tx d)))))

  -- the verdict on a committed transaction that a snapshot had prepared
  pub verdict : (tx : TxId) (c : CommitRecord) (d : Decision) (p : Promise) → (state acts).status tx ≡ Committed c
      → p.tx ≡ tx → IsResolved (state acts).verdicts d p
      → ((o : OwnLine) → In (Own o) p.items → In (committed_line c.stamp tx o) d.log) × (c.stamp.clock ≤ d.clock)
  verdict tx c d p is its (inl r) =
      let k : IsOutcome ((state acts).status tx) (Some r.0) =
      subst (λ (t : TxId). IsOutcome ((state acts).status t) (Some r.0)) its
      (wl.verdicts (record { tx = p.tx; stamp = Some r.0 }) r.1) in
      let s : c.stamp ≡ r.0 = subst (λ (x : Status). IsOutcome x (Some r.0)) is k in (
        λ o h. subst (λ (t : TxId). In (committed_line c.stamp t o) d.log) its
            (subst (λ (x : Stamp). In (committed_line x p.tx o) d.log) (sym s) (r.2 o h)),
        subst (λ (x : Stamp). x.clock ≤ d.clock) (sym s) r.3,
      )
  verdict tx c d p is its (inr r) =
      absurd (subst (λ (x : Status). IsOutcome x None) is
      (subst (λ (t : TxId). IsOutcome ((state acts).status t) None) its
      (wl.verdicts (record { tx = p.tx; stamp = None }) r)))
