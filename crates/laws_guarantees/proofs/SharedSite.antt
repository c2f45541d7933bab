-- At one site that granted to two transactions in one epoch, each of which is safe and hasn't aborted: where one reads
-- what the other writes, the writer's Done came first, and its line was in the log, or the reader's Done did.
use Rattle.std.proofs.Common.{◌≡◌, ◌≢◌, ℕ, ◌≤◌, false, IsTrue, ◌⊎◌, inl, inr, List, [], ◌∷◌, ◌++◌, sym, ap, ◌∙◌, subst}
use Rattle.qc_stamp.specs.declared.stamp.Stamp.{Stamp}
use Rattle.qc_list.specs.Vocabulary.{In}
use Rattle.qc_list.proofs.Members.{In-first, In-second}
use Rattle.qc_entry.specs.declared.line.OwnLine.{OwnLine}
use Rattle.qc_entry.specs.declared.line.ReadLock.{ReadLock}
use Rattle.qc_decl.specs.declared.declaration.Declaration.{Declaration}
use Rattle.qc_decl.specs.Vocabulary.{IsAccepted}
use Rattle.theory_onecopy.specs.Vocabulary.{committed_line, depends_at}
use Rattle.theory_machine.specs.Vocabulary.{Aborted, Act, CountedLaw, Deed, Granted, Grants, HasRisingEpochs, IsRun}
use Rattle.theory_machine.specs.Vocabulary.{LearnsCommit, Lock, Own, Site, SparesUntilDone, StateLaws, after_deed}
use Rattle.theory_machine.specs.Vocabulary.{done_records, empty_site, epoch_from, items_of, site_after, site_from}
use Rattle.theory_machine.specs.Vocabulary.{state}
use Rattle.theory_machine.proofs.Epochs.{rising-left}
use Rattle.theory_machine.proofs.Keeps.{laws}
use Rattle.theory_machine.proofs.Grants.{between, holds_granted, site_laws, spares_front}
use Rattle.theory_machine.proofs.Order.{ended, first_done_recorded}
use Rattle.theory_machine.proofs.SiteOrder.{after_append, held_or_done, held_or_logged, laws_after}
use Rattle.laws_guarantees.proofs.Settled.{IsSafe, spares}

-- two places in one list
data Places (a b : List Deed) (x y : Deed) (p q : List Deed) : Type 0 where
  First : (m : List Deed) → b ≡ a ++ x ∷ m → p ≡ m ++ y ∷ q → Places a b x y p q
  Second : (m : List Deed) → a ≡ b ++ y ∷ m → q ≡ m ++ x ∷ p → Places a b x y p q
  Same : x ≡ y → Places a b x y p q

places : (a b : List Deed) (x y : Deed) (p q : List Deed) → a ++ x ∷ p ≡ b ++ y ∷ q → Places a b x y p q
places [] [] x y p q e = Same (cc)
places [] (c ∷ cs) x y p q e = First cs (let h : x ≡ c = cc in ap (λ (z : Deed). z ∷ cs) (sym h)) (cc)
places (c ∷ cs) [] x y p q e = Second cs (let h : c ≡ y = cc in ap (λ (z : Deed). z ∷ cs) h) (cc)
places (c ∷ cs) (d ∷ ds) x y p q e =
    let h : c ≡ d = cc in
    elim (places cs ds x y p q (cc)) [
      | First m b s ↦ First m (ap (λ (l : List Deed). d ∷ l) b ∙ ap (λ (z : Deed). z ∷ cs ++ x ∷ m) (sym h)) s
      | Second m b s ↦ Second m (ap (λ (l : List Deed). c ∷ l) b ∙ ap (λ (z : Deed). z ∷ ds ++ y ∷ m) h) s
      | Same s ↦ Same s
    ]

module _ (decl : Declaration) (accepted : IsAccepted decl) (acts : List Act) (run : IsRun decl acts) where
  wl : StateLaws decl (state acts)
  wl = laws decl acts run

  -- at one site: the writer's Done came first, and its line was in the log, or the reader's did
  pub record HasLine (gv gu : Granted) (own : OwnLine) : Type 0 where
    pub stamp : Stamp
    pub learned : In (LearnsCommit gu.tx stamp) ((state acts).deeds gv.site)
    pub line : In (committed_line stamp gu.tx own) (site_after gv.before).volatile
    pub low : stamp.clock ≤ gv.clock

  pub record HasEnded (gv gu : Granted) : Type 0 where
    pub stamp : Stamp
    pub learned : In (LearnsCommit gv.tx stamp) ((state acts).deeds gu.site)
    pub low : stamp.clock ≤ gu.clock

  pub site_order : (gv gu : Granted) (lock : ReadLock) (own : OwnLine) → In gv (state acts).counted
      → In gu (state acts).counted → gv.site ≡ gu.site → gv.epoch ≡ gu.epoch → gu.tx ≢ gv.tx
      → (state acts).status gv.tx ≢ Aborted → (state acts).status gu.tx ≢ Aborted → IsSafe acts gv.tx
      → IsSafe acts gu.tx → In (Lock lock) gv.items → In (Own own) gu.items
      → lock.object ≡ own.object → IsTrue (depends_at decl own.object lock.inv own.event)
      → HasLine gv gu own ⊎ HasEnded gv gu
  site_order gv gu lock own hv hu site epochs ne av au sv su locks owns on dep =
      elim (places gv.before gu.before (Grants gv.tx gv.items gv.view) (Grants gu.tx gu.items gu.view) kv.post ku.post
      (sym kv.split ∙ ap (λ (s : ℕ). (state acts).deeds s) site ∙ ku.split)) [
        | First m b s ↦ v_first m b s
        | Second m b s ↦ u_first m b s
        | Same x ↦ absurd (same x)
      ]
    where
      kv : CountedLaw ((state acts).deeds gv.site) ((state acts).life gv.site) ((state acts).status gv.tx)
          (state acts).votes gv
      kv = wl.counted gv hv

      ku : CountedLaw ((state acts).deeds gu.site) ((state acts).life gu.site) ((state acts).status gu.tx)
          (state acts).votes gu
      ku = wl.counted gu hu

      fv : epoch_from 1 gv.before ≡ gv.epoch
      fv = (wl.facts gv (wl.known gv hv)).current

      fu : epoch_from 1 gu.before ≡ gu.epoch
      fu = (wl.facts gu (wl.known gu hu)).current

      same : Grants gv.tx gv.items gv.view ≡ Grants gu.tx gu.items gu.view → ⊥
      same x = ne (cc)

      v_first : (m : List Deed) → gu.before ≡ gv.before ++ Grants gv.tx gv.items gv.view ∷ m
          → kv.post ≡ m ++ Grants gu.tx gu.items gu.view ∷ ku.post → HasLine gv gu own ⊎ HasEnded gv gu
      v_first m b s =
          let um : SparesUntilDone gv.tx false m =
          spares_front gv.tx m (Grants gu.tx gu.items gu.view) ku.post false
          (subst (λ (ds : List Deed). SparesUntilDone gv.tx false ds) s
          (spares decl accepted acts run gv hv av sv kv)) in
          let eq : site_after gu.before ≡ site_from
          (after_deed (site_after gv.before) (Grants gv.tx gv.items gv.view)) m =
          ap (λ (ds : List Deed). site_after ds) b
          ∙ after_append gv.before (Grants gv.tx gv.items gv.view ∷ m) empty_site in
          elim (held_or_done m gv.tx (Lock lock) (after_deed (site_after gv.before) (Grants gv.tx gv.items gv.view))
          (holds_granted gv (Lock lock) kv.fresh locks) um
          (between gv.before (Grants gv.tx gv.items gv.view) m gv.epoch
          (subst (λ (ds : List Deed). HasRisingEpochs 1 ds) b
          (rising-left gu.before (Grants gu.tx gu.items gu.view ∷ ku.post) 1
          (subst (λ (ds : List Deed). HasRisingEpochs 1 ds) ku.split (wl.rising gu.site)))) tt fv
          (ap (epoch_from 1) (sym b) ∙ fu ∙ sym epochs))) [
            | inl held ↦ absurd ((wl.facts gu (wl.known gu hu)).free gv.tx (Own own) (Lock lock) owns
                (subst (λ (x : Site). In (Lock lock) (items_of gv.tx x.held)) (sym eq) held) (λ x. ne (sym x))
                (on, dep))
            | inr d ↦
                let inside : In (LearnsCommit gv.tx d.stamp) gu.before =
                subst (λ (ds : List Deed). In (LearnsCommit gv.tx d.stamp) ds) (sym b)
                (In-second (LearnsCommit gv.tx d.stamp) gv.before (Grants gv.tx gv.items gv.view ∷ m)
                (inr (ended decl acts run m gv.tx d))) in
                let all : In (LearnsCommit gv.tx d.stamp) ((state acts).deeds gu.site) =
                subst (λ (ds : List Deed). In (LearnsCommit gv.tx d.stamp) ds) (sym ku.split)
                (In-first (LearnsCommit gv.tx d.stamp) gu.before (Grants gu.tx gu.items gu.view ∷ ku.post) inside)
                in
                let done_there : In (record { tx = gv.tx; stamp = d.stamp }) (done_records empty_site gu.before) =
                subst (λ (ds : List Deed). In (record { tx = gv.tx; stamp = d.stamp }) (done_records empty_site ds))
                (sym b) (first_done_recorded gv (Lock lock) m (holds_granted gv (Lock lock) kv.fresh locks) d) in
                inr (record {
                  stamp = d.stamp;
                  learned = all;
                  low = (wl.facts gu (wl.known gu hu)).passes_done gv.tx d.stamp done_there;
                })
          ]

      u_first : (m : List Deed) → gv.before ≡ gu.before ++ Grants gu.tx gu.items gu.view ∷ m
          → ku.post ≡ m ++ Grants gv.tx gv.items gv.view ∷ kv.post → HasLine gv gu own ⊎ HasEnded gv gu
      u_first m b s =
          let um : SparesUntilDone gu.tx false m =
          spares_front gu.tx m (Grants gv.tx gv.items gv.view) kv.post false
          (subst (λ (ds : List Deed). SparesUntilDone gu.tx false ds) s
          (spares decl accepted acts run gu hu au su ku)) in
          let eq : site_after gv.before ≡ site_from
          (after_deed (site_after gu.before) (Grants gu.tx gu.items gu.view)) m =
          ap (λ (ds : List Deed). site_after ds) b
          ∙ after_append gu.before (Grants gu.tx gu.items gu.view ∷ m) empty_site in
          elim (held_or_logged m gu.tx own (after_deed (site_after gu.before) (Grants gu.tx gu.items gu.view))
          (laws_after (Grants gu.tx gu.items gu.view ∷ []) (site_after gu.before) (site_laws gu.before))
          (holds_granted gu (Own own) ku.fresh owns) um
          (between gu.before (Grants gu.tx gu.items gu.view) m gu.epoch
          (subst (λ (ds : List Deed). HasRisingEpochs 1 ds) b
          (rising-left gv.before (Grants gv.tx gv.items gv.view ∷ kv.post) 1
          (subst (λ (ds : List Deed). HasRisingEpochs 1 ds) kv.split (wl.rising gv.site)))) tt fu
          (ap (epoch_from 1) (sym b) ∙ fv ∙ epochs))) [
            | inl held ↦ absurd ((wl.facts gv (wl.known gv hv)).free gu.tx (Lock lock) (Own own) locks
                (subst (λ (x : Site). In (Own own) (items_of gu.tx x.held)) (sym eq) held) ne (on, dep))
            | inr g ↦
                let inside : In (LearnsCommit gu.tx g.first.stamp) gv.before =
                subst (λ (ds : List Deed). In (LearnsCommit gu.tx g.first.stamp) ds) (sym b)
                (In-second (LearnsCommit gu.tx g.first.stamp) gu.before (Grants gu.tx gu.items gu.view ∷ m)
                (inr (ended decl acts run m gu.tx g.first))) in
                let all : In (LearnsCommit gu.tx g.first.stamp) ((state acts).deeds gv.site) =
                subst (λ (ds : List Deed). In (LearnsCommit gu.tx g.first.stamp) ds) (sym kv.split)
                (In-first (LearnsCommit gu.tx g.first.stamp) gv.before
                (Grants gv.tx gv.items gv.view ∷ kv.post) inside) in
                let done_there : In (record { tx = gu.tx; stamp = g.first.stamp }) (done_records empty_site gv.before) =
                subst (λ (ds : List Deed). In (record { tx = gu.tx; stamp = g.first.stamp })
                (done_records empty_site ds)) (sym b) (first_done_recorded gu (Own own) m
                (holds_granted gu (Own own) ku.fresh owns) g.first) in
                inl (record {
                  stamp = g.first.stamp;
                  learned = all;
                  line = subst (λ (x : Site). In (committed_line g.first.stamp gu.tx own) x.volatile) (sym eq) g.line;
                  low = (wl.facts gv (wl.known gv hv)).passes_done gu.tx g.first.stamp done_there;
                })
          ]
