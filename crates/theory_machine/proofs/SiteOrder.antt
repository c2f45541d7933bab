-- The ordering lemma at one site: what was granted is held still, or a Done of its transaction stands between, and then
-- its line is in the log.
use Rattle.std.proofs.Common.{◌≡◌, Bool, true, false, ◌||◌, ◌⊎◌, inl, inr, List, [], ◌∷◌, ◌++◌, Option, Some, None}
use Rattle.std.proofs.Common.{refl, sym, ap, ◌∙◌, subst, true≢false}
use Rattle.qc_list.specs.Vocabulary.{In}
use Rattle.qc_stamp.specs.declared.stamp.Stamp.{Stamp}
use Rattle.qc_stamp.specs.declared.stamp.TxId.{TxId}
use Rattle.qc_entry.specs.declared.line.Line.{Line}
use Rattle.qc_entry.specs.declared.line.OwnLine.{OwnLine}
use Rattle.theory_onecopy.specs.Vocabulary.{committed_line}
use Rattle.qc_list.proofs.Members.{In-first, In-second, In-either}
use Rattle.qc_stamp.specs.Vocabulary.{same_tx}
use Rattle.theory_machine.proofs.Names.{tx_cases}
use Rattle.theory_machine.specs.Vocabulary.{Closes, Deed, Grants, HasDone, HaveNoInstall, Holds, Installs}
use Rattle.theory_machine.specs.Vocabulary.{IsLoggedAtDone, Item, LearnsAbort, LearnsCommit, Lock, Own, Prepares}
use Rattle.theory_machine.specs.Vocabulary.{Promise, Rises, Site, SiteLaws, Spares, SparesUntilDone, after_commit}
use Rattle.theory_machine.specs.Vocabulary.{after_deed, after_prepare, is_prepared_after, items_of, promise_of}
use Rattle.theory_machine.specs.Vocabulary.{site_from, stamped_lines, without_promise}
use Rattle.theory_machine.proofs.SiteLists.{dropped_in, in_dropped, found, not_found}
use Rattle.theory_machine.proofs.SiteHolds.{held_law, held_after}
use Rattle.qc_stamp.proofs.Orders.{same_tx_test}

later : (tx : TxId) (is now : Bool) (d : Deed) (ds : List Deed) → (h : HasDone tx now ds) → Spares tx is (d ∷ h.before)
    → is_prepared_after tx is (d ∷ h.before) ≡ true → HasDone tx is (d ∷ ds)
later tx is now d ds h sp pr = record {
  before = d ∷ h.before;
  stamp = h.stamp;
  after = h.after;
  split = ap (λ (l : List Deed). d ∷ l) h.split;
  spares = sp;
  prepared = pr;
}

pub first_done : (tx : TxId) (ds : List Deed) (is : Bool) → HaveNoInstall ds → SparesUntilDone tx is ds
    → Spares tx is ds ⊎ HasDone tx is ds
first_done tx [] is no_install u = inl tt
first_done tx (Grants t items view ∷ ds) is n u =
    elim (first_done tx ds is n u) [
      | inl a ↦ inl a
      | inr b ↦ inr
          (later tx is is (Grants t items view) ds b b.spares b.prepared)
    ]
first_done tx (Prepares t ∷ ds) is n u =
    elim (first_done tx ds (is || same_tx tx t) n u)
    [ inl a ↦ inl a | inr b ↦ inr (later tx is (is || same_tx tx t) (Prepares t) ds b b.spares b.prepared) ]
first_done tx (LearnsCommit t stamp ∷ ds) true n u = elim (tx_cases t tx) [
  | inl same ↦ inr (record {
    before = [];
    stamp = stamp;
    after = ds;
    split = ap (λ (x : TxId). LearnsCommit x stamp ∷ ds) same;
    spares = tt;
    prepared = refl;
  })
  | inr ne ↦ elim (first_done tx ds true n (u ne))
      [ inl a ↦ inl (ne, a) | inr b ↦ inr (later tx true true (LearnsCommit t stamp) ds b (ne, b.spares) b.prepared) ]
]
first_done tx (LearnsCommit t stamp ∷ ds) false n u =
    elim (first_done tx ds false n u.1) [
      | inl a ↦ inl (u.0, a)
      | inr b ↦ inr
          (later tx false false (LearnsCommit t stamp) ds b (u.0, b.spares) b.prepared)
    ]
first_done tx (LearnsAbort t ∷ ds) is n u =
    elim (first_done tx ds is n u.1) [
      | inl a ↦ inl (u.0, a)
      | inr b ↦ inr
          (later tx is is (LearnsAbort t) ds b (u.0, b.spares) b.prepared)
    ]
first_done tx (Closes ∷ ds) true n u = elim
    (first_done tx ds true n u) [ inl a ↦ inl a | inr b ↦ inr (later tx true true Closes ds b b.spares b.prepared) ]
first_done tx (Closes ∷ ds) false n u = absurd u
first_done tx (Installs k c log ∷ ds) is n u = absurd n
first_done tx (Rises ∷ ds) true n u = elim
    (first_done tx ds true n u) [ inl a ↦ inl a | inr b ↦ inr (later tx true true Rises ds b b.spares b.prepared) ]
first_done tx (Rises ∷ ds) false n u = absurd u

pub in_stamped : (tx : TxId) (stamp : Stamp) (own : OwnLine) (items : List Item) → In (Own own) items
    → In (committed_line stamp tx own) (stamped_lines tx stamp items)
in_stamped tx stamp own [] h = absurd h
in_stamped tx stamp own (Lock i ∷ xs) (inl same) = absurd (let never : ⊥ = cc in never)
in_stamped tx stamp own (Lock i ∷ xs) (inr h) = in_stamped tx stamp own xs h
in_stamped tx stamp own (Own o ∷ xs) (inl same) = let x : own ≡ o = cc in inl (ap (committed_line stamp tx) x)
in_stamped tx stamp own (Own o ∷ xs) (inr h) = inr (in_stamped tx stamp own xs h)

pub after_append : (xs ys : List Deed) (s : Site) → site_from s (xs ++ ys) ≡ site_from (site_from s xs) ys
after_append [] ys s = refl
after_append (d ∷ ds) ys s = after_append ds ys (after_deed s d)

no_right : (xs ys : List Deed) → HaveNoInstall (xs ++ ys) → HaveNoInstall ys
no_right [] ys h = h
no_right (Grants t items view ∷ ds) ys h = no_right ds ys h
no_right (Prepares t ∷ ds) ys h = no_right ds ys h
no_right (LearnsCommit t stamp ∷ ds) ys h = no_right ds ys h
no_right (LearnsAbort t ∷ ds) ys h = no_right ds ys h
no_right (Closes ∷ ds) ys h = no_right ds ys h
no_right (Installs k c log ∷ ds) ys h = absurd h
no_right (Rises ∷ ds) ys h = no_right ds ys h

-- a site's laws
prepare_keeps_line : (s : Site) (tx : TxId) (o : Option Promise) → promise_of tx s.prepared ≡ o → SiteLaws s
    → SiteLaws (after_prepare tx o s)
prepare_keeps_line s tx (Some p) e w = w
prepare_keeps_line s tx None e w = record { less = λ l h. h; prepared = prepared }
  where
    prepared : (p : Promise) → In p ((record { tx = tx; items = items_of tx s.held }) ∷ s.prepared)
        → In p ((record { tx = tx; items = items_of tx s.held }) ∷ without_promise tx s.promises)
    prepared p (inl same) = inl same
    prepared p (inr h) = inr (dropped_in p tx s.promises (w.prepared p h) (not_found tx s.prepared e p h))

commit_keeps_line : (s : Site) (tx : TxId) (stamp : Stamp) (o : Option Promise) → SiteLaws s
    → SiteLaws (after_commit tx stamp o s)
commit_keeps_line s tx stamp None w = record { less = w.less; prepared = w.prepared }
commit_keeps_line s tx stamp (Some p) w = record {
  less = λ l h. elim (In-either l (stamped_lines tx stamp p.items) s.stable h) [
    | inl a ↦ In-first l (stamped_lines tx stamp p.items) s.volatile a
    | inr b ↦ In-second l
        (stamped_lines tx stamp p.items) s.volatile (w.less l b)
  ];
  prepared = λ q h. (let r = in_dropped q tx s.prepared h in dropped_in q tx s.promises (w.prepared q r.0) r.1);
}

pub keeps : (s : Site) (d : Deed) → SiteLaws s → SiteLaws (after_deed s d)
keeps s (Grants tx items view) w = record
    { less = λ l h. In-second l view s.volatile (w.less l h); prepared = w.prepared }
keeps s (Prepares tx) w = prepare_keeps_line s tx (promise_of tx s.prepared) refl w
keeps s (LearnsCommit tx stamp) w = commit_keeps_line s tx stamp (promise_of tx s.prepared) w
keeps s (LearnsAbort tx) w = record { less = w.less; prepared = λ p h. w.prepared p (in_dropped p tx s.prepared h).0 }
keeps s Closes w = record { less = w.less; prepared = w.prepared }
keeps s (Installs k c log) w = record { less = λ l h. h; prepared = λ p h. absurd h }
keeps s Rises w = record { less = λ l h. h; prepared = λ p h. h }

pub laws_after : (ds : List Deed) (s : Site) → SiteLaws s → SiteLaws (site_from s ds)
laws_after [] s w = w
laws_after (d ∷ ds) s w = laws_after ds (after_deed s d) (keeps s d w)

commit_keeps : (tx : TxId) (stamp : Stamp) (o : Option Promise) (s : Site) (l : Line) → In l s.stable
    → In l (after_commit tx stamp o s).stable
commit_keeps tx stamp None s l h = h
commit_keeps tx stamp (Some p) s l h = In-second l (stamped_lines tx stamp p.items) s.stable h

prepare_keeps : (tx : TxId) (o : Option Promise) (s : Site) (l : Line) → SiteLaws s → In l s.stable
    → In l (after_prepare tx o s).stable
prepare_keeps tx None s l w h = w.less l h
prepare_keeps tx (Some p) s l w h = h

-- a line that a record gives stays, till an Install
pub stays : (ds : List Deed) (s : Site) (l : Line) → SiteLaws s → HaveNoInstall ds → In l s.stable
    → In l (site_from s ds).stable
stays [] s l w none h = h
stays (Grants t items view ∷ ds) s l w none h =
    stays ds (after_deed s (Grants t items view)) l (keeps s (Grants t items view) w) none h
stays (Prepares t ∷ ds) s l w none h = stays ds (after_deed s (Prepares t)) l (keeps s (Prepares t) w) none
    (prepare_keeps t (promise_of t s.prepared) s l w h)
stays (LearnsCommit t stamp ∷ ds) s l w none h =
    stays ds (after_deed s (LearnsCommit t stamp)) l (keeps s (LearnsCommit t stamp) w) none
    (commit_keeps t stamp (promise_of t s.prepared) s l h)
stays (LearnsAbort t ∷ ds) s l w none h = stays ds (after_deed s (LearnsAbort t)) l (keeps s (LearnsAbort t) w) none h
stays (Closes ∷ ds) s l w none h = stays ds (after_deed s Closes) l (keeps s Closes w) none h
stays (Installs k c log ∷ ds) s l w none h = absurd none
stays (Rises ∷ ds) s l w none h = stays ds (after_deed s Rises) l (keeps s Rises w) none h

-- at its Done a prepared transaction's own line joins the log that records give
logged : (tx : TxId) (stamp : Stamp) (own : OwnLine) (s : Site) → SiteLaws s → Holds true tx (Own own) s
    → In (committed_line stamp tx own) (after_deed s (LearnsCommit tx stamp)).stable
logged tx stamp own s w h = by (promise_of tx s.prepared) refl
  where
    by : (o : Option Promise) → promise_of tx s.prepared ≡ o
        → In (committed_line stamp tx own) (after_commit tx stamp o s).stable
    by None e = absurd (true≢false (sym (same_tx_test tx h.phase.by.tx (sym h.phase.its))
        ∙ not_found tx s.prepared e h.phase.by h.phase.stands))
    by (Some p) e =
        let f = found tx s.prepared p e in
        In-first (committed_line stamp tx own) (stamped_lines tx stamp p.items) s.stable
        (in_stamped tx stamp own p.items (h.phase.each p (w.prepared p f.0) f.1))

-- after the first Done the line is in the log
pub logged_from : (ds : List Deed) (tx : TxId) (own : OwnLine) (s : Site) → SiteLaws s → Holds false tx (Own own) s
    → HaveNoInstall ds → HasDone tx false ds → IsLoggedAtDone tx own ds s
logged_from ds tx own s w h none d =
    let wm : SiteLaws (site_from s d.before) = laws_after d.before s w in
    let hm : Holds true tx (Own own) (site_from s d.before) =
    subst (λ (b : Bool). Holds b tx (Own own) (site_from s d.before)) d.prepared
    (held_after d.before false tx (Own own) s h d.spares) in
    let wf : SiteLaws (after_deed (site_from s d.before) (LearnsCommit tx d.stamp)) =
    keeps (site_from s d.before) (LearnsCommit tx d.stamp) wm in
    let rest : HaveNoInstall d.after = no_right d.before (LearnsCommit tx d.stamp ∷ d.after)
    (subst (λ (l : List Deed). HaveNoInstall l) d.split none) in
    let there = stays d.after (after_deed (site_from s d.before) (LearnsCommit tx d.stamp))
    (committed_line d.stamp tx own) wf rest (logged tx d.stamp own (site_from s d.before) wm hm) in
    let we = laws_after d.after (after_deed (site_from s d.before) (LearnsCommit tx d.stamp)) wf in
    (record {
      first = d;
      line = subst (λ (x : Site). In (committed_line d.stamp tx own) x.volatile)
          (sym (ap (λ (l : List Deed). site_from s l) d.split
          ∙ after_append d.before (LearnsCommit tx d.stamp ∷ d.after) s))
          (we.less (committed_line d.stamp tx own) there);
    })

-- a granted own line is held still, or its transaction's first Done stands between and the line is in the log
pub held_or_logged : (ds : List Deed) (tx : TxId) (own : OwnLine) (s : Site) → SiteLaws s → Holds false tx (Own own) s
    → SparesUntilDone tx false ds → HaveNoInstall ds
    → In (Own own) (items_of tx (site_from s ds).held) ⊎ IsLoggedAtDone tx own ds s
held_or_logged ds tx own s w h u none = elim (first_done tx ds false none u) [
  | inl sp ↦ inl (held_law ds false tx (Own own) s h sp)
  | inr d ↦ inr (logged_from ds tx own s w h none d)
]

-- a granted read lock is held still, or its transaction's first Done stands between
pub held_or_done : (ds : List Deed) (tx : TxId) (item : Item) (s : Site) → Holds false tx item s
    → SparesUntilDone tx false ds → HaveNoInstall ds → In item (items_of tx (site_from s ds).held) ⊎ HasDone tx false ds
held_or_done ds tx item s h u none = elim
    (first_done tx ds false none u) [ inl sp ↦ inl (held_law ds false tx item s h sp) | inr d ↦ inr d ]
