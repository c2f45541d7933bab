-- Two grants of one epoch at a site; and what a fresh grant holds.
use Rattle.std.proofs.Common.{[], ◌≡◌, ◌≢◌, ℕ, Bool, true, false, cond, ◌||◌, inl, inr, List, ◌∷◌, ◌++◌, Option, Some}
use Rattle.std.proofs.Common.{None, IsSome, refl, sym, ap, ◌∙◌, subst, true≢false}
use Rattle.qc_stamp.specs.declared.stamp.Stamp.{Stamp}
use Rattle.qc_stamp.specs.declared.stamp.TxId.{TxId}
use Rattle.qc_list.specs.Vocabulary.{In}
use Rattle.qc_list.proofs.Members.{In-first, In-second}
use Rattle.qc_stamp.specs.Vocabulary.{same_tx}
use Rattle.theory_machine.specs.Vocabulary.{Closes, Deed, Granted, Grants, HasRisingEpochs, HaveNoInstall, Holds}
use Rattle.theory_machine.specs.Vocabulary.{Installs, Item, LearnsAbort, LearnsCommit, Prepares, Promise, Rises, Site}
use Rattle.theory_machine.specs.Vocabulary.{SiteLaws, SparesUntilDone, after_commit, after_deed, after_prepare}
use Rattle.theory_machine.specs.Vocabulary.{done_record, done_records, each_held, empty_site, epoch_from, items_of}
use Rattle.theory_machine.specs.Vocabulary.{promise_of, site_after, site_from}
use Rattle.qc_stamp.proofs.Orders.{same_tx_is, same_tx_test}
use Rattle.theory_machine.proofs.SiteLists.{items_of-append, items_of-each_held, in_dropped, not_found}
use Rattle.theory_machine.proofs.SiteOrder.{laws_after}
use Rattle.theory_machine.proofs.Epochs.{epoch-append, none_between, rising-right}

-- two places in one list
pub data Places (a b : List Deed) (x y : Deed) (p q : List Deed) : Type 0 where
  First : (m : List Deed) → b ≡ a ++ x ∷ m → p ≡ m ++ y ∷ q → Places a b x y p q
  Second : (m : List Deed) → a ≡ b ++ y ∷ m → q ≡ m ++ x ∷ p → Places a b x y p q
  Same : x ≡ y → Places a b x y p q

pub places : (a b : List Deed) (x y : Deed) (p q : List Deed) → a ++ x ∷ p ≡ b ++ y ∷ q → Places a b x y p q
places [] [] x y p q e = Same (cc)
places [] (c ∷ cs) x y p q e = First cs (let h : x ≡ c = cc in ap (λ (z : Deed). z ∷ cs) (sym h)) (cc)
places (c ∷ cs) [] x y p q e = Second cs (let h : c ≡ y = cc in ap (λ (z : Deed). z ∷ cs) h) (cc)
places (c ∷ cs) (d ∷ ds) x y p q e =
    let h : c ≡ d = cc in
    elim (places cs ds x y p q (cc)) [
      | First m b s ↦ First m (ap (λ (l : List Deed). d ∷ l) b ∙ ap (λ (z : Deed). z ∷ cs ++ x ∷ m) (sym h)) s
      | Second m b s ↦ Second m (ap (λ (l : List Deed). c ∷ l) b ∙ ap (λ (z : Deed). z ∷ ds ++ y ∷ m) h) s
      | Same s ↦ Same s
    ]

pub spares_front : (tx : TxId) (m : List Deed) (d : Deed) (p : List Deed) (is : Bool)
    → SparesUntilDone tx is (m ++ d ∷ p) → SparesUntilDone tx is m
spares_front tx [] d p is u = tt
spares_front tx (Grants t items view ∷ ds) d p is u = spares_front tx ds d p is u
spares_front tx (Prepares t ∷ ds) d p is u = spares_front tx ds d p (is || same_tx tx t) u
spares_front tx (LearnsCommit t stamp ∷ ds) d p true u = λ ne. spares_front tx ds d p true (u ne)
spares_front tx (LearnsCommit t stamp ∷ ds) d p false u = (u.0, spares_front tx ds d p false u.1)
spares_front tx (LearnsAbort t ∷ ds) d p is u = (u.0, spares_front tx ds d p is u.1)
spares_front tx (Closes ∷ ds) d p true u = spares_front tx ds d p true u
spares_front tx (Closes ∷ ds) d p false u = absurd u
spares_front tx (Installs k c log ∷ ds) d p is u = tt
spares_front tx (Rises ∷ ds) d p true u = spares_front tx ds d p true u
spares_front tx (Rises ∷ ds) d p false u = absurd u

-- no Install stands between two grants of one epoch
pub between : (a : List Deed) (d : Deed) (m : List Deed) (e : ℕ) → HasRisingEpochs 1 (a ++ d ∷ m)
    → HaveNoInstall (d ∷ []) → epoch_from 1 a ≡ e → epoch_from 1 (a ++ d ∷ m) ≡ e → HaveNoInstall m
between a d m e r n x y =
    tail d m
    (none_between (d ∷ m) (epoch_from 1 a) (rising-right a (d ∷ m) 1 r) (sym (epoch-append a (d ∷ m) 1) ∙ y ∙ sym x))
  where
    tail : (d : Deed) (m : List Deed) → HaveNoInstall (d ∷ m) → HaveNoInstall m
    tail (Grants t items view) m n = n
    tail (Prepares t) m n = n
    tail (LearnsCommit t stamp) m n = n
    tail (LearnsAbort t) m n = n
    tail Closes m n = n
    tail (Installs k c log) m n = absurd n
    tail Rises m n = n

pub site_laws : (ds : List Deed) → SiteLaws (site_after ds)
site_laws ds = laws_after ds empty_site (record { less = λ l h. h; prepared = λ p h. h })

-- tx has no Prepare record
abbrev pub HasNone : TxId → List Promise → Type 0
HasNone tx ps = (p : Promise) → In p ps → p.tx ≢ tx

none_after_prepare : (tx t : TxId) (o : Option Promise) (s : Site) → (t ≢ tx) → HasNone tx s.prepared
    → HasNone tx s.promises → HasNone tx (after_prepare t o s).prepared × HasNone tx (after_prepare t o s).promises
none_after_prepare tx t (Some p) s ne a b = (a, b)
none_after_prepare tx t None s ne a b = (
  λ p h. elim h [ inl same ↦ λ e. ne (sym (ap (λ (x : Promise). x.tx) same) ∙ e) | inr old ↦ a p old ],
  λ p h. elim h [
    | inl same ↦ λ e. ne (sym (ap (λ (x : Promise). x.tx) same) ∙ e)
    | inr old ↦ b p (in_dropped p t s.promises old).0
  ],
)

none_after_commit : (tx t : TxId) (stamp : Stamp) (o : Option Promise) (s : Site) → HasNone tx s.prepared
    → HasNone tx s.promises
    → HasNone tx (after_commit t stamp o s).prepared × HasNone tx (after_commit t stamp o s).promises
none_after_commit tx t stamp None s a b = (a, b)
none_after_commit tx t stamp (Some p) s a b =
    (λ q h. a q (in_dropped q t s.prepared h).0, λ q h. b q (in_dropped q t s.promises h).0)

none_after : (tx : TxId) (ds : List Deed) (s : Site) → (In (Prepares tx) ds → ⊥) → HasNone tx s.prepared
    → HasNone tx s.promises → HasNone tx (site_from s ds).prepared
none_after tx [] s no_one a b = a
none_after tx (Grants t items view ∷ ds) s never a b =
    none_after tx ds (after_deed s (Grants t items view)) (λ h. never (inr h)) a b
none_after tx (Prepares t ∷ ds) s never a b =
    let r =
    none_after_prepare tx t (promise_of t s.prepared) s
    (λ e. never (inl (ap (λ (x : TxId). Prepares x) (sym e)))) a b in
    none_after tx ds (after_deed s (Prepares t)) (λ h. never (inr h)) r.0 r.1
none_after tx (LearnsCommit t stamp ∷ ds) s never a b =
    let r = none_after_commit tx t stamp (promise_of t s.prepared) s a b in
    none_after tx ds (after_deed s (LearnsCommit t stamp)) (λ h. never (inr h)) r.0 r.1
none_after tx (LearnsAbort t ∷ ds) s never a b =
    none_after tx ds (after_deed s (LearnsAbort t)) (λ h. never (inr h)) (λ p h. a p (in_dropped p t s.prepared h).0) b
none_after tx (Closes ∷ ds) s never a b = none_after tx ds (after_deed s Closes) (λ h. never (inr h)) a b
none_after tx (Installs k c log ∷ ds) s never a b =
    none_after tx ds (after_deed s (Installs k c log)) (λ h. never (inr h)) (λ p h. absurd h) (λ p h. absurd h)
none_after tx (Rises ∷ ds) s never a b = none_after tx ds (after_deed s Rises) (λ h. never (inr h)) b b

find_none : (tx : TxId) (ps : List Promise) → HasNone tx ps → promise_of tx ps ≡ None
find_none tx [] h = refl
find_none tx (p ∷ ps) h = by (same_tx tx p.tx) refl (find_none tx ps (λ q k. h q (inr k)))
  where
    by : (b : Bool) → same_tx tx p.tx ≡ b → promise_of tx ps ≡ None → cond b (Some p) (promise_of tx ps) ≡ None
    by true e ih = absurd (h p (inl refl) (sym (same_tx_is tx p.tx e)))
    by false e ih = ih

-- what a fresh grant holds
pub holds_granted : (g : Granted) (item : Item) → (In (Prepares g.tx) g.before → ⊥) → In item g.items
    → Holds false g.tx item (after_deed (site_after g.before) (Grants g.tx g.items g.view))
holds_granted g item fresh h = record {
  held =
      subst (λ (xs : List Item). In item xs)
      (sym (items_of-append g.tx (each_held g.tx g.items) (site_after g.before).held))
      (In-first item (items_of g.tx (each_held g.tx g.items)) (items_of g.tx (site_after g.before).held)
      (subst (λ (xs : List Item). In item xs) (sym (items_of-each_held g.tx g.items)) h));
  phase =
      find_none g.tx (site_after g.before).prepared
      (none_after g.tx g.before empty_site fresh (λ p k. absurd k) (λ p k. absurd k));
}

in_done_record : (tx : TxId) (stamp : Stamp) (o : Option Promise) → IsSome o
    → In (record { tx = tx; stamp = stamp }) (done_record tx stamp o)
in_done_record tx stamp None h = absurd (cc)
in_done_record tx stamp (Some p) h = inl refl

pub done_at : (xs : List Deed) (tx : TxId) (stamp : Stamp) (ys : List Deed) (s : Site)
    → IsSome (promise_of tx (site_from s xs).prepared)
    → In (record { tx = tx; stamp = stamp }) (done_records s (xs ++ LearnsCommit tx stamp ∷ ys))
done_at [] tx stamp ys s h =
    In-first (record { tx = tx; stamp = stamp }) (done_record tx stamp (promise_of tx s.prepared))
    (done_records (after_deed s (LearnsCommit tx stamp)) ys) (in_done_record tx stamp (promise_of tx s.prepared) h)
done_at (Grants t items view ∷ ds) tx stamp ys s h = done_at ds tx stamp ys (after_deed s (Grants t items view)) h
done_at (Prepares t ∷ ds) tx stamp ys s h = done_at ds tx stamp ys (after_deed s (Prepares t)) h
done_at (LearnsCommit t c ∷ ds) tx stamp ys s h =
    In-second (record { tx = tx; stamp = stamp }) (done_record t c (promise_of t s.prepared))
    (done_records (after_deed s (LearnsCommit t c)) (ds ++ LearnsCommit tx stamp ∷ ys))
    (done_at ds tx stamp ys (after_deed s (LearnsCommit t c)) h)
done_at (LearnsAbort t ∷ ds) tx stamp ys s h = done_at ds tx stamp ys (after_deed s (LearnsAbort t)) h
done_at (Closes ∷ ds) tx stamp ys s h = done_at ds tx stamp ys (after_deed s Closes) h
done_at (Installs k c log ∷ ds) tx stamp ys s h = done_at ds tx stamp ys (after_deed s (Installs k c log)) h
done_at (Rises ∷ ds) tx stamp ys s h = done_at ds tx stamp ys (after_deed s Rises) h

pub found_some : (tx : TxId) (ps : List Promise) (p : Promise) → In p ps → p.tx ≡ tx → IsSome (promise_of tx ps)
found_some tx ps p h e = by (promise_of tx ps) refl
  where
    by : (o : Option Promise) → promise_of tx ps ≡ o → IsSome o
    by None n = absurd (true≢false (sym (same_tx_test tx p.tx (sym e)) ∙ not_found tx ps n p h))
    by (Some q) n = refl
