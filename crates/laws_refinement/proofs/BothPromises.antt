-- What a site has promised, beside the machine's promises: each was asked for, each has its other, and they hold alike.
use Rattle.std.proofs.Common.{◌≡◌, ◌≢◌, ℕ, ◌⊎◌, inl, inr, List, [], ◌∷◌, Option, Some, None, refl, sym, ap, subst}
use Rattle.qc_stamp.specs.declared.stamp.Stamp.{Stamp}
use Rattle.qc_stamp.specs.declared.stamp.TxId.{TxId}
use Rattle.qc_list.specs.Vocabulary.{In}
use Rattle.qc_entry.specs.declared.line.Line.{Line}
use Rattle.qc_entry.specs.declared.line.OwnLine.{OwnLine}
use Rattle.qc_entry.specs.declared.record.Prepared.{Prepared}
use Rattle.qc_decl.specs.declared.declaration.Declaration.{Declaration}
use Rattle.theory_machine.specs.Vocabulary.{Closes, Deed, Grants, Installs, Item, LearnsAbort, LearnsCommit, MayPrepare}
use Rattle.theory_machine.specs.Vocabulary.{NotBegun, Own, Prepares, Promise, Rises, Site, State, Status, after_commit}
use Rattle.theory_machine.specs.Vocabulary.{after_deed, after_prepare, empty_site, promise_of, site_after, site_from}
use Rattle.theory_machine.specs.Vocabulary.{without_promise}
use Rattle.theory_machine.proofs.SiteLists.{found, in_dropped}
use Rattle.qc_site.specs.Vocabulary.{prepared_of}
use Rattle.laws_refinement.specs.Vocabulary.{AreApart, IsDecided, IsPromiseOf, IsPromised}
use Rattle.laws_refinement.proofs.Apart.{apart_found, found_in}

-- what the machine has promised it was asked to prepare

abbrev pub Was : Site → Promise → Type 0
Was s p = In p s.prepared ⊎ In p s.promises

pub dropped_was : (p : Promise) (tx : TxId) (s : Site)
    → In p (without_promise tx s.prepared) ⊎ In p (without_promise tx s.promises) → Was s p
dropped_was p tx s (inl h) = inl (in_dropped p tx s.prepared h).0
dropped_was p tx s (inr h) = inr (in_dropped p tx s.promises h).0

pub prepare_was : (tx : TxId) (o : Option Promise) (s : Site) (p : Promise) → Was (after_prepare tx o s) p
    → Was s p ⊎ (p.tx ≡ tx)
prepare_was tx (Some q) s p h = inl h
prepare_was tx None s p (inl (inl same)) = inr (ap (λ (x : Promise). x.tx) same)
prepare_was tx None s p (inl (inr h)) = inl (inl h)
prepare_was tx None s p (inr (inl same)) = inr (ap (λ (x : Promise). x.tx) same)
prepare_was tx None s p (inr (inr h)) = inl (inr (in_dropped p tx s.promises h).0)

pub commit_was : (tx : TxId) (stamp : Stamp) (o : Option Promise) (s : Site) (p : Promise)
    → Was (after_commit tx stamp o s) p → Was s p
commit_was tx stamp (Some q) s p h = dropped_was p tx s h
commit_was tx stamp None s p h = h

pub deed_was : (d : Deed) (s : Site) (p : Promise) → Was (after_deed s d) p → Was s p ⊎ (Prepares p.tx ≡ d)
deed_was (Grants t items view) s p h = inl h
deed_was (Prepares t) s p h = elim (prepare_was t (promise_of t s.prepared) s p h)
    [ inl old ↦ inl old | inr its ↦ inr (ap (λ (x : TxId). Prepares x) its) ]
deed_was (LearnsCommit t stamp) s p h = inl (commit_was t stamp (promise_of t s.prepared) s p h)
deed_was (LearnsAbort t) s p (inl h) = inl (inl (in_dropped p t s.prepared h).0)
deed_was (LearnsAbort t) s p (inr h) = inl (inr h)
deed_was Closes s p h = inl h
deed_was (Installs k c log) s p (inl never) = absurd never
deed_was (Installs k c log) s p (inr never) = absurd never
deed_was Rises s p (inl h) = inl (inr h)
deed_was Rises s p (inr h) = inl (inr h)

pub deeds_was : (ds : List Deed) (s : Site) (p : Promise) → Was (site_from s ds) p → Was s p ⊎ In (Prepares p.tx) ds
deeds_was [] s p h = inl h
deeds_was (d ∷ ds) s p h = elim (deeds_was ds (after_deed s d) p h) [
  | inl old ↦ elim (deed_was d s p old) [ inl older ↦ inl older | inr is ↦ inr (inl is) ]
  | inr later ↦ inr (inr later)
]

pub was_asked : (ds : List Deed) (p : Promise) → In p (site_after ds).prepared → In (Prepares p.tx) ds
was_asked ds p h = elim (deeds_was ds empty_site p (inl h))
    [ inl w ↦ elim w [ inl never ↦ absurd never | inr never ↦ absurd never ] | inr is ↦ is ]

pub asked_begun : (s : Status) → MayPrepare s → s ≢ NotBegun
asked_begun s may is = subst (λ (x : Status). MayPrepare x) is may

-- the promise that the machine has behind one of the site's
pub record Behind (ps : List Promise) (q : Prepared) : Type 0 where
  pub promise : Promise
  pub stands : In promise ps
  pub its : promise.tx ≡ q.tx
  pub own : (o : OwnLine) → In o q.own → In (Own o) promise.items

pub behind : (ps : List Promise) (qs : List Prepared) (q : Prepared)
    → ((t : TxId) → IsPromiseOf (promise_of t ps) (prepared_of qs t)) → AreApart qs → In q qs → Behind ps q
behind ps qs q promised apart among = by (promise_of q.tx ps) (prepared_of qs q.tx) refl (apart_found q qs apart among)
    (promised q.tx)
  where
    by : (o : Option Promise) (r : Option Prepared) → promise_of q.tx ps ≡ o → r ≡ Some q → IsPromiseOf o r
        → Behind ps q
    by (Some p) (Some r) is same h =
        let f = found q.tx ps p is in
        let e : r ≡ q = cc in
        record {
          promise = p;
          stands = f.0;
          its = f.1;
          own = λ o among. h.1 o (subst (λ (x : Prepared). In o x.own) (sym e) among);
        }
    by None (Some r) is same h = absurd h
    by o None is same h = absurd (let never : ⊥ = cc in never)

-- and the site's that stands for one of the machine's
pub record Before (qs : List Prepared) (p : Promise) : Type 0 where
  pub prepared : Prepared
  pub stands : In prepared qs
  pub its : prepared.tx ≡ p.tx
  pub has : (x : Item) → In x p.items → IsPromised prepared x

pub before : (ps : List Promise) (qs : List Prepared) (p : Promise)
    → ((t : TxId) → IsPromiseOf (promise_of t ps) (prepared_of qs t)) → promise_of p.tx ps ≡ Some p → Before qs p
before ps qs p promised is = by (promise_of p.tx ps) (prepared_of qs p.tx) is refl (promised p.tx)
  where
    by : (o : Option Promise) (r : Option Prepared) → o ≡ Some p → prepared_of qs p.tx ≡ r → IsPromiseOf o r
        → Before qs p
    by (Some x) (Some r) same found_r h =
        let f = found_in p.tx qs r found_r in
        let e : x ≡ p = cc in
        record {
          prepared = r;
          stands = f.0;
          its = f.1;
          has = λ i among. h.0 i (subst (λ (y : Promise). In i y.items) (sym e) among);
        }
    by (Some x) None same found_r h = absurd h
    by None r same found_r h = absurd (let never : ⊥ = cc in never)

-- the deed of a decision
pub deed_is : {decl : Declaration} {now : State} {k clock : ℕ} {log : List Line} (d : IsDecided decl now k clock log)
    → Installs d.decision.epoch d.decision.clock d.decision.log ≡ Installs k clock log
deed_is d = λ i. Installs (d.epoch_is i) (d.clock_is i) (d.log_is i)
