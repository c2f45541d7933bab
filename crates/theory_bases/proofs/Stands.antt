-- With its base a short site stands for the machine's after each deed.
use Rattle.std.proofs.Common.{◌≡◌, ◌⊎◌, inl, inr, List, [], ◌∷◌, ◌++◌, Option, Some, None, refl, sym, ap, subst}
use Rattle.qc_stamp.specs.declared.stamp.Stamp.{Stamp}
use Rattle.qc_stamp.specs.declared.stamp.TxId.{TxId}
use Rattle.qc_entry.specs.declared.line.Line.{Line}
use Rattle.qc_list.specs.Vocabulary.{In}
use Rattle.qc_list.proofs.Members.{In-first, In-second, In-either}
use Rattle.theory_machine.specs.Vocabulary.{Closes, Deed, Grants, Held, Installs, LearnsAbort, LearnsCommit, Prepares}
use Rattle.theory_machine.specs.Vocabulary.{Promise, Rises, Site, after_commit, after_deed, after_prepare, each_held}
use Rattle.theory_machine.specs.Vocabulary.{empty_site, held_by_promises, items_of, promise_of, site_after, site_from}
use Rattle.theory_machine.specs.Vocabulary.{stamped_lines, without_promise, without_tx}
use Rattle.theory_bases.specs.Vocabulary.{AreShortDeeds, AreShortFrom, IsShortDeed, IsUnionOf, StandsFor, after_short}
use Rattle.theory_bases.specs.Vocabulary.{base_after, base_from, base_of, short_from, short_site_after}

-- the same lines join both
more : (base short whole new : List Line) → IsUnionOf base short whole → IsUnionOf base (new ++ short) (new ++ whole)
more base short whole new h = record {
  only = λ l i. elim (In-either l new whole i) [
    | inl a ↦ inl (In-first l new short a)
    | inr b ↦ elim
        (h.only l b) [ inl x ↦ inl (In-second l new short x) | inr y ↦ inr y ]
  ];
  has_short = λ l i. elim (In-either l new short i)
      [ inl a ↦ In-first l new whole a | inr b ↦ In-second l new whole (h.has_short l b) ];
  has_base = λ l i. In-second l new whole (h.has_base l i);
}

-- of a view's lines those may be missing that the short log or the base has
with_view : (base short whole lines view : List Line) → IsUnionOf base short whole
    → ((l : Line) → In l lines → In l view) → ((l : Line) → In l view → In l lines ⊎ (In l short ⊎ In l base))
    → IsUnionOf base (lines ++ short) (view ++ whole)
with_view base short whole lines view h less whole_of = record {
  only = λ l i. elim (In-either l view whole i) [
    | inl a ↦ elim (whole_of l a) [
      | inl x ↦ inl (In-first l lines short x)
      | inr (inl y) ↦ inl
          (In-second l lines short y)
      | inr (inr z) ↦ inr z
    ]
    | inr b ↦ elim (h.only l b) [ inl x ↦ inl (In-second l lines short x) | inr y ↦ inr y ]
  ];
  has_short = λ l i. elim (In-either l lines short i)
      [ inl a ↦ In-first l view whole (less l a) | inr b ↦ In-second l view whole (h.has_short l b) ];
  has_base = λ l i. In-second l view whole (h.has_base l i);
}

same_prepare : (base : List Line) (w s : Site) (tx : TxId) (p : Option Promise) → StandsFor base w s
    → StandsFor base (after_prepare tx p w) (after_prepare tx p s)
same_prepare base w s tx (Some p) h = h
same_prepare base w s tx None h = record {
  volatile = h.volatile;
  stable = h.volatile;
  held = h.held;
  prepared = subst (λ (hs : List Held). (record { tx = tx; items = items_of tx w.held } ∷ w.prepared) ≡
      (record { tx = tx; items = items_of tx hs } ∷ s.prepared)) h.held
      (ap (λ (ps : List Promise). record { tx = tx; items = items_of tx w.held } ∷ ps) h.prepared);
  promises = subst (λ (hs : List Held). (record { tx = tx; items = items_of tx w.held } ∷ without_promise tx w.promises)
      ≡ (record { tx = tx; items = items_of tx hs } ∷ without_promise tx s.promises)) h.held
      (ap (λ (ps : List Promise). record { tx = tx; items = items_of tx w.held } ∷ without_promise tx ps) h.promises);
}

same_commit : (base : List Line) (w s : Site) (tx : TxId) (stamp : Stamp) (p : Option Promise) → StandsFor base w s
    → StandsFor base (after_commit tx stamp p w) (after_commit tx stamp p s)
same_commit base w s tx stamp None h = record {
  volatile = h.volatile;
  stable = h.stable;
  held = ap (without_tx tx) h.held;
  prepared = h.prepared;
  promises = h.promises;
}
same_commit base w s tx stamp (Some p) h = record {
  volatile = more base s.volatile w.volatile (stamped_lines tx stamp p.items) h.volatile;
  stable = more base s.stable w.stable (stamped_lines tx stamp p.items) h.stable;
  held = ap (without_tx tx) h.held;
  prepared = ap (without_promise tx) h.prepared;
  promises = ap (without_promise tx) h.promises;
}

stands_after : (base : List Line) (w s : Site) (e d : Deed) → StandsFor base w s → IsShortDeed base s e d
    → StandsFor (base_after base e) (after_deed w e) (after_short s d)
stands_after base w s (Grants tx items view) d h ok =
    subst (λ (x : Deed). StandsFor base (after_deed w (Grants tx items view)) (after_short s x)) (sym ok.1) (record {
      volatile = with_view base s.volatile w.volatile ok.0 view h.volatile ok.2.part ok.2.covers;
      stable = h.stable;
      held = ap (λ (hs : List Held). each_held tx items ++ hs) h.held;
      prepared = h.prepared;
      promises = h.promises;
    })
stands_after base w s (Prepares tx) d h ok =
    subst (λ (x : Deed). StandsFor base (after_deed w (Prepares tx)) (after_short s x)) (sym ok)
    (subst (λ (ps : List Promise). StandsFor base (after_prepare tx (promise_of tx w.prepared) w)
    (after_prepare tx (promise_of tx ps) s)) h.prepared (same_prepare base w s tx (promise_of tx w.prepared) h))
stands_after base w s (LearnsCommit tx stamp) d h ok =
    subst (λ (x : Deed). StandsFor base (after_deed w (LearnsCommit tx stamp)) (after_short s x)) (sym ok)
    (subst (λ (ps : List Promise). StandsFor base (after_commit tx stamp (promise_of tx w.prepared) w)
    (after_commit tx stamp (promise_of tx ps) s)) h.prepared
    (same_commit base w s tx stamp (promise_of tx w.prepared) h))
stands_after base w s (LearnsAbort tx) d h ok =
    subst (λ (x : Deed). StandsFor base (after_deed w (LearnsAbort tx)) (after_short s x)) (sym ok)
    (record {
      volatile = h.volatile;
      stable = h.stable;
      held = ap (without_tx tx) h.held;
      prepared = ap (without_promise tx) h.prepared;
      promises = h.promises;
    })
stands_after base w s Closes d h ok = subst (λ (x : Deed). StandsFor base (after_deed w Closes) (after_short s x))
    (sym ok)
    (record {
      volatile = h.volatile;
      stable = h.stable;
      held = ap held_by_promises h.prepared;
      prepared = h.prepared;
      promises = h.promises;
    })
stands_after base w s (Installs k c log) d h ok =
    subst (λ (x : Deed). StandsFor log (after_deed w (Installs k c log)) (after_short s x)) (sym ok) (record {
      volatile = record { only = λ l i. inr i; has_short = λ l i. absurd i; has_base = λ l i. i };
      stable = record { only = λ l i. inr i; has_short = λ l i. absurd i; has_base = λ l i. i };
      held = refl;
      prepared = refl;
      promises = refl;
    })
stands_after base w s Rises d h ok = subst (λ (x : Deed). StandsFor base (after_deed w Rises) (after_short s x))
    (sym ok)
    (record {
      volatile = h.stable;
      stable = h.stable;
      held = ap held_by_promises h.promises;
      prepared = h.promises;
      promises = h.promises;
    })

pub stands : (base : List Line) (w s : Site) (es ds : List Deed) → StandsFor base w s → AreShortFrom base s es ds
    → StandsFor (base_from base es) (site_from w es) (short_from s ds)
stands base w s [] [] h ok = h
stands base w s [] (d ∷ ds) h ok = absurd ok
stands base w s (e ∷ es) [] h ok = absurd ok
stands base w s (e ∷ es) (d ∷ ds) h ok =
    stands (base_after base e) (after_deed w e) (after_short s d) es ds (stands_after base w s e d h ok.0) ok.1

pub short_sites_stand_for_whole_ones : (es ds : List Deed) → AreShortDeeds es ds
    → StandsFor (base_of es) (site_after es) (short_site_after ds)
short_sites_stand_for_whole_ones es ds ok = stands [] empty_site empty_site es ds
    (record {
      volatile = record { only = λ l i. absurd i; has_short = λ l i. absurd i; has_base = λ l i. absurd i };
      stable = record { only = λ l i. absurd i; has_short = λ l i. absurd i; has_base = λ l i. absurd i };
      held = refl;
      prepared = refl;
      promises = refl;
    }) ok
