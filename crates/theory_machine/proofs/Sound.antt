-- Each deed keeps a site's logs closed; in particular a restart does.
use Rattle.std.proofs.Common.{◌≡◌, Bool, true, false, inl, inr, List, [], ◌∷◌, ◌++◌, Option, Some, None, refl, sym, ap}
use Rattle.std.proofs.Common.{◌∙◌, subst}
use Rattle.qc_stamp.specs.declared.stamp.Stamp.{Stamp}
use Rattle.qc_stamp.specs.declared.stamp.TxId.{TxId}
use Rattle.qc_entry.specs.declared.line.Line.{Line}
use Rattle.qc_entry.specs.declared.line.OwnLine.{OwnLine}
use Rattle.qc_entry.specs.declared.record.Commit.{Commit as CommitRecord}
use Rattle.qc_decl.specs.declared.declaration.Declaration.{Declaration}
use Rattle.qc_list.specs.Vocabulary.{In}
use Rattle.theory_onecopy.specs.Vocabulary.{Executed, committed_line, own_line}
use Rattle.qc_list.proofs.Members.{In-first, In-second, In-either}
use Rattle.qc_stamp.specs.Vocabulary.{same_tx}
use Rattle.theory_machine.specs.Vocabulary.{Closes, Committed, Deed, Grants, Installs, IsAppendClosed, IsClosedAt}
use Rattle.theory_machine.specs.Vocabulary.{IsExecutedOrChosen, IsOwnClosedAt, IsSiteClosed, Item, LearnsAbort}
use Rattle.theory_machine.specs.Vocabulary.{LearnsCommit, Lock, Own, Prepares, Promise, Rises, Site, Status}
use Rattle.theory_machine.specs.Vocabulary.{after_commit, after_deed, after_prepare, each_held, held_by_promises}
use Rattle.theory_machine.specs.Vocabulary.{items_of, promise_of, stamped_lines, without_promise, without_tx}
use Rattle.qc_stamp.proofs.Orders.{same_tx_is}
use Rattle.theory_machine.proofs.SiteLists.{items_of-append, items_of-each_held, items_of-other, items_of-dropped}
use Rattle.theory_machine.proofs.SiteLists.{items_of-kept, in_dropped, dropped_in, found, not_found}
use Rattle.theory_machine.proofs.SiteOrder.{in_stamped}

-- which own line a committed_line line is
pub record IsStamped (tx : TxId) (stamp : Stamp) (items : List Item) (l : Line) : Type 0 where
  pub own : OwnLine
  pub listed : In (Own own) items
  pub is : l ≡ committed_line stamp tx own

pub committed_line_in : (tx : TxId) (stamp : Stamp) (items : List Item) (l : Line) → In l (stamped_lines tx stamp items)
    → IsStamped tx stamp items l
committed_line_in tx stamp [] l h = absurd h
committed_line_in tx stamp (Lock k ∷ xs) l h = let r = committed_line_in tx stamp xs l h in
    record { own = r.own; listed = inr r.listed; is = r.is }
committed_line_in tx stamp (Own o ∷ xs) l (inl same) = record { own = o; listed = inl refl; is = same }
committed_line_in tx stamp (Own o ∷ xs) l (inr h) = let r = committed_line_in tx stamp xs l h in
    record { own = r.own; listed = inr r.listed; is = r.is }

module _ (decl : Declaration) (status : TxId → Status) (executed : TxId → List Executed)
    (chosen : TxId → Option Executed) where
  pub wider : (a b : List Line) (l : Line) → ((m : Line) → In m a → In m b) → IsClosedAt decl status executed a l
      → IsClosedAt decl status executed b l
  wider a b l sub f = record {
    commit = f.commit;
    committed = f.committed;
    operation = f.operation;
    listed = f.listed;
    some = f.some;
    is = f.is;
    view = λ m h. sub m (f.view m h);
    own = λ o h n. sub (committed_line l.stamp l.tx o) (f.own o h n);
  }

  pub wider_own : (tx : TxId) (a b : List Line) (xs ys : List Item) (o : OwnLine) → ((m : Line) → In m a → In m b)
      → ((x : Item) → In x xs → In x ys) → IsOwnClosedAt decl executed chosen tx a xs o
      → IsOwnClosedAt decl executed chosen tx b ys o
  wider_own tx a b xs ys o sub items f = record {
    operation = f.operation;
    known = f.known;
    some = f.some;
    is = f.is;
    view = λ m h. sub m (f.view m h);
    own = λ p h n. items (Own p) (f.own p h n);
  }

  -- a committed transaction's own lines join the log
  pub joins : (tx : TxId) (c : CommitRecord) (stamp : Stamp) (items : List Item) (log : List Line)
      → status tx ≡ Committed c → c.stamp ≡ stamp → chosen tx ≡ None
      → ((o : OwnLine) → In (Own o) items → IsOwnClosedAt decl executed chosen tx log items o)
      → ((l : Line) → In l log → IsClosedAt decl status executed log l)
      → (l : Line) → In l (stamped_lines tx stamp items ++ log)
      → IsClosedAt decl status executed (stamped_lines tx stamp items ++ log) l
  joins tx c stamp items log committed same none_chosen own_closed closed_at l h =
      elim (In-either l (stamped_lines tx stamp items) log h) [
        | inl new ↦ let s = committed_line_in tx stamp items l new in
            subst (λ (x : Line). IsClosedAt decl status executed (stamped_lines tx stamp items ++ log) x) (sym s.is)
            (one s.own s.listed)
        | inr old ↦ wider log (stamped_lines tx stamp items ++ log) l
            (λ m k. In-second m (stamped_lines tx stamp items) log k) (closed_at l old)
      ]
    where
      executed_one : (d : Executed) → IsExecutedOrChosen (executed tx) (chosen tx) d → In d (executed tx)
      executed_one d (inl k) = k
      executed_one d (inr k) = let x : None ≡ Some d = sym none_chosen ∙ k in absurd (let never : ⊥ = cc in never)

      one : (o : OwnLine) → In (Own o) items → IsClosedAt decl status executed (stamped_lines tx stamp items ++ log)
          (committed_line stamp tx o)
      one o k =
          let f = own_closed o k in
          record {
            commit = c;
            committed = committed;
            operation = f.operation;
            listed = executed_one f.operation f.known;
            some = f.some;
            is = ap (λ (x : OwnLine). committed_line stamp tx x) f.is
                ∙ ap (λ (x : Stamp). committed_line x tx (own_line f.operation)) (sym same);
            view = λ m i. In-second m (stamped_lines tx stamp items) log (f.view m i);
            own = λ p i n. In-first (committed_line stamp tx p) (stamped_lines tx stamp items) log
                (in_stamped tx stamp p items (f.own p i n));
          }

  no_own_closed : (tx : TxId) (log : List Line) (items : List Item) → items ≡ [] → (o : OwnLine) → In (Own o) items
      → IsOwnClosedAt decl executed chosen tx log items o
  no_own_closed tx log items e o h = absurd (subst (λ (xs : List Item). In (Own o) xs) e h)

  -- what tx holds of two lists
  both_own_closed : (tx : TxId) (log : List Line) (xs ys : List Item)
      → ((o : OwnLine) → In (Own o) xs → IsOwnClosedAt decl executed chosen tx log xs o)
      → ((o : OwnLine) → In (Own o) ys → IsOwnClosedAt decl executed chosen tx log ys o)
      → (o : OwnLine) → In (Own o) (xs ++ ys) → IsOwnClosedAt decl executed chosen tx log (xs ++ ys) o
  both_own_closed tx log xs ys a b o h = elim (In-either (Own o) xs ys h) [
    | inl x ↦ wider_own tx log log xs (xs ++ ys) o (λ m k. k) (λ i k. In-first i xs ys k) (a o x)
    | inr y ↦ wider_own tx log log ys (xs ++ ys) o (λ m k. k) (λ i k. In-second i xs ys k) (b o y)
  ]

  each_own_closed : (tx u : TxId) (log : List Line) (items : List Item)
      → ((o : OwnLine) → In (Own o) items → IsOwnClosedAt decl executed chosen u log items o)
      → (o : OwnLine) → In (Own o) (items_of tx (each_held u items))
      → IsOwnClosedAt decl executed chosen tx log (items_of tx (each_held u items)) o
  each_own_closed tx u log items a = by (same_tx tx u) refl
    where
      by : (b : Bool) → same_tx tx u ≡ b → (o : OwnLine) → In (Own o) (items_of tx (each_held u items))
          → IsOwnClosedAt decl executed chosen tx log (items_of tx (each_held u items)) o
      by true e = let same : u ≡ tx = sym (same_tx_is tx u e) in
          subst (λ (t : TxId). (o : OwnLine) → In (Own o) (items_of t (each_held u items))
          → IsOwnClosedAt decl executed chosen t log (items_of t (each_held u items)) o) same
          (subst (λ (xs : List Item). (o : OwnLine) → In (Own o) xs → IsOwnClosedAt decl executed chosen u log xs o)
          (sym (items_of-each_held u items)) a)
      by false e = no_own_closed tx log (items_of tx (each_held u items)) (items_of-other tx u items e)

  all_own_closed : (log : List Line) (ps : List Promise)
      → ((p : Promise) (o : OwnLine) → In p ps → In (Own o) p.items
      → IsOwnClosedAt decl executed chosen p.tx log p.items o)
      → (tx : TxId) (o : OwnLine) → In (Own o) (items_of tx (held_by_promises ps))
      → IsOwnClosedAt decl executed chosen tx log (items_of tx (held_by_promises ps)) o
  all_own_closed log [] all tx = no_own_closed tx log [] refl
  all_own_closed log (p ∷ ps) all tx =
      subst (λ (xs : List Item). (o : OwnLine) → In (Own o) xs → IsOwnClosedAt decl executed chosen tx log xs o)
      (sym (items_of-append tx (each_held p.tx p.items) (held_by_promises ps)))
      (both_own_closed tx log (items_of tx (each_held p.tx p.items)) (items_of tx (held_by_promises ps))
      (each_own_closed tx p.tx log p.items (λ o h. all p o (inl refl) h))
      (all_own_closed log ps (λ q o h. all q o (inr h)) tx))

  after_drop : (s : Site) (u : TxId) (log : List Line)
      → ((tx : TxId) (o : OwnLine) → In (Own o) (items_of tx s.held)
      → IsOwnClosedAt decl executed chosen tx log (items_of tx s.held) o)
      → (tx : TxId) (o : OwnLine) → In (Own o) (items_of tx (without_tx u s.held))
      → IsOwnClosedAt decl executed chosen tx log (items_of tx (without_tx u s.held)) o
  after_drop s u log a tx = by (same_tx tx u) refl
    where
      by : (b : Bool) → same_tx tx u ≡ b → (o : OwnLine) → In (Own o) (items_of tx (without_tx u s.held))
          → IsOwnClosedAt decl executed chosen tx log (items_of tx (without_tx u s.held)) o
      by true e = let same : tx ≡ u = same_tx_is tx u e in
          no_own_closed tx log (items_of tx (without_tx u s.held))
          (ap (λ (t : TxId). items_of t (without_tx u s.held)) same ∙ items_of-dropped u s.held)
      by false e = subst (λ (xs : List Item). (o : OwnLine) → In (Own o) xs
          → IsOwnClosedAt decl executed chosen tx log xs o) (sym (items_of-kept u tx s.held e)) (a tx)

  grants_keep : (s : Site) (tx : TxId) (items : List Item) (view : List Line)
      → IsAppendClosed decl status executed chosen tx items view → IsSiteClosed decl status executed chosen s
      → IsSiteClosed decl status executed chosen (after_deed s (Grants tx items view))
  grants_keep s tx items view ok w = record {
    less = λ l h. In-second l view s.volatile (w.less l h);
    volatile = λ l h. elim (In-either l view s.volatile h) [
      | inl new ↦ wider view (view ++ s.volatile) l (λ m k. In-first m view s.volatile k) (ok.closed_at l new)
      | inr old ↦ wider s.volatile (view ++ s.volatile) l (λ m k. In-second m view s.volatile k) (w.volatile l old)
    ];
    stable = w.stable;
    own_closed = λ u. subst (λ (xs : List Item). (o : OwnLine) → In (Own o) xs
        → IsOwnClosedAt decl executed chosen u (view ++ s.volatile) xs o)
        (sym (items_of-append u (each_held tx items) s.held))
        (both_own_closed u (view ++ s.volatile) (items_of u (each_held tx items)) (items_of u s.held)
        (each_own_closed u tx (view ++ s.volatile) items
        (λ o h. wider_own tx view (view ++ s.volatile) items items o (λ m k. In-first m view s.volatile k)
        (λ x k. k) (ok.own_closed o h)))
        (λ o h. wider_own u s.volatile (view ++ s.volatile) (items_of u s.held) (items_of u s.held) o
        (λ m k. In-second m view s.volatile k) (λ x k. k) (w.own_closed u o h)));
    prepared = w.prepared;
    promised = w.promised;
  }

  prepare_keeps : (s : Site) (tx : TxId) (o : Option Promise) → promise_of tx s.prepared ≡ o
      → IsSiteClosed decl status executed chosen s → IsSiteClosed decl status executed chosen (after_prepare tx o s)
  prepare_keeps s tx (Some p) e w = w
  prepare_keeps s tx None e w = record {
    less = λ l h. h;
    volatile = w.volatile;
    stable = w.volatile;
    own_closed = w.own_closed;
    prepared = prepared;
    promised = promised;
  }
    where
      prepared : (p : Promise) → In p ((record { tx = tx; items = items_of tx s.held }) ∷ s.prepared)
          → In p ((record { tx = tx; items = items_of tx s.held }) ∷ without_promise tx s.promises)
      prepared p (inl same) = inl same
      prepared p (inr h) = inr (dropped_in p tx s.promises (w.prepared p h) (not_found tx s.prepared e p h))

      promised : (p : Promise) (o : OwnLine) → In p
          ((record { tx = tx; items = items_of tx s.held }) ∷ without_promise tx s.promises) → In (Own o) p.items
          → IsOwnClosedAt decl executed chosen p.tx s.volatile p.items o
      promised p o (inl same) h = subst (λ (q : Promise). In (Own o) q.items
          → IsOwnClosedAt decl executed chosen q.tx s.volatile q.items o) (sym same) (w.own_closed tx o) h
      promised p o (inr old) h = wider_own p.tx s.stable s.volatile p.items p.items o w.less (λ x k. k)
          (w.promised p o (in_dropped p tx s.promises old).0 h)

  commit_keeps : (s : Site) (tx : TxId) (c : CommitRecord) (stamp : Stamp) (o : Option Promise)
      → promise_of tx s.prepared ≡ o → status tx ≡ Committed c → c.stamp ≡ stamp → chosen tx ≡ None
      → IsSiteClosed decl status executed chosen s
      → IsSiteClosed decl status executed chosen (after_commit tx stamp o s)
  commit_keeps s tx c stamp None e committed same none_chosen w =
      record {
        less = w.less;
        volatile = w.volatile;
        stable = w.stable;
        own_closed = after_drop s tx s.volatile w.own_closed;
        prepared = w.prepared;
        promised = w.promised;
      }
  commit_keeps s tx c stamp (Some p) e committed same none_chosen w =
      let f = found tx s.prepared p e in
      let mine : (o : OwnLine) → In (Own o) p.items
      → IsOwnClosedAt decl executed chosen tx s.stable p.items o =
      λ o h. subst (λ (t : TxId). IsOwnClosedAt decl executed chosen t s.stable p.items o) f.1
      (w.promised p o (w.prepared p f.0) h) in
      let new : List Line = stamped_lines tx stamp p.items in
      record {
        less = λ l h. elim (In-either l (stamped_lines tx stamp p.items) s.stable h) [
          | inl a ↦ In-first l (stamped_lines tx stamp p.items) s.volatile a
          | inr b ↦ In-second l
              (stamped_lines tx stamp p.items) s.volatile (w.less l b)
        ];
        volatile = joins tx c stamp p.items s.volatile committed same none_chosen
            (λ o h. wider_own tx s.stable s.volatile p.items p.items o w.less (λ x k. k) (mine o h)) w.volatile;
        stable = joins tx c stamp p.items s.stable committed same none_chosen mine w.stable;
        own_closed = λ u o h. wider_own u s.volatile (stamped_lines tx stamp p.items ++ s.volatile)
            (items_of u (without_tx tx s.held)) (items_of u (without_tx tx s.held)) o
            (λ m k. In-second m (stamped_lines tx stamp p.items) s.volatile k) (λ x k. k)
            (after_drop s tx s.volatile w.own_closed u o h);
        prepared = λ q h. (let r = in_dropped q tx s.prepared h in dropped_in q tx s.promises (w.prepared q r.0) r.1);
        promised = λ q o h i. wider_own q.tx s.stable (stamped_lines tx stamp p.items ++ s.stable) q.items q.items o
            (λ m k. In-second m (stamped_lines tx stamp p.items) s.stable k) (λ x k. k)
            (w.promised q o (in_dropped q tx s.promises h).0 i);
      }

  -- what a deed brings: an Append's part, a verdict
  abbrev pub IsReady : Deed → Type 0
  IsReady (Grants tx items view) = IsAppendClosed decl status executed chosen tx items view
  IsReady (LearnsCommit tx stamp) = (c : CommitRecord) × (status tx ≡ Committed c) × (c.stamp ≡ stamp)
      × (chosen tx ≡ None)
  IsReady (Installs k c log) = (l : Line) → In l log → IsClosedAt decl status executed log l
  IsReady _ = Unit {0}

  pub deed_keeps_closed : (s : Site) (d : Deed) → IsReady d → IsSiteClosed decl status executed chosen s
      → IsSiteClosed decl status executed chosen (after_deed s d)
  deed_keeps_closed s (Grants tx items view) ok w = grants_keep s tx items view ok w
  deed_keeps_closed s (Prepares tx) ok w = prepare_keeps s tx (promise_of tx s.prepared) refl w
  deed_keeps_closed s (LearnsCommit tx stamp) ok w =
      commit_keeps s tx ok.0 stamp (promise_of tx s.prepared) refl ok.1 ok.2 ok.3 w
  deed_keeps_closed s (LearnsAbort tx) ok w =
      record {
        less = w.less;
        volatile = w.volatile;
        stable = w.stable;
        own_closed = after_drop s tx s.volatile w.own_closed;
        prepared = λ p h. w.prepared p (in_dropped p tx s.prepared h).0;
        promised = w.promised;
      }
  deed_keeps_closed s Closes ok w = record {
    less = w.less;
    volatile = w.volatile;
    stable = w.stable;
    own_closed = all_own_closed s.volatile s.prepared
        (λ p o h i. wider_own p.tx s.stable s.volatile p.items p.items o w.less (λ x k. k)
        (w.promised p o (w.prepared p h) i));
    prepared = w.prepared;
    promised = w.promised;
  }
  deed_keeps_closed s (Installs k c log) ok w =
      record {
        less = λ l h. h;
        volatile = ok;
        stable = ok;
        own_closed = λ tx o h. absurd h;
        prepared = λ p h. absurd h;
        promised = λ p o h. absurd h;
      }
  deed_keeps_closed s Rises ok w = record {
    less = λ l h. h;
    volatile = w.stable;
    stable = w.stable;
    own_closed = all_own_closed s.stable s.promises w.promised;
    prepared = λ p h. h;
    promised = w.promised;
  }
