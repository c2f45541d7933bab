-- One deed more at a site of the machine.
use Rattle.std.proofs.Common.{◌≡◌, ◌≢◌, ℕ, ◌==◌, Bool, true, false, cond, ◌⊎◌, inl, inr, List, [], ◌∷◌, ◌++◌, Option}
use Rattle.std.proofs.Common.{Some, None, refl, sym, subst, eqb-true, eq-eqb}
use Rattle.qc_stamp.specs.declared.stamp.TxId.{TxId}
use Rattle.qc_stamp.specs.declared.stamp.Stamp.{Stamp}
use Rattle.qc_stamp.specs.Vocabulary.{same_tx}
use Rattle.qc_stamp.proofs.Orders.{other_tx_sym, same_tx_test}
use Rattle.qc_entry.specs.declared.line.Line.{Line}
use Rattle.qc_list.specs.Vocabulary.{In}
use Rattle.qc_list.proofs.Members.{In-first, In-second, In-either}
use Rattle.theory_machine.specs.Vocabulary.{Closes, Deed, DoneRecord, Grants, Installs, LearnsAbort, LearnsCommit}
use Rattle.theory_machine.specs.Vocabulary.{Prepares, Promise, Rises, Site, after_commit, after_deed, after_prepare}
use Rattle.theory_machine.specs.Vocabulary.{done_record, done_records, empty_site, epoch_from, promise_of, put}
use Rattle.theory_machine.specs.Vocabulary.{shut_from, site_after, without_promise}
use Rattle.theory_machine.proofs.SiteOrder.{after_append}
use Rattle.laws_refinement.specs.Vocabulary.{AreSingle, IsSingle}
use Rattle.theory_machine.proofs.Epochs.{epoch-append, shut-append}

pub put_one : {A : Type 0} (P : ℕ → A → Type 0) (f : ℕ → A) (k : ℕ) (v : A) (n : ℕ) → P k v → ((n ≢ k) → P n (f n))
    → P n (put f k v n)
put_one {A = A} P f k v n here there = by (n == k) refl
  where
    by : (b : Bool) → (n == k) ≡ b → P n (cond b v (f n))
    by true e = subst (λ (m : ℕ). P m v) (sym (eqb-true n k e)) here
    by false e = there (λ same. let t : (n == k) ≡ true = eq-eqb n k same in let never : ⊥ = cc in never)

pub put_other : {A : Type 0} (f : ℕ → A) (k : ℕ) (v : A) (n : ℕ) → n ≢ k → put f k v n ≡ f n
put_other {A = A} f k v n other = by (n == k) refl
  where
    by : (b : Bool) → (n == k) ≡ b → cond b v (f n) ≡ f n
    by true e = absurd (other (eqb-true n k e))
    by false e = refl

pub site_more : (ds : List Deed) (d : Deed) → site_after (ds ++ d ∷ []) ≡ after_deed (site_after ds) d
site_more ds d = after_append ds (d ∷ []) empty_site

-- a Done record is one that was there, or that of the last deed
abbrev pub IsDoneOf : Deed → DoneRecord → Type 0
IsDoneOf (LearnsCommit tx stamp) m = m ≡ record { tx = tx; stamp = stamp }
IsDoneOf _ m = ⊥

in_done : (tx : TxId) (stamp : Stamp) (p : Option Promise) (m : DoneRecord) → In m (done_record tx stamp p)
    → m ≡ record { tx = tx; stamp = stamp }
in_done tx stamp None m h = absurd h
in_done tx stamp (Some p) m (inl same) = same
in_done tx stamp (Some p) m (inr h) = absurd h

last_done : (d : Deed) (s : Site) (m : DoneRecord) → In m (done_records s (d ∷ [])) → IsDoneOf d m
last_done (Grants tx items view) s m h = absurd h
last_done (Prepares tx) s m h = absurd h
last_done (LearnsCommit tx stamp) s m h =
    elim (In-either m (done_record tx stamp (promise_of tx s.prepared)) [] h)
    [ inl x ↦ in_done tx stamp (promise_of tx s.prepared) m x | inr n ↦ absurd n ]
last_done (LearnsAbort tx) s m h = absurd h
last_done Closes s m h = absurd h
last_done (Installs k c log) s m h = absurd h
last_done Rises s m h = absurd h

pub done_last : (ds : List Deed) (d : Deed) (s : Site) (m : DoneRecord) → In m (done_records s (ds ++ d ∷ []))
    → In m (done_records s ds) ⊎ IsDoneOf d m
done_last [] d s m h = inr (last_done d s m h)
done_last (Grants tx items view ∷ ds) d s m h = done_last ds d (after_deed s (Grants tx items view)) m h
done_last (Prepares tx ∷ ds) d s m h = done_last ds d (after_deed s (Prepares tx)) m h
done_last (LearnsCommit tx stamp ∷ ds) d s m h =
    by (In-either m (done_record tx stamp (promise_of tx s.prepared))
    (done_records (after_deed s (LearnsCommit tx stamp)) (ds ++ d ∷ [])) h)
    (done_last ds d (after_deed s (LearnsCommit tx stamp)) m)
  where
    by : In m (done_record tx stamp (promise_of tx s.prepared))
        ⊎ In m (done_records (after_deed s (LearnsCommit tx stamp)) (ds ++ d ∷ []))
        → (In m (done_records (after_deed s (LearnsCommit tx stamp)) (ds ++ d ∷ []))
        → In m (done_records (after_deed s (LearnsCommit tx stamp)) ds) ⊎ IsDoneOf d m)
        → In m (done_record tx stamp (promise_of tx s.prepared) ++ done_records
        (after_deed s (LearnsCommit tx stamp)) ds) ⊎ IsDoneOf d m
    by (inl x) rest = inl (In-first m (done_record tx stamp (promise_of tx s.prepared))
        (done_records (after_deed s (LearnsCommit tx stamp)) ds) x)
    by (inr x) rest = elim (rest x) [
      | inl y ↦ inl
          (In-second m (done_record tx stamp (promise_of tx s.prepared))
          (done_records (after_deed s (LearnsCommit tx stamp)) ds) y)
      | inr y ↦ inr y
    ]
done_last (LearnsAbort tx ∷ ds) d s m h = done_last ds d (after_deed s (LearnsAbort tx)) m h
done_last (Closes ∷ ds) d s m h = done_last ds d (after_deed s Closes) m h
done_last (Installs k c log ∷ ds) d s m h = done_last ds d (after_deed s (Installs k c log)) m h
done_last (Rises ∷ ds) d s m h = done_last ds d (after_deed s Rises) m h

-- one deed more: the epoch, whether it is shut, and its Install records

-- a deed that leaves epoch and closing alone
abbrev pub LeavesEpoch : Deed → Type 0
LeavesEpoch (Grants t items view) = Unit {0}
LeavesEpoch (Prepares t) = Unit {0}
LeavesEpoch (LearnsCommit t stamp) = Unit {0}
LeavesEpoch (LearnsAbort t) = Unit {0}
LeavesEpoch Closes = ⊥
LeavesEpoch (Installs k c log) = ⊥
LeavesEpoch Rises = ⊥

pub epoch_stays : (ds : List Deed) (d : Deed) → LeavesEpoch d → epoch_from 1 (ds ++ d ∷ []) ≡ epoch_from 1 ds
epoch_stays ds (Grants t items view) l = epoch-append ds (Grants t items view ∷ []) 1
epoch_stays ds (Prepares t) l = epoch-append ds (Prepares t ∷ []) 1
epoch_stays ds (LearnsCommit t stamp) l = epoch-append ds (LearnsCommit t stamp ∷ []) 1
epoch_stays ds (LearnsAbort t) l = epoch-append ds (LearnsAbort t ∷ []) 1
epoch_stays ds Closes l = absurd l
epoch_stays ds (Installs k c log) l = absurd l
epoch_stays ds Rises l = absurd l

pub shut_stays : (ds : List Deed) (d : Deed) → LeavesEpoch d → shut_from false (ds ++ d ∷ []) ≡ shut_from false ds
shut_stays ds (Grants t items view) l = shut-append ds (Grants t items view ∷ []) false
shut_stays ds (Prepares t) l = shut-append ds (Prepares t ∷ []) false
shut_stays ds (LearnsCommit t stamp) l = shut-append ds (LearnsCommit t stamp ∷ []) false
shut_stays ds (LearnsAbort t) l = shut-append ds (LearnsAbort t ∷ []) false
shut_stays ds Closes l = absurd l
shut_stays ds (Installs k c log) l = absurd l
shut_stays ds Rises l = absurd l

pub install_old : (ds : List Deed) (d : Deed) (k c : ℕ) (log : List Line) → LeavesEpoch d
    → In (Installs k c log) (ds ++ d ∷ []) → In (Installs k c log) ds
install_old ds d k c log l h = elim (In-either (Installs k c log) ds (d ∷ []) h) [
  | inl old ↦ old
  | inr new ↦ elim new [
    | inl same ↦ absurd
        (subst (λ (x : Deed). LeavesEpoch x) (sym same) l)
    | inr never ↦ absurd never
  ]
]

-- the machine's promises: of each transaction at most one

single_dropped : (tx u : TxId) (ps : List Promise) → IsSingle u ps → IsSingle u (without_promise tx ps)
single_dropped tx u [] s = tt
single_dropped tx u (p ∷ ps) s = by (same_tx tx p.tx) (single_dropped tx u ps s.1)
  where
    by : (b : Bool) → IsSingle u (without_promise tx ps)
        → IsSingle u (cond b (without_promise tx ps) (p ∷ without_promise tx ps))
    by true rest = rest
    by false rest = (s.0, rest)

pub singles_dropped : (tx : TxId) (ps : List Promise) → AreSingle ps → AreSingle (without_promise tx ps)
singles_dropped tx [] s = tt
singles_dropped tx (p ∷ ps) s = by (same_tx tx p.tx) (singles_dropped tx ps s.1)
  where
    by : (b : Bool) → AreSingle (without_promise tx ps)
        → AreSingle (cond b (without_promise tx ps) (p ∷ without_promise tx ps))
    by true rest = rest
    by false rest = (single_dropped tx p.tx ps s.0, rest)

pub single_from : (tx : TxId) (ps : List Promise) → promise_of tx ps ≡ None → IsSingle tx ps
single_from tx [] e = tt
single_from tx (p ∷ ps) e = by (same_tx tx p.tx) refl (single_from tx ps) e
  where
    by : (b : Bool) → same_tx tx p.tx ≡ b → (promise_of tx ps ≡ None → IsSingle tx ps)
        → cond b (Some p) (promise_of tx ps) ≡ None → IsSingle tx (p ∷ ps)
    by true is rest k = absurd (let never : ⊥ = cc in never)
    by false is rest k = (is, rest k)

pub single_prepare : (tx : TxId) (o : Option Promise) (s : Site) → promise_of tx s.prepared ≡ o → AreSingle s.prepared
    → AreSingle (after_prepare tx o s).prepared
single_prepare tx (Some p) s is a = a
single_prepare tx None s is a = (single_from tx s.prepared is, a)

pub single_commit : (tx : TxId) (stamp : Stamp) (o : Option Promise) (s : Site) → AreSingle s.prepared
    → AreSingle (after_commit tx stamp o s).prepared
single_commit tx stamp (Some p) s a = singles_dropped tx s.prepared a
single_commit tx stamp None s a = a

pub single_more : (ds : List Deed) (d : Deed) → (d ≡ Rises → ⊥) → AreSingle (site_after ds).prepared
    → AreSingle (site_after (ds ++ d ∷ [])).prepared
single_more ds d not_rise a = subst (λ (k : Site). AreSingle k.prepared) (sym (site_more ds d)) (by d not_rise)
  where
    by : (d : Deed) → (d ≡ Rises → ⊥) → AreSingle (after_deed (site_after ds) d).prepared
    by (Grants t items view) n = a
    by (Prepares t) n = single_prepare t (promise_of t (site_after ds).prepared) (site_after ds) refl a
    by (LearnsCommit t stamp) n = single_commit t stamp (promise_of t (site_after ds).prepared) (site_after ds) a
    by (LearnsAbort t) n = singles_dropped t (site_after ds).prepared a
    by Closes n = a
    by (Installs k c log) n = tt
    by Rises n = absurd (n refl)

-- a promise among them is the one that is found
pub single_found : (p : Promise) (ps : List Promise) → AreSingle ps → In p ps → promise_of p.tx ps ≡ Some p
single_found p [] a h = absurd h
single_found p (q ∷ qs) a (inl same) = subst (λ (x : Promise). promise_of x.tx (q ∷ qs) ≡ Some x) (sym same)
    (rw (same_tx_test q.tx q.tx refl) refl)
single_found p (q ∷ qs) a (inr h) = rw (other qs a.0 h) (single_found p qs a.1 h)
  where
    other : (xs : List Promise) → IsSingle q.tx xs → In p xs → same_tx p.tx q.tx ≡ false
    other [] s among = absurd among
    other (x ∷ xs) s (inl same) = subst (λ (y : Promise). same_tx y.tx q.tx ≡ false) (sym same)
        (other_tx_sym q.tx x.tx s.0)
    other (x ∷ xs) s (inr among) = other xs s.1 among
