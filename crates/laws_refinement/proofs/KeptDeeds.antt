-- What a site's records give of promises and of what is done, as its machine's site does one deed more.
use Rattle.std.proofs.Common.{[], ◌≡◌, ◌≢◌, ◌≤◌, ℕ, not, Bool, true, false, ◌⊎◌, inl, inr, List, ◌∷◌, ◌++◌, Option}
use Rattle.std.proofs.Common.{Some, None, is_some, refl, sym, ap, ◌∙◌, subst, arith}
use Rattle.qc_stamp.specs.declared.stamp.TxId.{TxId}
use Rattle.qc_stamp.specs.Vocabulary.{same_tx}
use Rattle.qc_stamp.proofs.Orders.{same_tx_is}
use Rattle.qc_list.specs.Vocabulary.{In}
use Rattle.qc_list.proofs.Members.{In-first, In-second, In-unfiltered, In-either}
use Rattle.qc_decl.specs.declared.declaration.Declaration.{Declaration}
use Rattle.qc_entry.specs.declared.line.Line.{Line}
use Rattle.qc_entry.specs.declared.record.Prepared.{Prepared}
use Rattle.qc_entry.specs.Vocabulary.{IsAscending, union}
use Rattle.qc_entry.proofs.Union.{ascending-union}
use Rattle.qc_msg.specs.declared.record.Record.TheVariants as records
use Rattle.theory_machine.specs.Vocabulary.{Closes, Deed, DoneRecord, Grants, Installs, LearnsAbort, LearnsCommit}
use Rattle.theory_machine.specs.Vocabulary.{NotBegun, Prepares, Promise, Rises, Site, Status, after_commit, after_deed}
use Rattle.theory_machine.specs.Vocabulary.{after_prepare, done_record, done_records, empty_site, epoch_from, items_of}
use Rattle.theory_machine.specs.Vocabulary.{promise_of, shut_from, site_after, site_from, without_promise}
use Rattle.theory_machine.proofs.Grants.{site_laws}
use Rattle.qc_site.specs.Vocabulary.{latest, prepared_of, without_prepared}
use Rattle.qc_site.proofs.Votes.{prepared-without, prepared-without_other}
use Rattle.qc_recover.specs.Vocabulary.{Kept, keeps, with_promise}
use Rattle.laws_refinement.specs.Vocabulary.{AreSingle, IsPromiseOf, KeptMirrors, kept_lines}
use Rattle.qc_site.proofs.KnownLines.{more_from, more_in}
use Rattle.laws_refinement.proofs.Machine.{LeavesEpoch, epoch_stays, install_old, shut_stays, single_from}
use Rattle.laws_refinement.proofs.Machine.{singles_dropped, site_more}
use Rattle.laws_refinement.proofs.Apart.{apart_more, aparts_dropped}
use Rattle.laws_refinement.proofs.Promises.{dropped_promise, found_last, found_other, gone, more_promise}
use Rattle.laws_refinement.proofs.SiteSteps.{latest_passes}
use Rattle.qc_site.proofs.Clocks.{latest_later}
use Rattle.theory_machine.proofs.Epochs.{epoch-append, shut-append}

-- a Done record is one that was there, or one of the last deed
done_more : (ds : List Deed) (d : Deed) (s : Site) (m : DoneRecord) → In m (done_records s (ds ++ d ∷ []))
    → In m (done_records s ds) ⊎ In m (done_records (site_from s ds) (d ∷ []))
done_more [] d s m h = inr h
done_more (Grants tx items view ∷ ds) d s m h = done_more ds d (after_deed s (Grants tx items view)) m h
done_more (Prepares tx ∷ ds) d s m h = done_more ds d (after_deed s (Prepares tx)) m h
done_more (LearnsCommit tx stamp ∷ ds) d s m h =
    by (In-either m (done_record tx stamp (promise_of tx s.prepared))
    (done_records (after_deed s (LearnsCommit tx stamp)) (ds ++ d ∷ [])) h)
    (done_more ds d (after_deed s (LearnsCommit tx stamp)) m)
  where
    by : In m (done_record tx stamp (promise_of tx s.prepared))
        ⊎ In m (done_records (after_deed s (LearnsCommit tx stamp)) (ds ++ d ∷ []))
        → (In m (done_records (after_deed s (LearnsCommit tx stamp)) (ds ++ d ∷ []))
        → In m (done_records (after_deed s (LearnsCommit tx stamp)) ds)
        ⊎ In m (done_records (site_from (after_deed s (LearnsCommit tx stamp)) ds) (d ∷ [])))
        → In m
        (done_record tx stamp (promise_of tx s.prepared) ++ done_records (after_deed s (LearnsCommit tx stamp)) ds)
        ⊎ In m (done_records (site_from (after_deed s (LearnsCommit tx stamp)) ds) (d ∷ []))
    by (inl x) rest =
        inl (In-first m (done_record tx stamp (promise_of tx s.prepared))
        (done_records (after_deed s (LearnsCommit tx stamp)) ds) x)
    by (inr x) rest =
        elim (rest x) [
          | inl y ↦ inl
              (In-second m (done_record tx stamp (promise_of tx s.prepared))
              (done_records (after_deed s (LearnsCommit tx stamp)) ds) y)
          | inr y ↦ inr y
        ]
done_more (LearnsAbort tx ∷ ds) d s m h = done_more ds d (after_deed s (LearnsAbort tx)) m h
done_more (Closes ∷ ds) d s m h = done_more ds d (after_deed s Closes) m h
done_more (Installs k c log ∷ ds) d s m h = done_more ds d (after_deed s (Installs k c log)) m h
done_more (Rises ∷ ds) d s m h = done_more ds d (after_deed s Rises) m h

-- a deed that leaves epoch, closing and Install records alone
pub record Leaves (ds : List Deed) (d : Deed) : Type 0 where
  pub epoch : epoch_from 1 (ds ++ d ∷ []) ≡ epoch_from 1 ds
  pub shut : shut_from false (ds ++ d ∷ []) ≡ shut_from false ds
  pub installs : (k c : ℕ) (log : List Line) → In (Installs k c log) (ds ++ d ∷ []) → In (Installs k c log) ds

pub leaves_epoch : (ds : List Deed) (d : Deed) → LeavesEpoch d → Leaves ds d
leaves_epoch ds d l =
    record {
      epoch = epoch_stays ds d l;
      shut = shut_stays ds d l;
      installs = λ k c log among. install_old ds d k c log l among;
    }

-- a rise too
pub leaves_life : (ds : List Deed) (d : Deed) → epoch_from (epoch_from 1 ds) (d ∷ []) ≡ epoch_from 1 ds
    → shut_from (shut_from false ds) (d ∷ []) ≡ shut_from false ds
    → ((k c : ℕ) (log : List Line) → Installs k c log ≡ d → ⊥) → Leaves ds d
leaves_life ds d epoch shut other = record {
  epoch = epoch-append ds (d ∷ []) 1 ∙ epoch;
  shut = shut-append ds (d ∷ []) false ∙ shut;
  installs =
      λ k c log among. elim (In-either (Installs k c log) ds (d ∷ []) among)
      [ inl old ↦ old | inr new ↦ elim new [ inl same ↦ absurd (other k c log same) | inr never ↦ absurd never ] ];
}

-- the machine's site has one promise of each transaction
single_deed : (s : Site) (d : Deed) → AreSingle s.promises → AreSingle (after_deed s d).promises
single_deed s (Grants tx items view) a = a
single_deed s (Prepares tx) a = by (promise_of tx s.prepared)
  where
    by : (o : Option Promise) → AreSingle (after_prepare tx o s).promises
    by None = (single_from tx (without_promise tx s.promises) (gone tx s.promises), singles_dropped tx s.promises a)
    by (Some p) = a
single_deed s (LearnsCommit tx stamp) a = by (promise_of tx s.prepared)
  where
    by : (o : Option Promise) → AreSingle (after_commit tx stamp o s).promises
    by None = a
    by (Some p) = singles_dropped tx s.promises a
single_deed s (LearnsAbort tx) a = a
single_deed s Closes a = a
single_deed s (Installs k c log) a = tt
single_deed s Rises a = a

pub single_promises : (ds : List Deed) (s : Site) → AreSingle s.promises → AreSingle (site_from s ds).promises
single_promises [] s a = a
single_promises (d ∷ ds) s a = single_promises ds (after_deed s d) (single_deed s d a)

-- where neither what is stable nor what is promised changes
pub kept_same : (decl : Declaration) (k : Kept) (status : TxId → Status) (life : ℕ) (ds : List Deed) (d : Deed)
    → Leaves ds d → KeptMirrors decl k status life ds
    → (after_deed (site_after ds) d).stable ≡ (site_after ds).stable
    → (after_deed (site_after ds) d).promises ≡ (site_after ds).promises
    → ((x : DoneRecord) → In x (done_records (site_after ds) (d ∷ [])) → x.stamp.clock ≤ k.clock)
    → KeptMirrors decl k status life (ds ++ d ∷ [])
kept_same decl k status life ds d leaves m stable promises done = record {
  life_is = m.life_is;
  epoch = (leaves).epoch ∙ m.epoch;
  planned = m.planned;
  shut = (leaves).shut ∙ m.shut;
  closing = m.closing;
  installs = λ n c log among. m.installs n c log (leaves.installs n c log among);
  stable = λ l among. m.stable l (back l among);
  kept =
      λ l among. subst (λ (s : Site). In l s.stable) (sym (site_more ds d))
      (subst (λ (ls : List Line). In l ls) (sym stable) (m.kept l among));
  sorted = m.sorted;
  done = λ x among. elim (done_more ds d empty_site x among) [ inl old ↦ m.done x old | inr new ↦ done x new ];
  passed = λ l among. m.passed l (back l among);
  promised =
      λ t. subst (λ (s : Site). IsPromiseOf (promise_of t s.promises) (prepared_of k.promises t)) (sym (site_more ds d))
      (subst (λ (ps : List Promise). IsPromiseOf (promise_of t ps) (prepared_of k.promises t)) (sym promises)
      (m.promised t));
  last = m.last;
  apart = m.apart;
  lined = m.lined;
  begun = m.begun;
}
  where
    back : (l : Line) → In l (site_after (ds ++ d ∷ [])).stable → In l (site_after ds).stable
    back l among =
        subst (λ (ls : List Line). In l ls) stable (subst (λ (s : Site). In l s.stable) (site_more ds d) among)

-- a promise is written
pub kept_prepares : (decl : Declaration) (k : Kept) (status : TxId → Status) (life : ℕ) (ds : List Deed) (p : Prepared)
    → KeptMirrors decl k status life ds
    → promise_of p.tx (site_after ds).prepared ≡ None
    → IsPromiseOf (Some (record { tx = p.tx; items = items_of p.tx (site_after ds).held })) (Some p)
    → ((l : Line) → In l (site_after ds).volatile → In l (kept_lines k) ⊎ In l p.lines)
    → ((l : Line) → In l p.lines → In l (site_after ds).volatile) → IsAscending p.lines
    → status p.tx ≢ NotBegun → KeptMirrors decl (keeps k (records.Prepare p)) status life (ds ++ Prepares p.tx ∷ [])
kept_prepares decl k status life ds p m none same whole lines ascends begun = record {
  life_is = m.life_is;
  epoch = (leaves_epoch ds (Prepares p.tx) tt).epoch ∙ m.epoch;
  planned = m.planned;
  shut = (leaves_epoch ds (Prepares p.tx) tt).shut ∙ m.shut;
  closing = m.closing;
  installs =
      λ n c log among. (let c_low : c ≤ k.clock =
      m.installs n c log ((leaves_epoch ds (Prepares p.tx) tt).installs n c log among) in
      let g : k.clock ≤ latest k.clock p.lines = latest_later k.clock p.lines in omega arith);
  stable = λ l among. into l (subst (λ (x : Site). In l x.stable) after among);
  kept = λ l among. subst (λ (x : Site). In l x.stable) (sym after) (elim (more_from l k.began k.lines p.lines among) [
    | inl old ↦ (site_laws ds).less l (m.kept l old)
    | inr new ↦ lines l new
  ]);
  sorted = (m.sorted.0, ascending-union k.lines p.lines m.sorted.1 ascends);
  done = λ x among. elim (done_more ds (Prepares p.tx) empty_site x among) [
    | inl old ↦
        (let c : x.stamp.clock ≤ k.clock = m.done x old in
        let g : k.clock ≤ latest k.clock p.lines = latest_later k.clock p.lines in omega arith)
    | inr never ↦ absurd never
  ];
  passed = λ l among. elim (whole l (subst (λ (x : Site). In l x.stable) after among)) [
    | inl old ↦
        (let c : l.stamp.clock ≤ k.clock = m.passed l (m.kept l old) in
        let g : k.clock ≤ latest k.clock p.lines = latest_later k.clock p.lines in omega arith)
    | inr new ↦ latest_passes k.clock p.lines l new
  ];
  promised =
      λ t. subst (λ (x : Site). IsPromiseOf (promise_of t x.promises) (prepared_of (with_promise k.promises p) t))
      (sym after)
      (more_promise p.tx t (record { tx = p.tx; items = items_of p.tx s.held }) p (without_promise p.tx s.promises)
      (without_prepared k.promises p.tx) refl refl (prepared-without k.promises p.tx) same
      (dropped_promise p.tx t s.promises k.promises (m.promised t)));
  last = last;
  apart =
      apart_more p (without_prepared k.promises p.tx)
      (ap (λ (o : Option Prepared). is_some o) (prepared-without k.promises p.tx))
      (aparts_dropped p.tx k.promises m.apart);
  lined = λ q among l has. elim (In-either q (without_prepared k.promises p.tx) (p ∷ []) among) [
    | inl old ↦
        more_in l k.began k.lines p.lines
        (inl (m.lined q (In-unfiltered (λ (x : Prepared). not (same_tx x.tx p.tx)) q k.promises old) l has))
    | inr new ↦
        elim new [
          | inl is ↦ more_in l k.began k.lines p.lines (inr (subst (λ (x : Prepared). In l x.lines) is has))
          | inr never ↦
              absurd never
        ]
  ];
  begun = λ q among. elim (In-either q (without_prepared k.promises p.tx) (p ∷ []) among) [
    | inl old ↦ m.begun q (In-unfiltered (λ (x : Prepared). not (same_tx x.tx p.tx)) q k.promises old)
    | inr new ↦
        elim new [ inl is ↦ subst (λ (x : Prepared). status x.tx ≢ NotBegun) (sym is) begun | inr never ↦ absurd never ]
  ];
}
  where
    s : Site
    s = site_after ds

    after : site_after (ds ++ Prepares p.tx ∷ []) ≡ after_prepare p.tx None (site_after ds)
    after = site_more ds (Prepares p.tx) ∙ ap (λ (o : Option Promise). after_prepare p.tx o (site_after ds)) none

    into : (l : Line) → In l (site_after ds).volatile → In l (union k.began (union k.lines p.lines))
    into l among = more_in l k.began k.lines p.lines (whole l among)

    last : (t : TxId) (q : Prepared) → prepared_of (with_promise k.promises p) t ≡ Some q
        → prepared_of (with_promise k.prepares p) t ≡ Some q
    last t q e = by (same_tx p.tx t) refl
      where
        by : (b : Bool) → same_tx p.tx t ≡ b → prepared_of (with_promise k.prepares p) t ≡ Some q
        by true is =
            let at : p.tx ≡ t = same_tx_is p.tx t is in
            let one : prepared_of (with_promise k.promises p) p.tx ≡ Some p =
            found_last p.tx p (without_prepared k.promises p.tx) refl (prepared-without k.promises p.tx) in
            let two : prepared_of (with_promise k.prepares p) p.tx ≡ Some p =
            found_last p.tx p (without_prepared k.prepares p.tx) refl (prepared-without k.prepares p.tx) in
            subst (λ (u : TxId). prepared_of (with_promise k.prepares p) u ≡ Some q) at
            (two ∙ sym one ∙ subst (λ (u : TxId). prepared_of (with_promise k.promises p) u ≡ Some q) (sym at) e)
        by false is =
            found_other t p (without_prepared k.prepares p.tx) is ∙ prepared-without_other k.prepares p.tx t is
            ∙ m.last t q
            (sym (prepared-without_other k.promises p.tx t is)
            ∙ sym (found_other t p (without_prepared k.promises p.tx) is) ∙ e)
