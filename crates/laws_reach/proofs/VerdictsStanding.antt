-- How a transaction stands at its client, while that is up and while it is down, and as it rises.
use Rattle.std.proofs.Common.{[], ◌≡◌, ℕ, ◌<◌, ◌⊎◌, not, inl, inr, Bool, true, false, List, ◌∷◌, ◌++◌, filter, fold}
use Rattle.std.proofs.Common.{None, refl, sym, ap, ◌∙◌, subst, arith}
use Rattle.std.specs.List.{AllByRecursion as Every}
use Rattle.std.proofs.lemmas.List.Sums.{fold-append}
use Rattle.qc_list.specs.Vocabulary.{In}
use Rattle.qc_list.proofs.Members.{In-filter, In-first, In-last, In-more, In-unfiltered, every-In}
use Rattle.qc_entry.specs.declared.record.Commit.{Commit}
use Rattle.qc_msg.specs.declared.record.Record.{Record}
use Rattle.qc_msg.specs.declared.record.Record.TheVariants as records
use Rattle.qc_promise.specs.Vocabulary.{Committed, Status}
use Rattle.laws_turns.proofs.DealingParts.{HasRecord}
use Rattle.laws_turns.proofs.Statuses.{Page}
use Rattle.qc_recover.specs.Clients.{Kept, keeps, kept_by, nothing_kept}
use Rattle.qc_stamp.specs.declared.stamp.Stamp.{Stamp}
use Rattle.qc_stamp.specs.declared.stamp.TxId.{TxId}
use Rattle.qc_stamp.specs.Vocabulary.{same_tx}
use Rattle.qc_stamp.proofs.Orders.{same_tx_is, same_tx_itself}
use Rattle.laws_reach.specs.Vocabulary.{IsRecorded}
use Rattle.laws_reach.proofs.Rises.{IsShown}
use Rattle.laws_reach.proofs.StatusFalls.{Up, Risen}

module _ (tx : TxId) where
  -- its commits are those of its records, the last one of each transaction

  kept_in : (x : Kept) (rs : List Record) (c : Commit) → In c (fold keeps x rs).commits
      → In c x.commits ⊎ In (records.Commit c) rs
  kept_in x [] c among = inl among
  kept_in x (r ∷ rs) c among = by r (kept_in (keeps x r) rs c among) where
    by : (r : Record) → In c (keeps x r).commits ⊎ In (records.Commit c) rs
        → In c x.commits ⊎ In (records.Commit c) (r ∷ rs)
    by r (inr later) = inr (inr later)
    by records.Life (inl old) = inl old
    by (records.Prepare p) (inl old) = inl old
    by (records.Done other clock) (inl old) = inl old
    by (records.Close epoch) (inl old) = inl old
    by (records.Install start) (inl old) = inl old
    by (records.Commit one) (inl old) =
        of (In-more c one (filter (λ (d : Commit). not (same_tx d.tx one.tx)) x.commits) old) where
          of : In c (filter (λ (d : Commit). not (same_tx d.tx one.tx)) x.commits) ⊎ (c ≡ one)
              → In c x.commits ⊎ In (records.Commit c) (records.Commit one ∷ rs)
          of (inl before) = inl (In-unfiltered (λ (d : Commit). not (same_tx d.tx one.tx)) c x.commits before)
          of (inr last) = inr (inl (ap (λ (d : Commit). records.Commit d) last))
    by (records.Decide start) (inl old) = inl old

  record HasOne (cs : List Commit) : Type 0 where
    commit : Commit
    among : In commit cs
    named : commit.tx ≡ tx

  kept_has : (x : Kept) (rs : List Record) (c : Commit) → c.tx ≡ tx → In (records.Commit c) rs ⊎ In c x.commits
      → HasOne (fold keeps x rs).commits
  kept_has x [] c its (inl never) = absurd never
  kept_has x [] c its (inr among) = record { commit = c; among = among; named = its }
  kept_has x (r ∷ rs) c its (inl (inr later)) = kept_has (keeps x r) rs c its (inl later)
  kept_has x (r ∷ rs) c its (inl (inl same)) =
      kept_has (keeps x r) rs c its
      (inr (subst (λ (w : Record). In c (keeps x w).commits) same
      (In-last c (filter (λ (d : Commit). not (same_tx d.tx c.tx)) x.commits))))
  kept_has x (r ∷ rs) c its (inr old) = by r (λ y d same among. kept_has y rs d same (inr among)) where
    by : (r : Record) → ((y : Kept) (d : Commit) → d.tx ≡ tx → In d y.commits → HasOne (fold keeps y rs).commits)
        → HasOne (fold keeps (keeps x r) rs).commits
    by records.Life rest = rest (keeps x records.Life) c its old
    by (records.Prepare p) rest = rest x c its old
    by (records.Done other clock) rest = rest x c its old
    by (records.Close epoch) rest = rest x c its old
    by (records.Install start) rest = rest x c its old
    by (records.Commit one) rest = on (same_tx c.tx one.tx) refl where
      on : (t : Bool) → same_tx c.tx one.tx ≡ t → HasOne (fold keeps (keeps x (records.Commit one)) rs).commits
      on true same =
          rest (keeps x (records.Commit one)) one (sym (same_tx_is c.tx one.tx same) ∙ its)
          (In-last one (filter (λ (d : Commit). not (same_tx d.tx one.tx)) x.commits))
      on false other =
          rest (keeps x (records.Commit one)) c its
          (In-first c (filter (λ (d : Commit). not (same_tx d.tx one.tx)) x.commits) (one ∷ [])
          (In-filter (λ (d : Commit). not (same_tx d.tx one.tx)) c x.commits old (ap not other)))
    by (records.Decide start) rest = rest x c its old

  -- and it is up, its life written
  abbrev pub whole : List Record → List Record
  whole rs = rs ++ records.Life ∷ []

  abbrev pub risen_page : ℕ → List Record → Page
  risen_page k rs =
      record {
        client = k;
        life = (kept_by (whole rs)).life;
        count = 0;
        commits = (kept_by (whole rs)).commits;
        name = None;
      }

  pub risen_up : (s : Status) (rs : List Record) (k : ℕ) → Risen tx s rs k → Every (IsShown tx s) (whole rs)
      → Up tx s (record { records = whole rs; pending = None }) k (risen_page k rs)
  risen_up s rs k r shown = record {
    status = record {
      begun = λ is. absurd (let never : ⊥ = cc in never);
      is_begun = λ is. absurd (r.live is);
      committed = λ c among its. shows c (listed c among) its;
      is_committed = λ stamp is. by_committed stamp is (r.listed stamp is);
      unborn = λ life mine count. r.later (sym mine) (subst (λ (n : ℕ). (kept_by rs).life < n) life lower);
      mine = r.mine;
    };
    listed = listed;
    life = refl;
    own = refl;
    later =
        λ mine low. r.later mine
        (let a : (kept_by rs).life < (kept_by (whole rs)).life = lower in
        let b : (kept_by (whole rs)).life < tx.life = low in omega arith);
    none = refl;
  } where
    lower : (kept_by rs).life < (kept_by (whole rs)).life
    lower =
        subst (λ (x : Kept). (kept_by rs).life < x.life) (sym (fold-append keeps nothing_kept rs (records.Life ∷ [])))
        (omega arith)

    listed : (c : Commit) → In c (kept_by (whole rs)).commits → In (records.Commit c) (whole rs)
    listed c among = by (kept_in nothing_kept (whole rs) c among) where
      by : In c [] ⊎ In (records.Commit c) (whole rs) → In (records.Commit c) (whole rs)
      by (inl never) = absurd never
      by (inr is) = is

    shows : (c : Commit) → In (records.Commit c) (whole rs) → c.tx ≡ tx → s ≡ Committed c.stamp
    shows c among its =
        every-In (IsShown tx s) (records.Commit c) (whole rs) shown among
        (subst (λ (t : TxId). same_tx c.tx t ≡ true) its (same_tx_itself c.tx))

    by_committed : (stamp : Stamp) → s ≡ Committed stamp → IsRecorded tx stamp rs
        → HasRecord (kept_by (whole rs)).commits tx stamp
    by_committed stamp is l =
        let one : HasOne (kept_by (whole rs)).commits =
        kept_has nothing_kept (whole rs) l.commit l.named
        (inl (In-first (records.Commit l.commit) rs (records.Life ∷ []) l.listed)) in
        let e : Committed one.commit.stamp ≡ Committed stamp =
        sym (shows one.commit (listed one.commit one.among) one.named) ∙ is in
        record { commit = one.commit; listed = one.among; named = one.named; stamped = cc }
