-- How a transaction stands at its client while that is up, down, and risen: lives only grow.
use Rattle.std.proofs.Common.{◌≡◌, ◌≢◌, ℕ, ◌<◌, ◌≤◌, ◌⊎◌, inl, inr, Bool, true, false, cond, List, [], ◌∷◌, ◌++◌}
use Rattle.std.proofs.Common.{fold, Option, Some, None, option_to_list, refl, sym, ap, ◌∙◌, subst, arith}
use Rattle.std.specs.Option.{option_map_or}
use Rattle.std.specs.List.{AllByRecursion as Every}
use Rattle.std.proofs.lemmas.List.Sums.{fold-append}
use Rattle.qc_list.specs.Vocabulary.{In}
use Rattle.qc_list.proofs.Members.{In-first, every-In}
use Rattle.qc_entry.specs.declared.record.Commit.{Commit}
use Rattle.qc_msg.specs.declared.record.Record.{Record}
use Rattle.qc_msg.specs.declared.record.Record.TheVariants as records
use Rattle.qc_promise.specs.Vocabulary.{AreRightKept, Begun, Committed, Dead, IsGivenBack, IsRightKept, IsRightRecord}
use Rattle.qc_promise.specs.Vocabulary.{Journal, Status, Unborn, given_up, status_risen, status_written}
use Rattle.laws_turns.proofs.DealingParts.{HasRecord}
use Rattle.laws_turns.proofs.Statuses.{IsStatus, Page}
use Rattle.qc_recover.specs.Clients.{Kept, keeps, kept_by, nothing_kept}
use Rattle.qc_stamp.specs.declared.stamp.Stamp.{Stamp}
use Rattle.qc_stamp.specs.declared.stamp.TxId.{TxId}
use Rattle.qc_stamp.specs.Vocabulary.{same_tx}
use Rattle.qc_stamp.proofs.Orders.{same_tx_is, same_tx_itself}
use Rattle.laws_reach.specs.Vocabulary.{IsRecorded}
use Rattle.laws_reach.proofs.RecordCases.{commit_cases}
use Rattle.laws_reach.proofs.RisingStamps.{grown_one}

pub listed_more : (tx : TxId) (stamp : Stamp) (xs ys : List Record) → IsRecorded tx stamp xs
    → IsRecorded tx stamp (xs ++ ys)
listed_more tx stamp xs ys l =
    record {
      commit = l.commit;
      listed = In-first (records.Commit l.commit) xs ys l.listed;
      named = l.named;
      stamped = l.stamped;
    }

pub record Up (tx : TxId) (s : Status) (j : Journal) (k : ℕ) (p : Page) : Type 0 where
  pub status : IsStatus tx s p
  pub listed : (c : Commit) → In c p.commits → In (records.Commit c) j.records
  pub life : p.life ≡ (kept_by j.records).life
  pub own : p.client ≡ k
  pub later : tx.client ≡ k → p.life < tx.life → s ≡ Unborn
  pub none : j.pending ≡ None

pub record Down (tx : TxId) (s : Status) (j : Journal) (k : ℕ) : Type 0 where
  pub listed : (stamp : Stamp) → s ≡ Committed stamp → IsRecorded tx stamp j.records
  pub pending : Every (IsRightRecord tx s) (option_to_list j.pending)
  pub later : tx.client ≡ k → (kept_by j.records).life < tx.life → s ≡ Unborn
  pub mine : s ≢ Unborn → tx.client ≡ k

-- it falls
pub up_down : (tx : TxId) (s : Status) (j : Journal) (k : ℕ) (p : Page) (o : Option Record) → Up tx s j k p
    → Every (IsRightRecord tx s) (option_to_list o) → Down tx s (record j { pending = o }) k
up_down tx s j k p o u pending = record {
  listed = λ stamp is. (let r : HasRecord p.commits tx stamp = u.status.is_committed stamp is in
      record { commit = r.commit; listed = u.listed r.commit r.listed; named = r.named; stamped = r.stamped });
  pending = pending;
  later = λ mine low. u.later mine (subst (λ (n : ℕ). n < tx.life) (sym u.life) low);
  mine = λ born. u.status.mine born ∙ u.own;
}

-- lives only grow

pub grows : (k : Kept) (rs : List Record) → k.life ≤ (fold keeps k rs).life
grows k [] = omega arith
grows k (r ∷ rs) =
    let one : k.life ≤ (keeps k r).life = (grown_one k r).0 in
    let rest : (keeps k r).life ≤ (fold keeps (keeps k r) rs).life = grows (keeps k r) rs in omega arith

pub lives_grow : (xs ys : List Record) → (kept_by xs).life ≤ (kept_by (xs ++ ys)).life
lives_grow xs ys =
    subst (λ (k : Kept). (kept_by xs).life ≤ k.life) (sym (fold-append keeps nothing_kept xs ys))
    (grows (kept_by xs) ys)

-- what rises leaves the status, or it committed by one of the records

module _ (tx : TxId) where
  pub record Rose (rs : List Record) (s : Status) : Type 0 where
    pub stamp : Stamp
    pub is : s ≡ Committed stamp
    pub listed : IsRecorded tx stamp rs

  rose : (s : Status) (rs : List Record) → (fold (status_written tx) s rs ≡ s) ⊎ Rose rs (fold (status_written tx) s rs)
  rose s [] = inl refl
  rose s (w ∷ rs) = by w (rose (status_written tx s w) rs) where
    later : (w : Record) (v : Status) → Rose rs v → Rose (w ∷ rs) v
    later w v r =
        record {
          stamp = r.stamp;
          is = r.is;
          listed = record {
            commit = r.listed.commit;
            listed = inr r.listed.listed;
            named = r.listed.named;
            stamped = r.listed.stamped;
          };
        }

    same : (w : Record) → (fold (status_written tx) s rs ≡ s) ⊎ Rose rs (fold (status_written tx) s rs)
        → (fold (status_written tx) s rs ≡ s) ⊎ Rose (w ∷ rs) (fold (status_written tx) s rs)
    same w (inl still) = inl still
    same w (inr r) = inr (later w (fold (status_written tx) s rs) r)

    commits : (c : Commit) (t : Bool) → same_tx c.tx tx ≡ t
        → (fold (status_written tx) (cond t (Committed c.stamp) s) rs ≡ cond t (Committed c.stamp) s)
        ⊎ Rose rs (fold (status_written tx) (cond t (Committed c.stamp) s) rs)
        → (fold (status_written tx) (cond t (Committed c.stamp) s) rs ≡ s)
        ⊎ Rose (records.Commit c ∷ rs) (fold (status_written tx) (cond t (Committed c.stamp) s) rs)
    commits c true its (inl still) =
        inr (record {
          stamp = c.stamp;
          is = still;
          listed = record { commit = c; listed = inl refl; named = same_tx_is c.tx tx its; stamped = refl };
        })
    commits c true its (inr r) = inr (later (records.Commit c) (fold (status_written tx) (Committed c.stamp) rs) r)
    commits c false other (inl still) = inl still
    commits c false other (inr r) = inr (later (records.Commit c) (fold (status_written tx) s rs) r)

    by : (w : Record)
        → (fold (status_written tx) (status_written tx s w) rs ≡ status_written tx s w)
        ⊎ Rose rs (fold (status_written tx) (status_written tx s w) rs)
        → (fold (status_written tx) (status_written tx s w) rs ≡ s)
        ⊎ Rose (w ∷ rs) (fold (status_written tx) (status_written tx s w) rs)
    by w rest =
        commit_cases
        (λ w o. (let next : Status =
        option_map_or (λ (c : Commit). cond (same_tx c.tx tx) (Committed c.stamp) s) o s in
        (fold (status_written tx) next rs ≡ next) ⊎ Rose rs (fold (status_written tx) next rs)
        → (fold (status_written tx) next rs ≡ s) ⊎ Rose (w ∷ rs) (fold (status_written tx) next rs)))
        (λ c rest. commits c (same_tx c.tx tx) refl rest) (λ w none rest. same w rest) w rest

  given_committed : (s : Status) (stamp : Stamp) → given_up s ≡ Committed stamp → s ≡ Committed stamp
  given_committed Unborn stamp is = absurd (let never : ⊥ = cc in never)
  given_committed Begun stamp is = absurd (let never : ⊥ = cc in never)
  given_committed (Committed old) stamp is = is
  given_committed Dead stamp is = absurd (let never : ⊥ = cc in never)

  given_begun : (s : Status) → given_up s ≡ Begun → ⊥
  given_begun Unborn is = let never : ⊥ = cc in never
  given_begun Begun is = let never : ⊥ = cc in never
  given_begun (Committed old) is = let never : ⊥ = cc in never
  given_begun Dead is = let never : ⊥ = cc in never

  -- it has risen with these records
  pub record Risen (s : Status) (rs : List Record) (k : ℕ) : Type 0 where
    pub listed : (stamp : Stamp) → s ≡ Committed stamp → IsRecorded tx stamp rs
    pub live : s ≡ Begun → ⊥
    pub later : tx.client ≡ k → (kept_by rs).life < tx.life → s ≡ Unborn
    pub mine : s ≢ Unborn → tx.client ≡ k

  module _ (s : Status) (j : Journal) (k : ℕ) (d : Down tx s j k) (rs : List Record)
      (right : AreRightKept tx s rs) where
    born_by : (stamp : Stamp) → IsRecorded tx stamp rs → s ≢ Unborn
    born_by stamp l none =
        by (every-In (IsRightKept tx s) (records.Commit l.commit) rs right l.listed
        (subst (λ (t : TxId). same_tx l.commit.tx t ≡ true) l.named (same_tx_itself l.commit.tx)))
      where
        by : (s ≡ Begun) ⊎ (s ≡ Committed l.commit.stamp) → ⊥
        by (inl is) = let never : ⊥ = cc in never
        by (inr is) = let never : ⊥ = cc in never

    pub rises_from : ((stamp : Stamp) → IsRecorded tx stamp j.records → IsRecorded tx stamp rs)
        → (kept_by j.records).life ≤ (kept_by rs).life → Risen (status_risen tx s rs) rs k
    rises_from more low = record {
      listed = λ stamp is. by_listed stamp is (rose (given_up s) rs);
      live = λ is. by_live is (rose (given_up s) rs);
      later =
          λ mine lower. by_later (d.later mine
          (let a : (kept_by j.records).life ≤ (kept_by rs).life = low in
          let b : (kept_by rs).life < tx.life = lower in omega arith)) (rose (given_up s) rs);
      mine = λ born. by_mine born (rose (given_up s) rs);
    } where
      Case : Type 0
      Case = (status_risen tx s rs ≡ given_up s) ⊎ Rose rs (status_risen tx s rs)

      by_listed : (stamp : Stamp) → status_risen tx s rs ≡ Committed stamp → Case → IsRecorded tx stamp rs
      by_listed stamp is (inl still) = more stamp (d.listed stamp (given_committed s stamp (sym still ∙ is)))
      by_listed stamp is (inr r) =
          subst (λ (x : Stamp). IsRecorded tx x rs)
          (let e : Committed r.stamp ≡ Committed stamp = sym r.is ∙ is in let same : r.stamp ≡ stamp = cc in same)
          r.listed

      by_live : status_risen tx s rs ≡ Begun → Case → ⊥
      by_live is (inl still) = given_begun s (sym still ∙ is)
      by_live is (inr r) = let e : Committed r.stamp ≡ Begun = sym r.is ∙ is in let never : ⊥ = cc in never

      by_later : s ≡ Unborn → Case → status_risen tx s rs ≡ Unborn
      by_later is (inl still) = still ∙ ap given_up is
      by_later is (inr r) = absurd (born_by r.stamp r.listed is)

      by_mine : status_risen tx s rs ≢ Unborn → Case → tx.client ≡ k
      by_mine born (inl still) = d.mine (λ is. born (still ∙ ap given_up is))
      by_mine born (inr r) = d.mine (born_by r.stamp r.listed)

  pub rises_back : (s : Status) (j : Journal) (k : ℕ) → Down tx s j k → (rs : List Record) → IsGivenBack j rs
      → AreRightKept tx s rs → Risen (status_risen tx s rs) rs k
  rises_back s j k d rs (inl same) right =
      rises_from s j k d rs right (λ stamp l. subst (IsRecorded tx stamp) (sym same) l)
      (subst (λ (xs : List Record). (kept_by j.records).life ≤ (kept_by xs).life) (sym same) (omega arith))
  rises_back s j k d rs (inr both) right =
      rises_from s j k d rs right
      (λ stamp l. subst (IsRecorded tx stamp) (sym both)
      (listed_more tx stamp j.records (option_to_list j.pending) l))
      (subst (λ (xs : List Record). (kept_by j.records).life ≤ (kept_by xs).life) (sym both)
      (lives_grow j.records (option_to_list j.pending)))

  -- and it falls again, its life unwritten
  pub falls_again : (s : Status) (rs : List Record) (k : ℕ) → Risen s rs k
      → Down tx s (record { records = rs; pending = Some records.Life }) k
  falls_again s rs k r = record { listed = r.listed; pending = (tt, tt); later = r.later; mine = r.mine }
