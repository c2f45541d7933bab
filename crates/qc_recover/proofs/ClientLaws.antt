-- Risen clients: what one record more gives, and what holds after any records.
use Rattle.std.proofs.Common.{arith, ◌≡◌, ◌≤◌, ◌<◌, ◌+◌, ◌⊎◌, inl, inr, ℕ, max, not, Bool, true, false, cond, List, []}
use Rattle.std.proofs.Common.{◌∷◌, ◌++◌, filter, fold, None, Some, refl, sym, ◌∙◌, ap, subst, ⊎_elim}
use Rattle.std.specs.Prelude.{count_by}
use Rattle.std.proofs.lemmas.Bool.{cases_lt}
use Rattle.std.proofs.lemmas.List.Sums.{fold-append, sum_by-cons}
use Rattle.qc_commit.specs.Vocabulary.{record_of}
use Rattle.qc_entry.specs.declared.record.Commit.{Commit}
use Rattle.qc_list.specs.Vocabulary.{In}
use Rattle.qc_lock.specs.Vocabulary.{same_tx}
use Rattle.qc_lock.proofs.Entries.{find-none}
use Rattle.qc_msg.specs.declared.record.Record.{Record}
use Rattle.qc_msg.specs.declared.record.Record.TheVariants as records
use Rattle.qc_stamp.specs.declared.stamp.TxId.{TxId}
use Rattle.qc_recover.specs.Vocabulary.{is_rise, with_commit}
use Rattle.qc_recover.specs.Clients.{Kept, keeps, kept_by, nothing_kept}
use Rattle.qc_stamp.proofs.Orders.{same_tx_itself, same_tx_is}

pub kept_more : (rs more : List Record) → kept_by (rs ++ more) ≡ fold keeps (kept_by rs) more
kept_more rs more = fold-append keeps nothing_kept rs more

-- lives

life_more : (k : Kept) (r : Record) → (keeps k r).life ≡ k.life + cond (is_rise r) 1 0
life_more k records.Life = omega arith
life_more k (records.Prepare p) = omega arith
life_more k (records.Done tx clock) = omega arith
life_more k (records.Close epoch) = omega arith
life_more k (records.Install start) = omega arith
life_more k (records.Commit commit) = omega arith
life_more k (records.Decide start) = omega arith

pub lives_from : (k : Kept) (rs : List Record) → (fold keeps k rs).life ≡ k.life + count_by is_rise rs
lives_from k [] = omega arith
lives_from k (r ∷ rs) =
    let here = life_more k r in
    let rest = lives_from (keeps k r) rs in
    let count = sum_by-cons (λ (q : Record). cond (is_rise q) 1 0) r rs in
    omega arith

-- the record of a transaction

find_last : (cs : List Commit) (c : Commit) → record_of cs c.tx ≡ None → record_of (cs ++ c ∷ []) c.tx ≡ Some c
find_last [] c none = ap (λ b. cond b (Some c) None) (same_tx_itself c.tx)
find_last (d ∷ ds) c none = by (same_tx d.tx c.tx) none (find_last ds c) where
  by : (b : Bool) → cond b (Some d) (record_of ds c.tx) ≡ None
      → (record_of ds c.tx ≡ None → record_of (ds ++ c ∷ []) c.tx ≡ Some c)
      → cond b (Some d) (record_of (ds ++ c ∷ []) c.tx) ≡ Some c
  by true none rest = absurd (let never : ⊥ = cc in never)
  by false none rest = rest none

pub last_known : (cs : List Commit) (c : Commit) → record_of (with_commit cs c) c.tx ≡ Some c
last_known cs c = find_last (filter (λ (d : Commit). not (same_tx d.tx c.tx)) cs) c
    (find-none (λ (d : Commit). same_tx d.tx c.tx) cs)

find_other : (cs : List Commit) (c : Commit) (tx : TxId) → same_tx c.tx tx ≡ false
    → record_of (cs ++ c ∷ []) tx ≡ record_of cs tx
find_other [] c tx other = ap (λ b. cond b (Some c) None) other
find_other (d ∷ ds) c tx other = ap (λ o. cond (same_tx d.tx tx) (Some d) o) (find_other ds c tx other)

find_filtered : (cs : List Commit) (of tx : TxId) → same_tx of tx ≡ false
    → record_of (filter (λ (d : Commit). not (same_tx d.tx of)) cs) tx ≡ record_of cs tx
find_filtered [] of tx other = refl
find_filtered (d ∷ ds) of tx other = by (same_tx d.tx of) refl (find_filtered ds of tx other) where
  left : List Commit
  left = filter (λ (e : Commit). not (same_tx e.tx of)) ds

  by : (b : Bool) → same_tx d.tx of ≡ b → record_of left tx ≡ record_of ds tx
      → record_of (cond (not b) (d ∷ left) left) tx ≡ record_of (d ∷ ds) tx
  by true same rest =
      let apart : same_tx d.tx tx ≡ false = subst (λ t. same_tx t tx ≡ false) (sym (same_tx_is d.tx of same)) other in
      rest ∙ sym (ap (λ b. cond b (Some d) (record_of ds tx)) apart)
  by false same rest = ap (λ o. cond (same_tx d.tx tx) (Some d) o) rest

pub others_known : (cs : List Commit) (c : Commit) (tx : TxId) → same_tx c.tx tx ≡ false
    → record_of (with_commit cs c) tx ≡ record_of cs tx
others_known cs c tx other =
    find_other (filter (λ (d : Commit). not (same_tx d.tx c.tx)) cs) c tx other ∙ find_filtered cs c.tx tx other

none_from : (k : Kept) (rs : List Record) (tx : TxId)
    → ((c : Commit) → In (records.Commit c) rs → same_tx c.tx tx ≡ false)
    → record_of (fold keeps k rs).commits tx ≡ record_of k.commits tx
none_from k [] tx none = refl
none_from k (r ∷ rs) tx none = none_from (keeps k r) rs tx (λ c later. none c (inr later))
    ∙ by r (λ c same. none c (inl (sym same))) where
      by : (r : Record) → ((c : Commit) → r ≡ records.Commit c → same_tx c.tx tx ≡ false)
          → record_of (keeps k r).commits tx ≡ record_of k.commits tx
      by records.Life here = refl
      by (records.Prepare p) here = refl
      by (records.Done t clock) here = refl
      by (records.Close epoch) here = refl
      by (records.Install start) here = refl
      by (records.Commit c) here = others_known k.commits c tx (here c refl)
      by (records.Decide start) here = refl

pub none_known : (rs : List Record) (tx : TxId) → ((c : Commit) → In (records.Commit c) rs → same_tx c.tx tx ≡ false)
    → record_of (kept_by rs).commits tx ≡ None
none_known rs tx none = none_from nothing_kept rs tx none

-- clocks

clock_grows : (k : Kept) (r : Record) → k.clock ≤ (keeps k r).clock
clock_grows k records.Life = omega arith
clock_grows k (records.Prepare p) = omega arith
clock_grows k (records.Done tx clock) = omega arith
clock_grows k (records.Close epoch) = omega arith
clock_grows k (records.Install start) = omega arith
clock_grows k (records.Commit commit) = omega arith
clock_grows k (records.Decide start) = omega arith

pub clocks_grow : (k : Kept) (rs : List Record) → k.clock ≤ (fold keeps k rs).clock
clocks_grow k [] = omega arith
clocks_grow k (r ∷ rs) = let here = clock_grows k r in let rest = clocks_grow (keeps k r) rs in omega arith

pub clocks_passed : (k : Kept) (rs : List Record) (c : Commit) → In (records.Commit c) rs
    → c.stamp.clock ≤ (fold keeps k rs).clock
clocks_passed k [] c member = absurd member
clocks_passed k (r ∷ rs) c (inl same) =
    let here : (keeps k r).clock ≡ max k.clock c.stamp.clock = ap (λ q. (keeps k q).clock) (sym same) in
    let rest = clocks_grow (keeps k r) rs in
    omega arith
clocks_passed k (r ∷ rs) c (inr later) = clocks_passed (keeps k r) rs c later

-- a number that the commits' clocks come to
abbrev pub IsReached : ℕ → List Record → ℕ → Type 0
IsReached from rs clock = (clock ≡ from) ⊎ ((c : Commit) × In (records.Commit c) rs × (clock ≡ c.stamp.clock))

max_either : (a b : ℕ) → (max a b ≡ a) ⊎ (max a b ≡ b)
max_either a b =
    ⊎_elim (λ (less : a < b). inr (omega arith)) (λ (past : b ≤ a). inl (omega arith)) (cases_lt a b)

clock_reached : (k : Kept) (r : Record) → IsReached k.clock (r ∷ []) (keeps k r).clock
clock_reached k records.Life = inl refl
clock_reached k (records.Prepare p) = inl refl
clock_reached k (records.Done tx clock) = inl refl
clock_reached k (records.Close epoch) = inl refl
clock_reached k (records.Install start) = inl refl
clock_reached k (records.Commit c) = by (max_either k.clock c.stamp.clock) where
  by : (max k.clock c.stamp.clock ≡ k.clock) ⊎ (max k.clock c.stamp.clock ≡ c.stamp.clock)
      → IsReached k.clock (records.Commit c ∷ []) (max k.clock c.stamp.clock)
  by (inl same) = inl same
  by (inr same) = inr (c, inl refl, same)
clock_reached k (records.Decide start) = inl refl

pub clocks_reached : (k : Kept) (rs : List Record) → IsReached k.clock rs (fold keeps k rs).clock
clocks_reached k [] = inl refl
clocks_reached k (r ∷ rs) = by (clocks_reached (keeps k r) rs) (clock_reached k r) where
  last : ℕ
  last = (fold keeps k (r ∷ rs)).clock

  by : IsReached (keeps k r).clock rs last → IsReached k.clock (r ∷ []) (keeps k r).clock
      → IsReached k.clock (r ∷ rs) last
  by (inl same) (inl before) = inl (same ∙ before)
  by (inl same) (inr (c, inl is, clock)) = inr (c, inl is, same ∙ clock)
  by (inl same) (inr (c, inr never, clock)) = absurd never
  by (inr (c, later, clock)) first = inr (c, inr later, clock)
