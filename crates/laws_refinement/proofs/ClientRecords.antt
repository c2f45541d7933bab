-- What a client's records give, with one more: its commit records, and a clock that has passed their stamps.
use Rattle.std.proofs.Common.{◌≡◌, ◌≤◌, not, Bool, true, false, cond, ◌⊎◌, inl, inr, List, [], ◌∷◌, ◌++◌, Option, Some}
use Rattle.std.proofs.Common.{◌+◌, max, None, filter, fold, refl, sym, ap, ◌∙◌, subst, arith}
use Rattle.std.specs.Option.{option_map_or}
use Rattle.qc_stamp.specs.declared.stamp.TxId.{TxId}
use Rattle.qc_stamp.specs.Vocabulary.{same_tx}
use Rattle.qc_stamp.proofs.Orders.{same_tx_is, same_tx_test}
use Rattle.qc_list.specs.Vocabulary.{In}
use Rattle.qc_list.proofs.Members.{In-unfiltered, In-either}
use Rattle.qc_entry.specs.declared.record.Commit.{Commit as CommitRecord}
use Rattle.qc_msg.specs.declared.record.Record.{Record}
use Rattle.qc_msg.specs.Vocabulary.{commit_of, is_life}
use Rattle.qc_commit.specs.Vocabulary.{record_of}
use Rattle.qc_recover.specs.Vocabulary.{with_commit}
use Rattle.qc_recover.specs.Clients.{Kept, keeps, kept_by, nothing_kept}

-- records, one more

pub kept_from : (k : Kept) (rs : List Record) (r : Record) → fold keeps k (rs ++ r ∷ []) ≡ keeps (fold keeps k rs) r
kept_from k [] r = refl
kept_from k (x ∷ xs) r = kept_from (keeps k x) xs r

pub client_kept_more : (rs : List Record) (r : Record) → kept_by (rs ++ r ∷ []) ≡ keeps (kept_by rs) r
client_kept_more rs r = kept_from nothing_kept rs r

-- the clock passes each stamp

abbrev pub ArePassed : Kept → Type 0
ArePassed k = (r : CommitRecord) → In r k.commits → r.stamp.clock ≤ k.clock

pub passes_one : (k : Kept) (r : Record) → ArePassed k → ArePassed (keeps k r)
passes_one k r p = by (is_life r) (commit_of r)
  where
    with_it : (c x : CommitRecord)
        → In x (filter (λ (y : CommitRecord). not (same_tx y.tx c.tx)) k.commits ++ c ∷ [])
        → x.stamp.clock ≤ max k.clock c.stamp.clock
    with_it c x among = elim
        (In-either x (filter (λ (y : CommitRecord). not (same_tx y.tx c.tx)) k.commits) (c ∷ []) among) [
          | inl old ↦ (let l : x.stamp.clock ≤ k.clock =
              p x (In-unfiltered (λ (y : CommitRecord). not (same_tx y.tx c.tx)) x k.commits old) in omega arith)
          | inr new ↦ elim new [
            | inl same ↦ (let e : x.stamp.clock ≡ c.stamp.clock =
                ap (λ (y : CommitRecord). y.stamp.clock) same in omega arith)
            | inr never ↦ absurd never
          ]
        ]

    by : (b : Bool) (o : Option CommitRecord)
        → ArePassed (cond b (record k { life = k.life + 1 }) (option_map_or
        (λ (c : CommitRecord). record k { commits = with_commit k.commits c; clock = max k.clock c.stamp.clock }) o k))
    by true o = p
    by false None = p
    by false (Some c) = with_it c

pub passes_all : (k : Kept) (rs : List Record) → ArePassed k → ArePassed (fold keeps k rs)
passes_all k [] p = p
passes_all k (r ∷ rs) p = passes_all (keeps k r) rs (passes_one k r p)

pub passed : (rs : List Record) → ArePassed (kept_by rs)
passed rs = passes_all nothing_kept rs (λ r never. absurd never)

-- records of one transaction more

pub found_with : (cs : List CommitRecord) (c : CommitRecord) (t : TxId) → record_of (with_commit cs c) t ≡ None
    → (record_of cs t ≡ None) × (same_tx c.tx t ≡ false)
found_with [] c t none = (refl, by (same_tx c.tx t) refl none)
  where
    by : (b : Bool) → same_tx c.tx t ≡ b → cond b (Some c) None ≡ None → same_tx c.tx t ≡ false
    by true is e = absurd (let never : ⊥ = cc in never)
    by false is e = is
found_with (x ∷ xs) c t none = by (same_tx x.tx c.tx) (same_tx x.tx t) refl refl none (found_with xs c t)
  where
    by : (b d : Bool) → same_tx x.tx c.tx ≡ b → same_tx x.tx t ≡ d
        → record_of (cond (not b) (x ∷ filter (λ (y : CommitRecord). not (same_tx y.tx c.tx)) xs)
        (filter (λ (y : CommitRecord). not (same_tx y.tx c.tx)) xs) ++ c ∷ []) t ≡ None
        → (record_of (with_commit xs c) t ≡ None → (record_of xs t ≡ None) × (same_tx c.tx t ≡ false))
        → (cond d (Some x) (record_of xs t) ≡ None) × (same_tx c.tx t ≡ false)
    by true true is at e rest =
        let r : (record_of xs t ≡ None) × (same_tx c.tx t ≡ false) = rest e in
        absurd (let k : same_tx c.tx t ≡ true =
        same_tx_test c.tx t (sym (same_tx_is x.tx c.tx is) ∙ same_tx_is x.tx t at) in
        let never : ⊥ = cc in never)
    by true false is at e rest = rest e
    by false true is at e rest =
        let k : cond (same_tx x.tx t) (Some x) (record_of (with_commit xs c) t) ≡ None = e in
        let n : cond true (Some x) (record_of (with_commit xs c) t) ≡ None =
        subst (λ (b : Bool). cond b (Some x) (record_of (with_commit xs c) t) ≡ None) at k in
        absurd (let never : ⊥ = cc in never)
    by false false is at e rest =
        let k : cond (same_tx x.tx t) (Some x) (record_of (with_commit xs c) t) ≡ None = e in
        rest (subst (λ (b : Bool). cond b (Some x) (record_of (with_commit xs c) t) ≡ None) at k)

pub find_some : (cs : List CommitRecord) (t : TxId) (o : Option CommitRecord) → record_of cs t ≡ o
    → (o ≡ None) ⊎ ((r : CommitRecord) × In r cs × (r.tx ≡ t))
find_some cs t None e = inl refl
find_some [] t (Some r) e = inl (sym e)
find_some (x ∷ xs) t (Some r) e = by (same_tx x.tx t) refl e (find_some xs t (Some r))
  where
    by : (b : Bool) → same_tx x.tx t ≡ b → cond b (Some x) (record_of xs t) ≡ Some r
        → (record_of xs t ≡ Some r → (Some r ≡ None) ⊎ ((y : CommitRecord) × In y xs × (y.tx ≡ t)))
        → (Some r ≡ None) ⊎ ((y : CommitRecord) × In y (x ∷ xs) × (y.tx ≡ t))
    by true is k rest = inr (x, inl refl, same_tx_is x.tx t is)
    by false is k rest = elim (rest k) [ inl never ↦ inl never | inr h ↦ inr (h.0, inr h.1, h.2) ]
