-- The last commit record of each transaction, as records are taken from the end.
use Rattle.std.proofs.Common.{◌≡◌, Bool, true, false, cond, not, List, [], ◌∷◌, ◌++◌, filter, refl, sym, ◌∙◌, ap, subst}
use Rattle.std.proofs.lemmas.List.{append-nil}
use Rattle.std.proofs.lemmas.List.Elements.{filter-append}
use Rattle.std.proofs.lemmas.List.Sums.{fold-append}
use Rattle.qc_entry.specs.declared.record.Commit.{Commit}
use Rattle.qc_stamp.specs.declared.stamp.TxId.{TxId}
use Rattle.qc_stamp.specs.Vocabulary.{same_tx}
use Rattle.qc_stamp.proofs.Orders.{same_tx_is}
use Rattle.qc_recover.specs.Vocabulary.{last_of, with_commit}

-- the records of transactions that weren't seen
abbrev pub unseen : (TxId → Bool) → List Commit → List Commit
unseen seen commits = filter (λ (c : Commit). not (seen c.tx)) commits

last_more : (cs : List Commit) (c : Commit) → last_of (cs ++ c ∷ []) ≡ with_commit (last_of cs) c
last_more cs c = fold-append with_commit [] cs (c ∷ [])

-- of a transaction that was seen, one record more is none more

unseen-others : (seen : TxId → Bool) (c : Commit) (cs : List Commit) → seen c.tx ≡ true
    → unseen seen (filter (λ (d : Commit). not (same_tx d.tx c.tx)) cs) ≡ unseen seen cs
unseen-others seen c [] is = refl
unseen-others seen c (d ∷ ds) is = by (same_tx d.tx c.tx) refl (unseen-others seen c ds is) where
  left : List Commit
  left = filter (λ (e : Commit). not (same_tx e.tx c.tx)) ds

  by : (t : Bool) → same_tx d.tx c.tx ≡ t → unseen seen left ≡ unseen seen ds
      → unseen seen (cond (not t) (d ∷ left) left) ≡ unseen seen (d ∷ ds)
  by true same rest =
      let was : seen d.tx ≡ true = subst (λ tx. seen tx ≡ true) (sym (same_tx_is d.tx c.tx same)) is in
      rest ∙ sym (ap (λ b. cond (not b) (d ∷ unseen seen ds) (unseen seen ds)) was)
  by false same rest = ap (λ ks. cond (not (seen d.tx)) (d ∷ ks) ks) rest

pub seen_again : (seen : TxId → Bool) (cs : List Commit) (c : Commit) → seen c.tx ≡ true
    → unseen seen (last_of (cs ++ c ∷ [])) ≡ unseen seen (last_of cs)
seen_again seen cs c is =
    ap (unseen seen) (last_more cs c)
    ∙ filter-append (λ (d : Commit). not (seen d.tx)) (filter (λ (d : Commit). not (same_tx d.tx c.tx)) (last_of cs))
    (c ∷ [])
    ∙ ap (λ b. unseen seen (filter (λ (d : Commit). not (same_tx d.tx c.tx)) (last_of cs)) ++ cond (not b) (c ∷ []) [])
    is
    ∙ append-nil (unseen seen (filter (λ (d : Commit). not (same_tx d.tx c.tx)) (last_of cs)))
    ∙ unseen-others seen c (last_of cs) is

-- of one that wasn't, it is the last one, and hides those before it

unseen-more : (seen more : TxId → Bool) (c : Commit) (cs : List Commit)
    → ((tx : TxId) → more tx ≡ cond (same_tx tx c.tx) true (seen tx))
    → unseen seen (filter (λ (d : Commit). not (same_tx d.tx c.tx)) cs) ≡ unseen more cs
unseen-more seen more c [] is = refl
unseen-more seen more c (d ∷ ds) is = by (same_tx d.tx c.tx) refl (unseen-more seen more c ds is) where
  left : List Commit
  left = filter (λ (e : Commit). not (same_tx e.tx c.tx)) ds

  by : (t : Bool) → same_tx d.tx c.tx ≡ t → unseen seen left ≡ unseen more ds
      → unseen seen (cond (not t) (d ∷ left) left) ≡ unseen more (d ∷ ds)
  by true same rest =
      let is_more : more d.tx ≡ true = is d.tx ∙ ap (λ t. cond t true (seen d.tx)) same in
      rest ∙ sym (ap (λ b. cond (not b) (d ∷ unseen more ds) (unseen more ds)) is_more)
  by false same rest =
      let is_more : more d.tx ≡ seen d.tx = is d.tx ∙ ap (λ t. cond t true (seen d.tx)) same in
      ap (λ ks. cond (not (seen d.tx)) (d ∷ ks) ks) rest
      ∙ ap (λ b. cond (not b) (d ∷ unseen more ds) (unseen more ds)) (sym is_more)

pub seen_first : (seen more : TxId → Bool) (cs : List Commit) (c : Commit) → seen c.tx ≡ false
    → ((tx : TxId) → more tx ≡ cond (same_tx tx c.tx) true (seen tx))
    → unseen seen (last_of (cs ++ c ∷ [])) ≡ unseen more (last_of cs) ++ c ∷ []
seen_first seen more cs c is grown =
    ap (unseen seen) (last_more cs c)
    ∙ filter-append (λ (d : Commit). not (seen d.tx)) (filter (λ (d : Commit). not (same_tx d.tx c.tx)) (last_of cs))
    (c ∷ [])
    ∙ ap (λ b. unseen seen (filter (λ (d : Commit). not (same_tx d.tx c.tx)) (last_of cs)) ++ cond (not b) (c ∷ []) [])
    is
    ∙ ap (λ ks. ks ++ c ∷ []) (unseen-more seen more c (last_of cs) grown)

-- nothing was seen
pub seen_none : (seen : TxId → Bool) (cs : List Commit) → ((tx : TxId) → seen tx ≡ false) → unseen seen cs ≡ cs
seen_none seen [] none = refl
seen_none seen (c ∷ cs) none =
    ap (λ b. cond (not b) (c ∷ unseen seen cs) (unseen seen cs)) (none c.tx)
    ∙ ap (λ ks. c ∷ ks) (seen_none seen cs none)
