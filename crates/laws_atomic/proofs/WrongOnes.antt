-- Each wrong order is refused, and the right ones are taken.
use Rattle.std.proofs.Common.{◌≡◌, ◌≢◌, inl, inr, [], ◌∷◌, refl, sym, ap, ◌∙◌, subst, arith}
use Rattle.std.specs.declared.cmp.Ordering.{Ordering}
use Rattle.std.specs.declared.cmp.Ordering.TheVariants.{Less, Greater}
use Rattle.qc_entry.specs.declared.record.Commit.{Commit}
use Rattle.qc_list.specs.Vocabulary.{In}
use Rattle.qc_promise.specs.Vocabulary.{Atomic, HasBefore, IsAfterSeen, committed, seen}
use Rattle.qc_stamp.specs.Vocabulary.{stamp_cmp}
use Rattle.qc_stamp.specs.declared.stamp.Stamp.{Stamp}
use Rattle.qc_stamp.specs.declared.stamp.TxId.{TxId}
use Rattle.laws_atomic.specs.Vocabulary.{commit, counting, decl, earlier, falling, first, late, second, stamp, theirs}
use Rattle.laws_atomic.specs.Vocabulary.{unrecorded}

other_client : theirs ≢ first
other_client same = let e : theirs.client ≡ first.client = ap (λ (t : TxId). t.client) same in omega arith

other_client_too : theirs ≢ second
other_client_too same = let e : theirs.client ≡ second.client = ap (λ (t : TxId). t.client) same in omega arith

other_number : first ≢ second
other_number same = let e : first.number ≡ second.number = ap (λ (t : TxId). t.number) same in omega arith

pub not_less : (o : Ordering) → o ≡ Greater → o ≡ Less → ⊥
not_less o more less = let never : ⊥ = cc in never

-- of two records, the one of this transaction isn't before
none_before : (a b : Commit) (tx : TxId) (at : Stamp) → a.tx ≢ tx → stamp_cmp b.stamp at ≡ Greater
    → HasBefore (a ∷ b ∷ []) tx at → ⊥
none_before a b tx at other more w = by w.commit w.listed w.named w.before
  where
    by : (c : Commit) → In c (a ∷ b ∷ []) → c.tx ≡ tx → stamp_cmp c.stamp at ≡ Less → ⊥
    by c (inl same) named before = other (sym (ap (λ (x : Commit). x.tx) same) ∙ named)
    by c (inr (inl same)) named before = not_less (stamp_cmp b.stamp at) more
        (subst (λ (x : Commit). stamp_cmp x.stamp at ≡ Less) same before)
    by c (inr (inr never)) named before = never

pub below_line : IsAfterSeen decl (committed decl (counting 4)) (counting 4) → ⊥
below_line w = none_before (commit first (stamp 4 0)) (commit theirs (stamp 5 1)) theirs (stamp 4 0)
    (λ e. other_client (sym e)) refl (w (commit first (stamp 4 0)) theirs (inl refl) (inl refl) other_client)

pub below_earlier : IsAfterSeen decl (committed decl earlier) earlier → ⊥
below_earlier w = none_before (commit second (stamp 4 0)) (commit theirs (stamp 5 1)) theirs (stamp 4 0)
    (λ e. other_client_too (sym e)) refl (w (commit second (stamp 4 0)) theirs (inl refl) (inl refl) other_client_too)

pub below_told : IsAfterSeen decl (committed decl falling) falling → ⊥
below_told w = none_before (commit second (stamp 4 0)) (commit first (stamp 5 0)) first (stamp 4 0)
    (λ e. other_number (sym e)) refl (w (commit second (stamp 4 0)) first (inl refl) (inl refl) other_number)

only_one : (a : Commit) (tx : TxId) (at : Stamp) → a.tx ≢ tx → HasBefore (a ∷ []) tx at → ⊥
only_one a tx at other w = by w.commit w.listed w.named
  where
    by : (c : Commit) → In c (a ∷ []) → c.tx ≡ tx → ⊥
    by c (inl same) named = other (sym (ap (λ (x : Commit). x.tx) same) ∙ named)
    by c (inr never) named = never

pub has_no_record : IsAfterSeen decl (committed decl unrecorded) unrecorded → ⊥
has_no_record w = only_one (commit first (stamp 6 0)) theirs (stamp 6 0) (λ e. other_client (sym e))
    (w (commit first (stamp 6 0)) theirs (inl refl) (inl refl) other_client)

pub not_atomic : Atomic decl (counting 4) → ⊥
not_atomic w = below_line w.seen

-- the right ones

pub is_counted : seen decl (counting 6) first ≡ theirs ∷ []
is_counted = refl

pub is_unseen : seen decl late first ≡ []
is_unseen = refl

pub is_above : IsAfterSeen decl (committed decl (counting 6)) (counting 6)
is_above c tx among in_seen other = by among in_seen
  where
    before : HasBefore (commit theirs (stamp 5 1) ∷ commit first (stamp 6 0) ∷ []) theirs (stamp 6 0)
    before = record { commit = commit theirs (stamp 5 1); listed = inl refl; named = refl; before = refl }

    first_sees : In tx (theirs ∷ []) → HasBefore (commit theirs (stamp 5 1) ∷ commit first (stamp 6 0) ∷ []) tx
        (stamp 6 0)
    first_sees (inl same) = subst (λ (t : TxId). HasBefore (commit theirs (stamp 5 1) ∷ commit first (stamp 6 0) ∷ []) t
        (stamp 6 0)) (sym same) before
    first_sees (inr never) = absurd never

    by : In c (commit theirs (stamp 5 1) ∷ commit first (stamp 6 0) ∷ []) → In tx (seen decl (counting 6) c.tx)
        → HasBefore (commit theirs (stamp 5 1) ∷ commit first (stamp 6 0) ∷ []) tx c.stamp
    by (inl same) seen_it = absurd (subst (λ (x : Commit). In tx (seen decl (counting 6) x.tx)) same seen_it)
    by (inr (inl same)) seen_it =
        subst (λ (x : Commit). HasBefore (commit theirs (stamp 5 1) ∷ commit first (stamp 6 0) ∷ []) tx x.stamp)
        (sym same) (first_sees (subst (λ (x : Commit). In tx (seen decl (counting 6) x.tx)) same seen_it))
    by (inr (inr never)) seen_it = absurd never

pub is_late : IsAfterSeen decl (committed decl late) late
is_late c tx among in_seen other = absurd (by among in_seen)
  where
    by : In c (commit first (stamp 4 0) ∷ commit theirs (stamp 5 1) ∷ []) → In tx (seen decl late c.tx) → ⊥
    by (inl same) seen_it = subst (λ (x : Commit). In tx (seen decl late x.tx)) same seen_it
    by (inr (inl same)) seen_it = subst (λ (x : Commit). In tx (seen decl late x.tx)) same seen_it
    by (inr (inr never)) seen_it = never
