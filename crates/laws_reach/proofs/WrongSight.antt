-- Each wrong order through falls is refused, and the right ones are taken.
use Rattle.std.proofs.Common.{◌≡◌, ◌≢◌, ℕ, true, List, [], ◌∷◌, inl, inr, refl, sym, ap, ◌∙◌, subst, arith}
use Rattle.std.specs.declared.cmp.Ordering.TheVariants.{Less, Greater}
use Rattle.qc_entry.specs.declared.record.Commit.{Commit}
use Rattle.qc_list.specs.Vocabulary.{In}
use Rattle.qc_decl.specs.Vocabulary.{client_actor, is_client}
use Rattle.qc_msg.specs.declared.record.Record.TheVariants as records
use Rattle.laws_reach.specs.Vocabulary.{anew, asked_before, record_pending, records_of, rises_with_others, shown_anew}
use Rattle.laws_reach.specs.Vocabulary.{shown_before, told_before}
use Rattle.qc_msg.specs.Vocabulary.{Entry}
use Rattle.qc_promise.specs.Vocabulary.{HasBefore, IsAfterSeen, committed, seen}
use Rattle.qc_stamp.specs.Vocabulary.{stamp_cmp}
use Rattle.qc_stamp.specs.declared.stamp.Stamp.{Stamp}
use Rattle.qc_stamp.specs.declared.stamp.TxId.{TxId}
use Rattle.laws_atomic.specs.Vocabulary.{commit, decl, first, stamp, theirs}
use Rattle.laws_atomic.proofs.WrongOnes.{not_less}

other_life : first ≢ anew
other_life same = let e : first.life ≡ anew.life = ap (λ (t : TxId). t.life) same in omega arith

other_client : theirs ≢ first
other_client same = let e : theirs.client ≡ first.client = ap (λ (t : TxId). t.client) same in omega arith

other_client_too : theirs ≢ anew
other_client_too same = let e : theirs.client ≡ anew.client = ap (λ (t : TxId). t.client) same in omega arith

-- of two records, the one of this transaction isn't before
none_before : (a b : Commit) (tx : TxId) (at : Stamp) → tx ≢ a.tx → stamp_cmp b.stamp at ≡ Greater
    → HasBefore (a ∷ b ∷ []) tx at → ⊥
none_before a b tx at other more w = by w.commit w.listed w.named w.before
  where
    by : (c : Commit) → In c (a ∷ b ∷ []) → c.tx ≡ tx → stamp_cmp c.stamp at ≡ Less → ⊥
    by c (inl same) named before = other (sym named ∙ ap (λ (x : Commit). x.tx) same)
    by c (inr (inl same)) named before = not_less (stamp_cmp b.stamp at) more
        (subst (λ (x : Commit). stamp_cmp x.stamp at ≡ Less) same before)
    by c (inr (inr never)) named before = never

pub below_told : IsAfterSeen decl (committed decl (told_before 4)) (told_before 4) → ⊥
below_told w = none_before (commit anew (stamp 4 0)) (commit first (stamp 5 0)) first (stamp 4 0) other_life refl
    (w (commit anew (stamp 4 0)) first (inl refl) (inl refl) other_life)

pub below_line : IsAfterSeen decl (committed decl (shown_anew 4)) (shown_anew 4) → ⊥
below_line w = none_before (commit anew (stamp 4 0)) (commit theirs (stamp 5 1)) theirs
    (stamp 4 0) other_client_too refl (w (commit anew (stamp 4 0)) theirs (inl refl) (inl refl) other_client_too)

pub below_pending : IsAfterSeen decl (committed decl (record_pending 4)) (record_pending 4) → ⊥
below_pending w = none_before (commit first (stamp 4 0)) (commit theirs (stamp 5 1)) theirs
    (stamp 4 0) other_client refl (w (commit first (stamp 4 0)) theirs (inl refl) (inl refl) other_client)

-- a record that stands with another client
pub of_another : ((a : ℕ) (c : Commit) → is_client decl a ≡ true
    → In (records.Commit c) (records_of rises_with_others a) → client_actor decl c.tx.client ≡ a) → ⊥
of_another each = let same : client_actor decl first.client ≡ 2 = each 2 (commit first (stamp 5 0)) refl (inl refl) in
    omega arith

-- the right ones

-- of two records, only the second one's client saw a transaction, the first one's
follows : (h : List Entry) (a b : Commit) → ((tx : TxId) → In tx (seen decl h a.tx) → ⊥)
    → ((tx : TxId) → In tx (seen decl h b.tx) → tx ≡ a.tx) → stamp_cmp a.stamp b.stamp ≡ Less
    → IsAfterSeen decl (a ∷ b ∷ []) h
follows h a b none one less c tx among in_seen other = by among
  where
    by : In c (a ∷ b ∷ []) → HasBefore (a ∷ b ∷ []) tx c.stamp
    by (inl same) = absurd (none tx (subst (λ (x : Commit). In tx (seen decl h x.tx)) same in_seen))
    by (inr (inl same)) =
        subst (λ (x : Commit). HasBefore (a ∷ b ∷ []) tx x.stamp) (sym same)
        (record {
          commit = a;
          listed = inl refl;
          named = sym (one tx (subst (λ (x : Commit). In tx (seen decl h x.tx)) same in_seen));
          before = less;
        })
    by (inr (inr never)) = absurd never

only : (x y : TxId) → In x (y ∷ []) → x ≡ y
only x y (inl same) = same
only x y (inr never) = absurd never

-- neither's client saw one
unseen : (h : List Entry) (a b : Commit) → ((tx : TxId) → In tx (seen decl h a.tx) → ⊥)
    → ((tx : TxId) → In tx (seen decl h b.tx) → ⊥) → IsAfterSeen decl (a ∷ b ∷ []) h
unseen h a b none never c tx among in_seen other = absurd (by among)
  where
    by : In c (a ∷ b ∷ []) → ⊥
    by (inl same) = none tx (subst (λ (x : Commit). In tx (seen decl h x.tx)) same in_seen)
    by (inr (inl same)) = never tx (subst (λ (x : Commit). In tx (seen decl h x.tx)) same in_seen)
    by (inr (inr neither)) = neither

pub told_is_seen : seen decl (told_before 6) anew ≡ first ∷ []
told_is_seen = refl

pub above_told : IsAfterSeen decl (committed decl (told_before 6)) (told_before 6)
above_told = follows (told_before 6) (commit first (stamp 5 0)) (commit anew (stamp 6 0)) (λ tx never. never)
    (λ tx among. only tx first among) refl

pub shown_is_seen : seen decl (shown_anew 6) anew ≡ theirs ∷ []
shown_is_seen = refl

pub above_line : IsAfterSeen decl (committed decl (shown_anew 6)) (shown_anew 6)
above_line = follows (shown_anew 6) (commit theirs (stamp 5 1)) (commit anew (stamp 6 0)) (λ tx never. never)
    (λ tx among. only tx theirs among) refl

pub pending_saw : seen decl (record_pending 6) first ≡ theirs ∷ []
pending_saw = refl

pub above_pending : IsAfterSeen decl (committed decl (record_pending 6)) (record_pending 6)
above_pending = follows (record_pending 6) (commit theirs (stamp 5 1)) (commit first (stamp 6 0)) (λ tx never. never)
    (λ tx among. only tx theirs among) refl

pub shown_before_is_unseen : seen decl shown_before anew ≡ []
shown_before_is_unseen = refl

pub below_shown_before : IsAfterSeen decl (committed decl shown_before) shown_before
below_shown_before = unseen shown_before (commit anew (stamp 4 0)) (commit theirs (stamp 5 1)) (λ tx never. never)
    (λ tx never. never)

pub asked_before_is_unseen : seen decl asked_before anew ≡ []
asked_before_is_unseen = refl

pub below_asked_before : IsAfterSeen decl (committed decl asked_before) asked_before
below_asked_before = unseen asked_before (commit anew (stamp 4 0)) (commit theirs (stamp 5 1)) (λ tx never. never)
    (λ tx never. never)
