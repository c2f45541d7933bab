-- What is held as a transaction ends: what the requests of all others hold.
use Rattle.std.proofs.Common.{◌≡◌, ◌==◌, ◌&&◌, not, Bool, true, false, cond, List, [], ◌∷◌, refl, sym, ap, ◌∙◌, subst}
use Rattle.std.specs.Prelude.{filter, fold, length}
use Rattle.qc_stamp.specs.declared.stamp.TxId.{TxId}
use Rattle.qc_stamp.specs.Vocabulary.{same_tx}
use Rattle.qc_stamp.proofs.Orders.{other_tx_sym, same_tx_is, same_tx_itself}
use Rattle.qc_entry.specs.declared.line.OwnLine.{OwnLine}
use Rattle.qc_entry.specs.declared.line.ReadLock.{ReadLock}
use Rattle.qc_lock.specs.declared.held.Held.{Held}
use Rattle.qc_lock.specs.Vocabulary.{held_of, with_entry, with_held, with_locks, with_owns, without_held}
use Rattle.qc_lock.proofs.Entries.{held-without_other}
use Rattle.qc_msg.specs.declared.message.Want.{Want}
use Rattle.qc_msg.specs.declared.message.Want.TheVariants.{Read, Append, Prepare}
use Rattle.qc_entry.specs.declared.record.Prepared.{Prepared}
use Rattle.qc_promise.specs.Vocabulary.{Grant, holding, with_promise}
use Rattle.qc_core.proofs.SiteHolds.{hold}

without-put_same : (held : List Held) (e : Held) (tx : TxId) → same_tx e.tx tx ≡ true
    → without_held (with_entry held e) tx ≡ without_held held tx
without-put_same [] e tx same = rw same refl
without-put_same (h ∷ hs) e tx same = by (same_tx h.tx e.tx) refl (without-put_same hs e tx same)
  where
    by : (t : Bool) → same_tx h.tx e.tx ≡ t → without_held (with_entry hs e) tx ≡ without_held hs tx
        → without_held (cond t (e ∷ hs) (h ∷ with_entry hs e)) tx ≡ without_held (h ∷ hs) tx
    by true is ih =
        let there : same_tx h.tx tx ≡ true = subst (λ (u : TxId). same_tx u tx ≡ true)
        (sym (same_tx_is h.tx e.tx is)) same in
        rw (same, there) refl
    by false is ih = ap (λ (v : List Held). cond (not (same_tx h.tx tx)) (h ∷ v) v) ih

without-put_other : (held : List Held) (e : Held) (tx : TxId) → same_tx e.tx tx ≡ false
    → without_held (with_entry held e) tx ≡ with_entry (without_held held tx) e
without-put_other [] e tx other = rw other refl
without-put_other (h ∷ hs) e tx other = by (same_tx h.tx e.tx) refl (without-put_other hs e tx other)
  where
    deep : (t : Bool) → same_tx h.tx e.tx ≡ false
        → without_held (with_entry hs e) tx ≡ with_entry (without_held hs tx) e
        → cond (not t) (h ∷ without_held (with_entry hs e) tx) (without_held (with_entry hs e) tx) ≡ with_entry
        (cond (not t) (h ∷ without_held hs tx) (without_held hs tx)) e
    deep true is ih = ih
    deep false is ih = rw is (ap (λ (v : List Held). h ∷ v) ih)

    by : (t : Bool) → same_tx h.tx e.tx ≡ t → without_held (with_entry hs e) tx ≡ with_entry (without_held hs tx) e
        → without_held (cond t (e ∷ hs) (h ∷ with_entry hs e)) tx ≡ with_entry (without_held (h ∷ hs) tx) e
    by true is ih =
        let there : same_tx h.tx tx ≡ false = subst (λ (u : TxId). same_tx u tx ≡ false)
        (sym (same_tx_is h.tx e.tx is)) other in
        rw (other, there) (rw is refl)
    by false is ih = deep (same_tx h.tx tx) is ih

-- more that a transaction holds, without it, and without another

more_same : (held : List Held) (tx t : TxId) (locks : List ReadLock) (own : List OwnLine) → same_tx t tx ≡ true
    → without_held (with_held held t locks own) tx ≡ without_held held tx
more_same held tx t locks own same = by ((length locks == 0) && (length own == 0))
  where
    put : Held
    put = record { tx = t; locks = with_locks (held_of held t).locks locks; own = with_owns (held_of held t).own own }

    by : (b : Bool) → without_held (cond b held (with_entry held put)) tx ≡ without_held held tx
    by true = refl
    by false = without-put_same held put tx same

more_other : (held : List Held) (tx t : TxId) (locks : List ReadLock) (own : List OwnLine) → same_tx t tx ≡ false
    → with_held (without_held held tx) t locks own ≡ without_held (with_held held t locks own) tx
more_other held tx t locks own other =
    ap (λ (e : Held). cond ((length locks == 0) && (length own == 0)) (without_held held tx)
    (with_entry (without_held held tx) (record
    { tx = t; locks = with_locks e.locks locks; own = with_owns e.own own })))
    (held-without_other held tx t (other_tx_sym t tx other))
    ∙ by ((length locks == 0) && (length own == 0))
  where
    put : Held
    put = record { tx = t; locks = with_locks (held_of held t).locks locks; own = with_owns (held_of held t).own own }

    by : (b : Bool) → cond b (without_held held tx) (with_entry (without_held held tx) put) ≡ without_held
        (cond b held (with_entry held put)) tx
    by true = refl
    by false = sym (without-put_other held put tx other)

hold_same : (held : List Held) (tx t : TxId) (want : Want) → same_tx t tx ≡ true
    → without_held (holding held t want) tx ≡ without_held held tx
hold_same held tx t (Read read) same =
    more_same held tx t (record { object = read.object; inv = read.inv } ∷ []) [] same
hold_same held tx t (Append object view own) same = more_same held tx t [] own same
hold_same held tx t Prepare same = refl

hold_other : (held : List Held) (tx t : TxId) (want : Want) → same_tx t tx ≡ false
    → holding (without_held held tx) t want ≡ without_held (holding held t want) tx
hold_other held tx t (Read read) other =
    more_other held tx t (record { object = read.object; inv = read.inv } ∷ []) [] other
hold_other held tx t (Append object view own) other = more_other held tx t [] own other
hold_other held tx t Prepare other = refl

-- the grants of others than a transaction hold what all hold without it
pub drops : (tx : TxId) (others : Grant → Bool) → ((r : Grant) → others r ≡ not (same_tx tx r.tx))
    → (held : List Held) (gs : List Grant) → fold hold (without_held held tx) (filter others gs) ≡ without_held
    (fold hold held gs) tx
drops tx others is held [] = refl
drops tx others is held (r ∷ gs) =
    ap (λ (b : Bool). fold hold (without_held held tx) (cond b (r ∷ filter others gs) (filter others gs))) (is r)
    ∙ by (same_tx tx r.tx) refl (drops tx others is (hold held r) gs)
  where
    by : (b : Bool) → same_tx tx r.tx ≡ b → fold hold (without_held (hold held r) tx) (filter others gs) ≡ without_held
        (fold hold held (r ∷ gs)) tx
        → fold hold (without_held held tx) (cond (not b) (r ∷ filter others gs) (filter others gs)) ≡ without_held
        (fold hold held (r ∷ gs)) tx
    by true same ih =
        ap (λ (v : List Held). fold hold v (filter others gs))
        (sym (hold_same held tx r.tx r.want (subst (λ (u : TxId). same_tx u tx ≡ true) (same_tx_is tx r.tx same)
        (same_tx_itself tx))))
        ∙ ih
    by false other ih =
        ap (λ (v : List Held). fold hold v (filter others gs))
        (hold_other held tx r.tx r.want (other_tx_sym tx r.tx other))
        ∙ ih

-- the promises of others than a transaction hold what all hold without it
pub drops_promises : (tx : TxId) (others : Prepared → Bool) → ((p : Prepared) → others p ≡ not (same_tx tx p.tx))
    → (held : List Held) (ps : List Prepared)
    → fold with_promise (without_held held tx) (filter others ps) ≡ without_held (fold with_promise held ps) tx
drops_promises tx others is held [] = refl
drops_promises tx others is held (p ∷ ps) =
    ap (λ (b : Bool). fold with_promise (without_held held tx) (cond b (p ∷ filter others ps) (filter others ps)))
    (is p)
    ∙ by (same_tx tx p.tx) refl (drops_promises tx others is (with_promise held p) ps)
  where
    by : (b : Bool) → same_tx tx p.tx ≡ b → fold with_promise (without_held (with_promise held p) tx) (filter others ps)
        ≡ without_held (fold with_promise held (p ∷ ps)) tx
        → fold with_promise (without_held held tx) (cond (not b) (p ∷ filter others ps) (filter others ps))
        ≡ without_held (fold with_promise held (p ∷ ps)) tx
    by true same ih =
        ap (λ (v : List Held). fold with_promise v (filter others ps))
        (sym (more_same held tx p.tx p.locks p.own
        (subst (λ (u : TxId). same_tx u tx ≡ true) (same_tx_is tx p.tx same) (same_tx_itself tx))))
        ∙ ih
    by false other ih =
        ap (λ (v : List Held). fold with_promise v (filter others ps))
        (more_other held tx p.tx p.locks p.own (other_tx_sym tx p.tx other))
        ∙ ih
