-- What a site's records and promises have with one more, or with one fewer.
use Rattle.std.proofs.Common.{◌≡◌, not, Bool, true, false, cond, fold, List, [], ◌∷◌, ◌++◌, Some, None, refl, sym, ap}
use Rattle.std.proofs.Common.{◌∙◌, subst}
use Rattle.qc_stamp.specs.declared.stamp.TxId.{TxId}
use Rattle.qc_stamp.specs.Vocabulary.{same_tx}
use Rattle.qc_stamp.proofs.Orders.{same_tx_is}
use Rattle.qc_entry.specs.declared.record.Prepared.{Prepared}
use Rattle.qc_msg.specs.declared.record.Record.{Record}
use Rattle.qc_site.specs.Vocabulary.{prepared_of, without_prepared}
use Rattle.qc_site.proofs.Votes.{prepared-without, prepared-without_other}
use Rattle.qc_recover.specs.Vocabulary.{Kept, keeps, kept_by, nothing_kept}

-- one record more
pub kept_from : (k : Kept) (rs : List Record) (r : Record) → fold keeps k (rs ++ r ∷ []) ≡ keeps (fold keeps k rs) r
kept_from k [] r = refl
kept_from k (x ∷ xs) r = kept_from (keeps k x) xs r

pub kept_more : (rs : List Record) (r : Record) → kept_by (rs ++ r ∷ []) ≡ keeps (kept_by rs) r
kept_more rs r = kept_from nothing_kept rs r

-- promises that stay, or that none has
pub still_promised : (ps : List Prepared) (tx t : TxId) (q : Prepared) → prepared_of (without_prepared ps tx) t ≡ Some q
    → prepared_of ps t ≡ Some q
still_promised ps tx t q e = by (same_tx tx t) refl
  where
    by : (b : Bool) → same_tx tx t ≡ b → prepared_of ps t ≡ Some q
    by true is = absurd (let gone : prepared_of (without_prepared ps tx) t ≡ None =
        subst (λ (u : TxId). prepared_of (without_prepared ps tx) u ≡ None) (same_tx_is tx t is)
        (prepared-without ps tx) in
        let both : Some q ≡ None = sym e ∙ gone in let never : ⊥ = cc in never)
    by false is = sym (prepared-without_other ps tx t is) ∙ e

pub undropped_site : (ps : List Prepared) (tx : TxId) → prepared_of ps tx ≡ None → without_prepared ps tx ≡ ps
undropped_site [] tx none = refl
undropped_site (p ∷ ps) tx none = by (same_tx p.tx tx) none (undropped_site ps tx)
  where
    by : (b : Bool) → cond b (Some p) (prepared_of ps tx) ≡ None
        → (prepared_of ps tx ≡ None → without_prepared ps tx ≡ ps)
        → cond (not b) (p ∷ without_prepared ps tx) (without_prepared ps tx) ≡ p ∷ ps
    by true e rest = absurd (let never : ⊥ = cc in never)
    by false e rest = ap (λ (xs : List Prepared). p ∷ xs) (rest e)
