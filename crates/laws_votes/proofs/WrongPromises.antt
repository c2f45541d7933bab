-- Promises on the disk of a site that falls and rises: those that were let go are refused, right ones taken.
use Rattle.std.proofs.Common.{◌≡◌, true, false, List, [], ◌∷◌, ◌++◌, inl, refl, sym, subst}
use Rattle.std.specs.List.{list_any}
use Rattle.laws_guarantees.specs.Vocabulary.{tx}
use Rattle.laws_votes.specs.Vocabulary.{HasPromisedItems, IsLastPromise, IsPromisedStill, IsUnaborted, aborted_before}
use Rattle.laws_votes.specs.Vocabulary.{aborted_since, finished, prepared, promise, promised}
use Rattle.qc_lock.specs.Vocabulary.{held_of}
use Rattle.qc_msg.specs.Vocabulary.{Writes, deeds}
use Rattle.qc_msg.specs.declared.message.Message.TheVariants.{Decision}
use Rattle.qc_msg.specs.declared.message.Outcome.TheVariants.{Aborted}
use Rattle.qc_msg.specs.declared.record.Record.{Record}
use Rattle.qc_msg.specs.declared.record.Record.TheVariants.{Done, Life, Prepare}
use Rattle.qc_promise.specs.Vocabulary.{held_shown, redeems}

last : IsLastPromise (promise ∷ Life ∷ []) prepared
last = record { before = []; after = Life ∷ []; stands = refl; unredeemed = refl }

none_taken : IsUnaborted (Writes Life ∷ []) prepared
none_taken [] y e is aborted = absurd (let never : ⊥ = cc in never)
none_taken (d ∷ []) y e is aborted = absurd (let never : ⊥ = cc in never)
none_taken (d ∷ b ∷ x) y e is aborted = absurd (let never : ⊥ = cc in never)

pub stands_once : IsPromisedStill (promised (promise ∷ [])) 0 prepared
stands_once = record { last = last; unaborted = none_taken }

pub stands_again : IsPromisedStill aborted_before 0 prepared
stands_again = record { last = last; unaborted = none_taken }

never_last : IsLastPromise (Life ∷ []) prepared → ⊥
never_last l = by l.before l.stands
  where
    by : (before : List Record) → Life ∷ [] ≡ before ++ Prepare prepared ∷ l.after → ⊥
    by [] is = let never : ⊥ = cc in never
    by (r ∷ []) is = let never : ⊥ = cc in never
    by (r ∷ q ∷ before) is = let never : ⊥ = cc in never

pub lost : IsPromisedStill (promised []) 0 prepared → ⊥
lost still = never_last still.last

done_last : IsLastPromise (promise ∷ Done tx 1 ∷ Life ∷ []) prepared → ⊥
done_last l = by l.before l.stands
  where
    by : (before : List Record) → promise ∷ Done tx 1 ∷ Life ∷ [] ≡ before ++ Prepare prepared ∷ l.after → ⊥
    by [] is =
        let rest : Done tx 1 ∷ Life ∷ [] ≡ l.after = cc in
        let none : true ≡ false = subst (λ (rs : List Record). list_any (redeems prepared.tx) rs ≡ false)
        (sym rest) l.unredeemed in
        let never : ⊥ = cc in
        never
    by (r ∷ []) is = let never : ⊥ = cc in never
    by (r ∷ q ∷ []) is = let never : ⊥ = cc in never
    by (r ∷ q ∷ s ∷ []) is = let never : ⊥ = cc in never
    by (r ∷ q ∷ s ∷ t ∷ before) is = let never : ⊥ = cc in never

pub done : IsPromisedStill finished 0 prepared → ⊥
done still = done_last still.last

pub aborted : IsPromisedStill aborted_since 0 prepared → ⊥
aborted still = still.unaborted (Writes Life ∷ []) []
    (record { number = 2; from = 1; to = 0; message = Decision tx Aborted }) refl refl

pub dropped : HasPromisedItems (held_of (held_shown (deeds 0 [] aborted_since)) tx) prepared → ⊥
dropped has = has.locks (record { object = 0; inv = 0 }) (inl refl)

pub had : HasPromisedItems (held_of (held_shown (deeds 0 [] aborted_before)) tx) prepared
had = record { locks = λ l among. among; own = λ o never. absurd never }
