use Rattle.std.proofs.Common.{◌≡◌, List, Option, ℕ, true, refl, sym, ap, subst, ◌∙◌}
use Rattle.std.specs.BTreeMap.Range.{IsLtBy}
use Rattle.std.specs.BTreeSet.{IsKeyRangeOf}
use Rattle.std.specs.Ordering.{is_gt, is_lt}
use Rattle.std.specs.declared.cmp.Ordering.{Ordering}
use Rattle.std.specs.declared.cmp.Ordering.TheVariants.{Less, Equal, Greater}
use Rattle.std.specs.declared.ops.Bound.{Bound}
use Rattle.std.specs.declared.ops.Bound.TheVariants.{Excluded, Unbounded}
use Rattle.qc_stamp.specs.declared.stamp.TxId.{TxId}
use Rattle.qc_stamp.specs.Vocabulary.{tx_cmp}
use Rattle.qc_lock.specs.declared.holder_set.HolderKey.{HolderKey}
use Rattle.qc_lock.specs.Vocabulary.{IsFirst, place_cmp}
use Rattle.qc_lock.proofs.Holding.{none_found, one_found, place, place_at}
use Rattle.qc_lock.proofs.holder_set.next_holder.Goals as goal

less_is : (o : Ordering) → is_lt o ≡ true → o ≡ Less
less_is Less h = refl
less_is Equal h = absurd (let never : ⊥ = cc in never)
less_is Greater h = absurd (let never : ⊥ = cc in never)

from : (object number : ℕ) (start tx : TxId) → is_lt (tx_cmp start tx) ≡ true
    → IsLtBy place_cmp (place object number start) (place object number tx)
from object number start tx after = place_at object number start tx ∙ less_is (tx_cmp start tx) after

pub returns-in_err-place : goal.returns-in_err-place
returns-in_err-place c =
    let start : TxId = c.args.tx in
    let lo : Bound HolderKey = Excluded (place c.args.object c.args.number start) in
    subst (λ (o : Option TxId). IsFirst c.args.places.now c.args.object c.args.number
    (λ other. is_lt (tx_cmp start other)) o) (sym c.from_residual.ensures)
    (none_found c.args.places.now c.args.object c.args.number lo (λ other. is_lt (tx_cmp start other))
    (from c.args.object c.args.number start)
    (subst (λ (r : List HolderKey). IsKeyRangeOf place_cmp lo Unbounded c.args.places.now r)
    c.in_err-place.ensures.steps.0
    (c.range.ensures.in_range tt)))

pub returns : goal.returns
returns c =
    let start : TxId = c.args.tx in
    let lo : Bound HolderKey = Excluded (place c.args.object c.args.number start) in
    subst (λ (o : Option TxId). IsFirst c.args.places.now c.args.object c.args.number
    (λ other. is_lt (tx_cmp start other)) o) (sym c.holder_at.ensures)
    (one_found c.args.places.now c.args.object c.args.number lo start
    (λ other. is_lt (tx_cmp start other)) c.in_ok-place.place.now c.next.new.self
    (from c.args.object c.args.number start) (λ q after. ap is_gt after)
    (λ tx after. ap is_lt (sym (place_at c.args.object c.args.number start tx) ∙ after))
    (subst (λ (r : List HolderKey). IsKeyRangeOf place_cmp lo Unbounded c.args.places.now r) c.in_ok-place.ensures.steps
    (c.range.ensures.in_range tt)))
