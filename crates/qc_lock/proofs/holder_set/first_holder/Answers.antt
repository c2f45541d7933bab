use Rattle.std.proofs.Common.{◌≡◌, List, Option, ℕ, true, false, refl, sym, subst}
use Rattle.std.specs.BTreeMap.Range.{IsLeBy}
use Rattle.std.specs.BTreeSet.{IsKeyRangeOf}
use Rattle.std.specs.Ordering.{is_gt}
use Rattle.std.specs.declared.ops.Bound.{Bound}
use Rattle.std.specs.declared.ops.Bound.TheVariants.{Included, Unbounded}
use Rattle.qc_stamp.specs.declared.stamp.TxId.{TxId}
use Rattle.qc_lock.specs.declared.holder_set.HolderKey.{HolderKey}
use Rattle.qc_lock.specs.Vocabulary.{IsFirst, place_cmp}
use Rattle.qc_lock.proofs.Holding.{none_before, none_found, one_found, place, place_at}
use Rattle.qc_lock.proofs.holder_set.first_holder.Goals as goal

abbrev first : TxId
first = record { client = 0; life = 0; number = 0 }

from : (object number : ℕ) (tx : TxId) → IsLeBy place_cmp (place object number first) (place object number tx)
from object number tx = subst (λ o. is_gt o ≡ false) (sym (place_at object number first tx))
    (none_before first tx refl refl refl)

pub returns-in_err-place : goal.returns-in_err-place
returns-in_err-place c =
    let lo : Bound HolderKey = Included (place c.args.object c.args.number first) in
    subst (λ (o : Option TxId). IsFirst c.args.places.now c.args.object c.args.number (λ other. true) o)
    (sym c.from_residual.ensures)
    (none_found c.args.places.now c.args.object c.args.number lo (λ other. true)
    (λ tx passes. from c.args.object c.args.number tx)
    (subst (λ (r : List HolderKey). IsKeyRangeOf place_cmp lo Unbounded c.args.places.now r)
    c.in_err-place.ensures.steps.0
    (c.range.ensures.in_range tt)))

pub returns : goal.returns
returns c =
    let lo : Bound HolderKey = Included (place c.args.object c.args.number first) in
    subst (λ (o : Option TxId). IsFirst c.args.places.now c.args.object c.args.number (λ other. true) o)
    (sym c.holder_at.ensures)
    (one_found c.args.places.now c.args.object c.args.number lo first
    (λ other. true) c.in_ok-place.place.now c.next.new.self
    (λ tx passes. from c.args.object c.args.number tx) (λ q after. after) (λ tx after. refl)
    (subst (λ (r : List HolderKey). IsKeyRangeOf place_cmp lo Unbounded c.args.places.now r) c.in_ok-place.ensures.steps
    (c.range.ensures.in_range tt)))
