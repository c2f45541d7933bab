-- The order of lines, by clocks, stamps and operations.
use Rattle.std.proofs.Common.{◌≡◌, ◌<◌, ◌≤◌, ◌⊎◌, inl, inr, refl, ap, subst, arith}
use Rattle.std.proofs.lemmas.Cmp.{tied_itself}
use Rattle.std.specs.Ordering.{nat_cmp, ordering_then}
use Rattle.std.specs.declared.cmp.Ordering.{Ordering}
use Rattle.std.specs.declared.cmp.Ordering.TheVariants.{Less, Equal, Greater}
use Rattle.qc_stamp.specs.declared.stamp.Stamp.{Stamp}
use Rattle.qc_stamp.specs.declared.stamp.TxId.{TxId}
use Rattle.qc_stamp.specs.Vocabulary.{stamp_cmp, tx_cmp}
use Rattle.qc_stamp.proofs.Orders.{nat_apart, stamps_are_ordered, transactions_are_ordered}
use Rattle.qc_entry.specs.declared.line.Line.{Line}
use Rattle.qc_entry.proofs.Orders.{lines_are_ordered}
use Rattle.theory_onecopy.specs.Vocabulary.{IsEarlier, IsLineBefore, Placed, line_of}
use Rattle.qc_list.proofs.Numbers.{below_from_cmp, cmp_below}

first_less : (a b : Ordering) → a ≡ Less → ordering_then a b ≡ Less
first_less a b h = rw h refl

second_less : (a b : Ordering) → a ≡ Equal → b ≡ Less → ordering_then a b ≡ Less
second_less a b h k = rw h k

-- the first is less, or it ties and the second is
pub then_less : (a b : Ordering) → ordering_then a b ≡ Less → (a ≡ Less) ⊎ ((a ≡ Equal) × (b ≡ Less))
then_less Less b h = inl refl
then_less Equal b h = inr (refl, h)
then_less Greater b h = absurd (let never : ⊥ = cc in never)

pub clock_less : (a b : Stamp) → a.clock < b.clock → stamp_cmp a b ≡ Less
clock_less a b l = first_less (nat_cmp a.clock b.clock) (nat_cmp a.client b.client) (cmp_below a.clock b.clock l)

pub stamp_clocks : (a b : Stamp) → stamp_cmp a b ≡ Less → a.clock ≤ b.clock
stamp_clocks a b h = by (then_less (nat_cmp a.clock b.clock) (nat_cmp a.client b.client) h)
  where
    by : ((nat_cmp a.clock b.clock ≡ Less) ⊎ ((nat_cmp a.clock b.clock ≡ Equal) × (nat_cmp a.client b.client ≡ Less)))
        → a.clock ≤ b.clock
    by (inl l) = let x : a.clock < b.clock = below_from_cmp a.clock b.clock l in omega arith
    by (inr e) = let x : a.clock ≡ b.clock = nat_apart a.clock b.clock e.0 in omega arith

pub not_stamp_less : (a : Stamp) → stamp_cmp a a ≡ Less → ⊥
not_stamp_less a h =
    let t : stamp_cmp a a ≡ Equal = tied_itself stamps_are_ordered.total a in
    let never : ⊥ = cc (h, t) in
    never

pub line_trans : (l m n : Line) → IsLineBefore l m → IsLineBefore m n → IsLineBefore l n
line_trans = lines_are_ordered.total.trans

pub stamp_first : (l m : Line) → stamp_cmp l.stamp m.stamp ≡ Less → IsLineBefore l m
stamp_first l m h = first_less (stamp_cmp l.stamp m.stamp) _ h

pub line_clocks : (l m : Line) → IsLineBefore l m → l.stamp.clock ≤ m.stamp.clock
line_clocks l m h = by _ (then_less (stamp_cmp l.stamp m.stamp) _ h)
  where
    by : (rest : Ordering) → ((stamp_cmp l.stamp m.stamp ≡ Less)
        ⊎ ((stamp_cmp l.stamp m.stamp ≡ Equal) × (rest ≡ Less))) → l.stamp.clock ≤ m.stamp.clock
    by rest (inl s) = stamp_clocks l.stamp m.stamp s
    by rest (inr e) = let x : l.stamp.clock ≡ m.stamp.clock =
        ap (λ (s : Stamp). s.clock) (stamps_are_ordered.apart l.stamp m.stamp e.0) in omega arith

-- in one transaction, by operation
pub op_first : (l m : Line) → l.stamp ≡ m.stamp → l.tx ≡ m.tx → l.op < m.op → IsLineBefore l m
op_first l m s t o =
    second_less (stamp_cmp l.stamp m.stamp) _
    (subst (λ (x : Stamp). stamp_cmp l.stamp x ≡ Equal) s (tied_itself stamps_are_ordered.total l.stamp))
    (second_less (tx_cmp l.tx m.tx) _
    (subst (λ (x : TxId). tx_cmp l.tx x ≡ Equal) t (tied_itself transactions_are_ordered.total l.tx))
    (first_less (nat_cmp l.op m.op) _ (cmp_below l.op m.op o)))

pub earlier_line : (a b : Placed) → IsEarlier a b → IsLineBefore (line_of a) (line_of b)
earlier_line a b (inl s) = stamp_first (line_of a) (line_of b) s
earlier_line a b (inr e) = op_first (line_of a) (line_of b) e.0 e.1 e.2

pub earlier_clocks : (a b : Placed) → IsEarlier a b → a.stamp.clock ≤ b.stamp.clock
earlier_clocks a b e = line_clocks (line_of a) (line_of b) (earlier_line a b e)
