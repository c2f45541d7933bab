-- The order of lines is total, and Equal only at one value.
use Rattle.std.proofs.Common.{◌≡◌, ap, ◌∙◌}
use Rattle.std.proofs.lemmas.Cmp.{then_total, on_total, nat_cmp_total}
use Rattle.std.specs.Ordering.{nat_cmp, ordering_reverse}
use Rattle.std.specs.declared.cmp.Ordering.TheVariants.{Less, Greater}
use Rattle.qc_entry.specs.declared.line.Line.{Line}
use Rattle.qc_entry.specs.Vocabulary.{line_cmp}
use Rattle.qc_stamp.specs.Vocabulary.{IsOrder, stamp_cmp, tx_cmp}
use Rattle.qc_stamp.proofs.Orders.{stamps_are_ordered, transactions_are_ordered, nat_apart, first_Equal, second_Equal}

pub lines_are_ordered : IsOrder line_cmp
lines_are_ordered = record {
  total =
      then_total (on_total (λ (l : Line). l.stamp) stamps_are_ordered.total)
      (then_total (on_total (λ (l : Line). l.tx) transactions_are_ordered.total)
      (then_total (on_total (λ (l : Line). l.op) nat_cmp_total)
      (then_total (on_total (λ (l : Line). l.object) nat_cmp_total) (on_total (λ (l : Line). l.event) nat_cmp_total))));
  apart = λ a b h.
      let stamp : a.stamp ≡ b.stamp = stamps_are_ordered.apart _ _ (first_Equal _ _ h) in
      let from_tx = second_Equal (stamp_cmp a.stamp b.stamp) _ h in
      let tx : a.tx ≡ b.tx = transactions_are_ordered.apart _ _ (first_Equal _ _ from_tx) in
      let from_op = second_Equal (tx_cmp a.tx b.tx) _ from_tx in
      let op : a.op ≡ b.op = nat_apart _ _ (first_Equal _ _ from_op) in
      let from_object = second_Equal (nat_cmp a.op b.op) _ from_op in
      let object : a.object ≡ b.object = nat_apart _ _ (first_Equal _ _ from_object) in
      let event : a.event ≡ b.event = nat_apart _ _ (second_Equal (nat_cmp a.object b.object) _ from_object) in
      λ i. record { stamp = stamp i; tx = tx i; op = op i; object = object i; event = event i };
}

-- a line is not before itself, nor two lines before each other
pub above : (a b : Line) → line_cmp a b ≡ Greater → line_cmp b a ≡ Less
above a b h = lines_are_ordered.total.antisymm b a ∙ ap ordering_reverse h

pub below : (a b : Line) → line_cmp a b ≡ Less → line_cmp b a ≡ Greater
below a b h = lines_are_ordered.total.antisymm b a ∙ ap ordering_reverse h
