-- A record has a spelling exactly where its numbers are in their ranges and its lists in their orders.
use Rattle.std.proofs.Common.{[], ◌≡◌, ◌↔◌, inl, inr, ℕ, ◌-◌, ◌^◌, ◌<◌, Bool, true, false, ◌==◌, nat_eq, nat_lt, List}
use Rattle.std.proofs.Common.{◌∷◌, length, Some, None, refl, sym, ap, ◌∙◌, arith}
use Rattle.std.proofs.lemmas.Bool.Decides.{nat_tests}
use Rattle.std.specs.Ordering.{nat_cmp, ordering_then}
use Rattle.std.specs.declared.cmp.Ordering.{Ordering}
use Rattle.std.specs.declared.cmp.Ordering.TheVariants.{Less, Greater}
use Rattle.qc_entry.specs.declared.line.Line.{Line}
use Rattle.qc_entry.specs.declared.line.Op.{Op}
use Rattle.qc_entry.specs.declared.line.OwnLine.{OwnLine}
use Rattle.qc_entry.specs.declared.line.ReadLock.{ReadLock}
use Rattle.qc_entry.specs.Vocabulary.{IsAscending, line_cmp}
use Rattle.qc_list.specs.Vocabulary.{IsBelowAll}
use Rattle.qc_msg.specs.declared.record.Record.{Record}
use Rattle.qc_msg.specs.declared.record.Record.TheVariants as records
use Rattle.qc_record.specs.Vocabulary.{AreLines, AreLocks, AreOps, AreOwns, IsInForm, IsLine, IsLock, IsLockBelow, IsOp}
use Rattle.qc_record.specs.Vocabulary.{IsOwn, IsOwnBelow, IsStart, Rises, from_client, from_event, from_life}
use Rattle.qc_record.specs.Vocabulary.{from_number, from_object, from_op, greatest_clock, is_legal, items_are_legal}
use Rattle.qc_record.specs.Vocabulary.{line_form, lines_form, lock_form, locks_form, op_form, ops_form, own_form}
use Rattle.qc_record.specs.Vocabulary.{owns_form, start_form, within}
use Rattle.qc_record.proofs.Exact.{same_number}
use Rattle.qc_record.proofs.Logs.{Rise, rise, flat, ascends}
use Rattle.qc_record.proofs.Ranges.{ranged, in_range, at_most, fall, last, each_of, rises_of, legal_of}
use Rattle.qc_record.proofs.LinesInForm.{tx_of, of_tx, lock_of, lock_above, of_lock, of_lock_above, own_of, own_above}
use Rattle.qc_record.proofs.LinesInForm.{of_own, of_own_above, op_of, of_ops, line_of, free_event, free_object, free_op}
use Rattle.qc_record.proofs.LinesInForm.{free_number, free_life, free_client, own_stamp, of_line}
use Rattle.qc_list.proofs.Booleans.{and_parts}
use Rattle.std.proofs.lemmas.Bool.{and_from}
use Rattle.qc_list.proofs.Numbers.{below_from_cmp, cmp_same, cmp_above}

-- the order of lines tells where they rise

unrise : (a b : ℕ) (o : Ordering) → ordering_then (nat_cmp a b) o ≡ Less → Rise a b (o ≡ Less)
unrise a b o e = by (nat_lt a b) (nat_eq a b) refl refl
  where
    by : (t u : Bool) → nat_lt a b ≡ t → nat_eq a b ≡ u → Rise a b (o ≡ Less)
    by true u low tie = let below : a < b = grind (arith, nat_tests, low) in inl below
    by false true low tie =
        let same : a ≡ b = grind (arith, nat_tests, tie) in
        inr (same, sym (ap (λ x. ordering_then x o) (cmp_same a b same)) ∙ e)
    by false false low tie =
        let over : b < a = grind (arith, nat_tests, low, tie) in
        let no : Greater ≡ Less = sym (ap (λ x. ordering_then x o) (cmp_above a b over)) ∙ e in
        absurd cc

-- the stamp's clients, and the transactions'
untwice : (s t a b : ℕ) (o : Ordering) → s ≡ a → t ≡ b
    → ordering_then (nat_cmp s t) (ordering_then (nat_cmp a b) o) ≡ Less → Rise a b (o ≡ Less)
untwice s t a b o p q e = by (unrise s t (ordering_then (nat_cmp a b) o) e)
  where
    by : Rise s t (ordering_then (nat_cmp a b) o ≡ Less) → Rise a b (o ≡ Less)
    by (inl h) = let below : a < b = omega (arith, p, q, h) in inl below
    by (inr h) = unrise a b o h.1

of_line_above : (a l : Line) → IsLine a → IsLine l → line_cmp a l ≡ Less → (line_form (Some a)).is_legal l ≡ true
of_line_above a l ha h below =
    let e_floor = a.event ∷ [] in
    let j_floor = a.object ∷ e_floor in
    let o_floor = a.op ∷ j_floor in
    let n_floor = a.tx.number ∷ o_floor in
    let i_floor = a.tx.life ∷ n_floor in
    let a_floor = a.tx.client ∷ i_floor in
    and_from _ _ (own_stamp l h)
    (fall 1 greatest_clock a.stamp.clock l.stamp.clock a_floor
    (λ f. (from_client f).is_legal (
      l.tx.client,
      (
        l.tx.life,
        (
          l.tx.number,
          (
            l.op,
            (l.object, l.event),
          ),
        ),
      ),
    )) h.clock (unrise _ _ _ (sym (flat a l) ∙ below)) (free_client l h) (λ h1.
    fall 0 15 a.tx.client l.tx.client i_floor
    (λ f. (from_life f).is_legal (l.tx.life, (l.tx.number, (l.op, (l.object, l.event)))))
    (at_most 15 l.tx.client h.tx.client) (untwice _ _ _ _ _ ha.stamp h.stamp h1) (free_life l h) (λ h2.
    fall 1 (2 ^ 32 - 1) a.tx.life l.tx.life n_floor
    (λ f. (from_number f).is_legal (l.tx.number, (l.op, (l.object, l.event)))) h.tx.life (unrise _ _ _ h2)
    (free_number l h) (λ h3.
    fall 1 (2 ^ 32 - 1) a.tx.number l.tx.number o_floor
    (λ f. (from_op f).is_legal (l.op, (l.object, l.event))) h.tx.number (unrise _ _ _ h3) (free_op l h) (λ h4.
    fall 1 16 a.op l.op j_floor (λ f. (from_object f).is_legal (l.object, l.event)) h.op (unrise _ _ _ h4)
    (free_object l h) (λ h5.
    fall 0 15 a.object l.object e_floor (λ f. (from_event f).is_legal l.event) (at_most 15 l.object h.object)
    (unrise _ _ _ h5) (free_event l h) (λ h6.
    last 0 63 a.event l.event (at_most 63 l.event h.event) (below_from_cmp a.event l.event h6))))))))

abbrev IsLineBelow : Line → Line → Type 0
IsLineBelow a b = line_cmp a b ≡ Less

line_rises_from : (a : Line) (xs : List Line) → IsBelowAll line_cmp a xs → IsAscending xs
    → Rises IsLineBelow (Some a) xs
line_rises_from a [] below ascending = tt
line_rises_from a (x ∷ xs) below ascending = (below.0, line_rises_from x xs ascending.0 ascending.1)

line_rises : (xs : List Line) → IsAscending xs → Rises IsLineBelow None xs
line_rises [] ascending = tt
line_rises (x ∷ xs) ascending = (tt, line_rises_from x xs ascending.0 ascending.1)

-- lists

locks_of : (xs : List ReadLock) → locks_form.is_legal xs ≡ true → AreLocks xs
locks_of xs e =
    let b = and_parts (within 0 (2 ^ 16 - 1) (length xs)) (items_are_legal lock_form None xs) e in
    record {
      few = (ranged 0 (2 ^ 16 - 1) (length xs) b.0).1;
      each_is = each_of lock_form IsLock lock_of None xs b.1;
      rise = rises_of lock_form IsLockBelow lock_above xs b.1;
    }

of_locks : (xs : List ReadLock) → AreLocks xs → locks_form.is_legal xs ≡ true
of_locks xs h =
    and_from _ _ (in_range 0 (2 ^ 16 - 1) (length xs) (at_most (2 ^ 16 - 1) (length xs) h.few))
    (legal_of lock_form IsLock IsLockBelow of_lock of_lock_above xs h.each_is h.rise)

owns_of : (xs : List OwnLine) → owns_form.is_legal xs ≡ true → AreOwns xs
owns_of xs e =
    let b = and_parts (within 0 16 (length xs)) (items_are_legal own_form None xs) e in
    record {
      few = (ranged 0 16 (length xs) b.0).1;
      each_is = each_of own_form IsOwn own_of None xs b.1;
      rise = rises_of own_form IsOwnBelow own_above xs b.1;
    }

of_owns : (xs : List OwnLine) → AreOwns xs → owns_form.is_legal xs ≡ true
of_owns xs h =
    and_from _ _ (in_range 0 16 (length xs) (at_most 16 (length xs) h.few))
    (legal_of own_form IsOwn IsOwnBelow of_own of_own_above xs h.each_is h.rise)

lines_of : (xs : List Line) → lines_form.is_legal xs ≡ true → AreLines xs
lines_of xs e =
    let b = and_parts (within 0 (2 ^ 32 - 1) (length xs)) (items_are_legal line_form None xs) e in
    record {
      few = (ranged 0 (2 ^ 32 - 1) (length xs) b.0).1;
      each_is = each_of line_form IsLine line_of None xs b.1;
      rise = ascends None xs b.1;
    }

of_lines : (xs : List Line) → AreLines xs → lines_form.is_legal xs ≡ true
of_lines xs h =
    and_from _ _ (in_range 0 (2 ^ 32 - 1) (length xs) (at_most (2 ^ 32 - 1) (length xs) h.few))
    (legal_of line_form IsLine IsLineBelow of_line of_line_above xs h.each_is (line_rises xs h.rise))

ops_of : (xs : List Op) → ops_form.is_legal xs ≡ true → AreOps xs
ops_of xs e =
    let b = and_parts (within 0 16 (length xs)) (items_are_legal op_form None xs) e in
    record { few = (ranged 0 16 (length xs) b.0).1; each_is = each_of op_form IsOp op_of None xs b.1 }

ops_are : (xs : List Op) → AreOps xs → ops_form.is_legal xs ≡ true
ops_are xs h = and_from _ _ (in_range 0 16 (length xs) (at_most 16 (length xs) h.few)) (of_ops None xs h.each_is)

-- records

start_of : (epoch clock : ℕ) (lines : List Line) → start_form.is_legal (epoch, (clock, lines)) ≡ true
    → IsStart epoch clock lines
start_of epoch clock lines e =
    let b = and_parts _ _ e in
    let c = and_parts _ _ b.1 in
    record {
      epoch_is = ranged 1 8 epoch b.0;
      clock_is = (ranged 0 greatest_clock clock c.0).1;
      lines_are = lines_of lines c.1;
    }

of_start : (epoch clock : ℕ) (lines : List Line) → IsStart epoch clock lines
    → start_form.is_legal (epoch, (clock, lines)) ≡ true
of_start epoch clock lines h =
    and_from _ _ (in_range 1 8 epoch h.epoch_is)
    (and_from _ _ (in_range 0 greatest_clock clock (at_most greatest_clock clock h.clock_is))
    (of_lines lines h.lines_are))

form_of : (rec : Record) → is_legal rec ≡ true → IsInForm rec
form_of records.Life e = tt
form_of (records.Prepare p) e =
    let t = and_parts _ _ e in
    let b = and_parts _ _ t.1 in
    let k = and_parts _ _ b.1 in
    let o = and_parts _ _ k.1 in
    record {
      tx = tx_of p.tx t.0;
      epoch = ranged 1 8 p.epoch b.0;
      locks = locks_of p.locks k.0;
      own = owns_of p.own o.0;
      lines = lines_of p.lines o.1;
    }
form_of (records.Done tx clock) e = let b = and_parts _ _ e in (tx_of tx b.0, ranged 1 greatest_clock clock b.1)
form_of (records.Close epoch) e = ranged 1 8 epoch e
form_of (records.Install start) e = start_of start.epoch start.clock start.lines e
form_of (records.Commit c) e =
    let s = and_parts _ _ e in
    let t = and_parts _ _ s.1 in
    let k = and_parts _ _ t.1 in
    record {
      stamp = same_number c.stamp.client c.tx.client s.0;
      tx = tx_of c.tx t.0;
      clock = ranged 1 greatest_clock c.stamp.clock k.0;
      ops = ops_of c.ops k.1;
    }
form_of (records.Decide start) e = start_of start.epoch start.clock start.lines e

of_form : (rec : Record) → IsInForm rec → is_legal rec ≡ true
of_form records.Life h = refl
of_form (records.Prepare p) h =
    and_from _ _ (of_tx p.tx h.tx)
    (and_from _ _ (in_range 1 8 p.epoch h.epoch)
    (and_from _ _ (of_locks p.locks h.locks) (and_from _ _ (of_owns p.own h.own) (of_lines p.lines h.lines))))
of_form (records.Done tx clock) h = and_from _ _ (of_tx tx h.0) (in_range 1 greatest_clock clock h.1)
of_form (records.Close epoch) h = in_range 1 8 epoch h
of_form (records.Install start) h = of_start start.epoch start.clock start.lines h
of_form (records.Commit c) h =
    let same = h.stamp in
    let own : (c.stamp.client == c.tx.client) ≡ true = grind (arith, nat_tests, same) in
    and_from _ _ own
    (and_from _ _ (of_tx c.tx h.tx)
    (and_from _ _ (in_range 1 greatest_clock c.stamp.clock h.clock) (ops_are c.ops h.ops)))
of_form (records.Decide start) h = of_start start.epoch start.clock start.lines h

pub legal_records_are_in_form : (rec : Record) → (is_legal rec ≡ true) ↔ IsInForm rec
legal_records_are_in_form rec = (form_of rec, of_form rec)
