-- Each form of a part, and of a record, reads exactly what it spells.
use Rattle.std.proofs.Common.{◌≡◌, inl, inr, ℕ, ◌-◌, ◌^◌, ◌<◌, ◌≤◌, Bool, true, false, cond, not, ◌==◌, nat_le, List}
use Rattle.std.proofs.Common.{Option, Some, None, refl, sym, ap, arith}
use Rattle.std.proofs.lemmas.Bool.Decides.{nat_tests}
use Rattle.qc_entry.specs.declared.line.Line.{Line}
use Rattle.qc_entry.specs.declared.line.Op.{Op}
use Rattle.qc_entry.specs.declared.line.OwnLine.{OwnLine}
use Rattle.qc_entry.specs.declared.line.ReadLock.{ReadLock}
use Rattle.qc_entry.specs.declared.record.Commit.{Commit}
use Rattle.qc_record.specs.Vocabulary.{Form, always, client_form, climb, climbs, commit_form, commit_of, commit_parts}
use Rattle.qc_record.specs.Vocabulary.{done_form, epoch_form, event_form, field, from_client, from_event, from_life}
use Rattle.qc_record.specs.Vocabulary.{from_number, from_object, from_op, greatest_clock, has_own_stamp}
use Rattle.qc_record.specs.Vocabulary.{has_response_number, invocation_form, is_own_stamp, is_response, line_floor}
use Rattle.qc_record.specs.Vocabulary.{line_form, line_numbers, line_of, line_parts, lines_form, lock_floor, lock_form}
use Rattle.qc_record.specs.Vocabulary.{lock_of, lock_parts, locks_form, object_form, op_form, op_of, op_parts, ops_form}
use Rattle.qc_record.specs.Vocabulary.{ordinal_form, own_floor, own_form, own_of, own_parts, owns_form, prepared_form}
use Rattle.qc_record.specs.Vocabulary.{prepared_of, prepared_parts, response_form, response_number, response_of}
use Rattle.qc_record.specs.Vocabulary.{stamp_clock_form, start_clock_form, start_form, tied, top, tops, tx_form, tx_of}
use Rattle.qc_record.specs.Vocabulary.{tx_parts, within}
use Rattle.qc_record.proofs.Numbers.{IsWidth}
use Rattle.qc_record.proofs.Exactness.{IsExact, IsShape, field_exact, both_exact, shaped_exact, counted_exact}
use Rattle.qc_list.proofs.Booleans.{and_parts}
use Rattle.qc_list.proofs.Numbers.{number_same}

pub at_most : (low high n : ℕ) → within low high n ≡ true → n ≤ high
at_most low high n e = let high_is : nat_le n high ≡ true = (and_parts (nat_le low n) (nat_le n high) e).1 in
    grind (arith, nat_tests, high_is)

within_exact : (width low high : ℕ) → IsWidth width → high < 256 ^ width → IsExact (field width (within low high))
within_exact width low high wide small =
    field_exact width (within low high) wide (λ n e. let most = at_most low high n e in omega (arith, most, small))

climbs_exact : (width low high : ℕ) (floor : List ℕ) → IsWidth width → high < 256 ^ width
    → IsExact (field width (climbs low high floor))
climbs_exact width low high floor wide small =
    field_exact width (climbs low high floor) wide
    (λ n e. let most = at_most low high n (and_parts _ _ e).0 in omega (arith, most, small))

tops_exact : (width low high : ℕ) (floor : List ℕ) → IsWidth width → high < 256 ^ width
    → IsExact (top width low high floor)
tops_exact width low high floor wide small =
    field_exact width (tops low high floor) wide
    (λ n e. let most = at_most low high n (and_parts _ _ e).0 in omega (arith, most, small))

climb_exact : {B : Type 0} (width low high : ℕ) (floor : List ℕ) (next : List ℕ → Form B) → IsWidth width
    → high < 256 ^ width → ((rest : List ℕ) → IsExact (next rest)) → IsExact (climb width low high floor next)
climb_exact width low high floor next wide small rests =
    both_exact (field width (climbs low high floor)) (λ n. next (tied floor n))
    (climbs_exact width low high floor wide small) (λ n. rests (tied floor n))

byte : IsWidth 1
byte = inl refl

four : IsWidth 4
four = inr (inr (inl refl))

eight : IsWidth 8
eight = inr (inr (inr refl))

client_exact : IsExact client_form
client_exact = within_exact 1 0 15 byte (omega arith)

ordinal_exact : IsExact ordinal_form
ordinal_exact = within_exact 4 1 (2 ^ 32 - 1) four (omega arith)

pub epoch_exact : IsExact epoch_form
epoch_exact = within_exact 1 1 8 byte (omega arith)

stamp_clock_exact : IsExact stamp_clock_form
stamp_clock_exact = within_exact 8 1 greatest_clock eight (omega arith)

start_clock_exact : IsExact start_clock_form
start_clock_exact = within_exact 8 0 greatest_clock eight (omega arith)

object_exact : IsExact object_form
object_exact = within_exact 1 0 15 byte (omega arith)

invocation_exact : IsExact invocation_form
invocation_exact = within_exact 1 0 31 byte (omega arith)

event_exact : IsExact event_form
event_exact = within_exact 1 0 63 byte (omega arith)

small_response : (n : ℕ) → is_response n ≡ true → n < 256 ^ 1
small_response n e = grind (arith, nat_tests, e)

response_same : IsShape response_of response_number has_response_number
response_same = record {
  there = λ n. there_by n (n == 255) refl;
  has = λ n. has_by n (n == 255) refl;
  back = back_by;
}
  where
    there_by : (n : ℕ) (b : Bool) → (n == 255) ≡ b → response_number (cond b None (Some n)) ≡ n
    there_by n true e = grind (arith, nat_tests, e)
    there_by n false e = refl

    has_by : (n : ℕ) (b : Bool) → (n == 255) ≡ b → has_response_number (cond b None (Some n)) ≡ true
    has_by n true e = refl
    has_by n false e = ap not e

    back_by : (o : Option ℕ) → has_response_number o ≡ true → response_of (response_number o) ≡ o
    back_by None e = refl
    back_by (Some n) e = some_by n (n == 255) refl e
      where
        some_by : (n : ℕ) (b : Bool) → (n == 255) ≡ b → not b ≡ true → cond (n == 255) None (Some n) ≡ Some n
        some_by n true e h = absurd cc
        some_by n false e h = rw e refl

response_exact : IsExact response_form
response_exact = shaped_exact response_of response_number has_response_number (field 1 is_response) response_same
    (field_exact 1 is_response byte small_response)

tx_same : IsShape tx_of tx_parts always
tx_same = record { there = λ a. refl; has = λ a. refl; back = λ b e. refl }

pub tx_exact : IsExact tx_form
tx_exact = shaped_exact tx_of tx_parts always _ tx_same
    (both_exact _ _ client_exact (λ _. both_exact _ _ ordinal_exact (λ _. ordinal_exact)))

lock_exact : (before : Option ReadLock) → IsExact (lock_form before)
lock_exact before = shaped_exact lock_of lock_parts always _
    (record { there = λ a. refl; has = λ a. refl; back = λ b e. refl })
    (climb_exact 1 0 15 (lock_floor before) (λ floor. top 1 0 31 floor) byte (omega arith)
    (λ floor. tops_exact 1 0 31 floor byte (omega arith)))

own_exact : (before : Option OwnLine) → IsExact (own_form before)
own_exact before = shaped_exact own_of own_parts always _
    (record { there = λ a. refl; has = λ a. refl; back = λ b e. refl })
    (both_exact _ _ (tops_exact 1 1 16 (own_floor before) byte (omega arith))
    (λ _. both_exact _ _ object_exact (λ _. event_exact)))

op_exact : (before : Option Op) → IsExact (op_form before)
op_exact before = shaped_exact op_of op_parts always _
    (record { there = λ a. refl; has = λ a. refl; back = λ b e. refl })
    (both_exact _ _ object_exact (λ _. both_exact _ _ invocation_exact (λ _. response_exact)))

pub same_number : (a b : ℕ) → (a == b) ≡ true → a ≡ b
same_number a b e = grind (arith, nat_tests, e)

line_back : (l : Line) → is_own_stamp l ≡ true → line_of (line_parts l) ≡ l
line_back l e = let same : l.stamp.client ≡ l.tx.client = same_number _ _ e in
    λ i. record {
      stamp = record { clock = l.stamp.clock; client = sym same i };
      tx = l.tx;
      op = l.op;
      object = l.object;
      event = l.event;
    }

line_numbers_exact : (floor : List ℕ) → IsExact (line_numbers floor)
line_numbers_exact floor =
    climb_exact 8 1 greatest_clock floor from_client eight (omega arith)
    (λ floor. climb_exact 1 0 15 floor from_life byte (omega arith)
    (λ floor. climb_exact 4 1 (2 ^ 32 - 1) floor from_number four (omega arith) (λ floor.
    climb_exact 4 1 (2 ^ 32 - 1) floor from_op four (omega arith)
    (λ floor. climb_exact 1 1 16 floor from_object byte (omega arith)
    (λ floor. climb_exact 1 0 15 floor from_event byte (omega arith)
    (λ floor. tops_exact 1 0 63 floor byte (omega arith)))))))

line_exact : (before : Option Line) → IsExact (line_form before)
line_exact before = shaped_exact line_of line_parts is_own_stamp _
    (record { there = λ a. refl; has = λ a. number_same _; back = line_back }) (line_numbers_exact (line_floor before))

locks_exact : IsExact locks_form
locks_exact = counted_exact 2 _ lock_form (within_exact 2 0 (2 ^ 16 - 1) (inr (inl refl)) (omega arith)) lock_exact

owns_exact : IsExact owns_form
owns_exact = counted_exact 1 _ own_form (within_exact 1 0 16 byte (omega arith)) own_exact

pub lines_exact : IsExact lines_form
lines_exact = counted_exact 4 _ line_form (within_exact 4 0 (2 ^ 32 - 1) four (omega arith)) line_exact

ops_exact : IsExact ops_form
ops_exact = counted_exact 1 _ op_form (within_exact 1 0 16 byte (omega arith)) op_exact

pub prepared_exact : IsExact prepared_form
prepared_exact = shaped_exact prepared_of prepared_parts always _
    (record { there = λ a. refl; has = λ a. refl; back = λ b e. refl })
    (both_exact _ _ tx_exact (λ _. both_exact _ _ epoch_exact
    (λ _. both_exact _ _ locks_exact (λ _. both_exact _ _ owns_exact (λ _. lines_exact)))))

pub done_exact : IsExact done_form
done_exact = both_exact _ _ tx_exact (λ _. stamp_clock_exact)

pub start_exact : IsExact start_form
start_exact = both_exact _ _ epoch_exact (λ _. both_exact _ _ start_clock_exact (λ _. lines_exact))

commit_back : (c : Commit) → has_own_stamp c ≡ true → commit_of (commit_parts c) ≡ c
commit_back c e = let same : c.stamp.client ≡ c.tx.client = same_number _ _ e in
    λ i. record { stamp = record { clock = c.stamp.clock; client = sym same i }; tx = c.tx; ops = c.ops }

pub commit_exact : IsExact commit_form
commit_exact = shaped_exact commit_of commit_parts has_own_stamp _
    (record { there = λ a. refl; has = λ a. number_same _; back = commit_back })
    (both_exact _ _ tx_exact (λ _. both_exact _ _ stamp_clock_exact (λ _. ops_exact)))
