-- Locks, own lines, operations and lines have a spelling exactly where their numbers are in their ranges.
use Rattle.std.proofs.Common.{[], ◌≡◌, ℕ, ◌-◌, ◌^◌, true, not, ◌==◌, ◌&&◌, ◌||◌, List, ◌∷◌, Option, Some, None, refl}
use Rattle.std.proofs.Common.{arith}
use Rattle.std.proofs.lemmas.Bool.Decides.{nat_tests}
use Rattle.std.specs.List.{AllByRecursion as Every}
use Rattle.qc_entry.specs.declared.line.Line.{Line}
use Rattle.qc_entry.specs.declared.line.Op.{Op}
use Rattle.qc_entry.specs.declared.line.OwnLine.{OwnLine}
use Rattle.qc_entry.specs.declared.line.ReadLock.{ReadLock}
use Rattle.qc_record.specs.Vocabulary.{IsLine, IsLock, IsLockBelow, IsOp, IsOwn, IsOwnBelow, IsResponse, IsTx, climbs}
use Rattle.qc_record.specs.Vocabulary.{from_client, from_event, from_life, from_number, from_object, from_op}
use Rattle.qc_record.specs.Vocabulary.{greatest_clock, is_legal, is_own_stamp, is_response, items_are_legal, line_form}
use Rattle.qc_record.specs.Vocabulary.{lock_floor, lock_form, op_form, own_floor, own_form, response_form, tied, tops}
use Rattle.qc_record.specs.Vocabulary.{tx_form, within}
use Rattle.qc_record.proofs.Exact.{same_number}
use Rattle.qc_record.proofs.Logs.{rise}
use Rattle.qc_record.proofs.Ranges.{ranged, in_range, at_most, climb_range, top_range, free_climb, free_top, fall, last}
use Rattle.qc_record.proofs.Ranges.{last_of}
use Rattle.qc_stamp.specs.declared.stamp.TxId.{TxId}
use Rattle.qc_list.proofs.Booleans.{and_parts}
use Rattle.std.proofs.lemmas.Bool.{and_from}

-- transactions

pub tx_of : (tx : TxId) → tx_form.is_legal tx ≡ true → IsTx tx
tx_of tx e =
    let b = and_parts _ _ e in
    let c = and_parts _ _ b.1 in
    record {
      client = (ranged 0 15 tx.client b.0).1;
      life = ranged 1 (2 ^ 32 - 1) tx.life c.0;
      number = ranged 1 (2 ^ 32 - 1) tx.number c.1;
    }

pub of_tx : (tx : TxId) → IsTx tx → tx_form.is_legal tx ≡ true
of_tx tx h =
    and_from _ _ (in_range 0 15 tx.client (at_most 15 tx.client h.client))
    (and_from _ _ (in_range 1 (2 ^ 32 - 1) tx.life h.life) (in_range 1 (2 ^ 32 - 1) tx.number h.number))

-- locks

pub lock_of : (before : Option ReadLock) (l : ReadLock) → (lock_form before).is_legal l ≡ true → IsLock l
lock_of before l e =
    let b = and_parts (climbs 0 15 (lock_floor before) l.object)
    (tops 0 31 (tied (lock_floor before) l.object) l.inv) e in
    record {
      object = (climb_range 0 15 l.object (lock_floor before) b.0).1;
      inv = (top_range 0 31 l.inv (tied (lock_floor before) l.object) b.1).1;
    }

pub lock_above : (a l : ReadLock) → (lock_form (Some a)).is_legal l ≡ true → IsLockBelow a l
lock_above a l e = rise 0 15 a.object l.object (a.inv ∷ []) (λ f. tops 0 31 f l.inv) e (λ h. last_of 0 31 a.inv l.inv h)

pub of_lock : (l : ReadLock) → IsLock l → (lock_form None).is_legal l ≡ true
of_lock l h =
    and_from (climbs 0 15 [] l.object) (tops 0 31 [] l.inv) (free_climb 0 15 l.object (at_most 15 l.object h.object))
    (free_top 0 31 l.inv (at_most 31 l.inv h.inv))

pub of_lock_above : (a l : ReadLock) → IsLock a → IsLock l → IsLockBelow a l → (lock_form (Some a)).is_legal l ≡ true
of_lock_above a l ha h below =
    let inv = at_most 31 l.inv h.inv in
    fall 0 15 a.object l.object (a.inv ∷ []) (λ f. tops 0 31 f l.inv) (at_most 15 l.object h.object) below
    (free_top 0 31 l.inv inv) (λ up. last 0 31 a.inv l.inv inv up)

-- own lines

pub own_of : (before : Option OwnLine) (o : OwnLine) → (own_form before).is_legal o ≡ true → IsOwn o
own_of before o e =
    let b = and_parts (tops 1 16 (own_floor before) o.op) (within 0 15 o.object && within 0 63 o.event) e in
    let c = and_parts (within 0 15 o.object) (within 0 63 o.event) b.1 in
    record {
      op = top_range 1 16 o.op (own_floor before) b.0;
      object = (ranged 0 15 o.object c.0).1;
      event = (ranged 0 63 o.event c.1).1;
    }

pub own_above : (a o : OwnLine) → (own_form (Some a)).is_legal o ≡ true → IsOwnBelow a o
own_above a o e =
    last_of 1 16 a.op o.op (and_parts (tops 1 16 (a.op ∷ []) o.op) (within 0 15 o.object && within 0 63 o.event) e).0

own_rest : (o : OwnLine) → IsOwn o → (within 0 15 o.object && within 0 63 o.event) ≡ true
own_rest o h =
    and_from _ _ (in_range 0 15 o.object (at_most 15 o.object h.object))
    (in_range 0 63 o.event (at_most 63 o.event h.event))

pub of_own : (o : OwnLine) → IsOwn o → (own_form None).is_legal o ≡ true
of_own o h =
    and_from (tops 1 16 [] o.op) (within 0 15 o.object && within 0 63 o.event) (free_top 1 16 o.op h.op) (own_rest o h)

pub of_own_above : (a o : OwnLine) → IsOwn a → IsOwn o → IsOwnBelow a o → (own_form (Some a)).is_legal o ≡ true
of_own_above a o ha h below =
    and_from (tops 1 16 (a.op ∷ []) o.op) (within 0 15 o.object && within 0 63 o.event)
    (last 1 16 a.op o.op h.op below) (own_rest o h)

-- operations

response_of : (resp : Option ℕ) → response_form.is_legal resp ≡ true → IsResponse resp
response_of None e = tt
response_of (Some n) e =
    let b = and_parts (not (n == 255)) (is_response n) e in
    let apart : not (n == 255) ≡ true = b.0 in
    let known : (within 0 31 n || (n == 255)) ≡ true = b.1 in
    grind (arith, nat_tests, apart, known)

of_response : (resp : Option ℕ) → IsResponse resp → response_form.is_legal resp ≡ true
of_response None h = refl
of_response (Some n) h =
    let apart : not (n == 255) ≡ true = grind (arith, nat_tests, h) in
    let known : (within 0 31 n || (n == 255)) ≡ true = grind (arith, nat_tests, h) in
    and_from _ _ apart known

pub op_of : (before : Option Op) (o : Op) → (op_form before).is_legal o ≡ true → IsOp o
op_of before o e =
    let b = and_parts _ _ e in
    let c = and_parts _ _ b.1 in
    record { object = (ranged 0 15 o.object b.0).1; inv = (ranged 0 31 o.inv c.0).1; resp = response_of o.resp c.1 }

of_op : (o : Op) → IsOp o → (before : Option Op) → (op_form before).is_legal o ≡ true
of_op o h before =
    and_from _ _ (in_range 0 15 o.object (at_most 15 o.object h.object))
    (and_from _ _ (in_range 0 31 o.inv (at_most 31 o.inv h.inv)) (of_response o.resp h.resp))

pub of_ops : (before : Option Op) (ops : List Op) → Every IsOp ops → items_are_legal op_form before ops ≡ true
of_ops before [] every = refl
of_ops before (o ∷ ops) every = and_from _ _ (of_op o every.0 before) (of_ops (Some o) ops every.1)

-- lines

of_true : (l : Line) → is_own_stamp l ≡ true → l.stamp.client ≡ l.tx.client
of_true l e = same_number l.stamp.client l.tx.client e

pub line_of : (before : Option Line) (l : Line) → (line_form before).is_legal l ≡ true → IsLine l
line_of before l e =
    let s = and_parts _ _ e in
    let c = and_parts _ _ s.1 in
    let k = and_parts _ _ c.1 in
    let i = and_parts _ _ k.1 in
    let n = and_parts _ _ i.1 in
    let o = and_parts _ _ n.1 in
    let j = and_parts _ _ o.1 in
    record {
      stamp = of_true l s.0;
      clock = climb_range 1 greatest_clock l.stamp.clock _ c.0;
      tx =
          record {
            client = (climb_range 0 15 l.tx.client _ k.0).1;
            life = climb_range 1 (2 ^ 32 - 1) l.tx.life _ i.0;
            number = climb_range 1 (2 ^ 32 - 1) l.tx.number _ n.0;
          };
      op = climb_range 1 16 l.op _ o.0;
      object = (climb_range 0 15 l.object _ j.0).1;
      event = (top_range 0 63 l.event _ j.1).1;
    }

pub free_event : (l : Line) → IsLine l → (from_event []).is_legal l.event ≡ true
free_event l h = free_top 0 63 l.event (at_most 63 l.event h.event)

pub free_object : (l : Line) → IsLine l → (from_object []).is_legal (l.object, l.event) ≡ true
free_object l h = and_from _ _ (free_climb 0 15 l.object (at_most 15 l.object h.object)) (free_event l h)

pub free_op : (l : Line) → IsLine l → (from_op []).is_legal (l.op, (l.object, l.event)) ≡ true
free_op l h = and_from _ _ (free_climb 1 16 l.op h.op) (free_object l h)

pub free_number : (l : Line) → IsLine l → (from_number []).is_legal (l.tx.number, (l.op, (l.object, l.event))) ≡ true
free_number l h = and_from _ _ (free_climb 1 (2 ^ 32 - 1) l.tx.number h.tx.number) (free_op l h)

pub free_life : (l : Line) → IsLine l
    → (from_life []).is_legal (l.tx.life, (l.tx.number, (l.op, (l.object, l.event)))) ≡ true
free_life l h = and_from _ _ (free_climb 1 (2 ^ 32 - 1) l.tx.life h.tx.life) (free_number l h)

pub free_client : (l : Line) → IsLine l
    → (from_client []).is_legal (l.tx.client, (l.tx.life, (l.tx.number, (l.op, (l.object, l.event))))) ≡ true
free_client l h = and_from _ _ (free_climb 0 15 l.tx.client (at_most 15 l.tx.client h.tx.client)) (free_life l h)

pub own_stamp : (l : Line) → IsLine l → is_own_stamp l ≡ true
own_stamp l h = let same = h.stamp in grind (arith, nat_tests, same)

pub of_line : (l : Line) → IsLine l → (line_form None).is_legal l ≡ true
of_line l h =
    and_from _ _ (own_stamp l h) (and_from _ _ (free_climb 1 greatest_clock l.stamp.clock h.clock) (free_client l h))
