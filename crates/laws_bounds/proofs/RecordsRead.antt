-- Records in the form of `qc_record` are in form up to how great clocks are; and those in form whose clocks are low,
-- and that are brief, are in its form, and have a spelling that is no longer than a journal's record may be.
use Rattle.std.proofs.Common.{◌≡◌, ℕ, ◌+◌, ◌*◌, ◌^◌, ◌-◌, ◌≤◌, List, [], ◌∷◌, ◌++◌, length, Option, Some, None, true}
use Rattle.std.proofs.Common.{refl, ap, ◌∙◌, arith}
use Rattle.std.specs.List.{AllByRecursion as Every}
use Rattle.std.proofs.lemmas.List.{length-append}
use Rattle.byteorder.specs.Endian.{big_bytes}
use Rattle.byteorder.specs.Numbers.{length-bytes_high_first}
use Rattle.qc_decl.specs.Vocabulary.{most_record_bytes}
use Rattle.qc_entry.specs.declared.line.Line.{Line}
use Rattle.qc_entry.specs.declared.line.Op.{Op}
use Rattle.qc_list.proofs.Members.{every-weaker}
use Rattle.qc_msg.specs.Vocabulary.{epoch_length, prepare_length}
use Rattle.qc_msg.specs.declared.record.Record.{Record}
use Rattle.qc_msg.specs.declared.record.Record.TheVariants as records
use Rattle.qc_record.specs.Vocabulary.{AreLines, IsInForm, IsLine, IsStart, is_legal, items_spelled, line_form}
use Rattle.qc_record.specs.Vocabulary.{lines_form, op_form, ops_form, spelled}
use Rattle.qc_record.proofs.InForm.{legal_records_are_in_form}
use Rattle.qc_record.proofs.Lengths.{prepares_are_as_long_as_told}
use Rattle.laws_turns.specs.Vocabulary.{LinesWithin}
use Rattle.laws_bounds.specs.Vocabulary.{RecordWithin}
use Rattle.laws_bounds.proofs.Forms.{IsBrief, LineInForm, LinesInForm, RecordInForm, StartInForm}
use Rattle.laws_bounds.proofs.Orders.{few_owns, locks_ascend, locks_rise, owns_ascend, owns_rise}

-- what rises

lines_read : (lines : List Line) → AreLines lines → LinesInForm lines
lines_read lines are = record {
  each_is =
      every-weaker IsLine LineInForm
      (λ l is. record {
        stamp = record { client = is.stamp; clock = is.clock.0 };
        tx = is.tx;
        op = is.op;
        object = is.object;
        event = is.event;
      }) lines are.each_is;
  ascend = are.rise;
}

record_read : (r : Record) → IsInForm r → RecordInForm r
record_read records.Life is = tt
record_read (records.Prepare p) is = record {
  tx = is.tx;
  epoch = is.epoch;
  locks = is.locks.each_is;
  own = is.own.each_is;
  lines = lines_read p.lines is.lines;
  locks_ascend = locks_ascend p.locks is.locks.rise;
  own_ascend = owns_ascend p.own is.own.rise;
}
record_read (records.Done tx clock) is = (is.0, is.1.0)
record_read (records.Close epoch) is = is
record_read (records.Install start) is =
    record { epoch_is = is.epoch_is; lines_are = lines_read start.lines is.lines_are }
record_read (records.Commit c) is =
    record {
      stamp = record { client = is.stamp; clock = is.clock.0 };
      tx = is.tx;
      ops = is.ops.each_is;
      few = is.ops.few;
    }
record_read (records.Decide start) is =
    record { epoch_is = is.epoch_is; lines_are = lines_read start.lines is.lines_are }

pub legal_read : (rs : List Record) → Every (λ (r : Record). is_legal r ≡ true) rs → Every RecordInForm rs
legal_read rs all =
    every-weaker (λ (r : Record). is_legal r ≡ true) RecordInForm
    (λ r is. record_read r ((legal_records_are_in_form r).0 is)) rs all

-- what is written

lines_are : (lines : List Line) → Every LineInForm lines → LinesWithin (2 ^ 62) lines
    → Every IsLine lines
lines_are [] all low = tt
lines_are (l ∷ ls) all low = (
  record {
    stamp = all.0.stamp.client;
    clock = (all.0.stamp.clock, low.0);
    tx = all.0.tx;
    op = all.0.op;
    object = all.0.object;
    event = all.0.event;
  },
  lines_are ls all.1 low.1,
)

start_form : (epoch clock : ℕ) (lines : List Line) → StartInForm epoch lines
    → (clock ≤ 2 ^ 62) × LinesWithin (2 ^ 62) lines → epoch_length lines ≤ most_record_bytes → IsStart epoch clock lines
start_form epoch clock lines here low brief =
    let short : epoch_length lines ≤ 65536 = brief in
    let total : epoch_length lines ≡ 14 + 20 * length lines = refl in
    let few : length lines ≤ 2 ^ 32 - 1 = omega (arith, short, total) in
    record {
      epoch_is = here.epoch_is;
      clock_is = low.0;
      lines_are = record {
        few = few;
        each_is = lines_are lines here.lines_are.each_is low.1;
        rise = here.lines_are.ascend;
      };
    }

pub brief_form : (r : Record) → RecordInForm r → RecordWithin (2 ^ 62) r → IsBrief r → IsInForm r
brief_form records.Life here low brief = tt
brief_form (records.Prepare p) here low brief =
    let rise = owns_rise p.own here.own_ascend in
    let short : prepare_length p ≤ 65536 = brief in
    let total : prepare_length p ≡ 18 + 2 * length p.locks + 3 * length p.own + 20 * length p.lines = refl in
    let few_locks : length p.locks ≤ 2 ^ 16 - 1 = omega (arith, short, total) in
    let few_lines : length p.lines ≤ 2 ^ 32 - 1 = omega (arith, short, total) in
    record {
      tx = here.tx;
      epoch = here.epoch;
      locks = record { few = few_locks; each_is = here.locks; rise = locks_rise p.locks here.locks_ascend };
      own = record { few = few_owns p.own here.own rise; each_is = here.own; rise = rise };
      lines =
          record { few = few_lines; each_is = lines_are p.lines here.lines.each_is low; rise = here.lines.ascend };
    }
brief_form (records.Done tx clock) here low brief = (here.0, (here.1, low))
brief_form (records.Close epoch) here low brief = here
brief_form (records.Install start) here low brief = start_form start.epoch start.clock start.lines here low brief
brief_form (records.Commit c) here low brief =
    record {
      stamp = here.stamp.client;
      tx = here.tx;
      clock = (here.stamp.clock, low);
      ops = record { few = here.few; each_is = here.ops };
    }
brief_form (records.Decide start) here low brief = start_form start.epoch start.clock start.lines here low brief

-- its length

ops_long : (before : Option Op) (ops : List Op) → length (items_spelled op_form before ops) ≡ 3 * length ops
ops_long before [] = omega arith
ops_long before (o ∷ ops) =
    let rest : length (items_spelled op_form (Some o) ops) ≡ 3 * length ops = ops_long (Some o) ops in
    let first : length ((op_form before).spelled o) ≡ 3 = refl in
    let both : length ((op_form before).spelled o ++ items_spelled op_form (Some o) ops)
    ≡ length ((op_form before).spelled o) + length (items_spelled op_form (Some o) ops) =
    length-append ((op_form before).spelled o) (items_spelled op_form (Some o) ops) in
    omega arith

lines_long : (before : Option Line) (lines : List Line)
    → length (items_spelled line_form before lines) ≡ 20 * length lines
lines_long before [] = omega arith
lines_long before (l ∷ lines) =
    let rest : length (items_spelled line_form (Some l) lines) ≡ 20 * length lines = lines_long (Some l) lines in
    let first : length ((line_form before).spelled l) ≡ 20 = refl in
    let both : length ((line_form before).spelled l ++ items_spelled line_form (Some l) lines)
    ≡ length ((line_form before).spelled l) + length (items_spelled line_form (Some l) lines) =
    length-append ((line_form before).spelled l) (items_spelled line_form (Some l) lines) in
    omega arith

-- a record with an epoch, a clock and lines
start_length : (lines : List Line) (long : ℕ) → long ≡ 10 + length (lines_form.spelled lines)
    → epoch_length lines ≤ most_record_bytes → long ≤ most_record_bytes
start_length lines long is brief =
    let all : length (lines_form.spelled lines) ≡ 4 + 20 * length lines =
    length-append (big_bytes 4 (length lines)) (items_spelled line_form None lines)
    ∙ ap (λ (k : ℕ). k + length (items_spelled line_form None lines)) (length-bytes_high_first 4 (length lines))
    ∙ ap (λ (k : ℕ). 4 + k) (lines_long None lines) in
    let total : epoch_length lines ≡ 14 + 20 * length lines = refl in
    omega (arith, is, brief, all, total)

pub brief_length : (r : Record) → RecordInForm r → IsBrief r → length (spelled r) ≤ most_record_bytes
brief_length records.Life here brief = omega arith
brief_length (records.Prepare p) here brief =
    (let long : length (spelled (records.Prepare p)) ≡ prepare_length p = prepares_are_as_long_as_told p in
    let short : prepare_length p ≤ most_record_bytes = brief in
    omega (arith, long, short))
brief_length (records.Done tx clock) here brief =
    (let long : length (spelled (records.Done tx clock)) ≡ 18 = refl in omega (arith, long))
brief_length (records.Close epoch) here brief =
    (let long : length (spelled (records.Close epoch)) ≡ 2 = refl in omega (arith, long))
brief_length (records.Install start) here brief =
    (let long : length (spelled (records.Install start)) ≡ 10 + length (lines_form.spelled start.lines) =
    omega arith in
    start_length start.lines (length (spelled (records.Install start))) long brief)
brief_length (records.Commit c) here brief =
    (let ops : length (ops_form.spelled c.ops) ≡ 1 + 3 * length c.ops =
    length-append (big_bytes 1 (length c.ops)) (items_spelled op_form None c.ops)
    ∙ ap (λ (k : ℕ). k + length (items_spelled op_form None c.ops)) (length-bytes_high_first 1 (length c.ops))
    ∙ ap (λ (k : ℕ). 1 + k) (ops_long None c.ops) in
    let long : length (spelled (records.Commit c)) ≡ 18 + length (ops_form.spelled c.ops) = omega arith in
    let few : length c.ops ≤ 16 = here.few in
    omega (arith, ops, long, few))
brief_length (records.Decide start) here brief =
    (let long : length (spelled (records.Decide start)) ≡ 10 + length (lines_form.spelled start.lines) =
    omega arith in
    start_length start.lines (length (spelled (records.Decide start))) long brief)
