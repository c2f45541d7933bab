use Rattle.std.proofs.Common.{ℕ, List, [], ◌∷◌, ◌++◌, take, length, length-append, refl, sym, ◌∙◌, ap, arith}
use Rattle.qc_outside.specs.Vocabulary.{IsImage, Told, Write, as_read, counts, left_by, overwritten, told_by, torn_by}
use Rattle.qc_outside.specs.Vocabulary.{wrote}
use Rattle.qc_outside.specs.declared.mem_disk.Change.TheVariants.{Wrote}
use Rattle.qc_outside.proofs.Memory.{told_write, counts_push, since_step, since_same}
use Rattle.qc_outside.proofs.Images.{image_wrote}
use Rattle.qc_outside.proofs.Kept.{same_front}
use Rattle.qc_outside.proofs.mem_disk.MemDiskDisk.write_at.Goals as goal

pub returns-in_err-reserve-clause-moments : goal.returns-in_err-reserve-clause-moments
returns-in_err-reserve-clause-moments c =
    let self = c.args.self.now in
    since_same self.tear self.changes.items self.changes.items self.written.items _
    (record { at = c.args.at; bytes = c.args.bytes.now }) refl c.reserve.ensures.items

pub returns-in_err-reserve-2-clause-moments : goal.returns-in_err-reserve-2-clause-moments
returns-in_err-reserve-2-clause-moments c =
    let self = c.args.self.now in
    since_same self.tear self.changes.items _ self.written.items _
    (record { at = c.args.at; bytes = c.args.bytes.now }) c.reserve-2.ensures.items c.reserve.ensures.items

pub returns-in_err-reserve-3-clause-moments : goal.returns-in_err-reserve-3-clause-moments
returns-in_err-reserve-3-clause-moments c =
    let self = c.args.self.now in
    since_same self.tear self.changes.items _ self.written.items _
    (record { at = c.args.at; bytes = c.args.bytes.now }) c.reserve-2.ensures.items c.reserve.ensures.items

pub returns-in_err-reserve-4-clause-moments : goal.returns-in_err-reserve-4-clause-moments
returns-in_err-reserve-4-clause-moments c =
    let self = c.args.self.now in
    since_same self.tear self.changes.items _ self.written.items _
    (record { at = c.args.at; bytes = c.args.bytes.now }) c.reserve-2.ensures.items c.reserve.ensures.items

pub invariant_of-self-4 : goal.invariant_of-self-4
invariant_of-self-4 c =
    let self = c.args.self.now in
    let w : Write = record { at = c.args.at; bytes = c.args.bytes.now } in
    let n : ℕ = c.min-self.result in
    let items = c.note.ensures.items ∙ ap (λ cs. cs ++ Wrote c.args.at (length c.args.bytes.now) ∷ [])
    c.reserve-2.ensures.items in
    let written = c.in_ok-extend_from_slice.ensures.items
    ∙ ap (λ (l : List ℕ). l ++ c.args.bytes.now) c.reserve.ensures.items in
    let now = told_write self.tear self.changes.items self.written.items c.note.new.changes.items
    c.extend_from_slice.new.self.items c.args.at c.args.bytes.now self.whole items written in
    record {
      whole = ap counts items ∙ counts_push self.changes.items (Wrote c.args.at (length c.args.bytes.now))
          ∙ omega (arith, self.whole, ap length written, length-append self.written.items c.args.bytes.now);
      bytes_are = c.overwrite.ensures.items ∙ ap (λ (l : List ℕ). overwritten l w)
          (c.reserve-3.ensures.items ∙ self.bytes_are) ∙ ap (λ (t : Told). as_read t.now) (sym now);
      left_are = c.tear_off.ensures.items ∙ ap (λ (l : List ℕ). torn_by self.tear l w)
          (c.reserve-4.ensures.items ∙ self.left_are) ∙ ap (λ (t : Told). left_by self.tear t.now) (sym now);
      at_rest = λ e. absurd (cc e);
      same_are = ap (take n) c.tear_off.ensures.items
          ∙ ap (λ (l : List ℕ). take n (torn_by self.tear l w)) c.reserve-4.ensures.items
          ∙ same_front self.tear self.left.items self.bytes.items w self.same n self.same_are
          (omega (arith, self.same_is, self.left.ok.0))
          (omega (arith, self.shorter, self.left.ok.0, self.bytes.ok.0)) (omega (arith, c.min-self.ensures))
          (omega (arith, c.min-self.ensures))
          ∙ sym (ap (take n) (c.overwrite.ensures.items
          ∙ ap (λ (l : List ℕ). overwritten l w) c.reserve-3.ensures.items));
      same_is = omega (arith, c.min-self.ensures, self.same_is, c.tear_off.ensures.longer, c.reserve-4.ensures.len);
      shorter = omega (
        arith,
        self.shorter,
        c.overwrite.ensures.len,
        c.tear_off.ensures.len,
        c.reserve-3.ensures.len,
        c.reserve-4.ensures.len,
      );
      copies = omega (
        arith,
        c.overwrite.ensures.len,
        c.overwrite.ensures.capacity,
        c.tear_off.ensures.capacity,
        self.shorter,
        c.reserve-3.ensures.len,
        c.reserve-4.ensures.len,
        c.in_ok-reserve-4.ensures.ok,
        c.in_ok-end.ensures.end,
        c.max-most.ensures,
        c.len-2.ensures,
        c.len-3.ensures,
        c.saturating_sub-2.ensures,
      );
      room = λ _. omega (
        arith,
        c.note.ensures.len,
        c.note.ensures.capacity,
        c.in_ok-reserve-2.ensures.ok,
        c.reserve-2.ensures.len,
      );
    }

pub returns-clause-written : goal.returns-clause-written
returns-clause-written c =
    let self = c.args.self.now in
    let items = c.note.ensures.items ∙ ap (λ cs. cs ++ Wrote c.args.at (length c.args.bytes.now) ∷ [])
    c.reserve-2.ensures.items in
    let written = c.in_ok-extend_from_slice.ensures.items
    ∙ ap (λ (l : List ℕ). l ++ c.args.bytes.now) c.reserve.ensures.items in
    let now = told_write self.tear self.changes.items self.written.items c.note.new.changes.items
    c.extend_from_slice.new.self.items c.args.at c.args.bytes.now self.whole items written in
    ap (λ (t : Told). t.now) now

pub returns-clause-moments : goal.returns-clause-moments
returns-clause-moments c =
    let self = c.args.self.now in
    let w : Write = record { at = c.args.at; bytes = c.args.bytes.now } in
    let old = told_by self.tear self.changes.items self.written.items in
    let items = c.note.ensures.items ∙ ap (λ cs. cs ++ Wrote c.args.at (length c.args.bytes.now) ∷ [])
    c.reserve-2.ensures.items in
    let written = c.in_ok-extend_from_slice.ensures.items
    ∙ ap (λ (l : List ℕ). l ++ c.args.bytes.now) c.reserve.ensures.items in
    let now = told_write self.tear self.changes.items self.written.items c.note.new.changes.items
    c.extend_from_slice.new.self.items c.args.at c.args.bytes.now self.whole items written in
    since_step (IsImage (wrote old.now w)) old _ (wrote old.now w) (λ i image. image_wrote old.now w i image)
    (λ i image. image) now
