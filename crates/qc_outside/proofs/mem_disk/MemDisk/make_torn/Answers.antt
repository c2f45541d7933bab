use Rattle.std.proofs.Common.{take, sym, ◌∙◌, ap, arith}
use Rattle.qc_outside.specs.Vocabulary.{IsImage, Told, as_read, counts, left_by, settled, told_by}
use Rattle.qc_outside.specs.declared.mem_disk.Change.TheVariants.{Fell}
use Rattle.qc_outside.proofs.Kept.{left_is_image, settled_leaves}
use Rattle.qc_outside.proofs.Memory.{told_change, counts_push, since_step}
use Rattle.qc_outside.proofs.Images.{image_now}
use Rattle.qc_outside.proofs.mem_disk.MemDisk.make_torn.Goals as goal

pub invariant_of-self : goal.invariant_of-self
invariant_of-self c =
    let self = c.args.self.now in
    let now = told_change self.tear self.changes.items self.written.items c.note.new.changes.items Fell self.whole
    c.note.ensures.items in
    record {
      whole = ap counts c.note.ensures.items ∙ counts_push self.changes.items Fell ∙ omega (arith, self.whole);
      bytes_are = c.copy_from.ensures.items ∙ c.deref.ensures.value ∙ self.left_are
          ∙ ap (λ (t : Told). as_read t.now) (sym now);
      left_are = self.left_are ∙ ap (λ (t : Told). left_by self.tear t.now) (sym now);
      at_rest = λ _. ap (λ (t : Told). t.now.writes) now;
      same_are = sym (ap (take c.len-self.result) (c.copy_from.ensures.items ∙ c.deref.ensures.value));
      same_is = omega (arith, c.copy_from.ensures.len, c.deref.ensures.len, c.len-self.ensures);
      shorter = omega (arith, c.copy_from.ensures.len, c.deref.ensures.len);
      copies = omega (arith, self.shorter, self.copies, c.copy_from.ensures.len, c.deref.ensures.len);
      room = λ e. absurd (cc e);
    }

pub returns-clause-moments : goal.returns-clause-moments
returns-clause-moments c =
    let self = c.args.self.now in
    let old = told_by self.tear self.changes.items self.written.items in
    let now = told_change self.tear self.changes.items self.written.items c.note.new.changes.items Fell self.whole
    c.note.ensures.items in
    since_step (IsImage old.now) old _ (settled (left_by self.tear old.now)) (image_now old)
    (settled_leaves old.now (left_by self.tear old.now) (left_is_image self.tear old.now)) now

pub returns-clause-noted : goal.returns-clause-noted
returns-clause-noted c =
    let self = c.args.self.now in
    told_change self.tear self.changes.items self.written.items c.note.new.changes.items Fell self.whole
    c.note.ensures.items
