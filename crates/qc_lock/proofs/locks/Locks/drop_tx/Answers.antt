use Rattle.std.proofs.Common.{◌≡◌, List, refl, sym, subst, ◌∙◌}
use Rattle.qc_entry.specs.declared.line.OwnLine.{OwnLine}
use Rattle.qc_entry.specs.declared.line.ReadLock.{ReadLock}
use Rattle.qc_lock.specs.declared.held.Held.{Held}
use Rattle.qc_lock.specs.Vocabulary.{AreIndexed, Narrows, has_line, has_read, held_of, lines_held, reads_held}
use Rattle.qc_lock.specs.Vocabulary.{without_held}
use Rattle.qc_lock.proofs.Indexing.{held_found, lines_part, reads_part, taken_done}
use Rattle.qc_lock.proofs.Numbers.{without_none}
use Rattle.qc_lock.proofs.Ones.{holder}
use Rattle.qc_lock.proofs.Order.{sound-without}
use Rattle.qc_lock.proofs.locks.Locks.drop_tx.Goals as goal

pub invariant_of-self : goal.invariant_of-self
invariant_of-self c =
    let held = c.self.inside.entries in
    let was : held_of held c.args.tx ≡ c.in-Some.entry =
    held_found held c.args.tx c.in-Some.entry c.in-Some.ensures.one in
    let after : c.remove.new.self ≡ without_held held c.args.tx = c.in-Some.ensures.after in
    let reads : Narrows c.self.inside.index.readers c.keep.new.self.readers c.args.tx (reads_held held c.args.tx)
    (reads_held (without_held held c.args.tx) c.args.tx) =
    subst (λ (hs : List Held). Narrows c.self.inside.index.readers c.keep.new.self.readers c.args.tx
    (reads_held held c.args.tx) (reads_held hs c.args.tx)) after
    (subst (λ (h : Held). Narrows c.self.inside.index.readers c.keep.new.self.readers c.args.tx (has_read h.locks)
    (reads_held c.remove.new.self c.args.tx)) (sym was)
    (subst (λ (ls : List ReadLock). Narrows c.self.inside.index.readers c.keep.new.self.readers c.args.tx (has_read ls)
    (reads_held c.remove.new.self c.args.tx)) c.items-locks.ensures c.keep.ensures.readers)) in
    let lines : Narrows c.self.inside.index.writers c.keep.new.self.writers c.args.tx (lines_held held c.args.tx)
    (lines_held (without_held held c.args.tx) c.args.tx) =
    subst (λ (hs : List Held). Narrows c.self.inside.index.writers c.keep.new.self.writers c.args.tx
    (lines_held held c.args.tx) (lines_held hs c.args.tx)) after
    (subst (λ (h : Held). Narrows c.self.inside.index.writers c.keep.new.self.writers c.args.tx (has_line h.own)
    (lines_held c.remove.new.self c.args.tx)) (sym was)
    (subst (λ (ls : List OwnLine). Narrows c.self.inside.index.writers c.keep.new.self.writers c.args.tx (has_line ls)
    (lines_held c.remove.new.self c.args.tx)) c.items-own.ensures c.keep.ensures.writers)) in
    subst (λ (hs : List Held). AreIndexed hs c.keep.new.self.readers c.keep.new.self.writers) (sym after)
    (record {
      sound = sound-without held c.args.tx c.self.invariant.sound;
      reads = taken_done reads_part held c.args.tx c.self.inside.index.readers c.keep.new.self.readers
          (λ a b. refl) c.self.invariant.reads reads;
      lines = taken_done lines_part held c.args.tx c.self.inside.index.writers c.keep.new.self.writers
          (λ a b. refl) c.self.invariant.lines lines;
    })

pub invariant_of-self-in_default : goal.invariant_of-self-in_default
invariant_of-self-in_default c =
    let held = c.self.inside.entries in
    let same : c.remove.new.self ≡ held = c.in_default.ensures.after
    ∙ without_none holder held c.args.tx (sym c.in_default.ensures.one) in
    subst (λ (hs : List Held). AreIndexed hs c.self.inside.index.readers c.self.inside.index.writers)
    (sym same) c.self.invariant
