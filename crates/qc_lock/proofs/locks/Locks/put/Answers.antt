use Rattle.std.proofs.Common.{◌≡◌, ℕ, ◌||◌, List, [], true, false, sym, subst, ◌∙◌, ap}
use Rattle.qc_entry.specs.declared.line.OwnLine.{OwnLine}
use Rattle.qc_entry.specs.declared.line.ReadLock.{ReadLock}
use Rattle.qc_lock.specs.declared.held.Held.{Held}
use Rattle.qc_lock.specs.Vocabulary.{AreIndexed, IsIndex, Narrows, has_line, has_read, held_of, lines_held, reads_held}
use Rattle.qc_lock.specs.Vocabulary.{with_entry}
use Rattle.qc_lock.proofs.Indexing.{held_found, held_none, index_undone, lines_part, narrows_empty, put_done}
use Rattle.qc_lock.proofs.Indexing.{reads_part}
use Rattle.qc_lock.proofs.Order.{sound-put}
use Rattle.qc_lock.proofs.locks.Locks.put.Goals as goal

pub invariant_of-self : goal.invariant_of-self
invariant_of-self c =
    let held = c.self.inside.entries in
    let e : Held = c.args.entry in
    let same : c.enter-put.new.entries ≡ held = c.in_err-before.ensures.err in
    let reads : IsIndex c.keep.new.self.readers (reads_held held) =
    index_undone c.self.inside.index.readers c.enter-put.new.self.readers c.keep.new.self.readers e.tx (reads_held held)
    (has_read c.args.locks.now) false
    c.self.invariant.reads c.in_err-before.ensures.readers
    (subst (λ (hs : List Held). Narrows c.enter-put.new.self.readers c.keep.new.self.readers e.tx
    (has_read c.args.locks.now) (reads_held hs e.tx)) same c.keep.ensures.readers) in
    let lines : IsIndex c.keep.new.self.writers (lines_held held) =
    index_undone c.self.inside.index.writers c.enter-put.new.self.writers c.keep.new.self.writers e.tx (lines_held held)
    (has_line c.args.own.now) false
    c.self.invariant.lines c.in_err-before.ensures.writers
    (subst (λ (hs : List Held). Narrows c.enter-put.new.self.writers c.keep.new.self.writers e.tx
    (has_line c.args.own.now) (lines_held hs e.tx)) same c.keep.ensures.writers) in
    subst (λ (hs : List Held). AreIndexed hs c.keep.new.self.readers c.keep.new.self.writers) (sym same)
    (record { sound = c.self.invariant.sound; reads = reads; lines = lines })

pub invariant_of-self-in-Some : goal.invariant_of-self-in-Some
invariant_of-self-in-Some c =
    let held = c.self.inside.entries in
    let e : Held = c.args.entry in
    let put : c.enter-put.new.entries ≡ with_entry held e = c.in_ok-before.ensures.ok in
    let was : held_of held e.tx ≡ c.in-Some.before =
    held_found held e.tx c.in-Some.before (sym c.in-Some.is ∙ c.in_ok-before.ensures.before) in
    let reads : IsIndex c.keep-in-Some.new.self.readers (reads_held (with_entry held e)) =
    put_done reads_part held e (has_read c.args.locks.now) c.self.inside.index.readers c.enter-put.new.self.readers
    c.keep.new.self.readers c.keep-in-Some.new.self.readers
    c.self.invariant.reads c.in_ok-before.ensures.readers
    (subst (λ (hs : List Held). Narrows c.enter-put.new.self.readers c.keep.new.self.readers e.tx
    (has_read c.args.locks.now) (reads_held hs e.tx)) put c.keep.ensures.readers)
    (subst (λ (hs : List Held). Narrows c.keep.new.self.readers c.keep-in-Some.new.self.readers e.tx
    (reads_held held e.tx) (reads_held hs e.tx)) put
    (subst (λ (h : Held). Narrows c.keep.new.self.readers c.keep-in-Some.new.self.readers e.tx (has_read h.locks)
    (reads_held c.enter-put.new.entries e.tx)) (sym was)
    (subst (λ (ls : List ReadLock). Narrows c.keep.new.self.readers c.keep-in-Some.new.self.readers e.tx (has_read ls)
    (reads_held c.enter-put.new.entries e.tx)) c.items-locks.ensures c.keep-in-Some.ensures.readers)))
    (subst (λ (hs : List Held). (a b : ℕ) → has_read e.locks a b ≡ true
    → (reads_held hs e.tx a b || has_read c.args.locks.now a b) ≡ true) (sym c.self.view_is) c.requires.reads) in
    let lines : IsIndex c.keep-in-Some.new.self.writers (lines_held (with_entry held e)) =
    put_done lines_part held e (has_line c.args.own.now) c.self.inside.index.writers c.enter-put.new.self.writers
    c.keep.new.self.writers c.keep-in-Some.new.self.writers
    c.self.invariant.lines c.in_ok-before.ensures.writers
    (subst (λ (hs : List Held). Narrows c.enter-put.new.self.writers c.keep.new.self.writers e.tx
    (has_line c.args.own.now) (lines_held hs e.tx)) put c.keep.ensures.writers)
    (subst (λ (hs : List Held). Narrows c.keep.new.self.writers c.keep-in-Some.new.self.writers e.tx
    (lines_held held e.tx) (lines_held hs e.tx)) put
    (subst (λ (h : Held). Narrows c.keep.new.self.writers c.keep-in-Some.new.self.writers e.tx (has_line h.own)
    (lines_held c.enter-put.new.entries e.tx)) (sym was)
    (subst (λ (ls : List OwnLine). Narrows c.keep.new.self.writers c.keep-in-Some.new.self.writers e.tx (has_line ls)
    (lines_held c.enter-put.new.entries e.tx)) c.items-own.ensures c.keep-in-Some.ensures.writers)))
    (subst (λ (hs : List Held). (a b : ℕ) → has_line e.own a b ≡ true
    → (lines_held hs e.tx a b || has_line c.args.own.now a b) ≡ true) (sym c.self.view_is) c.requires.lines) in
    subst (λ (hs : List Held). AreIndexed hs c.keep-in-Some.new.self.readers c.keep-in-Some.new.self.writers) (sym put)
    (record {
      sound = sound-put held e c.self.invariant.sound c.requires.full c.requires.locks c.requires.own;
      reads = reads;
      lines = lines;
    })

pub invariant_of-self-in_default : goal.invariant_of-self-in_default
invariant_of-self-in_default c =
    let held = c.self.inside.entries in
    let e : Held = c.args.entry in
    let put : c.enter-put.new.entries ≡ with_entry held e = c.in_ok-before.ensures.ok in
    let none : held_of held e.tx ≡ record { tx = e.tx; locks = []; own = [] } =
    held_none held e.tx (sym c.in_default.is ∙ c.in_ok-before.ensures.before) in
    let reads : IsIndex c.keep.new.self.readers (reads_held (with_entry held e)) =
    put_done reads_part held e (has_read c.args.locks.now) c.self.inside.index.readers c.enter-put.new.self.readers
    c.keep.new.self.readers c.keep.new.self.readers
    c.self.invariant.reads c.in_ok-before.ensures.readers
    (subst (λ (hs : List Held). Narrows c.enter-put.new.self.readers c.keep.new.self.readers e.tx
    (has_read c.args.locks.now) (reads_held hs e.tx)) put c.keep.ensures.readers)
    (narrows_empty c.keep.new.self.readers e.tx (reads_held held e.tx) (reads_held (with_entry held e) e.tx)
    (λ a b. ap (λ (h : Held). has_read h.locks a b) none))
    (subst (λ (hs : List Held). (a b : ℕ) → has_read e.locks a b ≡ true
    → (reads_held hs e.tx a b || has_read c.args.locks.now a b) ≡ true) (sym c.self.view_is) c.requires.reads) in
    let lines : IsIndex c.keep.new.self.writers (lines_held (with_entry held e)) =
    put_done lines_part held e (has_line c.args.own.now) c.self.inside.index.writers c.enter-put.new.self.writers
    c.keep.new.self.writers c.keep.new.self.writers
    c.self.invariant.lines c.in_ok-before.ensures.writers
    (subst (λ (hs : List Held). Narrows c.enter-put.new.self.writers c.keep.new.self.writers e.tx
    (has_line c.args.own.now) (lines_held hs e.tx)) put c.keep.ensures.writers)
    (narrows_empty c.keep.new.self.writers e.tx (lines_held held e.tx) (lines_held (with_entry held e) e.tx)
    (λ a b. ap (λ (h : Held). has_line h.own a b) none))
    (subst (λ (hs : List Held). (a b : ℕ) → has_line e.own a b ≡ true
    → (lines_held hs e.tx a b || has_line c.args.own.now a b) ≡ true) (sym c.self.view_is) c.requires.lines) in
    subst (λ (hs : List Held). AreIndexed hs c.keep.new.self.readers c.keep.new.self.writers) (sym put)
    (record {
      sound = sound-put held e c.self.invariant.sound c.requires.full c.requires.locks c.requires.own;
      reads = reads;
      lines = lines;
    })
