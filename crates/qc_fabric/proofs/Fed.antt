-- How passes, the right and the log go on as steps are added.
use Rattle.std.proofs.Common.{◌≡◌, ℕ, zero, suc, ◌+◌, ◌<◌, ◌≤◌, Bool, true, false, List, [], ◌∷◌, ◌++◌, length, refl}
use Rattle.std.proofs.Common.{ap, sym, ◌∙◌, subst, arith, length-append, append_assoc, Some, sum}
use Rattle.std.specs.Prelude.{slice_get, slice_set}
use Rattle.std.proofs.lemmas.List.Sums.{sum_by-cons}
use mathlib.Core.List.{IsPrefix}
use Rattle.qc_pass.specs.declared.token.Pass.{Pass}
use Rattle.qc_pass.specs.declared.token.Right.{Right}
use Rattle.qc_pass.specs.Vocabulary.{Met, all, mine, number, room, rooms, table_of}
use Rattle.qc_msg.specs.declared.step.Step.{Step}
use Rattle.qc_msg.specs.declared.step.Fall.TheVariants as causes
use Rattle.qc_msg.specs.declared.turn.Appended.{Appended}
use Rattle.qc_msg.specs.declared.turn.Appended.TheVariants.{Done, Failed, Stopped}
use Rattle.qc_msg.specs.declared.turn.Posting.{Posting}
use Rattle.qc_msg.specs.declared.turn.Turn.{Turn}
use Rattle.qc_msg.specs.Vocabulary.{Entry, by, deeds, fell, own, posted_as, sends_as, sents, told, wrote}
use Rattle.qc_msg.proofs.GrownMail.{by-append}
use Rattle.qc_msg.proofs.Growth.{same_deeds}
use Rattle.qc_mailbox.specs.Vocabulary.{is_held}
use Rattle.qc_fabric.specs.Vocabulary.{CanWrite, Fed, HasGrown, HasWritten, HasWrittenPart, Logged, size_of}
use Rattle.qc_fabric.specs.declared.feed.HistoryWriter.{HistoryWriter}
use Rattle.qc_msg.proofs.DeedsGrow.{length-by}

-- lists of numbers

pub sum_cons : (x : ℕ) (l : List ℕ) → sum (x ∷ l) ≡ x + sum l
sum_cons x l = sum_by-cons (λ n. n) x l

pub sum-set : (l : List ℕ) (i x y : ℕ) → slice_get l i ≡ Some x → sum (slice_set l i y) + x ≡ sum l + y
sum-set [] i x y e = absurd (let no : ⊥ = cc in no)
sum-set (z ∷ l) zero x y e = let s : z ≡ x = cc in let a = sum_cons y l in let b = sum_cons z l in
    omega (arith, s, a, b)
sum-set (z ∷ l) (suc i) x y e = let r = sum-set l i x y e in let a = sum_cons z (slice_set l i y) in
    let b = sum_cons z l in omega (arith, r, a, b)

pub set_again : {A : Type 0} (l : List A) (i : ℕ) (x : A) → slice_get l i ≡ Some x → slice_set l i x ≡ l
set_again [] i x e = refl
set_again (z ∷ l) zero x e = ap (λ y. y ∷ l) (let s : x ≡ z = cc in s)
set_again (z ∷ l) (suc i) x e = ap (λ m. z ∷ m) (set_again l i x e)

pub get_here : {A : Type 0} (l : List A) (i : ℕ) (x : A) → i < length l → slice_get (slice_set l i x) i ≡ Some x
get_here [] i x within = absurd (omega arith)
get_here (z ∷ l) zero x within = refl
get_here (z ∷ l) (suc i) x within = get_here l i x (omega arith)

pub get_else : {A : Type 0} (l : List A) (i j : ℕ) (x : A) → (j ≡ i → ⊥) → slice_get (slice_set l i x) j ≡ slice_get l j
get_else [] i j x ne = refl
get_else (z ∷ l) zero zero x ne = absurd (ne refl)
get_else (z ∷ l) zero (suc j) x ne = refl
get_else (z ∷ l) (suc i) zero x ne = refl
get_else (z ∷ l) (suc i) (suc j) x ne = get_else l i j x (λ e. ne (ap suc e))

-- a pass and the right met

pub rooms_kept : (p q : Pass Step) (r t : Right Step) (new : List Step) → Met p r q t new (room p) → rooms t ≡ rooms r
rooms_kept p q r t new m = m.rooms_are ∙ set_again (rooms r) (number p) (room p) m.had_room

-- the same meeting, of a pass and a room by other names
pub met_as : {p p' q : Pass Step} {r t : Right Step} {xs : List Step} {k k' : ℕ} → Met p r q t xs k → p ≡ p' → k ≡ k'
    → Met p' r q t xs k'
met_as {p = p} {q = q} {r = r} {t = t} {xs = xs} {k' = k'} m same room_is =
    subst (λ (x : Pass Step). Met x r q t xs k') same (subst (λ n. Met p r q t xs n) room_is m)

-- an actor whose own entries are those of a beginning has the deeds of the beginning
pub deeds_of_front : (a : ℕ) (h k : List Entry) → own a h ≡ own a k → IsPrefix h k → deeds a [] k ≡ deeds a [] h
deeds_of_front a h k e p =
    ap (λ (l : List Entry). deeds a [] l) (sym p.1)
    ∙ same_deeds a [] h p.0 (ap (λ (l : List Entry). own a l) p.1 ∙ sym e)

-- steps that were added

fed_join : (p p1 q : Pass Step) (r r1 t : Right Step) (xs ys : List Step) → Fed p r p1 r1 xs → Fed p1 r1 q t ys
    → Fed p r q t (xs ++ ys)
fed_join p p1 q r r1 t xs ys e f = record {
  same_table = f.same_table ∙ e.same_table;
  same_right = f.same_right ∙ e.same_right;
  same_number = f.same_number ∙ e.same_number;
  mine_is = f.mine_is ∙ (ap (λ (l : List Step). l ++ ys) e.mine_is ∙ append_assoc (mine p) xs ys);
  all_is = f.all_is ∙ (ap (λ (k : ℕ). all r1 ++ by k ys) e.same_number
      ∙ (ap (λ (l : List Entry). l ++ by (number p) ys) e.all_is
      ∙ (append_assoc (all r) (by (number p) xs) (by (number p) ys)
      ∙ ap (λ (l : List Entry). all r ++ l) (sym (by-append (number p) xs ys)))));
  rooms_are = f.rooms_are ∙ e.rooms_are;
  others_end = λ b other. f.others_end b (λ is. other (is ∙ e.same_number)) ∙ e.others_end b other;
  room_is = f.room_is ∙ e.room_is;
}

-- the log

pub length-sents : (n : ℕ) (ps : List Posting) → length (sents n ps) ≡ length ps
length-sents n [] = refl
length-sents n (p ∷ ps) = ap suc (length-sents (n + 1) ps)

-- a turn's posts
pub length-done : (n : ℕ) (t : Turn) → length (posted_as Done n t) ≡ length (wrote t.write) +
    (length t.sends + length (told t.told))
length-done n t = omega (
  arith,
  length-append (wrote t.write) (sents n t.sends ++ told t.told),
  length-append (sents n t.sends) (told t.told),
  length-sents n t.sends,
)

pub length-failed : (n : ℕ) (t : Turn) → length (posted_as Failed n t) ≡ length t.failed_sends +
    (length (told t.failed_told) + 1)
length-failed n t =
    omega (
      arith,
      length-append (sents n t.failed_sends) (told t.failed_told ++ fell causes.Disk t.write),
      length-append (told t.failed_told) (fell causes.Disk t.write),
      length-sents n t.failed_sends,
    )

length-stopped : (n : ℕ) (t : Turn) → length (posted_as Stopped n t) ≡ length (told t.failed_told) + 1
length-stopped n t = omega (arith, length-append (told t.failed_told) (fell causes.Stop t.write))

-- each has room in what the turn asks for, and so have its messages
pub length-posted : (end : Appended) (n : ℕ) (t : Turn) → length (posted_as end n t) + 1 ≤ size_of t
length-posted Done n t = omega (arith, length-done n t)
length-posted Failed n t = omega (arith, length-failed n t)
length-posted Stopped n t = omega (arith, length-stopped n t)

pub sends_few : (end : Appended) (n : ℕ) (t : Turn) → length (sends_as end t) ≤ length (posted_as end n t)
sends_few Done n t = omega (arith, length-done n t)
sends_few Failed n t = omega (arith, length-failed n t)
sends_few Stopped n t = omega arith

grown_join : (old mid new : Logged) (a b : ℕ) (xs ys : List Step) → b ≡ a → HasGrown old mid (by a xs)
    → HasGrown mid new (by b ys) → HasGrown old new (by a (xs ++ ys))
grown_join old mid new a b xs ys same g h = record {
  history = h.history ∙ (ap (λ (k : ℕ). mid.history ++ by k ys) same
      ∙ (ap (λ (l : List Entry). l ++ by a ys) g.history
      ∙ (append_assoc old.history (by a xs) (by a ys)
      ∙ ap (λ (l : List Entry). old.history ++ l) (sym (by-append a xs ys)))));
  room = omega (arith, g.room, h.room, length-by a xs, length-by b ys, length-by a (xs ++ ys), length-append xs ys);
}

-- a writer

pub written_join : (u v w : HistoryWriter) (r s t : Right Step) (xs ys : List Step) → HasWritten u r v s xs
    → HasWritten v s w t ys → HasWritten u r w t (xs ++ ys)
written_join u v w r s t xs ys a b = record {
  fed = fed_join u.pass.now v.pass.now w.pass.now r s t xs ys a.fed b.fed;
  log = grown_join u.log.now v.log.now w.log.now (number u.pass.now) (number v.pass.now) xs ys a.fed.same_number a.log
      b.log;
  same_passes = b.same_passes ∙ a.same_passes;
  same_log = b.same_log ∙ a.same_log;
  same_pass = b.same_pass ∙ a.same_pass;
}

-- what it can add after some steps, and that it can add fewer

pub can_then : (v w : HistoryWriter) (r t : Right Step) (steps : List Step) (left total : ℕ) → HasWritten v r w t steps
    → length steps + left ≡ total → CanWrite v r total → CanWrite w t left
can_then v w r t steps left total has e can = record {
  pass_table_is = has.fed.same_table ∙ (can.pass_table_is ∙ ap table_of (sym has.same_passes));
  right_table_is = has.fed.same_right ∙ (can.right_table_is ∙ ap table_of (sym has.same_passes));
  room = omega (arith, has.log.room, length-by (number v.pass.now) steps, e, can.room);
  bound = omega (
    arith,
    ap (λ (l : List Entry). length l) has.log.history,
    length-append v.log.now.history (by (number v.pass.now) steps),
    length-by (number v.pass.now) steps,
    e,
    can.bound,
  );
}

pub can_write_fewer : (w : HistoryWriter) (r : Right Step) (some total : ℕ) → CanWrite w r total → some ≤ total
    → CanWrite w r some
can_write_fewer w r some total can few = record {
  pass_table_is = can.pass_table_is;
  right_table_is = can.right_table_is;
  room = omega (arith, can.room, few);
  bound = omega (arith, can.bound, few);
}

-- one step more of some
pub part_more : (u v w : HistoryWriter) (r s t : Right Step) (steps rest : List Step) (x : Step)
    → HasWrittenPart u r v s steps (x ∷ rest) → HasWritten v s w t (x ∷ []) → HasWrittenPart u r w t steps rest
part_more u v w r s t steps rest x some one = record {
  done = some.done ++ x ∷ [];
  written = written_join u v w r s t some.done (x ∷ []) some.written one;
  split = append_assoc some.done (x ∷ []) rest ∙ some.split;
}

-- bits

pub bit_set : (l : List Bool) (a : ℕ) → is_held l a ≡ true → slice_get l a ≡ Some true
bit_set [] a e = absurd (let no : ⊥ = cc in no)
bit_set (b ∷ l) zero e = let is : b ≡ true = e in ap (λ x. Some x) is
bit_set (b ∷ l) (suc a) e = bit_set l a e

pub bit_clear : (l : List Bool) (a : ℕ) → a < length l → is_held l a ≡ false → slice_get l a ≡ Some false
bit_clear [] a within e = absurd (omega arith)
bit_clear (b ∷ l) zero within e = let is : b ≡ false = e in ap (λ x. Some x) is
bit_clear (b ∷ l) (suc a) within e = bit_clear l a (omega arith) e
