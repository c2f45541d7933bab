-- Risen sites: what one record more gives, and what holds after any records.
use Rattle.std.proofs.Common.{arith, ◌≡◌, ◌≤◌, ◌+◌, ◌⊎◌, inl, inr, ℕ, max, not, Bool, true, false, cond, List, [], ◌∷◌}
use Rattle.std.proofs.Common.{◌++◌, fold, Option, None, Some, refl, sym, ◌∙◌, ap, subst}
use Rattle.std.specs.Prelude.{count_by, is_some, unwrap_or}
use Rattle.std.proofs.lemmas.List.Sums.{fold-append, sum_by-cons}
use Rattle.qc_entry.specs.declared.line.Line.{Line}
use Rattle.qc_entry.specs.declared.record.Prepared.{Prepared}
use Rattle.qc_list.specs.Vocabulary.{In}
use Rattle.qc_lock.specs.declared.held.Held.{Held}
use Rattle.qc_lock.specs.Vocabulary.{AreOfOthers, IsOneForEach, entry_of, held_of, is_held, same_tx, with_locks}
use Rattle.qc_lock.specs.Vocabulary.{with_owns}
use Rattle.qc_lock.proofs.Entries.{locks_given, others_stay, own_given}
use Rattle.qc_lock.proofs.Ones.{once-filter, once-put, put_last}
use Rattle.qc_msg.specs.declared.record.Record.{Record}
use Rattle.qc_msg.specs.declared.record.Record.TheVariants as records
use Rattle.qc_site.specs.Vocabulary.{SiteState, held_by, holds, is_prepared, latest, prepared_of, without_prepared}
use Rattle.qc_site.proofs.Votes.{prepared-without, prepared-without_other}
use Rattle.qc_stamp.specs.declared.stamp.TxId.{TxId}
use Rattle.qc_recover.specs.Vocabulary.{Kept, begins_life, clocks_in, clocks_of, keeps, kept_by, nothing_kept, site_by}
use Rattle.qc_recover.specs.Vocabulary.{site_of, with_promise}
use Rattle.qc_site.proofs.Promised.{promiser}
use Rattle.qc_stamp.proofs.Orders.{same_tx_itself, other_tx_sym}
use Rattle.qc_site.proofs.Clocks.{latest_later}

pub kept_more : (rs more : List Record) → kept_by (rs ++ more) ≡ fold keeps (kept_by rs) more
kept_more rs more = fold-append keeps nothing_kept rs more

pub site_more : (number : ℕ) (rs more : List Record)
    → site_of number (rs ++ more) ≡ site_by number (fold keeps (kept_by rs) more)
site_more number rs more = ap (site_by number) (kept_more rs more)

pub promises_more : (number : ℕ) (rs : List Record) (r : Record)
    → (site_of number (rs ++ r ∷ [])).prepared ≡ (keeps (kept_by rs) r).promises
promises_more number rs r = ap (λ (s : SiteState). s.prepared) (site_more number rs (r ∷ []))

-- lives

life_more : (k : Kept) (r : Record) → (keeps k r).life ≡ k.life + cond (begins_life r) 1 0
life_more k records.Life = omega arith
life_more k (records.Prepare p) = omega arith
life_more k (records.Done tx clock) = omega arith
life_more k (records.Close epoch) = omega arith
life_more k (records.Install start) = omega arith
life_more k (records.Commit commit) = omega arith
life_more k (records.Decide start) = omega arith

pub lives_from : (k : Kept) (rs : List Record) → (fold keeps k rs).life ≡ k.life + count_by begins_life rs
lives_from k [] = omega arith
lives_from k (r ∷ rs) =
    let here = life_more k r in
    let rest = lives_from (keeps k r) rs in
    let count = sum_by-cons (λ (q : Record). cond (begins_life q) 1 0) r rs in
    omega arith

-- promises

find_last : (ps : List Prepared) (p : Prepared) → prepared_of ps p.tx ≡ None → prepared_of (ps ++ p ∷ []) p.tx ≡ Some p
find_last [] p none = ap (λ b. cond b (Some p) None) (same_tx_itself p.tx)
find_last (q ∷ qs) p none = by (same_tx q.tx p.tx) none (find_last qs p) where
  by : (b : Bool) → cond b (Some q) (prepared_of qs p.tx) ≡ None
      → (prepared_of qs p.tx ≡ None → prepared_of (qs ++ p ∷ []) p.tx ≡ Some p)
      → cond b (Some q) (prepared_of (qs ++ p ∷ []) p.tx) ≡ Some p
  by true none rest = absurd (let never : ⊥ = cc in never)
  by false none rest = rest none

find_other : (ps : List Prepared) (p : Prepared) (tx : TxId) → same_tx p.tx tx ≡ false
    → prepared_of (ps ++ p ∷ []) tx ≡ prepared_of ps tx
find_other [] p tx other = ap (λ b. cond b (Some p) None) other
find_other (q ∷ qs) p tx other = ap (λ o. cond (same_tx q.tx tx) (Some q) o) (find_other qs p tx other)

pub promise_found : (ps : List Prepared) (p : Prepared) → prepared_of (with_promise ps p) p.tx ≡ Some p
promise_found ps p = find_last (without_prepared ps p.tx) p (prepared-without ps p.tx)

pub promise_other : (ps : List Prepared) (p : Prepared) (tx : TxId) → same_tx p.tx tx ≡ false
    → prepared_of (with_promise ps p) tx ≡ prepared_of ps tx
promise_other ps p tx other = find_other (without_prepared ps p.tx) p tx other ∙ prepared-without_other ps p.tx tx other

-- each transaction has one promise

once_kept : (k : Kept) (r : Record) → IsOneForEach promiser k.promises → IsOneForEach promiser (keeps k r).promises
once_kept k records.Life once = once
once_kept k (records.Prepare p) once =
    let left : IsOneForEach promiser (without_prepared k.promises p.tx) =
    once-filter promiser (λ (q : Prepared). not (same_tx q.tx p.tx)) k.promises once in
    subst (IsOneForEach promiser) (put_last promiser (without_prepared k.promises p.tx) p
    (prepared-without k.promises p.tx))
    (once-put promiser (without_prepared k.promises p.tx) p left)
once_kept k (records.Done tx clock) once =
    once-filter promiser (λ (q : Prepared). not (same_tx q.tx tx)) k.promises once
once_kept k (records.Close epoch) once = once
once_kept k (records.Install start) once = tt
once_kept k (records.Commit commit) once = once
once_kept k (records.Decide start) once = once

once_from : (k : Kept) (rs : List Record) → IsOneForEach promiser k.promises
    → IsOneForEach promiser (fold keeps k rs).promises
once_from k [] once = once
once_from k (r ∷ rs) once = once_from (keeps k r) rs (once_kept k r once)

pub once_promised : (rs : List Record) → IsOneForEach promiser (kept_by rs).promises
once_promised rs = once_from nothing_kept rs tt

-- what is held

others_hold : (held : List Held) (ps : List Prepared) (tx : TxId) → AreOfOthers promiser tx ps
    → entry_of (fold holds held ps) tx ≡ entry_of held tx
others_hold held [] tx others = refl
others_hold held (p ∷ ps) tx others = others_hold (holds held p) ps tx others.1
    ∙ others_stay held p.tx tx p.locks p.own others.0

other_In : (ps : List Prepared) (tx : TxId) (p : Prepared) → AreOfOthers promiser tx ps → In p ps
    → same_tx p.tx tx ≡ false
other_In [] tx p others member = absurd member
other_In (q ∷ qs) tx p others (inl same) = subst (λ (r : Prepared). same_tx r.tx tx ≡ false) (sym same) others.0
other_In (q ∷ qs) tx p others (inr later) = other_In qs tx p others.1 later

-- the entry of a promise is that which it gave as it was held
held_from : (P : Held → Type 0) (held : List Held) (ps : List Prepared) (p : Prepared) → IsOneForEach promiser ps
    → In p ps → entry_of held p.tx ≡ None
    → ((before : List Held) → entry_of before p.tx ≡ None → P (held_of (holds before p) p.tx))
    → P (held_of (fold holds held ps) p.tx)
held_from P held [] p once member none here = absurd member
held_from P held (q ∷ qs) p once (inl same) none here =
    let entry : held_of (holds held p) p.tx ≡ held_of (fold holds (holds held p) qs) p.tx =
    ap (λ o. unwrap_or o (record { tx = p.tx; locks = []; own = [] }))
    (sym (others_hold (holds held p) qs p.tx
    (subst (λ (r : Prepared). AreOfOthers promiser r.tx qs) (sym same) once.0))) in
    subst (λ (r : Prepared). P (held_of (fold holds (holds held r) qs) p.tx)) same (subst P entry (here held none))
held_from P held (q ∷ qs) p once (inr later) none here =
    held_from P (holds held q) qs p once.1 later
    (others_stay held q.tx p.tx q.locks q.own (other_tx_sym p.tx q.tx (other_In qs q.tx p once.0 later)) ∙ none) here

pub locks_held : (rs : List Record) (p : Prepared) → In p (kept_by rs).promises
    → (held_of (held_by (kept_by rs).promises) p.tx).locks ≡ with_locks [] p.locks
locks_held rs p member =
    held_from (λ (h : Held). h.locks ≡ with_locks [] p.locks) [] (kept_by rs).promises p (once_promised rs) member refl
    (λ before none. locks_given before p.tx p.locks p.own
    ∙ ap (λ (o : Option Held). with_locks (unwrap_or {T = Held} o
    (record { tx = p.tx; locks = []; own = [] })).locks p.locks) none)

pub own_held : (rs : List Record) (p : Prepared) → In p (kept_by rs).promises
    → (held_of (held_by (kept_by rs).promises) p.tx).own ≡ with_owns [] p.own
own_held rs p member =
    held_from (λ (h : Held). h.own ≡ with_owns [] p.own) [] (kept_by rs).promises p (once_promised rs) member refl
    (λ before none. own_given before p.tx p.locks p.own
    ∙ ap (λ (o : Option Held). with_owns (unwrap_or {T = Held} o (record { tx = p.tx; locks = []; own = [] })).own
    p.own) none)

just_from : (held : List Held) (ps : List Prepared) (tx : TxId) → is_held (fold holds held ps) tx ≡ true
    → (is_held held tx ≡ true) ⊎ (is_prepared ps tx ≡ true)
just_from held [] tx is = inl is
just_from held (p ∷ ps) tx is = by (same_tx p.tx tx) refl (just_from (holds held p) ps tx is) where
  by : (b : Bool) → same_tx p.tx tx ≡ b → (is_held (holds held p) tx ≡ true) ⊎ (is_prepared ps tx ≡ true)
      → (is_held held tx ≡ true) ⊎ (is_some (cond b (Some p) (prepared_of ps tx)) ≡ true)
  by true same either = inr refl
  by false same (inl before) = inl (ap is_some (sym (others_stay held p.tx tx p.locks p.own same)) ∙ before)
  by false same (inr later) = inr later

pub just_held : (ps : List Prepared) (tx : TxId) → is_held (held_by ps) tx ≡ true → is_prepared ps tx ≡ true
just_held ps tx is = by (just_from [] ps tx is) where
  by : (is_held [] tx ≡ true) ⊎ (is_prepared ps tx ≡ true) → is_prepared ps tx ≡ true
  by (inl never) = absurd (let false_true : ⊥ = cc in false_true)
  by (inr prepared) = prepared

-- clocks

latest_passes : (clock : ℕ) (lines : List Line) (c : ℕ) → In c (clocks_of lines) → c ≤ latest clock lines
latest_passes clock [] c member = absurd member
latest_passes clock (l ∷ ls) c (inl same) = let rest = latest_later (max clock l.stamp.clock) ls in omega arith
latest_passes clock (l ∷ ls) c (inr later) = latest_passes (max clock l.stamp.clock) ls c later

clock_grows : (k : Kept) (r : Record) → k.clock ≤ (keeps k r).clock
clock_grows k records.Life = omega arith
clock_grows k (records.Prepare p) = latest_later k.clock p.lines
clock_grows k (records.Done tx clock) = omega arith
clock_grows k (records.Close epoch) = omega arith
clock_grows k (records.Install start) = let rest = latest_later k.clock start.lines in omega arith
clock_grows k (records.Commit commit) = omega arith
clock_grows k (records.Decide start) = omega arith

clocks_grow : (k : Kept) (rs : List Record) → k.clock ≤ (fold keeps k rs).clock
clocks_grow k [] = omega arith
clocks_grow k (r ∷ rs) = let here = clock_grows k r in let rest = clocks_grow (keeps k r) rs in omega arith

clock_passes : (k : Kept) (r : Record) (clock : ℕ) → In clock (clocks_in r) → clock ≤ (keeps k r).clock
clock_passes k records.Life clock member = absurd member
clock_passes k (records.Prepare p) clock member = latest_passes k.clock p.lines clock member
clock_passes k (records.Done tx done) clock (inl same) = omega arith
clock_passes k (records.Done tx done) clock (inr never) = absurd never
clock_passes k (records.Close epoch) clock member = absurd member
clock_passes k (records.Install start) clock (inl same) = omega arith
clock_passes k (records.Install start) clock (inr later) = let rest =
    latest_passes k.clock start.lines clock later in omega arith
clock_passes k (records.Commit commit) clock member = absurd member
clock_passes k (records.Decide start) clock member = absurd member

pub clocks_passed : (k : Kept) (rs : List Record) (r : Record) (clock : ℕ) → In r rs → In clock (clocks_in r)
    → clock ≤ (fold keeps k rs).clock
clocks_passed k [] r clock member within = absurd member
clocks_passed k (q ∷ qs) r clock (inl same) within =
    let here = clock_passes k q clock (subst (λ s. In clock (clocks_in s)) same within) in
    let rest = clocks_grow (keeps k q) qs in
    omega arith
clocks_passed k (q ∷ qs) r clock (inr later) within = clocks_passed (keeps k q) qs r clock later within
