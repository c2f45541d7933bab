-- What the two writes of an append tell, each made to last.
use Rattle.std.proofs.Common.{◌≡◌, ℕ, ◌+◌, List, [], ◌∷◌, ◌++◌, length, Option, Some, None, IfSome, Result, OnOk, inl}
use Rattle.std.proofs.Common.{sym, ◌∙◌, ap, subst, arith, append_assoc, length-append}
use Rattle.std.proofs.lemmas.Result.{on_ok_weaker}
use Rattle.qc_outside.specs.Vocabulary.{IsImage, Leaves, Since, Stored, Tells, Told, as_read, settled, wrote}
use Rattle.qc_outside.specs.declared.disk.DiskFault.{DiskFault}
use Rattle.qc_outside.proofs.Images.{since_weaker, since_then, tells_weaker}
use Rattle.qc_journal.specs.Vocabulary.{Holds, HoldsWithOrWithout, IsBehind, IsBody, Rests, behind, counted, gate}
use Rattle.qc_journal.proofs.Lists.{written_behind, written_byte}
use Rattle.qc_journal.proofs.Stages.{closed_stays, whole_stays, records_push, length-counted}

-- what a write tells, done or not
abbrev pub Writes : Option Told → Option Told → ℕ → List ℕ → Type 0
Writes a b at bytes = Tells a b (λ old new. Since (IsImage (wrote old.now (record { at = at; bytes = bytes }))) old new)

abbrev pub Wrote : Option Told → Option Told → ℕ → List ℕ → Type 0
Wrote a b at bytes = Tells a b (λ old new. new.now ≡ wrote old.now (record { at = at; bytes = bytes }))

-- what a sync tells
abbrev pub Syncs : Option Told → Option Told → Type 0
Syncs a b = Tells a b (λ old new. Since (IsImage old.now) old new)

abbrev pub Synced : Option Told → Option Told → Type 0
Synced a b = Tells a b (λ old new. new.now ≡ settled (as_read old.now))

-- and what a write that lasts tells
abbrev pub Lasts : Option Told → Option Told → ℕ → List ℕ → Type 0
Lasts a b at bytes = Tells a b (λ old new. new.now ≡ settled
    (as_read (wrote old.now (record { at = at; bytes = bytes }))))

-- a write and a sync
pub written_through : (at : ℕ) (bytes : List ℕ) (a b c : Option Told) → Writes a b at bytes → Wrote a b at bytes
    → Syncs b c → Writes a c at bytes
written_through at bytes (Some o) (Some m) (Some n) writes wrote_it syncs =
    let P = IsImage (wrote o.now (record { at = at; bytes = bytes })) in
    since_then P o m n writes (subst (λ (s : Stored). Since (IsImage s) m n) wrote_it syncs)
written_through at bytes None None None writes wrote_it syncs = tt
written_through at bytes (Some o) None c writes wrote_it syncs = absurd writes
written_through at bytes None (Some m) c writes wrote_it syncs = absurd writes
written_through at bytes (Some o) (Some m) None writes wrote_it syncs = absurd syncs
written_through at bytes None None (Some n) writes wrote_it syncs = absurd syncs

pub lasts_through : (at : ℕ) (bytes : List ℕ) (a b c : Option Told) → Wrote a b at bytes → Synced b c
    → Lasts a c at bytes
lasts_through at bytes (Some o) (Some m) (Some n) wrote_it synced = synced
    ∙ ap (λ (s : Stored). settled (as_read s)) wrote_it
lasts_through at bytes None None None wrote_it synced = tt
lasts_through at bytes (Some o) None c wrote_it synced = absurd wrote_it
lasts_through at bytes None (Some m) c wrote_it synced = absurd wrote_it
lasts_through at bytes (Some o) (Some m) None wrote_it synced = absurd synced
lasts_through at bytes None None (Some n) wrote_it synced = absurd synced

-- behind the closed gate
pub stays_closed : (end : ℕ) (frame : List ℕ) (a b : Option Told) → Writes a b (end + 1) frame
    → (bodies : List (List ℕ)) → Rests a end bodies → Tells a b (λ old new. Since (Holds bodies) old new)
stays_closed end frame (Some o) (Some n) writes bodies rests =
    let leaves : Leaves (Holds bodies) (wrote o.now (record { at = end + 1; bytes = frame })) =
    subst (λ (s : Stored). Leaves (Holds bodies) (wrote s (record { at = end + 1; bytes = frame }))) (sym rests.lasting)
    (λ image is. closed_stays end bodies rests.front rests.rest frame image rests.records rests.end_is is) in
    since_weaker (IsImage (wrote o.now (record { at = end + 1; bytes = frame }))) (Holds bodies) o n leaves writes
stays_closed end frame None None writes bodies rests = tt
stays_closed end frame (Some o) None writes bodies rests = absurd writes
stays_closed end frame None (Some n) writes bodies rests = absurd writes

behind_it : (end : ℕ) (frame : List ℕ) (a b : Option Told) → Lasts a b (end + 1) frame
    → (bodies : List (List ℕ)) (body : List ℕ) → frame ≡ counted body ++ 0 ∷ [] → Rests a end bodies
    → IfSome b (IsBehind end bodies body)
behind_it end frame (Some o) (Some n) lasts bodies body is rests =
    let bytes = written_behind rests.front 0 rests.rest (counted body ++ 0 ∷ []) (end + 1)
    (omega (arith, rests.end_is)) in
    record {
      front = rests.front;
      rest = bytes.0;
      records = rests.records;
      end_is = rests.end_is;
      lasting = lasts
          ∙ ap (λ (f : List ℕ). settled (as_read (wrote o.now (record { at = end + 1; bytes = f })))) is
          ∙ ap (λ (s : Stored). settled (as_read (wrote s (behind end body)))) rests.lasting ∙ ap settled bytes.1
          ∙ ap (λ (l : List ℕ). settled (rests.front ++ 0 ∷ l)) (append_assoc (counted body) (0 ∷ []) bytes.0);
    }
behind_it end frame None None lasts bodies body is rests = tt
behind_it end frame (Some o) None lasts bodies body is rests = absurd lasts
behind_it end frame None (Some n) lasts bodies body is rests = absurd lasts

pub stands_behind : (end : ℕ) (frame : List ℕ) (r : Result (Unit {0}) DiskFault) (a b : Option Told)
    → OnOk r (Lasts a b (end + 1) frame)
    → OnOk r ((bodies : List (List ℕ)) (body : List ℕ) → frame ≡ counted body ++ 0 ∷ [] → Rests a end bodies
    → IfSome b (IsBehind end bodies body))
stands_behind end frame r a b lasts = on_ok_weaker r (behind_it end frame a b) lasts

-- the gate
pub stays_whole : (end : ℕ) (a b : Option Told) → Writes a b end (1 ∷ []) → (bodies : List (List ℕ)) (body : List ℕ)
    → IsBody body → IfSome a (IsBehind end bodies body)
    → Tells a b (λ old new. Since (HoldsWithOrWithout bodies body) old new)
stays_whole end (Some o) (Some n) writes bodies body is_body at =
    let leaves : Leaves (HoldsWithOrWithout bodies body) (wrote o.now (gate end)) =
    subst (λ (s : Stored). Leaves (HoldsWithOrWithout bodies body) (wrote s (gate end))) (sym at.lasting)
    (λ image is. whole_stays end bodies body at.front at.rest image is_body at.records at.end_is is) in
    since_weaker (IsImage (wrote o.now (gate end))) (HoldsWithOrWithout bodies body) o n leaves writes
stays_whole end None None writes bodies body is_body at = tt
stays_whole end (Some o) None writes bodies body is_body at = absurd writes
stays_whole end None (Some n) writes bodies body is_body at = absurd writes

opened : (end : ℕ) (a b : Option Told) → Lasts a b end (1 ∷ [])
    → (bodies : List (List ℕ)) (body : List ℕ) → IsBody body → IfSome a (IsBehind end bodies body)
    → Rests b (end + length body + 5) (bodies ++ body ∷ [])
opened end (Some o) (Some n) lasts bodies body is_body at = record {
  front = at.front ++ 1 ∷ counted body;
  rest = at.rest;
  records = records_push bodies at.front 1 body at.records (omega arith) is_body;
  end_is = omega (arith, at.end_is, length-append at.front (1 ∷ counted body), length-counted body);
  lasting = lasts ∙ ap (λ (s : Stored). settled (as_read (wrote s (gate end)))) at.lasting
      ∙ ap settled (written_byte at.front 0 1 (counted body ++ 0 ∷ at.rest) end (sym at.end_is))
      ∙ ap settled (sym (append_assoc at.front (1 ∷ counted body) (0 ∷ at.rest)));
}
opened end None None lasts bodies body is_body at = tt
opened end (Some o) None lasts bodies body is_body at = absurd lasts
opened end None (Some n) lasts bodies body is_body at = absurd lasts

pub stands : (end : ℕ) (r : Result (Unit {0}) DiskFault) (a b : Option Told) → OnOk r (Lasts a b end (1 ∷ []))
    → OnOk r ((bodies : List (List ℕ)) (body : List ℕ) → IsBody body → IfSome a (IsBehind end bodies body)
    → Rests b (end + length body + 5) (bodies ++ body ∷ []))
stands end r a b lasts = on_ok_weaker r (opened end a b) lasts

-- one after the other
pub without : (bodies : List (List ℕ)) (body : List ℕ) (a b : Option Told)
    → Tells a b (λ old new. Since (Holds bodies) old new)
    → Tells a b (λ old new. Since (HoldsWithOrWithout bodies body) old new)
without bodies body a b first =
    tells_weaker a b (λ old new. Since (Holds bodies) old new)
    (λ old new. Since (HoldsWithOrWithout bodies body) old new)
    (λ old new since. since_weaker (Holds bodies) (HoldsWithOrWithout bodies body) old new (λ c holds. inl holds) since)
    first

pub both : (P : List ℕ → Type 0) (a b c : Option Told) → Tells a b (λ old new. Since P old new)
    → Tells b c (λ old new. Since P old new) → Tells a c (λ old new. Since P old new)
both P (Some o) (Some m) (Some n) first second = since_then P o m n first second
both P None None None first second = tt
both P (Some o) None c first second = absurd first
both P None (Some m) c first second = absurd first
both P (Some o) (Some m) None first second = absurd second
both P None None (Some n) first second = absurd second
