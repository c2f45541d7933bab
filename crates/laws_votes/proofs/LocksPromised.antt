-- Of what a site has promised it holds the locks, as it grants, promises, closes its epoch, and answers.
use Rattle.std.proofs.Common.{[], fold, ◌≡◌, not, nat_le, if◌then◌else◌, ℕ, Bool, true, false, cond, List, ◌∷◌, inl}
use Rattle.std.proofs.Common.{inr, Option, Some, None, refl, sym, ap, ◌∙◌, subst, arith}
use Rattle.qc_decl.specs.Vocabulary.{most_record_bytes}
use Rattle.qc_decl.specs.declared.declaration.Declaration.{Declaration}
use Rattle.qc_entry.specs.declared.line.Line.{Line}
use Rattle.qc_entry.specs.declared.line.OwnLine.{OwnLine}
use Rattle.qc_entry.specs.declared.line.ReadLock.{ReadLock}
use Rattle.qc_entry.specs.declared.record.Prepared.{Prepared}
use Rattle.qc_list.specs.Vocabulary.{In}
use Rattle.qc_list.proofs.Members.{In-more, In-unfiltered}
use Rattle.qc_lock.proofs.Entries.{held-without_other, locks_given}
use Rattle.qc_lock.specs.Vocabulary.{append_clash, held_of, is_held, read_clash, with_held}
use Rattle.qc_lock.specs.declared.clash.Clash.{Clash as Conflict}
use Rattle.qc_lock.specs.declared.held.Held.{Held}
use Rattle.qc_msg.specs.Vocabulary.{prepare_length, quiet}
use Rattle.qc_msg.specs.declared.message.Answer.{Answer}
use Rattle.qc_msg.specs.declared.message.Answer.TheVariants.{Stale, Yes}
use Rattle.qc_msg.specs.declared.message.Want.{Want}
use Rattle.qc_msg.specs.declared.message.Want.TheVariants.{Append, Prepare, Read}
use Rattle.qc_msg.specs.declared.payload.ReadRequest.{ReadRequest}
use Rattle.qc_msg.specs.declared.record.Record.{Record}
use Rattle.qc_msg.specs.declared.turn.Turn.{Turn}
use Rattle.laws_refinement.proofs.Held.{given_case}
use Rattle.qc_site.specs.Vocabulary.{SiteState, answers, appends_by, dropped, fault_of, grants, holds, is_prepared}
use Rattle.qc_site.specs.Vocabulary.{moved, promise_of, promised, reads_by, relation_at, requested, votes}
use Rattle.qc_site.specs.Vocabulary.{without_prepared}
use Rattle.qc_stamp.proofs.Orders.{other_tx_sym}
use Rattle.qc_stamp.specs.Vocabulary.{same_tx}
use Rattle.qc_stamp.specs.declared.stamp.TxId.{TxId}
use Rattle.laws_votes.proofs.PromisesKept.{HoldsLocks, WritePasses, MoveKeeps}
use Rattle.qc_site.proofs.Holding.{locks_more}
use Rattle.laws_refinement.proofs.HeldByPromises.{locks_new}

-- what is held more, and what is dropped

holds_more : (s : SiteState) (tx : TxId) (locks : List ReadLock) (own : List OwnLine) → HoldsLocks s
    → HoldsLocks (record s { held = with_held s.held tx locks own })
holds_more s tx locks own old p among l there =
    given_case (λ (ls : List ReadLock) (os : List OwnLine). In l ls) s.held tx p.tx locks own
    (λ same. locks_more (held_of s.held tx).locks locks l
    (subst (λ (u : TxId). In l (held_of s.held u).locks) (sym same) (old p among l there))) (old p among l there)

other_left : (tx : TxId) (ps : List Prepared) (p : Prepared) → In p (without_prepared ps tx) → same_tx p.tx tx ≡ false
other_left tx [] p among = absurd among
other_left tx (q ∷ ps) p among = by (same_tx q.tx tx) refl (other_left tx ps p) among
  where
    by : (b : Bool) → same_tx q.tx tx ≡ b → (In p (without_prepared ps tx) → same_tx p.tx tx ≡ false)
        → In p (cond (not b) (q ∷ without_prepared ps tx) (without_prepared ps tx)) → same_tx p.tx tx ≡ false
    by true is rest there = rest there
    by false is rest (inl same) = ap (λ (x : Prepared). same_tx x.tx tx) same ∙ is
    by false is rest (inr there) = rest there

pub holds_dropped : (s : SiteState) (tx : TxId) → HoldsLocks s → HoldsLocks (dropped s tx)
holds_dropped s tx old p among l there =
    subst (λ (h : Held). In l h.locks)
    (sym (held-without_other s.held tx p.tx (other_tx_sym p.tx tx (other_left tx s.prepared p among))))
    (old p (In-unfiltered (λ (q : Prepared). not (same_tx q.tx tx)) p s.prepared among) l there)

holds_promised : (s : SiteState) (tx : TxId) → HoldsLocks s → HoldsLocks (promised s (promise_of s tx))
holds_promised s tx old p among l there = elim (In-more p (promise_of s tx) s.prepared among) [
  | inl before ↦ old p before l there
  | inr same ↦ subst (λ (x : Prepared). In l x.locks → In l (held_of s.held x.tx).locks) (sym same) (λ held. held) there
]

-- what was promised is held as the site closes its epoch

lock_stays : (held : List Held) (q : Prepared) (t : TxId) (l : ReadLock) → In l (held_of held t).locks
    → In l (held_of (holds held q) t).locks
lock_stays held q t l was =
    given_case (λ (ls : List ReadLock) (os : List OwnLine). In l ls) held q.tx t q.locks q.own
    (λ same. locks_more (held_of held q.tx).locks q.locks l
    (subst (λ (u : TxId). In l (held_of held u).locks) (sym same) was)) was

locks_stay : (ps : List Prepared) (held : List Held) (t : TxId) (l : ReadLock) → In l (held_of held t).locks
    → In l (held_of (fold holds held ps) t).locks
locks_stay [] held t l was = was
locks_stay (q ∷ ps) held t l was = locks_stay ps (holds held q) t l (lock_stays held q t l was)

pub has_locks : (ps : List Prepared) (held : List Held) (p : Prepared) → In p ps → (l : ReadLock) → In l p.locks
    → In l (held_of (fold holds held ps) p.tx).locks
has_locks [] held p among l there = absurd among
has_locks (q ∷ ps) held p (inl same) l there =
    subst (λ (x : Prepared). In l x.locks → In l (held_of (fold holds (holds held q) ps) x.tx).locks) (sym same)
    (λ mine. locks_stay ps (holds held q) q.tx l
    (subst (In l) (sym (locks_given held q.tx q.locks q.own)) (locks_new (held_of held q.tx).locks q.locks l mine)))
    there
has_locks (q ∷ ps) held p (inr among) l there = has_locks ps (holds held q) p among l there

-- a site that does nothing but answer
pub stays : (s : SiteState) (turn : Turn) → turn.write ≡ None → HoldsLocks s → MoveKeeps s (moved s turn)
stays s turn none old =
    record {
      locks = old;
      rises = omega arith;
      writes = subst (λ (w : Option Record). WritePasses w s.clock) (sym none) tt;
    }

module _ (decl : Declaration) (s : SiteState) (old : HoldsLocks s) (from number : ℕ) where
  read : (tx : TxId) (r : ReadRequest) (o : Option Conflict) → MoveKeeps s (reads_by decl s from number tx r o)
  read tx r None =
      record {
        locks = holds_more s tx (record { object = r.object; inv = r.inv } ∷ []) [] old;
        rises = omega arith;
        writes = tt;
      }
  read tx r (Some c) = stays s _ refl old

  pub append : (tx : TxId) (view : List Line) (own : List OwnLine) (o : Option Conflict)
      → MoveKeeps s (appends_by decl s from number tx view own o)
  append tx view own None = record { locks = holds_more s tx [] own old; rises = omega arith; writes = tt }
  append tx view own (Some c) = stays s _ refl old

  prepare_by : (tx : TxId) (x y z : Bool)
      → MoveKeeps s
      (if not x then moved s (answers from number Stale) else
      (if y then moved s (answers from number (Yes s.clock)) else
      (if z then moved (promised s (promise_of s tx)) (votes s from number (promise_of s tx)) else moved s
      (answers from number Stale))))
  prepare_by tx false y z = stays s (answers from number Stale) refl old
  prepare_by tx true true z = stays s (answers from number (Yes s.clock)) refl old
  prepare_by tx true false true = record { locks = holds_promised s tx old; rises = omega arith; writes = tt }
  prepare_by tx true false false = stays s (answers from number Stale) refl old

  grant : (tx : TxId) (want : Want) → MoveKeeps s (grants decl s from number tx want)
  grant tx (Read read_here) =
      read tx read_here
      (read_clash (relation_at decl read_here.object) s.held tx read_here.object read_here.inv)
  grant tx (Append object view own) = append tx view own (append_clash (relation_at decl object) s.held tx own)
  grant tx Prepare =
      prepare_by tx (is_held s.held tx) (is_prepared s.prepared tx)
      (nat_le (prepare_length (promise_of s tx)) most_record_bytes)

  request : (tx : TxId) (want : Want) (o : Option Answer) → MoveKeeps s (requested decl s from number tx want o)
  request tx want (Some fault) = stays s (answers from number fault) refl old
  request tx want None = grant tx want

  pub asked : (tx : TxId) (epoch life : ℕ) (want : Want) (b : Bool)
      → MoveKeeps s (if b then requested decl s from number tx want (fault_of s epoch life) else moved s quiet)
  asked tx epoch life want true = request tx want (fault_of s epoch life)
  asked tx epoch life want false = stays s quiet refl old
