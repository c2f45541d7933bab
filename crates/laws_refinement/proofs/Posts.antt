-- A turn is posted: its messages are in the mail, each at its number and backed.
use Rattle.std.proofs.Common.{◌≡◌, ℕ, ◌+◌, inl, inr, List, [], ◌∷◌, ◌++◌, length, Some, slice_get, refl, sym, ap, subst}
use Rattle.std.proofs.Common.{arith, append_assoc, length-append}
use Rattle.qc_list.specs.Vocabulary.{In}
use Rattle.qc_decl.specs.declared.declaration.Declaration.{Declaration}
use Rattle.qc_msg.specs.declared.message.Envelope.{Envelope}
use Rattle.qc_msg.specs.declared.message.Message.{Message}
use Rattle.qc_msg.specs.declared.turn.Posting.{Posting}
use Rattle.qc_msg.specs.Vocabulary.{envelopes}
use Rattle.theory_machine.specs.Vocabulary.{State}
use Rattle.laws_refinement.specs.Vocabulary.{Backed}
use Rattle.laws_refinement.proofs.MessagesStay.{Later, backed_later, same_state}
use Rattle.qc_list.proofs.Places.{slice_get-more, slice_get-seam}
use Rattle.qc_list.proofs.Members.{In-either}

abbrev pub enveloped : ℕ → ℕ → Posting → Envelope
enveloped a n p = record { number = n; from = a; to = p.to; message = p.message }

-- a posted message is one of the turn's, with its place as its number
pub record Place (a : ℕ) (ps : List Posting) (all : List Envelope) (e : Envelope) : Type 0 where
  pub posting : Posting
  pub among : In posting ps
  pub from : e.from ≡ a
  pub to : e.to ≡ posting.to
  pub message : e.message ≡ posting.message
  pub numbered : slice_get all e.number ≡ Some e

more_length : (ms : List Envelope) (a n : ℕ) (p : Posting) → length ms ≡ n → length (ms ++ enveloped a n p ∷ []) ≡ n + 1
more_length ms a n p count = let l : length (ms ++ enveloped a n p ∷ []) ≡ length ms + 1 =
    length-append ms (enveloped a n p ∷ []) in omega arith

at_seam : (ms : List Envelope) (a n : ℕ) (p : Posting) (ps : List Posting) → length ms ≡ n
    → slice_get (ms ++ envelopes a n (p ∷ ps)) n ≡ Some (enveloped a n p)
at_seam ms a n p ps count = subst (λ (k : ℕ). slice_get (ms ++ envelopes a n (p ∷ ps)) k ≡ Some (enveloped a n p)) count
    (slice_get-seam ms (envelopes a (n + 1) ps) (enveloped a n p))

pub placed : (ms : List Envelope) (a n : ℕ) (ps : List Posting) (e : Envelope) → length ms ≡ n → In e (envelopes a n ps)
    → Place a ps (ms ++ envelopes a n ps) e
placed ms a n [] e count among = absurd among
placed ms a n (p ∷ ps) e count (inl same) = record {
  posting = p;
  among = inl refl;
  from = ap (λ (x : Envelope). x.from) same;
  to = ap (λ (x : Envelope). x.to) same;
  message = ap (λ (x : Envelope). x.message) same;
  numbered = subst (λ (x : Envelope). slice_get (ms ++ envelopes a n (p ∷ ps)) x.number ≡ Some x) (sym same)
      (at_seam ms a n p ps count);
}
placed ms a n (p ∷ ps) e count (inr rest) =
    let r : Place a ps ((ms ++ enveloped a n p ∷ []) ++ envelopes a (n + 1) ps) e =
    placed (ms ++ enveloped a n p ∷ []) a (n + 1) ps e (more_length ms a n p count) rest in
    record {
      posting = r.posting;
      among = inr r.among;
      from = r.from;
      to = r.to;
      message = r.message;
      numbered = subst (λ (xs : List Envelope). slice_get xs e.number ≡ Some e)
          (append_assoc ms (enveloped a n p ∷ []) (envelopes a (n + 1) ps)) r.numbered;
    }

-- each posted message is found under its number
abbrev pub AtNumber : List Envelope → ℕ → ℕ → List Posting → Type 0
AtNumber all a n [] = Unit {0}
AtNumber all a n (p ∷ ps) = (slice_get all n ≡ Some (enveloped a n p)) × AtNumber all a (n + 1) ps

pub at_number : (ms : List Envelope) (a n : ℕ) (ps : List Posting) → length ms ≡ n
    → AtNumber (ms ++ envelopes a n ps) a n ps
at_number ms a n [] count = tt
at_number ms a n (p ∷ ps) count = (
  at_seam ms a n p ps count,
  subst (λ (xs : List Envelope). AtNumber xs a (n + 1) ps)
      (append_assoc ms (enveloped a n p ∷ []) (envelopes a (n + 1) ps))
      (at_number (ms ++ enveloped a n p ∷ []) a (n + 1) ps (more_length ms a n p count)),
)

module _ (decl : Declaration) where
  -- the mail after a turn

  pub more_mail : (w v : State) (ms : List Envelope) (a : ℕ) (ps : List Posting) → Later w v
      → ((e : Envelope) → In e ms → Backed decl w ms e.from e.to e.message)
      → ((p : Posting) → In p ps → Backed decl v ms a p.to p.message)
      → (e : Envelope) → In e (ms ++ envelopes a (length ms) ps)
      → Backed decl v (ms ++ envelopes a (length ms) ps) e.from e.to e.message
  more_mail w v ms a ps later old new e among = elim (In-either e ms more among) [
    | inl h ↦ backed_later decl w v later ms more e.from e.to e.message (old e h)
    | inr h ↦ (let r : Place a ps (ms ++ more) e = placed ms a (length ms) ps e refl h in
        let b = backed_later decl v v (same_state v) ms more a r.posting.to r.posting.message (new r.posting r.among) in
        subst (λ (x : ℕ). Backed decl v (ms ++ more) x e.to e.message) (sym r.from)
        (subst (λ (x : ℕ). Backed decl v (ms ++ more) a x e.message) (sym r.to)
        (subst (λ (x : Message). Backed decl v (ms ++ more) a r.posting.to x) (sym r.message) b)))
  ]
    where
      more : List Envelope
      more = envelopes a (length ms) ps

  pub more_numbered : (ms : List Envelope) (a : ℕ) (ps : List Posting)
      → ((e : Envelope) → In e ms → slice_get ms e.number ≡ Some e) → (e : Envelope)
      → In e (ms ++ envelopes a (length ms) ps) → slice_get (ms ++ envelopes a (length ms) ps) e.number ≡ Some e
  more_numbered ms a ps old e among = elim (In-either e ms (envelopes a (length ms) ps) among) [
    | inl h ↦ slice_get-more ms (envelopes a (length ms) ps) e.number e (old e h)
    | inr h ↦ (let r : Place a ps (ms ++ envelopes a (length ms) ps) e = placed ms a (length ms) ps e refl h in
        r.numbered)
  ]
