-- What stands before a message in a part of a list is the same part of what stands before it in the list; what fits
-- still does after more mail.
use Rattle.std.proofs.Common.{[], ◌≡◌, ℕ, zero, suc, ◌+◌, ◌<◌, ◌≤◌, inl, inr, Bool, true, false, cond, List, ◌∷◌}
use Rattle.std.proofs.Common.{◌++◌, length, refl, sym, ap, ◌∙◌, subst, arith, Option, Some, None}
use Rattle.std.specs.Prelude.{filter, take, MatchOption}
use Rattle.std.specs.List.{AllByRecursion as Every}
use Rattle.std.proofs.lemmas.List.{take-append-le}
use Rattle.qc_list.specs.Vocabulary.{In}
use Rattle.qc_list.proofs.Members.{In-first, In-second, In-unfiltered, every-weaker}
use Rattle.qc_msg.specs.declared.message.Answer.{Answer}
use Rattle.qc_msg.specs.declared.message.Envelope.{Envelope}
use Rattle.qc_msg.specs.declared.message.Message.{Message}
use Rattle.qc_msg.specs.declared.turn.Posting.{Posting}
use Rattle.qc_msg.specs.Vocabulary.{envelopes, Answered, answer_in}
use Rattle.laws_turns.proofs.Numbered.{AreNumbered}
use Rattle.laws_guarantees.specs.Vocabulary.{Fits, IfAnswered, IsAnswered, sent_to}
use Rattle.laws_guarantees.proofs.ClientWords.{IsClientWord}
use Rattle.laws_guarantees.proofs.MessageCases.{answering_cases}

-- numbers are places: what stands before a message in a part of a list is the same part of what stands before it

pub number_from : (k : ℕ) (xs : List Envelope) (e : Envelope) → AreNumbered k xs → In e xs
    → (k ≤ e.number) × (e.number < k + length xs)
number_from k [] e are among = absurd among
number_from k (x ∷ xs) e are (inl same) =
    let here : e.number ≡ k = ap (λ (v : Envelope). v.number) same ∙ are.0 in
    (omega arith, omega arith)
number_from k (x ∷ xs) e are (inr later) =
    let r : (k + 1 ≤ e.number) × (e.number < (k + 1) + length xs) = number_from (k + 1) xs e are.1 later in
    let low : k + 1 ≤ e.number = r.0 in
    let high : e.number < (k + 1) + length xs = r.1 in
    (omega arith, omega arith)

no_more : (A B : List Envelope) (e : Envelope) → [] ≡ A ++ e ∷ B → ⊥
no_more [] B e is = let never : ⊥ = cc in never
no_more (y ∷ A) B e is = let never : ⊥ = cc in never

pub in_middle : (A B : List Envelope) (e : Envelope) (xs : List Envelope) → xs ≡ A ++ e ∷ B → In e xs
in_middle A B e xs is = subst (In e) (sym is) (In-second e A (e ∷ B) (inl refl))

abbrev Splits : (Envelope → Bool) → List Envelope → ℕ → List Envelope → Envelope → Type 0
Splits p xs k B e = (m : ℕ) (C : List Envelope) → filter p xs ≡ C ++ e ∷ B → e.number ≡ k + m → filter p (take m xs) ≡ C

pub split_at : (p : Envelope → Bool) (xs : List Envelope) (k n : ℕ) (A B : List Envelope) (e : Envelope)
    → AreNumbered k xs
    → filter p xs ≡ A ++ e ∷ B → e.number ≡ k + n → filter p (take n xs) ≡ A
split_at p [] k n A B e are is number = absurd (no_more A B e is)
split_at p (x ∷ xs) k n A B e are is number =
    by (p x) refl is (λ (m : ℕ) (C : List Envelope). split_at p xs (k + 1) m C B e are.1) n number
  where
    later : (C : List Envelope) → filter p xs ≡ C ++ e ∷ B → k + 1 ≤ e.number
    later C found = (number_from (k + 1) xs e are.1 (In-unfiltered p e xs (in_middle C B e (filter p xs) found))).0

    taken_one : (C : List Envelope) → p x ≡ true → x ∷ filter p xs ≡ C ++ e ∷ B → Splits p xs (k + 1) B e → (n : ℕ)
        → e.number ≡ k + n → filter p (take n (x ∷ xs)) ≡ C
    taken_one [] here found rest zero number = refl
    taken_one [] here found rest (suc m) number =
        let same : x ≡ e = cc in
        let first : e.number ≡ k = ap (λ (v : Envelope). v.number) (sym same) ∙ are.0 in
        absurd (omega arith)
    taken_one (y ∷ C) here found rest zero number =
        let more : filter p xs ≡ C ++ e ∷ B = cc in
        let low : k + 1 ≤ e.number = later C more in
        absurd (omega arith)
    taken_one (y ∷ C) here found rest (suc m) number =
        let more : filter p xs ≡ C ++ e ∷ B = cc in
        let same : x ≡ y = cc in
        ap (λ (t : Bool). cond t (x ∷ filter p (take m xs)) (filter p (take m xs))) here
        ∙ (λ i. same i ∷ rest m C more (omega arith) i)

    passed_one : (C : List Envelope) → p x ≡ false → filter p xs ≡ C ++ e ∷ B → Splits p xs (k + 1) B e → (n : ℕ)
        → e.number ≡ k + n → filter p (take n (x ∷ xs)) ≡ C
    passed_one C other found rest zero number = absurd (let low : k + 1 ≤ e.number = later C found in omega arith)
    passed_one C other found rest (suc m) number =
        ap (λ (t : Bool). cond t (x ∷ filter p (take m xs)) (filter p (take m xs))) other ∙ rest m C found (omega arith)

    by : (t : Bool) → p x ≡ t → cond t (x ∷ filter p xs) (filter p xs) ≡ A ++ e ∷ B → Splits p xs (k + 1) B e → (n : ℕ)
        → e.number ≡ k + n → filter p (take n (x ∷ xs)) ≡ A
    by true here found rest = taken_one A here found rest
    by false other found rest = passed_one A other found rest

-- what fits still does after more mail

module _ (ms more : List Envelope) (numbered : AreNumbered 0 ms) where
  answered_later : (site number : ℕ) (answer : Answer) → IsAnswered ms site number answer
      → IsAnswered (ms ++ more) site number answer
  answered_later site number answer r = record {
    request = r.request;
    among = In-first r.request ms more r.among;
    number_is = r.number_is;
    site_is = r.site_is;
    tx = r.tx;
    epoch = r.epoch;
    life = r.life;
    want = r.want;
    is = r.is;
    fits =
        subst (λ (v : List Envelope). Fits (sent_to site v) r.tx r.want answer)
        (sym (take-append-le number ms more low)) r.fits;
  } where
    low : number ≤ length ms
    low =
        let within : r.request.number < 0 + length ms = (number_from 0 ms r.request numbered r.among).1 in
        let same : r.request.number ≡ number = r.number_is in
        omega arith

  if_later : (from : ℕ) (m : Message) → IfAnswered ms from m → IfAnswered (ms ++ more) from m
  if_later from m = by (answer_in m)
    where
      by : (o : Option Answered) → MatchOption o (Unit {0}) (λ (a : Answered). IsAnswered ms from a.to a.answer)
          → MatchOption o (Unit {0}) (λ (a : Answered). IsAnswered (ms ++ more) from a.to a.answer)
      by None r = tt
      by (Some a) r = answered_later from a.to a.answer r

  pub all_later : (es : List Envelope) → Every (λ (e : Envelope). IfAnswered ms e.from e.message) es
      → Every (λ (e : Envelope). IfAnswered (ms ++ more) e.from e.message) es
  all_later es =
      every-weaker (λ (e : Envelope). IfAnswered ms e.from e.message)
      (λ (e : Envelope). IfAnswered (ms ++ more) e.from e.message) (λ e. if_later e.from e.message) es

abbrev pub SayFitting : List Envelope → ℕ → List Posting → Type 0
SayFitting ms from ps = Every (λ (p : Posting). IfAnswered ms from p.message) ps

pub fitting_envelopes : (ms : List Envelope) (a n : ℕ) (ps : List Posting) → SayFitting ms a ps
    → Every (λ (e : Envelope). IfAnswered ms e.from e.message) (envelopes a n ps)
fitting_envelopes ms a n [] all = tt
fitting_envelopes ms a n (p ∷ ps) all = (all.0, fitting_envelopes ms a (n + 1) ps all.1)

pub word_fits : (ms : List Envelope) (from : ℕ) (m : Message) → IsClientWord m → IfAnswered ms from m
word_fits ms from m = answering_cases
    (λ m o. IsClientWord m → MatchOption o (Unit {0}) (λ (a : Answered). IsAnswered ms from a.to a.answer))
    (λ m word. tt) (λ to answer never. absurd never) m
