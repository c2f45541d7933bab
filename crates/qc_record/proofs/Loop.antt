-- Items read and written one after the other, as a loop does.
use Rattle.std.proofs.Common.{◌≡◌, ℕ, zero, suc, ◌-◌, ◌+◌, ◌≤◌, ◌<◌, List, [], ◌∷◌, ◌++◌, take, length, get_or, Option}
use Rattle.std.proofs.Common.{Some, Result, Ok, Err, refl, sym, ap, ◌∙◌, append_assoc, arith}
use Rattle.std.proofs.lemmas.List.{append-nil, take_more}
use Rattle.qc_record.specs.declared.fault.Halt.{Halt}
use Rattle.qc_record.specs.declared.fault.Halt.TheVariants as halts
use Rattle.qc_record.specs.Vocabulary.{Form, Halts, items_at, items_spelled, ◌>>=◌}

-- what was read before, and what is still read
abbrev pub with_front : {A : Type 0} → List A → Result (List A × List ℕ) ℕ → Result (List A × List ℕ) ℕ
with_front front read = read >>= λ x. Ok (front ++ x.0, x.1)

regroup : {A : Type 0} (front : List A) (n : A) (read : Result (List A × List ℕ) ℕ)
    → with_front front (read >>= λ x. Ok (n ∷ x.0, x.1)) ≡ with_front (front ++ n ∷ []) read
regroup {A = A} front n (Ok x) = ap (λ (ns : List A). Ok (ns, x.1)) (simp append_assoc)
regroup front n (Err left) = refl

pub goes_on : {A : Type 0} (item : Option A → Form A) (front : List A) (before : Option A) (count i : ℕ)
    (bytes : List ℕ) (n : A) (after : List ℕ) (total : Result (List A × List ℕ) ℕ) → i < count
    → (item before).read bytes ≡ Ok (n, after) → with_front front (items_at item before (count - i) bytes) ≡ total
    → with_front (front ++ n ∷ []) (items_at item (Some n) (count - (i + 1)) after) ≡ total
unfolding items_at
goes_on item front before count i bytes n after total lt h so_far =
    let k : count - i ≡ suc (count - (i + 1)) = omega arith in
    let one : with_front front (items_at item before (count - i) bytes) ≡ with_front (front ++ n ∷ [])
    (items_at item (Some n) (count - (i + 1)) after) =
    rw (k, h) (regroup front n (items_at item (Some n) (count - (i + 1)) after)) in
    sym one ∙ so_far

pub ends : {A : Type 0} (e : Halt) (item : Option A → Form A) (front : List A) (before : Option A) (count i : ℕ)
    (bytes : List ℕ) (total : Result (List A × List ℕ) ℕ) → i < count
    → Halts e ((item before).read bytes) → with_front front (items_at item before (count - i) bytes) ≡ total
    → Halts e total
unfolding items_at
ends halts.OutOfMemory item front before count i bytes total lt h so_far = tt
ends (halts.Left left) item front before count i bytes total lt h so_far =
    let k : count - i ≡ suc (count - (i + 1)) = omega arith in
    let one : with_front front (items_at item before (count - i) bytes) ≡ Err left = rw (k, h) refl in
    sym so_far ∙ one

pub is_done : {A : Type 0} (item : Option A → Form A) (front : List A) (before : Option A) (count i : ℕ)
    (bytes : List ℕ) (total : Result (List A × List ℕ) ℕ) → count ≤ i
    → with_front front (items_at item before (count - i) bytes) ≡ total → total ≡ Ok (front, bytes)
unfolding items_at
is_done {A = A} item front before count i bytes total le so_far =
    let k : count - i ≡ 0 = omega arith in
    let one : with_front front (items_at item before (count - i) bytes) ≡ Ok (front, bytes) =
    rw k (ap (λ (ns : List A). Ok (ns, bytes)) (append-nil front)) in
    sym so_far ∙ one

-- the last of the items, or the one before them
abbrev pub last_of : {A : Type 0} → Option A → List A → Option A
last_of before [] = before
last_of before (x ∷ xs) = last_of (Some x) xs

pub spelled_more : {A : Type 0} (item : Option A → Form A) (before : Option A) (xs : List A) (x : A)
    → items_spelled item before (xs ++ x ∷ []) ≡ items_spelled item before xs ++ (item (last_of before xs)).spelled x
spelled_more item before [] x = append-nil ((item before).spelled x)
spelled_more item before (y ∷ ys) x =
    ap (λ (t : List ℕ). (item before).spelled y ++ t) (spelled_more item (Some y) ys x)
    ∙ sym (append_assoc ((item before).spelled y) (items_spelled item (Some y) ys)
    ((item (last_of (Some y) ys)).spelled x))

-- one more item is put behind those that were
pub put_more : {A : Type 0} (item : Option A → Form A) (first : Option A) (xs : List A) (i : ℕ) (x : A)
    (start old new : List ℕ) → i < length xs → x ≡ get_or xs i x → old ≡ start ++ items_spelled item first (take i xs)
    → ((before : Option A) → new ≡ old ++ (item before).spelled x)
    → new ≡ start ++ items_spelled item first (take (i + 1) xs)
put_more item first xs i x start old new inside is so_far put =
    let more = take_more xs i x inside in
    let next : take (i + 1) xs ≡ take i xs ++ x ∷ [] = more ∙ ap (λ y. take i xs ++ y ∷ []) (sym is) in
    put (last_of first (take i xs)) ∙ ap (λ (l : List ℕ). l ++ (item (last_of first (take i xs))).spelled x) so_far
    ∙ append_assoc start (items_spelled item first (take i xs)) ((item (last_of first (take i xs))).spelled x)
    ∙ ap (λ (l : List ℕ). start ++ l) (sym (spelled_more item first (take i xs) x)
    ∙ ap (items_spelled item first) (sym next))

pub take_whole : {A : Type 0} (xs : List A) (i : ℕ) → length xs ≤ i → take i xs ≡ xs
take_whole [] zero le = refl
take_whole [] (suc i) le = refl
take_whole (x ∷ xs) zero le = absurd (omega arith)
take_whole (x ∷ xs) (suc i) le = ap (λ ys. x ∷ ys) (take_whole xs i (omega (arith, le)))
