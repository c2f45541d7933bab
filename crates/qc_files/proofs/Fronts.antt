-- What a writer took, call by call.
use Rattle.std.proofs.Common.{ℕ, ◌+◌, ◌-◌, ◌≤◌, List, [], ◌++◌, length, take, Option, Some, None, sym, ap, subst, ◌∙◌}
use Rattle.std.proofs.Common.{arith}
use Rattle.std.proofs.lemmas.List.{append-nil, append_assoc, length-drop, take_rest}
use Rattle.std.proofs.Math.Seq.{take-add}
use Rattle.std.specs.Io.KnownBytes.{Appends, Keeps}
use Rattle.std.specs.Prelude.{drop}

-- nothing was taken yet
pub took_none : (held : Option (List ℕ)) → Appends held held []
took_none None = tt
took_none (Some xs) = sym (append-nil xs)

-- a call that took nothing, of no bytes
pub kept_took_none : (held holds : Option (List ℕ)) → Keeps held holds → Appends held holds []
kept_took_none None holds kept = tt
kept_took_none (Some xs) None kept = absurd kept
kept_took_none (Some xs) (Some ys) kept = kept ∙ sym (append-nil xs)

-- a call that took the next bytes
pub took_more : (first held holds : Option (List ℕ)) (bytes : List ℕ) (count more : ℕ)
    → Appends first held (take count bytes) → Appends held holds (take more (drop count bytes))
    → Appends first holds (take (count + more) bytes)
took_more None held holds bytes count more before now = tt
took_more (Some xs) None holds bytes count more before now = absurd before
took_more (Some xs) (Some ys) None bytes count more before now = absurd now
took_more (Some xs) (Some ys) (Some zs) bytes count more before now =
    now ∙ ap (λ l. l ++ take more (drop count bytes)) before
    ∙ append_assoc xs (take count bytes) (take more (drop count bytes))
    ∙ ap (λ l. xs ++ l) (sym (take-add count more bytes))

-- a call that took nothing, after some bytes
pub kept_what_it_took : (first held holds : Option (List ℕ)) (bytes : List ℕ)
    → Appends first held bytes → Keeps held holds → Appends first holds bytes
kept_what_it_took None held holds bytes before now = tt
kept_what_it_took (Some xs) None holds bytes before now = absurd before
kept_what_it_took (Some xs) (Some ys) None bytes before now = absurd now
kept_what_it_took (Some xs) (Some ys) (Some zs) bytes before now = now ∙ before

-- the bytes that are left, as they are handed on, hold so many
pub front_fits : (bytes : List ℕ) (count more : ℕ) → count ≤ length bytes
    → more ≤ length (take (length bytes - count) (drop count bytes)) → count + more ≤ length bytes
front_fits bytes count more before now =
    let left : more ≤ length bytes - count =
    subst (λ n. more ≤ n) (ap length (take_rest bytes count) ∙ length-drop count bytes) now in
    omega arith

-- a call that took the next of them
pub front_grew : (first held holds : Option (List ℕ)) (bytes : List ℕ) (count more : ℕ)
    → Appends first held (take count bytes)
    → Appends held holds (take more (take (length bytes - count) (drop count bytes)))
    → Appends first holds (take (count + more) bytes)
front_grew first held holds bytes count more before now =
    took_more first held holds bytes count more before
    (subst (λ l. Appends held holds (take more l)) (take_rest bytes count) now)
