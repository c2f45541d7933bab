-- The lines of a section, one more line at its end.
use Rattle.std.proofs.Common.{◌≡◌, ℕ, ◌+◌, ◌<◌, List, [], ◌∷◌, ◌++◌, Bool, ◌||◌, false, length, get_or, drop, codes}
use Rattle.std.proofs.Common.{sym, ap, ◌∙◌, append_assoc, arith}
use Rattle.std.specs.List.{flat_map, list_any, range_with_len}
use Rattle.std.proofs.lemmas.List.Folds.{list_any-append}
use Rattle.std.proofs.lemmas.List.{map-id, flat_map_more}
use Rattle.std.proofs.lemmas.List.FromFn.{map-range_with_len_more}
use Rattle.qc_entry.specs.declared.line.Op.{Op}
use Rattle.qc_decl.specs.declared.declaration.Declaration.{Declaration}
use Rattle.qc_text.specs.Vocabulary.{op_text, ops_text}
use Rattle.qc_list.proofs.Places.{drop_at}

-- an operation is written, and the ones after it follow a comma
pub ops_more : (decl : Declaration) (before : List ℕ) (ops : List Op) (i : ℕ) (op d : Op) (page page' start : List ℕ)
    → i < length ops → op ≡ get_or ops i d
    → page' ≡ page ++ op_text decl before op
    → page ++ ops_text decl before (drop i ops) ≡ start
    → page' ++ ops_text decl (codes ", ") (drop (i + 1) ops) ≡ start
ops_more decl before ops i op d page page' start l e p t =
    ap (λ k. k ++ ops_text decl (codes ", ") (drop (i + 1) ops)) p
    ∙ append_assoc page (op_text decl before op) (ops_text decl (codes ", ") (drop (i + 1) ops))
    ∙ ap (λ k. page ++ ops_text decl before k) (sym (drop_at ops i op d l e))
    ∙ t

-- the numbers below one more
pub numbers_more : (n : ℕ) → range_with_len 0 (n + 1) ≡ range_with_len 0 n ++ n ∷ []
numbers_more n =
    sym (map-id (range_with_len 0 (n + 1)))
    ∙ map-range_with_len_more (λ (k : ℕ). k) 0 n n (omega arith)
    ∙ ap (λ ks. ks ++ n ∷ []) (map-id (range_with_len 0 n))

-- a line for each number
pub numbered_more : (line : ℕ → List ℕ) (n : ℕ) (page page' start : List ℕ) → page' ≡ page ++ line n
    → page ≡ start ++ flat_map line (range_with_len 0 n)
    → page' ≡ start ++ flat_map line (range_with_len 0 (n + 1))
numbered_more line n page page' start p e =
    p ∙ ap (λ k. k ++ line n) e ∙ flat_map_more line start (range_with_len 0 n) n
    ∙ ap (λ ks. start ++ flat_map line ks) (sym (numbers_more n))

-- a section's head, and then its lines
pub section : (old head lines page page' : List ℕ) → page ≡ old ++ head → page' ≡ page ++ lines
    → page' ≡ old ++ (head ++ lines)
section old head lines page page' h e = e ∙ ap (λ k. k ++ lines) h ∙ append_assoc old head lines

-- four sections on an empty page
pub sections : (p₀ p₁ p₂ p₃ p₄ a b c d : List ℕ) → p₀ ≡ [] → p₁ ≡ p₀ ++ a → p₂ ≡ p₁ ++ b → p₃ ≡ p₂ ++ c → p₄ ≡ p₃ ++ d
    → p₄ ≡ a ++ (b ++ (c ++ d))
sections p₀ p₁ p₂ p₃ p₄ a b c d e₀ e₁ e₂ e₃ e₄ =
    section p₁ (b ++ c) d p₃ p₄ (section p₁ b c p₂ p₃ e₂ e₃) e₄
    ∙ ap (λ p. p ++ ((b ++ c) ++ d)) (e₁ ∙ ap (λ p. p ++ a) e₀)
    ∙ ap (λ p. a ++ p) (append_assoc b c d)

-- a test of the numbers below one more
pub any_below : (test : ℕ → Bool) (n : ℕ) → list_any test (range_with_len 0 n) ≡ false → test n ≡ false
    → list_any test (range_with_len 0 (n + 1)) ≡ false
any_below test n none here =
    ap (list_any test) (numbers_more n)
    ∙ list_any-append test (range_with_len 0 n) (n ∷ [])
    ∙ ap (λ (b : Bool). b || (test n || false)) none
    ∙ ap (λ (b : Bool). b || false) here
