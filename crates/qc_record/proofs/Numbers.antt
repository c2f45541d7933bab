-- Bytes that are read as a number are that number's bytes.
use Rattle.std.proofs.Common.{◌≡◌, ◌⊎◌, inl, inr, ℕ, zero, suc, ◌<◌, ◌≤◌, List, [], ◌∷◌, length, get_or, take, refl}
use Rattle.std.proofs.Common.{sym, ap, subst, ◌∙◌, arith}
use Rattle.std.proofs.lemmas.Nat.{be_bytes_4, be_bytes_8}
use Rattle.byteorder.specs.Endian.{big_number, big_bytes}
use Rattle.qc_record.specs.Vocabulary.{IsBytes}

-- each number has 1, 2, 4 or 8 bytes
abbrev pub IsWidth : ℕ → Type 0
IsWidth width = (width ≡ 1) ⊎ ((width ≡ 2) ⊎ ((width ≡ 4) ⊎ (width ≡ 8)))

cells : (p q a b : ℕ) → p ≡ a → q ≡ b → p ∷ q ∷ [] ≡ a ∷ b ∷ []
cells p q a b first second = ap (λ (n : ℕ). n ∷ q ∷ []) first ∙ ap (λ (n : ℕ). a ∷ n ∷ []) second

back_2 : (bytes : List ℕ) → 2 ≤ length bytes → IsBytes bytes → big_bytes 2 (big_number 2 bytes) ≡ take 2 bytes
back_2 [] long fits = absurd (omega arith)
back_2 (a ∷ []) long fits = absurd (omega arith)
back_2 (a ∷ b ∷ rest) long fits =
    let low = fits 0 in
    let high = fits 1 in
    cells _ _ a b (omega (arith, low, high)) (omega (arith, low, high))

back_4 : (bytes : List ℕ) → 4 ≤ length bytes → IsBytes bytes → big_bytes 4 (big_number 4 bytes) ≡ take 4 bytes
back_4 [] long fits = absurd (omega arith)
back_4 (a ∷ []) long fits = absurd (omega arith)
back_4 (a ∷ b ∷ []) long fits = absurd (omega arith)
back_4 (a ∷ b ∷ c ∷ []) long fits = absurd (omega arith)
back_4 (a ∷ b ∷ c ∷ d ∷ rest) long fits =
    be_bytes_4 (a ∷ b ∷ c ∷ d ∷ []) (big_number 4 (a ∷ b ∷ c ∷ d ∷ rest)) refl four (omega arith)
  where
    four : (i : ℕ) → get_or (a ∷ b ∷ c ∷ d ∷ []) i 0 < 256
    four zero = fits 0
    four (suc zero) = fits 1
    four (suc (suc zero)) = fits 2
    four (suc (suc (suc zero))) = fits 3
    four (suc (suc (suc (suc i)))) = omega arith

back_1 : (bytes : List ℕ) → 1 ≤ length bytes → IsBytes bytes → big_bytes 1 (big_number 1 bytes) ≡ take 1 bytes
back_1 [] long fits = absurd (omega arith)
back_1 (a ∷ rest) long fits = let small = fits 0 in ap (λ (n : ℕ). n ∷ []) (omega (arith, small))

back_8 : (bytes : List ℕ) → 8 ≤ length bytes → IsBytes bytes → big_bytes 8 (big_number 8 bytes) ≡ take 8 bytes
back_8 [] long fits = absurd (omega arith)
back_8 (a ∷ []) long fits = absurd (omega arith)
back_8 (a ∷ b ∷ []) long fits = absurd (omega arith)
back_8 (a ∷ b ∷ c ∷ []) long fits = absurd (omega arith)
back_8 (a ∷ b ∷ c ∷ d ∷ []) long fits = absurd (omega arith)
back_8 (a ∷ b ∷ c ∷ d ∷ e ∷ []) long fits = absurd (omega arith)
back_8 (a ∷ b ∷ c ∷ d ∷ e ∷ f ∷ []) long fits = absurd (omega arith)
back_8 (a ∷ b ∷ c ∷ d ∷ e ∷ f ∷ g ∷ []) long fits = absurd (omega arith)
back_8 (a ∷ b ∷ c ∷ d ∷ e ∷ f ∷ g ∷ h ∷ rest) long fits =
    be_bytes_8 (a ∷ b ∷ c ∷ d ∷ e ∷ f ∷ g ∷ h ∷ []) (big_number 8 (a ∷ b ∷ c ∷ d ∷ e ∷ f ∷ g ∷ h ∷ rest)) refl eight
    (omega arith)
  where
    eight : (i : ℕ) → get_or (a ∷ b ∷ c ∷ d ∷ e ∷ f ∷ g ∷ h ∷ []) i 0 < 256
    eight zero = fits 0
    eight (suc zero) = fits 1
    eight (suc (suc zero)) = fits 2
    eight (suc (suc (suc zero))) = fits 3
    eight (suc (suc (suc (suc zero)))) = fits 4
    eight (suc (suc (suc (suc (suc zero))))) = fits 5
    eight (suc (suc (suc (suc (suc (suc zero)))))) = fits 6
    eight (suc (suc (suc (suc (suc (suc (suc zero))))))) = fits 7
    eight (suc (suc (suc (suc (suc (suc (suc (suc i)))))))) = omega arith

pub back : (width : ℕ) (bytes : List ℕ) → IsWidth width → width ≤ length bytes → IsBytes bytes
    → big_bytes width (big_number width bytes) ≡ take width bytes
back width bytes (inl e) long fits = subst
    (λ (w : ℕ). w ≤ length bytes → big_bytes w (big_number w bytes) ≡ take w bytes) (sym e)
    (λ l. back_1 bytes l fits) long
back width bytes (inr (inl e)) long fits =
    subst (λ (w : ℕ). w ≤ length bytes → big_bytes w (big_number w bytes) ≡ take w bytes) (sym e)
    (λ l. back_2 bytes l fits) long
back width bytes (inr (inr (inl e))) long fits =
    subst (λ (w : ℕ). w ≤ length bytes → big_bytes w (big_number w bytes) ≡ take w bytes) (sym e)
    (λ l. back_4 bytes l fits) long
back width bytes (inr (inr (inr e))) long fits =
    subst (λ (w : ℕ). w ≤ length bytes → big_bytes w (big_number w bytes) ≡ take w bytes) (sym e)
    (λ l. back_8 bytes l fits) long
