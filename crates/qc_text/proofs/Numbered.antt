-- Lines of a word and a number, one after another.
use Rattle.std.proofs.Common.{◌≡◌, ℕ, List, ◌++◌, ap, ◌∙◌}
use Rattle.qc_text.specs.Vocabulary.{number_line}
use Rattle.qc_text.proofs.Sections.{section}

-- a line whose number is another's
pub line_of : (word : List ℕ) (n k : ℕ) (page page' : List ℕ) → n ≡ k → page' ≡ page ++ number_line word n
    → page' ≡ page ++ number_line word k
line_of word n k page page' same is = is ∙ ap (λ m. page ++ number_line word m) same

-- three texts behind a page
pub three_more : (p₀ p₁ p₂ p₃ a b c : List ℕ) → p₁ ≡ p₀ ++ a → p₂ ≡ p₁ ++ b → p₃ ≡ p₂ ++ c → p₃ ≡ p₀ ++ (a ++ (b ++ c))
three_more p₀ p₁ p₂ p₃ a b c is₁ is₂ is₃ = section p₀ a (b ++ c) p₁ p₃ is₁ (section p₁ b c p₂ p₃ is₂ is₃)
