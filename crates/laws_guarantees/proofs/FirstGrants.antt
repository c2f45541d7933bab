-- Sites that have granted something to a transaction still have as more grants count, in the lives of their first
-- grants.
use Rattle.std.proofs.Common.{◌≡◌, ◌==◌, ◌||◌, ℕ, Bool, true, false, cond, if◌then◌else◌, List, [], ◌∷◌, ◌++◌, Some}
use Rattle.std.proofs.Common.{refl}
use Rattle.std.specs.List.{find}
use Rattle.std.specs.Option.{option_map_or}
use Rattle.qc_msg.specs.Vocabulary.{has_granted, life_of, with_life}
use Rattle.qc_msg.specs.declared.begun.LifeAt.{LifeAt}

abbrev pub KeepsLives : List LifeAt → List LifeAt → Type 0
KeepsLives before after = (site : ℕ) → has_granted before site ≡ true
    → (has_granted after site ≡ true) × (life_of after site ≡ life_of before site)

pub same_lives : (ls : List LifeAt) → KeepsLives ls ls
same_lives ls site has = (has, refl)

granted_first : (site : ℕ) (ls more : List LifeAt) → has_granted ls site ≡ true
    → (has_granted (ls ++ more) site ≡ true) × (life_of (ls ++ more) site ≡ life_of ls site)
granted_first site [] more has = absurd (let never : ⊥ = cc in never)
granted_first site (l ∷ ls) more has = by (l.site == site) has (granted_first site ls more)
  where
    by : (b : Bool) → (b || has_granted ls site) ≡ true
        → (has_granted ls site ≡ true → (has_granted (ls ++ more) site ≡ true)
        × (life_of (ls ++ more) site ≡ life_of ls site))
        → ((b || has_granted (ls ++ more) site) ≡ true)
        × (option_map_or (λ (x : LifeAt). x.life)
        (cond b (Some l) (find (λ (x : LifeAt). x.site == site) (ls ++ more))) 0 ≡ option_map_or
        (λ (x : LifeAt). x.life) (cond b (Some l) (find (λ (x : LifeAt). x.site == site) ls)) 0)
    by true h rest = (refl, refl)
    by false h rest = rest h

pub life_added : (ls : List LifeAt) (site life : ℕ) → KeepsLives ls (with_life ls site life)
life_added ls site life = by (has_granted ls site)
  where
    by : (b : Bool) → KeepsLives ls (if b then ls else ls ++ record { site = site; life = life } ∷ [])
    by true = same_lives ls
    by false = λ s has. granted_first s ls (record { site = site; life = life } ∷ []) has
