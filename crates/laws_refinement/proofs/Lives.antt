-- One grant more that counts.
use Rattle.std.proofs.Common.{◌≡◌, ◌≢◌, ◌<◌, ◌⊎◌, inl, inr, ℕ, ◌==◌, ◌||◌, Bool, true, false, cond, List, [], ◌∷◌, ◌++◌}
use Rattle.std.proofs.Common.{Option, Some, None, refl, sym, ap, ◌∙◌, subst, eq-eqb, eqb-true, arith}
use Rattle.std.specs.List.{find}
use Rattle.std.specs.Option.{option_map_or}
use Rattle.qc_stamp.specs.declared.stamp.TxId.{TxId}
use Rattle.qc_msg.specs.declared.begun.LifeAt.{LifeAt}
use Rattle.qc_msg.specs.Vocabulary.{has_granted, life_of, with_life}
use Rattle.theory_machine.specs.Vocabulary.{Granted}
use Rattle.laws_refinement.specs.Vocabulary.{LivesMirror}

abbrev found : List LifeAt → ℕ → Option LifeAt
found lives site = find (λ (l : LifeAt). l.site == site) lives

abbrev life_in : Option LifeAt → ℕ
life_in o = option_map_or (λ (l : LifeAt). l.life) o 0

-- behind those that are there

life_last : (lives : List LifeAt) (site life : ℕ) → has_granted lives site ≡ false
    → life_of (lives ++ record { site = site; life = life } ∷ []) site ≡ life
life_last [] site life none = by (site == site) (eq-eqb site site refl)
  where
    by : (b : Bool) → b ≡ true → life_in (cond b (Some (record { site = site; life = life })) None) ≡ life
    by true e = refl
    by false e = absurd (let never : ⊥ = cc in never)
life_last (l ∷ ls) site life none = by (l.site == site) none (life_last ls site life)
  where
    by : (b : Bool) → (b || has_granted ls site) ≡ false
        → (has_granted ls site ≡ false → life_of (ls ++ record { site = site; life = life } ∷ []) site ≡ life)
        → life_in (cond b (Some l) (found (ls ++ record { site = site; life = life } ∷ []) site)) ≡ life
    by true e rest = absurd (let never : ⊥ = cc in never)
    by false e rest = rest e

pub life_other : (lives : List LifeAt) (site life other : ℕ) → other ≢ site
    → life_of (lives ++ record { site = site; life = life } ∷ []) other ≡ life_of lives other
life_other [] site life other ne = by (site == other) refl
  where
    by : (b : Bool) → (site == other) ≡ b → life_in (cond b (Some (record { site = site; life = life })) None) ≡ 0
    by true e = absurd (ne (sym (eqb-true site other e)))
    by false e = refl
life_other (l ∷ ls) site life other ne = by (l.site == other) (life_other ls site life other ne)
  where
    by : (b : Bool) → life_of (ls ++ record { site = site; life = life } ∷ []) other ≡ life_of ls other
        → life_in (cond b (Some l) (found (ls ++ record { site = site; life = life } ∷ []) other)) ≡ life_in
        (cond b (Some l) (found ls other))
    by true rest = refl
    by false rest = rest

pub has_last : (lives : List LifeAt) (site life : ℕ)
    → has_granted (lives ++ record { site = site; life = life } ∷ []) site ≡ true
has_last [] site life = by (site == site) (eq-eqb site site refl)
  where
    by : (b : Bool) → b ≡ true → (b || false) ≡ true
    by true e = refl
    by false e = e
has_last (l ∷ ls) site life = by (l.site == site) (has_last ls site life)
  where
    by : (b : Bool) → has_granted (ls ++ record { site = site; life = life } ∷ []) site ≡ true
        → (b || has_granted (ls ++ record { site = site; life = life } ∷ []) site) ≡ true
    by true rest = refl
    by false rest = rest

has_more : (lives : List LifeAt) (site life other : ℕ) → has_granted lives other ≡ true
    → has_granted (lives ++ record { site = site; life = life } ∷ []) other ≡ true
has_more [] site life other h = absurd (let never : ⊥ = cc in never)
has_more (l ∷ ls) site life other h = by (l.site == other) h (has_more ls site life other)
  where
    by : (b : Bool) → (b || has_granted ls other) ≡ true
        → (has_granted ls other ≡ true → has_granted (ls ++ record { site = site; life = life } ∷ []) other ≡ true)
        → (b || has_granted (ls ++ record { site = site; life = life } ∷ []) other) ≡ true
    by true e rest = refl
    by false e rest = rest e

has_back : (lives : List LifeAt) (site life other : ℕ) → other ≢ site
    → has_granted (lives ++ record { site = site; life = life } ∷ []) other ≡ true → has_granted lives other ≡ true
has_back [] site life other ne h = by (site == other) refl h
  where
    by : (b : Bool) → (site == other) ≡ b → (b || false) ≡ true → false ≡ true
    by true e k = absurd (ne (sym (eqb-true site other e)))
    by false e k = k
has_back (l ∷ ls) site life other ne h = by (l.site == other) h (has_back ls site life other ne)
  where
    by : (b : Bool) → (b || has_granted (ls ++ record { site = site; life = life } ∷ []) other) ≡ true
        → (has_granted (ls ++ record { site = site; life = life } ∷ []) other ≡ true → has_granted ls other ≡ true)
        → (b || has_granted ls other) ≡ true
    by true e rest = refl
    by false e rest = rest e

pub same_or : (a b : ℕ) → (a ≡ b) ⊎ (a ≢ b)
same_or a b = by (a == b) refl
  where
    by : (t : Bool) → (a == b) ≡ t → (a ≡ b) ⊎ (a ≢ b)
    by true e = inl (eqb-true a b e)
    by false e = inr (λ same. let k : (a == b) ≡ true = eq-eqb a b same in let never : ⊥ = cc in never)

-- the request names the life of the first grant, or none; the grant is in the life that was named, if any
pub counted_once_more : (counted : List Granted) (tx : TxId) (lives : List LifeAt) (g : Granted) (named : ℕ)
    → LivesMirror counted tx lives → g.tx ≡ tx → named ≡ life_of lives g.site → (named ≡ 0) ⊎ (named ≡ g.life)
    → 0 < g.life
    → LivesMirror (g ∷ counted) tx (with_life lives g.site g.life)
counted_once_more counted tx lives g named m its names lived some = by (has_granted lives g.site) refl
  where
    by : (b : Bool) → has_granted lives g.site ≡ b
        → LivesMirror (g ∷ counted) tx (cond b lives (lives ++ record { site = g.site; life = g.life } ∷ []))
    by true is = record {
      participants = λ x among of. elim among [
        | inl same ↦ subst (λ (y : Granted). has_granted lives y.site ≡ true)
            (sym same) is
        | inr old ↦ m.participants x old of
      ];
      each = λ x among of. elim among [
        | inl same ↦ subst (λ (y : Granted). y.life ≡ life_of lives y.site)
            (sym same) first
        | inr old ↦ m.each x old of
      ];
      positive = m.positive;
    }
      where
        first : g.life ≡ life_of lives g.site
        first = elim lived [
          | inl none ↦ absurd (let p : 0 < life_of lives g.site = m.positive g.site is in
              let e : 0 ≡ life_of lives g.site = sym none ∙ names in let never : ⊥ = omega arith in never)
          | inr same ↦ sym same ∙ names
        ]
    by false is = record {
      participants = λ x among of. elim among [
        | inl same ↦ subst (λ (y : Granted). has_granted (lives ++ record { site = g.site; life = g.life } ∷ []) y.site
            ≡ true) (sym same) (has_last lives g.site g.life)
        | inr old ↦ has_more lives g.site g.life x.site (m.participants x old of)
      ];
      each = λ x among of. elim among [
        | inl same ↦ subst (λ (y : Granted). y.life ≡ life_of
            (lives ++ record { site = g.site; life = g.life } ∷ []) y.site) (sym same)
            (sym (life_last lives g.site g.life is))
        | inr old ↦ m.each x old of ∙ sym (life_other lives g.site g.life x.site
            (λ same. (let here : has_granted lives x.site ≡ true = m.participants x old of in
            let there : has_granted lives x.site ≡ false = ap (λ (n : ℕ). has_granted lives n) same
            ∙ is in let never : ⊥ = cc in never)))
      ];
      positive = λ site has. elim (same_or site g.site) [
        | inl same ↦ (let e : life_of (lives ++ record { site = g.site; life = g.life } ∷ []) site ≡ g.life =
            ap (λ (n : ℕ). life_of (lives ++ record { site = g.site; life = g.life } ∷ []) n) same
            ∙ life_last lives g.site g.life is in omega arith)
        | inr other ↦ (let e : life_of (lives ++ record { site = g.site; life = g.life } ∷ []) site
            ≡ life_of lives site = life_other lives g.site g.life site other in
            let p : 0 < life_of lives site = m.positive site (has_back lives g.site g.life site other has) in
            omega arith)
      ];
    }
