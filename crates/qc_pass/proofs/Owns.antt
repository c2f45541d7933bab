-- The entries of one actor, in joined histories.
use Rattle.std.proofs.Common.{◌≡◌, ℕ, ◌==◌, ◌≢◌, Bool, true, false, cond, List, [], ◌∷◌, ◌++◌, map, refl, ap, sym, ◌∙◌}
use Rattle.std.proofs.Common.{eq-eqb, ne_eqb}
use Rattle.std.specs.Prelude.{filter}
use Rattle.std.proofs.lemmas.List.{append-nil}
use mathlib.Core.List.{IsPrefix}
use Rattle.qc_list.specs.declared.marked.Marked.{Marked}
use Rattle.qc_pass.specs.Vocabulary.{marked, own}

module _ {E : Type 0} where
  more_one : (b : Bool) (x : Marked E) (js ks : List (Marked E)) (es : List E)
      → map (λ (k : Marked E). k.step) js ≡ map (λ (k : Marked E). k.step) ks ++ es
      → map (λ (k : Marked E). k.step) (cond b (x ∷ js) js) ≡ map (λ (k : Marked E). k.step) (cond b (x ∷ ks) ks) ++ es
  more_one true x js ks es h = ap (λ (l : List E). x.step ∷ l) h
  more_one false x js ks es h = h

  own_append : (a : ℕ) (g h : List (Marked E)) → own a (g ++ h) ≡ own a g ++ own a h
  own_append a [] h = refl
  own_append a (x ∷ g) h = more_one (x.actor == a) x (filter (λ k. k.actor == a) (g ++ h))
      (filter (λ k. k.actor == a) g) (own a h) (own_append a g h)

  -- of a beginning
  pub own_begins : (a : ℕ) (g h : List (Marked E)) → IsPrefix g h → IsPrefix (own a g) (own a h)
  own_begins a g h p = (own a p.0, sym (own_append a g p.0) ∙ ap (λ (l : List (Marked E)). own a l) p.1)

  one : (b : Bool) (m : Marked E) (a : ℕ) → (m.actor == a) ≡ b → own a (m ∷ []) ≡ cond b (m.step ∷ []) []
  one true m a e = rw e refl
  one false m a e = rw e refl

  -- and an entry of its own
  pub own_mine : (a : ℕ) (h : List (Marked E)) (e : E) → own a (h ++ marked a e ∷ []) ≡ own a h ++ e ∷ []
  own_mine a h e = own_append a h (marked a e ∷ [])
      ∙ ap (λ (es : List E). own a h ++ es) (one true (marked a e) a (eq-eqb a a refl))

  -- and an entry of another
  pub own_other : (a b : ℕ) (h : List (Marked E)) (e : E) → b ≢ a → own a (h ++ marked b e ∷ []) ≡ own a h
  own_other a b h e ne = own_append a h (marked b e ∷ [])
      ∙ (ap (λ (es : List E). own a h ++ es) (one false (marked b e) a (ne_eqb b a ne)) ∙ append-nil _)
