-- One pass more is set up.
use Rattle.std.proofs.Common.{◌≡◌, ℕ, zero, suc, List, [], ◌∷◌, ◌++◌, length, replicate, refl, ap, sym, ◌∙◌, subst}
use Rattle.std.proofs.Common.{arith, length-append}
use Rattle.std.proofs.lemmas.List.{length-replicate}
use Rattle.atomic_table.specs.Seated.{TableId}
use Rattle.qc_pass.specs.declared.token.Pass.{Pass}
use Rattle.qc_pass.specs.declared.token.Right.{Right}
use Rattle.qc_pass.specs.Vocabulary.{AreNew, IsNew, IsSetUp, all, ends, right_table, rooms}
use Rattle.qc_pass.proofs.Places.{end_fact}

replicate_more : (n : ℕ) → ◌++◌ {A = ℕ} (replicate n 0) (0 ∷ []) ≡ replicate (suc n) 0
replicate_more zero = refl
replicate_more (suc n) = ap (λ (xs : List ℕ). 0 ∷ xs) (replicate_more n)

module _ {E : Type 0} where
  pub sets_up : (z : TableId) (r t : Right E) (ps qs : List (Pass E)) (p : Pass E) → IsSetUp z r ps
      → IsNew z (length (rooms r)) p
      → right_table t ≡ right_table r → all t ≡ all r → rooms t ≡ rooms r ++ 0 ∷ [] → ends t ≡ ends r ++ 0 ∷ []
      → qs ≡ ps ++ p ∷ []
      → IsSetUp z t qs
  sets_up z r t ps qs p h new table_is all_is rooms_is ends_is grown =
      let more : length qs ≡ suc (length ps) = omega (arith, ap length grown, length-append ps (p ∷ [])) in
      let count : length (rooms r) ≡ length ps = ap length h.0.rooms_are ∙ length-replicate (length ps) 0 in (
        record {
          table_is = table_is ∙ h.0.table_is;
          all_none = all_is ∙ h.0.all_none;
          rooms_are = rooms_is ∙ (ap (λ (l : List ℕ). l ++ 0 ∷ []) h.0.rooms_are
              ∙ (replicate_more (length ps) ∙ ap (λ (n : ℕ). replicate n 0) (sym more)));
          ends_are = ends_is ∙ (ap (λ (l : List ℕ). l ++ 0 ∷ []) h.0.ends_are
              ∙ (replicate_more (length ps) ∙ ap (λ (n : ℕ). replicate n 0) (sym more)));
        },
        subst (λ (l : List (Pass E)). AreNew z l) (sym grown)
            (end_fact (λ n q. IsNew z n q) ps p (subst (λ (n : ℕ). IsNew z n p) count new) h.1),
      )
