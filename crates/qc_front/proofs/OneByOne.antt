-- To ask until no site is to be asked is to ask all that are wanted.
use Rattle.std.proofs.Common.{◌≡◌, ℕ, zero, suc, ◌++◌, ◌≤◌, Bool, true, false, cond, List, [], ◌∷◌, Option, Some, None}
use Rattle.std.proofs.Common.{length, refl, sym, ap, ◌∙◌, subst, arith}
use Rattle.std.proofs.lemmas.List.{append-nil}
use Rattle.qc_plan.specs.Vocabulary.{RoundState, asking_all, asking_first, asking_in_turn, asking_next, asking_on}
use Rattle.qc_plan.specs.Vocabulary.{first, may_ask, next_site, wanted}
use Rattle.qc_plan.proofs.Rounds.{sites_are_asked_one_by_one}

-- a round that asks no site stays as it is

stops : (turns : ℕ) (r : RoundState) → next_site r ≡ None → asking_in_turn turns r ≡ ([], r)
stops zero r none = refl
stops (suc turns) r none = ap (λ (o : Option ℕ). asking_on r o (asking_next r) (asking_in_turn turns)) none

stays : (r : RoundState) → next_site r ≡ None → asking_next r ≡ r
stays r none = by (may_ask r) r.rest none
  where
    by : (may : Bool) (rest : List ℕ) → cond may (first rest) None ≡ None → cond may (asking_first r rest) r ≡ r
    by false rest none = refl
    by true [] none = refl
    by true (site ∷ rest) none = let never : Some site ≡ None = none in cc

pub all_asked : (begun last : RoundState) (sites : List ℕ)
    → sites ++ (asking_in_turn (length last.rest) last).0 ≡ (asking_in_turn (length begun.rest) begun).0
    → next_site last ≡ None → sites ≡ wanted begun
all_asked begun last sites more none =
    sym (append-nil sites)
    ∙ ap (λ (p : List ℕ × RoundState). sites ++ p.0) (sym (stops (length last.rest) last none))
    ∙ more
    ∙ ap (λ (p : List ℕ × RoundState). p.0) (sites_are_asked_one_by_one (length begun.rest) begun (omega arith))

pub last_asked : (begun last : RoundState)
    → (asking_in_turn (length last.rest) last).1 ≡ (asking_in_turn (length begun.rest) begun).1 → next_site last ≡ None
    → asking_next last ≡ asking_all begun (wanted begun)
last_asked begun last more none =
    stays last none
    ∙ ap (λ (p : List ℕ × RoundState). p.1) (sym (stops (length last.rest) last none))
    ∙ more
    ∙ ap (λ (p : List ℕ × RoundState). p.1) (sites_are_asked_one_by_one (length begun.rest) begun (omega arith))

-- once all that is wanted is asked, nothing more is

last_stops : (turns : ℕ) (r : RoundState) → length r.rest ≤ turns → next_site (asking_in_turn turns r).1 ≡ None
last_stops zero r few = by (may_ask r) r.rest few
  where
    by : (may : Bool) (rest : List ℕ) → length rest ≤ 0 → cond may (first rest) None ≡ None
    by false rest few = refl
    by true [] few = refl
    by true (site ∷ rest) few = absurd (omega arith)
last_stops (suc turns) r few = by (may_ask r) refl r.rest refl (last_stops turns)
  where
    Stops : Option ℕ → Type 0
    Stops o = next_site (asking_on r o (asking_next r) (asking_in_turn turns)).1 ≡ None

    none : next_site r ≡ None → Stops (next_site r)
    none told = subst Stops (sym told) told

    by : (may : Bool) → may_ask r ≡ may → (rest : List ℕ) → r.rest ≡ rest
        → ((s : RoundState) → length s.rest ≤ turns → next_site (asking_in_turn turns s).1 ≡ None) → Stops (next_site r)
    by false is rest is_rest more = none (ap (λ (t : Bool). cond t (first r.rest) None) is)
    by true is [] is_rest more = none (ap (λ (t : Bool). cond t (first r.rest) None) is ∙ ap first is_rest)
    by true is (site ∷ rest) is_rest more =
        let told : next_site r ≡ Some site = ap (λ (t : Bool). cond t (first r.rest) None) is ∙ ap first is_rest in
        let after : asking_next r ≡ asking_first r (site ∷ rest) =
        ap (λ (t : Bool). cond t (asking_first r r.rest) r) is ∙ ap (asking_first r) is_rest in
        let left : length (asking_next r).rest ≡ length rest = ap (λ (s : RoundState). length s.rest) after in
        let whole : length r.rest ≡ suc (length rest) = ap length is_rest in
        subst Stops (sym told) (more (asking_next r) (omega arith))

pub ends_asked : (r : RoundState) → wanted (asking_all r (wanted r)) ≡ []
ends_asked r =
    let last : RoundState = asking_all r (wanted r) in
    let none : next_site last ≡ None = subst (λ (p : List ℕ × RoundState). next_site p.1 ≡ None)
    (sites_are_asked_one_by_one (length r.rest) r (omega arith)) (last_stops (length r.rest) r (omega arith)) in
    ap (λ (p : List ℕ × RoundState). p.0) (sym (sites_are_asked_one_by_one (length last.rest) last (omega arith))
    ∙ stops (length last.rest) last none)
