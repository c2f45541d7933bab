-- Ranks are in an order, and who comes next comes before all others.
use Rattle.std.proofs.Common.{◌≡◌, ℕ, zero, suc, ◌<◌, ◌≤◌, ◌==◌, Bool, true, false, if◌then◌else◌, List, Option, Some}
use Rattle.std.proofs.Common.{None, refl, ap, sym, subst, ◌∙◌, arith}
use Rattle.std.specs.Prelude.{option_map}
use Rattle.std.proofs.lemmas.Bool.{eqb-false, eqb-true, ltb-false, ltb-true, lt-ltb, le-ltb}
use Rattle.qc_decl.specs.Vocabulary.{actors}
use Rattle.qc_decl.specs.declared.declaration.Declaration.{Declaration}
use Rattle.qc_msg.specs.Vocabulary.{Entry}
use Rattle.qc_script.specs.declared.script.Script.{Script}
use Rattle.qc_mailbox.specs.Vocabulary.{comes_before, first_of, picked, rank_at, sooner}
use Rattle.qc_mailbox.specs.declared.input.Candidate.{Candidate}
use Rattle.qc_mailbox.specs.declared.input.Rank.{Rank}
use Rattle.qc_mailbox.specs.declared.input.Rank.TheVariants.{Copy, Lost, Command}
use Rattle.qc_mailbox.proofs.Picking.{none_first, some_first}
use Rattle.qc_list.proofs.Options.{none_some, some_same}

-- the order of ranks

asymmetric : (x y : Rank) → comes_before x y ≡ true → comes_before y x ≡ false
asymmetric (Copy m) (Copy n) is = let low : m < n = ltb-true m n is in le-ltb n m (omega arith)
asymmetric (Copy m) Lost is = refl
asymmetric (Copy m) (Command n) is = refl
asymmetric Lost (Copy n) is = absurd (let never : ⊥ = cc in never)
asymmetric Lost Lost is = refl
asymmetric Lost (Command n) is = refl
asymmetric (Command m) (Copy n) is = absurd (let never : ⊥ = cc in never)
asymmetric (Command m) Lost is = absurd (let never : ⊥ = cc in never)
asymmetric (Command m) (Command n) is = let low : m < n = ltb-true m n is in le-ltb n m (omega arith)

irreflexive : (x : Rank) → comes_before x x ≡ false
irreflexive (Copy m) = le-ltb m m (omega arith)
irreflexive Lost = refl
irreflexive (Command m) = le-ltb m m (omega arith)

-- what comes before the third comes before the second, where the second doesn't
between : (x y z : Rank) → comes_before x z ≡ true → comes_before y z ≡ false → comes_before x y ≡ true
between (Copy m) (Copy j) (Copy k) p q = let low : m < k = ltb-true m k p in let high : k ≤ j = ltb-false j k q in
    lt-ltb m j (omega arith)
between (Copy m) (Copy j) Lost p q = absurd (let never : ⊥ = cc in never)
between (Copy m) (Copy j) (Command k) p q = absurd (let never : ⊥ = cc in never)
between (Copy m) Lost z p q = refl
between (Copy m) (Command j) z p q = refl
between Lost y (Copy k) p q = absurd (let never : ⊥ = cc in never)
between Lost y Lost p q = absurd (let never : ⊥ = cc in never)
between Lost (Copy j) (Command k) p q = absurd (let never : ⊥ = cc in never)
between Lost Lost (Command k) p q = absurd (let never : ⊥ = cc in never)
between Lost (Command j) (Command k) p q = refl
between (Command m) y (Copy k) p q = absurd (let never : ⊥ = cc in never)
between (Command m) y Lost p q = absurd (let never : ⊥ = cc in never)
between (Command m) (Copy j) (Command k) p q = absurd (let never : ⊥ = cc in never)
between (Command m) Lost (Command k) p q = absurd (let never : ⊥ = cc in never)
between (Command m) (Command j) (Command k) p q = let low : m < k = ltb-true m k p in
    let high : k ≤ j = ltb-false j k q in lt-ltb m j (omega arith)

-- a candidate comes before all others below n: none has a better rank, and none below it as good a one
record Leads (f : ℕ → Option Rank) (n : ℕ) (c : Candidate) : Type 0 where
  first : (b : ℕ) (r : Rank) → b < n → f b ≡ Some r → comes_before r c.rank ≡ false
  lowest : (b : ℕ) (r : Rank) → b < c.actor → f b ≡ Some r → comes_before c.rank r ≡ true

-- one more actor, which has no rank
leads_on : (f : ℕ → Option Rank) (n : ℕ) (c : Candidate) → f n ≡ None → Leads f n c → Leads f (suc n) c
leads_on f n c none leads = record { first = λ b r below is. by b r below is (b == n) refl; lowest = leads.lowest }
  where
    by : (b : ℕ) (r : Rank) → b < suc n → f b ≡ Some r → (t : Bool) → (b == n) ≡ t → comes_before r c.rank ≡ false
    by b r below is true here = absurd (none_some r (sym none ∙ (ap f (sym (eqb-true b n here)) ∙ is)))
    by b r below is false other = let apart : b ≡ n → ⊥ = eqb-false b n other in leads.first b r (omega arith) is

-- the first that has one
leads_alone : (f : ℕ → Option Rank) (n : ℕ) (rank : Rank) → f n ≡ Some rank → ((b : ℕ) → b < n → f b ≡ None)
    → Leads f (suc n) (record { actor = n; rank = rank })
leads_alone f n rank has none = record {
  first = λ b r below is. by b r below is (b == n) refl;
  lowest = λ b r below is. absurd (none_some r (sym (none b below) ∙ is));
}
  where
    by : (b : ℕ) (r : Rank) → b < suc n → f b ≡ Some r → (t : Bool) → (b == n) ≡ t → comes_before r rank ≡ false
    by b r below is true here =
        let same : r ≡ rank = some_same r rank (sym is ∙ (ap f (eqb-true b n here) ∙ has)) in
        subst (λ (x : Rank). comes_before x rank ≡ false) (sym same) (irreflexive rank)
    by b r below is false other =
        let apart : b ≡ n → ⊥ = eqb-false b n other in
        absurd (none_some r (sym (none b (omega arith)) ∙ is))

-- one that is better than the best so far
leads_better : (f : ℕ → Option Rank) (n : ℕ) (best : Candidate) (rank : Rank) → f n ≡ Some rank
    → comes_before rank best.rank ≡ true → Leads f n best
    → Leads f (suc n) (record { actor = n; rank = rank })
leads_better f n best rank has better leads =
    record { first = λ b r below is. by b r below is (b == n) refl; lowest = lower }
  where
    lower : (b : ℕ) (r : Rank) → b < n → f b ≡ Some r → comes_before rank r ≡ true
    lower b r below is = between rank r best.rank better (leads.first b r below is)

    by : (b : ℕ) (r : Rank) → b < suc n → f b ≡ Some r → (t : Bool) → (b == n) ≡ t → comes_before r rank ≡ false
    by b r below is true here =
        let same : r ≡ rank = some_same r rank (sym is ∙ (ap f (eqb-true b n here) ∙ has)) in
        subst (λ (x : Rank). comes_before x rank ≡ false) (sym same) (irreflexive rank)
    by b r below is false other =
        let apart : b ≡ n → ⊥ = eqb-false b n other in
        asymmetric rank r (lower b r (omega arith) is)

-- one that isn't
leads_still : (f : ℕ → Option Rank) (n : ℕ) (best : Candidate) (rank : Rank) → f n ≡ Some rank
    → comes_before rank best.rank ≡ false → Leads f n best → Leads f (suc n) best
leads_still f n best rank has worse leads =
    record { first = λ b r below is. by b r below is (b == n) refl; lowest = leads.lowest }
  where
    by : (b : ℕ) (r : Rank) → b < suc n → f b ≡ Some r → (t : Bool) → (b == n) ≡ t → comes_before r best.rank ≡ false
    by b r below is true here =
        let same : r ≡ rank = some_same r rank (sym is ∙ (ap f (eqb-true b n here) ∙ has)) in
        subst (λ (x : Rank). comes_before x best.rank ≡ false) (sym same) worse
    by b r below is false other = let apart : b ≡ n → ⊥ = eqb-false b n other in leads.first b r (omega arith) is

leads_more : (f : ℕ → Option Rank) (n : ℕ) (c : Candidate) (o : Option Candidate) (q : Option Rank)
    → ((d : Candidate) → o ≡ Some d → Leads f n d)
    → (o ≡ None → (b : ℕ) → b < n → f b ≡ None) → f n ≡ q → sooner o n q ≡ Some c → Leads f (suc n) c
leads_more f n c o None lower none has is = leads_on f n c has (lower c is)
leads_more f n c None (Some rank) lower none has is =
    subst (λ (x : Candidate). Leads f (suc n) x) (some_same _ c is) (leads_alone f n rank has (none refl))
leads_more f n c (Some best) (Some rank) lower none has is = by (comes_before rank best.rank) refl is
  where
    by : (t : Bool) → comes_before rank best.rank ≡ t
        → (if t then Some (record { actor = n; rank = rank }) else Some best) ≡ Some c → Leads f (suc n) c
    by true better said = subst (λ (x : Candidate). Leads f (suc n) x) (some_same _ c said)
        (leads_better f n best rank has better (lower best refl))
    by false worse said = subst (λ (x : Candidate). Leads f (suc n) x) (some_same _ c said)
        (leads_still f n best rank has worse (lower best refl))

leads_all : (f : ℕ → Option Rank) (n : ℕ) (c : Candidate) → first_of f n ≡ Some c → Leads f n c
leads_all f zero c is = absurd (none_some c is)
leads_all f (suc n) c is = leads_more f n c (first_of f n) (f n) (λ d found. leads_all f n d found)
    (λ none. none_first f n none) refl is

-- the actor that is picked

picked_leads : (decl : Declaration) (script : Script) (held : List Bool) (h : List Entry) (a : ℕ) (best : Rank)
    → picked decl script held h ≡ Some a → rank_at decl script held h a ≡ Some best
    → Leads (rank_at decl script held h) (actors decl) (record { actor = a; rank = best })
picked_leads decl script held h a best is has = by (first_of (rank_at decl script held h) (actors decl)) refl is
  where
    by : (o : Option Candidate) → first_of (rank_at decl script held h) (actors decl) ≡ o
        → option_map (λ (c : Candidate). c.actor) o ≡ Some a
        → Leads (rank_at decl script held h) (actors decl) (record { actor = a; rank = best })
    by None here said = absurd (none_some a said)
    by (Some c) here said =
        let actor : c.actor ≡ a = some_same c.actor a said in
        let rank : c.rank ≡ best = some_same c.rank best
        (sym (some_first (rank_at decl script held h) (actors decl) c here).1
        ∙ (ap (λ (k : ℕ). rank_at decl script held h k) actor ∙ has)) in
        subst (λ (x : Candidate). Leads (rank_at decl script held h) (actors decl) x)
        (λ i. record { actor = actor i; rank = rank i })
        (leads_all (rank_at decl script held h) (actors decl) c here)

pub none_better : (decl : Declaration) (script : Script) (held : List Bool) (h : List Entry) (a b : ℕ)
    (best rank : Rank)
    → picked decl script held h ≡ Some a → rank_at decl script held h a ≡ Some best → b < actors decl
    → rank_at decl script held h b ≡ Some rank
    → comes_before rank best ≡ false
none_better decl script held h a b best rank is has below ranked =
    (picked_leads decl script held h a best is has).first b rank below ranked

pub lower_worse : (decl : Declaration) (script : Script) (held : List Bool) (h : List Entry) (a b : ℕ)
    (best rank : Rank)
    → picked decl script held h ≡ Some a → rank_at decl script held h a ≡ Some best → b < a
    → rank_at decl script held h b ≡ Some rank
    → comes_before best rank ≡ true
lower_worse decl script held h a b best rank is has below ranked =
    (picked_leads decl script held h a best is has).lowest b rank below ranked
