-- A met round is a quorum of sites whose grants were counted.
use Rattle.std.proofs.Common.{◌≡◌, ℕ, ◌≤◌, ◌==◌, ◌&&◌, ◌||◌, Bool, true, false, cond, inl, inr, List, [], ◌∷◌, ◌++◌}
use Rattle.std.proofs.Common.{drop, Option, Some, None, refl, sym, ap, ◌∙◌, subst, eqb-true}
use Rattle.qc_stamp.specs.declared.stamp.TxId.{TxId}
use Rattle.qc_list.specs.Vocabulary.{In}
use Rattle.qc_plan.specs.Vocabulary.{RoundState, asking_all, has_granted, is_granted, note_in, verdict, weight}
use Rattle.qc_plan.specs.declared.standing.Asked.{Asked}
use Rattle.qc_plan.specs.declared.standing.Standing.{Standing}
use Rattle.qc_plan.specs.declared.standing.Standing.TheVariants as standings
use Rattle.qc_plan.specs.declared.standing.Verdict.TheVariants as verdicts
use Rattle.qc_plan.proofs.RoundsMet.{met_weighs}
use Rattle.qc_decl.specs.declared.declaration.Declaration.{Declaration}
use Rattle.theory_machine.specs.Quorums.{HasGranted, HasQuorum, weights_of}
use Rattle.theory_machine.specs.Vocabulary.{Granted, Item}
use Rattle.qc_front.specs.Vocabulary.{IsRound}
use Rattle.laws_refinement.specs.Vocabulary.{AreCounted}
use Rattle.qc_list.proofs.Members.{In-either}

-- those that are asked now have granted nothing
pub asked_counted : (counted : List Granted) (tx : TxId) (item : Item) (r : RoundState) (sites : List ℕ)
    → AreCounted counted tx item r.asked → AreCounted counted tx item (asking_all r sites).asked
asked_counted counted tx item r [] h = h
asked_counted counted tx item r (site ∷ sites) h =
    asked_counted counted tx item (record r {
      asked = r.asked ++ record { site = site; standing = None } ∷ [];
      rest = drop 1 r.rest;
    }) sites
    (λ x among is. elim (In-either x r.asked (record { site = site; standing = None } ∷ []) among) [
      | inl old ↦ h x old is
      | inr new ↦ elim new [
        | inl same ↦ absurd
            (let k : None ≡ Some standings.Granted = sym (ap (λ (y : Asked). y.standing) same)
            ∙ is in let never : ⊥ = cc in never)
        | inr never ↦ absurd never
      ]
    ])

pub noted_counted : (counted : List Granted) (tx : TxId) (item : Item) (site : ℕ) (standing : Standing)
    (xs : List Asked) → AreCounted counted tx item xs → (standing ≡ standings.Granted → HasGranted counted tx site item)
    → AreCounted counted tx item (note_in site standing xs)
noted_counted counted tx item site standing [] old new x among is = absurd among
noted_counted counted tx item site standing (y ∷ ys) old new x among is =
    by (y.site == site) among (noted_counted counted tx item site standing ys (λ z m. old z (inr m)) new x)
  where
    by : (t : Bool) → In x (cond t (record { site = site; standing = Some standing } ∷ ys)
        (y ∷ note_in site standing ys)) → (In x (note_in site standing ys) → x.standing ≡ Some standings.Granted
        → HasGranted counted tx x.site item) → HasGranted counted tx x.site item
    by true (inl same) rest =
        let eq : Some standing ≡ Some standings.Granted = sym (ap (λ (z : Asked). z.standing) same) ∙ is in
        subst (λ (s : ℕ). HasGranted counted tx s item) (sym (ap (λ (z : Asked). z.site) same))
        (new (let k : standing ≡ standings.Granted = cc in k))
    by true (inr more) rest = old x (inr more) is
    by false (inl same) rest = old x (inl same) is
    by false (inr more) rest = rest more is

-- who granted is counted
granted_counted : (counted : List Granted) (tx : TxId) (item : Item) (xs : List Asked) (site : ℕ)
    → AreCounted counted tx item xs → has_granted xs site ≡ true → HasGranted counted tx site item
granted_counted counted tx item [] site all h = absurd (let never : ⊥ = cc in never)
granted_counted counted tx item (x ∷ xs) site all h =
    by (x.site == site) x.standing refl refl h (granted_counted counted tx item xs site (λ y among. all y (inr among)))
  where
    by : (t : Bool) (st : Option Standing) → (x.site == site) ≡ t → x.standing ≡ st
        → ((t && is_granted st) || has_granted xs site) ≡ true
        → (has_granted xs site ≡ true → HasGranted counted tx site item) → HasGranted counted tx site item
    by true None same is k rest = rest k
    by true (Some standings.Granted) same is k rest =
        subst (λ (s : ℕ). HasGranted counted tx s item) (eqb-true x.site site same) (all x (inl refl) is)
    by true (Some (standings.Clash u)) same is k rest = rest k
    by true (Some (standings.Closed epoch)) same is k rest = rest k
    by true (Some standings.Missing) same is k rest = rest k
    by false st same is k rest = rest k

pub met_quorum : (decl : Declaration) (client epoch need : ℕ) (r : RoundState) (counted : List Granted) (tx : TxId)
    (item : Item) → IsRound decl client epoch need r → AreCounted counted tx item r.asked → verdict r ≡ verdicts.Met
    → HasQuorum decl epoch counted tx item need
met_quorum decl client epoch need r counted tx item is all met = record {
  sites = has_granted r.asked;
  enough = subst (λ (n : ℕ). n ≤ weight (has_granted r.asked) (weights_of decl epoch)) is.need_is
      (subst (λ (ws : List ℕ). r.need ≤ weight (has_granted r.asked) ws) is.weights (met_weighs r met));
  each = λ site granted. granted_counted counted tx item r.asked site all granted;
}
