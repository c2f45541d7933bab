-- The sites that a client asks for votes, and the ballots that it fills.
use Rattle.std.proofs.Common.{◌≡◌, ◌≢◌, ◌≤◌, ◌<◌, ℕ, zero, suc, ◌==◌, ◌&&◌, ◌+◌, ◌-◌, Bool, true, false, cond, ◌⊎◌, inl}
use Rattle.std.proofs.Common.{inr, List, [], ◌∷◌, Option, Some, None, is_some, refl, sym, ap, ◌∙◌, subst, eq-eqb}
use Rattle.std.proofs.Common.{eqb-true, arith}
use Rattle.std.specs.List.{range_with_len}
use Rattle.std.specs.Option.{option_or}
use Rattle.std.proofs.lemmas.Bool.{cases_lt, ltb-true}
use Rattle.qc_list.specs.Vocabulary.{In}
use Rattle.qc_list.proofs.Members.{In-filter, In-first, In-second}
use Rattle.qc_plan.specs.Vocabulary.{cyclic}
use Rattle.qc_decl.specs.declared.declaration.Declaration.{Declaration}
use Rattle.qc_decl.specs.Vocabulary.{first_site, is_site}
use Rattle.qc_msg.specs.declared.begun.Begun.{Begun}
use Rattle.qc_msg.specs.Vocabulary.{has_granted}
use Rattle.qc_commit.specs.declared.ballot.Ballot.{Ballot}
use Rattle.qc_commit.specs.declared.ballot.Vote.{Vote}
use Rattle.qc_commit.specs.declared.ballot.Vote.TheVariants.{For, Against}
use Rattle.qc_commit.specs.Vocabulary.{against, are_cast, blank, cast, first_against, participants}

-- the sites of a declaration, in a client's order

ranged : (n from s : ℕ) → from ≤ s → s < from + n → In s (range_with_len from n)
ranged zero from s low high = absurd (omega arith)
ranged (suc n) from s low high = by (s == from) refl (ranged n (from + 1) s)
  where
    by : (b : Bool) → (s == from) ≡ b → (from + 1 ≤ s → s < from + 1 + n → In s (range_with_len (from + 1) n))
        → In s (from ∷ range_with_len (from + 1) n)
    by true is rest = inl (eqb-true s from is)
    by false is rest = inr (let apart : s ≢ from =
        (λ e. (let t : (s == from) ≡ true = eq-eqb s from e in let never : ⊥ = cc in never)) in
        rest (omega arith) (omega arith))

all_sites : (sites from s : ℕ) → s < sites → In s (cyclic sites from)
all_sites sites from s high = by (cases_lt s from)
  where
    by : (s < from) ⊎ (from ≤ s) → In s (cyclic sites from)
    by (inl less) = In-second s (range_with_len from (sites - from)) (range_with_len 0 from)
        (ranged from 0 s (omega arith) (omega arith))
    by (inr past) = In-first s (range_with_len from (sites - from)) (range_with_len 0 from)
        (ranged (sites - from) from s past (omega arith))

pub participates : (decl : Declaration) (n : ℕ) (b : Begun) (s : ℕ) → is_site decl s ≡ true
    → has_granted b.lives s ≡ true → In s (participants decl n b)
participates decl n b s site granted = In-filter (has_granted b.lives) s (cyclic decl.sites (first_site decl n))
    (all_sites decl.sites (first_site decl n) s (ltb-true s decl.sites site)) granted

-- ballots

pub blank_in : (s : ℕ) (sites : List ℕ) → In s sites → (b : Ballot) × In {X = Ballot} b (blank sites) × (b.site ≡ s)
blank_in s [] among = absurd among
blank_in s (x ∷ xs) (inl same) = (record { site = x; vote = None }, inl refl, sym same)
blank_in s (x ∷ xs) (inr rest) = let r : (b : Ballot) × In {X = Ballot} b (blank xs)
    × (b.site ≡ s) = blank_in s xs rest in (r.0, inr r.1, r.2)

pub blank_votes : (b : Ballot) (sites : List ℕ) → In b (blank sites) → b.vote ≡ Some For → ⊥
blank_votes b [] among e = among
blank_votes b (x ∷ xs) (inl same) e = let k : b.vote ≡ None = ap (λ (y : Ballot). y.vote) same in let never : ⊥ = cc in
    never
blank_votes b (x ∷ xs) (inr rest) e = blank_votes b xs rest e

pub cast_each : (ballots : List Ballot) (site : ℕ) (vote : Vote) (b : Ballot) → In b ballots
    → (d : Ballot) × In {X = Ballot} d (cast ballots site vote) × (d.site ≡ b.site)
cast_each [] site vote b among = absurd among
cast_each (x ∷ xs) site vote b among = by (x.site == site) refl among (cast_each xs site vote b)
  where
    by : (k : Bool) → (x.site == site) ≡ k → (b ≡ x) ⊎ In b xs
        → (In b xs → (d : Ballot) × In {X = Ballot} d (cast xs site vote) × (d.site ≡ b.site))
        → (d : Ballot) × In {X = Ballot} d (cond k (record { site = site; vote = Some vote } ∷ xs)
        (x ∷ cast xs site vote)) × (d.site ≡ b.site)
    by true is (inl same) rest = (
      record { site = site; vote = Some vote },
      inl refl,
      sym (ap (λ (y : Ballot). y.site) same ∙ eqb-true x.site site is),
    )
    by true is (inr more) rest = (b, inr more, refl)
    by false is (inl same) rest = (x, inl refl, ap (λ (y : Ballot). y.site) (sym same))
    by false is (inr more) rest = let r : (d : Ballot) × In {X = Ballot} d (cast xs site vote)
        × (d.site ≡ b.site) = rest more in (r.0, inr r.1, r.2)

pub cast_votes : (ballots : List Ballot) (site : ℕ) (vote : Vote) (b : Ballot) → In b (cast ballots site vote)
    → In b ballots ⊎ ((b.site ≡ site) × (b.vote ≡ Some vote))
cast_votes [] site vote b among = absurd among
cast_votes (x ∷ xs) site vote b among = by (x.site == site) among (cast_votes xs site vote b)
  where
    by : (k : Bool) → In b (cond k (record { site = site; vote = Some vote } ∷ xs) (x ∷ cast xs site vote))
        → (In b (cast xs site vote) → In b xs ⊎ ((b.site ≡ site) × (b.vote ≡ Some vote)))
        → In b (x ∷ xs) ⊎ ((b.site ≡ site) × (b.vote ≡ Some vote))
    by true (inl same) rest = inr (ap (λ (y : Ballot). y.site) same, ap (λ (y : Ballot). y.vote) same)
    by true (inr more) rest = inl (inr more)
    by false (inl same) rest = inl (inl same)
    by false (inr more) rest = elim (rest more) [ inl old ↦ inl (inr old) | inr new ↦ inr new ]

pub all_for : (ballots : List Ballot) → are_cast ballots ≡ true → first_against ballots ≡ None → (b : Ballot)
    → In b ballots → b.vote ≡ Some For
all_for [] all none b among = absurd among
all_for (x ∷ xs) all none b among = by x.vote refl among (all_for xs)
  where
    by : (v : Option Vote) → x.vote ≡ v → In b (x ∷ xs)
        → (are_cast xs ≡ true → first_against xs ≡ None → (c : Ballot) → In c xs → c.vote ≡ Some For)
        → b.vote ≡ Some For
    by None is h rest = absurd (let k : (false && are_cast xs) ≡ true =
        subst (λ (v : Option Vote). (is_some v && are_cast xs) ≡ true) is all in let never : ⊥ = cc in never)
    by (Some (Against why)) is h rest = absurd
        (let k : option_or (against (Some (Against why))) (first_against xs) ≡ None =
        subst (λ (v : Option Vote). option_or (against v) (first_against xs) ≡ None) is none in let never : ⊥ = cc in
        never)
    by (Some For) is (inl same) rest = ap (λ (y : Ballot). y.vote) same ∙ is
    by (Some For) is (inr more) rest =
        rest (subst (λ (v : Option Vote). (is_some v && are_cast xs) ≡ true) is all)
        (subst (λ (v : Option Vote). option_or (against v) (first_against xs) ≡ None) is none) b more
