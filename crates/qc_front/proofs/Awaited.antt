-- What a round waits for, once sites are asked and once what came of a request is noted.
use Rattle.std.proofs.Common.{◌≡◌, ℕ, ◌+◌, ◌==◌, ◌&&◌, nat_le, nat_lt, Bool, true, false, cond, List, [], ◌∷◌, ◌++◌}
use Rattle.std.proofs.Common.{map, filter, take, drop, length, Option, Some, None, unwrap_or, is_some, refl, sym, ap}
use Rattle.std.proofs.Common.{◌∙◌, append_assoc}
use Rattle.std.specs.Prelude.{is_none}
use Rattle.std.specs.Option.{option_or}
use Rattle.std.proofs.lemmas.List.{append-nil, map-append}
use Rattle.std.proofs.lemmas.List.Elements.{filter-append}
use Rattle.std.proofs.lemmas.List.Folds.{list_all-append}
use Rattle.qc_decl.specs.declared.declaration.Declaration.{Declaration}
use Rattle.qc_plan.specs.declared.standing.Asked.{Asked}
use Rattle.qc_plan.specs.declared.standing.Standing.{Standing}
use Rattle.qc_plan.specs.declared.standing.Standing.TheVariants as standings
use Rattle.qc_plan.specs.declared.standing.Verdict.{Verdict}
use Rattle.qc_plan.specs.declared.standing.Verdict.TheVariants as verdicts
use Rattle.qc_plan.specs.Vocabulary.{RoundState, all_noted, asking_all, clash_at, closed_at, first_clash, first_closed}
use Rattle.qc_plan.specs.Vocabulary.{has_granted, is_asked, is_waiting, prefix, refusal, settled, verdict, wanted}
use Rattle.qc_plan.specs.Vocabulary.{weight}
use Rattle.qc_front.specs.Vocabulary.{IsAwaiting, IsPrefix, IsRound, awaited, sites_of}
use Rattle.qc_front.proofs.OneByOne.{ends_asked}

-- the sites of which nothing is noted
abbrev pub unnoted : List Asked → List ℕ
unnoted asked = sites_of (filter (λ (a : Asked). is_none a.standing) asked)

abbrev unknown : ℕ → Asked
unknown site = record { site = site; standing = None }

-- sites are asked

asked_are : (r : RoundState) (xs : List ℕ) → (asking_all r xs).asked ≡ r.asked ++ map unknown xs
asked_are r [] = sym (append-nil r.asked)
asked_are r (x ∷ xs) = asked_are (record r { asked = r.asked ++ unknown x ∷ []; rest = drop 1 r.rest }) xs
    ∙ append_assoc r.asked (unknown x ∷ []) (map unknown xs)

pub weights_stay : (r : RoundState) (xs : List ℕ) → (asking_all r xs).weights ≡ r.weights
weights_stay r [] = refl
weights_stay r (x ∷ xs) = weights_stay (record r { asked = r.asked ++ unknown x ∷ []; rest = drop 1 r.rest }) xs

pub need_stays : (r : RoundState) (xs : List ℕ) → (asking_all r xs).need ≡ r.need
need_stays r [] = refl
need_stays r (x ∷ xs) = need_stays (record r { asked = r.asked ++ unknown x ∷ []; rest = drop 1 r.rest }) xs

rest_after : (r : RoundState) (xs more : List ℕ) → r.rest ≡ xs ++ more → (asking_all r xs).rest ≡ more
rest_after r [] more is = is
rest_after r (x ∷ xs) more is = rest_after
    (record r { asked = r.asked ++ unknown x ∷ []; rest = drop 1 r.rest }) xs more (ap (λ (ss : List ℕ). drop 1 ss) is)

unknown_sites : (xs : List ℕ) → sites_of (map unknown xs) ≡ xs
unknown_sites [] = refl
unknown_sites (x ∷ xs) = ap (λ (ys : List ℕ). x ∷ ys) (unknown_sites xs)

unknown_open : (xs : List ℕ) → filter (λ (a : Asked). is_none a.standing) (map unknown xs) ≡ map unknown xs
unknown_open [] = refl
unknown_open (x ∷ xs) = ap (λ (some : List Asked). unknown x ∷ some) (unknown_open xs)

-- what is wanted are the first of the rest

prefix_is : (weights : List ℕ) (need : ℕ) (asked : List Asked) (rest : List ℕ)
    → IsPrefix (prefix weights need asked rest) rest
prefix_is weights need asked [] = record { more = []; is = refl }
prefix_is weights need asked (x ∷ rest) =
    by (nat_lt (weight (is_asked asked) weights) need) (prefix_is weights need (asked ++ unknown x ∷ []) rest)
  where
    by : (b : Bool) → IsPrefix (prefix weights need (asked ++ unknown x ∷ []) rest) rest
        → IsPrefix (cond b (x ∷ prefix weights need (asked ++ unknown x ∷ []) rest) []) (x ∷ rest)
    by true more = record { more = more.more; is = ap (λ (ys : List ℕ). x ∷ ys) more.is }
    by false more = record { more = x ∷ rest; is = refl }

take_is : (xs : List ℕ) → IsPrefix (take 1 xs) xs
take_is [] = record { more = []; is = refl }
take_is (x ∷ xs) = record { more = xs; is = refl }

pub wanted_is : (r : RoundState) → IsPrefix (wanted r) r.rest
wanted_is r = by (is_waiting (verdict r)) (nat_lt (weight (is_asked r.asked) r.weights) r.need) (all_noted r.asked)
  where
    by : (a b c : Bool) → IsPrefix (cond a (cond b (prefix r.weights r.need r.asked r.rest) (cond c (take 1 r.rest) []))
        []) r.rest
    by true true c = prefix_is r.weights r.need r.asked r.rest
    by true false true = take_is r.rest
    by true false false = record { more = r.rest; is = refl }
    by false b c = record { more = r.rest; is = refl }

pub sites_stay : (r : RoundState) → sites_of (asking_all r (wanted r)).asked ++ (asking_all r (wanted r)).rest
    ≡ sites_of r.asked ++ r.rest
sites_stay r =
    let p : IsPrefix (wanted r) r.rest = wanted_is r in
    ap (λ (some : List Asked). sites_of some ++ (asking_all r (wanted r)).rest) (asked_are r (wanted r))
    ∙ ap (λ (ss : List ℕ). sites_of (r.asked ++ map unknown (wanted r)) ++ ss)
    (rest_after r (wanted r) p.more (sym p.is))
    ∙ ap (λ (ss : List ℕ). ss ++ p.more) (map-append (λ (a : Asked). a.site) r.asked (map unknown (wanted r))
    ∙ ap (λ (ss : List ℕ). sites_of r.asked ++ ss) (unknown_sites (wanted r)))
    ∙ append_assoc (sites_of r.asked) (wanted r) p.more
    ∙ ap (λ (ss : List ℕ). sites_of r.asked ++ ss) p.is

pub asking_round : (decl : Declaration) (client epoch need : ℕ) (r : RoundState) → IsRound decl client epoch need r
    → IsRound decl client epoch need (asking_all r (wanted r))
asking_round decl client epoch need r is =
    record {
      weights = weights_stay r (wanted r) ∙ is.weights;
      need_is = need_stays r (wanted r)
          ∙ is.need_is;
      sites = sites_stay r ∙ is.sites;
    }

-- those that are asked now are awaited too
pub asking_awaits : (r : RoundState) → awaited (asking_all r (wanted r)) ≡ awaited r ++ wanted r
asking_awaits r =
    ap unnoted (asked_are r (wanted r))
    ∙ ap sites_of (filter-append (λ (a : Asked). is_none a.standing) r.asked (map unknown (wanted r))
    ∙ ap (λ (some : List Asked). filter (λ (a : Asked). is_none a.standing) r.asked ++ some)
    (unknown_open (wanted r)))
    ∙ map-append (λ (a : Asked). a.site) (filter (λ (a : Asked). is_none a.standing) r.asked) (map unknown (wanted r))
    ∙ ap (λ (ss : List ℕ). awaited r ++ ss) (unknown_sites (wanted r))

-- a round that waits, and asks all that it wants, has asked a site that isn't noted

abbrev IsNoWait : Option Verdict → Type 0
IsNoWait None = Unit {0}
IsNoWait (Some v) = is_waiting v ≡ false

or_no : (a b : Option Verdict) → IsNoWait a → IsNoWait b → IsNoWait (option_or a b)
or_no None b x y = y
or_no (Some v) b x y = x

closed_no : (site : ℕ) (standing : Option Standing) → IsNoWait (closed_at site standing)
closed_no site None = tt
closed_no site (Some standings.Granted) = tt
closed_no site (Some (standings.Clash tx)) = tt
closed_no site (Some (standings.Closed epoch)) = refl
closed_no site (Some standings.Missing) = tt

clash_no : (site : ℕ) (standing : Option Standing) → IsNoWait (clash_at site standing)
clash_no site None = tt
clash_no site (Some standings.Granted) = tt
clash_no site (Some (standings.Clash tx)) = refl
clash_no site (Some (standings.Closed epoch)) = tt
clash_no site (Some standings.Missing) = tt

closed_nowhere : (asked : List Asked) → IsNoWait (first_closed asked)
closed_nowhere [] = tt
closed_nowhere (a ∷ rest) = or_no (closed_at a.site a.standing) (first_closed rest) (closed_no a.site a.standing)
    (closed_nowhere rest)

clash_nowhere : (asked : List Asked) → IsNoWait (first_clash asked)
clash_nowhere [] = tt
clash_nowhere (a ∷ rest) = or_no (clash_at a.site a.standing) (first_clash rest) (clash_no a.site a.standing)
    (clash_nowhere rest)

rest_left : (enough last : Bool) (refused : Option Verdict) (got need : ℕ) → IsNoWait refused
    → unwrap_or refused (cond enough verdicts.Met (cond last (verdicts.Short got need) verdicts.Waiting))
    ≡ verdicts.Waiting → last ≡ false
rest_left true last None got need free is = let never : ⊥ = cc in absurd never
rest_left false true None got need free is = let never : ⊥ = cc in absurd never
rest_left false false None got need free is = refl
rest_left enough last (Some v) got need free is = let waits : is_waiting v ≡ true = ap is_waiting is in
    let never : ⊥ = cc in absurd never

abbrev state : List ℕ → ℕ → List Asked → List ℕ → RoundState
state weights need asked rest = record { weights = weights; need = need; asked = asked; rest = rest }

abbrev pub settled_by : Bool → RoundState → Verdict
settled_by noted r = cond noted (unwrap_or (refusal r.asked) (settled r (weight (has_granted r.asked) r.weights)))
    verdicts.Waiting

some_left : (r : RoundState) → verdict r ≡ verdicts.Waiting → all_noted r.asked ≡ true → (length r.rest == 0) ≡ false
some_left r waits noted =
    let refused : IsNoWait (refusal r.asked) =
    or_no (first_closed r.asked) (first_clash r.asked) (closed_nowhere r.asked) (clash_nowhere r.asked) in
    rest_left (nat_le r.need (weight (has_granted r.asked) r.weights)) (length r.rest == 0) (refusal r.asked)
    (weight (has_granted r.asked) r.weights) r.need refused
    (sym (ap (λ (t : Bool). settled_by t r) noted) ∙ waits)

abbrev pub wanted_by : Bool → Bool → Bool → RoundState → List ℕ
wanted_by waits light noted r = cond waits
    (cond light (prefix r.weights r.need r.asked r.rest) (cond noted (take 1 r.rest) [])) []

-- a first one is wanted

pub record HasFirst (xs : List ℕ) : Type 0 where
  pub at_first : ℕ
  pub more : List ℕ
  pub is : xs ≡ at_first ∷ more

wants_first : (weights : List ℕ) (need : ℕ) (asked : List Asked) (site : ℕ) (rest : List ℕ)
    → is_waiting (verdict (state weights need asked (site ∷ rest))) ≡ true → all_noted asked ≡ true
    → HasFirst (wanted (state weights need asked (site ∷ rest)))
wants_first weights need asked site rest waits noted = by (nat_lt (weight (is_asked asked) weights) need) refl
  where
    r : RoundState
    r = state weights need asked (site ∷ rest)

    by : (light : Bool) → nat_lt (weight (is_asked asked) weights) need ≡ light
        → HasFirst (wanted (state weights need asked (site ∷ rest)))
    by true is = record {
      at_first = site;
      more = prefix weights need (asked ++ unknown site ∷ []) rest;
      is = ap (λ (t : Bool). wanted_by t (nat_lt (weight (is_asked asked) weights) need) (all_noted asked)
          (state weights need asked (site ∷ rest))) waits
          ∙ ap (λ (t : Bool). cond t (cond t (site ∷ prefix weights need (asked ++ unknown site ∷ []) rest) [])
          (cond (all_noted asked) (site ∷ []) [])) is;
    }
    by false is = record {
      at_first = site;
      more = [];
      is = ap (λ (t : Bool). wanted_by t (nat_lt (weight (is_asked asked) weights) need) (all_noted asked)
          (state weights need asked (site ∷ rest))) waits
          ∙ ap (λ (t : Bool). cond t (prefix weights need asked (site ∷ rest)) (cond (all_noted asked) (site ∷ []) []))
          is
          ∙ ap (λ (t : Bool). cond t (site ∷ []) []) noted;
    }

wants_some : (weights : List ℕ) (need : ℕ) (asked : List Asked) (rest : List ℕ)
    → verdict (state weights need asked rest) ≡ verdicts.Waiting → all_noted asked ≡ true
    → (length rest == 0) ≡ false → HasFirst (wanted (state weights need asked rest))
wants_some weights need asked [] waits noted left = let never : ⊥ = cc in absurd never
wants_some weights need asked (site ∷ rest) waits noted left =
    wants_first weights need asked site rest (ap is_waiting waits) noted

abbrev noted_and : Bool → Bool → Bool
noted_and a b = a && b

pub asking_open : (r : RoundState) → verdict r ≡ verdicts.Waiting → all_noted (asking_all r (wanted r)).asked ≡ false
asking_open r waits =
    ap all_noted (asked_are r (wanted r))
    ∙ list_all-append (λ (a : Asked). is_some a.standing) r.asked (map unknown (wanted r))
    ∙ by (all_noted r.asked) refl
  where
    by : (t : Bool) → all_noted r.asked ≡ t → (t && all_noted (map unknown (wanted r))) ≡ false
    by false is = refl
    by true is =
        let f : HasFirst (wanted r) = wants_some r.weights r.need r.asked r.rest waits is (some_left r waits is) in
        ap (λ (ss : List ℕ). all_noted (map unknown ss)) f.is

pub asking_waits : (r : RoundState) → verdict r ≡ verdicts.Waiting → IsAwaiting (asking_all r (wanted r))
asking_waits r waits = record { open_still = asking_open r waits; asked_all = ends_asked r }
