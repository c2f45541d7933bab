-- Met rounds weigh what is needed, and to ask one by one is to ask all that is wanted.
use Rattle.std.proofs.Common.{[], ◌≡◌, ℕ, zero, suc, ◌+◌, ◌-◌, map, slice_index, append_assoc, length-take, ◌<◌, ◌≤◌}
use Rattle.std.proofs.Common.{nat_lt, Bool, true, false, cond, List, ◌∷◌, ◌++◌, Some, unwrap_or, length, take, drop}
use Rattle.std.proofs.Common.{set, refl, sym, ◌∙◌, ap, subst, arith}
use Rattle.std.specs.List.{range_with_len}
use Rattle.std.proofs.lemmas.List.{drop-set-lt, set_past, map-append, length-append}
use Rattle.std.proofs.Math.Seq.{take-set-lt}
use Rattle.std.proofs.lemmas.Bool.Decides.{nat_tests}
use Rattle.qc_plan.specs.Vocabulary.{RoundState, all_noted, asking_all, asking_in_turn, cyclic, has_granted, is_waiting}
use Rattle.qc_plan.specs.Vocabulary.{note_in, place_in, prefix, refusal, settled, start, verdict, wanted, weighing}
use Rattle.qc_plan.specs.Vocabulary.{weight}
use Rattle.qc_plan.specs.declared.standing.Asked.{Asked}
use Rattle.qc_plan.specs.declared.standing.Standing.{Standing}
use Rattle.qc_plan.proofs.RoundsMet.{note_put, with_site, stays_heavy, unknown, state, is_light, IsWanted, wanted_by}
use Rattle.qc_plan.proofs.RoundsMet.{turn_by}
use Rattle.std.proofs.lemmas.List.FromFn.{length-range_with_len}
use Rattle.qc_plan.specs.declared.standing.Verdict.TheVariants as verdicts

-- what is wanted while an answer is awaited
awaited : (weights : List ℕ) (need : ℕ) (asked : List Asked) (rest : List ℕ) → all_noted asked ≡ false
    → wanted (state weights need asked rest) ≡ prefix weights need asked rest
awaited weights need asked rest noted =
    ap (λ n. cond (is_waiting (cond n
    (unwrap_or (refusal asked) (settled (state weights need asked rest) (weight (has_granted asked) weights)))
    verdicts.Waiting))
    (cond (is_light weights need asked) (prefix weights need asked rest) (cond n (take 1 rest) [])) []) noted
    ∙ light rest (is_light weights need asked) refl where
      light : (sites : List ℕ) (t : Bool) → is_light weights need asked ≡ t
          → cond t (prefix weights need asked sites) [] ≡ prefix weights need asked sites
      light sites true is = refl
      light [] false is = refl
      light (site ∷ sites) false is =
          ap (λ t. cond t (site ∷ prefix weights need (with_site asked site) sites) []) (sym is)

by_tests : (turns : ℕ) (weights : List ℕ) (need : ℕ) (asked : List Asked) (rest : List ℕ) (waits light noted : Bool)
    → is_light weights need asked ≡ light
    → ((site : ℕ) (sites : List ℕ) → rest ≡ site ∷ sites
    → IsWanted turns (state weights need (with_site asked site) sites))
    → turn_by waits light noted (state weights need asked rest) (asking_in_turn turns)
    ≡ (
      wanted_by waits light noted (state weights need asked rest),
      asking_all (state weights need asked rest) (wanted_by waits light noted (state weights need asked rest)),
    )
by_tests turns weights need asked rest false light noted heavy more = refl
by_tests turns weights need asked [] true true noted heavy more = refl
by_tests turns weights need asked (site ∷ sites) true true noted heavy more =
    let after : RoundState = state weights need (with_site asked site) sites in
    let next : IsWanted turns after = more site sites refl in
    let same : wanted after ≡ prefix weights need (with_site asked site) sites =
    awaited weights need (with_site asked site) sites (unknown asked site) in
    let here : cond (is_light weights need asked) (site ∷ prefix weights need (with_site asked site) sites) []
    ≡ site ∷ prefix weights need (with_site asked site) sites =
    ap (λ t. cond t (site ∷ prefix weights need (with_site asked site) sites) []) heavy in
    ap (λ (p : List ℕ × RoundState). (site ∷ p.0, p.1)) next
    ∙ ap (λ (ss : List ℕ). (site ∷ ss, asking_all after ss)) same
    ∙ ap (λ (ss : List ℕ). (ss, asking_all (state weights need asked (site ∷ sites)) ss)) (sym here)
by_tests turns weights need asked rest true false false heavy more = refl
by_tests turns weights need asked [] true false true heavy more = refl
by_tests turns weights need asked (site ∷ sites) true false true heavy more =
    let after : RoundState = state weights need (with_site asked site) sites in
    let next : IsWanted turns after = more site sites refl in
    let same : wanted after ≡ [] =
    awaited weights need (with_site asked site) sites (unknown asked site)
    ∙ none sites (stays_heavy weights need asked site heavy) in
    ap (λ (p : List ℕ × RoundState). (site ∷ p.0, p.1)) next
    ∙ ap (λ (ss : List ℕ). (site ∷ ss, asking_all after ss)) same where
      none : (ss : List ℕ) → is_light weights need (with_site asked site) ≡ false
          → prefix weights need (with_site asked site) ss ≡ []
      none [] is = refl
      none (s ∷ ss) is = ap (λ t. cond t (s ∷ prefix weights need (with_site (with_site asked site) s) ss) []) is

nothing_left : (rest : List ℕ) → length rest ≤ 0 → rest ≡ []
nothing_left [] h = refl
nothing_left (site ∷ sites) h = absurd (omega arith)

no_rest : (weights : List ℕ) (need : ℕ) (asked : List Asked) → wanted (state weights need asked []) ≡ []
no_rest weights need asked =
    by (is_waiting (verdict (state weights need asked []))) (is_light weights need asked) (all_noted asked) where
      by : (waits light noted : Bool) → wanted_by waits light noted (state weights need asked []) ≡ []
      by false light noted = refl
      by true true noted = refl
      by true false true = refl
      by true false false = refl

shorter : (turns : ℕ) (site : ℕ) (sites rest : List ℕ) → length rest ≤ suc turns → rest ≡ site ∷ sites
    → length sites ≤ turns
shorter turns site sites rest few is = let same : length rest ≡ length (site ∷ sites) = ap length is in omega arith

one_by_one_in : (turns : ℕ) (weights : List ℕ) (need : ℕ) (asked : List Asked) (rest : List ℕ) → length rest ≤ turns
    → IsWanted turns (state weights need asked rest)
one_by_one_in zero weights need asked rest few =
    subst (λ (ss : List ℕ). IsWanted 0 (state weights need asked ss)) (sym (nothing_left rest few))
    (ap (λ (ss : List ℕ). (ss, asking_all (state weights need asked []) ss)) (sym (no_rest weights need asked)))
one_by_one_in (suc turns) weights need asked rest few =
    by_tests turns weights need asked rest (is_waiting (verdict (state weights need asked rest)))
    (is_light weights need asked) (all_noted asked) refl
    (λ site sites is. one_by_one_in turns weights need (with_site asked site) sites
    (shorter turns site sites rest few is))

pub sites_are_asked_one_by_one : (turns : ℕ) (r : RoundState) → length r.rest ≤ turns
    → asking_in_turn turns r ≡ (wanted r, asking_all r (wanted r))
sites_are_asked_one_by_one turns r few = one_by_one_in turns r.weights r.need r.asked r.rest few

-- the sites of positive weight from one on

range_more : (site end : ℕ) → site < end
    → range_with_len site (end - site) ≡ site ∷ range_with_len (site + 1) (end - (site + 1))
range_more site end low =
    let more : end - site ≡ suc (end - (site + 1)) = omega arith in
    ap (λ n. range_with_len site n) more

weighing_step : (weights xs : List ℕ) (site end : ℕ) (t : Bool) → nat_lt 0 (slice_index weights site) ≡ t → site < end
    → cond t (xs ++ site ∷ []) xs ++ weighing weights (range_with_len (site + 1) (end - (site + 1)))
    ≡ xs ++ weighing weights (range_with_len site (end - site))
weighing_step weights xs site end t is low =
    by t ∙ ap (λ u. xs ++ cond u (site ∷ rest) rest) (sym is)
    ∙ ap (λ ns. xs ++ weighing weights ns) (sym (range_more site end low)) where
      rest : List ℕ
      rest = weighing weights (range_with_len (site + 1) (end - (site + 1)))

      by : (u : Bool) → cond u (xs ++ site ∷ []) xs ++ rest ≡ xs ++ cond u (site ∷ rest) rest
      by true = append_assoc xs (site ∷ []) rest
      by false = refl

is_positive : (n : ℕ) → 0 < n → nat_lt 0 n ≡ true
is_positive n h = grind (arith, nat_tests)

is_zero : (n : ℕ) → n ≤ 0 → nat_lt 0 n ≡ false
is_zero n h = grind (arith, nat_tests)

sites_push : (items : List Asked) (a : Asked)
    → map (λ (x : Asked). x.site) (items ++ a ∷ []) ≡ map (λ (x : Asked). x.site) items ++ a.site ∷ []
sites_push items a = map-append (λ (x : Asked). x.site) items (a ∷ [])

pub weighing_on : (weights : List ℕ) (items : List Asked) (a : Asked) (site end : ℕ) → a.site ≡ site
    → 0 < slice_index weights site → site < end
    → map (λ (x : Asked). x.site) (items ++ a ∷ []) ++ weighing weights (range_with_len (site + 1) (end - (site + 1)))
    ≡ map (λ (x : Asked). x.site) items ++ weighing weights (range_with_len site (end - site))
weighing_on weights items a site end same some low =
    ap (λ ns. ns ++ weighing weights (range_with_len (site + 1) (end - (site + 1))))
    (sites_push items a ∙ ap (λ n. map (λ (x : Asked). x.site) items ++ n ∷ []) same)
    ∙ weighing_step weights (map (λ (x : Asked). x.site) items) site end true
    (is_positive (slice_index weights site) some) low

pub weighing_past : (weights : List ℕ) (items : List Asked) (site end : ℕ) → slice_index weights site ≤ 0 → site < end
    → map (λ (x : Asked). x.site) items ++ weighing weights (range_with_len (site + 1) (end - (site + 1)))
    ≡ map (λ (x : Asked). x.site) items ++ weighing weights (range_with_len site (end - site))
weighing_past weights items site end none low =
    weighing_step weights (map (λ (x : Asked). x.site) items) site end false (is_zero (slice_index weights site) none)
    low

-- a note in the sites of a round

pub note_some : (weights : List ℕ) (need : ℕ) (sites : List Asked) (n p site : ℕ) (standing : Standing) → p < n
    → p ≡ place_in site (take n sites)
    → state weights need (take n (set sites p (record { site = site; standing = Some standing })))
    (map (λ (a : Asked). a.site) (drop n (set sites p (record { site = site; standing = Some standing }))))
    ≡ state weights need (note_in site standing (take n sites)) (map (λ (a : Asked). a.site) (drop n sites))
note_some weights need sites n p site standing low place =
    let front : take n (set sites p (record { site = site; standing = Some standing }))
    ≡ note_in site standing (take n sites) =
    take-set-lt n sites p (record { site = site; standing = Some standing }) low
    ∙ ap (λ k. set (take n sites) k (record { site = site; standing = Some standing })) place
    ∙ sym (note_put site standing (take n sites)) in
    let back : drop n (set sites p (record { site = site; standing = Some standing })) ≡ drop n sites =
    drop-set-lt n sites p (record { site = site; standing = Some standing }) low in
    λ i. state weights need (front i) (map (λ (a : Asked). a.site) (back i))

pub note_none : (weights : List ℕ) (need : ℕ) (sites : List Asked) (n p site : ℕ) (standing : Standing) (rest : List ℕ)
    → n ≤ p → p ≡ place_in site (take n sites)
    → state weights need (take n sites) rest ≡ state weights need (note_in site standing (take n sites)) rest
note_none weights need sites n p site standing rest past place =
    let size : length (take n sites) ≤ n = simp length-take (omega arith) in
    let same : note_in site standing (take n sites) ≡ take n sites =
    note_put site standing (take n sites)
    ∙ ap (λ k. set (take n sites) k (record { site = site; standing = Some standing })) (sym place)
    ∙ set_past (take n sites) p (record { site = site; standing = Some standing }) (omega arith) in
    λ i. state weights need (sym same i) rest

-- a round over no site

pub weighing_none : (sites : List ℕ) → weighing [] sites ≡ []
weighing_none [] = refl
weighing_none (site ∷ sites) = weighing_none sites

pub starts_nowhere : (weights : List ℕ) (sites : List Asked) (from need : ℕ) → weights ≡ [] → sites ≡ []
    → state weights need (take 0 sites) (map (λ (a : Asked). a.site) (drop 0 sites)) ≡ start [] from need
starts_nowhere weights sites from need light none =
    (λ i. state (light i) need (take 0 (none i)) (map (λ (a : Asked). a.site) (drop 0 (none i))))
    ∙ ap (λ rest. state [] need [] rest) (sym (weighing_none (cyclic 0 from)))

pub length-cyclic : (sites from : ℕ) → from ≤ sites → length (cyclic sites from) ≡ sites
length-cyclic sites from low =
    let whole : length (cyclic sites from) ≡ length (range_with_len from (sites - from)) + length
    (range_with_len 0 from) = length-append (range_with_len from (sites - from)) (range_with_len 0 from) in
    let a : length (range_with_len from (sites - from)) ≡ sites - from = length-range_with_len from (sites - from) in
    let b : length (range_with_len 0 from) ≡ from = length-range_with_len 0 from in
    omega arith
