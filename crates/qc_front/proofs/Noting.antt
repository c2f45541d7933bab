-- What a round waits for, and which requests are open, once what came of one of them is noted.
use Rattle.std.proofs.Common.{[], ◌≡◌, ◌≢◌, ℕ, ◌+◌, ◌<◌, ◌==◌, ◌&&◌, not, Bool, true, false, cond, inl, inr, List, ◌∷◌}
use Rattle.std.proofs.Common.{◌++◌, map, filter, Option, Some, None, option_map, is_some, refl, sym, ap, ◌∙◌, subst}
use Rattle.std.proofs.Common.{eq-eqb, eqb-true, arith}
use Rattle.std.specs.Prelude.{is_none}
use Rattle.std.specs.List.{find}
use Rattle.std.specs.Ordering.{nat_cmp}
use Rattle.std.proofs.lemmas.List.Elements.{filter-append}
use Rattle.qc_list.specs.Vocabulary.{Ascends, In, IsBelowAll}
use Rattle.qc_list.proofs.Order.{ascends-filter}
use Rattle.qc_msg.specs.declared.call.Call.{Call}
use Rattle.qc_msg.specs.Vocabulary.{site_called, without_call}
use Rattle.qc_plan.specs.declared.standing.Asked.{Asked}
use Rattle.qc_plan.specs.declared.standing.Standing.{Standing}
use Rattle.qc_plan.specs.Vocabulary.{RoundState, all_noted, note}
use Rattle.qc_front.specs.Vocabulary.{AreOpen, IsPrefix, awaited, sites_called, sites_of}
use Rattle.qc_front.proofs.Apart.{AreApart, apart_first}
use Rattle.qc_front.proofs.Awaited.{unnoted}
use Rattle.qc_front.proofs.NotedRounds.{none_lost, unnoted_in, note_awaits}
use Rattle.qc_list.proofs.Numbers.{below_from_cmp}

-- the open requests to other sites are the other open requests

abbrev numbers_of : List Call → List ℕ
numbers_of calls = map (λ (c : Call). c.number) calls

pub call_in : (calls : List Call) (number site : ℕ) → site_called calls number ≡ Some site
    → In site (sites_called calls)
call_in [] number site called = let never : ⊥ = cc in absurd never
call_in (c ∷ calls) number site called = by (c.number == number) called (call_in calls number site)
  where
    by : (t : Bool)
        → option_map (λ (x : Call). x.site) (cond t (Some c) (find (λ (x : Call). x.number == number) calls))
        ≡ Some site → (site_called calls number ≡ Some site → In site (sites_called calls))
        → In site (c.site ∷ sites_called calls)
    by true is more = inl (let same : c.site ≡ site = cc in sym same)
    by false is more = inr (more is)

calls_kept : (number : ℕ) (calls : List Call) → ((n : ℕ) → In n (numbers_of calls) → n ≢ number)
    → without_call calls number ≡ calls
calls_kept number [] apart = refl
calls_kept number (c ∷ calls) apart =
    by (c.number == number) refl (calls_kept number calls (λ n n_in. apart n (inr n_in)))
  where
    by : (t : Bool) → (c.number == number) ≡ t → without_call calls number ≡ calls
        → cond (not t) (c ∷ without_call calls number) (without_call calls number) ≡ c ∷ calls
    by true is more = absurd (apart c.number (inl refl) (eqb-true c.number number is))
    by false is more = ap (λ (cs : List Call). c ∷ cs) more

pub without_sites : (calls : List Call) (number site : ℕ) → site_called calls number ≡ Some site
    → AreApart (numbers_of calls) → AreApart (sites_called calls)
    → sites_called (without_call calls number) ≡ filter (λ (s : ℕ). not (s == site)) (sites_called calls)
without_sites [] number site called numbers sites = refl
without_sites (c ∷ calls) number site called numbers sites =
    by (c.number == number) refl called (λ later. without_sites calls number site later numbers.1 sites.1)
  where
    by : (t : Bool) → (c.number == number) ≡ t
        → option_map (λ (x : Call). x.site) (cond t (Some c) (find (λ (x : Call). x.number == number) calls))
        ≡ Some site
        → (site_called calls number ≡ Some site
        → sites_called (without_call calls number) ≡ filter (λ (s : ℕ). not (s == site)) (sites_called calls))
        → sites_called (cond (not t) (c ∷ without_call calls number) (without_call calls number))
        ≡ filter (λ (s : ℕ). not (s == site)) (c.site ∷ sites_called calls)
    by true is here more =
        let same : c.site ≡ site = cc in
        ap sites_called (calls_kept number calls (λ n n_in eq. numbers.0 n n_in (eqb-true c.number number is ∙ sym eq)))
        ∙ sym (none_lost site (sites_called calls) (λ s s_in eq. sites.0 s s_in (same ∙ sym eq)))
        ∙ ap
        (λ (t : Bool). cond (not t) (c.site ∷ filter (λ (s : ℕ). not (s == site)) (sites_called calls))
        (filter (λ (s : ℕ). not (s == site)) (sites_called calls))) (sym (eq-eqb c.site site same))
    by false is later more = by_site (c.site == site) refl
      where
        by_site : (t : Bool) → (c.site == site) ≡ t
            → c.site ∷ sites_called (without_call calls number)
            ≡ cond (not t) (c.site ∷ filter (λ (s : ℕ). not (s == site)) (sites_called calls))
            (filter (λ (s : ℕ). not (s == site)) (sites_called calls))
        by_site true eq = absurd (sites.0 site (call_in calls number site later) (eqb-true c.site site eq))
        by_site false eq = ap (λ (ss : List ℕ). c.site ∷ ss) (more later)

-- ascending numbers are different

pub below_all : (x : ℕ) (ys : List ℕ) → IsBelowAll nat_cmp x ys → (y : ℕ) → In y ys → x < y
below_all x [] below y y_in = absurd y_in
below_all x (z ∷ zs) below y (inl same) = subst (λ (k : ℕ). x < k) (sym same) (below_from_cmp x z below.0)
below_all x (z ∷ zs) below y (inr later) = below_all x zs below.1 y later

pub ascends_apart : (xs : List ℕ) → Ascends nat_cmp xs → AreApart xs
ascends_apart [] ascends = tt
ascends_apart (x ∷ xs) ascends =
    (λ y y_in same. (let low : x < y = below_all x xs ascends.0 y y_in in omega arith), ascends_apart xs ascends.1)

numbers-filter : (number : ℕ) (calls : List Call)
    → numbers_of (without_call calls number) ≡ filter (λ (n : ℕ). not (n == number)) (numbers_of calls)
numbers-filter number [] = refl
numbers-filter number (c ∷ calls) = by (c.number == number) (numbers-filter number calls)
  where
    by : (t : Bool) → numbers_of (without_call calls number) ≡ filter (λ (n : ℕ). not (n == number)) (numbers_of calls)
        → numbers_of (cond (not t) (c ∷ without_call calls number) (without_call calls number))
        ≡ cond (not t) (c.number ∷ filter (λ (n : ℕ). not (n == number)) (numbers_of calls))
        (filter (λ (n : ℕ). not (n == number)) (numbers_of calls))
    by true more = more
    by false more = ap (λ (ns : List ℕ). c.number ∷ ns) more

-- the open requests are as they should be once one of them is noted

pub prefix_apart : (xs ys : List ℕ) → IsPrefix xs ys → AreApart ys → AreApart xs
prefix_apart xs ys p apart = apart_first xs p.more (subst AreApart (sym p.is) apart)

pub unnoted_apart : (asked : List Asked) → AreApart (sites_of asked) → AreApart (unnoted asked)
unnoted_apart [] apart = tt
unnoted_apart (a ∷ rest) apart = by a.standing (unnoted_apart rest apart.1)
  where
    by : (o : Option Standing) → AreApart (unnoted rest)
        → AreApart
        (sites_of (cond (is_none o) (a ∷ filter (λ (x : Asked). is_none x.standing) rest)
        (filter (λ (x : Asked). is_none x.standing) rest)))
    by None more = (λ y y_in. apart.0 y (unnoted_in rest y y_in), more)
    by (Some standing) more = more

pub note_open : (calls : List Call) (r : RoundState) (number site : ℕ) (standing : Standing) → AreOpen calls r
    → site_called calls number ≡ Some site → AreApart (sites_of r.asked)
    → AreOpen (without_call calls number) (note r site standing)
note_open calls r number site standing o called apart = record {
  numbers =
      subst (λ (ns : List ℕ). Ascends nat_cmp ns) (sym (numbers-filter number calls))
      (ascends-filter nat_cmp (λ (n : ℕ). not (n == number)) (numbers_of calls) o.numbers);
  sites = record {
    more = filter (λ (s : ℕ). not (s == site)) o.sites.more;
    is = ap (λ (ss : List ℕ). ss ++ filter (λ (s : ℕ). not (s == site)) o.sites.more)
        (without_sites calls number site called (ascends_apart (numbers_of calls) o.numbers)
        (prefix_apart (sites_called calls) (unnoted r.asked) o.sites (unnoted_apart r.asked apart)))
        ∙ sym (filter-append (λ (s : ℕ). not (s == site)) (sites_called calls) o.sites.more)
        ∙ ap (λ (ss : List ℕ). filter (λ (s : ℕ). not (s == site)) ss) o.sites.is
        ∙ sym (note_awaits site standing r.asked apart);
  };
}

-- where each awaited site has an open request, so it is then

pub note_numbered : (calls : List Call) (r : RoundState) (number site : ℕ) (standing : Standing) → AreOpen calls r
    → site_called calls number ≡ Some site → AreApart (sites_of r.asked)
    → sites_called calls ≡ awaited r → sites_called (without_call calls number) ≡ awaited (note r site standing)
note_numbered calls r number site standing o called apart full =
    without_sites calls number site called (ascends_apart (numbers_of calls) o.numbers)
    (prefix_apart (sites_called calls) (unnoted r.asked) o.sites (unnoted_apart r.asked apart))
    ∙ ap (λ (ss : List ℕ). filter (λ (s : ℕ). not (s == site)) ss) full
    ∙ sym (note_awaits site standing r.asked apart)

-- a round that has noted all awaits nobody, and one that awaits somebody hasn't

pub noted_awaits : (asked : List Asked) → all_noted asked ≡ true → unnoted asked ≡ []
noted_awaits [] noted = refl
noted_awaits (a ∷ rest) noted = by a.standing noted (noted_awaits rest)
  where
    by : (o : Option Standing) → (is_some o && all_noted rest) ≡ true → (all_noted rest ≡ true → unnoted rest ≡ [])
        → sites_of
        (cond (is_none o) (a ∷ filter (λ (x : Asked). is_none x.standing) rest)
        (filter (λ (x : Asked). is_none x.standing) rest)) ≡ []
    by None is more = let never : ⊥ = cc in absurd never
    by (Some standing) is more = more is

pub awaits_some : (asked : List Asked) → all_noted asked ≡ false → unnoted asked ≡ [] → ⊥
awaits_some [] open_still none = let never : ⊥ = cc in never
awaits_some (a ∷ rest) open_still none = by a.standing open_still none (awaits_some rest)
  where
    by : (o : Option Standing) → (is_some o && all_noted rest) ≡ false
        → sites_of
        (cond (is_none o) (a ∷ filter (λ (x : Asked). is_none x.standing) rest)
        (filter (λ (x : Asked). is_none x.standing) rest)) ≡ [] → (all_noted rest ≡ false → unnoted rest ≡ [] → ⊥)
        → ⊥
    by None is empty more = let never : ⊥ = cc in never
    by (Some standing) is empty more = more is empty

pub no_calls : (calls : List Call) → sites_called calls ≡ [] → calls ≡ []
no_calls [] none = refl
no_calls (c ∷ calls) none = let never : ⊥ = cc in absurd never
