-- A round once what came of one request is noted: the sites that it asked, and those that it wants.
use Rattle.std.proofs.Common.{[], ◌≡◌, ◌≢◌, ℕ, ◌+◌, ◌==◌, ◌||◌, nat_lt, not, Bool, true, false, cond, inl, inr, List}
use Rattle.std.proofs.Common.{◌∷◌, ◌++◌, filter, length, Option, Some, None, refl, sym, ap, ◌∙◌, subst, eqb-true}
use Rattle.std.specs.Prelude.{is_none}
use Rattle.std.specs.List.{list_any}
use Rattle.qc_list.specs.Vocabulary.{In}
use Rattle.qc_decl.specs.declared.declaration.Declaration.{Declaration}
use Rattle.qc_decl.specs.Vocabulary.{first_site}
use Rattle.qc_plan.specs.declared.standing.Asked.{Asked}
use Rattle.qc_plan.specs.declared.standing.Standing.{Standing}
use Rattle.qc_plan.specs.Vocabulary.{RoundState, all_noted, is_asked, is_waiting, note, note_in, prefix, wanted, weight}
use Rattle.qc_front.specs.Vocabulary.{IsAwaiting, IsRound, sites_of, weights_of}
use Rattle.qc_front.proofs.Apart.{AreApart, apart_first, apart_weighing}
use Rattle.qc_front.proofs.Awaited.{unnoted, settled_by, wanted_by}

-- the asked sites stay

pub note_sites : (site : ℕ) (standing : Standing) (asked : List Asked)
    → sites_of (note_in site standing asked) ≡ sites_of asked
note_sites site standing [] = refl
note_sites site standing (a ∷ rest) = by (a.site == site) refl (note_sites site standing rest)
  where
    by : (b : Bool) → (a.site == site) ≡ b → sites_of (note_in site standing rest) ≡ sites_of rest
        → sites_of (cond b (record { site = site; standing = Some standing } ∷ rest) (a ∷ note_in site standing rest))
        ≡ a.site ∷ sites_of rest
    by true is more = ap (λ (n : ℕ). n ∷ sites_of rest) (sym (eqb-true a.site site is))
    by false is more = ap (λ (ss : List ℕ). a.site ∷ ss) more

pub note_round : (decl : Declaration) (client epoch need : ℕ) (r : RoundState) (site : ℕ) (standing : Standing)
    → IsRound decl client epoch need r → IsRound decl client epoch need (note r site standing)
note_round decl client epoch need r site standing is =
    record {
      weights = is.weights;
      need_is = is.need_is;
      sites = ap (λ (ss : List ℕ). ss ++ r.rest) (note_sites site standing r.asked) ∙ is.sites;
    }

pub round_apart : (decl : Declaration) (client epoch need : ℕ) (r : RoundState) → IsRound decl client epoch need r
    → AreApart (sites_of r.asked)
round_apart decl client epoch need r is =
    apart_first (sites_of r.asked) r.rest
    (subst AreApart (sym is.sites)
    (apart_weighing (weights_of decl epoch) (length (weights_of decl epoch)) (first_site decl client)))

-- as sets the asked sites stay too

abbrev among : List ℕ → ℕ → Bool
among sites k = list_any (λ (s : ℕ). s == k) sites

asked_among_at : (asked : List Asked) (k : ℕ) → is_asked asked k ≡ among (sites_of asked) k
asked_among_at [] k = refl
asked_among_at (a ∷ rest) k = ap (λ (t : Bool). (a.site == k) || t) (asked_among_at rest k)

asked_among : (asked : List Asked) → is_asked asked ≡ among (sites_of asked)
asked_among asked i k = asked_among_at asked k i

note_asked : (site : ℕ) (standing : Standing) (asked : List Asked)
    → is_asked (note_in site standing asked) ≡ is_asked asked
note_asked site standing asked =
    asked_among (note_in site standing asked) ∙ ap among (note_sites site standing asked) ∙ sym (asked_among asked)

-- a round that waited and wants nobody wants nobody still, where it waits for another answer

wanted_open : (r : RoundState) → all_noted r.asked ≡ false
    → wanted r ≡ cond (nat_lt (weight (is_asked r.asked) r.weights) r.need) (prefix r.weights r.need r.asked r.rest) []
wanted_open r open_still =
    ap (λ (t : Bool). wanted_by (is_waiting (settled_by t r)) (nat_lt (weight (is_asked r.asked) r.weights) r.need) t r)
    open_still

light_prefix : (weights : List ℕ) (need : ℕ) (asked : List Asked) (rest : List ℕ)
    → cond (nat_lt (weight (is_asked asked) weights) need) (prefix weights need asked rest) [] ≡ []
    → (noted : List Asked) → is_asked noted ≡ is_asked asked
    → cond (nat_lt (weight (is_asked noted) weights) need) (prefix weights need noted rest) [] ≡ []
light_prefix weights need asked [] none noted same = by (nat_lt (weight (is_asked noted) weights) need) []
  where
    by : (t : Bool) (sites : List ℕ) → cond t sites sites ≡ sites
    by true sites = refl
    by false sites = refl
light_prefix weights need asked (x ∷ rest) none noted same =
    by (nat_lt (weight (is_asked asked) weights) need) none
    (ap (λ (set : ℕ → Bool). nat_lt (weight set weights) need) same)
  where
    by : (t : Bool)
        → cond t (cond t (x ∷ prefix weights need (asked ++ record { site = x; standing = None } ∷ []) rest) []) [] ≡ []
        → nat_lt (weight (is_asked noted) weights) need ≡ t
        → cond (nat_lt (weight (is_asked noted) weights) need) (prefix weights need noted (x ∷ rest)) [] ≡ []
    by true is light = let never : ⊥ = cc in absurd never
    by false is light = ap (λ (t : Bool). cond t (prefix weights need noted (x ∷ rest)) []) light

pub note_wants : (r : RoundState) (site : ℕ) (standing : Standing) → IsAwaiting r
    → all_noted (note r site standing).asked ≡ false → wanted (note r site standing) ≡ []
note_wants r site standing awaits open_still =
    wanted_open (note r site standing) open_still
    ∙ light_prefix r.weights r.need r.asked r.rest (sym (wanted_open r awaits.open_still) ∙ awaits.asked_all)
    (note_in site standing r.asked) (note_asked site standing r.asked)

-- the noted site isn't awaited any more

others : ℕ → List ℕ → List ℕ
others site sites = filter (λ (s : ℕ). not (s == site)) sites

pub none_lost : (site : ℕ) (sites : List ℕ) → ((s : ℕ) → In s sites → s ≢ site)
    → filter (λ (s : ℕ). not (s == site)) sites ≡ sites
none_lost site [] apart = refl
none_lost site (s ∷ sites) apart = by (s == site) refl (none_lost site sites (λ k k_in. apart k (inr k_in)))
  where
    by : (t : Bool) → (s == site) ≡ t → filter (λ (k : ℕ). not (k == site)) sites ≡ sites
        → cond (not t) (s ∷ filter (λ (k : ℕ). not (k == site)) sites) (filter (λ (k : ℕ). not (k == site)) sites)
        ≡ s ∷ sites
    by true is more = absurd (apart s (inl refl) (eqb-true s site is))
    by false is more = ap (λ (ss : List ℕ). s ∷ ss) more

pub unnoted_in : (asked : List Asked) (s : ℕ) → In s (unnoted asked) → In s (sites_of asked)
unnoted_in [] s s_in = s_in
unnoted_in (a ∷ rest) s s_in = by a.standing s_in (unnoted_in rest s)
  where
    by : (o : Option Standing)
        → In s
        (sites_of (cond (is_none o) (a ∷ filter (λ (x : Asked). is_none x.standing) rest)
        (filter (λ (x : Asked). is_none x.standing) rest))) → (In s (unnoted rest) → In s (sites_of rest))
        → In s (a.site ∷ sites_of rest)
    by None (inl same) more = inl same
    by None (inr later) more = inr (more later)
    by (Some standing) later more = inr (more later)

pub note_awaits : (site : ℕ) (standing : Standing) (asked : List Asked) → AreApart (sites_of asked)
    → unnoted (note_in site standing asked) ≡ filter (λ (s : ℕ). not (s == site)) (unnoted asked)
note_awaits site standing [] apart = refl
note_awaits site standing (a ∷ rest) apart =
    by (a.site == site) refl a.standing (note_awaits site standing rest apart.1)
  where
    open_rest : List Asked
    open_rest = filter (λ (x : Asked). is_none x.standing) rest

    by_standing : (o : Option Standing) (t : Bool) → t ≡ true
        → unnoted rest ≡ filter (λ (s : ℕ). not (s == site)) (unnoted rest) → (a.site == site) ≡ t
        → unnoted rest
        ≡ filter (λ (s : ℕ). not (s == site))
        (sites_of (cond (is_none o) (a ∷ filter (λ (x : Asked). is_none x.standing) rest)
        (filter (λ (x : Asked). is_none x.standing) rest)))
    by_standing (Some s) t found same is = same
    by_standing None t found same is =
        same
        ∙ ap
        (λ (b : Bool). cond (not b) (a.site ∷ filter (λ (s : ℕ). not (s == site)) (unnoted rest))
        (filter (λ (s : ℕ). not (s == site)) (unnoted rest))) (sym (is ∙ found))

    by_other : (o : Option Standing) → (a.site == site) ≡ false
        → unnoted (note_in site standing rest) ≡ filter (λ (s : ℕ). not (s == site)) (unnoted rest)
        → sites_of
        (cond (is_none o) (a ∷ filter (λ (x : Asked). is_none x.standing) (note_in site standing rest))
        (filter (λ (x : Asked). is_none x.standing) (note_in site standing rest)))
        ≡ filter (λ (s : ℕ). not (s == site))
        (sites_of (cond (is_none o) (a ∷ filter (λ (x : Asked). is_none x.standing) rest)
        (filter (λ (x : Asked). is_none x.standing) rest)))
    by_other (Some s) is more = more
    by_other None is more =
        ap (λ (ss : List ℕ). a.site ∷ ss) more
        ∙ ap
        (λ (b : Bool). cond (not b) (a.site ∷ filter (λ (s : ℕ). not (s == site)) (unnoted rest))
        (filter (λ (s : ℕ). not (s == site)) (unnoted rest))) (sym is)

    by : (t : Bool) → (a.site == site) ≡ t → (o : Option Standing)
        → unnoted (note_in site standing rest) ≡ filter (λ (s : ℕ). not (s == site)) (unnoted rest)
        → unnoted (cond t (record { site = site; standing = Some standing } ∷ rest) (a ∷ note_in site standing rest))
        ≡ filter (λ (s : ℕ). not (s == site))
        (sites_of (cond (is_none a.standing) (a ∷ filter (λ (x : Asked). is_none x.standing) rest)
        (filter (λ (x : Asked). is_none x.standing) rest)))
    by true is o more =
        by_standing a.standing true refl
        (sym (none_lost site (unnoted rest)
        (λ s s_in same. apart.0 s (unnoted_in rest s s_in) (eqb-true a.site site is ∙ sym same)))) is
    by false is o more = by_other a.standing is more
