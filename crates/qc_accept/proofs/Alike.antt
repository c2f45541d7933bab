-- Counting triples by their two states finds whether too many are alike.
use Rattle.std.proofs.Common.{◌≡◌, ◌≢◌, ℕ, zero, suc, ◌+◌, ◌*◌, ◌<◌, ◌≤◌, suc-le-suc, zero-lt-suc, Bool, true, false}
use Rattle.std.proofs.Common.{cond, List, [], ◌∷◌, length, take, get_or, set, replicate, All, Option, Some, None, refl}
use Rattle.std.proofs.Common.{sym, ap, subst, ◌∙◌, leb, arith}
use Rattle.std.specs.Prelude.{◌==◌, ◌&&◌, count_by, option_and_then, IfSome}
use Rattle.std.proofs.lemmas.Bool.{eqb-true, eqb-false, eq-eqb, le-leb, lt-leb}
use Rattle.std.proofs.lemmas.List.{length-set, get_or-set_same, get_or-set_other, take_all}
use Rattle.std.proofs.lemmas.List.Folds.{list_all_at}
use Rattle.std.proofs.lemmas.List.Sums.{sum_by-cons, sum_by-take-le, count_by_more_yes, count_by_more_no}
use Rattle.std.proofs.lemmas.List.Sums.{list_all-from_AllPass}
use Rattle.toml.specs.Data.{Data}
use Rattle.qc_cert.specs.declared.triple.Triple.{Triple}
use Rattle.qc_table.specs.declared.row.Event.{Event}
use Rattle.qc_decl.specs.Vocabulary.{most_alike_triples, most_triples}
use Rattle.qc_accept.specs.Vocabulary.{WordsOf, are_few_alike, is_alike, read_each, triple_in, triples_in, with_read}

-- the place of a triple's two states
abbrev pub place : Triple → ℕ
place t = 64 * t.view + t.log

-- how many triples have the states of this place
abbrev pub count_at : ℕ → List Triple → ℕ
count_at p triples = count_by (λ t. place t == p) triples

-- both states are within the limit
abbrev pub AreLow : Triple → Type 0
AreLow t = (t.view < 64) × (t.log < 64)

-- each place has its count, which isn't too many
pub record AreCounted (counts : List ℕ) (triples : List Triple) : Type 0 where
  pub size : length counts ≡ 4096
  pub at : (p : ℕ) → p < 4096 → get_or counts p 0 ≡ count_at p triples
  pub few : (p : ℕ) → p < 4096 → get_or counts p 0 ≤ most_alike_triples

-- triples are alike where their places are the same
alike_is : (t u : Triple) → t.log < 64 → u.log < 64 → is_alike t u ≡ (place u == place t)
alike_is t u low low_too = by (t.view == u.view) (t.log == u.log) (place u == place t) refl refl refl
  where
    by : (a b c : Bool) → (t.view == u.view) ≡ a → (t.log == u.log) ≡ b → (place u == place t) ≡ c → (a && b) ≡ c
    by true true true views logs places = refl
    by true true false views logs places =
        let v : t.view ≡ u.view = eqb-true t.view u.view views in let l : t.log ≡ u.log = eqb-true t.log u.log logs in
        absurd (eqb-false (place u) (place t) places (omega arith))
    by true false true views logs places =
        let p : place u ≡ place t = eqb-true (place u) (place t) places in
        absurd (eqb-false t.log u.log logs (omega (arith, low, low_too)))
    by true false false views logs places = refl
    by false b true views logs places =
        let p : place u ≡ place t = eqb-true (place u) (place t) places in
        absurd (eqb-false t.view u.view views (omega (arith, low, low_too)))
    by false b false views logs places = refl

-- so their count is that of the place
count_alike : (t : Triple) (triples : List Triple) → t.log < 64 → All AreLow triples
    → count_by (is_alike t) triples ≡ count_at (place t) triples
count_alike t [] low all = refl
count_alike t (u ∷ us) low all =
    sum_by-cons (λ x. cond (is_alike t x) 1 0) u us
    ∙ ap (λ b. cond b 1 0 + count_by (is_alike t) us) (alike_is t u low (all 0 u (zero-lt-suc (length us))).1)
    ∙ ap (λ n. cond (place u == place t) 1 0 + n)
    (count_alike t us low (λ k d within. all (suc k) d (suc-le-suc within)))
    ∙ sym (sum_by-cons (λ x. cond (place x == place t) 1 0) u us)

-- nothing is counted at first
pub counted_nothing : AreCounted (replicate 4096 0) []
counted_nothing = record { size = refl; at = λ p l. zeros 4096 p; few = λ p l. rw (zeros 4096 p) (omega arith) }
  where
    zeros : (n p : ℕ) → let none : ℕ = 0 in get_or (replicate n none) p none ≡ none
    zeros zero p = refl
    zeros (suc n) zero = refl
    zeros (suc n) (suc p) = zeros n p

-- one triple more, where its place has room
pub counted_more : (counts : List ℕ) (triples : List Triple) (n : ℕ) (d : Triple) → n < length triples
    → All AreLow triples → AreCounted counts (take n triples)
    → get_or counts (place (get_or triples n d)) 0 ≢ most_alike_triples
    → AreCounted (set counts (place (get_or triples n d)) (get_or counts (place (get_or triples n d)) 0 + 1))
    (take (n + 1) triples)
counted_more counts triples n d l all before room =
    record { size = length-set counts p _ ∙ before.size; at = at; few = few }
  where
    t : Triple
    t = get_or triples n d

    p : ℕ
    p = place t

    at_by : (q : ℕ) (b : Bool) → q < 4096 → (p == q) ≡ b
        → get_or (set counts p (get_or counts p 0 + 1)) q 0 ≡ count_at q (take (n + 1) triples)
    at_by q true within is =
        let same : p ≡ q = eqb-true p q is in
        let size : length counts ≡ 4096 = before.size in
        let inside : q < length counts = omega (arith, within, size) in
        ap (λ k. get_or (set counts k (get_or counts k 0 + 1)) q 0) same
        ∙ get_or-set_same counts q (get_or counts q 0 + 1) 0 inside
        ∙ ap (λ k. k + 1) (before.at q within)
        ∙ sym (count_by_more_yes (λ t. place t == q) triples n d l is)
    at_by q false within is =
        get_or-set_other counts p q (get_or counts p 0 + 1) 0 (λ e. eqb-false p q is (sym e))
        ∙ before.at q within ∙ sym (count_by_more_no (λ t. place t == q) triples n d l is)

    at : (q : ℕ) → q < 4096 → get_or (set counts p (get_or counts p 0 + 1)) q 0 ≡ count_at q (take (n + 1) triples)
    at q within = at_by q (p == q) within refl

    few_by : (q : ℕ) (b : Bool) → q < 4096 → (p == q) ≡ b
        → get_or (set counts p (get_or counts p 0 + 1)) q 0 ≤ most_alike_triples
    few_by q true within is =
        let same : p ≡ q = eqb-true p q is in
        let size : length counts ≡ 4096 = before.size in
        let inside : p < length counts = omega (arith, same, within, size) in
        let old : get_or counts p 0 ≤ most_alike_triples = before.few p (omega (arith, same, within)) in
        let new : get_or (set counts p (get_or counts p 0 + 1)) p 0 ≡ get_or counts p 0 + 1 =
        get_or-set_same counts p (get_or counts p 0 + 1) 0 inside in
        subst (λ k. get_or (set counts p (get_or counts p 0 + 1)) k 0 ≤ most_alike_triples) same
        (omega (arith, new, old, room))
    few_by q false within is =
        let other : get_or (set counts p (get_or counts p 0 + 1)) q 0 ≡ get_or counts q 0 =
        get_or-set_other counts p q (get_or counts p 0 + 1) 0 (λ e. eqb-false p q is (sym e)) in
        omega (arith, other, before.few q within)

    few : (q : ℕ) → q < 4096 → get_or (set counts p (get_or counts p 0 + 1)) q 0 ≤ most_alike_triples
    few q within = few_by q (p == q) within refl

-- all are counted: none are too many
pub few_alike : (counts : List ℕ) (triples : List Triple) (n : ℕ) → length triples ≤ n → All AreLow triples
    → AreCounted counts (take n triples)
    → true ≡ are_few_alike triples
few_alike counts triples n end all counted =
    sym (list_all-from_AllPass (λ t. leb (count_by (is_alike t) triples) most_alike_triples) triples
    (λ k d within. le-leb (count_by (is_alike (get_or triples k d)) triples) most_alike_triples
    (at (get_or triples k d) (all k d within))))
  where
    at : (t : Triple) → AreLow t → count_by (is_alike t) triples ≤ most_alike_triples
    at t low =
        let view : t.view < 64 = low.0 in let log : t.log < 64 = low.1 in
        let within : place t < 4096 = omega arith in
        let counts_it : get_or counts (place t) 0 ≡ count_at (place t) triples = counted.at (place t) within
        ∙ ap (count_at (place t)) (take_all n triples end) in
        omega (arith, counted.few (place t) within, counts_it, count_alike t triples log all)

-- a place was full: this triple is one too many
pub many_alike : (counts : List ℕ) (triples : List Triple) (n : ℕ) (d : Triple) → n < length triples
    → All AreLow triples → AreCounted counts (take n triples)
    → get_or counts (place (get_or triples n d)) 0 ≡ most_alike_triples → false ≡ are_few_alike triples
many_alike counts triples n d l all counted full =
    sym (list_all_at (λ t. leb (count_by (is_alike t) triples) most_alike_triples) triples n d l
    (lt-leb (count_by (is_alike t) triples) most_alike_triples many))
  where
    t : Triple
    t = get_or triples n d

    within : place t < 4096
    within = let low : AreLow t = all n d l in let view : t.view < 64 = low.0 in let log : t.log < 64 = low.1 in
        omega arith

    more : count_at (place t) (take (n + 1) triples) ≡ count_at (place t) (take n triples) + 1
    more = count_by_more_yes (λ u. place u == place t) triples n d l (eq-eqb (place t) (place t) refl)

    many : most_alike_triples < count_by (is_alike t) triples
    many = omega (
      arith,
      full,
      counted.at (place t) within,
      more,
      sum_by-take-le (λ u. cond (place u == place t) 1 0) triples (n + 1),
      count_alike t triples (all n d l).1 all,
    )

-- states of these numbers are within the limit
pub low_at : (o : Option Triple) (t : Triple) (n : ℕ) → o ≡ Some t → IfSome o (λ u. (u.view < n) × (u.log < n)) → n ≤ 64
    → AreLow t
low_at o t n is within few =
    let both : IfSome (Some t) (λ u. (u.view < n) × (u.log < n)) =
    subst (λ p. IfSome p (λ u. (u.view < n) × (u.log < n))) is within in
    (omega (arith, both.0, few), omega (arith, both.1, few))

-- no list where a text says nothing
pub no_triples : (w : WordsOf) (events : List Event) (ds : List Data)
    → read_each (with_read (triple_in w events)) [] ds ≡ None → triples_in w events ds ≡ None
no_triples w events ds none = by (leb (length ds) most_triples)
  where
    by : (b : Bool) → cond b (option_and_then (λ ts. cond (are_few_alike ts) (Some ts) None)
        (read_each (with_read (triple_in w events)) [] ds)) None ≡ None
    by true = ap (option_and_then (λ (ts : List Triple). cond (are_few_alike ts) (Some ts) None)) none
    by false = refl
