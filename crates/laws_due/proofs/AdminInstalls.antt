-- The Installs of an account: which sites have installed, in whatever order they answer.
use Rattle.std.proofs.Common.{◌≡◌, ◌≢◌, ℕ, ◌+◌, ◌^◌, Bool, true, false, cond, List, [], ◌∷◌, ◌++◌, map, filter, Option}
use Rattle.std.proofs.Common.{Some, None, refl, sym, ap, ◌∙◌, subst, arith, inl, inr}
use Rattle.std.specs.Option.{option_map_or}
use Rattle.std.proofs.lemmas.List.Sums.{sum_by-append}
use Rattle.qc_msg.specs.declared.message.Answer.{Answer}
use Rattle.qc_msg.specs.Vocabulary.{has_installed}
use Rattle.qc_promise.specs.Vocabulary.{AdminRequest, answer_to, site_set}
use Rattle.qc_epoch.specs.Vocabulary.{with_installed}
use Rattle.laws_due.specs.Vocabulary.{AreApart}
use Rattle.laws_due.proofs.AdminRequests.{IsCalled, numbers_of, others_taken, other_taken, takes, this_taken, took}
use Rattle.qc_list.proofs.Numbers.{zero_first}
use Rattle.qc_list.proofs.Members.{In-map}

abbrev pub has : AdminRequest → Bool
has q = option_map_or has_installed (answer_to q) false

-- the sites that told that they are in the epoch, in asked order
abbrev pub installed_of : List AdminRequest → List ℕ
installed_of is = map (λ (q : AdminRequest). q.to) (filter has is)

-- what an answer tells

abbrev told : Option Answer → Bool
told answer = option_map_or has_installed answer false

abbrev weight_if : Bool → ℕ → ℕ
weight_if b site = cond b (2 ^ site) 0

set_more : (sites : List ℕ) (site : ℕ) → site_set (sites ++ site ∷ []) ≡ site_set sites + 2 ^ site
set_more sites site = sum_by-append (λ (s : ℕ). 2 ^ s) sites (site ∷ []) ∙ one (2 ^ site)
  where
    one : (w : ℕ) → site_set sites + (0 + w) ≡ site_set sites + w
    one w = omega arith

with_none : (sites : List ℕ) → site_set sites ≡ site_set sites + 0
with_none sites = omega arith

pub with_installed_set : (sites : List ℕ) (site : ℕ) (answer : Option Answer)
    → site_set (with_installed sites site answer) ≡ site_set sites + weight_if (told answer) site
with_installed_set sites site answer = by (told answer)
  where
    by : (b : Bool) → site_set (cond b (sites ++ site ∷ []) sites) ≡ site_set sites + weight_if b site
    by true = set_more sites site
    by false = with_none sites

-- one more Install tells nothing

pub installed_more : (is : List AdminRequest) (q : AdminRequest) → q.taken ≡ None
    → installed_of (is ++ q ∷ []) ≡ installed_of is
installed_more [] q open_still = rw open_still refl
installed_more (x ∷ is) q open_still = by (has x) (installed_more is q open_still)
  where
    by : (b : Bool) → installed_of (is ++ q ∷ []) ≡ installed_of is
        → map (λ (y : AdminRequest). y.to) (cond b (x ∷ filter has (is ++ q ∷ [])) (filter has (is ++ q ∷ []))) ≡ map
        (λ (y : AdminRequest). y.to) (cond b (x ∷ filter has is) (filter has is))
    by true e = ap (λ (v : List ℕ). x.to ∷ v) e
    by false e = e

-- what is taken for one

has_took : (q : AdminRequest) (answer : Option Answer) → has (took q answer) ≡ told answer
has_took q None = refl
has_took q (Some x) = refl

set_first : (q : AdminRequest) (is : List AdminRequest)
    → site_set (installed_of (q ∷ is)) ≡ weight_if (has q) q.to + site_set (installed_of is)
set_first q is = by (has q)
  where
    by : (b : Bool) → site_set (map (λ (y : AdminRequest). y.to) (cond b (q ∷ filter has is) (filter has is)))
        ≡ weight_if b q.to + site_set (installed_of is)
    by true = sum_by-append (λ (s : ℕ). 2 ^ s) (q.to ∷ []) (installed_of is)
        ∙ ap (λ (k : ℕ). k + site_set (installed_of is)) (zero_first (2 ^ q.to))
    by false = sym (zero_first (site_set (installed_of is)))

swap : (a b : ℕ) → a + b ≡ b + a
swap a b = omega arith

assoc : (a b c : ℕ) → a + (b + c) ≡ (a + b) + c
assoc a b c = omega arith

pub installed_taken : (number site : ℕ) (answer : Option Answer) (is : List AdminRequest) → AreApart (numbers_of is)
    → IsCalled number site is
    → site_set (installed_of (takes number answer is)) ≡ site_set (installed_of is) + weight_if (told answer) site
installed_taken number site answer [] numbers c = absurd c.among
installed_taken number site answer (q ∷ is) numbers c = elim c.among [
  | inl same ↦ here same
  | inr among ↦ (let found : IsCalled number site is =
      record { request = c.request; among = among; number_is = c.number_is; to_is = c.to_is; open_still = c.open_still }
      in
      there found (installed_taken number site answer is numbers.1 found))
]
  where
    here : c.request ≡ q → site_set (installed_of (takes number answer (q ∷ is))) ≡ site_set
        (installed_of (q ∷ is)) + weight_if (told answer) site
    here same =
        let number_is : q.number ≡ number = sym (ap (λ (v : AdminRequest). v.number) same) ∙ c.number_is in
        let to_is : q.to ≡ site = sym (ap (λ (v : AdminRequest). v.to) same) ∙ c.to_is in
        let open_still : q.taken ≡ None = sym (ap (λ (v : AdminRequest). v.taken) same) ∙ c.open_still in
        let none : has q ≡ false = rw open_still refl in
        (λ i. site_set (installed_of (this_taken number answer q number_is open_still i ∷ others_taken number answer is
        (λ y among. subst (λ (k : ℕ). k ≢ y) number_is (numbers.0 y among)) i)))
        ∙ set_first (took q answer) is
        ∙ (λ i. weight_if (has_took q answer i) (to_is i) + site_set (installed_of is))
        ∙ swap (weight_if (told answer) site) (site_set (installed_of is))
        ∙ ap (λ (k : ℕ). k + weight_if (told answer) site)
        (sym (set_first q is ∙ ap (λ (b : Bool). weight_if b q.to + site_set (installed_of is)) none
        ∙ zero_first (site_set (installed_of is))))

    there : IsCalled number site is → site_set (installed_of (takes number answer is)) ≡ site_set
        (installed_of is) + weight_if (told answer) site
        → site_set (installed_of (takes number answer (q ∷ is))) ≡ site_set (installed_of (q ∷ is)) + weight_if
        (told answer) site
    there f more =
        let other_number : q.number ≢ number = λ same. numbers.0 f.request.number
        (In-map (λ (v : AdminRequest). v.number) f.request is f.among) (same ∙ sym f.number_is) in
        ap (λ (v : AdminRequest). site_set (installed_of (v ∷ takes number answer is)))
        (other_taken number answer q other_number)
        ∙ set_first q (takes number answer is)
        ∙ ap (λ (k : ℕ). weight_if (has q) q.to + k) more
        ∙ assoc (weight_if (has q) q.to) (site_set (installed_of is)) (weight_if (told answer) site)
        ∙ ap (λ (k : ℕ). k + weight_if (told answer) site) (sym (set_first q is))
