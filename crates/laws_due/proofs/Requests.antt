-- The requests of an account: the first thing that is taken for one, in the client's calls and round as in the account.
use Rattle.std.proofs.Common.{[], ◌≡◌, ◌≢◌, ℕ, ◌+◌, ◌==◌, ◌&&◌, Bool, true, false, cond, List, ◌∷◌, ◌++◌, map, filter}
use Rattle.std.proofs.Common.{Option, Some, None, refl, sym, ap, ◌∙◌, subst, eq-eqb, eqb-true, inl, inr}
use Rattle.std.specs.Prelude.{is_none}
use Rattle.std.specs.List.{find, AllByRecursion as Every}
use Rattle.std.proofs.lemmas.List.{map-append}
use Rattle.std.proofs.lemmas.List.Elements.{filter-append}
use Rattle.qc_list.specs.Vocabulary.{In}
use Rattle.qc_msg.specs.declared.call.Call.{Call}
use Rattle.qc_msg.specs.declared.message.Answer.{Answer}
use Rattle.qc_msg.specs.declared.message.Want.{Want}
use Rattle.qc_msg.specs.Vocabulary.{calls_from, life_of}
use Rattle.qc_promise.specs.Vocabulary.{ClientRequest, Current, is_open, taken_for}
use Rattle.laws_due.specs.Vocabulary.{AreApart, IsOpenIn, call_of, calls_in}
use Rattle.laws_due.proofs.OpenRequests.{sites_in, numbers_open, took, of_half, IsFound, found}
use Rattle.qc_list.proofs.Booleans.{and_parts, and_false}

-- where each open request is of a half, that half has all of them

pub find_half : (half : Want → Bool) (number : ℕ) (qs : List ClientRequest) → Every (IsOpenIn half) qs
    → find (is_open number) (filter (λ (q : ClientRequest). half q.want) qs) ≡ find (is_open number) qs
find_half half number [] all = refl
find_half half number (q ∷ qs) all = by (half q.want) refl (is_none q.taken) refl (find_half half number qs all.1)
  where
    by : (h : Bool) → half q.want ≡ h → (n : Bool) → is_none q.taken ≡ n
        → find (is_open number) (of_half half qs) ≡ find (is_open number) qs
        → find (is_open number) (cond (half q.want) (q ∷ of_half half qs) (of_half half qs))
        ≡ cond ((q.number == number) && is_none q.taken) (Some q) (find (is_open number) qs)
    by true is n is_n e =
        rw is (ap (λ (o : Option ClientRequest). cond ((q.number == number) && is_none q.taken) (Some q) o) e)
    by false is true is_n e = absurd (let no : half q.want ≡ true = all.0 is_n in let never : ⊥ = cc in never)
    by false is false is_n e =
        rw is
        (e
        ∙ sym
        (ap (λ (b : Bool). cond ((q.number == number) && b) (Some q) (find (is_open number) qs)) is_n
        ∙ ap (λ (b : Bool). cond b (Some q) (find (is_open number) qs)) (and_false (q.number == number))))

pub calls_half : (half : Want → Bool) (qs : List ClientRequest) → Every (IsOpenIn half) qs
    → calls_in (filter (λ (q : ClientRequest). half q.want) qs) ≡ calls_in qs
calls_half half [] all = refl
calls_half half (q ∷ qs) all = by (half q.want) refl (is_none q.taken) refl (calls_half half qs all.1)
  where
    by : (h : Bool) → half q.want ≡ h → (n : Bool) → is_none q.taken ≡ n → calls_in (of_half half qs) ≡ calls_in qs
        → calls_in (cond (half q.want) (q ∷ of_half half qs) (of_half half qs)) ≡ calls_in (q ∷ qs)
    by true is true is_n e = rw is (rw is_n (ap (λ (cs : List Call). call_of q ∷ cs) e))
    by true is false is_n e = rw is (rw is_n e)
    by false is true is_n e = absurd (let no : half q.want ≡ true = all.0 is_n in let never : ⊥ = cc in never)
    by false is false is_n e = rw is (rw is_n e)

-- what came of a request is noted at its site, the first with its key

abbrev pub first_set : {A : Type 0} → (A → ℕ) → ℕ → A → List A → List A
first_set key site new [] = []
first_set key site new (a ∷ rest) = cond (key a == site) (new ∷ rest) (a ∷ first_set key site new rest)

none_taken : (number : ℕ) (answer : Option Answer) (qs : List ClientRequest)
    → ((y : ℕ) → In y (numbers_open qs) → number ≢ y) → taken_for number answer qs ≡ qs
none_taken number answer [] others = refl
none_taken number answer (q ∷ qs) others =
    by (q.number == number) refl (is_none q.taken) refl (none_taken number answer qs)
  where
    rest : (n : Bool) → is_none q.taken ≡ n → (y : ℕ) → In y (numbers_open qs) → number ≢ y
    rest true is y y_in = others y (rw is (inr y_in))
    rest false is y y_in = others y (rw is y_in)

    by : (u : Bool) → (q.number == number) ≡ u → (n : Bool) → is_none q.taken ≡ n
        → (((y : ℕ) → In y (numbers_open qs) → number ≢ y) → taken_for number answer qs ≡ qs)
        → taken_for number answer (q ∷ qs) ≡ q ∷ qs
    by true same true is more = absurd (others q.number (rw is (inl refl)) (sym (eqb-true q.number number same)))
    by true same false is more = rw (same, is) (ap (λ (v : List ClientRequest). q ∷ v) (more (rest false is)))
    by false same n is more = rw same (ap (λ (v : List ClientRequest). q ∷ v) (more (rest n is)))

open_rest : (q : ClientRequest) (qs : List ClientRequest) → AreApart (numbers_open (q ∷ qs))
    → AreApart (numbers_open qs)
open_rest q qs apart = by (is_none q.taken) apart
  where
    by : (n : Bool)
        → AreApart
        (map (λ (c : Call). c.number)
        (map call_of
        (cond n (q ∷ filter (λ (x : ClientRequest). is_none x.taken) qs)
        (filter (λ (x : ClientRequest). is_none x.taken) qs)))) → AreApart (numbers_open qs)
    by true a = a.1
    by false a = a

site_in : (q : ClientRequest) (qs : List ClientRequest) → In q qs → In q.site (sites_in qs)
site_in q [] among = absurd among
site_in q (p ∷ qs) (inl same) = inl (ap (λ (x : ClientRequest). x.site) same)
site_in q (p ∷ qs) (inr later) = inr (site_in q qs later)

pub set_taken : {A : Type 0} (key : A → ℕ) (make : ClientRequest → A) → ((q : ClientRequest) → key (make q) ≡ q.site)
    → (number : ℕ) (answer : Option Answer) (q : ClientRequest) (qs : List ClientRequest)
    → AreApart (sites_in qs) → AreApart (numbers_open qs) → find (is_open number) qs ≡ Some q
    → first_set key q.site (make (record q { taken = Some answer })) (map make qs)
    ≡ map make (taken_for number answer qs)
set_taken key make keys number answer q [] sites numbers e = absurd (let never : ⊥ = cc in never)
set_taken {A} key make keys number answer q (p ∷ qs) sites numbers e =
    by (is_open number p) refl e (set_taken key make keys number answer q qs)
  where
    here : p ≡ q → is_open number p ≡ true
        → first_set key q.site (make (took q answer)) (map make (p ∷ qs)) ≡ map make (taken_for number answer (p ∷ qs))
    here same is =
        let parts : ((p.number == number) ≡ true) × (is_none p.taken ≡ true) =
        and_parts (p.number == number) (is_none p.taken) is in
        let number_is : p.number ≡ number = eqb-true p.number number parts.0 in
        let first : key (make p) ≡ q.site = keys p ∙ ap (λ (x : ClientRequest). x.site) same in
        let others : taken_for number answer qs ≡ qs =
        none_taken number answer qs (λ y y_in. subst (λ (k : ℕ). k ≢ y) number_is (apart_first parts.1 y y_in)) in
        ap (λ (b : Bool). cond b (make (took q answer) ∷ map make qs)
        (make p ∷ first_set key q.site (make (took q answer)) (map make qs))) (eq-eqb (key (make p)) q.site first)
        ∙ (λ i. make (took (sym same i) answer) ∷ map make (sym others i))
        ∙ sym (ap (λ (b : Bool). map make (cond b (took p answer) p ∷ taken_for number answer qs)) is)
      where
        apart_first : is_none p.taken ≡ true → (y : ℕ) → In y (numbers_open qs) → p.number ≢ y
        apart_first open_still = at (is_none p.taken) open_still numbers
          where
            at : (n : Bool) → n ≡ true
                → AreApart
                (map (λ (c : Call). c.number)
                (map call_of
                (cond n (p ∷ filter (λ (x : ClientRequest). is_none x.taken) qs)
                (filter (λ (x : ClientRequest). is_none x.taken) qs)))) → (y : ℕ) → In y (numbers_open qs)
                → p.number ≢ y
            at true seen a = a.0
            at false seen a = absurd (let never : ⊥ = cc in never)

    by : (o : Bool) → is_open number p ≡ o → cond o (Some p) (find (is_open number) qs) ≡ Some q
        → (AreApart (sites_in qs) → AreApart (numbers_open qs) → find (is_open number) qs ≡ Some q
        → first_set key q.site (make (took q answer)) (map make qs) ≡ map make (taken_for number answer qs))
        → first_set key q.site (make (took q answer)) (map make (p ∷ qs)) ≡ map make (taken_for number answer (p ∷ qs))
    by true is e more = here (let same : p ≡ q = cc in same) is
    by false is e more =
        let f : IsFound number qs q = found number qs q e in
        let other : (key (make p) == q.site) ≡ false =
        differ (key (make p)) q.site (λ same. sites.0 q.site (site_in q qs f.among) (sym (keys p) ∙ same)) in
        ap (λ (b : Bool). cond b (make (took q answer) ∷ map make qs)
        (make p ∷ first_set key q.site (make (took q answer)) (map make qs))) other
        ∙ ap (λ (v : List A). make p ∷ v) (more sites.1 (open_rest p qs numbers) e)
        ∙ sym (ap (λ (b : Bool). map make (cond b (took p answer) p ∷ taken_for number answer qs)) is)
      where
        differ : (x y : ℕ) → x ≢ y → (x == y) ≡ false
        differ x y apart = at (x == y) refl
          where
            at : (b : Bool) → (x == y) ≡ b → b ≡ false
            at true same = absurd (apart (eqb-true x y same))
            at false same = refl

-- requests to sites, one after another, numbered from one on, and their calls

abbrev pub request_at : ℕ → Current → Want → ℕ → ClientRequest
request_at number t want site =
    record { number = number; site = site; life = life_of t.lives site; want = want; taken = None }

abbrev pub requests_from : ℕ → Current → Want → List ℕ → List ClientRequest
requests_from number t want [] = []
requests_from number t want (s ∷ ss) = request_at number t want s ∷ requests_from (number + 1) t want ss

pub calls_more : (qs rs : List ClientRequest) → calls_in (qs ++ rs) ≡ calls_in qs ++ calls_in rs
calls_more qs rs =
    ap (λ (v : List ClientRequest). map call_of v) (filter-append (λ (q : ClientRequest). is_none q.taken) qs rs)
    ∙ map-append call_of (filter (λ (q : ClientRequest). is_none q.taken) qs)
    (filter (λ (q : ClientRequest). is_none q.taken) rs)

pub calls_new : (number : ℕ) (t : Current) (want : Want) (ss : List ℕ)
    → calls_in (requests_from number t want ss) ≡ calls_from number ss
calls_new number t want [] = refl
calls_new number t want (s ∷ ss) =
    ap (λ (cs : List Call). record { number = number; site = s } ∷ cs) (calls_new (number + 1) t want ss)

pub every_new : (P : ClientRequest → Type 0) (t : Current) (want : Want)
    → ((number site : ℕ) → P (request_at number t want site)) → (number : ℕ) (ss : List ℕ)
    → Every P (requests_from number t want ss)
every_new P t want all number [] = tt
every_new P t want all number (s ∷ ss) = (all number s, every_new P t want all (number + 1) ss)
