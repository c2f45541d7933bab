-- The open request of a number, in the account and in the client's calls, and what is taken for it.
use Rattle.std.proofs.Common.{[], ◌≡◌, ℕ, suc, ◌==◌, ◌&&◌, Bool, true, false, cond, List, ◌∷◌, length, map, filter}
use Rattle.std.proofs.Common.{Option, Some, None, option_map, refl, ap, ◌∙◌, subst, eqb-true, inl, inr}
use Rattle.std.specs.Prelude.{is_none}
use Rattle.std.specs.List.{find, AllByRecursion as Every}
use Rattle.qc_list.specs.Vocabulary.{In}
use Rattle.qc_msg.specs.declared.call.Call.{Call}
use Rattle.qc_msg.specs.declared.message.Answer.{Answer}
use Rattle.qc_msg.specs.declared.message.Want.{Want}
use Rattle.qc_msg.specs.Vocabulary.{site_called, without_call}
use Rattle.qc_promise.specs.Vocabulary.{ClientRequest, is_open, taken_for}
use Rattle.laws_due.specs.Vocabulary.{call_of, calls_in}
use Rattle.qc_list.proofs.Booleans.{and_parts}

abbrev pub sites_in : List ClientRequest → List ℕ
sites_in qs = map (λ (q : ClientRequest). q.site) qs

abbrev pub numbers_open : List ClientRequest → List ℕ
numbers_open qs = map (λ (c : Call). c.number) (calls_in qs)

abbrev pub took : ClientRequest → Option Answer → ClientRequest
took q answer = record q { taken = Some answer }

-- the open request of a number is the call of that number
pub find_call : (number : ℕ) (qs : List ClientRequest)
    → site_called (calls_in qs) number ≡ option_map (λ (q : ClientRequest). q.site) (find (is_open number) qs)
find_call number [] = refl
find_call number (q ∷ qs) = by (is_none q.taken) (find_call number qs)
  where
    closed : (u : Bool)
        → site_called (calls_in qs) number ≡ option_map (λ (x : ClientRequest). x.site) (find (is_open number) qs)
        → site_called (calls_in qs) number
        ≡ option_map (λ (x : ClientRequest). x.site) (cond (u && false) (Some q) (find (is_open number) qs))
    closed true e = e
    closed false e = e

    opened : (u : Bool)
        → site_called (calls_in qs) number ≡ option_map (λ (x : ClientRequest). x.site) (find (is_open number) qs)
        → option_map (λ (c : Call). c.site)
        (cond u (Some (call_of q)) (find (λ (c : Call). c.number == number) (calls_in qs)))
        ≡ option_map (λ (x : ClientRequest). x.site) (cond (u && true) (Some q) (find (is_open number) qs))
    opened true e = refl
    opened false e = e

    by : (t : Bool)
        → site_called (calls_in qs) number ≡ option_map (λ (x : ClientRequest). x.site) (find (is_open number) qs)
        → site_called
        (map call_of
        (cond t (q ∷ filter (λ (x : ClientRequest). is_none x.taken) qs)
        (filter (λ (x : ClientRequest). is_none x.taken) qs))) number
        ≡ option_map (λ (x : ClientRequest). x.site)
        (cond ((q.number == number) && t) (Some q) (find (is_open number) qs))
    by true e = opened (q.number == number) e
    by false e = closed (q.number == number) e

-- what is taken leaves the calls
pub calls_taken : (number : ℕ) (answer : Option Answer) (qs : List ClientRequest)
    → without_call (calls_in qs) number ≡ calls_in (taken_for number answer qs)
calls_taken number answer [] = refl
calls_taken number answer (q ∷ qs) = by q.taken refl (q.number == number) refl (calls_taken number answer qs)
  where
    by : (t : Option (Option Answer)) → q.taken ≡ t → (u : Bool) → (q.number == number) ≡ u
        → without_call (calls_in qs) number ≡ calls_in (taken_for number answer qs)
        → without_call (calls_in (q ∷ qs)) number ≡ calls_in (taken_for number answer (q ∷ qs))
    by (Some x) is true same e = rw (is, same) e
    by (Some x) is false same e = rw (is, same) e
    by None is true same e = rw (is, same) e
    by None is false same e =
        rw (is, same) (ap (λ (cs : List Call). record { number = q.number; site = q.site } ∷ cs) e)

-- what is asked for, and where, stays

abbrev pub of_half : (Want → Bool) → List ClientRequest → List ClientRequest
of_half half qs = filter (λ (q : ClientRequest). half q.want) qs

pub half_taken : (half : Want → Bool) (number : ℕ) (answer : Option Answer) (qs : List ClientRequest)
    → filter (λ (q : ClientRequest). half q.want) (taken_for number answer qs)
    ≡ taken_for number answer (filter (λ (q : ClientRequest). half q.want) qs)
half_taken half number answer [] = refl
half_taken half number answer (q ∷ qs) =
    ap (λ (b : Bool). cond b (cond (is_open number q) (took q answer) q ∷ of_half half (taken_for number answer qs))
    (of_half half (taken_for number answer qs))) (same (is_open number q))
    ∙ by (half q.want) (half_taken half number answer qs)
  where
    same : (o : Bool) → half (cond o (took q answer) q).want ≡ half q.want
    same true = refl
    same false = refl

    by : (h : Bool) → of_half half (taken_for number answer qs) ≡ taken_for number answer (of_half half qs)
        → cond h (cond (is_open number q) (took q answer) q ∷ of_half half (taken_for number answer qs))
        (of_half half (taken_for number answer qs))
        ≡ taken_for number answer (cond h (q ∷ of_half half qs) (of_half half qs))
    by true e = ap (λ (v : List ClientRequest). cond (is_open number q) (took q answer) q ∷ v) e
    by false e = e

pub sites_taken : (number : ℕ) (answer : Option Answer) (qs : List ClientRequest)
    → sites_in (taken_for number answer qs) ≡ sites_in qs
sites_taken number answer [] = refl
sites_taken number answer (q ∷ qs) = λ i. same (is_open number q) i ∷ sites_taken number answer qs i
  where
    same : (o : Bool) → (cond o (took q answer) q).site ≡ q.site
    same true = refl
    same false = refl

pub length_taken : (number : ℕ) (answer : Option Answer) (qs : List ClientRequest)
    → length (taken_for number answer qs) ≡ length qs
length_taken number answer [] = refl
length_taken number answer (q ∷ qs) = ap (λ (k : ℕ). suc k) (length_taken number answer qs)

pub every_taken : (P : ClientRequest → Type 0) (number : ℕ) (answer : Option Answer)
    → ((q : ClientRequest) → P q → P (record q { taken = Some answer })) → (qs : List ClientRequest) → Every P qs
    → Every P (taken_for number answer qs)
every_taken P number answer keeps [] all = tt
every_taken P number answer keeps (q ∷ qs) all = (by (is_open number q), every_taken P number answer keeps qs all.1)
  where
    by : (o : Bool) → P (cond o (took q answer) q)
    by true = keeps q all.0
    by false = all.0

-- the open request that is found

pub record IsFound (number : ℕ) (qs : List ClientRequest) (q : ClientRequest) : Type 0 where
  pub among : In q qs
  pub number_is : q.number ≡ number
  pub open_still : is_none q.taken ≡ true

pub found : (number : ℕ) (qs : List ClientRequest) (q : ClientRequest) → find (is_open number) qs ≡ Some q
    → IsFound number qs q
found number [] q e = absurd (let never : ⊥ = cc in never)
found number (p ∷ qs) q e = by (is_open number p) refl e (found number qs q)
  where
    by : (o : Bool) → is_open number p ≡ o → cond o (Some p) (find (is_open number) qs) ≡ Some q
        → (find (is_open number) qs ≡ Some q → IsFound number qs q) → IsFound number (p ∷ qs) q
    by true is e more =
        let same : p ≡ q = cc in
        let parts : ((p.number == number) ≡ true) × (is_none p.taken ≡ true) =
        and_parts (p.number == number) (is_none p.taken) is in
        subst (λ (x : ClientRequest). IsFound number (p ∷ qs) x) same
        (record { among = inl refl; number_is = eqb-true p.number number parts.0; open_still = parts.1 })
    by false is e more =
        let f : IsFound number qs q = more e in
        record { among = inr f.among; number_is = f.number_is; open_still = f.open_still }
