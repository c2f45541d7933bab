-- The requests of the administrator's account: the first thing that is taken for one, in his calls as in the account,
-- and one request more.
use Rattle.std.proofs.Common.{◌≡◌, ◌≢◌, ℕ, suc, ◌==◌, ◌&&◌, Bool, true, false, cond, List, [], ◌∷◌, ◌++◌, length, map}
use Rattle.std.proofs.Common.{filter, Option, Some, None, option_map, refl, sym, ap, ◌∙◌, arith, eq-eqb, eqb-true, inl}
use Rattle.std.proofs.Common.{inr}
use Rattle.std.specs.Prelude.{is_none, is_some}
use Rattle.std.specs.List.{find, list_all}
use Rattle.std.proofs.lemmas.List.{map-append}
use Rattle.std.proofs.lemmas.List.Elements.{filter-append}
use Rattle.qc_list.specs.Vocabulary.{In}
use Rattle.qc_msg.specs.declared.call.Call.{Call}
use Rattle.qc_msg.specs.declared.message.Answer.{Answer}
use Rattle.qc_msg.specs.Vocabulary.{site_called, with_call, without_call}
use Rattle.qc_promise.specs.Vocabulary.{AdminRequest, AdminWant}
use Rattle.qc_promise.specs.AdminAccounting.{taken_for}

abbrev pub took : AdminRequest → Option Answer → AdminRequest
took q answer = record q { taken = Some answer }

abbrev pub numbers_of : List AdminRequest → List ℕ
numbers_of qs = map (λ (q : AdminRequest). q.number) qs

abbrev pub sites_of : List AdminRequest → List ℕ
sites_of qs = map (λ (q : AdminRequest). q.to) qs

abbrev pub wanting : (AdminWant → Bool) → List AdminRequest → List AdminRequest
wanting test qs = filter (λ (q : AdminRequest). test q.want) qs

abbrev pub all_taken : List AdminRequest → Bool
all_taken qs = list_all (λ (q : AdminRequest). is_some q.taken) qs

-- the open ones

abbrev pub call_of : AdminRequest → Call
call_of q = record { number = q.number; site = q.to }

abbrev pub open_calls : List AdminRequest → List Call
open_calls qs = map call_of (filter (λ (q : AdminRequest). is_none q.taken) qs)

-- the open request of a number

pub record IsCalled (number site : ℕ) (qs : List AdminRequest) : Type 0 where
  pub request : AdminRequest
  pub among : In request qs
  pub number_is : request.number ≡ number
  pub to_is : request.to ≡ site
  pub open_still : request.taken ≡ None

pub none_taken : (o : Option (Option Answer)) → is_none o ≡ true → o ≡ None
none_taken None is = refl
none_taken (Some x) is = absurd (let never : ⊥ = cc in never)

pub differ : (x y : ℕ) → x ≢ y → (x == y) ≡ false
differ x y apart = at (x == y) refl
  where
    at : (b : Bool) → (x == y) ≡ b → b ≡ false
    at true same = absurd (apart (eqb-true x y same))
    at false same = refl

module _ (number : ℕ) (answer : Option Answer) where
  abbrev pub takes : List AdminRequest → List AdminRequest
  takes qs = map (taken_for number answer) qs

  -- what stays

  kept : {A : Type 0} (f : AdminRequest → A) → ((q : AdminRequest) → f (took q answer) ≡ f q) → (q : AdminRequest)
      → f (taken_for number answer q) ≡ f q
  kept {A} f same q = by ((q.number == number) && is_none q.taken)
    where
      by : (b : Bool) → f (cond b (took q answer) q) ≡ f q
      by true = same q
      by false = refl

  pub map_taken : {A : Type 0} (f : AdminRequest → A) → ((q : AdminRequest) → f (took q answer) ≡ f q)
      → (qs : List AdminRequest) → map f (takes qs) ≡ map f qs
  map_taken f same [] = refl
  map_taken f same (q ∷ qs) = λ i. kept f same q i ∷ map_taken f same qs i

  pub length_taken : (qs : List AdminRequest) → length (takes qs) ≡ length qs
  length_taken [] = refl
  length_taken (q ∷ qs) = ap (λ (k : ℕ). suc k) (length_taken qs)

  pub wanting_taken : (test : AdminWant → Bool) (qs : List AdminRequest)
      → wanting test (takes qs) ≡ takes (wanting test qs)
  wanting_taken test [] = refl
  wanting_taken test (q ∷ qs) =
      ap (λ (b : Bool). cond b (taken_for number answer q ∷ wanting test (takes qs)) (wanting test (takes qs)))
      (kept (λ (x : AdminRequest). test x.want) (λ x. refl) q)
      ∙ by (test q.want) (wanting_taken test qs)
    where
      by : (h : Bool) → wanting test (takes qs) ≡ takes (wanting test qs)
          → cond h (taken_for number answer q ∷ wanting test (takes qs)) (wanting test (takes qs)) ≡ takes
          (cond h (q ∷ wanting test qs) (wanting test qs))
      by true e = ap (λ (v : List AdminRequest). taken_for number answer q ∷ v) e
      by false e = e

  -- one request

  pub this_taken : (q : AdminRequest) → q.number ≡ number → q.taken ≡ None → taken_for number answer q ≡ took q answer
  this_taken q same open_still = rw (eq-eqb q.number number same, open_still) refl

  pub other_taken : (q : AdminRequest) → q.number ≢ number → taken_for number answer q ≡ q
  other_taken q apart = rw (differ q.number number apart) refl

  pub others_taken : (qs : List AdminRequest) → ((y : ℕ) → In y (numbers_of qs) → number ≢ y) → takes qs ≡ qs
  others_taken [] apart = refl
  others_taken (q ∷ qs) apart = λ i. other_taken q (λ same. apart q.number (inl refl) (sym same)) i ∷ others_taken qs
      (λ y among. apart y (inr among)) i

  -- what is taken leaves the calls

  pub calls_taken : (qs : List AdminRequest) → without_call (open_calls qs) number ≡ open_calls (takes qs)
  calls_taken [] = refl
  calls_taken (q ∷ qs) = by q.taken refl (q.number == number) refl (calls_taken qs)
    where
      by : (t : Option (Option Answer)) → q.taken ≡ t → (u : Bool) → (q.number == number) ≡ u
          → without_call (open_calls qs) number ≡ open_calls (takes qs)
          → without_call (open_calls (q ∷ qs)) number ≡ open_calls (takes (q ∷ qs))
      by (Some x) is true same e = rw (is, same) e
      by (Some x) is false same e = rw (is, same) e
      by None is true same e = rw (is, same) e
      by None is false same e = rw (is, same) (ap (λ (cs : List Call). call_of q ∷ cs) e)

  -- no open request has the number: nothing changes

  pub none_called : (qs : List AdminRequest) → site_called (open_calls qs) number ≡ None → takes qs ≡ qs
  none_called [] is = refl
  none_called (q ∷ qs) is = by (none_called qs) (is_none q.taken) refl is
    where
      first : (site_called (open_calls qs) number ≡ None → takes qs ≡ qs) → (u : Bool) → (q.number == number) ≡ u
          → option_map (λ (c : Call). c.site) (cond u (Some (call_of q))
          (find (λ (c : Call). c.number == number) (open_calls qs))) ≡ None
          → takes (q ∷ qs) ≡ q ∷ qs
      first more true same e = absurd (let never : ⊥ = cc in never)
      first more false same e = rw same (ap (λ (v : List AdminRequest). q ∷ v) (more e))

      closed : (u : Bool) → (q.number == number) ≡ u → is_none q.taken ≡ false → taken_for number answer q ≡ q
      closed true same is_not = rw (same, is_not) refl
      closed false same is_not = rw same refl

      by : (site_called (open_calls qs) number ≡ None → takes qs ≡ qs) → (n : Bool) → is_none q.taken ≡ n
          → site_called (map call_of (cond n (q ∷ filter (λ (x : AdminRequest). is_none x.taken) qs)
          (filter (λ (x : AdminRequest). is_none x.taken) qs))) number ≡ None
          → takes (q ∷ qs) ≡ q ∷ qs
      by more true open_still e = first more (q.number == number) refl e
      by more false open_still e = λ i. closed (q.number == number) refl open_still i ∷ more e i

  -- where all are taken, nothing changes
  pub taken_already : (qs : List AdminRequest) → all_taken qs ≡ true → takes qs ≡ qs
  taken_already [] all = refl
  taken_already (q ∷ qs) all = by (taken_already qs) q.taken refl all
    where
      stays : (t : Option Answer) → q.taken ≡ Some t → (u : Bool) → (q.number == number) ≡ u
          → taken_for number answer q ≡ q
      stays t is true same = rw (is, same) refl
      stays t is false same = rw (is, same) refl

      by : (all_taken qs ≡ true → takes qs ≡ qs) → (t : Option (Option Answer)) → q.taken ≡ t
          → (is_some t && all_taken qs) ≡ true → takes (q ∷ qs) ≡ q ∷ qs
      by more None is e = absurd (let never : ⊥ = cc in never)
      by more (Some t) is e = λ i. stays t is (q.number == number) refl i ∷ more e i

-- the open request that a call is of

pub called : (number site : ℕ) (qs : List AdminRequest) → site_called (open_calls qs) number ≡ Some site
    → IsCalled number site qs
called number site [] is = absurd (let never : ⊥ = cc in never)
called number site (q ∷ qs) is = by (called number site qs) (is_none q.taken) refl is
  where
    later : IsCalled number site qs → IsCalled number site (q ∷ qs)
    later c = record {
      request = c.request;
      among = inr c.among;
      number_is = c.number_is;
      to_is = c.to_is;
      open_still = c.open_still;
    }

    first : (site_called (open_calls qs) number ≡ Some site → IsCalled number site qs) → is_none q.taken ≡ true
        → (u : Bool) → (q.number == number) ≡ u
        → option_map (λ (c : Call). c.site) (cond u (Some (call_of q))
        (find (λ (c : Call). c.number == number) (open_calls qs))) ≡ Some site
        → IsCalled number site (q ∷ qs)
    first more open_still true same e =
        record {
          request = q;
          among = inl refl;
          number_is = eqb-true q.number number same;
          to_is = (let to : q.to ≡ site = cc in to);
          open_still = none_taken q.taken open_still;
        }
    first more open_still false same e = later (more e)

    by : (site_called (open_calls qs) number ≡ Some site → IsCalled number site qs) → (n : Bool) → is_none q.taken ≡ n
        → site_called (map call_of (cond n (q ∷ filter (λ (x : AdminRequest). is_none x.taken) qs)
        (filter (λ (x : AdminRequest). is_none x.taken) qs))) number ≡ Some site
        → IsCalled number site (q ∷ qs)
    by more true open_still e = first more open_still (q.number == number) refl e
    by more false open_still e = later (more e)

-- no call is open just where all are taken
pub none_open : (qs : List AdminRequest) → (length (open_calls qs) == 0) ≡ all_taken qs
none_open [] = refl
none_open (q ∷ qs) = by (none_open qs) q.taken refl
  where
    some : (n : ℕ) → (suc n == 0) ≡ false
    some n = differ (suc n) 0 (λ same. omega arith)

    by : (length (open_calls qs) == 0) ≡ all_taken qs → (t : Option (Option Answer)) → q.taken ≡ t
        → (length (open_calls (q ∷ qs)) == 0) ≡ (is_some q.taken && all_taken qs)
    by more None is = rw is (some (length (open_calls qs)))
    by more (Some t) is = rw is more

-- one request more

pub wanting_more : (test : AdminWant → Bool) (qs : List AdminRequest) (q : AdminRequest) → test q.want ≡ true
    → wanting test (qs ++ q ∷ []) ≡ wanting test qs ++ q ∷ []
wanting_more test qs q is = filter-append (λ (x : AdminRequest). test x.want) qs (q ∷ [])
    ∙ ap (λ (b : Bool). wanting test qs ++ cond b (q ∷ []) []) is

pub wanting_same : (test : AdminWant → Bool) (qs : List AdminRequest) (q : AdminRequest) → test q.want ≡ false
    → wanting test (qs ++ q ∷ []) ≡ wanting test qs
wanting_same test qs q is = filter-append (λ (x : AdminRequest). test x.want) qs (q ∷ [])
    ∙ ap (λ (b : Bool). wanting test qs ++ cond b (q ∷ []) []) is ∙ none (wanting test qs)
  where
    none : (xs : List AdminRequest) → xs ++ [] ≡ xs
    none [] = refl
    none (x ∷ xs) = ap (λ (v : List AdminRequest). x ∷ v) (none xs)

pub calls_more : (qs : List AdminRequest) (q : AdminRequest) → q.taken ≡ None
    → open_calls (qs ++ q ∷ []) ≡ with_call (open_calls qs) q.number q.to
calls_more qs q is =
    ap (λ (v : List AdminRequest). map call_of v) (filter-append (λ (x : AdminRequest). is_none x.taken) qs (q ∷ []))
    ∙ map-append call_of (filter (λ (x : AdminRequest). is_none x.taken) qs)
    (filter (λ (x : AdminRequest). is_none x.taken) (q ∷ []))
    ∙ rw is refl
