-- The round of a half by an account: one request more, and what is taken for one.
use Rattle.std.proofs.Common.{◌≡◌, ℕ, zero, suc, ◌+◌, ◌==◌, nat_le, Bool, true, false, cond, List, [], ◌∷◌, ◌++◌}
use Rattle.std.proofs.Common.{length, map, filter, drop, Option, Some, None, unwrap_or, refl, sym, ap, ◌∙◌, subst}
use Rattle.std.proofs.Common.{append_assoc, eqb-true, arith}
use Rattle.std.specs.List.{find, AllByRecursion as Every}
use Rattle.std.proofs.lemmas.List.{append-nil, map-append}
use Rattle.std.proofs.lemmas.List.Elements.{filter-append}
use Rattle.std.proofs.Math.Seq.{drop-nil}
use Rattle.qc_stamp.specs.declared.stamp.TxId.{TxId}
use Rattle.qc_decl.specs.declared.declaration.Declaration.{Declaration}
use Rattle.qc_decl.specs.Vocabulary.{first_site}
use Rattle.qc_msg.specs.declared.message.Answer.{Answer}
use Rattle.qc_msg.specs.declared.message.Want.{Want}
use Rattle.qc_plan.specs.declared.standing.Asked.{Asked}
use Rattle.qc_plan.specs.declared.standing.Standing.{Standing}
use Rattle.qc_plan.specs.declared.standing.Verdict.TheVariants as verdicts
use Rattle.qc_plan.specs.Vocabulary.{RoundState, all_noted, asking_all, has_granted, note, note_in, refusal, settled}
use Rattle.qc_plan.specs.Vocabulary.{start, verdict, weight}
use Rattle.qc_promise.specs.Vocabulary.{Account, ClientRequest, Current, asked_by, is_open, round_of, standing_of}
use Rattle.qc_promise.specs.Vocabulary.{taken_for, weights_of}
use Rattle.laws_due.specs.Vocabulary.{AreApart, IsOpenIn}
use Rattle.laws_due.proofs.Nexts.{asking_one}
use Rattle.laws_due.proofs.OpenRequests.{half_taken, length_taken, numbers_open, sites_in}
use Rattle.laws_due.proofs.Requests.{calls_half, find_half, first_set, request_at, requests_from, set_taken}

drop_suc : {A : Type 0} (n : ℕ) (ys : List A) → drop (suc n) ys ≡ drop 1 (drop n ys)
drop_suc zero ys = refl
drop_suc (suc n) [] = refl
drop_suc (suc n) (y ∷ ys) = drop_suc n ys

pub drop_last : {A B : Type 0} (xs : List A) (x : A) (ys : List B)
    → drop (length (xs ++ x ∷ [])) ys ≡ drop 1 (drop (length xs) ys)
drop_last [] x ys = refl
drop_last (z ∷ xs) x [] = sym (drop-nil 1)
drop_last (z ∷ xs) x (y ∷ ys) = drop_last xs x ys

-- noting is setting the first
note_first : (site : ℕ) (standing : Standing) (asked : List Asked)
    → note_in site standing asked ≡ first_set (λ (a : Asked). a.site) site
    (record { site = site; standing = Some standing }) asked
note_first site standing [] = refl
note_first site standing (a ∷ rest) = ap
    (λ (v : List Asked). cond (a.site == site) (record { site = site; standing = Some standing } ∷ rest) (a ∷ v))
    (note_first site standing rest)

module _ (decl : Declaration) (d : Account) (t : Current) (half : Want → Bool) (need : ℕ) where
  abbrev pub round_at : List ClientRequest → RoundState
  round_at qs = round_of decl (record d { requests = qs }) t half need

  abbrev half_of : List ClientRequest → List ClientRequest
  half_of qs = filter (λ (q : ClientRequest). half q.want) qs

  abbrev sites_all : List ℕ
  sites_all = (start (weights_of decl t.epoch) (first_site decl d.client) need).rest

  -- the same round, by its half's requests alone
  abbrev pub round_from : List ClientRequest → RoundState
  round_from hs = record (start (weights_of decl t.epoch) (first_site decl d.client) need)
      { asked = map asked_by hs; rest = drop (length (map asked_by hs)) sites_all }

  -- one request more

  half_one : (qs : List ClientRequest) (q : ClientRequest) → half q.want ≡ true
      → half_of (qs ++ q ∷ []) ≡ half_of qs ++ q ∷ []
  half_one qs q is = filter-append (λ (x : ClientRequest). half x.want) qs (q ∷ [])
      ∙ ap (λ (b : Bool). half_of qs ++ cond b (q ∷ []) []) is

  asked_one : (qs : List ClientRequest) (number : ℕ) (want : Want) (site : ℕ) → half want ≡ true
      → map asked_by (half_of (qs ++ request_at number t want site ∷ [])) ≡ map asked_by (half_of qs)
      ++ record { site = site; standing = None } ∷ []
  asked_one qs number want site is = ap (map asked_by) (half_one qs (request_at number t want site) is)
      ∙ map-append asked_by (half_of qs) (request_at number t want site ∷ [])

  pub round_one : (qs : List ClientRequest) (number : ℕ) (want : Want) (site : ℕ) → half want ≡ true
      → round_at (qs ++ request_at number t want site ∷ []) ≡ asking_one (round_at qs) site
  round_one qs number want site is =
      (λ i. record (round_at qs) {
        asked = asked_one qs number want site is i;
        rest = drop (length (asked_one qs number want site is i)) sites_all;
      })
      ∙ ap (λ (ss : List ℕ). record (round_at qs)
      { asked = map asked_by (half_of qs) ++ record { site = site; standing = None } ∷ []; rest = ss })
      (drop_last (map asked_by (half_of qs)) (record { site = site; standing = None }) sites_all)

  pub round_asked : (want : Want) → half want ≡ true → (ss : List ℕ) (number : ℕ) (qs : List ClientRequest)
      → round_at (qs ++ requests_from number t want ss) ≡ asking_all (round_at qs) ss
  round_asked want is [] number qs = ap round_at (append-nil qs)
  round_asked want is (s ∷ ss) number qs =
      ap round_at (sym (append_assoc qs (request_at number t want s ∷ []) (requests_from (number + 1) t want ss)))
      ∙ round_asked want is ss (number + 1) (qs ++ request_at number t want s ∷ [])
      ∙ ap (λ (r : RoundState). asking_all r ss) (round_one qs number want s is)

  -- what is taken for one of them

  pub round_taken : (number : ℕ) (answer : Option Answer) (q : ClientRequest) (qs : List ClientRequest)
      → Every (IsOpenIn half) qs
      → AreApart (sites_in (filter (λ (x : ClientRequest). half x.want) qs)) → AreApart (numbers_open qs)
      → find (is_open number) qs ≡ Some q
      → note (round_at qs) q.site (standing_of answer) ≡ round_at (taken_for number answer qs)
  round_taken number answer q qs open_in sites numbers is =
      (λ i. record (round_at qs) { asked = asked_are i; rest = drop (same_length i) sites_all })
    where
      halves : List ClientRequest
      halves = filter (λ (x : ClientRequest). half x.want) qs

      asked_are : note_in q.site (standing_of answer) (map asked_by (filter (λ (x : ClientRequest). half x.want) qs))
          ≡ map asked_by (filter (λ (x : ClientRequest). half x.want) (taken_for number answer qs))
      asked_are =
          note_first q.site (standing_of answer) (map asked_by (filter (λ (x : ClientRequest). half x.want) qs))
          ∙ set_taken (λ (a : Asked). a.site) asked_by (λ x. refl) number answer q
          (filter (λ (x : ClientRequest). half x.want) qs) sites
          (subst AreApart (sym (ap (map (λ c. c.number)) (calls_half half qs open_in))) numbers)
          (find_half half number qs open_in ∙ is)
          ∙ ap (map asked_by) (sym (half_taken half number answer qs))

      same_length : length (map asked_by (filter (λ (x : ClientRequest). half x.want) qs)) ≡ length
          (map asked_by (filter (λ (x : ClientRequest). half x.want) (taken_for number answer qs)))
      same_length =
          length-mapped (filter (λ (x : ClientRequest). half x.want) qs)
          ∙ sym (length_taken number answer (filter (λ (x : ClientRequest). half x.want) qs))
          ∙ ap (λ (v : List ClientRequest). length v) (sym (half_taken half number answer qs))
          ∙ sym (length-mapped (filter (λ (x : ClientRequest). half x.want) (taken_for number answer qs)))
        where
          length-mapped : (xs : List ClientRequest) → length (map asked_by xs) ≡ length xs
          length-mapped [] = refl
          length-mapped (x ∷ xs) = ap (λ (k : ℕ). suc k) (length-mapped xs)

-- a round that waits for somebody
pub waiting_verdict : (r : RoundState) → all_noted r.asked ≡ false → verdict r ≡ verdicts.Waiting
waiting_verdict r open_still = ap (λ (b : Bool). cond b
    (unwrap_or (refusal r.asked) (settled r (weight (has_granted r.asked) r.weights))) verdicts.Waiting) open_still

-- a round that is refused has asked somebody

some : (n : ℕ) → (suc n == 0) ≡ false
some n = by (suc n == 0) refl
  where
    by : (b : Bool) → (suc n == 0) ≡ b → b ≡ false
    by true e = let same : suc n ≡ 0 = eqb-true (suc n) 0 e in absurd (omega arith)
    by false e = refl

pub closed_asked : (r : RoundState) (epoch site : ℕ) → verdict r ≡ verdicts.Closed epoch site
    → (length r.asked == 0) ≡ false
closed_asked r epoch site is = by r.asked is
  where
    by : (asked : List Asked) → cond (all_noted asked)
        (unwrap_or (refusal asked) (settled (record r { asked = asked }) (weight (has_granted asked) r.weights)))
        verdicts.Waiting ≡ verdicts.Closed epoch site → (length asked == 0) ≡ false
    by [] e = absurd (at (nat_le r.need (weight (has_granted []) r.weights)) (length r.rest == 0) e)
      where
        at : (x y : Bool) → cond x verdicts.Met (cond y
            (verdicts.Short (weight (has_granted []) r.weights) r.need) verdicts.Waiting) ≡ verdicts.Closed epoch site
            → ⊥
        at true y e = let never : ⊥ = cc in never
        at false true e = let never : ⊥ = cc in never
        at false false e = let never : ⊥ = cc in never
    by (a ∷ rest) e = some (length rest)

pub clash_asked : (r : RoundState) (tx : TxId) (site : ℕ) → verdict r ≡ verdicts.Clash tx site
    → (length r.asked == 0) ≡ false
clash_asked r tx site is = by r.asked is
  where
    by : (asked : List Asked) → cond (all_noted asked)
        (unwrap_or (refusal asked) (settled (record r { asked = asked }) (weight (has_granted asked) r.weights)))
        verdicts.Waiting ≡ verdicts.Clash tx site → (length asked == 0) ≡ false
    by [] e = absurd (at (nat_le r.need (weight (has_granted []) r.weights)) (length r.rest == 0) e)
      where
        at : (x y : Bool) → cond x verdicts.Met (cond y
            (verdicts.Short (weight (has_granted []) r.weights) r.need) verdicts.Waiting) ≡ verdicts.Clash tx site → ⊥
        at true y e = let never : ⊥ = cc in never
        at false true e = let never : ⊥ = cc in never
        at false false e = let never : ⊥ = cc in never
    by (a ∷ rest) e = some (length rest)
