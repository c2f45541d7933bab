-- Requests for promises, as a desk's ballots.
use Rattle.std.proofs.Common.{◌≡◌, ◌≢◌, ◌<◌, ℕ, zero, suc, ◌+◌, ◌&&◌, Bool, cond, List, [], ◌∷◌, map, filter, drop}
use Rattle.std.proofs.Common.{Option, Some, None, option_map, is_some, inl, inr, refl, sym, ap, ◌∙◌, arith}
use Rattle.std.specs.Prelude.{slice_get}
use Rattle.std.specs.List.{list_all, AllByRecursion as Every}
use Rattle.std.specs.Option.{option_or}
use Rattle.qc_list.specs.Vocabulary.{In}
use Rattle.qc_commit.specs.declared.ballot.Ballot.{Ballot}
use Rattle.qc_commit.specs.Votes as ballots
use Rattle.qc_commit.specs.Vocabulary.{are_cast, blank, vote_of}
use Rattle.qc_msg.specs.declared.begun.Begun.{Begun}
use Rattle.qc_msg.specs.declared.message.Answer.{Answer}
use Rattle.qc_msg.specs.declared.message.Answer.TheVariants as answers
use Rattle.qc_msg.specs.declared.message.Want.{Want}
use Rattle.qc_msg.specs.declared.message.Want.TheVariants.{Prepare}
use Rattle.qc_msg.specs.declared.reply.AbortCause.TheVariants as causes
use Rattle.qc_msg.specs.Vocabulary.{life_of}
use Rattle.qc_promise.specs.Vocabulary.{ClientRequest, Current, against, first_against, is_prepare}
use Rattle.laws_due.specs.Vocabulary.{AreApart, IsPrepare, ballot_of, begun_of}
use Rattle.laws_due.proofs.OpenRequests.{sites_in}
use Rattle.laws_due.proofs.Requests.{requests_from}

-- lists of requests for promises

pub all_prepare : (t : Current) (qs : List ClientRequest) → Every (IsPrepare t) qs
    → filter (λ (q : ClientRequest). is_prepare q.want) qs ≡ qs
all_prepare t [] all = refl
all_prepare t (q ∷ qs) all =
    ap (λ (b : Bool). cond b (q ∷ filter (λ (p : ClientRequest). is_prepare p.want) qs)
    (filter (λ (p : ClientRequest). is_prepare p.want) qs)) (ap is_prepare all.0.want)
    ∙ ap (λ (v : List ClientRequest). q ∷ v) (all_prepare t qs all.1)

pub cast_are : (b : Begun) (qs : List ClientRequest)
    → are_cast (map (ballot_of b) qs) ≡ list_all (λ (q : ClientRequest). is_some q.taken) qs
cast_are b [] = refl
cast_are b (q ∷ qs) = by q.taken (cast_are b qs)
  where
    by : (o : Option (Option Answer)) → are_cast (map (ballot_of b) qs) ≡ list_all
        (λ (p : ClientRequest). is_some p.taken) qs
        → (is_some (option_map (vote_of b q.site) o) && are_cast (map (ballot_of b) qs)) ≡
        (is_some o && list_all (λ (p : ClientRequest). is_some p.taken) qs)
    by None e = refl
    by (Some a) e = e

pub against_are : (t : Current) (asked : List ℕ) (qs : List ClientRequest) → Every (IsPrepare t) qs
    → ballots.first_against (map (ballot_of (begun_of t asked)) qs) ≡ first_against qs
against_are t asked [] all = refl
against_are t asked (q ∷ qs) all = by q.taken all.0.life (against_are t asked qs all.1)
  where
    by : (o : Option (Option Answer)) → q.life ≡ life_of t.lives q.site
        → ballots.first_against (map (ballot_of (begun_of t asked)) qs) ≡ first_against qs
        → option_or (ballots.against (option_map (vote_of (begun_of t asked) q.site) o))
        (ballots.first_against (map (ballot_of (begun_of t asked)) qs)) ≡ option_or (against q o) (first_against qs)
    by None life e = e
    by (Some None) life e = refl
    by (Some (Some (answers.Granted grant))) life e = refl
    by (Some (Some (answers.Clash holder inv event))) life e = refl
    by (Some (Some (answers.Closed epoch))) life e = refl
    by (Some (Some (answers.Behind epoch))) life e = refl
    by (Some (Some (answers.Restarted l))) life e = ap (λ (n : ℕ). Some (causes.Restarted q.site n l)) (sym life)
    by (Some (Some answers.Stale)) life e = refl
    by (Some (Some answers.Fault)) life e = refl
    by (Some (Some (answers.Yes clock))) life e = e
    by (Some (Some (answers.Shut snapshot))) life e = refl
    by (Some (Some answers.Installed)) life e = refl
    by (Some (Some (answers.Answered verdict))) life e = refl

-- the next participant

pub dropped_at : (n : ℕ) (xs : List ℕ) (x : ℕ) (rest : List ℕ) → drop n xs ≡ x ∷ rest → slice_get xs n ≡ Some x
dropped_at zero [] x rest is = absurd (let never : ⊥ = cc in never)
dropped_at zero (y ∷ ys) x rest is = let same : y ≡ x = cc in ap (λ (z : ℕ). Some z) same
dropped_at (suc n) [] x rest is = absurd (let never : ⊥ = cc in never)
dropped_at (suc n) (y ∷ ys) x rest is = dropped_at n ys x rest is

pub dropped_more : (n : ℕ) (xs : List ℕ) (x : ℕ) (rest : List ℕ) → drop n xs ≡ x ∷ rest → drop (suc n) xs ≡ rest
dropped_more zero [] x rest is = absurd (let never : ⊥ = cc in never)
dropped_more zero (y ∷ ys) x rest is = let same : ys ≡ rest = cc in same
dropped_more (suc n) [] x rest is = absurd (let never : ⊥ = cc in never)
dropped_more (suc n) (y ∷ ys) x rest is = dropped_more n ys x rest is

-- requests that are sent one after another

pub new_sites : (n : ℕ) (t : Current) (want : Want) (ss : List ℕ) → sites_in (requests_from n t want ss) ≡ ss
new_sites n t want [] = refl
new_sites n t want (s ∷ ss) = ap (λ (v : List ℕ). s ∷ v) (new_sites (n + 1) t want ss)

new_later : (low n : ℕ) (t : Current) (want : Want) (ss : List ℕ) → low < n → (y : ℕ)
    → In y (map (λ (q : ClientRequest). q.number) (requests_from n t want ss)) → low ≢ y
new_later low n t want [] less y among = absurd among
new_later low n t want (s ∷ ss) less y (inl same) = λ eq. (let here : y ≡ n = same in omega arith)
new_later low n t want (s ∷ ss) less y (inr later) = new_later low (n + 1) t want ss (omega arith) y later

pub new_numbers : (n : ℕ) (t : Current) (want : Want) (ss : List ℕ)
    → AreApart (map (λ (q : ClientRequest). q.number) (requests_from n t want ss))
new_numbers n t want [] = tt
new_numbers n t want (s ∷ ss) = (new_later n (n + 1) t want ss (omega arith), new_numbers (n + 1) t want ss)

pub new_ballots : (b : Begun) (n : ℕ) (t : Current) (ss : List ℕ)
    → blank ss ≡ map (ballot_of b) (requests_from n t Prepare ss)
new_ballots b n t [] = refl
new_ballots b n t (s ∷ ss) = ap (λ (bs : List Ballot). record { site = s; vote = None } ∷ bs)
    (new_ballots b (n + 1) t ss)
