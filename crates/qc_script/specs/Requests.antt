-- Requests that an actor sent: those without an answer, and the numbers of those that are lost.
use Rattle.std.specs.Prelude.{ℕ, ◌==◌, nat_lt, Bool, not, if◌then◌else◌, List, [], ◌∷◌, filter, fold, map}
use Rattle.std.specs.List.{list_any}

-- a request that was sent: its number, and whom it went to
pub record SentRequest : Type 0 where
  pub number : ℕ
  pub to : ℕ

-- numbers, ascending

abbrev pub with_number : List ℕ → ℕ → List ℕ
with_number [] n = n ∷ []
with_number (m ∷ ms) n = if nat_lt n m then n ∷ m ∷ ms else m ∷ with_number ms n

abbrev pub without_number : List ℕ → ℕ → List ℕ
without_number ns n = filter (λ m. not (m == n)) ns

abbrev pub has_number : List ℕ → ℕ → Bool
has_number ns n = list_any (λ m. m == n) ns

-- requests by their numbers

abbrev pub request_numbers : List SentRequest → List ℕ
request_numbers requests = map (λ (r : SentRequest). r.number) requests

abbrev pub without_request : List SentRequest → ℕ → List SentRequest
without_request requests n = filter (λ (r : SentRequest). not (r.number == n)) requests

abbrev pub has_request : List SentRequest → ℕ → Bool
has_request requests n = list_any (λ (r : SentRequest). r.number == n) requests

-- those to one actor, and those to others

abbrev pub requests_to : ℕ → List SentRequest → List SentRequest
requests_to a requests = filter (λ (r : SentRequest). r.to == a) requests

abbrev pub requests_to_others : ℕ → List SentRequest → List SentRequest
requests_to_others a requests = filter (λ (r : SentRequest). not (r.to == a)) requests

-- the lost ones, with these
abbrev pub with_lost : List SentRequest → List ℕ → List ℕ
with_lost requests lost = fold (λ ns (r : SentRequest). with_number ns r.number) lost requests
