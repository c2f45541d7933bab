-- Each test of a number says what its words say.
use Rattle.std.proofs.Common.{◌≡◌, ℕ, ◌+◌, ◌<◌, ◌≤◌, Bool, true, false, ◌||◌, ◌==◌, nat_le, nat_lt, List, [], ◌∷◌}
use Rattle.std.proofs.Common.{Option, Some, None, refl, ap, arith}
use Rattle.std.specs.Prelude.{is_some}
use Rattle.std.specs.List.{AllByRecursion as Every, list_all}
use Rattle.std.specs.Option.{option_map_or}
use Rattle.std.proofs.lemmas.Bool.Decides.{nat_tests}
use Rattle.qc_decl.specs.Vocabulary.{administrator, client_actor, is_client, is_site, plan_in, table_at}
use Rattle.qc_decl.specs.declared.declaration.Declaration.{Declaration}
use Rattle.qc_fit.specs.Vocabulary.{HasNumber, HasPlan, HasResponse, greatest_clock, has_client, has_epoch}
use Rattle.qc_fit.specs.Vocabulary.{has_response, is_administrator, is_clock, is_this_client, most_records}
use Rattle.qc_table.specs.Vocabulary.{Rules}
use Rattle.qc_list.proofs.Booleans.{and_parts}
use Rattle.std.proofs.lemmas.Bool.{and_from}
use Rattle.qc_list.proofs.Options.{some_of}

-- lists

pub every_of : {X : Type 0} (test : X → Bool) (P : X → Type 0) → ((x : X) → test x ≡ true → P x) → (xs : List X)
    → list_all test xs ≡ true → Every P xs
every_of test P is [] e = tt
every_of test P is (x ∷ xs) e = let b = and_parts (test x) (list_all test xs) e in (is x b.0, every_of test P is xs b.1)

pub all_of : {X : Type 0} (test : X → Bool) (P : X → Type 0) → ((x : X) → P x → test x ≡ true) → (xs : List X)
    → Every P xs → list_all test xs ≡ true
all_of test P is [] every = refl
all_of test P is (x ∷ xs) every = and_from (test x) (list_all test xs) (is x every.0) (all_of test P is xs every.1)

-- numbers

pub few_of : (before : ℕ) → nat_lt before most_records ≡ true → before < most_records
few_of before e = grind (arith, nat_tests, e)

pub of_few : (before : ℕ) → before < most_records → nat_lt before most_records ≡ true
of_few before h = grind (arith, nat_tests, h)

pub clock_of : (clock : ℕ) → is_clock clock ≡ true → clock ≤ greatest_clock
clock_of clock e = grind (arith, nat_tests, e)

pub of_clock : (clock : ℕ) → clock ≤ greatest_clock → is_clock clock ≡ true
of_clock clock h = grind (arith, nat_tests, h)

pub client_of : (decl : Declaration) (client : ℕ) → has_client decl client ≡ true → client < decl.clients
client_of decl client e = grind (arith, nat_tests, e)

pub of_client : (decl : Declaration) (client : ℕ) → client < decl.clients → has_client decl client ≡ true
of_client decl client h = grind (arith, nat_tests, h)

pub plan_of : (decl : Declaration) (epoch : ℕ) → has_epoch decl epoch ≡ true → HasPlan decl epoch
plan_of decl epoch e = some_of (plan_in decl epoch) e

pub of_plan : (decl : Declaration) (epoch : ℕ) → HasPlan decl epoch → has_epoch decl epoch ≡ true
of_plan decl epoch h = ap is_some h.1

below_of : (many : Rules → ℕ) (o : Option Rules) (n : ℕ)
    → option_map_or (λ (t : Rules). nat_lt n (many t)) o false ≡ true → (t : Rules) × (o ≡ Some t) × (n < many t)
below_of many None n e = absurd cc
below_of many (Some t) n e = let below : nat_lt n (many t) ≡ true = e in (t, refl, grind (arith, nat_tests, below))

pub number_of : (decl : Declaration) (many : Rules → ℕ) (object n : ℕ)
    → option_map_or (λ (t : Rules). nat_lt n (many t)) (table_at decl object) false ≡ true
    → HasNumber decl many object n
number_of decl many object n e = let f = below_of many (table_at decl object) n e in
    record { table = f.0; declared = f.1; below = f.2 }

pub of_number : (decl : Declaration) (many : Rules → ℕ) (object n : ℕ) → HasNumber decl many object n
    → option_map_or (λ (t : Rules). nat_lt n (many t)) (table_at decl object) false ≡ true
of_number decl many object n h =
    let below = h.below in
    let small : nat_lt n (many h.table) ≡ true = grind (arith, nat_tests, below) in
    rw (h.declared) small

pub response_of : (decl : Declaration) (object : ℕ) (resp : Option ℕ) → has_response decl object resp ≡ true
    → HasResponse decl object resp
response_of decl object None e = tt
response_of decl object (Some resp) e = number_of decl (λ t. t.resps) object resp e

pub of_response : (decl : Declaration) (object : ℕ) (resp : Option ℕ) → HasResponse decl object resp
    → has_response decl object resp ≡ true
of_response decl object None h = refl
of_response decl object (Some resp) h = of_number decl (λ t. t.resps) object resp h

-- actors

pub site_of : (decl : Declaration) (actor : ℕ) → is_site decl actor ≡ true → actor < decl.sites
site_of decl actor e = grind (arith, nat_tests, e)

pub of_site : (decl : Declaration) (actor : ℕ) → actor < decl.sites → is_site decl actor ≡ true
of_site decl actor h = grind (arith, nat_tests, h)

pub administrator_of : (decl : Declaration) (actor : ℕ) → is_administrator decl actor ≡ true
    → actor ≡ administrator decl
administrator_of decl actor e = grind (arith, nat_tests, e)

pub of_administrator : (decl : Declaration) (actor : ℕ) → actor ≡ administrator decl
    → is_administrator decl actor ≡ true
of_administrator decl actor h = grind (arith, nat_tests, h)

pub this_client_of : (decl : Declaration) (actor client : ℕ) → is_this_client decl actor client ≡ true
    → (client < decl.clients) × (actor ≡ client_actor decl client)
this_client_of decl actor client e =
    let b = and_parts (is_client decl actor) (actor == client_actor decl client) e in
    let c = and_parts (nat_le decl.sites actor) (nat_lt actor (decl.sites + decl.clients)) b.0 in
    let high : nat_lt actor (decl.sites + decl.clients) ≡ true = c.1 in
    let same : (actor == decl.sites + client) ≡ true = b.1 in
    let is : actor ≡ decl.sites + client = grind (arith, nat_tests, same) in
    let below : actor < decl.sites + decl.clients = grind (arith, nat_tests, high) in
    (omega (arith, is, below), is)

pub of_this_client : (decl : Declaration) (actor client : ℕ) → client < decl.clients → actor ≡ client_actor decl client
    → is_this_client decl actor client ≡ true
of_this_client decl actor client h is =
    let low : nat_le decl.sites actor ≡ true = grind (arith, nat_tests, is) in
    let high : nat_lt actor (decl.sites + decl.clients) ≡ true = grind (arith, nat_tests, is, h) in
    let same : (actor == client_actor decl client) ≡ true = grind (arith, nat_tests, is) in
    and_from _ _ (and_from _ _ low high) same

pub rises_of : (decl : Declaration) (actor : ℕ)
    → (is_site decl actor || (is_client decl actor || is_administrator decl actor)) ≡ true → actor ≤ administrator decl
rises_of decl actor e = grind (arith, nat_tests, e)

pub of_rises : (decl : Declaration) (actor : ℕ) → actor ≤ administrator decl
    → (is_site decl actor || (is_client decl actor || is_administrator decl actor)) ≡ true
of_rises decl actor h = grind (arith, nat_tests, h)
