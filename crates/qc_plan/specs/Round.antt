-- A round over sites: whom it asks, what came of the requests, and what it comes to (weighted voting, Gifford 1979).
use Rattle.std.specs.Prelude.{ℕ, zero, suc, ◌-◌, ◌==◌, ◌&&◌, ◌||◌, nat_lt, nat_le, Bool, true, false, if◌then◌else◌}
use Rattle.std.specs.Prelude.{List, [], ◌∷◌, ◌++◌, drop, take, filter, length, slice_index, Option, Some, None, is_some}
use Rattle.std.specs.Prelude.{unwrap_or}
use Rattle.std.specs.List.{list_any, list_all, range_with_len}
use Rattle.std.specs.Option.{option_or}
use Rattle.qc_plan.specs.Weights.{weight}
use Rattle.qc_plan.specs.declared.standing.Asked.{Asked}
use Rattle.qc_plan.specs.declared.standing.Standing.{Standing}
use Rattle.qc_plan.specs.declared.standing.Standing.TheVariants as standings
use Rattle.qc_plan.specs.declared.standing.Verdict.{Verdict}
use Rattle.qc_plan.specs.declared.standing.Verdict.TheVariants as verdicts

pub record RoundState : Type 0 where
  -- each site's weight, and the weight that is needed
  pub weights : List ℕ
  pub need : ℕ
  -- the sites that were asked, in the order of asking
  pub asked : List Asked
  -- the other sites of positive weight, in the order in which they would be asked
  pub rest : List ℕ

-- sites of positive weight, in the cyclic order from one of them

abbrev pub weight_at : List ℕ → ℕ → ℕ
weight_at weights site = slice_index weights site

abbrev pub weighing : List ℕ → List ℕ → List ℕ
weighing weights sites = filter (λ site. nat_lt 0 (weight_at weights site)) sites

abbrev pub cyclic : ℕ → ℕ → List ℕ
cyclic sites from = range_with_len from (sites - from) ++ range_with_len 0 from

-- a round in which nobody was asked yet
abbrev pub start : List ℕ → ℕ → ℕ → RoundState
start weights from need =
    record { weights = weights; need = need; asked = []; rest = weighing weights (cyclic (length weights) from) }

-- the asked sites, and those of them that granted, as sets

abbrev pub is_asked : List Asked → ℕ → Bool
is_asked asked site = list_any (λ (a : Asked). a.site == site) asked

abbrev pub is_granted : Option Standing → Bool
is_granted None = false
is_granted (Some standings.Granted) = true
is_granted (Some (standings.Clash tx)) = false
is_granted (Some (standings.Closed epoch)) = false
is_granted (Some standings.Missing) = false

abbrev pub has_granted : List Asked → ℕ → Bool
has_granted asked site = list_any (λ (a : Asked). (a.site == site) && is_granted a.standing) asked

-- what is known of each asked site
abbrev pub all_noted : List Asked → Bool
all_noted asked = list_all (λ (a : Asked). is_some a.standing) asked

-- the first asked site that said that its epoch is closed, and the first that told of a clash

abbrev pub closed_at : ℕ → Option Standing → Option Verdict
closed_at site None = None
closed_at site (Some standings.Granted) = None
closed_at site (Some (standings.Clash tx)) = None
closed_at site (Some (standings.Closed epoch)) = Some (verdicts.Closed epoch site)
closed_at site (Some standings.Missing) = None

abbrev pub clash_at : ℕ → Option Standing → Option Verdict
clash_at site None = None
clash_at site (Some standings.Granted) = None
clash_at site (Some (standings.Clash tx)) = Some (verdicts.Clash tx site)
clash_at site (Some (standings.Closed epoch)) = None
clash_at site (Some standings.Missing) = None

abbrev pub first_closed : List Asked → Option Verdict
first_closed [] = None
first_closed (a ∷ rest) = option_or (closed_at a.site a.standing) (first_closed rest)

abbrev pub first_clash : List Asked → Option Verdict
first_clash [] = None
first_clash (a ∷ rest) = option_or (clash_at a.site a.standing) (first_clash rest)

-- what refuses a round: a closed epoch before a clash
abbrev pub refusal : List Asked → Option Verdict
refusal asked = option_or (first_closed asked) (first_clash asked)

-- what a round that nothing refuses comes to with this weight of grants
abbrev pub settled : RoundState → ℕ → Verdict
settled r got =
    if nat_le r.need got then verdicts.Met
    else (if length r.rest == 0 then verdicts.Short got r.need else verdicts.Waiting)

-- what a round comes to: nothing before each asked site is noted
abbrev pub verdict : RoundState → Verdict
verdict r =
    if all_noted r.asked
    then unwrap_or (refusal r.asked) (settled r (weight (has_granted r.asked) r.weights))
    else verdicts.Waiting

abbrev pub is_waiting : Verdict → Bool
is_waiting verdicts.Waiting = true
is_waiting verdicts.Met = false
is_waiting (verdicts.Closed epoch site) = false
is_waiting (verdicts.Clash tx site) = false
is_waiting (verdicts.Short got need) = false

-- a further site may be asked: the asked ones are too light, or all are noted and the round still waits
abbrev pub may_ask : RoundState → Bool
may_ask r = is_waiting (verdict r) && (nat_lt (weight (is_asked r.asked) r.weights) r.need || all_noted r.asked)

abbrev pub first : List ℕ → Option ℕ
first [] = None
first (site ∷ rest) = Some site

-- the site to be asked next
abbrev pub next_site : RoundState → Option ℕ
next_site r = if may_ask r then first r.rest else None

-- the round once the first site of a rest is asked
abbrev pub asking_first : RoundState → List ℕ → RoundState
asking_first r [] = r
asking_first r (site ∷ rest) = record r { asked = r.asked ++ record { site = site; standing = None } ∷ []; rest = rest }

-- the round once the next site is asked, if there is one
abbrev pub asking_next : RoundState → RoundState
asking_next r = if may_ask r then asking_first r r.rest else r

-- the place of an asked site, or the number of asked ones where it isn't among them
abbrev pub place_in : ℕ → List Asked → ℕ
place_in site [] = 0
place_in site (a ∷ rest) = if a.site == site then 0 else suc (place_in site rest)

-- an asked site with what came of its request

abbrev pub note_in : ℕ → Standing → List Asked → List Asked
note_in site standing [] = []
note_in site standing (a ∷ rest) =
    if a.site == site
    then record { site = site; standing = Some standing } ∷ rest
    else a ∷ note_in site standing rest

abbrev pub note : RoundState → ℕ → Standing → RoundState
note r site standing = record r { asked = note_in site standing r.asked }

-- all sites to be asked now: the smallest prefix that, with those asked, weighs what is needed; then one further site

abbrev pub prefix : List ℕ → ℕ → List Asked → List ℕ → List ℕ
prefix weights need asked [] = []
prefix weights need asked (site ∷ rest) =
    if nat_lt (weight (is_asked asked) weights) need
    then site ∷ prefix weights need (asked ++ record { site = site; standing = None } ∷ []) rest
    else []

abbrev pub wanted : RoundState → List ℕ
wanted r =
    if is_waiting (verdict r)
    then (if nat_lt (weight (is_asked r.asked) r.weights) r.need then prefix r.weights r.need r.asked r.rest
    else (if all_noted r.asked then take 1 r.rest else []))
    else []

-- the round once these are asked, one after another
abbrev pub asking_all : RoundState → List ℕ → RoundState
asking_all r [] = r
asking_all r (site ∷ sites) =
    asking_all (record r {
      asked = r.asked
          ++ record { site = site; standing = None } ∷ [];
      rest = drop 1 r.rest;
    }) sites

-- asking until no site is to be asked, so many times at most: the sites, and the round then

abbrev pub asking_on : RoundState → Option ℕ → RoundState → (RoundState → List ℕ × RoundState) → List ℕ × RoundState
asking_on r None after more = ([], r)
asking_on r (Some site) after more = (site ∷ (more after).0, (more after).1)

abbrev pub asking_in_turn : ℕ → RoundState → List ℕ × RoundState
asking_in_turn zero r = ([], r)
asking_in_turn (suc turns) r = asking_on r (next_site r) (asking_next r) (asking_in_turn turns)
