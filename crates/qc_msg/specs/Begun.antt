-- A begun transaction: the first epoch; the lives of the sites in their first grants that counted; the sites asked.
use Rattle.std.specs.Prelude.{ℕ, ◌==◌, ◌^◌, List, [], ◌∷◌, ◌++◌, map, sum_by, Bool, if◌then◌else◌}
use Rattle.std.specs.List.{find, list_any}
use Rattle.std.specs.Option.{option_map_or}
use Rattle.std.specs.Ordering.{nat_cmp}
use Rattle.qc_list.specs.Vocabulary.{inserted}
use Rattle.qc_msg.specs.declared.begun.Begun.{Begun}
use Rattle.qc_msg.specs.declared.begun.LifeAt.{LifeAt}
use Rattle.qc_msg.specs.declared.message.Message.TheVariants as messages
use Rattle.qc_msg.specs.declared.message.Outcome.{Outcome}
use Rattle.qc_msg.specs.declared.turn.Posting.{Posting}

-- the epoch that everything begins in
abbrev pub first_epoch : ℕ
first_epoch = 1

-- the life of a site in its first grant, or 0 where it hasn't granted
abbrev pub life_of : List LifeAt → ℕ → ℕ
life_of lives site = option_map_or (λ (l : LifeAt). l.life) (find (λ (l : LifeAt). l.site == site) lives) 0

abbrev pub has_granted : List LifeAt → ℕ → Bool
has_granted lives site = list_any (λ (l : LifeAt). l.site == site) lives

-- a grant of a site in a life: its first one stays
abbrev pub with_life : List LifeAt → ℕ → ℕ → List LifeAt
with_life lives site life =
    if has_granted lives site then lives else lives ++ record { site = site; life = life } ∷ []

-- a site among ascending sites, once
abbrev pub with_site : List ℕ → ℕ → List ℕ
with_site sites site = inserted nat_cmp sites site

-- sites as a set: site k is bit k
abbrev pub site_set : List ℕ → ℕ
site_set sites = sum_by (λ (site : ℕ). 2 ^ site) sites

-- a verdict goes to each site that the transaction asked, ascending
abbrev pub decisions : Begun → Outcome → List Posting
decisions b outcome = map (λ site. record { to = site; message = messages.Decision b.tx outcome }) b.asked
