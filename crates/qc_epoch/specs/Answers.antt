-- What an answer, or that a request is lost, tells the administrator.
use Rattle.std.specs.Prelude.{[], option_and_then, ℕ, ◌==◌, if◌then◌else◌, Bool, false, List, ◌∷◌, ◌++◌, Option, Some}
use Rattle.std.specs.Prelude.{None, is_none}
use Rattle.std.specs.Option.{option_map_or}
use Rattle.qc_plan.specs.declared.standing.Standing.{Standing}
use Rattle.qc_plan.specs.declared.standing.Standing.TheVariants as standings
use Rattle.qc_msg.specs.declared.message.Answer.{Answer}
use Rattle.qc_msg.specs.declared.message.Outcome.{Outcome}
use Rattle.qc_epoch.specs.Admin.{Question, ShutSite}
use Rattle.qc_msg.specs.Vocabulary.{has_installed, shut_in, verdict_in}
use Rattle.qc_msg.specs.declared.payload.Snapshot.{Snapshot}

-- a Close: a site that tells all it has is closed, every other one is missing

abbrev pub standing_of : Option Answer → Standing
standing_of answer =
    option_map_or (λ (x : Snapshot). standings.Granted) (option_and_then shut_in answer) standings.Missing

abbrev pub with_shut_of : List ShutSite → ℕ → Option Answer → List ShutSite
with_shut_of shuts site answer =
    option_map_or
    (λ (s : Snapshot). shuts ++ record { site = site; clock = s.clock; log = s.log; prepared = s.prepared } ∷ [])
    (option_and_then shut_in answer) shuts

-- an Ask: the verdict that its client told, or none

abbrev pub outcome_in : Option Answer → Option Outcome
outcome_in answer = option_and_then verdict_in answer

abbrev pub is_number : ℕ → Option ℕ → Bool
is_number number None = false
is_number number (Some n) = n == number

-- the first that is taken for an Ask counts
abbrev pub taken_for : ℕ → Option Outcome → Question → Question
taken_for number outcome q =
    if is_number number q.number
    then (if is_none q.taken then record q { taken = Some outcome } else q)
    else q

-- an Install: the sites that have installed
abbrev pub with_installed : List ℕ → ℕ → Option Answer → List ℕ
with_installed installed site answer =
    if option_map_or has_installed answer false then installed ++ site ∷ [] else installed
