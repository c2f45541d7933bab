-- The open requests of a running round: the first thing that is taken for a request counts.
use Rattle.std.specs.Prelude.{ℕ, ◌+◌, ◌==◌, if◌then◌else◌, not, length, List, [], ◌∷◌, ◌++◌, filter, Option, option_map}
use Rattle.std.specs.List.{find}
use Rattle.qc_msg.specs.declared.call.Call.{Call}

-- the site that was asked by the open request of this number, if there is one
abbrev pub site_called : List Call → ℕ → Option ℕ
site_called calls number = option_map (λ (c : Call). c.site) (find (λ (c : Call). c.number == number) calls)

-- the other open requests
abbrev pub without_call : List Call → ℕ → List Call
without_call calls number = filter (λ (c : Call). not (c.number == number)) calls

-- one open request more
abbrev pub with_call : List Call → ℕ → ℕ → List Call
with_call calls number site = calls ++ record { number = number; site = site } ∷ []

-- open requests to sites, one after another, numbered from this one on
abbrev pub calls_from : ℕ → List ℕ → List Call
calls_from first [] = []
calls_from first (site ∷ sites) = record { number = first; site = site } ∷ calls_from (first + 1) sites

-- the messages of the last turn have the numbers from this one on: where no request is open, these sites were asked in
-- it
abbrev pub numbered_from : List Call → List ℕ → ℕ → List Call
numbered_from calls sites first = if length calls == 0 then calls_from first sites else calls
