-- Which cases, a state with an invocation and a response, some rows have: for each state and invocation the set of the
-- responses.
use Rattle.std.specs.Prelude.{ℕ, ◌+◌, ◌*◌, ◌<◌, Bool, List, replicate, set, get_or}
use Rattle.qc_table.specs.Limits.{most_states, most_invocations, most_responses}
use Rattle.qc_table.specs.declared.row.Row.{Row}
use Rattle.qc_table.specs.Sets.{has, with_member}

-- a row within the most states, invocations and responses of any table
pub record IsSmall (row : Row) : Type 0 where
  pub state : row.state < most_states
  pub inv : row.inv < most_invocations
  pub resp : row.resp < most_responses

-- where the set of a row's state and invocation stands
abbrev pub case_place : Row → ℕ
case_place row = row.state * most_invocations + row.inv

-- the set of a row's state and invocation
abbrev pub case_set : List ℕ → Row → ℕ
case_set cases row = get_or cases (case_place row) 0

-- whether the row's case is among these
abbrev pub has_case : List ℕ → Row → Bool
has_case cases row = has (case_set cases row) row.resp

-- the cases with the row's case
abbrev pub with_case : List ℕ → Row → List ℕ
with_case cases row = set cases (case_place row) (with_member (case_set cases row) row.resp)

-- no case
abbrev pub no_cases : List ℕ
no_cases = replicate (most_states * most_invocations) 0
