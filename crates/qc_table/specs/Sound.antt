use Rattle.std.specs.Prelude.{◌≡◌, ◌<◌, ◌≤◌, None}
use Rattle.qc_table.specs.Limits.{most_states, most_invocations, most_responses}
use Rattle.qc_table.specs.Rules.{Rules}
use Rattle.qc_table.specs.Faults.{fault_of}

-- counts within the limits, at least one of each, a start among the states, and rows without fault
pub record IsSound (rules : Rules) : Type 0 where
  pub has_state : 0 < rules.states
  pub has_inv : 0 < rules.invs
  pub has_resp : 0 < rules.resps
  pub states : rules.states ≤ most_states
  pub invs : rules.invs ≤ most_invocations
  pub resps : rules.resps ≤ most_responses
  pub begins : rules.start < rules.states
  pub faultless : fault_of rules ≡ None
