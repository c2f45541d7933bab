-- Whether a command goes on.
use Rattle.std.specs.Prelude.{◌≡◌, ℕ, ◌<◌, Bool, true, false, is_some, List, [], length}
use Rattle.qc_msg.specs.declared.call.Call.{Call}
use Rattle.qc_front.specs.declared.doing.Doing.{Doing}
use Rattle.qc_front.specs.declared.doing.Doing.TheVariants.{Idle, Reading, Appending}
use Rattle.qc_front.specs.Front.{FrontMove}

-- whether nothing is waited for
abbrev pub is_idle : Doing → Bool
is_idle Idle = true
is_idle (Reading object inv calls round) = false
is_idle (Appending object inv event calls round) = false

-- the open requests
abbrev pub calls_in : Doing → List Call
calls_in Idle = []
calls_in (Reading object inv calls round) = calls
calls_in (Appending object inv event calls round) = calls

-- a `do` is told its reply just where nothing is waited for any more
abbrev pub GoesOn : FrontMove → Type 0
GoesOn move = is_some move.turn.told ≡ is_idle move.front.doing
