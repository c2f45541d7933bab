-- What holds of a desk in every run, and its calls rely on.
use Rattle.std.specs.Prelude.{◌^◌, ◌<◌, ◌≤◌, Option, Some, None, length}
use Rattle.qc_decl.specs.Vocabulary.{most_sites}
use Rattle.qc_commit.specs.declared.desk.Desk.{Desk}
use Rattle.qc_commit.specs.declared.desk.Voting.{Voting}

-- a commit asks at most as many sites as there are
abbrev pub AsksFew : Option Voting → Type 0
AsksFew None = Unit {0}
AsksFew (Some v) = length v.ballots ≤ most_sites

-- the clock is far from the end of its type, and few sites are asked
pub record DeskFits (desk : Desk) : Type 0 where
  pub clock : desk.clock.value < 2 ^ 63
  pub few : AsksFew desk.voting
