use Rattle.std.proofs.Common.{◌≡◌, ◌≤◌, ◌+◌, ◌++◌, length, drop}
use Rattle.qc_msg.specs.Vocabulary.{calls_from}
use Rattle.qc_commit.specs.Vocabulary.{awaited}
use Rattle.qc_commit.proofs.conduct.number_calls.Given as goal

-- the calls so far, with those of the ballots that are left, are all of them
abbrev pub invariant-ballots : goal.invariant-ballots
invariant-ballots l = record {
  few : length l.calls ≤ l.b-index;
  next : l.number ≤ l.first + l.b-index;
  added : l.calls ++ calls_from l.number (awaited (drop l.b-index l.ballots)) ≡ calls_from l.first (awaited l.ballots);
}
