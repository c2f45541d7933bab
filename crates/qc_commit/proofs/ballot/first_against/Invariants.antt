use Rattle.std.proofs.Common.{◌≡◌, drop}
use Rattle.qc_commit.specs.Vocabulary.{first_against}
use Rattle.qc_commit.proofs.ballot.first_against.Given as goal

abbrev pub invariant-ballots : goal.invariant-ballots
invariant-ballots l = first_against (drop l.b-index l.b-items) ≡ first_against l.ballots
