use Rattle.std.proofs.Common.{◌≡◌, ◌≤◌, ◌-◌, ◌++◌, length, drop}
use Rattle.qc_commit.specs.Vocabulary.{cast}
use Rattle.qc_commit.proofs.ballot.cast.Given as goal

-- the ballots so far, with those that are left, are all of them
abbrev pub invariant-ballots : goal.invariant-ballots
invariant-ballots l =
    (l.i ≤ length l.ballots) × (l.all.items ++ cast (drop l.i l.ballots) l.site l.vote ≡ cast l.ballots l.site l.vote)

abbrev pub decreases-ballots : goal.decreases-ballots
decreases-ballots l = length l.ballots - l.i
