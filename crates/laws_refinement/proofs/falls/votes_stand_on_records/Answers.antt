use Rattle.laws_refinement.proofs.VotesKept.{votes_stand_on_records}
use Rattle.laws_refinement.proofs.falls.votes_stand_on_records.Goals as goal

pub returns : goal.returns
returns c decl net e to clock accepted reached sent site is =
    votes_stand_on_records decl accepted net reached e sent site to clock is
