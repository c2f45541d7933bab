use Rattle.laws_refinement.proofs.VotesLater.{later_votes_name_later_lives}
use Rattle.laws_refinement.proofs.falls.later_votes_name_later_lives.Goals as goal

pub returns : goal.returns
returns c decl net next e to clock accepted reached later sent site is =
    later_votes_name_later_lives decl accepted net reached next later e sent site to clock is
