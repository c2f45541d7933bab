use Rattle.laws_reach.proofs.Falling.{dealt_committed, dealt_unknown, none_rose, post_tells, read_later, told_committed}
use Rattle.laws_reach.proofs.Falling.{told_nothing, told_unknown}
use Rattle.laws_reach.proofs.wrong_told.right_ends_through_falls_are_taken.Goals as goal

pub returns-clause-told_unknown : goal.returns-clause-told_unknown
returns-clause-told_unknown g = told_unknown

pub returns-clause-dealt_unknown : goal.returns-clause-dealt_unknown
returns-clause-dealt_unknown g = dealt_unknown

pub returns-clause-none_rose : goal.returns-clause-none_rose
returns-clause-none_rose g = none_rose

pub returns-clause-told_committed : goal.returns-clause-told_committed
returns-clause-told_committed g = told_committed

pub returns-clause-dealt_committed : goal.returns-clause-dealt_committed
returns-clause-dealt_committed g = dealt_committed

pub returns-clause-told_nothing : goal.returns-clause-told_nothing
returns-clause-told_nothing g = told_nothing

pub returns-clause-read_later : goal.returns-clause-read_later
returns-clause-read_later g = read_later

pub returns-clause-post : goal.returns-clause-post
returns-clause-post g = post_tells
