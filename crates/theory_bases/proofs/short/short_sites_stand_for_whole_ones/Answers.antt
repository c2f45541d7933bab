use Rattle.theory_bases.proofs.Stands.{short_sites_stand_for_whole_ones}
use Rattle.theory_bases.proofs.short.short_sites_stand_for_whole_ones.Goals as goal

pub returns : goal.returns
returns c whole short ok = short_sites_stand_for_whole_ones whole short ok
