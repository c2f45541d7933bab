use Rattle.laws_refinement.proofs.Voted.{not_behind, remembers}
use Rattle.laws_refinement.proofs.falls.asked_sites_remember.Goals as goal

pub returns-clause-behind : goal.returns-clause-behind
returns-clause-behind c decl acts net a e tx epoch life g accepted r site up sent to is voting counts its at =
    not_behind decl accepted acts net r a site up e sent to tx epoch life is voting g counts its at

pub returns-clause-held : goal.returns-clause-held
returns-clause-held c decl acts net a e tx epoch life g item accepted r site up sent to is voting counts its at has free
    = remembers decl accepted acts net r a site up e sent to tx epoch life is voting g counts its at free item has
