use Rattle.std.proofs.Common.{◌≡◌, drop}
use Rattle.qc_msg.specs.Vocabulary.{life_of}
use Rattle.qc_msg.proofs.begun.life_of.Given as goal

abbrev pub invariant-lives : goal.invariant-lives
invariant-lives l = life_of (drop l.l-index l.l-items) l.site ≡ life_of l.lives l.site
