use Rattle.qc_recover.specs.Vocabulary.{kept_by}
use Rattle.qc_recover.proofs.SiteLaws.{just_held, locks_held, own_held}
use Rattle.qc_recover.proofs.laws.what_is_promised_is_held.Goals as goal

pub returns-clause-locks : goal.returns-clause-locks
returns-clause-locks c = λ number rs p member. locks_held rs p member

pub returns-clause-own : goal.returns-clause-own
returns-clause-own c = λ number rs p member. own_held rs p member

pub returns-clause-just : goal.returns-clause-just
returns-clause-just c = λ number rs tx is. just_held (kept_by rs).promises tx is
