use Rattle.std.proofs.Common.{◌∷◌, [], ◌∙◌, ap, false}
use Rattle.qc_client.specs.Vocabulary.{outcome_by}
use Rattle.qc_commit.specs.Vocabulary.{known_by, record_of}
use Rattle.qc_msg.specs.declared.record.Record.TheVariants as records
use Rattle.qc_recover.specs.Clients.{Kept, kept_by}
use Rattle.qc_recover.proofs.ClientLaws.{kept_more, last_known, none_known, others_known}
use Rattle.qc_recover.proofs.laws.last_commits_count.Goals as goal

pub returns-clause-last : goal.returns-clause-last
returns-clause-last c = λ client rs commit.
    ap (λ (k : Kept). outcome_by (known_by (record_of k.commits commit.tx)) false)
    (kept_more rs (records.Commit commit ∷ []))
    ∙ ap (λ o. outcome_by (known_by o) false) (last_known (kept_by rs).commits commit)

pub returns-clause-beside : goal.returns-clause-beside
returns-clause-beside c = λ client rs commit tx other.
    ap (λ (k : Kept). outcome_by (known_by (record_of k.commits tx)) false) (kept_more rs (records.Commit commit ∷ []))
    ∙ ap (λ o. outcome_by (known_by o) false) (others_known (kept_by rs).commits commit tx other)

pub returns-clause-none : goal.returns-clause-none
returns-clause-none c = λ client rs tx none. ap (λ o. outcome_by (known_by o) false) (none_known rs tx none)
