use Rattle.std.proofs.Common.{◌∙◌, ap}
use Rattle.qc_msg.specs.declared.record.Record.TheVariants as records
use Rattle.qc_site.specs.Vocabulary.{prepared_of}
use Rattle.qc_site.proofs.Votes.{prepared-without, prepared-without_other}
use Rattle.qc_recover.specs.Vocabulary.{kept_by}
use Rattle.qc_recover.proofs.SiteLaws.{promise_found, promise_other, promises_more}
use Rattle.qc_recover.proofs.laws.last_prepares_are_promises.Goals as goal

pub returns-clause-prepared : goal.returns-clause-prepared
returns-clause-prepared c = λ number rs p.
    ap (λ ps. prepared_of ps p.tx) (promises_more number rs (records.Prepare p)) ∙ promise_found (kept_by rs).promises p

pub returns-clause-done : goal.returns-clause-done
returns-clause-done c = λ number rs tx clock.
    ap (λ ps. prepared_of ps tx) (promises_more number rs (records.Done tx clock))
    ∙ prepared-without (kept_by rs).promises tx

pub returns-clause-beside_prepared : goal.returns-clause-beside_prepared
returns-clause-beside_prepared c = λ number rs p tx other.
    ap (λ ps. prepared_of ps tx) (promises_more number rs (records.Prepare p))
    ∙ promise_other (kept_by rs).promises p tx other

pub returns-clause-beside_done : goal.returns-clause-beside_done
returns-clause-beside_done c = λ number rs tx other clock apart.
    ap (λ ps. prepared_of ps other) (promises_more number rs (records.Done tx clock))
    ∙ prepared-without_other (kept_by rs).promises tx other apart
