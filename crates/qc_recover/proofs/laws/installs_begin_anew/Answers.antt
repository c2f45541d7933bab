use Rattle.std.proofs.Common.{◌∷◌, ◌∙◌, [], ap, max}
use Rattle.qc_entry.proofs.Union.{union-nil}
use Rattle.qc_msg.specs.declared.record.Record.TheVariants as records
use Rattle.qc_msg.specs.Vocabulary.{start_with}
use Rattle.qc_recover.proofs.SiteLaws.{site_more}
use Rattle.qc_recover.specs.Vocabulary.{site_of}
use Rattle.qc_recover.proofs.laws.installs_begin_anew.Goals as goal
use Rattle.qc_site.specs.Vocabulary.{SiteState, latest, new_site}

pub returns-clause-anew : goal.returns-clause-anew
returns-clause-anew c = λ number rs epoch clock lines.
    site_more number rs (records.Install (start_with epoch clock lines) ∷ [])
    ∙ ap
    (λ is. record (new_site number) {
      life = (site_of number rs).life;
      epoch = epoch;
      began = lines;
      arrived = is;
      clock = max (latest (site_of number rs).clock lines) clock;
    })
    (union-nil lines)

pub returns-clause-late : goal.returns-clause-late
returns-clause-late c = λ number rs epoch clock done lines tx.
    ap (λ (s : SiteState). s.log)
    (site_more number rs (records.Install (start_with epoch clock lines) ∷ records.Done tx done ∷ []))
