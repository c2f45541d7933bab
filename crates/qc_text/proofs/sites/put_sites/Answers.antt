use Rattle.qc_text.specs.Vocabulary.{site_line}
use Rattle.qc_text.proofs.Sections.{numbered_more}
use Rattle.qc_text.proofs.sites.put_sites.Goals as goal

pub sites-preserved : goal.sites-preserved
sites-preserved c = numbered_more (site_line c.args.entries.now) c.sites.number c.sites.page c.put_site.new.page
    c.put.new.self c.in_ok-put_site.ensures c.sites.invariant
