use Rattle.qc_text.specs.Vocabulary.{member_text}
use Rattle.qc_text.proofs.Sections.{numbered_more}
use Rattle.qc_text.proofs.parts.put_members.Goals as goal

pub sites-preserved : goal.sites-preserved
sites-preserved c = numbered_more (member_text c.args.set) c.sites.site c.sites.page c.put_member.new.page
    c.args.page.now c.in_ok-put_member.ensures c.sites.invariant
