use Rattle.qc_accept.proofs.Indexed.{name_inserted}
use Rattle.qc_accept.proofs.names.Index.insert.Goals as goal

pub returns : goal.returns
returns c = name_inserted c.args.self.now.texts.keys c.insert.new.self.keys c.args.text c.in_ok-insert.field-0
    c.in_ok-insert.ensures.added c.in_ok-insert.ensures.keys
