use Rattle.std.proofs.Common.{codes}
use Rattle.qc_text.proofs.Numbered.{line_of, three_more}
use Rattle.qc_text.proofs.loads.put_operations.Goals as goal

pub returns : goal.returns
returns c =
    let responses = line_of (codes "operations ") _ _ _ _ c.responses.ensures c.in_ok-put_number.ensures in
    let writes = line_of (codes "writes ") _ _ _ _ c.writes.ensures c.in_ok-put_number-2.ensures in
    let ones = line_of (codes "ones ") _ _ _ _ c.ones.ensures c.in_ok-put_number-3.ensures in
    three_more _ _ _ _ _ _ _ responses writes ones
