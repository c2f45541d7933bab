use Rattle.laws_atomic.proofs.Runs.{decisions_tell_the_records}
use Rattle.laws_atomic.proofs.atomic.decisions_tell_the_records.Goals as goal

pub returns : goal.returns
returns c decl script h open_inputs e tx verdict accepted sound run sent is =
    decisions_tell_the_records decl script h open_inputs accepted sound run e tx verdict sent is
