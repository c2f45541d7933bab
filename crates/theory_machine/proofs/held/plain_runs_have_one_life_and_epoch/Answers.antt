use Rattle.theory_machine.specs.Vocabulary.{state}
use Rattle.theory_machine.proofs.Plain.{first, plain_epoch, plain_shut}
use Rattle.theory_machine.proofs.held.plain_runs_have_one_life_and_epoch.Goals as goal

pub returns-clause-first : goal.returns-clause-first
returns-clause-first c decl acts run plain = first decl acts run plain

pub returns-clause-sites : goal.returns-clause-sites
returns-clause-sites c decl acts site run plain =
    let f = first decl acts run plain in
    (plain_epoch ((state acts).deeds site) 1 (f.deeds site), plain_shut ((state acts).deeds site) (f.deeds site))
