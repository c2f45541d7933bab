use Rattle.std.proofs.Common.{◌++◌}
use Rattle.theory_machine.proofs.ClaimLaws.{verdicts_agree}
use Rattle.theory_machine.proofs.VerdictsStay.{stays}
use Rattle.theory_machine.proofs.records.verdicts_agree.Goals as goal

pub returns-clause-now : goal.returns-clause-now
returns-clause-now c decl acts verdict accepted run = verdicts_agree decl accepted acts run verdict

pub returns-clause-for_ever : goal.returns-clause-for_ever
returns-clause-for_ever c decl acts later verdict accepted run sent =
    verdicts_agree decl accepted (later ++ acts) run verdict (stays later acts verdict sent)
