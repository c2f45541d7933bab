use Rattle.laws_bounds.proofs.TurnsSpelled.{turn_spelled}
use Rattle.laws_bounds.proofs.spelling.records_of_lawful_turns_have_spellings.Goals as goal

pub returns-clause-input : goal.returns-clause-input
returns-clause-input g c =
    λ decl script accepted sound let_rise h open_inputs run short a turn r law is.
    turn_spelled decl script accepted sound g.C.ConductWithFalls.fits let_rise h open_inputs run short a turn law r is
