use Rattle.theory_onecopy.specs.Vocabulary.{sorted}
use Rattle.theory_onecopy.proofs.Committed.{records_are_sorted}
use Rattle.theory_onecopy.proofs.Seen.{answers_are_from_views}
use Rattle.theory_machine.specs.Vocabulary.{placed, state}
use Rattle.theory_machine.proofs.ClaimLaws.{records_are_apart}
use Rattle.theory_machine.proofs.OneCopyLaw.{from_views}
use Rattle.theory_machine.proofs.logs.runs_answer_from_views.Goals as goal

pub returns : goal.returns
returns c decl acts before after b accepted run split =
    let s = records_are_sorted (state acts).records (records_are_apart decl accepted acts run).stamps in
    answers_are_from_views decl (placed (state acts).executed (sorted (state acts).records))
    (from_views decl accepted acts run (sorted (state acts).records) s.0 s.1) before b after split
