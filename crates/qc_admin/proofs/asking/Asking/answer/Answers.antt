use Rattle.std.proofs.Common.{map, sym, ap, ◌∙◌, Option}
use Rattle.std.specs.Option.{option_copied}
use Rattle.qc_epoch.specs.Vocabulary.{taken_for}
use Rattle.qc_msg.specs.declared.message.Outcome.{Outcome}
use Rattle.qc_admin.specs.Vocabulary.{asking_of}
use Rattle.qc_admin.proofs.Moves.{asked_last}
use Rattle.qc_admin.proofs.asking.Asking.answer.Goals as goal

pub returns-clause-ok : goal.returns-clause-ok
returns-clause-ok c =
    let a = c.args.self.now in
    let number = c.args.number in
    let outcome : Option Outcome = c.outcome_in-outcome.result in
    asked_last c.args.decl.now c.settle.result a number (option_copied c.args.answer) outcome c.take-2.new.self
    (asking_of a)
    c.outcome_in-outcome.ensures (c.take-2.ensures ∙ ap (map (taken_for number outcome)) c.in_ok-questions.ensures)
    (sym (c.ends_with.ensures outcome) ∙ c.if-not-ends_with.false) c.settle.ensures
