use Rattle.std.proofs.Common.{◌≡◌, None, rules}
use Rattle.qc_cert.proofs.Faultless.{no_fault_is_inductive}
use Rattle.qc_cert.proofs.Walk.{inductive_lists_make_relations_exact}
use Rattle.qc_cert.specs.Vocabulary.{fault_of}
use Rattle.qc_cert.proofs.rules.check.Goals as goal

pub returns-clause-inductive : goal.returns-clause-inductive
returns-clause-inductive c =
    no_fault_is_inductive c.args.kind.now c.args.list.now c.tables_are_sound.ensures (search rules)

pub returns-clause-exact : goal.returns-clause-exact
returns-clause-exact c =
    let none : fault_of c.args.kind.now c.args.list.now ≡ None = search rules in
    inductive_lists_make_relations_exact c.args.kind.now c.args.list.now
    (no_fault_is_inductive c.args.kind.now c.args.list.now c.tables_are_sound.ensures none)
