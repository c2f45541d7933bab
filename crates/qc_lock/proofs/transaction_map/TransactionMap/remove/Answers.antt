use Rattle.std.proofs.Common.{◌≡◌, None, Some, sym, ◌∙◌, ap, subst}
use Rattle.std.specs.Map.{values_of}
use Rattle.qc_lock.specs.Vocabulary.{number_of, one_of, without_one}
use Rattle.qc_lock.proofs.NumberedEntries.{entry_at, entry_none}
use Rattle.qc_lock.proofs.Numbers.{values_taken, without_none}
use Rattle.qc_lock.proofs.Numbering.{numbered_taken}
use Rattle.qc_lock.proofs.transaction_map.TransactionMap.remove.Goals as goal

pub returns-in_err-number-clause-one : goal.returns-in_err-number-clause-one
returns-in_err-number-clause-one g c =
    let tx_of = g.T.OfTransaction.tx_of in
    let none : one_of tx_of c.args.self.now c.args.tx ≡ None =
    subst (λ xs. one_of tx_of xs c.args.tx ≡ None) c.self.view_is
    (entry_none tx_of c.self.inside.entries.entries c.args.tx
    (sym (c.in_err-number.ensures.value ∙ c.self.invariant.known c.args.tx))) in
    c.from_residual.ensures ∙ sym none

pub returns-in_err-number-clause-after : goal.returns-in_err-number-clause-after
returns-in_err-number-clause-after g c =
    let tx_of = g.T.OfTransaction.tx_of in
    let none : one_of tx_of c.args.self.now c.args.tx ≡ None =
    subst (λ xs. one_of tx_of xs c.args.tx ≡ None) c.self.view_is
    (entry_none tx_of c.self.inside.entries.entries c.args.tx
    (sym (c.in_err-number.ensures.value ∙ c.self.invariant.known c.args.tx))) in
    c.self.view_is ∙ sym (without_none tx_of c.args.self.now c.args.tx none)

pub invariant_of-self-2 : goal.invariant_of-self-2
invariant_of-self-2 g c =
    let tx_of = g.T.OfTransaction.tx_of in
    let number : number_of tx_of c.self.inside.entries.entries c.args.tx ≡ Some c.in_ok-number.number =
    sym (c.in_ok-number.ensures.value ∙ c.self.invariant.known c.args.tx) in
    numbered_taken tx_of c.self.inside.entries c.remove-2.new.self c.self.inside.numbers c.remove.new.self
    c.self.inside.next c.args.tx c.in_ok-number.number
    c.self.invariant c.remove-2.ensures.ordered c.remove-2.ensures.entries number c.remove.ensures.updates.0

pub returns-clause-one : goal.returns-clause-one
returns-clause-one g c =
    let tx_of = g.T.OfTransaction.tx_of in
    let number : number_of tx_of c.self.inside.entries.entries c.args.tx ≡ Some c.in_ok-number.number =
    sym (c.in_ok-number.ensures.value ∙ c.self.invariant.known c.args.tx) in
    c.remove-2.ensures.value ∙ entry_at tx_of c.self.inside.entries.entries c.args.tx c.in_ok-number.number
    c.self.invariant.ordered number ∙ ap (λ xs. one_of tx_of xs c.args.tx) c.self.view_is

pub returns-clause-after : goal.returns-clause-after
returns-clause-after g c =
    let tx_of = g.T.OfTransaction.tx_of in
    let number : number_of tx_of c.self.inside.entries.entries c.args.tx ≡ Some c.in_ok-number.number =
    sym (c.in_ok-number.ensures.value ∙ c.self.invariant.known c.args.tx) in
    ap values_of c.remove-2.ensures.entries
    ∙ values_taken tx_of c.self.inside.entries.entries c.args.tx c.in_ok-number.number c.self.invariant.ordered
    c.self.invariant.single number
    ∙ ap (λ xs. without_one tx_of xs c.args.tx) c.self.view_is
