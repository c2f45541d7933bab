use Rattle.std.proofs.Common.{◌≡◌, Some, None, sym, ◌∙◌, ap, subst}
use Rattle.std.specs.Option.{MatchOption, option_copied}
use Rattle.qc_lock.specs.Vocabulary.{number_of, one_of}
use Rattle.qc_lock.proofs.NumberedEntries.{entry_at, entry_none}
use Rattle.qc_lock.proofs.Numbers.{lent}
use Rattle.qc_lock.proofs.transaction_map.TransactionMap.of.Goals as goal

pub returns-in_err-number : goal.returns-in_err-number
returns-in_err-number g c =
    let tx_of = g.T.OfTransaction.tx_of in
    let none : one_of tx_of c.args.self.now c.args.tx ≡ None =
    subst (λ xs. one_of tx_of xs c.args.tx ≡ None) c.self.view_is
    (entry_none tx_of c.self.inside.entries.entries c.args.tx
    (sym (c.in_err-number.ensures.value ∙ c.self.invariant.known c.args.tx))) in
    subst (λ o. MatchOption o (one_of tx_of c.args.self.now c.args.tx ≡ None)
    (λ x. one_of tx_of c.args.self.now c.args.tx ≡ Some x.now)) (sym c.from_residual.ensures) none

pub returns : goal.returns
returns g c =
    let tx_of = g.T.OfTransaction.tx_of in
    let number : number_of tx_of c.self.inside.entries.entries c.args.tx ≡ Some c.in_ok-number.number.now =
    sym (c.in_ok-number.ensures.value ∙ c.self.invariant.known c.args.tx) in
    let found : option_copied c.get-2.result ≡ one_of tx_of c.args.self.now c.args.tx =
    c.get-2.ensures.value ∙ entry_at tx_of c.self.inside.entries.entries c.args.tx c.in_ok-number.number.now
    c.self.invariant.ordered number ∙ ap (λ xs. one_of tx_of xs c.args.tx) c.self.view_is in
    lent c.get-2.result (one_of tx_of c.args.self.now c.args.tx) found
