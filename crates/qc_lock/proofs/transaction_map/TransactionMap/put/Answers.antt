use Rattle.std.proofs.Common.{◌≡◌, None, Some, sym, ◌∙◌, ap, subst}
use Rattle.std.specs.Map.{values_of}
use Rattle.qc_stamp.specs.declared.stamp.TxId.{TxId}
use Rattle.qc_lock.specs.Vocabulary.{number_of, one_of, put_one}
use Rattle.qc_lock.proofs.NumberedEntries.{entry_at, entry_none, values_known}
use Rattle.qc_lock.proofs.Numbering.{numbered_known}
use Rattle.qc_lock.proofs.Ones.{put_last}
use Rattle.qc_lock.proofs.transaction_map.TransactionMap.put.Goals as goal

pub invariant_of-self-in-Some : goal.invariant_of-self-in-Some
invariant_of-self-in-Some g c =
    let tx_of = g.T.OfTransaction.tx_of in
    let number : number_of tx_of c.self.inside.entries.entries (tx_of c.args.one) ≡ Some c.in-Some.number =
    subst (λ (tx : TxId). number_of tx_of c.self.inside.entries.entries tx ≡ Some c.in-Some.number) c.tx.ensures
    (sym (c.in-Some.ensures ∙ c.get.ensures.value ∙ c.self.invariant.known c.tx.result)) in
    numbered_known tx_of c.self.inside.entries c.insert.new.self c.self.inside.numbers c.self.inside.next c.args.one
    c.in-Some.number
    c.self.invariant c.in_ok-insert-in-Some.ensures.ordered c.in_ok-insert-in-Some.ensures.entries number

pub add-requires : goal.add-requires
add-requires g c =
    let tx_of = g.T.OfTransaction.tx_of in
    subst (λ (tx : TxId). one_of tx_of c.args.self.now tx ≡ None) c.tx.ensures
    (subst (λ xs. one_of tx_of xs c.tx.result ≡ None) c.self.view_is
    (entry_none tx_of c.self.inside.entries.entries c.tx.result
    (sym (c.in-None.ensures ∙ c.get.ensures.value ∙ c.self.invariant.known c.tx.result))))

pub returns-in_ok-insert-in-Some-clause-ok : goal.returns-in_ok-insert-in-Some-clause-ok
returns-in_ok-insert-in-Some-clause-ok g c =
    let tx_of = g.T.OfTransaction.tx_of in
    let number : number_of tx_of c.self.inside.entries.entries (tx_of c.args.one) ≡ Some c.in-Some.number =
    subst (λ (tx : TxId). number_of tx_of c.self.inside.entries.entries tx ≡ Some c.in-Some.number) c.tx.ensures
    (sym (c.in-Some.ensures ∙ c.get.ensures.value ∙ c.self.invariant.known c.tx.result)) in
    ap values_of c.in_ok-insert-in-Some.ensures.entries
    ∙ values_known tx_of c.self.inside.entries.entries c.args.one c.in-Some.number c.self.invariant.ordered number
    ∙ ap (λ xs. put_one tx_of xs c.args.one) c.self.view_is

pub returns-in_ok-insert-in-Some-clause-before : goal.returns-in_ok-insert-in-Some-clause-before
returns-in_ok-insert-in-Some-clause-before g c =
    let tx_of = g.T.OfTransaction.tx_of in
    let number : number_of tx_of c.self.inside.entries.entries (tx_of c.args.one) ≡ Some c.in-Some.number =
    subst (λ (tx : TxId). number_of tx_of c.self.inside.entries.entries tx ≡ Some c.in-Some.number) c.tx.ensures
    (sym (c.in-Some.ensures ∙ c.get.ensures.value ∙ c.self.invariant.known c.tx.result)) in
    c.in_ok-insert-in-Some.ensures.old
    ∙ entry_at tx_of c.self.inside.entries.entries (tx_of c.args.one) c.in-Some.number c.self.invariant.ordered number
    ∙ ap (λ xs. one_of tx_of xs (tx_of c.args.one)) c.self.view_is

pub returns-in_ok-add-in-None-clause-ok : goal.returns-in_ok-add-in-None-clause-ok
returns-in_ok-add-in-None-clause-ok g c =
    let tx_of = g.T.OfTransaction.tx_of in
    let none : one_of tx_of c.args.self.now (tx_of c.args.one) ≡ None =
    subst (λ (tx : TxId). one_of tx_of c.args.self.now tx ≡ None) c.tx.ensures
    (subst (λ xs. one_of tx_of xs c.tx.result ≡ None) c.self.view_is
    (entry_none tx_of c.self.inside.entries.entries c.tx.result
    (sym (c.in-None.ensures ∙ c.get.ensures.value ∙ c.self.invariant.known c.tx.result)))) in
    c.in_ok-add-in-None.ensures.ok ∙ sym (put_last tx_of c.args.self.now c.args.one none)

pub returns-in_ok-add-in-None-clause-before : goal.returns-in_ok-add-in-None-clause-before
returns-in_ok-add-in-None-clause-before g c =
    let tx_of = g.T.OfTransaction.tx_of in
    sym (subst (λ (tx : TxId). one_of tx_of c.args.self.now tx ≡ None) c.tx.ensures
    (subst (λ xs. one_of tx_of xs c.tx.result ≡ None) c.self.view_is
    (entry_none tx_of c.self.inside.entries.entries c.tx.result
    (sym (c.in-None.ensures ∙ c.get.ensures.value ∙ c.self.invariant.known c.tx.result)))))
