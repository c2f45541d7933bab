use Rattle.std.proofs.Common.{rules, ◌≡◌, ◌++◌, ◌∷◌, [], ◌+◌, None, Some, sym, ◌∙◌, ap, subst}
use Rattle.std.specs.Map.{values_of}
use Rattle.qc_stamp.specs.declared.stamp.TxId.{TxId}
use Rattle.qc_lock.specs.Vocabulary.{AreNumbered, number_of, one_of}
use Rattle.qc_lock.proofs.NumberedEntries.{number_none}
use Rattle.qc_lock.proofs.Numbers.{values_new}
use Rattle.qc_lock.proofs.Numbering.{Changes, numbered_again, numbered_new}
use Rattle.qc_lock.proofs.Ones.{put_last}
use Rattle.qc_lock.proofs.transaction_map.TransactionMap.add.Goals as goal
use Rattle.qc_lock.proofs.transaction_map.TransactionMap.add.Goals.{in-Some-1, in-None-1}

pub invariant_of-self-in-Ok : goal.invariant_of-self-in-Ok
invariant_of-self-in-Ok g c =
    let tx_of = g.T.OfTransaction.tx_of in
    let es = c.self.inside.entries.entries in
    let none : number_of tx_of es (tx_of c.args.one) ≡ None =
    number_none tx_of es (tx_of c.args.one)
    (subst (λ xs. one_of tx_of xs (tx_of c.args.one) ≡ None) (sym c.self.view_is) c.requires) in
    let next : c.in_ok-next.next ≡ c.self.inside.next + 1 = search rules in
    let gives : Changes c.self.inside.numbers c.insert.new.self (tx_of c.args.one) (Some c.self.inside.next) =
    subst (λ (tx : TxId). Changes c.self.inside.numbers c.insert.new.self tx (Some c.self.inside.next)) c.tx-tx.ensures
    c.in_ok-_before.ensures.updates.0 in
    subst (AreNumbered tx_of c.insert-2.new.self c.insert.new.self) (sym next)
    (numbered_new tx_of c.self.inside.entries c.insert-2.new.self c.self.inside.numbers c.insert.new.self
    c.self.inside.next c.args.one
    c.self.invariant c.in-Ok.ensures.ordered c.in-Ok.ensures.entries none gives)

pub invariant_of-self-in-Ok-2 : goal.invariant_of-self-in-Ok-2
invariant_of-self-in-Ok-2 g c =
    let tx_of = g.T.OfTransaction.tx_of in
    let es = c.self.inside.entries.entries in
    let none : number_of tx_of es (tx_of c.args.one) ≡ None =
    number_none tx_of es (tx_of c.args.one)
    (subst (λ xs. one_of tx_of xs (tx_of c.args.one) ≡ None) (sym c.self.view_is) c.requires) in
    let next : c.in_ok-next.next ≡ c.self.inside.next + 1 = search rules in
    let gives : Changes c.self.inside.numbers c.insert.new.self (tx_of c.args.one) (Some c.self.inside.next) =
    subst (λ (tx : TxId). Changes c.self.inside.numbers c.insert.new.self tx (Some c.self.inside.next)) c.tx-tx.ensures
    c.in_ok-_before.ensures.updates.0 in
    subst (AreNumbered tx_of c.insert-2.new.self c.insert.new.self) (sym next)
    (numbered_new tx_of c.self.inside.entries c.insert-2.new.self c.self.inside.numbers c.insert.new.self
    c.self.inside.next c.args.one
    c.self.invariant c.in-Ok.ensures.ordered c.in-Ok.ensures.entries none gives)

pub invariant_of-self-in-Err : goal.invariant_of-self-in-Err
invariant_of-self-in-Err g c =
    let tx_of = g.T.OfTransaction.tx_of in
    let es = c.self.inside.entries.entries in
    let none : number_of tx_of es (tx_of c.args.one) ≡ None =
    number_none tx_of es (tx_of c.args.one)
    (subst (λ xs. one_of tx_of xs (tx_of c.args.one) ≡ None) (sym c.self.view_is) c.requires) in
    numbered_again tx_of c.self.inside.entries c.insert-2.new.self c.self.inside.numbers c.insert.new.self
    c.remove-number.new.self c.self.inside.next c.tx-tx.result
    c.self.invariant c.in-Err.ensures.ordered c.in-Err.ensures.err
    (subst (λ (tx : TxId). number_of tx_of es tx ≡ None) (sym c.tx-tx.ensures) none)
    c.in_ok-_before.ensures.updates.0 c.remove-number.ensures.updates.0

pub returns-in-Ok-clause-ok : goal.returns-in-Ok-clause-ok
returns-in-Ok-clause-ok g c =
    let tx_of = g.T.OfTransaction.tx_of in
    let es = c.self.inside.entries.entries in
    let first : one_of tx_of (values_of es) (tx_of c.args.one) ≡ None =
    subst (λ xs. one_of tx_of xs (tx_of c.args.one) ≡ None) (sym c.self.view_is) c.requires in
    let none : number_of tx_of es (tx_of c.args.one) ≡ None = number_none tx_of es (tx_of c.args.one) first in
    let after : values_of c.insert-2.new.self.entries ≡ c.args.self.now ++ c.args.one ∷ [] =
    ap values_of c.in-Ok.ensures.entries
    ∙ values_new tx_of es c.args.one c.self.inside.next c.self.invariant.below none
    ∙ put_last tx_of (values_of es) c.args.one first
    ∙ ap (λ xs. xs ++ c.args.one ∷ []) c.self.view_is in
    elim c.match-nothing.branch [ in-Some-1 w ↦ w.self-is ∙ after | in-None-1 w ↦ w.self-is ∙ after ]
