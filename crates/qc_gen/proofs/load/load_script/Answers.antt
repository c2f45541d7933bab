use Rattle.qc_gen.proofs.Lengths.{whole_length}
use Rattle.qc_gen.proofs.Texts.{text_more}
use Rattle.qc_gen.proofs.load.load_script.Goals as goal

pub transactions-preserved : goal.transactions-preserved
transactions-preserved c =
    let number = c.transactions.number in
    let before = c.transactions.text.items in
    let after = c.put_transaction.new.text.items in
    let next = c.next_state-state.ensures.next in
    let grown = c.in_ok-put_transaction.ensures in
    let known = c.transactions.invariant.text in record {
      state = c.next_state-state.ensures.below;
      text =
          text_more c.args.count number c.transactions.state c.next_state-state.result before after _
          c.transactions-test.true next grown known;
    }

pub returns-clause-bytes : goal.returns-clause-bytes
returns-clause-bytes c =
    let done = c.transactions in
    let none = c.transactions-test.false in
    whole_length c.args.count done.number done.state c.args.seed done.text.items none done.invariant.text
