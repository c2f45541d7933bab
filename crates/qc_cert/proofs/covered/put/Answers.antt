use Rattle.qc_cert.proofs.Asked.{found_more}
use Rattle.qc_cert.proofs.covered.put.Goals as goal

pub returns-then-log-lt-MOST_STATES : goal.returns-then-log-lt-MOST_STATES
returns-then-log-lt-MOST_STATES c = λ list out old here.
    found_more list out c.args.words.now c.args.view c.args.log c.with_bit.result c.if-view-words.true
    c.with_bit.ensures old here
