use Rattle.std.proofs.Common.{Some, None, ◌∙◌, arith}
use Rattle.qc_accept.proofs.Texts.{split_is_cut, contains_is_any, two_uncut, two_more, two_words}
use Rattle.qc_accept.proofs.words.two.Goals as goal

pub returns-in_err-first : goal.returns-in_err-first
returns-in_err-first c = rw c.from_residual.ensures
    (two_uncut c.args.text.now (split_is_cut 32 c.args.text.now None c.in_err-first.ensures.cases (omega arith)))

pub returns-then-contains : goal.returns-then-contains
returns-then-contains c =
    two_more c.args.text.now c.in_ok-first.first.now c.in_ok-first.second.now
    (split_is_cut 32 c.args.text.now (Some (c.in_ok-first.first, c.in_ok-first.second)) c.in_ok-first.ensures.cases
    (omega arith))
    (contains_is_any 32 c.in_ok-first.second.now c.contains.result c.contains.ensures.cases (omega arith)
    ∙ c.if-contains.true)

pub returns : goal.returns
returns c =
    two_words c.args.text.now c.in_ok-first.first.now c.in_ok-first.second.now
    (split_is_cut 32 c.args.text.now (Some (c.in_ok-first.first, c.in_ok-first.second)) c.in_ok-first.ensures.cases
    (omega arith))
    (contains_is_any 32 c.in_ok-first.second.now c.contains.result c.contains.ensures.cases (omega arith)
    ∙ c.if-contains.false)
