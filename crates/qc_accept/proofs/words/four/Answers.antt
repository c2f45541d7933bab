use Rattle.std.proofs.Common.{ℕ, List, Some, None, arith}
use Rattle.qc_accept.specs.Vocabulary.{three}
use Rattle.qc_accept.proofs.Texts.{split_is_cut, word_more, word_none}
use Rattle.qc_accept.proofs.words.four.Goals as goal

pub returns-in_err-first : goal.returns-in_err-first
returns-in_err-first c =
    rw c.from_residual.ensures (word_none three
    (λ first (w : List ℕ × List ℕ × List ℕ). (first, w.0, w.1, w.2)) c.args.text.now
    (split_is_cut 32 c.args.text.now None c.in_err-first.ensures.cases (omega arith)))

pub returns-in_err-second : goal.returns-in_err-second
returns-in_err-second c =
    rw c.from_residual-in_err-second.ensures
    (word_more three (λ first (w : List ℕ × List ℕ × List ℕ). (first, w.0, w.1, w.2)) c.args.text.now
    c.in_ok-first.first.now c.in_ok-first.rest.now None
    (split_is_cut 32 c.args.text.now (Some (c.in_ok-first.first, c.in_ok-first.rest)) c.in_ok-first.ensures.cases
    (omega arith)) c.in_err-second.ensures)

pub returns : goal.returns
returns c =
    word_more three (λ first (w : List ℕ × List ℕ × List ℕ). (first, w.0, w.1, w.2)) c.args.text.now
    c.in_ok-first.first.now c.in_ok-first.rest.now
    (Some (c.in_ok-second.second.now, c.in_ok-second.third.now, c.in_ok-second.fourth.now))
    (split_is_cut 32 c.args.text.now (Some (c.in_ok-first.first, c.in_ok-first.rest)) c.in_ok-first.ensures.cases
    (omega arith)) c.in_ok-second.ensures
