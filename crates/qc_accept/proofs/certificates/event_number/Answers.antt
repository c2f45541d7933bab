use Rattle.std.proofs.Common.{Some, None, ◌∙◌, arith}
use Rattle.qc_accept.specs.Vocabulary.{events_in, words_in}
use Rattle.qc_accept.proofs.Outs.{event_uncut, event_unknown, event_cut}
use Rattle.qc_accept.proofs.Texts.{split_is_cut}
use Rattle.qc_accept.proofs.certificates.event_number.Goals as goal

pub returns-in_err-inv-clause-number : goal.returns-in_err-inv-clause-number
returns-in_err-inv-clause-number c =
    c.from_residual.ensures
    ∙ event_uncut (words_in c.args.words.now) (events_in c.args.events.now) c.args.text.now
    (split_is_cut 58 c.args.text.now None c.in_err-inv.ensures.cases (omega arith))

pub returns-in_err-number-clause-number : goal.returns-in_err-number-clause-number
returns-in_err-number-clause-number c =
    c.from_residual-in_err-number.ensures
    ∙ event_unknown (words_in c.args.words.now)
    (events_in c.args.events.now) c.args.text.now c.in_ok-inv.inv.now c.in_ok-inv.resp.now
    (split_is_cut 58 c.args.text.now (Some (c.in_ok-inv.inv, c.in_ok-inv.resp)) c.in_ok-inv.ensures.cases (omega arith))
    c.in_err-number.ensures.number

pub returns-in_err-number-2-clause-number : goal.returns-in_err-number-2-clause-number
returns-in_err-number-2-clause-number c =
    c.from_residual-in_err-number-2.ensures
    ∙ event_cut (words_in c.args.words.now) (events_in c.args.events.now) c.args.text.now c.in_ok-inv.inv.now
    c.in_ok-inv.resp.now (Some c.in_ok-number.field-0) None
    (split_is_cut 58 c.args.text.now (Some (c.in_ok-inv.inv, c.in_ok-inv.resp)) c.in_ok-inv.ensures.cases (omega arith))
    c.in_ok-number.ensures.number c.in_err-number-2.ensures.number

pub returns-clause-number : goal.returns-clause-number
returns-clause-number c =
    c.number-3.ensures.number
    ∙ event_cut (words_in c.args.words.now) (events_in c.args.events.now) c.args.text.now c.in_ok-inv.inv.now
    c.in_ok-inv.resp.now (Some c.in_ok-number.field-0) (Some c.in_ok-number-2.field-0)
    (split_is_cut 58 c.args.text.now (Some (c.in_ok-inv.inv, c.in_ok-inv.resp)) c.in_ok-inv.ensures.cases (omega arith))
    c.in_ok-number.ensures.number c.in_ok-number-2.ensures.number
