use Rattle.std.proofs.Common.{[], List, length, get_or, ap, sym, ◌∙◌}
use Rattle.std.proofs.lemmas.List.{length-set}
use Rattle.qc_msg.specs.declared.reply.Reply.{Reply}
use Rattle.qc_text.proofs.Told.{told_reply, told_nothing}
use Rattle.qc_text.proofs.queues.add_replies.Goals as goal
use Rattle.qc_text.proofs.queues.add_replies.Goals.{in-Some+in_ok-add_reply, in_default}

pub entries-preserved : goal.entries-preserved
entries-preserved c =
    let known = c.entries.invariant in
    elim c.match-reply_in.branch [
      | in-Some+in_ok-add_reply w ↦
          let told = w.in_ok-add_reply.ensures in
          let after = w.queues-is ∙ told.told in
          record {
            all = ap length after ∙ length-set _ _ _ ∙ known.all;
            told = λ a la. ap (λ (q : List (List Reply)). get_or q a []) after
                ∙ told_reply c.entries.queues c.args.entries.now c.entries.entry-index c.entry-item.result _
                w.in-Some.reply c.entries-test.true c.entry-item.is known.all told.within
                (sym c.reply_in.ensures ∙ w.in-Some.is) known.told a la;
          }
      | in_default w ↦
          record {
            all = ap length w.queues-is ∙ known.all;
            told = λ a la. ap (λ (q : List (List Reply)). get_or q a []) w.queues-is
                ∙ told_nothing c.entries.queues c.args.entries.now c.entries.entry-index c.entry-item.result _
                c.entries-test.true c.entry-item.is
                (sym c.reply_in.ensures ∙ w.in_default.is) known.told a la;
          }
    ]
