use Rattle.std.proofs.Common.{refl, ap, ◌∙◌, length, List, [], get_or}
use Rattle.std.proofs.lemmas.List.{length-set}
use Rattle.qc_msg.specs.declared.reply.Reply.{Reply}
use Rattle.qc_text.proofs.Taken.{left_more, first_reply, text_more}
use Rattle.qc_text.proofs.replies.put_lines.Goals as goal

pub commands-preserved : goal.commands-preserved
commands-preserved c =
    let taken = c.take_reply-reply.ensures in
    let known = c.commands.invariant in
    record {
      all = ap length taken.rest ∙ length-set _ _ _ ∙ known.all;
      left = λ a la. ap (λ (q : List (List Reply)). get_or q a []) taken.rest
          ∙ left_more c.commands.queues c.args.entries.now c.args.commands.now c.commands.line-index _ _
          c.commands-test.true refl known.all taken.within known.left a la;
      text =
          text_more c.args.decl.now c.args.entries.now c.args.commands.now c.commands.line-index _ _
          c.take_reply-reply.result c.commands.page c.put_line.new.page _
          c.commands-test.true refl
          (taken.reply ∙ first_reply c.commands.queues c.args.entries.now c.args.commands.now c.commands.line-index _
          taken.within known.left)
          c.in_ok-put_line.ensures known.text;
    }
