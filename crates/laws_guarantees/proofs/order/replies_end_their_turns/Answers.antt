use Rattle.laws_guarantees.proofs.Replies.{replies_end_their_turns}
use Rattle.laws_guarantees.proofs.order.replies_end_their_turns.Goals as goal

pub returns : goal.returns
returns f decl script h open_inputs before after a reply run is =
    replies_end_their_turns decl script h open_inputs run before a reply after is
