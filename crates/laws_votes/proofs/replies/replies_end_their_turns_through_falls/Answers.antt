use Rattle.laws_votes.proofs.RepliesEnd.{replies_end_their_turns_through_falls}
use Rattle.laws_votes.proofs.replies.replies_end_their_turns_through_falls.Goals as goal

pub returns : goal.returns
returns g c decl script h open_inputs accepted sound run kept before after a reply client is =
    replies_end_their_turns_through_falls g.C.ConductWithFalls.fits decl script accepted sound h open_inputs run kept
    before a reply after client is
