-- The open requests of a client, by the sites that they are for.
use Rattle.std.specs.Prelude.{List, [], ◌++◌, Option, Some, None}
use Rattle.qc_msg.specs.declared.call.Call.{Call}
use Rattle.qc_commit.specs.declared.desk.Voting.{Voting}
use Rattle.qc_front.specs.Vocabulary.{calls_in}
use Rattle.qc_client.specs.declared.client.Client.{Client}

-- those of the running vote, where one runs
abbrev pub calls_voting : Option Voting → List Call
calls_voting None = []
calls_voting (Some v) = v.calls

-- the calls of a client: those of the running round, and those of the running vote
abbrev pub open_requests : Client → List Call
open_requests c = calls_in c.front.doing ++ calls_voting c.desk.voting
