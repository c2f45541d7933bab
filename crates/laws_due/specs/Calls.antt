-- The requests of an account, as its client keeps them.
use Rattle.std.specs.Prelude.{List, map, filter, is_none, option_map}
use Rattle.qc_commit.specs.declared.ballot.Ballot.{Ballot}
use Rattle.qc_commit.specs.Vocabulary.{vote_of}
use Rattle.qc_msg.specs.declared.begun.Begun.{Begun}
use Rattle.qc_msg.specs.declared.call.Call.{Call}
use Rattle.qc_promise.specs.Vocabulary.{ClientRequest}
pub use Rattle.qc_front.specs.Vocabulary.{AreApart}

-- the open ones: those that nothing was taken for

abbrev pub call_of : ClientRequest → Call
call_of q = record { number = q.number; site = q.site }

abbrev pub calls_in : List ClientRequest → List Call
calls_in qs = map call_of (filter (λ (q : ClientRequest). is_none q.taken) qs)

-- those for promises, with what was taken for each
abbrev pub ballot_of : Begun → ClientRequest → Ballot
ballot_of b q = record { site = q.site; vote = option_map (vote_of b q.site) q.taken }
