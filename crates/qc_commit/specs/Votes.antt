-- Participants, their votes, and what is sent to them.
use Rattle.std.specs.Prelude.{ℕ, ◌==◌, Bool, if◌then◌else◌, List, [], ◌∷◌, filter, map, is_some, Option, Some, None}
use Rattle.std.specs.List.{list_all}
use Rattle.std.specs.Option.{option_or}
use Rattle.qc_decl.specs.declared.declaration.Declaration.{Declaration}
use Rattle.qc_decl.specs.Vocabulary.{first_site}
use Rattle.qc_plan.specs.Vocabulary.{cyclic}
use Rattle.qc_msg.specs.declared.begun.Begun.{Begun}
use Rattle.qc_msg.specs.declared.message.Answer.{Answer}
use Rattle.qc_msg.specs.declared.message.Answer.TheVariants as answers
use Rattle.qc_msg.specs.declared.message.Message.TheVariants as messages
use Rattle.qc_msg.specs.declared.message.Want.TheVariants as wants
use Rattle.qc_msg.specs.declared.reply.AbortCause.{AbortCause}
use Rattle.qc_msg.specs.declared.reply.AbortCause.TheVariants as causes
use Rattle.qc_msg.specs.declared.turn.Posting.{Posting}
use Rattle.qc_msg.specs.Vocabulary.{has_granted, life_of}
use Rattle.qc_commit.specs.declared.ballot.Ballot.{Ballot}
use Rattle.qc_commit.specs.declared.ballot.Vote.{Vote}
use Rattle.qc_commit.specs.declared.ballot.Vote.TheVariants.{For, Against}

-- the participants: the sites that granted something that counted, in the client's order
abbrev pub participants : Declaration → ℕ → Begun → List ℕ
participants decl client b = filter (has_granted b.lives) (cyclic decl.sites (first_site decl client))

-- a participant is asked for its promise, in the life of its first grant
abbrev pub prepares : Begun → ℕ → Posting
prepares b site =
    record { to = site; message = messages.Request b.tx b.epoch (life_of b.lives site) wants.Prepare }

-- what the first answer to a Prepare comes to, or that it is lost; of the answers that no site gives to a Prepare,
-- each is as one that holds nothing
abbrev pub vote_of : Begun → ℕ → Option Answer → Vote
vote_of b site None = Against (causes.NoAnswer site)
vote_of b site (Some (answers.Granted grant)) = Against (causes.Forgot site)
vote_of b site (Some (answers.Clash holder inv event)) = Against (causes.Forgot site)
vote_of b site (Some (answers.Closed epoch)) = Against (causes.Closed epoch site)
vote_of b site (Some (answers.Behind epoch)) = Against (causes.Forgot site)
vote_of b site (Some (answers.Restarted life)) = Against (causes.Restarted site (life_of b.lives site) life)
vote_of b site (Some answers.Stale) = Against (causes.Forgot site)
vote_of b site (Some answers.Fault) = Against (causes.Fault site)
vote_of b site (Some (answers.Yes clock)) = For
vote_of b site (Some (answers.Shut snapshot)) = Against (causes.Forgot site)
vote_of b site (Some answers.Installed) = Against (causes.Forgot site)
vote_of b site (Some (answers.Answered verdict)) = Against (causes.Forgot site)

-- ballots that aren't cast yet
abbrev pub blank : List ℕ → List Ballot
blank sites = map (λ site. record { site = site; vote = None }) sites

-- the ballots with a site's vote
abbrev pub cast : List Ballot → ℕ → Vote → List Ballot
cast [] site vote = []
cast (b ∷ bs) site vote =
    if b.site == site then record { site = site; vote = Some vote } ∷ bs else b ∷ cast bs site vote

abbrev pub are_cast : List Ballot → Bool
are_cast ballots = list_all (λ (b : Ballot). is_some b.vote) ballots

-- the first vote against, in the client's order, decides

abbrev pub against : Option Vote → Option AbortCause
against None = None
against (Some For) = None
against (Some (Against why)) = Some why

abbrev pub first_against : List Ballot → Option AbortCause
first_against [] = None
first_against (b ∷ bs) = option_or (against b.vote) (first_against bs)
