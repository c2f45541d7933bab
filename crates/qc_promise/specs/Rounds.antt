-- How far a command has come: a half of a `do` is a round over the sites that it asked, a commit a vote of
-- participants.
use Rattle.std.specs.Prelude.{[], ℕ, ◌+◌, ◌==◌, ◌&&◌, Bool, List, ◌∷◌, ◌++◌, drop, filter, length, map, is_some}
use Rattle.std.specs.Prelude.{Option, Some, None, option_map, option_and_then}
use Rattle.std.specs.List.{list_all}
use Rattle.std.specs.Option.{option_map_or, option_or}
use Rattle.qc_entry.specs.declared.line.Line.{Line}
use Rattle.qc_entry.specs.declared.line.OwnLine.{OwnLine}
use Rattle.qc_table.specs.Vocabulary.{Rules, after, first_of, step_of}
use Rattle.qc_plan.specs.declared.standing.Asked.{Asked}
use Rattle.qc_plan.specs.declared.standing.Standing.{Standing}
use Rattle.qc_plan.specs.declared.standing.Standing.TheVariants as standings
use Rattle.qc_plan.specs.Vocabulary.{RoundState, cyclic, start}
use Rattle.qc_decl.specs.Vocabulary.{first_site, table_at}
use Rattle.qc_decl.specs.declared.declaration.Declaration.{Declaration}
use Rattle.qc_msg.specs.declared.message.Answer.{Answer}
use Rattle.qc_msg.specs.declared.message.Answer.TheVariants as answers
use Rattle.qc_msg.specs.declared.message.Want.{Want}
use Rattle.qc_msg.specs.declared.reply.AbortCause.{AbortCause}
use Rattle.qc_msg.specs.declared.reply.AbortCause.TheVariants as causes
use Rattle.qc_msg.specs.Vocabulary.{has_granted, Clashing, clash_in, closed_in, granted_in}
use Rattle.qc_msg.specs.declared.payload.Grant.{Grant}
use Rattle.qc_promise.specs.Account.{Account, Current, ClientRequest, is_prepare, requests_for, view_of}
pub use Rattle.qc_decl.specs.Vocabulary.{resp_of, weights_of}

-- what came of a request, for a round: a site that neither grants, nor clashes, nor is closed, is missing
abbrev pub standing_of : Option Answer → Standing
standing_of answer =
    option_map_or (λ (x : Grant). standings.Granted) (option_and_then granted_in answer)
    (option_map_or (λ (c : Clashing). standings.Clash c.holder) (option_and_then clash_in answer)
    (option_map_or standings.Closed (option_and_then closed_in answer) standings.Missing))

abbrev pub asked_by : ClientRequest → Asked
asked_by q = record { site = q.site; standing = option_map standing_of q.taken }

-- the round of a half, by the plan of the transaction's epoch and in the client's order of sites, as far as it has come
abbrev pub round_of : Declaration → Account → Current → (Want → Bool) → ℕ → RoundState
round_of decl d t half need =
    let asked : List Asked = map asked_by (requests_for half d) in
    let fresh : RoundState = start (weights_of decl t.epoch) (first_site decl d.client) need in
    record fresh { asked = asked; rest = drop (length asked) fresh.rest }

-- the event that answers an invocation: that with the first response that is legal after the object's view and the
-- transaction's own operations

abbrev pub events_seen : Current → ℕ → List ℕ
events_seen t object =
    map (λ (l : Line). l.event) (view_of t object)
    ++ map (λ (l : OwnLine). l.event) (filter (λ (l : OwnLine). l.object == object) t.own)

abbrev pub answer_by : Current → ℕ → ℕ → Rules → Option ℕ
answer_by t object inv rules =
    option_and_then (λ (state : ℕ). first_of rules.rows state inv)
    (after (step_of rules.rows) rules.start (events_seen t object))

abbrev pub answer_of : Declaration → Current → ℕ → ℕ → Option ℕ
answer_of decl t object inv = option_and_then (answer_by t object inv) (table_at decl object)

-- the own line of the next operation: operations are numbered from 1, those without a response too
abbrev pub next_own : Current → ℕ → ℕ → OwnLine
next_own t object event = record { op = length t.ops + 1; object = object; event = event }

-- the participants of a commit: the sites with a grant that counted, in the client's order
abbrev pub participants : Declaration → Account → Current → List ℕ
participants decl d t = filter (has_granted t.lives) (cyclic decl.sites (first_site decl d.client))

-- each participant was asked for its promise, and each of these requests is answered or lost
abbrev pub are_votes_in : Declaration → Account → Current → Bool
are_votes_in decl d t =
    (length (participants decl d t) == length (requests_for is_prepare d))
    && list_all (λ (q : ClientRequest). is_some q.taken) (requests_for is_prepare d)

-- what came of a request for a promise, where it is a vote against; what no site answers to one is as if it had
-- forgotten

abbrev pub against : ClientRequest → Option (Option Answer) → Option AbortCause
against q None = None
against q (Some None) = Some (causes.NoAnswer q.site)
against q (Some (Some (answers.Granted grant))) = Some (causes.Forgot q.site)
against q (Some (Some (answers.Clash holder inv event))) = Some (causes.Forgot q.site)
against q (Some (Some (answers.Closed epoch))) = Some (causes.Closed epoch q.site)
against q (Some (Some (answers.Behind epoch))) = Some (causes.Forgot q.site)
against q (Some (Some (answers.Restarted life))) = Some (causes.Restarted q.site q.life life)
against q (Some (Some answers.Stale)) = Some (causes.Forgot q.site)
against q (Some (Some answers.Fault)) = Some (causes.Fault q.site)
against q (Some (Some (answers.Yes clock))) = None
against q (Some (Some (answers.Shut snapshot))) = Some (causes.Forgot q.site)
against q (Some (Some answers.Installed)) = Some (causes.Forgot q.site)
against q (Some (Some (answers.Answered verdict))) = Some (causes.Forgot q.site)

-- the first vote against in asked order
abbrev pub first_against : List ClientRequest → Option AbortCause
first_against [] = None
first_against (q ∷ qs) = option_or (against q q.taken) (first_against qs)
