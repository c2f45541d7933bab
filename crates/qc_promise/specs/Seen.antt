-- What a transaction's client had seen of other transactions, by the end of this one.
use Rattle.std.specs.Prelude.{[], ℕ, ◌==◌, Bool, not, if◌then◌else◌, List, ◌∷◌, ◌++◌, Option, Some, None, fold, filter}
use Rattle.std.specs.Prelude.{map, option_to_list}
use Rattle.std.specs.Option.{option_map_or}
use Rattle.std.specs.List.{list_any}
use Rattle.qc_decl.specs.Vocabulary.{client_actor}
use Rattle.qc_decl.specs.declared.declaration.Declaration.{Declaration}
use Rattle.qc_entry.specs.declared.line.Line.{Line}
use Rattle.qc_msg.specs.Vocabulary.{Deed, Entry, Falls, Rises, Sends, Takes, Tells, Writes, deeds, Answered}
use Rattle.qc_msg.specs.declared.payload.Grant.{Grant}
use Rattle.qc_msg.specs.Vocabulary.{Requested, answer_in, granted_in, request_in, began_in, committed_in, is_end}
use Rattle.qc_msg.specs.declared.message.Answer.{Answer}
use Rattle.qc_msg.specs.declared.message.Message.{Message}
use Rattle.qc_msg.specs.declared.reply.Reply.{Reply}
use Rattle.qc_msg.specs.declared.step.Input.{Input}
use Rattle.qc_msg.specs.declared.step.Input.TheVariants as inputs
use Rattle.qc_promise.specs.Deals.{is_begun}
use Rattle.qc_stamp.specs.Vocabulary.{same_tx}
use Rattle.qc_stamp.specs.declared.stamp.TxId.{TxId}
use Rattle.qc_stamp.specs.declared.stamp.Stamp.{Stamp}

-- a client's sight of transactions so far, and what of it counts for one transaction
pub record Sight : Type 0 where
  -- the transaction that it has begun and that hasn't ended
  pub begun : Option TxId
  -- its requests that nothing was taken for yet
  pub waiting : List ℕ
  -- the transactions with a line in a grant that counted in its present life; those it was told that they committed, in
  -- any life
  pub shown : List TxId
  pub committed : List TxId
  -- those of both that it knew as the one transaction began, and those with a line in a grant that counted since, until
  -- that one ended
  pub seen : List TxId

-- the transactions of these lines join
abbrev pub sees : TxId → Sight → List Line → Sight
sees tx s lines =
    let txs : List TxId = map (λ (l : Line). l.tx) lines in
    record s { shown = s.shown ++ txs; seen = if is_begun tx s.begun then s.seen ++ txs else s.seen }

-- the first thing that is taken for a request counts

abbrev pub waits : Sight → ℕ → Bool
waits s number = list_any (λ n. n == number) s.waiting

abbrev pub answered : Sight → ℕ → Sight
answered s number = record s { waiting = filter (λ n. not (n == number)) s.waiting }

-- the lines that an answer grants
abbrev pub granted : Answer → List Line
granted answer = option_map_or (λ (g : Grant). g.log) (granted_in answer) []

abbrev pub sight_heard : TxId → Sight → Message → Sight
sight_heard tx s message =
    option_map_or (λ (a : Answered). if waits s a.to then sees tx (answered s a.to) (granted a.answer) else s)
    (answer_in message) s

abbrev pub sight_taken : TxId → Sight → Input → Sight
sight_taken tx s (inputs.Called command) = s
sight_taken tx s (inputs.Got envelope) = sight_heard tx s envelope.message
sight_taken tx s (inputs.Lost number) = answered s number

-- a request waits
abbrev pub sight_sent : Sight → ℕ → Message → Sight
sight_sent s number message =
    option_map_or (λ (x : Requested). record s { waiting = s.waiting ++ number ∷ [] }) (request_in message) s

-- the transaction has ended
abbrev pub over : Sight → Sight
over s = record s { begun = None }

abbrev pub sight_told : TxId → Sight → Reply → Sight
sight_told tx s reply =
    option_map_or (λ (other : TxId).
    record s { begun = Some other; seen = if same_tx other tx then s.shown ++ s.committed else s.seen })
    (began_in reply)
    (option_map_or (λ (stamp : Stamp). over (record s { committed = s.committed ++ option_to_list s.begun }))
    (committed_in reply) (if is_end reply then over s else s))

-- one deed more. A fall ends the transaction, and no answer counts that comes later; a rise begins with nothing shown
abbrev pub sight : TxId → Sight → Deed → Sight
sight tx s (Takes given) = sight_taken tx s given
sight tx s (Writes written) = s
sight tx s (Sends number to message) = sight_sent s number message
sight tx s (Tells reply) = sight_told tx s reply
sight tx s (Falls cause pending) = record s { begun = None; waiting = [] }
sight tx s (Rises kept) = record s { shown = [] }

abbrev pub no_sight : Sight
no_sight = record { begun = None; waiting = []; shown = []; committed = []; seen = [] }

abbrev pub seen_in : List Deed → TxId → List TxId
seen_in ds tx = (fold (sight tx) no_sight ds).seen

-- the transactions that a transaction's client had seen: before it began, by counted grants of its life and by replies
-- in any life, and by counted grants until it ended
abbrev pub seen : Declaration → List Entry → TxId → List TxId
seen decl h tx = seen_in (deeds (client_actor decl tx.client) [] h) tx
