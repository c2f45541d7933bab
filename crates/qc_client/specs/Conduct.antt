-- What a client becomes and does for each input, and over all its deeds.
use Rattle.std.specs.Prelude.{[], ℕ, if◌then◌else◌, List, ◌∷◌, fold, Option, Some, None}
use Rattle.std.specs.Option.{option_map_or}
use Rattle.qc_decl.specs.declared.declaration.Declaration.{Declaration}
use Rattle.qc_commit.specs.declared.desk.Voting.{Voting}
use Rattle.qc_commit.specs.Conduct as desks
use Rattle.qc_front.specs.declared.transaction.Transaction.{Transaction}
use Rattle.qc_front.specs.Conduct as fronts
use Rattle.qc_msg.specs.declared.message.Answer.{Answer}
use Rattle.qc_msg.specs.declared.message.Answer.TheVariants.{Answered}
use Rattle.qc_msg.specs.declared.message.Message.{Message}
use Rattle.qc_msg.specs.declared.message.Message.TheVariants as messages
use Rattle.qc_msg.specs.declared.message.Want.{Want}
use Rattle.qc_msg.specs.declared.message.Want.TheVariants.{Read, Append, Prepare}
use Rattle.qc_msg.specs.declared.step.Command.{Command}
use Rattle.qc_msg.specs.declared.step.Command.TheVariants as commands
use Rattle.qc_msg.specs.declared.step.Input.{Input}
use Rattle.qc_msg.specs.declared.step.Input.TheVariants as inputs
use Rattle.qc_msg.specs.Vocabulary.{Deed, Falls, Rises, Sends, Takes, Tells, Writes, quiet, sending, Requested}
use Rattle.qc_msg.specs.Vocabulary.{request_in}
use Rattle.qc_client.specs.declared.client.Client.{Client}
use Rattle.qc_client.specs.Client.{ClientMove, moved, by_desk, by_front, new_client, outcome_of}
use Rattle.qc_entry.specs.declared.record.Commit.{Commit}

-- a commit of a begun transaction that can commit is the desk's, with the front end's clock
abbrev pub commits : Declaration → Client → Option Transaction → ClientMove
commits decl c None = by_front c (fronts.called decl c.front commands.Commit)
commits decl c (Some t) =
    if t.begun.doomed
    then by_front c (fronts.called decl c.front commands.Commit)
    else by_desk c (desks.prepare decl c.desk t.begun c.front.clock.value)

abbrev pub called : Declaration → Client → Command → ClientMove
called decl c commands.Begin = by_front c (fronts.called decl c.front commands.Begin)
called decl c (commands.Do object inv) = by_front c (fronts.called decl c.front (commands.Do object inv))
called decl c commands.Commit = commits decl c c.front.transaction
called decl c commands.Abort = by_front c (fronts.called decl c.front commands.Abort)
called decl c (commands.Epoch number) = by_front c (fronts.called decl c.front (commands.Epoch number))

-- the answer to the request of this number, or none where it is lost: a vote while the desk waits for votes

abbrev pub answered_by : Declaration → Client → Option Voting → ℕ → Option Answer → ClientMove
answered_by decl c None number answer = by_front c (fronts.takes decl c.front number answer)
answered_by decl c (Some v) number answer = by_desk c (desks.vote c.desk number answer)

abbrev pub answered : Declaration → Client → ℕ → Option Answer → ClientMove
answered decl c number answer = answered_by decl c c.desk.voting number answer

-- a message of this sender and number; nobody sends a client a request to a site, a Decision, a Close or an Install
abbrev pub heard : Declaration → Client → ℕ → ℕ → Message → ClientMove
heard decl c from number (messages.Request tx epoch life want) = moved c quiet
heard decl c from number (messages.Answer to answer) = answered decl c to (Some answer)
heard decl c from number (messages.Decision tx verdict) = moved c quiet
heard decl c from number (messages.Inquiry tx) =
    moved c (sending (record { to = from; message = messages.Decision tx (outcome_of c tx) } ∷ []))
heard decl c from number (messages.Ask tx) =
    moved c (sending (record { to = from; message = messages.Answer number (Answered (outcome_of c tx)) } ∷ []))
heard decl c from number (messages.Close epoch) = moved c quiet
heard decl c from number (messages.Install start) = moved c quiet

abbrev pub client_takes : Declaration → Client → Input → ClientMove
client_takes decl c (inputs.Called command) = called decl c command
client_takes decl c (inputs.Got envelope) = heard decl c envelope.from envelope.number envelope.message
client_takes decl c (inputs.Lost number) = answered decl c number None

-- a request of the client's was sent to a site under this number

abbrev pub requested : Client → ℕ → ℕ → Want → Client
requested c number to (Read read) = record c { front = fronts.requested c.front number to }
requested c number to (Append object view own) = record c { front = fronts.requested c.front number to }
requested c number to Prepare = record c { desk = desks.prepared c.desk number to }

abbrev pub sent_one : Client → ℕ → ℕ → Message → Client
sent_one c number to message = option_map_or (λ (q : Requested). requested c number to q.want) (request_in message) c

-- a client over its deeds

abbrev pub client_does : Declaration → ClientMove → Deed → ClientMove
client_does decl move (Takes given) = client_takes decl move.client given
client_does decl move (Writes written) = move
client_does decl move (Sends number to message) = record move { client = sent_one move.client number to message }
client_does decl move (Tells reply) = move
client_does decl move (Falls cause pending) = move
client_does decl move (Rises records) = move

-- what a client is after these deeds, and its turn for the last input
abbrev pub client_after : Declaration → ℕ → List Deed → ClientMove
client_after decl number deeds = fold (client_does decl) (moved (new_client number) quiet) deeds

-- the messages of the last turn have the numbers from this one on
abbrev pub sent_by : Client → Option Voting → ℕ → Client
sent_by c None first = record c { front = fronts.sent c.front first }
sent_by c (Some v) first = record c { desk = desks.sent c.desk first }

abbrev pub sent : Client → ℕ → Client
sent c first = sent_by c c.desk.voting first
