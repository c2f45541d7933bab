-- The open requests of a client, and what becomes of each.
use Rattle.std.specs.Prelude.{MatchOption, ◌≡◌, ℕ, ◌⊎◌, ◌||◌, not, Bool, List, Option, Some, None, is_some}
use Rattle.qc_list.specs.Vocabulary.{In}
use Rattle.qc_client.specs.declared.client.Client.{Client}
use Rattle.qc_commit.specs.declared.desk.Voting.{Voting}
use Rattle.qc_front.specs.declared.doing.Doing.{Doing}
use Rattle.qc_front.specs.Vocabulary.{calls_in, is_idle}
use Rattle.qc_msg.specs.declared.call.Call.{Call}
use Rattle.qc_msg.specs.declared.message.Envelope.{Envelope}
use Rattle.qc_msg.specs.declared.message.Message.{Message}
use Rattle.qc_script.specs.Vocabulary.{Inbox, request_numbers}
use Rattle.qc_msg.specs.Vocabulary.{Answered, answer_in}

-- the requests that a client waits for: its Prepares while it commits, else those of its running `do`

abbrev pub calls_by : Option Voting → Doing → List Call
calls_by None doing = calls_in doing
calls_by (Some v) doing = v.calls

abbrev pub open_calls : Client → List Call
open_calls c = calls_by c.desk.voting c.front.doing

-- whether a client waits: for the votes of a commit, or for what its running `do` asked

abbrev pub waits : Option Voting → Doing → Bool
waits voting doing = is_some voting || not (is_idle doing)

abbrev pub is_waiting : Client → Bool
is_waiting c = waits c.desk.voting c.front.doing

-- a message that answers the request of this number
abbrev pub IsAnswerTo : ℕ → Message → Type 0
IsAnswerTo n message = MatchOption (answer_in message) ⊥ (λ (a : Answered). a.to ≡ n)

pub record HasAnswer (n : ℕ) (es : List Envelope) : Type 0 where
  pub envelope : Envelope
  pub member : In envelope es
  pub answers : IsAnswerTo n envelope.message

-- of a request of an inbox's actor: it takes yet that it is lost, or it has no answer yet, or a copy of one is ready
abbrev pub IsAwaited : ℕ → Inbox → Type 0
IsAwaited n i = In n i.lost ⊎ (In n (request_numbers i.unanswered) ⊎ HasAnswer n i.copies)
