-- What a client, and its front end, do for a command and for a message, case by case.
use Rattle.std.proofs.Common.{◌≡◌, ℕ, [], ◌∷◌, Some, None, refl}
use Rattle.qc_stamp.specs.declared.stamp.TxId.{TxId}
use Rattle.qc_decl.specs.declared.declaration.Declaration.{Declaration}
use Rattle.qc_msg.specs.declared.message.Answer.{Answer}
use Rattle.qc_msg.specs.declared.message.Answer.TheVariants.{Answered}
use Rattle.qc_msg.specs.declared.message.Message.{Message}
use Rattle.qc_msg.specs.declared.message.Message.TheVariants as messages
use Rattle.qc_msg.specs.declared.step.Command.{Command}
use Rattle.qc_msg.specs.declared.step.Command.TheVariants as commands
use Rattle.qc_msg.specs.Vocabulary.{answer_in, quiet, sending, epoch_in, Requested, request_in}
use Rattle.qc_front.specs.declared.front.Front.{Front}
use Rattle.qc_commit.specs.Conduct as desks
use Rattle.qc_front.specs.Conduct as fronts
use Rattle.qc_front.specs.Vocabulary.{FrontMove, aborts, begins, moved as front_moved, performs}
use Rattle.qc_client.specs.declared.client.Client.{Client}
use Rattle.qc_client.specs.Vocabulary.{ClientMove, answered, by_front, called, commits, heard, moved, outcome_of}
use Rattle.qc_client.specs.Vocabulary.{requested, sent_one}
use Rattle.qc_msg.specs.declared.message.Want.{Want}
use Rattle.qc_msg.specs.declared.message.Want.TheVariants.{Append, Prepare, Read}
use Rattle.laws_turns.proofs.ReadingCases.{mapped}

-- a command that is no move to an epoch, or one that is
pub command_cases : (P : Command → Type 0) → ((command : Command) → epoch_in command ≡ None → P command)
    → ((number : ℕ) → P (commands.Epoch number)) → (command : Command) → P command
command_cases P others moves commands.Begin = others commands.Begin refl
command_cases P others moves (commands.Do object inv) = others (commands.Do object inv) refl
command_cases P others moves commands.Commit = others commands.Commit refl
command_cases P others moves commands.Abort = others commands.Abort refl
command_cases P others moves (commands.Epoch number) = moves number

-- a command goes to the front end, but for a commit
pub called_cases : (decl : Declaration) (c : Client) (P : Command → ClientMove → Type 0)
    → ((command : Command) → P command (by_front c (fronts.called decl c.front command)))
    → P commands.Commit (commits decl c c.front.transaction) → (command : Command) → P command (called decl c command)
called_cases decl c P fronted committed commands.Begin = fronted commands.Begin
called_cases decl c P fronted committed (commands.Do object inv) = fronted (commands.Do object inv)
called_cases decl c P fronted committed commands.Commit = committed
called_cases decl c P fronted committed commands.Abort = fronted commands.Abort
called_cases decl c P fronted committed (commands.Epoch number) = fronted (commands.Epoch number)

-- the front end's part
pub front_cases : (decl : Declaration) (front : Front) (P : Command → FrontMove → Type 0)
    → P commands.Begin (begins decl front front.transaction)
    → ((object inv : ℕ) → P (commands.Do object inv) (performs decl front front.transaction object inv))
    → P commands.Commit (fronts.commits front front.transaction)
    → P commands.Abort (aborts front front.transaction)
    → ((number : ℕ) → P (commands.Epoch number) (front_moved front quiet))
    → (command : Command) → P command (fronts.called decl front command)
front_cases decl front P begun done committed aborted still commands.Begin = begun
front_cases decl front P begun done committed aborted still (commands.Do object inv) = done object inv
front_cases decl front P begun done committed aborted still commands.Commit = committed
front_cases decl front P begun done committed aborted still commands.Abort = aborted
front_cases decl front P begun done committed aborted still (commands.Epoch number) = still number

-- a message that is no answer changes nothing; the client tells how a transaction stands to who asks
pub heard_cases : (decl : Declaration) (c : Client) (from number : ℕ) (P : Message → ClientMove → Type 0)
    → ((m : Message) → answer_in m ≡ None → P m (moved c quiet))
    → ((to : ℕ) (answer : Answer) → P (messages.Answer to answer) (answered decl c to (Some answer)))
    → ((tx : TxId)
    → P (messages.Inquiry tx)
    (moved c (sending (record { to = from; message = messages.Decision tx (outcome_of c tx) } ∷ []))))
    → ((tx : TxId)
    → P (messages.Ask tx)
    (moved c (sending (record { to = from; message = messages.Answer number (Answered (outcome_of c tx)) } ∷ []))))
    → (m : Message) → P m (heard decl c from number m)
heard_cases decl c from number P silent comes inquired asked (messages.Request tx epoch life want) =
    silent (messages.Request tx epoch life want) refl
heard_cases decl c from number P silent comes inquired asked (messages.Answer to answer) = comes to answer
heard_cases decl c from number P silent comes inquired asked (messages.Decision tx verdict) =
    silent (messages.Decision tx verdict) refl
heard_cases decl c from number P silent comes inquired asked (messages.Inquiry tx) = inquired tx
heard_cases decl c from number P silent comes inquired asked (messages.Ask tx) = asked tx
heard_cases decl c from number P silent comes inquired asked (messages.Close epoch) =
    silent (messages.Close epoch) refl
heard_cases decl c from number P silent comes inquired asked (messages.Install start) =
    silent (messages.Install start) refl

-- a message that is sent changes it where it is a request: the front end notes the number of one, the desk of a Prepare
pub sent_cases : (c : Client) (number to : ℕ) (P : Client → Type 0)
    → P (record c { front = fronts.requested c.front number to })
    → P (record c { desk = desks.prepared c.desk number to }) → P c → (m : Message) → P (sent_one c number to m)
sent_cases c number to P asked prepared none m =
    mapped P (λ (q : Requested). requested c number to q.want) c (request_in m) (λ q. by q.want) none
  where
    by : (w : Want) → P (requested c number to w)
    by (Read read) = asked
    by (Append object view own) = asked
    by Prepare = prepared
