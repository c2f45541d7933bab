-- A client agrees with what the machine says of its transactions, and so do its records.
use Rattle.std.specs.Prelude.{MatchOption, option_and_then, ◌≡◌, ◌≢◌, ◌⊎◌, ℕ, ◌+◌, ◌<◌, ◌≤◌, false, List, Option, Some}
use Rattle.std.specs.Prelude.{None, length, map}
use Rattle.qc_stamp.specs.declared.stamp.TxId.{TxId}
use Rattle.qc_list.specs.Vocabulary.{In}
use Rattle.qc_entry.specs.declared.line.Line.{Line}
use Rattle.qc_entry.specs.declared.record.Commit.{Commit as CommitRecord}
use Rattle.qc_entry.specs.Vocabulary.{IsAscending}
use Rattle.qc_plan.specs.declared.standing.Asked.{Asked}
use Rattle.qc_plan.specs.declared.standing.Standing.TheVariants as standings
use Rattle.qc_decl.specs.Vocabulary.{client_actor}
use Rattle.qc_decl.specs.declared.declaration.Declaration.{Declaration}
use Rattle.qc_msg.specs.declared.call.Call.{Call}
use Rattle.qc_msg.specs.declared.message.Envelope.{Envelope}
use Rattle.qc_msg.specs.declared.message.Want.{Want}
use Rattle.qc_msg.specs.declared.message.Want.TheVariants.{Prepare}
use Rattle.qc_msg.specs.Vocabulary.{life_of, commit_of}
use Rattle.qc_msg.specs.declared.message.Message.TheVariants as messages
use Rattle.laws_refinement.specs.Lives.{LivesMirror}
use Rattle.laws_refinement.specs.Sites.{IsPlanned}
use Rattle.theory_onecopy.specs.Vocabulary.{Executed}
use Rattle.theory_machine.specs.Vocabulary.{Aborted, Active, AppendRequest, Committed, Granted, HasGranted, IsShown}
use Rattle.theory_machine.specs.Vocabulary.{Item, Lock, MayCommit, NotBegun, Own, State, Status, YesVote, op_of}
use Rattle.theory_machine.specs.Vocabulary.{own_on as machine_own_on}
use Rattle.theory_machine.specs.State as machine
use Rattle.qc_commit.specs.declared.ballot.Ballot.{Ballot}
use Rattle.qc_commit.specs.declared.ballot.Vote.TheVariants.{For}
use Rattle.qc_commit.specs.declared.desk.Voting.{Voting}
use Rattle.qc_commit.specs.Vocabulary.{record_of}
use Rattle.qc_front.specs.declared.doing.Doing.{Doing}
use Rattle.qc_front.specs.declared.doing.Doing.TheVariants.{Idle, Reading, Appending}
use Rattle.qc_front.specs.declared.front.Front.{Front}
use Rattle.qc_front.specs.declared.transaction.Transaction.{Transaction}
use Rattle.qc_front.specs.Vocabulary.{IsFor, calls_in, next_own, op_of as operation_of, own_appended, own_on, resp_of}
use Rattle.qc_front.specs.Vocabulary.{view_log}
use Rattle.qc_client.specs.Vocabulary.{is_begun}
use Rattle.qc_client.specs.declared.client.Client.{Client}
use Rattle.qc_msg.specs.declared.record.Record.{Record}
use Rattle.qc_msg.specs.declared.record.Record.TheVariants as records
use Rattle.qc_recover.specs.Clients.{Kept}
use Rattle.laws_refinement.specs.Items.{own_items}
use Rattle.laws_refinement.specs.Messages.{IsMessage, IsRequest}
use Rattle.laws_refinement.specs.Net.{IsNamedAt}

-- the name of a client's transaction of this number
abbrev pub name_at : Front → ℕ → TxId
name_at front number = record { client = front.client; life = front.life; number = number }

-- a begun transaction is voted on while the desk waits for votes
abbrev pub status_by : Option Voting → Status
status_by None = Active
status_by (Some v) = machine.Voting

-- operations, as the machine has them

-- the operation whose event is appended
abbrev pub chosen_of : Declaration → Transaction → ℕ → ℕ → ℕ → Executed
chosen_of decl t object inv event =
    record {
      number = length t.begun.ops + 1;
      op = operation_of object inv (Some (resp_of decl object event));
      event = event;
      view = view_log t object;
      own = own_on t.own object;
    }

-- one that no response answers
abbrev pub absent_of : Transaction → ℕ → ℕ → Executed
absent_of t object inv =
    record {
      number = length t.begun.ops + 1;
      op = operation_of object inv None;
      event = 0;
      view = view_log t object;
      own = own_on t.own object;
    }

-- the Append that is sent for an event
abbrev pub append_of : Declaration → Transaction → ℕ → ℕ → AppendRequest
append_of decl t object event =
    record {
      tx = t.begun.tx;
      items = own_items (own_appended decl t object event);
      view = view_log t object;
    }

-- while an event is appended, its operation is chosen and its Append is sent; a transaction that may still commit has
-- nothing chosen otherwise
abbrev pub IsChosen : Declaration → State → Transaction → Doing → Type 0
IsChosen decl now t Idle = t.begun.doomed ≡ false → now.chosen t.begun.tx ≡ None
IsChosen decl now t (Reading object inv calls round) = now.chosen t.begun.tx ≡ None
IsChosen decl now t (Appending object inv event calls round) =
    (now.chosen t.begun.tx ≡ Some (chosen_of decl t object inv event)) × In (append_of decl t object event) now.appends

-- each site of a round that granted has a counted grant with the item
abbrev pub AreCounted : List Granted → TxId → Item → List Asked → Type 0
AreCounted counted tx item asked =
    (a : Asked) → In a asked → a.standing ≡ Some standings.Granted → HasGranted counted tx a.site item

abbrev pub IsRoundCounted : Declaration → State → Transaction → Doing → Type 0
IsRoundCounted decl now t Idle = Unit {0}
IsRoundCounted decl now t (Reading object inv calls round) = IsNamedAt decl object inv
    × AreCounted now.counted t.begun.tx (Lock (record { object = object; inv = inv })) round.asked
IsRoundCounted decl now t (Appending object inv event calls round) =
    AreCounted now.counted t.begun.tx (Own (next_own t object event)) round.asked

-- an open request of the running round was sent under its number
abbrev pub IsAskedBy : Declaration → List Envelope → Transaction → Doing → Call → Type 0
IsAskedBy decl mail t doing call =
    (want : Want)
    × IsMessage mail call.number call.site
    (messages.Request t.begun.tx t.begun.epoch (life_of t.begun.lives call.site) want)
    × IsFor decl t doing call.site want

-- a begun transaction's operations, views and participants, whatever runs
pub record TransactionMirrors (now : State) (front : Front) (t : Transaction) : Type 0 where
  pub named : t.begun.tx ≡ name_at front front.count
  pub epoch : t.begun.epoch ≡ now.epoch t.begun.tx
  pub lives : LivesMirror now.counted t.begun.tx t.begun.lives
  pub ops : t.begun.ops ≡ map op_of (now.executed t.begun.tx)
  pub own : (object : ℕ) → own_on t.own object ≡ machine_own_on (now.executed t.begun.tx) object
  -- an object's view has just the lines that counted grants showed
  pub sorted : (object : ℕ) → IsAscending (view_log t object)
  pub shown : (object : ℕ) (l : Line) → In l (view_log t object)
      → (l.object ≡ object) × IsShown now.counted t.begun.tx l
  pub whole : (l : Line) → IsShown now.counted t.begun.tx l → In l (view_log t l.object)

-- the votes for a transaction's commit: each participant has a ballot, and each ballot for it was voted
pub record VotesMirror (now : State) (mail : List Envelope) (c : Client) (t : Transaction) (v : Voting) : Type 0 where
  pub begun : v.begun ≡ t.begun
  pub idle : c.front.doing ≡ Idle
  pub clock : now.clock c.front.client ≤ c.desk.clock.value
  pub each : (g : Granted) → In g now.counted → g.tx ≡ t.begun.tx
      → (b : Ballot) × In b v.ballots × (b.site ≡ g.site)
  pub voted : (b : Ballot) → In b v.ballots → b.vote ≡ Some For
      → In {X = YesVote} (record { tx = t.begun.tx; site = b.site }) now.votes
  pub calls : (call : Call) → In call v.calls → IsRequest mail call.number call.site t.begun.tx Prepare

abbrev pub AreVotes : State → List Envelope → Client → Transaction → Option Voting → Type 0
AreVotes now mail c t None = Unit {0}
AreVotes now mail c t (Some v) = VotesMirror now mail c t v

-- what runs of it
pub record RunningMirrors (decl : Declaration) (now : State) (mail : List Envelope) (c : Client)
    (t : Transaction) : Type 0 where
  pub status_is : now.status t.begun.tx ≡ status_by c.desk.voting
  pub chosen : IsChosen decl now t c.front.doing
  pub counted : IsRoundCounted decl now t c.front.doing
  pub calls : (call : Call) → In call (calls_in c.front.doing) → IsAskedBy decl mail t c.front.doing call
  pub votes : AreVotes now mail c t c.desk.voting

-- where none is begun, nothing runs
pub record NothingRuns (c : Client) : Type 0 where
  pub doing : c.front.doing ≡ Idle
  pub voting : c.desk.voting ≡ None

abbrev pub BegunMirrors : Declaration → State → List Envelope → Client → Option Transaction → Type 0
BegunMirrors decl now mail c None = NothingRuns c
BegunMirrors decl now mail c (Some t) = TransactionMirrors now c.front t × RunningMirrors decl now mail c t

-- its number, life, epoch and clock, and its transactions: those to come aren't begun, one with a record has committed,
-- and each other one that isn't the begun one has aborted
pub record OwnMirrors (decl : Declaration) (now : State) (a : ℕ) (c : Client) (begun : Option Transaction)
    : Type 0 where
  pub actor : a ≡ client_actor decl c.front.client
  pub desk : c.desk.client ≡ c.front.client
  pub epoch : IsPlanned decl c.front.epoch
  pub desk_epoch : IsPlanned decl c.desk.epoch
  pub clock : now.clock c.front.client ≤ c.front.clock.value
  pub to_come : (number : ℕ) → c.front.count < number → now.status (name_at c.front number) ≡ NotBegun
  pub lives_to_come : (t : TxId) → t.client ≡ c.front.client → c.front.life < t.life → now.status t ≡ NotBegun
  pub committed : (r : CommitRecord) → In r c.desk.commits
      → (r.tx.client ≡ c.front.client) × (now.status r.tx ≡ Committed r)
  pub aborted : (t : TxId) → t.client ≡ c.front.client → now.status t ≢ NotBegun → is_begun t begun ≡ false
      → record_of c.desk.commits t ≡ None → now.status t ≡ Aborted

pub record ClientMirrors (decl : Declaration) (now : State) (mail : List Envelope) (a : ℕ) (c : Client)
    : Type 0 where
  pub own : OwnMirrors decl now a c c.front.transaction
  pub begun : BegunMirrors decl now mail c c.front.transaction

-- a client agrees with its records
pub record IsClientKeptBy (c : Client) (k : Kept) : Type 0 where
  pub life : c.front.life ≡ k.life
  pub commits : (r : CommitRecord) → In r k.commits → In r c.desk.commits
  pub none : (t : TxId) → record_of k.commits t ≡ None → record_of c.desk.commits t ≡ None

-- a commit record that may stand or not: were it written, its transaction would commit by it

abbrev pub IsPendingOf : TxId → Option Record → Type 0
IsPendingOf t written = MatchOption (option_and_then commit_of written) ⊥ (λ (r : CommitRecord). t ≡ r.tx)

abbrev pub IsPendingBy : State → ℕ → Option Record → Type 0
IsPendingBy now client None = Unit {0}
IsPendingBy now client (Some records.Life) = Unit {0}
IsPendingBy now client (Some (records.Prepare p)) = ⊥
IsPendingBy now client (Some (records.Done tx clock)) = ⊥
IsPendingBy now client (Some (records.Close epoch)) = ⊥
IsPendingBy now client (Some (records.Install start)) = ⊥
IsPendingBy now client (Some (records.Commit r)) = MayCommit now r × (r.tx.client ≡ client)
IsPendingBy now client (Some (records.Decide start)) = ⊥

-- a client that is down: by its records; each transaction without one has aborted, but the one whose record is pending
pub record FallenMirrors (now : State) (client : ℕ) (k : Kept) (pending : Option Record) : Type 0 where
  pub to_come : (t : TxId) → t.client ≡ client → k.life < t.life → now.status t ≡ NotBegun
  pub committed : (r : CommitRecord) → In r k.commits → (r.tx.client ≡ client) × (now.status r.tx ≡ Committed r)
  pub passed : (r : CommitRecord) → In r k.commits → r.stamp.clock ≤ k.clock
  pub ended : (t : TxId) → t.client ≡ client → now.status t ≢ NotBegun → record_of k.commits t ≡ None
      → (now.status t ≡ Aborted) ⊎ IsPendingOf t pending
  pub pends : IsPendingBy now client pending
