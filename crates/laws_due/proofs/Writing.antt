-- A client's turn writes a commit record or none; where the record isn't written it sends nothing and tells Unknown.
use Rattle.std.proofs.Common.{◌≡◌, ◌⊎◌, ◌==◌, ℕ, nat_le, Bool, true, false, cond, List, [], length, map, inl, inr}
use Rattle.std.proofs.Common.{Option, Some, None, refl}
use Rattle.qc_commit.specs.declared.ballot.Ballot.{Ballot}
use Rattle.qc_commit.specs.declared.desk.Desk.{Desk}
use Rattle.qc_commit.specs.declared.desk.Voting.{Voting}
use Rattle.qc_commit.specs.Conduct as desks
use Rattle.qc_commit.specs.Desk as desk
use Rattle.qc_commit.specs.Vocabulary.{are_cast, blank, cast, first_against, participants, prepares, vote_of}
use Rattle.qc_client.specs.declared.client.Client.{Client}
use Rattle.qc_client.specs.Vocabulary.{answered_by, by_desk, by_front, called, client_takes, commits, heard, ClientMove}
use Rattle.qc_decl.specs.declared.declaration.Declaration.{Declaration}
use Rattle.qc_entry.specs.declared.record.Commit.{Commit}
use Rattle.qc_front.specs.declared.doing.Doing.{Doing}
use Rattle.qc_front.specs.declared.doing.Doing.TheVariants.{Idle, Reading, Appending}
use Rattle.qc_front.specs.declared.front.Front.{Front}
use Rattle.qc_front.specs.declared.transaction.Transaction.{Transaction}
use Rattle.qc_front.specs.Vocabulary.{answer_of, appended_with, learns, read_with, round_for, standing_of, FrontMove}
use Rattle.qc_front.specs.Conduct as fronts
use Rattle.qc_front.specs.Front as front
use Rattle.qc_front.specs.Rounds as rounds
use Rattle.qc_msg.specs.declared.begun.Begun.{Begun}
use Rattle.qc_msg.specs.declared.call.Call.{Call}
use Rattle.qc_msg.specs.declared.message.Answer.{Answer}
use Rattle.qc_msg.specs.declared.message.Message.{Message}
use Rattle.qc_msg.specs.declared.record.Record.TheVariants as records
use Rattle.qc_msg.specs.declared.reply.Reply.TheVariants as replies
use Rattle.qc_msg.specs.declared.reply.AbortCause.{AbortCause}
use Rattle.qc_msg.specs.declared.reply.AbortCause.TheVariants as causes
use Rattle.qc_msg.specs.declared.step.Command.{Command}
use Rattle.qc_msg.specs.declared.step.Command.TheVariants as commands
use Rattle.qc_msg.specs.declared.step.Input.{Input}
use Rattle.qc_msg.specs.declared.step.Input.TheVariants as inputs
use Rattle.qc_msg.specs.declared.turn.Turn.{Turn}
use Rattle.qc_msg.specs.Vocabulary.{quiet, sending, site_called, telling, without_call}
use Rattle.qc_plan.specs.declared.standing.Verdict.{Verdict}
use Rattle.qc_plan.specs.declared.standing.Verdict.TheVariants as verdicts
use Rattle.qc_plan.specs.Vocabulary.{RoundState, note, verdict}
use Rattle.qc_decl.specs.Vocabulary.{append_need_of, most_transaction_operations, read_need_of}
use Rattle.laws_turns.proofs.ClientCases.{called_cases, front_cases, heard_cases}

-- a turn whose record is a commit's
pub record IsCommitTurn (turn : Turn) : Type 0 where
  pub commit : Commit
  pub write : turn.write ≡ Some (records.Commit commit)
  pub failed_sends : turn.failed_sends ≡ []
  pub failed_told : turn.failed_told ≡ Some replies.Unknown

abbrev pub IsClientTurn : Turn → Type 0
IsClientTurn turn = (turn.write ≡ None) ⊎ IsCommitTurn turn

-- a front end writes nothing

module _ (decl : Declaration) where
  append_writes : (f : Front) (t : Transaction) (object inv event : ℕ) (calls : List Call) (round : RoundState)
      (v : Verdict) → (rounds.append_by decl f t object inv event calls round v).turn.write ≡ None
  append_writes f t object inv event calls round verdicts.Waiting = refl
  append_writes f t object inv event calls round verdicts.Met = refl
  append_writes f t object inv event calls round (verdicts.Closed epoch site) = refl
  append_writes f t object inv event calls round (verdicts.Clash tx site) = refl
  append_writes f t object inv event calls round (verdicts.Short got need) = refl

  answered_writes : (f : Front) (t : Transaction) (object inv : ℕ) (o : Option ℕ)
      → (rounds.answered decl f t object inv o).turn.write ≡ None
  answered_writes f t object inv None = refl
  answered_writes f t object inv (Some event) =
      let round : RoundState = round_for decl f t (append_need_of decl t.begun.epoch object event) in
      append_writes f t object inv event [] round (verdict round)

  read_writes : (f : Front) (t : Transaction) (object inv : ℕ) (calls : List Call) (round : RoundState) (v : Verdict)
      → (rounds.read_by decl f t object inv calls round v).turn.write ≡ None
  read_writes f t object inv calls round verdicts.Waiting = refl
  read_writes f t object inv calls round verdicts.Met = answered_writes f t object inv (answer_of decl t object inv)
  read_writes f t object inv calls round (verdicts.Closed epoch site) = refl
  read_writes f t object inv calls round (verdicts.Clash tx site) = refl
  read_writes f t object inv calls round (verdicts.Short got need) = refl

  performs_writes : (f : Front) (o : Option Transaction) (object inv : ℕ)
      → (rounds.performs decl f o object inv).turn.write ≡ None
  performs_writes f None object inv = refl
  performs_writes f (Some t) object inv = by t.begun.doomed (nat_le most_transaction_operations (length t.begun.ops))
    where
      round : RoundState
      round = round_for decl f t (read_need_of decl t.begun.epoch object inv)

      by : (x y : Bool)
          → (cond x (front.moved f (telling replies.Doomed))
          (cond y (front.moved f (telling replies.TooLong)) (rounds.reads decl f t object inv [] round))).turn.write
          ≡ None
      by true y = refl
      by false true = refl
      by false false = read_writes f t object inv [] round (verdict round)

  commits_writes : (f : Front) (o : Option Transaction) → (fronts.commits f o).turn.write ≡ None
  commits_writes f None = refl
  commits_writes f (Some t) = by t.begun.doomed
    where
      by : (x : Bool) → (cond x (front.gives_up f t (replies.Aborted causes.Doomed)) (front.moved f quiet)).turn.write
          ≡ None
      by true = refl
      by false = refl

  begins_writes : (f : Front) (o : Option Transaction) → (front.begins decl f o).turn.write ≡ None
  begins_writes f None = refl
  begins_writes f (Some t) = refl

  aborts_writes : (f : Front) (o : Option Transaction) → (front.aborts f o).turn.write ≡ None
  aborts_writes f None = refl
  aborts_writes f (Some t) = refl

  called_writes : (f : Front) (command : Command) → (fronts.called decl f command).turn.write ≡ None
  called_writes f command =
      front_cases decl f (λ (c : Command) (move : FrontMove). move.turn.write ≡ None) (begins_writes f f.transaction)
      (performs_writes f f.transaction) (commits_writes f f.transaction) (aborts_writes f f.transaction)
      (λ number. refl) command

  takes_writes : (f : Front) (doing : Doing) (o : Option Transaction) (number : ℕ) (answer : Option Answer)
      → (fronts.takes_in decl f doing o number answer).turn.write ≡ None
  takes_writes f doing None number answer = refl
  takes_writes f Idle (Some t) number answer = refl
  takes_writes f (Reading object inv calls round) (Some t) number answer = by (site_called calls number)
    where
      by : (o : Option ℕ) → (fronts.reading_takes decl f t object inv calls round number answer o).turn.write ≡ None
      by None = refl
      by (Some site) =
          let noted : RoundState = note round site (standing_of answer) in
          read_writes (learns f answer) (read_with t site object answer) object inv (without_call calls number) noted
          (verdict noted)
  takes_writes f (Appending object inv event calls round) (Some t) number answer = by (site_called calls number)
    where
      by : (o : Option ℕ) → (fronts.appending_takes decl f t object inv event calls round number answer o).turn.write
          ≡ None
      by None = refl
      by (Some site) =
          let noted : RoundState = note round site (standing_of answer) in
          append_writes (learns f answer) (appended_with t site answer) object inv event
          (without_call calls number) noted (verdict noted)

-- a desk writes the record of a commit

decides_turn : (d : Desk) (b : Begun) → IsClientTurn (desks.decides d b).turn
decides_turn d b = inr (record {
  commit = desks.commit_of (desks.next_stamp d) b;
  write = refl;
  failed_sends = refl;
  failed_told = refl;
})

counted_turn : (d : Desk) (b : Begun) (o : Option AbortCause) → IsClientTurn (desks.counted_out d b o).turn
counted_turn d b (Some why) = inl refl
counted_turn d b None = decides_turn d b

counts_turn : (d : Desk) (b : Begun) (calls : List Call) (ballots : List Ballot)
    → IsClientTurn (desks.counts d b calls ballots).turn
counts_turn d b calls ballots = by (are_cast ballots)
  where
    by : (x : Bool) → IsClientTurn (cond x (desks.counted_out d b (first_against ballots))
        (desk.moved (desks.with_voting d (Some (record { begun = b; calls = calls; ballots = ballots }))) quiet)).turn
    by true = counted_turn d b (first_against ballots)
    by false = inl refl

vote_turn : (d : Desk) (v : Voting) (number : ℕ) (answer : Option Answer) (o : Option ℕ)
    → IsClientTurn (desks.votes_at d v number answer o).turn
vote_turn d v number answer None = inl refl
vote_turn d v number answer (Some site) =
    counts_turn (desks.learns d answer) v.begun (without_call v.calls number)
    (cast v.ballots site (vote_of v.begun site answer))

votes_turn : (d : Desk) (o : Option Voting) (number : ℕ) (answer : Option Answer)
    → IsClientTurn (desks.votes_in d o number answer).turn
votes_turn d None number answer = inl refl
votes_turn d (Some v) number answer = vote_turn d v number answer (site_called v.calls number)

prepare_turn : (decl : Declaration) (d : Desk) (b : Begun) (clock : ℕ)
    → IsClientTurn (desks.prepare decl d b clock).turn
prepare_turn decl d b clock = by (length (participants decl d.client b) == 0)
  where
    by : (x : Bool) → IsClientTurn (cond x (desks.decides (desks.passed d clock) b)
        (desk.moved (desks.with_voting (desks.passed d clock)
        (Some (record { begun = b; calls = []; ballots = blank (participants decl d.client b) })))
        (sending (map (prepares b) (participants decl d.client b))))).turn
    by true = decides_turn (desks.passed d clock) b
    by false = inl refl

-- a client's turn is one or the other's

answered_turn : (decl : Declaration) (c : Client) (o : Option Voting) (number : ℕ) (answer : Option Answer)
    → IsClientTurn (answered_by decl c o number answer).turn
answered_turn decl c None number answer =
    inl (takes_writes decl c.front c.front.doing c.front.transaction number answer)
answered_turn decl c (Some v) number answer = votes_turn c.desk c.desk.voting number answer

commit_turn : (decl : Declaration) (c : Client) (o : Option Transaction) → IsClientTurn (commits decl c o).turn
commit_turn decl c None = inl (called_writes decl c.front commands.Commit)
commit_turn decl c (Some t) = by t.begun.doomed
  where
    by : (x : Bool) → IsClientTurn (cond x (by_front c (fronts.called decl c.front commands.Commit))
        (by_desk c (desks.prepare decl c.desk t.begun c.front.clock.value))).turn
    by true = inl (called_writes decl c.front commands.Commit)
    by false = prepare_turn decl c.desk t.begun c.front.clock.value

called_turn : (decl : Declaration) (c : Client) (command : Command) → IsClientTurn (called decl c command).turn
called_turn decl c command =
    called_cases decl c (λ (x : Command) (move : ClientMove). IsClientTurn move.turn)
    (λ x. inl (called_writes decl c.front x)) (commit_turn decl c c.front.transaction) command

heard_turn : (decl : Declaration) (c : Client) (from number : ℕ) (m : Message)
    → IsClientTurn (heard decl c from number m).turn
heard_turn decl c from number m =
    heard_cases decl c from number (λ (x : Message) (move : ClientMove). IsClientTurn move.turn) (λ x none. inl refl)
    (λ to answer. answered_turn decl c c.desk.voting to (Some answer)) (λ tx. inl refl) (λ tx. inl refl) m

pub takes_turn : (decl : Declaration) (c : Client) (g : Input) → IsClientTurn (client_takes decl c g).turn
takes_turn decl c (inputs.Called command) = called_turn decl c command
takes_turn decl c (inputs.Got envelope) = heard_turn decl c envelope.from envelope.number envelope.message
takes_turn decl c (inputs.Lost number) = answered_turn decl c c.desk.voting number None
