-- What a client tells of transactions is how they stand, and a committed one stays so.
use Rattle.std.proofs.Common.{◌≡◌, ℕ, ◌⊎◌, Bool, true, false, cond, List, [], ◌∷◌, ◌++◌, map, Option, Some, None}
use Rattle.std.proofs.Common.{option_map, is_some, inl, inr, refl, sym, ap, ◌∙◌, subst}
use Rattle.std.specs.List.{AllByRecursion as Every}
use Rattle.qc_list.proofs.Members.{every-weaker}
use Rattle.qc_decl.specs.declared.declaration.Declaration.{Declaration}
use Rattle.qc_stamp.specs.declared.stamp.Stamp.{Stamp}
use Rattle.qc_stamp.specs.declared.stamp.TxId.{TxId}
use Rattle.qc_commit.specs.declared.desk.Desk.{Desk}
use Rattle.qc_commit.specs.declared.desk.Known.{Known}
use Rattle.qc_commit.specs.declared.desk.Known.TheVariants as knowns
use Rattle.qc_commit.specs.declared.desk.Voting.{Voting}
use Rattle.qc_commit.specs.Vocabulary.{DeskMove, IsCommitted, Numbers, Prepares, Votes, known, known_by, record_of}
use Rattle.qc_commit.specs.Conduct as desks
use Rattle.qc_entry.specs.declared.record.Commit.{Commit}
use Rattle.qc_commit.proofs.Moves.{Aborts, Commits, IsMove, IsPrepare, IsPromiseWanted, Waits, prepare-moves, tx_of}
use Rattle.qc_commit.proofs.Moves.{vote-moves}
use Rattle.qc_commit.proofs.Rising.{known-call, known-new}
use Rattle.qc_front.specs.declared.front.Front.{Front}
use Rattle.qc_front.specs.declared.transaction.Transaction.{Transaction}
use Rattle.qc_front.specs.Conduct as fronts
use Rattle.qc_front.specs.Vocabulary.{FrontMove, ended}
use Rattle.qc_msg.specs.declared.begun.Begun.{Begun}
use Rattle.qc_msg.specs.declared.message.Answer.{Answer}
use Rattle.qc_msg.specs.declared.message.Message.{Message}
use Rattle.qc_msg.specs.declared.message.Message.TheVariants as messages
use Rattle.qc_msg.specs.declared.message.Outcome.{Outcome}
use Rattle.qc_msg.specs.declared.message.Outcome.TheVariants as outcomes
use Rattle.qc_msg.specs.declared.step.Command.{Command}
use Rattle.qc_msg.specs.declared.step.Command.TheVariants as commands
use Rattle.qc_msg.specs.declared.step.Input.{Input}
use Rattle.qc_msg.specs.declared.step.Input.TheVariants as given
use Rattle.qc_msg.specs.declared.turn.Posting.{Posting}
use Rattle.qc_msg.specs.declared.turn.Turn.{Turn}
use Rattle.qc_client.specs.declared.client.Client.{Client}
use Rattle.qc_client.specs.Vocabulary.{ClientMove, IsReady, NumberedInput, TellsOutcome, after_input, after_inputs}
use Rattle.qc_client.specs.Vocabulary.{answered, answered_by, by_desk, by_front, called, client_takes, commits, heard}
use Rattle.qc_client.specs.Vocabulary.{is_begun, name_of, outcome_by, outcome_of, sent, sent_by}
use Rattle.qc_client.proofs.FrontSends.{IsFrontMove, IsSending, IsVerdict}
use Rattle.qc_client.proofs.Fronts.{called-goes, takes-goes}
use Rattle.qc_client.proofs.Names.{IsWell}

-- how a transaction stands, by what is known of it

pub stands-committed : (c : Client) (tx : TxId) (stamp : Stamp) → known c.desk tx ≡ knowns.Committed stamp
    → outcome_of c tx ≡ outcomes.Committed stamp
stands-committed c tx stamp is = ap (λ (k : Known). outcome_by k (is_begun tx c.front.transaction)) is

pub stands-active : (c : Client) (tx : TxId) → known c.desk tx ≡ knowns.Uncommitted
    → is_begun tx c.front.transaction ≡ true → outcome_of c tx ≡ outcomes.Active
stands-active c tx none begun = λ i. outcome_by (none i) (begun i)

pub stands-aborted : (c : Client) (tx : TxId) → known c.desk tx ≡ knowns.Uncommitted
    → is_begun tx c.front.transaction ≡ false → outcome_of c tx ≡ outcomes.Aborted
stands-aborted c tx none begun = λ i. outcome_by (none i) (begun i)

committed-known : (c : Client) (tx : TxId) (stamp : Stamp) → outcome_of c tx ≡ outcomes.Committed stamp
    → known c.desk tx ≡ knowns.Committed stamp
committed-known c tx stamp is = by (known c.desk tx) (is_begun tx c.front.transaction) is where
  by : (k : Known) (b : Bool) → outcome_by k b ≡ outcomes.Committed stamp → k ≡ knowns.Committed stamp
  by (knowns.Committed s) b same = let it : s ≡ stamp = cc in ap (λ (v : Stamp). knowns.Committed v) it
  by knowns.Uncommitted true never = absurd (let no : ⊥ = cc in no)
  by knowns.Uncommitted false never = absurd (let no : ⊥ = cc in no)

-- what the front end sends

front-tells : (c : Client) (m : FrontMove) → IsFrontMove c.front m → IsWell c
    → Every (λ (p : Posting). TellsOutcome (by_front c m).client p.message) m.turn.sends
front-tells c m goes well = every-weaker (λ (p : Posting). IsSending c.front m.front p.message)
    (λ (p : Posting). TellsOutcome (by_front c m).client p.message) (λ p. tells p.message) m.turn.sends goes.sends where
      verdict : (tx : TxId) (v : Outcome) → IsVerdict c.front m.front tx v → v ≡ outcome_of (by_front c m).client tx
      verdict tx (outcomes.Committed stamp) never = absurd never
      verdict tx outcomes.Aborted is = sym (stands-aborted (by_front c m).client tx (well.unknown tx is.0)
          (ap (is_begun tx) is.1))
      verdict tx outcomes.Active never = absurd never

      tells : (message : Message) → IsSending c.front m.front message → TellsOutcome (by_front c m).client message
      tells (messages.Request tx epoch life want) is = tt
      tells (messages.Answer to answer) is = tt
      tells (messages.Decision tx v) is = verdict tx v is
      tells (messages.Inquiry tx) is = tt
      tells (messages.Ask tx) is = tt
      tells (messages.Close epoch) is = tt
      tells (messages.Install start) is = tt

-- what the desk sends

verdicts-tell : (c : Client) (b : Begun) (v : Outcome) → v ≡ outcome_of c b.tx → (sites : List ℕ)
    → Every (λ (p : Posting). TellsOutcome c p.message)
    (map (λ site. record { to = site; message = messages.Decision b.tx v }) sites)
verdicts-tell c b v is [] = tt
verdicts-tell c b v is (site ∷ sites) = (is, verdicts-tell c b v is sites)

-- the front end's transaction has ended where something is told
ended-none : (c : Client) (m : DeskMove) (tx : TxId) → is_some m.turn.told ≡ true
    → is_begun tx (by_desk c m).client.front.transaction ≡ false
ended-none c m tx told = ap (λ (t : Bool). is_begun tx
    (cond t (ended c.front m.desk.clock.value m.desk.epoch) c.front).transaction) told

desk-tells : (c : Client) (m : DeskMove) (hand : Option TxId) → IsMove c.desk hand m
    → ((tx : TxId) → hand ≡ Some tx → name_of c.front.transaction ≡ Some tx) → IsWell c
    → Every (λ (p : Posting). TellsOutcome (by_desk c m).client p.message) m.turn.sends
desk-tells c m hand (inl w) begun well =
    every-weaker (λ (p : Posting). IsPrepare p.message) (λ (p : Posting). TellsOutcome (by_desk c m).client p.message)
    (λ p. tells p.message) m.turn.sends w.sends where
      tells : (message : Message) → IsPrepare message → TellsOutcome (by_desk c m).client message
      tells (messages.Request tx epoch life want) is = tt
      tells (messages.Answer to answer) is = tt
      tells (messages.Decision tx v) never = absurd never
      tells (messages.Inquiry tx) is = tt
      tells (messages.Ask tx) is = tt
      tells (messages.Close epoch) is = tt
      tells (messages.Install start) is = tt
desk-tells c m hand (inr (inl r)) begun well =
    subst (λ ps. Every (λ (p : Posting). TellsOutcome (by_desk c m).client p.message) ps)
    (sym (ap (λ (t : Turn). t.sends) r.turn))
    (verdicts-tell (by_desk c m).client r.begun (outcomes.Committed r.stamp)
    (sym (stands-committed (by_desk c m).client r.begun.tx r.stamp
    (known-new c.desk r.begun r.stamp m (record { turn = r.turn; kept = r.commits; clock = r.passed; ended = r.voting })
    (well.unknown r.begun.tx (begun r.begun.tx r.handed)))))
    r.begun.asked)
desk-tells c m hand (inr (inr a)) begun well =
    subst (λ ps. Every (λ (p : Posting). TellsOutcome (by_desk c m).client p.message) ps)
    (sym (ap (λ (t : Turn). t.sends) a.turn))
    (verdicts-tell (by_desk c m).client a.begun outcomes.Aborted
    (sym (stands-aborted (by_desk c m).client a.begun.tx
    (ap (λ (cs : List Commit). known_by (record_of cs a.begun.tx)) a.commits
    ∙ well.unknown a.begun.tx (begun a.begun.tx a.handed))
    (ended-none c m a.begun.tx (ap (λ (t : Turn). is_some t.told) a.turn))))
    a.begun.asked)

-- each input

answered-tells : (decl : Declaration) (c : Client) (number : ℕ) (answer : Option Answer) → IsWell c
    → Every (λ (p : Posting). TellsOutcome (answered decl c number answer).client p.message)
    (answered decl c number answer).turn.sends
answered-tells decl c number answer well = by c.desk.voting where
  by : (o : Option Voting) → Every (λ (p : Posting). TellsOutcome (answered_by decl c o number answer).client p.message)
      (answered_by decl c o number answer).turn.sends
  by None = front-tells c (fronts.takes decl c.front number answer) (takes-goes decl c.front number answer) well
  by (Some v) = desk-tells c (desks.vote c.desk number answer) (tx_of c.desk.voting)
      (vote-moves c.desk number answer) well.held well

commits-tells : (decl : Declaration) (c : Client) (o : Option Transaction) → c.front.transaction ≡ o → IsWell c
    → Every (λ (p : Posting). TellsOutcome (commits decl c o).client p.message) (commits decl c o).turn.sends
commits-tells decl c None is well = front-tells c (fronts.called decl c.front commands.Commit)
    (called-goes decl c.front commands.Commit) well
commits-tells decl c (Some t) is well = by t.begun.doomed where
  move : Bool → ClientMove
  move dead = cond dead (by_front c (fronts.called decl c.front commands.Commit))
      (by_desk c (desks.prepare decl c.desk t.begun c.front.clock.value))

  by : (dead : Bool) → Every (λ (p : Posting). TellsOutcome (move dead).client p.message) (move dead).turn.sends
  by true = front-tells c (fronts.called decl c.front commands.Commit) (called-goes decl c.front commands.Commit) well
  by false = desk-tells c (desks.prepare decl c.desk t.begun c.front.clock.value) (Some t.begun.tx)
      (prepare-moves decl c.desk t.begun c.front.clock.value) (λ tx same. ap name_of is ∙ same) well

called-tells : (decl : Declaration) (c : Client) (command : Command) → IsWell c
    → Every (λ (p : Posting). TellsOutcome (called decl c command).client p.message) (called decl c command).turn.sends
called-tells decl c commands.Begin well =
    front-tells c (fronts.called decl c.front commands.Begin) (called-goes decl c.front commands.Begin) well
called-tells decl c (commands.Do object inv) well =
    front-tells c (fronts.called decl c.front (commands.Do object inv))
    (called-goes decl c.front (commands.Do object inv)) well
called-tells decl c commands.Commit well = commits-tells decl c c.front.transaction refl well
called-tells decl c commands.Abort well =
    front-tells c (fronts.called decl c.front commands.Abort) (called-goes decl c.front commands.Abort) well
called-tells decl c (commands.Epoch number) well =
    front-tells c (fronts.called decl c.front (commands.Epoch number))
    (called-goes decl c.front (commands.Epoch number)) well

heard-tells : (decl : Declaration) (c : Client) (from number : ℕ) (message : Message) → IsWell c
    → Every (λ (p : Posting). TellsOutcome (heard decl c from number message).client p.message)
    (heard decl c from number message).turn.sends
heard-tells decl c from number (messages.Request tx epoch life want) well = tt
heard-tells decl c from number (messages.Answer to answer) well = answered-tells decl c to (Some answer) well
heard-tells decl c from number (messages.Decision tx verdict) well = tt
heard-tells decl c from number (messages.Inquiry tx) well = (refl, tt)
heard-tells decl c from number (messages.Ask tx) well = (tt, tt)
heard-tells decl c from number (messages.Close epoch) well = tt
heard-tells decl c from number (messages.Install start) well = tt

pub takes-tells : (decl : Declaration) (c : Client) (g : Input) → IsWell c
    → Every (λ (p : Posting). TellsOutcome (client_takes decl c g).client p.message) (client_takes decl c g).turn.sends
takes-tells decl c (given.Called command) well = called-tells decl c command well
takes-tells decl c (given.Got envelope) well = heard-tells decl c envelope.from envelope.number envelope.message well
takes-tells decl c (given.Lost number) well = answered-tells decl c number None well

-- what is known of a committed transaction stays

abbrev Knows : Client → TxId → Stamp → Type 0
Knows c tx stamp = known c.desk tx ≡ knowns.Committed stamp

answered-knows : (decl : Declaration) (c : Client) (number : ℕ) (answer : Option Answer) (tx : TxId) (stamp : Stamp)
    → Knows c tx stamp → Knows (answered decl c number answer).client tx stamp
answered-knows decl c number answer tx stamp is = by c.desk.voting where
  by : (o : Option Voting) → Knows (answered_by decl c o number answer).client tx stamp
  by None = is
  by (Some v) = known-call c.desk (Votes number answer) tx stamp is

commits-knows : (decl : Declaration) (c : Client) (o : Option Transaction) (tx : TxId) (stamp : Stamp)
    → Knows c tx stamp → Knows (commits decl c o).client tx stamp
commits-knows decl c None tx stamp is = is
commits-knows decl c (Some t) tx stamp is = by t.begun.doomed where
  by : (dead : Bool) → Knows (cond dead (by_front c (fronts.called decl c.front commands.Commit))
      (by_desk c (desks.prepare decl c.desk t.begun c.front.clock.value))).client tx stamp
  by true = is
  by false = known-call c.desk (Prepares decl t.begun c.front.clock.value) tx stamp is

takes-knows : (decl : Declaration) (c : Client) (g : Input) (tx : TxId) (stamp : Stamp) → Knows c tx stamp
    → Knows (client_takes decl c g).client tx stamp
takes-knows decl c (given.Called command) tx stamp is = calls command where
  calls : (command : Command) → Knows (called decl c command).client tx stamp
  calls commands.Begin = is
  calls (commands.Do object inv) = is
  calls commands.Commit = commits-knows decl c c.front.transaction tx stamp is
  calls commands.Abort = is
  calls (commands.Epoch number) = is
takes-knows decl c (given.Got envelope) tx stamp is = hears envelope.message where
  hears : (message : Message) → Knows (heard decl c envelope.from envelope.number message).client tx stamp
  hears (messages.Request t epoch life want) = is
  hears (messages.Answer to answer) = answered-knows decl c to (Some answer) tx stamp is
  hears (messages.Decision t verdict) = is
  hears (messages.Inquiry t) = is
  hears (messages.Ask t) = is
  hears (messages.Close epoch) = is
  hears (messages.Install start) = is
takes-knows decl c (given.Lost number) tx stamp is = answered-knows decl c number None tx stamp is

sent-knows : (c : Client) (first : ℕ) (tx : TxId) (stamp : Stamp) → Knows c tx stamp → Knows (sent c first) tx stamp
sent-knows c first tx stamp is = by c.desk.voting where
  by : (o : Option Voting) → Knows (sent_by c o first) tx stamp
  by None = is
  by (Some v) = known-call c.desk (Numbers first) tx stamp is

inputs-know : (decl : Declaration) (c : Client) (inputs : List NumberedInput) (tx : TxId) (stamp : Stamp)
    → Knows c tx stamp → Knows (after_inputs decl c inputs) tx stamp
inputs-know decl c [] tx stamp is = is
inputs-know decl c (i ∷ inputs) tx stamp is =
    inputs-know decl (after_input decl c i) inputs tx stamp
    (sent-knows (client_takes decl c i.given).client i.first tx stamp (takes-knows decl c i.given tx stamp is))

pub committed-stays : (decl : Declaration) (c : Client) (inputs : List NumberedInput) (tx : TxId) (stamp : Stamp)
    → outcome_of c tx ≡ outcomes.Committed stamp
    → outcome_of (after_inputs decl c inputs) tx ≡ outcomes.Committed stamp
committed-stays decl c inputs tx stamp is =
    stands-committed (after_inputs decl c inputs) tx stamp
    (inputs-know decl c inputs tx stamp (committed-known c tx stamp is))
