-- A client's turn costs no more than its input pays and what its running command still has.
use Rattle.std.proofs.Common.{◌≡◌, ℕ, ◌+◌, ◌%◌, ◌<◌, ◌≤◌, ◌==◌, Bool, true, false, cond, List, [], map, length, Option}
use Rattle.std.proofs.Common.{Some, None, refl, sym, ap, ◌∙◌, subst, arith}
use Rattle.qc_decl.specs.Vocabulary.{IsAccepted, first_site}
use Rattle.qc_decl.specs.declared.declaration.Declaration.{Declaration}
use Rattle.qc_msg.specs.declared.begun.Begun.{Begun}
use Rattle.qc_msg.specs.declared.message.Answer.{Answer}
use Rattle.qc_msg.specs.declared.message.Answer.TheVariants as answers
use Rattle.qc_msg.specs.declared.message.Message.{Message}
use Rattle.qc_msg.specs.declared.message.Message.TheVariants as messages
use Rattle.qc_msg.specs.declared.message.Outcome.TheVariants as outcomes
use Rattle.qc_msg.specs.declared.record.Record.TheVariants as records
use Rattle.qc_msg.specs.declared.reply.AbortCause.{AbortCause}
use Rattle.qc_msg.specs.declared.step.Command.{Command}
use Rattle.qc_msg.specs.declared.step.Command.TheVariants as commands
use Rattle.qc_msg.specs.declared.step.Input.{Input}
use Rattle.qc_msg.specs.declared.step.Input.TheVariants as inputs
use Rattle.qc_msg.specs.Vocabulary.{answered as answered_ops, decisions, has_granted, life_of, quiet, sending}
use Rattle.qc_msg.specs.Vocabulary.{site_called, without_call}
use Rattle.qc_plan.specs.Vocabulary.{cyclic}
use Rattle.qc_commit.specs.declared.ballot.Ballot.{Ballot}
use Rattle.qc_commit.specs.declared.desk.Desk.{Desk}
use Rattle.qc_commit.specs.declared.desk.Voting.{Voting}
use Rattle.qc_commit.specs.Conduct as desks
use Rattle.qc_commit.specs.Vocabulary.{DeskMove, are_cast, blank, cast, first_against, moved as desk_moved}
use Rattle.qc_commit.specs.Vocabulary.{participants, prepares, vote_of}
use Rattle.qc_front.specs.declared.doing.Doing.{Doing}
use Rattle.qc_front.specs.declared.doing.Doing.TheVariants.{Idle, Reading, Appending}
use Rattle.qc_front.specs.declared.front.Front.{Front}
use Rattle.qc_front.specs.declared.transaction.Transaction.{Transaction}
use Rattle.qc_front.specs.Conduct as fronts
use Rattle.qc_client.specs.declared.client.Client.{Client}
use Rattle.qc_client.specs.Vocabulary.{ClientMove, answered, answered_by, by_desk, by_front, called, client_takes}
use Rattle.qc_client.specs.Vocabulary.{commits, heard, moved, outcome_of, sent, sent_by}
use Rattle.qc_core.proofs.ClientReaches.{AskedFit, asked_voting}
use Rattle.qc_core.proofs.FewSites.{AreSites}
use Rattle.qc_core.proofs.FrontReaches.{asked_in}
use Rattle.laws_turns.proofs.ClientCases.{called_cases, heard_cases}
use Rattle.laws_room.proofs.Totals.{times, times-le}
use Rattle.laws_room.proofs.Prices.{Prices, AreFair, budget, full, pays, pays_input, sends_cost, turn_cost}
use Rattle.laws_room.proofs.FrontCommands.{called_fits}
use Rattle.laws_room.proofs.Fronts.{front_left, map_cost, operations_in, doing_left, takes_costs, verdicts_cost}
use Rattle.qc_list.proofs.Members.{length-filter}
use Rattle.qc_plan.proofs.Rounds.{length-cyclic}

-- what a running command of a client may still cost: while votes are awaited, a commit record with its operations, the
-- verdicts and the reply

abbrev pub left_by : Prices → ℕ → Option Voting → Front → ℕ
left_by p sites None front = front_left p sites front
left_by p sites (Some v) front =
    (p.step + p.commit) + (times p.decision sites + times p.operation (answered_ops v.begun.ops))

abbrev pub client_left : Prices → ℕ → Client → ℕ
client_left p sites c = left_by p sites c.desk.voting c.front

-- that the messages of a turn have their numbers changes nothing

numbered_left : (p : Prices) (sites : ℕ) (doing : Doing) (first : ℕ)
    → doing_left p sites (fronts.numbered doing first) ≡ doing_left p sites doing
numbered_left p sites Idle first = refl
numbered_left p sites (Reading object inv calls round) first = refl
numbered_left p sites (Appending object inv event calls round) first = refl

pub sent_left : (p : Prices) (sites : ℕ) (c : Client) (first : ℕ)
    → client_left p sites (sent c first) ≡ client_left p sites c
sent_left p sites c first = by c.desk.voting refl
  where
    by : (o : Option Voting) → c.desk.voting ≡ o → client_left p sites (sent_by c o first) ≡ client_left p sites c
    by None is =
        ap (λ (o : Option Voting). left_by p sites o (fronts.sent c.front first)) is
        ∙ ap (λ (n : ℕ). n + operations_in p c.front.transaction) (numbered_left p sites c.front.doing first)
        ∙ ap (λ (o : Option Voting). left_by p sites o c.front) (sym is)
    by (Some v) is =
        ap (λ (o : Option Voting). left_by p sites (desks.sent_in c.desk o first).voting c.front) is
        ∙ ap (λ (o : Option Voting). left_by p sites o c.front) (sym is)

-- a command comes only where no commit waits
abbrev pub IsFreeFor : Client → Input → Type 0
IsFreeFor c (inputs.Called command) = c.desk.voting ≡ None
IsFreeFor c (inputs.Got envelope) = Unit {0}
IsFreeFor c (inputs.Lost number) = Unit {0}

module _ (decl : Declaration) (accepted : IsAccepted decl) (p : Prices) (fair : AreFair p) where
  abbrev pub Fits : Client → Input → ClientMove → Type 0
  Fits c g m =
      p.step + (turn_cost p m.turn + client_left p decl.sites m.client) ≤ pays p decl.sites g
      + client_left p decl.sites c

  quiet_fits : (c : Client) (g : Input) → Fits c g (moved c quiet)
  quiet_fits c g = let low : p.step ≤ pays p decl.sites g = pays_input p decl.sites g fair in omega arith

  -- the front end moves, while no commit waits

  called_front : (c : Client) (command : Command) → c.desk.voting ≡ None
      → AreSites decl.sites (asked_in c.front.transaction)
      → Fits c (inputs.Called command) (by_front c (fronts.called decl c.front command))
  called_front c command none are =
      let low : p.step
      + (turn_cost p (fronts.called decl c.front command).turn
      + front_left p decl.sites (fronts.called decl c.front command).front) ≤ budget p decl.sites command
      + front_left p decl.sites c.front =
      called_fits decl accepted p fair c.front command are in
      let before : left_by p decl.sites c.desk.voting c.front ≡ front_left p decl.sites c.front =
      ap (λ (o : Option Voting). left_by p decl.sites o c.front) none in
      let after : left_by p decl.sites c.desk.voting (fronts.called decl c.front command).front
      ≡ front_left p decl.sites (fronts.called decl c.front command).front =
      ap (λ (o : Option Voting). left_by p decl.sites o (fronts.called decl c.front command).front) none in
      omega arith

  takes_front : (c : Client) (g : Input) (number : ℕ) (answer : Option Answer) → c.desk.voting ≡ None
      → Fits c g (by_front c (fronts.takes decl c.front number answer))
  takes_front c g number answer none =
      let low : turn_cost p (fronts.takes decl c.front number answer).turn
      + front_left p decl.sites (fronts.takes decl c.front number answer).front ≤ front_left p decl.sites c.front =
      takes_costs decl accepted p fair c.front number answer in
      let input : p.step ≤ pays p decl.sites g = pays_input p decl.sites g fair in
      let before : left_by p decl.sites c.desk.voting c.front ≡ front_left p decl.sites c.front =
      ap (λ (o : Option Voting). left_by p decl.sites o c.front) none in
      let after : left_by p decl.sites c.desk.voting (fronts.takes decl c.front number answer).front
      ≡ front_left p decl.sites (fronts.takes decl c.front number answer).front =
      ap (λ (o : Option Voting). left_by p decl.sites o (fronts.takes decl c.front number answer).front) none in
      omega arith

  -- the desk moves

  -- a commit's record and verdicts, and its reply; and verdicts of an abort
  decides_cost : (desk : Desk) (b : Begun) → AreSites decl.sites b.asked
      → turn_cost p (desks.decides desk b).turn ≤ (p.step + p.commit)
      + (times p.decision decl.sites + times p.operation (answered_ops b.ops))
  decides_cost desk b are =
      let record_cost : p.written (records.Commit (desks.commit_of (desks.next_stamp desk) b))
      ≤ p.commit + times p.operation (answered_ops b.ops) =
      fair.commits (desks.commit_of (desks.next_stamp desk) b) in
      let told : sends_cost p (decisions b (outcomes.Committed (desks.next_stamp desk))) ≤ times p.decision decl.sites =
      verdicts_cost p fair decl.sites b (outcomes.Committed (desks.next_stamp desk)) are in
      omega arith

  gives_cost : (desk : Desk) (b : Begun) (why : AbortCause) → AreSites decl.sites b.asked
      → turn_cost p (desks.gives_up desk b why).turn ≤ p.step + times p.decision decl.sites
  gives_cost desk b why are =
      let told : sends_cost p (decisions b outcomes.Aborted) ≤ times p.decision decl.sites =
      verdicts_cost p fair decl.sites b outcomes.Aborted are in
      omega arith

  participants_few : (client : ℕ) (b : Begun) → length (participants decl client b) ≤ decl.sites
  participants_few client b =
      let some : 0 < decl.sites = accepted.has_site in
      let low : client % decl.sites < decl.sites = omega arith in
      let fewer : length (participants decl client b) ≤ length (cyclic decl.sites (first_site decl client)) =
      length-filter (has_granted b.lives) (cyclic decl.sites (first_site decl client)) in
      let whole : length (cyclic decl.sites (first_site decl client)) ≡ decl.sites =
      length-cyclic decl.sites (first_site decl client) (omega arith) in
      omega arith

  prepare_fits : (c : Client) (t : Transaction) → c.desk.voting ≡ None → c.front.transaction ≡ Some t
      → AreSites decl.sites t.begun.asked
      → Fits c (inputs.Called commands.Commit) (by_desk c (desks.prepare decl c.desk t.begun c.front.clock.value))
  prepare_fits c t none is are = by (length sites == 0)
    where
      b : Begun
      b = t.begun

      desk : Desk
      desk = desks.passed c.desk c.front.clock.value

      sites : List ℕ
      sites = participants decl c.desk.client b

      had : times p.operation (answered_ops b.ops) ≤ client_left p decl.sites c
      had =
          let here : left_by p decl.sites c.desk.voting c.front ≡ front_left p decl.sites c.front =
          ap (λ (o : Option Voting). left_by p decl.sites o c.front) none in
          let ops : operations_in p c.front.transaction ≡ times p.operation (answered_ops b.ops) =
          ap (operations_in p) is in
          omega arith

      by : (x : Bool) → Fits c (inputs.Called commands.Commit) (by_desk c (cond x (desks.decides desk b)
          (desk_moved (desks.with_voting desk (Some (record { begun = b; calls = []; ballots = blank sites })))
          (sending (map (prepares b) sites)))))
      by true =
          let cost : turn_cost p (desks.decides desk b).turn
          ≤ (p.step + p.commit) + (times p.decision decl.sites + times p.operation (answered_ops b.ops)) =
          decides_cost desk b are in
          let old : times p.operation (answered_ops b.ops) ≤ client_left p decl.sites c = had in
          omega arith
      by false =
          let asked : sends_cost p (map (prepares b) sites) ≤ times p.prepare (length sites) =
          map_cost p p.prepare (prepares b) sites (λ site. fair.prepares b.tx b.epoch (life_of b.lives site)) in
          let few : times p.prepare (length sites) ≤ times p.prepare decl.sites =
          times-le p.prepare (length sites) decl.sites (participants_few c.desk.client b) in
          let old : times p.operation (answered_ops b.ops) ≤ client_left p decl.sites c = had in
          omega arith

  vote_fits : (c : Client) (g : Input) (v : Voting) (number : ℕ) (answer : Option Answer) → c.desk.voting ≡ Some v
      → AreSites decl.sites v.begun.asked → (o : Option ℕ)
      → Fits c g (by_desk c (desks.votes_at c.desk v number answer o))
  vote_fits c g v number answer is are None = quiet_fits c g
  vote_fits c g v number answer is are (Some site) = counted (are_cast ballots)
    where
      ballots : List Ballot
      ballots = cast v.ballots site (vote_of v.begun site answer)

      learned : Desk
      learned = desks.learns c.desk answer

      had : client_left p decl.sites c
          ≡ (p.step + p.commit) + (times p.decision decl.sites + times p.operation (answered_ops v.begun.ops))
      had = ap (λ (o : Option Voting). left_by p decl.sites o c.front) is

      input : p.step ≤ pays p decl.sites g
      input = pays_input p decl.sites g fair

      out : (o : Option AbortCause) → Fits c g (by_desk c (desks.counted_out learned v.begun o))
      out (Some why) =
          let cost : turn_cost p (desks.gives_up learned v.begun why).turn ≤ p.step + times p.decision decl.sites =
          gives_cost learned v.begun why are in
          let old : client_left p decl.sites c
          ≡ (p.step + p.commit) + (times p.decision decl.sites + times p.operation (answered_ops v.begun.ops)) =
          had in
          let own : p.step ≤ pays p decl.sites g = input in
          omega arith
      out None =
          let cost : turn_cost p (desks.decides learned v.begun).turn
          ≤ (p.step + p.commit) + (times p.decision decl.sites + times p.operation (answered_ops v.begun.ops)) =
          decides_cost learned v.begun are in
          let old : client_left p decl.sites c
          ≡ (p.step + p.commit) + (times p.decision decl.sites + times p.operation (answered_ops v.begun.ops)) =
          had in
          let own : p.step ≤ pays p decl.sites g = input in
          omega arith

      counted : (x : Bool)
          → Fits c g
          (by_desk c
          (cond x (desks.counted_out learned v.begun (first_against ballots))
          (desk_moved (desks.with_voting learned
          (Some (record { begun = v.begun; calls = without_call v.calls number; ballots = ballots }))) quiet)))
      counted true = out (first_against ballots)
      counted false =
          let old : client_left p decl.sites c
          ≡ (p.step + p.commit) + (times p.decision decl.sites + times p.operation (answered_ops v.begun.ops)) =
          had in
          let own : p.step ≤ pays p decl.sites g = input in
          omega arith

  -- an input

  answered_fits : (c : Client) (g : Input) (number : ℕ) (answer : Option Answer) → AskedFit decl.sites c
      → Fits c g (answered decl c number answer)
  answered_fits c g number answer are = by c.desk.voting refl
    where
      by : (o : Option Voting) → c.desk.voting ≡ o → Fits c g (answered_by decl c o number answer)
      by None is = takes_front c g number answer is
      by (Some v) is =
          subst (λ (m : DeskMove). Fits c g (by_desk c m))
          (ap (λ (o : Option Voting). desks.votes_in c.desk o number answer) (sym is))
          (vote_fits c g v number answer is
          (subst (λ (o : Option Voting). AreSites decl.sites (asked_voting o)) is are.voting)
          (site_called v.calls number))

  heard_fits : (c : Client) (from number : ℕ) (m : Message) (g : Input) → p.credit m ≤ pays p decl.sites g
      → AskedFit decl.sites c → Fits c g (heard decl c from number m)
  heard_fits c from number m g low are =
      heard_cases decl c from number (λ m move. p.credit m ≤ pays p decl.sites g → Fits c g move)
      (λ m none low. quiet_fits c g) (λ to answer low. answered_fits c g to (Some answer) are)
      (λ tx low. (let cost : full p (messages.Decision tx (outcome_of c tx)) ≤ p.decision =
      fair.decides tx (outcome_of c tx) in
      let paid : p.step + p.decision ≤ p.credit (messages.Inquiry tx) = fair.inquires tx in
      omega arith))
      (λ tx low. (let paid : p.step + full p (messages.Answer number (answers.Answered (outcome_of c tx)))
      ≤ p.credit (messages.Ask tx) = fair.asks tx number (outcome_of c tx) in
      omega arith)) m low

  commits_fits : (c : Client) (o : Option Transaction) → c.desk.voting ≡ None → c.front.transaction ≡ o
      → AskedFit decl.sites c → Fits c (inputs.Called commands.Commit) (commits decl c o)
  commits_fits c None none is are = called_front c commands.Commit none are.front
  commits_fits c (Some t) none is are = by t.begun.doomed
    where
      by : (dead : Bool)
          → Fits c (inputs.Called commands.Commit)
          (cond dead (by_front c (fronts.called decl c.front commands.Commit))
          (by_desk c (desks.prepare decl c.desk t.begun c.front.clock.value)))
      by true = called_front c commands.Commit none are.front
      by false =
          prepare_fits c t none is (subst (λ (o : Option Transaction). AreSites decl.sites (asked_in o)) is are.front)

  called_fit : (c : Client) (command : Command) → c.desk.voting ≡ None → AskedFit decl.sites c
      → Fits c (inputs.Called command) (called decl c command)
  called_fit c command none are =
      called_cases decl c (λ command move. Fits c (inputs.Called command) move)
      (λ command. called_front c command none are.front) (commits_fits c c.front.transaction none refl are) command

  pub client_fits : (c : Client) (g : Input) → IsFreeFor c g → AskedFit decl.sites c → Fits c g (client_takes decl c g)
  client_fits c (inputs.Called command) none are = called_fit c command none are
  client_fits c (inputs.Got e) free are = heard_fits c e.from e.number e.message (inputs.Got e) (omega arith) are
  client_fits c (inputs.Lost number) free are = answered_fits c (inputs.Lost number) number None are
