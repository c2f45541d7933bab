-- A client that isn't asked how its transactions stand sends requests and verdicts alone.
use Rattle.std.proofs.Common.{◌≡◌, ℕ, inl, inr, Bool, true, false, cond, List, [], ◌∷◌, map, Option, Some, None, refl}
use Rattle.std.proofs.Common.{sym, ap, subst}
use Rattle.std.specs.List.{AllByRecursion as Every}
use Rattle.qc_list.proofs.Members.{every-weaker}
use Rattle.qc_stamp.specs.declared.stamp.TxId.{TxId}
use Rattle.qc_decl.specs.declared.declaration.Declaration.{Declaration}
use Rattle.qc_msg.specs.declared.begun.Begun.{Begun}
use Rattle.qc_msg.specs.declared.message.Answer.{Answer}
use Rattle.qc_msg.specs.declared.message.Message.{Message}
use Rattle.qc_msg.specs.declared.message.Message.TheVariants as messages
use Rattle.qc_msg.specs.declared.message.Outcome.{Outcome}
use Rattle.qc_msg.specs.declared.message.Outcome.TheVariants as outcomes
use Rattle.qc_msg.specs.declared.step.Command.{Command}
use Rattle.qc_msg.specs.declared.step.Command.TheVariants as commands
use Rattle.qc_msg.specs.declared.step.Input.{Input}
use Rattle.qc_msg.specs.declared.step.Input.TheVariants as inputs
use Rattle.qc_msg.specs.declared.turn.Posting.{Posting}
use Rattle.qc_msg.specs.declared.turn.Turn.{Turn}
use Rattle.qc_commit.specs.declared.desk.Voting.{Voting}
use Rattle.qc_commit.specs.Conduct as desks
use Rattle.qc_commit.specs.Vocabulary.{DeskMove}
use Rattle.qc_front.specs.declared.transaction.Transaction.{Transaction}
use Rattle.qc_front.specs.Conduct as fronts
use Rattle.qc_front.specs.Vocabulary.{FrontMove}
use Rattle.qc_client.specs.declared.client.Client.{Client}
use Rattle.qc_client.specs.Vocabulary.{ClientMove, answered_by, by_desk, by_front, called, client_takes, commits, heard}
use Rattle.laws_turns.proofs.FrontGoesOn.{FrontKind, IsRequestFor}
use Rattle.laws_turns.proofs.FrontKinds.{called-kind, takes-kind}
use Rattle.laws_turns.proofs.HandMoves.{IsHandMove, prepare-it, vote-it}
use Rattle.laws_guarantees.proofs.FirstDeeds.{FirstGiven}
use Rattle.std.specs.Prelude.{MatchOption}
use Rattle.qc_msg.specs.Vocabulary.{Decided, Requested, decision_in, request_in}
use Rattle.laws_guarantees.proofs.ClientCases.{called_cases, heard_cases}

abbrev pub IsClientWord : Message → Type 0
IsClientWord m = MatchOption (request_in m) (MatchOption (decision_in m) ⊥ (λ (v : Decided). Unit {0}))
    (λ (q : Requested). Unit {0})

abbrev pub AreClientWords : List Posting → Type 0
AreClientWords ps = Every (λ (p : Posting). IsClientWord p.message) ps

request_word : (name : Option TxId) (m : Message) → IsRequestFor name m → IsClientWord m
request_word name (messages.Request tx epoch life want) is = tt
request_word name (messages.Answer to answer) never = never
request_word name (messages.Decision tx verdict) never = absurd never
request_word name (messages.Inquiry tx) never = never
request_word name (messages.Ask tx) never = never
request_word name (messages.Close epoch) never = never
request_word name (messages.Install start) never = never

requests_words : (name : Option TxId) (ps : List Posting) → Every (λ (p : Posting). IsRequestFor name p.message) ps
    → AreClientWords ps
requests_words name ps = every-weaker (λ (p : Posting). IsRequestFor name p.message)
    (λ (p : Posting). IsClientWord p.message) (λ p. request_word name p.message) ps

verdicts_words : (tx : TxId) (v : Outcome) (sites : List ℕ)
    → AreClientWords (map (λ site. record { to = site; message = messages.Decision tx v }) sites)
verdicts_words tx v [] = tt
verdicts_words tx v (site ∷ sites) = (tt, verdicts_words tx v sites)

module _ (decl : Declaration) (c : Client) where
  abbrev Says : ClientMove → Type 0
  Says m = AreClientWords m.turn.sends

  front_says : (m : FrontMove) → FrontKind c.front m → AreClientWords m.turn.sends
  front_says m (inl g) = requests_words _ m.turn.sends g.sends
  front_says m (inr (inl b)) = subst AreClientWords (sym (ap (λ (t : Turn). t.sends) b.turn)) tt
  front_says m (inr (inr g)) = subst AreClientWords (sym g.sends)
      (verdicts_words g.begun.tx outcomes.Aborted g.begun.asked)

  desk_says : (b : Begun) (m : DeskMove) → IsHandMove c.desk b m → AreClientWords m.turn.sends
  desk_says b m (inl w) = requests_words (Some b.tx) m.turn.sends w.sends
  desk_says b m (inr (inl r)) = subst AreClientWords (sym (ap (λ (t : Turn). t.sends) r.turn))
      (verdicts_words b.tx (outcomes.Committed r.stamp) b.asked)
  desk_says b m (inr (inr a)) = subst AreClientWords (sym (ap (λ (t : Turn). t.sends) a.turn))
      (verdicts_words b.tx outcomes.Aborted b.asked)

  fronted : (command : Command) → Says (by_front c (fronts.called decl c.front command))
  fronted command = front_says (fronts.called decl c.front command) (called-kind decl c.front command)

  committing : (o : Option Transaction) → Says (commits decl c o)
  committing None = fronted commands.Commit
  committing (Some t) = by t.begun.doomed
    where
      by : (dead : Bool) → Says (cond dead (by_front c (fronts.called decl c.front commands.Commit))
          (by_desk c (desks.prepare decl c.desk t.begun c.front.clock.value)))
      by true = fronted commands.Commit
      by false = desk_says t.begun (desks.prepare decl c.desk t.begun c.front.clock.value)
          (prepare-it decl c.desk t.begun c.front.clock.value)

  calls : (command : Command) → Says (called decl c command)
  calls command = called_cases decl c Says fronted (committing c.front.transaction) command

  comes : (number : ℕ) (answer : Option Answer) → Says (answered_by decl c c.desk.voting number answer)
  comes number answer = by c.desk.voting refl
    where
      by : (o : Option Voting) → c.desk.voting ≡ o → Says (answered_by decl c o number answer)
      by None is = front_says (fronts.takes decl c.front number answer) (takes-kind decl c.front number answer)
      by (Some v) is = desk_says v.begun (desks.vote c.desk number answer) (vote-it c.desk v number answer is)

  hears : (from number : ℕ) (m : Message) → FirstGiven
      (inputs.Got (record { number = number; from = from; to = 0; message = m })) → Says (heard decl c from number m)
  hears from number m first = heard_cases decl c from number
      (λ m move. FirstGiven (inputs.Got (record { number = number; from = from; to = 0; message = m })) → Says move)
      (λ m first. tt) (λ to answer first. comes to (Some answer)) (λ tx first. (tt, tt))
      (λ tx never. absurd never) m first

  pub client_words : (g : Input) → FirstGiven g → AreClientWords (client_takes decl c g).turn.sends
  client_words (inputs.Called command) first = calls command
  client_words (inputs.Got e) first = hears e.from e.number e.message first
  client_words (inputs.Lost number) first = comes number None
