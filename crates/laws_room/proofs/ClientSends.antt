-- A client's messages go to sites, and to who asked it how a transaction stands.
use Rattle.std.proofs.Common.{◌≡◌, ℕ, ◌+◌, ◌<◌, inl, inr, Bool, true, false, cond, List, [], ◌∷◌, Option, Some, None, refl}
use Rattle.std.proofs.Common.{sym, ap, ◌∙◌, subst, arith}
use Rattle.std.specs.Prelude.{MatchOption}
use Rattle.std.specs.List.{AllByRecursion as Every}
use Rattle.qc_list.proofs.Members.{every-weaker}
use Rattle.qc_stamp.specs.declared.stamp.TxId.{TxId}
use Rattle.qc_decl.specs.Vocabulary.{administrator}
use Rattle.qc_decl.specs.declared.declaration.Declaration.{Declaration}
use Rattle.qc_msg.specs.declared.begun.Begun.{Begun}
use Rattle.qc_msg.specs.declared.message.Answer.{Answer}
use Rattle.qc_msg.specs.declared.message.Message.{Message}
use Rattle.qc_msg.specs.declared.message.Outcome.{Outcome}
use Rattle.qc_msg.specs.declared.message.Outcome.TheVariants as outcomes
use Rattle.qc_msg.specs.declared.step.Command.{Command}
use Rattle.qc_msg.specs.declared.step.Command.TheVariants as commands
use Rattle.qc_msg.specs.declared.step.Input.{Input}
use Rattle.qc_msg.specs.declared.step.Input.TheVariants as inputs
use Rattle.qc_msg.specs.declared.turn.Posting.{Posting}
use Rattle.qc_msg.specs.declared.turn.Turn.{Turn}
use Rattle.qc_msg.specs.Vocabulary.{Requested, decisions, request_in}
use Rattle.qc_commit.specs.declared.desk.Voting.{Voting}
use Rattle.qc_commit.specs.Conduct as desks
use Rattle.qc_commit.specs.Vocabulary.{DeskMove}
use Rattle.qc_front.specs.declared.transaction.Transaction.{Transaction}
use Rattle.qc_front.specs.Conduct as fronts
use Rattle.qc_front.specs.Vocabulary.{FrontMove}
use Rattle.qc_client.specs.declared.client.Client.{Client}
use Rattle.qc_client.specs.Vocabulary.{ClientMove, answered, answered_by, by_desk, by_front, called, client_takes}
use Rattle.qc_client.specs.Vocabulary.{commits, heard}
use Rattle.qc_core.proofs.ClientReaches.{AskedFit, asked_voting}
use Rattle.qc_core.proofs.FrontReaches.{asked_in, verdicts_reach}
use Rattle.laws_turns.specs.Vocabulary.{begun_in}
use Rattle.laws_turns.proofs.ClientCases.{called_cases, heard_cases}
use Rattle.laws_turns.proofs.FrontGoesOn.{FrontKind, IsRequestFor}
use Rattle.laws_turns.proofs.FrontKinds.{called-kind, takes-kind}
use Rattle.laws_turns.proofs.HandMoves.{IsHandMove, prepare-it, vote-it}
use Rattle.laws_turns.proofs.Rounds.{AreProper, IsProper}
use Rattle.laws_room.proofs.SiteSends.{GoInside, IsFromInside}
use Rattle.laws_room.proofs.TakenMail.{IfMessage}

-- a request that goes to a site

to_site : (decl : Declaration) (to : ℕ) (N : Type 0) (F G : Requested → Type 0) (o : Option Requested)
    → MatchOption o ⊥ F → MatchOption o N (λ (q : Requested). (to < decl.sites) × G q) → to < decl.sites
to_site decl to N F G None never is = absurd never
to_site decl to N F G (Some q) for is = is.0

requests_inside : (decl : Declaration) (name : Option TxId) (ps : List Posting)
    → Every (λ (p : Posting). IsRequestFor name p.message) ps → AreProper decl ps → GoInside decl ps
requests_inside decl name [] are proper = tt
requests_inside decl name (p ∷ ps) are proper = (
  (let low : p.to < decl.sites = to_site decl p.to _ _ _ (request_in p.message) are.0 proper.0 in omega arith),
  requests_inside decl name ps are.1 proper.1,
)

sites_inside : (decl : Declaration) (ps : List Posting) → Every (λ (p : Posting). p.to < decl.sites) ps
    → GoInside decl ps
sites_inside decl = every-weaker (λ (p : Posting). p.to < decl.sites) (λ (p : Posting). p.to < administrator decl)
    (λ p low. omega arith)

asked_begun : (decl : Declaration) (o : Option Transaction) (b : Begun) → begun_in o ≡ Some b
    → Every (λ site. site < decl.sites) (asked_in o) → Every (λ site. site < decl.sites) b.asked
asked_begun decl None b is low = absurd (let never : ⊥ = cc in never)
asked_begun decl (Some t) b is low =
    subst (λ (x : Begun). Every (λ site. site < decl.sites) x.asked) (let same : t.begun ≡ b = cc in same) low

module _ (decl : Declaration) (c : Client) (fit : AskedFit decl.sites c) where
  -- where what is asked goes to sites
  abbrev Sends : ClientMove → Type 0
  Sends m = AreProper decl m.turn.sends → GoInside decl m.turn.sends

  verdicts_inside : (b : Begun) (v : Outcome) → Every (λ site. site < decl.sites) b.asked
      → GoInside decl (decisions b v)
  verdicts_inside b v low = sites_inside decl (decisions b v) (verdicts_reach decl.sites b v b.asked low)

  front_sends : (m : FrontMove) → FrontKind c.front m → Sends (by_front c m)
  front_sends m (inl g) proper = requests_inside decl _ m.turn.sends g.sends proper
  front_sends m (inr (inl b)) proper = subst (GoInside decl) (sym (ap (λ (t : Turn). t.sends) b.turn)) tt
  front_sends m (inr (inr g)) proper =
      subst (GoInside decl) (sym g.sends) (verdicts_inside g.begun outcomes.Aborted
      (asked_begun decl c.front.transaction g.begun g.is fit.front.below))

  desk_sends : (b : Begun) (m : DeskMove) → Every (λ site. site < decl.sites) b.asked → IsHandMove c.desk b m
      → Sends (by_desk c m)
  desk_sends b m low (inl w) proper = requests_inside decl (Some b.tx) m.turn.sends w.sends proper
  desk_sends b m low (inr (inl r)) proper =
      subst (GoInside decl) (sym (ap (λ (t : Turn). t.sends) r.turn))
      (verdicts_inside b (outcomes.Committed r.stamp) low)
  desk_sends b m low (inr (inr a)) proper =
      subst (GoInside decl) (sym (ap (λ (t : Turn). t.sends) a.turn)) (verdicts_inside b outcomes.Aborted low)

  fronted : (command : Command) → Sends (by_front c (fronts.called decl c.front command))
  fronted command = front_sends (fronts.called decl c.front command) (called-kind decl c.front command)

  committing : (o : Option Transaction) → Every (λ site. site < decl.sites) (asked_in o) → Sends (commits decl c o)
  committing None low = fronted commands.Commit
  committing (Some t) low = by t.begun.doomed
    where
      by : (dead : Bool) → Sends (cond dead (by_front c (fronts.called decl c.front commands.Commit))
          (by_desk c (desks.prepare decl c.desk t.begun c.front.clock.value)))
      by true = fronted commands.Commit
      by false = desk_sends t.begun (desks.prepare decl c.desk t.begun c.front.clock.value) low
          (prepare-it decl c.desk t.begun c.front.clock.value)

  calls : (command : Command) → Sends (called decl c command)
  calls command =
      called_cases decl c (λ command m. Sends m) fronted (committing c.front.transaction fit.front.below) command

  comes : (number : ℕ) (answer : Option Answer) → Sends (answered decl c number answer)
  comes number answer = by c.desk.voting refl
    where
      by : (o : Option Voting) → c.desk.voting ≡ o → Sends (answered_by decl c o number answer)
      by None is = front_sends (fronts.takes decl c.front number answer) (takes-kind decl c.front number answer)
      by (Some v) is =
          desk_sends v.begun (desks.vote c.desk number answer)
          (subst (λ (o : Option Voting). Every (λ site. site < decl.sites) (asked_voting o)) is fit.voting.below)
          (vote-it c.desk v number answer is)

  hears : (from number : ℕ) (m : Message) → from < administrator decl → Sends (heard decl c from number m)
  hears from number m low =
      heard_cases decl c from number (λ m move. Sends move) (λ m none proper. tt) (λ to answer. comes to (Some answer))
      (λ tx proper. (low, tt)) (λ tx proper. (low, tt)) m

  pub client_sends : (g : Input) → IfMessage (IsFromInside decl) g → Sends (client_takes decl c g)
  client_sends (inputs.Called command) from = calls command
  client_sends (inputs.Got e) from = hears e.from e.number e.message from
  client_sends (inputs.Lost number) from = comes number None
