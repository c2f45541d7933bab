-- A command pays for its front end's turn, and for what the front end still has then.
use Rattle.std.proofs.Common.{◌≡◌, ℕ, ◌+◌, ◌≤◌, nat_le, Bool, true, false, cond, []}
use Rattle.std.proofs.Common.{length, Option, Some, None, refl, ap, arith}
use Rattle.qc_decl.specs.Vocabulary.{IsAccepted}
use Rattle.qc_decl.specs.declared.declaration.Declaration.{Declaration}
use Rattle.qc_decl.specs.Vocabulary.{most_transaction_operations}
use Rattle.qc_decl.specs.Vocabulary.{read_need_of}
use Rattle.qc_msg.specs.declared.message.Outcome.TheVariants.{Aborted}
use Rattle.qc_msg.specs.declared.reply.Reply.{Reply}
use Rattle.qc_msg.specs.declared.reply.Reply.TheVariants as replies
use Rattle.qc_msg.specs.declared.reply.AbortCause.TheVariants as causes
use Rattle.qc_msg.specs.declared.step.Command.{Command}
use Rattle.qc_msg.specs.declared.step.Command.TheVariants as commands
use Rattle.qc_msg.specs.Vocabulary.{decisions, quiet}
use Rattle.qc_msg.specs.Vocabulary.{telling}
use Rattle.qc_plan.specs.Vocabulary.{RoundState, verdict}
use Rattle.qc_front.specs.declared.front.Front.{Front}
use Rattle.qc_front.specs.declared.transaction.Transaction.{Transaction}
use Rattle.qc_front.specs.Vocabulary.{FrontMove, aborts}
use Rattle.qc_front.specs.Vocabulary.{begins, called, commits, gives_up, moved}
use Rattle.qc_front.specs.Vocabulary.{performs, read_by}
use Rattle.qc_front.specs.Vocabulary.{reads, round_for}
use Rattle.qc_core.proofs.FewSites.{AreSites}
use Rattle.qc_core.proofs.RoundSites.{start_fits}
use Rattle.qc_core.proofs.FrontReaches.{asked_in}
use Rattle.laws_room.proofs.Totals.{times, times-le}
use Rattle.laws_room.proofs.Prices.{Prices, AreFair, budget, sends_cost, turn_cost}
use Rattle.laws_room.proofs.Fronts.{Costs, front_left, operations_in, read_costs, verdicts_cost}

module _ (decl : Declaration) (accepted : IsAccepted decl) (p : Prices) (fair : AreFair p) where
  stays_fit : (front : Front) (reply : Reply) (most : ℕ) → p.step + p.step ≤ most
      → p.step + (turn_cost p (telling reply) + front_left p decl.sites front) ≤ most + front_left p decl.sites front
  stays_fit front reply most low = omega arith

  abbrev pub Fits : Front → Command → FrontMove → Type 0
  Fits front command m =
      p.step + (turn_cost p m.turn + front_left p decl.sites m.front) ≤ budget p decl.sites command
      + front_left p decl.sites front

  gives_fit : (front : Front) (t : Transaction) (command : Command) (reply : Reply) → AreSites decl.sites t.begun.asked
      → (p.step + p.step) + times p.decision decl.sites ≤ budget p decl.sites command
      → Fits front command (gives_up front t reply)
  gives_fit front t command reply are low =
      let told : sends_cost p (decisions t.begun Aborted) ≤ times p.decision decl.sites =
      verdicts_cost p fair decl.sites t.begun Aborted are in
      omega arith

  performs_fit : (front : Front) (o : Option Transaction) (object inv : ℕ) → front.transaction ≡ o
      → Fits front (commands.Do object inv) (performs decl front o object inv)
  performs_fit front None object inv is =
      stays_fit front replies.NoTransaction (budget p decl.sites (commands.Do object inv)) (omega arith)
  performs_fit front (Some t) object inv is =
      by t.begun.doomed (nat_le most_transaction_operations (length t.begun.ops))
    where
      r : RoundState
      r = round_for decl front t (read_need_of decl t.begun.epoch object inv)

      whole : (m : FrontMove)
          → Costs decl accepted p fair
          ((p.step + p.operation) + (times p.read (length r.rest) + times p.append decl.sites)
          + operations_in p (Some t)) m
          → Fits front (commands.Do object inv) m
      whole m costs =
          let few : times p.read (length r.rest) ≤ times p.read decl.sites =
          times-le p.read (length r.rest) decl.sites
          (start_fits decl front.client t.begun.epoch (read_need_of decl t.begun.epoch object inv) accepted).few in
          let same : operations_in p front.transaction ≡ operations_in p (Some t) = ap (operations_in p) is in
          omega arith

      by : (dead long : Bool)
          → Fits front (commands.Do object inv)
          (cond dead (moved front (telling replies.Doomed))
          (cond long (moved front (telling replies.TooLong))
          (reads decl front t object inv [] (round_for decl front t (read_need_of decl t.begun.epoch object inv)))))
      by true long = stays_fit front replies.Doomed (budget p decl.sites (commands.Do object inv)) (omega arith)
      by false true = stays_fit front replies.TooLong (budget p decl.sites (commands.Do object inv)) (omega arith)
      by false false =
          whole (read_by decl front t object inv [] r (verdict r))
          (read_costs decl accepted p fair front t object inv [] r (verdict r))

  begins_fit : (front : Front) (o : Option Transaction) → Fits front commands.Begin (begins decl front o)
  begins_fit front None = omega arith
  begins_fit front (Some t) =
      stays_fit front (replies.Already t.begun.tx) (budget p decl.sites commands.Begin) (omega arith)

  commits_fit : (front : Front) (o : Option Transaction) → AreSites decl.sites (asked_in o)
      → Fits front commands.Commit (commits front o)
  commits_fit front None are = stays_fit front replies.NoTransaction (budget p decl.sites commands.Commit) (omega arith)
  commits_fit front (Some t) are = by t.begun.doomed
    where
      by : (dead : Bool)
          → Fits front commands.Commit
          (cond dead (gives_up front t (replies.Aborted causes.Doomed)) (moved front quiet))
      by true = gives_fit front t commands.Commit (replies.Aborted causes.Doomed) are (omega arith)
      by false = omega arith

  aborts_fit : (front : Front) (o : Option Transaction) → AreSites decl.sites (asked_in o)
      → Fits front commands.Abort (aborts front o)
  aborts_fit front None are = stays_fit front replies.NoTransaction (budget p decl.sites commands.Abort) (omega arith)
  aborts_fit front (Some t) are = gives_fit front t commands.Abort replies.Dropped are (omega arith)

  pub called_fits : (front : Front) (command : Command) → AreSites decl.sites (asked_in front.transaction)
      → Fits front command (called decl front command)
  called_fits front commands.Begin are = begins_fit front front.transaction
  called_fits front (commands.Do object inv) are = performs_fit front front.transaction object inv refl
  called_fits front commands.Commit are = commits_fit front front.transaction are
  called_fits front commands.Abort are = aborts_fit front front.transaction are
  called_fits front (commands.Epoch number) are = omega arith
