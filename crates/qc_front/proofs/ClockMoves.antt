-- A command's move never lets the clock, the known epoch and the count of transactions fall.
use Rattle.std.proofs.Common.{[], ◌≡◌, ℕ, ◌+◌, ◌≤◌, Bool, true, false, cond, nat_le, List, length, Option, Some, None}
use Rattle.std.proofs.Common.{refl, arith}
use Rattle.qc_decl.specs.declared.declaration.Declaration.{Declaration}
use Rattle.qc_decl.specs.Vocabulary.{append_need_of, most_transaction_operations, read_need_of}
use Rattle.qc_msg.specs.declared.call.Call.{Call}
use Rattle.qc_msg.specs.declared.reply.Reply.TheVariants as replies
use Rattle.qc_msg.specs.declared.reply.AbortCause.TheVariants as causes
use Rattle.qc_msg.specs.declared.step.Command.{Command}
use Rattle.qc_msg.specs.declared.step.Command.TheVariants as commands
use Rattle.qc_msg.specs.Vocabulary.{quiet, telling}
use Rattle.qc_plan.specs.declared.standing.Verdict.{Verdict}
use Rattle.qc_plan.specs.declared.standing.Verdict.TheVariants as verdicts
use Rattle.qc_plan.specs.Vocabulary.{RoundState, verdict}
use Rattle.qc_front.specs.declared.front.Front.{Front}
use Rattle.qc_front.specs.declared.transaction.Transaction.{Transaction}
use Rattle.qc_front.specs.Vocabulary.{aborts, answer_of, answered, append_by, begins, called, commits, gives_up, moved}
use Rattle.qc_front.specs.Vocabulary.{performs, read_by, reads, round_for}

-- a move keeps both, and the count of transactions; a command raises that by one at most

pub record Keeps (before after : Front) : Type 0 where
  pub clock : after.clock ≡ before.clock
  pub epoch : after.epoch ≡ before.epoch
  pub count : after.count ≡ before.count

pub record KeepsBut (before after : Front) : Type 0 where
  pub clock : after.clock ≡ before.clock
  pub epoch : after.epoch ≡ before.epoch
  pub count : after.count ≤ before.count + 1

no_more : (before after : Front) → Keeps before after → KeepsBut before after
no_more before after k =
    record { clock = k.clock; epoch = k.epoch; count = let same : after.count ≡ before.count = k.count in omega arith }

pub append_by_keeps : (decl : Declaration) (front : Front) (t : Transaction) (object inv event : ℕ) (calls : List Call)
    (r : RoundState) (v : Verdict) → Keeps front (append_by decl front t object inv event calls r v).front
append_by_keeps decl front t object inv event calls r verdicts.Waiting =
    record { clock = refl; epoch = refl; count = refl }
append_by_keeps decl front t object inv event calls r verdicts.Met = record { clock = refl; epoch = refl; count = refl }
append_by_keeps decl front t object inv event calls r (verdicts.Closed epoch site) =
    record { clock = refl; epoch = refl; count = refl }
append_by_keeps decl front t object inv event calls r (verdicts.Clash tx site) =
    record { clock = refl; epoch = refl; count = refl }
append_by_keeps decl front t object inv event calls r (verdicts.Short got need) =
    record { clock = refl; epoch = refl; count = refl }

answered_keeps : (decl : Declaration) (front : Front) (t : Transaction) (object inv : ℕ) (event : Option ℕ)
    → Keeps front (answered decl front t object inv event).front
answered_keeps decl front t object inv None = record { clock = refl; epoch = refl; count = refl }
answered_keeps decl front t object inv (Some event) =
    append_by_keeps decl front t object inv event []
    (round_for decl front t (append_need_of decl t.begun.epoch object event))
    (verdict (round_for decl front t (append_need_of decl t.begun.epoch object event)))

pub read_by_keeps : (decl : Declaration) (front : Front) (t : Transaction) (object inv : ℕ) (calls : List Call)
    (r : RoundState) (v : Verdict) → Keeps front (read_by decl front t object inv calls r v).front
read_by_keeps decl front t object inv calls r verdicts.Waiting = record { clock = refl; epoch = refl; count = refl }
read_by_keeps decl front t object inv calls r verdicts.Met =
    answered_keeps decl front t object inv (answer_of decl t object inv)
read_by_keeps decl front t object inv calls r (verdicts.Closed epoch site) =
    record { clock = refl; epoch = refl; count = refl }
read_by_keeps decl front t object inv calls r (verdicts.Clash tx site) =
    record { clock = refl; epoch = refl; count = refl }
read_by_keeps decl front t object inv calls r (verdicts.Short got need) =
    record { clock = refl; epoch = refl; count = refl }

performs_keeps : (decl : Declaration) (front : Front) (t : Option Transaction) (object inv : ℕ)
    → Keeps front (performs decl front t object inv).front
performs_keeps decl front None object inv = record { clock = refl; epoch = refl; count = refl }
performs_keeps decl front (Some t) object inv =
    by t.begun.doomed (nat_le most_transaction_operations (length t.begun.ops))
  where
    by : (doomed long : Bool)
        → Keeps front
        (cond doomed (moved front (telling replies.Doomed))
        (cond long (moved front (telling replies.TooLong))
        (reads decl front t object inv []
        (round_for decl front t (read_need_of decl t.begun.epoch object inv))))).front
    by true long = record { clock = refl; epoch = refl; count = refl }
    by false true = record { clock = refl; epoch = refl; count = refl }
    by false false =
        read_by_keeps decl front t object inv [] (round_for decl front t (read_need_of decl t.begun.epoch object inv))
        (verdict (round_for decl front t (read_need_of decl t.begun.epoch object inv)))

begins_keeps : (decl : Declaration) (front : Front) (t : Option Transaction)
    → KeepsBut front (begins decl front t).front
begins_keeps decl front (Some t) = record { clock = refl; epoch = refl; count = omega arith }
begins_keeps decl front None = record { clock = refl; epoch = refl; count = omega arith }

commits_keeps : (front : Front) (t : Option Transaction) → Keeps front (commits front t).front
commits_keeps front None = record { clock = refl; epoch = refl; count = refl }
commits_keeps front (Some t) = by t.begun.doomed
  where
    by : (doomed : Bool)
        → Keeps front (cond doomed (gives_up front t (replies.Aborted causes.Doomed)) (moved front quiet)).front
    by true = record { clock = refl; epoch = refl; count = refl }
    by false = record { clock = refl; epoch = refl; count = refl }

aborts_keeps : (front : Front) (t : Option Transaction) → Keeps front (aborts front t).front
aborts_keeps front None = record { clock = refl; epoch = refl; count = refl }
aborts_keeps front (Some t) = record { clock = refl; epoch = refl; count = refl }

called_keeps : (decl : Declaration) (front : Front) (command : Command)
    → KeepsBut front (called decl front command).front
called_keeps decl front commands.Begin = begins_keeps decl front front.transaction
called_keeps decl front (commands.Do object inv) =
    no_more front (performs decl front front.transaction object inv).front
    (performs_keeps decl front front.transaction object inv)
called_keeps decl front commands.Commit =
    no_more front (commits front front.transaction).front (commits_keeps front front.transaction)
called_keeps decl front commands.Abort =
    no_more front (aborts front front.transaction).front (aborts_keeps front front.transaction)
called_keeps decl front (commands.Epoch number) =
    no_more front front (record { clock = refl; epoch = refl; count = refl })

pub called_clock : (decl : Declaration) (front : Front) (command : Command)
    → (called decl front command).front.clock ≡ front.clock
called_clock decl front command =
    let k : KeepsBut front (called decl front command).front = called_keeps decl front command in
    k.clock

pub called_epoch : (decl : Declaration) (front : Front) (command : Command)
    → (called decl front command).front.epoch ≡ front.epoch
called_epoch decl front command =
    let k : KeepsBut front (called decl front command).front = called_keeps decl front command in
    k.epoch

pub called_count : (decl : Declaration) (front : Front) (command : Command)
    → (called decl front command).front.count ≤ front.count + 1
called_count decl front command =
    let k : KeepsBut front (called decl front command).front = called_keeps decl front command in
    k.count
