-- What a `do` is told: what its round came to, and the view's answer (Herlihy 1986).
use Rattle.std.specs.Prelude.{◌≡◌, ℕ, ◌≤◌, ◌⊎◌, true, Option, Some, None, length}
use Rattle.qc_decl.specs.declared.declaration.Declaration.{Declaration}
use Rattle.qc_decl.specs.Vocabulary.{append_need_of, most_transaction_operations, read_need_of}
use Rattle.qc_msg.specs.declared.reply.Half.{Half}
use Rattle.qc_msg.specs.declared.reply.Half.TheVariants as halves
use Rattle.qc_msg.specs.declared.reply.Reply.{Reply}
use Rattle.qc_msg.specs.declared.reply.Reply.TheVariants as replies
use Rattle.qc_plan.specs.Vocabulary.{RoundState, verdict}
use Rattle.qc_plan.specs.declared.standing.Verdict.{Verdict}
use Rattle.qc_plan.specs.declared.standing.Verdict.TheVariants.{Met, Clash, Closed, Short}
use Rattle.qc_front.specs.declared.transaction.Transaction.{Transaction}
use Rattle.qc_front.specs.Answering.{answer_of, op_of, resp_of, with_event, with_op}
use Rattle.qc_front.specs.Holds.{IsRound}
use Rattle.qc_front.specs.Rounds.{doomed}

-- a read round for an invocation came to this
pub record ReadCame (decl : Declaration) (client : ℕ) (t : Transaction) (object inv : ℕ) (come : Verdict) : Type 0 where
  pub round : RoundState
  pub round_is : IsRound decl client t.begun.epoch (read_need_of decl t.begun.epoch object inv) round
  pub came : verdict round ≡ come

-- an append round for the event that the view answers an invocation with came to this
pub record AppendCame (decl : Declaration) (client : ℕ) (t : Transaction) (object inv event : ℕ) (come : Verdict)
    : Type 0 where
  pub chosen : answer_of decl t object inv ≡ Some event
  pub round : RoundState
  pub round_is : IsRound decl client t.begun.epoch (append_need_of decl t.begun.epoch object event) round
  pub came : verdict round ≡ come

-- a response is that of the view's first answer. Its append round is met, so the operation is recorded
pub record IsAnswered (decl : Declaration) (client : ℕ) (after : Option Transaction) (resp : ℕ) : Type 0 where
  pub t : Transaction
  pub object : ℕ
  pub inv : ℕ
  pub event : ℕ
  pub appended : AppendCame decl client t object inv event Met
  pub told : resp ≡ resp_of decl object event
  pub recorded : after ≡ Some (with_event t object inv event resp)

-- where the view has no answer, that is recorded; the read round is met
pub record IsAbsent (decl : Declaration) (client : ℕ) (after : Option Transaction) : Type 0 where
  pub t : Transaction
  pub object : ℕ
  pub inv : ℕ
  pub read : ReadCame decl client t object inv Met
  pub no_answer : answer_of decl t object inv ≡ None
  pub recorded : after ≡ Some (with_op t (op_of object inv None))

-- a `do` that is refused while reading leaves the transaction as it is; while appending, it dooms it

pub record IsUnread (decl : Declaration) (client : ℕ) (after : Option Transaction) (come : Verdict) : Type 0 where
  pub t : Transaction
  pub object : ℕ
  pub inv : ℕ
  pub read : ReadCame decl client t object inv come
  pub kept : after ≡ Some t

pub record IsUnappended (decl : Declaration) (client : ℕ) (after : Option Transaction) (come : Verdict) : Type 0 where
  pub t : Transaction
  pub object : ℕ
  pub inv : ℕ
  pub event : ℕ
  pub appended : AppendCame decl client t object inv event come
  pub dooms : after ≡ Some (doomed t)

abbrev pub IsRefused : Declaration → ℕ → Option Transaction → Verdict → Type 0
IsRefused decl client after come = IsUnread decl client after come ⊎ IsUnappended decl client after come

abbrev pub IsShort : Declaration → ℕ → Option Transaction → Half → ℕ → ℕ → Type 0
IsShort decl client after halves.Read got need = IsUnread decl client after (Short got need)
IsShort decl client after halves.Append got need = IsUnappended decl client after (Short got need)
IsShort decl client after halves.Close got need = ⊥

-- what refuses a `do` at once

pub record IsDoomed (before : Option Transaction) : Type 0 where
  pub t : Transaction
  pub begun : before ≡ Some t
  pub dooms : t.begun.doomed ≡ true

pub record IsLong (before : Option Transaction) : Type 0 where
  pub t : Transaction
  pub begun : before ≡ Some t
  pub long : most_transaction_operations ≤ length t.begun.ops

-- what a `do` is told, with the transaction before and after: nothing but these
abbrev pub DoTells : Declaration → ℕ → Option Transaction → Option Transaction → Reply → Type 0
DoTells decl client before after replies.NoTransaction = before ≡ None
DoTells decl client before after replies.Doomed = IsDoomed before
DoTells decl client before after replies.TooLong = IsLong before
DoTells decl client before after (replies.Closed epoch site) = IsRefused decl client after (Closed epoch site)
DoTells decl client before after (replies.Conflict tx site) = IsRefused decl client after (Clash tx site)
DoTells decl client before after (replies.Quorum half got need) = IsShort decl client after half got need
DoTells decl client before after replies.Absent = IsAbsent decl client after
DoTells decl client before after (replies.Response resp) = IsAnswered decl client after resp
DoTells decl client before after replies.Down = ⊥
DoTells decl client before after (replies.Already tx) = ⊥
DoTells decl client before after (replies.Began tx) = ⊥
DoTells decl client before after (replies.Aborted why) = ⊥
DoTells decl client before after replies.Unknown = ⊥
DoTells decl client before after (replies.Committed stamp) = ⊥
DoTells decl client before after replies.Dropped = ⊥
DoTells decl client before after (replies.Order current) = ⊥
DoTells decl client before after (replies.InDoubt tx site) = ⊥
DoTells decl client before after replies.Fault = ⊥
DoTells decl client before after (replies.Moved closed installed) = ⊥

abbrev pub DoTold : Declaration → ℕ → Option Transaction → Option Transaction → Option Reply → Type 0
DoTold decl client before after None = Unit {0}
DoTold decl client before after (Some reply) = DoTells decl client before after reply
