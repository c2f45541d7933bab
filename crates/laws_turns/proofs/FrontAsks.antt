-- The open requests of a front end after a command, or after a round that goes on, were open before it.
use Rattle.std.proofs.Common.{◌≡◌, ℕ, nat_le, List, [], length, Option, Some, None, refl, sym, subst}
use Rattle.qc_list.specs.Vocabulary.{In}
use Rattle.qc_decl.specs.declared.declaration.Declaration.{Declaration}
use Rattle.qc_decl.specs.Vocabulary.{append_need_of, most_transaction_operations, read_need_of}
use Rattle.qc_plan.specs.Vocabulary.{RoundState, verdict}
use Rattle.qc_plan.specs.declared.standing.Verdict.{Verdict}
use Rattle.qc_plan.specs.declared.standing.Verdict.TheVariants as verdicts
use Rattle.qc_msg.specs.declared.call.Call.{Call}
use Rattle.qc_msg.specs.declared.reply.Reply.{Reply}
use Rattle.qc_msg.specs.declared.reply.Reply.TheVariants as replies
use Rattle.qc_msg.specs.declared.reply.AbortCause.TheVariants as causes
use Rattle.qc_msg.specs.declared.step.Command.{Command}
use Rattle.qc_msg.specs.Vocabulary.{quiet, telling}
use Rattle.qc_front.specs.declared.doing.Doing.TheVariants.{Idle}
use Rattle.qc_front.specs.declared.front.Front.{Front}
use Rattle.qc_front.specs.declared.transaction.Transaction.{Transaction}
use Rattle.qc_front.specs.Vocabulary.{FrontMove, aborts, answer_of, answered as front_answered, append_by, begins}
use Rattle.qc_front.specs.Vocabulary.{calls_in, gives_up, moved as front_moved, performs, read_by, reads, round_for}
use Rattle.qc_front.specs.Conduct as fronts
use Rattle.laws_turns.proofs.ClientCases.{front_cases}
use Rattle.qc_list.proofs.Booleans.{if_two}

-- a front end without a transaction waits for nothing
abbrev pub IsBound : Front → Type 0
IsBound front = front.transaction ≡ None → front.doing ≡ Idle

-- the open requests of a front end's move are among these, and it stays bound
pub record Asks (calls : List Call) (m : FrontMove) : Type 0 where
  pub among : (c : Call) → In c (calls_in m.front.doing) → In c calls
  pub bound : IsBound m.front

stays : (front : Front) (m : FrontMove) → m.front ≡ front → IsBound front → Asks (calls_in front.doing) m
stays front m same bound = record {
  among = λ c member. subst (λ (f : Front). In c (calls_in f.doing)) same member;
  bound = subst IsBound (sym same) bound;
}

fewer_calls : (xs ys : List Call) (m : FrontMove) → ((c : Call) → In c xs → In c ys) → Asks xs m → Asks ys m
fewer_calls xs ys m less asks = record { among = λ c member. less c (asks.among c member); bound = asks.bound }

module _ (decl : Declaration) where
  pub append_asks : (next : Front) (t : Transaction) (object inv event : ℕ) (calls : List Call) (round : RoundState)
      (v : Verdict) → Asks calls (append_by decl next t object inv event calls round v)
  append_asks next t object inv event calls round verdicts.Waiting =
      record { among = λ c member. member; bound = λ none. absurd (let never : ⊥ = cc in never) }
  append_asks next t object inv event calls round verdicts.Met =
      record { among = λ c member. absurd member; bound = λ none. refl }
  append_asks next t object inv event calls round (verdicts.Closed epoch site) =
      record { among = λ c member. absurd member; bound = λ none. refl }
  append_asks next t object inv event calls round (verdicts.Clash tx site) =
      record { among = λ c member. absurd member; bound = λ none. refl }
  append_asks next t object inv event calls round (verdicts.Short got need) =
      record { among = λ c member. absurd member; bound = λ none. refl }

  no_calls : (calls : List Call) (m : FrontMove) → Asks [] m → Asks calls m
  no_calls calls m asks = fewer_calls [] calls m (λ c member. absurd member) asks

  answered_asks : (next : Front) (t : Transaction) (object inv : ℕ) (o : Option ℕ) (calls : List Call)
      → Asks calls (front_answered decl next t object inv o)
  answered_asks next t object inv None calls = record { among = λ c member. absurd member; bound = λ none. refl }
  answered_asks next t object inv (Some event) calls =
      no_calls calls (front_answered decl next t object inv (Some event))
      (append_asks next t object inv event [] (round_for decl next t (append_need_of decl t.begun.epoch object event))
      (verdict (round_for decl next t (append_need_of decl t.begun.epoch object event))))

  pub read_asks : (next : Front) (t : Transaction) (object inv : ℕ) (calls : List Call) (round : RoundState)
      (v : Verdict) → Asks calls (read_by decl next t object inv calls round v)
  read_asks next t object inv calls round verdicts.Waiting =
      record { among = λ c member. member; bound = λ none. absurd (let never : ⊥ = cc in never) }
  read_asks next t object inv calls round verdicts.Met =
      answered_asks next t object inv (answer_of decl t object inv) calls
  read_asks next t object inv calls round (verdicts.Closed epoch site) =
      record { among = λ c member. absurd member; bound = λ none. refl }
  read_asks next t object inv calls round (verdicts.Clash tx site) =
      record { among = λ c member. absurd member; bound = λ none. refl }
  read_asks next t object inv calls round (verdicts.Short got need) =
      record { among = λ c member. absurd member; bound = λ none. refl }

  -- commands

  performs_asks : (front : Front) (o : Option Transaction) (object inv : ℕ) → IsBound front
      → Asks (calls_in front.doing) (performs decl front o object inv)
  performs_asks front None object inv bound = stays front (front_moved front (telling replies.NoTransaction)) refl bound
  performs_asks front (Some t) object inv bound =
      if_two (Asks (calls_in front.doing)) t.begun.doomed (front_moved front (telling replies.Doomed)) _
      (stays front (front_moved front (telling replies.Doomed)) refl bound)
      (if_two (Asks (calls_in front.doing)) (nat_le most_transaction_operations (length t.begun.ops))
      (front_moved front (telling replies.TooLong))
      (reads decl front t object inv [] (round_for decl front t (read_need_of decl t.begun.epoch object inv)))
      (stays front (front_moved front (telling replies.TooLong)) refl bound)
      (no_calls (calls_in front.doing) (reads decl front t object inv []
      (round_for decl front t (read_need_of decl t.begun.epoch object inv)))
      (read_asks front t object inv [] (round_for decl front t (read_need_of decl t.begun.epoch object inv))
      (verdict (round_for decl front t (read_need_of decl t.begun.epoch object inv))))))

  begins_asks : (front : Front) (o : Option Transaction) → IsBound front
      → Asks (calls_in front.doing) (begins decl front o)
  begins_asks front None bound = record {
    among = λ c member. member;
    bound = λ none. absurd (let never : ⊥ = cc in never);
  }
  begins_asks front (Some t) bound = stays front (begins decl front (Some t)) refl bound

  given_up : (front : Front) (t : Transaction) (reply : Reply) → Asks (calls_in front.doing) (gives_up front t reply)
  given_up front t reply = record { among = λ c member. absurd member; bound = λ none. refl }

  commits_asks : (front : Front) (o : Option Transaction) → IsBound front
      → Asks (calls_in front.doing) (fronts.commits front o)
  commits_asks front None bound = stays front (front_moved front (telling replies.NoTransaction)) refl bound
  commits_asks front (Some t) bound =
      if_two (Asks (calls_in front.doing)) t.begun.doomed (gives_up front t (replies.Aborted causes.Doomed))
      (front_moved front quiet) (given_up front t (replies.Aborted causes.Doomed))
      (stays front (front_moved front quiet) refl bound)

  aborts_asks : (front : Front) (o : Option Transaction) → IsBound front → Asks (calls_in front.doing) (aborts front o)
  aborts_asks front None bound = stays front (aborts front None) refl bound
  aborts_asks front (Some t) bound = given_up front t replies.Dropped

  pub front_called : (front : Front) (command : Command) → IsBound front
      → Asks (calls_in front.doing) (fronts.called decl front command)
  front_called front command bound =
      front_cases decl front (λ command m. Asks (calls_in front.doing) m) (begins_asks front front.transaction bound)
      (λ object inv. performs_asks front front.transaction object inv bound)
      (commits_asks front front.transaction bound) (aborts_asks front front.transaction bound)
      (λ number. stays front (front_moved front quiet) refl bound) command
