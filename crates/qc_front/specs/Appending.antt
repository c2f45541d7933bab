-- What is asked of sites for an invocation: Reads, then Appends of the view and of own lines (Herlihy 1986).
use Rattle.std.specs.Prelude.{ℕ, ◌==◌, ◌&&◌, nat_lt, Bool, List, [], ◌∷◌, ◌++◌, filter}
use Rattle.std.specs.Option.{option_map_or}
use Rattle.qc_entry.specs.declared.line.OwnLine.{OwnLine}
use Rattle.qc_decl.specs.declared.declaration.Declaration.{Declaration}
use Rattle.qc_decl.specs.Vocabulary.{append_need_of, first_site, plan_in}
use Rattle.qc_plan.specs.declared.plan.Plan.{Plan}
use Rattle.qc_plan.specs.Vocabulary.{RoundState, start}
use Rattle.qc_msg.specs.declared.begun.Begun.{Begun}
use Rattle.qc_msg.specs.declared.message.Message.TheVariants as messages
use Rattle.qc_msg.specs.declared.message.Want.{Want}
use Rattle.qc_msg.specs.declared.message.Want.TheVariants.{Read, Append}
use Rattle.qc_msg.specs.declared.turn.Posting.{Posting}
use Rattle.qc_msg.specs.Vocabulary.{life_of}
use Rattle.qc_msg.specs.Vocabulary.{first_read}
use Rattle.qc_front.specs.declared.front.Front.{Front}
use Rattle.qc_front.specs.declared.transaction.Transaction.{Transaction}
use Rattle.qc_front.specs.Answering.{next_own, view_log}
pub use Rattle.qc_decl.specs.Vocabulary.{weights_of}

-- whether an own line is of the object, and its event needs weight to append
abbrev pub weighs : Declaration → ℕ → ℕ → OwnLine → Bool
weighs decl epoch object l = (l.object == object) && nat_lt 0 (append_need_of decl epoch object l.event)

-- the own lines that the append of an event carries: all of the object that weigh, the new one last
abbrev pub own_appended : Declaration → Transaction → ℕ → ℕ → List OwnLine
own_appended decl t object event = filter (weighs decl t.begun.epoch object) t.own ++ next_own t object event ∷ []

-- what a round wants of a site: the same of each

abbrev pub read_want : ℕ → ℕ → ℕ → Want
read_want object inv site = Read (first_read object inv)

abbrev pub append_want : Declaration → Transaction → ℕ → ℕ → ℕ → Want
append_want decl t object event site = Append object (view_log t object) (own_appended decl t object event)

-- a request names the life of the site's first grant, or 0
abbrev pub request_of : Begun → (ℕ → Want) → ℕ → Posting
request_of b want site =
    record { to = site; message = messages.Request b.tx b.epoch (life_of b.lives site) (want site) }

-- a round by the plan of the transaction's epoch, in the client's order of sites
abbrev pub round_for : Declaration → Front → Transaction → ℕ → RoundState
round_for decl front t need = start (weights_of decl t.begun.epoch) (first_site decl front.client) need
