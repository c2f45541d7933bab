-- How a front end executes an invocation: a read round, the view's answer, an append round, the reply.
use Rattle.std.specs.Prelude.{ℕ, nat_le, true, if◌then◌else◌, List, [], fold, length, map, Option, Some, None}
use Rattle.qc_decl.specs.declared.declaration.Declaration.{Declaration}
use Rattle.qc_decl.specs.Vocabulary.{append_need_of, most_transaction_operations, read_need_of}
use Rattle.qc_plan.specs.Vocabulary.{RoundState, asking_all, verdict, wanted}
use Rattle.qc_plan.specs.declared.standing.Verdict.{Verdict}
use Rattle.qc_plan.specs.declared.standing.Verdict.TheVariants as verdicts
use Rattle.qc_msg.specs.declared.call.Call.{Call}
use Rattle.qc_msg.specs.declared.message.Want.{Want}
use Rattle.qc_msg.specs.declared.reply.Half.TheVariants as halves
use Rattle.qc_msg.specs.declared.reply.Reply.{Reply}
use Rattle.qc_msg.specs.declared.reply.Reply.TheVariants as replies
use Rattle.qc_msg.specs.Vocabulary.{sending, telling, with_site}
use Rattle.qc_front.specs.declared.doing.Doing.{Doing}
use Rattle.qc_front.specs.declared.doing.Doing.TheVariants.{Idle, Reading, Appending}
use Rattle.qc_front.specs.declared.front.Front.{Front}
use Rattle.qc_front.specs.declared.transaction.Transaction.{Transaction}
use Rattle.qc_front.specs.Answering.{answer_of, op_of, resp_of, with_event, with_op}
use Rattle.qc_front.specs.Appending.{append_want, read_want, request_of, round_for}
use Rattle.qc_front.specs.Front.{FrontMove, moved, turned}

-- the sites are asked, and the transaction knows of it
abbrev pub with_asked : Transaction → List ℕ → Transaction
with_asked t sites = record t { begun = record t.begun { asked = fold with_site t.begun.asked sites } }

-- all sites that the round wants are asked at once, and the round goes on
abbrev pub goes_on : Front → Transaction → (RoundState → Doing) → (ℕ → Want) → RoundState → FrontMove
goes_on front t doing want round =
    let sites : List ℕ = wanted round in
    moved (turned front (Some (with_asked t sites)) (doing (asking_all round sites)))
    (sending (map (request_of t.begun want) sites))

-- a refused `do` has no operation; where it appended, the transaction can't commit any more

abbrev pub refuses : Front → Transaction → Reply → FrontMove
refuses front t reply = moved (turned front (Some t) Idle) (telling reply)

abbrev pub doomed : Transaction → Transaction
doomed t = record t { begun = record t.begun { doomed = true } }

-- the operation is recorded and told

abbrev pub responds : Declaration → Front → Transaction → ℕ → ℕ → ℕ → FrontMove
responds decl front t object inv event =
    let resp : ℕ = resp_of decl object event in
    moved (turned front (Some (with_event t object inv event resp)) Idle) (telling (replies.Response resp))

abbrev pub absents : Front → Transaction → ℕ → ℕ → FrontMove
absents front t object inv =
    moved (turned front (Some (with_op t (op_of object inv None))) Idle) (telling replies.Absent)

-- an append round, as far as it has come

abbrev pub append_by : Declaration → Front → Transaction → ℕ → ℕ → ℕ → List Call → RoundState → Verdict → FrontMove
append_by decl front t object inv event calls round verdicts.Waiting =
    goes_on front t (Appending object inv event calls) (append_want decl t object event) round
append_by decl front t object inv event calls round verdicts.Met = responds decl front t object inv event
append_by decl front t object inv event calls round (verdicts.Closed epoch site) =
    refuses front (doomed t) (replies.Closed epoch site)
append_by decl front t object inv event calls round (verdicts.Clash tx site) =
    refuses front (doomed t) (replies.Conflict tx site)
append_by decl front t object inv event calls round (verdicts.Short got need) =
    refuses front (doomed t) (replies.Quorum halves.Append got need)

abbrev pub appends : Declaration → Front → Transaction → ℕ → ℕ → ℕ → List Call → RoundState → FrontMove
appends decl front t object inv event calls round =
    append_by decl front t object inv event calls round (verdict round)

-- the view's answer: none is recorded and told; an event is appended first
abbrev pub answered : Declaration → Front → Transaction → ℕ → ℕ → Option ℕ → FrontMove
answered decl front t object inv None = absents front t object inv
answered decl front t object inv (Some event) =
    appends decl front t object inv event [] (round_for decl front t (append_need_of decl t.begun.epoch object event))

-- a read round, as far as it has come

abbrev pub read_by : Declaration → Front → Transaction → ℕ → ℕ → List Call → RoundState → Verdict → FrontMove
read_by decl front t object inv calls round verdicts.Waiting =
    goes_on front t (Reading object inv calls) (read_want object inv) round
read_by decl front t object inv calls round verdicts.Met =
    answered decl front t object inv (answer_of decl t object inv)
read_by decl front t object inv calls round (verdicts.Closed epoch site) =
    refuses front t (replies.Closed epoch site)
read_by decl front t object inv calls round (verdicts.Clash tx site) = refuses front t (replies.Conflict tx site)
read_by decl front t object inv calls round (verdicts.Short got need) =
    refuses front t (replies.Quorum halves.Read got need)

abbrev pub reads : Declaration → Front → Transaction → ℕ → ℕ → List Call → RoundState → FrontMove
reads decl front t object inv calls round = read_by decl front t object inv calls round (verdict round)

-- a `do`
abbrev pub performs : Declaration → Front → Option Transaction → ℕ → ℕ → FrontMove
performs decl front None object inv = moved front (telling replies.NoTransaction)
performs decl front (Some t) object inv =
    if t.begun.doomed then moved front (telling replies.Doomed)
    else (if nat_le most_transaction_operations (length t.begun.ops) then moved front (telling replies.TooLong)
    else reads decl front t object inv [] (round_for decl front t (read_need_of decl t.begun.epoch object inv)))
