-- What a front end becomes and does for a command, for an answer and for a lost request.
use Rattle.std.specs.Prelude.{ℕ, if◌then◌else◌, List, filter, map, is_none, Option, Some, None}
use Rattle.qc_decl.specs.declared.declaration.Declaration.{Declaration}
use Rattle.qc_plan.specs.declared.standing.Asked.{Asked}
use Rattle.qc_plan.specs.Vocabulary.{RoundState, note}
use Rattle.qc_msg.specs.declared.call.Call.{Call}
use Rattle.qc_msg.specs.declared.message.Answer.{Answer}
use Rattle.qc_msg.specs.declared.reply.Reply.TheVariants as replies
use Rattle.qc_msg.specs.declared.reply.AbortCause.TheVariants as causes
use Rattle.qc_msg.specs.declared.step.Command.{Command}
use Rattle.qc_msg.specs.declared.step.Command.TheVariants as commands
use Rattle.qc_msg.specs.Vocabulary.{numbered_from, quiet, site_called, telling, with_call, without_call}
use Rattle.qc_front.specs.declared.doing.Doing.{Doing}
use Rattle.qc_front.specs.declared.doing.Doing.TheVariants.{Idle, Reading, Appending}
use Rattle.qc_front.specs.declared.front.Front.{Front}
use Rattle.qc_front.specs.declared.transaction.Transaction.{Transaction}
use Rattle.qc_front.specs.Counting.{appended_with, learns, read_with, standing_of}
use Rattle.qc_front.specs.Front.{FrontMove, moved, aborts, begins, gives_up}
use Rattle.qc_front.specs.Rounds.{appends, performs, reads}

-- a commit of a transaction that can't commit any more; every other commit is the desk's
abbrev pub commits : Front → Option Transaction → FrontMove
commits front None = moved front (telling replies.NoTransaction)
commits front (Some t) =
    if t.begun.doomed then gives_up front t (replies.Aborted causes.Doomed) else moved front quiet

-- a command; nobody asks a client to move an epoch
abbrev pub called : Declaration → Front → Command → FrontMove
called decl front commands.Begin = begins decl front front.transaction
called decl front (commands.Do object inv) = performs decl front front.transaction object inv
called decl front commands.Commit = commits front front.transaction
called decl front commands.Abort = aborts front front.transaction
called decl front (commands.Epoch number) = moved front quiet

-- the first answer to an open request counts, or that it is lost: the round notes it, and goes on

abbrev pub read_counts : Declaration → Front → Transaction → ℕ → ℕ → List Call → RoundState
    → ℕ → ℕ → Option Answer → FrontMove
read_counts decl front t object inv calls round number site answer =
    reads decl front (read_with t site object answer) object inv (without_call calls number)
    (note round site (standing_of answer))

abbrev pub append_counts : Declaration → Front → Transaction → ℕ → ℕ → ℕ → List Call → RoundState
    → ℕ → ℕ → Option Answer → FrontMove
append_counts decl front t object inv event calls round number site answer =
    appends decl front (appended_with t site answer) object inv event (without_call calls number)
    (note round site (standing_of answer))

-- all else is put aside

abbrev pub reading_takes : Declaration → Front → Transaction → ℕ → ℕ → List Call → RoundState
    → ℕ → Option Answer → Option ℕ → FrontMove
reading_takes decl front t object inv calls round number answer None = moved front quiet
reading_takes decl front t object inv calls round number answer (Some site) =
    read_counts decl (learns front answer) t object inv calls round number site answer

abbrev pub appending_takes : Declaration → Front → Transaction → ℕ → ℕ → ℕ → List Call → RoundState
    → ℕ → Option Answer → Option ℕ → FrontMove
appending_takes decl front t object inv event calls round number answer None = moved front quiet
appending_takes decl front t object inv event calls round number answer (Some site) =
    append_counts decl (learns front answer) t object inv event calls round number site answer

abbrev pub takes_in : Declaration → Front → Doing → Option Transaction → ℕ → Option Answer → FrontMove
takes_in decl front doing None number answer = moved front quiet
takes_in decl front Idle (Some t) number answer = moved front quiet
takes_in decl front (Reading object inv calls round) (Some t) number answer =
    reading_takes decl front t object inv calls round number answer (site_called calls number)
takes_in decl front (Appending object inv event calls round) (Some t) number answer =
    appending_takes decl front t object inv event calls round number answer (site_called calls number)

-- the answer to the request of this number, or none where it is lost
abbrev pub takes : Declaration → Front → ℕ → Option Answer → FrontMove
takes decl front number answer = takes_in decl front front.doing front.transaction number answer

-- a request of the running round was sent to a site under this number

abbrev pub requested_in : Doing → ℕ → ℕ → Doing
requested_in Idle number site = Idle
requested_in (Reading object inv calls round) number site = Reading object inv (with_call calls number site) round
requested_in (Appending object inv event calls round) number site =
    Appending object inv event (with_call calls number site) round

abbrev pub requested : Front → ℕ → ℕ → Front
requested front number site = record front { doing = requested_in front.doing number site }

-- the messages of the last turn have the numbers from this one on: where no request is open, the asked sites that
-- aren't noted were asked in it

abbrev pub awaited : RoundState → List ℕ
awaited round = map (λ (a : Asked). a.site) (filter (λ (a : Asked). is_none a.standing) round.asked)

abbrev pub numbered : Doing → ℕ → Doing
numbered Idle first = Idle
numbered (Reading object inv calls round) first = Reading object inv (numbered_from calls (awaited round) first) round
numbered (Appending object inv event calls round) first =
    Appending object inv event (numbered_from calls (awaited round) first) round

abbrev pub sent : Front → ℕ → Front
sent front first = record front { doing = numbered front.doing first }
