-- What a turn of a client writes and tells; and the turns of a front end, which answer nothing.
use Rattle.std.proofs.Common.{◌≡◌, ℕ, nat_le, Bool, true, false, cond, List, [], ◌∷◌, length, map, Option, Some, None}
use Rattle.std.proofs.Common.{refl}
use Rattle.qc_stamp.specs.declared.stamp.Stamp.{Stamp}
use Rattle.qc_stamp.specs.declared.stamp.TxId.{TxId}
use Rattle.qc_decl.specs.declared.declaration.Declaration.{Declaration}
use Rattle.qc_decl.specs.Vocabulary.{append_need_of, most_transaction_operations, read_need_of}
use Rattle.std.specs.List.{AllByRecursion as Every}
use Rattle.qc_msg.specs.declared.reply.Reply.{Reply}
use Rattle.qc_msg.specs.declared.turn.Posting.{Posting}
use Rattle.qc_msg.specs.declared.turn.Turn.{Turn}
use Rattle.qc_msg.specs.Vocabulary.{answer_in, decisions, ending, quiet, says, sending, site_called, telling}
use Rattle.qc_msg.specs.Vocabulary.{without_call}
use Rattle.qc_promise.specs.Vocabulary.{Saying, SaysDown, SaysFault, SaysNeither, SaysUnwritten, saying_of}
use Rattle.qc_msg.specs.declared.reply.Half.TheVariants as halves
use Rattle.qc_plan.specs.declared.standing.Verdict.{Verdict}
use Rattle.qc_plan.specs.declared.standing.Verdict.TheVariants as verdicts
use Rattle.qc_plan.specs.Vocabulary.{RoundState, note, verdict, wanted}
use Rattle.qc_msg.specs.declared.begun.Begun.{Begun}
use Rattle.qc_msg.specs.declared.call.Call.{Call}
use Rattle.qc_msg.specs.declared.message.Answer.{Answer}
use Rattle.qc_msg.specs.declared.message.Message.TheVariants as messages
use Rattle.qc_msg.specs.declared.message.Outcome.{Outcome}
use Rattle.qc_msg.specs.declared.message.Outcome.TheVariants.{Committed, Aborted}
use Rattle.qc_msg.specs.declared.message.Want.{Want}
use Rattle.qc_msg.specs.declared.record.Record.{Record}
use Rattle.qc_msg.specs.declared.reply.Reply.TheVariants as replies
use Rattle.qc_msg.specs.declared.reply.AbortCause.TheVariants as causes
use Rattle.qc_msg.specs.declared.step.Command.{Command}
use Rattle.qc_msg.specs.declared.step.Command.TheVariants as commands
use Rattle.qc_msg.specs.declared.turn.Appended.TheVariants.{Done}
use Rattle.qc_commit.specs.Conduct as desks
use Rattle.qc_commit.specs.Vocabulary.{prepares as asks_for}
use Rattle.qc_front.specs.declared.doing.Doing.{Doing}
use Rattle.qc_front.specs.declared.doing.Doing.TheVariants.{Idle, Reading, Appending}
use Rattle.qc_front.specs.declared.front.Front.{Front}
use Rattle.qc_front.specs.declared.transaction.Transaction.{Transaction}
use Rattle.qc_front.specs.Vocabulary.{aborts, answer_of, answered, append_by, append_want, appended_with, begins}
use Rattle.qc_front.specs.Vocabulary.{gives_up, learns, moved as front_moved, next_tx, performs, read_by, read_want}
use Rattle.qc_front.specs.Vocabulary.{read_with, reads, request_of, resp_of, round_for, standing_of}
use Rattle.qc_front.specs.Conduct as fronts
use Rattle.qc_core.proofs.SiteWrites.{writes_no_life}

-- a turn of a client: it tells neither that it is down nor that its record isn't written, but that one where the record
-- isn't, and then alone; and it sends no answer

abbrev pub says_neither : Saying → Bool
says_neither SaysDown = false
says_neither SaysUnwritten = false
says_neither SaysFault = false
says_neither SaysNeither = true

abbrev pub says_unwritten : Saying → Bool
says_unwritten SaysDown = false
says_unwritten SaysUnwritten = true
says_unwritten SaysFault = false
says_unwritten SaysNeither = false

abbrev pub tells_neither : Option Reply → Bool
tells_neither None = true
tells_neither (Some reply) = says_neither (saying_of reply)

abbrev pub tells_unwritten : Option Reply → Bool
tells_unwritten None = false
tells_unwritten (Some reply) = says_unwritten (saying_of reply)

abbrev pub FailsAlone : Option Record → List Posting → Option Reply → Type 0
FailsAlone None sends told = Unit {0}
FailsAlone (Some written) sends told = (sends ≡ []) × (tells_unwritten told ≡ true)

pub record IsClientTurn (t : Turn) : Type 0 where
  pub append : t.append ≡ Done
  pub told : tells_neither t.told ≡ true
  pub writes : writes_no_life t.write ≡ true
  pub fails : FailsAlone t.write t.failed_sends t.failed_told
  pub failed_sends : t.failed_sends ≡ []

abbrev pub NoAnswer : Posting → Type 0
NoAnswer p = answer_in p.message ≡ None

pub record IsAsking (t : Turn) : Type 0 where
  pub turn : IsClientTurn t
  pub sends : Every NoAnswer t.sends

pub says_well : (ps : List Posting) (o : Option Reply) → tells_neither o ≡ true → IsClientTurn (says ps o)
says_well ps o neither = record { append = refl; told = neither; writes = refl; fails = tt; failed_sends = refl }

pub quiet_asks : IsAsking quiet
quiet_asks = record { turn = says_well [] None refl; sends = tt }

tells_asks : (reply : Reply) → says_neither (saying_of reply) ≡ true → IsAsking (telling reply)
tells_asks reply neither = record { turn = says_well [] (Some reply) neither; sends = tt }

decisions_ask : (tx : TxId) (outcome : Outcome) (sites : List ℕ)
    → Every NoAnswer (map (λ (site : ℕ). record { to = site; message = messages.Decision tx outcome }) sites)
decisions_ask tx outcome [] = tt
decisions_ask tx outcome (site ∷ sites) = (refl, decisions_ask tx outcome sites)

pub ends_asks : (b : Begun) (outcome : Outcome) (reply : Reply) → says_neither (saying_of reply) ≡ true
    → IsAsking (ending (decisions b outcome) reply)
ends_asks b outcome reply neither = record
    { turn = says_well (decisions b outcome) (Some reply) neither; sends = decisions_ask b.tx outcome b.asked }

requests_ask : (b : Begun) (want : ℕ → Want) (sites : List ℕ) → Every NoAnswer (map (request_of b want) sites)
requests_ask b want [] = tt
requests_ask b want (site ∷ sites) = (refl, requests_ask b want sites)

pub prepares_ask : (b : Begun) (sites : List ℕ) → Every NoAnswer (map (asks_for b) sites)
prepares_ask b [] = tt
prepares_ask b (site ∷ sites) = (refl, prepares_ask b sites)

wants_asks : (b : Begun) (want : ℕ → Want) (sites : List ℕ) → IsAsking (sending (map (request_of b want) sites))
wants_asks b want sites = record {
  turn = says_well (map (request_of b want) sites) None refl;
  sends = requests_ask b want sites;
}

pub commits_asks : (stamp : Stamp) (b : Begun) → IsAsking (desks.commit_turn stamp b)
commits_asks stamp b = record {
  turn = record
      { append = refl; told = refl; writes = refl; fails = (refl, refl); failed_sends = refl };
  sends = decisions_ask b.tx (Committed stamp) b.asked;
}

-- a front end

module _ (decl : Declaration) where
  append_written : (front : Front) (t : Transaction) (object inv event : ℕ) (calls : List Call) (r : RoundState)
      (v : Verdict) → IsAsking (append_by decl front t object inv event calls r v).turn
  append_written front t object inv event calls r verdicts.Waiting =
      wants_asks t.begun (append_want decl t object event) (wanted r)
  append_written front t object inv event calls r verdicts.Met =
      tells_asks (replies.Response (resp_of decl object event)) refl
  append_written front t object inv event calls r (verdicts.Closed epoch site) =
      tells_asks (replies.Closed epoch site) refl
  append_written front t object inv event calls r (verdicts.Clash tx site) = tells_asks (replies.Conflict tx site) refl
  append_written front t object inv event calls r (verdicts.Short got need) =
      tells_asks (replies.Quorum halves.Append got need) refl

  answered_written : (front : Front) (t : Transaction) (object inv : ℕ) (event : Option ℕ)
      → IsAsking (answered decl front t object inv event).turn
  answered_written front t object inv None = tells_asks replies.Absent refl
  answered_written front t object inv (Some event) =
      append_written front t object inv event []
      (round_for decl front t (append_need_of decl t.begun.epoch object event))
      (verdict (round_for decl front t (append_need_of decl t.begun.epoch object event)))

  read_written : (front : Front) (t : Transaction) (object inv : ℕ) (calls : List Call) (r : RoundState) (v : Verdict)
      → IsAsking (read_by decl front t object inv calls r v).turn
  read_written front t object inv calls r verdicts.Waiting = wants_asks t.begun (read_want object inv) (wanted r)
  read_written front t object inv calls r verdicts.Met =
      answered_written front t object inv (answer_of decl t object inv)
  read_written front t object inv calls r (verdicts.Closed epoch site) = tells_asks (replies.Closed epoch site) refl
  read_written front t object inv calls r (verdicts.Clash tx site) = tells_asks (replies.Conflict tx site) refl
  read_written front t object inv calls r (verdicts.Short got need) =
      tells_asks (replies.Quorum halves.Read got need) refl

  performs_written : (front : Front) (t : Option Transaction) (object inv : ℕ)
      → IsAsking (performs decl front t object inv).turn
  performs_written front None object inv = tells_asks replies.NoTransaction refl
  performs_written front (Some t) object inv =
      by t.begun.doomed (nat_le most_transaction_operations (length t.begun.ops))
    where
      by : (doomed long : Bool) → IsAsking (cond doomed (front_moved front (telling replies.Doomed))
          (cond long (front_moved front (telling replies.TooLong))
          (reads decl front t object inv [] (round_for decl front t
          (read_need_of decl t.begun.epoch object inv))))).turn
      by true long = tells_asks replies.Doomed refl
      by false true = tells_asks replies.TooLong refl
      by false false = read_written front t object inv []
          (round_for decl front t (read_need_of decl t.begun.epoch object inv))
          (verdict (round_for decl front t (read_need_of decl t.begun.epoch object inv)))

  begins_written : (front : Front) (t : Option Transaction) → IsAsking (begins decl front t).turn
  begins_written front None = tells_asks (replies.Began (next_tx front)) refl
  begins_written front (Some t) = tells_asks (replies.Already t.begun.tx) refl

  commits_written : (front : Front) (t : Option Transaction) → IsAsking (fronts.commits front t).turn
  commits_written front None = tells_asks replies.NoTransaction refl
  commits_written front (Some t) = by t.begun.doomed
    where
      by : (doomed : Bool) → IsAsking (cond doomed (gives_up front t (replies.Aborted causes.Doomed))
          (front_moved front quiet)).turn
      by true = ends_asks t.begun Aborted (replies.Aborted causes.Doomed) refl
      by false = quiet_asks

  aborts_written : (front : Front) (t : Option Transaction) → IsAsking (aborts front t).turn
  aborts_written front None = tells_asks replies.NoTransaction refl
  aborts_written front (Some t) = ends_asks t.begun Aborted replies.Dropped refl

  pub command_written : (front : Front) (command : Command) → IsAsking (fronts.called decl front command).turn
  command_written front commands.Begin = begins_written front front.transaction
  command_written front (commands.Do object inv) = performs_written front front.transaction object inv
  command_written front commands.Commit = commits_written front front.transaction
  command_written front commands.Abort = aborts_written front front.transaction
  command_written front (commands.Epoch number) = quiet_asks

  pub takes_in_written : (front : Front) (doing : Doing) (t : Option Transaction) (number : ℕ) (answer : Option Answer)
      → IsAsking (fronts.takes_in decl front doing t number answer).turn
  takes_in_written front doing None number answer = quiet_asks
  takes_in_written front Idle (Some t) number answer = quiet_asks
  takes_in_written front (Reading object inv calls round) (Some t) number answer = by (site_called calls number)
    where
      by : (o : Option ℕ) → IsAsking (fronts.reading_takes decl front t object inv calls round number answer o).turn
      by None = quiet_asks
      by (Some site) = read_written (learns front answer) (read_with t site object answer) object inv
          (without_call calls number) (note round site (standing_of answer))
          (verdict (note round site (standing_of answer)))
  takes_in_written front (Appending object inv event calls round) (Some t) number answer = by (site_called calls number)
    where
      by : (o : Option ℕ) → IsAsking (fronts.appending_takes decl front t object inv event calls round number answer
          o).turn
      by None = quiet_asks
      by (Some site) = append_written (learns front answer) (appended_with t site answer) object inv event
          (without_call calls number) (note round site (standing_of answer))
          (verdict (note round site (standing_of answer)))
