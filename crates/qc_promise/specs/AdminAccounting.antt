-- The administrator's account as his deeds change it.
use Rattle.std.specs.Prelude.{ℕ, ◌+◌, ◌==◌, ◌&&◌, nat_lt, if◌then◌else◌, Bool, false, List, [], ◌∷◌, ◌++◌, fold}
use Rattle.std.specs.Prelude.{length, map, slice_get, Option, Some, None, is_none, option_and_then}
use Rattle.std.specs.Option.{option_map_or, option_or}
use Rattle.std.specs.Cmp.Lexicographic.{pointwise}
use Rattle.qc_stamp.specs.declared.stamp.TxId.{TxId}
use Rattle.qc_stamp.specs.Vocabulary.{same_tx}
use Rattle.qc_plan.specs.Vocabulary.{next_site, verdict}
use Rattle.qc_decl.specs.declared.declaration.Declaration.{Declaration}
use Rattle.qc_decl.specs.Vocabulary.{client_actor}
use Rattle.qc_msg.specs.declared.message.Answer.{Answer}
use Rattle.qc_msg.specs.declared.message.Message.{Message}
use Rattle.qc_msg.specs.declared.record.Record.{Record}
use Rattle.qc_msg.specs.declared.step.Input.{Input}
use Rattle.qc_msg.specs.declared.step.Input.TheVariants as inputs
use Rattle.qc_msg.specs.Vocabulary.{Answered, Deed, Falls, Rises, Sends, Takes, Tells, Writes, answer_in}
use Rattle.qc_msg.specs.declared.payload.EpochStart.{EpochStart}
use Rattle.qc_msg.specs.Vocabulary.{asking_in, closing_in, decide_in, epoch_in, installing_in}
use Rattle.qc_promise.specs.AdminAccount.{AdminAccount, AdminRequest, AdminWant, Ask, Close, Install, asks}
use Rattle.qc_promise.specs.AdminAccount.{decided_epoch, installs, new_admin_account}
use Rattle.qc_promise.specs.AdminRounds.{Promised, close_round, most_questions, promised_once}
use Rattle.qc_promise.specs.Asked.{is_met, is_this, same_line}

-- the first thing that is taken for a request counts

abbrev pub taken_for : ℕ → Option Answer → AdminRequest → AdminRequest
taken_for number answer q =
    if (q.number == number) && is_none q.taken then record q { taken = Some answer } else q

abbrev pub admin_counted : AdminAccount → ℕ → Option Answer → AdminAccount
admin_counted d number answer = record d { requests = map (taken_for number answer) d.requests }

abbrev pub admin_heard : AdminAccount → Message → AdminAccount
admin_heard d message =
    option_map_or (λ (a : Answered). admin_counted d a.to (Some a.answer)) (answer_in message) d

abbrev pub admin_taken : AdminAccount → Input → AdminAccount
admin_taken d (inputs.Called command) = record d { command = Some command; requests = []; written = None }
admin_taken d (inputs.Got envelope) = admin_heard d envelope.message
admin_taken d (inputs.Lost number) = admin_counted d number None

abbrev pub admin_written : AdminAccount → Record → AdminAccount
admin_written d r = option_map_or (λ (i : EpochStart). record d { written = Some i }) (decide_in r) d

-- A request counts where the command calls for it next: a Close for the next epoch, of the site that the round asks
-- next; an Ask about the next of the promised transactions, of its client, once the round is met; an Install of what is
-- decided, of the next site.

abbrev pub commanded : AdminAccount → Option ℕ
commanded d = option_and_then epoch_in d.command

abbrev pub is_moving : AdminAccount → Bool
is_moving d = is_this (decided_epoch d + 1) (commanded d)

abbrev pub calls_close : Declaration → AdminAccount → ℕ → ℕ → Bool
calls_close decl d to epoch =
    is_moving d && ((epoch == decided_epoch d + 1) && is_this to (next_site (close_round decl d)))

abbrev pub is_next_question : Declaration → AdminAccount → ℕ → TxId → Bool
is_next_question decl d to tx =
    option_map_or (λ (p : Promised). same_tx p.tx tx) (slice_get (promised_once d) (length (asks d))) false
    && (to == client_actor decl tx.client)

abbrev pub calls_ask : Declaration → AdminAccount → ℕ → TxId → Bool
calls_ask decl d to tx =
    is_moving d
    && (is_met (verdict (close_round decl d))
    && (nat_lt (length (asks d)) most_questions && is_next_question decl d to tx))

-- what is decided: in this command, or before it
abbrev pub decided_now : AdminAccount → Option EpochStart
decided_now d = option_or d.written d.decided

abbrev pub is_same_start : EpochStart → EpochStart → Bool
is_same_start a b =
    (a.epoch == b.epoch) && ((a.clock == b.clock) && pointwise same_line a.lines b.lines)

abbrev pub calls_install : AdminAccount → ℕ → EpochStart → Bool
calls_install d to i =
    is_this i.epoch (commanded d)
    && ((to == length (installs d)) && option_map_or (is_same_start i) (decided_now d) false)

abbrev pub admin_requested : AdminAccount → ℕ → ℕ → AdminWant → AdminAccount
admin_requested d number to want =
    record d { requests = d.requests ++ record { number = number; to = to; want = want; taken = None } ∷ [] }

abbrev pub if_called_for : Bool → AdminAccount → ℕ → ℕ → AdminWant → AdminAccount
if_called_for counts d number to want = if counts then admin_requested d number to want else d

abbrev pub admin_sent : Declaration → AdminAccount → ℕ → ℕ → Message → AdminAccount
admin_sent decl d number to message =
    option_map_or (λ (k : ℕ). if_called_for (calls_close decl d to k) d number to Close) (closing_in message)
    (option_map_or (λ (tx : TxId). if_called_for (calls_ask decl d to tx) d number to (Ask tx)) (asking_in message)
    (option_map_or (λ (i : EpochStart). if_called_for (calls_install d to i) d number to Install)
    (installing_in message) d))

-- a reply ends its command, and a fall ends it without one: what was written stands

abbrev pub admin_ended : AdminAccount → AdminAccount
admin_ended d = record d { decided = decided_now d; command = None; requests = []; written = None }

-- as he rises the account begins anew with the last decision of his records

abbrev pub last_decided : List Record → Option EpochStart
last_decided rs = fold (λ (last : Option EpochStart) (r : Record). option_or (decide_in r) last) None rs

abbrev pub admin_account_with : List Record → AdminAccount
admin_account_with rs = record new_admin_account { decided = last_decided rs }

abbrev pub admin_account_at : Declaration → AdminAccount → Deed → AdminAccount
admin_account_at decl d (Takes given) = admin_taken d given
admin_account_at decl d (Writes written) = admin_written d written
admin_account_at decl d (Sends number to message) = admin_sent decl d number to message
admin_account_at decl d (Tells reply) = admin_ended d
admin_account_at decl d (Falls cause pending) = record (admin_ended d) { up = false }
admin_account_at decl d (Rises kept) = admin_account_with kept

abbrev pub admin_account : Declaration → List Deed → AdminAccount
admin_account decl ds = fold (admin_account_at decl) new_admin_account ds
