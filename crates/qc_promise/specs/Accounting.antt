-- The account of a client's deeds.
use Rattle.std.specs.Prelude.{[], option_and_then, ℕ, ◌+◌, ◌-◌, ◌==◌, ◌&&◌, ◌||◌, not, max, if◌then◌else◌, Bool, true}
use Rattle.std.specs.Prelude.{false, List, ◌∷◌, ◌++◌, fold, length, map, is_none, Option, Some, None, option_map}
use Rattle.std.specs.Prelude.{is_some}
use Rattle.std.specs.Option.{option_map_or}
use Rattle.std.specs.List.{find}
use Rattle.qc_stamp.specs.declared.stamp.TxId.{TxId}
use Rattle.qc_entry.specs.declared.line.Line.{Line}
use Rattle.qc_decl.specs.declared.declaration.Declaration.{Declaration}
use Rattle.qc_msg.specs.declared.message.Answer.{Answer}
use Rattle.qc_msg.specs.declared.message.Message.{Message}
use Rattle.qc_msg.specs.declared.message.Want.{Want}
use Rattle.qc_msg.specs.declared.message.Want.TheVariants.{Read, Append, Prepare}
use Rattle.qc_msg.specs.declared.record.Record.{Record}
use Rattle.qc_msg.specs.declared.reply.Half.{Half}
use Rattle.qc_msg.specs.declared.reply.Half.TheVariants as halves
use Rattle.qc_msg.specs.declared.reply.Reply.{Reply}
use Rattle.qc_msg.specs.declared.step.Command.{Command}
use Rattle.qc_msg.specs.declared.step.Input.{Input}
use Rattle.qc_msg.specs.declared.step.Input.TheVariants as inputs
use Rattle.qc_msg.specs.Vocabulary.{Deed, Entry, Falls, Rises, Sends, Takes, Tells, Writes, deeds, with_life, Answered}
use Rattle.qc_msg.specs.Vocabulary.{Invocation, Requested, answer_in, closed_in, commit_of, do_in, granted_in}
use Rattle.qc_msg.specs.declared.payload.Grant.{Grant}
use Rattle.qc_msg.specs.Vocabulary.{is_life, promised_in, request_in, began_in, committed_in, short_in, response_in}
use Rattle.qc_msg.specs.Vocabulary.{is_end, is_refused}
use Rattle.qc_promise.specs.Account.{Account, Current, ClientRequest, account_with, is_append, new_account, new_current}
use Rattle.qc_promise.specs.Account.{requests_for}
use Rattle.qc_promise.specs.Asked.{is_asked_for}
use Rattle.qc_promise.specs.Rounds.{answer_of, next_own, resp_of}
use Rattle.qc_entry.specs.declared.record.Commit.{Commit}
use Rattle.qc_stamp.specs.declared.stamp.Stamp.{Stamp}

-- the begun transaction, if there is one, is changed
abbrev pub with_current : Account → (Current → Current) → Account
with_current d change = record d { current = option_map change d.current }

-- what an answer that counts tells: a grant the site's life, what it shows to a Read, and its clock (Lamport 1978); a
-- promise the site's clock; a closed epoch the next one

abbrev pub lived : Current → ℕ → ℕ → Current
lived t site life = record t { lives = with_life t.lives site life }

abbrev pub with_read : Current → ℕ → List Line → Current
with_read t object log =
    record t { read_grants = t.read_grants ++ record { object = object; log = log } ∷ [] }

abbrev pub granted : Account → ℕ → Grant → Want → Account
granted d site g (Read read) =
    with_current (record d { clock = max d.clock g.clock })
    (λ (t : Current). with_read (lived t site g.life) read.object g.log)
granted d site g (Append object view own) =
    with_current (record d { clock = max d.clock g.clock }) (λ (t : Current). lived t site g.life)
granted d site g Prepare = d

abbrev pub promised : Account → ℕ → Want → Account
promised d clock (Read read) = d
promised d clock (Append object view own) = d
promised d clock Prepare = record d { clock = max d.clock clock }

abbrev pub told_by : Account → ClientRequest → Option Answer → Account
told_by d q answer =
    option_map_or (λ (g : Grant). granted d q.site g q.want) (option_and_then granted_in answer)
    (option_map_or (λ (epoch : ℕ). record d { known = max d.known epoch }) (option_and_then closed_in answer)
    (option_map_or (λ (clock : ℕ). promised d clock q.want) (option_and_then promised_in answer) d))

-- the first thing that is taken for a request of the running command counts; all else changes nothing

abbrev pub is_open : ℕ → ClientRequest → Bool
is_open number q = (q.number == number) && is_none q.taken

abbrev pub taken_for : ℕ → Option Answer → List ClientRequest → List ClientRequest
taken_for number answer qs =
    map (λ (q : ClientRequest). if is_open number q then record q { taken = Some answer } else q) qs

abbrev pub counted_for : Account → ℕ → Option Answer → Option ClientRequest → Account
counted_for d number answer None = d
counted_for d number answer (Some q) =
    told_by (record d { requests = taken_for number answer d.requests }) q answer

abbrev pub counted : Account → ℕ → Option Answer → Account
counted d number answer = counted_for d number answer (find (is_open number) d.requests)

abbrev pub account_heard : Account → Message → Account
account_heard d message = option_map_or (λ (a : Answered). counted d a.to (Some a.answer)) (answer_in message) d

abbrev pub account_taken : Account → Input → Account
account_taken d (inputs.Called command) = record d { command = Some command; requests = []; written = None }
account_taken d (inputs.Got envelope) = account_heard d envelope.message
account_taken d (inputs.Lost number) = counted d number None

-- a record: a commit, or that of its rise

abbrev pub account_written : Account → Record → Account
account_written d r =
    if is_life r then record d { life = d.life + 1 } else option_map_or
    (λ (commit : Commit). record d { written = Some commit }) (commit_of r) d

-- a request, where the running command asks for it

abbrev pub requested : Declaration → Account → ℕ → ℕ → TxId → ℕ → ℕ → Want → Account
requested decl d number site tx epoch life want =
    if is_asked_for decl d site tx epoch life want
    then record d {
      requests = d.requests
          ++ record { number = number; site = site; life = life; want = want; taken = None } ∷ [];
    }
    else d

abbrev pub account_sent : Declaration → Account → ℕ → ℕ → Message → Account
account_sent decl d number to message =
    option_map_or (λ (q : Requested). requested decl d number to q.tx q.epoch q.life q.want) (request_in message) d

-- a reply: an operation is recorded, with an own line where it has a response

abbrev pub with_absent : Current → ℕ → ℕ → Current
with_absent t object inv = record t { ops = t.ops ++ record { object = object; inv = inv; resp = None } ∷ [] }

abbrev pub with_response : Declaration → Current → ℕ → ℕ → Option ℕ → Current
with_response decl t object inv None = t
with_response decl t object inv (Some event) =
    record t {
      ops = t.ops ++ record { object = object; inv = inv; resp = Some (resp_of decl object event) } ∷ [];
      own = t.own ++ next_own t object event ∷ [];
    }

abbrev pub responded : Declaration → Account → Option Command → Account
responded decl d command =
    option_map_or (λ (i : Invocation). with_current d
    (λ (t : Current). with_response decl t i.object i.inv (answer_of decl t i.object i.inv)))
    (option_and_then do_in command) d

abbrev pub found_absent : Account → Option Command → Account
found_absent d command =
    option_map_or (λ (i : Invocation). with_current d (λ (t : Current). with_absent t i.object i.inv))
    (option_and_then do_in command) d

-- a `do` that is refused while appending dooms its transaction: one that asked for an Append, or whose append half is
-- told

abbrev pub doomed_if : Bool → Current → Current
doomed_if appending t = record t { doomed = t.doomed || appending }

abbrev pub refused : Account → Account
refused d = with_current d (doomed_if (not (length (requests_for is_append d) == 0)))

abbrev pub short_of : Account → Half → Account
short_of d halves.Read = d
short_of d halves.Append = with_current d (doomed_if true)
short_of d halves.Close = d

abbrev pub begun : Account → TxId → Account
begun d tx = record d { count = d.count + 1; current = Some (new_current tx d.known) }

abbrev pub ended : Account → Account
ended d = record d { current = None }

abbrev pub account_told_in : Declaration → Account → Reply → Account
account_told_in decl d reply =
    option_map_or (begun d) (began_in reply)
    (option_map_or (λ (stamp : Stamp). record (ended d) { clock = stamp.clock }) (committed_in reply)
    (option_map_or (short_of d) (short_in reply)
    (option_map_or (λ (resp : Option ℕ). if is_some resp then responded decl d d.command else found_absent d d.command)
    (response_in reply)
    (if is_end reply then ended d else if is_refused reply then refused d else d))))

-- it ends its command
abbrev pub account_told : Declaration → Account → Reply → Account
account_told decl d reply = record (account_told_in decl d reply) { command = None; requests = []; written = None }

-- a fall ends what it was doing
abbrev pub account_fallen : Account → Account
account_fallen d = record d { up = false; command = None; requests = []; written = None; current = None }

-- one deed more; as it rises, the account begins anew with its records
abbrev pub account_at : Declaration → Account → Deed → Account
account_at decl d (Takes given) = account_taken d given
account_at decl d (Writes written) = account_written d written
account_at decl d (Sends number to message) = account_sent decl d number to message
account_at decl d (Tells reply) = account_told decl d reply
account_at decl d (Falls cause pending) = account_fallen d
account_at decl d (Rises kept) = account_with d.client kept

-- the account of a client's deeds; in a history, by its actor, whose number without the sites is the client's

abbrev pub account_of : Declaration → ℕ → List Deed → Account
account_of decl client ds = fold (account_at decl) (new_account client) ds

abbrev pub account : Declaration → ℕ → List Entry → Account
account decl a h = account_of decl (a - decl.sites) (deeds a [] h)
