-- Which requests are the running command's: they ask what the command calls for of the site that is next.
use Rattle.std.specs.Prelude.{ℕ, ◌==◌, ◌&&◌, nat_lt, Bool, true, false, List, [], ◌∷◌, ◌++◌, filter, length, slice_get}
use Rattle.std.specs.Prelude.{Option, Some, None}
use Rattle.std.specs.Option.{option_map_or}
use Rattle.std.specs.Ordering.{is_eq}
use Rattle.std.specs.Cmp.Lexicographic.{pointwise}
use Rattle.qc_stamp.specs.declared.stamp.TxId.{TxId}
use Rattle.qc_stamp.specs.Vocabulary.{same_tx}
use Rattle.qc_entry.specs.declared.line.Line.{Line}
use Rattle.qc_entry.specs.declared.line.OwnLine.{OwnLine}
use Rattle.qc_entry.specs.declared.mark.Mark.{Mark}
use Rattle.qc_entry.specs.Vocabulary.{line_cmp, no_mark}
use Rattle.qc_plan.specs.Vocabulary.{next_site, verdict}
use Rattle.qc_plan.specs.declared.standing.Verdict.{Verdict}
use Rattle.qc_plan.specs.declared.standing.Verdict.TheVariants as verdicts
use Rattle.qc_decl.specs.Vocabulary.{append_need_of, read_need_of}
use Rattle.qc_decl.specs.declared.declaration.Declaration.{Declaration}
use Rattle.qc_msg.specs.declared.message.Want.{Want}
use Rattle.qc_msg.specs.declared.message.Want.TheVariants.{Read, Append, Prepare}
use Rattle.qc_msg.specs.declared.payload.ReadRequest.{ReadRequest}
use Rattle.qc_msg.specs.declared.step.Command.{Command}
use Rattle.qc_msg.specs.declared.step.Command.TheVariants.{Begin, Do, Commit, Abort, Epoch}
use Rattle.qc_msg.specs.Vocabulary.{life_of}
use Rattle.qc_promise.specs.Account.{Account, Current, is_append, is_prepare, is_read, requests_for, view_of}
use Rattle.qc_promise.specs.Rounds.{answer_of, next_own, participants, round_of}

-- whether a site is the next one in the client's order that a half asks, while it wants one; or that is asked for its
-- promise

abbrev pub is_this : ℕ → Option ℕ → Bool
is_this site next = option_map_or (λ s. s == site) next false

abbrev pub is_next_voter : Declaration → Account → Current → (Want → Bool) → ℕ → ℕ → Bool
is_next_voter decl d t half need site = is_this site (next_site (round_of decl d t half need))

abbrev pub is_next_participant : Declaration → Account → Current → ℕ → Bool
is_next_participant decl d t site =
    is_this site (slice_get (participants decl d t) (length (requests_for is_prepare d)))

-- whether the Reads of the running `do` are met

abbrev pub is_met : Verdict → Bool
is_met verdicts.Waiting = false
is_met verdicts.Met = true
is_met (verdicts.Closed epoch site) = false
is_met (verdicts.Clash tx site) = false
is_met (verdicts.Short got need) = false

abbrev pub are_reads_met : Declaration → Account → Current → ℕ → ℕ → Bool
are_reads_met decl d t object inv =
    is_met (verdict (round_of decl d t is_read (read_need_of decl t.epoch object inv)))

-- an Append carries the object's view, and the own lines there whose events need weight to append, this operation's
-- last

abbrev pub weighs : Declaration → ℕ → ℕ → OwnLine → Bool
weighs decl epoch object l = (l.object == object) && nat_lt 0 (append_need_of decl epoch object l.event)

abbrev pub own_appended : Declaration → Current → ℕ → ℕ → List OwnLine
own_appended decl t object event = filter (weighs decl t.epoch object) t.own ++ next_own t object event ∷ []

abbrev pub same_line : Line → Line → Bool
same_line a b = is_eq (line_cmp a b)

abbrev pub same_own : OwnLine → OwnLine → Bool
same_own a b = (a.op == b.op) && ((a.object == b.object) && (a.event == b.event))

abbrev pub carries : Declaration → Current → ℕ → List Line → List OwnLine → Option ℕ → Bool
carries decl t object view own None = false
carries decl t object view own (Some event) =
    pointwise same_line view (view_of t object) && pointwise same_own own (own_appended decl t object event)

-- a Read of this invocation, by a client that keeps this mark
abbrev pub same_mark : Mark → Mark → Bool
same_mark a b = (a.life == b.life) && ((a.epoch == b.epoch) && (a.count == b.count))

abbrev pub reads_as : ℕ → ℕ → Mark → ReadRequest → Bool
reads_as object inv mark r = (r.object == object) && ((r.inv == inv) && same_mark r.mark mark)

-- the weight that the event that answers has to have to append
abbrev pub append_need : Declaration → Current → ℕ → ℕ → ℕ
append_need decl t object inv = option_map_or (append_need_of decl t.epoch object) (answer_of decl t object inv) 0

-- whether a `do` of this invocation asks this of this site: Reads of the invocation; once they are met, Appends

abbrev pub do_asks : Declaration → Account → Current → ℕ → ℕ → ℕ → Want → Bool
do_asks decl d t object inv site (Read read) =
    reads_as object inv no_mark read
    && (is_next_voter decl d t is_read (read_need_of decl t.epoch object inv) site
    && (length (requests_for is_append d) == 0))
do_asks decl d t object inv site (Append o view own) =
    ((o == object) && carries decl t object view own (answer_of decl t object inv))
    && (is_next_voter decl d t is_append (append_need decl t object inv) site && are_reads_met decl d t object inv)
do_asks decl d t object inv site Prepare = false

-- whether a commit does: for the promises of the participants

abbrev pub commit_asks : Declaration → Account → Current → ℕ → Want → Bool
commit_asks decl d t site (Read read) = false
commit_asks decl d t site (Append object view own) = false
commit_asks decl d t site Prepare = is_next_participant decl d t site

abbrev pub command_asks : Declaration → Account → Current → ℕ → Want → Option Command → Bool
command_asks decl d t site want None = false
command_asks decl d t site want (Some Begin) = false
command_asks decl d t site want (Some (Do object inv)) = do_asks decl d t object inv site want
command_asks decl d t site want (Some Commit) = commit_asks decl d t site want
command_asks decl d t site want (Some Abort) = false
command_asks decl d t site want (Some (Epoch number)) = false

-- for the transaction, in its epoch, naming the life in which the site first granted it something
abbrev pub is_of : Current → ℕ → TxId → ℕ → ℕ → Bool
is_of t site tx epoch life = same_tx t.tx tx && ((epoch == t.epoch) && (life == life_of t.lives site))

abbrev pub is_asked_for : Declaration → Account → ℕ → TxId → ℕ → ℕ → Want → Bool
is_asked_for decl d site tx epoch life want =
    option_map_or (λ (t : Current). is_of t site tx epoch life && command_asks decl d t site want d.command) d.current
    false
