-- Wrong histories with falls and rises: actors that don't go by turns.
use Rattle.std.specs.Prelude.{List, [], ◌∷◌, Some, None}
use Rattle.qc_msg.specs.declared.message.Answer.TheVariants as answers
use Rattle.qc_msg.specs.declared.message.Message.TheVariants as messages
use Rattle.qc_msg.specs.declared.record.Record.TheVariants as records
use Rattle.qc_msg.specs.declared.reply.Reply.TheVariants as replies
use Rattle.qc_msg.specs.declared.step.Command.TheVariants as commands
use Rattle.qc_msg.specs.declared.step.Fall.TheVariants as causes
use Rattle.qc_msg.specs.declared.step.Step.TheVariants.{Phase, Called, Got, Lost, Wrote, Sent, Told, Fell, Rose}
use Rattle.qc_msg.specs.Vocabulary.{Entry, marked}
use Rattle.tests_histories.specs.Words.{stamp, tx}
use Rattle.tests_due.specs.Orders.{asks, committed, decides, grants, promise}

-- A site that is down takes a message.
abbrev pub takes_while_down : List Entry
takes_while_down =
    marked 7 (Phase 1) ∷ marked 3 (Called (commands.Do 0 0)) ∷ marked 3 (Sent 0 0 asks) ∷
    marked 0 (Fell causes.Script None) ∷ marked 0 (Got 0) ∷ []

-- A client that is down takes a request as lost.
abbrev pub loses_while_down : List Entry
loses_while_down =
    marked 7 (Phase 1) ∷ marked 3 (Called (commands.Do 0 0)) ∷ marked 3 (Sent 0 0 asks) ∷
    marked 3 (Fell causes.Script None) ∷ marked 3 (Lost 0) ∷ []

-- A site that is down writes.
abbrev pub writes_while_down : List Entry
writes_while_down =
    marked 7 (Phase 1) ∷ marked 3 (Called (commands.Do 0 0)) ∷ marked 3 (Sent 0 0 asks) ∷
    marked 0 (Fell causes.Script None) ∷ marked 0 (Wrote promise) ∷ []

-- A site that is down sends.
abbrev pub sends_while_down : List Entry
sends_while_down =
    marked 7 (Phase 1) ∷ marked 3 (Called (commands.Do 0 0)) ∷ marked 3 (Sent 0 0 asks) ∷
    marked 0 (Fell causes.Script None) ∷ marked 0 (Sent 1 3 (grants 0)) ∷ []

-- A client that is down tells that, and nothing was called.
abbrev pub tells_while_down : List Entry
tells_while_down =
    marked 7 (Phase 1) ∷ marked 3 (Called commands.Commit) ∷ marked 3 (Fell causes.Script None) ∷
    marked 3 (Told replies.Down) ∷ []

-- A client that is down begins a transaction.
abbrev pub begins_while_down : List Entry
begins_while_down =
    marked 7 (Phase 1) ∷ marked 3 (Fell causes.Script None) ∷ marked 3 (Called commands.Begin) ∷
    marked 3 (Told (replies.Began (tx 0 1))) ∷ []

-- A site falls with another record once its own is written.
abbrev pub falls_within_its_post : List Entry
falls_within_its_post =
    marked 7 (Phase 1) ∷ marked 3 (Called (commands.Do 0 0)) ∷ marked 3 (Sent 0 0 asks) ∷ marked 0 (Got 0) ∷
    marked 0 (Wrote promise) ∷ marked 0 (Fell causes.Disk (Some promise)) ∷ []

-- The disk of a site stops, and the site sent something for it.
abbrev pub stops_once_it_sent : List Entry
stops_once_it_sent =
    marked 7 (Phase 1) ∷ marked 3 (Called (commands.Do 0 0)) ∷ marked 3 (Sent 0 0 asks) ∷ marked 0 (Got 0) ∷
    marked 0 (Sent 1 3 (messages.Answer 0 answers.Fault)) ∷ marked 0 (Fell causes.Stop (Some promise)) ∷ []

-- A client falls as it writes, and told nothing.
abbrev pub falls_untold : List Entry
falls_untold =
    marked 7 (Phase 1) ∷ marked 3 (Called commands.Commit) ∷ marked 3 (Fell causes.Stop (Some committed)) ∷ []

-- A client tells that it committed, and falls as it writes that.
abbrev pub falls_though_committed : List Entry
falls_though_committed =
    marked 7 (Phase 1) ∷ marked 3 (Called commands.Commit) ∷ marked 3 (Told (replies.Committed (stamp 1 0))) ∷
    marked 3 (Fell causes.Disk (Some committed)) ∷ []

-- The disk of a site fails, and it had nothing to write.
abbrev pub falls_with_nothing_to_write : List Entry
falls_with_nothing_to_write =
    marked 7 (Phase 1) ∷ marked 3 (Called (commands.Do 0 0)) ∷ marked 3 (Sent 0 0 asks) ∷ marked 0 (Got 0) ∷
    marked 0 (Fell causes.Disk None) ∷ []

-- The disk of a site fails as it writes that it rose, and it did not.
abbrev pub falls_with_a_rise : List Entry
falls_with_a_rise =
    marked 7 (Phase 1) ∷ marked 3 (Called (commands.Do 0 0)) ∷ marked 3 (Sent 0 0 asks) ∷ marked 0 (Got 0) ∷
    marked 0 (Fell causes.Disk (Some records.Life)) ∷ []

-- A line of the script crashes a site, and a record is pending.
abbrev pub crashes_with_a_record : List Entry
crashes_with_a_record =
    marked 7 (Phase 1) ∷ marked 3 (Called (commands.Do 0 0)) ∷ marked 3 (Sent 0 0 asks) ∷ marked 0 (Got 0) ∷
    marked 0 (Fell causes.Script (Some promise)) ∷ []

-- A line of the script crashes a site that is down.
abbrev pub crashes_while_down : List Entry
crashes_while_down =
    marked 7 (Phase 1) ∷ marked 3 (Called (commands.Do 0 0)) ∷ marked 3 (Sent 0 0 asks) ∷
    marked 0 (Fell causes.Script None) ∷ marked 0 (Fell causes.Script None) ∷ []

-- A site rises that is up.
abbrev pub rises_while_up : List Entry
rises_while_up =
    marked 7 (Phase 1) ∷ marked 0 (Rose []) ∷ []

-- A client rises while a command is called.
abbrev pub rises_once_called : List Entry
rises_once_called =
    marked 7 (Phase 1) ∷ marked 3 (Fell causes.Script None) ∷ marked 3 (Called commands.Begin) ∷ marked 3 (Rose []) ∷
    []

-- A site that rises writes so twice.
abbrev pub life_twice : List Entry
life_twice =
    marked 7 (Phase 1) ∷ marked 3 (Called (commands.Do 0 0)) ∷ marked 3 (Sent 0 0 asks) ∷
    marked 0 (Fell causes.Script None) ∷ marked 0 (Rose []) ∷ marked 0 (Wrote records.Life) ∷
    marked 0 (Wrote records.Life) ∷ []

-- A site that rises asks, and wrote nothing.
abbrev pub life_never : List Entry
life_never =
    marked 7 (Phase 1) ∷ marked 3 (Called (commands.Do 0 0)) ∷ marked 3 (Sent 0 0 asks) ∷
    marked 0 (Fell causes.Script None) ∷ marked 0 (Rose []) ∷ marked 0 (Sent 1 3 (messages.Inquiry (tx 0 1))) ∷ []

-- A site that rises writes a promise.
abbrev pub rises_with_another_record : List Entry
rises_with_another_record =
    marked 7 (Phase 1) ∷ marked 3 (Called (commands.Do 0 0)) ∷ marked 3 (Sent 0 0 asks) ∷
    marked 0 (Fell causes.Script None) ∷ marked 0 (Rose []) ∷ marked 0 (Wrote promise) ∷ []

-- A client decides, tells Unknown and falls.
abbrev pub unknown_after_a_message : List Entry
unknown_after_a_message =
    marked 7 (Phase 1) ∷ marked 3 (Called commands.Commit) ∷ marked 3 (Sent 0 0 decides) ∷
    marked 3 (Told replies.Unknown) ∷ marked 3 (Fell causes.Stop (Some committed)) ∷ []

-- A client writes that it committed, and tells Unknown.
abbrev pub unknown_after_a_record : List Entry
unknown_after_a_record =
    marked 7 (Phase 1) ∷ marked 3 (Called commands.Commit) ∷ marked 3 (Wrote committed) ∷
    marked 3 (Told replies.Unknown) ∷ []
