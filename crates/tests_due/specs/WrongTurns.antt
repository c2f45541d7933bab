-- Wrong histories without falls: actors that don't go by turns.
use Rattle.std.specs.Prelude.{List, [], ◌∷◌}
use Rattle.qc_msg.specs.declared.message.Answer.TheVariants as answers
use Rattle.qc_msg.specs.declared.message.Message.TheVariants as messages
use Rattle.qc_msg.specs.declared.record.Record.TheVariants as records
use Rattle.qc_msg.specs.declared.reply.Reply.TheVariants as replies
use Rattle.qc_msg.specs.declared.step.Command.TheVariants as commands
use Rattle.qc_msg.specs.declared.step.Step.TheVariants.{Phase, Called, Got, Wrote, Sent, Told}
use Rattle.qc_msg.specs.Vocabulary.{Entry, marked}
use Rattle.tests_histories.specs.Words.{tx}
use Rattle.tests_due.specs.Orders.{asks, committed, decides, grants, promise}

-- A site posts though nothing came.
abbrev pub posts_before_an_input : List Entry
posts_before_an_input =
    marked 7 (Phase 1) ∷ marked 0 (Sent 0 3 (grants 0)) ∷ []

-- A site tells its promise, and then writes it.
abbrev pub record_after_its_message : List Entry
record_after_its_message =
    marked 7 (Phase 1) ∷ marked 3 (Called (commands.Do 0 0)) ∷ marked 3 (Sent 0 0 asks) ∷ marked 0 (Got 0) ∷
    marked 0 (Sent 1 3 (messages.Answer 0 (answers.Yes 0))) ∷ marked 0 (Wrote promise) ∷ []

-- A client decides, and then writes that it committed.
abbrev pub record_after_its_decision : List Entry
record_after_its_decision =
    marked 7 (Phase 1) ∷ marked 3 (Called commands.Commit) ∷ marked 3 (Sent 0 0 decides) ∷
    marked 3 (Wrote committed) ∷ []

-- A site writes two records for one input.
abbrev pub two_records : List Entry
two_records =
    marked 7 (Phase 1) ∷ marked 3 (Called (commands.Do 0 0)) ∷ marked 3 (Sent 0 0 asks) ∷ marked 0 (Got 0) ∷
    marked 0 (Wrote promise) ∷ marked 0 (Wrote promise) ∷ []

-- A site writes that it rose, and did not.
abbrev pub life_unrisen : List Entry
life_unrisen =
    marked 7 (Phase 1) ∷ marked 3 (Called (commands.Do 0 0)) ∷ marked 3 (Sent 0 0 asks) ∷ marked 0 (Got 0) ∷
    marked 0 (Wrote records.Life) ∷ []

-- A client tells a reply twice.
abbrev pub reply_twice : List Entry
reply_twice =
    marked 7 (Phase 1) ∷ marked 3 (Called commands.Begin) ∷ marked 3 (Told (replies.Began (tx 0 1))) ∷
    marked 3 (Told (replies.Began (tx 0 1))) ∷ []

-- A client sends once its reply is told.
abbrev pub posts_after_its_reply : List Entry
posts_after_its_reply =
    marked 7 (Phase 1) ∷ marked 3 (Called (commands.Do 0 0)) ∷ marked 3 (Told replies.Absent) ∷
    marked 3 (Sent 0 0 asks) ∷ []

-- A client is told Unknown, and goes on.
abbrev pub unknown_without_a_fall : List Entry
unknown_without_a_fall =
    marked 7 (Phase 1) ∷ marked 3 (Called commands.Commit) ∷ marked 3 (Told replies.Unknown) ∷
    marked 3 (Called commands.Begin) ∷ []

-- One is told Fault, and goes on.
abbrev pub fault_without_a_fall : List Entry
fault_without_a_fall =
    marked 7 (Phase 1) ∷ marked 3 (Called commands.Commit) ∷ marked 3 (Told replies.Fault) ∷
    marked 3 (Called commands.Begin) ∷ []

-- The administrator is told Fault, and sends something in the same turn.
abbrev pub posts_after_a_fault : List Entry
posts_after_a_fault =
    marked 7 (Phase 1) ∷ marked 6 (Called (commands.Epoch 2)) ∷ marked 6 (Told replies.Fault) ∷
    marked 6 (Sent 0 0 (messages.Close 2)) ∷ []

-- A client that is up tells that it is down.
abbrev pub down_while_up : List Entry
down_while_up =
    marked 7 (Phase 1) ∷ marked 3 (Called commands.Commit) ∷ marked 3 (Told replies.Down) ∷ []

-- A command comes to a site.
abbrev pub site_is_commanded : List Entry
site_is_commanded =
    marked 7 (Phase 1) ∷ marked 0 (Called commands.Begin) ∷ []

-- A site tells a reply.
abbrev pub site_tells_a_reply : List Entry
site_tells_a_reply =
    marked 7 (Phase 1) ∷ marked 3 (Called (commands.Do 0 0)) ∷ marked 3 (Sent 0 0 asks) ∷ marked 0 (Got 0) ∷
    marked 0 (Told replies.Absent) ∷ []
