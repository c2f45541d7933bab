-- Wrong histories: rounds of Reads that no site, or too few, answered.
use Rattle.std.specs.Prelude.{List, [], ◌∷◌}
use Rattle.qc_msg.specs.Vocabulary.{Entry, marked}
use Rattle.tests_histories.specs.Words.{tx, own_line}
use Rattle.qc_msg.specs.declared.step.Step.TheVariants.{Phase, Cut, Called, Got, Lost, Sent, Told}
use Rattle.qc_msg.specs.declared.message.Answer.TheVariants as answers
use Rattle.qc_msg.specs.declared.step.Command.TheVariants as commands
use Rattle.qc_msg.specs.declared.reply.Half.TheVariants as halves
use Rattle.qc_msg.specs.declared.message.Message.TheVariants as messages
use Rattle.qc_msg.specs.declared.message.Outcome.TheVariants as outcomes
use Rattle.qc_msg.specs.declared.reply.Reply.TheVariants as replies
use Rattle.qc_msg.specs.declared.message.Want.TheVariants as wants
use Rattle.qc_msg.specs.Vocabulary.{whole_grant, first_read}

-- A right response is told, and no site was asked.
abbrev pub unasked : List Entry
unasked =
    marked 7 (Phase 1) ∷ marked 3 (Called commands.Begin) ∷ marked 3 (Told (replies.Began (tx 0 1))) ∷
    marked 3 (Called (commands.Do 0 0)) ∷ marked 3 (Told (replies.Response 0)) ∷ []

-- Each `do` is told Conflict.
abbrev pub each_conflicts : List Entry
each_conflicts =
    marked 7 (Phase 1) ∷ marked 3 (Called commands.Begin) ∷ marked 3 (Told (replies.Began (tx 0 1))) ∷
    marked 3 (Called (commands.Do 0 0)) ∷ marked 3 (Told (replies.Conflict (tx 1 1) 0)) ∷
    marked 3 (Called (commands.Do 0 0)) ∷ marked 3 (Told (replies.Conflict (tx 1 1) 0)) ∷ []

-- Each `do` is told that its quorum is short.
abbrev pub each_short : List Entry
each_short =
    marked 7 (Phase 1) ∷ marked 3 (Called commands.Begin) ∷ marked 3 (Told (replies.Began (tx 0 1))) ∷
    marked 3 (Called (commands.Do 0 0)) ∷ marked 3 (Told (replies.Quorum halves.Read 0 2)) ∷
    marked 3 (Called (commands.Do 0 0)) ∷ marked 3 (Told (replies.Quorum halves.Read 0 2)) ∷ []

-- One grant is counted for a weight of two.
abbrev pub one_grant : List Entry
one_grant =
    marked 7 (Phase 1) ∷ marked 3 (Called commands.Begin) ∷ marked 3 (Told (replies.Began (tx 0 1))) ∷
    marked 3 (Called (commands.Do 0 0)) ∷
    marked 3 (Sent 0 0 (messages.Request (tx 0 1) 1 0 (wants.Read (first_read 0 0))))
    ∷
    marked 0 (Got 0) ∷ marked 0 (Sent 1 3 (messages.Answer 0 (answers.Granted (whole_grant 1 0 [])))) ∷ marked 3 (Got 1)
    ∷
    marked 3 (Told (replies.Response 0)) ∷ []

-- Two grants of one site are counted for two sites.
abbrev pub one_site_twice : List Entry
one_site_twice =
    marked 7 (Phase 1) ∷ marked 3 (Called commands.Begin) ∷ marked 3 (Told (replies.Began (tx 0 1))) ∷
    marked 3 (Called (commands.Do 0 0)) ∷
    marked 3 (Sent 0 0 (messages.Request (tx 0 1) 1 0 (wants.Read (first_read 0 0))))
    ∷
    marked 3 (Sent 1 0 (messages.Request (tx 0 1) 1 0 (wants.Read (first_read 0 0)))) ∷ marked 0 (Got 0) ∷
    marked 0 (Sent 2 3 (messages.Answer 0 (answers.Granted (whole_grant 1 0 [])))) ∷ marked 0 (Got 1) ∷
    marked 0 (Sent 3 3 (messages.Answer 1 (answers.Granted (whole_grant 1 0 [])))) ∷ marked 3 (Got 2) ∷ marked 3 (Got 3)
    ∷
    marked 3 (Told (replies.Response 0)) ∷ []

-- Another invocation was read for.
abbrev pub another_invocation : List Entry
another_invocation =
    marked 7 (Phase 1) ∷ marked 3 (Called commands.Begin) ∷ marked 3 (Told (replies.Began (tx 0 1))) ∷
    marked 3 (Called (commands.Do 0 0)) ∷
    marked 3 (Sent 0 0 (messages.Request (tx 0 1) 1 0 (wants.Read (first_read 0 1))))
    ∷
    marked 3 (Sent 1 1 (messages.Request (tx 0 1) 1 0 (wants.Read (first_read 0 1)))) ∷ marked 0 (Got 0) ∷
    marked 0 (Sent 2 3 (messages.Answer 0 (answers.Granted (whole_grant 1 0 [])))) ∷ marked 1 (Got 1) ∷
    marked 1 (Sent 3 3 (messages.Answer 1 (answers.Granted (whole_grant 1 0 [])))) ∷ marked 3 (Got 2) ∷ marked 3 (Got 3)
    ∷
    marked 3 (Told (replies.Response 0)) ∷ []

-- Sites were asked for another epoch.
abbrev pub another_epoch : List Entry
another_epoch =
    marked 7 (Phase 1) ∷ marked 3 (Called commands.Begin) ∷ marked 3 (Told (replies.Began (tx 0 1))) ∷
    marked 3 (Called (commands.Do 0 0)) ∷
    marked 3 (Sent 0 0 (messages.Request (tx 0 1) 2 0 (wants.Read (first_read 0 0))))
    ∷
    marked 3 (Sent 1 1 (messages.Request (tx 0 1) 2 0 (wants.Read (first_read 0 0)))) ∷ marked 0 (Got 0) ∷
    marked 0 (Sent 2 3 (messages.Answer 0 (answers.Granted (whole_grant 1 0 [])))) ∷ marked 1 (Got 1) ∷
    marked 1 (Sent 3 3 (messages.Answer 1 (answers.Granted (whole_grant 1 0 [])))) ∷ marked 3 (Got 2) ∷ marked 3 (Got 3)
    ∷
    marked 3 (Told (replies.Response 0)) ∷ []

-- Answers to an earlier command's requests are counted.
abbrev pub earlier_answers : List Entry
earlier_answers =
    marked 7 (Phase 1) ∷ marked 3 (Called commands.Begin) ∷ marked 3 (Told (replies.Began (tx 0 1))) ∷
    marked 3 (Called (commands.Do 0 0)) ∷
    marked 3 (Sent 0 0 (messages.Request (tx 0 1) 1 0 (wants.Read (first_read 0 0))))
    ∷
    marked 3 (Sent 1 1 (messages.Request (tx 0 1) 1 0 (wants.Read (first_read 0 0)))) ∷ marked 0 (Got 0) ∷
    marked 0 (Sent 2 3 (messages.Answer 0 (answers.Granted (whole_grant 1 0 [])))) ∷ marked 1 (Got 1) ∷
    marked 1 (Sent 3 3 (messages.Answer 1 (answers.Granted (whole_grant 1 0 [])))) ∷ marked 3 (Got 2) ∷ marked 3 (Got 3)
    ∷
    marked 3 (Told (replies.Response 0)) ∷ marked 3 (Called (commands.Do 0 0)) ∷
    marked 3 (Sent 4 0 (messages.Request (tx 0 1) 1 1 (wants.Read (first_read 0 0)))) ∷
    marked 3 (Sent 5 1 (messages.Request (tx 0 1) 1 1 (wants.Read (first_read 0 0)))) ∷ marked 3 (Got 2) ∷
    marked 3 (Got 3)
    ∷
    marked 3 (Told (replies.Response 0)) ∷ []

-- A late answer is counted after its request was lost.
abbrev pub late_answer : List Entry
late_answer =
    marked 7 (Phase 1) ∷ marked 3 (Called commands.Begin) ∷ marked 3 (Told (replies.Began (tx 0 1))) ∷
    marked 3 (Called (commands.Do 0 0)) ∷
    marked 3 (Sent 0 0 (messages.Request (tx 0 1) 1 0 (wants.Read (first_read 0 0))))
    ∷
    marked 3 (Sent 1 1 (messages.Request (tx 0 1) 1 0 (wants.Read (first_read 0 0)))) ∷ marked 0 (Got 0) ∷
    marked 0 (Sent 2 3 (messages.Answer 0 (answers.Granted (whole_grant 1 0 [])))) ∷ marked 1 (Got 1) ∷
    marked 1 (Sent 3 3 (messages.Answer 1 (answers.Granted (whole_grant 1 0 [])))) ∷ marked 3 (Got 3) ∷
    marked 3 (Lost 0)
    ∷
    marked 3 (Sent 4 2 (messages.Request (tx 0 1) 1 0 (wants.Read (first_read 0 0)))) ∷ marked 3 (Got 2) ∷
    marked 3 (Told (replies.Response 0)) ∷ []

-- Quorum is told before all sites were asked.
abbrev pub short_too_early : List Entry
short_too_early =
    marked 7 (Phase 1) ∷ marked 7 (Cut 4 0) ∷ marked 7 (Cut 4 1) ∷ marked 4 (Called commands.Begin) ∷
    marked 4 (Told (replies.Began (tx 1 1))) ∷ marked 4 (Called (commands.Do 0 0)) ∷
    marked 4 (Sent 0 1 (messages.Request (tx 1 1) 1 0 (wants.Read (first_read 0 0)))) ∷
    marked 4 (Sent 1 2 (messages.Request (tx 1 1) 1 0 (wants.Read (first_read 0 0)))) ∷ marked 2 (Got 1) ∷
    marked 2 (Sent 2 4 (messages.Answer 1 (answers.Granted (whole_grant 1 0 [])))) ∷ marked 4 (Got 2) ∷
    marked 4 (Lost 0)
    ∷
    marked 4 (Told (replies.Quorum halves.Read 1 2)) ∷ []

-- Quorum is told while a request is open.
abbrev pub short_of_open_requests : List Entry
short_of_open_requests =
    marked 7 (Phase 1) ∷ marked 7 (Cut 4 0) ∷ marked 7 (Cut 4 1) ∷ marked 4 (Called commands.Begin) ∷
    marked 4 (Told (replies.Began (tx 1 1))) ∷ marked 4 (Called (commands.Do 0 0)) ∷
    marked 4 (Sent 0 1 (messages.Request (tx 1 1) 1 0 (wants.Read (first_read 0 0)))) ∷
    marked 4 (Sent 1 2 (messages.Request (tx 1 1) 1 0 (wants.Read (first_read 0 0)))) ∷ marked 2 (Got 1) ∷
    marked 2 (Sent 2 4 (messages.Answer 1 (answers.Granted (whole_grant 1 0 [])))) ∷ marked 4 (Got 2) ∷
    marked 4 (Lost 0)
    ∷
    marked 4 (Sent 3 0 (messages.Request (tx 1 1) 1 0 (wants.Read (first_read 0 0)))) ∷
    marked 4 (Told (replies.Quorum halves.Read 1 2)) ∷ []

-- Quorum tells less weight than was granted.
abbrev pub short_of_less : List Entry
short_of_less =
    marked 7 (Phase 1) ∷ marked 7 (Cut 4 0) ∷ marked 7 (Cut 4 1) ∷ marked 4 (Called commands.Begin) ∷
    marked 4 (Told (replies.Began (tx 1 1))) ∷ marked 4 (Called (commands.Do 0 0)) ∷
    marked 4 (Sent 0 1 (messages.Request (tx 1 1) 1 0 (wants.Read (first_read 0 0)))) ∷
    marked 4 (Sent 1 2 (messages.Request (tx 1 1) 1 0 (wants.Read (first_read 0 0)))) ∷ marked 2 (Got 1) ∷
    marked 2 (Sent 2 4 (messages.Answer 1 (answers.Granted (whole_grant 1 0 [])))) ∷ marked 4 (Got 2) ∷
    marked 4 (Lost 0)
    ∷
    marked 4 (Sent 3 0 (messages.Request (tx 1 1) 1 0 (wants.Read (first_read 0 0)))) ∷ marked 4 (Lost 3) ∷
    marked 4 (Told (replies.Quorum halves.Read 0 2)) ∷ []

-- Conflict names another holder.
abbrev pub conflict_with_another : List Entry
conflict_with_another =
    marked 7 (Phase 1) ∷ marked 3 (Called commands.Begin) ∷ marked 3 (Told (replies.Began (tx 0 1))) ∷
    marked 3 (Called (commands.Do 0 2)) ∷
    marked 3 (Sent 0 0 (messages.Request (tx 0 1) 1 0 (wants.Append 0 [] (own_line 1 0 3 ∷ [])))) ∷
    marked 3 (Sent 1 1 (messages.Request (tx 0 1) 1 0 (wants.Append 0 [] (own_line 1 0 3 ∷ [])))) ∷ marked 0 (Got 0) ∷
    marked 0 (Sent 2 3 (messages.Answer 0 (answers.Granted (whole_grant 1 0 [])))) ∷ marked 1 (Got 1) ∷
    marked 1 (Sent 3 3 (messages.Answer 1 (answers.Granted (whole_grant 1 0 [])))) ∷ marked 3 (Got 2) ∷ marked 3 (Got 3)
    ∷
    marked 3 (Told (replies.Response 2)) ∷ marked 7 (Phase 2) ∷ marked 4 (Called commands.Begin) ∷
    marked 4 (Told (replies.Began (tx 1 1))) ∷ marked 4 (Called (commands.Do 0 0)) ∷
    marked 4 (Sent 4 1 (messages.Request (tx 1 1) 1 0 (wants.Read (first_read 0 0)))) ∷
    marked 4 (Sent 5 2 (messages.Request (tx 1 1) 1 0 (wants.Read (first_read 0 0)))) ∷ marked 1 (Got 4) ∷
    marked 1 (Sent 6 4 (messages.Answer 4 (answers.Clash (tx 0 1) 0 3))) ∷
    marked 1 (Sent 7 3 (messages.Inquiry (tx 0 1))) ∷ marked 2 (Got 5) ∷
    marked 2 (Sent 8 4 (messages.Answer 5 (answers.Granted (whole_grant 1 0 [])))) ∷ marked 4 (Got 6) ∷ marked 3 (Got 7)
    ∷
    marked 3 (Sent 9 1 (messages.Decision (tx 0 1) outcomes.Active)) ∷ marked 4 (Got 8) ∷
    marked 4 (Told (replies.Conflict (tx 2 1) 1)) ∷ []

-- A response is told though a site clashed.
abbrev pub granted_despite_a_clash : List Entry
granted_despite_a_clash =
    marked 7 (Phase 1) ∷ marked 3 (Called commands.Begin) ∷ marked 3 (Told (replies.Began (tx 0 1))) ∷
    marked 3 (Called (commands.Do 0 2)) ∷
    marked 3 (Sent 0 0 (messages.Request (tx 0 1) 1 0 (wants.Append 0 [] (own_line 1 0 3 ∷ [])))) ∷
    marked 3 (Sent 1 1 (messages.Request (tx 0 1) 1 0 (wants.Append 0 [] (own_line 1 0 3 ∷ [])))) ∷ marked 0 (Got 0) ∷
    marked 0 (Sent 2 3 (messages.Answer 0 (answers.Granted (whole_grant 1 0 [])))) ∷ marked 1 (Got 1) ∷
    marked 1 (Sent 3 3 (messages.Answer 1 (answers.Granted (whole_grant 1 0 [])))) ∷ marked 3 (Got 2) ∷ marked 3 (Got 3)
    ∷
    marked 3 (Told (replies.Response 2)) ∷ marked 7 (Phase 2) ∷ marked 4 (Called commands.Begin) ∷
    marked 4 (Told (replies.Began (tx 1 1))) ∷ marked 4 (Called (commands.Do 0 0)) ∷
    marked 4 (Sent 4 1 (messages.Request (tx 1 1) 1 0 (wants.Read (first_read 0 0)))) ∷
    marked 4 (Sent 5 2 (messages.Request (tx 1 1) 1 0 (wants.Read (first_read 0 0)))) ∷ marked 1 (Got 4) ∷
    marked 1 (Sent 6 4 (messages.Answer 4 (answers.Clash (tx 0 1) 0 3))) ∷
    marked 1 (Sent 7 3 (messages.Inquiry (tx 0 1))) ∷ marked 2 (Got 5) ∷
    marked 2 (Sent 8 4 (messages.Answer 5 (answers.Granted (whole_grant 1 0 [])))) ∷ marked 4 (Got 6) ∷ marked 3 (Got 7)
    ∷
    marked 3 (Sent 9 1 (messages.Decision (tx 0 1) outcomes.Active)) ∷ marked 4 (Got 8) ∷
    marked 4 (Told (replies.Response 0)) ∷ []
