-- What sites do wrong in the life that they rose to.
use Rattle.std.specs.Prelude.{List, [], ◌∷◌, None}
use Rattle.qc_msg.specs.declared.message.Answer.TheVariants as answers
use Rattle.qc_msg.specs.declared.message.Message.TheVariants as messages
use Rattle.qc_msg.specs.declared.message.Outcome.TheVariants as outcomes
use Rattle.qc_msg.specs.declared.message.Want.TheVariants as wants
use Rattle.qc_msg.specs.declared.record.Record.TheVariants as records
use Rattle.qc_msg.specs.declared.step.Fall.TheVariants as causes
use Rattle.qc_msg.specs.Vocabulary.{Deed, Falls, Rises, Sends, Writes}
use Rattle.qc_msg.specs.Vocabulary.{whole_grant, first_read}
use Rattle.tests_lives.specs.Words.{tx, stamp, line, own_line, prepare, got}

-- keeps what it held without a promise
abbrev pub keeps_what_it_held : List Deed
keeps_what_it_held =
    got 1 3 1 (messages.Request (tx 0 1 1) 1 0 (wants.Append 0 [] ((own_line 1 0 3) ∷ []))) ∷
    Sends 3 3 (messages.Answer 1 (answers.Granted (whole_grant 1 0 []))) ∷ Falls causes.Script None ∷ Rises [] ∷
    Writes records.Life ∷ got 4 4 1 (messages.Request (tx 1 1 1) 1 0 (wants.Read (first_read 0 0))) ∷
    Sends 6 4 (messages.Answer 4 (answers.Clash (tx 0 1 1) 0 3)) ∷ Sends 7 3 (messages.Inquiry (tx 0 1 1)) ∷ []

-- grants in its old life
abbrev pub grants_in_its_old_life : List Deed
grants_in_its_old_life =
    got 1 3 1 (messages.Request (tx 0 1 1) 1 0 (wants.Append 0 [] ((own_line 1 0 3) ∷ []))) ∷
    Sends 3 3 (messages.Answer 1 (answers.Granted (whole_grant 1 0 []))) ∷ Falls causes.Script None ∷ Rises [] ∷
    Writes records.Life ∷ got 4 4 1 (messages.Request (tx 1 1 1) 1 0 (wants.Read (first_read 0 0))) ∷
    Sends 6 4 (messages.Answer 4 (answers.Granted (whole_grant 1 0 []))) ∷ []

-- its life grows twice
abbrev pub its_life_grows_twice : List Deed
its_life_grows_twice =
    got 1 3 1 (messages.Request (tx 0 1 1) 1 0 (wants.Append 0 [] ((own_line 1 0 3) ∷ []))) ∷
    Sends 3 3 (messages.Answer 1 (answers.Granted (whole_grant 1 0 []))) ∷ Falls causes.Script None ∷ Rises [] ∷
    Writes records.Life ∷ got 4 4 1 (messages.Request (tx 1 1 1) 1 0 (wants.Read (first_read 0 0))) ∷
    Sends 6 4 (messages.Answer 4 (answers.Granted (whole_grant 3 0 []))) ∷ []

-- loses what it promised
abbrev pub loses_what_it_promised : List Deed
loses_what_it_promised =
    got 1 3 1 (messages.Request (tx 0 1 1) 1 0 (wants.Append 0 [] ((own_line 1 0 3) ∷ []))) ∷
    Sends 3 3 (messages.Answer 1 (answers.Granted (whole_grant 1 0 []))) ∷
    got 4 4 1 (messages.Request (tx 1 1 1) 1 0 (wants.Read (first_read 0 0))) ∷
    Sends 6 4 (messages.Answer 4 (answers.Clash (tx 0 1 1) 0 3)) ∷ Sends 7 3 (messages.Inquiry (tx 0 1 1)) ∷
    got 9 3 1 (messages.Decision (tx 0 1 1) outcomes.Active) ∷
    got 11 3 1 (messages.Request (tx 0 1 1) 1 1 wants.Prepare) ∷
    Writes (prepare (tx 0 1 1) 1 [] ((own_line 1 0 3) ∷ []) []) ∷ Sends 13 3 (messages.Answer 11 (answers.Yes 0)) ∷
    Falls causes.Script None ∷ Rises ((prepare (tx 0 1 1) 1 [] ((own_line 1 0 3) ∷ []) []) ∷ []) ∷
    Writes records.Life ∷ Sends 14 3 (messages.Inquiry (tx 0 1 1)) ∷
    got 15 4 1 (messages.Request (tx 1 1 1) 1 0 (wants.Read (first_read 0 0))) ∷
    Sends 17 4 (messages.Answer 15 (answers.Granted (whole_grant 2 0 []))) ∷ []

-- loses the lines of its Done
abbrev pub loses_the_lines_of_its_done : List Deed
loses_the_lines_of_its_done =
    got 1 3 1 (messages.Request (tx 0 1 1) 1 0 (wants.Append 0 [] ((own_line 1 0 3) ∷ []))) ∷
    Sends 3 3 (messages.Answer 1 (answers.Granted (whole_grant 1 0 []))) ∷
    got 4 4 1 (messages.Request (tx 1 1 1) 1 0 (wants.Read (first_read 0 0))) ∷
    Sends 6 4 (messages.Answer 4 (answers.Clash (tx 0 1 1) 0 3)) ∷ Sends 7 3 (messages.Inquiry (tx 0 1 1)) ∷
    got 9 3 1 (messages.Decision (tx 0 1 1) outcomes.Active) ∷
    got 11 3 1 (messages.Request (tx 0 1 1) 1 1 wants.Prepare) ∷
    Writes (prepare (tx 0 1 1) 1 [] ((own_line 1 0 3) ∷ []) []) ∷ Sends 13 3 (messages.Answer 11 (answers.Yes 0)) ∷
    got 15 3 1 (messages.Decision (tx 0 1 1) (outcomes.Committed (stamp 1 0))) ∷ Writes (records.Done (tx 0 1 1) 1) ∷
    Falls causes.Script None ∷
    Rises ((prepare (tx 0 1 1) 1 [] ((own_line 1 0 3) ∷ []) []) ∷ (records.Done (tx 0 1 1) 1) ∷ []) ∷
    Writes records.Life ∷ got 16 4 1 (messages.Request (tx 1 1 1) 1 0 (wants.Read (first_read 0 0))) ∷
    Sends 18 4 (messages.Answer 16 (answers.Granted (whole_grant 2 1 []))) ∷ []

-- its clock is below its records
abbrev pub its_clock_is_below_its_records : List Deed
its_clock_is_below_its_records =
    got 1 3 1 (messages.Request (tx 0 1 1) 1 0 (wants.Append 0 [] ((own_line 1 0 3) ∷ []))) ∷
    Sends 3 3 (messages.Answer 1 (answers.Granted (whole_grant 1 0 []))) ∷
    got 4 4 1 (messages.Request (tx 1 1 1) 1 0 (wants.Read (first_read 0 0))) ∷
    Sends 6 4 (messages.Answer 4 (answers.Clash (tx 0 1 1) 0 3)) ∷ Sends 7 3 (messages.Inquiry (tx 0 1 1)) ∷
    got 9 3 1 (messages.Decision (tx 0 1 1) outcomes.Active) ∷
    got 11 3 1 (messages.Request (tx 0 1 1) 1 1 wants.Prepare) ∷
    Writes (prepare (tx 0 1 1) 1 [] ((own_line 1 0 3) ∷ []) []) ∷ Sends 13 3 (messages.Answer 11 (answers.Yes 0)) ∷
    got 15 3 1 (messages.Decision (tx 0 1 1) (outcomes.Committed (stamp 1 0))) ∷ Writes (records.Done (tx 0 1 1) 1) ∷
    Falls causes.Script None ∷
    Rises ((prepare (tx 0 1 1) 1 [] ((own_line 1 0 3) ∷ []) []) ∷ (records.Done (tx 0 1 1) 1) ∷ []) ∷
    Writes records.Life ∷ got 16 4 1 (messages.Request (tx 1 1 1) 1 0 (wants.Read (first_read 0 0))) ∷
    Sends 18 4 (messages.Answer 16 (answers.Granted (whole_grant 2 0 ((line 1 0 1 1 1 0 3) ∷ [])))) ∷ []

-- keeps lines that came with views
abbrev pub keeps_lines_that_came_with_views : List Deed
keeps_lines_that_came_with_views =
    got 5 4 2 (messages.Request (tx 1 1 1) 1 0 (wants.Read (first_read 0 0))) ∷
    Sends 8 4 (messages.Answer 5 (answers.Granted (whole_grant 1 0 []))) ∷
    got 17 4 2 (messages.Request (tx 1 1 1) 1 1 (wants.Read (first_read 0 0))) ∷
    Sends 19 4 (messages.Answer 17 (answers.Granted (whole_grant 1 0 []))) ∷
    got 21 4 2 (messages.Request (tx 1 1 1) 1 1 (wants.Append 0 ((line 1 0 1 1 1 0 3) ∷ []) ((own_line 2 0 3) ∷ []))) ∷
    Sends 23 4 (messages.Answer 21 (answers.Granted (whole_grant 1 1 []))) ∷ Falls causes.Script None ∷ Rises [] ∷
    Writes records.Life ∷ got 24 5 2 (messages.Request (tx 2 1 1) 1 0 (wants.Read (first_read 0 0))) ∷
    Sends 26 5 (messages.Answer 24 (answers.Granted (whole_grant 2 0 ((line 1 0 1 1 1 0 3) ∷ [])))) ∷ []

-- keeps its clock of before
abbrev pub keeps_its_clock_of_before : List Deed
keeps_its_clock_of_before =
    got 5 4 2 (messages.Request (tx 1 1 1) 1 0 (wants.Read (first_read 0 0))) ∷
    Sends 8 4 (messages.Answer 5 (answers.Granted (whole_grant 1 0 []))) ∷
    got 17 4 2 (messages.Request (tx 1 1 1) 1 1 (wants.Read (first_read 0 0))) ∷
    Sends 19 4 (messages.Answer 17 (answers.Granted (whole_grant 1 0 []))) ∷
    got 21 4 2 (messages.Request (tx 1 1 1) 1 1 (wants.Append 0 ((line 1 0 1 1 1 0 3) ∷ []) ((own_line 2 0 3) ∷ []))) ∷
    Sends 23 4 (messages.Answer 21 (answers.Granted (whole_grant 1 1 []))) ∷ Falls causes.Script None ∷ Rises [] ∷
    Writes records.Life ∷ got 24 5 2 (messages.Request (tx 2 1 1) 1 0 (wants.Read (first_read 0 0))) ∷
    Sends 26 5 (messages.Answer 24 (answers.Granted (whole_grant 2 1 []))) ∷ []

-- votes for what it granted in its old life
abbrev pub votes_for_its_old_life : List Deed
votes_for_its_old_life =
    got 1 3 1 (messages.Request (tx 0 1 1) 1 0 (wants.Append 0 [] (own_line 1 0 3 ∷ []))) ∷
    Sends 3 3 (messages.Answer 1 (answers.Granted (whole_grant 1 0 []))) ∷ Falls causes.Script None ∷ Rises [] ∷
    Writes records.Life ∷ got 1 3 1 (messages.Request (tx 0 1 1) 1 0 (wants.Append 0 [] (own_line 1 0 3 ∷ []))) ∷
    Sends 4 3 (messages.Answer 1 (answers.Granted (whole_grant 2 0 []))) ∷
    got 6 3 1 (messages.Request (tx 0 1 1) 1 1 wants.Prepare) ∷
    Writes (prepare (tx 0 1 1) 1 [] ((own_line 1 0 3) ∷ []) []) ∷ Sends 8 3 (messages.Answer 6 (answers.Yes 0)) ∷ []

-- says Stale to a request that names its old life
abbrev pub says_stale_to_its_old_life : List Deed
says_stale_to_its_old_life =
    got 1 3 1 (messages.Request (tx 0 1 1) 1 0 (wants.Append 0 [] (own_line 1 0 3 ∷ []))) ∷
    Sends 3 3 (messages.Answer 1 (answers.Granted (whole_grant 1 0 []))) ∷ Falls causes.Script None ∷ Rises [] ∷
    Writes records.Life ∷ got 1 3 1 (messages.Request (tx 0 1 1) 1 0 (wants.Append 0 [] (own_line 1 0 3 ∷ []))) ∷
    Sends 4 3 (messages.Answer 1 (answers.Granted (whole_grant 2 0 []))) ∷
    got 6 3 1 (messages.Request (tx 0 1 1) 1 1 wants.Prepare) ∷ Sends 8 3 (messages.Answer 6 answers.Stale) ∷ []

-- says Restarted with its old life
abbrev pub restarted_with_its_old_life : List Deed
restarted_with_its_old_life =
    got 1 3 1 (messages.Request (tx 0 1 1) 1 0 (wants.Append 0 [] (own_line 1 0 3 ∷ []))) ∷
    Sends 3 3 (messages.Answer 1 (answers.Granted (whole_grant 1 0 []))) ∷ Falls causes.Script None ∷ Rises [] ∷
    Writes records.Life ∷ got 1 3 1 (messages.Request (tx 0 1 1) 1 0 (wants.Append 0 [] (own_line 1 0 3 ∷ []))) ∷
    Sends 4 3 (messages.Answer 1 (answers.Granted (whole_grant 2 0 []))) ∷
    got 6 3 1 (messages.Request (tx 0 1 1) 1 1 wants.Prepare) ∷ Sends 8 3 (messages.Answer 6 (answers.Restarted 1)) ∷
    []

-- holds for ever what rose with it
abbrev pub holds_for_ever : List Deed
holds_for_ever =
    got 1 3 1 (messages.Request (tx 0 1 1) 1 0 (wants.Append 0 [] ((own_line 1 0 3) ∷ []))) ∷
    Sends 3 3 (messages.Answer 1 (answers.Granted (whole_grant 1 0 []))) ∷
    got 4 4 1 (messages.Request (tx 1 1 1) 1 0 (wants.Read (first_read 0 0))) ∷
    Sends 6 4 (messages.Answer 4 (answers.Clash (tx 0 1 1) 0 3)) ∷ Sends 7 3 (messages.Inquiry (tx 0 1 1)) ∷
    got 9 3 1 (messages.Decision (tx 0 1 1) outcomes.Active) ∷
    got 11 3 1 (messages.Request (tx 0 1 1) 1 1 wants.Prepare) ∷
    Writes (prepare (tx 0 1 1) 1 [] ((own_line 1 0 3) ∷ []) []) ∷ Sends 13 3 (messages.Answer 11 (answers.Yes 0)) ∷
    Falls causes.Script None ∷ Rises ((prepare (tx 0 1 1) 1 [] ((own_line 1 0 3) ∷ []) []) ∷ []) ∷
    Writes records.Life ∷ Sends 16 3 (messages.Inquiry (tx 0 1 1)) ∷
    got 17 3 1 (messages.Decision (tx 0 1 1) (outcomes.Committed (stamp 1 0))) ∷ Writes (records.Done (tx 0 1 1) 1) ∷
    got 18 4 1 (messages.Request (tx 1 1 1) 1 0 (wants.Read (first_read 0 0))) ∷
    Sends 20 4 (messages.Answer 18 (answers.Clash (tx 0 1 1) 0 3)) ∷ Sends 21 3 (messages.Inquiry (tx 0 1 1)) ∷ []

-- a promise that rose is redeemed twice
abbrev pub redeems_twice : List Deed
redeems_twice =
    got 1 3 1 (messages.Request (tx 0 1 1) 1 0 (wants.Append 0 [] ((own_line 1 0 3) ∷ []))) ∷
    Sends 3 3 (messages.Answer 1 (answers.Granted (whole_grant 1 0 []))) ∷
    got 4 4 1 (messages.Request (tx 1 1 1) 1 0 (wants.Read (first_read 0 0))) ∷
    Sends 6 4 (messages.Answer 4 (answers.Clash (tx 0 1 1) 0 3)) ∷ Sends 7 3 (messages.Inquiry (tx 0 1 1)) ∷
    got 9 3 1 (messages.Decision (tx 0 1 1) outcomes.Active) ∷
    got 11 3 1 (messages.Request (tx 0 1 1) 1 1 wants.Prepare) ∷
    Writes (prepare (tx 0 1 1) 1 [] ((own_line 1 0 3) ∷ []) []) ∷ Sends 13 3 (messages.Answer 11 (answers.Yes 0)) ∷
    Falls causes.Script None ∷ Rises ((prepare (tx 0 1 1) 1 [] ((own_line 1 0 3) ∷ []) []) ∷ []) ∷
    Writes records.Life ∷ Sends 16 3 (messages.Inquiry (tx 0 1 1)) ∷
    got 17 3 1 (messages.Decision (tx 0 1 1) (outcomes.Committed (stamp 1 0))) ∷ Writes (records.Done (tx 0 1 1) 1) ∷
    got 15 3 1 (messages.Decision (tx 0 1 1) (outcomes.Committed (stamp 1 0))) ∷ Writes (records.Done (tx 0 1 1) 1) ∷
    []
