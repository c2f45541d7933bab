-- What is due of sites that fall and rise, the neighbours of the wrong ones.
use Rattle.std.specs.Prelude.{List, [], ◌∷◌, Some, None}
use Rattle.qc_msg.specs.declared.message.Answer.TheVariants as answers
use Rattle.qc_msg.specs.declared.message.Message.TheVariants as messages
use Rattle.qc_msg.specs.declared.message.Outcome.TheVariants as outcomes
use Rattle.qc_msg.specs.declared.message.Want.TheVariants as wants
use Rattle.qc_msg.specs.declared.record.Record.TheVariants as records
use Rattle.qc_msg.specs.declared.step.Fall.TheVariants as causes
use Rattle.qc_msg.specs.Vocabulary.{Deed, Falls, Rises, Sends, Writes}
use Rattle.qc_msg.specs.Vocabulary.{whole_grant, first_read}
use Rattle.tests_lives.specs.Words.{tx, stamp, line, own_line, read_lock, prepare, got}

-- a pending Done rises, and its lines with it
abbrev pub pending_done_rises : List Deed
pending_done_rises =
    got 1 3 1 (messages.Request (tx 0 1 1) 1 0 (wants.Append 0 [] ((own_line 1 0 3) ∷ []))) ∷
    Sends 3 3 (messages.Answer 1 (answers.Granted (whole_grant 1 0 []))) ∷
    got 4 4 1 (messages.Request (tx 1 1 1) 1 0 (wants.Read (first_read 0 0))) ∷
    Sends 6 4 (messages.Answer 4 (answers.Clash (tx 0 1 1) 0 3)) ∷ Sends 7 3 (messages.Inquiry (tx 0 1 1)) ∷
    got 9 3 1 (messages.Decision (tx 0 1 1) outcomes.Active) ∷
    got 11 3 1 (messages.Request (tx 0 1 1) 1 1 wants.Prepare) ∷
    Writes (prepare (tx 0 1 1) 1 [] ((own_line 1 0 3) ∷ []) []) ∷ Sends 13 3 (messages.Answer 11 (answers.Yes 0)) ∷
    got 15 3 1 (messages.Decision (tx 0 1 1) (outcomes.Committed (stamp 1 0))) ∷
    Falls causes.Stop (Some (records.Done (tx 0 1 1) 1)) ∷
    Rises ((prepare (tx 0 1 1) 1 [] ((own_line 1 0 3) ∷ []) []) ∷ (records.Done (tx 0 1 1) 1) ∷ []) ∷
    Writes records.Life ∷ got 16 4 1 (messages.Request (tx 1 1 1) 1 0 (wants.Read (first_read 0 0))) ∷
    Sends 18 4 (messages.Answer 16 (answers.Granted (whole_grant 2 1 ((line 1 0 1 1 1 0 3) ∷ [])))) ∷ []

-- keeps the lines of its Done
abbrev pub keeps_the_lines_of_its_done : List Deed
keeps_the_lines_of_its_done =
    got 1 3 1 (messages.Request (tx 0 1 1) 1 0 (wants.Append 0 [] ((own_line 1 0 3) ∷ []))) ∷
    Sends 3 3 (messages.Answer 1 (answers.Granted (whole_grant 1 0 []))) ∷
    got 4 4 1 (messages.Request (tx 1 1 1) 1 0 (wants.Read (first_read 0 0))) ∷
    Sends 6 4 (messages.Answer 4 (answers.Clash (tx 0 1 1) 0 3)) ∷ Sends 7 3 (messages.Inquiry (tx 0 1 1)) ∷
    got 9 3 1 (messages.Decision (tx 0 1 1) outcomes.Active) ∷
    got 11 3 1 (messages.Request (tx 0 1 1) 1 1 wants.Prepare) ∷
    Writes (prepare (tx 0 1 1) 1 [] ((own_line 1 0 3) ∷ []) []) ∷ Sends 13 3 (messages.Answer 11 (answers.Yes 0)) ∷
    got 15 3 1 (messages.Decision (tx 0 1 1) (outcomes.Committed (stamp 1 0))) ∷ Writes (records.Done (tx 0 1 1) 1) ∷
    Falls causes.Script None ∷
    Rises ((prepare (tx 0 1 1) 1 [] ((own_line 1 0 3) ∷ []) []) ∷ (records.Done (tx 0 1 1) 1) ∷ []) ∷
    Writes records.Life ∷ got 16 4 1 (messages.Request (tx 1 1 1) 1 0 (wants.Read (first_read 0 0))) ∷
    Sends 18 4 (messages.Answer 16 (answers.Granted (whole_grant 2 1 ((line 1 0 1 1 1 0 3) ∷ [])))) ∷ []

-- a site knows the lines of views
abbrev pub knows_lines_of_views : List Deed
knows_lines_of_views =
    got 5 4 2 (messages.Request (tx 1 1 1) 1 0 (wants.Read (first_read 0 0))) ∷
    Sends 8 4 (messages.Answer 5 (answers.Granted (whole_grant 1 0 []))) ∷
    got 17 4 2 (messages.Request (tx 1 1 1) 1 1 (wants.Read (first_read 0 0))) ∷
    Sends 19 4 (messages.Answer 17 (answers.Granted (whole_grant 1 0 []))) ∷
    got 21 4 2 (messages.Request (tx 1 1 1) 1 1 (wants.Append 0 ((line 1 0 1 1 1 0 3) ∷ []) ((own_line 2 0 3) ∷ []))) ∷
    Sends 23 4 (messages.Answer 21 (answers.Granted (whole_grant 1 1 []))) ∷
    got 25 4 2 (messages.Decision (tx 1 1 1) outcomes.Aborted) ∷
    got 26 5 2 (messages.Request (tx 2 1 1) 1 0 (wants.Read (first_read 0 0))) ∷
    Sends 28 5 (messages.Answer 26 (answers.Granted (whole_grant 1 1 ((line 1 0 1 1 1 0 3) ∷ [])))) ∷ []

-- lines that came with views are lost at a rise
abbrev pub loses_lines_of_views : List Deed
loses_lines_of_views =
    got 5 4 2 (messages.Request (tx 1 1 1) 1 0 (wants.Read (first_read 0 0))) ∷
    Sends 8 4 (messages.Answer 5 (answers.Granted (whole_grant 1 0 []))) ∷
    got 17 4 2 (messages.Request (tx 1 1 1) 1 1 (wants.Read (first_read 0 0))) ∷
    Sends 19 4 (messages.Answer 17 (answers.Granted (whole_grant 1 0 []))) ∷
    got 21 4 2 (messages.Request (tx 1 1 1) 1 1 (wants.Append 0 ((line 1 0 1 1 1 0 3) ∷ []) ((own_line 2 0 3) ∷ []))) ∷
    Sends 23 4 (messages.Answer 21 (answers.Granted (whole_grant 1 1 []))) ∷ Falls causes.Script None ∷ Rises [] ∷
    Writes records.Life ∷ got 24 5 2 (messages.Request (tx 2 1 1) 1 0 (wants.Read (first_read 0 0))) ∷
    Sends 26 5 (messages.Answer 24 (answers.Granted (whole_grant 2 0 []))) ∷ []

-- keeps the lines of its Prepare
abbrev pub keeps_the_lines_of_its_prepare : List Deed
keeps_the_lines_of_its_prepare =
    got 5 4 2 (messages.Request (tx 1 1 1) 1 0 (wants.Read (first_read 0 0))) ∷
    Sends 8 4 (messages.Answer 5 (answers.Granted (whole_grant 1 0 []))) ∷
    got 17 4 2 (messages.Request (tx 1 1 1) 1 1 (wants.Read (first_read 0 0))) ∷
    Sends 19 4 (messages.Answer 17 (answers.Granted (whole_grant 1 0 []))) ∷
    got 21 4 2 (messages.Request (tx 1 1 1) 1 1 (wants.Append 0 ((line 1 0 1 1 1 0 3) ∷ []) ((own_line 2 0 3) ∷ []))) ∷
    Sends 23 4 (messages.Answer 21 (answers.Granted (whole_grant 1 1 []))) ∷
    got 25 4 2 (messages.Request (tx 1 1 1) 1 1 wants.Prepare) ∷
    Writes (prepare (tx 1 1 1) 1 ((read_lock 0 0) ∷ []) ((own_line 2 0 3) ∷ []) ((line 1 0 1 1 1 0 3) ∷ [])) ∷
    Sends 26 4 (messages.Answer 25 (answers.Yes 1)) ∷ Falls causes.Script None ∷
    Rises ((prepare (tx 1 1 1) 1 ((read_lock 0 0) ∷ []) ((own_line 2 0 3) ∷ []) ((line 1 0 1 1 1 0 3) ∷ [])) ∷ []) ∷
    Writes records.Life ∷ Sends 27 4 (messages.Inquiry (tx 1 1 1)) ∷ []

-- asks about two promises in the order of the transactions
abbrev pub asks_in_order : List Deed
asks_in_order =
    got 1 3 1 (messages.Request (tx 0 1 1) 1 0 (wants.Append 0 [] ((own_line 1 0 3) ∷ []))) ∷
    Sends 3 3 (messages.Answer 1 (answers.Granted (whole_grant 1 0 []))) ∷
    got 4 4 1 (messages.Request (tx 1 1 1) 1 0 (wants.Append 0 [] ((own_line 1 0 3) ∷ []))) ∷
    Sends 6 4 (messages.Answer 4 (answers.Granted (whole_grant 1 0 []))) ∷
    got 8 4 1 (messages.Request (tx 1 1 1) 1 1 wants.Prepare) ∷
    Writes (prepare (tx 1 1 1) 1 [] ((own_line 1 0 3) ∷ []) []) ∷ Sends 10 4 (messages.Answer 8 (answers.Yes 0)) ∷
    got 12 3 1 (messages.Request (tx 0 1 1) 1 1 wants.Prepare) ∷
    Writes (prepare (tx 0 1 1) 1 [] ((own_line 1 0 3) ∷ []) []) ∷ Sends 13 3 (messages.Answer 12 (answers.Yes 0)) ∷
    Falls causes.Script None ∷
    Rises ((prepare (tx 1 1 1) 1 [] ((own_line 1 0 3) ∷ []) []) ∷ (prepare (tx 0 1 1) 1 [] ((own_line 1 0 3) ∷ []) [])
    ∷ []) ∷
    Writes records.Life ∷ Sends 14 3 (messages.Inquiry (tx 0 1 1)) ∷ Sends 15 4 (messages.Inquiry (tx 1 1 1)) ∷ []

-- refuses a Prepare that names its old life
abbrev pub refuses_its_old_life : List Deed
refuses_its_old_life =
    got 1 3 1 (messages.Request (tx 0 1 1) 1 0 (wants.Append 0 [] (own_line 1 0 3 ∷ []))) ∷
    Sends 3 3 (messages.Answer 1 (answers.Granted (whole_grant 1 0 []))) ∷ Falls causes.Script None ∷ Rises [] ∷
    Writes records.Life ∷ got 1 3 1 (messages.Request (tx 0 1 1) 1 0 (wants.Append 0 [] (own_line 1 0 3 ∷ []))) ∷
    Sends 4 3 (messages.Answer 1 (answers.Granted (whole_grant 2 0 []))) ∷
    got 6 3 1 (messages.Request (tx 0 1 1) 1 1 wants.Prepare) ∷ Sends 8 3 (messages.Answer 6 (answers.Restarted 2)) ∷
    []

-- falls by the script between two of its posts
abbrev pub falls_between_posts : List Deed
falls_between_posts =
    got 0 3 0 (messages.Request (tx 0 1 1) 1 0 (wants.Append 0 [] ((own_line 1 0 3) ∷ []))) ∷
    Sends 2 3 (messages.Answer 0 (answers.Granted (whole_grant 1 0 []))) ∷
    got 10 3 0 (messages.Request (tx 0 1 1) 1 1 wants.Prepare) ∷
    Writes (prepare (tx 0 1 1) 1 [] ((own_line 1 0 3) ∷ []) []) ∷ Sends 12 3 (messages.Answer 10 (answers.Yes 0)) ∷
    Falls causes.Script None ∷ []

-- what rose with it ends as it is decided
abbrev pub ends_what_rose : List Deed
ends_what_rose =
    got 1 3 1 (messages.Request (tx 0 1 1) 1 0 (wants.Append 0 [] ((own_line 1 0 3) ∷ []))) ∷
    Sends 3 3 (messages.Answer 1 (answers.Granted (whole_grant 1 0 []))) ∷
    got 4 4 1 (messages.Request (tx 1 1 1) 1 0 (wants.Read (first_read 0 0))) ∷
    Sends 6 4 (messages.Answer 4 (answers.Clash (tx 0 1 1) 0 3)) ∷ Sends 7 3 (messages.Inquiry (tx 0 1 1)) ∷
    got 9 3 1 (messages.Decision (tx 0 1 1) outcomes.Active) ∷
    got 11 3 1 (messages.Request (tx 0 1 1) 1 1 wants.Prepare) ∷
    Writes (prepare (tx 0 1 1) 1 [] ((own_line 1 0 3) ∷ []) []) ∷ Sends 13 3 (messages.Answer 11 (answers.Yes 0)) ∷
    Falls causes.Script None ∷ Rises ((prepare (tx 0 1 1) 1 [] ((own_line 1 0 3) ∷ []) []) ∷ []) ∷
    Writes records.Life ∷ Sends 16 3 (messages.Inquiry (tx 0 1 1)) ∷
    got 17 3 1 (messages.Decision (tx 0 1 1) (outcomes.Committed (stamp 1 0))) ∷ Writes (records.Done (tx 0 1 1) 1) ∷
    got 18 4 1 (messages.Request (tx 1 1 1) 1 0 (wants.Read (first_read 0 0))) ∷
    Sends 20 4 (messages.Answer 18 (answers.Granted (whole_grant 2 1 ((line 1 0 1 1 1 0 3) ∷ [])))) ∷ []

-- a promise that rose is redeemed once
abbrev pub redeems_once : List Deed
redeems_once =
    got 1 3 1 (messages.Request (tx 0 1 1) 1 0 (wants.Append 0 [] ((own_line 1 0 3) ∷ []))) ∷
    Sends 3 3 (messages.Answer 1 (answers.Granted (whole_grant 1 0 []))) ∷
    got 4 4 1 (messages.Request (tx 1 1 1) 1 0 (wants.Read (first_read 0 0))) ∷
    Sends 6 4 (messages.Answer 4 (answers.Clash (tx 0 1 1) 0 3)) ∷ Sends 7 3 (messages.Inquiry (tx 0 1 1)) ∷
    got 9 3 1 (messages.Decision (tx 0 1 1) outcomes.Active) ∷
    got 11 3 1 (messages.Request (tx 0 1 1) 1 1 wants.Prepare) ∷
    Writes (prepare (tx 0 1 1) 1 [] ((own_line 1 0 3) ∷ []) []) ∷ Sends 13 3 (messages.Answer 11 (answers.Yes 0)) ∷
    Falls causes.Script None ∷ Rises ((prepare (tx 0 1 1) 1 [] ((own_line 1 0 3) ∷ []) []) ∷ []) ∷
    Writes records.Life ∷ Sends 16 3 (messages.Inquiry (tx 0 1 1)) ∷
    got 17 3 1 (messages.Decision (tx 0 1 1) (outcomes.Committed (stamp 1 0))) ∷ Writes (records.Done (tx 0 1 1) 1) ∷
    got 15 3 1 (messages.Decision (tx 0 1 1) (outcomes.Committed (stamp 1 0))) ∷ []
