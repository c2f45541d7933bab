-- What sites do wrong where a record isn't written, and about their falls.
use Rattle.std.specs.Prelude.{List, [], ◌∷◌, Some, None}
use Rattle.qc_msg.specs.declared.message.Answer.TheVariants as answers
use Rattle.qc_msg.specs.declared.message.Message.TheVariants as messages
use Rattle.qc_msg.specs.declared.message.Outcome.TheVariants as outcomes
use Rattle.qc_msg.specs.declared.message.Want.TheVariants as wants
use Rattle.qc_msg.specs.declared.record.Record.TheVariants as records
use Rattle.qc_msg.specs.declared.step.Fall.TheVariants as causes
use Rattle.qc_msg.specs.Vocabulary.{Deed, Falls, Rises, Sends, Writes}
use Rattle.qc_msg.specs.Vocabulary.{whole_grant, first_read}
use Rattle.tests_lives.specs.Words.{tx, stamp, own_line, read_lock, prepare, got}

-- asks, and falls as it writes Life
abbrev pub asks_and_falls : List Deed
asks_and_falls =
    got 1 3 1 (messages.Request (tx 0 1 1) 1 0 (wants.Append 0 [] ((own_line 1 0 3) ∷ []))) ∷
    Sends 3 3 (messages.Answer 1 (answers.Granted (whole_grant 1 0 []))) ∷
    got 4 4 1 (messages.Request (tx 1 1 1) 1 0 (wants.Read (first_read 0 0))) ∷
    Sends 6 4 (messages.Answer 4 (answers.Clash (tx 0 1 1) 0 3)) ∷ Sends 7 3 (messages.Inquiry (tx 0 1 1)) ∷
    got 9 3 1 (messages.Decision (tx 0 1 1) outcomes.Active) ∷
    got 11 3 1 (messages.Request (tx 0 1 1) 1 1 wants.Prepare) ∷
    Writes (prepare (tx 0 1 1) 1 [] ((own_line 1 0 3) ∷ []) []) ∷ Sends 13 3 (messages.Answer 11 (answers.Yes 0)) ∷
    Falls causes.Script None ∷ Rises ((prepare (tx 0 1 1) 1 [] ((own_line 1 0 3) ∷ []) []) ∷ []) ∷
    Sends 14 3 (messages.Inquiry (tx 0 1 1)) ∷ Falls causes.Disk (Some records.Life) ∷ []

-- says Fault and doesn't fall
abbrev pub says_fault_and_stays_up : List Deed
says_fault_and_stays_up =
    got 1 3 1 (messages.Request (tx 0 1 1) 1 0 (wants.Read (first_read 0 0))) ∷
    Sends 3 3 (messages.Answer 1 (answers.Granted (whole_grant 1 0 []))) ∷
    got 5 3 1 (messages.Request (tx 0 1 1) 1 1 (wants.Append 0 [] (own_line 1 0 0 ∷ []))) ∷
    Sends 7 3 (messages.Answer 5 (answers.Granted (whole_grant 1 0 []))) ∷
    got 9 3 1 (messages.Request (tx 0 1 1) 1 1 wants.Prepare) ∷ Sends 11 3 (messages.Answer 9 answers.Fault) ∷ []

-- its disk fails, and it doesn't say Fault
abbrev pub fails_without_fault : List Deed
fails_without_fault =
    got 1 3 1 (messages.Request (tx 0 1 1) 1 0 (wants.Read (first_read 0 0))) ∷
    Sends 3 3 (messages.Answer 1 (answers.Granted (whole_grant 1 0 []))) ∷
    got 5 3 1 (messages.Request (tx 0 1 1) 1 1 (wants.Append 0 [] (own_line 1 0 0 ∷ []))) ∷
    Sends 7 3 (messages.Answer 5 (answers.Granted (whole_grant 1 0 []))) ∷
    got 9 3 1 (messages.Request (tx 0 1 1) 1 1 wants.Prepare) ∷
    Falls causes.Disk (Some (prepare (tx 0 1 1) 1 ((read_lock 0 0) ∷ []) ((own_line 1 0 0) ∷ []) [])) ∷ []

-- its disk stops, and it says Fault
abbrev pub stops_with_fault : List Deed
stops_with_fault =
    got 1 3 1 (messages.Request (tx 0 1 1) 1 0 (wants.Read (first_read 0 0))) ∷
    Sends 3 3 (messages.Answer 1 (answers.Granted (whole_grant 1 0 []))) ∷
    got 5 3 1 (messages.Request (tx 0 1 1) 1 1 (wants.Append 0 [] (own_line 1 0 0 ∷ []))) ∷
    Sends 7 3 (messages.Answer 5 (answers.Granted (whole_grant 1 0 []))) ∷
    got 9 3 1 (messages.Request (tx 0 1 1) 1 1 wants.Prepare) ∷ Sends 11 3 (messages.Answer 9 answers.Fault) ∷
    Falls causes.Stop (Some (prepare (tx 0 1 1) 1 ((read_lock 0 0) ∷ []) ((own_line 1 0 0) ∷ []) [])) ∷ []

-- says Yes, and falls as it writes the promise
abbrev pub says_yes_and_falls : List Deed
says_yes_and_falls =
    got 1 3 1 (messages.Request (tx 0 1 1) 1 0 (wants.Read (first_read 0 0))) ∷
    Sends 3 3 (messages.Answer 1 (answers.Granted (whole_grant 1 0 []))) ∷
    got 5 3 1 (messages.Request (tx 0 1 1) 1 1 (wants.Append 0 [] (own_line 1 0 0 ∷ []))) ∷
    Sends 7 3 (messages.Answer 5 (answers.Granted (whole_grant 1 0 []))) ∷
    got 9 3 1 (messages.Request (tx 0 1 1) 1 1 wants.Prepare) ∷ Sends 11 3 (messages.Answer 9 (answers.Yes 0)) ∷
    Falls causes.Disk (Some (prepare (tx 0 1 1) 1 ((read_lock 0 0) ∷ []) ((own_line 1 0 0) ∷ []) [])) ∷ []

-- falls as it writes another promise
abbrev pub falls_with_another_promise : List Deed
falls_with_another_promise =
    got 1 3 1 (messages.Request (tx 0 1 1) 1 0 (wants.Read (first_read 0 0))) ∷
    Sends 3 3 (messages.Answer 1 (answers.Granted (whole_grant 1 0 []))) ∷
    got 5 3 1 (messages.Request (tx 0 1 1) 1 1 (wants.Append 0 [] (own_line 1 0 0 ∷ []))) ∷
    Sends 7 3 (messages.Answer 5 (answers.Granted (whole_grant 1 0 []))) ∷
    got 9 3 1 (messages.Request (tx 0 1 1) 1 1 wants.Prepare) ∷ Sends 11 3 (messages.Answer 9 answers.Fault) ∷
    Falls causes.Disk (Some (prepare (tx 0 1 1) 1 [] [] [])) ∷ []

-- falls with nothing pending as it answers
abbrev pub falls_with_nothing_pending : List Deed
falls_with_nothing_pending =
    got 1 3 1 (messages.Request (tx 0 1 1) 1 0 (wants.Read (first_read 0 0))) ∷
    Sends 3 3 (messages.Answer 1 (answers.Granted (whole_grant 1 0 []))) ∷
    got 5 3 1 (messages.Request (tx 0 1 1) 1 1 (wants.Append 0 [] (own_line 1 0 0 ∷ []))) ∷
    Sends 7 3 (messages.Answer 5 (answers.Granted (whole_grant 1 0 []))) ∷
    got 9 3 1 (messages.Request (tx 0 1 1) 1 1 wants.Prepare) ∷ Sends 11 3 (messages.Answer 9 answers.Fault) ∷
    Falls causes.Disk None ∷ []

-- writes its promise, and falls as it writes it again
abbrev pub writes_and_falls : List Deed
writes_and_falls =
    got 1 3 1 (messages.Request (tx 0 1 1) 1 0 (wants.Read (first_read 0 0))) ∷
    Sends 3 3 (messages.Answer 1 (answers.Granted (whole_grant 1 0 []))) ∷
    got 5 3 1 (messages.Request (tx 0 1 1) 1 1 (wants.Append 0 [] (own_line 1 0 0 ∷ []))) ∷
    Sends 7 3 (messages.Answer 5 (answers.Granted (whole_grant 1 0 []))) ∷
    got 9 3 1 (messages.Request (tx 0 1 1) 1 1 wants.Prepare) ∷
    Writes (prepare (tx 0 1 1) 1 ((read_lock 0 0) ∷ []) ((own_line 1 0 0) ∷ []) []) ∷
    Sends 11 3 (messages.Answer 9 (answers.Yes 0)) ∷
    Falls causes.Disk (Some (prepare (tx 0 1 1) 1 ((read_lock 0 0) ∷ []) ((own_line 1 0 0) ∷ []) [])) ∷ []

-- says Yes before its record
abbrev pub says_yes_before_its_record : List Deed
says_yes_before_its_record =
    got 0 3 0 (messages.Request (tx 0 1 1) 1 0 (wants.Append 0 [] ((own_line 1 0 3) ∷ []))) ∷
    Sends 2 3 (messages.Answer 0 (answers.Granted (whole_grant 1 0 []))) ∷
    got 10 3 0 (messages.Request (tx 0 1 1) 1 1 wants.Prepare) ∷ Sends 12 3 (messages.Answer 10 (answers.Yes 0)) ∷
    Writes (prepare (tx 0 1 1) 1 [] ((own_line 1 0 3) ∷ []) []) ∷
    got 14 3 0 (messages.Decision (tx 0 1 1) (outcomes.Committed (stamp 1 0))) ∷ Writes (records.Done (tx 0 1 1) 1) ∷
    []

-- posts after its fall
abbrev pub posts_after_its_fall : List Deed
posts_after_its_fall =
    got 5 4 2 (messages.Request (tx 1 1 1) 1 0 (wants.Read (first_read 0 0))) ∷ Falls causes.Script None ∷
    Sends 8 4 (messages.Answer 5 (answers.Granted (whole_grant 1 0 []))) ∷ []

-- writes after its fall
abbrev pub writes_after_its_fall : List Deed
writes_after_its_fall =
    got 0 3 0 (messages.Request (tx 0 1 1) 1 0 (wants.Append 0 [] ((own_line 1 0 3) ∷ []))) ∷
    Sends 2 3 (messages.Answer 0 (answers.Granted (whole_grant 1 0 []))) ∷
    got 10 3 0 (messages.Request (tx 0 1 1) 1 1 wants.Prepare) ∷ Falls causes.Script None ∷
    Writes (prepare (tx 0 1 1) 1 [] ((own_line 1 0 3) ∷ []) []) ∷ []

-- falls by the script within a post
abbrev pub falls_within_a_post : List Deed
falls_within_a_post =
    got 0 3 0 (messages.Request (tx 0 1 1) 1 0 (wants.Append 0 [] ((own_line 1 0 3) ∷ []))) ∷
    Sends 2 3 (messages.Answer 0 (answers.Granted (whole_grant 1 0 []))) ∷
    got 10 3 0 (messages.Request (tx 0 1 1) 1 1 wants.Prepare) ∷
    Writes (prepare (tx 0 1 1) 1 [] ((own_line 1 0 3) ∷ []) []) ∷ Falls causes.Script None ∷
    Sends 12 3 (messages.Answer 10 (answers.Yes 0)) ∷
    got 14 3 0 (messages.Decision (tx 0 1 1) (outcomes.Committed (stamp 1 0))) ∷ Writes (records.Done (tx 0 1 1) 1) ∷
    []
