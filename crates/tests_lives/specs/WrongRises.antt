-- What sites do wrong as they rise.
use Rattle.std.specs.Prelude.{List, [], ◌∷◌, Some, None}
use Rattle.qc_msg.specs.declared.message.Answer.TheVariants as answers
use Rattle.qc_msg.specs.declared.message.Message.TheVariants as messages
use Rattle.qc_msg.specs.declared.message.Outcome.TheVariants as outcomes
use Rattle.qc_msg.specs.declared.message.Want.TheVariants as wants
use Rattle.qc_msg.specs.declared.record.Record.TheVariants as records
use Rattle.qc_msg.specs.declared.step.Fall.TheVariants as causes
use Rattle.qc_msg.specs.Vocabulary.{Deed, Falls, Rises, Sends, Writes}
use Rattle.qc_msg.specs.Vocabulary.{whole_grant, first_read}
use Rattle.tests_lives.specs.Words.{tx, stamp, own_line, read_lock, prepare, got}

-- writes Life twice as it rises
abbrev pub writes_life_twice_as_it_rises : List Deed
writes_life_twice_as_it_rises =
    got 1 3 1 (messages.Request (tx 0 1 1) 1 0 (wants.Append 0 [] ((own_line 1 0 3) ∷ []))) ∷
    Sends 3 3 (messages.Answer 1 (answers.Granted (whole_grant 1 0 []))) ∷ Falls causes.Script None ∷ Rises [] ∷
    Writes records.Life ∷ Writes records.Life
    ∷ got 4 4 1 (messages.Request (tx 1 1 1) 1 0 (wants.Read (first_read 0 0))) ∷
    Sends 6 4 (messages.Answer 4 (answers.Granted (whole_grant 3 0 []))) ∷ []

-- asks nobody about its promise
abbrev pub asks_nobody_about_its_promise : List Deed
asks_nobody_about_its_promise =
    got 1 3 1 (messages.Request (tx 0 1 1) 1 0 (wants.Append 0 [] ((own_line 1 0 3) ∷ []))) ∷
    Sends 3 3 (messages.Answer 1 (answers.Granted (whole_grant 1 0 []))) ∷
    got 4 4 1 (messages.Request (tx 1 1 1) 1 0 (wants.Read (first_read 0 0))) ∷
    Sends 6 4 (messages.Answer 4 (answers.Clash (tx 0 1 1) 0 3)) ∷ Sends 7 3 (messages.Inquiry (tx 0 1 1)) ∷
    got 9 3 1 (messages.Decision (tx 0 1 1) outcomes.Active) ∷
    got 11 3 1 (messages.Request (tx 0 1 1) 1 1 wants.Prepare) ∷
    Writes (prepare (tx 0 1 1) 1 [] ((own_line 1 0 3) ∷ []) []) ∷ Sends 13 3 (messages.Answer 11 (answers.Yes 0)) ∷
    Falls causes.Script None ∷ Rises ((prepare (tx 0 1 1) 1 [] ((own_line 1 0 3) ∷ []) []) ∷ []) ∷
    Writes records.Life ∷ []

-- asks about what it hasn't promised
abbrev pub asks_about_no_promise : List Deed
asks_about_no_promise =
    got 1 3 1 (messages.Request (tx 0 1 1) 1 0 (wants.Append 0 [] ((own_line 1 0 3) ∷ []))) ∷
    Sends 3 3 (messages.Answer 1 (answers.Granted (whole_grant 1 0 []))) ∷ Falls causes.Script None ∷ Rises [] ∷
    Writes records.Life ∷ Sends 4 3 (messages.Inquiry (tx 0 1 1)) ∷ []

-- asks twice
abbrev pub asks_twice : List Deed
asks_twice =
    got 1 3 1 (messages.Request (tx 0 1 1) 1 0 (wants.Append 0 [] ((own_line 1 0 3) ∷ []))) ∷
    Sends 3 3 (messages.Answer 1 (answers.Granted (whole_grant 1 0 []))) ∷
    got 4 4 1 (messages.Request (tx 1 1 1) 1 0 (wants.Read (first_read 0 0))) ∷
    Sends 6 4 (messages.Answer 4 (answers.Clash (tx 0 1 1) 0 3)) ∷ Sends 7 3 (messages.Inquiry (tx 0 1 1)) ∷
    got 9 3 1 (messages.Decision (tx 0 1 1) outcomes.Active) ∷
    got 11 3 1 (messages.Request (tx 0 1 1) 1 1 wants.Prepare) ∷
    Writes (prepare (tx 0 1 1) 1 [] ((own_line 1 0 3) ∷ []) []) ∷ Sends 13 3 (messages.Answer 11 (answers.Yes 0)) ∷
    Falls causes.Script None ∷ Rises ((prepare (tx 0 1 1) 1 [] ((own_line 1 0 3) ∷ []) []) ∷ []) ∷
    Writes records.Life ∷ Sends 14 3 (messages.Inquiry (tx 0 1 1)) ∷ Sends 15 3 (messages.Inquiry (tx 0 1 1)) ∷ []

-- asks before its Life record
abbrev pub asks_before_its_life_record : List Deed
asks_before_its_life_record =
    got 1 3 1 (messages.Request (tx 0 1 1) 1 0 (wants.Append 0 [] ((own_line 1 0 3) ∷ []))) ∷
    Sends 3 3 (messages.Answer 1 (answers.Granted (whole_grant 1 0 []))) ∷
    got 4 4 1 (messages.Request (tx 1 1 1) 1 0 (wants.Read (first_read 0 0))) ∷
    Sends 6 4 (messages.Answer 4 (answers.Clash (tx 0 1 1) 0 3)) ∷ Sends 7 3 (messages.Inquiry (tx 0 1 1)) ∷
    got 9 3 1 (messages.Decision (tx 0 1 1) outcomes.Active) ∷
    got 11 3 1 (messages.Request (tx 0 1 1) 1 1 wants.Prepare) ∷
    Writes (prepare (tx 0 1 1) 1 [] ((own_line 1 0 3) ∷ []) []) ∷ Sends 13 3 (messages.Answer 11 (answers.Yes 0)) ∷
    Falls causes.Script None ∷ Rises ((prepare (tx 0 1 1) 1 [] ((own_line 1 0 3) ∷ []) []) ∷ []) ∷
    Sends 14 3 (messages.Inquiry (tx 0 1 1)) ∷ Writes records.Life ∷ []

-- asks another client
abbrev pub asks_another_client : List Deed
asks_another_client =
    got 1 3 1 (messages.Request (tx 0 1 1) 1 0 (wants.Append 0 [] ((own_line 1 0 3) ∷ []))) ∷
    Sends 3 3 (messages.Answer 1 (answers.Granted (whole_grant 1 0 []))) ∷
    got 4 4 1 (messages.Request (tx 1 1 1) 1 0 (wants.Read (first_read 0 0))) ∷
    Sends 6 4 (messages.Answer 4 (answers.Clash (tx 0 1 1) 0 3)) ∷ Sends 7 3 (messages.Inquiry (tx 0 1 1)) ∷
    got 9 3 1 (messages.Decision (tx 0 1 1) outcomes.Active) ∷
    got 11 3 1 (messages.Request (tx 0 1 1) 1 1 wants.Prepare) ∷
    Writes (prepare (tx 0 1 1) 1 [] ((own_line 1 0 3) ∷ []) []) ∷ Sends 13 3 (messages.Answer 11 (answers.Yes 0)) ∷
    Falls causes.Script None ∷ Rises ((prepare (tx 0 1 1) 1 [] ((own_line 1 0 3) ∷ []) []) ∷ []) ∷
    Writes records.Life ∷ Sends 14 4 (messages.Inquiry (tx 0 1 1)) ∷ []

-- rises and writes no Life
abbrev pub writes_no_life : List Deed
writes_no_life =
    got 1 3 1 (messages.Request (tx 0 1 1) 1 0 (wants.Append 0 [] ((own_line 1 0 3) ∷ []))) ∷
    Sends 3 3 (messages.Answer 1 (answers.Granted (whole_grant 1 0 []))) ∷
    got 4 4 1 (messages.Request (tx 1 1 1) 1 0 (wants.Read (first_read 0 0))) ∷
    Sends 6 4 (messages.Answer 4 (answers.Clash (tx 0 1 1) 0 3)) ∷ Sends 7 3 (messages.Inquiry (tx 0 1 1)) ∷
    got 9 3 1 (messages.Decision (tx 0 1 1) outcomes.Active) ∷
    got 11 3 1 (messages.Request (tx 0 1 1) 1 1 wants.Prepare) ∷
    Writes (prepare (tx 0 1 1) 1 [] ((own_line 1 0 3) ∷ []) []) ∷ Sends 13 3 (messages.Answer 11 (answers.Yes 0)) ∷
    Falls causes.Script None ∷ Rises ((prepare (tx 0 1 1) 1 [] ((own_line 1 0 3) ∷ []) []) ∷ []) ∷
    Sends 14 3 (messages.Inquiry (tx 0 1 1)) ∷ []

-- forgets a promise by an abort that it took before its fall
abbrev pub forgets_by_an_old_abort : List Deed
forgets_by_an_old_abort =
    got 0 3 0 (messages.Request (tx 0 1 1) 1 0 (wants.Read (first_read 0 0))) ∷
    Sends 2 3 (messages.Answer 0 (answers.Granted (whole_grant 1 0 []))) ∷
    got 4 3 0 (messages.Request (tx 0 1 1) 1 1 (wants.Append 0 [] (own_line 1 0 0 ∷ []))) ∷
    Sends 6 3 (messages.Answer 4 (answers.Granted (whole_grant 1 0 []))) ∷
    got 8 3 0 (messages.Request (tx 0 1 1) 1 1 wants.Prepare) ∷
    Writes (prepare (tx 0 1 1) 1 (read_lock 0 0 ∷ []) (own_line 1 0 0 ∷ []) []) ∷
    Sends 10 3 (messages.Answer 8 (answers.Yes 0)) ∷ got 12 3 0 (messages.Decision (tx 0 1 1) outcomes.Aborted) ∷
    Falls causes.Script None ∷ Rises ((prepare (tx 0 1 1) 1 ((read_lock 0 0) ∷ []) ((own_line 1 0 0) ∷ []) []) ∷ []) ∷
    Writes records.Life ∷ []

-- a pending promise rises and isn't seen
abbrev pub pending_promise_not_seen : List Deed
pending_promise_not_seen =
    got 1 3 1 (messages.Request (tx 0 1 1) 1 0 (wants.Read (first_read 0 0))) ∷
    Sends 3 3 (messages.Answer 1 (answers.Granted (whole_grant 1 0 []))) ∷
    got 5 3 1 (messages.Request (tx 0 1 1) 1 1 (wants.Append 0 [] (own_line 1 0 0 ∷ []))) ∷
    Sends 7 3 (messages.Answer 5 (answers.Granted (whole_grant 1 0 []))) ∷
    got 9 3 1 (messages.Request (tx 0 1 1) 1 1 wants.Prepare) ∷ Sends 11 3 (messages.Answer 9 answers.Fault) ∷
    Falls causes.Disk (Some (prepare (tx 0 1 1) 1 (read_lock 0 0 ∷ []) (own_line 1 0 0 ∷ []) [])) ∷
    Rises ((prepare (tx 0 1 1) 1 ((read_lock 0 0) ∷ []) ((own_line 1 0 0) ∷ []) []) ∷ []) ∷ Writes records.Life ∷ []

-- a pending promise doesn't rise and is seen
abbrev pub lost_promise_seen : List Deed
lost_promise_seen =
    got 1 3 1 (messages.Request (tx 0 1 1) 1 0 (wants.Read (first_read 0 0))) ∷
    Sends 3 3 (messages.Answer 1 (answers.Granted (whole_grant 1 0 []))) ∷
    got 5 3 1 (messages.Request (tx 0 1 1) 1 1 (wants.Append 0 [] (own_line 1 0 0 ∷ []))) ∷
    Sends 7 3 (messages.Answer 5 (answers.Granted (whole_grant 1 0 []))) ∷
    got 9 3 1 (messages.Request (tx 0 1 1) 1 1 wants.Prepare) ∷ Sends 11 3 (messages.Answer 9 answers.Fault) ∷
    Falls causes.Disk (Some (prepare (tx 0 1 1) 1 (read_lock 0 0 ∷ []) (own_line 1 0 0 ∷ []) [])) ∷ Rises [] ∷
    Writes records.Life ∷ Sends 12 3 (messages.Inquiry (tx 0 1 1)) ∷ []

-- a pending Done rises and isn't seen
abbrev pub pending_done_not_seen : List Deed
pending_done_not_seen =
    got 1 3 1 (messages.Request (tx 0 1 1) 1 0 (wants.Append 0 [] ((own_line 1 0 3) ∷ []))) ∷
    Sends 3 3 (messages.Answer 1 (answers.Granted (whole_grant 1 0 []))) ∷
    got 4 4 1 (messages.Request (tx 1 1 1) 1 0 (wants.Read (first_read 0 0))) ∷
    Sends 6 4 (messages.Answer 4 (answers.Clash (tx 0 1 1) 0 3)) ∷ Sends 7 3 (messages.Inquiry (tx 0 1 1)) ∷
    got 9 3 1 (messages.Decision (tx 0 1 1) outcomes.Active) ∷
    got 11 3 1 (messages.Request (tx 0 1 1) 1 1 wants.Prepare) ∷
    Writes (prepare (tx 0 1 1) 1 [] ((own_line 1 0 3) ∷ []) []) ∷ Sends 13 3 (messages.Answer 11 (answers.Yes 0)) ∷
    got 15 3 1 (messages.Decision (tx 0 1 1) (outcomes.Committed (stamp 1 0))) ∷
    Falls causes.Stop (Some (records.Done (tx 0 1 1) 1)) ∷
    Rises ((prepare (tx 0 1 1) 1 [] ((own_line 1 0 3) ∷ []) []) ∷ (records.Done (tx 0 1 1) 1) ∷ []) ∷
    Writes records.Life ∷ Sends 16 3 (messages.Inquiry (tx 0 1 1)) ∷ []

-- a pending Done doesn't rise and is seen
abbrev pub lost_done_seen : List Deed
lost_done_seen =
    got 1 3 1 (messages.Request (tx 0 1 1) 1 0 (wants.Append 0 [] ((own_line 1 0 3) ∷ []))) ∷
    Sends 3 3 (messages.Answer 1 (answers.Granted (whole_grant 1 0 []))) ∷
    got 4 4 1 (messages.Request (tx 1 1 1) 1 0 (wants.Read (first_read 0 0))) ∷
    Sends 6 4 (messages.Answer 4 (answers.Clash (tx 0 1 1) 0 3)) ∷ Sends 7 3 (messages.Inquiry (tx 0 1 1)) ∷
    got 9 3 1 (messages.Decision (tx 0 1 1) outcomes.Active) ∷
    got 11 3 1 (messages.Request (tx 0 1 1) 1 1 wants.Prepare) ∷
    Writes (prepare (tx 0 1 1) 1 [] ((own_line 1 0 3) ∷ []) []) ∷ Sends 13 3 (messages.Answer 11 (answers.Yes 0)) ∷
    got 15 3 1 (messages.Decision (tx 0 1 1) (outcomes.Committed (stamp 1 0))) ∷
    Falls causes.Stop (Some (records.Done (tx 0 1 1) 1)) ∷
    Rises ((prepare (tx 0 1 1) 1 [] ((own_line 1 0 3) ∷ []) []) ∷ []) ∷ Writes records.Life ∷ []

-- asks about two promises in the order of the promises
abbrev pub asks_in_order_of_promises : List Deed
asks_in_order_of_promises =
    got 1 3 1 (messages.Request (tx 0 1 1) 1 0 (wants.Append 0 [] ((own_line 1 0 3) ∷ []))) ∷
    Sends 3 3 (messages.Answer 1 (answers.Granted (whole_grant 1 0 []))) ∷
    got 4 4 1 (messages.Request (tx 1 1 1) 1 0 (wants.Append 0 [] ((own_line 1 0 3) ∷ []))) ∷
    Sends 6 4 (messages.Answer 4 (answers.Granted (whole_grant 1 0 []))) ∷
    got 8 4 1 (messages.Request (tx 1 1 1) 1 1 wants.Prepare) ∷
    Writes (prepare (tx 1 1 1) 1 [] ((own_line 1 0 3) ∷ []) []) ∷ Sends 10 4 (messages.Answer 8 (answers.Yes 0)) ∷
    got 12 3 1 (messages.Request (tx 0 1 1) 1 1 wants.Prepare) ∷
    Writes (prepare (tx 0 1 1) 1 [] ((own_line 1 0 3) ∷ []) []) ∷ Sends 13 3 (messages.Answer 12 (answers.Yes 0)) ∷
    Falls causes.Script None ∷
    Rises ((prepare (tx 1 1 1) 1 [] ((own_line 1 0 3) ∷ []) []) ∷ (prepare (tx 0 1 1) 1 [] ((own_line 1 0 3) ∷ []) [])
    ∷ []) ∷
    Writes records.Life ∷ Sends 14 4 (messages.Inquiry (tx 1 1 1)) ∷ Sends 15 3 (messages.Inquiry (tx 0 1 1)) ∷ []

-- asks about one of two promises
abbrev pub asks_about_one_of_two : List Deed
asks_about_one_of_two =
    got 1 3 1 (messages.Request (tx 0 1 1) 1 0 (wants.Append 0 [] ((own_line 1 0 3) ∷ []))) ∷
    Sends 3 3 (messages.Answer 1 (answers.Granted (whole_grant 1 0 []))) ∷
    got 4 4 1 (messages.Request (tx 1 1 1) 1 0 (wants.Append 0 [] ((own_line 1 0 3) ∷ []))) ∷
    Sends 6 4 (messages.Answer 4 (answers.Granted (whole_grant 1 0 []))) ∷
    got 8 4 1 (messages.Request (tx 1 1 1) 1 1 wants.Prepare) ∷
    Writes (prepare (tx 1 1 1) 1 [] ((own_line 1 0 3) ∷ []) []) ∷ Sends 10 4 (messages.Answer 8 (answers.Yes 0)) ∷
    got 12 3 1 (messages.Request (tx 0 1 1) 1 1 wants.Prepare) ∷
    Writes (prepare (tx 0 1 1) 1 [] ((own_line 1 0 3) ∷ []) []) ∷ Sends 13 3 (messages.Answer 12 (answers.Yes 0)) ∷
    Falls causes.Script None ∷
    Rises ((prepare (tx 1 1 1) 1 [] ((own_line 1 0 3) ∷ []) []) ∷ (prepare (tx 0 1 1) 1 [] ((own_line 1 0 3) ∷ []) [])
    ∷ []) ∷
    Writes records.Life ∷ Sends 14 3 (messages.Inquiry (tx 0 1 1)) ∷ []
