-- What is due of sites that fall and rise, the neighbours of the wrong ones.
use Rattle.std.specs.Prelude.{List, [], ◌∷◌, Some, None}
use Rattle.qc_msg.specs.declared.message.Answer.TheVariants as answers
use Rattle.qc_msg.specs.declared.message.Message.TheVariants as messages
use Rattle.qc_msg.specs.declared.message.Outcome.TheVariants as outcomes
use Rattle.qc_msg.specs.declared.message.Want.TheVariants as wants
use Rattle.qc_msg.specs.declared.record.Record.TheVariants as records
use Rattle.qc_msg.specs.declared.step.Fall.TheVariants as causes
use Rattle.qc_msg.specs.Vocabulary.{Deed, Falls, Rises, Sends, Writes}
use Rattle.qc_msg.specs.Vocabulary.{whole_grant, first_read}
use Rattle.tests_lives.specs.Words.{tx, own_line, read_lock, prepare, got}

-- lets go of what it held without a promise
abbrev pub lets_go_of_what_it_held : List Deed
lets_go_of_what_it_held =
    got 1 3 1 (messages.Request (tx 0 1 1) 1 0 (wants.Append 0 [] ((own_line 1 0 3) ∷ []))) ∷
    Sends 3 3 (messages.Answer 1 (answers.Granted (whole_grant 1 0 []))) ∷ Falls causes.Script None ∷ Rises [] ∷
    Writes records.Life ∷ got 4 4 1 (messages.Request (tx 1 1 1) 1 0 (wants.Read (first_read 0 0))) ∷
    Sends 6 4 (messages.Answer 4 (answers.Granted (whole_grant 2 0 []))) ∷ []

-- keeps what it promised, and asks
abbrev pub keeps_what_it_promised : List Deed
keeps_what_it_promised =
    got 1 3 1 (messages.Request (tx 0 1 1) 1 0 (wants.Append 0 [] ((own_line 1 0 3) ∷ []))) ∷
    Sends 3 3 (messages.Answer 1 (answers.Granted (whole_grant 1 0 []))) ∷
    got 4 4 1 (messages.Request (tx 1 1 1) 1 0 (wants.Read (first_read 0 0))) ∷
    Sends 6 4 (messages.Answer 4 (answers.Clash (tx 0 1 1) 0 3)) ∷ Sends 7 3 (messages.Inquiry (tx 0 1 1)) ∷
    got 9 3 1 (messages.Decision (tx 0 1 1) outcomes.Active) ∷
    got 11 3 1 (messages.Request (tx 0 1 1) 1 1 wants.Prepare) ∷
    Writes (prepare (tx 0 1 1) 1 [] ((own_line 1 0 3) ∷ []) []) ∷ Sends 13 3 (messages.Answer 11 (answers.Yes 0)) ∷
    Falls causes.Script None ∷ Rises ((prepare (tx 0 1 1) 1 [] ((own_line 1 0 3) ∷ []) []) ∷ []) ∷
    Writes records.Life ∷ Sends 14 3 (messages.Inquiry (tx 0 1 1)) ∷
    got 15 4 1 (messages.Request (tx 1 1 1) 1 0 (wants.Read (first_read 0 0))) ∷
    Sends 17 4 (messages.Answer 15 (answers.Clash (tx 0 1 1) 0 3)) ∷ Sends 18 3 (messages.Inquiry (tx 0 1 1)) ∷ []

-- falls as it writes Life
abbrev pub falls_as_it_writes_life : List Deed
falls_as_it_writes_life =
    got 1 3 1 (messages.Request (tx 0 1 1) 1 0 (wants.Append 0 [] ((own_line 1 0 3) ∷ []))) ∷
    Sends 3 3 (messages.Answer 1 (answers.Granted (whole_grant 1 0 []))) ∷
    got 4 4 1 (messages.Request (tx 1 1 1) 1 0 (wants.Read (first_read 0 0))) ∷
    Sends 6 4 (messages.Answer 4 (answers.Clash (tx 0 1 1) 0 3)) ∷ Sends 7 3 (messages.Inquiry (tx 0 1 1)) ∷
    got 9 3 1 (messages.Decision (tx 0 1 1) outcomes.Active) ∷
    got 11 3 1 (messages.Request (tx 0 1 1) 1 1 wants.Prepare) ∷
    Writes (prepare (tx 0 1 1) 1 [] ((own_line 1 0 3) ∷ []) []) ∷ Sends 13 3 (messages.Answer 11 (answers.Yes 0)) ∷
    Falls causes.Script None ∷ Rises ((prepare (tx 0 1 1) 1 [] ((own_line 1 0 3) ∷ []) []) ∷ []) ∷
    Falls causes.Disk (Some records.Life) ∷ []

-- falls as it writes Life, which rises: life 3
abbrev pub fallen_life_rises : List Deed
fallen_life_rises =
    got 1 3 1 (messages.Request (tx 0 1 1) 1 0 (wants.Append 0 [] ((own_line 1 0 3) ∷ []))) ∷
    Sends 3 3 (messages.Answer 1 (answers.Granted (whole_grant 1 0 []))) ∷ Falls causes.Script None ∷ Rises [] ∷
    Falls causes.Disk (Some records.Life) ∷ Rises (records.Life ∷ []) ∷ Writes records.Life ∷
    got 4 4 1 (messages.Request (tx 1 1 1) 1 0 (wants.Read (first_read 0 0))) ∷
    Sends 6 4 (messages.Answer 4 (answers.Granted (whole_grant 3 0 []))) ∷ []

-- falls as it writes Life, which doesn't rise: life 2
abbrev pub fallen_life_is_lost : List Deed
fallen_life_is_lost =
    got 1 3 1 (messages.Request (tx 0 1 1) 1 0 (wants.Append 0 [] ((own_line 1 0 3) ∷ []))) ∷
    Sends 3 3 (messages.Answer 1 (answers.Granted (whole_grant 1 0 []))) ∷ Falls causes.Script None ∷ Rises [] ∷
    Falls causes.Disk (Some records.Life) ∷ Rises [] ∷ Writes records.Life ∷
    got 4 4 1 (messages.Request (tx 1 1 1) 1 0 (wants.Read (first_read 0 0))) ∷
    Sends 6 4 (messages.Answer 4 (answers.Granted (whole_grant 2 0 []))) ∷ []

-- its promise rises again after an abort that it took before
abbrev pub promise_rises_after_an_abort : List Deed
promise_rises_after_an_abort =
    got 0 3 0 (messages.Request (tx 0 1 1) 1 0 (wants.Read (first_read 0 0))) ∷
    Sends 2 3 (messages.Answer 0 (answers.Granted (whole_grant 1 0 []))) ∷
    got 4 3 0 (messages.Request (tx 0 1 1) 1 1 (wants.Append 0 [] (own_line 1 0 0 ∷ []))) ∷
    Sends 6 3 (messages.Answer 4 (answers.Granted (whole_grant 1 0 []))) ∷
    got 8 3 0 (messages.Request (tx 0 1 1) 1 1 wants.Prepare) ∷
    Writes (prepare (tx 0 1 1) 1 (read_lock 0 0 ∷ []) (own_line 1 0 0 ∷ []) []) ∷
    Sends 10 3 (messages.Answer 8 (answers.Yes 0)) ∷ got 12 3 0 (messages.Decision (tx 0 1 1) outcomes.Aborted) ∷
    Falls causes.Script None ∷ Rises ((prepare (tx 0 1 1) 1 ((read_lock 0 0) ∷ []) ((own_line 1 0 0) ∷ []) []) ∷ []) ∷
    Writes records.Life ∷ Sends 14 3 (messages.Inquiry (tx 0 1 1)) ∷ []

-- a pending promise rises, and it asks
abbrev pub pending_promise_rises : List Deed
pending_promise_rises =
    got 1 3 1 (messages.Request (tx 0 1 1) 1 0 (wants.Read (first_read 0 0))) ∷
    Sends 3 3 (messages.Answer 1 (answers.Granted (whole_grant 1 0 []))) ∷
    got 5 3 1 (messages.Request (tx 0 1 1) 1 1 (wants.Append 0 [] (own_line 1 0 0 ∷ []))) ∷
    Sends 7 3 (messages.Answer 5 (answers.Granted (whole_grant 1 0 []))) ∷
    got 9 3 1 (messages.Request (tx 0 1 1) 1 1 wants.Prepare) ∷ Sends 11 3 (messages.Answer 9 answers.Fault) ∷
    Falls causes.Disk (Some (prepare (tx 0 1 1) 1 (read_lock 0 0 ∷ []) (own_line 1 0 0 ∷ []) [])) ∷
    Rises ((prepare (tx 0 1 1) 1 ((read_lock 0 0) ∷ []) ((own_line 1 0 0) ∷ []) []) ∷ []) ∷ Writes records.Life ∷
    Sends 12 3 (messages.Inquiry (tx 0 1 1)) ∷ []

-- a pending promise doesn't rise
abbrev pub pending_promise_is_lost : List Deed
pending_promise_is_lost =
    got 1 3 1 (messages.Request (tx 0 1 1) 1 0 (wants.Read (first_read 0 0))) ∷
    Sends 3 3 (messages.Answer 1 (answers.Granted (whole_grant 1 0 []))) ∷
    got 5 3 1 (messages.Request (tx 0 1 1) 1 1 (wants.Append 0 [] (own_line 1 0 0 ∷ []))) ∷
    Sends 7 3 (messages.Answer 5 (answers.Granted (whole_grant 1 0 []))) ∷
    got 9 3 1 (messages.Request (tx 0 1 1) 1 1 wants.Prepare) ∷ Sends 11 3 (messages.Answer 9 answers.Fault) ∷
    Falls causes.Disk (Some (prepare (tx 0 1 1) 1 (read_lock 0 0 ∷ []) (own_line 1 0 0 ∷ []) [])) ∷ Rises [] ∷
    Writes records.Life ∷ []

-- its disk stops, and it says nothing
abbrev pub stops_without_a_word : List Deed
stops_without_a_word =
    got 1 3 1 (messages.Request (tx 0 1 1) 1 0 (wants.Read (first_read 0 0))) ∷
    Sends 3 3 (messages.Answer 1 (answers.Granted (whole_grant 1 0 []))) ∷
    got 5 3 1 (messages.Request (tx 0 1 1) 1 1 (wants.Append 0 [] (own_line 1 0 0 ∷ []))) ∷
    Sends 7 3 (messages.Answer 5 (answers.Granted (whole_grant 1 0 []))) ∷
    got 9 3 1 (messages.Request (tx 0 1 1) 1 1 wants.Prepare) ∷
    Falls causes.Stop (Some (prepare (tx 0 1 1) 1 ((read_lock 0 0) ∷ []) ((own_line 1 0 0) ∷ []) [])) ∷ []
