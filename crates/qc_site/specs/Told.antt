-- What a turn answers, the answer in its first message, and what it writes of epochs.
use Rattle.std.specs.Prelude.{[], Bool, true, false, List, ◌∷◌, Option, Some, None, is_some, option_map}
use Rattle.std.specs.Option.{option_map_or}
use Rattle.qc_msg.specs.declared.message.Answer.{Answer}
use Rattle.qc_msg.specs.declared.message.Answer.TheVariants as answers
use Rattle.qc_msg.specs.declared.record.Record.{Record}
use Rattle.qc_msg.specs.declared.turn.Posting.{Posting}
use Rattle.qc_msg.specs.declared.turn.Turn.{Turn}
use Rattle.qc_msg.specs.Vocabulary.{Answered, answer_in, close_in, granted_in, install_in, promised_in}

abbrev pub first_answer : List Posting → Option Answer
first_answer [] = None
first_answer (p ∷ ps) = option_map (λ (a : Answered). a.answer) (answer_in p.message)

abbrev pub answer_of : Turn → Option Answer
answer_of turn = first_answer turn.sends

-- whether an answer grants, and whether it refuses what was asked

abbrev pub is_grant : Answer → Bool
is_grant answer = is_some (granted_in answer)

abbrev pub is_refusal : Answer → Bool
is_refusal (answers.Granted grant) = false
is_refusal (answers.Clash holder inv event) = true
is_refusal (answers.Closed epoch) = true
is_refusal (answers.Behind epoch) = true
is_refusal (answers.Restarted life) = true
is_refusal answers.Stale = true
is_refusal answers.Fault = true
is_refusal (answers.Yes clock) = false
is_refusal (answers.Shut snapshot) = false
is_refusal answers.Installed = false
is_refusal (answers.Answered verdict) = false

abbrev pub is_vote : Answer → Bool
is_vote answer = is_some (promised_in answer)

-- whether there is an answer that passes a test
abbrev pub passes : (Answer → Bool) → Option Answer → Bool
passes test None = false
passes test (Some answer) = test answer

abbrev pub grants_in : Turn → Bool
grants_in turn = passes is_grant (answer_of turn)

abbrev pub refuses_in : Turn → Bool
refuses_in turn = passes is_refusal (answer_of turn)

abbrev pub votes_in : Turn → Bool
votes_in turn = passes is_vote (answer_of turn)

-- whether it closes the site's epoch, and whether it begins another

abbrev pub closes_in : Turn → Bool
closes_in turn = option_map_or (λ (r : Record). is_some (close_in r)) turn.write false

abbrev pub installs_in : Turn → Bool
installs_in turn = option_map_or (λ (r : Record). is_some (install_in r)) turn.write false
