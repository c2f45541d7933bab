-- The messages of his last turn have the numbers from one on: what `sent_one` of `qc_epoch` makes of them one after
-- another.
use Rattle.std.specs.Prelude.{ℕ, zero, suc, ◌+◌, Bool, if◌then◌else◌, List, [], ◌∷◌, length, take, is_none}
use Rattle.std.specs.List.{list_all}
use Rattle.qc_msg.specs.declared.turn.Posting.{Posting}
use Rattle.qc_msg.specs.Vocabulary.{numbered_from}
use Rattle.qc_epoch.specs.Vocabulary.{Admin, Asking, Closing, Doing, Installing, Question, Resting, doing, most_asks}
use Rattle.qc_epoch.specs.Vocabulary.{numbered_first, sent_one}
use Rattle.qc_front.specs.Vocabulary.{awaited}

-- so many questions get numbers, one after another from this one on
abbrev pub numbered_all : ℕ → ℕ → List Question → List Question
numbered_all zero number questions = questions
numbered_all (suc count) number questions = numbered_all count (number + 1) (numbered_first questions number)

-- no question has a number yet
abbrev pub is_unasked : List Question → Bool
is_unasked questions = list_all (λ (q : Question). is_none q.number) questions

-- Asks went out in the last turn where no question has a number
abbrev pub with_numbers : List Question → ℕ → List Question
with_numbers questions first =
    if is_unasked questions then numbered_all (length (take most_asks questions)) first questions else questions

-- and Closes, or Installs, where no request is open: to the asked sites that aren't noted, or to all
abbrev pub numbered : Doing → ℕ → Doing
numbered Resting first = Resting
numbered (Closing epoch calls round shuts) first =
    Closing epoch (numbered_from calls (awaited round) first) round shuts
numbered (Asking epoch shuts questions) first = Asking epoch shuts (with_numbers questions first)
numbered (Installing closed awaits calls installed) first =
    Installing closed awaits (numbered_from calls awaits first) installed

abbrev pub sent : Admin → ℕ → Admin
sent m first = doing m (numbered m.doing first)

-- each message gets its number as it is sent
abbrev pub sent_each : Admin → ℕ → List Posting → Admin
sent_each m number [] = m
sent_each m number (p ∷ ps) = sent_each (sent_one m number p.to p.message) (number + 1) ps
