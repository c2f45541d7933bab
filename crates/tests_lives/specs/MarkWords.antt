-- Short spellings of Reads with marks, and what came before them: a line with the stamp 5, then one with the stamp 2.
use Rattle.std.specs.Prelude.{ℕ, List, [], ◌∷◌}
use Rattle.qc_entry.specs.declared.line.Line.{Line}
use Rattle.qc_entry.specs.declared.mark.Mark.{Mark}
use Rattle.qc_msg.specs.declared.message.Answer.TheVariants as answers
use Rattle.qc_msg.specs.declared.message.Message.TheVariants as messages
use Rattle.qc_msg.specs.declared.message.Want.TheVariants as wants
use Rattle.qc_msg.specs.Vocabulary.{Deed, Sends, grant_with, read_of}
use Rattle.tests_lives.specs.Words.{tx, line, got}

abbrev pub mark : ℕ → ℕ → ℕ → Mark
mark life epoch count = record { life = life; epoch = epoch; count = count }

abbrev pub first : Line
first = line 5 1 1 1 1 0 3

abbrev pub later : Line
later = line 2 2 1 1 1 0 2

-- client 0 reads the register, by a request of this number with this mark; it brings lines, with no own line
abbrev pub reads : ℕ → Mark → Deed
reads number mark = got number 3 1 (messages.Request (tx 0 1 1) 1 0 (wants.Read (read_of 0 0 mark)))

abbrev pub brings : ℕ → List Line → Deed
brings number view = got number 3 1 (messages.Request (tx 0 1 1) 1 0 (wants.Append 0 view []))

-- the request is granted, with this life, clock, log and count
abbrev pub grants : ℕ → ℕ → ℕ → ℕ → List Line → ℕ → Deed
grants number to life clock log count =
    Sends number 3 (messages.Answer to (answers.Granted (grant_with life clock log count)))

abbrev pub one_came : List Deed → List Deed
one_came more = brings 1 (first ∷ []) ∷ grants 2 1 1 5 [] 0 ∷ more

abbrev pub two_came : List Deed → List Deed
two_came more = one_came (brings 3 (later ∷ first ∷ []) ∷ grants 4 3 1 5 [] 0 ∷ more)
