-- What a site tells of an object to who has a mark, the neighbours of the wrong ones.
use Rattle.std.specs.Prelude.{List, [], ◌∷◌, None}
use Rattle.qc_msg.specs.declared.record.Record.TheVariants as records
use Rattle.qc_msg.specs.declared.step.Fall.TheVariants as causes
use Rattle.qc_msg.specs.Vocabulary.{Deed, Falls, Rises, Writes}
use Rattle.tests_lives.specs.MarkWords.{first, grants, later, mark, reads, two_came}

-- what came behind the mark is told, and how much came
abbrev pub tells_from_the_mark_on : List Deed
tells_from_the_mark_on = two_came (reads 5 (mark 1 1 1) ∷ grants 6 5 1 5 (later ∷ []) 2 ∷ [])

-- a client that was told all lacks nothing
abbrev pub tells_nothing_new : List Deed
tells_nothing_new = two_came (reads 5 (mark 1 1 2) ∷ grants 6 5 1 5 [] 2 ∷ [])

-- a mark of another life tells nothing
abbrev pub tells_all_to_a_mark_of_another_life : List Deed
tells_all_to_a_mark_of_another_life = two_came (reads 5 (mark 2 1 1) ∷ grants 6 5 1 5 (later ∷ first ∷ []) 2 ∷ [])

-- nor does one of another epoch
abbrev pub tells_all_to_a_mark_of_another_epoch : List Deed
tells_all_to_a_mark_of_another_epoch = two_came (reads 5 (mark 1 2 1) ∷ grants 6 5 1 5 (later ∷ first ∷ []) 2 ∷ [])

-- nor one of more lines than came
abbrev pub tells_all_to_a_mark_of_more_lines : List Deed
tells_all_to_a_mark_of_more_lines = two_came (reads 5 (mark 1 1 3) ∷ grants 6 5 1 5 (later ∷ first ∷ []) 2 ∷ [])

-- lines of views are lost at a rise, and so is their count
abbrev pub counts_anew_in_its_next_life : List Deed
counts_anew_in_its_next_life =
    two_came (Falls causes.Script None ∷ Rises [] ∷ Writes records.Life ∷ reads 7 (mark 1 1 1) ∷ grants 8 7 2 0 [] 0
    ∷ [])
