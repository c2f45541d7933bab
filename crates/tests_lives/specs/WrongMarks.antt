-- What sites tell wrong to who has a mark.
use Rattle.std.specs.Prelude.{List, [], ◌∷◌, None}
use Rattle.qc_msg.specs.declared.record.Record.TheVariants as records
use Rattle.qc_msg.specs.declared.step.Fall.TheVariants as causes
use Rattle.qc_msg.specs.Vocabulary.{Deed, Falls, Rises, Writes}
use Rattle.tests_lives.specs.MarkWords.{brings, first, grants, later, mark, one_came, reads, two_came}

-- counts lines in their order, not in that of their arrival
abbrev pub counts_in_line_order : List Deed
counts_in_line_order = two_came (reads 5 (mark 1 1 1) ∷ grants 6 5 1 5 (first ∷ []) 2 ∷ [])

-- tells all lines again
abbrev pub tells_all_again : List Deed
tells_all_again = two_came (reads 5 (mark 1 1 1) ∷ grants 6 5 1 5 (later ∷ first ∷ []) 2 ∷ [])

-- counts the lines that it tells, not those that came
abbrev pub counts_what_it_tells : List Deed
counts_what_it_tells = two_came (reads 5 (mark 1 1 1) ∷ grants 6 5 1 5 (later ∷ []) 1 ∷ [])

-- takes the mark for one line more
abbrev pub tells_one_line_too_few : List Deed
tells_one_line_too_few = two_came (reads 5 (mark 1 1 1) ∷ grants 6 5 1 5 [] 2 ∷ [])

-- believes a mark of another life
abbrev pub believes_a_mark_of_another_life : List Deed
believes_a_mark_of_another_life = two_came (reads 5 (mark 2 1 1) ∷ grants 6 5 1 5 (later ∷ []) 2 ∷ [])

-- believes a mark of another epoch
abbrev pub believes_a_mark_of_another_epoch : List Deed
believes_a_mark_of_another_epoch = two_came (reads 5 (mark 1 2 1) ∷ grants 6 5 1 5 (later ∷ []) 2 ∷ [])

-- believes a mark of more lines than came
abbrev pub believes_a_mark_of_more_lines : List Deed
believes_a_mark_of_more_lines = two_came (reads 5 (mark 1 1 3) ∷ grants 6 5 1 5 [] 2 ∷ [])

-- counts what came in its life before
abbrev pub counts_on_in_its_next_life : List Deed
counts_on_in_its_next_life =
    two_came (Falls causes.Script None ∷ Rises [] ∷ Writes records.Life ∷ reads 7 (mark 0 0 0) ∷ grants 8 7 2 0 [] 2
    ∷ [])

-- tells a count as it grants an Append
abbrev pub counts_for_a_granted_append : List Deed
counts_for_a_granted_append = one_came (brings 3 (later ∷ first ∷ []) ∷ grants 4 3 1 5 [] 2 ∷ [])

-- counts a line twice that came twice
abbrev pub counts_twice_what_came_twice : List Deed
counts_twice_what_came_twice = two_came (reads 5 (mark 0 0 0) ∷ grants 6 5 1 5 (later ∷ first ∷ []) 3 ∷ [])
